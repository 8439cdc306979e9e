-- The loop over an outline: what holds before each field, from its beginning to its end.
-- Assumes nothing.
use Prim.Native.Nat.{ℕ, zero, suc, ◌+◌, ◌*◌, ◌-◌, ◌/◌, ◌≤◌}
use mathlib.Core.Path.{◌≡◌, refl, sym, subst, ◌∙◌}
use mathlib.Core.List.{List, [], ◌∷◌}
use native.Mathlib.Omega.{arith}
use Rattle.format.specs.Terms.{Term, size, fields}
use Rattle.tactics.specs.Memory.{Same}
use Rattle.outline.specs.Layout.{sizes_end, most_size}
use Rattle.outline.specs.Memory.{Around}
use Rattle.outline.specs.Built.{Built, B-End, B-Atomic, B-Identity, B-Label, B-Sequence, B-Tensor, B-Empty}
use Rattle.outline.specs.Held.{AllStand, Stacked, Shown, FieldGiven}
use Rattle.outline.specs.Whole.{Outlined, HiproofWritten}
use Rattle.outline.proofs.OutlineLaws.{outline_fields, outline_size}
use Rattle.outline.proofs.AroundLaws.{around_nothing, around_then}
use Rattle.outline.proofs.BuiltLaws.{Some, built_few, built_on, built_kept, outlined_built}

-- so many bytes of the outline are left, and the terms of the fields behind them are held
pub record Turn (w₀ w : List ℕ) (count end at front low last : ℕ) : Type 0 where
  pub left : ℕ
  pub left_is : at ≡ 3 * left
  pub inside : at ≤ count
  pub within : front ≤ end
  pub around : Around front end w₀ w
  pub shown : (ts : List Term) → Built w count at ts → Shown w end ts front low last

nothing_shown : (w : List ℕ) (count end at : ℕ) {ts : List Term} → Built w count at ts → at ≡ count → Shown w end ts end sizes_end 0
unfolding AllStand Stacked
nothing_shown w count end at (B-End e) h = record { stand = refl; stacked = refl }
nothing_shown w count end at (B-Atomic t v i) h = absurd (omega (arith, built_few w count i))
nothing_shown w count end at (B-Identity t i) h = absurd (omega (arith, built_few w count i))
nothing_shown w count end at (B-Label t v i) h = absurd (omega (arith, built_few w count i))
nothing_shown w count end at (B-Sequence t i) h = absurd (omega (arith, built_few w count i))
nothing_shown w count end at (B-Tensor t i) h = absurd (omega (arith, built_few w count i))
nothing_shown w count end at (B-Empty t i) h = absurd (omega (arith, built_few w count i))

module _ (w₀ : List ℕ) (count end : ℕ) (p : Term) (x : Outlined w₀ count end p) where
  whole_fields : count ≡ 3 * fields p
  whole_fields = sym x.length_is ∙ outline_fields p x.hiproof

  pub turn-start : Turn w₀ w₀ count end (count / 3 * 3) end sizes_end 0
  turn-start = record {
    left = count / 3;
    left_is = omega arith;
    inside = omega arith;
    within = omega arith;
    around = around_nothing w₀ end end;
    shown = λ ts b. nothing_shown w₀ count end (count / 3 * 3) b (omega (arith, whole_fields));
  }

  module _ (w : List ℕ) (at front low last : ℕ) (t : Turn w₀ w count end at front low last) where
    -- the whole outline is still there
    whole : Built w count 0 (p ∷ [])
    whole = built_kept w₀ count w (λ i l r. t.around.outline i l (omega (arith, x.few))) (outlined_built w₀ count p x.hiproof x.bytes_are x.length_is)

    terms_from : (n next : ℕ) → at ≡ 3 * n → next + 3 ≡ at → Some w count next
    terms_from zero next e h = absurd (omega arith)
    terms_from (suc k) next e h = let i : 0 + 3 * k ≡ next = omega arith in subst (Some w count) i (built_on w count k whole (omega (arith, t.inside)))

    pub turn_given : (next : ℕ) → next + 3 ≡ at → FieldGiven w count end next front low last
    turn_given next h =
        let s = terms_from t.left next t.left_is h in
        record {
          terms = s.terms;
          built = s.built;
          held = λ ts b. t.shown ts (subst (λ (i : ℕ). Built w count i ts) h b);
          more = omega (arith, t.inside);
          few = x.few;
          room = x.room;
          inside = omega (arith, x.inside, t.around.same_length);
        }

    pub turn_again : (v : List ℕ) (next front' low' last' : ℕ) → next + 3 ≡ at → (FieldGiven w count end next front low last → (ts : List Term) → Built w count next ts → Shown v end ts front' low' last') → front' ≤ front → Around front' front w v
        → Turn w₀ v count end next front' low' last'
    turn_again v next front' low' last' h shown before around = record {
      left = t.left - 1;
      left_is = omega (arith, t.left_is);
      inside = omega (arith, t.inside);
      within = omega (arith, t.within);
      around = around_then w₀ w v front end front' front front' end t.around around before (omega arith) (omega arith) t.within;
      shown = λ ts b. shown (turn_given next h) ts (built_kept v count w (λ i l r. sym (around.outline i l (omega (arith, x.few)))) b);
    }

    pub turn_end : at ≡ 0 → HiproofWritten w₀ w front end p
    unfolding AllStand
    turn_end e =
        let s = (t.shown (p ∷ []) (subst (λ (i : ℕ). Built w count i (p ∷ [])) (sym e) whole)).stand in
        record { stands = s.0; ends = s.1; around = t.around }

-- a hiproof with an outline of 4,096 fields at most begins at most so many bytes before its end: everything before that is as it was
pub size_fits : (w : List ℕ) (count end : ℕ) (p : Term) → Outlined w count end p → size p ≤ most_size
size_fits w count end p x = omega (arith, outline_size p x.hiproof, x.length_is, x.few)

pub before_written : (w v : List ℕ) (count start end : ℕ) (p : Term) → Outlined w count end p → HiproofWritten w v start end p → Same sizes_end (end - most_size) w v
before_written w v count start end p x h i l r = h.around.between i l (omega (arith, size_fits w count end p x, h.ends))
