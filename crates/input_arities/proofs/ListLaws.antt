-- The arities of the tensors' left terms, listed from the first field to the last: once those of the fields from a place on are listed, so are all.
-- Assumes nothing.
use mathlib.Core.Path.{◌≡◌, refl, sym, subst, ap, ◌∙◌}
use mathlib.Core.List.{List, [], ◌∷◌}
use Prim.Native.Nat.{ℕ, ◌+◌, ◌*◌, ◌≤◌, ◌<◌}
use native.Mathlib.Omega.{arith}
use lib.ListN.{length, get_or}
use Rattle.words.specs.Word.{word, put_word}
use Rattle.words.specs.Kept.{Kept}
use Rattle.words.proofs.WordLaws.{word_same}
use Rattle.words.proofs.KeptLaws.{kept_put, kept_same, kept_both, word_below}
use Rattle.format.specs.Limits.{most_term_fields}
use Rattle.format.specs.Terms.{Term, atomic, id, label, sequence, tensor, empty, alternation, assert, defined, size, fields}
use Rattle.format.specs.Standing.{Stands}
use Rattle.format.proofs.StandsLaws.{tag_of, known}
use Rattle.format.proofs.ByTag.{by_tag}
use Rattle.input_arities.specs.Layout.{stack_end, frames_end, arities_end}
use Rattle.input_arities.specs.Arities.{arities, Listed, Noted}
use Rattle.input_arities.specs.Threads.{slot, width, after, Forest, total, all_arities, Own, Owns, Room, ListedHere, Listable, Lists}
use Rattle.input_arities.proofs.ArityLaws.{arities-length}
use Rattle.input_arities.proofs.ThreadLaws.{slot_rises, slot_apart, arity_le, total-after, forest-after, own_after, own_here, owns_same, some_next}

-- ---- one field

-- what is listed of a field, before what is listed of the next ones
listed_made : (w : List ℕ) (next r : ℕ) (t : Term) (g : List Term) → ListedHere w next t r → Listed w r (all_arities (after t g)) → Listed w next (all_arities (t ∷ g))
unfolding ListedHere Listed all_arities after arities
listed_made w next r (atomic a) g e x = subst (λ (i : ℕ). Listed w i (all_arities g)) e x
listed_made w next r id g e x = subst (λ (i : ℕ). Listed w i (all_arities g)) e x
listed_made w next r (label l t) g e x = subst (λ (i : ℕ). Listed w i (arities t (all_arities g))) e x
listed_made w next r (sequence t u) g e x = subst (λ (i : ℕ). Listed w i (arities t (arities u (all_arities g)))) e x
listed_made w next r (tensor t u) g e x = (e.0, subst (λ (i : ℕ). Listed w i (arities t (arities u (all_arities g)))) e.1 x)
listed_made w next r empty g e x = subst (λ (i : ℕ). Listed w i (all_arities g)) e x
listed_made w next r (alternation t u) g e x = subst (λ (i : ℕ). Listed w i (all_arities g)) e x
listed_made w next r (assert γ) g e x = subst (λ (i : ℕ). Listed w i (all_arities g)) e x
listed_made w next r (defined n) g e x = subst (λ (i : ℕ). Listed w i (all_arities g)) e x

listed_place : (w : List ℕ) (next r : ℕ) (t : Term) (g : List Term) → ListedHere w next t r → (next ≤ r) × (r + 2 * length (all_arities (after t g)) ≡ next + 2 * length (all_arities (t ∷ g)))
unfolding ListedHere all_arities after arities
listed_place w next r (atomic a) g e = (omega (arith, e), omega (arith, e))
listed_place w next r id g e = (omega (arith, e), omega (arith, e))
listed_place w next r (label l t) g e = (omega (arith, e), omega (arith, e))
listed_place w next r (sequence t u) g e = (omega (arith, e), omega (arith, e))
listed_place w next r (tensor t u) g e = (omega (arith, e.1), omega (arith, e.1))
listed_place w next r empty g e = (omega (arith, e), omega (arith, e))
listed_place w next r (alternation t u) g e = (omega (arith, e), omega (arith, e))
listed_place w next r (assert γ) g e = (omega (arith, e), omega (arith, e))
listed_place w next r (defined n) g e = (omega (arith, e), omega (arith, e))

-- a write behind it leaves it
here-kept : (w w' : List ℕ) (b next r : ℕ) (t : Term) → Kept w w' r b → ListedHere w next t r → ListedHere w' next t r
unfolding ListedHere
here-kept w w' b next r (atomic a) k e = e
here-kept w w' b next r id k e = e
here-kept w w' b next r (label l t) k e = e
here-kept w w' b next r (sequence t u) k e = e
here-kept w w' b next r (tensor t u) k e = (word_below w w' r b k next (omega (arith, e.1)) ∙ e.0, e.1)
here-kept w w' b next r empty k e = e
here-kept w w' b next r (alternation t u) k e = e
here-kept w w' b next r (assert γ) k e = e
here-kept w w' b next r (defined n) k e = e

module _ (s : List ℕ) (at : ℕ) (w : List ℕ) (next : ℕ) where
  other_here : (t : Term) → (tag_of t ≡ 20 → ⊥) → ListedHere w next t next
  unfolding ListedHere tag_of
  other_here (atomic a) h = refl
  other_here id h = refl
  other_here (label l t) h = refl
  other_here (sequence t u) h = refl
  other_here (tensor t u) h = absurd (h refl)
  other_here empty h = refl
  other_here (alternation t u) h = refl
  other_here (assert γ) h = refl
  other_here (defined n) h = refl

  -- a field that is no tensor
  pub one_other : (get_or s at 0 ≡ 20 → ⊥) → (t : Term) (g : List Term) → Listable s at w next t g → ListedHere w next t next × Kept w w next next
  one_other h t g x = (other_here t (λ e. h ((known s at t x.stands).tag_is ∙ e)), kept_same w _ _)

  -- a tensor: the arity that was noted for its left term, and the bounds of what the code reads and stores
  pub record Left (t : Term) : Type 0 where
    pub inside : slot (at + 3) + 2 ≤ stack_end
    pub small : word w (slot (at + 3)) ≤ size t
    pub next_inside : next + 2 ≤ arities_end

  pub left_of_lem : get_or s at 0 ≡ 20 → (t : Term) (g : List Term) → Listable s at w next t g → Left t
  unfolding Owns Own size all_arities arities
  left_of_lem e t g x = by_tag s at (λ t. Listable s at w next t g → Left t) 20
      (λ a b o y. record {
        inside = omega (arith, y.slots, slot_apart (at + 3) (at + (3 + size a + size b)) (omega (arith, o.first_size)));
        small = omega (arith, own_here w (at + 3) a y.owns.0.1, arity_le a);
        next_inside = omega (arith, y.below);
      }) e t x.stands x

  pub one_tensor : get_or s at 0 ≡ 20 → (w' : List ℕ) → w' ≡ put_word w next (word w (slot (at + 3))) → (t : Term) (g : List Term) → Listable s at w next t g → ListedHere w' next t (next + 2) × Kept w w' next (next + 2)
  unfolding ListedHere Owns Own all_arities arities
  one_tensor e w' is t g x = by_tag s at (λ t. Listable s at w next t g → ListedHere w' next t (next + 2) × Kept w w' next (next + 2)) 20
      (λ a b o y. (
        (ap (λ (v : List ℕ). word v next) is ∙ word_same w next _ (omega (arith, y.below, y.space)) ∙ own_here w (at + 3) a y.owns.0.1, refl),
        subst (λ (v : List ℕ). Kept w v next (next + 2)) (sym is) (kept_put w next _ next (next + 2) (omega arith) (omega arith)),
      )) e t x.stands x

-- ---- all fields

-- the fields before a place are done
pub record Listing (s : List ℕ) (at end : ℕ) (t₀ : Term) (w₀ w : List ℕ) (place next : ℕ) : Type 0 where
  pub terms : List Term
  pub forest : Forest s place terms
  pub ends : place + total terms ≡ end
  pub owns : Owns w place terms
  pub above : frames_end ≤ next
  pub below : next + 2 * length (all_arities terms) ≤ arities_end
  pub finish : (w' : List ℕ) → Kept w w' next arities_end → Listed w' next (all_arities terms) → Listed w' frames_end (arities t₀ [])
  pub kept : Kept w₀ w frames_end arities_end

nothing_listed : (s w : List ℕ) (h : List Term) (q next : ℕ) → total h ≤ 0 → Forest s q h → Listed w next (all_arities h)
unfolding total Forest Listed all_arities
nothing_listed s w [] q next e x = tt
nothing_listed s w (u ∷ g) q next e x = absurd (omega (arith, e, (known s q u x.0).three))

module _ (s : List ℕ) (at end : ℕ) (t₀ : Term) (w₀ : List ℕ) (o : Room s at end w₀ t₀) where
  pub listing_start : Own w₀ at t₀ → Listing s at end t₀ w₀ w₀ at frames_end
  unfolding Owns Forest total all_arities
  listing_start x = record {
    terms = t₀ ∷ [];
    forest = (o.stands, tt);
    ends = omega (arith, o.ends);
    owns = (x, tt);
    above = omega arith;
    below = omega (arith, arities-length t₀ [], o.few);
    finish = λ w k n. n;
    kept = kept_same w₀ _ _;
  }

  module _ (w : List ℕ) (place next : ℕ) (l : Listing s at end t₀ w₀ w place next) where
    -- the term at the place
    pub record There : Type 0 where
      pub term : Term
      pub rest : List Term
      pub terms_are : l.terms ≡ term ∷ rest
      pub listable : length w ≡ length w₀ → Listable s place w next term rest
      pub stands : Stands s place term
      pub inside : place + size term ≤ end

    pub there : place < end → There
    unfolding Forest total
    there n =
        let z = some_next l.terms place end l.ends (λ f. absurd (omega (arith, f))) in
        let st = subst (Forest s place) z.2 l.forest in
        let e : place + size z.0 + total z.1 ≡ end = omega (arith, subst (λ (h : List Term). place + total h ≡ end) z.2 l.ends) in
        record {
          term = z.0;
          rest = z.1;
          terms_are = z.2;
          listable = λ len. record {
            stands = st.0;
            owns = subst (Owns w place) z.2 l.owns;
            slots = omega (arith, slot_rises (place + size z.0) end (omega (arith, e)), o.slots);
            small = omega (arith, e, o.small);
            above = l.above;
            below = subst (λ (h : List Term). next + 2 * length (all_arities h) ≤ arities_end) z.2 l.below;
            space = omega (arith, o.space, len);
          };
          stands = st.0;
          inside = omega (arith, e);
        }

    module _ (y : There) (w' : List ℕ) (r : ℕ) (here : ListedHere w' next y.term r) (k : Kept w w' next r) where
      -- the slots lie below the list
      owns_after : Owns w' (place + width y.term) (after y.term y.rest)
      unfolding total
      owns_after =
          let e : place + width y.term + total (after y.term y.rest) ≡ end = omega (arith, total-after y.term y.rest, subst (λ (h : List Term). place + total h ≡ end) y.terms_are l.ends) in
          owns_same w w' (after y.term y.rest) (place + width y.term) end (omega (arith, e))
          (λ q a b. word_below w w' next r k (slot q) (omega (arith, slot_apart q end b, o.slots, l.above)))
          (own_after w place y.term y.rest (subst (Owns w place) y.terms_are l.owns))

      pub listing_next : (p : ℕ) → p ≡ place + width y.term → Listing s at end t₀ w₀ w' p r
      unfolding total
      listing_next p e =
          let u = y.term in
          let g = y.rest in
          let z = listed_place w' next r u g here in
          let top : next + 2 * length (all_arities (u ∷ g)) ≤ arities_end = subst (λ (h : List Term). next + 2 * length (all_arities h) ≤ arities_end) y.terms_are l.below in
          let r-below : r + 2 * length (all_arities (after u g)) ≤ arities_end = omega (arith, z.1, top) in
          subst (λ (q : ℕ). Listing s at end t₀ w₀ w' q r) (sym e) (record {
            terms = after u g;
            forest = forest-after s place u g (subst (Forest s place) y.terms_are l.forest);
            ends = omega (arith, total-after u g, subst (λ (h : List Term). place + total h ≡ end) y.terms_are l.ends);
            owns = owns_after;
            above = omega (arith, l.above, z.0);
            below = r-below;
            finish = λ w'' m x.
                l.finish w'' (kept_both w w' w'' next r r arities_end next arities_end k m (omega arith) z.0 (omega (arith, r-below)) (omega arith))
                (subst (λ (h : List Term). Listed w'' next (all_arities h)) (sym y.terms_are) (listed_made w'' next r u g (here-kept w' w'' arities_end next r u m here) x));
            kept = kept_both w₀ w w' frames_end arities_end next r frames_end arities_end l.kept k (omega arith) l.above (omega arith) (omega (arith, r-below));
          })

    pub listing_end : end ≤ place → Lists w₀ w t₀
    listing_end n = record { listed = l.finish w (kept_same w _ _) (nothing_listed s w l.terms place next (omega (arith, l.ends)) l.forest); kept = l.kept }

-- all three passes together
pub noted_all : (w₀ w₁ w₂ w₃ : List ℕ) (t : Term) → fields t ≤ most_term_fields → Kept w₀ w₁ 0 stack_end → Kept w₁ w₂ 0 stack_end → Lists w₂ w₃ t → Noted w₀ w₃ t
noted_all w₀ w₁ w₂ w₃ t few a b c = record {
  ahead = record { listed = c.listed; above = omega arith; below = omega (arith, arities-length t [], few) };
  kept = kept_both w₀ w₂ w₃ 0 stack_end frames_end arities_end 0 arities_end (kept_both w₀ w₁ w₂ 0 stack_end 0 stack_end 0 stack_end a b (omega arith) (omega arith) (omega arith) (omega arith)) c.kept (omega arith) (omega arith) (omega arith) (omega arith);
}
