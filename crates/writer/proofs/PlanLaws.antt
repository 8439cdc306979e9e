-- Plans of entries: joined, taken apart, and kept by a store behind them. By induction over the entries.
-- Assumes nothing.
use Prim.Native.Nat.{ℕ, ◌+◌, ◌≤◌, ◌<◌}
use mathlib.Core.Path.{◌≡◌, subst, ◌∙◌}
use mathlib.Core.List.{List, [], ◌∷◌, ◌++◌}
use native.Mathlib.Omega.{arith}
use lib.ListN.{length, get_or, set}
use lib.Seq.{get_or-set_same, get_or-set_other}
use Rattle.words.specs.Word.{word, put_word}
use Rattle.words.specs.Kept.{Kept}
use Rattle.words.proofs.WordLaws.{length-put_word, word_same}
use Rattle.words.proofs.KeptLaws.{kept_put}
use Rattle.tables.specs.Tables.{Table}
use Rattle.files.specs.Derivations.{Entry, use_entry, open_entry}
use Rattle.writer.specs.Plan.{behind, Planned, Noted}

pub planned_at : (T : Table) (p : List ℕ) (es : List Entry) {at at' : ℕ} → at ≡ at' → Planned T p at es → Planned T p at' es
planned_at T p es e h = subst (λ (k : ℕ). Planned T p k es) e h

pub planned_apart : (T : Table) (p : List ℕ) (a b : List Entry) (at : ℕ) → Planned T p at (a ++ b) → Planned T p at a × Planned T p (behind at a) b
unfolding Planned
planned_apart T p [] b at h = (tt, planned_at T p b (omega arith) h)
planned_apart T p (use_entry a γ ∷ es) b at h =
    let x = planned_apart T p es b (at + 3) h.3 in
    ((h.0, h.1, h.2, x.0), planned_at T p b (omega arith) x.1)
planned_apart T p (open_entry γ ∷ es) b at h =
    let x = planned_apart T p es b (at + 3) h.1 in
    ((h.0, x.0), planned_at T p b (omega arith) x.1)

pub planned_joined : (T : Table) (p : List ℕ) (a b : List Entry) (at : ℕ) → Planned T p at a → Planned T p (behind at a) b → Planned T p at (a ++ b)
unfolding Planned
planned_joined T p [] b at h g = planned_at T p b (omega arith) g
planned_joined T p (use_entry a γ ∷ es) b at h g = (h.0, h.1, h.2, planned_joined T p es b (at + 3) h.3 (planned_at T p b (omega arith) g))
planned_joined T p (open_entry γ ∷ es) b at h g = (h.0, planned_joined T p es b (at + 3) h.1 (planned_at T p b (omega arith) g))

pub planned_kept : (T : Table) (p p' : List ℕ) (es : List Entry) (at : ℕ) → ((i : ℕ) → i < behind at es → get_or p' i 0 ≡ get_or p i 0) → Planned T p at es → Planned T p' at es
unfolding Planned word
planned_kept T p p' [] at k h = tt
planned_kept T p p' (use_entry a γ ∷ es) at k h =
    let n : word p' at ≡ word p at = omega (arith, k at (omega arith), k (at + 1) (omega arith)) in
    (n ∙ h.0, k (at + 2) (omega arith) ∙ h.1, h.2, planned_kept T p p' es (at + 3) (λ i l. k i (omega (arith, l))) h.3)
planned_kept T p p' (open_entry γ ∷ es) at k h = (k (at + 2) (omega arith) ∙ h.0, planned_kept T p p' es (at + 3) (λ i l. k i (omega (arith, l))) h.1)

-- one entry's plan, stored
pub noted : (p q : List ℕ) (at name count : ℕ) → at + 3 ≤ length p → q ≡ put_word p at name → Noted p (set q (at + 2) count) at name count
noted p q at name count h e =
    let r = put_word p at name in
    rw e (record {
      name_is = name_kept ∙ word_same p at name (omega arith);
      count_is = get_or-set_same r (at + 2) count 0 (omega (arith, length-put_word p at name));
      kept = record {
        below = λ i l. get_or-set_other r (at + 2) i count 0 (λ x. omega (arith, l, x)) ∙ k.below i l;
        above = λ i l. get_or-set_other r (at + 2) i count 0 (λ x. omega (arith, l, x)) ∙ k.above i (omega (arith, l));
      };
    })
  where
    k : Kept p (put_word p at name) at (at + 2)
    k = kept_put p at name at (at + 2) (omega arith) (omega arith)

    name_kept : word (set (put_word p at name) (at + 2) count) at ≡ word (put_word p at name) at
    name_kept = unfold word in omega (arith, get_or-set_other (put_word p at name) (at + 2) at count 0 (λ x. omega (arith, x)), get_or-set_other (put_word p at name) (at + 2) (at + 1) count 0 (λ x. omega (arith, x)))

-- the mark of an open, stored: the name is what stood there
pub marked : (p : List ℕ) (at mark : ℕ) → at + 3 ≤ length p → Noted p (set p (at + 2) mark) at (word p at) mark
unfolding word
marked p at mark h = record {
  name_is = omega (arith, get_or-set_other p (at + 2) at mark 0 (λ x. omega (arith, x)), get_or-set_other p (at + 2) (at + 1) mark 0 (λ x. omega (arith, x)));
  count_is = get_or-set_same p (at + 2) mark 0 (omega arith);
  kept = record {
    below = λ i l. get_or-set_other p (at + 2) i mark 0 (λ x. omega (arith, l, x));
    above = λ i l. get_or-set_other p (at + 2) i mark 0 (λ x. omega (arith, l, x));
  };
}
