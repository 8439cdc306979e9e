-- The frames that show the terms that wait: how many bytes they take, and which writes leave them as they are.
-- Assumes nothing.
use mathlib.Core.Path.{◌≡◌, sym, ◌∙◌}
use mathlib.Core.Logic.{◌⊎◌, inl, inr}
use mathlib.Core.List.{List, [], ◌∷◌}
use Prim.Native.Nat.{ℕ, ◌+◌, ◌*◌, ◌≤◌}
use native.Mathlib.Omega.{arith}
use lib.ListN.{length}
use Rattle.words.specs.Word.{word}
use Rattle.words.specs.Kept.{Kept}
use Rattle.words.proofs.KeptLaws.{word_below, word_above}
use Rattle.format.specs.Terms.{size}
use Rattle.input_arities.specs.Layout.{stack_end}
use Rattle.walks.specs.Values.{values_at}
use Rattle.walks.specs.Waiting.{Waiting, sequence_left, tensor_left, tensor_right}
use Rattle.walks.specs.Shows.{Framed, Shown}
use Rattle.walks.proofs.ValueLaws.{values_below, values_above}

module _ (s : List ℕ) where
  -- four bytes for each term that waits
  pub shown_depth : (w : List ℕ) (f : List Waiting) (p at low end : ℕ) → Shown s w p at low end f → p ≡ stack_end + 4 * length f
  unfolding Shown
  shown_depth w [] p at low end x = omega (arith, x.0)
  shown_depth w (sequence_left u r ∷ f) p at low end x = omega (arith, x.2.next, shown_depth w f _ _ _ _ x.5)
  shown_depth w (tensor_left q u r g ∷ f) p at low end x = omega (arith, x.3.next, shown_depth w f _ _ _ _ x.7)
  shown_depth w (tensor_right q h ∷ f) p at low end x = omega (arith, x.3.next, shown_depth w f _ _ _ _ x.5)

  -- A write between a and b leaves the terms that wait: within the stacks of the current term, or behind the frames.
  module _ (w w' : List ℕ) (a b : ℕ) (k : Kept w w' a b) where
    abbrev Outside : (p low end : ℕ) → Type 0
    Outside p low end = ((low ≤ a) × (b ≤ end) × (b ≤ stack_end)) ⊎ (p ≤ a)

    word_kept : (p low end i : ℕ) → Outside p low end → stack_end ≤ i → i + 2 ≤ p → word w' i ≡ word w i
    word_kept p low end i (inl o) h l = word_above w w' a b k i (omega (arith, o.2))
    word_kept p low end i (inr o) h l = word_below w w' a b k i (omega arith)

    framed_kept : (p p' q tag low end : ℕ) → Outside p low end → Framed s w p p' q tag → Framed s w' p p' q tag
    framed_kept p p' q tag low end o x = record {
      next = x.next;
      above = x.above;
      place_is = word_kept p low end p' o x.above (omega (arith, x.next)) ∙ x.place_is;
      inside = x.inside;
      tag_is = x.tag_is;
    }

    rest_kept : (p p' low end e c : ℕ) → Outside p low end → p ≡ p' + 4 → stack_end ≤ p' → end + c * 2 ≡ e → e ≤ stack_end → values_at w' end c ≡ values_at w end c
    rest_kept p p' low end e c (inl o) n h m g = values_above w w' a b end c k o.1
    rest_kept p p' low end e c (inr o) n h m g = values_below w w' a b end c k (omega arith)

    given_kept : (p p' low end l n : ℕ) → Outside p low end → p ≡ p' + 4 → stack_end ≤ p' → l + n * 2 ≡ low → low ≤ stack_end → values_at w' l n ≡ values_at w l n
    given_kept p p' low end l n (inl o) e h m g = values_below w w' a b l n k (omega (arith, o.0))
    given_kept p p' low end l n (inr o) e h m g = values_below w w' a b l n k (omega arith)

    deeper : (p p' low end low' end' : ℕ) → p ≡ p' + 4 → low' ≤ low → end ≤ end' → Outside p low end → Outside p' low' end'
    deeper p p' low end low' end' n l e (inl o) = inl (omega (arith, o.0), omega (arith, o.1), o.2)
    deeper p p' low end low' end' n l e (inr o) = inr (omega arith)

    pub shown_kept : (f : List Waiting) (p at low end : ℕ) → Outside p low end → Shown s w p at low end f → Shown s w' p at low end f
    unfolding Shown
    shown_kept [] p at low end o x = x
    shown_kept (sequence_left u r ∷ f) p at low end o x = (
      x.0,
      x.1,
      framed_kept p _ _ 19 low end o x.2,
      x.3,
      x.4,
      shown_kept f x.0 (at + size u) low end (deeper p x.0 low end low end x.2.next (omega arith) (omega arith) o) x.5,
    )
    shown_kept (tensor_left q u r g ∷ f) p at low end o x =
        let n = x.3.next in
        let h = x.3.above in
        let y = x.4 in (
          x.0,
          x.1,
          x.2,
          framed_kept p _ _ 20 low end o x.3,
          record {
            value_is = word_kept p low end (x.0 + 2) o (omega (arith, h)) (omega (arith, n)) ∙ y.value_is;
            ends = y.ends;
            below = y.below;
            rest = y.rest ∙ sym (rest_kept p x.0 low end x.1 x.2 o n h y.ends y.below);
          },
          x.5,
          x.6,
          shown_kept f x.0 (at + size u) low x.1 (deeper p x.0 low end low x.1 n (omega arith) (omega (arith, y.ends)) o) x.7,
        )
    shown_kept (tensor_right q g ∷ f) p at low end o x =
        let n = x.3.next in
        let h = x.3.above in
        let y = x.4 in (
          x.0,
          x.1,
          x.2,
          framed_kept p _ _ 20 low end o x.3,
          record {
            value_is = word_kept p low end (x.0 + 2) o (omega (arith, h)) (omega (arith, n)) ∙ y.value_is;
            starts = y.starts;
            below = y.below;
            gave = y.gave ∙ sym (given_kept p x.0 low end x.1 x.2 o n h y.starts y.below);
          },
          shown_kept f x.0 at x.1 end (deeper p x.0 low end x.1 end n (omega (arith, y.starts)) (omega arith) o) x.5,
        )
