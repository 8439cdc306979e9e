-- `trees::write_forest` and `trees::write_tree` meet their contracts, by one proof of their cycle: what an inner writer is given and what is written in the end, by the lemmas of DoneLaws.
-- Assumes nothing.
use Rattle.std.proofs.Common.{ℕ, ◌≡◌, ◌∙◌, refl, sym, subst, ap, ◌+◌, ◌-◌, ◌≤◌, ◌<◌, List, length, take, drop, arith}
use borrow.Rule.Slice.PartMut.{put_mid}
use Rattle.words.specs.Word.{word}
use Rattle.format.specs.Terms.{Term, size}
use Rattle.writer.specs.Trees.{Ready, Done, term_of, end_of, lead}
use Rattle.writer.proofs.Lent.{room_is, length-put}
use Rattle.writer.proofs.TreeLaws.{use_of, several, tree_ahead, tree_inside}
use Rattle.writer.proofs.DoneLaws.{
  done-size,
  done-moved,
  none_room,
  done_none,
  lead_more,
  more_size,
  done_one,
  done_more,
  first_room,
  first_ready,
  others_ready,
  open_room,
  done_open,
  atomic_room,
  done_atomic,
  use_room,
  inner_ready,
  done_use,
}
use Rattle.writer.proofs.trees.+write_forest_write_tree.Goals as goal

-- a forest of one tree or more
some : {n : ℕ} → (n ≡ 0 → ⊥) → 1 ≤ n
some {n} z = omega (arith, z)

two : {n : ℕ} → (n ≡ 0 → ⊥) → (n ≡ 1 → ⊥) → 2 ≤ n
two {n} z e = omega (arith, z, e)

module _ {plan : List ℕ} {at n : ℕ} (out : List ℕ) (r : Ready plan at n (length out)) (s : 1 ≤ n) (skip : ℕ) (led : skip ≡ lead n) where
  abbrev first_term : Term
  first_term = term_of (several r.trees s).first

  room : skip + size first_term ≤ length out
  room = omega (arith, led, (first_room r s).0)

  -- what is lent for the first tree
  abbrev lent : List ℕ
  lent = take (length out - skip) (drop skip out)

  part_room : length lent ≡ length out - lead n
  part_room = room_is skip out ∙ ap (λ (k : ℕ). length out - k) led

  abbrev ready_first : Ready plan at 1 (length lent)
  ready_first = first_ready r s _ part_room

  -- there are others behind it
  module _ (m : 2 ≤ n) (several_here : n ≡ 1 → ⊥) where
    abbrev others_term : Term
    others_term = term_of (several r.trees s).others

    skip_is : skip ≡ 3
    skip_is = led ∙ lead_more several_here

    sizes : (3 + (size first_term + size others_term) ≤ length out) × (3 + (size first_term + size others_term) < 65536)
    sizes = let e = more_size r.trees s m in (omega (arith, e, r.fits), omega (arith, e, r.small))

    -- the first is written
    module _ (next : ℕ) (last : List ℕ) (first : Done first_term (end_of (several r.trees s).first) next lent last) (same : length last ≡ length lent) where
      abbrev after_first : List ℕ
      after_first = put_mid skip (length out - skip) out last

      same_first : length after_first ≡ length out
      same_first = length-put skip out last same

      read_first : 3 + word after_first (3 + 1) ≡ size first_term
      read_first =
          subst (λ (k : ℕ). 3 + word after_first (k + 1) ≡ size first_term) skip_is
          (done-size skip out last first (omega (arith, room)) (omega (arith, sizes.1)))

      field_room : 6 ≤ length after_first
      field_room = omega (arith, sizes.0, read_first, same_first)

      -- the others' place is known
      module _ (from : ℕ) (told : from ≡ 6 + word after_first (3 + 1)) where
        from_is : from ≡ 3 + size first_term
        from_is = omega (arith, told, read_first)

        from_room : from ≤ length after_first
        from_room = omega (arith, from_is, sizes.0, same_first)

        abbrev lent_others : List ℕ
        lent_others = take (length after_first - from) (drop from after_first)

        rest_room : length lent_others ≡ length out - from
        rest_room = room_is from after_first ∙ ap (λ (k : ℕ). k - from) same_first

        abbrev ready_others : Ready plan next (n - 1) (length lent_others)
        ready_others = others_ready r s m next from _ first.passed from_is rest_room

        -- the others are written
        module _ (end : ℕ) (last_others : List ℕ) (others : Done (term_of ready_others.trees) (end_of ready_others.trees) end lent_others last_others) (kept : length last_others ≡ length lent_others) where
          abbrev after_others : List ℕ
          after_others = put_mid from (length after_first - from) after_first last_others

          others_done : Done others_term (end_of (several r.trees s).others) end lent_others last_others
          others_done = done-moved (sym first.passed) (several r.trees s).others others

          same_others : length after_others ≡ length out
          same_others = length-put from after_first last_others kept ∙ same_first

          read_others : 3 + word after_others (from + 1) ≡ size others_term
          read_others = done-size from after_first last_others others_done from_room (omega (arith, sizes.1))

          whole_len : from + word after_others (from + 1) ≡ size first_term + size others_term
          whole_len = omega (arith, read_others, from_is)

          pair_room : (from + 3 ≤ length after_others) × (from + word after_others (from + 1) < 65536)
          pair_room = (omega (arith, from_is, sizes.0, same_others, read_others), omega (arith, whole_len, sizes.1))

pub write_forest-write_header-requires : goal.write_forest-write_header-requires
write_forest-write_header-requires t c = (none_room c.requires c.if-n-eq0.true, omega arith)

pub write_forest-returns-then-n-eq0 : goal.write_forest-returns-then-n-eq0
write_forest-returns-then-n-eq0 t c = λ r. done_none r.trees _ _ c.if-n-eq0.true c.write_header.ensures

pub write_forest-slice_bounds-write_tree-count : goal.write_forest-slice_bounds-write_tree-count
write_forest-slice_bounds-write_tree-count t c = omega (arith, room _ c.requires (some c.if-n-eq0.false) _ c.lead_of-first.ensures)

pub write_forest-slice_bounds-write_tree-start : goal.write_forest-slice_bounds-write_tree-start
write_forest-slice_bounds-write_tree-start t c = omega (arith, room _ c.requires (some c.if-n-eq0.false) _ c.lead_of-first.ensures)

pub write_forest-write_tree-next-requires : goal.write_forest-write_tree-next-requires
write_forest-write_tree-next-requires t c = (omega (arith, c.decreases), ready_first _ c.requires (some c.if-n-eq0.false) _ c.lead_of-first.ensures)

pub write_forest-returns-then-n-eq1 : goal.write_forest-returns-then-n-eq1
write_forest-returns-then-n-eq1 t c =
    let s = some c.if-n-eq0.false in
    λ r. done_one r.trees s c.args.out.now c.write_tree-next.new.out c.lead_of-first.result _ c.lead_of-first.ensures c.if-n-eq1.true
    (c.write_tree-next.ensures (ready_first _ r s _ c.lead_of-first.ensures))

pub write_forest-field_end-from-requires : goal.write_forest-field_end-from-requires
write_forest-field_end-from-requires t c =
    let s = some c.if-n-eq0.false in
    let led = c.lead_of-first.ensures in
    let w = c.write_tree-next in
    field_room c.args.out.now c.requires s _ led (two c.if-n-eq0.false c.if-n-eq1.false) c.if-n-eq1.false _ _ (w.ensures (ready_first _ c.requires s _ led)) w.auto.out

pub write_forest-slice_bounds-write_forest-count : goal.write_forest-slice_bounds-write_forest-count
write_forest-slice_bounds-write_forest-count t c =
    let s = some c.if-n-eq0.false in
    let led = c.lead_of-first.ensures in
    let w = c.write_tree-next in
    from_room c.args.out.now c.requires s _ led (two c.if-n-eq0.false c.if-n-eq1.false) c.if-n-eq1.false _ _ (w.ensures (ready_first _ c.requires s _ led)) w.auto.out _ c.field_end-from.ensures

pub write_forest-slice_bounds-write_forest-start : goal.write_forest-slice_bounds-write_forest-start
write_forest-slice_bounds-write_forest-start t c =
    let s = some c.if-n-eq0.false in
    let led = c.lead_of-first.ensures in
    let w = c.write_tree-next in
    omega (arith, from_room c.args.out.now c.requires s _ led (two c.if-n-eq0.false c.if-n-eq1.false) c.if-n-eq1.false _ _ (w.ensures (ready_first _ c.requires s _ led)) w.auto.out _ c.field_end-from.ensures)

pub write_forest-write_forest-end-requires : goal.write_forest-write_forest-end-requires
write_forest-write_forest-end-requires t c =
    let s = some c.if-n-eq0.false in
    let led = c.lead_of-first.ensures in
    let w = c.write_tree-next in
    let d = w.ensures (ready_first _ c.requires s _ led) in
    let q = (several c.requires.trees s).first in (
      omega (arith, c.decreases, d.passed, tree_ahead q, tree_inside q),
      ready_others c.args.out.now c.requires s _ led (two c.if-n-eq0.false c.if-n-eq1.false) c.if-n-eq1.false _ _ d w.auto.out _ c.field_end-from.ensures,
    )

pub write_forest-close_pair-requires : goal.write_forest-close_pair-requires
write_forest-close_pair-requires t c =
    let s = some c.if-n-eq0.false in
    let m = two c.if-n-eq0.false c.if-n-eq1.false in
    let led = c.lead_of-first.ensures in
    let w = c.write_tree-next in
    let d = w.ensures (ready_first _ c.requires s _ led) in
    let e = c.write_forest-end in
    pair_room c.args.out.now c.requires s _ led m c.if-n-eq1.false _ _ d w.auto.out _ c.field_end-from.ensures _ _
    (e.ensures (ready_others c.args.out.now c.requires s _ led m c.if-n-eq1.false _ _ d w.auto.out _ c.field_end-from.ensures)) e.auto.out

pub write_forest-returns : goal.write_forest-returns
write_forest-returns t c =
    let o = c.args.out.now in
    let s = some c.if-n-eq0.false in
    let n1 = c.if-n-eq1.false in
    let m = two c.if-n-eq0.false n1 in
    let led = c.lead_of-first.ensures in
    let w = c.write_tree-next in
    let e = c.write_forest-end in
    let told = c.field_end-from.ensures in
    λ r.
    let d = w.ensures (ready_first _ r s _ led) in
    let f = e.ensures (ready_others o r s _ led m n1 _ _ d w.auto.out _ told) in
    done_more r.trees s m o (after_first o r s _ led m n1 _ _ d w.auto.out) (after_others o r s _ led m n1 _ _ d w.auto.out _ told _ _ f e.auto.out) _ w.new.out e.new.out _ _ _ _ _
    (skip_is o r s _ led m n1) (from_is o r s _ led m n1 _ _ d w.auto.out _ told) d (others_done o r s _ led m n1 _ _ d w.auto.out _ told _ _ f e.auto.out) refl refl r.fits
    (whole_len o r s _ led m n1 _ _ d w.auto.out _ told _ _ f e.auto.out) c.close_pair.ensures

pub write_tree-write_header-requires : goal.write_tree-write_header-requires
write_tree-write_header-requires t c = (open_room c.requires (c.in-None.ensures), omega arith)

pub write_tree-returns-in-None : goal.write_tree-returns-in-None
write_tree-returns-in-None t c = λ r. done_open r.trees _ _ (c.in-None.ensures) c.write_header.ensures

pub write_tree-write_atomic-requires : goal.write_tree-write_atomic-requires
write_tree-write_atomic-requires t c = atomic_room c.requires (use_of c.requires.trees _ c.in-Some-eq0.ensures.0 c.in-Some-eq0.ensures.1) c.in-Some-eq0.field-0-test

pub write_tree-returns-in-Some-eq0 : goal.write_tree-returns-in-Some-eq0
write_tree-returns-in-Some-eq0 t c =
    λ r. done_atomic r.trees _ _ _ (use_of r.trees _ c.in-Some-eq0.ensures.0 c.in-Some-eq0.ensures.1) c.in-Some-eq0.field-0-test c.value_at.ensures c.write_atomic.ensures

pub write_tree-slice_bounds-write_atomic-count : goal.write_tree-slice_bounds-write_atomic-count
write_tree-slice_bounds-write_atomic-count t c =
    omega (arith, use_room c.requires (use_of c.requires.trees _ c.in-Some.ensures.0 c.in-Some.ensures.1) c.in-Some.count-test.1)

pub write_tree-slice_bounds-write_atomic-start : goal.write_tree-slice_bounds-write_atomic-start
write_tree-slice_bounds-write_atomic-start t c =
    omega (arith, use_room c.requires (use_of c.requires.trees _ c.in-Some.ensures.0 c.in-Some.ensures.1) c.in-Some.count-test.1)

pub write_tree-write_atomic-requires-in-Some : goal.write_tree-write_atomic-requires-in-Some
write_tree-write_atomic-requires-in-Some t c =
    omega (arith, use_room c.requires (use_of c.requires.trees _ c.in-Some.ensures.0 c.in-Some.ensures.1) c.in-Some.count-test.1, room_is 3 c.args.out.now)

pub write_tree-slice_bounds-write_forest-count : goal.write_tree-slice_bounds-write_forest-count
write_tree-slice_bounds-write_forest-count t c =
    omega (
      arith,
      use_room c.requires (use_of c.requires.trees _ c.in-Some.ensures.0 c.in-Some.ensures.1) c.in-Some.count-test.1,
      length-put 3 c.args.out.now c.write_atomic-in-Some.new.out c.write_atomic-in-Some.auto.out,
    )

pub write_tree-slice_bounds-write_forest-start : goal.write_tree-slice_bounds-write_forest-start
write_tree-slice_bounds-write_forest-start t c =
    omega (
      arith,
      use_room c.requires (use_of c.requires.trees _ c.in-Some.ensures.0 c.in-Some.ensures.1) c.in-Some.count-test.1,
      length-put 3 c.args.out.now c.write_atomic-in-Some.new.out c.write_atomic-in-Some.auto.out,
    )

-- what is lent for the premises of a use whose atomic is written
inner_room : (o last : List ℕ) → length last ≡ length (take (length o - 3) (drop 3 o))
    → length (take (length (put_mid 3 (length o - 3) o last) - 8) (drop 8 (put_mid 3 (length o - 3) o last))) ≡ length o - 8
inner_room o last e = room_is 8 (put_mid 3 (length o - 3) o last) ∙ ap (λ (k : ℕ). k - 8) (length-put 3 o last e)

pub write_tree-write_forest-next-requires : goal.write_tree-write_forest-next-requires
write_tree-write_forest-next-requires t c =
    let u = use_of c.requires.trees _ c.in-Some.ensures.0 c.in-Some.ensures.1 in
    (omega (arith, c.decreases, tree_inside c.requires.trees), inner_ready c.requires u c.in-Some.count-test.1 _ (inner_room c.args.out.now _ c.write_atomic-in-Some.auto.out))

-- the size of the forest, read back
read_forest : {t : Term} {end next : ℕ} (o last l : List ℕ) → length last ≡ length (take (length o - 3) (drop 3 o))
    → Done t end next (take (length (put_mid 3 (length o - 3) o last) - 8) (drop 8 (put_mid 3 (length o - 3) o last))) l
    → (8 + size t ≤ length o) × (size t < 65528)
    → 3 + word (put_mid 8 (length (put_mid 3 (length o - 3) o last) - 8) (put_mid 3 (length o - 3) o last) l) (8 + 1) ≡ size t
read_forest o last l e d f = done-size 8 (put_mid 3 (length o - 3) o last) l d (omega (arith, f.0, length-put 3 o last e)) (omega (arith, f.1))

pub write_tree-close_pair-requires : goal.write_tree-close_pair-requires
write_tree-close_pair-requires t c =
    let o = c.args.out.now in
    let u = use_of c.requires.trees _ c.in-Some.ensures.0 c.in-Some.ensures.1 in
    let f = use_room c.requires u c.in-Some.count-test.1 in
    let a = c.write_atomic-in-Some in
    let w = c.write_forest-next in
    let d = w.ensures (inner_ready c.requires u c.in-Some.count-test.1 _ (inner_room o a.new.out a.auto.out)) in
    let e = read_forest o a.new.out w.new.out a.auto.out d f in
    let k = length-put 8 (put_mid 3 (length o - 3) o a.new.out) w.new.out w.auto.out ∙ length-put 3 o a.new.out a.auto.out in
    (omega (arith, e, f.0, k), omega (arith, e, f.1))

pub write_tree-returns-in-Some : goal.write_tree-returns-in-Some
write_tree-returns-in-Some t c =
    let o = c.args.out.now in
    let a = c.write_atomic-in-Some in
    let w = c.write_forest-next in
    let o1 = put_mid 3 (length o - 3) o a.new.out in
    λ r.
    let u = use_of r.trees _ c.in-Some.ensures.0 c.in-Some.ensures.1 in
    let d = w.ensures (inner_ready r u c.in-Some.count-test.1 _ (inner_room o a.new.out a.auto.out)) in
    let e = read_forest o a.new.out w.new.out a.auto.out d (use_room r u c.in-Some.count-test.1) in
    done_use r.trees u c.in-Some.count-test.1 _ o o1 (put_mid 8 (length o1 - 8) o1 w.new.out) _ a.new.out w.new.out _ _ c.value_at-in-Some.ensures a.ensures d refl refl r.fits (omega (arith, e)) c.close_pair.ensures
