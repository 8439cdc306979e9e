-- `file::write_file` meets its contract: roots, term and open leaves, one behind the other.
-- Assumes nothing.
use native.Mathlib.Omega.{arith}
use Prim.Native.Nat.{ℕ, ◌+◌, ◌*◌, ◌-◌, ◌≤◌}
use mathlib.Core.Path.{◌≡◌, refl, ap, ◌∙◌}
use mathlib.Core.List.{List}
use lib.ListN.{length, take, drop}
use borrow.Rule.Slice.PartMut.{put_mid}
use Rattle.words.specs.Word.{word}
use Rattle.format.specs.Terms.{size}
use Rattle.hitac.specs.Forest.{leaves}
use Rattle.writer.specs.Trees.{Ready, Done, end_of}
use Rattle.writer.specs.Right.{Right, proof_of, PlannedRight}
use Rattle.writer.proofs.Lent.{room_is, length-put}
use Rattle.writer.proofs.DoneLaws.{done-size}
use Rattle.writer.proofs.SizeLaws.{few_leaves, term_small, proof_length}
use Rattle.writer.proofs.FileLaws.{entries_of, term, few_roots, roots_inside, trees_of, forest_ready, rest_of, file_bytes}
use Rattle.writer.proofs.file.write_file.Goals.{After-field_end-rest}
use Rattle.writer.proofs.file.write_file.Goals as goal

-- a right file that is planned and fits
record Fits (flat : List ℕ) (roots : ℕ) (plan : List ℕ) (room : ℕ) : Type 0 where
  file : Right flat roots
  planned : PlannedRight plan file
  fits : length (proof_of file) ≤ room

module _ {flat : List ℕ} {roots : ℕ} {plan : List ℕ} (out : List ℕ) (f : Fits flat roots plan (length out)) where
  abbrev at : ℕ
  at = 3 + roots * 2

  room : at + size (term f.file) + (3 + length (leaves (entries_of f.file)) * 2) ≤ length out
  room = omega (arith, proof_length f.file, f.fits)

  -- the roots are written
  module _ (out1 : List ℕ) (same1 : length out1 ≡ length out) where
    term_room : at ≤ length out1
    term_room = omega (arith, room, same1)

    -- what is lent for the term
    abbrev part : List ℕ
    part = take (length out1 - at) (drop at out1)

    left : length part ≡ length out - at
    left = room_is at out1 ∙ ap (λ (k : ℕ). k - at) same1

    abbrev ready : Ready plan 0 roots (length part)
    ready = forest_ready f.file (length part) f.planned (omega (arith, room, left))

    -- the term is written
    module _ (next : ℕ) (last : List ℕ) (forest : Done (term f.file) (end_of (trees_of f.file f.planned)) next part last) (kept : length last ≡ length part) where
      abbrev out2 : List ℕ
      out2 = put_mid at (length out1 - at) out1 last

      same2 : length out2 ≡ length out
      same2 = length-put at out1 last kept ∙ same1

      field_room : at + 3 ≤ length out2
      field_room = omega (arith, room, same2)

      -- its end is known
      module _ (from : ℕ) (told : from ≡ at + 3 + word out2 (at + 1)) where
        from_is : from ≡ at + size (term f.file)
        from_is =
            let s = done-size at out1 last forest (omega (arith, room, same1)) (omega (arith, term_small f.file)) in
            omega (arith, told, s)

        rest_room : from + (3 + length (leaves (entries_of f.file)) * 2) ≤ length out2
        rest_room = omega (arith, from_is, room, same2)

pub write_goals-requires : goal.write_goals-requires
write_goals-requires c =
    let f : Fits c.args.flat.now c.args.roots c.args.plan.now (length c.args.out.now) = record { file = c.requires.0; planned = c.requires.1; fits = c.requires.2 } in
    (roots_inside f.file, omega (arith, room _ f), omega (arith, few_roots f.file))

pub slice_bounds-write_forest-count : goal.slice_bounds-write_forest-count
slice_bounds-write_forest-count c =
    let f : Fits c.args.flat.now c.args.roots c.args.plan.now (length c.args.out.now) = record { file = c.requires.0; planned = c.requires.1; fits = c.requires.2 } in
    omega (arith, term_room _ f _ c.write_goals.auto.out)

pub slice_bounds-write_forest-start : goal.slice_bounds-write_forest-start
slice_bounds-write_forest-start c =
    let f : Fits c.args.flat.now c.args.roots c.args.plan.now (length c.args.out.now) = record { file = c.requires.0; planned = c.requires.1; fits = c.requires.2 } in
    omega (arith, term_room _ f _ c.write_goals.auto.out)

pub write_forest-requires : goal.write_forest-requires
write_forest-requires c =
    let f : Fits c.args.flat.now c.args.roots c.args.plan.now (length c.args.out.now) = record { file = c.requires.0; planned = c.requires.1; fits = c.requires.2 } in
    ready _ f _ c.write_goals.auto.out

pub field_end-rest-requires : goal.field_end-rest-requires
field_end-rest-requires c =
    let f : Fits c.args.flat.now c.args.roots c.args.plan.now (length c.args.out.now) = record { file = c.requires.0; planned = c.requires.1; fits = c.requires.2 } in
    let w = c.write_forest in
    let r = ready _ f _ c.write_goals.auto.out in
    omega (arith, field_room _ f _ c.write_goals.auto.out _ _ (w.ensures r) w.auto.out)

-- what is written behind the term
abbrev rest_of_file : (c : After-field_end-rest) → Fits c.args.flat.now c.args.roots c.args.plan.now (length c.args.out.now)
rest_of_file c = record { file = c.requires.0; planned = c.requires.1; fits = c.requires.2 }

ends : (c : After-field_end-rest) (f : Fits c.args.flat.now c.args.roots c.args.plan.now (length c.args.out.now)) → c.field_end-rest.result ≡ 3 + c.args.roots * 2 + size (term f.file)
ends c f =
    let w = c.write_forest in
    from_is _ f _ c.write_goals.auto.out _ _ (w.ensures (ready _ f _ c.write_goals.auto.out)) w.auto.out _ c.field_end-rest.ensures

left_room : (c : After-field_end-rest) → c.field_end-rest.result + (3 + length (leaves (entries_of (rest_of_file c).file)) * 2) ≤ length (put_mid (3 + c.args.roots * 2) (length c.write_goals.new.out - (3 + c.args.roots * 2)) c.write_goals.new.out c.write_forest.new.out)
left_room c =
    let f = rest_of_file c in
    let w = c.write_forest in
    rest_room _ f _ c.write_goals.auto.out _ _ (w.ensures (ready _ f _ c.write_goals.auto.out)) w.auto.out _ c.field_end-rest.ensures

pub slice_bounds-write_leaves-count : goal.slice_bounds-write_leaves-count
slice_bounds-write_leaves-count c = omega (arith, left_room (goal.at.slice_bounds-write_leaves-count c).After-field_end-rest)

pub slice_bounds-write_leaves-start : goal.slice_bounds-write_leaves-start
slice_bounds-write_leaves-start c = omega (arith, left_room (goal.at.slice_bounds-write_leaves-start c).After-field_end-rest)

pub write_leaves-last-requires : goal.write_leaves-last-requires
write_leaves-last-requires c =
    let m = (goal.at.write_leaves-last-requires c).After-field_end-rest in
    let d = c.requires.0 in
    let out2 = put_mid (3 + c.args.roots * 2) (length c.write_goals.new.out - (3 + c.args.roots * 2)) c.write_goals.new.out c.write_forest.new.out in
    (rest_of d, omega (arith, left_room m, room_is c.field_end-rest.result out2), omega (arith, few_leaves d))

pub overflow_add-result : goal.overflow_add-result
overflow_add-result c =
    let m = (goal.at.overflow_add-result c).After-field_end-rest in
    let d = c.requires.0 in
    omega (arith, (c.write_leaves-last.ensures (rest_of d)).0, ends m (rest_of_file m), term_small d, few_leaves d, few_roots d)

pub returns : goal.returns
returns c =
    let m = (goal.at.returns c).After-field_end-rest in
    let w = c.write_forest in
    λ d planned fits.
    let f : Fits c.args.flat.now c.args.roots c.args.plan.now (length c.args.out.now) = record { file = d; planned = planned; fits = fits } in
    let k = c.write_leaves-last.ensures (rest_of d) in
    file_bytes d (3 + c.args.roots * 2) _ _ _ c.field_end-rest.result c.args.out.now _ _ _ _ _ refl (ends m f) c.write_goals.ensures (w.ensures (ready _ f _ c.write_goals.auto.out)) refl k.0 k.1 refl
