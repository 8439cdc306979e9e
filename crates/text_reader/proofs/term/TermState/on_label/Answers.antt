-- `TermState::on_label` meets its contract: it takes everything, and its header and value come in front.
-- Assumes nothing.
use mathlib.Core.Path.{◌≡◌, ◌∙◌}
use mathlib.Core.List.{List}
use Prim.Native.Nat.{ℕ, ◌+◌, ◌*◌, ◌≤◌}
use lib.ListN.{length}
use native.Mathlib.Omega.{arith}
use Rattle.format.specs.Terms.{Term}
use Rattle.notation.specs.FromRight.{Frame, reduced_term, reduced_frames}
use Rattle.text_reader.specs.Held.{waits, ShownHad}
use Rattle.text_reader.proofs.StoreLaws.{had_lengths, label_front, shown_label, word-put}
use Rattle.text_reader.proofs.term.TermState.on_label.Goals as goal

-- the header and the value fit in front of the terms that are taken
label_fits : (t : Term) (fs : List Frame) (w o o' : List ℕ) (front stop low front' stop' low' : ℕ) → length o' ≡ length o → ShownHad t fs w o front stop low → 3 * waits fs + 5 ≤ front
    → ShownHad (reduced_term 0 t fs) (reduced_frames 0 fs) w o' front' stop' low' → (5 ≤ front') × (front' ≤ stop') × (stop' ≤ length o)
label_fits t fs w o o' front stop low front' stop' low' e x h y =
    let l = had_lengths (reduced_term 0 t fs) (reduced_frames 0 fs) w o' front' stop' low' y in
    (label_front t fs w o o' front stop low front' stop' low' e x h y, omega (arith, l.1), omega (arith, l.0, l.1, e))

pub reduce-here-requires : goal.reduce-here-requires
reduce-here-requires c = let q = c.requires in let p = q.2 in let h = p.3 in (q.0, q.1, (p.0, p.1, p.2, omega arith))

pub overflow_sub-len : goal.overflow_sub-len
overflow_sub-len c =
    let p = c.requires.2 in
    let fits = label_fits _ _ _ _ _ _ _ _ _ _ _ c.reduce-here.auto.out p.2 p.3 (c.reduce-here.ensures.shown_had p.0 p.1 p.2 (omega arith)) in
    omega (arith, fits.1)

pub overflow_add-len : goal.overflow_add-len
overflow_add-len c =
    let p = c.requires.2 in
    let fits = label_fits _ _ _ _ _ _ _ _ _ _ _ c.reduce-here.auto.out p.2 p.3 (c.reduce-here.ensures.shown_had p.0 p.1 p.2 (omega arith)) in
    omega (arith, fits.2, c.requires.1)

pub overflow_sub-front : goal.overflow_sub-front
overflow_sub-front c =
    let p = c.requires.2 in
    let fits = label_fits _ _ _ _ _ _ _ _ _ _ _ c.reduce-here.auto.out p.2 p.3 (c.reduce-here.ensures.shown_had p.0 p.1 p.2 (omega arith)) in
    omega (arith, fits.0)

pub put_value-requires : goal.put_value-requires
put_value-requires c =
    let p = c.requires.2 in
    let fits = label_fits _ _ _ _ _ _ _ _ _ _ _ c.reduce-here.auto.out p.2 p.3 (c.reduce-here.ensures.shown_had p.0 p.1 p.2 (omega arith)) in
    omega (arith, fits.0, fits.1, fits.2, c.reduce-here.auto.out)

pub overflow_sub-front-2 : goal.overflow_sub-front-2
overflow_sub-front-2 c =
    let p = c.requires.2 in
    let fits = label_fits _ _ _ _ _ _ _ _ _ _ _ c.reduce-here.auto.out p.2 p.3 (c.reduce-here.ensures.shown_had p.0 p.1 p.2 (omega arith)) in
    omega (arith, fits.0)

pub put_header-requires : goal.put_header-requires
put_header-requires c =
    let p = c.requires.2 in
    let fits = label_fits _ _ _ _ _ _ _ _ _ _ _ c.reduce-here.auto.out p.2 p.3 (c.reduce-here.ensures.shown_had p.0 p.1 p.2 (omega arith)) in
    (omega (arith, fits.0, fits.1, fits.2, c.reduce-here.auto.out, c.put_value.auto.out), omega (arith, fits.0, fits.1, fits.2, c.requires.1))

pub overflow_sub-result : goal.overflow_sub-result
overflow_sub-result c =
    let p = c.requires.2 in
    let fits = label_fits _ _ _ _ _ _ _ _ _ _ _ c.reduce-here.auto.out p.2 p.3 (c.reduce-here.ensures.shown_had p.0 p.1 p.2 (omega arith)) in
    omega (arith, fits.0)

pub returns : goal.returns
returns c =
    let p = c.requires.2 in
    let fits = label_fits _ _ _ _ _ _ _ _ _ _ _ c.reduce-here.auto.out p.2 p.3 (c.reduce-here.ensures.shown_had p.0 p.1 p.2 (omega arith)) in
    λ t fs x h.
    let y = c.reduce-here.ensures.shown_had t fs x (omega arith) in
    shown_label _ _ _ _ _ _ _ _ _ y fits.0 (c.put_header.auto.out ∙ c.put_value.auto.out) (word-put _ _ _ _ _ _ _ fits.0 c.put_value.ensures c.put_header.ensures)
