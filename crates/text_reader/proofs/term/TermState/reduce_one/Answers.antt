-- `TermState::reduce_one` meets its contract: the header in front of two terms makes their pair.
-- Assumes nothing.
use mathlib.Core.Path.{refl}
use native.Mathlib.Omega.{arith}
use Rattle.text_reader.proofs.StoreLaws.{frame_below, end_is, took}
use Rattle.text_reader.proofs.term.TermState.reduce_one.Goals as goal

pub bounds-work-low : goal.bounds-work-low
bounds-work-low c = let l = c.requires in let p = l.3 in omega (arith, frame_below _ _ _ _ _ _ _ _ _ p.4, l.1)

pub overflow_add-low : goal.overflow_add-low
overflow_add-low c = let l = c.requires in let p = l.3 in omega (arith, frame_below _ _ _ _ _ _ _ _ _ p.4, l.1)

pub load16-end-requires : goal.load16-end-requires
load16-end-requires c = let l = c.requires in let p = l.3 in omega (arith, frame_below _ _ _ _ _ _ _ _ _ p.4, l.1)

pub overflow_sub-end : goal.overflow_sub-end
overflow_sub-end c = let p = c.requires.3 in omega (arith, end_is _ _ _ _ _ _ _ _ _ p.4 _ c.load16-end.ensures)

pub overflow_add-result : goal.overflow_add-result
overflow_add-result c = let p = c.requires.3 in omega (arith, frame_below _ _ _ _ _ _ _ _ _ p.4)

pub returns : goal.returns
returns c =
    let l = c.requires in
    let p = l.3 in
    record { shown_had = (λ t s u fs x. took t s u fs _ _ _ _ _ x _ _ _ l.0 refl c.load16-end.ensures c.put_header.auto.out c.put_header.ensures); front_value = (omega (arith, l.0), refl, frame_below _ _ _ _ _ _ _ _ _ p.4) }
