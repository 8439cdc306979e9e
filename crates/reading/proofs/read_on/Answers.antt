-- `reading::read_on` meets its contract: each turn of the loop is one step of `Reaches`, from the header that the reader finds at the place of the state.
-- Assumes nothing.
use mathlib.Core.Path.{◌≡◌, ap, ◌∙◌}
use mathlib.Core.List.{List}
use Prim.Native.Nat.{ℕ}
use native.Mathlib.Omega.{arith}
use lib.ListN.{length}
use Rattle.std.proofs.Common.{rules}
use Rattle.format.specs.Headers.{header_at}
use Rattle.format.specs.Shapes.{header_shape}
use Rattle.parts.specs.declared.state.Mode.TheVariants.{Reads}
use Rattle.reading.specs.Reading.{none, more}
use Rattle.reading.proofs.TurnLaws.{inside}
use Rattle.reading.proofs.ReachLaws.{reads_at}
use Rattle.reading.proofs.read_on.Goals as goal

pub loop-reader-init : goal.loop-reader-init
loop-reader-init c =
    let e = c.new-reader.ensures in
    record { reached = none; reading = c.requires; file = (λ j. (e.0 j).now); at = e.1; end = e.2 }

pub header-header-requires : goal.header-header-requires
header-header-requires c =
    let i = c.loop-reader.invariant in
    let k = inside _ _ _ _ i.reading.going in
    (omega (arith, k, i.at, i.end), omega (arith, k, i.end, ap (λ (s : List ℕ). length s) i.file))

pub turn-x-requires : goal.turn-x-requires
turn-x-requires c =
    let i = c.loop-reader.invariant in
    let reads : c.loop-reader.x.mode ≡ Reads = search rules in
    reads_at _ _ _ _ _ i.reading reads (c.header-header.ensures ∙ (λ j. header_shape (header_at (i.file j) (i.at j) (i.end j) ((c.number.ensures ∙ c.low.ensures) j) ((c.number-in-loop-reader.ensures ∙ c.high.ensures) j) (c.is_full.ensures j))))

pub loop-reader-preserved : goal.loop-reader-preserved
loop-reader-preserved c =
    let i = c.loop-reader.invariant in
    let reads : c.loop-reader.x.mode ≡ Reads = search rules in
    let step = c.turn-x.ensures in
    let e = c.to-reader.ensures in
    record {
      reached = more _ _ _ _ i.reached reads step;
      reading = step.reading;
      file = (λ j. (e.0 j).now) ∙ i.file;
      at = e.1;
      end = e.2;
    }
