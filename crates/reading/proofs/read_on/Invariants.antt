-- `reading::read_on`: the loop keeps what was reached from the first state, and the reader at the place of the state.
use Rattle.std.proofs.Common.{◌≡◌}
use Rattle.reading.specs.Waiting.{weight}
use Rattle.reading.specs.Reading.{Reading, Reaches}
use Rattle.reading.proofs.read_on.Given as goal

abbrev pub invariant-loop-reader : goal.invariant-loop-reader
invariant-loop-reader l = record {
  reached : Reaches l.file l.base l.initial.work l.initial.x l.work l.x;
  reading : Reading l.file l.work l.base l.x;
  file : l.reader.file.now ≡ l.file;
  at : l.reader.at ≡ l.x.at;
  end : l.reader.end ≡ l.x.end;
}

abbrev pub decreases-loop-reader : goal.decreases-loop-reader
decreases-loop-reader l = weight l.file l.x
