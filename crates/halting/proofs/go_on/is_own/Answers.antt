-- `go_on::is_own` meets its contract: by whether a state was saved.
-- Assumes nothing.
use Rattle.halting.proofs.CompareLaws.{none_end, none_kept, compare_given, some_end, some_kept}
use Rattle.halting.proofs.go_on.is_own.Goals as goal

pub same_state-requires : goal.same_state-requires
same_state-requires c = compare_given _ _ _ c.args.saved.now c.requires _ _ c.save.ensures _ c.in-Some.is

pub returns-in-Some : goal.returns-in-Some
returns-in-Some c = record {
  value = some_end _ _ _ _ c.requires _ _ c.save.ensures _ c.in-Some.is _ c.same_state.ensures;
  kept = some_kept _ _ _ c.args.saved.now c.requires _ _ c.save.ensures _ c.in-Some.is;
}

pub returns-in-None : goal.returns-in-None
returns-in-None c = record {
  value = none_end _ _ _ _ c.requires _ _ c.save.ensures c.in-None.is;
  kept = none_kept _ _ _ c.args.saved.now c.requires _ _ c.save.ensures c.in-None.is;
}
