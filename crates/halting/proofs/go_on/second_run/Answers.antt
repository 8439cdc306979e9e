-- `go_on::second_run` meets its contract: by whether the steps were run again.
-- Assumes nothing.
use native.Mathlib.Omega.{arith}
use Rattle.halting.proofs.ComesLaws.{refusal_comes}
use Rattle.halting.proofs.AgainLaws.{again_refused, ran_again}
use Rattle.halting.proofs.go_on.second_run.Goals as goal

pub go_on-requires : goal.go_on-requires
go_on-requires c = record {
  space = omega (arith, c.requires.0, c.run_again.auto.work);
  lent = c.requires.1;
  again = ran_again _ _ _ _ _ _ c.run_again.ensures _ c.in-Ok.is;
}

pub returns-in-Err : goal.returns-in-Err
returns-in-Err c = refusal_comes _ _ _ _ _ (again_refused _ _ _ _ _ _ c.run_again.ensures _ c.in-Err.is) c.refused.ensures
