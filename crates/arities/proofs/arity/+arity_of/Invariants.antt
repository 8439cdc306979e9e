-- What is left of the file decreases: an inner term stands further on.
use Rattle.std.proofs.Common.{◌-◌, length}
use Rattle.arities.proofs.arity.+arity_of.Given as goal

abbrev pub decreases-arity_of : goal.decreases-arity_of
decreases-arity_of l = length l.src.now - l.at
