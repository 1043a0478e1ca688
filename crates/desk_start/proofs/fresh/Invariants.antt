-- Of the cells passed, the desk holds those that it keeps.
use Rattle.std.proofs.Common.{◌≡◌}
use Rattle.desk.specs.StartInPlace.{kept_to}
use Rattle.desk_start.proofs.Cleared.{cleared}
use Rattle.desk_start.proofs.fresh.Given as goal

abbrev pub invariant-loop-c : goal.invariant-loop-c
invariant-loop-c l = l.v ≡ kept_to (cleared l.fn.t l.desk) l.c
