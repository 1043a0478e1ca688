-- Each of the cells passed is held by its keeper.
use Rattle.std.proofs.Common.{◌≡◌}
use Rattle.table.specs.SetUpInPlace.{kept_to}
use Rattle.table_set_up.proofs.Cleared.{cleared}
use Rattle.table_set_up.proofs.fresh.Given as goal

abbrev pub invariant-loop-c : goal.invariant-loop-c
invariant-loop-c l = l.t ≡ kept_to (cleared l.fn.x) l.c
