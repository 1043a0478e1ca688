-- The sum is that of the cells passed.
use Rattle.std.proofs.Common.{◌≡◌}
use Rattle.desk.specs.Desk.{cell_at, place_at}
use Rattle.desk_sums.specs.Rows.{used_sum}
use Rattle.desk_sums.proofs.rows.used_sum.Given as goal

abbrev pub invariant-loop-c : goal.invariant-loop-c
invariant-loop-c l = l.sum ≡ used_sum (place_at l.t) (cell_at l.cells) l.d l.fn.s (l.c)
