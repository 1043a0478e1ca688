-- The sum is that of the cells passed.
use Rattle.std.proofs.Common.{◌≡◌}
use Rattle.desk.specs.Desk.{cell_at}
use Rattle.desk_sums.specs.Rows.{past_sum}
use Rattle.desk_sums.proofs.rows.past_sum.Given as goal

abbrev pub invariant-loop-x : goal.invariant-loop-x
invariant-loop-x l = l.sum ≡ past_sum (cell_at l.cells) 0 l.fn.s l.x-index
