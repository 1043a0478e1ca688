-- The sum is that of the rows passed.
use Rattle.std.proofs.Common.{◌≡◌}
use Rattle.desk.specs.Desk.{cell_at}
use Rattle.desk_sums.specs.Rows.{cells_sum}
use Rattle.table_sound.proofs.cells_sum.Given as goal

abbrev pub invariant-loop-d : goal.invariant-loop-d
invariant-loop-d l = l.sum ≡ cells_sum l.t (cell_at l.cells) l.d
