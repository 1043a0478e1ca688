-- One cell more is what `past_next` says.
use Rattle.std.proofs.Common.{sym, zero-le}
use Rattle.desk.specs.Desk.{cell_at}
use Rattle.desk_sums.specs.Rows.{past-none, past_next}
use Rattle.desk_sums.proofs.rows.past_sum.Goals as goal

pub loop-x-init : goal.loop-x-init
loop-x-init c = sym (past-none (cell_at c.args.cells.now) c.args.s 0)

pub loop-x-preserved : goal.loop-x-preserved
loop-x-preserved c =
    let more = past_next (cell_at c.args.cells.now) c.args.s 0 c.loop-x.x-index zero-le in
    cc
