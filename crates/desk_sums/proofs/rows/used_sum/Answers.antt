-- One cell more is what `used-next` says.
use Rattle.std.proofs.Common.{sym}
use Rattle.desk.specs.Desk.{cell_at, place_at}
use Rattle.desk_sums.specs.Rows.{used-none, used-next}
use Rattle.desk_sums.proofs.rows.used_sum.Goals as goal

pub loop-c-init : goal.loop-c-init
loop-c-init c = sym (used-none (place_at c.args.t.now) (cell_at c.args.cells.now) c.args.d c.args.s)

pub loop-c-preserved : goal.loop-c-preserved
loop-c-preserved c =
    let more = used-next (place_at c.args.t.now) (cell_at c.args.cells.now) c.args.d c.args.s c.loop-c.c in
    cc
