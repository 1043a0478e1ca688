-- Either nothing is printed before the end, or what `run` leaves.
-- Assumes nothing.
use Rattle.std.proofs.Common.{[], arith}
use Rattle.std.proofs.lemmas.Result.{err_from_is_err_and}
use Rattle.text_print.specs.Page.{prints_none}
use Rattle.script.specs.Stops.{ending}
use Rattle.script.proofs.follow.Goals as goal

pub returns-in_err-table : goal.returns-in_err-table
unfolding ending
returns-in_err-table c =
    let stop = c.in_err-table.ensures in
    let p = err_from_is_err_and c.from_residual.result c.from_residual.ensures.1 in
    rw (p.1, p.2)
    (record { done = []; prints = prints_none c.args.page.now; answers = stop.0; room = omega (arith, c.requires.blank.empty, stop.1) })
