-- The tray's cells are swept as a part of the row, which is put back.
use Rattle.std.proofs.Common.{◌≡◌, length, refl, ap, rules, arith}
use Rattle.theory_lists.specs.Each.{length-mapped}
use Rattle.desk.specs.Desk.{is_lost, no_cell, past_cell}
use Rattle.desk.specs.InPlace.{lost_to, loss_to}
use Rattle.desk.specs.Rules.{with_row}
use Rattle.desk_acts.proofs.Losing.{swept-part, count-part}
use Rattle.desk_step.proofs.lose.Goals as goal

pub returns-clause-count : goal.returns-clause-count
unfolding loss_to
returns-clause-count c =
    let v = c.args.v.now in
    let n = v.tray.counts.cells in
    let long : length v.row ≡ 32 = search (rules, length-mapped) in
    count-part (is_lost v.tray v.desk c.args.learnt) no_cell past_cell 0 n n v.row refl (omega (arith, long, c.requires)) _ c.lose.ensures.count

pub returns-clause-left : goal.returns-clause-left
unfolding lost_to
returns-clause-left c =
    let v = c.args.v.now in
    let n = v.tray.counts.cells in
    let long : length v.row ≡ 32 = search (rules, length-mapped) in
    ap (with_row v)
    (swept-part (is_lost v.tray v.desk c.args.learnt) no_cell past_cell 0 n n v.row refl (omega (arith, long, c.requires)) _ c.lose.ensures.left)
