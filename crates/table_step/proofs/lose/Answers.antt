-- What is swept of the cells that are lent is swept where they lie.
use Rattle.std.proofs.Common.{◌≡◌, ◌+◌, ◌-◌, ◌*◌, ◌≤◌, List, length, ap, rules, arith}
use Rattle.desk.specs.declared.Cell.{Cell}
use Rattle.desk.specs.Desk.{is_lost, no_cell, past_cell}
use Rattle.desk_acts.proofs.Losing.{swept-part, count-part}
use Rattle.table.specs.declared.Table.{Table}
use Rattle.table.specs.Changes.{lost_to, loss_to}
use Rattle.table_step.proofs.lose.Goals as goal

pub returns : goal.returns
unfolding lost_to loss_to
returns c =
    let t = c.args.t.now in
    let d = c.args.d in
    let n = t.tray.counts.cells in
    let all : length t.cells ≡ 256 = search rules in
    let part : d * 32 + n - d * 32 ≡ n = omega arith in
    let room : d * 32 + n ≤ length t.cells = omega arith in
    let put : List Cell → Table = λ l. record { cells = l; tray = t.tray; seats = t.seats } in (
      count-part (is_lost t.tray d c.args.learnt) no_cell past_cell (d * 32) n (d * 32 + n - d * 32) t.cells part room c.lose.result c.lose.ensures.count,
      ap put (swept-part (is_lost t.tray d c.args.learnt) no_cell past_cell (d * 32) n (d * 32 + n - d * 32) t.cells part room c.lose.new.cells c.lose.ensures.left),
    )
