-- The seat and the cell that are lent come back as an own event makes them.
use Rattle.std.proofs.Common.{◌≡◌, length, rules, arith}
use Rattle.table_step.proofs.Put.{own-told}
use Rattle.table_step.proofs.own.Goals as goal

pub returns : goal.returns
returns c =
    let t = c.args.t.now in
    let seats : length t.seats ≡ 8 = search rules in
    let cells : length t.cells ≡ 256 = search rules in
    own-told t c.args.d c.args.c c.args.e (omega arith) (omega arith) c.at.result c.kept_by-kept.result c.own.result c.own.new.seat c.own.new.cell
    c.at.ensures c.kept_by-kept.ensures c.own.ensures.reply c.own.ensures.seat c.own.ensures.cell
