use Rattle.std.proofs.Common.{◌≡◌, ◌<◌, length, rules, arith}
use Rattle.theory_lists.specs.Each.{length-mapped}
use Rattle.desk_step.proofs.Steps.{event_room, own-does}
use Rattle.desk_step.proofs.own.Goals as goal

pub returns : goal.returns
returns c =
    let v = c.args.v.now in
    let long : length v.row ≡ 32 = search (rules, length-mapped) in
    let i : c.args.e.cell < length v.row = omega (arith, long, (event_room v c.args.e c.requires).1) in
    rw (c.asked_message.ensures, c.own-reply.ensures.reply, c.own-reply.ensures.seat, c.own-reply.ensures.cell, c.change_of-change.ensures, c.kept_by-kept.ensures)
    (own-does v c.args.e c.requires i)
