-- What is stored, and what the sweep leaves, is what the definitions make of it.
use Rattle.std.proofs.Common.{◌≡◌, length, rules}
use Rattle.theory_lists.specs.Each.{length-mapped}
use Rattle.desk_step.proofs.Steps.{take-does, read-does}
use Rattle.desk_step.proofs.take.Goals as goal

pub returns-then-m : goal.returns-then-m
returns-then-m c =
    let long : length c.args.v.now.row ≡ 32 = search (rules, length-mapped) in
    rw c.served_answer.ensures (read-does c.args.v.now c.args.m c.requires long c.if-m.true)

pub returns : goal.returns
returns c =
    let long : length c.lose-count.new.v.row ≡ 32 = search (rules, length-mapped) in
    let is = rw (c.store.ensures.0, c.store.ensures.1, c.took-s.ensures) at c.lose-count.ensures.left in
    rw (c.served_answer-2.ensures, c.lose-count.ensures.count, c.store.ensures.0, c.store.ensures.1, c.took-s.ensures)
    (take-does c.args.v.now c.args.m c.requires c.lose-count.new.v is long c.if-m.false)
