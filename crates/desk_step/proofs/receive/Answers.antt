-- The named cell goes, the others are swept, and then it is there again, as the definitions say it.
use Rattle.std.proofs.Common.{◌≡◌, length, rules}
use Rattle.theory_lists.specs.Each.{length-mapped}
use Rattle.desk.specs.InPlace.{lost_to, bring_in}
use Rattle.desk.proofs.InPlace.{bring-in}
use Rattle.desk_step.proofs.receive.Goals as goal

pub returns : goal.returns
unfolding lost_to bring_in
returns c =
    let long : length c.args.v.now.row ≡ 32 = search (rules, length-mapped) in
    rw (c.brought_answer.ensures, c.home-v.ensures, c.brought.ensures, c.lose-count.ensures.count, c.lose-count.ensures.left)
    (bring-in c.args.v.now long c.args.m c.requires)
