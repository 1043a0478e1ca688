use Rattle.std.proofs.Common.{rules}
use Rattle.theory_lists.specs.Or.{listed}
use Rattle.clock.proofs.Numbers.{each_or}
use Rattle.clock.proofs.ClockBitOr.bitor.Goals as goal

pub returns : goal.returns
unfolding listed
returns c = each_or c.args.self c.args.other (search rules) (search rules)
