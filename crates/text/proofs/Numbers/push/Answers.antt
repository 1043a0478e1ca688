-- Zeros stand behind the number that is put in.
-- Assumes nothing.
use Rattle.std.proofs.Common.{arith}
use Rattle.text.specs.Zeros.{one-more}
use Rattle.text.proofs.Numbers.push.Goals as goal

pub invariant_of-self : goal.invariant_of-self
invariant_of-self c = one-more c.self.inside.count c.self.inside.n c.args.n (omega (arith, c.self.invariant.most)) c.self.invariant
