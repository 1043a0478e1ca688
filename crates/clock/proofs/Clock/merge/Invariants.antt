-- The places passed have the larger number of each pair, the others are still the first clock's.
use Rattle.std.proofs.Common.{◌≡◌, max, ℕ}
use Rattle.theory_lists.specs.Replaced.{up_to}
use Rattle.clock.specs.Clock.{number}
use Rattle.clock.proofs.Clock.merge.Given as goal

abbrev pub invariant-loop-k : goal.invariant-loop-k
invariant-loop-k l = l.number-items ≡ up_to (λ (k : ℕ). max (number l.fn.self k) (number l.other k)) l.k l.fn.self.n
