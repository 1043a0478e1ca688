-- The test over all numbers is what the flag says so far, with what is left.
use Rattle.std.proofs.Common.{◌≡◌, drop, ◌&&◌}
use Rattle.theory_lists.specs.Each.{map_at}
use Rattle.theory_lists.specs.Test.{every}
use Rattle.clock.specs.Clock.{zero_past}
use Rattle.clock.proofs.Clock.within.Given as goal

abbrev pub invariant-loop-place : goal.invariant-loop-place
invariant-loop-place l =
    every (map_at (zero_past l.desks) l.fn.self.n) ≡ (l.rest_zero && every (drop l.place (map_at (zero_past l.desks) l.fn.self.n)))
