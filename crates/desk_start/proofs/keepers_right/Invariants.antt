-- The test of all keepers is what the flag says so far, with what is left of them.
use Rattle.std.proofs.Common.{◌≡◌, drop, ◌&&◌}
use Rattle.theory_lists.specs.Each.{map_at}
use Rattle.theory_lists.specs.Test.{every}
use Rattle.desk.specs.Start.{keeper_right}
use Rattle.desk_start.proofs.keepers_right.Given as goal

abbrev pub invariant-loop-c : goal.invariant-loop-c
invariant-loop-c l =
    every (map_at (keeper_right l.plan.desks l.plan.cells) l.plan.keepers)
    ≡ (l.right && every (drop l.c (map_at (keeper_right l.plan.desks l.plan.cells) l.plan.keepers)))
