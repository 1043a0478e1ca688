-- The places passed are as planned, and the others are empty still.
use Rattle.std.proofs.Common.{◌≡◌, replicate}
use Rattle.theory_lists.specs.Replaced.{up_to}
use Rattle.desk.specs.Desk.{no_place}
use Rattle.desk_start.proofs.Keepers.{kept_at}
use Rattle.desk_start.proofs.tray.Given as goal

abbrev pub invariant-loop-c : goal.invariant-loop-c
invariant-loop-c l = l.places ≡ up_to (kept_at l.plan.keepers) l.c (replicate 32 no_place)
