-- The tests of the counts and of all places are what the flag says so far, with the places that are left.
use Rattle.std.proofs.Common.{◌≡◌, drop, ◌&&◌}
use Rattle.theory_lists.specs.Each.{map_at}
use Rattle.theory_lists.specs.Test.{every}
use Rattle.desk.specs.Sound.{counts_sound, place_sound}
use Rattle.desk.proofs.sound.tray_sound.Given as goal

abbrev pub invariant-loop-c : goal.invariant-loop-c
invariant-loop-c l =
    (counts_sound l.fn.t.counts && every (map_at (place_sound l.fn.t.counts) l.fn.t.places))
    ≡ (l.ok && every (drop l.c (map_at (place_sound l.fn.t.counts) l.fn.t.places)))
