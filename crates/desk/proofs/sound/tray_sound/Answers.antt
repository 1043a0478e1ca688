use Rattle.std.proofs.Common.{◌≡◌, refl, sym, length, rules, arith}
use Rattle.theory_lists.specs.Each.{length-mapped}
use Rattle.theory_lists.specs.Test.{map_at-turn, map_at-end}
use Rattle.desk.specs.Desk.{no_place}
use Rattle.desk.specs.Sound.{counts_sound, place_sound, tray_sound}
use Rattle.desk.proofs.sound.tray_sound.Goals as goal

pub loop-c-init : goal.loop-c-init
unfolding counts_sound
loop-c-init c = refl

pub loop-c-preserved : goal.loop-c-preserved
loop-c-preserved c =
    let t = c.args.t in
    let long : length t.places ≡ 32 = search (rules, length-mapped) in
    rw c.place_sound-ok.ensures (map_at-turn (place_sound t.counts) t.places no_place c.loop-c.c c.loop-c.ok (omega arith) c.loop-c.invariant)

pub returns : goal.returns
unfolding tray_sound
returns c =
    let t = c.args.t in
    let long : length t.places ≡ 32 = search (rules, length-mapped) in
    sym (map_at-end (place_sound t.counts) t.places no_place c.loop-c.c c.loop-c.ok (omega arith) c.loop-c.invariant)
