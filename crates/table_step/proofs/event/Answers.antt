-- A table that is not sound is refused with 9.
use Rattle.std.proofs.Common.{refl, sym}
use Rattle.table.specs.Turn.{not_sound}
use Rattle.table_step.proofs.event.Goals as goal

pub returns-then-not-sound : goal.returns-then-not-sound
returns-then-not-sound c = rw (c.refused.ensures, c.number.ensures, not_sound c.args.t.now c.args.e (sym c.if-not-sound.ensures)) (refl, refl)
