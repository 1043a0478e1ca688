-- An engine that meets the event's promise runs as the rule does, and a run from a sound table has sound tables only.
-- Assumes nothing.
use Rattle.std.specs.Prelude.{◌≡◌, refl, true, List, [], ◌∷◌, map}
use Rattle.desk.specs.declared.Event.{Event}
use Rattle.theory_lists.specs.Test.{every, both}
use Rattle.table.specs.declared.Outcome.{Outcome}
use Rattle.table.specs.declared.Table.{Table}
use Rattle.table.specs.Choice.{Engine, run, Meets, run_on}
use Rattle.table.specs.Room.{Room, event-room}
use Rattle.table.specs.Rules.{event_rule}
use Rattle.table.specs.Sound.{table_sound}
use Rattle.table.proofs.Kept.{event-sound}

pub run_is : (E : Engine) → Meets E → (t : Table) (es : List Event) → Room t → run E t es ≡ run event_rule t es
run_is = run_on Room event-room

-- a run that starts from a sound table has sound tables only: soundness need be tested but once
pub run_sound : (t : Table) (es : List Event) → Room t → table_sound t ≡ true
    → every (map (λ (o : Outcome). table_sound o.after) (run event_rule t es)) ≡ true
unfolding run every
run_sound t [] z ok = refl
run_sound t (e ∷ es) z ok =
    both (event-sound t e z ok) (run_sound (event_rule t e).after es (event-room t e z) (event-sound t e z ok))
