-- Every event keeps a sound table sound.
-- Assumes nothing.
use Rattle.std.specs.Prelude.{◌≡◌, true}
use Rattle.desk.specs.declared.Event.{Event}
use Rattle.table.specs.declared.Outcome.{Outcome}
use Rattle.table.specs.declared.Table.{Table}
use Rattle.table.specs.Kept.{take-kept, bring-kept, own-kept}
use Rattle.table.specs.Room.{Room}
use Rattle.table.specs.RuleLaws.{each-event}
use Rattle.table.specs.Rules.{event_rule}
use Rattle.table.specs.Sound.{table_sound}
use Rattle.table.specs.SoundLaws.{TableRule, table-rule, rule-table}

-- ---- the theorem
pub event-sound : (t : Table) (e : Event) → Room t → table_sound t ≡ true → table_sound (event_rule t e).after ≡ true
event-sound t e z ok =
    rule-table (event_rule t e).after
    (each-event (λ (o : Outcome). TableRule o.after) t e z.sized (table-rule t z.sized ok) (take-kept t e z) (bring-kept t e z) (own-kept t e z))
