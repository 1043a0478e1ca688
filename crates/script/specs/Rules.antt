-- The table's rules as the script sees them: numbers in, numbers out.
-- Assumes nothing.
use Rattle.std.specs.Prelude.{List, [], ◌∷◌, ℕ, get_or}
use Rattle.desk.specs.declared.Event.{Event}
use Rattle.table.specs.declared.Table.{Table}
use Rattle.table.specs.Rules.{event_rule}
use Rattle.table.specs.SetUp.{set_up_rule}

-- "kind, desk, cell, word"
unfoldable pub event_of : List ℕ → Event
event_of ns = record { kind = get_or ns 0 0; desk = get_or ns 1 0; cell = get_or ns 2 0; word = get_or ns 3 0 }

unfoldable pub set_up : ℕ → ℕ → List ℕ → ℕ × Table
set_up desks cells keepers =
    let made = set_up_rule (record { desks = desks; cells = cells; keepers = keepers }) in
    (made.code, made.table)

-- "code, value, count"
unfoldable pub event : Table → List ℕ → List ℕ × Table
event t ns =
    let o = event_rule t (event_of ns) in
    (o.reply.code ∷ o.reply.value ∷ o.reply.count ∷ [], o.after)
