-- What has to be shown of each event of the table's rules, refused or not: it is a move of the machine, and its reply gives what the history says.
-- Assumes nothing.
use Rattle.std.specs.Prelude.{◌≡◌, List, ℕ, length}
use Rattle.theory_causal.specs.History.{read, Step}
use Rattle.theory_causal.specs.Machine as machine
use Rattle.desk.specs.declared.Event.{Event}
use Rattle.desk.specs.declared.Reply.{Reply}
use Rattle.table.specs.declared.Outcome.{Outcome}
use Rattle.table.specs.declared.Table.{Table}
use Rattle.table.specs.Room.{Room}
use Rattle.theory_promise.specs.Moves.{Moved}
use Rattle.theory_promise.specs.Operations.{words, Trails, entry, Shows}
use Rattle.theory_promise.specs.State.{state}

-- the reply to an event that finished a read gives the word and the source that the history has
abbrev pub Tied : Step words → Reply → Type 0
Tied s r = s.kind ≡ read → Shows r s.word s.source

module _ {h : List (Step words)} (t : Table) (g : Trails) (z : Room t) (r : machine.Run h (state t g)) where
  abbrev pub n : ℕ
  n = length h

  -- what has to be shown of an event and its outcome
  pub record Linked (e : Event) (o : Outcome) : Type 0 where
    pub moved : Moved n t g o.after (entry n g t e o.reply).1 (entry n g t e o.reply).0
    pub tied : Tied (entry n g t e o.reply).0 o.reply
