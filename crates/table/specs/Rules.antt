-- The owner rules on the whole table. A desk's own events are the desk's rule on its record; take is the keeper's serve and bring the desk's
-- bring, with the slot as the message.
-- Assumes nothing.
use Rattle.std.specs.Prelude.{not, cond, List, ◌∷◌, ◌++◌, ℕ, eqb}
use Rattle.desk.specs.declared.Event.{Event}
use Rattle.desk.specs.declared.Message.{Message}
use Rattle.desk.specs.declared.Record.{Record}
use Rattle.desk.specs.declared.Slot.{Slot}
use Rattle.desk.specs.declared.Step.{Step}
use Rattle.desk.specs.Rules.{with_slot, with_seat, refused_reply, slot_message, place_lines, seat_lines, event_done, serve_done, bring_done}
use Rattle.theory_refusals.specs.Refusals.{Line, first_of, unless}
use Rattle.table.specs.declared.Outcome.{Outcome}
use Rattle.table.specs.declared.Table.{Table}
use Rattle.table.specs.Sound.{table_sound}
use Rattle.table.specs.Table.{seat_of, slot_of, keeper_for, record_of, put_back}

-- the refusals, in the order of 01's table
unfoldable pub lines : Table → Event → List Line
lines t e =
    (9, not (table_sound t))
    ∷ place_lines t.tray.counts e
    ++ seat_lines t.tray e.desk (seat_of t e.desk) e

unfoldable pub refusal : Table → Event → ℕ
refusal t e = first_of (lines t e)

-- what a desk's step makes of the table
unfoldable pub outcome : Table → Step → Outcome
outcome t s = record { reply = s.reply; after = put_back t s.after }

-- a desk's slot as a message
unfoldable pub message_of : Table → ℕ → Message
message_of t desk = slot_message (record_of t desk) (slot_of t desk)

-- 1 Read, 2 Write, 5 Drop
unfoldable pub own_rule : Table → Event → Outcome
own_rule t e = outcome t (event_done (record_of t e.desk) e)

-- 3 Take: the keeper serves the request, and the answer stands in the asker's slot
abbrev pub answer_slot : Message → Slot
answer_slot m = record { kind = m.kind; cell = m.cell; word = m.word; clock = m.clock }

abbrev pub answered : Record → Slot → Record
answered v s = with_seat v (with_slot v.seat s v.seat.served)

unfoldable pub put_answer : Table → ℕ → Message → Table
put_answer t desk m = put_back t (answered (record_of t desk) (answer_slot m))

unfoldable pub keeper_step : Table → ℕ → Step
keeper_step t desk = serve_done (record_of t (keeper_for t desk)) (message_of t desk)

unfoldable pub take_rule : Table → ℕ → Outcome
take_rule t desk =
    record {
      reply = (keeper_step t desk).reply;
      after = put_answer (put_back t (keeper_step t desk).after) desk (keeper_step t desk).message;
    }

-- 4 Bring: the desk receives its answer
unfoldable pub bring_rule : Table → ℕ → Outcome
bring_rule t desk = outcome t (bring_done (record_of t desk) (message_of t desk))

unfoldable pub done : Table → Event → Outcome
done t e = cond (eqb e.kind 3) (take_rule t e.desk) (cond (eqb e.kind 4) (bring_rule t e.desk) (own_rule t e))

-- "The reply is the number, value 0, count 0; the table stays as given."
abbrev pub refused_with : Table → ℕ → Outcome
refused_with t n = record { reply = refused_reply n; after = t }

unfoldable pub event_rule : Table → Event → Outcome
event_rule t e = unless (refusal t e) (refused_with t) (done t e)
