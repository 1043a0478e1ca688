-- What one desk does: 01's "Events" for its own desk, and serving and bringing a message. Each rule is a sentence or two of 01.
-- Assumes nothing.
use Rattle.std.specs.Prelude.{Bool, false, not, ◌&&◌, ◌||◌, cond, List, [], ◌∷◌, ℕ, leb, ltb, eqb, set}
use Rattle.clock.specs.declared.Clock.{Clock}
use Rattle.clock.specs.Clock.{number, zero_clock, merged, raised, is_within}
use Rattle.theory_refusals.specs.Refusals.{Line, first_of, unless}
use Rattle.desk.specs.declared.Answer.{Answer}
use Rattle.desk.specs.declared.Cell.{Cell}
use Rattle.desk.specs.declared.Counts.{Counts}
use Rattle.desk.specs.declared.Event.{Event}
use Rattle.desk.specs.declared.Message.{Message}
use Rattle.desk.specs.declared.Record.{Record}
use Rattle.desk.specs.declared.Reply.{Reply}
use Rattle.desk.specs.declared.Seat.{Seat}
use Rattle.desk.specs.declared.Slot.{Slot}
use Rattle.desk.specs.declared.Step.{Step}
use Rattle.desk.specs.declared.Tray.{Tray}
use Rattle.desk.specs.Desk.{Word, no_word, is_blank, no_cell, no_slot, no_message, cell_at, one_if, keeps, held_cell, is_copy, left_of, loss_of}
use Rattle.desk.specs.Desk.{waits, is_asked, is_answered, answer_kind, answers_asked, is_own}
use Rattle.desk.specs.Sound.{word_fits, sent_fits, is_sound}

-- ---- what may happen to a seat and to a record; every other field stays
abbrev pub with_clock : Seat → Clock → Seat
with_clock s k = record { clock = k; slot = s.slot; served = s.served }

abbrev pub with_slot : Seat → Slot → Bool → Seat
with_slot s slot served = record { clock = s.clock; slot = slot; served = served }

abbrev pub with_seat : Record → Seat → Record
with_seat v s = record { tray = v.tray; desk = v.desk; seat = s; row = v.row }

abbrev pub with_row : Record → List Cell → Record
with_row v row = record { tray = v.tray; desk = v.desk; seat = v.seat; row = row }

-- cell c is now x
abbrev pub holds : Record → ℕ → Cell → Record
holds v c x = with_row v (set v.row c x)

-- the desk learns a clock: it merges it and loses the copies strictly before it
abbrev pub learns : Record → Clock → Record
learns v x = with_row (with_seat v (with_clock v.seat (merged v.seat.clock x))) (left_of v.tray v.desk x v.row)

-- "the word is stored, the stamp is the new clock"
abbrev pub stores : Record → ℕ → Word → Record
stores v c w = holds v c (held_cell w v.seat.clock)

-- the slot is filled or emptied, and *served* is off
abbrev pub slotted : Record → Slot → Record
slotted v s = with_seat v (with_slot v.seat s false)

-- the desk's slot as a message
abbrev pub slot_message : Record → Slot → Message
slot_message v s = record { kind = s.kind; desks = v.tray.counts.desks; desk = v.desk; cell = s.cell; word = s.word; clock = s.clock }

-- ---- replies
abbrev pub replied : ℕ → Word → ℕ → Message → Record → Step
replied code value count m v = record { reply = record { code = code; value = value; count = count }; message = m; after = v }

-- "The reply is the number, value 0, count 0"
abbrev pub refused_reply : ℕ → Reply
refused_reply n = record { code = n; value = 0; count = 0 }

-- "A refusal changes nothing in the record and gives an all-zero message."
abbrev pub refused : Record → ℕ → Step
refused v n = replied n no_word 0 no_message v

-- the reply and the message; the step's record goes back to the lender
abbrev pub answer_of : Step → Answer
answer_of s = record { reply = s.reply; message = s.message }

-- "code 0 and the word, or code 2 and 0 if blank"
abbrev pub shown_code : Bool → ℕ
shown_code blank = cond blank 2 0

-- the slot is filled, *served* is off, and the request goes out
abbrev pub asks : Record → Slot → Step
asks v s = replied 1 no_word 0 (slot_message v s) (slotted v s)

abbrev pub read_asked : ℕ → Slot
read_asked c = record { kind = 1; cell = c; word = no_word; clock = zero_clock }

abbrev pub write_asked : ℕ → Word → Clock → Slot
write_asked c w sent = record { kind = 2; cell = c; word = w; clock = sent }

-- ---- 1 Read, 2 Write, 5 Drop
-- a held cell is shown and nothing changes; for another its keeper is asked
unfoldable pub read_rule : Record → ℕ → Step
read_rule v c =
    cond (cell_at v.row c).held
    (replied (shown_code (is_blank (cell_at v.row c).stamp)) (cell_at v.row c).word 0 no_message v)
    (asks v (read_asked c))

-- "the desk's clock with its own number one higher"
abbrev pub next_clock : Record → Clock
next_clock v = raised v.seat.clock v.desk

-- the keeper raises its own number and stores the word under it; another desk asks, with the clock that it would have, and keeps its own
unfoldable pub write_rule : Record → ℕ → Word → Step
write_rule v c w =
    cond (keeps v.tray v.desk c)
    (replied 0 w 0 no_message (stores (with_seat v (with_clock v.seat (next_clock v))) c w))
    (asks v (write_asked c w (next_clock v)))

-- "a copy is given up": count 1 if there was one
unfoldable pub drop_rule : Record → ℕ → Step
drop_rule v c = replied 0 no_word (one_if (is_copy v.tray v.desk c (cell_at v.row c))) no_message (holds v c no_cell)

-- the lines of 01's table from 11 on, for the desk that an event names or whose record it is. Kinds 3 and 4 are the table's.
unfoldable pub seat_lines : Tray → ℕ → Seat → Event → List Line
seat_lines t desk s e =
    (11, is_own e && not (ltb e.cell t.counts.cells))
    ∷ (12, is_own e && waits s.slot)
    ∷ (13, eqb e.kind 3 && not (is_asked s.slot) || eqb e.kind 4 && not (is_answered s.slot))
    ∷ (14, eqb e.kind 5 && keeps t desk e.cell)
    ∷ (16, eqb e.kind 2 && eqb (number s.clock desk) 4294967295)
    ∷ []

-- the table's lines 8 and 10, which look at no seat
abbrev pub place_lines : Counts → Event → List Line
place_lines n e = (8, not (leb 1 e.kind && leb e.kind 5)) ∷ (10, not (ltb e.desk n.desks)) ∷ []

-- a record's: "8 an event of another kind"; 10 is never given, since the desk is the record's own. The code looks at these parts of a record, told whether it is sound.
unfoldable pub event_lines : Bool → Tray → ℕ → Seat → Event → List Line
event_lines sound t desk s e = (9, not sound) ∷ (8, not (is_own e)) ∷ seat_lines t desk s e

abbrev pub event_refusal : Record → Event → ℕ
event_refusal v e = first_of (event_lines (is_sound v) v.tray v.desk v.seat e)

unfoldable pub event_done : Record → Event → Step
event_done v e =
    cond (eqb e.kind 1) (read_rule v e.cell)
    (cond (eqb e.kind 2) (write_rule v e.cell e.word)
    (drop_rule v e.cell))

unfoldable pub event_rule : Record → Event → Step
event_rule v e = unless (event_refusal v e) (refused v) (event_done v e)

-- ---- serve: the keeper receives a request
-- "its desk count is the record's, clock numbers past it are 0"
unfoldable pub in_tray : Tray → Message → Bool
in_tray t m = eqb m.desks t.counts.desks && is_within t.counts.desks m.clock

-- "a request by another desk below the count for a cell kept here"; a write's clock is not all zeros
unfoldable pub request_fits : Tray → ℕ → Message → Bool
request_fits t desk m =
    in_tray t m
    && sent_fits m.kind m.clock
    && (eqb m.kind 1 || eqb m.kind 2)
    && (ltb m.desk t.counts.desks && not (eqb m.desk desk))
    && keeps t desk m.cell

-- the answer to a request
abbrev pub answer_to : Message → Word → Clock → Message
answer_to m word stamp = record { kind = answer_kind m.kind; desks = m.desks; desk = m.desk; cell = m.cell; word = word; clock = stamp }

-- a read: answered with the keeper's word and stamp, and the keeper is as it was
unfoldable pub read_served : Record → Message → Step
read_served v m = replied 0 no_word 0 (answer_to m (cell_at v.row m.cell).word (cell_at v.row m.cell).stamp) v

-- "if the keeper waits, its *served* goes on"
abbrev pub marked_served : Seat → Seat
marked_served s = with_slot s s.slot (s.served || waits s.slot)

-- a write: the keeper learns the sent clock and stores the word
unfoldable pub takes : Record → Message → Record
takes v m = stores (learns (with_seat v (marked_served v.seat)) m.clock) m.cell m.word

unfoldable pub write_served : Record → Message → Step
write_served v m =
    replied 0 no_word (loss_of v.tray v.desk m.clock v.row) (answer_to m m.word (takes v m).seat.clock) (takes v m)

unfoldable pub serve_done : Record → Message → Step
serve_done v m = cond (eqb m.kind 1) (read_served v m) (write_served v m)

unfoldable pub serve_lines : Bool → Tray → ℕ → Message → List Line
serve_lines sound t desk m = (9, not sound) ∷ (15, not (request_fits t desk m)) ∷ []

abbrev pub serve_refusal : Record → Message → ℕ
serve_refusal v m = first_of (serve_lines (is_sound v) v.tray v.desk m)

unfoldable pub serve_rule : Record → Message → Step
serve_rule v m = unless (serve_refusal v m) (refused v) (serve_done v m)

-- ---- bring: the desk receives its answer
-- "an answer whose desk, cell and kind (read or write) are those asked"; it has word 0 where its stamp is all zeros
unfoldable pub answer_fits : Tray → ℕ → Slot → Message → Bool
answer_fits t desk s m = in_tray t m && word_fits m.word m.clock && (eqb m.desk desk && eqb m.cell s.cell && answers_asked s.kind m.kind)

-- "If *served* is off, the named cell is now held with the answer's word and stamp; if on, it is not held"
abbrev pub brought : Bool → Message → Cell
brought served m = cond served no_cell (held_cell m.word m.clock)

-- the desk learns the stamp; the named cell is no copy while it does, so only copies of other cells are lost
unfoldable pub brings : Record → Message → Record
brings v m = slotted (holds (learns (holds v m.cell no_cell) m.clock) m.cell (brought v.seat.served m)) no_slot

-- "Value is the word; code 0, or 2 for a read" of blank
unfoldable pub bring_done : Record → Message → Step
bring_done v m =
    replied (shown_code (eqb m.kind 3 && is_blank m.clock)) m.word
    (loss_of v.tray v.desk m.clock (set v.row m.cell no_cell)) no_message (brings v m)

unfoldable pub bring_lines : Bool → Tray → ℕ → Seat → Message → List Line
bring_lines sound t desk s m = (9, not sound) ∷ (13, not (waits s.slot)) ∷ (15, not (answer_fits t desk s.slot m)) ∷ []

abbrev pub bring_refusal : Record → Message → ℕ
bring_refusal v m = first_of (bring_lines (is_sound v) v.tray v.desk v.seat m)

unfoldable pub bring_rule : Record → Message → Step
bring_rule v m = unless (bring_refusal v m) (refused v) (bring_done v m)
