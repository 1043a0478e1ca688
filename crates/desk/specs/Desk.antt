-- The words that 01 uses of a desk, each one definition. A later request that changes a word changes it here.
-- Assumes nothing.
use Rattle.std.specs.Prelude.{Bool, true, false, not, ◌&&◌, ◌||◌, cond, List, [], ℕ, ◌+◌, ltb, eqb, get_or}
use Rattle.clock.specs.declared.Clock.{Clock}
use Rattle.clock.specs.Clock.{zero_clock, is_before, is_within}
use Rattle.theory_lists.specs.Each.{map_at}
use Rattle.theory_lists.specs.Sum.{sum}
use Rattle.desk.specs.declared.Cell.{Cell}
use Rattle.desk.specs.declared.Counts.{Counts}
use Rattle.desk.specs.declared.Event.{Event}
use Rattle.desk.specs.declared.Message.{Message}
use Rattle.desk.specs.declared.Place.{Place}
use Rattle.desk.specs.declared.Seat.{Seat}
use Rattle.desk.specs.declared.Slot.{Slot}
use Rattle.desk.specs.declared.Tray.{Tray}

-- ---- words
-- "a 32-bit word"; only a reply and a frame look inside one
abbrev pub Word : Type 0
Word = ℕ

abbrev pub no_word : Word
no_word = 0

unfoldable pub is_no_word : Word → Bool
is_no_word w = eqb w no_word

-- "a cell is blank exactly if its stamp is all zeros": of a cell, of an answered slot and of an answer. The word decides nothing.
unfoldable pub is_blank : (stamp : Clock) → Bool
is_blank stamp = is_within 0 stamp

-- ---- nothing, and what the language has past an array's end
abbrev pub no_cell : Cell
no_cell = record { held = false; word = no_word; stamp = zero_clock }

abbrev pub no_slot : Slot
no_slot = record { kind = 0; cell = 0; word = no_word; clock = zero_clock }

abbrev pub no_seat : Seat
no_seat = record { clock = zero_clock; slot = no_slot; served = false }

abbrev pub no_place : Place
no_place = record { keeper = 0 }

abbrev pub no_message : Message
no_message = record { kind = 0; desks = 0; desk = 0; cell = 0; word = no_word; clock = zero_clock }

abbrev pub past_clock : Clock
past_clock = record { n = [] }

abbrev pub past_cell : Cell
past_cell = record { held = false; word = no_word; stamp = past_clock }

abbrev pub past_seat : Seat
past_seat = record { clock = past_clock; slot = record { kind = 0; cell = 0; word = no_word; clock = past_clock }; served = false }

-- ---- what stands at a place
abbrev pub cell_at : List Cell → ℕ → Cell
cell_at row c = get_or row c past_cell

abbrev pub place_at : Tray → ℕ → Place
place_at t c = get_or t.places c no_place

abbrev pub keeper_of : Tray → ℕ → ℕ
keeper_of t c = (place_at t c).keeper

-- one where the test passes: what is summed to count
abbrev pub one_if : Bool → ℕ
one_if b = cond b 1 0

-- ---- cells
-- an entry that is not past the counts
abbrev pub is_used : Counts → ℕ → ℕ → Bool
is_used n desk c = ltb desk n.desks && ltb c n.cells

-- "A cell has a fixed keeper": the desk is the keeper of the place, and keeps cell c, whose place it is
abbrev pub kept_by : Place → ℕ → Bool
kept_by p desk = eqb p.keeper desk

abbrev pub keeps_at : Counts → Place → ℕ → ℕ → Bool
keeps_at n p desk c = ltb c n.cells && kept_by p desk

unfoldable pub keeps : Tray → ℕ → ℕ → Bool
keeps t desk c = keeps_at t.counts (place_at t c) desk c

abbrev pub held_cell : Word → Clock → Cell
held_cell word stamp = record { held = true; word = word; stamp = stamp }

-- "A copy is a held cell that the desk does not keep."
unfoldable pub is_copy : Tray → ℕ → ℕ → Cell → Bool
is_copy t desk c x = x.held && not (keeps t desk c)

-- a copy's fate when its desk learns a clock: it is lost if it is strictly before that clock
unfoldable pub is_lost : Tray → ℕ → Clock → ℕ → Cell → Bool
is_lost t desk learnt c x = is_copy t desk c x && is_before x.stamp learnt

-- what is left of a row, and how many copies were lost
abbrev pub left_at : Tray → ℕ → Clock → ℕ → Cell → Cell
left_at t desk learnt c x = cond (is_lost t desk learnt c x) no_cell x

abbrev pub loss_at : Tray → ℕ → Clock → ℕ → Cell → ℕ
loss_at t desk learnt c x = one_if (is_lost t desk learnt c x)

unfoldable pub left_of : Tray → ℕ → Clock → List Cell → List Cell
left_of t desk learnt row = map_at (left_at t desk learnt) row

unfoldable pub loss_of : Tray → ℕ → Clock → List Cell → ℕ
loss_of t desk learnt row = sum (map_at (loss_at t desk learnt) row)

-- ---- slots
-- "A desk whose slot is not empty waits."
unfoldable pub waits : Slot → Bool
waits s = not (eqb s.kind 0)

-- a request stands in it; an answer does
unfoldable pub is_asked : Slot → Bool
is_asked s = eqb s.kind 1 || eqb s.kind 2

unfoldable pub is_answered : Slot → Bool
is_answered s = eqb s.kind 3 || eqb s.kind 4

-- the kind of the answer to a request, and whether one of this kind answers what was asked
abbrev pub answer_kind : ℕ → ℕ
answer_kind asked = asked + 2

abbrev pub answers_asked : (asked kind : ℕ) → Bool
answers_asked asked kind = eqb kind (answer_kind asked)

-- ---- events
-- kinds 1, 2 and 5 are a desk's own
unfoldable pub is_own : Event → Bool
is_own e = eqb e.kind 1 || eqb e.kind 2 || eqb e.kind 5
