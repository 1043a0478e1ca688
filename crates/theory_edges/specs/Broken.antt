-- "A table is sound if", condition by condition: one sound table, and tables and records that differ from it in one field and are not sound; and fresh
-- tables with a count out of range. For each condition one of them breaks it alone, so none can be dropped unnoticed. (Only "at least 1 desk" is never
-- broken alone: with no desk no keeper is a desk.)
-- Assumes nothing.
use Rattle.std.specs.Prelude.{◌≡◌, refl, Bool, true, false, List, [], ◌∷◌, map, ℕ, ◌+◌, ◌*◌, set, replicate}
use Rattle.clock.specs.declared.Clock.{Clock}
use Rattle.clock.specs.Clock.{is_within, raised}
use Rattle.desk.specs.declared.Cell.{Cell}
use Rattle.desk.specs.declared.Place.{Place}
use Rattle.desk.specs.declared.Record.{Record}
use Rattle.desk.specs.declared.Seat.{Seat}
use Rattle.desk.specs.declared.Slot.{Slot}
use Rattle.desk.specs.declared.Tray.{Tray}
use Rattle.desk.specs.Desk.{Word, is_no_word, is_blank, no_place, no_seat, cell_at, keeps, held_cell, waits}
use Rattle.desk.specs.Rules.{read_asked, write_asked, with_clock, with_slot}
use Rattle.desk.specs.Sound.{counts_sound, place_sound, tray_sound, word_fits, sent_fits, cell_fits, cell_sound, slot_names, slot_carries, slot_sound, seat_sound, cells_sound, is_sound}
use Rattle.table.specs.declared.Table.{Table}
use Rattle.table.specs.Changes.{with_cell, with_seat_of}
use Rattle.table.specs.SetUp.{fresh_table}
use Rattle.table.specs.Sound.{entry_sound, cells_sound as all_cells_sound, seats_sound, table_sound}
use Rattle.table.specs.Table.{seat_of, record_of}
use Rattle.theory_lists.specs.Each.{map_at}
use Rattle.theory_lists.specs.Test.{every, some}
use Rattle.theory_edges.specs.Edges.{clock}

-- ---- one sound table
abbrev kept : ℕ → Place
kept keeper = record { keeper = keeper }

-- six desks; three cells, kept by desks 0, 1 and 0
abbrev pub tray : Tray
tray = record { counts = record { desks = 6; cells = 3 }; places = kept 0 ∷ kept 1 ∷ kept 0 ∷ replicate 29 no_place }

abbrev waiting : Slot → Seat
waiting s = with_slot no_seat s false

abbrev answered : (kind cell : ℕ) → Word → Clock → Slot
answered kind c w stamp = record { kind = kind; cell = c; word = w; clock = stamp }

-- Desk 0 has a copy of cell 1, whose stamp is above every clock. Desk 1 has asked to read a cell of which it has a copy, and has served a write.
-- Desk 2 has asked to write; the read of desk 3 and the write of desk 4 are answered. Desk 5 is fresh; 6 and 7 are absent.
abbrev pub right : Table
right =
    record {
      cells = set (set (fresh_table tray).cells 1 (held_cell 5 (clock (0 ∷ 9 ∷ 0 ∷ 0 ∷ 0 ∷ 1 ∷ [])))) 32 (held_cell 0 (clock []));
      tray = tray;
      seats =
          with_clock no_seat (clock (2 ∷ 1 ∷ 0 ∷ 0 ∷ 0 ∷ 1 ∷ []))
          ∷ with_slot no_seat (read_asked 0) true
          ∷ waiting (write_asked 0 7 (clock (0 ∷ 0 ∷ 1 ∷ [])))
          ∷ waiting (answered 3 1 5 (clock (0 ∷ 9 ∷ [])))
          ∷ waiting (answered 4 2 8 (clock (2 ∷ 0 ∷ 0 ∷ 0 ∷ 1 ∷ [])))
          ∷ replicate 3 no_seat;
    }

-- a fresh table, whose cells desk 0 keeps
abbrev pub fresh : (desks cells : ℕ) → Table
fresh d c = fresh_table (record { counts = record { desks = d; cells = c }; places = replicate 32 no_place })

-- ---- the sound one with one field changed
abbrev keeping : (cell keeper : ℕ) → Table
keeping c k =
    record { cells = right.cells; tray = record { counts = tray.counts; places = set tray.places c (kept k) }; seats = right.seats }

abbrev in_cell : (desk cell : ℕ) → (Cell → Cell) → Table
in_cell p c f = with_cell right (p * 32 + c) (f (cell_at right.cells (p * 32 + c)))

abbrev holding : Bool → Cell → Cell
holding b x = record { held = b; word = x.word; stamp = x.stamp }

abbrev of_word : Word → Cell → Cell
of_word w x = record { held = x.held; word = w; stamp = x.stamp }

-- the stamp's number for desk k is one higher; so of a seat's clock and of a slot's
abbrev stamp_up : ℕ → Cell → Cell
stamp_up k x = record { held = x.held; word = x.word; stamp = raised x.stamp k }

abbrev clock_up : (desk k : ℕ) → Table
clock_up p k = with_seat_of right p (with_clock (seat_of right p) (raised (seat_of right p).clock k))

abbrev marked : (desk : ℕ) → Table
marked p = with_seat_of right p (with_slot (seat_of right p) (seat_of right p).slot true)

abbrev in_slot : (desk : ℕ) → (Slot → Slot) → Table
in_slot p f = with_seat_of right p (with_slot (seat_of right p) (f (seat_of right p).slot) (seat_of right p).served)

abbrev of_kind : ℕ → Slot → Slot
of_kind k s = record { kind = k; cell = s.cell; word = s.word; clock = s.clock }

abbrev naming : ℕ → Slot → Slot
naming c s = record { kind = s.kind; cell = c; word = s.word; clock = s.clock }

abbrev saying : Word → Slot → Slot
saying w s = record { kind = s.kind; cell = s.cell; word = w; clock = s.clock }

-- with no clock: all zeros
abbrev unstamped : Slot → Slot
unstamped s = record { kind = s.kind; cell = s.cell; word = s.word; clock = clock [] }

abbrev sent_up : ℕ → Slot → Slot
sent_up k s = record { kind = s.kind; cell = s.cell; word = s.word; clock = raised s.clock k }

-- ---- what is broken, each with the desk whose record shows it
unfoldable pub broken : List (ℕ × Table)
broken =
    -- "counts are in range": 1 to 8 desks, 1 to 32 cells
    (0, fresh 0 1)
    ∷ (0, fresh 9 1)
    ∷ (0, fresh 1 0)
    ∷ (0, fresh 1 33)
    -- "keepers are desks"
    ∷ (5, keeping 1 6)
    ∷ (5, keeping 1 8)
    -- a keeper past the cell count is not 0
    ∷ (0, keeping 3 1)
    ∷ (0, keeping 31 1)
    -- "every keeper holds its cells"
    ∷ (0, in_cell 0 2 (holding false))
    ∷ (1, in_cell 1 1 (holding false))
    -- "clock numbers past the desk count are 0": of a stamp, of a desk's clock, of a slot of each kind that has one
    ∷ (0, in_cell 0 0 (stamp_up 6))
    ∷ (0, in_cell 0 1 (stamp_up 7))
    ∷ (0, clock_up 0 6)
    ∷ (5, clock_up 5 7)
    ∷ (2, in_slot 2 (sent_up 6))
    ∷ (3, in_slot 3 (sent_up 6))
    ∷ (4, in_slot 4 (sent_up 7))
    -- "a slot names a cell in range …": 3 is none
    ∷ (1, in_slot 1 (naming 3))
    ∷ (2, in_slot 2 (naming 3))
    ∷ (4, in_slot 4 (naming 32))
    -- "… that its desk does not keep"
    ∷ (1, in_slot 1 (naming 1))
    -- "word 0 wherever a cell's or slot's stamp is all zeros": of a kept cell, of a copy, of a read and of a write answered
    ∷ (0, in_cell 0 0 (of_word 1))
    ∷ (1, in_cell 1 0 (of_word 1))
    ∷ (3, in_slot 3 unstamped)
    ∷ (4, in_slot 4 unstamped)
    -- "no write-asked clock is all zeros", also with word 0
    ∷ (2, in_slot 2 unstamped)
    ∷ (2, in_slot 2 (λ s. unstamped (saying 0 s)))
    -- "word and stamp of a cell not held"
    ∷ (5, in_cell 5 0 (of_word 1))
    ∷ (5, in_cell 5 2 (stamp_up 0))
    -- "all entries past the counts": a cell held, its word, its stamp; of an absent desk the same, its clock, its slot
    ∷ (5, in_cell 5 3 (holding true))
    ∷ (5, in_cell 5 31 (of_word 1))
    ∷ (5, in_cell 5 31 (stamp_up 5))
    ∷ (6, in_cell 6 0 (holding true))
    ∷ (7, in_cell 7 31 (of_word 1))
    ∷ (7, in_cell 7 31 (stamp_up 0))
    ∷ (6, clock_up 6 0)
    ∷ (7, clock_up 7 7)
    ∷ (6, in_slot 6 (of_kind 1))
    ∷ (7, in_slot 7 (of_kind 2))
    ∷ (7, marked 7)
    -- a slot is empty, asked or answered
    ∷ (4, in_slot 4 (of_kind 5))
    -- "slot fields that the slot's kind lacks": an empty one has none, a read asked neither word nor clock
    ∷ (5, in_slot 5 (naming 1))
    ∷ (5, in_slot 5 (saying 1))
    ∷ (5, in_slot 5 (sent_up 0))
    ∷ (1, in_slot 1 (saying 1))
    ∷ (1, in_slot 1 (sent_up 0))
    -- "*served* where the desk does not wait"
    ∷ (0, marked 0)
    ∷ (5, marked 5)
    ∷ []

-- of a record: "a number that is no desk and an answered slot included"
abbrev numbered : ℕ → Record → Record
numbered p v = record { tray = v.tray; desk = p; seat = v.seat; row = v.row }

unfoldable pub broken_records : List Record
broken_records =
    numbered 6 (record_of right 5)
    ∷ record_of (in_slot 2 (of_kind 3)) 2
    ∷ record_of (in_slot 2 (of_kind 4)) 2
    ∷ map (λ (x : ℕ × Table). record_of x.1 x.0) broken

-- what is sound: the table, the same with a written 0 in a cell and in a slot, or with an answered blank, the smallest and the largest fresh one; and
-- the records of desks whose slot is not answered
unfoldable pub sound_tables : List Table
sound_tables =
    right
    ∷ in_cell 0 1 (of_word 0)
    ∷ in_slot 2 (saying 0)
    ∷ in_slot 3 (saying 0)
    ∷ in_slot 3 (λ s. unstamped (saying 0 s))
    ∷ in_slot 4 (λ s. unstamped (saying 0 s))
    ∷ fresh 1 1
    ∷ fresh 8 32
    ∷ []

unfoldable pub sound_records : List Record
sound_records = map (record_of right) (0 ∷ 1 ∷ 2 ∷ 5 ∷ [])

-- these are sound, and none of those is
pub soundness :
    (every (map table_sound sound_tables) ≡ true)
    × (every (map is_sound sound_records) ≡ true)
    × (some (map (λ (x : ℕ × Table). table_sound x.1) broken) ≡ false)
    × (some (map is_sound broken_records) ≡ false)
unfolding sound_tables sound_records broken broken_records every some map_at fresh_table record_of keeps waits is_no_word is_blank is_within raised counts_sound place_sound
    tray_sound word_fits sent_fits cell_fits cell_sound slot_names slot_carries slot_sound seat_sound cells_sound is_sound entry_sound all_cells_sound seats_sound table_sound
soundness = (refl, refl, refl, refl)
