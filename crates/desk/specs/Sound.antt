-- When a tray, a cell, a seat and a desk's record are sound, as tests: each entry is used and fits, or is zero. A desk past the count has only
-- entries that are not used. `SoundLaws` has each as a rule, and back.
-- Assumes nothing.
use Rattle.std.specs.Prelude.{Bool, not, ◌&&◌, ◌||◌, cond, ℕ, ltb, leb, eqb}
use Rattle.clock.specs.declared.Clock.{Clock}
use Rattle.clock.specs.Clock.{is_within}
use Rattle.theory_lists.specs.Each.{map_at}
use Rattle.theory_lists.specs.Test.{every}
use Rattle.desk.specs.declared.Cell.{Cell}
use Rattle.desk.specs.declared.Counts.{Counts}
use Rattle.desk.specs.declared.Place.{Place}
use Rattle.desk.specs.declared.Record.{Record}
use Rattle.desk.specs.declared.Seat.{Seat}
use Rattle.desk.specs.declared.Slot.{Slot}
use Rattle.desk.specs.declared.Tray.{Tray}
use Rattle.desk.specs.Desk.{Word, is_no_word, is_blank, place_at, is_used, keeps_at, keeps, waits}

-- "counts are in range"
unfoldable pub counts_sound : Counts → Bool
counts_sound n = leb 1 n.desks && leb n.desks 8 && (leb 1 n.cells && leb n.cells 32)

-- "keepers are desks"; past the cell count a place is zero
unfoldable pub place_sound : Counts → ℕ → Place → Bool
place_sound n c p = cond (ltb c n.cells) (ltb p.keeper n.desks) (eqb p.keeper 0)

unfoldable pub tray_sound : Tray → Bool
tray_sound t = counts_sound t.counts && every (map_at (place_sound t.counts) t.places)

-- "word 0 wherever a cell's or slot's stamp is all zeros"
unfoldable pub word_fits : Word → (stamp : Clock) → Bool
word_fits word stamp = not (is_blank stamp) || is_no_word word

-- "no write-asked clock is all zeros"
unfoldable pub sent_fits : (kind : ℕ) → Clock → Bool
sent_fits kind sent = not (eqb kind 2 && is_blank sent)

-- a held cell is used, and its stamp has zeros past the desk count; one that is not held is not kept here and is all zero
unfoldable pub cell_fits : Counts → Place → ℕ → ℕ → Cell → Bool
cell_fits n p desk c x =
    cond x.held (is_used n desk c && is_within n.desks x.stamp && word_fits x.word x.stamp)
    (not (keeps_at n p desk c) && is_no_word x.word && is_within 0 x.stamp)

unfoldable pub cell_sound : Tray → ℕ → ℕ → Cell → Bool
cell_sound t desk c x = cell_fits t.counts (place_at t c) desk c x

-- "a slot names a cell in range that its desk does not keep"; an empty one names none
unfoldable pub slot_names : Tray → ℕ → Slot → Bool
slot_names t desk s = cond (waits s) (is_used t.counts desk s.cell && not (keeps t desk s.cell)) (eqb s.cell 0)

-- an empty slot and a read asked lack word and clock
unfoldable pub slot_carries : Counts → Slot → Bool
slot_carries n s =
    cond (leb s.kind 1) (is_no_word s.word && is_within 0 s.clock) (is_within n.desks s.clock && word_fits s.word s.clock)
    && sent_fits s.kind s.clock

-- asked or answered
unfoldable pub slot_sound : Tray → ℕ → Slot → Bool
slot_sound t desk s = leb s.kind 4 && slot_names t desk s && slot_carries t.counts s

-- how many numbers a desk's clock has: "clock numbers past the desk count are 0", and an absent desk has none
abbrev pub numbers_of : Counts → ℕ → ℕ
numbers_of n desk = cond (ltb desk n.desks) n.desks 0

-- what a desk has beside its cells; "*served* where the desk does not wait" is not used
unfoldable pub seat_sound : Tray → ℕ → Seat → Bool
seat_sound t desk s =
    is_within (numbers_of t.counts desk) s.clock && slot_sound t desk s.slot && (waits s.slot || not s.served)

unfoldable pub cells_sound : Record → Bool
cells_sound v = every (map_at (cell_sound v.tray v.desk) v.row)

-- a desk's own record: "here a full slot stays asked until the answer is brought"
unfoldable pub is_sound : Record → Bool
is_sound v =
    tray_sound v.tray
    && ltb v.desk v.tray.counts.desks
    && cells_sound v
    && seat_sound v.tray v.desk v.seat
    && leb v.seat.slot.kind 2
