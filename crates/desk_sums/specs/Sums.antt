-- What each cell and each seat adds to a running sum, and the test of the sum. `Laws` says that the test is soundness.
-- Assumes nothing.
use Rattle.std.specs.Prelude.{Bool, true, false, not, ◌&&◌, ◌||◌, cond, ℕ, ◌%◌, min, ltb, leb, eqb, drop}
use Rattle.std.specs.Int.Bits.{bit_or}
use Rattle.clock.specs.declared.Clock.{Clock}
use Rattle.clock.specs.Clock.{zero_clock, paired, is_within}
use Rattle.theory_lists.specs.Or.{ored}
use Rattle.desk.specs.declared.Cell.{Cell}
use Rattle.desk.specs.declared.Counts.{Counts}
use Rattle.desk.specs.declared.Place.{Place}
use Rattle.desk.specs.declared.Seat.{Seat}
use Rattle.desk.specs.declared.Slot.{Slot}
use Rattle.desk.specs.declared.Tray.{Tray}
use Rattle.desk.specs.Desk.{Word, is_no_word, is_blank, one_if, place_at, kept_by}
use Rattle.desk.specs.Sound.{word_fits, sent_fits, tray_sound}
use Rattle.desk_sums.specs.declared.Sum.{Sum}

abbrev pub no_sum : Sum
no_sum = record { h = zero_clock; z = zero_clock; w = 0 }

-- ---- clocks, bit by bit
unfoldable pub joined : Clock → Clock → Clock
joined a b = record { n = paired bit_or a.n b.n }

unfoldable pub or_past : Clock → ℕ → ℕ
or_past c d = ored 0 (drop d c.n)

-- ---- what is added
-- a clock that may be there, with any word; or that must be zero, with its word
unfoldable pub add_clock : Sum → Bool → Clock → Word → Sum
add_clock s carried c word =
    cond carried (record { h = joined s.h c; z = s.z; w = s.w }) (record { h = s.h; z = joined s.z c; w = bit_or s.w word })

-- something that must not be
abbrev pub noted : Sum → Bool → Sum
noted s bad = record { h = s.h; z = s.z; w = bit_or s.w (one_if bad) }

-- a cell that is none of the tray's
unfoldable pub rest_of : Sum → Cell → Sum
rest_of s x = noted (add_clock s false x.stamp x.word) x.held

-- a stamp that may be there and is: one that is all zeros is added to those that must be zero, with its word
abbrev pub stamped : Bool → Clock → Bool
stamped carried c = carried && not (is_blank c)

-- a cell of the tray
unfoldable pub add_kept : Sum → Bool → Cell → Sum
add_kept s kept x =
    cond (stamped x.held x.stamp) (add_clock s true x.stamp x.word)
    (noted (add_clock s false x.stamp x.word) (kept && not x.held))

-- a slot that names or sends what it may not, or a desk that is served and does not wait
unfoldable pub slot_bad : Bool → ℕ → Bool → Slot → Bool → Bool
slot_bad there cells own s served =
    cond (eqb s.kind 0) (served || not (eqb s.cell 0))
    (ltb 4 s.kind || leb cells s.cell || own || not there || not (sent_fits s.kind s.clock))

unfoldable pub add_seat : Sum → Bool → ℕ → Bool → Seat → Sum
add_seat s there cells own v =
    noted
    (add_clock (add_clock s there v.clock 0) (stamped (there && leb 2 v.slot.kind) v.slot.clock) v.slot.clock v.slot.word)
    (slot_bad there cells own v.slot v.served)

abbrev pub add_seat_of : Sum → Counts → ℕ → Place → Seat → Sum
add_seat_of s n desk p v = add_seat s (ltb desk n.desks) n.cells (kept_by p desk) v

-- the place that a slot's cell has; a sound slot's cell is below 32
abbrev pub slot_cell : Seat → ℕ
slot_cell v = v.slot.cell % 32

-- how many of a desk's cells are the tray's: none if the desk is absent
abbrev pub used_by : Counts → ℕ → ℕ
used_by n desk = cond (ltb desk n.desks) n.cells 0

-- ---- the test
unfoldable pub sum_fits : Sum → ℕ → Bool
sum_fits s desks = eqb s.w 0 && eqb (bit_or (or_past s.z 0) (or_past s.h desks)) 0

-- a record's: how far its row is looked at as the tray's, and the test, from the row's sum
abbrev pub row_count : Counts → ℕ
row_count n = min n.cells 32

unfoldable pub record_fits : Tray → ℕ → Seat → Sum → Bool
record_fits t desk v row =
    tray_sound t
    && (ltb desk t.counts.desks
    && leb v.slot.kind 2
    && (sum_fits (add_seat no_sum true t.counts.cells (kept_by (place_at t (slot_cell v)) desk) v) t.counts.desks
    && sum_fits row t.counts.desks))

-- ---- what each adds to the test
unfoldable pub clock_fits : ℕ → Bool → Clock → Word → Bool
clock_fits desks carried c word = cond carried (is_within desks c) (is_no_word word && is_within 0 c)

unfoldable pub rest_fits : Cell → Bool
rest_fits x = is_no_word x.word && is_within 0 x.stamp && not x.held

unfoldable pub kept_fits : ℕ → Bool → Cell → Bool
kept_fits desks kept x =
    cond x.held (is_within desks x.stamp && word_fits x.word x.stamp) (is_no_word x.word && is_within 0 x.stamp && not kept)
