-- The table's rows: a desk's record taken out, and put back.
-- Assumes nothing.
use Rattle.std.specs.Prelude.{ℕ, ◌+◌, ◌*◌, get_or, set}
use Rattle.std.proofs.Math.Seq.{slice, paste}
use Rattle.desk.specs.declared.Record.{Record}
use Rattle.desk.specs.declared.Seat.{Seat}
use Rattle.desk.specs.declared.Slot.{Slot}
use Rattle.desk.specs.Desk.{past_seat, keeper_of}
use Rattle.table.specs.declared.Table.{Table}

abbrev pub seat_of : Table → ℕ → Seat
seat_of t desk = get_or t.seats desk past_seat

abbrev pub slot_of : Table → ℕ → Slot
slot_of t desk = (seat_of t desk).slot

-- the desk that a waiting desk asks
abbrev pub keeper_for : Table → ℕ → ℕ
keeper_for t desk = keeper_of t.tray (slot_of t desk).cell

-- a desk's record: its row of the table with the tray and its number
unfoldable pub record_of : Table → ℕ → Record
record_of t desk = record { tray = t.tray; desk = desk; seat = seat_of t desk; row = slice (desk * 32) (desk * 32 + 32) t.cells }

-- the record is its desk's row again
unfoldable pub put_back : Table → Record → Table
put_back t v =
    record { cells = paste t.cells (v.desk * 32) v.row 32; tray = t.tray; seats = set t.seats v.desk v.seat }
