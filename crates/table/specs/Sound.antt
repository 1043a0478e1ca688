-- When a table is sound, as a test: the tray is, and each desk's cells and seat are, present or absent.
-- Assumes nothing.
use Rattle.std.specs.Prelude.{Bool, ◌&&◌, List, ℕ, ◌/◌, ◌%◌}
use Rattle.desk.specs.declared.Cell.{Cell}
use Rattle.desk.specs.declared.Seat.{Seat}
use Rattle.desk.specs.declared.Tray.{Tray}
use Rattle.desk.specs.Sound.{tray_sound, cell_sound, seat_sound}
use Rattle.theory_lists.specs.Each.{map_at}
use Rattle.theory_lists.specs.Test.{every}
use Rattle.table.specs.declared.Table.{Table}

-- entry i is cell i % 32 of desk i / 32
unfoldable pub entry_sound : Tray → ℕ → Cell → Bool
entry_sound t i x = cell_sound t (i / 32) (i % 32) x

unfoldable pub cells_sound : Table → Bool
cells_sound t = every (map_at (entry_sound t.tray) t.cells)

unfoldable pub seats_sound : Tray → List Seat → Bool
seats_sound t seats = every (map_at (seat_sound t) seats)

unfoldable pub table_sound : Table → Bool
table_sound t = tray_sound t.tray && cells_sound t && seats_sound t.tray t.seats
