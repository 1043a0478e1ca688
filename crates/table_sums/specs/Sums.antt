-- A table's sums: with a sound tray, that of its entries tests its cells, and that of its seats its seats.
-- Assumes nothing.
use Rattle.std.specs.Prelude.{◌≡◌, Bool}
use Rattle.std.proofs.Math.Path.{refl, sym}
use Rattle.std.proofs.Common.{ap₂, ◌∙◌}
use Rattle.std.proofs.Math.Bool.{true, false, ◌&&◌}
use Rattle.desk.specs.Desk.{past_cell, past_seat, cell_at}
use Rattle.desk.specs.Sound.{tray_sound, seat_sound}
use Rattle.desk.specs.SoundLaws.{tray-rule}
use Rattle.desk_sums.specs.Rows.{cells_sum, seats_sum, cells_fit, seats-fit}
use Rattle.desk_sums.specs.Sums.{sum_fits}
use Rattle.table.specs.declared.Table.{Table}
use Rattle.table.specs.Rows.{Sized}
use Rattle.table.specs.Sound.{entry_sound, cells_sound, seats_sound, table_sound}
use Rattle.table.specs.Table.{seat_of}
use Rattle.theory_lists.specs.Turns.{every-all}

module _ (t : Table) (z : Sized t) where
  pub table-cells : tray_sound t.tray ≡ true → sum_fits (cells_sum t.tray (cell_at t.cells) 8) t.tray.counts.desks ≡ cells_sound t
  unfolding cells_sound entry_sound
  table-cells e =
      cells_fit t.tray (cell_at t.cells) 8 (tray-rule t.tray e) z.all-places
      ∙ sym (rw (every-all (entry_sound t.tray) t.cells past_cell, z.all-cells))

  pub table-seats : tray_sound t.tray ≡ true
      → sum_fits (seats_sum t.tray (seat_of t) 8) t.tray.counts.desks ≡ seats_sound t.tray t.seats
  unfolding seats_sound
  table-seats e =
      seats-fit t.tray (seat_of t) 8 (tray-rule t.tray e).cells-most
      ∙ sym (rw (every-all (seat_sound t.tray) t.seats past_seat, z.all-seats))

  pub table_fits : table_sound t ≡ (tray_sound t.tray
      && sum_fits (cells_sum t.tray (cell_at t.cells) 8) t.tray.counts.desks
      && sum_fits (seats_sum t.tray (seat_of t) 8) t.tray.counts.desks)
  unfolding table_sound
  table_fits = go (tray_sound t.tray) refl
    where
      go : (b : Bool) → tray_sound t.tray ≡ b → table_sound t ≡ (tray_sound t.tray
          && sum_fits (cells_sum t.tray (cell_at t.cells) 8) t.tray.counts.desks
          && sum_fits (seats_sum t.tray (seat_of t) 8) t.tray.counts.desks)
      go true e = rw e (sym (ap₂ ◌&&◌ (table-cells e) (table-seats e)))
      go false e = rw e
