-- A cleared record on a tray, of which the desk is yet to hold its cells.
-- Assumes nothing.
use Rattle.std.proofs.Common.{ℕ, replicate}
use Rattle.desk.specs.declared.Record.{Record}
use Rattle.desk.specs.declared.Tray.{Tray}
use Rattle.desk.specs.Desk.{no_cell, no_seat}

abbrev pub cleared : Tray → ℕ → Record
cleared t desk = record { tray = t; desk = desk; seat = no_seat; row = replicate 32 no_cell }
