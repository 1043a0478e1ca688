-- A cleared table on a tray, in which the keepers are yet to hold their cells.
-- Assumes nothing.
use Rattle.std.proofs.Common.{◌≤◌, replicate, arith}
use Rattle.std.proofs.Math.Decide.{dec_le}
use Rattle.desk.specs.declared.Tray.{Tray}
use Rattle.desk.specs.Desk.{no_cell, no_seat}
use Rattle.table.specs.declared.Table.{Table}
use Rattle.table.specs.SetUpInPlace.{Housed}

abbrev pub cleared : Tray → Table
cleared x = record { cells = replicate 256 no_cell; tray = x; seats = replicate 8 no_seat }

pub few : (x : Tray) → Housed x → x.counts.cells ≤ 32
few x there = elim (dec_le x.counts.cells 32) [ yes h ↦ h | no h ↦ absurd (omega (arith, (there 32 (omega arith)).0)) ]
