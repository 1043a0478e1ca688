-- Setting up, from a plan. A fresh table has zero clocks, empty slots and each cell held by its keeper alone.
-- Assumes nothing.
use Rattle.std.specs.Prelude.{ℕ, ◌/◌, ◌%◌, replicate}
use Rattle.desk.specs.declared.Cell.{Cell}
use Rattle.desk.specs.declared.Plan.{Plan}
use Rattle.desk.specs.declared.Tray.{Tray}
use Rattle.desk.specs.Desk.{no_cell, no_seat}
use Rattle.desk.specs.Start.{kept_alone, fresh_tray, no_tray, set_up_refusal}
use Rattle.theory_lists.specs.Each.{map_at}
use Rattle.theory_refusals.specs.Refusals.{unless}
use Rattle.table.specs.declared.SetUp.{SetUp}
use Rattle.table.specs.declared.Table.{Table}

-- entry i is cell i % 32 of desk i / 32
abbrev pub fresh_cell : Tray → ℕ → Cell
fresh_cell t i = kept_alone t (i / 32) (i % 32)

unfoldable pub fresh_table : Tray → Table
fresh_table t = record { cells = map_at (λ i _. fresh_cell t i) (replicate 256 no_cell); tray = t; seats = replicate 8 no_seat }

unfoldable pub no_table : Table
no_table = record { cells = replicate 256 no_cell; tray = no_tray; seats = replicate 8 no_seat }

-- a refusal gives its number and an all-zero table
abbrev pub not_set_up : ℕ → SetUp
not_set_up n = record { code = n; table = no_table }

unfoldable pub set_up_rule : Plan → SetUp
set_up_rule p = unless (set_up_refusal p) not_set_up (record { code = 0; table = fresh_table (fresh_tray p) })
