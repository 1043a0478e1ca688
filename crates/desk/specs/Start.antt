-- Starting: a plan and a desk's number. What the table's set-up shares stands here: its refusals, the tray, a fresh cell.
-- Assumes nothing.
use Rattle.std.specs.Prelude.{Bool, not, ◌&&◌, ◌||◌, cond, List, [], ◌∷◌, ◌++◌, ℕ, ltb, leb, replicate}
use Rattle.clock.specs.Clock.{zero_clock}
use Rattle.theory_lists.specs.Each.{map_at}
use Rattle.theory_lists.specs.Test.{every}
use Rattle.theory_refusals.specs.Refusals.{Line, first_of, unless}
use Rattle.desk.specs.declared.Cell.{Cell}
use Rattle.desk.specs.declared.Place.{Place}
use Rattle.desk.specs.declared.Plan.{Plan}
use Rattle.desk.specs.declared.Record.{Record}
use Rattle.desk.specs.declared.Started.{Started}
use Rattle.desk.specs.declared.Tray.{Tray}
use Rattle.desk.specs.Desk.{no_word, no_cell, no_seat, no_place, keeps, held_cell}

-- ---- the tray
-- "keepers past the cell count are ignored and stored as 0"
abbrev pub planned_place : ℕ → ℕ → ℕ → Place
planned_place cells c keeper = record { keeper = cond (ltb c cells) keeper 0 }

unfoldable pub fresh_tray : Plan → Tray
fresh_tray p = record { counts = record { desks = p.desks; cells = p.cells }; places = map_at (planned_place p.cells) p.keepers }

unfoldable pub no_tray : Tray
no_tray = record { counts = record { desks = 0; cells = 0 }; places = replicate 32 no_place }

-- every keeper below the cell count is a desk
abbrev pub keeper_right : ℕ → ℕ → ℕ → ℕ → Bool
keeper_right desks cells c keeper = not (ltb c cells) || ltb keeper desks

unfoldable pub keepers_right : Plan → Bool
keepers_right p = every (map_at (keeper_right p.desks p.cells) p.keepers)

-- "20 (desks not 1 to 8), 21 (cells not 1 to 32), 22 (a keeper that is no desk)"
unfoldable pub set_up_lines : Plan → List Line
set_up_lines p =
    (20, not (leb 1 p.desks && leb p.desks 8))
    ∷ (21, not (leb 1 p.cells && leb p.cells 32))
    ∷ (22, not (keepers_right p))
    ∷ []

unfoldable pub set_up_refusal : Plan → ℕ
set_up_refusal p = first_of (set_up_lines p)

-- ---- a desk's record
-- "each cell held by its keeper alone, with word 0 and zero stamp"
abbrev pub blank_cell : Cell
blank_cell = held_cell no_word zero_clock

abbrev pub held_if : Bool → Cell
held_if kept = cond kept blank_cell no_cell

abbrev pub kept_alone : Tray → ℕ → ℕ → Cell
kept_alone t desk c = held_if (keeps t desk c)

-- "zero clocks, empty slots"
unfoldable pub fresh_record : Tray → ℕ → Record
fresh_record t desk = record { tray = t; desk = desk; seat = no_seat; row = map_at (λ c _. kept_alone t desk c) (replicate 32 no_cell) }

unfoldable pub no_record : Record
no_record = record { tray = no_tray; desk = 0; seat = no_seat; row = replicate 32 no_cell }

-- those of set-up, then 10 for a number that is no desk
unfoldable pub start_lines : Plan → ℕ → List Line
start_lines p desk = set_up_lines p ++ ((10, leb p.desks desk) ∷ [])

unfoldable pub start_refusal : Plan → ℕ → ℕ
start_refusal p desk = first_of (start_lines p desk)

-- a refusal gives its number and an all-zero record
abbrev pub not_started : ℕ → Started
not_started n = record { code = n; «record» = no_record }

unfoldable pub start_rule : Plan → ℕ → Started
start_rule p desk = unless (start_refusal p desk) not_started (record { code = 0; «record» = fresh_record (fresh_tray p) desk })
