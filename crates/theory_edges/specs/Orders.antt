-- Refusals to which more than one line of 01's table applies: the earlier line's number is given. For each two neighbours that can apply together one
-- case has both, and each number is also given alone; so neither an order nor a line can change unnoticed.
-- Assumes nothing.
use Rattle.std.specs.Prelude.{◌≡◌, refl, List, [], ◌∷◌, map, ℕ, replicate}
use Rattle.clock.specs.Clock.{is_within}
use Rattle.desk.specs.declared.Event.{Event}
use Rattle.desk.specs.declared.Plan.{Plan}
use Rattle.desk.specs.declared.Record.{Record}
use Rattle.desk.specs.Desk.{is_no_word, is_blank, no_message, keeps, waits, is_asked, is_answered, is_own}
use Rattle.desk.specs.Rules.{with_clock, seat_lines, event_lines, event_refusal, in_tray, request_fits, serve_lines, serve_refusal, answer_fits, bring_lines, bring_refusal}
use Rattle.desk.specs.Sound.{counts_sound, place_sound, tray_sound, word_fits, sent_fits, cell_fits, cell_sound, slot_names, slot_carries, slot_sound, seat_sound, cells_sound, is_sound}
use Rattle.desk.specs.Start.{keepers_right, set_up_lines, set_up_refusal, start_lines, start_refusal}
use Rattle.table.specs.declared.Table.{Table}
use Rattle.table.specs.Changes.{with_seat_of}
use Rattle.table.specs.Rules.{lines, refusal}
use Rattle.table.specs.SetUp.{fresh_table}
use Rattle.table.specs.Sound.{entry_sound, cells_sound as all_cells_sound, seats_sound, table_sound}
use Rattle.table.specs.Table.{seat_of, record_of}
use Rattle.theory_lists.specs.Each.{map_at}
use Rattle.theory_lists.specs.Test.{every}
use Rattle.theory_refusals.specs.Refusals.{first_of}
use Rattle.theory_edges.specs.Broken.{right, fresh}
use Rattle.theory_edges.specs.Edges.{clock}

abbrev event : (kind desk cell : ℕ) → Event
event k p c = record { kind = k; desk = p; cell = c; word = 7 }

-- of the sound table: six desks, three cells, kept by desks 0, 1 and 0; desk 0 is idle, desk 1 waits
abbrev at : (desk : ℕ) → Record
at p = record_of right p

-- a desk whose own number cannot be raised
abbrev full : (desk : ℕ) → Table
full p = with_seat_of right p (with_clock (seat_of right p) (clock (4294967295 ∷ 4294967295 ∷ [])))

abbrev unsound : Table
unsound = fresh 1 0

abbrev plan : (desks cells keeper : ℕ) → Plan
plan desks cells keeper = record { desks = desks; cells = cells; keepers = replicate 32 keeper }

-- the number that is given, and 01's
unfoldable pub given : List (ℕ × ℕ)
given =
    -- the table's, in the order of 01: 9, 8, 10, 11, 12, 13, 14, 16
    (refusal unsound (event 6 1 1), 9)
    ∷ (refusal right (event 6 6 3), 8)
    ∷ (refusal right (event 0 0 0), 8)
    ∷ (refusal right (event 1 6 3), 10)
    ∷ (refusal right (event 3 6 0), 10)
    ∷ (refusal right (event 1 1 3), 11)
    ∷ (refusal (full 0) (event 2 0 3), 11)
    ∷ (refusal right (event 5 1 1), 12)
    ∷ (refusal (full 1) (event 2 1 1), 12)
    ∷ (refusal right (event 3 0 0), 13)
    ∷ (refusal right (event 4 1 0), 13)
    ∷ (refusal right (event 5 0 0), 14)
    ∷ (refusal (full 0) (event 2 0 0), 16)
    ∷ (refusal (full 0) (event 2 0 1), 16)
    ∷ (refusal right (event 2 0 1), 0)
    -- a desk's event: 9, 8, 11, 12, 14, 16
    ∷ (event_refusal (record_of unsound 0) (event 3 0 1), 9)
    ∷ (event_refusal (at 0) (event 3 0 3), 8)
    ∷ (event_refusal (at 0) (event 4 0 0), 8)
    ∷ (event_refusal (at 1) (event 1 0 3), 11)
    ∷ (event_refusal (at 1) (event 5 0 1), 12)
    ∷ (event_refusal (at 0) (event 5 0 2), 14)
    ∷ (event_refusal (record_of (full 0) 0) (event 2 0 1), 16)
    ∷ (event_refusal (at 0) (event 5 0 1), 0)
    -- its serve and its bring: 9, 13, 15
    ∷ (serve_refusal (record_of unsound 0) no_message, 9)
    ∷ (serve_refusal (at 0) no_message, 15)
    ∷ (bring_refusal (record_of unsound 0) no_message, 9)
    ∷ (bring_refusal (at 0) no_message, 13)
    ∷ (bring_refusal (at 1) no_message, 15)
    -- set-up: 20, 21, 22; and start: then 10
    ∷ (set_up_refusal (plan 0 0 9), 20)
    ∷ (set_up_refusal (plan 9 33 9), 20)
    ∷ (set_up_refusal (plan 1 0 1), 21)
    ∷ (set_up_refusal (plan 8 33 8), 21)
    ∷ (set_up_refusal (plan 1 1 1), 22)
    ∷ (set_up_refusal (plan 8 32 7), 0)
    ∷ (start_refusal (plan 0 0 9) 0, 20)
    ∷ (start_refusal (plan 1 1 1) 1, 22)
    ∷ (start_refusal (plan 1 1 0) 1, 10)
    ∷ (start_refusal (plan 8 32 7) 7, 0)
    ∷ []

pub in_order : map (λ (x : ℕ × ℕ). x.0) given ≡ map (λ (x : ℕ × ℕ). x.1) given
unfolding given first_of refusal lines seat_lines event_lines in_tray request_fits serve_lines answer_fits bring_lines keepers_right set_up_lines set_up_refusal start_lines
    start_refusal is_own is_asked is_answered every map_at fresh_table record_of keeps waits is_no_word is_blank is_within counts_sound place_sound tray_sound word_fits sent_fits cell_fits
    cell_sound slot_names slot_carries slot_sound seat_sound cells_sound is_sound entry_sound all_cells_sound seats_sound table_sound
in_order = refl
