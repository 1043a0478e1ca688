-- Setting up as the code does it where a table lies: all of it is cleared, and then each cell is held by its keeper. It is the rule.
-- Assumes nothing.
use Rattle.std.specs.Prelude.{◌≡◌, refl, Bool, true, ℕ, ◌+◌, ◌*◌, ◌/◌, ◌%◌, ◌<◌}
use Rattle.std.proofs.Math.Path.{sym, ap}
use Rattle.std.proofs.Common.{◌∙◌, arith}
use mathlib.Core.List.{List}
use Rattle.std.proofs.Math.ListN.{length, replicate, length-replicate}
use Rattle.std.proofs.lemmas.List.{get_or-replicate}
use Rattle.desk.specs.declared.Cell.{Cell}
use Rattle.desk.specs.declared.Plan.{Plan}
use Rattle.desk.specs.declared.Seat.{Seat}
use Rattle.desk.specs.declared.Tray.{Tray}
use Rattle.desk.specs.Desk.{no_cell, no_seat, past_cell, cell_at, keeper_of}
use Rattle.desk.specs.SoundLaws.{keeps-in, is-keeper, keeper-keeps, keeper-desk}
use Rattle.desk.specs.Start.{planned_place, fresh_tray, set_up_refusal, blank_cell}
use Rattle.desk.specs.StartInPlace.{not-alone}
use Rattle.desk.specs.StartLaws.{settled, fresh-tray}
use Rattle.theory_lists.specs.Each.{length-map_at, get_or-map_at}
use Rattle.theory_lists.specs.Marked.{marked, marked-yes, marked_all, ByNone}
use Rattle.theory_refusals.specs.Refusals.{unless-refused, unless-done}
use Rattle.table.specs.declared.Table.{Table}
use Rattle.table.specs.Changes.{with_cell}
use Rattle.table.specs.SetUp.{fresh_cell, fresh_table, no_table, not_set_up, set_up_rule}

abbrev pub with_tray : Table → Tray → Table
with_tray t x = record { cells = t.cells; tray = x; seats = t.seats }

abbrev pub with_cells : Table → List Cell → Table
with_cells t cells = record { cells = cells; tray = t.tray; seats = t.seats }

abbrev pub with_seats : Table → List Seat → Table
with_seats t seats = record { cells = t.cells; tray = t.tray; seats = seats }

-- where the keeper of cell c has it
abbrev pub home : Tray → ℕ → ℕ
home x c = keeper_of x c * 32 + c

abbrev always : ℕ → Bool
always c = true

-- each of the first n cells is held by its keeper, blank
unfoldable pub kept_to : Table → ℕ → Table
kept_to t n = with_cells t (marked always (home t.tray) blank_cell n t.cells)

abbrev pub kept_in : Table → Table
kept_in t = kept_to t t.tray.counts.cells

pub kept-none : (t : Table) → kept_to t 0 ≡ t
unfolding kept_to marked
kept-none t = refl

pub kept-one : (t : Table) (c : ℕ) → with_cell (kept_to t c) (home t.tray c) blank_cell ≡ kept_to t (c + 1)
unfolding kept_to
kept-one t c = ap (with_cells t) (marked-yes always (home t.tray) blank_cell c t.cells refl)

-- each cell of the tray has a place in a table, with its keeper
abbrev pub Housed : Tray → Type 0
Housed x = (c : ℕ) → c < x.counts.cells → (c < 32) × (keeper_of x c < 8)

-- a cleared table in which the keepers hold their cells is fresh
module _ (x : Tray) (there : Housed x) where
  fresh-length : length (fresh_table x).cells ≡ 256
  unfolding fresh_table
  fresh-length = length-map_at (λ i _. fresh_cell x i) (replicate 256 no_cell) ∙ length-replicate 256 no_cell

  at : (i : ℕ) → i < 256 → cell_at (fresh_table x).cells i ≡ fresh_cell x i
  unfolding fresh_table
  at i h = get_or-map_at (λ i _. fresh_cell x i) (replicate 256 no_cell) i past_cell past_cell (omega (arith, length-replicate 256 no_cell))

  hit : (c : ℕ) → c < x.counts.cells → always c ≡ true → cell_at (fresh_table x).cells (home x c) ≡ blank_cell
  hit c h _ =
      let row : home x c / 32 ≡ keeper_of x c = omega (arith, (there c h).0) in
      let cell : home x c % 32 ≡ c = omega (arith, (there c h).0) in
      at (home x c) (omega (arith, (there c h).0, (there c h).1)) ∙ rw (row, cell, keeper-keeps x (keeper_of x c) c refl h)

  miss : (i : ℕ) → i < length (replicate 256 no_cell) → ByNone always (home x) blank_cell x.counts.cells i
      → cell_at (fresh_table x).cells i ≡ cell_at (replicate 256 no_cell) i
  miss i h none =
      let k : i < 256 = omega (arith, length-replicate 256 no_cell) in
      let d : ℕ = i / 32 in let c : ℕ = i % 32 in
      at i k ∙ not-alone x d c (λ e. none c (keeps-in x d c e, refl, omega (arith, is-keeper x d c e)))
      ∙ sym (get_or-replicate 256 i no_cell past_cell k)

  pub kept_fresh : kept_in (record { cells = replicate 256 no_cell; tray = x; seats = replicate 8 no_seat }) ≡ fresh_table x
  unfolding kept_to fresh_table
  kept_fresh =
      ap (λ (cells : List Cell). record { cells = cells; tray = x; seats = replicate 8 no_seat })
      (marked_all always (home x) blank_cell x.counts.cells (replicate 256 no_cell) (fresh_table x).cells past_cell
      (fresh-length ∙ sym (length-replicate 256 no_cell)) hit miss)

-- what setting up comes to, refused or not
module _ (p : Plan) where
  pub set-up-refused : (set_up_refusal p ≡ 0 → ⊥) → set_up_rule p ≡ not_set_up (set_up_refusal p)
  unfolding set_up_rule
  set-up-refused = unless-refused (set_up_refusal p) not_set_up _

  pub housed : length p.keepers ≡ 32 → set_up_refusal p ≡ 0 → Housed (fresh_tray p)
  unfolding fresh_tray
  housed long none c h =
      let s = settled p none in
      let all : length (fresh_tray p).places ≡ 32 = length-map_at (planned_place p.cells) p.keepers ∙ long in
      (omega (arith, s.cells-most), omega (arith, keeper-desk (fresh_tray p) c (fresh-tray p none) all h, s.desks-most))

  pub set-up-done : length p.keepers ≡ 32 → set_up_refusal p ≡ 0
      → set_up_rule p ≡ record { code = 0; table = kept_in (with_tray no_table (fresh_tray p)) }
  unfolding set_up_rule no_table
  set-up-done long none =
      unless-done (set_up_refusal p) not_set_up _ none
      ∙ ap (λ (t : Table). record { code = 0; table = t }) (sym (kept_fresh (fresh_tray p) (housed long none)))
