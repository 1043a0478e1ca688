-- Starting as the code does it where a record lies: all of it is cleared, and then the desk holds the cells that it keeps. It is the rule.
-- Assumes nothing.
use Rattle.std.specs.Prelude.{◌≡◌, Bool, true, false, ℕ, ◌+◌, ◌≤◌, ◌<◌, ltb, length, replicate}
use Rattle.std.proofs.Math.Path.{refl, sym, ap}
use Rattle.std.proofs.Common.{◌∙◌, arith, lt-ltb}
use Rattle.std.proofs.Math.ListN.{length-replicate}
use Rattle.std.proofs.lemmas.List.{get_or-replicate}
use Rattle.theory_lists.specs.Marked.{marked, marked-yes, marked-no, marked_all, ByNone}
use Rattle.theory_lists.specs.Test.{both_right, fails}
use Rattle.theory_refusals.specs.Refusals.{unless-refused, unless-done}
use Rattle.desk.specs.declared.Plan.{Plan}
use Rattle.desk.specs.declared.Record.{Record}
use Rattle.desk.specs.declared.Tray.{Tray}
use Rattle.desk.specs.Desk.{no_cell, no_seat, past_cell, cell_at, place_at, kept_by, keeps}
use Rattle.desk.specs.Rules.{with_row, holds}
use Rattle.desk.specs.SoundLaws.{keeps-in}
use Rattle.desk.specs.Start.{fresh_tray, set_up_refusal, blank_cell, kept_alone, fresh_record, no_record, start_refusal, not_started, start_rule}
use Rattle.desk.specs.StartLaws.{settled, fresh-length, fresh-cell, start-passed}

abbrev pub with_tray : Record → Tray → Record
with_tray v t = record { tray = t; desk = v.desk; seat = v.seat; row = v.row }

abbrev pub with_desk : Record → ℕ → Record
with_desk v desk = record { tray = v.tray; desk = desk; seat = v.seat; row = v.row }

-- of its first n cells the desk holds those that it keeps, blank
unfoldable pub kept_to : Record → ℕ → Record
kept_to v n = with_row v (marked (λ c. kept_by (place_at v.tray c) v.desk) (λ c. c) blank_cell n v.row)

abbrev pub kept_in : Record → Record
kept_in v = kept_to v v.tray.counts.cells

-- a turn of the loop: the cell is kept by the desk, or not
module _ (v : Record) where
  abbrev test : ℕ → Bool
  test c = kept_by (place_at v.tray c) v.desk

  pub kept-none : kept_to v 0 ≡ v
  unfolding kept_to marked
  kept-none = refl

  pub kept-one : (c : ℕ) → test c ≡ true → holds (kept_to v c) c blank_cell ≡ kept_to v (c + 1)
  unfolding kept_to
  kept-one c e = ap (with_row v) (marked-yes test (λ c. c) blank_cell c v.row e)

  pub kept-stays : (c : ℕ) → test c ≡ false → kept_to v c ≡ kept_to v (c + 1)
  unfolding kept_to
  kept-stays c e = ap (with_row v) (marked-no test (λ c. c) blank_cell c v.row e)

pub not-alone : (t : Tray) (desk c : ℕ) → (keeps t desk c ≡ true → ⊥) → kept_alone t desk c ≡ no_cell
not-alone t desk c not-kept = rw (fails (keeps t desk c) not-kept)

-- a cleared record in which the kept cells are held is fresh
module _ (t : Tray) (desk : ℕ) (few : t.counts.cells ≤ 32) where
  abbrev cleared : Record
  cleared = record { tray = t; desk = desk; seat = no_seat; row = replicate 32 no_cell }

  abbrev kept : ℕ → Bool
  kept c = kept_by (place_at t c) desk

  hit : (c : ℕ) → c < t.counts.cells → kept c ≡ true → cell_at (fresh_record t desk).row c ≡ blank_cell
  unfolding keeps
  hit c h e = fresh-cell t desk c (omega arith) ∙ rw (lt-ltb c t.counts.cells h, e)

  miss : (c : ℕ) → c < length (replicate 32 no_cell) → ByNone kept (λ c. c) blank_cell t.counts.cells c
      → cell_at (fresh_record t desk).row c ≡ cell_at (replicate 32 no_cell) c
  unfolding keeps
  miss c h none =
      let i : c < 32 = omega (arith, length-replicate 32 no_cell) in
      fresh-cell t desk c i ∙ not-alone t desk c (λ e. none c (keeps-in t desk c e, both_right (ltb c t.counts.cells) (kept c) e, refl))
      ∙ sym (get_or-replicate 32 c no_cell past_cell i)

  pub kept_fresh : kept_in cleared ≡ fresh_record t desk
  unfolding kept_to fresh_record
  kept_fresh =
      ap (with_row cleared)
      (marked_all kept (λ c. c) blank_cell t.counts.cells (replicate 32 no_cell) (fresh_record t desk).row past_cell
      (fresh-length t desk ∙ sym (length-replicate 32 no_cell)) hit miss)

pub few-cells : (p : Plan) → set_up_refusal p ≡ 0 → (fresh_tray p).counts.cells ≤ 32
unfolding fresh_tray
few-cells p none = (settled p none).cells-most

-- what starting comes to, refused or not
module _ (p : Plan) (desk : ℕ) where
  pub start-refused : (start_refusal p desk ≡ 0 → ⊥) → start_rule p desk ≡ not_started (start_refusal p desk)
  unfolding start_rule
  start-refused = unless-refused (start_refusal p desk) not_started _

  pub start-done : start_refusal p desk ≡ 0
      → start_rule p desk ≡ record { code = 0; «record» = kept_in (with_desk (with_tray no_record (fresh_tray p)) desk) }
  unfolding start_rule no_record
  start-done none =
      unless-done (start_refusal p desk) not_started _ none
      ∙ ap (λ (v : Record). record { code = 0; «record» = v }) (sym (kept_fresh (fresh_tray p) desk (few-cells p (start-passed p desk none).0)))
