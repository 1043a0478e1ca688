-- A fresh table is sound, whatever plan it was set up from that is not refused; and its rows are the records that the desks would start with.
-- Assumes nothing.
use Rattle.std.specs.Prelude.{◌≡◌, true, ℕ, ◌+◌, ◌*◌, ◌/◌, ◌%◌, ◌≤◌, ◌<◌, length, get_or, replicate}
use Rattle.std.proofs.Math.Path.{refl}
use Rattle.std.proofs.Common.{sym, ◌∙◌, ext_get_or}
use mathlib.Core.List.{List, [], ◌∷◌}
use native.Mathlib.Omega.{arith}
use Rattle.std.proofs.lemmas.Bool.{lt-leb}
use Rattle.std.proofs.Math.Dec.{leb}
use Rattle.std.proofs.Math.ListN.{length-replicate, get_or-replicate}
use Rattle.desk.specs.declared.Plan.{Plan}
use Rattle.desk.specs.declared.Tray.{Tray}
use Rattle.desk.specs.Desk.{no_cell, no_place, no_seat, past_cell, past_seat, cell_at}
use Rattle.desk.specs.SoundLaws.{TrayRule, keeps-in, is-keeper, keeper-desk}
use Rattle.desk.specs.Start.{planned_place, fresh_tray, no_tray, set_up_lines, set_up_refusal, kept_alone, fresh_record, start_lines, start_refusal, not_started, start_rule}
use Rattle.desk.specs.StartLaws.{settled, fresh-tray, fresh-length, fresh-cell, fresh-row}
use Rattle.theory_lists.specs.Each.{length-map_at, get_or-map_at}
use Rattle.theory_refusals.specs.Refusals.{Line, first_of, numbers_from, first_more, unless-done, unless-either}
use Rattle.table.specs.declared.SetUp.{SetUp}
use Rattle.table.specs.Room.{Room}
use Rattle.table.specs.Rows.{Sized, row-length}
use Rattle.table.specs.SetUp.{fresh_cell, fresh_table, no_table, not_set_up, set_up_rule}
use Rattle.table.specs.Sound.{table_sound}
use Rattle.table.specs.SoundLaws.{TableRule, rule-table, entry-is}
use Rattle.table.specs.Table.{record_of}

tray-sized : (t : Tray) → length t.places ≡ 32 → Sized (fresh_table t)
unfolding fresh_table
tray-sized t long =
    record {
      all-cells = length-map_at (λ i _. fresh_cell t i) (replicate 256 no_cell) ∙ length-replicate 256 no_cell;
      all-places = long;
      all-seats = refl;
    }

-- eight seats with nothing in them: their clocks have their places
fresh-clocks : (p : ℕ) → p < 8 → 8 ≤ length (get_or (replicate 8 no_seat) p past_seat).clock.n
fresh-clocks p h = rw (get_or-replicate 8 p no_seat past_seat h) (omega arith)

-- ---- a desk's row of a fresh table is the record that the desk would start with
module _ (t : Tray) (long : length t.places ≡ 32) where
  entry : (p c : ℕ) → p < 8 → c < 32 → cell_at (record_of (fresh_table t) p).row c ≡ kept_alone t p c
  unfolding fresh_table
  entry p c h i =
      let desk : (p * 32 + c) / 32 ≡ p = omega arith in
      let cell : (p * 32 + c) % 32 ≡ c = omega arith in
      entry-is (fresh_table t) p c i
      ∙ get_or-map_at (λ i _. fresh_cell t i) (replicate 256 no_cell) (p * 32 + c) past_cell past_cell (omega (arith, length-replicate 256 no_cell))
      ∙ rw (desk, cell)

  row : (p : ℕ) → p < 8 → (record_of (fresh_table t) p).row ≡ (fresh_record t p).row
  row p h =
      let entries = row-length (fresh_table t) p (tray-sized t long) h in
      ext_get_or past_cell (record_of (fresh_table t) p).row (fresh_record t p).row (entries ∙ sym (fresh-length t p))
      (λ c i. let j : c < 32 = omega (arith, entries) in entry p c h j ∙ sym (fresh-cell t p c j))

  fresh-record : (p : ℕ) → p < 8 → record_of (fresh_table t) p ≡ fresh_record t p
  unfolding fresh_table record_of fresh_record
  fresh-record p h = λ i. record { tray = t; desk = p; seat = get_or-replicate 8 p no_seat past_seat h i; row = row p h i }

  -- on a tray that is sound, who keeps a cell is a desk
  tray-fresh : TrayRule t → TableRule (fresh_table t)
  unfolding fresh_table
  tray-fresh r =
      record {
        sized = tray-sized t long;
        tray-is = r;
        row_is =
            λ p h.
            rw (fresh-record p h)
            (fresh-row t p (λ c q. rw (← is-keeper t p c q) (keeper-desk t c r long (keeps-in t p c q))));
      }

-- ---- on the tray of any plan that is not refused
module _ (p : Plan) (long : length p.keepers ≡ 32) where
  places : length (fresh_tray p).places ≡ 32
  unfolding fresh_tray
  places = length-map_at (planned_place p.cells) p.keepers ∙ long

  pub fresh-room : Room (fresh_table (fresh_tray p))
  unfolding record_of fresh_table
  fresh-room = record { sized = tray-sized (fresh_tray p) places; clocks = fresh-clocks }

  pub fresh-sound : set_up_refusal p ≡ 0 → table_sound (fresh_table (fresh_tray p)) ≡ true
  fresh-sound none = rule-table (fresh_table (fresh_tray p)) (tray-fresh (fresh_tray p) places (fresh-tray p none))

  -- what set-up gives: lengths always, and soundness with code 0
  pub set-up-room : Room (set_up_rule p).table
  unfolding set_up_rule no_table no_tray record_of
  set-up-room =
      unless-either (set_up_refusal p) not_set_up (record { code = 0; table = fresh_table (fresh_tray p) }) (λ (s : SetUp). Room s.table)
      (λ _.
      record {
        sized = record { all-cells = length-replicate 256 no_cell; all-places = length-replicate 32 no_place; all-seats = refl };
        clocks = fresh-clocks;
      })
      (λ _. fresh-room)

  pub set-up-sound : (set_up_rule p).code ≡ 0 → table_sound (set_up_rule p).table ≡ true
  unfolding set_up_rule
  set-up-sound =
      unless-either (set_up_refusal p) not_set_up (record { code = 0; table = fresh_table (fresh_tray p) })
      (λ (s : SetUp). s.code ≡ 0 → table_sound s.table ≡ true)
      (λ some ok. absurd (some ok))
      (λ none _. fresh-sound none)

  -- a desk that starts has its row of the fresh table
  pub started : (d : ℕ) → set_up_refusal p ≡ 0 → d < p.desks
      → start_rule p d ≡ record { code = 0; «record» = record_of (fresh_table (fresh_tray p)) d }
  unfolding start_rule start_refusal start_lines set_up_refusal set_up_lines numbers_from first_of
  started d none h =
      let last : List Line = (10, leb p.desks d) ∷ [] in
      rw (fresh-record (fresh_tray p) places d (omega (arith, (settled p none).desks-most)))
      (unless-done (start_refusal p d) not_started (record { code = 0; «record» = fresh_record (fresh_tray p) d })
      (first_more (set_up_lines p) last refl none ∙ rw (lt-leb p.desks d h)))
