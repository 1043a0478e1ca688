-- What a set-up that is not refused has passed; and a desk's fresh record on its tray is sound.
-- Assumes nothing.
use Rattle.std.specs.Prelude.{◌≡◌, Bool, not, ◌&&◌, ◌||◌, ℕ, ◌≤◌, ◌<◌, eqb, get_or, replicate}
use Rattle.std.proofs.Math.Path.{refl}
use Rattle.std.proofs.Common.{sym, ap, ◌∙◌}
use Rattle.std.proofs.Math.Bool.{true, false, cond}
use mathlib.Core.List.{List, [], ◌∷◌}
use Rattle.std.proofs.Math.Decide.{ℕ_discrete}
use native.Mathlib.Omega.{arith}
use borrow.Author.Tests.{ltb-true, leb-true, leb-false, not-false, lt-ltb}
use Rattle.std.proofs.Math.Dec.{ltb, leb}
use Rattle.std.proofs.Math.ListN.{length, length-replicate}
use Rattle.clock.specs.Laws.{zero-past}
use Rattle.theory_lists.specs.Each.{length-map_at, get_or-map_at}
use Rattle.theory_lists.specs.Test.{both_left, both_right, either_left, every-map_at}
use Rattle.theory_refusals.specs.Refusals.{Line, first_of, numbers_from, test_of, none-applies, first_some, unless-either}
use Rattle.desk.specs.declared.Plan.{Plan}
use Rattle.desk.specs.declared.Started.{Started}
use Rattle.desk.specs.declared.Tray.{Tray}
use Rattle.desk.specs.Desk.{no_cell, no_place, past_cell, cell_at, keeps}
use Rattle.desk.specs.Kept.{no-cell-rule, held-rule, no-slot-rule}
use Rattle.desk.specs.Sound.{place_sound, is_sound}
use Rattle.desk.specs.SoundLaws.{TrayRule, CellRule, RowRule, rule-sound, keeps-in, no_way}
use Rattle.desk.specs.Start.{planned_place, fresh_tray, keeper_right, keepers_right, set_up_lines, set_up_refusal}
use Rattle.desk.specs.Start.{held_if, kept_alone, fresh_record, start_lines, start_refusal, not_started, start_rule}

pub record Settled (p : Plan) : Type 0 where
  pub some-desk : 1 ≤ p.desks
  pub desks-most : p.desks ≤ 8
  pub some-cell : 1 ≤ p.cells
  pub cells-most : p.cells ≤ 32
  pub right : keepers_right p ≡ true

pub settled : (p : Plan) → set_up_refusal p ≡ 0 → Settled p
unfolding set_up_refusal set_up_lines numbers_from test_of
settled p e =
    let none = none-applies (set_up_lines p) refl e in
    let desks-right = not-false (leb 1 p.desks && leb p.desks 8) (none 20) in
    let cells_right = not-false (leb 1 p.cells && leb p.cells 32) (none 21) in
    record {
      some-desk = leb-true 1 p.desks (search (both_left, both_right));
      desks-most = leb-true p.desks 8 (search (both_left, both_right));
      some-cell = leb-true 1 p.cells (search (both_left, both_right));
      cells-most = leb-true p.cells 32 (search (both_left, both_right));
      right = not-false (keepers_right p) (none 22);
    }

pub keeper-below : {p : Plan} → Settled p → (c : ℕ) → c < p.cells → c < length p.keepers → get_or p.keepers c 0 < p.desks
unfolding keepers_right
keeper-below {p} s c h i =
    ltb-true (get_or p.keepers c 0) p.desks
    (either_left (ap not (lt-ltb c p.cells h)) (every-map_at (keeper_right p.desks p.cells) p.keepers 0 s.right c i))

-- ---- the tray is sound
module _ (p : Plan) where
  pub fresh-tray : set_up_refusal p ≡ 0 → TrayRule (fresh_tray p)
  unfolding fresh_tray place_sound keepers_right
  fresh-tray none =
      let s = settled p none in
      record {
        some-desk = s.some-desk;
        desks-most = s.desks-most;
        some-cell = s.some-cell;
        cells-most = s.cells-most;
        place_is =
            λ c h.
            let i : c < length p.keepers = omega (arith, length-map_at (planned_place p.cells) p.keepers) in
            rw (get_or-map_at (planned_place p.cells) p.keepers c 0 no_place i)
            (keeper (ltb c p.cells) (get_or p.keepers c 0)
            (every-map_at (keeper_right p.desks p.cells) p.keepers 0 s.right c i));
      }
    where
      keeper : (b : Bool) (k : ℕ) → (not b || ltb k p.desks) ≡ true → cond b (ltb (cond b k 0) p.desks) (eqb (cond b k 0) 0) ≡ true
      keeper true k e = e
      keeper false k e = refl

-- ---- and so is a record
module _ (t : Tray) (desk : ℕ) where
  pub fresh-length : length (fresh_record t desk).row ≡ 32
  unfolding fresh_record
  fresh-length = length-map_at (λ c _. kept_alone t desk c) (replicate 32 no_cell) ∙ length-replicate 32 no_cell

  pub fresh-cell : (c : ℕ) → c < 32 → cell_at (fresh_record t desk).row c ≡ kept_alone t desk c
  unfolding fresh_record
  fresh-cell c h =
      get_or-map_at (λ c _. kept_alone t desk c) (replicate 32 no_cell) c past_cell past_cell (omega (arith, length-replicate 32 no_cell))

  module _ (there : (c : ℕ) → keeps t desk c ≡ true → desk < t.counts.desks) where
    pub alone-rule : (c : ℕ) → CellRule t desk c (kept_alone t desk c)
    alone-rule c = go (keeps t desk c) refl
      where
        go : (b : Bool) → keeps t desk c ≡ b → CellRule t desk c (held_if b)
        go true e = held-rule t desk c _ _ (there c e, keeps-in t desk c e) (zero-past t.counts.desks) (λ _. refl)
        go false e = no-cell-rule t desk c e

    pub fresh-row : RowRule (fresh_record t desk)
    unfolding fresh_record
    fresh-row =
        record {
          cell-is = λ c i. rw (fresh-cell c (omega (arith, fresh-length))) (alone-rule c);
          seat-is = record { numbers-past = zero-past _; slot_is = no-slot-rule t desk; served-waits = λ q. no_way false q refl };
        }

-- ---- starting that is not refused
module _ (p : Plan) (desk : ℕ) where
  pub start-passed : start_refusal p desk ≡ 0 → (set_up_refusal p ≡ 0) × (desk < p.desks)
  unfolding start_refusal start_lines set_up_refusal set_up_lines numbers_from test_of
  start-passed e =
      let last : List Line = (10, leb p.desks desk) ∷ [] in
      let below = leb-false p.desks desk (none-applies (start_lines p desk) refl e 10) in
      elim (ℕ_discrete (first_of (set_up_lines p)) 0) [
        | yes none ↦ (none, omega (arith, below))
        | no some ↦ absurd (some (sym (first_some (set_up_lines p) last some) ∙ e))
      ]

  -- with code 0 the record is sound
  pub start-sound : (start_rule p desk).code ≡ 0 → is_sound (start_rule p desk).«record» ≡ true
  unfolding start_rule fresh_record fresh_tray
  start-sound =
      let t = fresh_tray p in
      unless-either (start_refusal p desk) not_started (record { code = 0; «record» = fresh_record t desk })
      (λ (s : Started). s.code ≡ 0 → is_sound s.«record» ≡ true)
      (λ some ok. absurd (some ok))
      (λ none ok.
      let q = start-passed none in
      rule-sound (fresh_record t desk)
      (record { tray-is = fresh-tray p q.0; desk-is = q.1; row_is = fresh-row t desk (λ _ _. q.1); asked = omega arith }))
