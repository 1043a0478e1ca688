-- Soundness of a table as a rule for each desk's row: the test gives it, and it gives the test back.
-- Assumes nothing.
use Rattle.std.specs.Prelude.{◌≡◌, true, ℕ, ◌+◌, ◌*◌, ◌/◌, ◌%◌, ◌<◌, length, get_or}
use Rattle.std.proofs.Common.{sym, ◌∙◌}
use native.Mathlib.Omega.{arith}
use Rattle.desk.specs.Desk.{past_cell, past_seat, cell_at}
use Rattle.desk.specs.Sound.{cell_sound, seat_sound}
use Rattle.desk.specs.SoundLaws.{TrayRule, tray-rule, rule-tray, cell-rule, rule-cell, seat-rule, rule-seat, RowRule}
use Rattle.theory_lists.specs.Part.{get_or-slice}
use Rattle.theory_lists.specs.Test.{both, both_left, both_right, every-map_at, map_at-every}
use Rattle.table.specs.declared.Table.{Table}
use Rattle.table.specs.Rows.{Sized, row-length}
use Rattle.table.specs.Sound.{entry_sound, cells_sound, seats_sound, table_sound}
use Rattle.table.specs.Table.{seat_of, record_of}

pub record TableRule (t : Table) : Type 0 where
  pub sized : Sized t
  pub tray-is : TrayRule t.tray
  pub row_is : (p : ℕ) → p < 8 → RowRule (record_of t p)

-- cell c of desk p is entry p * 32 + c
module _ (t : Table) (p c : ℕ) (i : c < 32) where
  pub entry-is : cell_at (record_of t p).row c ≡ get_or t.cells (p * 32 + c) past_cell
  unfolding record_of
  entry-is = get_or-slice (p * 32) (p * 32 + 32) t.cells c past_cell (omega arith)

  entry-sound : entry_sound t.tray (p * 32 + c) (get_or t.cells (p * 32 + c) past_cell) ≡ cell_sound t.tray p c (cell_at (record_of t p).row c)
  unfolding entry_sound
  entry-sound =
      let desk : (p * 32 + c) / 32 ≡ p = omega arith in
      let cell : (p * 32 + c) % 32 ≡ c = omega arith in
      rw (desk, cell, entry-is)

pub sound-tray : (t : Table) → table_sound t ≡ true → TrayRule t.tray
unfolding table_sound
sound-tray t e = tray-rule t.tray (search (both_left, both_right))

pub table-rule : (t : Table) → Sized t → table_sound t ≡ true → TableRule t
unfolding table_sound cells_sound seats_sound record_of
table-rule t z e =
    record {
      sized = z;
      tray-is = sound-tray t e;
      row_is =
          λ p h.
          record {
            cell-is =
                λ c i.
                let below : c < 32 = omega (arith, row-length t p z h) in
                cell-rule t.tray p c (cell_at (record_of t p).row c)
                (sym (entry-sound t p c below)
                ∙ every-map_at (entry_sound t.tray) t.cells past_cell (search (both_left, both_right)) (p * 32 + c) (omega (arith, z.all-cells)));
            seat-is =
                seat-rule t.tray p (seat_of t p)
                (every-map_at (seat_sound t.tray) t.seats past_seat (search (both_left, both_right)) p (omega (arith, z.all-seats)));
          };
    }

pub rule-table : (t : Table) → TableRule t → table_sound t ≡ true
unfolding table_sound cells_sound seats_sound record_of
rule-table t r =
    both
    (both (rule-tray t.tray r.tray-is) (map_at-every (entry_sound t.tray) t.cells past_cell cells))
    (map_at-every (seat_sound t.tray) t.seats past_seat
    (λ p h. rule-seat t.tray p (seat_of t p) (r.row_is p (omega (arith, r.sized.all-seats))).seat-is))
  where
    cells : (k : ℕ) → k < length t.cells → entry_sound t.tray k (get_or t.cells k past_cell) ≡ true
    cells k h =
        let p = k / 32 in
        let c = k % 32 in
        let there : p < 8 = omega (arith, r.sized.all-cells) in
        let at : p * 32 + c ≡ k = omega arith in
        rw at at
        (entry-sound t p c (omega arith)
        ∙ rule-cell t.tray p c (cell_at (record_of t p).row c)
        ((r.row_is p there).cell-is c (omega (arith, row-length t p r.sized there))))

-- every desk has a row
pub desk-below : (t : Table) → TableRule t → (desk : ℕ) → desk < t.tray.counts.desks → desk < 8
desk-below t r desk h = omega (arith, r.tray-is.desks-most)
