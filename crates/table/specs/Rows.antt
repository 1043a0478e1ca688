-- A desk's record put back is that desk's record again, and every other desk's is as it was.
-- Assumes nothing.
use Rattle.std.specs.Prelude.{◌≡◌, ◌⊎◌, List, [], ℕ, ◌+◌, ◌*◌, ◌≤◌, ◌<◌, length, take}
use Rattle.std.proofs.Common.{sym, ◌∙◌, inl, inr, arith, length-take, drop_of_length-le, get_or-set_other}
use Rattle.std.proofs.Math.Decide.{dec_lt}
use Rattle.std.proofs.Math.ListN.{length-set}
use Rattle.std.proofs.Math.Seq.{slice, paste, get_or-set_same, length-slice, take_all}
use Rattle.std.proofs.lemmas.List.Edits.{length-paste}
use Rattle.desk.specs.declared.Cell.{Cell}
use Rattle.desk.specs.declared.Record.{Record}
use Rattle.desk.specs.Desk.{past_cell, past_seat}
use Rattle.desk.specs.SameDesk.{SameDesk}
use Rattle.theory_lists.specs.Part.{slice-paste, slice-apart}
use Rattle.table.specs.declared.Table.{Table}
use Rattle.table.specs.Table.{record_of, put_back}

-- the lengths of a table's arrays, which the lists behind them lack
pub record Sized (t : Table) : Type 0 where
  pub all-cells : length t.cells ≡ 256
  pub all-places : length t.tray.places ≡ 32
  pub all-seats : length t.seats ≡ 8

pub row-length : (t : Table) (desk : ℕ) → Sized t → desk < 8 → length (record_of t desk).row ≡ 32
unfolding record_of
row-length t desk z h = length-slice (desk * 32) (desk * 32 + 32) t.cells (omega (arith, z.all-cells)) ∙ (omega arith)

-- past the last desk there is nothing
none-there : (p : ℕ) (l : List Cell) → length l ≡ 256 → 8 ≤ p → slice (p * 32) (p * 32 + 32) l ≡ []
none-there p l e h = drop_of_length-le (take (p * 32 + 32) l) {i = p * 32} (omega (arith, length-take (p * 32 + 32) l))

-- ---- a record of the same desk put back
module _ (t : Table) (desk : ℕ) (u : Record) (z : Sized t) (h : desk < 8) (same : SameDesk (record_of t desk) u) where
  below : u.desk < 8
  unfolding record_of
  below = rw same.same_number h

  long : length u.row ≡ 32
  long = same.same_length ∙ row-length t desk z h

  pasted : length (paste t.cells (u.desk * 32) u.row 32) ≡ 256
  pasted = length-paste t.cells (u.desk * 32) u.row 32 (omega (arith, below)) (omega (arith, long)) ∙ z.all-cells

  pub put-sized : Sized (put_back t u)
  unfolding put_back
  put-sized = record { all-cells = pasted; all-places = z.all-places; all-seats = length-set t.seats u.desk u.seat ∙ z.all-seats }

  pub put_same : record_of (put_back t u) desk ≡ u
  unfolding record_of put_back
  put_same =
      rw (
        ← same.same_number,
        get_or-set_same t.seats u.desk u.seat past_seat (omega (arith, below)),
        row,
        ← same.same-tray,
      )
    where
      row : slice (u.desk * 32) (u.desk * 32 + 32) (paste t.cells (u.desk * 32) u.row 32) ≡ u.row
      row =
          slice-paste t.cells (u.desk * 32) u.row 32 (omega (arith, below)) (omega (arith, long))
          ∙ take_all 32 u.row (omega (arith, long))

  pub put_other : (p : ℕ) → (p ≡ desk → ⊥) → record_of (put_back t u) p ≡ record_of t p
  unfolding record_of put_back
  put_other p ne = rw (get_or-set_other t.seats u.desk p u.seat past_seat other, row)
    where
      other : p ≡ u.desk → ⊥
      other q = ne (q ∙ same.same_number)

      apart : (p * 32 + 32 ≤ u.desk * 32) ⊎ (u.desk * 32 + 32 ≤ p * 32)
      apart = elim (dec_lt p u.desk) [ yes l ↦ inl (omega arith) | no l ↦ inr (omega (arith, other)) ]

      row : slice (p * 32) (p * 32 + 32) (paste t.cells (u.desk * 32) u.row 32) ≡ slice (p * 32) (p * 32 + 32) t.cells
      row =
          elim (dec_lt p 8) [
            | yes there ↦ slice-apart t.cells (u.desk * 32) u.row 32 (omega (arith, below)) (omega (arith, long))
                (p * 32) (p * 32 + 32) past_cell (omega arith) apart
            | no past ↦ none-there p (paste t.cells (u.desk * 32) u.row 32) pasted (omega arith)
                ∙ sym (none-there p t.cells z.all-cells (omega arith))
          ]
