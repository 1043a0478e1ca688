-- What the code changes where the table lies: a cell, a seat, a sweep over a desk's cells. Each is a record of the same desk put back, so that what is
-- done step by step is a desk's rule on its record.
-- Assumes nothing.
use Rattle.std.specs.Prelude.{◌≡◌, Bool, false, ℕ, ◌+◌, ◌*◌, ◌≤◌, ◌<◌}
use Rattle.std.proofs.Math.Path.{refl, sym}
use Rattle.std.proofs.Common.{ap, ◌∙◌, arith, add-zero, add-one, lt-ltb}
use Rattle.std.proofs.Math.Bool.{true}
use Rattle.std.proofs.Math.ListN.{set}
use Rattle.clock.specs.declared.Clock.{Clock}
use Rattle.desk.specs.declared.Cell.{Cell}
use Rattle.desk.specs.declared.Record.{Record}
use Rattle.desk.specs.declared.Seat.{Seat}
use Rattle.desk.specs.Desk.{no_cell, past_cell, past_seat, cell_at, place_at, kept_by, keeps, is_copy, is_lost, left_of, loss_of}
use Rattle.desk.specs.Parts.{loses_if}
use Rattle.desk.specs.Rules.{with_seat, with_row, holds}
use Rattle.desk.specs.SameDesk.{SameDesk}
use Rattle.desk.specs.SoundLaws.{RowRule}
use Rattle.theory_lists.specs.Part.{paste-slice, paste-paste, set-in-part, set_same, set_twice}
use Rattle.theory_lists.specs.Swept.{swept, swept_count, count_small, swept-row, swept-count}
use Rattle.theory_lists.specs.Test.{both_left, fails}
use Rattle.table.specs.declared.Table.{Table}
use Rattle.table.specs.Rows.{Sized, row-length}
use Rattle.table.specs.SoundLaws.{entry-is}
use Rattle.table.specs.Table.{record_of, put_back}

-- entry i is x; desk d's seat is s
abbrev pub with_cell : Table → ℕ → Cell → Table
with_cell t i x = record { cells = set t.cells i x; tray = t.tray; seats = t.seats }

abbrev pub with_seat_of : Table → ℕ → Seat → Table
with_seat_of t d s = record { cells = t.cells; tray = t.tray; seats = set t.seats d s }

-- desk d has lost its copies strictly before a clock, of its first n cells; and how many
unfoldable pub lost_to : Table → ℕ → Clock → ℕ → Table
lost_to t d learnt n =
    record { cells = swept (is_lost t.tray d learnt) no_cell past_cell (d * 32) n t.cells; tray = t.tray; seats = t.seats }

unfoldable pub loss_to : Table → ℕ → Clock → ℕ → ℕ
loss_to t d learnt n = swept_count (is_lost t.tray d learnt) no_cell past_cell (d * 32) n t.cells

-- of all cells of the tray
abbrev pub lost_of : Table → ℕ → Clock → Table
lost_of t d learnt = lost_to t d learnt t.tray.counts.cells

abbrev pub lost_count : Table → ℕ → Clock → ℕ
lost_count t d learnt = loss_to t d learnt t.tray.counts.cells

-- a turn of the sweep: the cell that it looks at is lost, or stays
module _ (t : Table) (d : ℕ) (learnt : Clock) where
  pub lost-none : lost_to t d learnt 0 ≡ t
  unfolding lost_to swept
  lost-none = refl

  pub loss-none : loss_to t d learnt 0 ≡ 0
  unfolding loss_to swept_count
  loss-none = refl

  module _ (c : ℕ) (h : c < t.tray.counts.cells) where
    abbrev looked : Cell
    looked = cell_at (lost_to t d learnt c).cells (d * 32 + c)

    abbrev test : Bool
    test = loses_if (kept_by (place_at t.tray c) d) learnt looked

    test-is : is_lost t.tray d learnt c looked ≡ test
    unfolding is_lost is_copy keeps
    test-is = rw (lt-ltb c t.tray.counts.cells h)

    pub lost-one : test ≡ true → with_cell (lost_to t d learnt c) (d * 32 + c) no_cell ≡ lost_to t d learnt (c + 1)
    unfolding lost_to swept
    lost-one e = rw (add-one, test-is, e)

    pub lost-stays : test ≡ false → lost_to t d learnt c ≡ lost_to t d learnt (c + 1)
    unfolding lost_to swept
    lost-stays e = rw (add-one, test-is, e)

    pub loss-one : test ≡ true → loss_to t d learnt c + 1 ≡ loss_to t d learnt (c + 1)
    unfolding loss_to swept_count lost_to
    loss-one e = sym (ap (loss_to t d learnt) (add-one c) ∙ rw (test-is, e))

    pub loss-stays : test ≡ false → loss_to t d learnt c ≡ loss_to t d learnt (c + 1)
    unfolding loss_to swept_count lost_to
    loss-stays e = sym (ap (loss_to t d learnt) (add-one c) ∙ rw (test-is, e) (add-zero (loss_to t d learnt c)))

  -- at most one for each cell looked at
  pub loss-small : (n : ℕ) → loss_to t d learnt n ≤ n
  unfolding loss_to
  loss-small n = count_small (is_lost t.tray d learnt) no_cell past_cell (d * 32) n t.cells

module _ (t : Table) (d : ℕ) (z : Sized t) (h : d < 8) where
  abbrev v : Record
  v = record_of t d

  -- nothing changed
  pub put-none : put_back t (record_of t d) ≡ t
  unfolding record_of put_back
  put-none =
      λ i.
      record {
        cells = paste-slice t.cells (d * 32) 32 (omega (arith, z.all-cells)) i;
        tray = t.tray;
        seats = set_same t.seats d past_seat (omega (arith, z.all-seats)) i;
      }

  pub cell-put : (c : ℕ) (x : Cell) → c < 32 → with_cell t (d * 32 + c) x ≡ put_back t (holds (record_of t d) c x)
  unfolding record_of put_back
  cell-put c x i =
      λ j.
      record {
        cells = set-in-part t.cells (d * 32) 32 c x past_cell (omega (arith, z.all-cells)) i j;
        tray = t.tray;
        seats = sym (set_same t.seats d past_seat (omega (arith, z.all-seats))) j;
      }

  pub seat-put : (s : Seat) → with_seat_of t d s ≡ put_back t (with_seat (record_of t d) s)
  unfolding record_of put_back
  seat-put s =
      λ i.
      record {
        cells = sym (paste-slice t.cells (d * 32) 32 (omega (arith, z.all-cells))) i;
        tray = t.tray;
        seats = set t.seats d s;
      }

  -- a sweep: a cell past the count is not held, so there is nothing to lose
  module _ (few : t.tray.counts.cells ≤ 32) (r : RowRule (record_of t d)) (learnt : Clock) where
    past : (c : ℕ) → t.tray.counts.cells ≤ c → c < 32 → is_lost t.tray d learnt c (cell_at t.cells (d * 32 + c)) ≡ false
    unfolding is_lost is_copy record_of
    past c n i =
        let x = cell_at t.cells (d * 32 + c) in
        fails (is_lost t.tray d learnt c x)
        (λ e.
        let held : x.held ≡ true = search both_left in
        let there = (r.cell-is c (omega (arith, row-length t d z h))).used (ap (λ (y : Cell). y.held) (entry-is t d c i) ∙ held) in
        omega (arith, there.1))

    pub lost-put : lost_of t d learnt ≡ put_back t (with_row (record_of t d) (left_of t.tray d learnt (record_of t d).row))
    unfolding lost_to record_of put_back left_of
    lost-put =
        λ i.
        record {
          cells =
              swept-row (is_lost t.tray d learnt) no_cell past_cell (d * 32) t.tray.counts.cells 32 t.cells few
              (omega (arith, z.all-cells)) past i;
          tray = t.tray;
          seats = sym (set_same t.seats d past_seat (omega (arith, z.all-seats))) i;
        }

    pub lost-count : lost_count t d learnt ≡ loss_of t.tray d learnt (record_of t d).row
    unfolding loss_to loss_of record_of
    lost-count =
        swept-count (is_lost t.tray d learnt) no_cell past_cell (d * 32) t.tray.counts.cells 32 t.cells few
        (omega (arith, z.all-cells)) past

  -- one record put back over another of the same desk
  pub put-put : (u w : Record) → SameDesk (record_of t d) u → SameDesk (record_of t d) w → put_back (put_back t u) w ≡ put_back t w
  unfolding record_of put_back
  put-put u w same-u same_w =
      let long-u = same-u.same_length ∙ row-length t d z h in
      let long-w = same_w.same_length ∙ row-length t d z h in
      rw (same-u.same_number, same_w.same_number)
      (λ i.
      record {
        cells =
            paste-paste t.cells (d * 32) u.row w.row 32 past_cell (omega (arith, z.all-cells)) (omega (arith, long-u))
            (omega (arith, long-w)) i;
        tray = t.tray;
        seats = set_twice t.seats d u.seat w.seat past_seat (omega (arith, z.all-seats)) i;
      })
