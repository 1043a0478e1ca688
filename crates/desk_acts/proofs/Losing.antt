-- A turn of the sweep over a row, as over the record that has this row.
-- Assumes nothing.
use Rattle.std.proofs.Common.{◌≡◌, refl, Bool, true, false, cond, ℕ, zero, suc, ◌+◌, ◌-◌, ◌≤◌, ◌<◌, List, ◌++◌, length, get_or, set, sym, ap, ◌∙◌, zero-add, inr, arith, get_or-take, get_or-drop, length-take-le, length-drop}
use Rattle.std.proofs.lemmas.List.{set-append_left, set-append_right}
use borrow.Rule.Slice.PartMut.{mid_of, post_of, put_mid, put_same}
use Rattle.clock.specs.declared.Clock.{Clock}
use Rattle.desk.specs.declared.Cell.{Cell}
use Rattle.desk.specs.declared.Record.{Record}
use Rattle.desk.specs.declared.Tray.{Tray}
use Rattle.desk.specs.Desk.{no_cell, no_seat, past_cell, cell_at, place_at, kept_by, is_lost}
use Rattle.desk.specs.InPlace.{lost_to, loss_to, lost-one, lost-stays, loss-one, loss-stays, loss-small}
use Rattle.desk.specs.Parts.{loses_if}
use Rattle.theory_lists.specs.Part.{set_same}
use Rattle.theory_lists.specs.Swept.{swept, swept_count, length-swept, swept-out}

module _ (t : Tray) (d : ℕ) (learnt : Clock) (row : List Cell) (c : ℕ) where
  abbrev v : Record
  v = record { tray = t; desk = d; seat = no_seat; row = row }

  -- what is left of the row, and how many cells it has lost, when n cells are passed
  abbrev pub left : ℕ → List Cell
  left n = swept (is_lost t d learnt) no_cell past_cell 0 n row

  abbrev pub count : ℕ → ℕ
  count n = swept_count (is_lost t d learnt) no_cell past_cell 0 n row

  pub small : count c ≤ c
  unfolding loss_to
  small = loss-small v learnt c

  module _ (h : c < t.counts.cells) (cells : List Cell) (lost : ℕ) (is : cells ≡ left c) (is-count : lost ≡ count c)
      (kept : Bool) (is-kept : kept ≡ kept_by (place_at t c) d) (r : Bool) (is-r : r ≡ loses_if kept learnt (cell_at cells c)) where
    tested : r ≡ loses_if (kept_by (place_at t c) d) learnt (cell_at (left c) c)
    tested = rw (is-r, is-kept, is)

    pub turn-lost : r ≡ true → (set cells c no_cell ≡ left (c + 1)) × (lost + 1 ≡ count (c + 1))
    unfolding lost_to loss_to
    turn-lost e = (
      rw is (ap (λ (u : Record). u.row) (lost-one v learnt c h (rw (← tested) e))),
      rw is-count (loss-one v learnt c h (rw (← tested) e)),
    )

    pub turn-stays : c < length cells → r ≡ false → (set cells c (cell_at cells c) ≡ left (c + 1)) × (lost ≡ count (c + 1))
    unfolding lost_to loss_to
    turn-stays i e = (
      set_same cells c past_cell i ∙ is ∙ ap (λ (u : Record). u.row) (lost-stays v learnt c h (rw (← tested) e)),
      is-count ∙ loss-stays v learnt c h (rw (← tested) e),
    )

-- n places from a base on, swept as a part that was lent and is back, are swept where they lie
module _ {A : Type 0} (test : ℕ → A → Bool) (none d : A) (base n k : ℕ) (l : List A) (is-part : k ≡ n) (room : base + n ≤ length l) where
  abbrev part : List A
  part = mid_of base k l

  long : length part ≡ n
  long = length-take-le k _ (omega (arith, length-drop base l)) ∙ is-part

  -- the place looked at is that of the part
  same-test : (c : ℕ) → c < n
      → test c (get_or (swept test none d 0 c part) (0 + c) d) ≡ test c (get_or (swept test none d base c l) (base + c) d)
  same-test c h =
      ap (test c)
      (swept-out test none d 0 c part (0 + c) (inr (omega arith))
      ∙ ap (λ (j : ℕ). get_or part j d) (zero-add c)
      ∙ get_or-take k _ c d (omega arith)
      ∙ get_or-drop base l c d
      ∙ sym (swept-out test none d base c l (base + c) (inr (omega arith))))

  -- a place of the part is set where it lies
  set-part : (ys : List A) (c : ℕ) → c < length ys → put_mid base k l (set ys (0 + c) none) ≡ set (put_mid base k l ys) (base + c) none
  set-part ys c h =
      let front = length-take-le base l (omega arith) in
      let place : base + c - base ≡ c = omega arith in
      sym
      (set-append_right _ (ys ++ post_of base k l) base (base + c) none front (omega arith)
      ∙ rw (place, zero-add c, set-append_left ys (post_of base k l) c none h))

  passed : (c : ℕ) → c ≤ n → put_mid base k l (swept test none d 0 c part) ≡ swept test none d base c l
  unfolding swept
  passed zero h = put_same base k l
  passed (suc c) h =
      rw (same-test c (omega arith)) (turn (passed c (omega arith)) (test c (get_or (swept test none d base c l) (base + c) d)))
    where
      turn : put_mid base k l (swept test none d 0 c part) ≡ swept test none d base c l → (b : Bool)
          → put_mid base k l (cond b (set (swept test none d 0 c part) (0 + c) none) (swept test none d 0 c part))
          ≡ cond b (set (swept test none d base c l) (base + c) none) (swept test none d base c l)
      turn so_far true =
          set-part (swept test none d 0 c part) c (omega (arith, length-swept test none d 0 c part, long))
          ∙ ap (λ (m : List A). set m (base + c) none) so_far
      turn so_far false = so_far

  counted : (c : ℕ) → c ≤ n → swept_count test none d 0 c part ≡ swept_count test none d base c l
  unfolding swept_count
  counted zero h = refl
  counted (suc c) h = rw (same-test c (omega arith), counted c (omega arith)) refl

  pub swept-part : (ys : List A) → ys ≡ swept test none d 0 (length part) part → put_mid base k l ys ≡ swept test none d base n l
  swept-part ys e = rw (e, long) (passed n (omega arith))

  pub count-part : (count : ℕ) → count ≡ swept_count test none d 0 (length part) part → count ≡ swept_count test none d base n l
  count-part count e = rw (e, long) (counted n (omega arith))
