-- The desk's steps as the code does them where its record lies: cell by cell, and its seat. Each is the rule, for what is not refused: that
-- stands in proofs/InPlace.
-- Assumes nothing.
use Rattle.std.specs.Prelude.{◌≡◌, Bool, ◌&&◌, cond, ℕ, ◌+◌, ◌≤◌, ◌<◌, eqb, length}
use Rattle.std.proofs.Math.Path.{refl, sym, ap, ap₂}
use Rattle.std.proofs.Common.{◌∙◌, add-zero, zero-add, add-one, arith}
use Rattle.std.proofs.Math.Bool.{true, false, not}
use borrow.Author.Tests.{lt-ltb}
use Rattle.std.proofs.Math.Seq.{get_or-set_same}
use Rattle.clock.specs.Clock.{is_before}
use Rattle.clock.specs.declared.Clock.{Clock}
use Rattle.theory_lists.specs.Swept.{swept, swept_count, count_small, length-swept, swept_all, swept-all-count, swept-stored, count-stored}
use Rattle.theory_lists.specs.Test.{both_left, fails}
use Rattle.desk.specs.declared.Answer.{Answer}
use Rattle.desk.specs.declared.Cell.{Cell}
use Rattle.desk.specs.declared.Event.{Event}
use Rattle.desk.specs.declared.Message.{Message}
use Rattle.desk.specs.declared.Record.{Record}
use Rattle.desk.specs.declared.Seat.{Seat}
use Rattle.desk.specs.Desk.{Word, no_cell, past_cell, cell_at, place_at, kept_by, keeps, held_cell, is_copy, is_lost, left_of, loss_of}
use Rattle.desk.specs.Parts.{change_of, asking_seat, raised_seat, took_seat, home_seat}
use Rattle.desk.specs.Parts.{brought_cell, loses_if}
use Rattle.desk.specs.Parts.{own_answer, served_answer, brought_answer}
use Rattle.desk.specs.RuleLaws.{Served, served, serve-place}
use Rattle.desk.specs.Rules.{with_seat, with_row, holds}
use Rattle.desk.specs.Rules.{serve_refusal, takes}
use Rattle.desk.specs.SoundLaws.{RowRule, SoundRule, sound-rule}

-- ---- a sweep: the desk has lost its copies strictly before a clock, of its first n cells; and how many
unfoldable pub lost_to : Record → Clock → ℕ → Record
lost_to v learnt n = with_row v (swept (is_lost v.tray v.desk learnt) no_cell past_cell 0 n v.row)

unfoldable pub loss_to : Record → Clock → ℕ → ℕ
loss_to v learnt n = swept_count (is_lost v.tray v.desk learnt) no_cell past_cell 0 n v.row

-- of all cells of the tray
abbrev pub lost_in : Record → Clock → Record
lost_in v learnt = lost_to v learnt v.tray.counts.cells

abbrev pub loss_in : Record → Clock → ℕ
loss_in v learnt = loss_to v learnt v.tray.counts.cells

-- a turn of the sweep: the cell that it looks at is lost, or stays
module _ (v : Record) (learnt : Clock) where
  pub lost-none : lost_to v learnt 0 ≡ v
  unfolding lost_to swept
  lost-none = refl

  pub loss-none : loss_to v learnt 0 ≡ 0
  unfolding loss_to swept_count
  loss-none = refl

  module _ (c : ℕ) (h : c < v.tray.counts.cells) where
    abbrev test : Bool
    test = loses_if (kept_by (place_at v.tray c) v.desk) learnt (cell_at (lost_to v learnt c).row c)

    test-is : is_lost v.tray v.desk learnt c (cell_at (lost_to v learnt c).row (0 + c)) ≡ test
    unfolding is_lost is_copy keeps
    test-is = rw (zero-add c, lt-ltb c v.tray.counts.cells h)

    pub lost-one : test ≡ true → holds (lost_to v learnt c) c no_cell ≡ lost_to v learnt (c + 1)
    unfolding lost_to swept
    lost-one e = rw (add-one, test-is, e, zero-add)

    pub lost-stays : test ≡ false → lost_to v learnt c ≡ lost_to v learnt (c + 1)
    unfolding lost_to swept
    lost-stays e = rw (add-one, test-is, e)

    pub loss-one : test ≡ true → loss_to v learnt c + 1 ≡ loss_to v learnt (c + 1)
    unfolding loss_to swept_count lost_to
    loss-one e = sym (ap (loss_to v learnt) (add-one c) ∙ rw (test-is, e))

    pub loss-stays : test ≡ false → loss_to v learnt c ≡ loss_to v learnt (c + 1)
    unfolding loss_to swept_count lost_to
    loss-stays e = sym (ap (loss_to v learnt) (add-one c) ∙ rw (test-is, e) (add-zero (loss_to v learnt c)))

  -- at most one for each cell looked at
  pub loss-small : (n : ℕ) → loss_to v learnt n ≤ n
  unfolding loss_to
  loss-small n = count_small (is_lost v.tray v.desk learnt) no_cell past_cell 0 n v.row

-- a cell past the count is not held, so there is nothing to lose
module _ (v : Record) (long : length v.row ≡ 32) (few : v.tray.counts.cells ≤ 32) (r : RowRule v) (learnt : Clock) where
  past : (c : ℕ) → v.tray.counts.cells ≤ c → c < length v.row → is_lost v.tray v.desk learnt c (cell_at v.row c) ≡ false
  unfolding is_lost is_copy
  past c n i =
      let x = cell_at v.row c in
      fails (is_lost v.tray v.desk learnt c x)
      (λ e.
      let held : x.held ≡ true = search both_left in
      omega (arith, ((r.cell-is c i).used held).1))

  pub lost-is : lost_in v learnt ≡ with_row v (left_of v.tray v.desk learnt v.row)
  unfolding lost_to left_of
  lost-is =
      ap (with_row v) (swept_all (is_lost v.tray v.desk learnt) no_cell past_cell v.tray.counts.cells v.row (omega arith) past)

  pub loss-is : loss_in v learnt ≡ loss_of v.tray v.desk learnt v.row
  unfolding loss_to loss_of
  loss-is = swept-all-count (is_lost v.tray v.desk learnt) no_cell past_cell v.tray.counts.cells v.row (omega arith) past

-- ---- a write stored
abbrev pub store_in : Record → ℕ → Seat → Word → Record
store_in v c s w = holds (with_seat v s) c (held_cell w s.clock)

-- in a kept cell, which is no copy: before a sweep as well as after it
module _ (v : Record) (c : ℕ) (s : Seat) (w : Word) (learnt : Clock) (kept : keeps v.tray v.desk c ≡ true) where
  stays : (x : Cell) → is_lost v.tray v.desk learnt c x ≡ false
  unfolding is_lost is_copy
  stays x = rw kept (no_copy x.held)
    where
      no_copy : (b : Bool) → ((b && not true) && is_before x.stamp learnt) ≡ false
      no_copy true = refl
      no_copy false = refl

  pub lost-stored : lost_in (store_in v c s w) learnt ≡ store_in (lost_in v learnt) c s w
  unfolding lost_to
  lost-stored =
      let same = swept-stored (is_lost v.tray v.desk learnt) no_cell past_cell 0 v.row c (held_cell w s.clock) stays v.tray.counts.cells in
      ap (with_row (with_seat v s)) (rw (zero-add c) at same)

  pub loss-stored : loss_in (store_in v c s w) learnt ≡ loss_in v learnt
  unfolding loss_to
  loss-stored =
      let same = count-stored (is_lost v.tray v.desk learnt) no_cell past_cell 0 v.row c (held_cell w s.clock) stays v.tray.counts.cells in
      rw (zero-add c) at same

-- ---- 1 Read, 2 Write, 5 Drop
abbrev pub named_by : Record → Event → Cell
named_by v e = cell_at v.row e.cell

abbrev pub kept_here : Record → Event → Bool
kept_here v e = kept_by (place_at v.tray e.cell) v.desk

abbrev pub change_in : Record → Event → ℕ
change_in v e = change_of (kept_here v e) (named_by v e) e

abbrev pub asked_in : Record → Event → Record
asked_in v e = cond (eqb (change_in v e) 1) (with_seat v (asking_seat v.seat v.desk e)) v

abbrev pub stored_in : Record → Event → Record
stored_in v e = cond (eqb (change_in v e) 2) (store_in (asked_in v e) e.cell (raised_seat v.seat v.desk) e.word) (asked_in v e)

unfoldable pub own_in : Record → Event → Record
own_in v e = cond (eqb (change_in v e) 3) (holds (stored_in v e) e.cell no_cell) (stored_in v e)

unfoldable pub answer_in : Record → Event → Answer
answer_in v e = own_answer (kept_here v e) (named_by v e) e (own_in v e).tray.counts v.desk (own_in v e).seat.slot

-- ---- serving
unfoldable pub take_in : Record → Message → Record
take_in v m = store_in (lost_in v m.clock) m.cell (took_seat v.seat m.clock) m.word

-- a write is answered with what was stored, a read with what stands there
abbrev pub take_answer : Record → Message → Answer
take_answer v m = served_answer (loss_in v m.clock) m (held_cell m.word (took_seat v.seat m.clock).clock)

abbrev pub read_answer : Record → Message → Answer
read_answer v m = served_answer 0 m (cell_at v.row m.cell)

module _ (v : Record) (long : length v.row ≡ 32) (m : Message) (none : serve_refusal v m ≡ 0) where
  abbrev s : Served v m
  s = served v m none

  abbrev serves : SoundRule v
  serves = sound-rule v s.sound

  pub take-is : take_in v m ≡ takes v m
  unfolding take_in takes
  take-is =
      ap (λ (u : Record). store_in u m.cell (took_seat v.seat m.clock) m.word)
      (lost-is v long serves.tray-is.cells-most serves.row_is m.clock)

  -- as the code has it: the write is stored first, and answered with what stands there at last
  pub take-stored : let u = store_in v m.cell (took_seat v.seat m.clock) m.word in
      (served_answer (loss_in u m.clock) m (cell_at (lost_in u m.clock).row m.cell) ≡ take_answer v m) × (lost_in u m.clock ≡ take_in v m)
  unfolding take_in lost_to
  take-stored =
      let after = lost-stored v m.cell (took_seat v.seat m.clock) m.word m.clock s.kept in
      let same_length = length-swept (is_lost v.tray v.desk m.clock) no_cell past_cell 0 v.tray.counts.cells v.row in
      let stands = get_or-set_same (lost_in v m.clock).row m.cell (held_cell m.word (took_seat v.seat m.clock).clock) past_cell
      (omega (arith, (serve-place v m none).0, same_length, long)) in (
        ap₂ (λ (n : ℕ) (x : Cell). served_answer n m x)
            (loss-stored v m.cell (took_seat v.seat m.clock) m.word m.clock s.kept)
            (ap (λ (u : Record). cell_at u.row m.cell) after ∙ stands),
        after,
      )

-- ---- bringing: the named cell is no copy while the others are looked at
abbrev pub without : Record → Message → Record
without v m = holds v m.cell no_cell

unfoldable pub bring_in : Record → Message → Record
bring_in v m =
    with_seat
    (holds (lost_in (without v m) m.clock) m.cell (brought_cell v.seat.served m.word m.clock))
    (home_seat v.seat m.clock)

abbrev pub bring_answer : Record → Message → Answer
bring_answer v m = brought_answer (loss_in (without v m) m.clock) m
