-- What one more seat adds to the test of a sum: its own soundness.
-- Assumes nothing.
use Rattle.std.specs.Prelude.{◌≡◌, refl, Bool, true, false, not, ◌&&◌, ◌||◌, cond, ltb, eqb}
use Rattle.std.proofs.Math.Path.{ap}
use Rattle.std.proofs.Common.{◌∙◌, le-ltb, ne_eqb}
use Rattle.std.proofs.Math.Bool.{and_assoc, and-true, and-false, or-true, not-not}
use Prim.Native.Nat.{ℕ, ◌%◌, ◌≤◌}
use Rattle.std.proofs.Math.Decide.{dec_lt, ℕ_discrete}
use native.Mathlib.Omega.{arith}
use Rattle.std.proofs.Math.Dec.{leb}
use Rattle.clock.specs.declared.Clock.{Clock}
use Rattle.clock.specs.Clock.{is_within}
use Rattle.theory_lists.specs.Test.{gt_not_le, ge-not-lt}
use Rattle.desk.specs.declared.Counts.{Counts}
use Rattle.desk.specs.declared.Seat.{Seat}
use Rattle.desk.specs.declared.Tray.{Tray}
use Rattle.desk.specs.Desk.{is_no_word, place_at, keeper_of, keeps, waits}
use Rattle.desk.specs.Sound.{word_fits, sent_fits, slot_names, slot_carries, slot_sound, numbers_of, seat_sound}
use Rattle.desk_sums.specs.declared.Sum.{Sum}
use Rattle.desk_sums.specs.Sums.{add_clock, stamped, slot_bad, add_seat, add_seat_of, slot_cell, sum_fits, clock_fits}
use Rattle.desk_sums.specs.Laws.{noted-adds, clock-adds, stamp-fits}

-- the desk's own clock
own-clock : (n : Counts) (desk : ℕ) (c : Clock) → clock_fits n.desks (ltb desk n.desks) c 0 ≡ is_within (numbers_of n desk) c
unfolding clock_fits is_no_word
own-clock n desk c = go (ltb desk n.desks) refl
  where
    go : (b : Bool) → ltb desk n.desks ≡ b → clock_fits n.desks (ltb desk n.desks) c 0 ≡ is_within (numbers_of n desk) c
    go true p = rw p
    go false p = rw p

-- ---- the slot, as its tests: empty, below 2, below 5; the desk is there, the cell in range, its own, zero; served
-- what it carries: a word and a clock that are zero (none), a clock that is in range with a word that fits it (some), a clock that may be sent
summed : (first there empty low most in-range own zero served none some sent : Bool) → Bool
summed first there empty low most in-range own zero served none some sent =
    first
    && cond (there && not low) some none
    && not (cond empty (served || not zero) (not most || not in-range || own || not there || not sent))

stated : (first there empty low most in-range own zero served none some sent : Bool) → Bool
stated first there empty low most in-range own zero served none some sent =
    first
    && (most && cond (not empty) (there && in-range && not (in-range && own)) zero && (cond low none some && sent))
    && (not empty || not served)

slot-empty : (first there in-range own zero served none some : Bool)
    → summed first there true true true in-range own zero served none some true
    ≡ stated first there true true true in-range own zero served none some true
unfolding summed stated
slot-empty first there in-range own zero served none some = rw (and-false there, and-true none) (go first zero served)
  where
    go : (f z s : Bool) → (f && none && not (s || not z)) ≡ (f && (z && none) && not s)
    go f true true = refl
    go f true false = refl
    go true false s = rw (or-true s) (and-false none)
    go false false s = refl

slot-full : (first there low most in-range own zero served none some sent : Bool)
    → summed first there false low most in-range own zero served none some sent
    ≡ stated first there false low most in-range own zero served none some sent
unfolding summed stated
slot-full first false low most in-range own zero served none some sent = simp (or-true, and-false)
slot-full first true low most false own zero served none some sent = simp (or-true, and-false)
slot-full first true low false true own zero served none some sent = simp and-false
slot-full first true low true true true zero served none some sent = simp and-false
slot-full first true true true true false zero served none some sent = simp (not-not, and_assoc, and-true)
slot-full first true false true true false zero served none some sent = simp (not-not, and_assoc, and-true)

-- ---- the seat
module _ (t : Tray) (desk : ℕ) (v : Seat) (most-cells : t.counts.cells ≤ 32) where
  in-range : Bool
  in-range = ltb v.slot.cell t.counts.cells

  own : Bool
  own = eqb (keeper_of t (slot_cell v)) desk

  first : Bool
  first = is_within (numbers_of t.counts desk) v.clock

  none : Bool
  none = is_no_word v.slot.word && is_within 0 v.slot.clock

  some : Bool
  some = is_within t.counts.desks v.slot.clock && word_fits v.slot.word v.slot.clock

  -- a cell in range is the one at its place
  keeps-own : keeps t desk v.slot.cell ≡ (in-range && own)
  unfolding keeps in-range own
  keeps-own =
      elim (dec_lt v.slot.cell t.counts.cells) [
        | yes h ↦ (let same : v.slot.cell % 32 ≡ v.slot.cell = omega arith in rw same)
        | no h ↦ rw (le-ltb v.slot.cell t.counts.cells (omega arith))
      ]

  by : (Bool → Bool → Bool → Bool → Bool → Bool → Bool → Bool → Bool → Bool → Bool → Bool → Bool) → Bool
  by f =
      f first (ltb desk t.counts.desks) (eqb v.slot.kind 0) (leb v.slot.kind 1) (leb v.slot.kind 4) in-range own
      (eqb v.slot.cell 0) v.served none some (sent_fits v.slot.kind v.slot.clock)

  summed-is : (first
      && clock_fits t.counts.desks (stamped (ltb desk t.counts.desks && leb 2 v.slot.kind) v.slot.clock) v.slot.clock v.slot.word
      && not (slot_bad (ltb desk t.counts.desks) t.counts.cells own v.slot v.served)) ≡ by summed
  unfolding by summed in-range none some slot_bad
  summed-is = rw (stamp-fits t.counts.desks (ltb desk t.counts.desks && leb 2 v.slot.kind) v.slot.clock v.slot.word, gt_not_le v.slot.kind 1, gt_not_le v.slot.kind 4, ge-not-lt v.slot.cell t.counts.cells)

  stated-is : by stated ≡ seat_sound t desk v
  unfolding by stated first in-range none some seat_sound slot_sound slot_names slot_carries waits
  stated-is = rw (keeps-own)

  same : by summed ≡ by stated
  unfolding by first in-range own none some sent_fits
  same =
      elim (ℕ_discrete v.slot.kind 0) [
        | yes e ↦ rw e (slot-empty first (ltb desk t.counts.desks) in-range own (eqb v.slot.cell 0) v.served none some)
        | no ne ↦ rw (ne_eqb v.slot.kind 0 ne)
            (slot-full first (ltb desk t.counts.desks) (leb v.slot.kind 1) (leb v.slot.kind 4) in-range own (eqb v.slot.cell 0)
            v.served none some (sent_fits v.slot.kind v.slot.clock))
      ]

  pub seat-adds : (s : Sum) → sum_fits (add_seat_of s t.counts desk (place_at t (slot_cell v)) v) t.counts.desks
      ≡ (sum_fits s t.counts.desks && seat_sound t desk v)
  unfolding add_seat own first
  seat-adds s =
      noted-adds two (slot_bad there t.counts.cells own v.slot v.served) desks
      ∙ ap (λ (x : Bool). x && fine) (clock-adds one full v.slot.clock v.slot.word desks)
      ∙ ap (λ (x : Bool). x && carries && fine) (clock-adds s there v.clock 0 desks)
      ∙ ap (λ (x : Bool). sum_fits s desks && x && carries && fine) (own-clock t.counts desk v.clock)
      ∙ out (sum_fits s desks) first carries fine
      ∙ ap (◌&&◌ (sum_fits s desks)) (summed-is ∙ same ∙ stated-is)
    where
      desks : ℕ
      desks = t.counts.desks

      there : Bool
      there = ltb desk desks

      full : Bool
      full = stamped (there && leb 2 v.slot.kind) v.slot.clock

      one : Sum
      one = add_clock s there v.clock 0

      two : Sum
      two = add_clock one full v.slot.clock v.slot.word

      carries : Bool
      carries = clock_fits desks full v.slot.clock v.slot.word

      fine : Bool
      fine = not (slot_bad there t.counts.cells own v.slot v.served)

      out : (a b c d : Bool) → (a && b && c && d) ≡ (a && (b && c && d))
      out a b c d = simp and_assoc
