-- What an event that is not refused has passed; so what holds of a refusal and of the three ways to do an event holds of every event.
-- Assumes nothing.
use Rattle.std.specs.Prelude.{◌≡◌, refl, true, false, not, ◌&&◌, ◌++◌, ℕ, ◌≤◌, ◌<◌, ltb, leb, eqb}
use Rattle.std.proofs.Common.{ap, inl, inr, ⊎_elim}
use Rattle.std.proofs.Math.Decide.{ℕ_discrete}
use native.Mathlib.Omega.{arith}
use borrow.Author.Tests.{ltb-true, leb-true, eqb-true, eq-eqb, ne_eqb, not-false}
use Rattle.clock.specs.Clock.{number}
use Rattle.desk.specs.declared.Event.{Event}
use Rattle.desk.specs.declared.Slot.{Slot}
use Rattle.desk.specs.Desk.{keeps, waits, is_own}
use Rattle.desk.specs.RuleLaws.{is-own, asked-kind, answered-kind, SeatPassed, seat-passed}
use Rattle.desk.specs.Rules.{place_lines, seat_lines, event_lines, event_refusal}
use Rattle.desk.specs.SoundLaws.{SlotRule, SoundRule, rule-sound, keeper-keeps, keeper-desk, no_way}
use Rattle.theory_lists.specs.Test.{both_left, both_right}
use Rattle.theory_refusals.specs.Refusals.{first_of, numbers_from, test_of, none-applies, none_after, first-none, unless-refused, unless-done}
use Rattle.table.specs.declared.Outcome.{Outcome}
use Rattle.table.specs.declared.Table.{Table}
use Rattle.table.specs.Rows.{Sized}
use Rattle.table.specs.Rules.{lines, refusal, take_rule, bring_rule, own_rule, done, refused_with, event_rule}
use Rattle.table.specs.Sound.{table_sound}
use Rattle.table.specs.SoundLaws.{TableRule, table-rule, desk-below}
use Rattle.table.specs.Table.{seat_of, slot_of, keeper_for, record_of}

pub kind-waits : (s : Slot) → 1 ≤ s.kind → waits s ≡ true
unfolding waits
kind-waits s h = ap not (ne_eqb s.kind 0 (omega arith))

-- ---- the tests
pub record Passed (t : Table) (e : Event) : Type 0 where
  pub sound : TableRule t
  pub kind : (1 ≤ e.kind) × (e.kind ≤ 5)
  pub desk-is : e.desk < t.tray.counts.desks
  pub seat : SeatPassed t.tray e.desk (seat_of t e.desk) e
  -- the lines that a desk's own event shares with the desk's part
  pub none : first_of (seat_lines t.tray e.desk (seat_of t e.desk) e) ≡ 0

pub pass : (t : Table) (e : Event) → Sized t → refusal t e ≡ 0 → Passed t e
unfolding refusal lines seat_lines numbers_from test_of
pass t e z p =
    let none = none-applies (lines t e) refl p in
    let first = place_lines t.tray.counts e in
    let rest = seat_lines t.tray e.desk (seat_of t e.desk) e in
    let later = (first-none first rest refl (none_after (9, not (table_sound t)) (first ++ rest) refl p)).1 in
    let in-kinds = not-false (leb 1 e.kind && leb e.kind 5) (none 8) in
    record {
      sound = table-rule t z (not-false (table_sound t) (none 9));
      kind = (leb-true 1 e.kind (search (both_left, both_right)), leb-true e.kind 5 (search (both_left, both_right)));
      desk-is = ltb-true e.desk t.tray.counts.desks (not-false (ltb e.desk t.tray.counts.desks) (none 10));
      seat = seat-passed t.tray e.desk (seat_of t e.desk) e later;
      none = later;
    }

-- ---- every event
-- a kind 1 to 5 that is neither 3 nor 4 is a desk's own
pub own-kind : (e : Event) → 1 ≤ e.kind → e.kind ≤ 5 → (e.kind ≡ 3 → ⊥) → (e.kind ≡ 4 → ⊥) → is_own e ≡ true
own-kind e least most p q =
    is-own e
    (elim (ℕ_discrete e.kind 1) [
      | yes k ↦ inl k
      | no k ↦ inr (elim (ℕ_discrete e.kind 2) [ yes l ↦ inl l | no l ↦ inr (omega arith) ])
    ])

-- and no take and no bring
pub own-else : (e : Event) → is_own e ≡ true → (e.kind ≡ 3 → ⊥) × (e.kind ≡ 4 → ⊥)
unfolding is_own
own-else e o = (λ k. no_way false (rw k at o) refl, λ k. no_way false (rw k at o) refl)

-- the outcome of an event that is not refused, by its kind
module _ (t : Table) (e : Event) (none : refusal t e ≡ 0) where
  pub is-done : event_rule t e ≡ done t e
  unfolding event_rule
  is-done = unless-done (refusal t e) (refused_with t) (done t e) none

  pub is-take : e.kind ≡ 3 → event_rule t e ≡ take_rule t e.desk
  unfolding done
  is-take k = rw (is-done, eq-eqb e.kind 3 k)

  pub is-bring : e.kind ≡ 4 → event_rule t e ≡ bring_rule t e.desk
  unfolding done
  is-bring k = rw (is-done, ne_eqb e.kind 3 (omega arith), eq-eqb e.kind 4 k)

  pub is-own-rule : is_own e ≡ true → event_rule t e ≡ own_rule t e
  unfolding done
  is-own-rule o = rw (is-done, ne_eqb e.kind 3 (own-else e o).0, ne_eqb e.kind 4 (own-else e o).1)

-- a refusal: its number and nothing else, and the table as given
pub event-refused : (t : Table) (e : Event) → (refusal t e ≡ 0 → ⊥) → event_rule t e ≡ refused_with t (refusal t e)
unfolding event_rule
event-refused t e = unless-refused (refusal t e) (refused_with t) (done t e)

pub each-event : (P : Outcome → Type 0) (t : Table) (e : Event) → Sized t
    → P (refused_with t (refusal t e))
    → (Passed t e → e.kind ≡ 3 → P (take_rule t e.desk))
    → (Passed t e → e.kind ≡ 4 → P (bring_rule t e.desk))
    → (Passed t e → is_own e ≡ true → P (own_rule t e))
    → P (event_rule t e)
each-event P t e z refuse take bring own =
    elim (ℕ_discrete (refusal t e) 0) [
      | no some ↦ rw (event-refused t e some) refuse
      | yes none ↦ done-is none (pass t e z none)
    ]
  where
    done-is : refusal t e ≡ 0 → Passed t e → P (event_rule t e)
    done-is none a =
        elim (ℕ_discrete e.kind 3) [
          | yes k ↦ rw (is-take t e none k) (take a k)
          | no k ↦ elim (ℕ_discrete e.kind 4) [
            | yes l ↦ rw (is-bring t e none l) (bring a l)
            | no l ↦ (let o = own-kind e a.kind.0 a.kind.1 k l in rw (is-own-rule t e none o) (own a o))
          ]
        ]

-- ---- the desks that an event names
-- a waiting desk asks another: the keeper of the cell that its slot names
pub record Asks (t : Table) (desk : ℕ) : Type 0 where
  pub cell-is : (slot_of t desk).cell < t.tray.counts.cells
  pub not-kept : keeps t.tray desk (slot_of t desk).cell ≡ false
  pub keeper-is : keeper_for t desk < t.tray.counts.desks
  pub keeps-it : keeps t.tray (keeper_for t desk) (slot_of t desk).cell ≡ true
  pub another : keeper_for t desk ≡ desk → ⊥

asks : (t : Table) → TableRule t → (desk : ℕ) → desk < 8 → waits (slot_of t desk) ≡ true → Asks t desk
unfolding record_of
asks t r desk h w =
    record {
      cell-is = range;
      not-kept = other;
      keeper-is = keeper-desk t.tray c r.tray-is r.sized.all-places range;
      keeps-it = keeper-keeps t.tray (keeper_for t desk) c refl range;
      another = λ q. no_way (keeps t.tray desk c) (keeper-keeps t.tray desk c q range) other;
    }
  where
    c : ℕ
    c = (slot_of t desk).cell

    range : c < t.tray.counts.cells
    range = ((r.row_is desk h).seat-is.slot_is.used w).1

    other : keeps t.tray desk c ≡ false
    other = (r.row_is desk h).seat-is.slot_is.not-kept w

module _ (t : Table) (e : Event) (a : Passed t e) where
  pub here : e.desk < 8
  here = desk-below t a.sound e.desk a.desk-is

  pub take-asks : e.kind ≡ 3 → Asks t e.desk
  take-asks k =
      let s = slot_of t e.desk in
      asks t a.sound e.desk here (kind-waits s (⊎_elim (λ l. omega arith) (λ l. omega arith) (asked-kind s (a.seat.asked k))))

  pub answer-waits : e.kind ≡ 4 → waits (slot_of t e.desk) ≡ true
  answer-waits k =
      let s = slot_of t e.desk in
      kind-waits s (⊎_elim (λ l. omega arith) (λ l. omega arith) (answered-kind s (a.seat.answered k)))

  pub bring-asks : e.kind ≡ 4 → Asks t e.desk
  bring-asks k = asks t a.sound e.desk here (answer-waits k)

  -- what holds of the slot holds of the message
  pub slot_is : SlotRule t.tray e.desk (slot_of t e.desk)
  unfolding record_of
  slot_is = (a.sound.row_is e.desk here).seat-is.slot_is

  -- a desk's own event passes the desk's tests too
  module _ (o : is_own e ≡ true) where
    pub own-sound : SoundRule (record_of t e.desk)
    unfolding record_of waits
    own-sound =
        let s = slot_of t e.desk in
        let empty : s.kind ≡ 0 = eqb-true s.kind 0 (not-false (eqb s.kind 0) (a.seat.idle o)) in
        record { tray-is = a.sound.tray-is; desk-is = a.desk-is; row_is = a.sound.row_is e.desk here; asked = omega arith }

    pub own-passes : event_refusal (record_of t e.desk) e ≡ 0
    unfolding event_lines first_of record_of
    own-passes = rw (rule-sound (record_of t e.desk) own-sound, o) a.none

  -- ---- so every place that is named is there
  pub take-there : e.kind ≡ 3
      → (e.desk < 8) × ((slot_of t e.desk).cell < 32) × ((slot_of t e.desk).kind < 3) × (keeper_for t e.desk < 8)
  take-there k =
      let tray = a.sound.tray-is in
      let to = take-asks k in (
        here,
        omega (arith, to.cell-is, tray.cells-most),
        ⊎_elim (λ q. omega arith) (λ q. omega arith) (asked-kind (slot_of t e.desk) (a.seat.asked k)),
        omega (arith, to.keeper-is, tray.desks-most),
      )

  pub bring-there : e.kind ≡ 4 → (e.desk < 8) × ((slot_of t e.desk).cell < 32)
  bring-there k = (here, omega (arith, (bring-asks k).cell-is, a.sound.tray-is.cells-most))

  pub own-there : is_own e ≡ true
      → (e.desk < 8) × (e.cell < 32) × (e.kind ≡ 2 → number (seat_of t e.desk).clock e.desk ≡ 4294967295 → ⊥)
  own-there o = (here, omega (arith, a.seat.in-range o, a.sound.tray-is.cells-most), a.seat.below)
