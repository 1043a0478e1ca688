-- What an event, a request or an answer that is not refused has passed.
-- Assumes nothing.
use Rattle.std.specs.Prelude.{◌≡◌, refl, Bool, true, false, not, ◌&&◌, ◌||◌, ◌∷◌, ◌⊎◌, ℕ, ◌<◌, ltb, eqb}
use Rattle.std.proofs.Math.Bool.{or-true}
use Rattle.std.proofs.Common.{inl, inr, ⊎_elim, arith, ltb-true, eqb-true, eq-eqb}
use Rattle.std.proofs.lemmas.Bool.{eqb-false, not-true, not-false}
use Rattle.clock.specs.Clock.{number}
use Rattle.clock.specs.Laws.{ZeroPast, within-past}
use Rattle.theory_lists.specs.Test.{both_left, both_right}
use Rattle.theory_refusals.specs.Refusals.{first_of, numbers_from, test_of, none-applies, none_after}
use Rattle.desk.specs.declared.Event.{Event}
use Rattle.desk.specs.declared.Message.{Message}
use Rattle.desk.specs.declared.Record.{Record}
use Rattle.desk.specs.declared.Seat.{Seat}
use Rattle.desk.specs.declared.Slot.{Slot}
use Rattle.desk.specs.declared.Tray.{Tray}
use Rattle.desk.specs.Desk.{no_word, keeps, waits, is_asked, is_answered, answer_kind, is_own}
use Rattle.desk.specs.Rules.{seat_lines, event_lines, event_refusal, in_tray, request_fits, serve_lines, serve_refusal, answer_fits, bring_lines, bring_refusal}
use Rattle.desk.specs.Sound.{is_sound}
use Rattle.desk.specs.SoundLaws.{word-rule, sent-rule, sound-rule, keeps-in}

-- ---- tests
either_is : (a b : Bool) → (a || b) ≡ true → (a ≡ true) ⊎ (b ≡ true)
either_is true b e = inl refl
either_is false b e = inr e

pub one_of : (k n m : ℕ) → (eqb k n || eqb k m) ≡ true → (k ≡ n) ⊎ (k ≡ m)
one_of k n m e = ⊎_elim (λ p. inl (eqb-true k n p)) (λ p. inr (eqb-true k m p)) (either_is (eqb k n) (eqb k m) e)

pub not-both : (a b : Bool) → (a && b) ≡ false → a ≡ true → b ≡ false
not-both a b e p = rw p at e

-- a test that was no reason to refuse, where it applies
needed : (a b : Bool) → (a && not b) ≡ false → a ≡ true → b ≡ true
needed a b p q = not-false b (not-both a (not b) p q)

-- neither of two tests
neither_left : (a b : Bool) → (a || b) ≡ false → a ≡ false
neither_left true b e = e
neither_left false b e = refl

neither_right : (a b : Bool) → (a || b) ≡ false → b ≡ false
neither_right true b e = cc
neither_right false b e = e

-- ---- kinds
pub own_is : (e : Event) → is_own e ≡ true → (e.kind ≡ 1) ⊎ ((e.kind ≡ 2) ⊎ (e.kind ≡ 5))
unfolding is_own
own_is e o =
    ⊎_elim (λ k. ⊎_elim (λ a. inl a) (λ b. inr (inl b)) (one_of e.kind 1 2 k)) (λ k. inr (inr (eqb-true e.kind 5 k)))
    (either_is (eqb e.kind 1 || eqb e.kind 2) (eqb e.kind 5) o)

pub is-own : (e : Event) → (e.kind ≡ 1) ⊎ ((e.kind ≡ 2) ⊎ (e.kind ≡ 5)) → is_own e ≡ true
unfolding is_own
is-own e =
    ⊎_elim (λ k. rw (eq-eqb e.kind 1 k))
    (⊎_elim (λ k. rw (eq-eqb e.kind 2 k, or-true (eqb e.kind 1))) (λ k. rw (eq-eqb e.kind 5 k, or-true (eqb e.kind 1 || eqb e.kind 2))))

pub asked-kind : (s : Slot) → is_asked s ≡ true → (s.kind ≡ 1) ⊎ (s.kind ≡ 2)
unfolding is_asked
asked-kind s = one_of s.kind 1 2

pub answered-kind : (s : Slot) → is_answered s ≡ true → (s.kind ≡ 3) ⊎ (s.kind ≡ 4)
unfolding is_answered
answered-kind s = one_of s.kind 3 4

-- ---- the lines from 11 on
pub record SeatPassed (t : Tray) (desk : ℕ) (s : Seat) (e : Event) : Type 0 where
  pub in-range : is_own e ≡ true → e.cell < t.counts.cells
  pub idle : is_own e ≡ true → waits s.slot ≡ false
  pub asked : e.kind ≡ 3 → is_asked s.slot ≡ true
  pub answered : e.kind ≡ 4 → is_answered s.slot ≡ true
  pub not-kept : e.kind ≡ 5 → keeps t desk e.cell ≡ false
  pub below : e.kind ≡ 2 → number s.clock desk ≡ 4294967295 → ⊥

pub seat-passed : (t : Tray) (desk : ℕ) (s : Seat) (e : Event) → first_of (seat_lines t desk s e) ≡ 0 → SeatPassed t desk s e
unfolding seat_lines numbers_from test_of
seat-passed t desk s e p =
    let none = none-applies (seat_lines t desk s e) refl p in
    let request = eqb e.kind 3 && not (is_asked s.slot) in
    let answer = eqb e.kind 4 && not (is_answered s.slot) in
    let full : (request || answer) ≡ false = none 13 in
    record {
      in-range = λ o. ltb-true e.cell t.counts.cells (needed (is_own e) (ltb e.cell t.counts.cells) (none 11) o);
      idle = not-both (is_own e) (waits s.slot) (none 12);
      asked = λ k. needed (eqb e.kind 3) (is_asked s.slot) (neither_left request answer full) (eq-eqb e.kind 3 k);
      answered = λ k. needed (eqb e.kind 4) (is_answered s.slot) (neither_right request answer full) (eq-eqb e.kind 4 k);
      not-kept = λ k. not-both (eqb e.kind 5) (keeps t desk e.cell) (none 14) (eq-eqb e.kind 5 k);
      below =
          λ k.
          eqb-false (number s.clock desk) 4294967295
          (not-both (eqb e.kind 2) (eqb (number s.clock desk) 4294967295) (none 16) (eq-eqb e.kind 2 k));
    }

-- ---- an event
pub record Allowed (v : Record) (e : Event) : Type 0 where
  pub sound : is_sound v ≡ true
  pub own : is_own e ≡ true
  pub seat : SeatPassed v.tray v.desk v.seat e

pub allowed : (v : Record) (e : Event) → event_refusal v e ≡ 0 → Allowed v e
unfolding event_lines seat_lines numbers_from test_of
allowed v e p =
    let none = none-applies (event_lines (is_sound v) v.tray v.desk v.seat e) refl p in
    let lines = seat_lines v.tray v.desk v.seat e in
    record {
      sound = not-false (is_sound v) (none 9);
      own = not-false (is_own e) (none 8);
      seat =
          seat-passed v.tray v.desk v.seat e
          (none_after (8, not (is_own e)) lines refl (none_after (9, not (is_sound v)) ((8, not (is_own e)) ∷ lines) refl p));
    }

-- ---- a request
pub record Served (v : Record) (m : Message) : Type 0 where
  pub sound : is_sound v ≡ true
  pub clock : ZeroPast v.tray.counts.desks m.clock
  pub kind : (m.kind ≡ 1) ⊎ (m.kind ≡ 2)
  pub desk : m.desk < v.tray.counts.desks
  pub other : m.desk ≡ v.desk → ⊥
  pub kept : keeps v.tray v.desk m.cell ≡ true
  pub sent : m.kind ≡ 2 → ZeroPast 0 m.clock → ⊥

pub served : (v : Record) (m : Message) → serve_refusal v m ≡ 0 → Served v m
unfolding serve_lines request_fits in_tray numbers_from test_of
served v m p =
    let none = none-applies (serve_lines (is_sound v) v.tray v.desk m) refl p in
    let ok = not-false (request_fits v.tray v.desk m) (none 15) in
    record {
      sound = not-false (is_sound v) (none 9);
      clock = within-past v.tray.counts.desks m.clock (search (both_left, both_right));
      kind = one_of m.kind 1 2 (search (both_left, both_right));
      desk = ltb-true m.desk v.tray.counts.desks (search (both_left, both_right));
      other = eqb-false m.desk v.desk (not-true (eqb m.desk v.desk) (search (both_left, both_right)));
      kept = search (both_left, both_right);
      sent = sent-rule m.kind m.clock (search (both_left, both_right));
    }

-- ---- an answer
pub record Brought (v : Record) (m : Message) : Type 0 where
  pub sound : is_sound v ≡ true
  pub waiting : waits v.seat.slot ≡ true
  pub clock : ZeroPast v.tray.counts.desks m.clock
  pub desk : m.desk ≡ v.desk
  pub cell : m.cell ≡ v.seat.slot.cell
  pub kind : m.kind ≡ answer_kind v.seat.slot.kind
  pub no-word : ZeroPast 0 m.clock → m.word ≡ no_word

pub brought : (v : Record) (m : Message) → bring_refusal v m ≡ 0 → Brought v m
unfolding bring_lines answer_fits in_tray numbers_from test_of
brought v m p =
    let none = none-applies (bring_lines (is_sound v) v.tray v.desk v.seat m) refl p in
    let ok = not-false (answer_fits v.tray v.desk v.seat.slot m) (none 15) in
    record {
      sound = not-false (is_sound v) (none 9);
      waiting = not-false (waits v.seat.slot) (none 13);
      clock = within-past v.tray.counts.desks m.clock (search (both_left, both_right));
      desk = eqb-true m.desk v.desk (search (both_left, both_right));
      cell = eqb-true m.cell v.seat.slot.cell (search (both_left, both_right));
      kind = eqb-true m.kind (answer_kind v.seat.slot.kind) (search (both_left, both_right));
      no-word = word-rule m.word m.clock (search (both_left, both_right));
    }

-- ---- so every place that is named is there
pub desk-below : (v : Record) → is_sound v ≡ true → v.desk < 8
desk-below v e = let r = sound-rule v e in omega (arith, r.desk-is, r.tray-is.desks-most)

pub event-place : (v : Record) (e : Event) → event_refusal v e ≡ 0 → e.cell < 32
event-place v e p = let a = allowed v e p in omega (arith, a.seat.in-range a.own, (sound-rule v a.sound).tray-is.cells-most)

pub serve-place : (v : Record) (m : Message) → serve_refusal v m ≡ 0 → (m.cell < 32) × (m.kind < 3)
serve-place v m p =
    let s = served v m p in (
      omega (arith, keeps-in v.tray v.desk m.cell s.kept, (sound-rule v s.sound).tray-is.cells-most),
      ⊎_elim (λ k. omega arith) (λ k. omega arith) s.kind,
    )

pub bring-place : (v : Record) (m : Message) → bring_refusal v m ≡ 0 → m.cell < 32
bring-place v m p =
    let b = brought v m p in
    let r = sound-rule v b.sound in
    omega (arith, b.cell, (r.row_is.seat-is.slot_is.used b.waiting).1, r.tray-is.cells-most)
