-- A sound record stays sound: through an event, through serving a request, through bringing an answer.
-- The lemmas speak of a desk's row of the table, whose slot may be answered; the table uses them too.
-- Assumes nothing.
use Rattle.std.specs.Prelude.{◌≡◌, Bool, not, ◌||◌, cond, eqb, length}
use Rattle.std.proofs.Math.Path.{refl}
use Rattle.std.proofs.Common.{ap, arith, lit≤}
use Rattle.std.proofs.Math.Bool.{true, false}
use Rattle.std.proofs.Math.Logic.{⊎_elim}
use Prim.Native.Nat.{ℕ, ◌≤◌, ◌<◌, zero-le}
use borrow.Author.Tests.{ne_eqb, eq-eqb, not-true}
use Rattle.clock.specs.declared.Clock.{Clock}
use Rattle.clock.specs.Clock.{merged}
use Rattle.clock.specs.Laws.{ZeroPast, zero-past, merge-past, merge-zero, raised-past, raised-some}
use Rattle.theory_lists.specs.Each.{places-set, places-map_at}
use Rattle.theory_lists.specs.Test.{fails, both_left, both_right}
use Rattle.theory_refusals.specs.Refusals.{unless, unless-either}
use Rattle.desk.specs.declared.Cell.{Cell}
use Rattle.desk.specs.declared.Event.{Event}
use Rattle.desk.specs.declared.Message.{Message}
use Rattle.desk.specs.declared.Record.{Record}
use Rattle.desk.specs.declared.Seat.{Seat}
use Rattle.desk.specs.declared.Slot.{Slot}
use Rattle.desk.specs.declared.Step.{Step}
use Rattle.desk.specs.declared.Tray.{Tray}
use Rattle.desk.specs.Desk.{Word, no_word, no_cell, no_slot, past_cell, cell_at, keeps, held_cell, is_copy, is_lost, left_at, left_of, waits}
use Rattle.desk.specs.RuleLaws.{Allowed, allowed, own_is, Served, served, Brought, brought}
use Rattle.desk.specs.Rules.{with_clock, with_slot, with_seat, holds, learns, stores, slotted, refused, read_asked, write_asked, next_clock}
use Rattle.desk.specs.Rules.{read_rule, write_rule, drop_rule, event_refusal, event_done, event_rule, marked_served, takes, read_served, write_served, serve_done}
use Rattle.desk.specs.Rules.{serve_refusal, serve_rule, brings, bring_done, bring_refusal, bring_rule}
use Rattle.desk.specs.Rules as rules
use Rattle.desk.specs.Sound.{is_sound}
use Rattle.desk.specs.SoundLaws.{Used, CellRule, SlotRule, SeatRule, RowRule, SoundRule, sound-rule, rule-sound, keeps-in, all-numbers, past-count, no_way}

-- ---- cells
pub no-cell-rule : (t : Tray) (desk c : ℕ) → keeps t desk c ≡ false → CellRule t desk c no_cell
no-cell-rule t desk c e =
    record {
      used = λ q. no_way false q refl;
      keeper-holds = λ q. no_way (keeps t desk c) q e;
      stamp-past = zero-past t.counts.desks;
      no-stamp = λ _. zero-past 0;
      no-word = λ _. refl;
    }

pub held-rule : (t : Tray) (desk c : ℕ) (w : Word) (k : Clock) → Used t.counts desk c → ZeroPast t.counts.desks k
    → (ZeroPast 0 k → w ≡ no_word) → CellRule t desk c (held_cell w k)
held-rule t desk c w k u p none =
    record {
      used = λ _. u;
      keeper-holds = λ _. refl;
      stamp-past = p;
      no-stamp = λ q. no_way true refl q;
      no-word = none;
    }

-- a copy that is lost was not kept here
left-rule : (t : Tray) (desk : ℕ) (x : Clock) (c : ℕ) (y : Cell) → CellRule t desk c y → CellRule t desk c (left_at t desk x c y)
unfolding is_lost is_copy
left-rule t desk x c y r = go (is_lost t desk x c y) refl
  where
    go : (b : Bool) → is_lost t desk x c y ≡ b → CellRule t desk c (cond b no_cell y)
    go true e = no-cell-rule t desk c (not-true (keeps t desk c) (search (both_left, both_right)))
    go false e = r

-- ---- slots
pub no-slot-rule : (t : Tray) (desk : ℕ) → SlotRule t desk no_slot
unfolding waits
no-slot-rule t desk =
    record {
      kind-most = zero-le;
      used = λ q. no_way false q refl;
      not-kept = λ q. no_way false q refl;
      no_cell = λ _. refl;
      clock-past = zero-past t.counts.desks;
      no-clock = λ _. zero-past 0;
      no-word = λ _. refl;
      sent = λ q. absurd (omega arith);
    }

pub asked-rule : (t : Tray) (desk c : ℕ) → Used t.counts desk c → keeps t desk c ≡ false → SlotRule t desk (read_asked c)
unfolding waits
asked-rule t desk c u e =
    record {
      kind-most = lit≤ tt;
      used = λ _. u;
      not-kept = λ _. e;
      no_cell = λ q. no_way true refl q;
      clock-past = zero-past t.counts.desks;
      no-clock = λ _. zero-past 0;
      no-word = λ _. refl;
      sent = λ q. absurd (omega arith);
    }

-- a slot that carries a word and a clock: a write asked, or an answer
pub full-rule : (t : Tray) (desk : ℕ) (s : Slot) → 2 ≤ s.kind → s.kind ≤ 4 → Used t.counts desk s.cell → keeps t desk s.cell ≡ false
    → ZeroPast t.counts.desks s.clock → (ZeroPast 0 s.clock → s.word ≡ no_word) → (s.kind ≡ 2 → ZeroPast 0 s.clock → ⊥)
    → SlotRule t desk s
unfolding waits
full-rule t desk s least most u e p none sent =
    record {
      kind-most = most;
      used = λ _. u;
      not-kept = λ _. e;
      no_cell = λ q. no_way (not (eqb s.kind 0)) (ap not (ne_eqb s.kind 0 (omega arith))) q;
      clock-past = p;
      no-clock = λ q. absurd (omega arith);
      no-word = none;
      sent = sent;
    }

-- ---- what may happen to a row
pub holds_row : (v : Record) (c : ℕ) (x : Cell) → RowRule v → CellRule v.tray v.desk c x → RowRule (holds v c x)
holds_row v c x r new =
    record { cell-is = places-set (CellRule v.tray v.desk) past_cell v.row c x new r.cell-is; seat-is = r.seat-is }

pub seat-row : (v : Record) (s : Seat) → RowRule v → SeatRule v.tray v.desk s → RowRule (with_seat v s)
seat-row v s r new = record { cell-is = r.cell-is; seat-is = new }

-- another slot in a seat
pub slot-seat : (t : Tray) (desk : ℕ) (s : Seat) (slot : Slot) (on : Bool) → SeatRule t desk s → SlotRule t desk slot → (on ≡ true → waits slot ≡ true)
    → SeatRule t desk (with_slot s slot on)
slot-seat t desk s slot on r new p = record { numbers-past = r.numbers-past; slot_is = new; served-waits = p }

slotted-row : (v : Record) (s : Slot) → RowRule v → SlotRule v.tray v.desk s → RowRule (slotted v s)
slotted-row v s r new =
    seat-row v (with_slot v.seat s false) r (slot-seat v.tray v.desk v.seat s false r.seat-is new (λ q. no_way false q refl))

-- a desk that is there, with another clock
module _ (v : Record) (there : v.desk < v.tray.counts.desks) where
  pub clock-past : RowRule v → ZeroPast v.tray.counts.desks v.seat.clock
  clock-past r = past-count v.tray.counts v.desk v.seat.clock r.seat-is.numbers-past

  clock-row : (k : Clock) → RowRule v → ZeroPast v.tray.counts.desks k → RowRule (with_seat v (with_clock v.seat k))
  clock-row k r p =
      seat-row v (with_clock v.seat k) r
      (record {
        numbers-past = all-numbers v.tray.counts v.desk k there p;
        slot_is = r.seat-is.slot_is;
        served-waits = r.seat-is.served-waits;
      })

  learns-row : (x : Clock) → RowRule v → ZeroPast v.tray.counts.desks x → RowRule (learns v x)
  unfolding left_of
  learns-row x r p =
      record {
        cell-is =
            places-map_at (CellRule v.tray v.desk) past_cell (left_at v.tray v.desk x) v.row
            (left-rule v.tray v.desk x) r.cell-is;
        seat-is =
            (clock-row (merged v.seat.clock x) r (merge-past v.tray.counts.desks v.seat.clock x (clock-past r) p)).seat-is;
      }

  -- a write is stored in a cell that is kept here, under a clock that is not all zeros
  stores_row : (c : ℕ) (w : Word) → RowRule v → c < v.tray.counts.cells → (ZeroPast 0 v.seat.clock → ⊥) → RowRule (stores v c w)
  stores_row c w r h some =
      holds_row v c (held_cell w v.seat.clock) r
      (held-rule v.tray v.desk c w v.seat.clock (there, h) (clock-past r) (λ z. absurd (some z)))

-- ---- the three steps
-- a cell that is not held is not kept here
not-held : (v : Record) (c : ℕ) → RowRule v → c < length v.row → (cell_at v.row c).held ≡ false → keeps v.tray v.desk c ≡ false
not-held v c r h e = fails (keeps v.tray v.desk c) (λ q. no_way (cell_at v.row c).held ((r.cell-is c h).keeper-holds q) e)

module _ (v : Record) (long : length v.row ≡ 32) (wide : 8 ≤ length v.seat.clock.n) (r : SoundRule v) where
  -- the tray and the desk stay
  still : (u : Record) → u.tray ≡ v.tray → u.desk ≡ v.desk → RowRule u → u.seat.slot.kind ≤ 2 → SoundRule u
  still u t d row asked = record { tray-is = rw t r.tray-is; desk-is = rw (t, d) r.desk-is; row_is = row; asked = asked }

  read_kept : (c : ℕ) → c < v.tray.counts.cells → SoundRule (read_rule v c).after
  unfolding read_rule
  read_kept c h = go (cell_at v.row c).held refl
    where
      go : (b : Bool) → (cell_at v.row c).held ≡ b → SoundRule (read_rule v c).after
      go true e = rw e r
      go false e =
          rw e
          (still (slotted v (read_asked c)) refl refl
          (slotted-row v (read_asked c) r.row_is
          (asked-rule v.tray v.desk c (r.desk-is, h) (not-held v c r.row_is (omega (arith, r.tray-is.cells-most)) e)))
          (lit≤ tt))

  write_kept : (c : ℕ) (w : Word) → c < v.tray.counts.cells → SoundRule (write_rule v c w).after
  unfolding write_rule
  write_kept c w h = go (keeps v.tray v.desk c) refl
    where
      next : ZeroPast v.tray.counts.desks (next_clock v)
      next = raised-past v.tray.counts.desks v.seat.clock v.desk r.desk-is (clock-past v r.desk-is r.row_is)

      -- its own number is above 0
      some : ZeroPast 0 (next_clock v) → ⊥
      some = raised-some v.seat.clock v.desk (omega (arith, wide, r.desk-is, r.tray-is.desks-most))

      go : (b : Bool) → keeps v.tray v.desk c ≡ b → SoundRule (write_rule v c w).after
      go true e =
          let u = with_seat v (with_clock v.seat (next_clock v)) in
          rw e
          (still (stores u c w) refl refl (stores_row u r.desk-is c w (clock-row v r.desk-is (next_clock v) r.row_is next) h some)
          r.asked)
      go false e =
          let s = write_asked c w (next_clock v) in
          rw e
          (still (slotted v s) refl refl
          (slotted-row v s r.row_is (full-rule v.tray v.desk s (lit≤ tt) (lit≤ tt) (r.desk-is, h) e next (λ z. absurd (some z)) (λ _. some)))
          (lit≤ tt))

  drop-kept : (c : ℕ) → keeps v.tray v.desk c ≡ false → SoundRule (drop_rule v c).after
  unfolding drop_rule
  drop-kept c e =
      still (holds v c no_cell) refl refl (holds_row v c no_cell r.row_is (no-cell-rule v.tray v.desk c e)) r.asked

  pub event-kept : (e : Event) → Allowed v e → SoundRule (event_done v e).after
  unfolding event_done
  event-kept e a =
      let range = a.seat.in-range a.own in
      ⊎_elim (λ k. rw (eq-eqb e.kind 1 k) (read_kept e.cell range))
      (⊎_elim
      (λ k. rw (ne_eqb e.kind 1 (omega arith), eq-eqb e.kind 2 k) (write_kept e.cell e.word range))
      (λ k. rw (ne_eqb e.kind 1 (omega arith), ne_eqb e.kind 2 (omega arith)) (drop-kept e.cell (a.seat.not-kept k))))
      (own_is e a.own)

module _ (v : Record) (m : Message) (there : v.desk < v.tray.counts.desks) (r : RowRule v) (h : m.cell < v.tray.counts.cells)
    (p : ZeroPast v.tray.counts.desks m.clock) where
  -- a keeper that takes a write
  pub takes-row : (ZeroPast 0 m.clock → ⊥) → RowRule (takes v m)
  unfolding takes
  takes-row some =
      let u = with_seat v (marked_served v.seat) in
      stores_row (learns u m.clock) there m.cell m.word (learns-row u there m.clock marked p) h
      (λ z. some (merge-zero v.seat.clock m.clock z))
    where
      on : (b : Bool) → v.seat.served ≡ b → (v.seat.served || waits v.seat.slot) ≡ true → waits v.seat.slot ≡ true
      on true e q = r.seat-is.served-waits e
      on false e q = rw e at q

      marked : RowRule (with_seat v (marked_served v.seat))
      marked =
          seat-row v (marked_served v.seat) r
          (slot-seat v.tray v.desk v.seat v.seat.slot (v.seat.served || waits v.seat.slot) r.seat-is
          r.seat-is.slot_is (on v.seat.served refl))

  -- a desk that brings an answer home
  pub brings-row : keeps v.tray v.desk m.cell ≡ false → (ZeroPast 0 m.clock → m.word ≡ no_word) → RowRule (brings v m)
  unfolding brings
  brings-row e no-word =
      let without = holds v m.cell no_cell in
      slotted-row (holds (learns without m.clock) m.cell (rules.brought v.seat.served m)) no_slot
      (holds_row (learns without m.clock) m.cell (rules.brought v.seat.served m)
      (learns-row without there m.clock (holds_row v m.cell no_cell r none) p) (named v.seat.served))
      (no-slot-rule v.tray v.desk)
    where
      none : CellRule v.tray v.desk m.cell no_cell
      none = no-cell-rule v.tray v.desk m.cell e

      named : (b : Bool) → CellRule v.tray v.desk m.cell (rules.brought b m)
      named true = none
      named false = held-rule v.tray v.desk m.cell m.word m.clock (there, h) p no-word

-- ---- the theorems
module _ (v : Record) (long : length v.row ≡ 32) (wide : 8 ≤ length v.seat.clock.n) (ok : is_sound v ≡ true) where
  abbrev r : SoundRule v
  r = sound-rule v ok

  -- a refusal changes nothing
  kept : (n : ℕ) (s : Step) → (n ≡ 0 → SoundRule s.after) → is_sound (unless n (refused v) s).after ≡ true
  kept n s done =
      unless-either n (refused v) s (λ (u : Step). is_sound u.after ≡ true) (λ _. ok) (λ none. rule-sound s.after (done none))

  pub event-sound : (e : Event) → is_sound (event_rule v e).after ≡ true
  unfolding event_rule
  event-sound e = kept (event_refusal v e) (event_done v e) (λ none. event-kept v long wide r e (allowed v e none))

  pub serve-sound : (m : Message) → is_sound (serve_rule v m).after ≡ true
  unfolding serve_rule serve_done read_served write_served takes
  serve-sound m = kept (serve_refusal v m) (serve_done v m) (λ none. done (served v m none))
    where
      done : Served v m → SoundRule (serve_done v m).after
      done s =
          ⊎_elim (λ k. rw (eq-eqb m.kind 1 k) r)
          (λ k.
          rw (ne_eqb m.kind 1 (omega arith))
          (still v long wide r (takes v m) refl refl
          (takes-row v m r.desk-is r.row_is (keeps-in v.tray v.desk m.cell s.kept) s.clock (s.sent k)) r.asked))
          s.kind

  pub bring-sound : (m : Message) → is_sound (bring_rule v m).after ≡ true
  unfolding bring_rule bring_done brings
  bring-sound m = kept (bring_refusal v m) (bring_done v m) (λ none. done (brought v m none))
    where
      done : Brought v m → SoundRule (brings v m)
      done b =
          let slot = r.row_is.seat-is.slot_is in
          still v long wide r (brings v m) refl refl
          (brings-row v m r.desk-is r.row_is (rw b.cell (slot.used b.waiting).1) b.clock (rw b.cell (slot.not-kept b.waiting)) b.no-word)
          zero-le
