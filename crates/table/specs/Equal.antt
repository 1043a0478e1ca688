-- The table's take equals the keeper's serve, its bring the desk's bring, and a desk's own events the desk's, with the slot as the message.
-- Assumes nothing.
use Rattle.std.specs.Prelude.{◌≡◌, refl, Bool, false, cond, ℕ, ◌≤◌, ◌<◌, eqb}
use Rattle.std.proofs.Math.Path.{sym, ap}
use Rattle.std.proofs.Common.{subst, ◌∙◌, ⊎_elim, arith, lit≤}
use Rattle.std.proofs.Math.Bool.{true, not}
use Rattle.std.proofs.Math.Decide.{ℕ_discrete}
use borrow.Author.Tests.{eq-eqb, ne_eqb, lt-ltb}
use Rattle.clock.specs.declared.Clock.{Clock}
use Rattle.clock.specs.Clock.{zero_clock, is_within, raised}
use Rattle.clock.specs.Laws.{past-within, zero-past, raised-past, raised-some}
use Rattle.desk.specs.declared.Event.{Event}
use Rattle.desk.specs.declared.Message.{Message}
use Rattle.desk.specs.declared.Record.{Record}
use Rattle.desk.specs.declared.Slot.{Slot}
use Rattle.desk.specs.declared.Step.{Step}
use Rattle.desk.specs.declared.Tray.{Tray}
use Rattle.desk.specs.Desk.{waits, is_asked, is_answered, answer_kind, is_own}
use Rattle.desk.specs.Kept.{event-kept, asked-rule, full-rule, seat-row, slot-seat}
use Rattle.desk.specs.RuleLaws.{allowed, answered-kind}
use Rattle.desk.specs.Rules.{with_slot, slot_message, read_asked, write_asked, refused, event_refusal, event_done, takes, read_served, write_served, serve_done}
use Rattle.desk.specs.Rules.{in_tray, request_fits, serve_lines, serve_refusal, answer_fits, brings, bring_done, bring_lines, bring_refusal}
use Rattle.desk.specs.Rules as rules
use Rattle.desk.specs.SameDesk.{event-same, bring-same}
use Rattle.desk.specs.Sound.{is_sound}
use Rattle.desk.specs.SoundLaws.{SlotRule, rule-word, rule-sent, rule-sound}
use Rattle.desk.specs.StepLaws.{event-told}
use Rattle.theory_lists.specs.Test.{both}
use Rattle.theory_refusals.specs.Refusals.{first_of, unless-done}
use Rattle.table.specs.declared.Outcome.{Outcome}
use Rattle.table.specs.declared.Table.{Table}
use Rattle.table.specs.Room.{Room}
use Rattle.table.specs.Rows.{Sized, row-length, put_same}
use Rattle.table.specs.RuleLaws.{kind-waits, Passed, pass, is-bring, is-own-rule, Asks, here, take-asks, answer-waits, slot_is, own-sound, own-passes}
use Rattle.table.specs.Rules.{refusal, outcome, message_of, answer_slot, answered, keeper_step, bring_rule, own_rule, event_rule}
use Rattle.table.specs.Sound.{table_sound}
use Rattle.table.specs.SoundLaws.{TableRule, table-rule, desk-below}
use Rattle.table.specs.Table.{slot_of, keeper_for, record_of}

-- ---- a desk's own record, where "a full slot stays asked until the answer is brought"
-- The clock that a write was sent with is gone once it is answered. Bringing does not look at it, so any serves that is not all zeros. (The stamp
-- would not: a sound table may have an answer with a stamp of zeros.)
abbrev pub some_clock : Clock
some_clock = raised zero_clock 0

unfoldable pub asked_slot : Slot → Slot
asked_slot s = cond (eqb s.kind 3) (read_asked s.cell) (cond (eqb s.kind 4) (write_asked s.cell s.word some_clock) s)

-- the record with its slot as it was when asked
abbrev pub asking : Record → Record
asking v = answered v (asked_slot v.seat.slot)

abbrev pub asked_record : Table → ℕ → Record
asked_record t desk = asking (record_of t desk)

module _ (s : Slot) where
  asked-same : s.kind ≤ 2 → asked_slot s ≡ s
  unfolding asked_slot
  asked-same h = rw (ne_eqb s.kind 3 (omega arith), ne_eqb s.kind 4 (omega arith))

  asked-read : s.kind ≡ 3 → asked_slot s ≡ read_asked s.cell
  unfolding asked_slot
  asked-read k = rw (eq-eqb s.kind 3 k)

  asked-write : s.kind ≡ 4 → asked_slot s ≡ write_asked s.cell s.word some_clock
  unfolding asked_slot
  asked-write k = rw (ne_eqb s.kind 3 (omega arith), eq-eqb s.kind 4 k)

  -- an answer's cell and kind are those asked
  asked-names : is_answered s ≡ true → (s.cell ≡ (asked_slot s).cell) × (s.kind ≡ answer_kind (asked_slot s).kind)
  asked-names e = ⊎_elim (λ k. rw (asked-read k) (refl, k)) (λ k. rw (asked-write k) (refl, k)) (answered-kind s e)

  each-slot : (P : Slot → Type 0) → s.kind ≤ 4 → (s.kind ≤ 2 → P s) → (s.kind ≡ 3 → P (read_asked s.cell))
      → (s.kind ≡ 4 → P (write_asked s.cell s.word some_clock)) → P (asked_slot s)
  each-slot P most same read write =
      elim (ℕ_discrete s.kind 3) [
        | yes k ↦ rw (asked-read k) (read k)
        | no k ↦ elim (ℕ_discrete s.kind 4) [
          | yes l ↦ rw (asked-write l) (write l)
          | no l ↦ (let h : s.kind ≤ 2 = omega arith in rw (asked-same h) (same h))
        ]
      ]

  asked-kinds : s.kind ≤ 4 → (asked_slot s).kind ≤ 2
  asked-kinds most = each-slot (λ (a : Slot). a.kind ≤ 2) most (λ h. h) (λ _. lit≤ tt) (λ _. lit≤ tt)

  asked-waits : s.kind ≤ 4 → waits (asked_slot s) ≡ waits s
  unfolding waits
  asked-waits most = each-slot (λ (a : Slot). waits a ≡ waits s) most (λ _. refl) (λ k. rw k) (λ k. rw k)

  asked-slot : (t : Tray) (desk : ℕ) → SlotRule t desk s → SlotRule t desk (asked_slot s)
  asked-slot t desk r =
      each-slot (SlotRule t desk) r.kind-most (λ _. r)
      (λ k. let w = kind-waits s (omega arith) in asked-rule t desk s.cell (r.used w) (r.not-kept w))
      (λ k.
      let w = kind-waits s (omega arith) in
      let some = raised-some zero_clock 0 (omega arith) in
      full-rule t desk (write_asked s.cell s.word some_clock) (lit≤ tt) (lit≤ tt) (r.used w) (r.not-kept w)
      (raised-past t.counts.desks zero_clock 0 (omega (arith, (r.used w).0)) (zero-past t.counts.desks)) (λ z. absurd (some z)) (λ _. some))

-- a record whose slot is no answer is the desk's own
asking-same : (v : Record) → v.seat.slot.kind ≤ 2 → asking v ≡ v
asking-same v h = rw (asked-same v.seat.slot h)

-- the record of a desk that is there is sound
record-sound : (t : Table) → TableRule t → (desk : ℕ) → desk < t.tray.counts.desks → is_sound (asked_record t desk) ≡ true
unfolding record_of
record-sound t rule desk h =
    let v = record_of t desk in
    let r = rule.row_is desk (desk-below t rule desk h) in
    let slot = asked_slot v.seat.slot in
    let most = r.seat-is.slot_is.kind-most in
    rule-sound (asking v)
    (record {
      tray-is = rule.tray-is;
      desk-is = h;
      row_is =
          seat-row v (with_slot v.seat slot v.seat.served) r
          (slot-seat t.tray desk v.seat slot v.seat.served r.seat-is (asked-slot v.seat.slot v.tray desk r.seat-is.slot_is)
          (λ q. asked-waits v.seat.slot most ∙ r.seat-is.served-waits q));
      asked = asked-kinds v.seat.slot most;
    })

pub asked-sound : (t : Table) → Sized t → table_sound t ≡ true → (desk : ℕ) → desk < t.tray.counts.desks → is_sound (asked_record t desk) ≡ true
asked-sound t z ok = record-sound t (table-rule t z ok)

-- ---- the slot as the message
abbrev asking_step : Step → Step
asking_step s = record { reply = s.reply; message = s.message; after = asking s.after }

-- serving does not look at the keeper's slot, except whether it waits
serve-asking : (v : Record) (m : Message) → v.seat.slot.kind ≤ 4 → serve_done (asking v) m ≡ asking_step (serve_done v m)
unfolding serve_done read_served write_served takes
serve-asking v m most = go (eqb m.kind 1)
  where
    go : (b : Bool) → cond b (read_served (asking v) m) (write_served (asking v) m) ≡ asking_step (cond b (read_served v m) (write_served v m))
    go true = refl
    go false = rw (asked-waits v.seat.slot most) refl

-- bringing does not look at it at all
bring-asking : (v : Record) (m : Message) → bring_done (asking v) m ≡ bring_done v m
unfolding bring_done brings
bring-asking v m = refl

-- the message of an answered slot is the answer that was put there
pub answer-message : (v : Record) (m : Message) → m.desks ≡ v.tray.counts.desks → m.desk ≡ v.desk
    → slot_message (answered v (answer_slot m)) (answer_slot m) ≡ m
answer-message v m p q =
    λ i. record { kind = m.kind; desks = sym p i; desk = sym q i; cell = m.cell; word = m.word; clock = m.clock }

-- ---- the theorems
-- what the desk's part does: the desk at its own event, the keeper at a take, the desk at a bring
abbrev pub desk_events : Table → Event → Step
desk_events t e = rules.event_rule (asked_record t e.desk) e

abbrev pub keeper_serves : Table → ℕ → Step
keeper_serves t desk = rules.serve_rule (asked_record t (keeper_for t desk)) (message_of t desk)

abbrev pub desk_brings : Table → ℕ → Step
desk_brings t desk = rules.bring_rule (asked_record t desk) (message_of t desk)

-- an outcome gives that step's reply, and leaves that desk with the step's record
pub record Does (o : Outcome) (desk : ℕ) (s : Step) : Type 0 where
  pub same-reply : o.reply ≡ s.reply
  pub same-record : asked_record o.after desk ≡ s.after

module _ (t : Table) (e : Event) (room : Room t) (none : refusal t e ≡ 0) where
  z : Sized t
  z = room.sized

  a : Passed t e
  a = pass t e z none

  slot-within : is_within t.tray.counts.desks (slot_of t e.desk).clock ≡ true
  slot-within = past-within t.tray.counts.desks (slot_of t e.desk).clock (slot_is t e a).clock-past

  -- 3 Take is the keeper's serve, and its answer is the message of the asker's slot
  module _ (k : e.kind ≡ 3) where
    asks : Asks t e.desk
    asks = take-asks t e a k

    pub take-fits : serve_refusal (asked_record t (keeper_for t e.desk)) (message_of t e.desk) ≡ 0
    unfolding serve_lines first_of request_fits in_tray message_of record_of is_asked
    take-fits = rw (record-sound t a.sound (keeper_for t e.desk) asks.keeper-is, fits)
      where
        fits : request_fits t.tray (keeper_for t e.desk) (message_of t e.desk) ≡ true
        fits =
            both
            (both
            (both
            (both (both (eq-eqb t.tray.counts.desks t.tray.counts.desks refl) slot-within)
            (rule-sent (slot_of t e.desk).kind (slot_of t e.desk).clock (slot_is t e a).sent))
            (a.seat.asked k))
            (both (lt-ltb e.desk t.tray.counts.desks a.desk-is)
            (ap not (ne_eqb e.desk (keeper_for t e.desk) (λ q. asks.another (sym q))))))
            asks.keeps-it

    pub serves : keeper_serves t e.desk ≡ asking_step (keeper_step t e.desk)
    unfolding rules.serve_rule record_of keeper_step
    serves =
        let v = record_of t (keeper_for t e.desk) in
        let m = message_of t e.desk in
        unless-done (serve_refusal (asking v) m) (refused (asking v)) (serve_done (asking v) m) take-fits
        ∙ serve-asking v m (a.sound.row_is v.desk (desk-below t a.sound v.desk asks.keeper-is)).seat-is.slot_is.kind-most

  -- 4 Bring is the desk's bring
  module _ (k : e.kind ≡ 4) where
    pub bring-fits : bring_refusal (asked_record t e.desk) (message_of t e.desk) ≡ 0
    unfolding bring_lines first_of answer_fits in_tray message_of record_of
    bring-fits = rw (record-sound t a.sound e.desk a.desk-is, waiting, fits)
      where
        s : Slot
        s = slot_of t e.desk

        waiting : waits (asked_slot s) ≡ true
        waiting = asked-waits s (a.sound.row_is e.desk (here t e a)).seat-is.slot_is.kind-most ∙ answer-waits t e a k

        fits : answer_fits t.tray e.desk (asked_slot s) (message_of t e.desk) ≡ true
        fits =
            let names = asked-names s (a.seat.answered k) in
            both
            (both (both (eq-eqb t.tray.counts.desks t.tray.counts.desks refl) slot-within)
            (rule-word s.word s.clock (slot_is t e a).no-word))
            (both (both (eq-eqb e.desk e.desk refl) (eq-eqb s.cell (asked_slot s).cell names.0))
            (eq-eqb s.kind (answer_kind (asked_slot s).kind) names.1))

    brings-it : desk_brings t e.desk ≡ bring_done (record_of t e.desk) (message_of t e.desk)
    unfolding rules.bring_rule
    brings-it =
        let v = asked_record t e.desk in
        let m = message_of t e.desk in
        unless-done (bring_refusal v m) (refused v) (bring_done v m) bring-fits ∙ bring-asking (record_of t e.desk) m

    pub bring-does : Does (event_rule t e) e.desk (desk_brings t e.desk)
    unfolding bring_rule outcome bring_done brings asked_slot
    bring-does =
        let v = record_of t e.desk in
        let m = message_of t e.desk in
        rw (is-bring t e none k, brings-it)
        (record {
          same-reply = refl;
          same-record = ap asking (put_same t e.desk (bring_done v m).after z (here t e a) (bring-same v m));
        })

  -- 1 Read, 2 Write, 5 Drop are the desk's
  module _ (o : is_own e ≡ true) where
    own-record : asked_record t e.desk ≡ record_of t e.desk
    own-record = asking-same (record_of t e.desk) (own-sound t e a o).asked

    pub own-fits : event_refusal (asked_record t e.desk) e ≡ 0
    own-fits = subst (λ (v : Record). event_refusal v e ≡ 0) (sym own-record) (own-passes t e a o)

    events : desk_events t e ≡ event_done (record_of t e.desk) e
    unfolding rules.event_rule
    events =
        let v = record_of t e.desk in
        ap (λ (w : Record). rules.event_rule w e) own-record ∙ unless-done (event_refusal v e) (refused v) (event_done v e) (own-passes t e a o)

    own-after : record_of (event_rule t e).after e.desk ≡ (event_done (record_of t e.desk) e).after
    unfolding own_rule outcome
    own-after =
        let v = record_of t e.desk in
        rw (is-own-rule t e none o) (put_same t e.desk (event_done v e).after z (here t e a) (event-same v e))

    pub own-does : Does (event_rule t e) e.desk (desk_events t e)
    unfolding own_rule outcome
    own-does =
        let v = record_of t e.desk in
        let kept =
        event-kept v (row-length t e.desk z (here t e a)) (room.clocks e.desk (here t e a)) (own-sound t e a o) e
        (allowed v e (own-passes t e a o)) in
        record {
          same-reply = rw (is-own-rule t e none o, events);
          same-record = rw events (ap asking own-after ∙ asking-same (event_done v e).after kept.asked);
        }

    -- "code 1 comes with the request message": it is the slot's
    pub own-asks : (desk_events t e).reply.code ≡ 1 → (desk_events t e).message ≡ message_of (event_rule t e).after e.desk
    unfolding message_of record_of
    own-asks one =
        (event-told (asked_record t e.desk) e).asked one
        ∙ ap (λ (w : Record). slot_message w w.seat.slot) (ap (λ (s : Step). s.after) events ∙ sym own-after)
