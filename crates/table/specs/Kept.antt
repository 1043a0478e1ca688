-- Each of the three ways to do an event keeps a sound table sound. The theorem stands in `Kept` of proofs.
-- Assumes nothing.
use Rattle.std.specs.Prelude.{◌≡◌, true, ◌⊎◌, ℕ, ◌≤◌, ◌<◌, length}
use Rattle.std.proofs.Math.Logic.{⊎_elim}
use Rattle.std.proofs.Math.Decide.{ℕ_discrete}
use Rattle.std.proofs.Common.{arith, eq-eqb, ne_eqb}
use Rattle.clock.specs.Laws.{ZeroPast, merge-zero}
use Rattle.desk.specs.declared.Event.{Event}
use Rattle.desk.specs.declared.Message.{Message}
use Rattle.desk.specs.declared.Record.{Record}
use Rattle.desk.specs.declared.Slot.{Slot}
use Rattle.desk.specs.declared.Step.{Step}
use Rattle.desk.specs.Desk.{no_word, waits, is_own}
use Rattle.desk.specs.Kept.{event-kept, clock-past, takes-row, brings-row, seat-row, slot-seat, full-rule}
use Rattle.desk.specs.RuleLaws.{allowed, asked-kind}
use Rattle.desk.specs.Rules.{with_slot, event_done, takes, read_served, write_served, serve_done, bring_done}
use Rattle.desk.specs.SameDesk.{SameDesk, seat-same, Answers, serve-answers, event-same, serve-same, bring-same}
use Rattle.desk.specs.SoundLaws.{SlotRule, RowRule}
use Rattle.table.specs.declared.Table.{Table}
use Rattle.table.specs.Room.{Room}
use Rattle.table.specs.Rows.{row-length, put-sized, put_same, put_other}
use Rattle.table.specs.RuleLaws.{kind-waits, Passed, Asks, here, take-asks, bring-asks, slot_is, own-sound, own-passes}
use Rattle.table.specs.Rules.{outcome, message_of, answer_slot, answered, put_answer, keeper_step, take_rule, bring_rule, own_rule}
use Rattle.table.specs.SoundLaws.{TableRule, desk-below}
use Rattle.table.specs.Table.{slot_of, keeper_for, record_of, put_back}

-- what a desk's step leaves goes back into its place
put-kept : (t : Table) (desk : ℕ) (u : Record) → TableRule t → desk < 8 → SameDesk (record_of t desk) u → RowRule u → TableRule (put_back t u)
unfolding put_back
put-kept t desk u r h same row =
    record {
      sized = put-sized t desk u r.sized h same;
      tray-is = r.tray-is;
      row_is =
          λ p i.
          elim (ℕ_discrete p desk) [
            | yes q ↦ rw (q, put_same t desk u r.sized h same) row
            | no q ↦ rw (put_other t desk u r.sized h same p q) (r.row_is p i)
          ];
    }

-- a desk's slot is filled
answer-kept : (t : Table) (desk : ℕ) (m : Message) → TableRule t → desk < 8 → SlotRule t.tray desk (answer_slot m) → waits (answer_slot m) ≡ true
    → TableRule (put_answer t desk m)
unfolding put_answer record_of
answer-kept t desk m r h new w =
    let v = record_of t desk in
    let s = with_slot v.seat (answer_slot m) v.seat.served in
    put-kept t desk (answered v (answer_slot m)) r h (seat-same v s)
    (seat-row v s (r.row_is desk h) (slot-seat t.tray desk v.seat (answer_slot m) v.seat.served (r.row_is desk h).seat-is new (λ _. w)))

-- a keeper that serves: its row, and the word and stamp that it answers with
module _ (v : Record) (m : Message) (there : v.desk < v.tray.counts.desks) (r : RowRule v) (c : m.cell < v.tray.counts.cells)
    (p : ZeroPast v.tray.counts.desks m.clock) (kind : (m.kind ≡ 1) ⊎ (m.kind ≡ 2)) (sent : m.kind ≡ 2 → ZeroPast 0 m.clock → ⊥) where
  record Serves (s : Step) : Type 0 where
    row : RowRule s.after
    past : ZeroPast v.tray.counts.desks s.message.clock
    no-word : ZeroPast 0 s.message.clock → s.message.word ≡ no_word

  serves : m.cell < length v.row → Serves (serve_done v m)
  unfolding serve_done read_served write_served takes
  serves h = ⊎_elim of-read of-write kind
    where
      of-read : m.kind ≡ 1 → Serves (serve_done v m)
      of-read k =
          let x = r.cell-is m.cell h in
          rw (eq-eqb m.kind 1 k) (record { row = r; past = x.stamp-past; no-word = x.no-word })

      of-write : m.kind ≡ 2 → Serves (serve_done v m)
      of-write k =
          let row = takes-row v m there r c p (sent k) in
          rw (ne_eqb m.kind 1 (omega arith))
          (record {
            row = row;
            past = clock-past (takes v m) there row;
            no-word = λ z. absurd (sent k (merge-zero v.seat.clock m.clock z));
          })

-- ---- the three ways to do an event
module _ (t : Table) (e : Event) (z : Room t) (a : Passed t e) where
  pub own-kept : is_own e ≡ true → TableRule (own_rule t e).after
  unfolding own_rule outcome
  own-kept o =
      let v = record_of t e.desk in
      put-kept t e.desk (event_done v e).after a.sound (here t e a) (event-same v e)
      (event-kept v (row-length t e.desk z.sized (here t e a)) (z.clocks e.desk (here t e a)) (own-sound t e a o) e
      (allowed v e (own-passes t e a o))).row_is

  pub bring-kept : e.kind ≡ 4 → TableRule (bring_rule t e.desk).after
  unfolding bring_rule outcome bring_done message_of record_of
  bring-kept k =
      let v = record_of t e.desk in
      let m = message_of t e.desk in
      let asking = bring-asks t e a k in
      let slot = slot_is t e a in
      put-kept t e.desk (bring_done v m).after a.sound (here t e a) (bring-same v m)
      (brings-row v m a.desk-is (a.sound.row_is e.desk (here t e a)) asking.cell-is slot.clock-past asking.not-kept slot.no-word)

  pub take-kept : e.kind ≡ 3 → TableRule (take_rule t e.desk).after
  unfolding take_rule keeper_step message_of record_of put_back
  take-kept k =
      answer-kept (put_back t (serve_done keeper m).after) e.desk (serve_done keeper m).message keeper-kept (here t e a) answer-is
      (kind-waits s (omega (arith, names.answer-kind)))
    where
      keeper : Record
      keeper = record_of t (keeper_for t e.desk)

      m : Message
      m = message_of t e.desk

      s : Slot
      s = answer_slot (serve_done keeper m).message

      asking : Asks t e.desk
      asking = take-asks t e a k

      names : Answers keeper m (serve_done keeper m)
      names = serve-answers keeper m

      below : keeper_for t e.desk < 8
      below = desk-below t a.sound (keeper_for t e.desk) asking.keeper-is

      kind : (m.kind ≡ 1) ⊎ (m.kind ≡ 2)
      kind = asked-kind (slot_of t e.desk) (a.seat.asked k)

      there : m.cell < length keeper.row
      there = omega (arith, asking.cell-is, a.sound.tray-is.cells-most, row-length t (keeper_for t e.desk) z.sized below)

      served : Serves keeper m asking.keeper-is (a.sound.row_is (keeper_for t e.desk) below) asking.cell-is (slot_is t e a).clock-past kind
          (slot_is t e a).sent (serve_done keeper m)
      served = serves keeper m _ _ _ _ kind (slot_is t e a).sent there

      keeper-kept : TableRule (put_back t (serve_done keeper m).after)
      keeper-kept = put-kept t (keeper_for t e.desk) (serve_done keeper m).after a.sound below (serve-same keeper m) served.row

      kinds : (3 ≤ s.kind) × (s.kind ≤ 4)
      kinds = ⊎_elim (λ q. (omega (arith, names.answer-kind), omega (arith, names.answer-kind))) (λ q. (omega (arith, names.answer-kind), omega (arith, names.answer-kind))) kind

      answer-is : SlotRule t.tray e.desk s
      answer-is =
          full-rule t.tray e.desk s (omega (arith, kinds.0)) kinds.1
          (a.desk-is, rw names.answer-cell asking.cell-is) (rw names.answer-cell asking.not-kept)
          served.past served.no-word (λ q. absurd (omega (arith, kinds.0)))
