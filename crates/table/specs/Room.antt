-- A table whose arrays have their lengths and whose clocks have a place for each desk: an event leaves it so.
-- Assumes nothing.
use Rattle.std.specs.Prelude.{ℕ, ◌≤◌, ◌<◌, length}
use Rattle.std.proofs.Math.Decide.{ℕ_discrete}
use Rattle.std.proofs.Common.{arith}
use Rattle.desk.specs.declared.Event.{Event}
use Rattle.desk.specs.declared.Record.{Record}
use Rattle.desk.specs.declared.Slot.{Slot}
use Rattle.desk.specs.Rules.{event_done, bring_done}
use Rattle.desk.specs.SameDesk.{SameDesk, seat-same, event-same, serve-same, bring-same, event-longer, serve-longer, bring-longer}
use Rattle.table.specs.declared.Outcome.{Outcome}
use Rattle.table.specs.declared.Table.{Table}
use Rattle.table.specs.Rows.{Sized, put-sized, put_same, put_other}
use Rattle.table.specs.RuleLaws.{each-event, here, take-asks}
use Rattle.table.specs.Rules.{outcome, message_of, answer_slot, answered, put_answer, keeper_step, take_rule, bring_rule, own_rule, event_rule}
use Rattle.table.specs.SoundLaws.{desk-below}
use Rattle.table.specs.Table.{keeper_for, record_of, put_back}

pub record Room (t : Table) : Type 0 where
  pub sized : Sized t
  pub clocks : (p : ℕ) → p < 8 → 8 ≤ length (record_of t p).seat.clock.n

-- v is put back as desk p's record
put-room : (t : Table) → Room t → (p : ℕ) → p < 8 → (v : Record) → SameDesk (record_of t p) v
    → length (record_of t p).seat.clock.n ≤ length v.seat.clock.n → Room (put_back t v)
put-room t z p there v same longer = record {
  sized = put-sized t p v z.sized there same;
  clocks = λ q h.
      elim (ℕ_discrete q p) [
        | yes e ↦ rw (e, put_same t p v z.sized there same) (omega (arith, longer, z.clocks p there))
        | no ne ↦ rw (put_other t p v z.sized there same q ne) (z.clocks q h)
      ];
}

answer-room : (t : Table) → Room t → (p : ℕ) → p < 8 → (s : Slot) → Room (put_back t (answered (record_of t p) s))
answer-room t z p there s = put-room t z p there (answered (record_of t p) s) (seat-same (record_of t p) _) (omega arith)

pub event-room : (t : Table) (e : Event) → Room t → Room (event_rule t e).after
unfolding take_rule put_answer keeper_step bring_rule own_rule outcome
event-room t e z =
    let v = record_of t e.desk in
    let m = message_of t e.desk in
    let keeper = record_of t (keeper_for t e.desk) in
    each-event (λ (o : Outcome). Room o.after) t e z.sized z
    (λ a k.
    answer-room _
    (put-room t z (keeper_for t e.desk) (desk-below t a.sound (keeper_for t e.desk) (take-asks t e a k).keeper-is) _ (serve-same keeper m)
    (serve-longer keeper m))
    e.desk (here t e a) (answer_slot (keeper_step t e.desk).message))
    (λ a k. put-room t z e.desk (here t e a) (bring_done v m).after (bring-same v m) (bring-longer v m))
    (λ a o. put-room t z e.desk (here t e a) (event_done v e).after (event-same v e) (event-longer v e))
