-- What a take leaves of its two desks: of the asker all but its slot, of the keeper its slot.
-- Assumes nothing.
use Rattle.std.specs.Prelude.{◌≡◌}
use Rattle.std.proofs.Math.Path.{refl, ap}
use Rattle.std.proofs.Common.{◌∙◌}
use Rattle.desk.specs.declared.Event.{Event}
use Rattle.desk.specs.declared.Record.{Record}
use Rattle.desk.specs.declared.Slot.{Slot}
use Rattle.desk.specs.SameDesk.{serve-answers}
use Rattle.table.specs.declared.Outcome.{Outcome}
use Rattle.table.specs.declared.Table.{Table}
use Rattle.table.specs.Rows.{Sized}
use Rattle.table.specs.Rules.{message_of, answer_slot, answered, keeper_step, take_rule, event_rule}
use Rattle.table.specs.Table.{keeper_for, record_of}
use Rattle.table.specs.Touch.{asker-after, keeper-after, each_take}

module _ (t : Table) (e : Event) (z : Sized t) where
  -- the asker: its slot alone
  pub take-asker : e.kind ≡ 3
      → record_of (event_rule t e).after e.desk ≡ answered (record_of t e.desk) (record_of (event_rule t e).after e.desk).seat.slot
  take-asker k =
      each_take t e z (λ (o : Outcome). record_of o.after e.desk ≡ answered v (record_of o.after e.desk).seat.slot) k refl
      (λ a. slot-alone (record_of (take_rule t e.desk).after e.desk) (answer_slot (keeper_step t e.desk).message) (asker-after t e z a k))
    where
      v : Record
      v = record_of t e.desk

      slot-alone : (w : Record) (s : Slot) → w ≡ answered v s → w ≡ answered v w.seat.slot
      slot-alone w s q = rw q

  -- the keeper: its slot not
  pub take-keeper : e.kind ≡ 3
      → (record_of (event_rule t e).after (keeper_for t e.desk)).seat.slot ≡ (record_of t (keeper_for t e.desk)).seat.slot
  unfolding keeper_step
  take-keeper k =
      each_take t e z (λ (o : Outcome). (record_of o.after (keeper_for t e.desk)).seat.slot ≡ (record_of t (keeper_for t e.desk)).seat.slot) k refl
      (λ a. ap (λ (w : Record). w.seat.slot) (keeper-after t e z a k) ∙ (serve-answers (record_of t (keeper_for t e.desk)) (message_of t e.desk)).slot-stays)
