-- A take is the keeper's serve, and its answer is the message of the asker's slot.
-- Assumes nothing.
use Rattle.std.specs.Prelude.{◌≡◌, refl}
use Rattle.std.proofs.Math.Path.{ap}
use Rattle.std.proofs.Common.{◌∙◌}
use Rattle.desk.specs.declared.Event.{Event}
use Rattle.desk.specs.declared.Record.{Record}
use Rattle.desk.specs.Rules.{slot_message}
use Rattle.desk.specs.SameDesk.{serve-answers}
use Rattle.table.specs.declared.Table.{Table}
use Rattle.table.specs.Equal.{asking, keeper_serves, Does, answer-message, serves}
use Rattle.table.specs.Room.{Room}
use Rattle.table.specs.Rows.{Sized}
use Rattle.table.specs.RuleLaws.{Passed, pass, is-take}
use Rattle.table.specs.Rules.{refusal, message_of, keeper_step, take_rule, event_rule}
use Rattle.table.specs.Table.{keeper_for, record_of}
use Rattle.table.specs.Touch.{asker-after, keeper-after}

module _ (t : Table) (e : Event) (room : Room t) (none : refusal t e ≡ 0) where
  z : Sized t
  z = room.sized

  a : Passed t e
  a = pass t e z none

  module _ (k : e.kind ≡ 3) where
    pub take-does : Does (event_rule t e) (keeper_for t e.desk) (keeper_serves t e.desk)
    unfolding take_rule
    take-does = rw (is-take t e none k, serves t e room none k) (record { same-reply = refl; same-record = ap asking (keeper-after t e z a k) })

    pub take-answers : message_of (event_rule t e).after e.desk ≡ (keeper_serves t e.desk).message
    unfolding message_of record_of keeper_step
    take-answers =
        let v = record_of t e.desk in
        let names = serve-answers (record_of t (keeper_for t e.desk)) (message_of t e.desk) in
        rw (is-take t e none k, serves t e room none k)
        (ap (λ (w : Record). slot_message w w.seat.slot) (asker-after t e z a k)
        ∙ answer-message v (keeper_step t e.desk).message names.answer-desks names.answer-desk)
