-- The take as the code does it where the table lies is the rule.
-- Assumes nothing.
use Rattle.std.specs.Prelude.{◌≡◌, eqb}
use Rattle.std.proofs.Math.Bool.{true}
use Rattle.std.proofs.Math.Logic.{⊎_elim}
use borrow.Author.Tests.{eqb-true}
use Rattle.desk.specs.declared.Event.{Event}
use Rattle.desk.specs.RuleLaws.{asked-kind}
use Rattle.table.specs.declared.Table.{Table}
use Rattle.table.specs.InPlace.{served_in, take_in, take_reply, answer-in, read-serves, write-serves, take-reply}
use Rattle.table.specs.Rows.{Sized}
use Rattle.table.specs.RuleLaws.{Passed, pass}
use Rattle.table.specs.Rules.{take_rule, refusal, done}
use Rattle.table.specs.Table.{slot_of}

module _ (t : Table) (e : Event) (a : Passed t e) (k : e.kind ≡ 3) where
  pub take_in_lem : take_in t e.desk ≡ (take_rule t e.desk).after
  unfolding take_in
  take_in_lem =
      answer-in t e a k (served_in t e.desk)
      (⊎_elim (read-serves t e a k) (write-serves t e a k) (asked-kind (slot_of t e.desk) (a.seat.asked k)))

-- ---- an event that is not refused, by the test that the code makes
module _ (t : Table) (e : Event) (z : Sized t) (none : refusal t e ≡ 0) where
  abbrev passed : Passed t e
  passed = pass t e z none

  pub done-take : eqb e.kind 3 ≡ true → (take_reply t e.desk ≡ (done t e).reply) × (take_in t e.desk ≡ (done t e).after)
  unfolding done
  done-take q = let k = eqb-true e.kind 3 q in rw q (take-reply t e passed k, take_in_lem t e passed k)
