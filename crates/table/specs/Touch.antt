-- An event touches only the desks that its rule names. (A refused one leaves the table as it is: `event-refused` of RuleLaws.)
-- Assumes nothing.
use Rattle.std.specs.Prelude.{◌≡◌, ◌⊎◌, ℕ, ◌<◌}
use Rattle.std.proofs.Math.Path.{refl, ap}
use Rattle.std.proofs.Common.{sym, ◌∙◌, inl, inr, arith}
use Rattle.desk.specs.declared.Event.{Event}
use Rattle.desk.specs.declared.Record.{Record}
use Rattle.desk.specs.declared.Slot.{Slot}
use Rattle.desk.specs.Rules.{with_slot, event_done, bring_done}
use Rattle.desk.specs.SameDesk.{SameDesk, seat-same, event-same, serve-same, bring-same}
use Rattle.table.specs.declared.Outcome.{Outcome}
use Rattle.table.specs.declared.Table.{Table}
use Rattle.table.specs.Rows.{Sized, put-sized, put_same, put_other}
use Rattle.table.specs.RuleLaws.{Passed, own-else, each-event, here, take-asks}
use Rattle.table.specs.Rules.{refusal, outcome, message_of, answer_slot, answered, put_answer, keeper_step, take_rule, bring_rule, own_rule, refused_with, event_rule}
use Rattle.table.specs.SoundLaws.{desk-below}
use Rattle.table.specs.Table.{keeper_for, record_of, put_back}

-- ---- a take: the keeper's record put back, and the answer put into the asker's slot
module _ (t : Table) (z : Sized t) (k p : ℕ) (h : k < 8) (i : p < 8) (apart : p ≡ k → ⊥) (u : Record) (same : SameDesk (record_of t k) u)
    (s : Slot) where
  abbrev before : Table
  before = put_back t u

  abbrev asker : Record
  asker = record_of before p

  abbrev pub after : Table
  after = put_back before (answered asker s)

  before-sized : Sized before
  before-sized = put-sized t k u z h same

  stays : SameDesk asker (answered asker s)
  stays = seat-same asker (with_slot asker.seat s asker.seat.served)

  pub taken-sized : Sized after
  taken-sized = put-sized before p (answered asker s) before-sized i stays

  pub taken-asker : record_of after p ≡ answered (record_of t p) s
  taken-asker = put_same before p (answered asker s) before-sized i stays ∙ ap (λ (w : Record). answered w s) (put_other t k u z h same p apart)

  pub taken-keeper : record_of after k ≡ u
  taken-keeper = put_other before p (answered asker s) before-sized i stays k (λ q. apart (sym q)) ∙ put_same t k u z h same

  pub taken-rest : (q : ℕ) → (q ≡ k → ⊥) → (q ≡ p → ⊥) → record_of after q ≡ record_of t q
  taken-rest q nk np = put_other before p (answered asker s) before-sized i stays q np ∙ put_other t k u z h same q nk

-- ---- the other desks
-- the desks that an event's rule names: its own, and for a take the keeper asked
abbrev pub Named : Table → Event → ℕ → Type 0
Named t e p = (p ≡ e.desk) ⊎ ((e.kind ≡ 3) × (p ≡ keeper_for t e.desk))

module _ (t : Table) (e : Event) (z : Sized t) where
  abbrev keeper : ℕ
  keeper = keeper_for t e.desk

  serve-stays : SameDesk (record_of t keeper) (keeper_step t e.desk).after
  unfolding keeper_step
  serve-stays = serve-same (record_of t keeper) (message_of t e.desk)

  keeper-below : Passed t e → e.kind ≡ 3 → keeper < 8
  keeper-below a k = desk-below t a.sound keeper (take-asks t e a k).keeper-is

  apart : Passed t e → e.kind ≡ 3 → e.desk ≡ keeper → ⊥
  apart a k q = (take-asks t e a k).another (sym q)

  pub others-stay : (p : ℕ) → (Named t e p → ⊥) → record_of (event_rule t e).after p ≡ record_of t p
  unfolding take_rule put_answer bring_rule own_rule outcome
  others-stay p other =
      let v = record_of t e.desk in
      let m = message_of t e.desk in
      let step = keeper_step t e.desk in
      each-event (λ (o : Outcome). record_of o.after p ≡ record_of t p) t e z refl
      (λ a k.
      taken-rest t z keeper e.desk (keeper-below a k) (here t e a) (apart a k) step.after serve-stays (answer_slot step.message) p
      (λ q. other (inr (k, q))) (λ q. other (inl q)))
      (λ a k. put_other t e.desk (bring_done v m).after z (here t e a) (bring-same v m) p (λ q. other (inl q)))
      (λ a o. put_other t e.desk (event_done v e).after z (here t e a) (event-same v e) p (λ q. other (inl q)))

  pub tray-stays : (event_rule t e).after.tray ≡ t.tray
  unfolding take_rule put_answer bring_rule own_rule outcome put_back
  tray-stays = each-event (λ (o : Outcome). o.after.tray ≡ t.tray) t e z refl (λ a k. refl) (λ a k. refl) (λ a o. refl)

  -- ---- the two desks of a take
  module _ (a : Passed t e) (k : e.kind ≡ 3) where
    pub asker-after : record_of (take_rule t e.desk).after e.desk
        ≡ answered (record_of t e.desk) (answer_slot (keeper_step t e.desk).message)
    unfolding take_rule put_answer
    asker-after =
        let step = keeper_step t e.desk in
        taken-asker t z keeper e.desk (keeper-below a k) (here t e a) (apart a k) step.after serve-stays (answer_slot step.message)

    pub keeper-after : record_of (take_rule t e.desk).after (keeper_for t e.desk) ≡ (keeper_step t e.desk).after
    unfolding take_rule put_answer
    keeper-after =
        let step = keeper_step t e.desk in
        taken-keeper t z keeper e.desk (keeper-below a k) (here t e a) (apart a k) step.after serve-stays (answer_slot step.message)

  pub each_take : (P : Outcome → Type 0) → e.kind ≡ 3 → P (refused_with t (refusal t e)) → (Passed t e → P (take_rule t e.desk))
      → P (event_rule t e)
  each_take P k refuse take =
      each-event P t e z refuse (λ a _. take a) (λ a l. absurd (omega arith)) (λ a o. absurd ((own-else e o).0 k))
