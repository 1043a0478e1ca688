-- 01's three shortcuts that break demand 3, each as a rule for events, and for each one a run that has no order. So the promise tells them
-- from the rule, and it is not kept by accident.
-- Assumes nothing.
use Rattle.std.specs.Prelude.{◌≡◌, refl, false, ◌&&◌, cond, ℕ, eqb, length, replicate}
use Rattle.std.proofs.Common.{ap, subst, inl, inr, ⊎_elim, arith, ne_eqb}
use mathlib.Core.List.{List, [], ◌∷◌}
use Rattle.std.proofs.Math.Decide.{ℕ_discrete}
use Rattle.theory_causal.specs.Accident.{then, late, stale, through}
use Rattle.theory_causal.specs.Demand.{Before, Nearest, Order}
use Rattle.theory_causal.specs.History.{blank, from, Step, nothing, wrote, showed, listed, shown, chain}
use Rattle.clock.specs.Clock.{merged}
use Rattle.desk.specs.declared.Event.{Event}
use Rattle.desk.specs.declared.Message.{Message}
use Rattle.desk.specs.declared.Plan.{Plan}
use Rattle.desk.specs.declared.Record.{Record}
use Rattle.desk.specs.Desk.{no_cell, no_slot, cell_at}
use Rattle.desk.specs.Rules.{learns, holds, with_clock, with_seat, slotted, brought, brings, bring_done}
use Rattle.table.specs.declared.Outcome.{Outcome}
use Rattle.table.specs.declared.Table.{Table}
use Rattle.table.specs.Rules.{refusal, message_of, outcome, bring_rule, done, refused_with, event_rule}
use Rattle.table.specs.SetUp.{set_up_rule}
use Rattle.table.specs.Table.{record_of, put_back}
use Rattle.theory_refusals.specs.Refusals.{unless}
use Rattle.theory_promise.specs.Case.{case_plan, script}
use Rattle.theory_promise.specs.Operations.{words}
use Rattle.theory_promise.specs.Played.{event, plan, played}
use Rattle.theory_promise.specs.Promise.{Demand3}

-- the table's rule with something else done to the desk's record at a bring
module _ (bringing : Record → Message → Record) where
  unfoldable pub with_bring : Table → Event → Outcome
  with_bring t e =
      unless (refusal t e) (refused_with t)
      (cond (eqb e.kind 4)
      (record { reply = (done t e).reply; after = put_back t (bringing (record_of t e.desk) (message_of t e.desk)) })
      (done t e))

-- with nothing else done it is the table's rule
pub right : (t : Table) (e : Event) → with_bring brings t e ≡ event_rule t e
unfolding with_bring event_rule done bring_rule outcome bring_done
right t e = ap (unless (refusal t e) (refused_with t)) (elim (ℕ_discrete e.kind 4) [ yes i ↦ rw i | no ne ↦ rw (ne_eqb e.kind 4 ne) ])

-- Keeping an answer that arrives after the desk served a write.
unfoldable pub keeps_served : Record → Message → Record
keeps_served v m = slotted (holds (learns (holds v m.cell no_cell) m.clock) m.cell (brought false m)) no_slot

-- Dropping nothing when a write's answer arrives.
unfoldable pub drops_nothing : Record → Message → Record
drops_nothing v m =
    cond (eqb m.kind 4)
    (slotted (holds (with_seat v (with_clock v.seat (merged v.seat.clock m.clock))) m.cell (brought v.seat.served m)) no_slot)
    (brings v m)

-- Leaving the desk's old copy when its own write was answered with *served* on.
unfoldable pub leaves_copy : Record → Message → Record
leaves_copy v m = cond (eqb m.kind 4 && v.seat.served) (holds (brings v m) m.cell (cell_at v.row m.cell)) (brings v m)

-- ---- a run whose history has no order for desk p
module _ (rule : Table → Event → Outcome) (from-plan : Plan) (events : List Event) (h : List (Step words)) (p : ℕ) where
  broken : length from-plan.keepers ≡ 32 → (set_up_rule from-plan).code ≡ 0 → (played rule from-plan events).history ≡ h
      → ((l : List ℕ) → Order (listed h) p l → ⊥) → Demand3 rule → ⊥
  unfolding played
  broken long ok is none d =
      let x = d from-plan long ok events p in
      none x.steps (subst (λ (a : List (Step words)). Order (listed a) p x.steps) is x.order)

-- 01's whole case: desk 0 holds the blank datum of its first answer, sees coordinate 500, and reads the blank again.
unfoldable pub first : List (Step words)
first =
    nothing ∷ nothing ∷ nothing ∷ wrote 2 0 27 2 ∷ nothing ∷ nothing ∷ wrote 2 1 500 5 ∷ nothing ∷ showed 0 0 0 blank 0
    ∷ showed 0 1 500 (from 6) 9 ∷ showed 0 0 0 blank 10 ∷ nothing ∷ nothing ∷ []

pub keeps-served-breaks : Demand3 (with_bring keeps_served) → ⊥
unfolding played with_bring keeps_served script first
keeps-served-breaks =
    broken (with_bring keeps_served) case_plan script first 0 refl refl refl
    (λ l o.
    late o 3 10 (refl, refl) (refl, refl) refl
    (chain (chain (then (listed first) 3 6 (inl refl) (inl refl) refl (omega arith)) (shown {w = 6} {x = 9} refl refl refl))
    (then (listed first) 9 10 (inr refl) (inr refl) refl (omega arith))))

-- Desk 0 keeps the datum and the coordinate, desk 1 a third cell. Desk 1 has a blank copy of the datum; desk 0 writes datum 11 and coordinate
-- 12, and asks to write the third cell. Desk 1 overwrites the coordinate, still reads its blank, and then stores and reads the third cell and
-- its own coordinate 14. What it read tells that 12 came before 14, and so 11 before the blank.
unfoldable pub second : List (Step words)
second =
    nothing ∷ nothing ∷ showed 1 0 0 blank 0 ∷ wrote 0 0 11 3 ∷ wrote 0 1 12 4 ∷ nothing ∷ nothing ∷ wrote 1 1 14 6 ∷ nothing
    ∷ showed 1 0 0 blank 9 ∷ wrote 0 2 13 5 ∷ showed 1 2 13 (from 10) 11 ∷ showed 1 1 14 (from 7) 12 ∷ []

pub drops-nothing-breaks : Demand3 (with_bring drops_nothing) → ⊥
unfolding played with_bring drops_nothing second Nearest
drops-nothing-breaks =
    broken (with_bring drops_nothing) (plan 2 3 (0 ∷ 0 ∷ 1 ∷ replicate 29 0))
    (event 1 1 0 0 ∷ event 3 1 0 0 ∷ event 4 1 0 0 ∷ event 2 0 0 11 ∷ event 2 0 1 12 ∷ event 2 0 2 13 ∷ event 2 1 1 14 ∷ event 3 1 0 0
    ∷ event 4 1 0 0 ∷ event 1 1 0 0 ∷ event 3 0 0 0 ∷ event 1 1 2 0 ∷ event 1 1 1 0 ∷ [])
    second 1 refl refl refl
    (λ l o.
    let causal = o.explains.causal in
    let datum-first : Before 3 4 l = causal 3 4 (inl refl) (inl refl) (then (listed second) 3 4 (inl refl) (inl refl) refl (omega arith)) in
    let old-seen : Before 4 12 l =
    causal 4 12 (inl refl) (inr (refl, refl))
    (chain (chain (then (listed second) 4 10 (inl refl) (inl refl) refl (omega arith)) (shown {w = 10} {x = 11} refl refl refl))
    (then (listed second) 11 12 (inr refl) (inr refl) refl (omega arith))) in
    let own-last : Before 7 9 l = causal 7 9 (inl refl) (inr (refl, refl)) (then (listed second) 7 9 (inl refl) (inr refl) refl (omega arith)) in
    let overwritten : Before 4 7 l =
    ⊎_elim (λ e. absurd (omega (arith, e))) (λ b. b) ((o.explains.nearest 12 (refl, refl)).2 4 (refl, refl) old-seen) in
    o.explains.nearest 9 (refl, refl) 3 (refl, refl) (through 3 7 9 l o.once (through 3 4 7 l o.once datum-first overwritten) own-last))

-- Desk 0 keeps cell 0 and desk 1 cell 1. Desk 1 writes 27 in cell 0 and then 28, and serves a write of desk 0's before the second answer,
-- which carries 28, arrives; then it reads 27, which its own 28 has followed.
unfoldable pub third : List (Step words)
third =
    nothing ∷ nothing ∷ wrote 1 0 27 1 ∷ nothing ∷ nothing ∷ wrote 1 0 28 4 ∷ wrote 0 1 5 0 ∷ nothing ∷ showed 1 0 27 (from 2) 8 ∷ []

pub leaves-copy-breaks : Demand3 (with_bring leaves_copy) → ⊥
unfolding played with_bring leaves_copy third
leaves-copy-breaks =
    broken (with_bring leaves_copy) (plan 2 2 (0 ∷ 1 ∷ replicate 30 0))
    (event 2 0 1 5 ∷ event 2 1 0 27 ∷ event 3 1 0 0 ∷ event 4 1 0 0 ∷ event 2 1 0 28 ∷ event 3 1 0 0 ∷ event 3 0 0 0 ∷ event 4 1 0 0
    ∷ event 1 1 0 0 ∷ [])
    third 1 refl refl refl
    (λ l o.
    stale o 2 5 8 (refl, refl) refl (refl, refl) (then (listed third) 2 5 (inl refl) (inl refl) refl (omega arith))
    (then (listed third) 5 8 (inl refl) (inr refl) refl (omega arith)))
