-- The table's rule keeps demand 3, and with it whatever meets the promise of an event. What that says stands in `Promise` of specs.
-- Assumes nothing.
use Rattle.std.specs.Prelude.{◌≡◌, refl, List, [], ◌∷◌, ℕ, length}
use Rattle.std.proofs.Common.{sym, ap, ap₂, subst, ◌∙◌}
use Rattle.theory_causal.proofs.Run as machine
use Rattle.desk.specs.declared.Event.{Event}
use Rattle.desk.specs.declared.Plan.{Plan}
use Rattle.table.specs.Choice.{Engine, run, Meets}
use Rattle.table.proofs.Choice.{run_is}
use Rattle.table.specs.declared.Outcome.{Outcome}
use Rattle.table.specs.declared.Table.{Table}
use Rattle.table.specs.Fresh.{set-up-room}
use Rattle.table.specs.Rules.{event_rule}
use Rattle.table.specs.SetUp.{set_up_rule}
use Rattle.theory_promise.specs.Operations.{opened, told}
use Rattle.theory_promise.specs.Promise.{Explained, Demand3, Called}
use Rattle.theory_promise.proofs.Runs.{runs-from}

-- The table's rule keeps it.
pub demand-3 : Demand3 event_rule
demand-3 plan long ok events p =
    let r = runs-from plan long ok events in
    let (steps, order, in-turn) = machine.demand-3 r.runs p in
    record {
      steps = steps;
      order = order;
      in-turn = in-turn;
      shown = λ x k. rw (← order.explains.word x k) (r.tied x k.0);
    }

-- ---- From an engine to the promise
calls-run : (t : Table) (es : List Event) (os : List Outcome) → Called t es os → os ≡ run event_rule t es
unfolding run
calls-run t [] [] c = refl
calls-run t [] (o ∷ os) c = absurd c
calls-run t (e ∷ es) [] c = absurd c
calls-run t (e ∷ es) (o ∷ os) c = ap₂ ◌∷◌ c.0 (calls-run o.after es os c.1 ∙ ap (λ (x : Outcome). run event_rule x.after es) c.0)

-- So whatever was called, what it told has an order for every desk.
pub called-keep : (plan : Plan) → length plan.keepers ≡ 32 → (set_up_rule plan).code ≡ 0 → (events : List Event) (outcomes : List Outcome)
    → Called (set_up_rule plan).table events outcomes → (p : ℕ) → Explained (told (opened (set_up_rule plan).table) events outcomes) p
called-keep plan long ok events outcomes c p =
    let t = (set_up_rule plan).table in
    subst (λ (os : List Outcome). Explained (told (opened t) events os) p) (sym (calls-run t events outcomes c)) (demand-3 plan long ok events p)

-- And any engine that meets the event's promise has demand 3.
pub meets-keeps : (E : Engine) → Meets E → Demand3 E
meets-keeps E meets plan long ok events p =
    let t = (set_up_rule plan).table in
    subst (λ (os : List Outcome). Explained (told (opened t) events os) p) (sym (run_is E meets t events (set-up-room plan long)))
    (demand-3 plan long ok events p)
