-- Every run of the table's rules, from any set-up that is not refused, is a run of the machine, and its replies give what its history says.
-- Assumes nothing.
use Rattle.std.specs.Prelude.{◌≡◌, refl, List, [], ◌∷◌, ◌++◌, ℕ, length, get_or}
use Rattle.std.proofs.Common.{sym, subst₂, arith, length-append}
use Rattle.std.proofs.Math.Decide.{dec_lt, ℕ_discrete}
use Rattle.std.proofs.Math.ListN.{get_or-append, get_or-eq_default}
use Rattle.std.proofs.Math.Seq.{get_or-append_seam}
use Rattle.theory_causal.specs.History.{Step, nothing, listed}
use Rattle.theory_causal.specs.Machine as machine
use Rattle.desk.specs.declared.Event.{Event}
use Rattle.desk.specs.declared.Plan.{Plan}
use Rattle.desk.specs.declared.Reply.{Reply}
use Rattle.desk.specs.Start.{fresh_tray, set_up_refusal}
use Rattle.table.specs.Choice.{run}
use Rattle.table.specs.declared.Outcome.{Outcome}
use Rattle.table.specs.declared.SetUp.{SetUp}
use Rattle.table.specs.Fresh.{fresh-room}
use Rattle.table.specs.Room.{event-room}
use Rattle.table.specs.Rules.{event_rule}
use Rattle.table.specs.SetUp.{fresh_table, not_set_up, set_up_rule}
use Rattle.theory_refusals.specs.Refusals.{unless-either}
use Rattle.theory_promise.specs.Link.{Tied}
use Rattle.theory_promise.specs.Operations.{words, entry, Account, no_reply, opened, next, told, account}
use Rattle.theory_promise.specs.Runs.{Runs}
use Rattle.theory_promise.specs.Start.{start}
use Rattle.theory_promise.specs.State.{clash}
use Rattle.theory_promise.proofs.Link.{linked}

-- ---- one event more
seam : {A : Type 0} (l : List A) (a d : A) (x : ℕ) → x ≡ length l → get_or (l ++ (a ∷ [])) x d ≡ a
seam l a d x e = rw e (get_or-append_seam l a [] d)

abbrev outcome : Account → Event → Outcome
outcome a e = event_rule a.table e

abbrev reply : Account → Event → Reply
reply a e = (outcome a e).reply

abbrev step : Account → Event → Step words
step a e = (entry (length a.history) a.trails a.table e (reply a e)).0

module _ (h : List (Step words)) (l : List Reply) (o : Step words) (r : Reply) (d : Reply) (long : length l ≡ length h) where
  tied-next : ((x : ℕ) → Tied (listed h x) (get_or l x d)) → Tied o r → (x : ℕ) → Tied (listed (h ++ (o ∷ [])) x) (get_or (l ++ (r ∷ [])) x d)
  tied-next old new x =
      elim (dec_lt x (length h)) [
        | yes lt ↦ rw (get_or-append h (o ∷ []) nothing x lt, get_or-append l (r ∷ []) d x (omega arith)) (old x)
        | no ge ↦ elim (ℕ_discrete x (length h)) [
          | yes e ↦ (let f : x ≡ length l = omega arith in subst₂ Tied (sym (seam h o nothing x e)) (sym (seam l r d x f)) new)
          | no ne ↦ (
              let past = get_or-eq_default (h ++ (o ∷ [])) nothing {n = x} (omega (arith, length-append h (o ∷ []))) in
              λ k. clash (cc past))
        ]
      ]

runs-next : (a : Account) (e : Event) → Runs a → Runs (next a e (outcome a e))
unfolding next
runs-next a e r =
    let k = linked a.table a.trails r.room r.runs e in
    record {
      room = event-room a.table e r.room;
      runs = machine.next r.runs k.moved.move;
      long = omega (arith, r.long, length-append a.replies (reply a e ∷ []), length-append a.history (step a e ∷ []));
      tied = tied-next a.history a.replies (step a e) (reply a e) no_reply r.long r.tied k.tied;
    }

pub runs-all : (a : Account) (events : List Event) → Runs a → Runs (told a events (run event_rule a.table events))
unfolding run told next
runs-all a [] r = r
runs-all a (e ∷ es) r = runs-all (next a e (outcome a e)) es (runs-next a e r)

-- ---- from a set-up that is not refused
module _ (p : Plan) (long : length p.keepers ≡ 32) where
  runs-fresh : Runs (opened (fresh_table (fresh_tray p)))
  runs-fresh = record {
    room = fresh-room p long;
    runs = machine.start (start (fresh_tray p));
    long = refl;
    tied = λ x k. clash (cc);
  }

  pub runs-from : (set_up_rule p).code ≡ 0 → (events : List Event) → Runs (account event_rule (set_up_rule p).table events)
  unfolding set_up_rule
  runs-from ok events =
      runs-all _ events
      (unless-either (set_up_refusal p) not_set_up (record { code = 0; table = fresh_table (fresh_tray p) })
      (λ (s : SetUp). s.code ≡ 0 → Runs (opened s.table)) (λ some ok. absurd (some ok)) (λ none ok. runs-fresh) ok)
