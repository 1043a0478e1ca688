-- Demand 3 written out holds of every run of the table's rules. What it says stands in `InFull` of specs.
-- Assumes nothing.
use Rattle.std.specs.Prelude.{◌≡◌, true, ℕ, ◌+◌, ◌≤◌, ◌<◌, length, get_or}
use Rattle.std.proofs.Math.Path.{refl, sym}
use Rattle.std.proofs.Common.{subst, ◌∙◌, inl, inr, zero-add}
use mathlib.Core.List.{List, [], ◌∷◌, ◌++◌, append_assoc, append-nil}
use Rattle.std.proofs.Math.Decide.{dec_lt}
use native.Mathlib.Omega.{arith}
use borrow.Author.Tests.{le-leb, lt-ltb, le-ltb}
use Rattle.std.proofs.Math.ListN.{length-append}
use Rattle.theory_causal.specs.Demand.{Before, Nearest}
use Rattle.theory_causal.specs.History.{Source, blank, from, read, word_of}
use Rattle.theory_lists.specs.Test.{map_at-every}
use Rattle.theory_refusals.specs.Refusals.{first_of, unless}
use Rattle.desk.specs.declared.Event.{Event}
use Rattle.desk.specs.declared.Plan.{Plan}
use Rattle.desk.specs.Start.{keeper_right, keepers_right, set_up_lines, set_up_refusal}
use Rattle.table.specs.Choice.{Engine, run, replies}
use Rattle.table.specs.declared.Table.{Table}
use Rattle.table.specs.Rules.{event_rule}
use Rattle.table.specs.SetUp.{set_up_rule}
use Rattle.theory_promise.specs.Operations.{Account, code_for, Shows, entry, replied_at, opened, next, told, account}
use Rattle.theory_promise.specs.InFull.{InFull}
use Rattle.theory_promise.specs.Promise.{history_of, Explained}
use Rattle.theory_promise.proofs.Promise.{demand-3}

-- ---- a run has one step for each event
module _ (rule : Engine) where
  steps-told : (a : Account) (t : Table) (es : List Event) → length (told a es (run rule t es)).history ≡ length a.history + length es
  unfolding told run next
  steps-told a t [] = omega arith
  steps-told a t (e ∷ es) =
      let o = rule t e in
      let step = (entry (length a.history) a.trails a.table e o.reply).0 in
      steps-told (next a e o) o.after es ∙ omega (arith, length-append a.history (step ∷ []))

  replies-told : (a : Account) (t : Table) (es : List Event) → (told a es (run rule t es)).replies ≡ a.replies ++ replies (run rule t es)
  unfolding told run next replies
  replies-told a t [] = sym (append-nil a.replies)
  replies-told a t (e ∷ es) =
      let o = rule t e in
      replies-told (next a e o) o.after es ∙ append_assoc a.replies (o.reply ∷ []) (replies (run rule o.after es))

  one_each : (t : Table) (es : List Event) → length (replies (run rule t es)) ≡ length es
  unfolding run replies
  one_each t [] = refl
  one_each t (e ∷ es) = omega (arith, one_each (rule t e).after es)

-- ---- a plan as 01 asks for it is not refused
module _ (plan : Plan) (some-desk : 1 ≤ plan.desks) (desks-most : plan.desks ≤ 8) (some-cell : 1 ≤ plan.cells) (cells-most : plan.cells ≤ 32)
    (keepers : (c : ℕ) → c < plan.cells → get_or plan.keepers c 0 < plan.desks) where
  right : keepers_right plan ≡ true
  unfolding keepers_right
  right =
      map_at-every (keeper_right plan.desks plan.cells) plan.keepers 0
      (λ c h. elim (dec_lt c plan.cells) [
        | yes lt ↦ rw (lt-ltb c plan.cells lt, lt-ltb (get_or plan.keepers c 0) plan.desks (keepers c lt))
        | no ge ↦ rw (le-ltb c plan.cells (omega arith))
      ])

  taken : (set_up_rule plan).code ≡ 0
  unfolding set_up_rule set_up_refusal set_up_lines first_of unless
  taken = rw (le-leb 1 plan.desks some-desk, le-leb plan.desks 8 desks-most, le-leb 1 plan.cells some-cell, le-leb plan.cells 32 cells-most, right)

-- ---- what a read of p's comes from
module _ (a : Account) (p : ℕ) (e : Explained a p) (x : ℕ) (k : (history_of a x).kind ≡ read) (d : (history_of a x).desk ≡ p) (s : Source)
    (is : (history_of a x).source ≡ s) where
  near : Nearest (history_of a) (λ v w. Before v w e.steps) (history_of a x).cell x s
  near = subst (Nearest (history_of a) (λ v w. Before v w e.steps) (history_of a x).cell x) is (e.order.explains.nearest x (k, d))

  says : Shows (replied_at a x) (word_of (history_of a) s) s
  says = subst (λ (o : Source). Shows (replied_at a x) (word_of (history_of a) o) o) is (e.shown x (k, d))

-- ---- a code tells where a read came from
source-two : (s : Source) → code_for s ≡ 2 → s ≡ blank
unfolding code_for
source-two blank e = refl
source-two (from w) e = absurd (omega arith)

source-zero : (s : Source) → code_for s ≡ 0 → (w : ℕ) × (s ≡ from w)
unfolding code_for
source-zero blank e = absurd (omega arith)
source-zero (from w) e = (w, refl)

-- For every number of desks, of cells and of events, with any numbers in them, and for every desk.
pub in-full : (plan : Plan) → length plan.keepers ≡ 32 → 1 ≤ plan.desks → plan.desks ≤ 8 → 1 ≤ plan.cells → plan.cells ≤ 32
    → ((c : ℕ) → c < plan.cells → get_or plan.keepers c 0 < plan.desks) → (events : List Event) (p : ℕ)
    → InFull events (replies (run event_rule (set_up_rule plan).table events)) (account event_rule (set_up_rule plan).table events) p
unfolding Nearest word_of code_for
in-full plan long some-desk desks-most some-cell cells-most keepers events p =
    let t = (set_up_rule plan).table in
    let a = account event_rule t events in
    let e = demand-3 plan long (taken plan some-desk desks-most some-cell cells-most keepers) events p in
    record {
      one-step = steps-told event_rule (opened t) t events ∙ zero-add (length events);
      one-reply = one_each event_rule t events;
      as-replied = replies-told event_rule (opened t) t events;
      order = e.steps;
      writes-in = λ x k. e.order.seen x (inl k);
      reads_in = λ x k d. e.order.seen x (inr (k, d));
      no_other = e.order.only;
      once = e.order.once;
      causal = λ x y i j c. e.order.explains.causal x y (e.order.only x i) (e.order.only y j) c;
      in-turn = λ v w i j c lt. e.in-turn _ v w (i, c) (j, refl) lt;
      none_before = λ x w k d s i c b. near a p e x k d blank s w (i, c) b;
      blank-shown = λ x k d. (
        λ s. let r = says a p e x k d blank s in (r.code, r.value),
        λ r. source-two (history_of a x).source (sym (e.shown x (k, d)).code ∙ r.0),
      );
      nearest = λ x w k d s. let n = near a p e x k d (from w) s in (n.0.0, n.0.1, n.1);
      none_between = λ x w v k d s i c b. (near a p e x k d (from w) s).2 v (i, c) b;
      word-shown = λ x w k d s. let r = says a p e x k d (from w) s in (r.code, r.value);
      shown-written = λ x k d r. source-zero (history_of a x).source (sym (e.shown x (k, d)).code ∙ r);
    }
