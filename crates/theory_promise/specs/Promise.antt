-- Demand 3 as it is promised: a desk that sees the coordinate has seen the datum. Read this file first; then `Operations` beside it, which
-- says what the operations of a run are, and `History` and `Demand` of theory_causal, which say what an order of them has to explain.
-- Assumes nothing.
use Rattle.std.specs.Prelude.{◌≡◌, List, [], ◌∷◌, ℕ, length}
use Rattle.theory_causal.specs.Demand.{Before, InTurn, Order}
use Rattle.theory_causal.specs.History.{History, listed, ReadBy, word_of}
use Rattle.desk.specs.declared.Event.{Event}
use Rattle.desk.specs.declared.Plan.{Plan}
use Rattle.table.specs.Choice.{Engine}
use Rattle.table.specs.declared.Outcome.{Outcome}
use Rattle.table.specs.declared.Table.{Table}
use Rattle.table.specs.Rules.{event_rule}
use Rattle.table.specs.SetUp.{set_up_rule}
use Rattle.theory_promise.specs.Operations.{words, Shows, Account, replied_at, account}

-- what happened in a run
abbrev pub history_of : Account → History words
history_of a = listed a.history

-- What a run owes to desk p.
pub record Explained (a : Account) (p : ℕ) : Type 0 where
  -- All taken writes and p's finished reads, each once, in one order: every operation after those that causally precede it, and each read
  -- after the write that it comes from, with no other write of its cell between the two.
  pub steps : List ℕ
  pub order : Order (history_of a) p steps
  -- In it each cell's writes stand as they were stored (T-08).
  pub in-turn : InTurn (history_of a) (λ v w. Before v w steps)
  -- Each reply that finished a read of p's gave code 0 and the word of the write that the read came from, or code 2 and 0 where it came from none.
  pub shown : (x : ℕ) → ReadBy (history_of a) p x → Shows (replied_at a x) (word_of (history_of a) (history_of a x).source) (history_of a x).source

-- Demand 3 of a rule for events: every plan that set-up does not refuse, every list of events, with any numbers in them, and every desk.
abbrev pub Demand3 : (rule : Engine) → Type 0
Demand3 rule =
    (plan : Plan) → length plan.keepers ≡ 32 → (set_up_rule plan).code ≡ 0
    → (events : List Event) (p : ℕ) → Explained (account rule (set_up_rule plan).table events) p

-- ---- From an engine to the promise
-- Calls of an engine: each outcome is the rule's, from the table that the call before it left. That is what `table_step::step` promises of
-- each call, and `cwmorlais_table_event` of each reply and of the table that it leaves.
abbrev pub Called : Table → List Event → List Outcome → Type 0
Called t [] [] = Unit {0}
Called t [] (o ∷ os) = ⊥
Called t (e ∷ es) [] = ⊥
Called t (e ∷ es) (o ∷ os) = (o ≡ event_rule t e) × Called o.after es os
