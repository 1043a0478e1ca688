-- Demand 3 a second time, written out: each clause and each quantifier of 01's sentence stands here, and nothing of `Explained`, `Order`,
-- `Explains`, `InTurn` or `Demand3` is used to say it. So whoever drops or weakens a clause of those can no longer prove this.
-- Assumes nothing.
use Rattle.std.specs.Prelude.{◌≡◌, ◌⊎◌, ◌↔◌, ℕ, ◌<◌, length}
use mathlib.Core.List.{List}
use Rattle.theory_causal.specs.Demand.{In, Before}
use Rattle.theory_causal.specs.History.{blank, from, write, read, Causal}
use Rattle.desk.specs.declared.Event.{Event}
use Rattle.desk.specs.declared.Reply.{Reply}
use Rattle.theory_promise.specs.Operations.{Account, replied_at}
use Rattle.theory_promise.specs.Promise.{history_of}

-- What a run owes to desk p: of these events, which had these replies, this is told.
pub record InFull (events : List Event) (replied : List Reply) (a : Account) (p : ℕ) : Type 0 where
  -- one step and one reply for each event, refused or not
  pub one-step : length a.history ≡ length events
  pub one-reply : length replied ≡ length events
  pub as-replied : a.replies ≡ replied
  -- a single order, in which stand
  pub order : List ℕ
  -- all writes taken by keepers,
  pub writes-in : (x : ℕ) → (history_of a x).kind ≡ write → In x order
  -- the desk's finished reads,
  pub reads_in : (x : ℕ) → (history_of a x).kind ≡ read → (history_of a x).desk ≡ p → In x order
  -- nothing else,
  pub no_other : (x : ℕ) → In x order → ((history_of a x).kind ≡ write) ⊎ (((history_of a x).kind ≡ read) × ((history_of a x).desk ≡ p))
  -- and each once
  pub once : (x : ℕ) → Before x x order → ⊥
  -- "It sets every operation after those that causally precede it, through any desk's operations"
  pub causal : (x y : ℕ) → In x order → In y order → Causal (history_of a) x y → Before x y order
  -- each cell's writes stand as its keeper took them
  pub in-turn : (v w : ℕ) → (history_of a v).kind ≡ write → (history_of a w).kind ≡ write → (history_of a v).cell ≡ (history_of a w).cell → v < w
      → Before v w order
  -- a read that comes from none: no write of its cell stands before it, and it was shown as blank; and nothing else was
  pub none_before : (x w : ℕ) → (history_of a x).kind ≡ read → (history_of a x).desk ≡ p → (history_of a x).source ≡ blank
      → (history_of a w).kind ≡ write → (history_of a w).cell ≡ (history_of a x).cell → Before w x order → ⊥
  pub blank-shown : (x : ℕ) → (history_of a x).kind ≡ read → (history_of a x).desk ≡ p
      → ((history_of a x).source ≡ blank) ↔ (((replied_at a x).code ≡ 2) × ((replied_at a x).value ≡ 0))
  -- a read that comes from a write: this is the nearest earlier write to its cell, and its word was shown, also a word of 0; and nothing else was
  pub nearest : (x w : ℕ) → (history_of a x).kind ≡ read → (history_of a x).desk ≡ p → (history_of a x).source ≡ from w
      → ((history_of a w).kind ≡ write) × ((history_of a w).cell ≡ (history_of a x).cell) × Before w x order
  pub none_between : (x w v : ℕ) → (history_of a x).kind ≡ read → (history_of a x).desk ≡ p → (history_of a x).source ≡ from w
      → (history_of a v).kind ≡ write → (history_of a v).cell ≡ (history_of a x).cell → Before v x order → (v ≡ w) ⊎ Before v w order
  pub word-shown : (x w : ℕ) → (history_of a x).kind ≡ read → (history_of a x).desk ≡ p → (history_of a x).source ≡ from w
      → ((replied_at a x).code ≡ 0) × ((replied_at a x).value ≡ (history_of a w).word)
  pub shown-written : (x : ℕ) → (history_of a x).kind ≡ read → (history_of a x).desk ≡ p → (replied_at a x).code ≡ 0
      → (w : ℕ) × ((history_of a x).source ≡ from w)
