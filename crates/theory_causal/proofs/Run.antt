-- Every run of the machine has, for every desk, an order as in demand 3, and in it each cell's writes stand in the order stored.
-- Assumes nothing.
use Rattle.std.specs.Prelude.{◌≡◌, List, [], ◌∷◌, ◌++◌, ℕ, suc, ◌<◌, length}
use Rattle.std.proofs.Math.Path.{refl, subst}
use Rattle.std.proofs.Common.{sym, ap, ◌∙◌, length-append}
use native.Mathlib.Omega.{arith}
use Rattle.std.proofs.Math.Decide.{dec_lt}
use Rattle.std.proofs.Math.ListN.{get_or-append, get_or-eq_default}
use Rattle.std.proofs.Math.Seq.{get_or-append_seam}
use Rattle.theory_causal.specs.Changed.{changed, changed-here, changed-elsewhere}
use Rattle.theory_causal.specs.History.{Words, Step, History, nothing, listed, Operation, word_of}
use Rattle.theory_causal.specs.Demand.{Before, InTurn, Order}
use Rattle.theory_causal.specs.Facts.{Clock, zeros, stamp_of, Stored}
use Rattle.theory_causal.specs.Knowledge.{ordered}
use Rattle.theory_causal.specs.Machine.{Held, State, unwritten, Start, Run, start, next}
use Rattle.theory_causal.specs.Invariants.{Moment, Genuine, Good, Level, Slotted, Fine, Inv}
use Rattle.theory_causal.specs.Invariants.Passing.{taught}
use Rattle.theory_causal.specs.Run.{own, know, now}
use Rattle.theory_causal.proofs.Invariants.Moves.{keeps}
pub mod Sources

-- ---- the invariants hold at the start
module _ {W : Words} (H : History W) (K : ℕ → Clock) (S : State W) (s : Start S) where
  abbrev first : Moment W
  first = record { history = H; know = K; now = 0; own = λ p. zeros }

  good_start : Good first zeros
  good_start = record { closed = λ w lt. absurd (omega arith); below = λ j. omega arith }

  genuine-start : (c : ℕ) {g : Held W} → g ≡ unwritten → Genuine first c g
  unfolding Stored stamp_of word_of
  genuine-start c e = subst (Genuine first c) (sym e) (record { stored = tt; stamp = refl; word = refl })

  fine-start : (p : ℕ) → Fine first p (S.desks p)
  unfolding Slotted
  fine-start p = record {
    shelf = record {
      good = rw (s.clock p) good_start;
      copies = λ c g h. record {
        genuine = genuine-start c (s.cells p c g h);
        under = λ j. rw (s.cells p c g h) (omega arith);
        fresh = λ w lt. absurd (omega arith);
      };
    };
    slot = rw (s.slot p, s.clock p) level;
  }
    where
      level : Level first p zeros
      level = record { number = refl; seen = λ j. omega arith }

  inv-start : Inv first S
  inv-start = record {
    told = λ x lt. absurd (omega arith);
    asked = λ x lt. absurd (omega arith);
    counted = λ x lt. absurd (omega arith);
    past = λ x lt. absurd (omega arith);
    owns = λ p. good_start;
    desks = fine-start;
    lasts = λ c. record { genuine = genuine-start c (s.last c); top = λ w lt. absurd (omega arith) };
  }

-- ---- and at each step, for every history and ghost that agree with the run so far
inv : {W : Words} {h : List (Step W)} {S : State W} (r : Run h S) (H : History W) (K : ℕ → Clock) → ((x : ℕ) → x < length h → H x ≡ listed h x)
    → ((x : ℕ) → x < length h → K x ≡ know r x) → Inv (record { history = H; know = K; now = length h; own = own r }) S
unfolding own know
inv (start {S = S} s) H K agree same = inv-start H K S s
inv (next {h = h} {S' = S'} {o = o} {a = a} r m) H K agree same =
    let long : length (h ++ (o ∷ [])) ≡ suc (length h) = omega (arith, length-append h (o ∷ [])) in
    let now : length h < length (h ++ (o ∷ [])) = omega arith in
    let new = taught (own r) o.desk a o.desk in
    let so_far = inv r H K
    (λ x lt. agree x (omega arith) ∙ get_or-append h (o ∷ []) nothing x lt)
    (λ x lt. same x (omega arith) ∙ changed-elsewhere (know r) (length h) new x (omega arith)) in
    rw long
    (keeps so_far S' m
    (agree (length h) now ∙ get_or-append_seam h o [] nothing)
    (same (length h) now ∙ changed-here (know r) (length h) new))

module _ {W : Words} {h : List (Step W)} {S : State W} (r : Run h S) where
  invariants : Inv (now r) S
  invariants = inv r (listed h) (know r) (λ x lt. refl) (λ x lt. refl)

  ends : (x : ℕ) → Operation (listed h) x → x < length h
  ends x o =
      elim (dec_lt x (length h)) [
        | yes lt ↦ lt
        | no ge ↦ absurd (o (ap (λ (s : Step W). s.kind) (get_or-eq_default h nothing (omega arith))))
      ]

  -- Demand 3, with each cell's writes in the order stored (T-08).
  pub demand-3 : (p : ℕ) → (l : List ℕ) × Order (listed h) p l × InTurn (listed h) (λ v w. Before v w l)
  demand-3 = ordered (listed h) (know r) (length h) ends (λ x o. invariants.told x (ends x o) o)
