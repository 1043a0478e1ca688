-- The invariants one step later, from what the step's operation and the desks that changed have to show.
-- Assumes nothing.
use Rattle.std.specs.Prelude.{◌≡◌, refl, ◌≢◌, ℕ, ◌≤◌, ◌<◌}
use Rattle.std.proofs.Common.{sym, ap, subst, ◌∙◌, le_trans, arith}
use Rattle.std.proofs.Math.Decide.{ℕ_discrete}
use Rattle.theory_causal.specs.History.{Words, write, read, Step, nothing, Operation, Writes}
use Rattle.theory_causal.specs.Facts.{Clock, ◌≼◌, zeros, Closed, Came, Told, writing}
use Rattle.theory_causal.specs.Machine.{Desk, State, Changes}
use Rattle.theory_causal.specs.Invariants.{Moment, Last, Good, Fine, Inv}
use Rattle.theory_causal.specs.Invariants.Learned.{good-merged}
use Rattle.theory_causal.specs.Invariants.Passing.{taught, taught-self, taught-other, taught-zeros, later, passing, last-next}
use Rattle.theory_causal.specs.Invariants.Passing.{Passes, good-next, fine-next}

module _ {W : Words} {M : Moment W} {S : State W} (I : Inv M S) where
  open M use {history as H, know, now as t, own}

  -- ---- the facts of an operation of desk p at this step
  pub tell : (p : ℕ) → (H t).desk ≡ p → own p ≼ know t → Closed H know t (know t)
      → ((y : ℕ) → y < t → Operation H y → (H y).desk ≡ p → (H y).asked < (H t).asked)
      → ((H t).kind ≡ write → (y : ℕ) → y < t → Operation H y → know y (H t).desk < know t (H t).desk)
      → ((c : ℕ) → Writes H c t → (w : ℕ) → w < t → Writes H c w → know w ≼ know t)
      → ((H t).kind ≡ read → Came H know t) → Told H know t
  tell p e le whole asks new climbs came = record {
    asks = λ y lt o d. asks y lt o (d ∙ e);
    grows = λ y lt o d j. le_trans (I.past y lt o j) (subst (λ (q : ℕ). own q j ≤ know t j) (sym (d ∙ e)) (le j));
    whole = whole;
    new = new;
    climbs = climbs;
    came = came;
  }

  -- a desk that neither changed nor did an operation
  pub bystander : {after : ℕ → Clock} → Passes M after → (q : ℕ) → after q ≡ own q → (Operation H t → (H t).desk ≢ q)
      → Fine (later M after) q (S.desks q)
  bystander s q same idle = fine-next s q same (I.owns q) idle (I.desks q)

module _ {W : Words} {M : Moment W} {S : State W} (I : Inv M S) (S' : State W) where
  open M use {history as H, know, now as t, own}

  -- ---- a desk that changed, and all where one did
  pub here : {N : Moment W} {p q : ℕ} {d : Desk W} → q ≡ p → S'.desks p ≡ d → Fine N p d → Fine N q (S'.desks q)
  here {N} {p} i e f = subst (λ (z : ℕ). Fine N z (S'.desks z)) (sym i) (subst (Fine N p) (sym e) f)

  pub spread : {N : Moment W} (p : ℕ) {d : Desk W} → S'.desks p ≡ d → ((q : ℕ) → q ≢ p → S'.desks q ≡ S.desks q) → Fine N p d
      → ((q : ℕ) → q ≢ p → Fine N q (S.desks q)) → (q : ℕ) → Fine N q (S'.desks q)
  spread p row rest f others q = elim (ℕ_discrete q p) [ yes i ↦ here i row f | no ne ↦ here refl (rest q ne) (others q ne) ]

  -- where no write was stored
  pub lasts-next : {after : ℕ → Clock} → ((H t).kind ≡ write → ⊥) → ((c : ℕ) → S'.last c ≡ S.last c)
      → (c : ℕ) → Last (later M after) c (S'.last c)
  lasts-next {after} none same c = subst (Last (later M after) c) (sym (same c)) (last-next M after (λ k. none k.0) (I.lasts c))

  -- ---- all together
  inv-next : {after : ℕ → Clock} → Passes M after → (Operation H t → Told H know t) → (Operation H t → (H t).asked ≤ t)
      → (Operation H t → know t ≼ after (H t).desk) → ((p : ℕ) → Good (later M after) (after p))
      → ((p : ℕ) → Fine (later M after) p (S'.desks p)) → ((c : ℕ) → Last (later M after) c (S'.last c)) → Inv (later M after) S'
  inv-next {after} s told asked past owns desks lasts = record {
    told = passing (λ (x : ℕ). Operation H x → Told H know x) told I.told;
    asked = passing (λ (x : ℕ). Operation H x → (H x).asked ≤ x) asked I.asked;
    counted = passing (λ (x : ℕ). (H x).kind ≡ write → 0 < know x (H x).desk) (λ k. omega (arith, s.new k)) I.counted;
    past =
        passing (λ (x : ℕ). Operation H x → know x ≼ after (H x).desk) past
        (λ x lt o j. le_trans (I.past x lt o j) (s.up (H x).desk j));
    owns = owns;
    desks = desks;
    lasts = lasts;
  }

  -- a step with no operation
  pub quietly : H t ≡ nothing → (p : ℕ) (d : Desk W) → Fine M p d → Changes S S' p d → Inv (later M (taught own 0 zeros)) S'
  quietly e p d f c =
      rw taught-zeros
      (inv-next s (λ o. absurd (none o)) (λ o. absurd (none o)) (λ o. absurd (none o))
      (λ q. good-next s (I.owns q))
      (spread p c.row c.rest (fine-next s p refl (I.owns p) (λ o. absurd (none o)) f)
      (λ q ne. bystander I s q refl (λ o. absurd (none o))))
      (lasts-next (λ k. none (writing H k)) c.last))
    where
      none : Operation H t → ⊥
      none o = o (ap (λ (x : Step W). x.kind) e)

      s : Passes M own
      s = record { up = λ q j. omega arith; new = λ k. absurd (none (writing H k)) }

  -- a step with an operation of desk p, which learns a clock by it
  module _ (p : ℕ) (a : Clock) (by : (H t).desk ≡ p) (s : Passes M (taught own p a)) where
    pub others-fine : (q : ℕ) → q ≢ p → Fine (later M (taught own p a)) q (S.desks q)
    others-fine q ne = bystander I s q (taught-other own p a q ne) (λ o h. ne (sym h ∙ by))

    pub does : know t ≡ taught own p a p → Told H know t → (H t).asked ≤ t → Good (later M (taught own p a)) a
        → ((q : ℕ) → Fine (later M (taught own p a)) q (S'.desks q)) → ((c : ℕ) → Last (later M (taught own p a)) c (S'.last c))
        → Inv (later M (taught own p a)) S'
    does k told asked good desks lasts = inv-next s (λ o. told) (λ o. asked) (λ o j. rw (by, k) (omega arith)) owns desks lasts
      where
        owns : (q : ℕ) → Good (later M (taught own p a)) (taught own p a q)
        owns q =
            elim (ℕ_discrete q p) [
              | yes h ↦ subst (Good (later M (taught own p a))) (sym (ap (taught own p a) h ∙ taught-self own p a))
                  (good-merged (good-next s (I.owns p)) good)
              | no ne ↦ subst (Good (later M (taught own p a))) (sym (taught-other own p a q ne)) (good-next s (I.owns q))
            ]
