-- A step that finishes a read keeps the invariants.
-- Assumes nothing.
use Rattle.std.specs.Prelude.{◌≡◌, ℕ, ◌≤◌, ◌<◌}
use Rattle.std.proofs.Common.{sym, subst, ◌∙◌, arith}
use Rattle.std.proofs.Math.Path.{ap}
use Rattle.theory_causal.specs.History.{Words, write, Step, showed, Operation}
use Rattle.theory_causal.specs.Facts.{Clock, ◌≼◌, Fresh, Came, Told}
use Rattle.theory_causal.specs.Machine.{merged, Held, empty, Desk, State, Changes}
use Rattle.theory_causal.specs.Invariants.{Moment, Genuine, Good, Shelf, Level, Slotted, Fine, Inv}
use Rattle.theory_causal.specs.Invariants.Learned.{good-merged, fresh-merged, good-stamp, fresh-stamp}
use Rattle.theory_causal.specs.Invariants.Passing.{taught, taught-self, taught-grows, later, Passes, good-next, shelf-next}
use Rattle.theory_causal.specs.Invariants.Steps.{tell, spread, lasts-next, others-fine, does}

-- Desk p, which then waits no longer, reads g from cell c, asked at step a.
module _ {W : Words} {M : Moment W} {S : State W} (I : Inv M S) (S' : State W) (p c a : ℕ) (g : Held W) (d : Desk W) where
  open M use {history as H, know, now as t, own}

  pub shows : H t ≡ showed p c g.word g.source a → know t ≡ taught own p g.stamp p
      → Genuine M c g → Fresh H know t c g.source (own p)
      → a ≤ t → ((y : ℕ) → y < t → Operation H y → (H y).desk ≡ p → (H y).asked < a)
      → Shelf M d.clock d.cells → Level M p d.clock → g.stamp ≼ d.clock → d.slot ≡ empty
      → Changes S S' p d → Inv (later M (taught own p g.stamp)) S'
  unfolding Slotted
  shows e k i f le asks shelf l under idle change =
      does I S' p g.stamp by s k told (rw e le) (good-next s good)
      (spread I S' p change.row change.rest fine (others-fine I S' p g.stamp by s))
      (lasts-next I S' none change.last)
    where
      by : (H t).desk ≡ p
      by = ap (λ (x : Step W). x.desk) e

      none : (H t).kind ≡ write → ⊥
      none w = let z : ◌≡◌ {A = ℕ} 0 1 = cc (ap (λ (x : Step W). x.kind) e) in omega arith

      s : Passes M (taught own p g.stamp)
      s = record { up = taught-grows own p g.stamp; new = λ w. absurd (none w) }

      learned : taught own p g.stamp p ≡ merged (own p) g.stamp
      learned = taught-self own p g.stamp

      good : Good M g.stamp
      good = good-stamp I i

      level : Level (later M (taught own p g.stamp)) p d.clock
      level = record {
        number = omega (arith, l.number, good.below p, ap (λ (b : Clock). b p) learned);
        seen = λ j. omega (arith, l.seen j, under j, ap (λ (b : Clock). b j) learned);
      }

      fine : Fine (later M (taught own p g.stamp)) p d
      fine = record {
        shelf = shelf-next s shelf;
        slot = subst (Slotted (later M (taught own p g.stamp)) p d.clock d.served d.asked) (sym idle) level;
      }

      came : Came H know t
      came = record {
        stored = rw e i.stored;
        seen = λ j. rw (e, k ∙ learned, ← i.stamp) (omega arith);
        fresh = rw (e, k ∙ learned) (fresh-merged H know g.source (own p) g.stamp f (fresh-stamp I i));
        word = rw e i.word;
      }

      told : Told H know t
      told =
          tell I p by (λ j. rw (k ∙ learned) (omega arith)) (rw (k ∙ learned) (good-merged (I.owns p) good).closed)
          (λ y lt o h. rw e (asks y lt o h)) (λ w. absurd (none w)) (λ b w. absurd (none w.0)) (λ r. came)
