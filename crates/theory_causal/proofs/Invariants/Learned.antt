-- At one moment: why a copy that a desk keeps on learning a clock is fresh for it.
-- Assumes nothing.
use Rattle.std.specs.Prelude.{◌≡◌, ◌≢◌, ℕ, ◌<◌}
use Rattle.std.proofs.Common.{sym, subst, subst₂, ⊎_elim}
use native.Mathlib.Omega.{arith}
use Rattle.std.proofs.Math.Decide.{ℕ_discrete}
use Rattle.theory_causal.specs.History.{Words, Writes}
use Rattle.theory_causal.specs.Facts.{Clock, Knows, Closed, After, Fresh}
use Rattle.theory_causal.specs.Machine.{merged, Earlier, Held, Cell, held, State, Was, Spared}
use Rattle.theory_causal.specs.Invariants.{Moment, Genuine, Copy, Shelf, Inv}
use Rattle.theory_causal.specs.Invariants.Learned.{fresh-merged, good-merged, good-stamp, passed, fresh-stamp}

module _ {W : Words} {M : Moment W} {S : State W} (I : Inv M S) where
  open M use {history as H, know, now as t, own}

  -- what a later write has passed is strictly before every clock that knows this write whole
  earlier : {c : ℕ} {g : Held W} {a : Clock} → Genuine M c g → Closed H know t a → (w : ℕ) → w < t → Writes H c w → After g.source w
      → Knows H know a w → Earlier g.stamp a
  earlier e z w lt k f n =
      let (le, new) = passed I e w lt k f in
      let whole = z w lt k.0 n in
      (λ j. omega (arith, le j, whole j), ((H w).desk, omega arith))

  -- ---- a desk learns a clock
  pub spared-fresh : {c : ℕ} {g : Held W} {a b : Clock} (new : ℕ → Cell W) → Copy M a c g → Closed H know t b
      → new c ≡ held g → Spared S.last b new c
      → Fresh H know t c g.source (merged a b)
  spared-fresh {c} {g} {a} {b} new copy z e spared =
      fresh-merged H know g.source a b copy.fresh
      (λ w lt k f n.
      ⊎_elim
      (λ late. late (earlier copy.genuine z w lt k f n))
      (λ last. (I.lasts c).top w lt k (subst (λ (x : Held W). After x.source w) last f))
      (spared g e))

  -- the named cell may hold what was learned if that is fresh for the desk
  pub shelf-learns : {a : Clock} {old new : ℕ → Cell W} (c : ℕ) {g : Held W} → Shelf M a old → Genuine M c g
      → ((b : ℕ) → b ≢ c → Was old new b) → ((b : ℕ) → b ≢ c → Spared S.last g.stamp new b)
      → ((h : Held W) → new c ≡ held h → (h ≡ g) × Fresh H know t c g.source a) → Shelf M (merged a g.stamp) new
  shelf-learns {a} {old} {new} c {g} s i was spared named = record {
    good = good-merged s.good (good-stamp I i);
    copies = λ x h e. elim (ℕ_discrete x c) [ yes j ↦ same x h j e | no ne ↦ other x h ne e ];
  }
    where
      other : (x : ℕ) (h : Held W) → x ≢ c → new x ≡ held h → Copy M (merged a g.stamp) x h
      other x h ne e =
          let copy = s.copies x h (was x ne h e) in
          record {
            genuine = copy.genuine;
            under = λ j. omega (arith, copy.under j);
            fresh = spared-fresh new copy (good-stamp I i).closed e (spared x ne);
          }

      same : (x : ℕ) (h : Held W) → x ≡ c → new x ≡ held h → Copy M (merged a g.stamp) x h
      same x h j e =
          let (k, f) = named h (subst (λ (z : ℕ). new z ≡ held h) j e) in
          subst₂ (Copy M (merged a g.stamp)) (sym j) (sym k)
          record { genuine = i; under = λ j. omega arith; fresh = fresh-merged H know g.source a g.stamp f (fresh-stamp I i) }
