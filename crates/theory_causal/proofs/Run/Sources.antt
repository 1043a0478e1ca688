-- In every run of the machine, whatever stands in a cell or in an answer comes from a write of that cell, or from none.
-- Assumes nothing.
use Rattle.std.proofs.Math.Path.{◌≡◌, ap}
use Rattle.std.specs.Prelude.{refl, List, ℕ, ◌<◌, length}
use Rattle.std.proofs.Common.{◌∙◌, arith}
use Rattle.theory_causal.specs.History.{Words, Source, blank, from, Step, listed}
use Rattle.theory_causal.specs.Facts.{Clock, zeros, stamp_of, Stored}
use Rattle.theory_causal.specs.Machine.{Held, held, read-answered, write-answered, State, Run}
use Rattle.theory_causal.specs.Invariants.{Genuine, Slotted}
use Rattle.theory_causal.specs.Run.{know, now}
use Rattle.theory_causal.specs.Run.Sources.{Sourced}
use Rattle.theory_causal.proofs.Invariants.Moves.{waits}
use Rattle.theory_causal.proofs.Run.{invariants}

module _ {W : Words} {h : List (Step W)} {S : State W} (r : Run h S) where
  -- a write's number, which stands in its stamp at the writer's place, is above 0
  above : (c w : ℕ) (s : Source) → Stored (listed h) (length h) c s → s ≡ from w → (j : ℕ) × (0 < stamp_of (know r) s j)
  unfolding Stored stamp_of
  above c w blank i e = let z : ◌≡◌ {A = ℕ} 0 1 = cc in absurd (omega arith)
  above c w (from v) i e = ((listed h v).desk, (invariants r).counted v i.0 i.1.0)

  from-none : (c : ℕ) (s : Source) → Stored (listed h) (length h) c s → stamp_of (know r) s ≡ zeros → s ≡ blank
  from-none c blank i e = refl
  from-none c (from w) i e = let (j, lt) = above c w (from w) i refl in absurd (omega (arith, ap (λ (a : Clock). a j) e))

  sourced : {c : ℕ} {g : Held W} → Genuine (now r) c g → Sourced h c g
  unfolding stamp_of
  sourced {c} {g} i = record {
    stored = i.stored;
    word = i.word;
    none = (λ e. from-none c g.source i.stored (rw i.stamp at e), λ e. i.stamp ∙ ap (stamp_of (know r)) e);
    above = λ w e. rw i.stamp (above c w g.source i.stored e);
  }

  -- what a desk holds, what an answer carries, and what stands last in a cell
  pub held-sourced : (p c : ℕ) (g : Held W) → (S.desks p).cells c ≡ held g → Sourced h c g
  held-sourced p c g e = sourced (((invariants r).desks p).shelf.copies c g e).genuine

  pub read-sourced : (p c : ℕ) (g : Held W) → (S.desks p).slot ≡ read-answered c g → Sourced h c g
  unfolding Slotted
  read-sourced p c g e = sourced (waits (invariants r) p e).2.genuine

  pub write-sourced : (p c : ℕ) (g : Held W) → (S.desks p).slot ≡ write-answered c g → Sourced h c g
  unfolding Slotted
  write-sourced p c g e = sourced (waits (invariants r) p e).0.genuine

  pub last-sourced : (c : ℕ) → Sourced h c (S.last c)
  last-sourced c = sourced ((invariants r).lasts c).genuine
