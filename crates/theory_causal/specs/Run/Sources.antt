-- Where what stands in a cell or in an answer comes from.
-- Assumes nothing.
use Rattle.std.proofs.Math.Path.{◌≡◌}
use Rattle.std.specs.Prelude.{◌↔◌, List, ℕ, ◌<◌, length}
use Rattle.theory_causal.specs.History.{Words, blank, from, Step, listed, word_of}
use Rattle.theory_causal.specs.Facts.{zeros, Stored}
use Rattle.theory_causal.specs.Machine.{Held}

-- What is known of g, which stands in cell c or in an answer for it, after the history h.
pub record Sourced {W : Words} (h : List (Step W)) (c : ℕ) (g : Held W) : Type 0 where
  -- its source is none, or a write of the cell before now
  pub stored : Stored (listed h) (length h) c g.source
  pub word : g.word ≡ word_of (listed h) g.source
  -- its stamp is all zeros exactly if its source is none; a write's has a number above 0
  pub none : (g.stamp ≡ zeros) ↔ (g.source ≡ blank)
  pub above : (w : ℕ) → g.source ≡ from w → (j : ℕ) × (0 < g.stamp j)
