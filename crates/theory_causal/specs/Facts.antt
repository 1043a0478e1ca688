-- Clocks as functions, what a clock knows, and the facts of a history that its order rests on.
-- Assumes nothing.
use Rattle.std.specs.Prelude.{◌≡◌, ℕ, ◌≤◌, ◌<◌}
use Rattle.std.proofs.Common.{arith}
use Rattle.std.proofs.Math.Decide.{dec_lt, ℕ_discrete}
use Rattle.theory_causal.specs.History.{Words, write, read, Source, blank, from, History, Operation, Writes, word_of}

abbrev pub Clock : Type 0
Clock = ℕ → ℕ

infix 20 ◌≼◌
abbrev pub ◌≼◌ : Clock → Clock → Type 0
a ≼ b = (j : ℕ) → a j ≤ b j

abbrev pub zeros : Clock
zeros j = 0

-- ---- of a source: its stamp, by the clocks of the operations
unfoldable pub stamp_of : (know : ℕ → Clock) → Source → Clock
stamp_of know blank = zeros
stamp_of know (from w) = know w

-- a write that the cell's keeper stored after it
unfoldable pub After : Source → ℕ → Type 0
After blank w = Unit {0}
After (from v) w = v < w

-- it is none, or a write of the cell before step t
unfoldable pub Stored : {W : Words} → History W → ℕ → (cell : ℕ) → Source → Type 0
Stored H t c blank = Unit {0}
Stored H t c (from w) = (w < t) × Writes H c w

-- ---- a step that writes or reads is an operation
module _ {W : Words} (H : History W) {x : ℕ} where
  pub writing : (H x).kind ≡ write → Operation H x
  writing e q = let z : ◌≡◌ {A = ℕ} 0 1 = cc in omega arith

  pub reading : (H x).kind ≡ read → Operation H x
  reading e q = let z : ◌≡◌ {A = ℕ} 0 1 = cc in omega arith

-- ---- `know x` is the clock of operation x: a write's stamp, or what its desk's operations have seen up to and with a read.
module _ {W : Words} (H : History W) (know : ℕ → Clock) where
  -- a clock knows a write if it has the write's number, which stands in the write's clock at the writer's place
  abbrev pub Knows : Clock → ℕ → Type 0
  Knows a w = know w (H w).desk ≤ a (H w).desk

  -- what it knows of the writes before step t it knows whole
  abbrev pub Closed : ℕ → Clock → Type 0
  Closed t a = (w : ℕ) → w < t → (H w).kind ≡ write → Knows a w → know w ≼ a

  -- nothing stored in the cell after the source is known to the clock
  abbrev pub Fresh : ℕ → (cell : ℕ) → Source → Clock → Type 0
  Fresh t c s a = (w : ℕ) → w < t → Writes H c w → After s w → Knows a w → ⊥

  -- What has to be known of a read, and of each operation beside those before it.
  pub record Came (x : ℕ) : Type 0 where
    pub stored : Stored H x (H x).cell (H x).source
    pub seen : stamp_of know (H x).source ≼ know x
    pub fresh : Fresh x (H x).cell (H x).source (know x)
    pub word : (H x).word ≡ word_of H (H x).source

  pub record Told (x : ℕ) : Type 0 where
    -- one desk's operations are done in the order asked, and each knows what those before it knew
    pub asks : (y : ℕ) → y < x → Operation H y → (H y).desk ≡ (H x).desk → (H y).asked < (H x).asked
    pub grows : (y : ℕ) → y < x → Operation H y → (H y).desk ≡ (H x).desk → know y ≼ know x
    pub whole : Closed x (know x)
    -- nobody knows a write before it is stored
    pub new : (H x).kind ≡ write → (y : ℕ) → y < x → Operation H y → know y (H x).desk < know x (H x).desk
    -- a cell's writes know those before them
    pub climbs : (c : ℕ) → Writes H c x → (w : ℕ) → w < x → Writes H c w → know w ≼ know x
    pub came : (H x).kind ≡ read → Came x

  -- an operation that knows a write is not before it, and knows all that the write knew
  pub known : (w z : ℕ) → (H w).kind ≡ write → Operation H z → Told w → Told z → Knows (know z) w → (w ≤ z) × (know w ≼ know z)
  known w z k o i j h =
      elim (dec_lt z w) [
        | yes lt ↦ absurd (omega (arith, i.new k z lt o))
        | no ge ↦ elim (ℕ_discrete w z) [
          | yes e ↦ (omega arith, λ j. rw e (omega arith))
          | no ne ↦ (omega arith, j.whole w (omega arith) k h)
        ]
      ]
