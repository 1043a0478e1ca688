-- What demand 3 says: each desk can put all writes and its own reads in one order that explains what it saw.
-- Assumes nothing.
use Rattle.std.specs.Prelude.{◌≡◌, ◌⊎◌, List, [], ◌∷◌, ℕ, ◌<◌}
use Rattle.theory_causal.specs.History.{Words, write, Source, blank, from, History, Writes, ReadBy, word_of, Causal}

-- x stands in the list; x stands in it before y
abbrev pub In : ℕ → List ℕ → Type 0
In x [] = ⊥
In x (z ∷ l) = (x ≡ z) ⊎ In x l

abbrev pub Before : ℕ → ℕ → List ℕ → Type 0
Before x y [] = ⊥
Before x y (z ∷ l) = ((x ≡ z) × In y l) ⊎ Before x y l

module _ {W : Words} (H : History W) where
  -- what desk p puts in order: all writes and its own reads
  abbrev pub View : (desk : ℕ) → ℕ → Type 0
  View p x = ((H x).kind ≡ write) ⊎ ReadBy H p x

  module _ (◌before◌ : ℕ → ℕ → Type 0) where
    infix 20 ◌before◌
    -- Of the writes of cell c that stand before x, this source is the last one; blank: there is none.
    unfoldable pub Nearest : (cell : ℕ) → ℕ → Source → Type 0
    Nearest c x blank = (w : ℕ) → Writes H c w → w before x → ⊥
    Nearest c x (from w) = Writes H c w × w before x × ((v : ℕ) → Writes H c v → v before x → (v ≡ w) ⊎ v before w)

    -- This order explains what desk p saw.
    pub record Explains (p : ℕ) : Type 0 where
      -- every operation after those that causally precede it, through any desk's operations
      pub causal : (x y : ℕ) → View p x → View p y → Causal H x y → x before y
      -- each read shows the word of the nearest earlier write of its cell, or blank
      pub word : (x : ℕ) → ReadBy H p x → (H x).word ≡ word_of H (H x).source
      pub nearest : (x : ℕ) → ReadBy H p x → Nearest (H x).cell x (H x).source

    -- Each cell's writes stand in the order in which they were stored (T-08).
    abbrev pub InTurn : Type 0
    InTurn = (c v w : ℕ) → Writes H c v → Writes H c w → v < w → v before w

  -- Demand 3 for desk p: the list has all writes and p's reads, each once, and explains what p saw.
  pub record Order (p : ℕ) (l : List ℕ) : Type 0 where
    pub seen : (x : ℕ) → View p x → In x l
    pub only : (x : ℕ) → In x l → View p x
    pub once : (x : ℕ) → Before x x l → ⊥
    pub explains : Explains (λ x y. Before x y l) p
