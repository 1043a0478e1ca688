-- The abstract machine: what the order of demand 3 rests on in the rules of the table, and no more. Every event is one move.
-- It has no keepers: a keeper is any desk that holds what was stored last in the cell.
-- Assumes nothing.
use Rattle.std.specs.Prelude.{◌≡◌, refl, Bool, true, false, ◌⊎◌, ◌≢◌, List, [], ◌∷◌, ◌++◌, ℕ, suc, ◌<◌, max, length}
use Rattle.std.proofs.Common.{arith}
use Rattle.theory_causal.specs.Changed.{changed}
use Rattle.theory_causal.specs.History.{Words, Source, blank, from, Step, nothing, wrote, showed}
use Rattle.theory_causal.specs.Facts.{Clock, ◌≼◌, zeros}

-- ---- clocks
abbrev pub merged : Clock → Clock → Clock
merged a b j = max (a j) (b j)

-- with desk p's own number one higher
abbrev pub raised : (desk : ℕ) → Clock → Clock
raised p a = changed a p (suc (a p))

-- strictly before
abbrev pub Earlier : Clock → Clock → Type 0
Earlier a b = a ≼ b × ((j : ℕ) × (a j < b j))

-- nothing is strictly before a clock of zeros
pub never : (a : Clock) → Earlier a zeros → ⊥
never a e = omega (arith, e.1.1)

-- ---- the state
module _ (W : Words) where
  -- what stands in a held cell or in an answer; the source is the ghost beside the table
  pub record Held : Type 0 where
    pub source : Source
    pub word : W.Word
    pub stamp : Clock

  pub data Cell : Type 0 where
    gone : Cell
    held : Held → Cell

  -- each with its cell; a write asked with its word and sent clock
  pub data Slot : Type 0 where
    empty : Slot
    read_asked : ℕ → Slot
    write-asked : (cell : ℕ) → W.Word → Clock → Slot
    read-answered : ℕ → Held → Slot
    write-answered : ℕ → Held → Slot

  pub record Desk : Type 0 where
    pub clock : Clock
    pub cells : ℕ → Cell
    pub slot : Slot
    pub served : Bool
    -- the step at which it asked what it waits for
    pub asked : ℕ

  pub record State : Type 0 where
    pub desks : ℕ → Desk
    -- what was stored last in each cell: what its keeper holds
    pub last : ℕ → Held

module _ {W : Words} where
  abbrev pub unwritten : Held W
  unwritten = record { source = blank; word = W.no_word; stamp = zeros }

  abbrev pub stored : (step : ℕ) → W.Word → Clock → Held W
  stored t w a = record { source = from t; word = w; stamp = a }

  pub record Start (S : State W) : Type 0 where
    pub clock : (p : ℕ) → (S.desks p).clock ≡ zeros
    pub slot : (p : ℕ) → (S.desks p).slot ≡ empty
    pub cells : (p c : ℕ) (g : Held W) → (S.desks p).cells c ≡ held g → g ≡ unwritten
    pub last : (c : ℕ) → S.last c ≡ unwritten

  -- ---- what becomes of held cells
  -- what is held now was held: a loss is always allowed
  abbrev pub Was : (old new : ℕ → Cell W) → (cell : ℕ) → Type 0
  Was old new b = (g : Held W) → new b ≡ held g → old b ≡ held g

  -- a desk that learned a clock holds nothing strictly before it, unless it is what was stored last in the cell (a keeper's own)
  abbrev pub Spared : (last : ℕ → Held W) → (learned : Clock) → (new : ℕ → Cell W) → (cell : ℕ) → Type 0
  Spared last a new b = (g : Held W) → new b ≡ held g → (Earlier g.stamp a → ⊥) ⊎ (g ≡ last b)

  -- ---- rows: a desk with other cells, waiting from step t on, with an answer in its slot, with its answer brought, and with a write stored
  abbrev pub holding : Desk W → (ℕ → Cell W) → Desk W
  holding d new = record { clock = d.clock; cells = new; slot = d.slot; served = d.served; asked = d.asked }

  abbrev pub asking : ℕ → Desk W → Slot W → (ℕ → Cell W) → Desk W
  asking t d s new = record { clock = d.clock; cells = new; slot = s; served = false; asked = t }

  abbrev pub answered : Desk W → Slot W → Desk W
  answered d s = record { clock = d.clock; cells = d.cells; slot = s; served = d.served; asked = d.asked }

  abbrev pub brought : Desk W → Clock → (ℕ → Cell W) → Desk W
  brought d a new = record { clock = merged d.clock a; cells = new; slot = empty; served = false; asked = d.asked }

  abbrev pub storing : Desk W → Held W → (ℕ → Cell W) → (served : Bool) → Desk W
  storing d g new on = record { clock = g.stamp; cells = new; slot = d.slot; served = on; asked = d.asked }

  -- An answer g is brought: cell c, which it names, is held with it and only if *served* is off; other cells are spared or lost.
  abbrev pub Named : Desk W → (cell : ℕ) → Held W → (new : ℕ → Cell W) → Type 0
  Named d c g new = (h : Held W) → new c ≡ held h → (h ≡ g) × (d.served ≡ false)

  pub record Brings (last : ℕ → Held W) (d : Desk W) (c : ℕ) (g : Held W) (new : ℕ → Cell W) : Type 0 where
    pub was : (b : ℕ) → b ≢ c → Was d.cells new b
    pub spared : (b : ℕ) → b ≢ c → Spared last g.stamp new b
    pub named : Named d c g new

  -- ---- moves of desk p alone, at step t: its new row, what the step adds to the history, and the clock that p's operations learn by it
  module _ (t p : ℕ) (last : ℕ → Held W) (d : Desk W) where
    pub data Own : Desk W → Step W → Clock → Type 0 where
      -- a drop, or any other loss; a refused event loses nothing
      forgets : (new : ℕ → Cell W) → ((b : ℕ) → Was d.cells new b) → Own (holding d new) nothing zeros
      -- a read of a cell not held, and a write of a cell not kept
      asks_read : (c : ℕ) (new : ℕ → Cell W) → d.slot ≡ empty → ((b : ℕ) → Was d.cells new b)
          → Own (asking t d (read_asked c) new) nothing zeros
      asks_write : (c : ℕ) (w : W.Word) (new : ℕ → Cell W) → d.slot ≡ empty → ((b : ℕ) → Was d.cells new b)
          → Own (asking t d (write-asked c w (raised p d.clock)) new) nothing zeros
      -- the take of its read
      answers : (c : ℕ) → d.slot ≡ read_asked c → Own (answered d (read-answered c (last c))) nothing zeros
      -- a read of a held cell, kept or copy
      reads : (c : ℕ) (g : Held W) (new : ℕ → Cell W) → d.slot ≡ empty → d.cells c ≡ held g → ((b : ℕ) → Was d.cells new b)
          → Own (holding d new) (showed p c g.word g.source t) g.stamp
      -- the two ways of bring; the write was an operation when it was taken
      brings-read : (c : ℕ) (g : Held W) (new : ℕ → Cell W) → d.slot ≡ read-answered c g → Brings last d c g new
          → Own (brought d g.stamp new) (showed p c g.word g.source d.asked) g.stamp
      brings-write : (c : ℕ) (g : Held W) (new : ℕ → Cell W) → d.slot ≡ write-answered c g → Brings last d c g new
          → Own (brought d g.stamp new) nothing zeros

  -- ---- moves of the machine
  -- only desk p changes, and nothing is stored
  pub record Changes (S S' : State W) (p : ℕ) (d : Desk W) : Type 0 where
    pub row : S'.desks p ≡ d
    pub rest : (q : ℕ) → q ≢ p → S'.desks q ≡ S.desks q
    pub last : (c : ℕ) → S'.last c ≡ S.last c

  -- desk k, which keeps cell c, stores g there, having learned a clock
  pub record Stores (S S' : State W) (k c : ℕ) (g : Held W) (learned : Clock) (new : ℕ → Cell W) (on : Bool) : Type 0 where
    pub keeps : (S.desks k).cells c ≡ held (S.last c)
    pub holds : new c ≡ held g
    pub was : (b : ℕ) → b ≢ c → Was (S.desks k).cells new b
    pub spared : (b : ℕ) → b ≢ c → Spared S.last learned new b
    pub row : S'.desks k ≡ storing (S.desks k) g new on
    pub last : S'.last c ≡ g
    pub lasts : (b : ℕ) → b ≢ c → S'.last b ≡ S.last b

  module _ (t : ℕ) (S S' : State W) where
    -- keeper p writes word w in cell c
    pub record OwnWrite (p c : ℕ) (w : W.Word) (new : ℕ → Cell W) : Type 0 where
      pub idle : (S.desks p).slot ≡ empty
      pub stores : Stores S S' p c (stored t w (raised p (S.desks p).clock)) zeros new (S.desks p).served
      pub rest : (q : ℕ) → q ≢ p → S'.desks q ≡ S.desks q

    -- keeper k takes the write that desk p asked; if k waits, its *served* goes on
    pub record Take (k p c : ℕ) (w : W.Word) (sent : Clock) (new : ℕ → Cell W) (on : Bool) : Type 0 where
      pub apart : p ≢ k
      pub asks : (S.desks p).slot ≡ write-asked c w sent
      pub stores : Stores S S' k c (stored t w (merged (S.desks k).clock sent)) sent new on
      pub serves : ((S.desks k).slot ≡ empty) ⊎ (on ≡ true)
      pub asker : S'.desks p ≡ answered (S.desks p) (write-answered c (stored t w (merged (S.desks k).clock sent)))
      pub rest : (q : ℕ) → q ≢ k → q ≢ p → S'.desks q ≡ S.desks q

    pub data Move : Step W → Clock → Type 0 where
      alone : (p : ℕ) {d : Desk W} {o : Step W} {a : Clock} → Own t p S.last (S.desks p) d o a → Changes S S' p d → Move o a
      writes : (p c : ℕ) (w : W.Word) (new : ℕ → Cell W) → OwnWrite p c w new → Move (wrote p c w t) (raised p (S.desks p).clock)
      takes : (k p c : ℕ) (w : W.Word) (sent : Clock) (new : ℕ → Cell W) (on : Bool) → Take k p c w sent new on
          → Move (wrote p c w (S.desks p).asked) (merged (S.desks k).clock sent)

  -- a refused event
  pub refused : (t : ℕ) (S : State W) → Move t S S nothing zeros
  refused t S = alone 0 (forgets (S.desks 0).cells (λ b g e. e)) (record { row = refl; rest = λ q ne. refl; last = λ c. refl })

  -- ---- runs, with their history: one step for each event
  pub data Run : List (Step W) → State W → Type 0 where
    start : {S : State W} → Start S → Run [] S
    next : {h : List (Step W)} {S S' : State W} {o : Step W} {a : Clock} → Run h S → Move (length h) S S' o a → Run (h ++ (o ∷ [])) S'
