-- What every run of the machine keeps true. Beside it goes a ghost: `know`, the clock of each operation, and `own p`, what desk p's own
-- operations know. Serving others raises a desk's clock and not its `own`.
-- Assumes nothing.
use Rattle.std.specs.Prelude.{◌≡◌, Bool, false, ◌≢◌, ℕ, suc, ◌≤◌, ◌<◌}
use Rattle.theory_causal.specs.History.{Words, write, History, Operation, Writes, word_of}
use Rattle.theory_causal.specs.Facts.{Clock, ◌≼◌, Closed, stamp_of, Stored, After, Fresh, Told}
use Rattle.theory_causal.specs.Machine.{Held, Cell, held, Slot, empty, read_asked, write-asked, read-answered, write-answered, Desk, State}
pub mod Learned
pub mod Passing
pub mod Steps
pub mod Shows
pub mod Stows

-- a run before its step `now`
pub record Moment (W : Words) : Type 0 where
  pub history : History W
  pub know : ℕ → Clock
  pub now : ℕ
  pub own : ℕ → Clock

module _ {W : Words} (M : Moment W) where
  open M use {history as H, know, now as t, own}

  -- I1: what a clock knows has been stored, and it knows it whole; `own j j` counts desk j's writes
  pub record Good (a : Clock) : Type 0 where
    pub closed : Closed H know t a
    pub below : (j : ℕ) → a j ≤ own j j

  -- word and stamp are those of the source
  pub record Genuine (c : ℕ) (g : Held W) : Type 0 where
    pub stored : Stored H t c g.source
    pub stamp : g.stamp ≡ stamp_of know g.source
    pub word : g.word ≡ word_of H g.source

  -- I2: what stands last in a cell
  pub record Last (c : ℕ) (g : Held W) : Type 0 where
    pub genuine : Genuine c g
    pub top : (w : ℕ) → w < t → Writes H c w → After g.source w → ⊥

  -- I3: a held cell is fresh for its desk's clock
  pub record Copy (a : Clock) (c : ℕ) (g : Held W) : Type 0 where
    pub genuine : Genuine c g
    pub under : g.stamp ≼ a
    pub fresh : Fresh H know t c g.source a

  pub record Shelf (a : Clock) (cells : ℕ → Cell W) : Type 0 where
    pub good : Good a
    pub copies : (c : ℕ) (g : Held W) → cells c ≡ held g → Copy a c g

  module _ (p : ℕ) where
    -- I1': the desk's own number is the count of its writes, and its clock knows what its operations know
    pub record Level (a : Clock) : Type 0 where
      pub number : a p ≡ own p p
      pub seen : own p ≼ a

    -- it has waited since, and done nothing else
    pub record Pending (asked : ℕ) : Type 0 where
      pub since : asked ≤ t
      pub first : (x : ℕ) → x < t → Operation H x → (H x).desk ≡ p → (H x).asked < asked

    -- a sent clock: the next number, and else nothing that was not stored
    pub record Sent (a : Clock) : Type 0 where
      pub number : a p ≡ suc (own p p)
      pub below : (j : ℕ) → j ≢ p → a j ≤ own j j
      pub closed : Closed H know t a
      pub seen : own p ≼ a

    -- I4: an answer is fresh for what the desk's operations know, and for its clock while *served* is off
    pub record Answer (a : Clock) (served : Bool) (c : ℕ) (g : Held W) : Type 0 where
      pub genuine : Genuine c g
      pub fresh : Fresh H know t c g.source (own p)
      pub still : served ≡ false → Fresh H know t c g.source a

    unfoldable pub Slotted : Clock → (served : Bool) → (asked : ℕ) → Slot W → Type 0
    Slotted a on asked empty = Level a
    Slotted a on asked (read_asked c) = Level a × Pending asked
    Slotted a on asked (write-asked c w sent) = Level a × Pending asked × Sent sent
    Slotted a on asked (read-answered c g) = Level a × Pending asked × Answer a on c g
    Slotted a on asked (write-answered c g) = Answer a on c g × own p ≼ g.stamp × (g.stamp p ≡ own p p)

    pub record Fine (d : Desk W) : Type 0 where
      pub shelf : Shelf d.clock d.cells
      pub slot : Slotted d.clock d.served d.asked d.slot

  pub record Inv (S : State W) : Type 0 where
    pub told : (x : ℕ) → x < t → Operation H x → Told H know x
    pub asked : (x : ℕ) → x < t → Operation H x → (H x).asked ≤ x
    pub counted : (w : ℕ) → w < t → (H w).kind ≡ write → 0 < know w (H w).desk
    pub past : (x : ℕ) → x < t → Operation H x → know x ≼ own (H x).desk
    pub owns : (p : ℕ) → Good (own p)
    pub desks : (p : ℕ) → Fine p (S.desks p)
    pub lasts : (c : ℕ) → Last c (S.last c)
