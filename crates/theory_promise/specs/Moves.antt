-- What it takes for an event to be a move of the machine, and the moves of one desk alone.
-- Assumes nothing.
use Rattle.std.specs.Prelude.{◌≡◌, ◌≢◌, ℕ, ◌<◌}
use Rattle.theory_causal.specs.History.{Step}
use Rattle.theory_causal.specs.Keepers as causal
use Rattle.theory_causal.specs.Machine.{Desk, Own, Move, alone}
use Rattle.desk.specs.declared.Record.{Record}
use Rattle.desk.specs.Desk.{keeper_of}
use Rattle.desk.specs.SameDesk.{SameDesk}
use Rattle.table.specs.declared.Table.{Table}
use Rattle.table.specs.Room.{Room}
use Rattle.table.specs.Rows.{put_same, put_other}
use Rattle.table.specs.Table.{record_of, put_back}
use Rattle.theory_promise.specs.Operations.{words, Trail, Trails}
use Rattle.theory_promise.specs.State.{cells_of, row_of, rows, state, row_is}
pub mod Alone
pub mod Bring
pub mod Take

module _ (n : ℕ) (t : Table) (g : Trails) where
  -- the event was a move of the machine
  pub record Moved (t' : Table) (g' : Trails) (o : Step words) : Type 0 where
    pub learned : ℕ → ℕ
    pub move : Move n (state t g) (state t' g') o learned

  -- desk p's row becomes d
  abbrev pub Becomes : (p : ℕ) → Desk words → Step words → (learned : ℕ → ℕ) → Type 0
  Becomes p d o a = Own n p (state t g).last (rows t g p) d o a

  -- Desk p has a new record and a new trail, and the cells that it keeps are as they were.
  pub alone-moved : Room t → (p : ℕ) → p < 8 → (v : Record) (g' : Trails) (b : Trail) → SameDesk (record_of t p) v → g' p ≡ b
      → ((q : ℕ) → q ≢ p → g' q ≡ g q) → {o : Step words} {a : ℕ → ℕ} → Becomes p (row_of v b) o a
      → ((c : ℕ) → keeper_of t.tray c ≡ p → cells_of v.row b.source c ≡ (rows t g p).cells c) → Moved (put_back t v) g' o
  unfolding put_back
  alone-moved z p there v g' b stays here rest {a = a} m same = record {
    learned = a;
    move =
        alone p m
        (causal.changes (keeper_of t.tray) (rows t g) (rows (put_back t v) g') p
        (row_is (put_back t v) g' p (put_same t p v z.sized there stays) here)
        (λ q ne. row_is (put_back t v) g' q (put_other t p v z.sized there stays q ne) (rest q ne)) same);
  }
