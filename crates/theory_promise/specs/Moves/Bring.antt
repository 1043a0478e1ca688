-- 4 Bring as a move of one desk.
-- Assumes nothing.
use Rattle.std.specs.Prelude.{◌≡◌, Bool, true, false, cond, ◌≢◌, ℕ, ◌<◌}
use Rattle.std.proofs.Math.Path.{refl}
use Rattle.std.proofs.Common.{sym, ◌∙◌, arith}
use Rattle.std.proofs.Math.Seq.{get_or-set_other}
use Rattle.theory_causal.specs.Changed.{changed, changed-here, changed-elsewhere}
use Rattle.theory_causal.specs.History.{Source, Step, nothing, showed}
use Rattle.theory_causal.specs.Keepers as causal
use Rattle.theory_causal.specs.Machine.{Held, held, read-answered, write-answered, brings-read, brings-write}
use Rattle.theory_causal.specs.Machine as machine
use Rattle.clock.specs.Clock.{number}
use Rattle.desk.specs.declared.Message.{Message}
use Rattle.desk.specs.declared.Record.{Record}
use Rattle.desk.specs.Desk.{no_cell, past_cell, keeper_of}
use Rattle.desk.specs.Rules.{learns, holds, brought, brings}
use Rattle.desk.specs.SameDesk.{brings-same}
use Rattle.desk.specs.SoundLaws.{RowRule}
use Rattle.table.specs.declared.Table.{Table}
use Rattle.table.specs.Room.{Room}
use Rattle.table.specs.Rows.{row-length}
use Rattle.table.specs.Table.{record_of, put_back}
use Rattle.theory_promise.specs.Moves.{Moved, Becomes, alone-moved}
use Rattle.theory_promise.specs.Operations.{words, Trail, Trails, holding}
use Rattle.theory_promise.specs.State.{clash, held_of, cell_of, slot_for, cells_of, rows, state, merged-numbers, set_here, fate-learned}

module _ (n : ℕ) (t : Table) (g : Trails) (z : Room t) (p : ℕ) (there : p < 8) (r : RowRule (record_of t p))
    (m : Message) (h : m.cell < 32) (ne : keeper_of t.tray m.cell ≢ p) where
  abbrev v : Record
  v = record_of t p

  abbrev answer : Held words
  answer = held_of (g p).answer m.word m.clock

  -- with *served* on the named cell is not held, and no source is named for it
  abbrev named-source : Bool → Source
  named-source on = cond on ((g p).source m.cell) (g p).answer

  abbrev b : Trail
  b = holding (g p) m.cell (named-source v.seat.served)

  abbrev new : ℕ → machine.Cell words
  new = cells_of (brings v m).row b.source

  -- another cell is kept, lost, or not strictly before the stamp
  fate : (c : ℕ) → c ≢ m.cell → causal.Fate (keeper_of t.tray) (rows t g) p (number m.clock) new c
  unfolding record_of brings
  fate =
      fate-learned t g p r m.clock (holds v m.cell no_cell).row m.cell _ _
      (λ c nc. get_or-set_other v.row m.cell c no_cell past_cell nc)

  -- the named cell is held with the answer, and only if *served* is off
  named : machine.Named (rows t g p) m.cell answer new
  unfolding cell_of brings
  named k e = go v.seat.served refl (sym here ∙ e)
    where
      here : new m.cell ≡ cell_of (brought v.seat.served m) (named-source v.seat.served)
      here =
          set_here (learns (holds v m.cell no_cell) m.clock).row (g p).source m.cell _ _
          (omega (arith, (brings-same v m).same_length, row-length t p z.sized there))

      go : (on : Bool) → v.seat.served ≡ on → cell_of (brought on m) (named-source on) ≡ held k → (k ≡ answer) × (v.seat.served ≡ false)
      go true i e = clash (cc)
      go false i e = (cc, i)

  -- whether a read or a write was answered
  home-moved : {o : Step words} {a : ℕ → ℕ}
      → (machine.Brings (state t g).last (rows t g p) m.cell answer new
      → Becomes n t g p (machine.brought (rows t g p) (number m.clock) new) o a)
      → Moved n t g (put_back t (brings v m)) (changed g p b) o
  unfolding record_of slot_for brings
  home-moved {a = a} make =
      alone-moved n t g z p there (brings v m) (changed g p b) b
      (brings-same v m) (changed-here g p b) (changed-elsewhere g p b) {a = a}
      (rw (merged-numbers v.seat.clock m.clock)
      (make (causal.brings (keeper_of t.tray) (rows t g) p m.cell answer new fate named)))
      (causal.kept-cells (keeper_of t.tray) (rows t g) p (number m.clock) new m.cell ne fate)

  pub bring-read-moved : (rows t g p).slot ≡ read-answered m.cell answer
      → Moved n t g (put_back t (brings v m)) (changed g p b) (showed p m.cell m.word (g p).answer (g p).asked)
  bring-read-moved e = home-moved (brings-read m.cell answer new e)

  pub bring-write-moved : (rows t g p).slot ≡ write-answered m.cell answer → Moved n t g (put_back t (brings v m)) (changed g p b) nothing
  bring-write-moved e = home-moved (brings-write m.cell answer new e)
