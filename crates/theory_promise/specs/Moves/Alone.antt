-- 1 Read, 2 Write and 5 Drop as moves of one desk.
-- Assumes nothing.
use Rattle.std.specs.Prelude.{◌≡◌, true, false, ◌≢◌, length, set}
use Rattle.std.proofs.Math.Path.{refl, sym, ap}
use Rattle.std.proofs.Common.{◌∙◌, arith, get_or-set_same, get_or-set_other}
use Prim.Native.Nat.{ℕ, ◌<◌}
use Rattle.std.proofs.Math.Decide.{ℕ_discrete}
use Rattle.std.proofs.Math.ListN.{length-set}
use Rattle.theory_causal.specs.Changed.{changed, changed-here, changed-elsewhere}
use Rattle.theory_causal.specs.Facts.{zeros}
use Rattle.theory_causal.specs.History.{from, nothing, wrote, showed}
use Rattle.theory_causal.specs.Keepers as causal
use Rattle.theory_causal.specs.Machine.{Held, gone, held, empty, forgets, asks_read, asks_write, reads, writes, never}
use Rattle.theory_causal.specs.Machine as machine
use Rattle.clock.specs.Clock.{number, raised}
use Rattle.desk.specs.declared.Cell.{Cell}
use Rattle.desk.specs.declared.Record.{Record}
use Rattle.desk.specs.declared.Slot.{Slot}
use Rattle.desk.specs.Desk.{Word, no_cell, past_cell, cell_at, keeper_of, held_cell, waits}
use Rattle.desk.specs.Rules.{with_clock, with_seat, holds, stores, slotted, read_asked, write_asked, next_clock}
use Rattle.desk.specs.SameDesk.{SameDesk, seat-same}
use Rattle.table.specs.declared.Table.{Table}
use Rattle.table.specs.Room.{Room}
use Rattle.table.specs.Rows.{row-length, put_same, put_other}
use Rattle.table.specs.Table.{record_of, put_back}
use Rattle.theory_promise.specs.Moves.{Moved, Becomes, alone-moved}
use Rattle.theory_promise.specs.Operations.{words, Trail, Trails, holding, waiting}
use Rattle.theory_promise.specs.State.{clash, held_of, cell_of, slot_for, cells_of, rows, row_is, empty-slot, raised-numbers, held-cell}
use Rattle.theory_promise.specs.State.{set_here, set_there, fate-same}

module _ (n : ℕ) (t : Table) (g : Trails) (z : Room t) (p : ℕ) (there : p < 8) (c : ℕ) where
  abbrev v : Record
  v = record_of t p

  long : length v.row ≡ 32
  long = row-length t p z.sized there

  -- ---- 5 Drop
  pub drop-moved : c < 32 → keeper_of t.tray c ≢ p → Moved n t g (put_back t (holds v c no_cell)) g nothing
  unfolding record_of cell_of
  drop-moved h ne =
      alone-moved n t g z p there (holds v c no_cell) g (g p)
      (record { same-tray = refl; same_number = refl; same_length = length-set v.row c no_cell })
      refl (λ q ne. refl)
      (forgets new (λ b k i. elim (ℕ_discrete b c) [ yes e ↦ clash (cc (here, ap new e)) | no nc ↦ sym (elsewhere b nc) ∙ i ]))
      (λ b i. elsewhere b (λ e. ne (ap (keeper_of t.tray) (sym e) ∙ i)))
    where
      new : ℕ → machine.Cell words
      new = cells_of (set v.row c no_cell) (g p).source

      elsewhere : (b : ℕ) → b ≢ c → new b ≡ cells_of v.row (g p).source b
      elsewhere b nc = rw (get_or-set_other v.row c b no_cell past_cell nc)

      here : new c ≡ gone
      here = rw (get_or-set_same v.row c no_cell past_cell (omega (arith, long)))

  -- ---- an idle desk
  module _ (idle : waits v.seat.slot ≡ false) where
    none : (rows t g p).slot ≡ empty
    none = empty-slot v.seat.slot (g p).answer idle

    -- 1 Read of a held cell
    pub read-moved : (cell_at v.row c).held ≡ true
        → Moved n t g (put_back t v) g (showed p c (cell_at v.row c).word ((g p).source c) n)
    read-moved h =
        let x = cell_at v.row c in
        alone-moved n t g z p there v g (g p) (seat-same v v.seat) refl (λ q ne. refl)
        (reads c (held_of ((g p).source c) x.word x.stamp) (rows t g p).cells none (held-cell x ((g p).source c) h) (λ b k e. e))
        (λ b k. refl)

    -- 1 Read of a cell not held, 2 Write of a cell not kept: the slot is filled
    asks-moved : (s : Slot)
        → Becomes n t g p (machine.asking n (rows t g p) (slot_for s.kind s (g p).answer) (rows t g p).cells) nothing zeros
        → Moved n t g (put_back t (slotted v s)) (changed g p (waiting (g p) n)) nothing
    unfolding record_of
    asks-moved s m =
        let b = waiting (g p) n in
        alone-moved n t g z p there (slotted v s) (changed g p b) b (seat-same v _)
        (changed-here g p b) (changed-elsewhere g p b) m (λ b k. refl)

    pub read-asked-moved : Moved n t g (put_back t (slotted v (read_asked c))) (changed g p (waiting (g p) n)) nothing
    unfolding slot_for
    read-asked-moved = asks-moved (read_asked c) (asks_read c (rows t g p).cells none (λ b k e. e))

    -- 2 Write
    module _ (w : Word) where
      up : number (next_clock v) ≡ machine.raised p (number v.seat.clock)
      unfolding record_of
      up = raised-numbers p v.seat.clock (omega (arith, z.clocks p there))

      pub write-asked-moved : Moved n t g (put_back t (slotted v (write_asked c w (next_clock v)))) (changed g p (waiting (g p) n)) nothing
      unfolding slot_for
      write-asked-moved = asks-moved (write_asked c w (next_clock v)) (rw up (asks_write c w (rows t g p).cells none (λ b k e. e)))

      abbrev cell : Cell
      cell = held_cell w (next_clock v)

      abbrev after : Record
      after = stores (with_seat v (with_clock v.seat (next_clock v))) c w

      pub write-moved : c < 32 → keeper_of t.tray c ≡ p → (cell_at v.row c).held ≡ true
          → Moved n t g (put_back t after) (changed g p (holding (g p) c (from n))) (wrote p c w n)
      unfolding record_of cell_of put_back raised
      write-moved h mine had = record {
        learned = stamped.stamp;
        move = writes p c w new record {
          idle = none;
          stores =
              causal.stores (keeper_of t.tray) (rows t g) (rows (put_back t after) g') p c stamped zeros new v.seat.served mine
              (held_of ((g p).source c) (cell_at v.row c).word (cell_at v.row c).stamp) (held-cell (cell_at v.row c) ((g p).source c) had)
              (set_here v.row (g p).source c cell (from n) (omega (arith, long, length-set v.row c cell))
              ∙ ap (λ (k : ℕ → ℕ). held (machine.stored n w k)) up)
              (λ b ne.
              fate-same (keeper_of t.tray) (rows t g) p zeros new b (set_there v.row (g p).source c cell (from n) b ne)
              (λ _ k e. never k.stamp))
              (row_is (put_back t after) g' p (put_same t p after z.sized there stays) (changed-here g p b)
              ∙ ap (λ (k : ℕ → ℕ). machine.storing (rows t g p) (machine.stored n w k) new v.seat.served) up)
              (λ q ne. ap (λ (d : machine.Desk words). d.cells) (rest q ne));
          rest = rest;
        };
      }
        where
          b : Trail
          b = holding (g p) c (from n)

          g' : Trails
          g' = changed g p b

          new : ℕ → machine.Cell words
          new = cells_of (set v.row c cell) b.source

          stamped : Held words
          stamped = machine.stored n w (machine.raised p (number v.seat.clock))

          stays : SameDesk v after
          stays = record { same-tray = refl; same_number = refl; same_length = length-set v.row c cell }

          rest : (q : ℕ) → q ≢ p → rows (put_back t after) g' q ≡ rows t g q
          rest q ne = row_is (put_back t after) g' q (put_other t p after z.sized there stays q ne) (changed-elsewhere g p b q ne)
