-- 3 Take as a move: desk p's request reaches keeper k.
-- Assumes nothing.
use Rattle.std.specs.Prelude.{◌≡◌, Bool, ◌||◌, ◌⊎◌, ◌≢◌}
use Rattle.std.proofs.Math.Path.{refl, ap}
use Rattle.std.proofs.Common.{sym, ◌∙◌, arith}
use Rattle.std.proofs.Math.Bool.{true, false, or-true}
use Rattle.std.proofs.Math.Logic.{inl, inr}
use Prim.Native.Nat.{ℕ, ◌<◌}
use Rattle.std.proofs.Math.Decide.{ℕ_discrete}
use Rattle.theory_causal.specs.Changed.{changed, changed-here, changed-elsewhere}
use Rattle.theory_causal.specs.Facts.{zeros}
use Rattle.theory_causal.specs.History.{from, nothing, wrote}
use Rattle.theory_causal.specs.Keepers as causal
use Rattle.theory_causal.specs.Machine.{Held, held, empty, read_asked, write-asked, read-answered, write-answered, answers, alone}
use Rattle.theory_causal.specs.Machine as machine
use Rattle.clock.specs.Clock.{number}
use Rattle.desk.specs.declared.Message.{Message}
use Rattle.desk.specs.declared.Record.{Record}
use Rattle.desk.specs.declared.Slot.{Slot}
use Rattle.desk.specs.Desk.{cell_at, keeper_of, waits}
use Rattle.desk.specs.Rules.{learns, takes}
use Rattle.desk.specs.SameDesk.{SameDesk, seat-same, takes_same}
use Rattle.desk.specs.SoundLaws.{RowRule}
use Rattle.table.specs.declared.Table.{Table}
use Rattle.table.specs.Room.{Room}
use Rattle.table.specs.Rows.{row-length}
use Rattle.table.specs.Rules.{answered as with_answer}
use Rattle.table.specs.Table.{record_of, put_back}
use Rattle.table.specs.Touch.{taken-asker, taken-keeper, taken-rest}
use Rattle.theory_promise.specs.Moves.{Moved}
use Rattle.theory_promise.specs.Operations.{words, Trail, Trails, holding, answered}
use Rattle.theory_promise.specs.State.{held_of, cell_of, slot_for, cells_of, row_of, rows, state, row_is, empty-slot, merged-numbers, held-cell}
use Rattle.theory_promise.specs.State.{set_here, fate-learned}

-- ---- the rows after it: keeper k's record is u, and answer s stands in desk p's slot
pub record Two (k p : ℕ) : Type 0 where
  pub keeper : k < 8
  pub asker : p < 8
  pub apart : p ≢ k

abbrev taken : Table → Record → (desk : ℕ) → Slot → Table
taken t u p s = put_back (put_back t u) (with_answer (record_of (put_back t u) p) s)

module _ (t : Table) (z : Room t) {k p : ℕ} (two : Two k p) (u : Record) (stays : SameDesk (record_of t k) u) (s : Slot) where
  module _ (g : Trails) where
    keeper-row : {b : Trail} → g k ≡ b → rows (taken t u p s) g k ≡ row_of u b
    keeper-row = row_is (taken t u p s) g k (taken-keeper t z.sized k p two.keeper two.asker two.apart u stays s)

    asker-row : {b : Trail} → g p ≡ b → rows (taken t u p s) g p ≡ row_of (with_answer (record_of t p) s) b
    asker-row = row_is (taken t u p s) g p (taken-asker t z.sized k p two.keeper two.asker two.apart u stays s)

    rest-row : (q : ℕ) → q ≢ k → q ≢ p → {b : Trail} → g q ≡ b → rows (taken t u p s) g q ≡ row_of (record_of t q) b
    rest-row q nk np = row_is (taken t u p s) g q (taken-rest t z.sized k p two.keeper two.asker two.apart u stays s q nk np)

module _ (n : ℕ) (t : Table) (g : Trails) (z : Room t) (k p : ℕ) (two : Two k p)
    (m : Message) (mine : keeper_of t.tray m.cell ≡ k) (h : m.cell < 32)
    (had : (cell_at (record_of t k).row m.cell).held ≡ true) where
  abbrev v : Record
  v = record_of t k

  -- what the keeper holds
  abbrev it : Held words
  it = held_of ((g k).source m.cell) (cell_at v.row m.cell).word (cell_at v.row m.cell).stamp

  holds-it : (rows t g k).cells m.cell ≡ held it
  holds-it = held-cell (cell_at v.row m.cell) ((g k).source m.cell) had

  -- ---- of a read
  abbrev read_answer : Slot
  read_answer = record { kind = 3; cell = m.cell; word = (cell_at v.row m.cell).word; clock = (cell_at v.row m.cell).stamp }

  pub answer-moved : (rows t g p).slot ≡ read_asked m.cell
      → Moved n t g (taken t v p read_answer) (changed g p (answered (g p) ((g k).source m.cell))) nothing
  unfolding record_of put_back slot_for
  answer-moved e = record {
    learned = zeros;
    move =
        alone p (answers m.cell e)
        (causal.changes (keeper_of t.tray) (rows t g) (rows (taken t v p read_answer) g') p
        (asker-row t z two v stays read_answer g' (changed-here g p b)
        ∙ ap (λ (x : Held words). machine.answered (rows t g p) (read-answered m.cell x)) last)
        same
        (λ c i. refl));
  }
    where
      b : Trail
      b = answered (g p) ((g k).source m.cell)

      g' : Trails
      g' = changed g p b

      stays : SameDesk v v
      stays = seat-same v v.seat

      last : it ≡ (state t g).last m.cell
      last = sym (ap (λ (q : ℕ). causal.contents ((rows t g q).cells m.cell)) mine ∙ ap causal.contents holds-it)

      same : (q : ℕ) → q ≢ p → rows (taken t v p read_answer) g' q ≡ rows t g q
      same q ne =
          elim (ℕ_discrete q k) [
            | yes e ↦ rw e (keeper-row t z two v stays read_answer g' (changed-elsewhere g p b k (λ i. two.apart (sym i))))
            | no nk ↦ rest-row t z two v stays read_answer g' q nk ne (changed-elsewhere g p b q ne)
          ]

  -- ---- of a write
  abbrev write-answer : Slot
  write-answer = record { kind = 4; cell = m.cell; word = m.word; clock = (takes v m).seat.clock }

  abbrev stamped : Held words
  stamped = machine.stored n m.word (machine.merged (number v.seat.clock) (number m.clock))

  abbrev on : Bool
  on = (takes v m).seat.served

  abbrev new : ℕ → machine.Cell words
  new = cells_of (takes v m).row (changed (g k).source m.cell (from n))

  up : number (takes v m).seat.clock ≡ stamped.stamp
  unfolding takes
  up = merged-numbers v.seat.clock m.clock

  -- another cell is kept, lost, or not strictly before the sent clock
  fate : RowRule v → (c : ℕ) → c ≢ m.cell → causal.Fate (keeper_of t.tray) (rows t g) k (number m.clock) new c
  unfolding record_of takes
  fate r = fate-learned t g k r m.clock v.row m.cell _ _ (λ c nc. refl)

  -- the word is stored
  here : new m.cell ≡ held stamped
  unfolding takes cell_of
  here =
      set_here (learns v m.clock).row (g k).source m.cell _ _
      (omega (arith, (takes_same v m).same_length, row-length t k z.sized two.keeper))
      ∙ ap (λ (a : ℕ → ℕ). held (machine.stored n m.word a)) up

  -- a keeper that waits has *served* on
  serving : ((rows t g k).slot ≡ empty) ⊎ (on ≡ true)
  unfolding takes
  serving = go (waits v.seat.slot) refl
    where
      go : (w : Bool) → waits v.seat.slot ≡ w → ((rows t g k).slot ≡ empty) ⊎ (on ≡ true)
      go true e = inr (ap (λ (w : Bool). v.seat.served || w) e ∙ or-true v.seat.served)
      go false e = inl (empty-slot v.seat.slot (g k).answer e)

  pub take-moved : RowRule v → (rows t g p).slot ≡ write-asked m.cell m.word (number m.clock)
      → Moved n t g (taken t (takes v m) p write-answer)
      (changed (changed g k (holding (g k) m.cell (from n))) p (answered (g p) (from n)))
      (wrote p m.cell m.word (g p).asked)
  unfolding record_of put_back takes slot_for cell_of
  take-moved r e = record {
    learned = stamped.stamp;
    move = machine.takes k p m.cell m.word (number m.clock) new (on) record {
      apart = two.apart;
      asks = e;
      stores =
          causal.stores (keeper_of t.tray) (rows t g) (rows after g') k m.cell stamped (number m.clock) new (on)
          mine it holds-it here (fate r)
          (keeper-row t z two (takes v m) (takes_same v m) write-answer g'
          (changed-elsewhere (changed g k b) p a k (λ e. two.apart (sym e)) ∙ changed-here g k b)
          ∙ ap (λ (a : ℕ → ℕ). machine.storing (rows t g k) (machine.stored n m.word a) new (on)) up)
          cells;
      serves = serving;
      asker = asker;
      rest = rest;
    };
  }
    where
      b : Trail
      b = holding (g k) m.cell (from n)

      a : Trail
      a = answered (g p) (from n)

      g' : Trails
      g' = changed (changed g k b) p a

      after : Table
      after = taken t (takes v m) p write-answer

      asker : rows after g' p ≡ machine.answered (rows t g p) (write-answered m.cell stamped)
      asker =
          asker-row t z two (takes v m) (takes_same v m) write-answer g' (changed-here (changed g k b) p a)
          ∙ ap (λ (a : ℕ → ℕ). machine.answered (rows t g p) (write-answered m.cell (machine.stored n m.word a))) up

      rest : (q : ℕ) → q ≢ k → q ≢ p → rows after g' q ≡ rows t g q
      rest q nk np =
          rest-row t z two (takes v m) (takes_same v m) write-answer g' q nk np
          (changed-elsewhere (changed g k b) p a q np ∙ changed-elsewhere g k b q nk)

      cells : (q : ℕ) → q ≢ k → (rows after g' q).cells ≡ (rows t g q).cells
      cells q nk =
          elim (ℕ_discrete q p) [
            | yes e ↦ rw e (ap (λ (d : machine.Desk words). d.cells) asker)
            | no np ↦ ap (λ (d : machine.Desk words). d.cells) (rest q nk np)
          ]
