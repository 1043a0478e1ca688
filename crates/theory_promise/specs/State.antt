-- A table with its trails as a state of the machine, and what becomes of a row's cells there.
-- Assumes nothing.
use Rattle.std.specs.Prelude.{◌≡◌, Bool, ◌&&◌, cond, ◌≢◌, ◌↔◌, List, ℕ, zero, suc, ◌<◌, eqb, length, set}
use Rattle.std.proofs.Math.Path.{refl, sym, fun_ext}
use Rattle.std.proofs.Common.{ap, ◌∙◌, zero-le, arith, eqb-true, length-set, get_or-set_same, get_or-set_other}
use Rattle.std.proofs.Math.Bool.{true, false, not}
use Rattle.std.proofs.Math.Decide.{ℕ_discrete, dec_lt}
use Rattle.std.proofs.lemmas.Bool.{not-true, not-false}
use Rattle.std.proofs.Math.ListN.{get_or-eq_default}
use Rattle.theory_causal.specs.Changed.{changed, changed-here, changed-elsewhere}
use Rattle.theory_causal.specs.Facts.{zeros}
use Rattle.theory_causal.specs.History.{Source, blank, from}
use Rattle.theory_causal.specs.Keepers as causal
use Rattle.theory_causal.specs.Machine.{Held, gone, held, empty, read_asked, write-asked, read-answered, write-answered, Desk, State, Earlier}
use Rattle.theory_causal.specs.Machine as machine
use Rattle.clock.specs.declared.Clock.{Clock}
use Rattle.clock.specs.Clock.{number, merged, raised}
use Rattle.clock.specs.Laws.{merge-at, raised_at, raised-other, is-before}
use Rattle.desk.specs.declared.Cell.{Cell}
use Rattle.desk.specs.declared.Record.{Record}
use Rattle.desk.specs.declared.Slot.{Slot}
use Rattle.desk.specs.declared.Tray.{Tray}
use Rattle.desk.specs.Desk.{Word, is_blank, no_cell, past_cell, cell_at, keeper_of, keeps, is_copy, is_lost, left_at, left_of, waits}
use Rattle.desk.specs.Rules.{shown_code}
use Rattle.desk.specs.SoundLaws.{blank-is, is-blank, RowRule, is-keeper, no-keeper, no_way}
use Rattle.theory_lists.specs.Each.{get_or-map_at, length-map_at}
use Rattle.theory_lists.specs.Test.{fails, both, both_left, both_right}
use Rattle.table.specs.declared.Table.{Table}
use Rattle.table.specs.Table.{record_of}
use Rattle.theory_promise.specs.Operations.{words, Trail, Trails, code_for}

-- what cannot be: two constructors that are one
pub clash : {A : Type 0} → ◌≡◌ {A = ℕ} 0 1 → A
clash z = absurd (omega arith)

-- ---- the state
abbrev pub held_of : Source → Word → Clock → Held words
held_of s w k = record { source = s; word = w; stamp = number k }

unfoldable pub cell_of : Cell → Source → machine.Cell words
cell_of x s = cond x.held (held (held_of s x.word x.stamp)) gone

-- a slot of the kind given
unfoldable pub slot_for : (kind : ℕ) → Slot → Source → machine.Slot words
slot_for zero s from-where = empty
slot_for (suc zero) s from-where = read_asked s.cell
slot_for (suc (suc zero)) s from-where = write-asked s.cell s.word (number s.clock)
slot_for (suc (suc (suc zero))) s from-where = read-answered s.cell (held_of from-where s.word s.clock)
slot_for (suc (suc (suc (suc n)))) s from-where = write-answered s.cell (held_of from-where s.word s.clock)

abbrev pub cells_of : List Cell → (ℕ → Source) → ℕ → machine.Cell words
cells_of row source c = cell_of (cell_at row c) (source c)

abbrev pub row_of : Record → Trail → Desk words
row_of v b = record {
  clock = number v.seat.clock;
  cells = cells_of v.row b.source;
  slot = slot_for v.seat.slot.kind v.seat.slot b.answer;
  served = v.seat.served;
  asked = b.asked;
}

abbrev pub rows : Table → Trails → ℕ → Desk words
rows t g p = row_of (record_of t p) (g p)

abbrev pub state : Table → Trails → State words
state t g = causal.table (keeper_of t.tray) (rows t g)

pub row_is : (t : Table) (g : Trails) (q : ℕ) {v : Record} {b : Trail} → record_of t q ≡ v → g q ≡ b → rows t g q ≡ row_of v b
row_is t g q {v} e f = ap (λ (u : Record). row_of u (g q)) e ∙ ap (row_of v) f

-- a slot that is known to be empty, or of this kind
pub slot-kind : (s : Slot) (o : Source) (kind : ℕ) → s.kind ≡ kind → slot_for s.kind s o ≡ slot_for kind s o
slot-kind s o kind e = ap (λ (k : ℕ). slot_for k s o) e

pub empty-slot : (s : Slot) (o : Source) → waits s ≡ false → slot_for s.kind s o ≡ empty
unfolding waits slot_for
empty-slot s o e = slot-kind s o 0 (eqb-true s.kind 0 (not-false (eqb s.kind 0) e))

-- ---- clocks
pub merged-numbers : (a b : Clock) → number (merged a b) ≡ machine.merged (number a) (number b)
merged-numbers a b = fun_ext (merge-at a b)

pub raised-numbers : (p : ℕ) (a : Clock) → p < length a.n → number (raised a p) ≡ machine.raised p (number a)
raised-numbers p a h =
    fun_ext
    (λ j.
    elim (ℕ_discrete j p) [
      | yes e ↦ rw (e, changed-here (number a) p (suc (number a p))) (omega (arith, raised_at a p h))
      | no ne ↦ raised-other a p j ne ∙ sym (changed-elsewhere (number a) p (suc (number a p)) j ne)
    ])

-- blank is what comes from no write: a stamp is all zeros exactly if its source is none
pub blank-from : (k : Clock) (s : Source) → ((number k ≡ zeros) ↔ (s ≡ blank)) → shown_code (is_blank k) ≡ code_for s
unfolding code_for
blank-from k blank none = rw (is-blank k (λ j _. ap (λ (f : ℕ → ℕ). f j) (none.1 refl)))
blank-from k (from w) none = rw (fails (is_blank k) (λ e. clash (cc (none.0 (fun_ext (λ j. blank-is k e j zero-le))))))

-- ---- cells
pub held-cell : (x : Cell) (s : Source) → x.held ≡ true → cell_of x s ≡ held (held_of s x.word x.stamp)
unfolding cell_of
held-cell x s e = rw e

pub gone-cell : (x : Cell) (s : Source) → x.held ≡ false → cell_of x s ≡ gone
unfolding cell_of
gone-cell x s e = rw e

-- what is held in the machine is held in the table
pub is_held : (x : Cell) (s : Source) (g : Held words) → cell_of x s ≡ held g → (x.held ≡ true) × (g ≡ held_of s x.word x.stamp)
unfolding cell_of
is_held x s g e = go x.held refl
  where
    go : (b : Bool) → x.held ≡ b → (x.held ≡ true) × (g ≡ held_of s x.word x.stamp)
    go true p = (p, cc (held-cell x s p))
    go false p = clash (cc (gone-cell x s p))

-- one place of a row is now x, from s
module _ (row : List Cell) (source : ℕ → Source) (c : ℕ) (x : Cell) (s : Source) where
  pub set_here : c < length (set row c x) → cells_of (set row c x) (changed source c s) c ≡ cell_of x s
  set_here h = rw (get_or-set_same row c x past_cell (omega (arith, length-set row c x)), changed-here source c s)

  pub set_there : (b : ℕ) → b ≢ c → cells_of (set row c x) (changed source c s) b ≡ cells_of row source b
  set_there b ne = rw (get_or-set_other row c b x past_cell ne, changed-elsewhere source c s b ne)

-- what is left of a row, at each place
pub left-at : (t : Tray) (p : ℕ) (k : Clock) (row : List Cell) (b : ℕ) → cell_at (left_of t p k row) b ≡ left_at t p k b (cell_at row b)
unfolding left_of is_lost is_copy
left-at t p k row b =
    elim (dec_lt b (length row)) [
      | yes h ↦ get_or-map_at (left_at t p k) row b past_cell past_cell h
      | no h ↦ get_or-eq_default (left_of t p k row) past_cell (omega (arith, length-map_at (left_at t p k) row))
          ∙ ap (left_at t p k b) (sym (get_or-eq_default row past_cell (omega arith)))
    ]

-- a held cell is one of the table's
held_in : (v : Record) → RowRule v → (c : ℕ) → (cell_at v.row c).held ≡ true → c < v.tray.counts.cells
held_in v r c e =
    elim (dec_lt c (length v.row)) [
      | yes h ↦ ((r.cell-is c h).used e).1
      | no h ↦ no_way false (rw (get_or-eq_default v.row past_cell {n = c} (omega arith)) at e) refl
    ]

-- ---- fates
module _ (keeper : ℕ → ℕ) (rows : ℕ → Desk words) (p : ℕ) (a : ℕ → ℕ) (new : ℕ → machine.Cell words) where
  -- a cell that is as it was: a copy must not be strictly before what was learned
  pub fate-same : (b : ℕ) → new b ≡ (rows p).cells b
      → (keeper b ≢ p → (g : Held words) → (rows p).cells b ≡ held g → Earlier g.stamp a → ⊥) → causal.Fate keeper rows p a new b
  fate-same b e late = elim (ℕ_discrete (keeper b) p) [ yes i ↦ causal.kept i e | no ne ↦ causal.stays ne e (late ne) ]

-- a cell of a desk that learned clock k
module _ (t : Table) (g : Trails) (p : ℕ) (r : RowRule (record_of t p)) (k : Clock) (new : ℕ → machine.Cell words) (b : ℕ) where
  fate-left : new b ≡ cell_of (left_at t.tray p k b (cell_at (record_of t p).row b)) ((g p).source b)
      → causal.Fate (keeper_of t.tray) (rows t g) p (number k) new b
  unfolding record_of is_lost is_copy cell_of
  fate-left e =
      let x = cell_at (record_of t p).row b in
      go x (held_in (record_of t p) r b) refl (is_lost t.tray p k b x) refl e
    where
      go : (x : Cell) → (x.held ≡ true → b < t.tray.counts.cells) → (rows t g p).cells b ≡ cell_of x ((g p).source b)
          → (y : Bool) → is_lost t.tray p k b x ≡ y → new b ≡ cell_of (cond y no_cell x) ((g p).source b)
          → causal.Fate (keeper_of t.tray) (rows t g) p (number k) new b
      go x in-range old true i e =
          let copy : (x.held && not (keeps t.tray p b)) ≡ true = search both_left in
          causal.lost
          (no-keeper t.tray p b (not-true (keeps t.tray p b) (both_right x.held (not (keeps t.tray p b)) copy))
          (in-range (both_left x.held (not (keeps t.tray p b)) copy)))
          e
      go x in-range old false i e =
          fate-same (keeper_of t.tray) (rows t g) p (number k) new b (e ∙ sym old)
          (λ ne h eq early.
          let was = is_held x ((g p).source b) h (sym old ∙ eq) in
          let mine = fails (keeps t.tray p b) (λ q. ne (is-keeper t.tray p b q)) in
          let early' : Earlier (number x.stamp) (number k) = rw was.1 at early in
          no_way (is_lost t.tray p k b x)
          (both (both was.0 (ap not mine)) (is-before x.stamp k early'.1.0 early'.0 early'.1.1))
          i)

-- Desk p learned clock k, with a row that was its own but perhaps at c, and then its cell c became x, from s.
pub fate-learned : (t : Table) (g : Trails) (p : ℕ) → RowRule (record_of t p) → (k : Clock) (row : List Cell) (c : ℕ) (x : Cell) (s : Source)
    → ((b : ℕ) → b ≢ c → cell_at row b ≡ cell_at (record_of t p).row b) → (b : ℕ) → b ≢ c
    → causal.Fate (keeper_of t.tray) (rows t g) p (number k) (cells_of (set (left_of t.tray p k row) c x) (changed (g p).source c s)) b
fate-learned t g p r k row c x s same b ne =
    fate-left t g p r k (cells_of (set (left_of t.tray p k row) c x) (changed (g p).source c s)) b
    (set_there (left_of t.tray p k row) (g p).source c x s b ne ∙ rw (left-at t.tray p k row b, same b ne))
