-- A fresh table, with no write behind any word, is a start of the machine.
-- Assumes nothing.
use Rattle.std.specs.Prelude.{◌≡◌, Bool, true, false, List, ℕ, ◌+◌, ◌*◌, ◌/◌, ◌%◌, ◌<◌, length, get_or, replicate, take}
use Rattle.std.proofs.Math.Path.{refl, fun_ext}
use Rattle.std.proofs.Common.{ap, ◌∙◌, zero-le, arith}
use Rattle.std.proofs.Math.Decide.{dec_lt}
use Rattle.std.proofs.lemmas.List.{get_or-replicate}
use Rattle.std.proofs.Math.ListN.{length-take, length-drop, get_or-eq_default}
use Rattle.theory_causal.specs.Facts.{zeros}
use Rattle.theory_causal.specs.History.{blank}
use Rattle.theory_causal.specs.Keepers as causal
use Rattle.theory_causal.specs.Machine.{Held, held, empty, unwritten, Start}
use Rattle.clock.specs.declared.Clock.{Clock}
use Rattle.clock.specs.Clock.{number, zero_clock}
use Rattle.clock.specs.Laws.{zero-past}
use Rattle.desk.specs.declared.Cell.{Cell}
use Rattle.desk.specs.declared.Seat.{Seat}
use Rattle.desk.specs.declared.Tray.{Tray}
use Rattle.desk.specs.Desk.{no_word, no_cell, no_seat, past_cell, past_seat, cell_at, keeper_of, keeps, held_cell}
use Rattle.theory_lists.specs.Each.{map_at, length-map_at, get_or-map_at}
use Rattle.theory_lists.specs.Test.{whichever}
use Rattle.table.specs.SetUp.{fresh_cell, fresh_table}
use Rattle.table.specs.SoundLaws.{entry-is}
use Rattle.table.specs.Table.{seat_of, record_of}
use Rattle.theory_promise.specs.Operations.{words, opened}
use Rattle.theory_promise.specs.State.{held_of, cell_of, slot_for, state, held-cell, gone-cell, is_held}

-- what holds of each entry of a list and of what stands past its end holds at any place
anywhere : {A : Type 0} (P : A → Type 0) (l : List A) (d : A) → P d → ((k : ℕ) → k < length l → P (get_or l k d)) → (k : ℕ) → P (get_or l k d)
anywhere P l d past all k =
    elim (dec_lt k (length l)) [ yes h ↦ all k h | no h ↦ rw (get_or-eq_default l d {n = k} (omega arith)) past ]

-- ---- no word, and a clock of zeros
abbrev Zero : Clock → Type 0
Zero k = number k ≡ zeros

zero-clock : Zero zero_clock
zero-clock = fun_ext (λ j. zero-past 0 j zero-le)

abbrev Blank : Cell → Type 0
Blank x = (x.word ≡ no_word) × Zero x.stamp

blank-held : (x : Cell) (g : Held words) → Blank x → cell_of x blank ≡ held g → g ≡ unwritten
blank-held x g b e = (is_held x blank g e).1 ∙ (λ i. record { source = blank; word = b.0 i; stamp = b.1 i })

blank-contents : (x : Cell) → Blank x → causal.contents (cell_of x blank) ≡ unwritten
unfolding cell_of
blank-contents x b = go x.held refl
  where
    go : (h : Bool) → x.held ≡ h → causal.contents (cell_of x blank) ≡ unwritten
    go true h = ap causal.contents (held-cell x blank h) ∙ blank-held x (held_of blank x.word x.stamp) b (held-cell x blank h)
    go false h = ap causal.contents (gone-cell x blank h)

-- ---- a fresh table
module _ (t : Tray) where
  abbrev entries : List Cell
  entries = map_at (λ i _. fresh_cell t i) (replicate 256 no_cell)

  entry : (k : ℕ) → Blank (get_or entries k past_cell)
  entry =
      anywhere Blank entries past_cell (refl, refl)
      (λ k h.
      rw
      (get_or-map_at (λ i _. fresh_cell t i) (replicate 256 no_cell) k past_cell past_cell
      (omega (arith, length-map_at (λ i _. fresh_cell t i) (replicate 256 no_cell))))
      (whichever Blank (keeps t (k / 32) (k % 32)) (held_cell no_word zero_clock) no_cell (refl, zero-clock) (refl, zero-clock)))

  blank-cell : (p c : ℕ) → Blank (cell_at (record_of (fresh_table t) p).row c)
  unfolding record_of fresh_table
  blank-cell p =
      anywhere Blank (record_of (fresh_table t) p).row past_cell (refl, refl)
      (λ c h.
      rw
      (entry-is (fresh_table t) p c (omega (arith, length-drop (p * 32) (take (p * 32 + 32) entries), length-take (p * 32 + 32) entries)))
      (entry (p * 32 + c)))

  seat : (P : Seat → Type 0) → P past_seat → P no_seat → (p : ℕ) → P (seat_of (fresh_table t) p)
  unfolding fresh_table
  seat P past here = anywhere P (replicate 8 no_seat) past_seat past (λ p h. rw (get_or-replicate 8 p no_seat past_seat h) here)

  pub start : Start (state (fresh_table t) (opened (fresh_table t)).trails)
  unfolding record_of fresh_table slot_for
  start = record {
    clock = seat (λ s. Zero s.clock) refl zero-clock;
    slot = seat (λ s. slot_for s.slot.kind s.slot blank ≡ empty) refl refl;
    cells = λ p c g. blank-held (cell_at (record_of (fresh_table t) p).row c) g (blank-cell p c);
    last = λ c. let k = keeper_of t c in blank-contents (cell_at (record_of (fresh_table t) k).row c) (blank-cell k c);
  }
