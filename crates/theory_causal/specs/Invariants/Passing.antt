-- From one moment to the next: what no move at this step touches stays true.
-- Assumes nothing.
use Rattle.std.specs.Prelude.{◌≡◌, Bool, ◌≢◌, ℕ, suc, ◌≤◌, ◌<◌}
use Rattle.std.proofs.Common.{sym, subst, ⊎_elim, eq-or-lt_of_le, le_of_suc-le-suc}
use Rattle.std.proofs.Math.Path.{fun_ext}
use native.Mathlib.Omega.{arith}
use Rattle.std.proofs.Math.Decide.{ℕ_discrete}
use Rattle.theory_causal.specs.Changed.{changed, changed-here, changed-elsewhere}
use Rattle.theory_causal.specs.History.{Words, write, Source, blank, from, Operation, Writes}
use Rattle.theory_causal.specs.Facts.{Clock, ◌≼◌, zeros, Knows, Closed, Stored, After, Fresh, writing}
use Rattle.theory_causal.specs.Machine.{merged, Held, Cell, Slot, empty, read_asked, write-asked, read-answered, write-answered, Desk}
use Rattle.theory_causal.specs.Invariants.{Moment, Genuine, Last, Copy, Good, Shelf, Level, Pending, Sent, Answer, Slotted, Fine}

-- ---- what desks' own operations know, after desk p's learned a clock
unfoldable pub taught : (ℕ → Clock) → (desk : ℕ) → Clock → ℕ → Clock
taught own p a = changed own p (merged (own p) a)

module _ (own : ℕ → Clock) (p : ℕ) (a : Clock) where
  pub taught-self : taught own p a p ≡ merged (own p) a
  unfolding taught
  taught-self = changed-here own p (merged (own p) a)

  pub taught-other : (q : ℕ) → q ≢ p → taught own p a q ≡ own q
  unfolding taught
  taught-other = changed-elsewhere own p (merged (own p) a)

  pub taught-grows : (q : ℕ) → own q ≼ taught own p a q
  taught-grows q j =
      elim (ℕ_discrete q p) [
        | yes e ↦ rw (e, taught-self) (omega arith)
        | no ne ↦ rw (taught-other q ne) (omega arith)
      ]

-- learning nothing
pub taught-zeros : (own : ℕ → Clock) (p : ℕ) → taught own p zeros ≡ own
taught-zeros own p =
    fun_ext
    (λ q.
    elim (ℕ_discrete q p) [
      | yes e ↦ rw (e, taught-self own p zeros) (fun_ext (λ j. omega arith))
      | no ne ↦ taught-other own p zeros q ne
    ])

-- ---- the next moment
abbrev pub later : {W : Words} → Moment W → (ℕ → Clock) → Moment W
later M own = record { history = M.history; know = M.know; now = suc M.now; own = own }

-- what holds of all before t, and at t
pub passing : {t : ℕ} (P : ℕ → Type 0) → P t → ((w : ℕ) → w < t → P w) → (w : ℕ) → w < suc t → P w
passing P here h w lt = ⊎_elim (λ e. subst P (sym e) here) (h w) (eq-or-lt_of_le (le_of_suc-le-suc lt))

module _ {W : Words} (M : Moment W) (after : ℕ → Clock) where
  open M use {history as H, know, now as t, own}

  pub closed-next : (a : Clock) → ((H t).kind ≡ write → Knows H know a t → know t ≼ a) → Closed H know t a → Closed H know (suc t) a
  closed-next a = passing (λ (w : ℕ). (H w).kind ≡ write → Knows H know a w → know w ≼ a)

  pub fresh-next : (c : ℕ) (s : Source) (a : Clock) → (Writes H c t → After s t → Knows H know a t → ⊥)
      → Fresh H know t c s a → Fresh H know (suc t) c s a
  fresh-next c s a = passing (λ (w : ℕ). Writes H c w → After s w → Knows H know a w → ⊥)

  stored_next : (c : ℕ) (s : Source) → Stored H t c s → Stored H (suc t) c s
  unfolding Stored
  stored_next c blank h = h
  stored_next c (from w) h = (omega arith, h.1)

  pub genuine-next : {c : ℕ} {g : Held W} → Genuine M c g → Genuine (later M after) c g
  genuine-next {c} {g} e = record { stored = stored_next c g.source e.stored; stamp = e.stamp; word = e.word }

  pub last-next : {c : ℕ} {g : Held W} → (Writes H c t → ⊥) → Last M c g → Last (later M after) c g
  last-next {c} {g} other l = record {
    genuine = genuine-next l.genuine;
    top = passing (λ (w : ℕ). Writes H c w → After g.source w → ⊥) (λ k f. other k) l.top;
  }

  -- ---- desks' own operations know no less, and a write at this step has a number that nobody knew
  pub record Passes : Type 0 where
    pub up : (q : ℕ) → own q ≼ after q
    pub new : (H t).kind ≡ write → own (H t).desk (H t).desk < know t (H t).desk

module _ {W : Words} {M : Moment W} {after : ℕ → Clock} (s : Passes M after) where
  open M use {history as H, know, now as t, own}

  unknown : (a : Clock) → ((j : ℕ) → a j ≤ own j j) → (H t).kind ≡ write → Knows H know a t → ⊥
  unknown a b k n = omega (arith, s.new k, b (H t).desk)

  pub good-next : {a : Clock} → Good M a → Good (later M after) a
  good-next {a} g = record {
    closed = closed-next M after a (λ k n. absurd (unknown a g.below k n)) g.closed;
    below = λ j. omega (arith, g.below j, s.up j j);
  }

  copy-next : {a : Clock} {c : ℕ} {g : Held W} → Good M a → Copy M a c g → Copy (later M after) a c g
  copy-next {a} {c} {g} b e = record {
    genuine = genuine-next M after e.genuine;
    under = e.under;
    fresh = fresh-next M after c g.source a (λ k f. unknown a b.below k.0) e.fresh;
  }

  pub shelf-next : {a : Clock} {cells : ℕ → Cell W} → Shelf M a cells → Shelf (later M after) a cells
  shelf-next h = record { good = good-next h.good; copies = λ c g i. copy-next h.good (h.copies c g i) }

  -- ---- a desk that does no operation at this step
  module _ (p : ℕ) (same : after p ≡ own p) (owns : Good M (own p)) (idle : Operation H t → (H t).desk ≢ p) where
    level-next : {a : Clock} → Level M p a → Level (later M after) p a
    level-next l = record { number = rw same l.number; seen = rw same l.seen }

    pending_next : {asked : ℕ} → Pending M p asked → Pending (later M after) p asked
    pending_next {asked} w = record {
      since = omega arith;
      first = passing (λ (x : ℕ). Operation H x → (H x).desk ≡ p → (H x).asked < asked) (λ o e. absurd (idle o e)) w.first;
    }

    sent-next : {a : Clock} → Sent M p a → Sent (later M after) p a
    sent-next {a} h = record {
      number = rw same h.number;
      below = λ j ne. omega (arith, h.below j ne, s.up j j);
      closed = closed-next M after a (λ k n. absurd (omega (arith, s.new k, h.below (H t).desk (idle (writing H k))))) h.closed;
      seen = rw same h.seen;
    }

    answer-next : {a : Clock} {on : Bool} {c : ℕ} {g : Held W} → Good M a → Answer M p a on c g → Answer (later M after) p a on c g
    answer-next {a} {on} {c} {g} b r = record {
      genuine = genuine-next M after r.genuine;
      fresh = rw same (fresh-next M after c g.source (own p) (λ k f. unknown (own p) owns.below k.0) r.fresh);
      still = λ off. fresh-next M after c g.source a (λ k f. unknown a b.below k.0) (r.still off);
    }

    slotted-next : {a : Clock} (on : Bool) (asked : ℕ) (q : Slot W) → Good M a → Slotted M p a on asked q
        → Slotted (later M after) p a on asked q
    unfolding Slotted
    slotted-next on asked empty b l = level-next l
    slotted-next on asked (read_asked c) b h = (level-next h.0, pending_next h.1)
    slotted-next on asked (write-asked c w sent) b h = (level-next h.0, pending_next h.1, sent-next h.2)
    slotted-next on asked (read-answered c g) b h = (level-next h.0, pending_next h.1, answer-next b h.2)
    slotted-next on asked (write-answered c g) b h = (answer-next b h.0, rw same h.1, rw same h.2)

    pub fine-next : {d : Desk W} → Fine M p d → Fine (later M after) p d
    fine-next {d} f = record {
      shelf = shelf-next f.shelf;
      slot = slotted-next d.served d.asked d.slot f.shelf.good f.slot;
    }
