-- At one moment: what clocks and stamps know.
-- Assumes nothing.
use Rattle.std.proofs.Math.Path.{◌≡◌, fun_ext}
use Rattle.std.proofs.Common.{sym, ap, subst, ◌∙◌, inl, inr}
use Rattle.std.specs.Prelude.{Bool, true, ◌⊎◌, ℕ, suc, ◌<◌}
use native.Mathlib.Omega.{arith}
use Rattle.std.proofs.Math.Decide.{dec_le, ℕ_discrete}
use Rattle.theory_causal.specs.Changed.{changed-here, changed-elsewhere}
use Rattle.theory_causal.specs.History.{Words, write, Source, blank, from, History, Writes}
use Rattle.theory_causal.specs.Facts.{Clock, ◌≼◌, zeros, Knows, Closed, stamp_of, Stored, After, Fresh, known, writing}
use Rattle.theory_causal.specs.Machine.{merged, raised, Held, Slot, empty, read_asked, write-asked}
use Rattle.theory_causal.specs.Machine.{read-answered, write-answered, State}
use Rattle.theory_causal.specs.Invariants.{Moment, Good, Genuine, Level, Sent, Answer, Slotted, Inv}

-- ---- clocks
pub raised-grows : (p : ℕ) (a : Clock) → a ≼ raised p a
raised-grows p a j =
    elim (ℕ_discrete j p) [
      | yes e ↦ rw e (omega (arith, changed-here a p (suc (a p))))
      | no ne ↦ omega (arith, changed-elsewhere a p (suc (a p)) j ne)
    ]

-- a larger clock is the merge
pub merged-up : {a b : Clock} → a ≼ b → merged a b ≡ b
merged-up le = fun_ext (λ j. omega (arith, le j))

-- ---- a merge knows what either knows
module _ {W : Words} (H : History W) (know : ℕ → Clock) {t : ℕ} where
  closed-merged : {a b : Clock} → Closed H know t a → Closed H know t b → Closed H know t (merged a b)
  closed-merged {a} {b} h i w lt k n j =
      elim (dec_le (know w (H w).desk) (a (H w).desk)) [
        | yes le ↦ omega (arith, h w lt k le j)
        | no gt ↦ omega (arith, i w lt k (omega arith) j)
      ]

  pub fresh-merged : {c : ℕ} (s : Source) (a b : Clock) → Fresh H know t c s a → Fresh H know t c s b → Fresh H know t c s (merged a b)
  fresh-merged s a b h i w lt k f n =
      elim (dec_le (know w (H w).desk) (a (H w).desk)) [
        | yes le ↦ h w lt k f le
        | no gt ↦ i w lt k f (omega arith)
      ]

  pub fresh-under : {c : ℕ} (s : Source) (a b : Clock) → a ≼ b → Fresh H know t c s b → Fresh H know t c s a
  fresh-under s a b le h w lt k f n = h w lt k f (omega (arith, le (H w).desk))

module _ {W : Words} {M : Moment W} where
  open M use {history as H, know, now as t, own}

  pub good-merged : {a b : Clock} → Good M a → Good M b → Good M (merged a b)
  good-merged h i = record { closed = closed-merged H know h.closed i.closed; below = λ j. omega (arith, h.below j, i.below j) }

  pub sent-merged : (p : ℕ) {a b : Clock} → Good M a → Sent M p b → Sent M p (merged a b)
  sent-merged p g s = record {
    number = omega (arith, g.below p, s.number);
    below = λ j ne. omega (arith, g.below j, s.below j ne);
    closed = closed-merged H know g.closed s.closed;
    seen = λ j. omega (arith, s.seen j);
  }

  -- ---- what a desk waits for does not change when its clock grows, if *served* goes on
  module _ (p : ℕ) (a b : Clock) (off on : Bool) where
    mute : on ≡ true → {c : ℕ} {g : Held W} → Answer M p a off c g → Answer M p b on c g
    mute e r = record {
      genuine = r.genuine;
      fresh = r.fresh;
      still = λ f. let z : ◌≡◌ {A = ℕ} 0 1 = cc in absurd (omega arith);
    }

    pub serve : (asked : ℕ) (s : Slot W) → (s ≡ empty) ⊎ (on ≡ true) → (Level M p a → Level M p b)
        → Slotted M p a off asked s → Slotted M p b on asked s
    unfolding Slotted
    serve asked empty i up h = up h
    serve asked (read_asked c) i up h = (up h.0, h.1)
    serve asked (write-asked c w sent) i up h = (up h.0, h.1, h.2)
    serve asked (read-answered c g) (inl e) up h = let z : ◌≡◌ {A = ℕ} 0 1 = cc in absurd (omega arith)
    serve asked (read-answered c g) (inr e) up h = (up h.0, h.1, mute e h.2)
    serve asked (write-answered c g) (inl e) up h = let z : ◌≡◌ {A = ℕ} 0 1 = cc in absurd (omega arith)
    serve asked (write-answered c g) (inr e) up h = (mute e h.0, h.1, h.2)

module _ {W : Words} {M : Moment W} {S : State W} (I : Inv M S) where
  open M use {history as H, know, now as t, own}

  good-zeros : Good M zeros
  good-zeros = record { closed = λ w lt k h. absurd (omega (arith, I.counted w lt k)); below = λ j. omega arith }

  good-source : (c : ℕ) (s : Source) → Stored H t c s → Good M (stamp_of know s)
  unfolding stamp_of Stored
  good-source c blank h = good-zeros
  good-source c (from v) h =
      let o = writing H h.1.0 in
      record {
        closed = λ w lt k. λ n. (known H know w v k o (I.told w lt (writing H k)) (I.told v h.0 o) n).1;
        below = λ j. omega (arith, I.past v h.0 o j, (I.owns (H v).desk).below j);
      }

  pub good-stamp : {c : ℕ} {g : Held W} → Genuine M c g → Good M g.stamp
  good-stamp {c} {g} e = subst (Good M) (sym e.stamp) (good-source c g.source e.stored)

  -- a cell's later write knows the source, and has a number that the source does not
  passed-source : (c : ℕ) (s : Source) → Stored H t c s → (w : ℕ) → w < t → Writes H c w → After s w
      → stamp_of know s ≼ know w × (stamp_of know s (H w).desk < know w (H w).desk)
  unfolding stamp_of Stored After
  passed-source c blank h w lt k a = (λ j. omega arith, I.counted w lt k.0)
  passed-source c (from v) h w lt k a =
      let i = I.told w lt (writing H k.0) in
      (i.climbs c k v a h.1, i.new k.0 v a (writing H h.1.0))

  pub passed : {c : ℕ} {g : Held W} → Genuine M c g → (w : ℕ) → w < t → Writes H c w → After g.source w
      → g.stamp ≼ know w × (g.stamp (H w).desk < know w (H w).desk)
  passed {c} {g} e w lt k a = rw e.stamp (passed-source c g.source e.stored w lt k a)

  -- so it is fresh for its own stamp
  pub fresh-stamp : {c : ℕ} {g : Held W} → Genuine M c g → Fresh H know t c g.source g.stamp
  fresh-stamp e w lt k a n = omega (arith, (passed e w lt k a).1)

  -- ---- sent clocks: the raised number is of no write so far
  pub raised-knows : (p : ℕ) {a : Clock} → Level M p a → (w : ℕ) → w < t → (H w).kind ≡ write
      → Knows H know (raised p a) w → Knows H know a w
  raised-knows p {a} l w lt k n =
      elim (ℕ_discrete (H w).desk p) [
        | yes e ↦ omega (arith, I.past w lt (writing H k) (H w).desk, ap (λ (q : ℕ). own q q) e, ap a e, l.number)
        | no ne ↦ omega (arith, changed-elsewhere a p (suc (a p)) (H w).desk ne)
      ]

  pub sent-raised : (p : ℕ) {a : Clock} → Good M a → Level M p a → Sent M p (raised p a)
  sent-raised p {a} g l = record {
    number = changed-here a p (suc (a p)) ∙ ap suc l.number;
    below = λ j ne. omega (arith, changed-elsewhere a p (suc (a p)) j ne, g.below j);
    closed = λ w lt k n j. omega (arith, g.closed w lt k (raised-knows p l w lt k n) j, raised-grows p a j);
    seen = λ j. omega (arith, l.seen j, raised-grows p a j);
  }
