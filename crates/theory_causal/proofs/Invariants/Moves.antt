-- Every move of the machine keeps the invariants.
-- Assumes nothing.
use Rattle.std.specs.Prelude.{◌≡◌, Bool, ◌≢◌, ℕ, ◌<◌}
use Rattle.std.proofs.Math.Path.{refl}
use Rattle.std.proofs.Common.{sym, subst, arith}
use Rattle.std.proofs.Math.Decide.{ℕ_discrete}
use Rattle.theory_causal.specs.History.{Words, Step, wrote, Operation}
use Rattle.theory_causal.specs.Facts.{Clock}
use Rattle.theory_causal.specs.Machine.{merged, raised, Held, Cell, Slot, empty, Desk, State, Was, Brings, Own, forgets, asks_read}
use Rattle.theory_causal.specs.Machine.{asks_write, answers, reads, brings-read, brings-write, Changes, OwnWrite, Take, Move}
use Rattle.theory_causal.specs.Machine.{alone, writes, takes}
use Rattle.theory_causal.specs.Invariants.{Moment, Shelf, Level, Pending, Sent, Answer, Slotted, Fine, Inv}
use Rattle.theory_causal.specs.Invariants.Learned.{raised-grows, fresh-under, sent-merged, serve, good-stamp, raised-knows, sent-raised}
use Rattle.theory_causal.specs.Invariants.Passing.{taught, taught-grows, later}
use Rattle.theory_causal.specs.Invariants.Steps.{here, spread, quietly}
use Rattle.theory_causal.specs.Invariants.Shows.{shows}
use Rattle.theory_causal.specs.Invariants.Stows.{Stowed, stows}
use Rattle.theory_causal.proofs.Invariants.Learned.{spared-fresh, shelf-learns}

module _ {W : Words} {M : Moment W} {S : State W} (I : Inv M S) where
  open M use {history as H, know, now as t, own}

  -- ---- what is known of a desk by what it waits for
  pub waits : (p : ℕ) {s : Slot W} → (S.desks p).slot ≡ s → Slotted M p (S.desks p).clock (S.desks p).served (S.desks p).asked s
  waits p e = subst (Slotted M p (S.desks p).clock (S.desks p).served (S.desks p).asked) e (I.desks p).slot

  level-of : (p : ℕ) → (S.desks p).slot ≡ empty → Level M p (S.desks p).clock
  unfolding Slotted
  level-of p e = waits p e

  -- an idle desk asks after all that it has done
  idle-asks : (y : ℕ) → y < t → Operation H y → (H y).asked < t
  idle-asks y lt o = omega (arith, I.asked y lt o)

  asks-now : (p : ℕ) → Pending M p t
  asks-now p = record { since = omega arith; first = λ x lt o e. idle-asks x lt o }

  -- what stands last in a cell answers a read of it
  answer-last : (p c : ℕ) → Answer M p (S.desks p).clock (S.desks p).served c (S.last c)
  answer-last p c =
      let l = I.lasts c in
      record { genuine = l.genuine; fresh = λ w lt k f n. l.top w lt k f; still = λ off w lt k f n. l.top w lt k f }

  -- what becomes of the shelf
  loses : (p : ℕ) {new : ℕ → Cell W} → ((b : ℕ) → Was (S.desks p).cells new b) → Shelf M (S.desks p).clock new
  loses p was = let s = (I.desks p).shelf in record { good = s.good; copies = λ c g h. s.copies c g (was c g h) }

  brings : (p c : ℕ) {g : Held W} {new : ℕ → Cell W} → Answer M p (S.desks p).clock (S.desks p).served c g
      → Brings S.last (S.desks p) c g new
      → Shelf M (merged (S.desks p).clock g.stamp) new
  brings p c r b =
      shelf-learns I c (I.desks p).shelf r.genuine b.was b.spared (λ h e. let (i, off) = b.named h e in (i, r.still off))

  module _ (S' : State W) where
    -- ---- moves of one desk
    keeps-own : (p : ℕ) {d : Desk W} {o : Step W} {a : Clock} → Own t p S.last (S.desks p) d o a
        → H t ≡ o → know t ≡ taught own o.desk a o.desk → Changes S S' p d → Inv (later M (taught own o.desk a)) S'
    unfolding Slotted
    keeps-own p (forgets new was) e k = quietly I S' e p _ (record { shelf = loses p was; slot = (I.desks p).slot })
    keeps-own p (asks_read c new idle was) e k = quietly I S' e p _ (record { shelf = loses p was; slot = (level-of p idle, asks-now p) })
    keeps-own p (asks_write c w new idle was) e k =
        let l = level-of p idle in
        quietly I S' e p _ (record { shelf = loses p was; slot = (l, asks-now p, sent-raised I p (I.desks p).shelf.good l) })
    keeps-own p (answers c asked) e k =
        let (l, w) = waits p asked in
        quietly I S' e p _ (record { shelf = (I.desks p).shelf; slot = (l, w, answer-last p c) })
    keeps-own p (reads c g new idle has was) e k =
        let l = level-of p idle in
        let copy = (I.desks p).shelf.copies c g has in
        shows I S' p c t g _ e k copy.genuine (fresh-under H know g.source (own p) (S.desks p).clock l.seen copy.fresh)
        (omega arith) (λ y lt o h. idle-asks y lt o) (loses p was) l copy.under idle
    keeps-own p (brings-read c g new has b) e k =
        let (l, w, r) = waits p has in
        shows I S' p c (S.desks p).asked g _ e k r.genuine r.fresh w.since w.first (brings p c r b)
        (record { number = omega (arith, l.number, (good-stamp I r.genuine).below p); seen = λ j. omega (arith, l.seen j) })
        (λ j. omega arith) refl
    keeps-own p (brings-write c g new has b) e k =
        let (r, seen, number) = waits p has in
        let l : Level M p (merged (S.desks p).clock g.stamp)
        = record { number = omega (arith, number, (I.desks p).shelf.good.below p); seen = λ j. omega (arith, seen j) } in
        quietly I S' e p _ (record { shelf = brings p c r b; slot = l })

    -- ---- writes
    keeps-write : (p c : ℕ) (w : W.Word) (new : ℕ → Cell W) → OwnWrite t S S' p c w new → H t ≡ wrote p c w t
        → know t ≡ taught own p (raised p (S.desks p).clock) p → Inv (later M (taught own p (raised p (S.desks p).clock))) S'
    unfolding Slotted
    keeps-write p c w new m e k =
        s.done (spread I S' p m.stores.row m.rest (record { shelf = s.shelf; slot = rw m.idle s.level }) s.rest)
      where
        l : Level M p (S.desks p).clock
        l = level-of p m.idle

        s : Stowed M S S' p c w (raised p (S.desks p).clock) new
        s =
            stows I S' p p c w t (raised p (S.desks p).clock) e k (sent-raised I p (I.desks p).shelf.good l)
            (raised-grows p (S.desks p).clock) m.stores (omega arith) (λ y lt o h. idle-asks y lt o)
            (λ b g ne h x lt i f n.
            ((I.desks p).shelf.copies b g (m.stores.was b ne g h)).fresh x lt i f (raised-knows I p l x lt i.0 n))

    keeps-take : (k p c : ℕ) (w : W.Word) (sent : Clock) (new : ℕ → Cell W) (on : Bool) → Take t S S' k p c w sent new on
        → H t ≡ wrote p c w (S.desks p).asked → know t ≡ taught own p (merged (S.desks k).clock sent) p
        → Inv (later M (taught own p (merged (S.desks k).clock sent))) S'
    unfolding Slotted
    keeps-take k p c w sent new on m e k-t = s.done desks
      where
        n : Clock
        n = merged (S.desks k).clock sent

        N : Moment W
        N = later M (taught own p n)

        kp : k ≢ p
        kp i = m.apart (sym i)

        shelf : Shelf M (S.desks k).clock (S.desks k).cells
        shelf = (I.desks k).shelf

        asker : Level M p (S.desks p).clock × Pending M p (S.desks p).asked × Sent M p sent
        asker = waits p m.asks

        s : Stowed M S S' p c w n new
        s =
            stows I S' k p c w (S.desks p).asked n e k-t (sent-merged p shelf.good asker.2) (λ j. omega arith)
            m.stores asker.1.since asker.1.first
            (λ b g ne h. spared-fresh I new (shelf.copies b g (m.stores.was b ne g h)) asker.2.closed h (m.stores.spared b ne))

        higher : Level N k (S.desks k).clock → Level N k n
        higher l = record {
          number = omega (arith, l.number, asker.2.below k kp, taught-grows own p n k k);
          seen = λ j. omega (arith, l.seen j);
        }

        keeper : Slotted N k n on (S.desks k).asked (S.desks k).slot
        keeper =
            serve k (S.desks k).clock n (S.desks k).served on (S.desks k).asked (S.desks k).slot
            m.serves higher (s.rest k kp).slot

        desks : (q : ℕ) → Fine N q (S'.desks q)
        desks q =
            elim (ℕ_discrete q p) [
              | yes i ↦ here I S' i m.asker s.asker
              | no np ↦ elim (ℕ_discrete q k) [
                | yes i ↦ here I S' i m.stores.row (record { shelf = s.shelf; slot = keeper })
                | no nk ↦ here I S' refl (m.rest q nk np) (s.rest q np)
              ]
            ]

    pub keeps : {o : Step W} {a : Clock} → Move t S S' o a → H t ≡ o → know t ≡ taught own o.desk a o.desk
        → Inv (later M (taught own o.desk a)) S'
    keeps (alone p m change) e k = keeps-own p m e k change
    keeps (writes p c w new m) e k = keeps-write p c w new m e k
    keeps (takes q p c w sent new on m) e k = keeps-take q p c w sent new on m e k
