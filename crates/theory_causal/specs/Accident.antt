-- Demand 3 is neither empty nor too weak: the client's accident has no order, nor has a history that breaks one clause alone.
-- A good history has one.
-- Assumes nothing.
use Rattle.std.specs.Prelude.{◌≡◌, refl, ◌⊎◌, List, [], ◌∷◌, ℕ, zero, suc, ◌≤◌, ◌<◌, min}
use Rattle.std.proofs.Common.{subst, inl, inr, ⊎_elim, arith}
use Rattle.theory_causal.specs.History.{Words, write, read, blank, from, Step, History, wrote, showed, listed, Operation, Writes}
use Rattle.theory_causal.specs.History.{ReadBy, word_of, Causal, same-desk, shown, chain}
use Rattle.theory_causal.specs.Facts.{writing, reading}
use Rattle.theory_causal.specs.Demand.{In, Before, View, Nearest, Order}

-- words that are numbers, and 0 where none was written
abbrev pub numbers : Words
numbers = record { Word = ℕ; no_word = 0 }

-- no list is an order for desk p
abbrev pub Hopeless : List (Step numbers) → (desk : ℕ) → Type 0
Hopeless h p = (l : List ℕ) → Order (listed h) p l → ⊥

-- ---- ways to see it
-- two operations of one desk
abbrev pub Acts : {W : Words} → Step W → Type 0
Acts s = (s.kind ≡ write) ⊎ (s.kind ≡ read)

pub then : {W : Words} (H : History W) (x y : ℕ) → Acts (H x) → Acts (H y) → (H x).desk ≡ (H y).desk → (H x).asked < (H y).asked → Causal H x y
then H x y i j = same-desk (⊎_elim (writing H) (reading H) i) (⊎_elim (writing H) (reading H) j)

-- a blank read after a write of its cell
pub late : {W : Words} {H : History W} {p : ℕ} {l : List ℕ} → Order H p l → (w x : ℕ) → ReadBy H p x → Writes H (H x).cell w
    → (H x).source ≡ blank → Causal H w x → ⊥
unfolding Nearest
late {H} {p} {l} o w x r k e c =
    let near : Nearest H (λ u v. Before u v l) (H x).cell x blank = rw e at (o.explains.nearest x r) in
    near w k (o.explains.causal w x (inl k.0) (inr r) c)

-- what stands before what
second-in : (x y : ℕ) (l : List ℕ) → Before x y l → In y l
second-in x y [] b = absurd b
second-in x y (z ∷ l) (inl h) = inr h.1
second-in x y (z ∷ l) (inr b) = inr (second-in x y l b)

pub through : (x y z : ℕ) (l : List ℕ) → ((v : ℕ) → Before v v l → ⊥) → Before x y l → Before y z l → Before x z l
through x y z [] once a b = a
through x y z (v ∷ l) once (inl i) (inl j) = inl (i.0, j.1)
through x y z (v ∷ l) once (inl i) (inr b) = inl (i.0, second-in y z l b)
through x y z (v ∷ l) once (inr a) (inl j) = absurd (once y (inl (j.0, second-in x y l a)))
through x y z (v ∷ l) once (inr a) (inr b) = inr (through x y z l (λ w c. once w (inr c)) a b)

pub one_way : (x y : ℕ) (l : List ℕ) → ((z : ℕ) → Before z z l → ⊥) → Before x y l → Before y x l → ⊥
one_way x y l once a b = once x (through x y x l once a b)

-- a read of a write that another one of its cell has followed
pub stale : {W : Words} {H : History W} {p : ℕ} {l : List ℕ} → Order H p l → (w v x : ℕ) → ReadBy H p x → (H x).source ≡ from w
    → Writes H (H x).cell v → Causal H w v → Causal H v x → ⊥
unfolding Nearest
stale {H} {p} {l} o w v x r e k c d =
    let near : Nearest H (λ a b. Before a b l) (H x).cell x (from w) = rw e at (o.explains.nearest x r) in
    let first = o.explains.causal w v (inl near.0.0) (inl k.0) c in
    let second = o.explains.causal v x (inl k.0) (inr r) d in
    ⊎_elim (λ q. o.once w (subst (λ (u : ℕ). Before w u l) q first)) (one_way w v l o.once first) (near.2 v k second)

-- ---- the accident: desk 0 writes a datum and then a coordinate; desk 1 sees the coordinate and then no datum
unfoldable pub accident : List (Step numbers)
accident = wrote 0 0 27 0 ∷ wrote 0 1 500 1 ∷ showed 1 1 500 (from 1) 2 ∷ showed 1 0 0 blank 3 ∷ []

pub no-accident : Hopeless accident 1
unfolding accident
no-accident l o =
    late o 0 3 (refl, refl) (refl, refl) refl
    (chain (chain (then (listed accident) 0 1 (inl refl) (inl refl) refl (omega arith)) (shown {w = 1} {x = 2} refl refl refl))
    (then (listed accident) 2 3 (inr refl) (inr refl) refl (omega arith)))

-- ---- the same through a third desk, whose read is not in desk 2's view
unfoldable pub hearsay : List (Step numbers)
hearsay = wrote 0 0 27 0 ∷ showed 1 0 27 (from 0) 1 ∷ wrote 1 1 500 2 ∷ showed 2 1 500 (from 2) 3 ∷ showed 2 0 0 blank 4 ∷ []

pub no-hearsay : Hopeless hearsay 2
unfolding hearsay
no-hearsay l o =
    late o 0 4 (refl, refl) (refl, refl) refl
    (chain (chain (shown {w = 0} {x = 1} refl refl refl) (then (listed hearsay) 1 2 (inr refl) (inl refl) refl (omega arith)))
    (chain (shown {w = 2} {x = 3} refl refl refl) (then (listed hearsay) 3 4 (inr refl) (inr refl) refl (omega arith))))

-- ---- a desk that does not see its own write
unfoldable pub forgotten : List (Step numbers)
forgotten = wrote 0 0 27 0 ∷ showed 0 0 0 blank 1 ∷ []

pub no-forgotten : Hopeless forgotten 0
unfolding forgotten
no-forgotten l o = late o 0 1 (refl, refl) (refl, refl) refl (then (listed forgotten) 0 1 (inl refl) (inr refl) refl (omega arith))

-- ---- a read of an overwritten write
unfoldable pub overwritten : List (Step numbers)
overwritten = wrote 0 0 27 0 ∷ wrote 0 0 28 1 ∷ showed 0 0 27 (from 0) 2 ∷ []

pub no-overwritten : Hopeless overwritten 0
unfolding overwritten
no-overwritten l o =
    stale o 0 1 2 (refl, refl) refl (refl, refl) (then (listed overwritten) 0 1 (inl refl) (inl refl) refl (omega arith))
    (then (listed overwritten) 1 2 (inl refl) (inr refl) refl (omega arith))

-- ---- a read from the future
unfoldable pub foreseen : List (Step numbers)
foreseen = showed 0 0 27 (from 1) 0 ∷ wrote 0 0 27 1 ∷ []

pub no-foreseen : Hopeless foreseen 0
unfolding foreseen
no-foreseen l o =
    o.once 0
    (o.explains.causal 0 0 (inr (refl, refl)) (inr (refl, refl))
    (chain (then (listed foreseen) 0 1 (inr refl) (inl refl) refl (omega arith)) (shown {w = 1} {x = 0} refl refl refl)))

-- ---- another word than the source's, and a write of another cell
unfoldable pub misread : List (Step numbers)
misread = wrote 0 0 27 0 ∷ showed 1 0 28 (from 0) 1 ∷ []

pub no-misread : Hopeless misread 1
unfolding misread word_of
no-misread l o = omega (arith, o.explains.word 1 (refl, refl))

unfoldable pub misplaced : List (Step numbers)
misplaced = wrote 0 1 27 0 ∷ showed 1 0 27 (from 0) 1 ∷ []

pub no-misplaced : Hopeless misplaced 1
unfolding misplaced Nearest
no-misplaced l o = omega (arith, (o.explains.nearest 1 (refl, refl)).0.1)

-- ---- a good one: desk 1 reads its old blank copy after the write was stored, and then the write
unfoldable pub good : List (Step numbers)
good = wrote 0 0 27 0 ∷ showed 1 0 0 blank 1 ∷ showed 1 0 27 (from 0) 2 ∷ []

-- its operations, its one write, and its one read of it
good-acts : (x : ℕ) → Operation (listed good) x → (x ≤ 2) × ((listed good x).asked ≡ x) × ((listed good x).desk ≡ min 1 x)
unfolding good
good-acts zero o = (omega arith, refl, refl)
good-acts (suc zero) o = (omega arith, refl, refl)
good-acts (suc (suc zero)) o = (omega arith, refl, refl)
good-acts (suc (suc (suc x))) o = absurd (o refl)

good-write : (x : ℕ) → (listed good x).kind ≡ write → x ≡ 0
unfolding good
good-write zero k = refl
good-write (suc zero) k = cc
good-write (suc (suc zero)) k = cc
good-write (suc (suc (suc x))) k = cc

good-shown : (w x : ℕ) → (listed good x).source ≡ from w → (w ≡ 0) × (x ≡ 2)
unfolding good
good-shown w zero e = (cc, cc)
good-shown w (suc zero) e = (cc, cc)
good-shown w (suc (suc zero)) e = (cc, refl)
good-shown w (suc (suc (suc x))) e = (cc, cc)

-- the write and the blank read come before the last read, and that is all
good-pairs : {x y : ℕ} → Causal (listed good) x y → ((x ≡ 0) ⊎ (x ≡ 1)) × (y ≡ 2)
good-pairs (same-desk {x = x} {y = y} i j d lt) =
    let a = good-acts x i in
    let b = good-acts y j in
    (inr (omega (arith, d)), omega (arith, d))
good-pairs (shown {w = w} {x = x} k r e) = let a = good-shown w x e in (inl a.0, a.1)
good-pairs (chain a b) = let c = good-pairs a in ⊎_elim (λ e. absurd (omega arith)) (λ e. absurd (omega arith)) (good-pairs b).0

pub good-order : Order (listed good) 1 (1 ∷ 0 ∷ 2 ∷ [])
unfolding good Nearest word_of
good-order = record {
  seen = seen;
  only = only;
  once = once;
  explains = record { causal = λ x y v u c. causal x y (good-pairs c); word = word; nearest = nearest };
}
  where
    seen : (x : ℕ) → View (listed good) 1 x → In x (1 ∷ 0 ∷ 2 ∷ [])
    seen zero v = inr (inl refl)
    seen (suc zero) v = inl refl
    seen (suc (suc zero)) v = inr (inr (inl refl))
    seen (suc (suc (suc x))) (inl k) = absurd (writing (listed good) {x = suc (suc (suc x))} k refl)
    seen (suc (suc (suc x))) (inr r) = absurd (omega arith)

    only : (x : ℕ) → In x (1 ∷ 0 ∷ 2 ∷ []) → View (listed good) 1 x
    only x (inl e) = rw e (inr (refl, refl))
    only x (inr (inl e)) = rw e (inl refl)
    only x (inr (inr (inl e))) = rw e (inr (refl, refl))
    only x (inr (inr (inr b))) = absurd b

    once : (x : ℕ) → Before x x (1 ∷ 0 ∷ 2 ∷ []) → ⊥
    once x (inl h) = ⊎_elim (λ e. omega arith) (⊎_elim (λ e. omega arith) absurd) h.1
    once x (inr (inl h)) = ⊎_elim (λ e. omega arith) absurd h.1
    once x (inr (inr (inl h))) = h.1
    once x (inr (inr (inr b))) = b

    causal : (x y : ℕ) → ((x ≡ 0) ⊎ (x ≡ 1)) × (y ≡ 2) → Before x y (1 ∷ 0 ∷ 2 ∷ [])
    causal x y h = ⊎_elim (λ e. inr (inl (e, inl h.1))) (λ e. inl (e, inr (inl h.1))) h.0

    word : (x : ℕ) → ReadBy (listed good) 1 x → (listed good x).word ≡ word_of (listed good) (listed good x).source
    word zero r = absurd (omega arith)
    word (suc zero) r = refl
    word (suc (suc zero)) r = refl
    word (suc (suc (suc x))) r = refl

    nearest : (x : ℕ) → ReadBy (listed good) 1 x
        → Nearest (listed good) (λ v w. Before v w (1 ∷ 0 ∷ 2 ∷ [])) (listed good x).cell x (listed good x).source
    nearest zero r = absurd (omega arith)
    nearest (suc zero) r = λ w k b. one_way 1 w (1 ∷ 0 ∷ 2 ∷ []) once (inl (refl, inl (good-write w k.0))) b
    nearest (suc (suc zero)) r = ((refl, refl), inr (inl (refl, inl refl)), λ v k b. inl (good-write v k.0))
    nearest (suc (suc (suc x))) r = absurd (omega arith)
