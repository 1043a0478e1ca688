-- Knowledge implies order: a history whose operations have clocks with the facts of `Told` has, for every desk, an order as in demand 3.
-- Assumes nothing.
use Rattle.std.specs.Prelude.{◌≡◌, refl, List}
use Rattle.std.proofs.Math.Path.{sym, ap, subst}
use Rattle.std.proofs.Common.{◌∙◌, ⊎_elim, eq-or-lt_of_le, le_of_suc-le-suc, arith}
use Rattle.std.proofs.Math.Logic.{inl, inr}
use Prim.Native.Nat.{ℕ, zero, suc, ◌+◌, ◌*◌, ◌≤◌, ◌<◌}
use Rattle.std.proofs.Math.Nat.{le_trans, mul-le-mul_right}
use Rattle.std.proofs.Math.Decide.{dec_le, dec_lt, ℕ_discrete}
use Rattle.theory_causal.specs.History.{Words, Kind, quiet, write, read, Kind-discrete, Source, blank, from, History, Operation, Writes}
use Rattle.theory_causal.specs.History.{ReadBy, Causal, same-desk, shown, chain}
use Rattle.theory_causal.specs.Demand.{Before, View, Nearest, Explains, InTurn, Order}
use Rattle.theory_causal.specs.Ranking.{in_order, listed-before, listed-order}
use Rattle.theory_causal.specs.Facts.{Clock, ◌≼◌, Knows, stamp_of, Stored, After, Told, known, writing, reading}

-- ---- the first number below n that passes a test, or n
record First (P : ℕ → Type 0) (n m : ℕ) : Type 0 where
  most : m ≤ n
  least : (y : ℕ) → y < n → P y → m ≤ y
  passes : m < n → P m

first : {P : ℕ → Type 0} → ((y : ℕ) → Dec (P y)) → (n : ℕ) → (m : ℕ) × First P n m
first test zero = (zero, record { most = omega arith; least = λ y lt. absurd (omega arith); passes = λ lt. absurd (omega arith) })
first {P} test (suc n) = go (first test n) (test n)
  where
    -- those below n as before, and n itself
    below : {m k : ℕ} → First P n m → ((y : ℕ) → y < n → m ≤ y → k ≤ y) → (P n → k ≤ n) → (y : ℕ) → y < suc n → P y → k ≤ y
    below f old new y lt h =
        ⊎_elim (λ e. rw e (new (rw e at h))) (λ i. old y i (f.least y i h)) (eq-or-lt_of_le (le_of_suc-le-suc lt))

    go : (m : ℕ) × First P n m → Dec (P n) → (m : ℕ) × First P (suc n) m
    go (m, f) t =
        elim (dec_lt m n) [
          | yes lt ↦ (m, record { most = omega arith; least = below f (λ y i h. h) (λ h. omega arith); passes = λ i. f.passes lt })
          | no ge ↦ elim t [
            | yes h ↦ (n, record { most = omega arith; least = below f (λ y i h. omega arith) (λ h. omega arith); passes = λ i. h })
            | no not ↦ (
              suc n,
              record {
                most = omega arith;
                least = below f (λ y i h. omega arith) (λ h. absurd (not h));
                passes = λ i. absurd (omega arith);
              },
            )
          ]
        ]

-- n is past every operation
module _ {W : Words} (H : History W) (know : ℕ → Clock) (n : ℕ)
    (ends : (x : ℕ) → Operation H x → x < n)
    (told : (x : ℕ) → Operation H x → Told H know x) where
  -- ---- causal order goes up in time and in knowledge
  record Up (x y : ℕ) : Type 0 where
    lower : Operation H x
    upper : Operation H y
    time : x < y
    knowledge : know x ≼ know y

  asked-later : (x y : ℕ) → Operation H x → Operation H y → (H x).desk ≡ (H y).desk → (H x).asked < (H y).asked → Up x y
  asked-later x y o q e lt =
      elim (dec_lt x y) [
        | yes l ↦ record { lower = o; upper = q; time = l; knowledge = (told y q).grows x l o e }
        | no ge ↦ absurd
            (elim (ℕ_discrete x y) [
              | yes s ↦ omega (arith, ap (λ (z : ℕ). (H z).asked) s)
              | no ne ↦ omega (arith, (told x o).asks y (omega arith) q (sym e))
            ])
      ]

  source_of : (x : ℕ) → (H x).kind ≡ read → (w : ℕ) → (H x).source ≡ from w → (w < x) × Writes H (H x).cell w × (know w ≼ know x)
  unfolding Stored stamp_of
  source_of x r w e =
      let came = (told x (reading H r)).came r in
      let stored : Stored H x (H x).cell (from w) = rw e at came.stored in
      let seen : stamp_of know (from w) ≼ know x = rw e at came.seen in
      (stored.0, stored.1, seen)

  goes-up : {x y : ℕ} → Causal H x y → Up x y
  goes-up (same-desk o q e lt) = asked-later _ _ o q e lt
  goes-up (shown {w = w} {x = x} k r e) =
      let s = source_of x r w e in
      record { lower = writing H k; upper = reading H r; time = s.0; knowledge = s.2 }
  goes-up (chain a b) =
      let u = goes-up a in
      let v = goes-up b in
      record { lower = u.lower; upper = v.upper; time = omega arith; knowledge = λ j. omega (arith, u.knowledge j, v.knowledge j) }

  heeds : (w z : ℕ) → (H w).kind ≡ write → Operation H z → Knows H know (know z) w → (w ≤ z) × (know w ≼ know z)
  heeds w z k o = known H know w z k o (told w (writing H k)) (told z o)

  -- ---- the rank for desk p: a read by its own step, a write by p's first operation that knows it
  module _ (p : ℕ) where
    Hears : ℕ → ℕ → Type 0
    Hears w y = Operation H y × ((H y).desk ≡ p) × Knows H know (know y) w

    hears? : (w y : ℕ) → Dec (Hears w y)
    unfolding Hears
    hears? w y = go (Kind-discrete (H y).kind quiet) (ℕ_discrete (H y).desk p) (dec_le (know w (H w).desk) (know y (H w).desk))
      where
        go : Dec ((H y).kind ≡ quiet) → Dec ((H y).desk ≡ p) → Dec (Knows H know (know y) w) → Dec (Hears w y)
        go (yes q) d k = no (λ h. h.0 q)
        go (no q) (no d) k = no (λ h. d h.1)
        go (no q) (yes d) (no k) = no (λ h. k h.2)
        go (no q) (yes d) (yes k) = yes (q, d, k)

    lead_of : Kind → ℕ → ℕ
    lead_of quiet x = x
    lead_of read x = x
    lead_of write x = (first (hears? x) n).0

    lead : ℕ → ℕ
    lead x = lead_of (H x).kind x

    rank : ℕ → ℕ
    rank x = lead x * suc n + x

    lead-read : (x : ℕ) → (H x).kind ≡ read → lead x ≡ x
    unfolding lead lead_of
    lead-read x r = rw r

    lead-write : (w : ℕ) → (H w).kind ≡ write → First (Hears w) n (lead w)
    unfolding lead lead_of
    lead-write w k = rw k (first (hears? w) n).1

    rank-lead : (x y : ℕ) → x < n → lead x < lead y → rank x < rank y
    unfolding rank
    rank-lead x y i lt = omega (arith, mul-le-mul_right (suc n) lt)

    rank-time : (x y : ℕ) → x < y → lead x ≤ lead y → rank x < rank y
    unfolding rank
    rank-time x y lt le = omega (arith, mul-le-mul_right (suc n) le)

    lead-rank : (x y : ℕ) → y < n → rank x ≤ rank y → lead x ≤ lead y
    lead-rank x y i le = elim (dec_le (lead x) (lead y)) [ yes h ↦ h | no gt ↦ absurd (omega (arith, rank-lead y x i (omega arith))) ]

    apart : (x y : ℕ) → x < n → y < n → rank x ≡ rank y → x ≡ y
    unfolding rank
    apart x y i j e =
        let l : lead x ≡ lead y = omega (arith, lead-rank x y j (omega arith), lead-rank y x i (omega arith)) in
        omega (arith, ap (λ (z : ℕ). z * suc n) l)

    -- a write stands before all that knows it whole
    write_read : (w x : ℕ) → (H w).kind ≡ write → ReadBy H p x → w < x → know w ≼ know x → rank w < rank x
    unfolding Hears
    write_read w x k r lt le =
        rank-time w x lt
        (rw (lead-read x r.0)
        ((lead-write w k).least x (ends x (reading H r.0)) (reading H r.0, r.1, le (H w).desk)))

    write-write : (v w : ℕ) → (H v).kind ≡ write → (H w).kind ≡ write → v < w → know v ≼ know w → rank v < rank w
    unfolding Hears
    write-write v w i k lt le = rank-time v w lt (elim (dec_lt (lead w) n) [ yes b ↦ heard b | no ge ↦ omega (arith, (lead-write v i).most) ])
      where
        heard : lead w < n → lead v ≤ lead w
        heard b =
            let (o, d, h) = (lead-write w k).passes b in
            (lead-write v i).least (lead w) b (o, d, le_trans (le (H v).desk) ((heeds w (lead w) k o h).1 (H v).desk))

    -- one of p's reads stands before what is done later: whoever knows a write is not before it
    read-read : (x y : ℕ) → ReadBy H p x → ReadBy H p y → x < y → rank x < rank y
    read-read x y r s lt = rank-time x y lt (rw (lead-read x r.0, lead-read y s.0) (omega arith))

    read-write : (x w : ℕ) → ReadBy H p x → (H w).kind ≡ write → x < w → rank x < rank w
    unfolding Hears
    read-write x w r k lt =
        rank-lead x w (ends x (reading H r.0))
        (rw (lead-read x r.0)
        (elim (dec_lt (lead w) n) [
          | yes b ↦ let (o, d, h) = (lead-write w k).passes b in omega (arith, (heeds w (lead w) k o h).0)
          | no ge ↦ omega (arith, ends x (reading H r.0))
        ]))

    causal-rises : (x y : ℕ) → View H p x → View H p y → Causal H x y → rank x < rank y
    causal-rises x y v u c = go v u (goes-up c)
      where
        go : View H p x → View H p y → Up x y → rank x < rank y
        go (inl k) (inl l) up = write-write x y k l up.time up.knowledge
        go (inl k) (inr s) up = write_read x y k s up.time up.knowledge
        go (inr r) (inl l) up = read-write x y r l up.time
        go (inr r) (inr s) up = read-read x y r s up.time

    -- what stands before one of p's reads is known to it
    heard : (x v : ℕ) → ReadBy H p x → (H v).kind ≡ write → rank v < rank x → Knows H know (know x) v
    unfolding Hears
    heard x v r k lt =
        let i : x < n = ends x (reading H r.0) in
        let le : lead v ≤ x = omega (arith, lead-rank v x i (omega arith), lead-read x r.0) in
        let (o, d, h) = (lead-write v k).passes (omega arith) in
        elim (ℕ_discrete (lead v) x) [
          | yes e ↦ subst (λ (z : ℕ). Knows H know (know z) v) e h
          | no ne ↦ omega (arith, (told x (reading H r.0)).grows (lead v) (omega arith) o (d ∙ sym r.1) (H v).desk)
        ]

    in-turn : InTurn H (λ v w. rank v < rank w)
    in-turn c v w i k lt = write-write v w i.0 k.0 lt ((told w (writing H k.0)).climbs c k v lt i)

    -- and nothing that was stored after its source stands before it
    stale : (x v : ℕ) → ReadBy H p x → Writes H (H x).cell v → rank v < rank x → After (H x).source v → ⊥
    stale x v r h lt after =
        let knows = heard x v r h.0 lt in
        let o = reading H r.0 in
        let i : v < x =
        elim (ℕ_discrete v x) [ yes e ↦ absurd (omega (arith, ap rank e)) | no ne ↦ omega (arith, (heeds v x h.0 o knows).0) ] in
        ((told x o).came r.0).fresh v i h after knows

    shows-nearest : (x : ℕ) → ReadBy H p x → (s : Source) → (H x).source ≡ s → Nearest H (λ v w. rank v < rank w) (H x).cell x s
    unfolding Nearest After
    shows-nearest x r blank e = λ w h lt. stale x w r h lt (rw e tt)
    shows-nearest x r (from w) e =
        let (i, h, le) = source_of x r.0 w e in (
          h,
          write_read w x h.0 r i le,
          λ v g lt.
              elim (dec_lt v w) [
                | yes l ↦ inr (in-turn (H x).cell v w g h l)
                | no ge ↦ elim (ℕ_discrete v w) [ yes s ↦ inl s | no ne ↦ absurd (stale x v r g lt (rw e (omega arith))) ]
              ],
        )

    explained : Explains H (λ v w. rank v < rank w) p
    explained = record {
      causal = causal-rises;
      word = λ x r. ((told x (reading H r.0)).came r.0).word;
      nearest = λ x r. shows-nearest x r (H x).source refl;
    }

    -- ---- the order
    inside : (x : ℕ) → View H p x → x < n
    inside x (inl k) = ends x (writing H k)
    inside x (inr r) = ends x (reading H r.0)

    differ : (x y : ℕ) → View H p x → View H p y → rank x ≡ rank y → x ≡ y
    differ x y v u = apart x y (inside x v) (inside y u)

    pub ordered : (l : List ℕ) × Order H p l × InTurn H (λ v w. Before v w l)
    ordered = (
      in_order H p n rank,
      listed-order H p n rank inside differ explained,
      λ c v w i k lt. listed-before H p n rank inside differ v w (inl i.0) (inl k.0) (in-turn c v w i k lt),
    )
