-- A list from a rank: those of the first n numbers that are wanted, each once, by rising rank.
-- Assumes nothing.
use Rattle.std.specs.Prelude.{◌≡◌, refl, ◌⊎◌, ◌≢◌}
use Rattle.std.proofs.Math.Path.{ap}
use Rattle.std.proofs.Common.{subst, eq-or-lt_of_le, le_of_suc-le-suc}
use Rattle.std.proofs.Math.Logic.{inl, inr, ⊎_elim}
use mathlib.Core.List.{List, [], ◌∷◌}
use Prim.Native.Nat.{ℕ, zero, suc, ◌≤◌, ◌<◌}
use native.Mathlib.Omega.{arith}
use Rattle.std.proofs.Math.Decide.{dec_le, ℕ_discrete}
use Rattle.theory_causal.specs.Changed.{either}
use Rattle.theory_causal.specs.History.{Words, write, read, Kind-discrete, Source, blank, from, History, ReadBy}
use Rattle.theory_causal.specs.Demand.{In, Before, View, Nearest, Explains, Order}

module _ (rank : ℕ → ℕ) where
  put : ℕ → List ℕ → List ℕ
  put x [] = x ∷ []
  put x (z ∷ l) = either (dec_le (rank x) (rank z)) (x ∷ z ∷ l) (z ∷ put x l)

  -- each before those after it
  data Rising : List ℕ → Type 0 where
    end : Rising []
    up : {x : ℕ} {l : List ℕ} → ((y : ℕ) → In y l → rank x < rank y) → Rising l → Rising (x ∷ l)

  -- ---- putting one in
  put_in : (x : ℕ) (l : List ℕ) (y : ℕ) → (y ≡ x) ⊎ In y l → In y (put x l)
  unfolding put either
  put_in x [] y h = h
  put_in x (z ∷ l) y h = go (dec_le (rank x) (rank z)) h (put_in x l y)
    where
      go : (d : Dec (rank x ≤ rank z)) → (y ≡ x) ⊎ (y ≡ z) ⊎ In y l → ((y ≡ x) ⊎ In y l → In y (put x l))
          → In y (either d (x ∷ z ∷ l) (z ∷ put x l))
      go (yes _) h rec = h
      go (no _) (inl e) rec = inr (rec (inl e))
      go (no _) (inr (inl e)) rec = inl e
      go (no _) (inr (inr m)) rec = inr (rec (inr m))

  put-from : (x : ℕ) (l : List ℕ) (y : ℕ) → In y (put x l) → (y ≡ x) ⊎ In y l
  unfolding put either
  put-from x [] y h = h
  put-from x (z ∷ l) y h = go (dec_le (rank x) (rank z)) (put-from x l y) h
    where
      go : (d : Dec (rank x ≤ rank z)) → (In y (put x l) → (y ≡ x) ⊎ In y l) → In y (either d (x ∷ z ∷ l) (z ∷ put x l))
          → (y ≡ x) ⊎ (y ≡ z) ⊎ In y l
      go (yes _) rec h = h
      go (no _) rec (inl e) = inr (inl e)
      go (no _) rec (inr m) = ⊎_elim inl (λ k. inr (inr k)) (rec m)

  put-rising : (x : ℕ) {l : List ℕ} → Rising l → ((y : ℕ) → In y l → rank x ≢ rank y) → Rising (put x l)
  unfolding put either
  put-rising x end ne = up (λ y b. absurd b) end
  put-rising x (up {x = z} {l = l} first rest) ne = go (dec_le (rank x) (rank z)) (put-rising x rest (λ y m. ne y (inr m)))
    where
      go : (d : Dec (rank x ≤ rank z)) → Rising (put x l) → Rising (either d (x ∷ z ∷ l) (z ∷ put x l))
      go (yes le) rec =
          up {x = x}
          (λ y.
          ⊎_elim {A = y ≡ z} {B = In y l}
          (λ e. omega (arith, ne z (inl refl), ap rank e))
          (λ m. omega (arith, ne z (inl refl), first y m)))
          (up first rest)
      go (no gt) rec = up {x = z} (λ y m. ⊎_elim (λ e. omega (arith, ap rank e)) (first y) (put-from x l y m)) rec

  -- ---- rank and place tell the same
  rank-of-before : {l : List ℕ} (x y : ℕ) → Rising l → Before x y l → rank x < rank y
  rank-of-before x y end b = absurd b
  rank-of-before x y (up first rest) (inl h) = rw h.0 (first y h.1)
  rank-of-before x y (up first rest) (inr b) = rank-of-before x y rest b

  before-of-rank : {l : List ℕ} (x y : ℕ) → Rising l → In x l → In y l → rank x < rank y → Before x y l
  before-of-rank x y end b m lt = absurd b
  before-of-rank x y (up first rest) (inl e) (inl f) lt = absurd (omega (arith, ap rank e, ap rank f))
  before-of-rank x y (up first rest) (inl e) (inr m) lt = inl (e, m)
  before-of-rank x y (up first rest) (inr k) (inl f) lt = absurd (omega (arith, first x k, ap rank f))
  before-of-rank x y (up first rest) (inr k) (inr m) lt = inr (before-of-rank x y rest k m lt)

  -- ---- those of the first n that are wanted
  module _ {P : ℕ → Type 0} (wanted : (x : ℕ) → Dec (P x)) where
    pub sorted : ℕ → List ℕ
    sorted zero = []
    sorted (suc n) = either (wanted n) (put n (sorted n)) (sorted n)

    pub sorted-from : (n x : ℕ) → In x (sorted n) → (x < n) × P x
    unfolding sorted either
    sorted-from zero x m = absurd m
    sorted-from (suc n) x m = go (wanted n) m (λ k. let h = sorted-from n x k in (omega arith, h.1))
      where
        go : (d : Dec (P n)) → In x (either d (put n (sorted n)) (sorted n)) → (In x (sorted n) → (x < suc n) × P x) → (x < suc n) × P x
        go (yes w) m rec = ⊎_elim (λ e. (omega arith, rw e w)) rec (put-from n (sorted n) x m)
        go (no _) m rec = rec m

    pub in-sorted : (n x : ℕ) → x < n → P x → In x (sorted n)
    unfolding sorted either
    in-sorted zero x lt h = absurd (omega arith)
    in-sorted (suc n) x lt h = go (wanted n) (eq-or-lt_of_le (le_of_suc-le-suc lt)) (λ k. in-sorted n x k h)
      where
        go : (d : Dec (P n)) → (x ≡ n) ⊎ (x < n) → (x < n → In x (sorted n)) → In x (either d (put n (sorted n)) (sorted n))
        go (yes _) e rec = put_in n (sorted n) x (⊎_elim inl (λ k. inr (rec k)) e)
        go (no not) (inl e) rec = absurd (not (subst P e h))
        go (no _) (inr k) rec = rec k

    module _ (apart : (x y : ℕ) → P x → P y → rank x ≡ rank y → x ≡ y) where
      rising : (n : ℕ) → Rising (sorted n)
      unfolding sorted either
      rising zero = end
      rising (suc n) = go (wanted n) (rising n)
        where
          go : (d : Dec (P n)) → Rising (sorted n) → Rising (either d (put n (sorted n)) (sorted n))
          go (yes w) rec = put-rising n rec (λ y m e. let h = sorted-from n y m in omega (arith, apart n y w h.1 e))
          go (no _) rec = rec

      pub rank_rises : (n x y : ℕ) → Before x y (sorted n) → rank x < rank y
      rank_rises n x y = rank-of-before x y (rising n)

      pub stands-before : (n x y : ℕ) → In x (sorted n) → In y (sorted n) → rank x < rank y → Before x y (sorted n)
      stands-before n x y = before-of-rank x y (rising n)

-- ---- an order from a rank that explains what desk p saw
module _ {W : Words} (H : History W) (p n : ℕ) (rank : ℕ → ℕ) where
  view? : (x : ℕ) → Dec (View H p x)
  view? x = go (Kind-discrete (H x).kind write) (Kind-discrete (H x).kind read) (ℕ_discrete (H x).desk p)
    where
      go : Dec ((H x).kind ≡ write) → Dec ((H x).kind ≡ read) → Dec ((H x).desk ≡ p) → Dec (View H p x)
      go (yes w) r d = yes (inl w)
      go (no w) (yes r) (yes d) = yes (inr (r, d))
      go (no w) (yes r) (no d) = no (⊎_elim w (λ h. d h.1))
      go (no w) (no r) d = no (⊎_elim w (λ h. r h.0))

  pub in_order : List ℕ
  in_order = sorted rank view? n

  module _ (bound : (x : ℕ) → View H p x → x < n) (apart : (x y : ℕ) → View H p x → View H p y → rank x ≡ rank y → x ≡ y) where
    pub listed-before : (x y : ℕ) → View H p x → View H p y → rank x < rank y → Before x y in_order
    unfolding in_order
    listed-before x y v u =
        stands-before rank view? apart n x y (in-sorted rank view? n x (bound x v) v) (in-sorted rank view? n y (bound y u) u)

    back : (x y : ℕ) → Before x y in_order → rank x < rank y
    unfolding in_order
    back = rank_rises rank view? apart n

    near : (s : Source) (c x : ℕ) → ReadBy H p x → Nearest H (λ v w. rank v < rank w) c x s → Nearest H (λ v w. Before v w in_order) c x s
    unfolding Nearest
    near blank c x r m = λ w h b. m w h (back w x b)
    near (from w) c x r m =
        let v : View H p w = inl m.0.0 in (
          m.0,
          listed-before w x v (inr r) m.1,
          λ u h b. ⊎_elim inl (λ k. inr (listed-before u w (inl h.0) v k)) (m.2 u h (back u x b)),
        )

    pub listed-order : Explains H (λ x y. rank x < rank y) p → Order H p in_order
    unfolding in_order
    listed-order e = record {
      seen = λ x v. in-sorted rank view? n x (bound x v) v;
      only = λ x m. (sorted-from rank view? n x m).1;
      once = λ x b. omega (arith, back x x b);
      explains = record {
        causal = λ x y v u c. listed-before x y v u (e.causal x y v u c);
        word = e.word;
        nearest = λ x r. near (H x).source (H x).cell x r (e.nearest x r);
      };
    }
