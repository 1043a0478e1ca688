-- A number has exactly one text: reading what was printed gives the number back, and printing what was read gives the bytes back.
-- Assumes nothing.
use Rattle.std.specs.Prelude.{◌≡◌, refl, Bool, true, false, not, ◌&&◌, List, [], ◌∷◌, ◌++◌, map, ℕ, zero, suc, ◌+◌, ◌-◌, ◌*◌, ◌/◌, ◌%◌, ◌≤◌, ◌<◌, leb, eqb, length, get_or}
use Rattle.std.proofs.Common.{sym, ap, ◌∙◌, append_assoc, append-nil, arith, le-leb, leb-true, ne_eqb}
use Rattle.std.proofs.Math.Bool.{and_assoc, and-true}
use Rattle.std.proofs.Math.Option.{some}
use Rattle.std.proofs.Math.Decide.{dec_lt}
use Rattle.std.proofs.Math.ListN.{get_or-append}
use Rattle.std.proofs.lemmas.Bool.{eqb-false, not-true}
use Rattle.theory_lists.specs.Test.{every, both, both_left, both_right}
use Rattle.text.specs.Number.{given, largest, is_digit, value_from, starts_well, number_of, decimal}
use Rattle.text.specs.Digits.{decimal-one, decimal-more, length-one, length_more}
use Rattle.text.specs.Value.{starts-one, starts_more}

is_digit_lem : (d : ℕ) → d < 10 → is_digit (48 + d) ≡ true
unfolding is_digit
is_digit_lem d h = both (le-leb 48 (48 + d) (omega arith)) (le-leb (48 + d) 57 (omega arith))

-- ---- what was printed: its value, its digits, its first digit
value-behind : (v : ℕ) (w : List ℕ) (b : ℕ) → value_from v (w ++ b ∷ []) ≡ value_from v w * 10 + (b - 48)
unfolding value_from
value-behind v [] b = refl
value-behind v (x ∷ xs) b = value-behind (v * 10 + (x - 48)) xs b

digits-behind : (w : List ℕ) (b : ℕ) → every (map is_digit (w ++ b ∷ [])) ≡ (every (map is_digit w) && is_digit b)
unfolding every
digits-behind [] b = and-true (is_digit b)
digits-behind (x ∷ xs) b =
    ap (λ (t : Bool). is_digit x && t) (digits-behind xs b) ∙ sym (and_assoc (is_digit x) (every (map is_digit xs)) (is_digit b))

record Printed (n : ℕ) : Type 0 where
  value : value_from 0 (decimal n) ≡ n
  digits : every (map is_digit (decimal n)) ≡ true
  long : 0 < length (decimal n)
  first : 0 < n → get_or (decimal n) 0 0 ≡ 48 → ⊥

printed-below : (k n : ℕ) → n < k → Printed n
unfolding value_from every
printed-below zero n h = absurd (omega arith)
printed-below (suc k) n h =
    elim (dec_lt n 10) [
      | yes s ↦ one s
      | no s ↦ more (printed-below k (n / 10) (omega arith)) (omega arith)
    ]
  where
    one : n < 10 → Printed n
    one s = record {
      value = rw (decimal-one n s) (omega arith);
      digits = rw (decimal-one n s, is_digit_lem n s);
      long = omega (arith, length-one n s);
      first = λ p. rw (decimal-one n s) (λ e. omega arith);
    }

    more : Printed (n / 10) → 10 ≤ n → Printed n
    more p s = record {
      value = rw (decimal-more n s, value-behind 0 (decimal (n / 10)) (48 + n % 10), p.value) (omega arith);
      digits = rw (decimal-more n s, digits-behind (decimal (n / 10)) (48 + n % 10), p.digits) (is_digit_lem (n % 10) (omega arith));
      long = omega (arith, length_more n s);
      first = λ q. rw (decimal-more n s, get_or-append (decimal (n / 10)) ((48 + n % 10) ∷ []) 0 0 p.long) (p.first (omega arith));
    }

printed : (n : ℕ) → Printed n
printed n = printed-below (suc n) n (omega arith)

pub decimal-digits : (n : ℕ) → every (map is_digit (decimal n)) ≡ true
decimal-digits n = (printed n).digits

pub decimal-long : (n : ℕ) → 0 < length (decimal n)
decimal-long n = (printed n).long

decimal-starts : (n : ℕ) → starts_well (decimal n) ≡ true
decimal-starts n =
    elim (dec_lt n 10) [
      | yes s ↦ starts-one (decimal n) (length-one n s)
      | no s ↦
          (starts_more (decimal n) (omega (arith, length_more n (omega arith), decimal-long (n / 10)))
          ∙ ap not (ne_eqb (get_or (decimal n) 0 0) 48 ((printed n).first (omega arith))))
    ]

-- reading what was printed
pub printed-number : (n : ℕ) → n ≤ largest → number_of (decimal n) ≡ some n
unfolding number_of given
printed-number n h = rw (decimal-starts n, decimal-digits n, (printed n).value, le-leb n largest h)

-- ---- what was read: the digits behind a value that is not 0 are printed behind it
digit-range : (b : ℕ) → is_digit b ≡ true → (48 ≤ b) × (b ≤ 57)
unfolding is_digit
digit-range b e = (leb-true 48 b (both_left (leb 48 b) (leb b 57) e), leb-true b 57 (both_right (leb 48 b) (leb b 57) e))

decimal-behind : (v b : ℕ) → 0 < v → is_digit b ≡ true → decimal (v * 10 + (b - 48)) ≡ decimal v ++ b ∷ []
decimal-behind v b p e =
    let r = digit-range b e in
    let q : (v * 10 + (b - 48)) / 10 ≡ v = omega (arith, r.0, r.1) in
    let s : 48 + (v * 10 + (b - 48)) % 10 ≡ b = omega (arith, r.0, r.1) in
    decimal-more (v * 10 + (b - 48)) (omega arith) ∙ rw (q, s)

decimal-value : (v : ℕ) (w : List ℕ) → 0 < v → every (map is_digit w) ≡ true → decimal (value_from v w) ≡ decimal v ++ w
unfolding value_from every
decimal-value v [] p e = sym (append-nil (decimal v))
decimal-value v (b ∷ bs) p e =
    let d = both_left (is_digit b) (every (map is_digit bs)) e in
    decimal-value (v * 10 + (b - 48)) bs (omega arith) (both_right (is_digit b) (every (map is_digit bs)) e)
    ∙ ap (λ (l : List ℕ). l ++ bs) (decimal-behind v b p d)
    ∙ append_assoc (decimal v) (b ∷ []) bs

decimal-first : (b : ℕ) → is_digit b ≡ true → decimal (0 * 10 + (b - 48)) ≡ b ∷ []
decimal-first b e =
    let r = digit-range b e in
    decimal-one (0 * 10 + (b - 48)) (omega (arith, r.1)) ∙ ap (λ (x : ℕ). x ∷ []) (omega (arith, r.0))

decimal-started : (w : List ℕ) → starts_well w ≡ true → every (map is_digit w) ≡ true → decimal (value_from 0 w) ≡ w
unfolding starts_well value_from every
decimal-started [] l e = cc
decimal-started (b ∷ []) l e = decimal-first b (both_left (is_digit b) true e)
decimal-started (b ∷ c ∷ cs) l e =
    let d = both_left (is_digit b) (every (map is_digit (c ∷ cs))) e in
    decimal-value (0 * 10 + (b - 48)) (c ∷ cs)
    (omega (arith, (digit-range b d).0, eqb-false b 48 (not-true (eqb b 48) l)))
    (both_right (is_digit b) (every (map is_digit (c ∷ cs))) e)
    ∙ ap (λ (l : List ℕ). l ++ c ∷ cs) (decimal-first b d)

given-test : {A : Type 0} (t : Bool) (a b : A) → given t a ≡ some b → (t ≡ true) × (a ≡ b)
unfolding given
given-test true a b e = (refl, cc)
given-test false a b e = (cc, cc)

-- printing what was read
pub read_number : (w : List ℕ) (n : ℕ) → number_of w ≡ some n → (decimal n ≡ w) × (n ≤ largest)
unfolding number_of
read_number w n e =
    let digits = every (map is_digit w) in
    let within = leb (value_from 0 w) largest in
    let t = given-test (starts_well w && digits && within) (value_from 0 w) n e in
    let u = both_left (starts_well w && digits) within t.0 in (
      ap decimal (sym t.1) ∙ decimal-started w (both_left (starts_well w) digits u) (both_right (starts_well w) digits u),
      omega (arith, t.1, leb-true (value_from 0 w) largest (both_right (starts_well w && digits) within t.0)),
    )
