-- What one more cell or clock adds to the test of a sum: its own soundness.
-- Assumes nothing.
use Rattle.std.specs.Prelude.{◌≡◌, Bool, not, ◌&&◌, ◌||◌, cond, ℕ, ◌+◌, ◌-◌, ◌≤◌, eqb, length, drop}
use Rattle.std.proofs.Math.Path.{refl}
use Rattle.std.proofs.Common.{sym, ap, ap₂, ◌∙◌, zero-le, arith, get_or-drop, eqb-true, eq-eqb}
use Rattle.std.proofs.Math.Bool.{true, false, and_assoc, and_comm, and-true, and-false}
use Rattle.std.specs.Int.Bits.{bit_or}
use mir.Val.{bool_byte}
use Rattle.clock.specs.declared.Clock.{Clock}
use Rattle.clock.specs.Clock.{number, zero_clock, paired, is_within}
use Rattle.clock.specs.Laws.{paired_at, length-paired, within-past, past-within, zero-past}
use Rattle.theory_lists.specs.Or.{ored, or_left, or_right, or-none, ored-at, ored-none, listed, listed-all}
use Rattle.theory_lists.specs.Test.{both, both_left, both_right, same_test}
use Rattle.desk.specs.declared.Cell.{Cell}
use Rattle.desk.specs.declared.Counts.{Counts}
use Rattle.desk.specs.declared.Place.{Place}
use Rattle.desk.specs.Desk.{Word, is_no_word, is_blank, one_if, is_used, keeps_at, kept_by}
use Rattle.desk.specs.Sound.{word_fits, cell_fits}
use Rattle.desk.specs.SoundLaws.{blank-is}
use Rattle.desk_sums.specs.declared.Sum.{Sum}
use Rattle.desk_sums.specs.Sums.{no_sum, joined, or_past, add_clock, noted, stamped, rest_of, add_kept, sum_fits, clock_fits, rest_fits, kept_fits}

-- ---- as the code before the design pass had it
pub byte-is : (b : Bool) → bool_byte b ≡ one_if b
byte-is true = refl
byte-is false = refl

pub joined-listed : (a b : Clock) → length a.n ≡ 8 → length b.n ≡ 8
    → ◌≡◌ {A = Clock} (record { n = listed (λ k. bit_or (number a k) (number b k)) 0 8 }) (joined a b)
unfolding joined
joined-listed a b la lb =
    λ i.
    record {
      n =
          listed-all (λ k. bit_or (number a k) (number b k)) (paired bit_or a.n b.n) 0 (paired_at bit_or a.n b.n) 8
          (omega (arith, length-paired bit_or a.n b.n))
          i;
    }

-- ---- an or is 0 exactly if both are
pub or-zero : (a b : ℕ) → eqb (bit_or a b) 0 ≡ (eqb a 0 && eqb b 0)
or-zero a b =
    same_test (eqb (bit_or a b) 0) (eqb a 0 && eqb b 0)
    (λ e. let z = eqb-true (bit_or a b) 0 e in both (eq-eqb a 0 (or_left a b z)) (eq-eqb b 0 (or_right a b z)))
    (λ e.
    eq-eqb (bit_or a b) 0
    (or-none a b (eqb-true a 0 (both_left (eqb a 0) (eqb b 0) e)) (eqb-true b 0 (both_right (eqb a 0) (eqb b 0) e))))

pub or-past-within : (c : Clock) (d : ℕ) → eqb (or_past c d) 0 ≡ is_within d c
unfolding or_past
or-past-within c d =
    same_test (eqb (ored 0 (drop d c.n)) 0) (is_within d c)
    (λ e.
    past-within d c
    (λ k h.
    let place : d + (k - d) ≡ k = omega arith in
    rw place at (sym (get_or-drop d c.n (k - d) 0) ∙ ored-at 0 (drop d c.n) (eqb-true (ored 0 (drop d c.n)) 0 e) (k - d))))
    (λ e.
    eq-eqb (ored 0 (drop d c.n)) 0
    (ored-none 0 (drop d c.n) refl (λ k. get_or-drop d c.n k 0 ∙ within-past d c e (d + k) (omega arith))))

pub joined-within : (d : ℕ) (a b : Clock) → is_within d (joined a b) ≡ (is_within d a && is_within d b)
unfolding joined
joined-within d a b =
    same_test (is_within d (joined a b)) (is_within d a && is_within d b)
    (λ e.
    both (past-within d a (λ k h. or_left (number a k) (number b k) (zero e k h)))
    (past-within d b (λ k h. or_right (number a k) (number b k) (zero e k h))))
    (λ e.
    past-within d (joined a b)
    (λ k h.
    paired_at bit_or a.n b.n k
    ∙ or-none (number a k) (number b k) (within-past d a (both_left (is_within d a) (is_within d b) e) k h)
    (within-past d b (both_right (is_within d a) (is_within d b) e) k h)))
  where
    zero : is_within d (joined a b) ≡ true → (k : ℕ) → d ≤ k → bit_or (number a k) (number b k) ≡ 0
    zero e k h = sym (paired_at bit_or a.n b.n k) ∙ within-past d (joined a b) e k h

-- ---- the test, in the words of clocks
abbrev pub sum_within : Sum → ℕ → Bool
sum_within s desks = eqb s.w 0 && (is_within 0 s.z && is_within desks s.h)

pub fits-is : (s : Sum) (desks : ℕ) → sum_fits s desks ≡ sum_within s desks
unfolding sum_fits
fits-is s desks =
    ap (◌&&◌ (eqb s.w 0))
    (or-zero (or_past s.z 0) (or_past s.h desks) ∙ ap₂ ◌&&◌ (or-past-within s.z 0) (or-past-within s.h desks))

pub none-fits : (desks : ℕ) → sum_fits no_sum desks ≡ true
none-fits desks =
    fits-is no_sum desks ∙ both (eq-eqb 0 0 refl) (both (past-within 0 zero_clock (zero-past 0)) (past-within desks zero_clock (zero-past desks)))

-- ---- what is added
pub noted-adds : (s : Sum) (bad : Bool) (desks : ℕ) → sum_fits (noted s bad) desks ≡ (sum_fits s desks && not bad)
noted-adds s bad desks =
    fits-is (noted s bad) desks
    ∙ ap (λ (x : Bool). x && (is_within 0 s.z && is_within desks s.h)) (or-zero s.w (one_if bad) ∙ ap (◌&&◌ (eqb s.w 0)) (one bad))
    ∙ last (eqb s.w 0) (not bad) (is_within 0 s.z && is_within desks s.h)
    ∙ ap (λ (x : Bool). x && not bad) (sym (fits-is s desks))
  where
    one : (b : Bool) → eqb (one_if b) 0 ≡ not b
    one true = refl
    one false = refl

    last : (w b r : Bool) → (w && b && r) ≡ (w && r && b)
    last true b r = and_comm b r
    last false b r = refl

pub clock-adds : (s : Sum) (carried : Bool) (c : Clock) (word : Word) (desks : ℕ)
    → sum_fits (add_clock s carried c word) desks ≡ (sum_fits s desks && clock_fits desks carried c word)
unfolding add_clock clock_fits is_no_word
clock-adds s true c word desks =
    fits-is (add_clock s true c word) desks
    ∙ ap (λ (x : Bool). eqb s.w 0 && (is_within 0 s.z && x)) (joined-within desks s.h c)
    ∙ out (eqb s.w 0) (is_within 0 s.z) (is_within desks s.h) (is_within desks c)
    ∙ ap (λ (x : Bool). x && is_within desks c) (sym (fits-is s desks))
  where
    out : (w z h x : Bool) → (w && (z && (h && x))) ≡ (w && (z && h) && x)
    out w z h x = simp and_assoc
clock-adds s false c word desks =
    fits-is (add_clock s false c word) desks
    ∙ ap₂ (λ (x y : Bool). x && (y && is_within desks s.h)) (or-zero s.w word) (joined-within 0 s.z c)
    ∙ apart (eqb s.w 0) (eqb word 0) (is_within 0 s.z) (is_within 0 c) (is_within desks s.h)
    ∙ ap (λ (x : Bool). x && (eqb word 0 && is_within 0 c)) (sym (fits-is s desks))
  where
    apart : (w y z x h : Bool) → (w && y && (z && x && h)) ≡ (w && (z && h) && (y && x))
    apart false y z x h = refl
    apart true false z x h = sym (and-false (z && h))
    apart true true false x h = refl
    apart true true true x true = and-true x
    apart true true true x false = and-false x

pub rest-adds : (s : Sum) (x : Cell) (desks : ℕ) → sum_fits (rest_of s x) desks ≡ (sum_fits s desks && rest_fits x)
unfolding rest_of clock_fits rest_fits
rest-adds s x desks =
    noted-adds (add_clock s false x.stamp x.word) x.held desks
    ∙ ap (λ (b : Bool). b && not x.held) (clock-adds s false x.stamp x.word desks)
    ∙ and_assoc (sum_fits s desks) (is_no_word x.word && is_within 0 x.stamp) (not x.held)

-- where a stamp may be: one that is there, or zeros and word 0; that is, one that its word fits
pub stamp-fits : (desks : ℕ) (carried : Bool) (c : Clock) (word : Word)
    → clock_fits desks (stamped carried c) c word ≡ cond carried (is_within desks c && word_fits word c) (is_no_word word && is_within 0 c)
unfolding clock_fits word_fits
stamp-fits desks false c word = refl
stamp-fits desks true c word = go (is_blank c) refl
  where
    go : (b : Bool) → is_blank c ≡ b → clock_fits desks (not (is_blank c)) c word ≡ (is_within desks c && (not (is_blank c) || is_no_word word))
    go false p = rw (p, and-true (is_within desks c))
    go true p =
        rw (p, past-within desks c (λ k _. blank-is c p k zero-le), past-within 0 c (blank-is c p), and-true (is_no_word word))

pub kept-adds : (s : Sum) (kept : Bool) (x : Cell) (desks : ℕ)
    → sum_fits (add_kept s kept x) desks ≡ (sum_fits s desks && kept_fits desks kept x)
unfolding add_kept kept_fits
kept-adds s kept x desks = go (stamped x.held x.stamp) refl ∙ ap (◌&&◌ (sum_fits s desks)) (tell x.held)
  where
    fits : Bool → Bool
    fits held = clock_fits desks (stamped held x.stamp) x.stamp x.word

    go : (b : Bool) → stamped x.held x.stamp ≡ b
        → sum_fits (add_kept s kept x) desks ≡ (sum_fits s desks && (fits x.held && not (kept && not x.held)))
    go true p =
        rw (p, both_left x.held (not (is_blank x.stamp)) p, and-false kept, and-true (clock_fits desks true x.stamp x.word))
        (clock-adds s true x.stamp x.word desks)
    go false p =
        rw p
        (noted-adds (add_clock s false x.stamp x.word) (kept && not x.held) desks
        ∙ ap (λ (b : Bool). b && not (kept && not x.held)) (clock-adds s false x.stamp x.word desks)
        ∙ and_assoc (sum_fits s desks) (clock_fits desks false x.stamp x.word) (not (kept && not x.held)))

    tell : (held : Bool) → (fits held && not (kept && not held))
        ≡ cond held (is_within desks x.stamp && word_fits x.word x.stamp) (is_no_word x.word && is_within 0 x.stamp && not kept)
    tell true = rw (and-false kept, and-true (fits true)) (stamp-fits desks true x.stamp x.word)
    tell false = rw (and-true kept, stamp-fits desks false x.stamp x.word)

-- ---- and these are a cell's soundness
module _ (n : Counts) (p : Place) (desk c : ℕ) (x : Cell) where
  turn : (a b d : Bool) → (a && b && d) ≡ (b && d && a)
  turn a b d = and_assoc a b d ∙ and_comm a (b && d)

  pub fits-used : is_used n desk c ≡ true → keeps_at n p desk c ≡ kept_by p desk → cell_fits n p desk c x ≡ kept_fits n.desks (kept_by p desk) x
  unfolding cell_fits kept_fits
  fits-used u k = go x.held refl
    where
      go : (b : Bool) → x.held ≡ b → cell_fits n p desk c x ≡ kept_fits n.desks (kept_by p desk) x
      go true q = rw (q, u)
      go false q = rw (q, k) (turn (not (kept_by p desk)) (is_no_word x.word) (is_within 0 x.stamp))

  pub fits-past : is_used n desk c ≡ false → keeps_at n p desk c ≡ false → cell_fits n p desk c x ≡ rest_fits x
  unfolding cell_fits rest_fits
  fits-past u k = go x.held refl
    where
      go : (b : Bool) → x.held ≡ b → cell_fits n p desk c x ≡ rest_fits x
      go true q = rw (q, u) (sym (and-false (is_no_word x.word && is_within 0 x.stamp)))
      go false q = rw (q, k) (sym (and-true (is_no_word x.word && is_within 0 x.stamp)))
