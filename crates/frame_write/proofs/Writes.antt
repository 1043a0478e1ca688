-- What writing comes to: a fault of the head, the refusals that are left where it has none, and the frame in two parts.
-- Assumes nothing.
use Rattle.std.proofs.Common.{
  ◌≡◌,
  ℕ,
  suc,
  ◌+◌,
  ◌*◌,
  ◌<◌,
  ◌≤◌,
  Bool,
  true,
  false,
  ◌&&◌,
  ◌||◌,
  List,
  ◌∷◌,
  ◌++◌,
  length,
  get_or,
  drop,
  refl,
  sym,
  ap,
  ap₂,
  ◌∙◌,
  arith,
  eqb,
  ltb,
  ltb-true,
  ltb-false,
  lt-ltb,
  le-ltb,
}
use Rattle.theory_lists.specs.Each.{map_at, map_at-same}
use Rattle.theory_lists.specs.Test.{every}
use Rattle.clock.specs.declared.Clock.{Clock}
use Rattle.clock.specs.Clock.{is_within}
use Rattle.spelling.specs.Bytes.{bytes, spell, put, put_next}
use Rattle.desk.specs.declared.Message.{Message}
use Rattle.frame.specs.Frame.{carried, length_of, fault_in, carried_or_zero, well_formed, write_rule, output_rule}
use Rattle.frame.specs.Laws.{faulty, faultless, called, head_of, body_of, frame-split, not-well-formed, no_room_lem, can_write, write-refused, write-accepted}

-- ---- the numbers that are not carried
later : (n k : ℕ) (b : Bool) → ltb k n ≡ b → ltb (suc k) (1 + n) ≡ ltb k n
later n k true e = lt-ltb (suc k) (1 + n) (omega (arith, ltb-true k n e)) ∙ sym e
later n k false e = le-ltb (suc k) (1 + n) (omega (arith, ltb-false k n e)) ∙ sym e

never : (k : ℕ) → ltb (suc k) 0 ≡ ltb k 0
never k = le-ltb (suc k) 0 (omega arith) ∙ sym (le-ltb k 0 (omega arith))

-- "a clock number past the count … not 0": the word is carried, and after it n numbers
pub past-count : (n word : ℕ) (ns : List ℕ) → every (map_at (carried_or_zero (1 + n)) (word ∷ ns)) ≡ every (map_at (carried_or_zero n) ns)
unfolding map_at every carried_or_zero
past-count n word ns = rw (lt-ltb 0 (1 + n) (omega arith)) (ap every (map_at-same (λ k. carried_or_zero (1 + n) (suc k)) (carried_or_zero n) ns 0
    (λ k h. ap (λ (b : Bool). b || eqb (get_or ns k 0) 0) (later n k (ltb k n) refl))))

-- "a word or clock in kind 1": none is carried
pub none-carried : (word : ℕ) (ns : List ℕ) → every (map_at (carried_or_zero 0) (word ∷ ns)) ≡ (eqb word 0 && every (map_at (carried_or_zero 0) ns))
unfolding map_at every carried_or_zero
none-carried word ns =
    ap (λ (l : List Bool). eqb word 0 && every l) (map_at-same (λ k. carried_or_zero 0 (suc k)) (carried_or_zero 0) ns 0
    (λ k h. ap (λ (b : Bool). b || eqb (get_or ns k 0) 0) (never k)))

-- what the code tests
pub carried_within : (n : ℕ) (clock : Clock) → every (map_at (carried_or_zero n) clock.n) ≡ is_within n clock
unfolding is_within carried_or_zero
carried_within n clock = refl

-- ---- a fault of the head
pub faulted : (m : Message) (l : List ℕ) (n : ℕ) → n ≡ fault_in m → (n ≡ 0 → ⊥) → (record { code = n; used = 0 } ≡ write_rule m l) × (l ≡ output_rule m l)
faulted m l n e some = write-refused m l n (e ∙ sym (faulty m (length l) (λ z. some (e ∙ z)))) some

-- ---- the message m into the output l, of which c numbers are carried
module _ (m : Message) (l : List ℕ) (c : ℕ) (e : c ≡ carried m.kind m.desks) (ok : fault_in m ≡ 0) where
  pub size : (length_of m.kind m.desks ≡ 5 + 4 * c) × (c ≤ 9)
  size = called (faultless _ _ _ _ ok) e

  -- whether the numbers that are not carried are 0
  abbrev pub clean : Bool
  clean = every (map_at (carried_or_zero c) (m.word ∷ m.clock.n))

  clean_is : well_formed m ≡ clean
  unfolding well_formed
  clean_is = sym (ap (λ (n : ℕ). every (map_at (carried_or_zero n) (m.word ∷ m.clock.n))) e)

  pub unclean : clean ≡ false → (record { code = 38; used = 0 } ≡ write_rule m l) × (l ≡ output_rule m l)
  unclean f = write-refused m l 38 (sym (not-well-formed m (length l) ok (clean_is ∙ f))) (λ z. absurd (omega arith))

  pub roomless : clean ≡ true → length l < 7 + 4 * c → (record { code = 37; used = 0 } ≡ write_rule m l) × (l ≡ output_rule m l)
  roomless t h = write-refused m l 37 (sym (no_room_lem m (length l) ok (clean_is ∙ t) (omega (arith, size.0)))) (λ z. absurd (omega arith))

  -- x is the output with the head in it, y with the numbers too
  pub written : clean ≡ true → 7 + 4 * c ≤ length l → (x y : List ℕ)
      → x ≡ head_of (5 + 4 * c) m.kind m.desks m.desk m.cell ++ drop 7 l → y ≡ put 7 (body_of m c) (4 * c) x
      → (record { code = 0; used = 2 + (5 + 4 * c) } ≡ write_rule m l) × (y ≡ output_rule m l)
  unfolding spell bytes
  written t h x y p q =
      let done = write-accepted m l (can_write m (length l) ok (clean_is ∙ t) (omega (arith, size.0))) in (
        sym (done.0 ∙ (λ i. record { code = 0; used = 2 + size.0 i })),
        q
            ∙ ap (put 7 (body_of m c) (4 * c)) p
            ∙ put_next l (head_of (5 + 4 * c) m.kind m.desks m.desk m.cell) (body_of m c) 7 (4 * c) refl
            ∙ sym (ap₂ (λ (f : List ℕ) (n : ℕ). f ++ drop n l) (frame-split m
            ∙ ap₂ (λ (n k : ℕ). head_of n m.kind m.desks m.desk m.cell ++ body_of m k) size.0 (sym e)) end)
            ∙ sym done.1,
      )
    where
      end : 2 + length_of m.kind m.desks ≡ 7 + 4 * c
      end = omega (arith, size.0)

  pub written-sized : (size : ℕ) → size ≡ 5 + 4 * c → clean ≡ true → 7 + 4 * c ≤ length l → (x y : List ℕ)
      → x ≡ head_of size m.kind m.desks m.desk m.cell ++ drop 7 l → y ≡ put 7 (body_of m c) (4 * c) x
      → (record { code = 0; used = 2 + size } ≡ write_rule m l) × (y ≡ output_rule m l)
  written-sized size s t h x y p q = rw s (written t h x y (rw s at p) q)
