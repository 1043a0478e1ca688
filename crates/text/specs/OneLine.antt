-- A line of numbers has exactly one text: reading what was printed gives the numbers back, and printing what was read gives the bytes back.
-- Assumes nothing.
use Rattle.std.specs.Prelude.{◌≡◌, refl, Bool, true, false, not, cond, ◌&&◌, eqb, length, take, drop, replicate}
use Rattle.std.proofs.Common.{sym, ap, ◌∙◌, true≢false, arith, length-take-le, eqb-true, eq-eqb, ne_eqb}
use Rattle.std.proofs.Math.Path.{ap₂}
use Rattle.std.proofs.Math.Bool.{and_assoc}
use mathlib.Core.List.{List, [], ◌∷◌, ◌++◌, map, append_assoc}
use Rattle.std.proofs.Math.Option.{Option, none, some}
use Prim.Native.Nat.{ℕ, ◌+◌, ◌*◌, ◌≤◌, ◌<◌}
use Rattle.std.proofs.Math.ListN.{length-append}
use Rattle.std.proofs.Math.Seq.{drop-append_seam}
use Rattle.std.proofs.lemmas.List.Edits.{sets-eq}
use Rattle.theory_lists.specs.Test.{every, both, both_left, both_right}
use Rattle.text.specs.Number.{largest, is_digit, number_of, decimal}
use Rattle.text.specs.Digits.{length-decimal}
use Rattle.text.specs.Line.{space, lf, before, on_first, pieces, with_first, all_numbers, numbers_of, line_numbers, joined, spaced, line_of, bad_line}
use Rattle.text.specs.Cut.{pieces-first}
use Rattle.text.specs.Reading.{as_numbers, followed, line_at}
use Rattle.text.specs.Row.{line-short, line-here}
use Rattle.text.specs.Printing.{Room, Put}
use Rattle.text.specs.OneText.{decimal-digits, printed-number, read_number}
pub mod Front

-- the numbers are of 32 bits
abbrev pub Small : List ℕ → Type 0
Small [] = Unit {0}
Small (n ∷ ns) = (n ≤ largest) × Small ns

-- ---- pieces that lack the byte between them: cutting undoes joining, and joining undoes cutting
unfoldable pub lacks : ℕ → List ℕ → Bool
lacks b [] = true
lacks b (x ∷ xs) = not (eqb x b) && lacks b xs

lacks-append : (b : ℕ) (u v : List ℕ) → lacks b (u ++ v) ≡ (lacks b u && lacks b v)
unfolding lacks
lacks-append b [] v = refl
lacks-append b (x ∷ u) v =
    ap (λ (t : Bool). not (eqb x b) && t) (lacks-append b u v) ∙ sym (and_assoc (not (eqb x b)) (lacks b u) (lacks b v))

digits-lack : (b : ℕ) → is_digit b ≡ false → (w : List ℕ) → every (map is_digit w) ≡ true → lacks b w ≡ true
unfolding lacks every
digits-lack b no_digit [] e = refl
digits-lack b no_digit (x ∷ xs) e =
    both (ap not (ne_eqb x b (λ same. true≢false (sym (both_left (is_digit x) (every (map is_digit xs)) e) ∙ ap is_digit same ∙ no_digit))))
    (digits-lack b no_digit xs (both_right (is_digit x) (every (map is_digit xs)) e))

no-digit-space : is_digit space ≡ false
unfolding is_digit
no-digit-space = refl

no-digit-lf : is_digit lf ≡ false
unfolding is_digit
no-digit-lf = refl

lacks-decimal : (b : ℕ) → is_digit b ≡ false → (n : ℕ) → lacks b (decimal n) ≡ true
lacks-decimal b no_digit n = digits-lack b no_digit (decimal n) (decimal-digits n)

other : (x b : ℕ) (t : Bool) → (not (eqb x b) && t) ≡ true → eqb x b ≡ false
other x b t e = go (eqb x b) e
  where
    go : (d : Bool) → (not d && t) ≡ true → d ≡ false
    go true e = cc
    go false e = refl

pub before-lacks : (b : ℕ) (w r : List ℕ) → lacks b w ≡ true → before b (w ++ b ∷ r) ≡ w
unfolding before lacks
before-lacks b [] r e = rw (eq-eqb b b refl)
before-lacks b (x ∷ xs) r e =
    rw (other x b (lacks b xs) e) (ap (λ (l : List ℕ). x ∷ l) (before-lacks b xs r (both_right (not (eqb x b)) (lacks b xs) e)))

pieces-one : (b : ℕ) (w : List ℕ) → lacks b w ≡ true → pieces b w ≡ w ∷ []
unfolding pieces lacks on_first
pieces-one b [] e = refl
pieces-one b (x ∷ xs) e = rw (other x b (lacks b xs) e, pieces-one b xs (both_right (not (eqb x b)) (lacks b xs) e))

pieces_more : (b : ℕ) (w r : List ℕ) → lacks b w ≡ true → pieces b (w ++ b ∷ r) ≡ w ∷ pieces b r
unfolding pieces lacks on_first
pieces_more b [] r e = rw (eq-eqb b b refl)
pieces_more b (x ∷ xs) r e = rw (other x b (lacks b xs) e, pieces_more b xs r (both_right (not (eqb x b)) (lacks b xs) e))

joined-pieces : (b : ℕ) (l : List ℕ) → joined b (pieces b l) ≡ l
unfolding joined pieces on_first
joined-pieces b [] = refl
joined-pieces b (x ∷ xs) = go (eqb x b) (pieces b xs) (eqb-true x b) (omega (arith, ap length (pieces-first b xs))) (joined-pieces b xs)
  where
    go : (d : Bool) (ps : List (List ℕ)) → (d ≡ true → x ≡ b) → 0 < length ps → joined b ps ≡ xs
        → joined b (cond d ([] ∷ ps) (on_first x ps)) ≡ x ∷ xs
    go d [] same some-piece e = absurd (omega arith)
    go true (p ∷ ps) same some-piece e = ap₂ (λ (y : ℕ) (l : List ℕ). y ∷ l) (sym (same refl)) e
    go false (p ∷ []) same some-piece e = ap (λ (l : List ℕ). x ∷ l) e
    go false (p ∷ q ∷ ps) same some-piece e = ap (λ (l : List ℕ). x ∷ l) e

-- ---- what was printed is read
pieces-spaced : (n : ℕ) (ns : List ℕ) → pieces space (spaced (n ∷ ns)) ≡ map decimal (n ∷ ns)
unfolding spaced joined
pieces-spaced n [] = pieces-one space (decimal n) (lacks-decimal space no-digit-space n)
pieces-spaced n (m ∷ ms) =
    pieces_more space (decimal n) (spaced (m ∷ ms)) (lacks-decimal space no-digit-space n)
    ∙ ap (λ (l : List (List ℕ)). decimal n ∷ l) (pieces-spaced m ms)

all-printed : (ns : List ℕ) → Small ns → all_numbers (map decimal ns) ≡ some ns
unfolding all_numbers with_first
all-printed [] s = refl
all-printed (n ∷ ns) s = rw (printed-number n s.0, all-printed ns s.1)

pub printed-line : (n : ℕ) (ns : List ℕ) → Small (n ∷ ns) → numbers_of (spaced (n ∷ ns)) ≡ some (n ∷ ns)
unfolding numbers_of
printed-line n ns s = ap all_numbers (pieces-spaced n ns) ∙ all-printed (n ∷ ns) s

-- ---- what was read is printed
all_read : (ws : List (List ℕ)) (ns : List ℕ) → all_numbers ws ≡ some ns → (map decimal ns ≡ ws) × Small ns
unfolding all_numbers with_first
all_read [] ns e = let f : ns ≡ [] = cc in rw f (refl, tt)
all_read (w ∷ ws) ns e = go (number_of w) (all_numbers ws) refl refl (all_read ws) e
  where
    go : (o : Option ℕ) (os : Option (List ℕ)) → number_of w ≡ o → all_numbers ws ≡ os
        → ((ms : List ℕ) → all_numbers ws ≡ some ms → (map decimal ms ≡ ws) × Small ms)
        → with_first o os ≡ some ns → (map decimal ns ≡ w ∷ ws) × Small ns
    go none os p q rest e = let z : ◌≡◌ {A = ℕ} 0 1 = cc in absurd (omega arith)
    go (some n) none p q rest e = let z : ◌≡◌ {A = ℕ} 0 1 = cc in absurd (omega arith)
    go (some n) (some ms) p q rest e =
        let f : ns ≡ n ∷ ms = cc in
        let r = read_number w n p in
        let t = rest ms q in
        rw f (ap₂ (λ (a : List ℕ) (l : List (List ℕ)). a ∷ l) r.0 t.0, (r.1, t.1))

pub read-line : (l ns : List ℕ) → numbers_of l ≡ some ns → (spaced ns ≡ l) × Small ns
unfolding numbers_of spaced
read-line l ns e = let r = all_read (pieces space l) ns e in (ap (joined space) r.0 ∙ joined-pieces space l, r.1)

-- ---- how long a line is
length-spaced : (n : ℕ) (ns : List ℕ) → Small (n ∷ ns) → length (spaced (n ∷ ns)) + 1 ≤ 11 * length (n ∷ ns)
unfolding spaced joined
length-spaced n [] s = omega (arith, length-decimal n s.0)
length-spaced n (m ∷ ms) s =
    omega (arith, length-append (decimal n) (space ∷ spaced (m ∷ ms)), length-decimal n s.0, length-spaced m ms s.1)

pub length-line : (n : ℕ) (ns : List ℕ) → Small (n ∷ ns) → length (line_of (n ∷ ns)) ≤ 11 * length (n ∷ ns)
unfolding line_of
length-line n ns s = omega (arith, length-append (spaced (n ∷ ns)) (lf ∷ []), length-spaced n ns s)

pub length-bad-line : (n : ℕ) → n ≤ largest → length (bad_line n) ≤ 20
unfolding bad_line
length-bad-line n h = omega (arith, length-append (decimal n) (lf ∷ []), length-decimal n h)

-- ---- where a line was printed it is read, and the next line starts where the printing ended
lacks-spaced : (n : ℕ) (ns : List ℕ) → lacks lf (spaced (n ∷ ns)) ≡ true
unfolding spaced joined lacks
lacks-spaced n [] = lacks-decimal lf no-digit-lf n
lacks-spaced n (m ∷ ms) = lacks-append lf (decimal n) (space ∷ spaced (m ∷ ms)) ∙ both (lacks-decimal lf no-digit-lf n) (lacks-spaced m ms)

module _ (n : ℕ) (ns : List ℕ) (small : Small (n ∷ ns)) (few : length ns < 32) where
  abbrev text : List ℕ
  text = spaced (n ∷ ns)

  long : length (line_of (n ∷ ns)) ≡ length text + 1
  unfolding line_of
  long = length-append text (lf ∷ [])

  numbers : line_numbers text ≡ some (n ∷ ns)
  numbers = line-short text (omega (arith, length-spaced n ns small)) ∙ printed-line n ns small

  line-at : (front rest : List ℕ) → line_at (front ++ line_of (n ∷ ns) ++ rest) (length front)
      ≡ followed (as_numbers (some (n ∷ ns))) (length front + length (line_of (n ∷ ns)))
  unfolding line_of
  line-at front rest =
      line-here all (length front)
      (omega (arith, shorter, length-append (front ++ (text ++ lf ∷ [])) rest, length-append front (text ++ lf ∷ []), long))
      ∙ ap₂ followed (ap as_numbers (ap line_numbers line ∙ numbers)) (omega (arith, shorter, long))
    where
      all : List ℕ
      all = front ++ (text ++ lf ∷ []) ++ rest

      from-here : drop (length front) all ≡ text ++ lf ∷ rest
      from-here =
          ap (drop (length front)) (append_assoc front (text ++ lf ∷ []) rest)
          ∙ drop-append_seam front (text ++ lf ∷ [] ++ rest)
          ∙ append_assoc text (lf ∷ []) rest

      line : before lf (drop (length front) all) ≡ text
      line = ap (before lf) from-here ∙ before-lacks lf text rest (lacks-spaced n ns)

      shorter : length (before lf (drop (length front) all)) ≡ length text
      shorter = ap length line

  pub put-line-read : {old new : List ℕ} {at next : ℕ} → Room (line_of (n ∷ ns)) old at → Put (line_of (n ∷ ns)) old at new next
      → line_at new at ≡ followed (as_numbers (some (n ∷ ns))) next
  put-line-read {old} {new} {at} {next} room p =
      let front : length (take at old) ≡ at = length-take-le at old (omega arith) in
      rw (p.bytes, p.after, sets-eq (line_of (n ∷ ns)) old at room)
      (rw front at (line-at (take at old) (drop (at + length (line_of (n ∷ ns))) old)))

-- a reply that was printed is read as a line of three numbers: code, value, count
pub reply-read : (code value count : ℕ) {old new : List ℕ} {at next : ℕ} → Small (code ∷ value ∷ count ∷ [])
    → Room (line_of (code ∷ value ∷ count ∷ [])) old at → Put (line_of (code ∷ value ∷ count ∷ [])) old at new next
    → line_at new at ≡ record { count = 3; n = code ∷ value ∷ count ∷ replicate 29 0; next = next }
unfolding followed as_numbers
reply-read code value count small room p = put-line-read code (value ∷ count ∷ []) small (omega arith) room p
