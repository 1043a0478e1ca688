-- Rows of numbers as bytes, big-endian, each number in its own count of bytes; both ways, and that each way undoes the other.
-- Assumes nothing.
use Rattle.std.specs.Prelude.{◌≡◌, refl, List, [], ◌∷◌, ◌++◌, ℕ, zero, suc, ◌+◌, ◌*◌, ◌/◌, ◌%◌, ◌^◌, ◌<◌, ◌≤◌, length, get_or, take, drop}
use Rattle.std.proofs.Common.{sym, ap, ap₂, ◌∙◌, append_assoc, append-nil, pow-suc, add-zero, zero-add, add-suc, suc-add, arith, length-append, length-take, length-drop, take-append-drop, drop_of_length-le, length-take-le, take_at, drop_at, take-add, drop-drop, get_or-take, get_or-drop}
use Rattle.std.proofs.Math.Decide.{dec_lt}
use Rattle.std.proofs.Math.ListN.{get_or-eq_default}
use Rattle.std.proofs.Math.Seq.{take-nil}
use Rattle.theory_lists.specs.Sum.{sum}

-- a number in w bytes, the last of which counts ones
unfoldable pub bytes : ℕ → ℕ → List ℕ
bytes zero x = []
bytes (suc w) x = bytes w (x / 256) ++ (x % 256 ∷ [])

-- the number that a, followed by these bytes, is
unfoldable pub followed : ℕ → List ℕ → ℕ
followed a [] = a
followed a (b ∷ bs) = followed (a * 256 + b) bs

-- the number that these bytes are
abbrev pub numeral : List ℕ → ℕ
numeral bs = followed 0 bs

-- the bytes of a row of numbers, each in its width
unfoldable pub spell : List ℕ → List ℕ → List ℕ
spell [] ns = []
spell (w ∷ ws) [] = []
spell (w ∷ ws) (n ∷ ns) = bytes w n ++ spell ws ns

-- the row of numbers, of these widths, that stands in s from place p on; past the end of s it is 0
unfoldable pub numbers : List ℕ → ℕ → List ℕ → List ℕ
numbers [] p s = []
numbers (w ∷ ws) p s = numeral (take w (drop p s)) ∷ numbers ws (p + w) s

-- each is a byte
abbrev pub Bytes : List ℕ → Type 0
Bytes s = (k : ℕ) → get_or s k 0 < 256

-- there are as many numbers as widths, and each fits its width
pub record Fitting (ws ns : List ℕ) : Type 0 where
  pub as_many : length ns ≡ length ws
  pub each : (k : ℕ) → get_or ns k 0 < 256 ^ get_or ws k 0

-- a part of bytes
pub bytes-part : (w p : ℕ) (s : List ℕ) → Bytes s → Bytes (take w (drop p s))
bytes-part w p s b k =
    elim (dec_lt k w) [
      | yes h ↦ (rw (get_or-take w (drop p s) k 0 h, get_or-drop p s k 0) (b (p + k)))
      | no h ↦ (rw (get_or-eq_default (take w (drop p s)) 0 {n = k} (omega (arith, length-take w (drop p s)))) (omega arith))
    ]

-- ---- one number
pub length-bytes : (w x : ℕ) → length (bytes w x) ≡ w
unfolding bytes
length-bytes zero x = refl
length-bytes (suc w) x = length-append (bytes w (x / 256)) (x % 256 ∷ []) ∙ omega (arith, length-bytes w (x / 256))

followed-last : (a : ℕ) (l : List ℕ) (b : ℕ) → followed a (l ++ (b ∷ [])) ≡ followed a l * 256 + b
unfolding followed
followed-last a [] b = refl
followed-last a (x ∷ l) b = followed-last (a * 256 + x) l b

pub numeral-bytes : (w x : ℕ) → x < 256 ^ w → numeral (bytes w x) ≡ x
unfolding bytes followed
numeral-bytes zero x h = omega arith
numeral-bytes (suc w) x h =
    followed-last 0 (bytes w (x / 256)) (x % 256)
    ∙ omega (arith, numeral-bytes w (x / 256) (omega (arith, pow-suc 256 w)))

bytes-followed : (w a : ℕ) (l : List ℕ) → Bytes l → bytes (w + length l) (followed a l) ≡ bytes w a ++ l
unfolding bytes followed
bytes-followed w a [] h = rw (add-zero w, append-nil (bytes w a))
bytes-followed w a (b ∷ l) h =
    let whole : (a * 256 + b) / 256 ≡ a = omega (arith, h 0) in
    let last : (a * 256 + b) % 256 ≡ b = omega (arith, h 0) in
    ap (λ (n : ℕ). bytes n (followed (a * 256 + b) l)) (add-suc w (length l) ∙ sym (suc-add w (length l)))
    ∙ bytes-followed (suc w) (a * 256 + b) l (λ k. h (suc k))
    ∙ rw (whole, last, append_assoc (bytes w a) (b ∷ []) l)

pub bytes-numeral : (l : List ℕ) → Bytes l → bytes (length l) (numeral l) ≡ l
unfolding bytes
bytes-numeral l h = ap (λ (n : ℕ). bytes n (numeral l)) (sym (zero-add (length l))) ∙ bytes-followed 0 0 l h

-- ---- a row of numbers
pub length-spell : (ws ns : List ℕ) → length ws ≤ length ns → length (spell ws ns) ≡ sum ws
unfolding spell sum
length-spell [] ns h = refl
length-spell (w ∷ ws) [] h = omega arith
length-spell (w ∷ ws) (n ∷ ns) h =
    length-append (bytes w n) (spell ws ns) ∙ omega (arith, length-bytes w n, length-spell ws ns (omega arith))

-- one number more
pub spell_next : (c : ℕ) (ws ns : List ℕ) → c < length ws → c < length ns
    → spell (take (suc c) ws) ns ≡ spell (take c ws) ns ++ bytes (get_or ws c 0) (get_or ns c 0)
unfolding spell
spell_next c [] ns h i = absurd (omega arith)
spell_next c (w ∷ ws) [] h i = absurd (omega arith)
spell_next zero (w ∷ ws) (n ∷ ns) h i = append-nil (bytes w n)
spell_next (suc c) (w ∷ ws) (n ∷ ns) h i =
    rw (spell_next c ws ns (omega arith) (omega arith), append_assoc (bytes w n) (spell (take c ws) ns) (bytes (get_or ws c 0) (get_or ns c 0)))

-- a list with these bytes in place of the n from place p on
abbrev pub put : ℕ → List ℕ → ℕ → List ℕ → List ℕ
put p bs n l = take p l ++ bs ++ drop (p + n) l

pub put-none : (l : List ℕ) (p : ℕ) → l ≡ put p [] 0 l
put-none l p = rw (add-zero p, append-nil (take p l), take-append-drop p l)

-- a list that starts with `first`, after which more is put: the list that starts with both
pub put_next : (l first more : List ℕ) (p n : ℕ) → length first ≡ p
    → put p more n (first ++ drop p l) ≡ first ++ more ++ drop (p + n) l
put_next l first more p n e =
    ap₂ (λ (x y : List ℕ). x ++ more ++ y) (take_at first (drop p l) p e)
    (sym (drop-drop n p (first ++ drop p l)) ∙ ap (drop n) (drop_at first (drop p l) p e) ∙ drop-drop n p l)

-- past the end every number is 0
numbers-past : (ws ns s : List ℕ) (p : ℕ) → length s ≤ p → length ns ≡ length ws → ((k : ℕ) → get_or ns k 0 ≡ 0) → numbers ws p s ≡ ns
unfolding numbers followed
numbers-past [] [] s p h e z = refl
numbers-past [] (n ∷ ns) s p h e z = absurd (omega arith)
numbers-past (w ∷ ws) [] s p h e z = absurd (omega arith)
numbers-past (w ∷ ws) (n ∷ ns) s p h e z =
    ap₂ ◌∷◌ (rw (drop_of_length-le s h, take-nil w) (sym (z 0))) (numbers-past ws ns s (p + w) (omega arith) (omega arith) (λ k. z (suc k)))

-- written, then read: the first c numbers are there, and the others were 0
pub numbers-spell : (c : ℕ) (ws ns first : List ℕ) (p : ℕ) → length first ≡ p → Fitting ws ns → ((k : ℕ) → c ≤ k → get_or ns k 0 ≡ 0)
    → numbers ws p (first ++ spell (take c ws) ns) ≡ ns
unfolding numbers spell
numbers-spell c [] [] first p e f z = refl
numbers-spell c [] (n ∷ ns) first p e f z = absurd (omega (arith, f.as_many))
numbers-spell c (w ∷ ws) [] first p e f z = absurd (omega (arith, f.as_many))
numbers-spell zero (w ∷ ws) (n ∷ ns) first p e f z =
    rw (append-nil first) (numbers-past (w ∷ ws) (n ∷ ns) first p (omega arith) f.as_many (λ k. z k (omega arith)))
numbers-spell (suc c) (w ∷ ws) (n ∷ ns) first p e f z =
    ap₂ ◌∷◌
    (rw
    (drop_at first (bytes w n ++ spell (take c ws) ns) p e, take_at (bytes w n) (spell (take c ws) ns) w (length-bytes w n))
    (numeral-bytes w n (f.each 0)))
    (rw (← append_assoc first (bytes w n) (spell (take c ws) ns))
    (numbers-spell c ws ns (first ++ bytes w n) (p + w) (length-append first (bytes w n) ∙ omega (arith, length-bytes w n)) rest
    (λ k h. z (suc k) (omega arith))))
  where
    rest : Fitting ws ns
    rest = record { as_many = omega (arith, f.as_many); each = λ k. f.each (suc k) }

-- read, then written: the same bytes
pub spell-numbers : (c : ℕ) (ws s : List ℕ) (p : ℕ) → Bytes s → p + sum (take c ws) ≤ length s
    → spell (take c ws) (numbers ws p s) ≡ take (sum (take c ws)) (drop p s)
unfolding numbers spell sum
spell-numbers zero ws s p b h = refl
spell-numbers (suc c) [] s p b h = refl
spell-numbers (suc c) (w ∷ ws) s p b h =
    ap₂ ◌++◌
    (ap (λ (n : ℕ). bytes n (numeral (take w (drop p s)))) (sym long) ∙ bytes-numeral (take w (drop p s)) (bytes-part w p s b))
    (spell-numbers c ws s (p + w) b (omega arith) ∙ ap (take (sum (take c ws))) (sym (drop-drop w p s)))
    ∙ sym (take-add w (sum (take c ws)) (drop p s))
  where
    long : length (take w (drop p s)) ≡ w
    long = length-take-le w (drop p s) (omega (arith, length-drop p s))
