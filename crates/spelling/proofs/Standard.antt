-- What std calls big-endian bytes are the bytes of 01, at the widths two and four.
-- Assumes nothing.
use Rattle.std.proofs.Common.{
  ◌≡◌,
  ℕ,
  List,
  [],
  ◌∷◌,
  ◌++◌,
  ◌+◌,
  ◌-◌,
  ◌/◌,
  ◌%◌,
  ◌≤◌,
  length,
  get_or,
  take,
  drop,
  ap,
  ap₂,
  sym,
  ◌∙◌,
  append_assoc,
  arith,
  drop-drop,
}
use borrow.Rule.Slice.PartMut.{put_mid}
use Rattle.std.specs.Int.{w16, w32, to_be_bytes, from_be_bytes}
use Rattle.spelling.specs.Bytes.{numeral, followed, bytes, put}
use Rattle.spelling.specs.Places.{two_in, four-in}

-- ---- reading: the bytes that stand from a place on
module _ (s : List ℕ) (at : ℕ) where
  pub two-read : at + 2 ≤ length s → (a b : ℕ) → a ≡ get_or s at 0 → b ≡ get_or s (at + 1) 0
      → from_be_bytes w16 (a ∷ b ∷ []) ≡ numeral (take 2 (drop at s))
  unfolding followed
  two-read h a b p q = rw (two_in at s h) (omega arith)

  pub four-read : at + 4 ≤ length s → (a b c d : ℕ) → a ≡ get_or s at 0 → b ≡ get_or s (at + 1) 0 → c ≡ get_or s (at + 2) 0
      → d ≡ get_or s (at + 3) 0 → from_be_bytes w32 (a ∷ b ∷ c ∷ d ∷ []) ≡ numeral (take 4 (drop at s))
  unfolding followed
  four-read h a b c d p q r t = rw (four-in at s h) (omega arith)

-- ---- writing: the lowest bytes of a number
pub two-spelled : (n x : ℕ) → n ≡ x % 65536 → to_be_bytes w16 n ≡ bytes 2 x
unfolding bytes
two-spelled n x e =
    let first : n / 256 % 256 ≡ x / 256 % 256 = omega arith in
    let last : n % 256 ≡ x % 256 = omega arith in
    λ i. first i ∷ last i ∷ []

pub four-spelled : (n x : ℕ) → n ≡ x % 4294967296 → to_be_bytes w32 n ≡ bytes 4 x
unfolding bytes
four-spelled n x e =
    let first : n / 16777216 % 256 ≡ x / 256 / 256 / 256 % 256 = omega arith in
    let second : n / 65536 % 256 ≡ x / 256 / 256 % 256 = omega arith in
    let third : n / 256 % 256 ≡ x / 256 % 256 = omega arith in
    let last : n % 256 ≡ x % 256 = omega arith in
    λ i. first i ∷ second i ∷ third i ∷ last i ∷ []

-- a part of w bytes written over
pub part-put : (at w : ℕ) (l new bs : List ℕ) → new ≡ bs → put_mid at (at + w - at) l new ≡ put at bs w l
part-put at w l new bs e =
    let wide : at + w - at ≡ w = omega arith in
    let rest : drop (at + w - at) (drop at l) ≡ drop (at + w) l = ap (λ (n : ℕ). drop n (drop at l)) wide ∙ drop-drop w at l in
    ap₂ (λ (x y : List ℕ). take at l ++ (x ++ y)) e rest ∙ sym (append_assoc (take at l) bs (drop (at + w) l))
