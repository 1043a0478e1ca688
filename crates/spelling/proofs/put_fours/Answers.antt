-- `loop-k-preserved`: one number more, put in after those that stand there.
use Rattle.std.proofs.Common.{◌≡◌, ℕ, ◌+◌, ◌*◌, ◌≤◌, ◌<◌, List, ◌++◌, length, get_or, take, drop, replicate, sym, ap, ap₂, ◌∙◌, append_assoc, add-one, arith, length-append, length-take}
use Rattle.std.proofs.Math.ListN.{get_or-replicate, length-replicate}
use Rattle.std.proofs.lemmas.List.{take_all}
use Rattle.std.proofs.Math.Seq.{length-take-le}
use Rattle.spelling.specs.Bytes.{bytes, spell, length-spell, spell_next, put, put-none, put_next}
use Rattle.spelling.specs.Places.{sum-fours}
use Rattle.spelling.proofs.put_fours.Goals as goal

-- the first k numbers as bytes
abbrev fours : List ℕ → ℕ → List ℕ
fours ns k = spell (take k (replicate (length ns) 4)) ns

module _ (ns l : List ℕ) (at k : ℕ) where
  many : k ≤ length ns → length {A = ℕ} (take k (replicate (length ns) 4)) ≡ k
  many h = omega (arith, length-take {A = ℕ} k (replicate {A = ℕ} (length ns) 4), length-replicate {A = ℕ} (length ns) 4)

  length-front : k ≤ length ns → at + 4 * k ≤ length l → length (take at l ++ fours ns k) ≡ at + 4 * k
  length-front h room =
      length-append (take at l) (fours ns k)
      ∙ omega (
        arith,
        length-take-le at l (omega arith),
        length-spell (take k (replicate (length ns) 4)) ns (omega (arith, many h)),
        sum-fours k (length ns) h,
      )

  put-turn : k < length ns → at + 4 * k + 4 ≤ length l
      → put (at + 4 * k) (bytes 4 (get_or ns k 0)) 4 (put at (fours ns k) (4 * k) l) ≡ put at (fours ns (k + 1)) (4 * (k + 1)) l
  put-turn h room =
      put_next l (take at l ++ fours ns k) (bytes 4 (get_or ns k 0)) (at + 4 * k) 4 (length-front (omega arith) (omega arith))
      ∙ ap₂ ◌++◌
      (append_assoc (take at l) (fours ns k) (bytes 4 (get_or ns k 0)) ∙ ap (λ (x : List ℕ). take at l ++ x) (sym next))
      (ap (λ (n : ℕ). drop n l) end)
    where
      end : at + 4 * k + 4 ≡ at + 4 * (k + 1)
      end = omega arith

      next : fours ns (k + 1) ≡ fours ns k ++ bytes 4 (get_or ns k 0)
      next =
          rw add-one
          (spell_next k (replicate (length ns) 4) ns (omega (arith, length-replicate {A = ℕ} (length ns) 4)) h
          ∙ ap (λ (w : ℕ). fours ns k ++ bytes w (get_or ns k 0)) (get_or-replicate (length ns) k 4 0 h))

pub loop-k-init : goal.loop-k-init
unfolding spell
loop-k-init c = put-none c.args.out.now c.args.at

pub loop-k-preserved : goal.loop-k-preserved
loop-k-preserved c =
    let k = c.loop-k.k in
    let ns = c.args.ns.now in
    c.put_one.ensures
    ∙ ap (λ (l : List ℕ). put (c.args.at + 4 * k) (bytes 4 (get_or ns k 0)) 4 l) c.loop-k.invariant
    ∙ put-turn ns c.args.out.now c.args.at k (omega arith) (omega arith)

pub returns : goal.returns
returns c =
    let ns = c.args.ns.now in
    let all : c.loop-k.k ≡ length ns = omega arith in
    let widths = take_all (length ns) (replicate (length ns) 4) (omega (arith, length-replicate {A = ℕ} (length ns) 4)) in
    rw all at c.loop-k.invariant ∙ ap (λ (ws : List ℕ). put c.args.at (spell ws ns) (4 * length ns) c.args.out.now) widths
