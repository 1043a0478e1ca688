use Rattle.std.proofs.Common.{◌≡◌, ◌+◌, max, ℕ, length, get_or, set, List, ap, refl, rules, tests, ◌∙◌, arith}
use Rattle.theory_lists.specs.Replaced.{up_to, up_to-step, up_to-all, up_to-ahead}
use Rattle.clock.specs.declared.Clock.{Clock}
use Rattle.clock.specs.Clock.{number, merged, paired}
use Rattle.clock.specs.Laws.{paired_at, length-paired}
use Rattle.clock.proofs.Clock.merge.Goals as goal

-- what the loop puts at place k
abbrev larger_at : Clock → Clock → ℕ → ℕ
larger_at a b k = max (number a k) (number b k)

all_replaced : (a b : Clock) (l : List ℕ) (k : ℕ) → length a.n ≡ 8 → length b.n ≡ 8 → k ≡ 8 → l ≡ up_to (larger_at a b) k a.n
    → ◌≡◌ {A = Clock} (record { n = l }) (merged a b)
unfolding merged
all_replaced a b l k la lb end e =
    λ i.
    record {
      n =
          (e
          ∙ up_to-all (larger_at a b) k a.n (paired max a.n b.n) 0 (omega arith) (omega (arith, length-paired max a.n b.n)) (λ j h. paired_at max a.n b.n j))
          i;
    }

replaced-more : (a b : Clock) (l : List ℕ) (k x : ℕ) → l ≡ up_to (larger_at a b) k a.n → x ≡ max (get_or l k 0) (number b k)
    → set l k x ≡ up_to (larger_at a b) (k + 1) a.n
replaced-more a b l k x e p =
    let same : x ≡ larger_at a b k = p ∙ ap (λ y. max y (number b k)) (ap (λ m. get_or m k 0) e ∙ up_to-ahead (larger_at a b) k a.n k 0 (omega arith)) in
    rw (same, e) (up_to-step (larger_at a b) k a.n)

pub loop-k-init : goal.loop-k-init
unfolding up_to
loop-k-init c = refl

pub loop-k-preserved : goal.loop-k-preserved
loop-k-preserved c =
    replaced-more c.args.self c.args.other c.loop-k.number-items c.loop-k.k _ c.loop-k.invariant (search (rules, tests))

pub returns : goal.returns
returns c =
    let end : c.loop-k.k ≡ 8 = omega arith in
    all_replaced c.args.self c.args.other c.loop-k.number-items c.loop-k.k (search rules) (search rules) end c.loop-k.invariant
