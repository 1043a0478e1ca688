-- Eight numbers written out.
use Rattle.std.proofs.Common.{◌≡◌, bit_or, length, arith}
use Rattle.theory_lists.specs.Or.{listed, listed-all}
use Rattle.clock.specs.declared.Clock.{Clock}
use Rattle.clock.specs.Clock.{number, paired}
use Rattle.clock.specs.Laws.{paired_at, length-paired}

pub each_or : (a b : Clock) → length a.n ≡ 8 → length b.n ≡ 8 → listed (λ k. bit_or (number a k) (number b k)) 0 8 ≡ paired bit_or a.n b.n
each_or a b la lb =
    listed-all (λ k. bit_or (number a k) (number b k)) (paired bit_or a.n b.n) 0 (paired_at bit_or a.n b.n) 8
    (omega (arith, length-paired bit_or a.n b.n))
