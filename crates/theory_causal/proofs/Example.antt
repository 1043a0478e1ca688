-- The machine runs: desk 0 keeps the cells; desk 1 asks to write 27 in cell 0, desk 0 takes it, desk 1 brings the answer and reads its
-- copy. So it has an order.
-- Assumes nothing.
use Rattle.std.specs.Prelude.{◌≡◌, refl, false, ◌≢◌, List, ℕ, zero, suc}
use Rattle.std.proofs.Common.{sym, ap, ◌∙◌, inl, arith}
use Rattle.std.proofs.Math.Decide.{ℕ_discrete}
use Rattle.theory_causal.specs.Changed.{changed, changed-here, changed-elsewhere}
use Rattle.theory_causal.specs.History.{from, nothing, wrote, showed, listed}
use Rattle.theory_causal.specs.Demand.{Order}
use Rattle.theory_causal.specs.Facts.{zeros}
use Rattle.theory_causal.specs.Machine.{merged, raised, Held, Cell, gone, held, empty, write-asked, write-answered, Desk}
use Rattle.theory_causal.specs.Machine.{unwritten, stored, asking, answered, brought, storing, asks_write, reads, brings-write}
use Rattle.theory_causal.specs.Machine.{Start, Move, alone, takes, Run, start, next}
use Rattle.theory_causal.specs.Accident.{numbers}
use Rattle.theory_causal.specs.Example.{steps}
use Rattle.theory_causal.specs.Keepers.{contents, table, lost, kept, brings, changes, stores}
use Rattle.theory_causal.proofs.Run.{demand-3}

abbrev keeper : ℕ → ℕ
keeper c = 0

-- cell 0 alone
abbrev only : Held numbers → ℕ → Cell numbers
only g = changed (λ c. gone) 0 (held g)

abbrev fresh : (ℕ → Cell numbers) → Desk numbers
fresh cells = record { clock = zeros; cells = cells; slot = empty; served = false; asked = 0 }

-- the rows of desks 0 and 1; the others are fresh
abbrev rows : Desk numbers → Desk numbers → ℕ → Desk numbers
rows a b zero = a
rows a b (suc zero) = b
rows a b (suc (suc q)) = fresh (λ c. gone)

-- the answer
abbrev answer : Held numbers
answer = stored 1 27 (merged zeros (raised 1 zeros))

-- the rows after each step; the read changes nothing
abbrev rows₀ : ℕ → Desk numbers
rows₀ = rows (fresh (only unwritten)) (fresh (λ c. gone))

abbrev rows₁ : ℕ → Desk numbers
rows₁ = rows (rows₀ 0) (asking 0 (rows₀ 1) (write-asked 0 27 (raised 1 zeros)) (λ c. gone))

abbrev rows₂ : ℕ → Desk numbers
rows₂ = rows (storing (rows₁ 0) answer (only answer) false) (answered (rows₁ 1) (write-answered 0 answer))

abbrev rows₃ : ℕ → Desk numbers
rows₃ = rows (rows₂ 0) (brought (rows₂ 1) answer.stamp (only answer))

others : (a b d : Desk numbers) (q : ℕ) → q ≢ 1 → rows a b q ≡ rows a d q
others a b d zero ne = refl
others a b d (suc zero) ne = absurd (ne refl)
others a b d (suc (suc q)) ne = refl

here : (g : Held numbers) → only g 0 ≡ held g
here g = changed-here (λ c. gone) 0 (held g)

elsewhere : (g : Held numbers) (b : ℕ) → b ≢ 0 → only g b ≡ gone
elsewhere g = changed-elsewhere (λ c. gone) 0 (held g)

what : (g h : Held numbers) (c : ℕ) → only g c ≡ held h → h ≡ g
what g h c e = elim (ℕ_discrete c 0) [ yes i ↦ cc (here g) | no ne ↦ cc (elsewhere g c ne) ]

starts : Start (table keeper rows₀)
starts = record { clock = clock; slot = slot; cells = cells; last = last }
  where
    cells : (p c : ℕ) (g : Held numbers) → (rows₀ p).cells c ≡ held g → g ≡ unwritten
    cells zero c g e = what unwritten g c e
    cells (suc zero) c g e = cc
    cells (suc (suc p)) c g e = cc

    last : (c : ℕ) → contents (only unwritten c) ≡ unwritten
    last c =
        elim (ℕ_discrete c 0) [
          | yes i ↦ ap contents (ap (only unwritten) i ∙ here unwritten)
          | no ne ↦ ap contents (elsewhere unwritten c ne)
        ]

    clock : (p : ℕ) → (rows₀ p).clock ≡ zeros
    clock zero = refl
    clock (suc zero) = refl
    clock (suc (suc p)) = refl

    slot : (p : ℕ) → (rows₀ p).slot ≡ empty
    slot zero = refl
    slot (suc zero) = refl
    slot (suc (suc p)) = refl

asks : Move 0 (table keeper rows₀) (table keeper rows₁) nothing zeros
asks = alone 1 (asks_write 0 27 (λ c. gone) refl (λ b g e. e)) (changes keeper rows₀ rows₁ 1 refl (others _ _ _) (λ b i. refl))

takes-it : Move 1 (table keeper rows₁) (table keeper rows₂) (wrote 1 0 27 0) answer.stamp
takes-it = takes 0 1 0 27 (raised 1 zeros) (only answer) false record {
  apart = omega arith;
  asks = refl;
  stores =
      stores keeper rows₁ rows₂ 0 0 answer (raised 1 zeros) (only answer) false refl unwritten (here unwritten) (here answer)
      (λ b ne. kept refl (elsewhere answer b ne ∙ sym (elsewhere unwritten b ne))) refl rest;
  serves = inl refl;
  asker = refl;
  rest = rest-rows;
}
  where
    rest : (q : ℕ) → q ≢ 0 → (rows₂ q).cells ≡ (rows₁ q).cells
    rest zero ne = absurd (ne refl)
    rest (suc zero) ne = refl
    rest (suc (suc q)) ne = refl

    rest-rows : (q : ℕ) → q ≢ 0 → q ≢ 1 → rows₂ q ≡ rows₁ q
    rest-rows zero ne no_one = absurd (ne refl)
    rest-rows (suc zero) ne no_one = absurd (no_one refl)
    rest-rows (suc (suc q)) ne no_one = refl

brings-it : Move 2 (table keeper rows₂) (table keeper rows₃) nothing zeros
brings-it =
    alone 1
    (brings-write 0 answer (only answer) refl
    (brings keeper rows₂ 1 0 answer (only answer) (λ b ne. lost (omega arith) (elsewhere answer b ne)) (λ h e. (what answer h 0 e, refl))))
    (changes keeper rows₂ rows₃ 1 refl (others _ _ _) (λ b i. absurd (omega arith)))

reads-it : Move 3 (table keeper rows₃) (table keeper rows₃) (showed 1 0 27 (from 1) 3) answer.stamp
reads-it =
    alone 1 (reads 0 answer (only answer) refl (here answer) (λ b g e. e)) (changes keeper rows₃ rows₃ 1 refl (λ q ne. refl) (λ b i. refl))

run : Run steps (table keeper rows₃)
unfolding steps
run = next (next (next (next (start starts) asks) takes-it) brings-it) reads-it

pub run-order : (l : List ℕ) × Order (listed steps) 1 l
run-order = let (l, o, t) = demand-3 run 1 in (l, o)
