-- The places that a plan's keepers make.
-- Assumes nothing.
use Rattle.std.proofs.Common.{◌≡◌, sym, ◌∙◌, ℕ, ◌<◌, List, length, get_or, replicate, arith, lt-ltb, le-ltb, ext_get_or}
use Rattle.std.proofs.Math.Decide.{dec_lt}
use Rattle.std.proofs.lemmas.List.{length-replicate, get_or-replicate}
use Rattle.theory_lists.specs.Each.{map_at, length-map_at, get_or-map_at}
use Rattle.theory_lists.specs.Replaced.{up_to, up_to-passed, up_to-ahead, length-up_to}
use Rattle.desk.specs.declared.Place.{Place}
use Rattle.desk.specs.Desk.{no_place}
use Rattle.desk.specs.Start.{planned_place}

abbrev pub kept_at : List ℕ → ℕ → Place
kept_at keepers c = record { keeper = get_or keepers c 0 }

abbrev none : List Place
none = replicate 32 no_place

-- with all cells passed they are the plan's
pub all-placed : (n : ℕ) (keepers : List ℕ) → length keepers ≡ 32
    → up_to (kept_at keepers) n (replicate 32 no_place) ≡ map_at (planned_place n) keepers
all-placed n keepers long =
    ext_get_or no_place (up_to (kept_at keepers) n none) (map_at (planned_place n) keepers)
    (length-up_to (kept_at keepers) n none ∙ length-replicate 32 no_place ∙ sym (length-map_at (planned_place n) keepers ∙ long))
    (λ c h. at c (omega (arith, length-up_to (kept_at keepers) n none, length-replicate 32 no_place)))
  where
    at : (c : ℕ) → c < 32 → get_or (up_to (kept_at keepers) n none) c no_place ≡ get_or (map_at (planned_place n) keepers) c no_place
    at c i =
        elim (dec_lt c n) [
          | yes h ↦
              up_to-passed (kept_at keepers) n none c no_place h (omega (arith, length-replicate 32 no_place))
              ∙ sym (get_or-map_at (planned_place n) keepers c 0 no_place (omega arith) ∙ rw (lt-ltb c n h))
          | no h ↦
              up_to-ahead (kept_at keepers) n none c no_place (omega arith) ∙ get_or-replicate 32 c no_place no_place i
              ∙ sym (get_or-map_at (planned_place n) keepers c 0 no_place (omega arith) ∙ rw (le-ltb c n (omega arith)))
        ]
