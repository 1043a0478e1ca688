-- The keepers past the cell count are right whatever they are.
use Rattle.std.proofs.Common.{◌≡◌, refl, sym, ap, ◌∙◌, ℕ, ◌+◌, ◌≤◌, ◌<◌, Bool, true, ◌&&◌, List, length, drop, get_or, length-drop, get_or-drop, rules, arith, lt-ltb, le-ltb}
use Rattle.std.proofs.Math.Bool.{and-true}
use Rattle.theory_lists.specs.Each.{map_at, length-map_at, get_or-map_at}
use Rattle.theory_lists.specs.Test.{every, every_of, map_at-turn}
use Rattle.desk.specs.declared.Plan.{Plan}
use Rattle.desk.specs.Start.{keeper_right, keepers_right}
use Rattle.desk_start.proofs.keepers_right.Goals as goal

abbrev tests : Plan → List Bool
tests p = map_at (keeper_right p.desks p.cells) p.keepers

past-right : (p : Plan) → every (drop p.cells (tests p)) ≡ true
past-right p =
    every_of (drop p.cells (tests p)) (λ k h.
    let i : p.cells + k < length p.keepers =
    omega (arith, h, length-drop p.cells (tests p), length-map_at (keeper_right p.desks p.cells) p.keepers) in
    get_or-drop p.cells (tests p) k true ∙ right (p.cells + k) (omega arith) i)
  where
    right : (c : ℕ) → p.cells ≤ c → c < length p.keepers → get_or (tests p) c true ≡ true
    right c h i = get_or-map_at (keeper_right p.desks p.cells) p.keepers c 0 true i ∙ rw (le-ltb c p.cells h)

pub loop-c-init : goal.loop-c-init
loop-c-init c = refl

pub loop-c-preserved : goal.loop-c-preserved
loop-c-preserved c =
    let p = c.args.plan in
    let below : c.loop-c.c < p.cells = omega arith in
    let long : length p.keepers ≡ 32 = search rules in
    let turn = map_at-turn (keeper_right p.desks p.cells) p.keepers 0 c.loop-c.c c.loop-c.right (omega arith) c.loop-c.invariant in
    rw (lt-ltb c.loop-c.c p.cells below) at turn

pub returns : goal.returns
unfolding keepers_right
returns c =
    let p = c.args.plan in
    let end : c.loop-c.c ≡ p.cells = omega arith in
    sym (c.loop-c.invariant ∙ ap (λ (n : ℕ). c.loop-c.right && every (drop n (tests p))) end ∙ ap (λ (b : Bool). c.loop-c.right && b) (past-right p) ∙ and-true c.loop-c.right)
