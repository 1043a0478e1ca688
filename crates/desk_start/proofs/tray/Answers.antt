-- A cell of the tray is one of 32, and its keeper a desk. The places past the cell count stay empty.
use Rattle.std.proofs.Common.{◌≡◌, ap, ◌∙◌, ℕ, List, length, refl, replicate, set, rules, arith}
use Rattle.theory_lists.specs.Replaced.{up_to, up_to-step}
use Rattle.desk.specs.declared.Place.{Place}
use Rattle.desk.specs.Desk.{no_place}
use Rattle.desk.specs.Start.{fresh_tray}
use Rattle.desk.specs.StartLaws.{settled, keeper-below}
use Rattle.desk_start.proofs.Keepers.{kept_at, all-placed}
use Rattle.desk_start.proofs.tray.Goals as goal

pub loop-c-init : goal.loop-c-init
unfolding up_to
loop-c-init c = refl

pub bounds-plan-c : goal.bounds-plan-c
bounds-plan-c c = omega (arith, (settled c.args.plan c.requires).cells-most)

pub overflow_cast-places : goal.overflow_cast-places
overflow_cast-places c =
    let p = c.args.plan in
    let long : length p.keepers ≡ 32 = search rules in
    let s = settled p c.requires in
    record { fits = omega (arith, keeper-below s c.loop-c.c (omega arith) (omega (arith, s.cells-most)), s.desks-most) }

pub bounds-places-c : goal.bounds-places-c
bounds-places-c c = omega (arith, (settled c.args.plan c.requires).cells-most)

pub loop-c-preserved : goal.loop-c-preserved
loop-c-preserved c =
    let p = c.args.plan in
    let k = c.loop-c.c in
    ap (λ (r : List Place). set r k (kept_at p.keepers k)) c.loop-c.invariant ∙ up_to-step (kept_at p.keepers) k (replicate 32 no_place)

pub overflow_cast-result : goal.overflow_cast-result
overflow_cast-result c = record { fits = omega (arith, (settled c.args.plan c.requires).desks-most) }

pub overflow_cast-result-2 : goal.overflow_cast-result-2
overflow_cast-result-2 c = record { fits = omega (arith, (settled c.args.plan c.requires).cells-most) }

pub returns : goal.returns
unfolding fresh_tray
returns c =
    let p = c.args.plan in
    let long : length p.keepers ≡ 32 = search rules in
    let end : c.loop-c.c ≡ p.cells = omega arith in
    let all = c.loop-c.invariant ∙ ap (λ (n : ℕ). up_to (kept_at p.keepers) n (replicate 32 no_place)) end ∙ all-placed p.cells p.keepers long in
    λ i. record { counts = record { desks = p.desks; cells = p.cells }; places = all i }
