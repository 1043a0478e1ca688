-- Kinds 3, 4, and the desk's own.
use Rattle.std.proofs.Common.{◌≡◌, ◌∙◌, eq-eqb, ne_eqb, arith}
use Rattle.std.proofs.lemmas.Bool.Decides.{nat_tests}
use Rattle.table.proofs.InPlace.{done-take}
use Rattle.table.specs.InPlace.{done-bring, done-own, is-own-kind}
use Rattle.table.specs.RuleLaws.{pass, take-there, bring-there, own-there}
use Rattle.table_step.proofs.done.Goals as goal
use Rattle.table_step.proofs.done.Goals.{in_default-via-in-Ok+in_default, in_default-via-in_default}

pub take-requires : goal.take-requires
take-requires c =
    let k : c.args.e.kind ≡ 3 = grind (arith, nat_tests) in
    let ok = pass c.args.t.now c.args.e c.requires.1 c.requires.0 in
    let there = take-there c.args.t.now c.args.e ok k in
    (there.0, there.1, there.2, there.3, ok.sound.tray-is.cells-most)

pub returns-in-Ok-Take : goal.returns-in-Ok-Take
returns-in-Ok-Take c =
    let k : c.args.e.kind ≡ 3 = grind (arith, nat_tests) in
    let same = done-take c.args.t.now c.args.e c.requires.1 c.requires.0 (eq-eqb c.args.e.kind 3 k) in
    (c.take.ensures.0 ∙ same.0, c.take.ensures.1 ∙ same.1)

pub bring-requires : goal.bring-requires
bring-requires c =
    let k : c.args.e.kind ≡ 4 = grind (arith, nat_tests) in
    let ok = pass c.args.t.now c.args.e c.requires.1 c.requires.0 in
    let there = bring-there c.args.t.now c.args.e ok k in
    (there.0, there.1, ok.sound.tray-is.cells-most)

pub returns-in-Ok-Bring : goal.returns-in-Ok-Bring
returns-in-Ok-Bring c =
    let k : c.args.e.kind ≡ 4 = grind (arith, nat_tests) in
    let same =
    done-bring c.args.t.now c.args.e c.requires.1 c.requires.0 (ne_eqb c.args.e.kind 3 (λ n. omega (arith, n, k))) (eq-eqb c.args.e.kind 4 k) in
    (c.bring.ensures.0 ∙ same.0, c.bring.ensures.1 ∙ same.1)

pub own-requires : goal.own-requires
own-requires c =
    let t = c.args.t.now in
    let e = c.args.e in
    let other : (e.kind ≡ 3 → ⊥) × (e.kind ≡ 4 → ⊥) =
    elim c.in_default.branch [
      | in_default-via-in-Ok+in_default w ↦ (λ k. grind (arith, nat_tests), λ k. grind (arith, nat_tests))
      | in_default-via-in_default w ↦ (λ k. grind (arith, nat_tests), λ k. grind (arith, nat_tests))
    ] in
    let own = is-own-kind t e c.requires.1 c.requires.0 (ne_eqb e.kind 3 other.0) (ne_eqb e.kind 4 other.1) in
    let there = own-there t e (pass t e c.requires.1 c.requires.0) own in
    (there.0, there.1, there.1, there.2)

pub returns-in_default : goal.returns-in_default
returns-in_default c =
    let t = c.args.t.now in
    let e = c.args.e in
    let other : (e.kind ≡ 3 → ⊥) × (e.kind ≡ 4 → ⊥) =
    elim c.in_default.branch [
      | in_default-via-in-Ok+in_default w ↦ (λ k. grind (arith, nat_tests), λ k. grind (arith, nat_tests))
      | in_default-via-in_default w ↦ (λ k. grind (arith, nat_tests), λ k. grind (arith, nat_tests))
    ] in
    let same = done-own t e c.requires.1 c.requires.0 (ne_eqb e.kind 3 other.0) (ne_eqb e.kind 4 other.1) in
    (c.own.ensures.0 ∙ same.0, c.own.ensures.1 ∙ same.1)
