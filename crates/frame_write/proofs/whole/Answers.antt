-- The head, the word and a clock number for each desk.
use Rattle.std.proofs.Common.{◌≡◌, ℕ, ◌+◌, refl, sym, ◌∙◌, arith, rules, ne_eqb}
use Rattle.clock.specs.Clock.{is_within}
use Rattle.frame.specs.Frame.{carried}
use Rattle.frame.specs.Laws.{faultless}
use Rattle.frame_write.proofs.Writes.{past-count, carried_within, unclean, roomless, written-sized}
use Rattle.frame_write.proofs.whole.Goals as goal

all : (kind desks : ℕ) → (kind ≡ 1 → ⊥) → 1 + desks ≡ carried kind desks
unfolding carried
all kind desks ne = rw (ne_eqb kind 1 ne) refl

pub returns-then-not-within : goal.returns-then-not-within
returns-then-not-within c =
    let m = c.args.m.now in
    let tested : c.within.result ≡ is_within m.desks m.clock = search rules in
    unclean m c.args.out.now (1 + m.desks) (all _ _ c.requires.1) c.requires.0
    (past-count _ _ _ ∙ carried_within _ _ ∙ sym tested ∙ c.if-not-within.true)

pub returns-then-out-c : goal.returns-then-out-c
returns-then-out-c c =
    let m = c.args.m.now in
    roomless m c.args.out.now (1 + m.desks) (all _ _ c.requires.1) c.requires.0
    (past-count _ _ _ ∙ carried_within _ _ ∙ sym c.within.ensures ∙ c.if-not-within.false)
    (omega arith)

pub put_numbers-requires : goal.put_numbers-requires
put_numbers-requires c = ((faultless _ _ _ _ c.requires.0).desks-to, omega arith)

pub returns : goal.returns
returns c =
    let m = c.args.m.now in
    written-sized m c.args.out.now (1 + m.desks) (all _ _ c.requires.1) c.requires.0 _ (omega arith)
    (past-count _ _ _ ∙ carried_within _ _ ∙ sym c.within.ensures ∙ c.if-not-within.false)
    (omega arith) _ _ c.put_head.ensures c.put_numbers.ensures
