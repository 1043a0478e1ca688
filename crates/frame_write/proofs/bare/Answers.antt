-- A read asked carries no number.
use Rattle.std.proofs.Common.{◌≡◌, true, false, ◌&&◌, ◌∙◌, arith, rules, eqb}
use Rattle.spelling.specs.Bytes.{spell, put-none}
use Rattle.frame_write.proofs.Writes.{unclean, roomless, written}
use Rattle.frame_write.proofs.Asked.{none, tested}
use Rattle.frame_write.proofs.bare.Goals as goal

pub returns-then-not-m-within : goal.returns-then-not-m-within
returns-then-not-m-within c =
    let some : (eqb c.args.m.now.word 0 && c.within.result) ≡ false = search rules in
    unclean c.args.m.now c.args.out.now 0 (none _ _ c.requires.1) c.requires.0 (tested _ _ _ c.within.ensures ∙ some)

pub returns-then-out-lt7 : goal.returns-then-out-lt7
returns-then-out-lt7 c =
    let passed : (eqb c.args.m.now.word 0 && c.within.result) ≡ true = search rules in
    roomless c.args.m.now c.args.out.now 0 (none _ _ c.requires.1) c.requires.0 (tested _ _ _ c.within.ensures ∙ passed) (omega arith)

pub returns : goal.returns
unfolding spell
returns c =
    let passed : (eqb c.args.m.now.word 0 && c.within.result) ≡ true = search rules in
    written c.args.m.now c.args.out.now 0 (none _ _ c.requires.1) c.requires.0 (tested _ _ _ c.within.ensures ∙ passed)
    (omega arith) _ _ c.put_head.ensures (put-none _ 7)
