-- No LF, or what the line's numbers are and what stands behind the LF.
-- Assumes nothing.
use Rattle.std.proofs.Common.{◌≡◌, ◌+◌, ◌-◌, length, take, drop, refl, sym, ◌∙◌, arith, length-take-le, length-drop}
use Rattle.std.proofs.Math.Seq.{take_all}
use Rattle.text.specs.Front.{front_line, front_found}
use Rattle.text.specs.FrontCut.{first-none, first-some}
use Rattle.text.proofs.read_line.Goals as goal

pub returns-in_default : goal.returns-in_default
unfolding front_line front_found
returns-in_default c = rw (first-none c.args.text.now (sym c.find.ensures ∙ c.in_default.is)) refl

pub returns : goal.returns
unfolding front_line front_found
returns c =
    let text = c.args.text.now in
    let end = c.in-Some.end in
    let first = first-some text end (sym c.find.ensures ∙ c.in-Some.is) in
    let long : length (take end text) ≡ end = length-take-le end text (omega (arith, first.1)) in
    let behind = take_all (length text - (end + 1)) (drop (end + 1) text) (omega (arith, length-drop (end + 1) text)) in
    rw (first.0, long, c.read_numbers.ensures, behind)
