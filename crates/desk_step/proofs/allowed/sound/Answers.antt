-- The sum of the row, with what stands beside it, is soundness.
use Rattle.std.proofs.Common.{◌≡◌, length, sym, ◌∙◌, rules, arith}
use Rattle.theory_lists.specs.Each.{length-mapped}
use Rattle.desk.specs.RuleLaws.{desk-below}
use Rattle.desk.specs.Sound.{is_sound}
use Rattle.desk.specs.SoundLaws.{sound-rule}
use Rattle.desk_sums.specs.Rows.{record-sound}
use Rattle.desk_step.proofs.allowed.sound.Goals as goal

is : (c : goal.After-record_fits) → c.record_fits.result ≡ is_sound c.args.v.now
is c =
    let v = c.args.v.now in
    let places : length v.tray.places ≡ 32 = search (rules, length-mapped) in
    let cells : length v.row ≡ 32 = search (rules, length-mapped) in
    c.record_fits.ensures ∙ rw (c.row_sum-row.ensures, c.row_count-n.ensures) (record-sound v places cells)

pub returns-clause-is : goal.returns-clause-is
returns-clause-is c = is c

pub returns-clause-bounds : goal.returns-clause-bounds
returns-clause-bounds c =
    λ ok.
    let v = c.args.v.now in
    let sound = sym (is c) ∙ ok in
    let rule = sound-rule v sound in
    (desk-below v sound, rule.tray-is.cells-most, omega (arith, rule.asked))
