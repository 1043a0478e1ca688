-- Line 1 gives two numbers, line 2 the keepers; then setting up refuses, or gives a table that is sound.
-- Assumes nothing.
use Rattle.std.proofs.Common.{◌≡◌, Some, ℕ, List, length, get_or, refl, ap, ◌∙◌, arith}
use borrow.Author.Tests.{ltb-true, ltb-false}
use Rattle.desk.specs.declared.Plan.{Plan}
use Rattle.theory_refusals.specs.Numbers.{number_of}
use Rattle.table.specs.declared.Table.{Table}
use Rattle.table.specs.Fresh.{set-up-room, set-up-sound}
use Rattle.table.specs.SetUp.{set_up_rule}
use Rattle.std.proofs.Math.Option.{some}
use Rattle.std.proofs.lemmas.Result.{err_from_is_err_and}
use Rattle.text.specs.Line.{lines_of}
use Rattle.text.specs.Script.{begun, sized, started}
use Rattle.text.specs.Front.{front_line}
use Rattle.text.specs.Lines.Front.{front-other, front-known}
use Rattle.text.specs.Walk.{started-refused, started-run}
use Rattle.text.specs.FrontWalk.{begun-bad, begun-front}
use Rattle.script.specs.Rules.{set_up, event}
use Rattle.script.specs.Stops.{said}
use Rattle.script.proofs.Ends.{short-bad, short-refused, some-number, made-is}
use Rattle.script.proofs.begin.Goals.{in_default-as_slice-via-then-as_slice-lt2, in_default-as_slice-via-else-as_slice-lt2+else-this-lt3}
use Rattle.script.proofs.begin.Goals as goal

pub returns-in_default : goal.returns-in_default
unfolding said
returns-in_default c = (begun-bad set_up event c.args.text.now (c.in_default.ensures.0 2 (omega arith)), short-bad 1 (omega arith))

pub returns-in_default-as_slice : goal.returns-in_default-as_slice
unfolding said
returns-in_default-as_slice c =
    let another : length c.in-Ok.read.0 ≡ 2 → ⊥ =
    elim c.in_default-as_slice.branch [
      | in_default-as_slice-via-then-as_slice-lt2 w ↦ (λ e. omega (arith, ltb-true, ap length c.as_slice.ensures))
      | in_default-as_slice-via-else-as_slice-lt2+else-this-lt3 w ↦ (λ e. omega (arith, ltb-true, ltb-false, ap length c.as_slice.ensures))
    ] in
    (begun-bad set_up event c.args.text.now (front-other c.args.text.now c.in-Ok.ensures 2 another), short-bad 1 (omega arith))

-- what line 1 makes of the answer
sized-first : (text ns s rest : List ℕ) → front_line text ≡ some (Some ns, rest) → s ≡ ns → length s ≡ 2
    → begun set_up event (lines_of text) ≡ sized set_up event (get_or s 0 0) (get_or s 1 0) (lines_of rest)
sized-first text ns s rest read e two =
    let same : front_line text ≡ some (Some s, rest) = rw e read in begun-front set_up event text same two

pub returns-in_err-keepers : goal.returns-in_err-keepers
returns-in_err-keepers c =
    let s = c.as_slice.result.now in
    let line1 = sized-first c.args.text.now c.in-Ok.read.0 s c.in-Ok.read.1.now c.in-Ok.ensures c.as_slice.ensures (omega arith) in
    let stop = c.in_err-keepers.ensures in
    let p = err_from_is_err_and c.from_residual.result c.from_residual.ensures.1 in
    rw (p.1, p.2) (line1 ∙ (stop (get_or s 0 0)).0, (stop (get_or s 0 0)).1)

pub returns-in-Err : goal.returns-in-Err
unfolding said
returns-in-Err c =
    let s = c.as_slice.result.now in
    let line1 = sized-first c.args.text.now c.in-Ok.read.0 s c.in-Ok.read.1.now c.in-Ok.ensures c.as_slice.ensures (omega arith) in
    let rest = c.in_ok-keepers.text.now in
    let keepers = c.in_ok-keepers.keepers in
    let r = c.in-Err.r in
    let t : Table = (set_up_rule (record { desks = get_or s 0 0; cells = get_or s 1 0; keepers = keepers })).table in
    let set = made-is (get_or s 0 0) (get_or s 1 0) keepers (number_of r) t c.in-Err.ensures.code refl in (
      line1
          ∙ c.in_ok-keepers.ensures.0 (get_or s 0 0)
          ∙ ap (λ (x : ℕ × Table). started set_up event x (lines_of rest)) set
          ∙ started-refused set_up event rest 0 (number_of r) t (some-number r),
      short-refused r,
    )

pub returns-in-Ok-made : goal.returns-in-Ok-made
returns-in-Ok-made c =
    let s = c.as_slice.result.now in
    let line1 = sized-first c.args.text.now c.in-Ok.read.0 s c.in-Ok.read.1.now c.in-Ok.ensures c.as_slice.ensures (omega arith) in
    let rest = c.in_ok-keepers.text.now in
    let keepers = c.in_ok-keepers.keepers in
    let plan : Plan = record { desks = get_or s 0 0; cells = get_or s 1 0; keepers = keepers } in
    let code : 0 ≡ (set_up_rule plan).code = c.in-Ok-made.ensures.code in
    let made : c.in-Ok-made.table ≡ (set_up_rule plan).table = c.in-Ok-made.ensures.table in
    let set = made-is (get_or s 0 0) (get_or s 1 0) keepers 0 c.in-Ok-made.table code made in
    let after = (front-known c.args.text.now c.in-Ok.read.0 c.in-Ok.read.1.now c.in-Ok.ensures).after in (
      line1
          ∙ c.in_ok-keepers.ensures.0 (get_or s 0 0)
          ∙ ap (λ (x : ℕ × Table). started set_up event x (lines_of rest)) set
          ∙ started-run set_up event rest 0 0 c.in-Ok-made.table refl,
      rw made (set-up-sound plan c.in_ok-keepers.ensures.1 (omega (arith, code))),
      rw made (set-up-room plan c.in_ok-keepers.ensures.1),
      omega (arith, after, c.in_ok-keepers.ensures.2),
    )
