-- Line 2 is looked at exactly if the cells are 1 to 32; then it has as many numbers, or not.
-- Assumes nothing.
use Rattle.std.proofs.Common.{◌≡◌, ℕ, List, ◌-◌, length, replicate, refl, sym, ap, ◌∙◌, arith, length-append}
use Rattle.std.proofs.lemmas.List.{length-replicate}
use Rattle.text.specs.Lines.Front.{front-other, front-known}
use Rattle.text.specs.Walk.{cells-refused, started-refused}
use Rattle.text.specs.FrontWalk.{sized-bad, sized-front}
use Rattle.script.specs.Rules.{set_up, event}
use Rattle.script.specs.Stops.{said}
use Rattle.script.proofs.Ends.{short-bad, cells-wrong, out_of_range, padded}
use Rattle.script.proofs.read_keepers.Goals as goal

pub returns-then-not-cells : goal.returns-then-not-cells
returns-then-not-cells c =
    let text = c.args.text.now in
    let cells = c.args.cells in
    let wrong = out_of_range cells c.if-not-cells.either in
    let zeros : List ℕ = replicate 32 0 in (
      λ desks. cells-refused set_up event text 0 desks cells wrong
          ∙ sym (started-refused set_up event text 0 (set_up desks cells zeros).0 (set_up desks cells zeros).1 (cells-wrong desks cells zeros wrong)),
      refl,
      omega arith,
    )

pub returns-in_default : goal.returns-in_default
unfolding said
returns-in_default c =
    let text = c.args.text.now in
    let cells = c.args.cells in
    λ desks. (sized-bad set_up event text desks cells (omega arith) (omega arith) (c.in_default.ensures.0 cells (omega arith)), short-bad 2 (omega arith))

pub returns-then-numbers-cells : goal.returns-then-numbers-cells
unfolding said
returns-then-numbers-cells c =
    let text = c.args.text.now in
    let cells = c.args.cells in
    let another : length c.in-Ok.read.0 ≡ cells → ⊥ = λ e. c.if-numbers-cells.true (ap length c.as_slice-numbers.ensures ∙ e) in λ desks. (
      sized-bad set_up event text desks cells (omega arith) (omega arith) (front-other text c.in-Ok.ensures cells another),
      short-bad 2 (omega arith),
    )

pub returns : goal.returns
returns c =
    let text = c.args.text.now in
    let cells = c.args.cells in
    let ns = c.in-Ok.read.0 in
    let as_many : length ns ≡ cells = sym (ap length c.as_slice-numbers.ensures) ∙ c.if-numbers-cells.false in
    let keepers = padded ns c.as_slice-numbers.result.now cells c.as_slice-numbers.ensures as_many in
    rw (c.copy_from_slice.ensures.after, keepers) (
      λ desks. sized-front set_up event text c.in-Ok.ensures desks cells (omega arith) (omega arith) as_many,
      omega (arith, length-append ns (replicate (32 - cells) 0), length-replicate {A = ℕ} (32 - cells) 0, as_many),
      omega (arith, (front-known text ns c.in-Ok.read.1.now c.in-Ok.ensures).after),
    )
