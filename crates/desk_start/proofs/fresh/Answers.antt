-- A turn of the loop looks at one cell, which the desk keeps, or not.
use Rattle.std.proofs.Common.{◌≡◌, ap, ◌∙◌, sym, ◌<◌, length, length-take, rules, arith}
use Rattle.std.proofs.lemmas.List.{get_or-take}
use Rattle.theory_lists.specs.Each.{length-mapped}
use Rattle.desk.specs.declared.Place.{Place}
use Rattle.desk.specs.declared.Record.{Record}
use Rattle.desk.specs.Desk.{no_place, place_at, kept_by}
use Rattle.desk.specs.Rules.{holds}
use Rattle.desk.specs.Start.{blank_cell, no_record}
use Rattle.desk.specs.StartInPlace.{with_tray, with_desk, kept_to, kept-none, kept-one, kept-stays, kept_fresh}
use Rattle.desk_start.proofs.Cleared.{cleared}
use Rattle.desk_start.proofs.fresh.Goals as goal
use Rattle.desk_start.proofs.fresh.Goals.{then-kept_by, else-kept_by}

pub loop-c-init : goal.loop-c-init
unfolding no_record
loop-c-init c = ap (λ (u : Record). with_desk (with_tray u c.args.t) c.args.desk) c.clear.ensures ∙ sym (kept-none (cleared c.args.t c.args.desk))

pub loop-c-preserved : goal.loop-c-preserved
loop-c-preserved c =
    let t = c.args.t in
    let v = cleared t c.args.desk in
    let k = c.loop-c.c in
    let below : k < t.counts.cells = omega (arith, length-take t.counts.cells t.places) in
    let kept : kept_by (place_at t k) c.args.desk ≡ c.kept_by.result =
    sym (c.kept_by.ensures ∙ ap (λ (p : Place). kept_by p c.args.desk) (get_or-take t.counts.cells t.places k no_place below)) in
    elim c.if-kept_by.branch [
      | then-kept_by w ↦ w.v-is ∙ ap (λ (u : Record). holds u k blank_cell) c.loop-c.invariant ∙ kept-one v k (kept ∙ w.if-kept_by.true)
      | else-kept_by w ↦ w.v-is ∙ c.loop-c.invariant ∙ kept-stays v k (kept ∙ w.if-kept_by.false)
    ]

pub returns : goal.returns
returns c =
    let t = c.args.t in
    let long : length t.places ≡ 32 = search (rules, length-mapped) in
    let end : c.loop-c.c ≡ t.counts.cells = omega (arith, length-take t.counts.cells t.places) in
    c.loop-c.invariant ∙ ap (kept_to (cleared t c.args.desk)) end ∙ kept_fresh t c.args.desk c.requires
