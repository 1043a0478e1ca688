use Rattle.std.proofs.Common.{◌≡◌, sym, length, rules, arith}
use Rattle.theory_lists.specs.Test.{map_at-turn, map_at-end}
use Rattle.clock.specs.Clock.{zero_past, is_within}
use Rattle.clock.proofs.Clock.within.Goals as goal

pub loop-place-preserved : goal.loop-place-preserved
loop-place-preserved c =
    let long : length c.args.self.n ≡ 8 = search rules in
    map_at-turn (zero_past c.args.desks) c.args.self.n 0 c.loop-place.place c.loop-place.rest_zero (omega arith) c.loop-place.invariant

pub returns : goal.returns
unfolding is_within
returns c =
    let long : length c.args.self.n ≡ 8 = search rules in
    sym (map_at-end (zero_past c.args.desks) c.args.self.n 0 c.loop-place.place c.loop-place.rest_zero (omega arith) c.loop-place.invariant)
