use Rattle.std.proofs.Common.{◌≡◌, length, true, false, rules}
use Rattle.clock.specs.Causal.{all_no_larger, stands}
use Rattle.clock.proofs.ClockPartialOrd.partial_cmp.Goals as goal

pub returns-in-true-true : goal.returns-in-true-true
returns-in-true-true c =
    let a = c.args.self.now in
    let b = c.args.other.now in
    let long : length a.n ≡ length b.n = search rules in
    let earlier : true ≡ all_no_larger a.n b.n = cc in
    let later : true ≡ all_no_larger b.n a.n = cc in
    let answer = stands a b true true long earlier later in
    cc

pub returns-in-true-false : goal.returns-in-true-false
returns-in-true-false c =
    let a = c.args.self.now in
    let b = c.args.other.now in
    let long : length a.n ≡ length b.n = search rules in
    let earlier : true ≡ all_no_larger a.n b.n = cc in
    let later : false ≡ all_no_larger b.n a.n = cc in
    let answer = stands a b true false long earlier later in
    cc

pub returns-in-false-true : goal.returns-in-false-true
returns-in-false-true c =
    let a = c.args.self.now in
    let b = c.args.other.now in
    let long : length a.n ≡ length b.n = search rules in
    let earlier : false ≡ all_no_larger a.n b.n = cc in
    let later : true ≡ all_no_larger b.n a.n = cc in
    let answer = stands a b false true long earlier later in
    cc

pub returns-in-false-false : goal.returns-in-false-false
returns-in-false-false c =
    let a = c.args.self.now in
    let b = c.args.other.now in
    let long : length a.n ≡ length b.n = search rules in
    let earlier : false ≡ all_no_larger a.n b.n = cc in
    let later : false ≡ all_no_larger b.n a.n = cc in
    let answer = stands a b false false long earlier later in
    cc
