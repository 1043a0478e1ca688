-- What was read has the answer of the whole input, and the buffer's start that is written is that answer.
-- Assumes nothing.
use Rattle.std.proofs.Common.{◌≡◌, Ok, take}
use Rattle.script_main.proofs.Whole.{front-whole, fits-zeros, on_ok_across, ok-across, answered-written}
use Rattle.script_main.proofs.respond.Goals as goal

pub returns : goal.returns
returns g c =
    let n = c.in_ok-count.count in
    let read : c.read_all.result ≡ Ok n =
    ok-across c.read_all.result c.map_err.result n _ c.map_err.ensures.cases c.map_err.ensures.variant c.in_ok-count.was in
    let consumed = rw read at c.read_all.ensures.bytes in
    let whole = rw read at c.read_all.ensures.whole in
    let within = rw read at c.read_all.ensures.upper_bound in
    on_ok_across c.write_all.result c.map_err-2.result _ c.map_err-2.ensures.variant
    (answered-written _ _ c.write_all.result _ _ _ _ (take n c.read_all.new.buf) _ _ _ consumed
    (front-whole 65537 n c.read_all.new.buf _ within c.read_all.auto.buf whole) c.answer-n.ensures.put (fits-zeros 270400 _ c.answer-n.ensures.upper_bound) c.write_all.ensures.bytes)
