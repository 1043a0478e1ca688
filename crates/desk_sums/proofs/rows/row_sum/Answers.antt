-- The sum of the front, and then of the back.
use Rattle.desk.specs.Desk.{place_at}
use Rattle.desk_sums.proofs.Parts.{parts}
use Rattle.desk_sums.proofs.rows.row_sum.Goals as goal

pub returns : goal.returns
returns c =
    parts (place_at c.args.t.now) c.args.row.now c.split_at.result.0.now c.split_at.result.1.now c.args.d c.args.n c.args.s c.requires.0
    c.requires.1 c.split_at.ensures.front c.split_at.ensures.back c.used_sum.result c.past_sum.result c.used_sum.ensures c.past_sum.ensures
