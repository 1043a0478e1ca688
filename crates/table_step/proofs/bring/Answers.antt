-- The named cell is taken out, copies are lost, and the answer comes home.
use Rattle.table.specs.InPlace.{bring_in, bring_count}
use Rattle.table_step.proofs.bring.Goals as goal

pub returns : goal.returns
unfolding bring_in bring_count
returns c = (
  rw (c.bring_reply.ensures, c.lose-count.ensures.0, c.at-i.ensures),
  rw (c.home.ensures, c.brought.ensures, c.lose-count.ensures.1, c.at-i.ensures),
)
