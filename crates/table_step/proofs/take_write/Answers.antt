-- What the keeper loses, and then what it stores.
use Rattle.std.proofs.Common.{◌∙◌}
use Rattle.table.specs.Changes.{lost_to}
use Rattle.table.specs.InPlace.{store_in, take_write_in}
use Rattle.table_step.proofs.take_write.Goals as goal

pub returns : goal.returns
unfolding take_write_in store_in lost_to
returns c =
    let seat = c.store.ensures.0 ∙ c.took-keeper.ensures in
    (c.lose-count.ensures.0, rw (seat, c.store.ensures.1, c.took-keeper.ensures, c.at.ensures, c.lose-count.ensures.1))
