use Rattle.std.proofs.Common.{rules, tests}
use Rattle.desk_sums.specs.Laws.{fits-is}
use Rattle.desk_sums.proofs.Sum.fits.Goals as goal

pub returns : goal.returns
returns c =
    let said = fits-is c.args.self c.args.desks in
    rw said (search (rules, tests))
