-- One seat more is what `seats-next` says.
use Rattle.std.proofs.Common.{sym, get_or}
use Rattle.desk.specs.Desk.{past_seat}
use Rattle.desk_sums.specs.Rows.{seats-none, seats-next}
use Rattle.table_sound.proofs.seats_sum.Goals as goal

pub loop-d-init : goal.loop-d-init
loop-d-init c = sym (seats-none (record { counts = c.args.n; places = c.args.places.now }) (λ d. get_or c.args.seats.now d past_seat))

pub loop-d-preserved : goal.loop-d-preserved
loop-d-preserved c =
    let more = seats-next (record { counts = c.args.n; places = c.args.places.now }) (λ d. get_or c.args.seats.now d past_seat) c.loop-d.d in
    cc
