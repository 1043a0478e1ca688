-- The sum is that of the seats passed.
use Rattle.std.proofs.Common.{◌≡◌, get_or}
use Rattle.desk.specs.Desk.{past_seat}
use Rattle.desk_sums.specs.Rows.{seats_sum}
use Rattle.table_sound.proofs.seats_sum.Given as goal

abbrev pub invariant-loop-d : goal.invariant-loop-d
invariant-loop-d l = l.sum ≡ seats_sum (record { counts = l.n; places = l.places }) (λ d. get_or l.seats d past_seat) l.d
