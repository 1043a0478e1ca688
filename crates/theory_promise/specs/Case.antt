-- 01's whole case, played through: its replies, and the history that the promise speaks of.
-- Assumes nothing.
use Rattle.std.specs.Prelude.{◌≡◌, refl, List, [], ◌∷◌, replicate}
use Rattle.theory_causal.specs.History.{blank, from, nothing, wrote, showed}
use Rattle.desk.specs.declared.Event.{Event}
use Rattle.desk.specs.declared.Plan.{Plan}
use Rattle.table.specs.Rules.{event_rule}
use Rattle.theory_promise.specs.Operations.{Account}
use Rattle.theory_promise.specs.Played.{event, reply, plan, played}

-- three desks and two cells: cell 0, the datum, is kept by desk 1, and cell 1, the coordinate, by desk 0
abbrev pub case_plan : Plan
case_plan = plan 3 2 (1 ∷ 0 ∷ replicate 30 0)

unfoldable pub script : List Event
script =
    event 1 0 0 0 ∷ event 3 0 0 0 ∷ event 2 2 0 27 ∷ event 3 2 0 0 ∷ event 4 2 0 0 ∷ event 2 2 1 500 ∷ event 3 2 0 0 ∷ event 4 2 0 0
    ∷ event 4 0 0 0 ∷ event 1 0 1 0 ∷ event 1 0 0 0 ∷ event 3 0 0 0 ∷ event 4 0 0 0 ∷ []

unfoldable pub case : Account
unfolding played
case = played event_rule case_plan script

pub case-replies : case.replies ≡
    reply 1 0 0 ∷ reply 0 0 0 ∷ reply 1 0 0 ∷ reply 0 0 0 ∷ reply 0 27 0 ∷ reply 1 0 0 ∷ reply 0 0 0 ∷ reply 0 500 1 ∷ reply 2 0 0
    ∷ reply 0 500 0 ∷ reply 1 0 0 ∷ reply 0 0 0 ∷ reply 0 27 0 ∷ []
unfolding case script
case-replies = refl

-- Desk 2 writes the datum at step 3 and the coordinate at step 6. Desk 0's first read, asked at step 0, comes from none; then it sees 500,
-- from step 6, and after that the datum, from step 3.
pub case-history : case.history ≡
    nothing ∷ nothing ∷ nothing ∷ wrote 2 0 27 2 ∷ nothing ∷ nothing ∷ wrote 2 1 500 5 ∷ nothing ∷ showed 0 0 0 blank 0
    ∷ showed 0 1 500 (from 6) 9 ∷ nothing ∷ nothing ∷ showed 0 0 27 (from 3) 10 ∷ []
unfolding case script
case-history = refl
