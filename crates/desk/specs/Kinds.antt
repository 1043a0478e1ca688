-- The kinds that the numbers of events, slots and messages stand for; another number stands for none.
-- Assumes nothing.
use Rattle.std.specs.Prelude.{ℕ, cond, eqb, Result, Ok, Err}
use Rattle.theory_refusals.specs.declared.Refusal.{Refusal}
use Rattle.theory_refusals.specs.declared.Refusal.TheVariants.{NoSuchEvent, FrameKind}
use Rattle.desk.specs.declared.kinds.Act.{Act}
use Rattle.desk.specs.declared.kinds.Act.TheVariants.{Read, Write, Take, Bring, Drop}
use Rattle.desk.specs.declared.kinds.Kind.{Kind}
use Rattle.desk.specs.declared.kinds.Kind.TheVariants.{Nothing, ReadAsked, WriteAsked, ReadAnswered, WriteAnswered}

-- 1 Read, 2 Write, 3 Take, 4 Bring, 5 Drop
abbrev pub act_of : ℕ → Result Act Refusal
act_of n =
    cond (eqb n 1) (Ok Read) (cond (eqb n 2) (Ok Write) (cond (eqb n 3) (Ok Take) (cond (eqb n 4) (Ok Bring)
    (cond (eqb n 5) (Ok Drop) (Err NoSuchEvent)))))

-- 0 nothing, 1 read asked, 2 write asked, 3 read answered, 4 write answered
abbrev pub kind_of : ℕ → Result Kind Refusal
kind_of n =
    cond (eqb n 0) (Ok Nothing) (cond (eqb n 1) (Ok ReadAsked) (cond (eqb n 2) (Ok WriteAsked) (cond (eqb n 3) (Ok ReadAnswered)
    (cond (eqb n 4) (Ok WriteAnswered) (Err FrameKind)))))
