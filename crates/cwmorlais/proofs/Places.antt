-- Where each field of what crosses to C and Rust lies, and each size: the numbers to which c/cwmorlais_test.c holds the header.
-- Assumes nothing.
use mathlib.Core.Path.{◌≡◌, refl}
use mathlib.Core.List.{List, [], ◌∷◌}
use mathlib.Core.Option.{Option, none, some}
use Prim.Native.Nat.{ℕ, zero, suc}
use mir.Syntax.{Ty}
use prog.Memory.{size, field_of}
use Rattle.clock.proofs.Clock.TheLaws as Clock
use Rattle.desk.proofs.Cell.TheLaws as Cell
use Rattle.desk.proofs.Counts.TheLaws as Counts
use Rattle.desk.proofs.Event.TheLaws as Event
use Rattle.desk.proofs.Message.TheLaws as Message
use Rattle.desk.proofs.Place.TheLaws as Place
use Rattle.desk.proofs.Plan.TheLaws as Plan
use Rattle.desk.proofs.Record.TheLaws as Record
use Rattle.desk.proofs.Reply.TheLaws as Reply
use Rattle.desk.proofs.Seat.TheLaws as Seat
use Rattle.desk.proofs.Slot.TheLaws as Slot
use Rattle.desk.proofs.Tray.TheLaws as Tray
use Rattle.frame.proofs.Reading.TheLaws as Reading
use Rattle.frame.proofs.Written.TheLaws as Written
use Rattle.table.proofs.Table.TheLaws as Table
use Rattle.desk.proofs.Answer.TheLaws as Answer

abbrev place_in : Option (Ty × ℕ) → ℕ
place_in none = 0
place_in (some f) = f.1

abbrev before : ℕ → Ty → List ℕ → List ℕ
before zero τ rest = rest
before (suc n) τ rest = before n τ (place_in (field_of τ n) ∷ rest)

-- the places of a struct's n fields, and its size
abbrev places : ℕ → Ty → List ℕ
places n τ = before n τ (size τ ∷ [])

clock-places : places 1 Clock.mir ≡ 0 ∷ 32 ∷ []
clock-places = refl

cell-places : places 3 Cell.mir ≡ 0 ∷ 4 ∷ 8 ∷ 40 ∷ []
cell-places = refl

slot-places : places 4 Slot.mir ≡ 0 ∷ 1 ∷ 4 ∷ 8 ∷ 40 ∷ []
slot-places = refl

seat-places : places 3 Seat.mir ≡ 0 ∷ 32 ∷ 72 ∷ 76 ∷ []
seat-places = refl

place-places : places 1 Place.mir ≡ 0 ∷ 1 ∷ []
place-places = refl

counts-places : places 2 Counts.mir ≡ 0 ∷ 1 ∷ 2 ∷ []
counts-places = refl

tray-places : places 2 Tray.mir ≡ 0 ∷ 2 ∷ 34 ∷ []
tray-places = refl

record-places : places 4 Record.mir ≡ 0 ∷ 34 ∷ 36 ∷ 112 ∷ 1392 ∷ []
record-places = refl

plan-places : places 3 Plan.mir ≡ 0 ∷ 4 ∷ 8 ∷ 136 ∷ []
plan-places = refl

event-places : places 4 Event.mir ≡ 0 ∷ 4 ∷ 8 ∷ 12 ∷ 16 ∷ []
event-places = refl

reply-places : places 3 Reply.mir ≡ 0 ∷ 4 ∷ 8 ∷ 12 ∷ []
reply-places = refl

message-places : places 6 Message.mir ≡ 0 ∷ 1 ∷ 2 ∷ 3 ∷ 4 ∷ 8 ∷ 40 ∷ []
message-places = refl

answer-places : places 2 Answer.mir ≡ 0 ∷ 12 ∷ 52 ∷ []
answer-places = refl

reading-places : places 3 Reading.mir ≡ 0 ∷ 4 ∷ 48 ∷ 56 ∷ []
reading-places = refl

written-places : places 2 Written.mir ≡ 0 ∷ 8 ∷ 16 ∷ []
written-places = refl

table-places : places 3 Table.mir ≡ 0 ∷ 10240 ∷ 10276 ∷ 10884 ∷ []
table-places = refl
