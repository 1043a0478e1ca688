-- The numbers of 01's table of refusals, and the code that a result tells: 0 where nothing is refused.
-- Assumes nothing.
use Rattle.std.specs.Prelude.{ℕ, Result, Ok, Err}
use Rattle.theory_refusals.specs.declared.Refusal.{Refusal}
use Rattle.theory_refusals.specs.declared.Refusal.TheVariants.{NoSuchEvent, NotSound, NoSuchDesk, NoSuchCell, DeskWaits, NothingThere, CellKept, MessageUnfit, NoNumberLeft}
use Rattle.theory_refusals.specs.declared.Refusal.TheVariants.{DeskCount, CellCount, KeeperNoDesk}
use Rattle.theory_refusals.specs.declared.Refusal.TheVariants.{FrameCut, FrameVersion, FrameKind, FrameDeskCount, FrameDesk, FrameCell, FrameLength, OutputShort, NotWellFormed}

abbrev pub number_of : Refusal → ℕ
number_of NoSuchEvent = 8
number_of NotSound = 9
number_of NoSuchDesk = 10
number_of NoSuchCell = 11
number_of DeskWaits = 12
number_of NothingThere = 13
number_of CellKept = 14
number_of MessageUnfit = 15
number_of NoNumberLeft = 16
number_of DeskCount = 20
number_of CellCount = 21
number_of KeeperNoDesk = 22
number_of FrameCut = 30
number_of FrameVersion = 31
number_of FrameKind = 32
number_of FrameDeskCount = 33
number_of FrameDesk = 34
number_of FrameCell = 35
number_of FrameLength = 36
number_of OutputShort = 37
number_of NotWellFormed = 38

abbrev pub code_of : {A : Type 0} → Result A Refusal → ℕ
code_of (Ok _) = 0
code_of (Err r) = number_of r
