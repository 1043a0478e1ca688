-- The numbers by which the rules tell what an own event changes, and the codes of what is done.
-- Assumes nothing.
use Rattle.std.specs.Prelude.{ℕ}
use Rattle.desk_acts.specs.declared.Change.{Change}
use Rattle.desk_acts.specs.declared.Change.TheVariants.{Nothing, Asks, Stores, GivesUp}
use Rattle.desk_acts.specs.declared.Code.{Code}
use Rattle.desk_acts.specs.declared.Code.TheVariants.{Done, Asked, Blank}

abbrev pub change_number : Change → ℕ
change_number Nothing = 0
change_number Asks = 1
change_number Stores = 2
change_number GivesUp = 3

abbrev pub code_number : Code → ℕ
code_number Done = 0
code_number Asked = 1
code_number Blank = 2
