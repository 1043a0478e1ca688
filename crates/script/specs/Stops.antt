-- Where an answer ends: what is said then, and what stands on the page before.
-- Assumes nothing.
use Rattle.std.specs.Prelude.{◌≡◌, true, List, [], ◌∷◌, ◌++◌, ℕ, ◌+◌, ◌≤◌, length, Result, Ok, Err}
use Rattle.theory_refusals.specs.Numbers.{number_of}
use Rattle.table.specs.declared.Table.{Table}
use Rattle.table.specs.Room.{Room}
use Rattle.table.specs.Sound.{table_sound}
use Rattle.text.specs.Line.{lines_of, line_of, bad_line}
use Rattle.text.specs.Script.{run, started, sized}
use Rattle.text_print.specs.declared.Page.{Page}
use Rattle.text_print.specs.Page.{Prints}
use Rattle.script.specs.Rules.{set_up, event}
use Rattle.script.specs.declared.Stop.{Stop}
use Rattle.script.specs.declared.Stop.TheVariants.{BadLine, Refused}

unfoldable pub said : Stop → List ℕ
said (BadLine n) = bad_line n
said (Refused r) = line_of (number_of r ∷ [])

-- at the input's end nothing
unfoldable pub ending : Result (Unit {0}) Stop → List ℕ
ending (Ok _) = []
ending (Err stop) = said stop

-- the answer is what is said at the stop, which is short
abbrev pub EndsIn : List ℕ → Stop → Type 0
EndsIn whole stop = (whole ≡ said stop) × (length (said stop) ≤ 33)

-- the answer is the run of a fresh table over what is left of a text
abbrev pub Ready : List ℕ → List ℕ → Table → List ℕ → Type 0
Ready whole text t rest = (whole ≡ run set_up event t 3 (lines_of rest)) × (table_sound t ≡ true) × Room t × (length rest ≤ length text)

-- with any number of desks the answer is what a set-up with these keepers starts over what is left of a text
abbrev pub Kept : ℕ → List ℕ → List ℕ → List ℕ → Type 0
Kept cells text keepers rest = ((desks : ℕ) → sized set_up event desks cells (lines_of text) ≡ started set_up event (set_up desks cells keepers) (lines_of rest))
    × (length keepers ≡ 32)
    × (length rest ≤ length text)

-- an empty page with room for any answer
pub record Blank (p : Page) : Type 0 where
  pub empty : p.at ≡ 0
  pub large : 270400 ≤ length p.out.now

-- the whole answer is what was printed on a page and the ending, for which there is room
pub record Leaves (whole : List ℕ) (old new : Page) (end : List ℕ) : Type 0 where
  pub done : List ℕ
  pub prints : Prints done old new
  pub answers : whole ≡ done ++ end
  pub room : new.at + length end ≤ 270400
