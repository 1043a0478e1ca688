-- Frames, in the words of 01. A frame is a row of numbers as bytes. Reading and writing go by the same row and the same widths.
-- Assumes nothing.
use Rattle.std.specs.Prelude.{Bool, not, ◌||◌, cond, List, [], ◌∷◌, ◌++◌, ℕ, ◌+◌, leb, ltb, eqb, length, get_or, take, drop, replicate}
use Rattle.theory_lists.specs.Each.{map_at}
use Rattle.theory_lists.specs.Sum.{sum}
use Rattle.theory_lists.specs.Test.{every}
use Rattle.theory_refusals.specs.Refusals.{Line, first_of, unless}
use Rattle.spelling.specs.Bytes.{spell, numbers}
use Rattle.desk.specs.declared.Message.{Message}
use Rattle.desk.specs.Desk.{no_message}
use Rattle.frame.specs.declared.Reading.{Reading}
use Rattle.frame.specs.declared.Written.{Written}

-- ---- the layout
-- "version byte 1"
abbrev pub version : ℕ
version = 1

-- "kind 1 read asked, 2 write asked, 3 read answered, 4 write answered"
abbrev pub kinds : ℕ
kinds = 4

-- how many bytes each number of a frame has: "Length first: two bytes … Then version …; kind …; desk count; asking desk; cell.
-- Kinds 2 to 4 add the word and one clock number per desk, four bytes each"
abbrev pub widths : List ℕ
widths = 2 ∷ 1 ∷ 1 ∷ 1 ∷ 1 ∷ 1 ∷ 4 ∷ replicate 8 4

-- how many a frame carries of the word and the clock's numbers, and of all its numbers
unfoldable pub carried : ℕ → ℕ → ℕ
carried kind desks = cond (eqb kind 1) 0 (1 + desks)

abbrev pub parts : ℕ → ℕ → ℕ
parts kind desks = 6 + carried kind desks

-- "counting all that follows"
unfoldable pub length_of : ℕ → ℕ → ℕ
length_of kind desks = sum (drop 1 (take (parts kind desks) widths))

-- a message as a row of numbers, in the frame's order, and the message that such a row tells
unfoldable pub row_of : Message → List ℕ
row_of m = length_of m.kind m.desks ∷ version ∷ m.kind ∷ m.desks ∷ m.desk ∷ m.cell ∷ m.word ∷ m.clock.n

unfoldable pub message_of : List ℕ → Message
message_of ns =
    record {
      kind = get_or ns 2 0;
      desks = get_or ns 3 0;
      desk = get_or ns 4 0;
      cell = get_or ns 5 0;
      word = get_or ns 6 0;
      clock = record { n = drop 7 ns };
    }

-- ---- what reading and writing refuse alike
-- "32 kind; 33 desk count not 2 to 8; 34 asking desk not below it; 35 cell above 31"
unfoldable pub fault_lines : ℕ → ℕ → ℕ → ℕ → List Line
fault_lines kind desks desk cell =
    (32, ltb kind 1 || ltb kinds kind)
    ∷ (33, ltb desks 2 || ltb 8 desks)
    ∷ (34, leb desks desk)
    ∷ (35, ltb 31 cell)
    ∷ []

abbrev pub fault_of : ℕ → ℕ → ℕ → ℕ → ℕ
fault_of kind desks desk cell = first_of (fault_lines kind desks desk cell)

abbrev pub faults_in : Message → List Line
faults_in m = fault_lines m.kind m.desks m.desk m.cell

abbrev pub fault_in : Message → ℕ
fault_in m = first_of (faults_in m)

-- ---- reading
abbrev pub row_in : List ℕ → List ℕ
row_in s = numbers widths 0 s

abbrev pub length_in : List ℕ → ℕ
length_in s = get_or (row_in s) 0 0

abbrev pub version_in : List ℕ → ℕ
version_in s = get_or (row_in s) 1 0

abbrev pub message_in : List ℕ → Message
message_in s = message_of (row_in s)

-- "length wrong for kind and count"
abbrev pub wrong_length : List ℕ → Bool
wrong_length s = not (eqb (length_in s) (length_of (message_in s).kind (message_in s).desks))

-- "30 fewer than 2 bytes, or fewer than 2 + length; 36 length below 5; 31 version; … 36 length wrong for kind and count"
unfoldable pub read_lines : List ℕ → List Line
read_lines s =
    (30, ltb (length s) 2 || ltb (length s) (2 + length_in s))
    ∷ (36, ltb (length_in s) 5)
    ∷ (31, not (eqb (version_in s) version))
    ∷ faults_in (message_in s)
    ++ (36, wrong_length s) ∷ []

abbrev pub read_code : List ℕ → ℕ
read_code s = first_of (read_lines s)

-- what lies past the frame is not looked at: it is no part of the message
unfoldable pub read_rule : List ℕ → Reading
read_rule s =
    unless (read_code s) (λ code. record { code = code; message = no_message; used = 0 })
    record { code = 0; message = message_in (take (2 + length_in s) s); used = 2 + length_in s }

-- ---- writing
-- "a clock number past the count, or a word or clock in kind 1, not 0; with none of these it is well formed": what is not carried is 0
unfoldable pub carried_or_zero : ℕ → ℕ → ℕ → Bool
carried_or_zero c k x = ltb k c || eqb x 0

unfoldable pub well_formed : Message → Bool
well_formed m = every (map_at (carried_or_zero (carried m.kind m.desks)) (m.word ∷ m.clock.n))

unfoldable pub frame_of : Message → List ℕ
frame_of m = spell (take (parts m.kind m.desks) widths) (row_of m)

-- "output too short"
abbrev pub no_room : Message → ℕ → Bool
no_room m room = ltb room (2 + length_of m.kind m.desks)

-- "32, 33, 34, 35, then 38 …, then 37"
unfoldable pub write_lines : Message → ℕ → List Line
write_lines m room = faults_in m ++ (38, not (well_formed m)) ∷ (37, no_room m room) ∷ []

abbrev pub write_code : Message → ℕ → ℕ
write_code m room = first_of (write_lines m room)

-- the reply, and the output afterwards: nothing past the frame changes, and a refusal changes nothing
unfoldable pub write_rule : Message → List ℕ → Written
write_rule m out =
    unless (write_code m (length out)) (λ code. record { code = code; used = 0 })
    record { code = 0; used = 2 + length_of m.kind m.desks }

unfoldable pub output_rule : Message → List ℕ → List ℕ
output_rule m out =
    unless (write_code m (length out)) (λ _. out)
    (frame_of m ++ drop (2 + length_of m.kind m.desks) out)
