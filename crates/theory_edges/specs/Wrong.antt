-- Wrong frames and messages: for each refusal of reading and of writing the smallest that has it, and for each two that follow each other in the order
-- one that has both, which shows the first. Then messages that do not fit a record, condition by condition. Beside each what is just right.
-- Assumes nothing.
use Rattle.std.specs.Prelude.{◌≡◌, refl, true, false, List, [], ◌∷◌, ◌++◌, map, ℕ, replicate}
use Rattle.desk.specs.declared.Message.{Message}
use Rattle.desk.specs.declared.Slot.{Slot}
use Rattle.desk.specs.Desk.{Word, is_no_word, is_blank, no_message, keeps}
use Rattle.desk.specs.Rules.{write_asked as slot_of_write, in_tray, request_fits, answer_fits}
use Rattle.desk.specs.Sound.{word_fits, sent_fits}
use Rattle.clock.specs.Clock.{is_within}
use Rattle.frame.specs.declared.Reading.{Reading}
use Rattle.frame.specs.declared.Written.{Written}
use Rattle.frame.specs.Frame.{carried, length_of, row_of, message_of, frame_of, fault_lines, read_lines, read_rule}
use Rattle.frame.specs.Frame.{carried_or_zero, well_formed, write_lines, write_rule, output_rule}
use Rattle.spelling.specs.Bytes.{bytes, followed, spell, numbers}
use Rattle.theory_lists.specs.Each.{map_at}
use Rattle.theory_lists.specs.Sum.{sum}
use Rattle.theory_lists.specs.Test.{every, some}
use Rattle.theory_refusals.specs.Refusals.{first_of, unless}
use Rattle.theory_edges.specs.Broken.{tray}
use Rattle.theory_edges.specs.Edges.{clock}

-- ---- reading
-- a frame's first seven bytes, with a length below 256
abbrev begun : (length version kind desks desk cell : ℕ) → List ℕ
begun l v k n d c = 0 ∷ l ∷ v ∷ k ∷ n ∷ d ∷ c ∷ []

unfoldable pub wrong_frames : List (List ℕ × ℕ)
wrong_frames =
    -- 30 fewer than 2 bytes, or fewer than 2 + length
    ([], 30)
    ∷ (0 ∷ [], 30)
    ∷ (0 ∷ 5 ∷ [], 30)
    ∷ (1 ∷ 0 ∷ replicate 255 1, 30)
    ∷ (0 ∷ 4 ∷ 1 ∷ 1 ∷ 3 ∷ [], 30)
    -- 36 length below 5
    ∷ (0 ∷ 0 ∷ [], 36)
    ∷ (0 ∷ 4 ∷ 1 ∷ 1 ∷ 3 ∷ 0 ∷ [], 36)
    ∷ (begun 4 0 1 3 0 0, 36)
    -- 31 version
    ∷ (begun 5 0 1 3 0 0, 31)
    ∷ (begun 5 2 1 3 0 0, 31)
    ∷ (begun 5 2 0 3 0 0, 31)
    -- 32 kind
    ∷ (begun 5 1 0 3 0 0, 32)
    ∷ (begun 5 1 5 3 0 0, 32)
    ∷ (begun 5 1 5 1 0 0, 32)
    -- 33 desk count not 2 to 8
    ∷ (begun 5 1 1 0 0 0, 33)
    ∷ (begun 5 1 1 1 0 0, 33)
    ∷ (begun 5 1 1 9 0 0, 33)
    ∷ (begun 5 1 1 9 9 0, 33)
    -- 34 asking desk not below it
    ∷ (begun 5 1 1 3 3 0, 34)
    ∷ (begun 5 1 1 3 3 32, 34)
    -- 35 cell above 31
    ∷ (begun 5 1 1 3 0 32, 35)
    ∷ (begun 5 1 2 3 0 32, 35)
    -- 36 length wrong for kind and count
    ∷ (begun 5 1 2 3 0 0, 36)
    ∷ (begun 6 1 1 3 0 0 ++ 0 ∷ [], 36)
    ∷ (begun 17 1 1 2 0 0 ++ replicate 12 0, 36)
    ∷ (begun 16 1 2 2 0 0 ++ replicate 12 0, 36)
    ∷ (begun 17 1 3 3 0 0 ++ replicate 12 0, 36)
    ∷ (begun 21 1 4 2 0 0 ++ replicate 16 0, 36)
    ∷ []

-- just right: the first and the last of each kind, count, desk and cell, and bytes after the frame; with how many it uses
unfoldable pub right_frames : List (List ℕ × ℕ)
right_frames =
    (begun 5 1 1 2 0 0, 7)
    ∷ (begun 5 1 1 8 7 31 ++ 255 ∷ [], 7)
    ∷ (begun 17 1 2 2 1 0 ++ replicate 12 0, 19)
    ∷ (begun 41 1 4 8 7 31 ++ replicate 37 255, 43)
    ∷ []

-- "A refusal gives an all-zero message and 0 used"
abbrev not_read : ℕ → Reading
not_read code = record { code = code; message = no_message; used = 0 }

-- ---- writing
abbrev message : (kind desks desk cell : ℕ) → Word → List ℕ → Message
message k n d c w ns = record { kind = k; desks = n; desk = d; cell = c; word = w; clock = clock ns }

-- a message, how long the output is, and the refusal
unfoldable pub wrong_messages : List (Message × ℕ × ℕ)
wrong_messages =
    -- 32 kind
    (message 0 3 0 0 0 [], 43, 32)
    ∷ (message 5 3 0 0 0 [], 43, 32)
    ∷ (message 5 9 0 0 0 [], 43, 32)
    -- 33 desk count not 2 to 8
    ∷ (message 1 1 0 0 0 [], 43, 33)
    ∷ (message 1 9 0 0 0 [], 43, 33)
    ∷ (message 1 1 1 0 0 [], 43, 33)
    -- 34 asking desk not below it
    ∷ (message 1 3 3 0 0 [], 43, 34)
    ∷ (message 1 3 3 32 0 [], 43, 34)
    -- 35 cell above 31
    ∷ (message 1 3 0 32 0 [], 43, 35)
    ∷ (message 1 3 0 32 1 [], 43, 35)
    -- 38 a clock number past the count, or a word or clock in kind 1, not 0
    ∷ (message 2 3 0 0 7 (0 ∷ 0 ∷ 0 ∷ 1 ∷ []), 43, 38)
    ∷ (message 4 7 0 0 7 (0 ∷ 0 ∷ 0 ∷ 0 ∷ 0 ∷ 0 ∷ 0 ∷ 1 ∷ []), 43, 38)
    ∷ (message 1 3 0 0 1 [], 43, 38)
    ∷ (message 1 3 0 0 0 (1 ∷ []), 43, 38)
    ∷ (message 1 3 0 0 1 [], 6, 38)
    -- 37 output too short
    ∷ (message 1 3 0 0 0 [], 6, 37)
    ∷ (message 2 3 0 0 7 (1 ∷ []), 22, 37)
    ∷ []

-- just right: output exactly long enough, with how many are used
unfoldable pub right_messages : List (Message × ℕ × ℕ)
right_messages = (message 1 2 1 31 0 [], 7, 7) ∷ (message 4 8 7 31 9 (replicate 8 1), 43, 43) ∷ (message 2 3 0 0 0 [], 24, 23) ∷ []

abbrev output : ℕ → List ℕ
output room = replicate room 9

abbrev written : (code used : ℕ) → Written
written code used = record { code = code; used = used }

-- ---- fitting: in the tray of `Broken`, with six desks, desk 0 keeps cells 0 and 2 and desk 1 cell 1; desk 2 has asked to write cell 0
unfoldable pub fit_requests : List Message
fit_requests = message 1 6 1 0 0 [] ∷ message 2 6 5 2 7 (0 ∷ 0 ∷ 0 ∷ 0 ∷ 0 ∷ 1 ∷ []) ∷ message 1 6 1 0 7 (1 ∷ []) ∷ message 1 6 1 0 7 [] ∷ message 2 6 1 0 0 (0 ∷ 1 ∷ []) ∷ []

-- each is a request to desk 0 but for one field
unfoldable pub unfit_requests : List Message
unfit_requests =
    -- "its desk count is the record's"
    message 1 5 1 0 0 []
    -- "clock numbers past it are 0"
    ∷ message 2 6 1 0 7 (0 ∷ 0 ∷ 0 ∷ 0 ∷ 0 ∷ 0 ∷ 1 ∷ [])
    -- "no write-asked clock is all zeros"
    ∷ message 2 6 1 0 0 []
    -- "a request"
    ∷ message 0 6 1 0 0 []
    ∷ message 3 6 1 0 0 []
    -- "by another desk below the count"
    ∷ message 1 6 0 0 0 []
    ∷ message 1 6 6 0 0 []
    -- "for a cell kept here"
    ∷ message 1 6 2 1 0 []
    ∷ message 1 6 1 3 0 []
    ∷ []

abbrev asked : Slot
asked = slot_of_write 0 7 (clock (0 ∷ 0 ∷ 1 ∷ []))

unfoldable pub fit_answers : List Message
fit_answers = message 4 6 2 0 7 (0 ∷ 0 ∷ 1 ∷ []) ∷ message 4 6 2 0 0 [] ∷ message 4 6 2 0 8 (9 ∷ 0 ∷ 0 ∷ 0 ∷ 0 ∷ 9 ∷ []) ∷ []

-- each is an answer to desk 2 but for one field
unfoldable pub unfit_answers : List Message
unfit_answers =
    message 4 5 2 0 0 []
    ∷ message 4 6 2 0 7 (0 ∷ 0 ∷ 0 ∷ 0 ∷ 0 ∷ 0 ∷ 1 ∷ [])
    -- "word 0 wherever a … stamp is all zeros"
    ∷ message 4 6 2 0 7 []
    -- "an answer whose desk, cell and kind (read or write) are those asked"
    ∷ message 4 6 3 0 0 []
    ∷ message 4 6 2 2 0 []
    ∷ message 3 6 2 0 0 []
    ∷ message 2 6 2 0 0 []
    ∷ []

-- at each of a list, the two give the same
abbrev Alike : {A B : Type 0} → List A → (A → B) → (A → B) → Type 0
Alike l f g = map f l ≡ map g l

-- each is refused with its number and changes no output; those that are just right are not
pub wrong-refused :
    Alike wrong_frames (λ x. read_rule x.0) (λ x. not_read x.1)
    × Alike right_frames (λ x. (read_rule x.0).code) (λ x. 0)
    × Alike right_frames (λ x. (read_rule x.0).used) (λ x. x.1)
    × Alike wrong_messages (λ x. write_rule x.0 (output x.1)) (λ x. written x.2 0)
    × Alike wrong_messages (λ x. output_rule x.0 (output x.1)) (λ x. output x.1)
    × Alike right_messages (λ x. write_rule x.0 (output x.1)) (λ x. written 0 x.2)
unfolding wrong_frames right_frames wrong_messages right_messages every sum map_at first_of unless bytes followed spell numbers carried length_of row_of message_of
    frame_of fault_lines read_lines read_rule carried_or_zero well_formed write_lines write_rule output_rule
wrong-refused = (refl, refl, refl, refl, refl, refl)

-- those fit, and none of these does
pub unfit-refused :
    (every (map (request_fits tray 0) fit_requests) ≡ true)
    × (some (map (request_fits tray 0) unfit_requests) ≡ false)
    × (every (map (answer_fits tray 2 asked) fit_answers) ≡ true)
    × (some (map (answer_fits tray 2 asked) unfit_answers) ≡ false)
unfolding fit_requests unfit_requests fit_answers unfit_answers every some map_at is_no_word is_blank is_within keeps word_fits sent_fits in_tray request_fits answer_fits
unfit-refused = (refl, refl, refl, refl)
