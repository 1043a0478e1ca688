-- Both sides of each edge: the examples that 01 marks P, as one list, which one statement proves.
-- Each entry is an equation between what a rule gives and what 01 says; it holds because both compute to the same.
-- Assumes nothing.
use Rattle.std.specs.Prelude.{◌≡◌, refl, true, false, List, [], ◌∷◌, ◌++◌, ℕ, take, replicate, length}
use Rattle.theory_lists.specs.Each.{map_at}
use Rattle.theory_lists.specs.Test.{every, some}
use Rattle.clock.specs.declared.Clock.{Clock}
use Rattle.clock.specs.Clock.{number, paired, merged, is_before, is_within, raised}
use Rattle.desk.specs.declared.Reply.{Reply}
use Rattle.desk.specs.Desk.{Word, no_word, is_no_word, is_blank, no_message, keeps, waits, is_asked, is_answered, is_own}
use Rattle.desk.specs.Rules.{with_clock, with_seat, seat_lines, event_done, read_rule as read_held, write_rule}
use Rattle.desk.specs.Sound.{counts_sound, place_sound, tray_sound, word_fits, sent_fits, cell_fits, cell_sound, slot_sound, slot_names, slot_carries, seat_sound}
use Rattle.desk.specs.Start.{keepers_right, fresh_tray, set_up_lines, set_up_refusal}
use Rattle.table.specs.declared.Table.{Table}
use Rattle.table.specs.Choice.{small, event, run, replies}
use Rattle.table.specs.Rules.{lines, refusal, outcome, own_rule, done, event_rule}
use Rattle.table.specs.SetUp.{fresh_table, set_up_rule}
use Rattle.table.specs.Sound.{entry_sound, cells_sound, seats_sound, table_sound}
use Rattle.table.specs.Table.{record_of, put_back}
use Rattle.theory_lists.specs.Sum.{sum}
use Rattle.theory_refusals.specs.Refusals.{first_of, unless}
use Rattle.desk.specs.declared.Message.{Message}
use Rattle.spelling.specs.Bytes.{bytes, followed, spell, numbers}
use Rattle.frame.specs.Frame.{carried, length_of, row_of, message_of, frame_of, fault_lines, read_lines, read_rule}

-- a clock by its first numbers; the others are 0
abbrev pub clock : List ℕ → Clock
clock ns = record { n = take 8 (ns ++ replicate 8 0) }

-- the small table with its desk's own clock number n
abbrev small_at : ℕ → Table
small_at n = let v = record_of small 0 in put_back small (with_seat v (with_clock v.seat (clock (n ∷ []))))

abbrev reply : ℕ → Word → Reply
reply code value = record { code = code; value = value; count = 0 }

-- what a desk asks: to read, or to write a word
abbrev pub read_asked : ℕ → ℕ → ℕ → Message
read_asked desks desk cell = record { kind = 1; desks = desks; desk = desk; cell = cell; word = no_word; clock = clock [] }

abbrev pub write_asked : ℕ → ℕ → ℕ → Word → List ℕ → Message
write_asked desks desk cell word sent = record { kind = 2; desks = desks; desk = desk; cell = cell; word = word; clock = clock sent }

-- these bytes are the frame of this message: they are written for it, and read as it to the last
abbrev IsFrame : List ℕ → Message → Type 0
IsFrame s m = (frame_of m ≡ s) × (read_rule s ≡ record { code = 0; message = m; used = length s })

abbrev p10 : List ℕ
p10 = 0x00 ∷ 0x05 ∷ 0x01 ∷ 0x01 ∷ 0x03 ∷ 0x00 ∷ 0x00 ∷ []

unfoldable pub edges : List (Type 0)
edges =
    -- P1 merge of (0,3,1) and (2,1,1) is (2,3,1)
    (merged (clock (0 ∷ 3 ∷ 1 ∷ [])) (clock (2 ∷ 1 ∷ 1 ∷ [])) ≡ clock (2 ∷ 3 ∷ 1 ∷ []))
    -- P2 (0,0,1) is strictly before (0,0,2)
    ∷ (is_before (clock (0 ∷ 0 ∷ 1 ∷ [])) (clock (0 ∷ 0 ∷ 2 ∷ [])) ≡ true)
    -- P3 (0,0,1) is not strictly before itself
    ∷ (is_before (clock (0 ∷ 0 ∷ 1 ∷ [])) (clock (0 ∷ 0 ∷ 1 ∷ [])) ≡ false)
    -- P4 (1,0) and (0,1): neither is before the other
    ∷ ((is_before (clock (1 ∷ 0 ∷ [])) (clock (0 ∷ 1 ∷ [])) ≡ false) × (is_before (clock (0 ∷ 1 ∷ [])) (clock (1 ∷ 0 ∷ [])) ≡ false))
    -- P5 one desk, one cell: read of a fresh table gives 2
    ∷ ((event_rule small (event 1 0)).reply ≡ reply 2 0)
    -- P6 the same desk writes 7 and reads: 0, 7
    ∷ (replies (run event_rule small (event 2 7 ∷ event 1 0 ∷ [])) ≡ reply 0 7 ∷ reply 0 7 ∷ [])
    -- P7 take on an empty slot: 13
    ∷ ((event_rule small (event 3 0)).reply ≡ reply 13 0)
    -- P8 own clock number 4,294,967,294: a keeper's write is done
    ∷ (((event_rule (small_at 4294967294) (event 2 7)).reply ≡ reply 0 7)
    × (number (record_of (event_rule (small_at 4294967294) (event 2 7)).after 0).seat.clock 0 ≡ 4294967295))
    -- P9 4,294,967,295: 16
    ∷ ((event_rule (small_at 4294967295) (event 2 7)).reply ≡ reply 16 0)
    -- P10 read asked, 3 desks, desk 0, cell 0
    ∷ IsFrame p10 (read_asked 3 0 0)
    -- P11 write asked, 3 desks, desk 2, cell 1, word 500, clock (0,0,2)
    ∷ IsFrame
    (0x00 ∷ 0x15 ∷ 0x01 ∷ 0x02 ∷ 0x03 ∷ 0x02 ∷ 0x01 ∷ 0x00 ∷ 0x00 ∷ 0x01 ∷ 0xF4
    ∷ 0x00 ∷ 0x00 ∷ 0x00 ∷ 0x00 ∷ 0x00 ∷ 0x00 ∷ 0x00 ∷ 0x00 ∷ 0x00 ∷ 0x00 ∷ 0x00 ∷ 0x02 ∷ [])
    (write_asked 3 2 1 500 (0 ∷ 0 ∷ 2 ∷ []))
    -- P12 P10 without its last byte: 30
    ∷ (read_rule (take 6 p10) ≡ record { code = 30; message = no_message; used = 0 })
    ∷ []

-- every statement of a list holds
unfoldable pub Hold : List (Type 0) → Type 0
Hold [] = Unit {0}
Hold (p ∷ ps) = p × Hold ps

pub edges-hold : Hold edges
unfolding edges Hold merged is_before paired every some sum map_at is_within raised
    first_of unless set_up_rule set_up_refusal set_up_lines keepers_right fresh_table fresh_tray run replies record_of put_back
    event_rule refusal lines seat_lines is_own is_asked is_answered done own_rule outcome event_done read_held write_rule is_no_word is_blank keeps waits
    table_sound cells_sound seats_sound entry_sound tray_sound counts_sound place_sound word_fits sent_fits cell_fits cell_sound seat_sound slot_sound slot_names slot_carries
    bytes followed spell numbers carried length_of row_of message_of frame_of fault_lines read_lines read_rule
edges-hold =
    (refl, (refl, (refl, ((refl, refl), (refl, (refl, (refl, ((refl, refl), (refl, ((refl, refl), ((refl, refl), (refl, tt))))))))))))
