-- A run that is played through by computation: whoever unfolds `played` unfolds all that the rules use.
-- Assumes nothing.
use Rattle.std.specs.Prelude.{List, ℕ}
use Rattle.std.proofs.Math.Decide.{ℕ_discrete, dec_lt, dec_le}
use Rattle.theory_causal.specs.Changed.{changed, either}
use Rattle.clock.specs.Clock.{paired, merged, is_before, is_within, raised}
use Rattle.desk.specs.declared.Event.{Event}
use Rattle.desk.specs.declared.Plan.{Plan}
use Rattle.desk.specs.declared.Reply.{Reply}
use Rattle.desk.specs.Desk.{Word, is_no_word, is_blank, keeps, is_copy, is_lost, left_of, loss_of, waits, is_asked, is_answered, is_own}
use Rattle.desk.specs.Rules.{read_rule, write_rule, drop_rule, seat_lines, event_done, read_served, takes, write_served, serve_done, brings, bring_done}
use Rattle.desk.specs.Sound.{counts_sound, place_sound, tray_sound, word_fits, sent_fits, cell_fits, cell_sound, slot_names, slot_carries, slot_sound, seat_sound}
use Rattle.desk.specs.Start.{fresh_tray, keepers_right, set_up_lines, set_up_refusal}
use Rattle.theory_lists.specs.Each.{map_at}
use Rattle.theory_lists.specs.Sum.{sum}
use Rattle.theory_lists.specs.Test.{every, some}
use Rattle.theory_refusals.specs.Refusals.{first_of, unless}
use Rattle.table.specs.Choice.{Engine, run}
use Rattle.table.specs.Rules.{lines, refusal, outcome, message_of, own_rule, put_answer, keeper_step, take_rule, bring_rule, done, event_rule}
use Rattle.table.specs.SetUp.{fresh_table, set_up_rule}
use Rattle.table.specs.Sound.{entry_sound, cells_sound, seats_sound, table_sound}
use Rattle.table.specs.Table.{record_of, put_back}
use Rattle.theory_promise.specs.Operations.{is_finished, entry, Account, next, told, account}

abbrev pub event : (kind desk cell : ℕ) → Word → Event
event k p c w = record { kind = k; desk = p; cell = c; word = w }

abbrev pub reply : (code : ℕ) → (value : Word) → (count : ℕ) → Reply
reply c v n = record { code = c; value = v; count = n }

abbrev pub plan : (desks cells : ℕ) → (keepers : List ℕ) → Plan
plan desks cells keepers = record { desks = desks; cells = cells; keepers = keepers }

unfoldable pub played : Engine → Plan → List Event → Account
unfolding run told next entry is_finished changed either ℕ_discrete dec_lt dec_le paired merged is_before is_within raised is_no_word is_blank keeps
    is_copy is_lost left_of loss_of waits is_asked is_answered is_own read_rule write_rule drop_rule seat_lines event_done read_served takes
    write_served serve_done brings bring_done counts_sound place_sound tray_sound word_fits sent_fits cell_fits cell_sound slot_names slot_carries slot_sound seat_sound
    fresh_tray keepers_right set_up_lines set_up_refusal map_at sum every some first_of unless lines refusal outcome message_of own_rule put_answer
    keeper_step take_rule bring_rule done event_rule fresh_table set_up_rule entry_sound cells_sound seats_sound table_sound record_of put_back
played rule p events = account rule (set_up_rule p).table events
