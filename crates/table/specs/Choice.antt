-- Promises that leave no choice. A promise of this library says that a result is what a definition gives. So two results that meet it are
-- equal, and an engine that meets the event's gives exactly the rules' replies and tables over whole runs. Four engines do not meet it.
-- Assumes nothing.
use Rattle.std.specs.Prelude.{◌≡◌, refl, List, [], ◌∷◌, map, ℕ, ◌<◌, get_or, replicate}
use Rattle.std.proofs.Common.{sym, ap, ap₂, ◌∙◌, arith}
use Rattle.clock.specs.Clock.{is_within, raised}
use Rattle.desk.specs.declared.Event.{Event}
use Rattle.desk.specs.declared.Reply.{Reply}
use Rattle.desk.specs.declared.Plan.{Plan}
use Rattle.desk.specs.Desk.{is_no_word, is_blank, cell_at, keeps, waits, is_asked, is_answered, is_own}
use Rattle.desk.specs.Rules.{seat_lines, event_done, read_rule, write_rule}
use Rattle.desk.specs.Sound.{counts_sound, place_sound, tray_sound, word_fits, sent_fits, cell_fits, cell_sound, slot_sound, slot_names, slot_carries, seat_sound}
use Rattle.desk.specs.Start.{keepers_right, fresh_tray, set_up_lines, set_up_refusal}
use Rattle.theory_lists.specs.Each.{map_at}
use Rattle.theory_lists.specs.Test.{every}
use Rattle.theory_refusals.specs.Refusals.{first_of, unless}
use Rattle.table.specs.declared.Outcome.{Outcome}
use Rattle.table.specs.declared.Table.{Table}
use Rattle.table.specs.Fresh.{set-up-room}
use Rattle.table.specs.Room.{Room}
use Rattle.table.specs.Rules.{lines, refusal, outcome, own_rule, done, event_rule}
use Rattle.table.specs.SetUp.{fresh_table, set_up_rule}
use Rattle.table.specs.Sound.{entry_sound, cells_sound, seats_sound, table_sound}
use Rattle.table.specs.Table.{record_of, put_back}

-- any two results that meet a promise of the form "the result is the definition's" are equal
pub no-choice : {A : Type 0} {rule one other : A} → one ≡ rule → other ≡ rule → one ≡ other
no-choice p q = p ∙ sym q

-- ---- whole runs
abbrev pub Engine : Type 0
Engine = Table → Event → Outcome

-- the outcome of each event of a list, each from the table that the one before it left
unfoldable pub run : Engine → Table → List Event → List Outcome
run E t [] = []
run E t (e ∷ es) = E t e ∷ run E (E t e).after es

unfoldable pub replies : List Outcome → List Reply
replies os = map (λ (o : Outcome). o.reply) os

-- the event's promise: of every table, that is, one whose arrays have their lengths
abbrev pub Meets : Engine → Type 0
Meets E = (t : Table) (e : Event) → Room t → E t e ≡ event_rule t e

-- an engine that agrees with the rule on tables of some kind, which the rule keeps of that kind
pub run_on : (Of : Table → Type 0) → ((t : Table) (e : Event) → Of t → Of (event_rule t e).after)
    → (E : Engine) → ((t : Table) (e : Event) → Of t → E t e ≡ event_rule t e)
    → (t : Table) (es : List Event) → Of t → run E t es ≡ run event_rule t es
unfolding run
run_on Of kept E meets t [] of = refl
run_on Of kept E meets t (e ∷ es) of =
    let same = meets t e of in
    ap₂ ◌∷◌ same
    (ap (λ (o : Outcome). run E o.after es) same ∙ run_on Of kept E meets (event_rule t e).after es (kept t e of))

-- the same of lists of any length in a table's place
pub run-any : (E : Engine) → ((t : Table) (e : Event) → E t e ≡ event_rule t e)
    → (t : Table) (es : List Event) → run E t es ≡ run event_rule t es
run-any E meets t es = run_on (λ _. Unit {0}) (λ _ _ _. tt) E (λ t e _. meets t e) t es tt

-- ---- four engines that do not meet it
-- one desk, one cell, as set up, and an event of that desk and cell
abbrev one_plan : Plan
one_plan = record { desks = 1; cells = 1; keepers = replicate 32 0 }

abbrev pub small : Table
small = (set_up_rule one_plan).table

abbrev pub event : ℕ → ℕ → Event
event kind word = record { kind = kind; desk = 0; cell = 0; word = word }

abbrev read_then_write : List Event
read_then_write = event 1 0 ∷ event 2 7 ∷ []

abbrev code : Outcome → ℕ
code o = o.reply.code

abbrev word : Table → ℕ
word t = (cell_at t.cells 0).word

abbrev second_code : List Reply → ℕ
second_code rs = (get_or rs 1 (record { code = 0; value = 0; count = 0 })).code

-- what the rules say of it
record Small : Type 0 where
  blank : word small ≡ 0
  reads : code (event_rule small (event 1 0)) ≡ 2
  takes : code (event_rule small (event 3 0)) ≡ 13
  writes : word (event_rule small (event 2 7)).after ≡ 7
  goes_on : second_code (replies (run event_rule small read_then_write)) ≡ 0

small_is : Small
unfolding set_up_rule set_up_refusal set_up_lines keepers_right fresh_table fresh_tray run replies record_of put_back every map_at is_within raised first_of unless
    event_rule refusal lines seat_lines is_own is_asked is_answered done own_rule outcome event_done read_rule write_rule is_no_word is_blank keeps waits
    table_sound cells_sound seats_sound entry_sound tray_sound counts_sound place_sound word_fits sent_fits cell_fits cell_sound seat_sound slot_sound slot_names slot_carries
small_is = record { blank = refl; reads = refl; takes = refl; writes = refl; goes_on = refl }

small-room : Room small
small-room = set-up-room one_plan refl

-- one that refuses all events
pub refuses-all : (E : Engine) → ((t : Table) (e : Event) → 2 < code (E t e)) → Meets E → ⊥
refuses-all E refuses meets = omega (arith, refuses small (event 1 0), ap code (meets small (event 1 0) small-room), small_is.reads)

-- one that replies blank to all
pub blank-to-all : (E : Engine) → ((t : Table) (e : Event) → (E t e).reply ≡ record { code = 2; value = 0; count = 0 }) → Meets E → ⊥
blank-to-all E blank meets =
    omega (arith, ap (λ (r : Reply). r.code) (blank small (event 3 0)), ap code (meets small (event 3 0) small-room), small_is.takes)

-- one that leaves the table as it is
pub leaves_table : (E : Engine) → ((t : Table) (e : Event) → (E t e).after ≡ t) → Meets E → ⊥
leaves_table E leaves meets =
    omega (
      arith,
      ap word (leaves small (event 2 7)),
      ap (λ (o : Outcome). word o.after) (meets small (event 2 7) small-room),
      small_is.blank,
      small_is.writes,
    )

-- one that works at the first event and then repeats its reply: it is given whole lists, so the promise is that of whole runs
abbrev pub MeetsRuns : (Table → List Event → List Reply) → Type 0
MeetsRuns R = (t : Table) (es : List Event) → Room t → R t es ≡ replies (run event_rule t es)

abbrev pub Repeats : (Table → List Event → List Reply) → Type 0
Repeats R = (t : Table) (e : Event) (es : List Event) → R t (e ∷ es) ≡ map (λ _. (event_rule t e).reply) (e ∷ es)

pub repeats-first : (R : Table → List Event → List Reply) → Repeats R → MeetsRuns R → ⊥
repeats-first R repeats meets =
    omega (
      arith,
      ap second_code (repeats small (event 1 0) (event 2 7 ∷ [])),
      ap second_code (meets small read_then_write small-room),
      small_is.reads,
      small_is.goes_on,
    )
