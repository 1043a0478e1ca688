-- The operations of a run of the table's rules, and where each read came from: what demand 3 speaks of, in the words of 01's paragraph
-- "A read is finished when code 0 or 2 gives its word ...". No part of the table: it is told beside it.
-- Assumes nothing.
use Rattle.std.specs.Prelude.{◌≡◌, Bool, ◌&&◌, ◌||◌, cond, List, [], ◌∷◌, ◌++◌, ℕ, eqb, length, get_or}
use Rattle.theory_causal.specs.Changed.{changed}
use Rattle.theory_causal.specs.History.{Words, Source, blank, from, Step, nothing, wrote, showed}
use Rattle.desk.specs.declared.Event.{Event}
use Rattle.desk.specs.declared.Reply.{Reply}
use Rattle.desk.specs.Desk.{Word, no_word}
use Rattle.table.specs.Choice.{Engine, run}
use Rattle.table.specs.declared.Outcome.{Outcome}
use Rattle.table.specs.declared.Table.{Table}
use Rattle.table.specs.Table.{seat_of, slot_of, keeper_for}

-- the words of cells, and the one that stands where none was written
abbrev pub words : Words
words = record { Word = Word; no_word = no_word }

-- Beside each desk: which write each held cell's word comes from, which one the answer in its slot, and the step at which it asked.
pub record Trail : Type 0 where
  pub source : (cell : ℕ) → Source
  pub answer : Source
  pub asked : ℕ

abbrev pub holding : Trail → (cell : ℕ) → Source → Trail
holding b c s = record { source = changed b.source c s; answer = b.answer; asked = b.asked }

abbrev pub answered : Trail → Source → Trail
answered b s = record { source = b.source; answer = s; asked = b.asked }

abbrev pub waiting : Trail → (step : ℕ) → Trail
waiting b n = record { source = b.source; answer = b.answer; asked = n }

abbrev pub Trails : Type 0
Trails = (desk : ℕ) → Trail

-- "A read is finished when code 0 or 2 gives its word."
unfoldable pub is_finished : (code : ℕ) → Bool
is_finished code = eqb code 0 || eqb code 2

-- What an event at step n adds to the history, and the trails after it, as its kind, its reply and the desk's slot before it tell.
unfoldable pub entry : (n : ℕ) → Trails → Table → Event → Reply → Step words × Trails
entry n g t e r =
    let p = e.desk in
    let c = e.cell in
    let s = slot_of t p in
    let k = keeper_for t p in
    -- a read of a held cell is finished
    cond (eqb e.kind 1 && is_finished r.code) (showed p c r.value ((g p).source c) n, g)
    -- a keeper stores its own write
    (cond (eqb e.kind 2 && eqb r.code 0) (wrote p c e.word n, changed g p (holding (g p) c (from n)))
    -- a read or a write is asked
    (cond ((eqb e.kind 1 || eqb e.kind 2) && eqb r.code 1) (nothing, changed g p (waiting (g p) n))
    -- a take: the keeper answers the desk's read, or stores the desk's write
    (cond (eqb e.kind 3 && eqb r.code 0 && eqb s.kind 1) (nothing, changed g p (answered (g p) ((g k).source s.cell)))
    (cond (eqb e.kind 3 && eqb r.code 0)
    (wrote p s.cell s.word (g p).asked, changed (changed g k (holding (g k) s.cell (from n))) p (answered (g p) (from n)))
    -- a bring: an asked read is finished, or the answer to a write has arrived; with *served* on the cell is not held, so its source stays
    (cond (eqb e.kind 4 && is_finished r.code) (
      cond (eqb s.kind 3) (showed p s.cell r.value (g p).answer (g p).asked) nothing,
      changed g p (holding (g p) s.cell (cond (seat_of t p).served ((g p).source s.cell) (g p).answer)),
    )
    -- a drop, or a refusal
    (nothing, g))))))

-- A run so far: the table and the trails, and one step and one reply for each event.
pub record Account : Type 0 where
  pub table : Table
  pub trails : Trails
  pub history : List (Step words)
  pub replies : List Reply

abbrev pub no_reply : Reply
no_reply = record { code = 0; value = 0; count = 0 }

abbrev pub replied_at : Account → (step : ℕ) → Reply
replied_at a x = get_or a.replies x no_reply

-- Blank is what comes from no write, and it has code 2. What comes from a write has code 0, whatever its word, also 0.
unfoldable pub code_for : Source → ℕ
code_for blank = 2
code_for (from w) = 0

-- the reply to a read that comes from this source gives this word
pub record Shows (r : Reply) (word : Word) (source : Source) : Type 0 where
  pub value : r.value ≡ word
  pub code : r.code ≡ code_for source

-- before the first event no word comes from a write
abbrev pub opened : Table → Account
opened t = record { table = t; trails = λ p. record { source = λ c. blank; answer = blank; asked = 0 }; history = []; replies = [] }

-- one event more, refused or not, and its outcome
unfoldable pub next : Account → Event → Outcome → Account
next a e o =
    let m = entry (length a.history) a.trails a.table e o.reply in
    record { table = o.after; trails = m.1; history = a.history ++ (m.0 ∷ []); replies = a.replies ++ (o.reply ∷ []) }

-- what events and their outcomes tell, one outcome for each
unfoldable pub told : Account → List Event → List Outcome → Account
told a [] os = a
told a (e ∷ es) [] = a
told a (e ∷ es) (o ∷ os) = told (next a e o) es os

-- a run of a rule from a table
abbrev pub account : Engine → Table → List Event → Account
account rule t es = told (opened t) es (run rule t es)
