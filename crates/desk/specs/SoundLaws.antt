-- Soundness as a rule at each place: the test gives it, and it gives the test back.
-- Assumes nothing.
use Rattle.std.specs.Prelude.{◌≡◌, refl, Bool, true, false, not, ◌&&◌, ◌||◌, cond, ℕ, ◌≤◌, ◌<◌, ltb, leb, eqb, length}
use Rattle.std.proofs.Common.{ap, zero-le, arith}
use Rattle.std.proofs.Math.Bool.{or-true}
use Rattle.std.proofs.Math.Decide.{dec_le, dec_lt}
use borrow.Author.Tests.{ltb-true, leb-true, eqb-true, lt-ltb, le-ltb, le-leb, lt-leb, eq-eqb, not-true}
use Rattle.clock.specs.declared.Clock.{Clock}
use Rattle.clock.specs.Clock.{is_within}
use Rattle.clock.specs.Laws.{ZeroPast, within-past, past-within}
use Rattle.theory_lists.specs.Test.{fails, both, both_left, both_right, every-map_at, map_at-every}
use Rattle.desk.specs.declared.Cell.{Cell}
use Rattle.desk.specs.declared.Counts.{Counts}
use Rattle.desk.specs.declared.Record.{Record}
use Rattle.desk.specs.declared.Seat.{Seat}
use Rattle.desk.specs.declared.Slot.{Slot}
use Rattle.desk.specs.declared.Tray.{Tray}
use Rattle.desk.specs.Desk.{Word, no_word, is_no_word, is_blank, no_place, past_cell, cell_at, place_at, keeper_of, is_used, keeps, waits}
use Rattle.desk.specs.Sound.{counts_sound, place_sound, tray_sound, word_fits, sent_fits, cell_fits, cell_sound, slot_names, slot_carries, slot_sound}
use Rattle.desk.specs.Sound.{numbers_of, seat_sound, cells_sound, is_sound}

pub no_way : {A : Type 0} (b : Bool) → b ≡ true → b ≡ false → A
no_way b p q = let z : ◌≡◌ {A = ℕ} 0 1 = cc in absurd (omega arith)

-- ---- words
pub no-word-is : (w : Word) → is_no_word w ≡ true → w ≡ no_word
unfolding is_no_word
no-word-is w = eqb-true w no_word

pub is-no-word : (w : Word) → w ≡ no_word → is_no_word w ≡ true
unfolding is_no_word
is-no-word w = eq-eqb w no_word

-- ---- blank
pub blank-is : (k : Clock) → is_blank k ≡ true → ZeroPast 0 k
unfolding is_blank
blank-is k = within-past 0 k

pub is-blank : (k : Clock) → ZeroPast 0 k → is_blank k ≡ true
unfolding is_blank
is-blank k = past-within 0 k

-- "word 0 wherever a stamp is all zeros"
pub word-rule : (w : Word) (k : Clock) → word_fits w k ≡ true → ZeroPast 0 k → w ≡ no_word
unfolding word_fits
word-rule w k e z = no-word-is w (rw (is-blank k z) at e)

pub rule-word : (w : Word) (k : Clock) → (ZeroPast 0 k → w ≡ no_word) → word_fits w k ≡ true
unfolding word_fits
rule-word w k p = go (is_blank k) refl
  where
    go : (b : Bool) → is_blank k ≡ b → (not b || is_no_word w) ≡ true
    go true e = is-no-word w (p (blank-is k e))
    go false e = refl

-- "no write-asked clock is all zeros"
pub sent-rule : (kind : ℕ) (k : Clock) → sent_fits kind k ≡ true → kind ≡ 2 → ZeroPast 0 k → ⊥
unfolding sent_fits
sent-rule kind k e two z = no_way (sent_fits kind k) e (rw (eq-eqb kind 2 two, is-blank k z))

pub rule-sent : (kind : ℕ) (k : Clock) → (kind ≡ 2 → ZeroPast 0 k → ⊥) → sent_fits kind k ≡ true
unfolding sent_fits
rule-sent kind k p =
    ap not
    (fails (eqb kind 2 && is_blank k)
    (λ e. p (eqb-true kind 2 (both_left (eqb kind 2) (is_blank k) e)) (blank-is k (both_right (eqb kind 2) (is_blank k) e))))

-- ---- the tray
pub record TrayRule (t : Tray) : Type 0 where
  pub some-desk : 1 ≤ t.counts.desks
  pub desks-most : t.counts.desks ≤ 8
  pub some-cell : 1 ≤ t.counts.cells
  pub cells-most : t.counts.cells ≤ 32
  pub place_is : (c : ℕ) → c < length t.places → place_sound t.counts c (place_at t c) ≡ true

pub tray-rule : (t : Tray) → tray_sound t ≡ true → TrayRule t
unfolding tray_sound counts_sound
tray-rule t e =
    record {
      some-desk = leb-true 1 t.counts.desks (search (both_left, both_right));
      desks-most = leb-true t.counts.desks 8 (search (both_left, both_right));
      some-cell = leb-true 1 t.counts.cells (search (both_left, both_right));
      cells-most = leb-true t.counts.cells 32 (search (both_left, both_right));
      place_is = every-map_at (place_sound t.counts) t.places no_place (search (both_left, both_right));
    }

pub rule-tray : (t : Tray) → TrayRule t → tray_sound t ≡ true
unfolding tray_sound counts_sound
rule-tray t r =
    both
    (both (both (le-leb 1 t.counts.desks r.some-desk) (le-leb t.counts.desks 8 r.desks-most))
    (both (le-leb 1 t.counts.cells r.some-cell) (le-leb t.counts.cells 32 r.cells-most)))
    (map_at-every (place_sound t.counts) t.places no_place r.place_is)

-- ---- keepers
module _ (t : Tray) (desk c : ℕ) where
  pub keeps-in : keeps t desk c ≡ true → c < t.counts.cells
  unfolding keeps
  keeps-in e = ltb-true c t.counts.cells (search both_left)

  pub is-keeper : keeps t desk c ≡ true → keeper_of t c ≡ desk
  unfolding keeps
  is-keeper e = eqb-true (keeper_of t c) desk (both_right (ltb c t.counts.cells) (eqb (keeper_of t c) desk) e)

  pub keeper-keeps : keeper_of t c ≡ desk → c < t.counts.cells → keeps t desk c ≡ true
  unfolding keeps
  keeper-keeps k h = both (lt-ltb c t.counts.cells h) (eq-eqb (keeper_of t c) desk k)

  pub no-keeper : keeps t desk c ≡ false → c < t.counts.cells → keeper_of t c ≡ desk → ⊥
  no-keeper e h k = no_way (keeps t desk c) (keeper-keeps k h) e

-- a cell's keeper is a desk
pub keeper-desk : (t : Tray) (c : ℕ) → TrayRule t → length t.places ≡ 32 → c < t.counts.cells → keeper_of t c < t.counts.desks
unfolding place_sound
keeper-desk t c r long h =
    ltb-true (keeper_of t c) t.counts.desks (rw (lt-ltb c t.counts.cells h) at (r.place_is c (omega (arith, r.cells-most))))

-- ---- used entries
abbrev pub Used : Counts → ℕ → ℕ → Type 0
Used n desk c = (desk < n.desks) × (c < n.cells)

pub used-is : (n : Counts) (desk c : ℕ) → is_used n desk c ≡ true → Used n desk c
used-is n desk c e = (
  ltb-true desk n.desks (both_left (ltb desk n.desks) (ltb c n.cells) e),
  ltb-true c n.cells (both_right (ltb desk n.desks) (ltb c n.cells) e),
)

pub is-used : (n : Counts) (desk c : ℕ) → Used n desk c → is_used n desk c ≡ true
is-used n desk c u = both (lt-ltb desk n.desks u.0) (lt-ltb c n.cells u.1)

-- ---- a cell
pub record CellRule (t : Tray) (desk c : ℕ) (x : Cell) : Type 0 where
  pub used : x.held ≡ true → Used t.counts desk c
  pub keeper-holds : keeps t desk c ≡ true → x.held ≡ true
  pub stamp-past : ZeroPast t.counts.desks x.stamp
  pub no-stamp : x.held ≡ false → ZeroPast 0 x.stamp
  pub no-word : ZeroPast 0 x.stamp → x.word ≡ no_word

pub cell-rule : (t : Tray) (desk c : ℕ) (x : Cell) → cell_sound t desk c x ≡ true → CellRule t desk c x
unfolding cell_sound cell_fits keeps
cell-rule t desk c x e = go x.held refl
  where
    go : (h : Bool) → x.held ≡ h → CellRule t desk c x
    go true p =
        let held : (is_used t.counts desk c && is_within t.counts.desks x.stamp && word_fits x.word x.stamp) ≡ true = rw p at e in
        record {
          used = λ _. used-is t.counts desk c (search (both_left, both_right));
          keeper-holds = λ _. p;
          stamp-past = within-past t.counts.desks x.stamp (search (both_left, both_right));
          no-stamp = λ q. no_way x.held p q;
          no-word = word-rule x.word x.stamp (search (both_left, both_right));
        }
    go false p =
        let none : (not (keeps t desk c) && is_no_word x.word && is_within 0 x.stamp) ≡ true = rw p at e in
        let zeros : ZeroPast 0 x.stamp = within-past 0 x.stamp (search (both_left, both_right)) in
        record {
          used = λ q. no_way x.held q p;
          keeper-holds = λ q. no_way (keeps t desk c) q (not-true (keeps t desk c) (search (both_left, both_right)));
          stamp-past = λ k _. zeros k zero-le;
          no-stamp = λ _. zeros;
          no-word = λ _. no-word-is x.word (search (both_left, both_right));
        }

pub rule-cell : (t : Tray) (desk c : ℕ) (x : Cell) → CellRule t desk c x → cell_sound t desk c x ≡ true
unfolding cell_sound cell_fits keeps
rule-cell t desk c x r = go x.held refl
  where
    go : (h : Bool) → x.held ≡ h → cell_sound t desk c x ≡ true
    go true p =
        rw p
        (both (both (is-used t.counts desk c (r.used p)) (past-within t.counts.desks x.stamp r.stamp-past))
        (rule-word x.word x.stamp r.no-word))
    go false p =
        rw p
        (both (both (ap not (fails (keeps t desk c) (λ q. no_way x.held (r.keeper-holds q) p))) (is-no-word x.word (r.no-word (r.no-stamp p))))
        (past-within 0 x.stamp (r.no-stamp p)))

-- ---- a slot
pub record SlotRule (t : Tray) (desk : ℕ) (s : Slot) : Type 0 where
  pub kind-most : s.kind ≤ 4
  pub used : waits s ≡ true → Used t.counts desk s.cell
  pub not-kept : waits s ≡ true → keeps t desk s.cell ≡ false
  pub no_cell : waits s ≡ false → s.cell ≡ 0
  pub clock-past : ZeroPast t.counts.desks s.clock
  pub no-clock : s.kind ≤ 1 → ZeroPast 0 s.clock
  pub no-word : ZeroPast 0 s.clock → s.word ≡ no_word
  pub sent : s.kind ≡ 2 → ZeroPast 0 s.clock → ⊥

pub slot-rule : (t : Tray) (desk : ℕ) (s : Slot) → slot_sound t desk s ≡ true → SlotRule t desk s
unfolding slot_sound slot_names slot_carries
slot-rule t desk s e =
    record {
      kind-most = leb-true s.kind 4 (search (both_left, both_right));
      used = λ w. used-is t.counts desk s.cell (both_left (is_used t.counts desk s.cell) (not (keeps t desk s.cell)) (rw w at names));
      not-kept =
          λ w.
          not-true (keeps t desk s.cell) (both_right (is_used t.counts desk s.cell) (not (keeps t desk s.cell)) (rw w at names));
      no_cell = λ w. eqb-true s.cell 0 (rw w at names);
      clock-past =
          λ k h.
          elim (dec_le s.kind 1) [
            | yes l ↦ no-clock l k zero-le
            | no l ↦ within-past t.counts.desks s.clock (both_left (is_within t.counts.desks s.clock) (word_fits s.word s.clock) (full (omega arith))) k h
          ];
      no-clock = no-clock;
      no-word =
          elim (dec_le s.kind 1) [
            | yes l ↦ λ _. no-word-is s.word (both_left (is_no_word s.word) (is_within 0 s.clock) (rw (le-leb s.kind 1 l) at carries))
            | no l ↦ word-rule s.word s.clock (both_right (is_within t.counts.desks s.clock) (word_fits s.word s.clock) (full (omega arith)))
          ];
      sent = sent-rule s.kind s.clock (search (both_left, both_right));
    }
  where
    names : slot_names t desk s ≡ true
    names = search (both_left, both_right)

    carries : cond (leb s.kind 1) (is_no_word s.word && is_within 0 s.clock) (is_within t.counts.desks s.clock && word_fits s.word s.clock) ≡ true
    carries = search (both_left, both_right)

    full : 1 < s.kind → (is_within t.counts.desks s.clock && word_fits s.word s.clock) ≡ true
    full l = rw (lt-leb s.kind 1 l) at carries

    no-clock : s.kind ≤ 1 → ZeroPast 0 s.clock
    no-clock l = within-past 0 s.clock (both_right (is_no_word s.word) (is_within 0 s.clock) (rw (le-leb s.kind 1 l) at carries))

pub rule-slot : (t : Tray) (desk : ℕ) (s : Slot) → SlotRule t desk s → slot_sound t desk s ≡ true
unfolding slot_sound slot_names slot_carries
rule-slot t desk s r = both (both (le-leb s.kind 4 r.kind-most) (names (waits s) refl)) carries
  where
    names : (w : Bool) → waits s ≡ w → slot_names t desk s ≡ true
    names true w = rw w (both (is-used t.counts desk s.cell (r.used w)) (ap not (r.not-kept w)))
    names false w = rw w (eq-eqb s.cell 0 (r.no_cell w))

    carries : slot_carries t.counts s ≡ true
    carries =
        elim (dec_le s.kind 1) [
          | yes l ↦ rw (le-leb s.kind 1 l)
              (both (both (is-no-word s.word (r.no-word (r.no-clock l))) (past-within 0 s.clock (r.no-clock l))) sent)
          | no l ↦ rw (lt-leb s.kind 1 (omega arith))
              (both (both (past-within t.counts.desks s.clock r.clock-past) (rule-word s.word s.clock r.no-word)) sent)
        ]
      where
        sent : sent_fits s.kind s.clock ≡ true
        sent = rule-sent s.kind s.clock r.sent

-- ---- what a desk has beside its cells
pub record SeatRule (t : Tray) (desk : ℕ) (s : Seat) : Type 0 where
  pub numbers-past : ZeroPast (numbers_of t.counts desk) s.clock
  pub slot_is : SlotRule t desk s.slot
  pub served-waits : s.served ≡ true → waits s.slot ≡ true

pub seat-rule : (t : Tray) (desk : ℕ) (s : Seat) → seat_sound t desk s ≡ true → SeatRule t desk s
unfolding seat_sound
seat-rule t desk s e =
    record {
      numbers-past = within-past (numbers_of t.counts desk) s.clock (search (both_left, both_right));
      slot_is = slot-rule t desk s.slot (search (both_left, both_right));
      served-waits = λ on. or-not (waits s.slot) s.served on (search (both_left, both_right));
    }
  where
    or-not : (a b : Bool) → b ≡ true → (a || not b) ≡ true → a ≡ true
    or-not true b p q = refl
    or-not false b p q = no_way b p (not-true b q)

pub rule-seat : (t : Tray) (desk : ℕ) (s : Seat) → SeatRule t desk s → seat_sound t desk s ≡ true
unfolding seat_sound
rule-seat t desk s r =
    both
    (both (past-within (numbers_of t.counts desk) s.clock r.numbers-past) (rule-slot t desk s.slot r.slot_is))
    (served s.served refl)
  where
    served : (b : Bool) → s.served ≡ b → (waits s.slot || not s.served) ≡ true
    served true p = rw (r.served-waits p)
    served false p = rw (p, or-true)

-- a desk that is there has a number for each desk; in any case none past the desk count
module _ (n : Counts) (desk : ℕ) (k : Clock) where
  pub all-numbers : desk < n.desks → ZeroPast n.desks k → ZeroPast (numbers_of n desk) k
  all-numbers h p = rw (lt-ltb desk n.desks h) p

  pub past-count : ZeroPast (numbers_of n desk) k → ZeroPast n.desks k
  past-count p =
      elim (dec_lt desk n.desks) [
        | yes h ↦ rw (lt-ltb desk n.desks h) at p
        | no h ↦ λ j l. (rw (le-ltb desk n.desks (omega arith)) at p) j zero-le
      ]

-- ---- a desk's row of the table, whose slot may be answered and whose desk may be absent; and a desk's own record
pub record RowRule (v : Record) : Type 0 where
  pub cell-is : (c : ℕ) → c < length v.row → CellRule v.tray v.desk c (cell_at v.row c)
  pub seat-is : SeatRule v.tray v.desk v.seat

pub record SoundRule (v : Record) : Type 0 where
  pub tray-is : TrayRule v.tray
  pub desk-is : v.desk < v.tray.counts.desks
  pub row_is : RowRule v
  pub asked : v.seat.slot.kind ≤ 2

pub sound-rule : (v : Record) → is_sound v ≡ true → SoundRule v
unfolding is_sound cells_sound
sound-rule v e =
    record {
      tray-is = tray-rule v.tray (search (both_left, both_right));
      desk-is = ltb-true v.desk v.tray.counts.desks (search (both_left, both_right));
      row_is = record {
        cell-is =
            λ c h.
            cell-rule v.tray v.desk c (cell_at v.row c)
            (every-map_at (cell_sound v.tray v.desk) v.row past_cell (search (both_left, both_right)) c h);
        seat-is = seat-rule v.tray v.desk v.seat (search (both_left, both_right));
      };
      asked = leb-true v.seat.slot.kind 2 (search (both_left, both_right));
    }

pub rule-sound : (v : Record) → SoundRule v → is_sound v ≡ true
unfolding is_sound cells_sound
rule-sound v r =
    both
    (both
    (both (both (rule-tray v.tray r.tray-is) (lt-ltb v.desk v.tray.counts.desks r.desk-is))
    (map_at-every (cell_sound v.tray v.desk) v.row past_cell
    (λ c h. rule-cell v.tray v.desk c (cell_at v.row c) (r.row_is.cell-is c h))))
    (rule-seat v.tray v.desk v.seat r.row_is.seat-is))
    (le-leb v.seat.slot.kind 2 r.asked)
