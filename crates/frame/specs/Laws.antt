-- Laws on frames. Proofs of the code and of the round trips use these and not the definitions' text.
-- Assumes nothing.
use Rattle.std.specs.Prelude.{◌≡◌, refl, Bool, true, false, not, ◌||◌, List, [], ◌∷◌, ◌++◌, ℕ, ◌+◌, ◌*◌, ◌<◌, ◌≤◌, eqb, length, get_or, take, drop}
use Rattle.std.proofs.Math.Path.{sym}
use Rattle.std.proofs.Common.{ap, ◌∙◌, arith, length-take, drop_of_length-le, take-add}
use borrow.Author.Tests.{ltb-false, leb-false, eqb-true, lt-ltb, le-ltb, eq-eqb, ne_eqb, not-false}
use Rattle.theory_lists.specs.Sum.{sum}
use Rattle.theory_lists.specs.Test.{whichever}
use Rattle.theory_refusals.specs.Refusals.{first_of, numbers_from, test_of, none-applies, first_some, first_more, first-none}
use Rattle.theory_refusals.specs.Refusals.{unless-refused, unless-done}
use Rattle.theory_refusals.specs.declared.Refusal.{Refusal}
use Rattle.theory_refusals.specs.Numbers.{number_of}
use Rattle.spelling.specs.Bytes.{numeral, followed, bytes, spell, numbers}
use Rattle.spelling.specs.Places.{byte-in, part-take, sum-fours}
use Rattle.desk.specs.declared.Message.{Message}
use Rattle.desk.specs.Desk.{no_message}
use Rattle.frame.specs.Frame.{version, kinds, widths, carried, length_of, fault_lines, fault_of, faults_in, fault_in, message_of}
use Rattle.frame.specs.Frame.{length_in, version_in, message_in, wrong_length, read_lines, read_code, read_rule, row_of, frame_of}
use Rattle.frame.specs.Frame.{well_formed, no_room, write_lines, write_code, write_rule, output_rule}

-- ---- numbers at their places
pub framed-byte : (p u : ℕ) (s : List ℕ) → p < u → p < length s → numeral (take 1 (drop p (take u s))) ≡ get_or s p 0
framed-byte p u s h i = ap numeral (part-take p 1 u s (omega arith)) ∙ byte-in p s i

-- of the numbers that a frame carries there are c: the one at place k is 0 past them
pub number_past : (c k : ℕ) (s : List ℕ) → c ≤ k → numeral (take 4 (drop (7 + 4 * k) (take (7 + 4 * c) s))) ≡ 0
unfolding followed
number_past c k s h =
    let past : length (take (7 + 4 * c) s) ≤ 7 + 4 * k = omega (arith, length-take (7 + 4 * c) s) in
    rw (drop_of_length-le (take (7 + 4 * c) s) past)

module _ (s : List ℕ) (h : 7 ≤ length s) where
  pub version-in : version_in s ≡ get_or s 2 0
  unfolding numbers
  version-in = byte-in 2 s (omega arith)

  pub kind-in : (message_in s).kind ≡ get_or s 3 0
  unfolding numbers message_of
  kind-in = byte-in 3 s (omega arith)

  pub desks-in : (message_in s).desks ≡ get_or s 4 0
  unfolding numbers message_of
  desks-in = byte-in 4 s (omega arith)

  pub desk-in : (message_in s).desk ≡ get_or s 5 0
  unfolding numbers message_of
  desk-in = byte-in 5 s (omega arith)

  pub cell_in : (message_in s).cell ≡ get_or s 6 0
  unfolding numbers message_of
  cell_in = byte-in 6 s (omega arith)

-- ---- lengths
pub carried-le : (kind desks : ℕ) → carried kind desks ≤ 1 + desks
unfolding carried
carried-le kind desks = whichever (λ (n : ℕ). n ≤ 1 + desks) (eqb kind 1) 0 (1 + desks) (omega arith) (omega arith)

-- "So the length is 5 for kind 1 and 9 + 4 times the desk count otherwise."
pub length-of : (kind desks : ℕ) → desks ≤ 8 → length_of kind desks ≡ 5 + 4 * carried kind desks
unfolding length_of sum
length-of kind desks h =
    rw (take-add 6 (carried kind desks) widths) (omega (arith, sum-fours (carried kind desks) 9 (omega (arith, carried-le kind desks))))

-- ---- refusals
-- a refusal's number is not 0
pub some-number : (r : Refusal) → number_of r ≡ 0 → ⊥
some-number r e = grind arith

neither : (a b : Bool) → (a || b) ≡ false → (a ≡ false) × (b ≡ false)
neither true b e = let z : ◌≡◌ {A = ℕ} 0 1 = cc in absurd (omega arith)
neither false b e = (refl, e)

-- no fault that reading and writing refuse alike
pub record Faultless (kind desks desk cell : ℕ) : Type 0 where
  pub kind-from : 1 ≤ kind
  pub kind-to : kind ≤ kinds
  pub desks-from : 2 ≤ desks
  pub desks-to : desks ≤ 8
  pub desk-below : desk < desks
  pub cell-to : cell ≤ 31

pub faultless : (kind desks desk cell : ℕ) → fault_of kind desks desk cell ≡ 0 → Faultless kind desks desk cell
unfolding fault_lines numbers_from test_of
faultless kind desks desk cell e =
    let no = none-applies (fault_lines kind desks desk cell) refl e in
    let kind-range = neither _ _ (no 32) in
    let desks-range = neither _ _ (no 33) in
    record {
      kind-from = ltb-false _ _ kind-range.0;
      kind-to = ltb-false _ _ kind-range.1;
      desks-from = ltb-false _ _ desks-range.0;
      desks-to = ltb-false _ _ desks-range.1;
      desk-below = leb-false _ _ (no 34);
      cell-to = ltb-false _ _ (no 35);
    }

-- how much such a frame carries, and how long it is
pub called : {kind desks desk cell c : ℕ} → Faultless kind desks desk cell → c ≡ carried kind desks
    → (length_of kind desks ≡ 5 + 4 * c) × (c ≤ 9)
called {kind} {desks} known e =
    (omega (arith, length-of kind desks known.desks-to), omega (arith, carried-le kind desks, known.desks-to))

-- no number of theirs is 0
pub fault-numbers : (m : Message) → numbers_from 1 (faults_in m) ≡ true
unfolding fault_lines numbers_from
fault-numbers m = refl

-- ---- reading: its first refusals, and what is left to refuse
module _ (s : List ℕ) where
  pub too_short : length s < 2 → read_code s ≡ 30
  unfolding read_lines first_of
  too_short h = rw (lt-ltb _ _ h)

  pub cut_off : 2 ≤ length s → length s < 2 + length_in s → read_code s ≡ 30
  unfolding read_lines first_of
  cut_off h i = rw (le-ltb _ _ h, lt-ltb _ _ i)

  pub no-head : 2 ≤ length s → 2 + length_in s ≤ length s → length_in s < 5 → read_code s ≡ 36
  unfolding read_lines first_of
  no-head h i j = rw (le-ltb _ _ h, le-ltb _ _ i, lt-ltb _ _ j)

  pub other-version : 2 ≤ length s → 2 + length_in s ≤ length s → 5 ≤ length_in s → (version_in s ≡ version → ⊥) → read_code s ≡ 31
  unfolding read_lines first_of
  other-version h i j ne = rw (le-ltb _ _ h, le-ltb _ _ i, le-ltb _ _ j, ne_eqb _ _ ne)

  -- the bytes hold a whole frame of our version
  pub record Whole : Type 0 where
    pub begun : 2 ≤ length s
    pub there : 2 + length_in s ≤ length s
    pub headed : 5 ≤ length_in s
    pub ours : version_in s ≡ version

  pub whole_code : Whole → read_code s ≡ first_of (faults_in (message_in s) ++ (36, wrong_length s) ∷ [])
  unfolding read_lines first_of
  whole_code w = rw (le-ltb _ _ w.begun, le-ltb _ _ w.there, le-ltb _ _ w.headed, eq-eqb _ _ w.ours)

pub can-read : (s : List ℕ) → Whole s → fault_in (message_in s) ≡ 0
    → length_in s ≡ length_of (message_in s).kind (message_in s).desks → read_code s ≡ 0
unfolding first_of
can-read s w e f = whole_code s w ∙ first_more (faults_in (message_in s)) _ (fault-numbers (message_in s)) e ∙ rw (eq-eqb _ _ f)

-- nothing to refuse
pub record Accepted (s : List ℕ) : Type 0 where
  pub whole : Whole s
  pub no-fault : fault_in (message_in s) ≡ 0
  pub known : Faultless (message_in s).kind (message_in s).desks (message_in s).desk (message_in s).cell
  pub fitting : length_in s ≡ 5 + 4 * carried (message_in s).kind (message_in s).desks

accepted-whole : (s : List ℕ) → read_code s ≡ 0 → Whole s
unfolding read_lines fault_lines numbers_from test_of
accepted-whole s e =
    let no = none-applies (read_lines s) refl e in
    let there = neither _ _ (no 30) in
    record {
      begun = ltb-false _ _ there.0;
      there = ltb-false _ _ there.1;
      headed = ltb-false _ _ (no 36);
      ours = eqb-true _ _ (not-false _ (no 31));
    }

pub accepted : (s : List ℕ) → read_code s ≡ 0 → Accepted s
unfolding numbers_from test_of
accepted s e =
    let whole = accepted-whole s e in
    let left = first-none (faults_in (message_in s)) ((36, wrong_length s) ∷ []) (fault-numbers (message_in s)) (sym (whole_code s whole) ∙ e) in
    let known = faultless _ _ _ _ left.0 in
    let fits = none-applies ((36, wrong_length s) ∷ []) refl left.1 36 in
    record {
      whole = whole;
      no-fault = left.0;
      known = known;
      fitting = eqb-true _ _ (not-false _ fits) ∙ length-of _ _ known.desks-to;
    }

module _ (s : List ℕ) where
  pub read-refused : (code : ℕ) → code ≡ read_code s → (code ≡ 0 → ⊥) → record { code = code; message = no_message; used = 0 } ≡ read_rule s
  unfolding read_rule
  read-refused code e ne = rw e (sym (unless-refused (read_code s) _ _ (λ z. ne (e ∙ z))))

  pub read-accepted : read_code s ≡ 0
      → read_rule s ≡ record { code = 0; message = message_in (take (2 + length_in s) s); used = 2 + length_in s }
  unfolding read_rule
  read-accepted e = unless-done (read_code s) _ _ e

-- ---- writing
-- a frame is its head, and the numbers that it carries
abbrev pub head_of : ℕ → ℕ → ℕ → ℕ → ℕ → List ℕ
head_of size kind desks desk cell = spell (take 6 widths) (size ∷ version ∷ kind ∷ desks ∷ desk ∷ cell ∷ [])

abbrev pub body_of : Message → ℕ → List ℕ
body_of m c = spell (take c (drop 6 widths)) (m.word ∷ m.clock.n)

pub frame-split : (m : Message)
    → frame_of m ≡ head_of (length_of m.kind m.desks) m.kind m.desks m.desk m.cell ++ body_of m (carried m.kind m.desks)
unfolding frame_of row_of spell bytes
frame-split m = rw (take-add 6 (carried m.kind m.desks) widths)

module _ (m : Message) (room : ℕ) where
  pub faulty : (fault_in m ≡ 0 → ⊥) → write_code m room ≡ fault_in m
  unfolding write_lines
  faulty ne = first_some (faults_in m) _ ne

  faultless-code : fault_in m ≡ 0 → write_code m room ≡ first_of ((38, not (well_formed m)) ∷ (37, no_room m room) ∷ [])
  unfolding write_lines
  faultless-code e = first_more (faults_in m) _ (fault-numbers m) e

  pub not-well-formed : fault_in m ≡ 0 → well_formed m ≡ false → write_code m room ≡ 38
  unfolding first_of
  not-well-formed e f = faultless-code e ∙ rw f

  pub no_room_lem : fault_in m ≡ 0 → well_formed m ≡ true → room < 2 + length_of m.kind m.desks → write_code m room ≡ 37
  unfolding first_of
  no_room_lem e f h = faultless-code e ∙ rw (f, lt-ltb _ _ h)

  pub can_write : fault_in m ≡ 0 → well_formed m ≡ true → 2 + length_of m.kind m.desks ≤ room → write_code m room ≡ 0
  unfolding first_of
  can_write e f h = faultless-code e ∙ rw (f, le-ltb _ _ h)

-- nothing to refuse
pub record Writable (m : Message) (room : ℕ) : Type 0 where
  pub no-fault : fault_in m ≡ 0
  pub known : Faultless m.kind m.desks m.desk m.cell
  pub clean : well_formed m ≡ true
  pub fitting : 7 + 4 * carried m.kind m.desks ≤ room

pub writable : (m : Message) (room : ℕ) → write_code m room ≡ 0 → Writable m room
unfolding write_lines fault_lines numbers_from test_of
writable m room e =
    let no = none-applies (write_lines m room) refl e in
    let no-fault = (first-none (faults_in m) _ refl e).0 in
    let known = faultless _ _ _ _ no-fault in
    record {
      no-fault = no-fault;
      known = known;
      clean = not-false _ (no 38);
      fitting = omega (arith, ltb-false room _ (no 37), length-of m.kind m.desks known.desks-to);
    }

module _ (m : Message) (out : List ℕ) where
  pub write-refused : (code : ℕ) → code ≡ write_code m (length out) → (code ≡ 0 → ⊥)
      → (record { code = code; used = 0 } ≡ write_rule m out) × (out ≡ output_rule m out)
  unfolding write_rule output_rule
  write-refused code e ne =
      let some : write_code m (length out) ≡ 0 → ⊥ = λ z. ne (e ∙ z) in
      (rw e (sym (unless-refused (write_code m (length out)) _ _ some)), sym (unless-refused (write_code m (length out)) _ _ some))

  pub write-accepted : write_code m (length out) ≡ 0
      → (write_rule m out ≡ record { code = 0; used = 2 + length_of m.kind m.desks })
      × (output_rule m out ≡ frame_of m ++ drop (2 + length_of m.kind m.desks) out)
  unfolding write_rule output_rule
  write-accepted e = (unless-done (write_code m (length out)) _ _ e, unless-done (write_code m (length out)) _ _ e)
