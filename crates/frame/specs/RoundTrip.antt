-- Round trips, as theorems about the rules that the contracts of `read` and `write` name, and so about the code.
-- Assumes nothing.
use Rattle.std.specs.Prelude.{◌≡◌, true, length, replicate}
use Rattle.std.proofs.Math.Path.{refl, sym, ap, ap₂}
use Rattle.std.proofs.Common.{◌∙◌, length-append, take_at, take-add, lt-ltb, le-ltb, eqb-true}
use mathlib.Core.List.{List, [], ◌∷◌, ◌++◌}
use Prim.Native.Nat.{ℕ, zero, suc, ◌+◌, ◌*◌, ◌^◌, ◌<◌, ◌≤◌}
use native.Mathlib.Omega.{arith}
use Rattle.std.proofs.Math.Decide.{dec_lt}
use Rattle.std.proofs.Math.ListN.{get_or, take, drop, length-take, get_or-eq_default}
use Rattle.std.proofs.lemmas.List.{get_or-replicate}
use Rattle.std.proofs.Math.Seq.{take-take, length-take-le}
use Rattle.theory_lists.specs.Sum.{sum}
use Rattle.theory_lists.specs.Test.{every-map_at, map_at-every}
use Rattle.theory_refusals.specs.Refusals.{unless-none}
use Rattle.clock.specs.Clock.{number}
use Rattle.spelling.specs.Bytes.{numeral, spell, numbers, Bytes, Fitting, length-spell, numbers-spell, spell-numbers, bytes-part}
use Rattle.spelling.specs.Places.{part-take, four-at}
use Rattle.desk.specs.declared.Message.{Message}
use Rattle.frame.specs.declared.Reading.{Reading}
use Rattle.frame.specs.declared.Written.{Written}
use Rattle.frame.specs.Frame.{version, widths, carried, parts, length_of, row_of, message_of, fault_in, row_in, length_in, version_in}
use Rattle.frame.specs.Frame.{message_in, read_code, read_rule, carried_or_zero, well_formed, frame_of, write_code, write_rule, output_rule}
use Rattle.frame.specs.Laws.{number_past, length-of, Faultless, faultless, called, Whole, can-read, Accepted, accepted}
use Rattle.frame.specs.Laws.{read-accepted, writable, can_write, write-accepted}

-- every number of a message fits its width, as in code it always does
pub record Sized (m : Message) : Type 0 where
  pub word_fits : m.word < 256 ^ 4
  pub eight : length m.clock.n ≡ 8
  pub numbers_fit : (k : ℕ) → number m.clock k < 256 ^ 4

-- a message that has a frame
pub record Sendable (m : Message) : Type 0 where
  pub no-fault : fault_in m ≡ 0
  pub clean : well_formed m ≡ true
  pub sized : Sized m

not_carried : (c j x : ℕ) → c ≤ j → carried_or_zero c j x ≡ true → x ≡ 0
unfolding carried_or_zero
not_carried c j x h e = eqb-true x 0 (rw (le-ltb j c h) at e)

carried-or-zero : (c j x : ℕ) → (c ≤ j → x ≡ 0) → carried_or_zero c j x ≡ true
unfolding carried_or_zero
carried-or-zero c j x z = elim (dec_lt j c) [ yes h ↦ (rw (lt-ltb j c h)) | no h ↦ (rw (le-ltb j c (omega arith), z (omega arith))) ]

-- a frame has two bytes more than its length says
counted : (kind desks : ℕ) → sum (take (parts kind desks) widths) ≡ 2 + length_of kind desks
unfolding length_of sum
counted kind desks = rw (take-add 6 (carried kind desks) widths)

-- code 0 is told only where nothing is refused
read_told : (s : List ℕ) → (read_rule s).code ≡ 0 → read_code s ≡ 0
unfolding read_rule
read_told s = unless-none (read_code s) _ _ (λ (r : Reading). r.code) refl

write-told : (m : Message) (out : List ℕ) → (write_rule m out).code ≡ 0 → write_code m (length out) ≡ 0
unfolding write_rule
write-told m out = unless-none (write_code m (length out)) _ _ (λ (w : Written). w.code) refl

-- ---- the row of such a message
module _ (m : Message) (ok : Sendable m) where
  known : Faultless m.kind m.desks m.desk m.cell
  known = faultless _ _ _ _ ok.no-fault

  row_fits : Fitting widths (row_of m)
  unfolding row_of
  row_fits = record { as_many = omega (arith, ok.sized.eight); each = each }
    where
      each : (k : ℕ) → get_or (row_of m) k 0 < 256 ^ get_or widths k 0
      each zero = omega (arith, called known refl)
      each (suc zero) = omega arith
      each (suc (suc zero)) = omega (arith, known.kind-to)
      each (suc (suc (suc zero))) = omega (arith, known.desks-to)
      each (suc (suc (suc (suc zero)))) = omega (arith, known.desk-below, known.desks-to)
      each (suc (suc (suc (suc (suc zero))))) = omega (arith, known.cell-to)
      each (suc (suc (suc (suc (suc (suc zero)))))) = ok.sized.word_fits
      each (suc (suc (suc (suc (suc (suc (suc k))))))) =
          elim (dec_lt k 8) [
            | yes h ↦ (rw (get_or-replicate {A = ℕ} 8 k 4 0 h) (ok.sized.numbers_fit k))
            | no h ↦ (rw (
              get_or-eq_default m.clock.n 0 {n = k} (omega (arith, ok.sized.eight)),
              get_or-eq_default {A = ℕ} (replicate 8 4) 0 {n = k} (omega arith),
            ) (omega arith))
          ]

  unsent : (j : ℕ) → carried m.kind m.desks ≤ j → get_or (m.word ∷ m.clock.n) j 0 ≡ 0
  unfolding well_formed
  unsent j h =
      elim (dec_lt j 9) [
        | yes i ↦ (not_carried _ _ _ h (every-map_at (carried_or_zero (carried m.kind m.desks)) (m.word ∷ m.clock.n) 0
            ok.clean j (omega (arith, ok.sized.eight))))
        | no i ↦ get_or-eq_default (m.word ∷ m.clock.n) 0 {n = j} (omega (arith, ok.sized.eight))
      ]

  zero-past : (k : ℕ) → parts m.kind m.desks ≤ k → get_or (row_of m) k 0 ≡ 0
  unfolding row_of
  zero-past zero h = absurd (omega arith)
  zero-past (suc zero) h = absurd (omega arith)
  zero-past (suc (suc zero)) h = absurd (omega arith)
  zero-past (suc (suc (suc zero))) h = absurd (omega arith)
  zero-past (suc (suc (suc (suc zero)))) h = absurd (omega arith)
  zero-past (suc (suc (suc (suc (suc zero))))) h = absurd (omega arith)
  zero-past (suc (suc (suc (suc (suc (suc j)))))) h = unsent j (omega arith)

  -- read from its frame alone, it is the same row
  row_back : row_in (frame_of m) ≡ row_of m
  unfolding frame_of
  row_back = numbers-spell (parts m.kind m.desks) widths (row_of m) [] 0 refl row_fits zero-past

  pub frame-length : length (frame_of m) ≡ 2 + length_of m.kind m.desks
  unfolding frame_of row_of
  frame-length =
      length-spell (take (parts m.kind m.desks) widths) (row_of m) (omega (
        arith,
        length-take (parts m.kind m.desks) widths,
        row_fits.as_many,
      ))
      ∙ counted m.kind m.desks

-- the numbers of the head do not look past it
module _ (u : ℕ) (s : List ℕ) (h : 7 ≤ u) where
  length-kept : length_in (take u s) ≡ length_in s
  unfolding numbers
  length-kept = ap numeral (part-take 0 2 u s (omega arith))

  version-kept : version_in (take u s) ≡ version_in s
  unfolding numbers
  version-kept = ap numeral (part-take 2 1 u s (omega arith))

  kind-kept : (message_in (take u s)).kind ≡ (message_in s).kind
  unfolding numbers message_of
  kind-kept = ap numeral (part-take 3 1 u s (omega arith))

  desks-kept : (message_in (take u s)).desks ≡ (message_in s).desks
  unfolding numbers message_of
  desks-kept = ap numeral (part-take 4 1 u s (omega arith))

  fault-kept : fault_in (message_in (take u s)) ≡ fault_in (message_in s)
  unfolding numbers message_of
  fault-kept =
      rw (
        ap numeral (part-take 3 1 u s (omega arith)),
        ap numeral (part-take 4 1 u s (omega arith)),
        ap numeral (part-take 5 1 u s (omega arith)),
        ap numeral (part-take 6 1 u s (omega arith)),
      )

-- ---- written, then read
module _ (m : Message) (ok : Sendable m) where
  message-back : message_in (frame_of m) ≡ m
  unfolding message_of row_of
  message-back = ap message_of (row_back m ok)

  module _ (rest : List ℕ) where
    first : take (2 + length_of m.kind m.desks) (frame_of m ++ rest) ≡ frame_of m
    first = take_at (frame_of m) rest (2 + length_of m.kind m.desks) (frame-length m ok)

    headed : 5 ≤ length_of m.kind m.desks
    headed = omega (arith, called (known m ok) refl)

    length_back : length_in (frame_of m ++ rest) ≡ length_of m.kind m.desks
    unfolding row_of
    length_back =
        sym (length-kept (2 + length_of m.kind m.desks) (frame_of m ++ rest) (omega (arith, headed)))
        ∙ ap length_in first
        ∙ ap (λ (r : List ℕ). get_or r 0 0) (row_back m ok)

    version-back : version_in (frame_of m ++ rest) ≡ version
    unfolding row_of
    version-back =
        sym (version-kept (2 + length_of m.kind m.desks) (frame_of m ++ rest) (omega (arith, headed)))
        ∙ ap version_in first
        ∙ ap (λ (r : List ℕ). get_or r 1 0) (row_back m ok)

    whole : Whole (frame_of m ++ rest)
    whole =
        record {
          begun = omega (arith, long, headed);
          there = omega (arith, long, length_back);
          headed = omega (arith, headed, length_back);
          ours = version-back;
        }
      where
        long : 2 + length_of m.kind m.desks ≤ length (frame_of m ++ rest)
        long = omega (arith, length-append (frame_of m) rest, frame-length m ok)

    code-back : read_code (frame_of m ++ rest) ≡ 0
    code-back =
        can-read (frame_of m ++ rest) whole
        (sym (fault-kept u (frame_of m ++ rest) seven) ∙ ap (λ (f : List ℕ). fault_in (message_in f)) first ∙ ap fault_in message-back
        ∙ ok.no-fault)
        (length_back ∙ ap₂ length_of (sym kind-back) (sym desks-back))
      where
        u : ℕ
        u = 2 + length_of m.kind m.desks

        seven : 7 ≤ u
        seven = omega (arith, headed)

        kind-back : (message_in (frame_of m ++ rest)).kind ≡ m.kind
        kind-back = sym (kind-kept u (frame_of m ++ rest) seven) ∙ ap (λ (f : List ℕ). (message_in f).kind) first
            ∙ ap (λ (x : Message). x.kind) message-back

        desks-back : (message_in (frame_of m ++ rest)).desks ≡ m.desks
        desks-back = sym (desks-kept u (frame_of m ++ rest) seven) ∙ ap (λ (f : List ℕ). (message_in f).desks) first
            ∙ ap (λ (x : Message). x.desks) message-back

    -- a message's frame, with any bytes after it, is read as that message, and as long as it is
    pub read-frame : read_rule (frame_of m ++ rest) ≡ record { code = 0; message = m; used = length (frame_of m) }
    read-frame =
        read-accepted (frame_of m ++ rest) code-back
        ∙ (λ i.
        record {
          code = 0;
          message = (ap (λ (n : ℕ). message_in (take (2 + n) (frame_of m ++ rest))) length_back ∙ ap message_in first ∙ message-back) i;
          used = (ap (λ (n : ℕ). 2 + n) length_back ∙ sym (frame-length m ok)) i;
        })

-- writing into enough room and reading it back, with any bytes after it, gives that message and the same count
pub write-then-read : (m : Message) (out : List ℕ) → Sized m → (write_rule m out).code ≡ 0
    → read_rule (output_rule m out) ≡ record { code = 0; message = m; used = (write_rule m out).used }
write-then-read m out sized e =
    let told = write-told m out e in
    let w = writable m (length out) told in
    let ok : Sendable m = record { no-fault = w.no-fault; clean = w.clean; sized = sized } in
    let done = write-accepted m out told in
    ap read_rule done.1
    ∙ read-frame m ok (drop (2 + length_of m.kind m.desks) out)
    ∙ (λ i. record { code = 0; message = m; used = (frame-length m ok ∙ sym (ap (λ (w : Written). w.used) done.0)) i })

-- no two messages share a frame, nor is one's the start of another's
pub no-two-share : (a b : Message) (after-a after-b : List ℕ) → Sendable a → Sendable b
    → frame_of a ++ after-a ≡ frame_of b ++ after-b → a ≡ b
no-two-share a b after-a after-b oka okb e =
    ap (λ (r : Reading). r.message) (sym (read-frame a oka after-a) ∙ ap read_rule e ∙ read-frame b okb after-b)

-- ---- read, then written
module _ (s : List ℕ) (e : read_code s ≡ 0) where
  abbrev there : Message
  there = message_in (take (2 + length_in s) s)

  ready : Accepted s
  ready = accepted s e

  seven : 7 ≤ 2 + length_in s
  seven = omega (arith, ready.whole.headed)

  carried-there : carried there.kind there.desks ≡ carried (message_in s).kind (message_in s).desks
  carried-there = ap₂ carried (kind-kept (2 + length_in s) s seven) (desks-kept (2 + length_in s) s seven)

  length-there : length_of there.kind there.desks ≡ length_in s
  length-there =
      ap₂ length_of (kind-kept (2 + length_in s) s seven) (desks-kept (2 + length_in s) s seven)
      ∙ length-of (message_in s).kind (message_in s).desks ready.known.desks-to
      ∙ sym ready.fitting

  row-there : row_of there ≡ row_in (take (2 + length_in s) s)
  unfolding row_of message_of numbers
  row-there =
      ap₂ (λ (l v : ℕ). l ∷ v ∷ drop 2 (row_in (take (2 + length_in s) s)))
      (length-there ∙ sym (length-kept (2 + length_in s) s seven))
      (sym (version-kept (2 + length_in s) s seven ∙ ready.whole.ours))

  -- the frame of what was read is what it was read from
  frame-there : Bytes s → frame_of there ≡ take (2 + length_in s) s
  unfolding frame_of
  frame-there b =
      ap (spell (take (parts there.kind there.desks) widths)) row-there
      ∙ spell-numbers (parts there.kind there.desks) widths (take (2 + length_in s) s) 0 (bytes-part (2 + length_in s) 0 s b)
      (omega (arith, size, length-take-le (2 + length_in s) s ready.whole.there))
      ∙ ap (λ (n : ℕ). take n (take (2 + length_in s) s)) size
      ∙ take-take (2 + length_in s) (2 + length_in s) s (omega arith)
    where
      size : sum (take (parts there.kind there.desks) widths) ≡ 2 + length_in s
      size = counted there.kind there.desks ∙ ap (λ (n : ℕ). 2 + n) length-there

  unsent-there : (k : ℕ) → k < 9 → carried there.kind there.desks ≤ k
      → get_or (numbers (replicate 9 4) 7 (take (2 + length_in s) s)) k 0 ≡ 0
  unsent-there k i h =
      four-at 9 7 k (take (2 + length_in s) s) i
      ∙ ap (λ (u : ℕ). numeral (take 4 (drop (7 + 4 * k) (take u s)))) ends
      ∙ number_past (carried there.kind there.desks) k s h
    where
      ends : 2 + length_in s ≡ 7 + 4 * carried there.kind there.desks
      ends = omega (arith, ready.fitting, carried-there)

  clean-there : well_formed there ≡ true
  unfolding well_formed message_of numbers
  clean-there =
      map_at-every (carried_or_zero (carried there.kind there.desks)) (numbers (replicate 9 4) 7 (take (2 + length_in s) s)) 0
      (λ k h. carried-or-zero (carried there.kind there.desks) k _ (unsent-there k h))

  no-fault-there : fault_in there ≡ 0
  no-fault-there = fault-kept (2 + length_in s) s seven ∙ ready.no-fault

-- reading a frame and writing what was read gives back those bytes
pub read-then-write : (s out : List ℕ) → Bytes s → (read_rule s).code ≡ 0 → (read_rule s).used ≤ length out
    → (write_rule (read_rule s).message out ≡ record { code = 0; used = (read_rule s).used })
    × (output_rule (read_rule s).message out ≡ take (read_rule s).used s ++ drop (read_rule s).used out)
read-then-write s out b told room =
    let e = read_told s told in
    let fits : 2 + length_in s ≤ length out = rw (read-accepted s e) at room in
    let same = ap (λ (n : ℕ). 2 + n) (length-there s e) in
    let done = write-accepted (there s e) out (can_write (there s e) (length out) (no-fault-there s e) (clean-there s e) (omega
    (arith, same))) in
    rw (read-accepted s e)
    (done.0 ∙ (λ i. record { code = 0; used = same i }), done.1 ∙ ap₂ (λ (f : List ℕ) (n : ℕ). f ++ drop n out) (frame-there s e b) same)

-- each message has exactly one frame: whatever bytes are read as it are its frame
pub one-frame : (s : List ℕ) (m : Message) (used : ℕ) → Bytes s → read_rule s ≡ record { code = 0; message = m; used = used }
    → take used s ≡ frame_of m
one-frame s m used b r =
    let e = read_told s (ap (λ (x : Reading). x.code) r) in
    let told = sym (read-accepted s e) ∙ r in
    ap (λ (x : Reading). take x.used s) (sym told) ∙ sym (frame-there s e b) ∙ ap (λ (x : Reading). frame_of x.message) told
