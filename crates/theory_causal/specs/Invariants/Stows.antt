-- A step that stores a write: what it makes true at the keeper, at the writer and everywhere else.
-- Assumes nothing.
use Rattle.std.specs.Prelude.{◌≡◌, Bool, ◌≢◌}
use Rattle.std.proofs.Common.{sym, ap, subst, subst₂, ◌∙◌, arith}
use Prim.Native.Nat.{ℕ, ◌≤◌, ◌<◌}
use Rattle.std.proofs.Math.Decide.{dec_lt, ℕ_discrete}
use Rattle.theory_causal.specs.History.{Words, Source, blank, from, Step, wrote, Operation, Writes, word_of}
use Rattle.theory_causal.specs.Facts.{Clock, ◌≼◌, stamp_of, Stored, After, Fresh, Told, writing}
use Rattle.theory_causal.specs.Machine.{Held, Cell, held, write-answered, State, stored, answered, Stores}
use Rattle.theory_causal.specs.Invariants.{Moment, Genuine, Last, Copy, Good, Shelf, Level, Sent, Answer, Slotted, Fine, Inv}
use Rattle.theory_causal.specs.Invariants.Learned.{merged-up}
use Rattle.theory_causal.specs.Invariants.Passing.{taught, taught-self, taught-grows, later, closed-next, fresh-next, genuine-next}
use Rattle.theory_causal.specs.Invariants.Passing.{last-next, Passes, shelf-next}
use Rattle.theory_causal.specs.Invariants.Steps.{tell, others-fine, does}

-- ---- what was stored before in a cell is known to what stands last in it
module _ {W : Words} {M : Moment W} {S : State W} (I : Inv M S) (c : ℕ) where
  open M use {history as H, know, now as t, own}

  known-source : (s : Source) → Stored H t c s → ((x : ℕ) → x < t → Writes H c x → After s x → ⊥)
      → (y : ℕ) → y < t → Writes H c y → know y ≼ stamp_of know s
  unfolding Stored stamp_of After
  known-source blank h top y lt i = absurd (top y lt i tt)
  known-source (from v) h top y lt i =
      elim (dec_lt v y) [
        | yes l ↦ absurd (top y lt i l)
        | no ge ↦ elim (ℕ_discrete y v) [
          | yes s ↦ λ j. rw s (omega arith)
          | no ne ↦ (I.told v h.0 (writing H h.1.0)).climbs c h.1 y (omega arith) i
        ]
      ]

  known-last : (y : ℕ) → y < t → Writes H c y → know y ≼ (S.last c).stamp
  known-last y lt i = let l = I.lasts c in rw l.genuine.stamp (known-source (S.last c).source l.genuine.stored l.top y lt i)

-- Once desk p's write of cell c is stored with stamp n, and the keeper's cells are `new`.
pub record Stowed {W : Words} (M : Moment W) (S S' : State W) (p c : ℕ) (w : W.Word) (n : Clock) (new : ℕ → Cell W) : Type 0 where
  pub shelf : Shelf (later M (taught M.own p n)) n new
  pub level : Level (later M (taught M.own p n)) p n
  pub rest : (q : ℕ) → q ≢ p → Fine (later M (taught M.own p n)) q (S.desks q)
  pub asker : Fine (later M (taught M.own p n)) p (answered (S.desks p) (write-answered c (stored M.now w n)))
  pub done : ((q : ℕ) → Fine (later M (taught M.own p n)) q (S'.desks q)) → Inv (later M (taught M.own p n)) S'

-- Desk k stores desk p's write of word w in cell c, asked at step a; the stamp n is k's new clock.
module _ {W : Words} {M : Moment W} {S : State W} (I : Inv M S) (S' : State W) (k p c : ℕ) (w : W.Word) (a : ℕ) (n : Clock)
    {learned : Clock} {new : ℕ → Cell W} {on : Bool} where
  open M use {history as H, know, now as t, own}

  pub stows : H t ≡ wrote p c w a → know t ≡ taught own p n p → Sent M p n → (S.desks k).clock ≼ n
      → Stores S S' k c (stored t w n) learned new on
      → a ≤ t → ((y : ℕ) → y < t → Operation H y → (H y).desk ≡ p → (H y).asked < a)
      → ((b : ℕ) (g : Held W) → b ≢ c → new b ≡ held g → Fresh H know t b g.source n) → Stowed M S S' p c w n new
  unfolding Slotted Stored stamp_of word_of After
  stows e k-t sent grown st le asks fresh = record {
    shelf = record { good = good; copies = λ b g h. elim (ℕ_discrete b c) [ yes i ↦ same b g i h | no ne ↦ other b g ne h ] };
    level = record { number = rw own-p; seen = λ j. rw own-p (omega arith) };
    rest = others-fine I S' p n by s;
    asker = record { shelf = shelf-next s (I.desks p).shelf; slot = (answer, (λ j. rw own-p (omega arith)), rw own-p) };
    done = λ desks. does I S' p n by s k-t told (rw e le) good desks lasts;
  }
    where
      after : ℕ → Clock
      after = taught own p n

      by : (H t).desk ≡ p
      by = ap (λ (x : Step W). x.desk) e

      of-cell : Writes H c t
      of-cell = (ap (λ (x : Step W). x.kind) e, ap (λ (x : Step W). x.cell) e)

      elsewhere : (b : ℕ) → b ≢ c → Writes H b t → ⊥
      elsewhere b ne i = ne (sym i.1 ∙ of-cell.1)

      own-p : after p ≡ n
      own-p = taught-self own p n ∙ merged-up sent.seen

      stamp : know t ≡ n
      stamp = k-t ∙ own-p

      s : Passes M after
      s = record { up = taught-grows own p n; new = λ i. rw (by, stamp) (omega (arith, sent.number)) }

      good : Good (later M after) n
      good = record {
        closed = closed-next M after n (λ i h j. rw stamp (omega arith)) sent.closed;
        below = λ j.
            elim (ℕ_discrete j p) [
              | yes i ↦ rw (i, own-p) (omega arith)
              | no ne ↦ omega (arith, sent.below j ne, s.up j j)
            ];
      }

      -- what was stored now: nothing is after it
      genuine : Genuine (later M after) c (stored t w n)
      genuine = record { stored = (omega arith, of-cell); stamp = sym stamp; word = sym (ap (λ (x : Step W). x.word) e) }

      last : (b : ℕ) → b ≡ c → Last (later M after) b (S'.last b)
      last b i =
          subst₂ (Last (later M after)) (sym i) (sym (ap S'.last i ∙ st.last))
          record { genuine = genuine; top = λ x lt h f. omega arith }

      lasts : (b : ℕ) → Last (later M after) b (S'.last b)
      lasts b =
          elim (ℕ_discrete b c) [
            | yes i ↦ last b i
            | no ne ↦ subst (Last (later M after) b) (sym (st.lasts b ne)) (last-next M after (elsewhere b ne) (I.lasts b))
          ]

      answer : Answer (later M after) p (S.desks p).clock (S.desks p).served c (stored t w n)
      answer = record { genuine = genuine; fresh = λ x lt i f m. omega arith; still = λ off x lt i f m. omega arith }

      same : (b : ℕ) (g : Held W) → b ≡ c → new b ≡ held g → Copy (later M after) n b g
      same b g i h =
          let holds = st.holds in
          let put : g ≡ stored t w n = cc in
          subst₂ (Copy (later M after) n) (sym i) (sym put)
          record { genuine = genuine; under = λ j. omega arith; fresh = λ x lt y f m. omega arith }

      -- the keeper's other cells
      other : (b : ℕ) (g : Held W) → b ≢ c → new b ≡ held g → Copy (later M after) n b g
      other b g ne h =
          let copy = (I.desks k).shelf.copies b g (st.was b ne g h) in
          record {
            genuine = genuine-next M after copy.genuine;
            under = λ j. omega (arith, copy.under j, grown j);
            fresh = fresh-next M after b g.source n (λ i f. absurd (elsewhere b ne i)) (fresh b g ne h);
          }

      -- the keeper knew what stood last in the cell
      climbs : (y : ℕ) → y < t → Writes H c y → know y ≼ know t
      climbs y lt i j =
          rw stamp (omega (arith, known-last I c y lt i j, ((I.desks k).shelf.copies c (S.last c) st.keeps).under j, grown j))

      told : Told H know t
      told =
          tell I p by (λ j. rw stamp (sent.seen j)) (rw stamp sent.closed) (λ y lt o h. rw e (asks y lt o h))
          (λ i y lt o. rw (by, stamp) (omega (arith, I.past y lt o p, (I.owns (H y).desk).below p, sent.number)))
          (λ b i y lt h. climbs y lt (h.0, h.1 ∙ sym i.1 ∙ of-cell.1))
          (λ r. let z : ◌≡◌ {A = ℕ} 0 1 = cc of-cell.0 in absurd (omega arith))
