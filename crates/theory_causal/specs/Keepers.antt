-- The machine as a table shows it: rows and keepers. What was stored last in a cell is what its keeper holds.
-- It gives the parts of a move from what a rule says of each row and each cell.
-- Assumes nothing.
use Rattle.std.specs.Prelude.{◌≡◌, Bool, ◌≢◌, ℕ}
use Rattle.std.proofs.Common.{sym, ap, subst, ◌∙◌, inl, inr, arith}
use Rattle.std.proofs.Math.Decide.{ℕ_discrete}
use Rattle.theory_causal.specs.History.{Words}
use Rattle.theory_causal.specs.Facts.{Clock}
use Rattle.theory_causal.specs.Machine.{Earlier, Held, Cell, gone, held, Desk, State, unwritten, Was, Spared, storing, Named, Brings}
use Rattle.theory_causal.specs.Machine.{Changes, Stores}

abbrev pub contents : {W : Words} → Cell W → Held W
contents gone = unwritten
contents (held g) = g

module _ {W : Words} (keeper : ℕ → ℕ) where
  abbrev pub table : (ℕ → Desk W) → State W
  table rows = record { desks = rows; last = λ c. contents ((rows (keeper c)).cells c) }

  -- What becomes of cell b at desk p, which learned a clock: its own cells stay, a copy is lost, or stays if it is not strictly before.
  module _ (rows : ℕ → Desk W) (p : ℕ) (a : Clock) (new : ℕ → Cell W) where
    pub data Fate (b : ℕ) : Type 0 where
      kept : keeper b ≡ p → new b ≡ (rows p).cells b → Fate b
      lost : keeper b ≢ p → new b ≡ gone → Fate b
      stays : keeper b ≢ p → new b ≡ (rows p).cells b → ((g : Held W) → (rows p).cells b ≡ held g → Earlier g.stamp a → ⊥) → Fate b

    pub fate-was : (b : ℕ) → Fate b → Was (rows p).cells new b
    fate-was b (kept k e) g h = sym e ∙ h
    fate-was b (lost k e) g h = let z : ◌≡◌ {A = ℕ} 0 1 = cc in absurd (omega arith)
    fate-was b (stays k e late) g h = sym e ∙ h

    pub fate-spared : (b : ℕ) → Fate b → Spared (table rows).last a new b
    fate-spared b (kept k e) g h = inr (sym (ap (λ (q : ℕ). contents ((rows q).cells b)) k ∙ ap contents (sym e ∙ h)))
    fate-spared b (lost k e) g h = let z : ◌≡◌ {A = ℕ} 0 1 = cc in absurd (omega arith)
    fate-spared b (stays k e late) g h = inl (late g (sym e ∙ h))

    pub fate-kept : (b : ℕ) → Fate b → keeper b ≡ p → new b ≡ (rows p).cells b
    fate-kept b (kept k e) i = e
    fate-kept b (lost k e) i = absurd (k i)
    fate-kept b (stays k e late) i = e

    -- an answer for cell c, which p does not keep, is brought
    pub kept-cells : (c : ℕ) → keeper c ≢ p → ((b : ℕ) → b ≢ c → Fate b) → (b : ℕ) → keeper b ≡ p → new b ≡ (rows p).cells b
    kept-cells c ne fate b i =
        elim (ℕ_discrete b c) [ yes e ↦ absurd (ne (ap keeper (sym e) ∙ i)) | no nc ↦ fate-kept b (fate b nc) i ]

  pub brings : (rows : ℕ → Desk W) (p c : ℕ) (g : Held W) (new : ℕ → Cell W) → ((b : ℕ) → b ≢ c → Fate rows p g.stamp new b)
      → Named (rows p) c g new → Brings (table rows).last (rows p) c g new
  brings rows p c g new fate named = record {
    was = λ b ne. fate-was rows p g.stamp new b (fate b ne);
    spared = λ b ne. fate-spared rows p g.stamp new b (fate b ne);
    named = named;
  }

  module _ (rows rows' : ℕ → Desk W) where
    -- what stands last in a cell whose keeper's cell is as it was
    same-last : (b : ℕ) {q : ℕ} → keeper b ≡ q → (rows' q).cells b ≡ (rows q).cells b → (table rows').last b ≡ (table rows).last b
    same-last b k e = subst (λ (z : ℕ). contents ((rows' z).cells b) ≡ contents ((rows z).cells b)) (sym k) (ap contents e)

    -- only desk p's row changes, and not the cells that p keeps
    pub changes : (p : ℕ) {d : Desk W} → rows' p ≡ d → ((q : ℕ) → q ≢ p → rows' q ≡ rows q)
        → ((b : ℕ) → keeper b ≡ p → d.cells b ≡ (rows p).cells b) → Changes (table rows) (table rows') p d
    changes p row rest same = record {
      row = row;
      rest = rest;
      last = λ c.
          elim (ℕ_discrete (keeper c) p) [
            | yes i ↦ same-last c i (ap (λ (d : Desk W). d.cells c) row ∙ same c i)
            | no ne ↦ ap (λ (d : Desk W). contents (d.cells c)) (rest (keeper c) ne)
          ];
    }

    -- keeper k stores g in its cell c; other desks' cells are as they were
    pub stores : (k c : ℕ) (g : Held W) (a : Clock) (new : ℕ → Cell W) (on : Bool) → keeper c ≡ k
        → (old : Held W) → (rows k).cells c ≡ held old → new c ≡ held g → ((b : ℕ) → b ≢ c → Fate rows k a new b)
        → rows' k ≡ storing (rows k) g new on → ((q : ℕ) → q ≢ k → (rows' q).cells ≡ (rows q).cells)
        → Stores (table rows) (table rows') k c g a new on
    stores k c g a new on mine old had holds fate row rest = record {
      keeps = had ∙ ap held (sym (ap (λ (q : ℕ). contents ((rows q).cells c)) mine ∙ ap contents had));
      holds = holds;
      was = λ b ne. fate-was rows k a new b (fate b ne);
      spared = λ b ne. fate-spared rows k a new b (fate b ne);
      row = row;
      last = ap (λ (q : ℕ). contents ((rows' q).cells c)) mine ∙ ap (λ (d : Desk W). contents (d.cells c)) row ∙ ap contents holds;
      lasts = λ b ne.
          elim (ℕ_discrete (keeper b) k) [
            | yes i ↦ same-last b i (ap (λ (d : Desk W). d.cells b) row ∙ fate-kept rows k a new b (fate b ne) i)
            | no nk ↦ ap (λ (cells : ℕ → Cell W). contents (cells b)) (rest (keeper b) nk)
          ];
    }
