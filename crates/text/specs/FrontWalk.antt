-- Laws for a program that walks through its input from line to line: what the answer is from a text on, by what is read at its front.
-- Assumes nothing.
use Rattle.std.specs.Prelude.{◌≡◌, List, ◌++◌, ℕ, suc, ◌-◌, ◌≤◌, ◌<◌, length, get_or, replicate, Some}
use Rattle.std.proofs.Common.{◌∙◌}
use Rattle.std.proofs.Math.Path.{ap}
use Rattle.std.proofs.Math.Option.{none, some, Option-elim}
use borrow.Author.Tests.{lt-ltb, le-leb}
use Rattle.text.specs.Line.{lines_of, line_of, bad_line}
use Rattle.text.specs.Lines.{lines-some}
use Rattle.text.specs.Front.{front_line}
use Rattle.text.specs.Script.{first, having, run, started, sized, begun}
use Rattle.text.specs.Lines.Front.{front-known, front-counted, front-others, counted}

module _ {Table : Type 0} (set_up : ℕ → ℕ → List ℕ → ℕ × Table) (event : Table → List ℕ → List ℕ × Table) (text : List ℕ) where
  -- ---- a line that is malformed, or has another count
  pub begun-bad : having 2 (first (lines_of text)) ≡ none → begun set_up event (lines_of text) ≡ bad_line 1
  unfolding begun Option-elim
  begun-bad e = rw e

  pub sized-bad : (desks cells : ℕ) → 0 < cells → cells ≤ 32 → having cells (first (lines_of text)) ≡ none
      → sized set_up event desks cells (lines_of text) ≡ bad_line 2
  unfolding sized Option-elim
  sized-bad desks cells some-cell few e = rw (lt-ltb 0 cells some-cell, le-leb cells 32 few, e)

  pub ran-bad : (t : Table) (n : ℕ) → 0 < length text → having 4 (first (lines_of text)) ≡ none → run set_up event t n (lines_of text) ≡ bad_line n
  unfolding run Option-elim
  ran-bad t n h e = ap (run set_up event t n) (lines-some text 0 h) ∙ rw e

  -- ---- a line that was read
  module _ {ns rest : List ℕ} (read : front_line text ≡ some (Some ns, rest)) where
    pub begun-front : length ns ≡ 2 → begun set_up event (lines_of text) ≡ sized set_up event (get_or ns 0 0) (get_or ns 1 0) (lines_of rest)
    unfolding begun Option-elim
    begun-front two = rw (front-counted text read 2 two, front-others text read 2)

    pub sized-front : (desks cells : ℕ) → 0 < cells → cells ≤ 32 → length ns ≡ cells
        → sized set_up event desks cells (lines_of text)
        ≡ started set_up event (set_up desks cells (ns ++ replicate (32 - cells) 0)) (lines_of rest)
    unfolding sized Option-elim
    sized-front desks cells some-cell few e =
        rw (lt-ltb 0 cells some-cell, le-leb cells 32 few, front-counted text read cells e, front-others text read cells)

    pub ran-front : (t : Table) (n : ℕ) → length ns ≡ 4
        → run set_up event t n (lines_of text) ≡ line_of (event t ns).0 ++ run set_up event (event t ns).1 (suc n) (lines_of rest)
    unfolding run Option-elim
    ran-front t n e = ap (run set_up event t n) (front-known text ns rest read).lines ∙ rw (counted 4 ns e)
