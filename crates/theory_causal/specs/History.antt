-- What a history is, and its causal order (document 002, chapter 3).
-- Assumes nothing.
use Rattle.std.specs.Prelude.{◌≡◌, List, ℕ, ◌<◌, get_or}

-- An operation is named by the step of the run at which it was done: a read by the one that finished it, a write by the one at which
-- its keeper stored it. A quiet step does neither.
pub data Kind : Type 0 where
  quiet write read : Kind
  deriving Discrete as Kind-discrete

-- Where a read's word comes from: from no write, or from the one stored at a step.
pub data Source : Type 0 where
  blank : Source
  from : ℕ → Source

-- What a word is, and the one that stands where none was written. Nothing here asks more of words.
pub record Words : Type 1 where
  pub Word : Type 0
  pub no_word : Word

pub record Step (W : Words) : Type 0 where
  pub kind : Kind
  pub desk : ℕ
  pub cell : ℕ
  -- the word written or shown
  pub word : W.Word
  -- of a read
  pub source : Source
  -- the step at which the desk asked for it
  pub asked : ℕ

abbrev pub History : Words → Type 0
History W = ℕ → Step W

module _ {W : Words} where
  abbrev pub nothing : Step W
  nothing = record { kind = quiet; desk = 0; cell = 0; word = W.no_word; source = blank; asked = 0 }

  abbrev pub wrote : (desk cell : ℕ) → W.Word → (asked : ℕ) → Step W
  wrote p c w a = record { kind = write; desk = p; cell = c; word = w; source = blank; asked = a }

  abbrev pub showed : (desk cell : ℕ) → W.Word → Source → (asked : ℕ) → Step W
  showed p c w s a = record { kind = read; desk = p; cell = c; word = w; source = s; asked = a }

  -- Nothing happens past the end of a list.
  abbrev pub listed : List (Step W) → History W
  listed l x = get_or l x nothing

module _ {W : Words} (H : History W) where
  -- a finished read or a stored write
  abbrev pub Operation : ℕ → Type 0
  Operation x = ((H x).kind ≡ quiet) → ⊥

  abbrev pub Writes : (cell : ℕ) → ℕ → Type 0
  Writes c x = ((H x).kind ≡ write) × ((H x).cell ≡ c)

  abbrev pub ReadBy : (desk : ℕ) → ℕ → Type 0
  ReadBy p x = ((H x).kind ≡ read) × ((H x).desk ≡ p)

  -- the word that a source stands for
  unfoldable pub word_of : Source → W.Word
  word_of blank = W.no_word
  word_of (from w) = (H w).word

  -- One desk's operations in the order it asked them, a write before each read that shows it, and chains of these.
  pub data Causal : ℕ → ℕ → Type 0 where
    same-desk : {x y : ℕ} → Operation x → Operation y → (H x).desk ≡ (H y).desk → (H x).asked < (H y).asked → Causal x y
    shown : {w x : ℕ} → (H w).kind ≡ write → (H x).kind ≡ read → (H x).source ≡ from w → Causal w x
    chain : {x y z : ℕ} → Causal x y → Causal y z → Causal x z
