-- Row 1 as an answer: a buffer with its tables, or the refusal.
use Rattle.std.specs.Prelude.{ℕ, true, false, ◌≡◌, List, Result, MatchResult}
use Rattle.format.specs.Tables.{own_mode}
use Rattle.tree.specs.Tables.{mode_in}
use Rattle.tree.specs.declared.refusal.Refusal.{Refusal}
use Rattle.walk.specs.Source.{sizes}
use Rattle.walk.specs.declared.buffer.Buffer.{Buffer}

pub record Silent (b : List ℕ) (k : ℕ) (parts symbols : List ℕ) (B : Buffer) : Type 0 where
  pub sizes : sizes k parts symbols ≡ true
  pub bytes : B.bytes.now ≡ b
  pub trees : B.trees ≡ k
  pub mode : mode_in B.tables ≡ own_mode parts symbols

pub record Speaks (k : ℕ) (parts symbols : List ℕ) (r : Refusal) : Type 0 where
  pub sizes : sizes k parts symbols ≡ false
  pub refusal : r ≡ record { number = 1; tree = 0 }

abbrev pub RowOne : List ℕ → ℕ → List ℕ → List ℕ → Result Buffer Refusal → Type 0
RowOne b k parts symbols r = MatchResult r (Silent b k parts symbols) (Speaks k parts symbols)
