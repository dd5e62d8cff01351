-- Answers for a host: a number, and more of them in a lent array.
use Rattle.std.specs.Prelude.{ℕ, ◌≡◌, List, [], ◌∷◌, length, replicate, Result, Ok, Err}
use Rattle.format.specs.Replace.{replace_report}
use Rattle.tree.specs.declared.refusal.Refusal.{Refusal}
use Rattle.replace.specs.Report.{replace_answer}
use Rattle.replace.specs.Replaced.{Contents}
use Rattle.replace.specs.declared.report.Sizes.{Sizes}

-- 0, or the refusal's number
abbrev pub number_of : {A : Type 0} → Result A Refusal → ℕ
number_of (Ok x) = 0
number_of (Err x) = x.number

-- the numbers told, or the refusal's tree and so many zeros
abbrev pub told_of : {A : Type 0} → (A → List ℕ) → ℕ → Result A Refusal → List ℕ
told_of numbers blanks (Ok x) = numbers x
told_of numbers blanks (Err x) = x.tree ∷ replicate blanks 0

pub record Told {A : Type 0} (numbers : A → List ℕ) (blanks : ℕ) (report : Result A Refusal) (r : ℕ) (told' : List ℕ) : Type 0 where
  pub number : r ≡ number_of report
  pub more : told' ≡ told_of numbers blanks report

-- bytes, parts and symbols
abbrev pub sizes_list : Sizes → List ℕ
sizes_list s = s.bytes ∷ s.parts ∷ s.symbols ∷ []

-- as `set_token` answers, and leaves what is lent
module _ (b : List ℕ) (k : ℕ) (parts symbols : List ℕ) (n : ℕ) (w a c d x y z : List ℕ) where
  pub record SetTold (r : ℕ) (told' a' c' d' x' y' z' : List ℕ) : Type 0 where
    pub answer : Told sizes_list 2 (replace_answer (replace_report b k parts symbols n w (length a) (length c) (length d) x y z)) r told'
    pub runs : Contents b k parts symbols n w a c d x y z a' c' d' x' y' z'
