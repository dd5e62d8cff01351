-- Answers of `tidy` for a host: a number, and one more in a lent array.
use Rattle.std.specs.Prelude.{ℕ, List, [], ◌∷◌, length}
use Rattle.format.specs.Tidy.{tidy_report}
use Rattle.tree.specs.Refusal.{report_answer}
use Rattle.tidy.specs.Tidied.{Contents}
use Rattle.store.specs.Told.{Told}

-- the byte length
abbrev pub size_list : ℕ → List ℕ
size_list bytes = bytes ∷ []

-- as `tidy` answers, and leaves what is lent
module _ (b : List ℕ) (k : ℕ) (parts symbols a c d x : List ℕ) where
  pub record TidyTold (r : ℕ) (told' a' d' x' : List ℕ) : Type 0 where
    pub answer : Told size_list 0 (report_answer (tidy_report b k parts symbols (length a) (length c) (length d) x)) r told'
    pub runs : Contents b k parts symbols a c d x a' d' x'
