-- Answer and contents of `set_token`, for every input.
use Rattle.std.specs.Prelude.{ℕ, ◌≡◌, List, length, Result}
use Rattle.format.specs.Replace.{replace_report, bytes_out, parts_out, symbols_out}
use Rattle.tree.specs.declared.refusal.Refusal.{Refusal}
use Rattle.replace.specs.Report.{replace_answer}
use Rattle.replace.specs.Left.{Left}
use Rattle.replace.specs.declared.report.Sizes.{Sizes}

-- of a buffer b of k trees with its tables, a tree number n and the words w of a leaf; the work words a, c, d; the outputs x, y, z
module _ (b : List ℕ) (k : ℕ) (parts symbols : List ℕ) (n : ℕ) (w : List ℕ) (a c d x y z : List ℕ) where
  -- what is lent holds then
  pub record Contents (a' c' d' x' y' z' : List ℕ) : Type 0 where
    pub bytes : x' ≡ bytes_out b k parts symbols n w (length a) (length c) (length d) x y z
    pub part_words : y' ≡ parts_out b k parts symbols n w (length a) (length c) (length d) x y z
    pub symbol_words : z' ≡ symbols_out b k parts symbols n w (length a) (length c) (length d) x y z
    pub left : Left b k parts symbols n w a c d a' c' d'

  pub record Replaced (r : Result Sizes Refusal) (a' c' d' x' y' z' : List ℕ) : Type 0 where
    pub answer : r ≡ replace_answer (replace_report b k parts symbols n w (length a) (length c) (length d) x y z)
    pub runs : Contents a' c' d' x' y' z'
