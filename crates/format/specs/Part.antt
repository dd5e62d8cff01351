-- Span parts and spans by their words: "file, ast id, context, start, length".
use Rattle.std.specs.Prelude.{ℕ, ◌+◌, ◌*◌, Bool, ◌&&◌, List, [], ◌∷◌, ◌++◌, get_or, eqb}
use Rattle.format.specs.Width.{part_size}
use Rattle.format.specs.Span.{Span}

-- "A span part is file, ast id and context"
pub record Part : Type 0 where
  pub file : ℕ
  pub ast : ℕ
  pub context : ℕ

abbrev pub part_words : Part → List ℕ
part_words p = p.file ∷ p.ast ∷ p.context ∷ []

-- the part whose words begin at j
abbrev pub part_from : (ℕ → ℕ) → ℕ → Part
part_from w j = record { file = w j; ast = w (j + 1); context = w (j + 2) }

abbrev pub same_part : Part → Part → Bool
same_part p q = eqb p.file q.file && eqb p.ast q.ast && eqb p.context q.context

-- entry i of a part table
abbrev pub part_at : List ℕ → ℕ → Part
part_at t i = part_from (λ j. get_or t j 0) (part_size * i)

-- ---- a span by its list words

pub record WordSpan : Type 0 where
  pub part : Part
  pub start : ℕ
  pub len : ℕ

abbrev pub span_list : WordSpan → List ℕ
span_list s = part_words s.part ++ s.start ∷ s.len ∷ []

-- the span whose words begin at j
abbrev pub span_from : (ℕ → ℕ) → ℕ → WordSpan
span_from w j = record { part = part_from w j; start = w (j + part_size); len = w (j + part_size + 1) }

-- "zero in a leaf"
abbrev pub no_span : WordSpan
no_span = record { part = record { file = 0; ast = 0; context = 0 }; start = 0; len = 0 }

abbrev pub same_span : WordSpan → WordSpan → Bool
same_span s t = same_part s.part t.part && eqb s.start t.start && eqb s.len t.len

-- a span by its words as it is packed, with the index of its part
abbrev pub indexed : ℕ → WordSpan → Span
indexed i s = record { index = i; start = s.start; len = s.len }
