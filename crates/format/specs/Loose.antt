-- "Report spans that are longer than needed" (document 02): what reading a span and a tree says beside them. The list does not carry it.
use Rattle.std.specs.Prelude.{ℕ, zero, suc, ◌+◌, ◌-◌, ◌/◌, ◌%◌, Bool, false, List, length, ltb, eqb, if◌then◌else◌}
use Rattle.format.specs.Word.{byte_at}
use Rattle.format.specs.Span.{Span, SpanRead, span, span_at}
use Rattle.format.specs.Write.{span_bytes}
use Rattle.format.specs.Reader.{Shape, Reader, Reply, got, bad}

-- ---- a span

-- "whether the form met was the smallest one for the values stored": span s, read from p to q, is loose if the writer takes fewer bytes for its three numbers.
-- The extra bits fit every form
abbrev pub is_loose : ℕ → Span → ℕ → Bool
is_loose p s q = ltb (p + length (span_bytes 0 s)) q

-- what stands at p
abbrev pub loose_read : ℕ → SpanRead → Bool
loose_read p (span extra s q) = is_loose p s q
loose_read p SpanRead.short = false

-- ---- a tree

pub record Loose : Type 0 where
  -- its span, of a subtree the open one; the close span
  pub opening : Bool
  pub closing : Bool
  -- how many of the spans that it stores are loose
  pub spans : ℕ

abbrev pub bit : Bool → ℕ
bit x = if x then 1 else 0

-- a leaf, which has no close span
abbrev pub loose_leaf : Bool → Loose
loose_leaf x = record { opening = x; closing = false; spans = bit x }

-- "a close span without bytes of its own with its opening one's report"
abbrev pub loose_shared : Bool → Loose
loose_shared x = record { opening = x; closing = x; spans = bit x }

-- both spans with bytes of their own
abbrev pub loose_both : Bool → Bool → Loose
loose_both x y = record { opening = x; closing = y; spans = bit x + bit y }

module _ (b : List ℕ) where
  -- x is the first span's report, c the control byte, which stands at q: 101 has a close span; 000, 001 and 010 have none
  unfoldable pub loose_by : Bool → ℕ → ℕ → Loose
  loose_by x q c =
      if eqb (c % 8) 5 then loose_both x (loose_read (q + 1) (span_at b (q + 1))) else
      (if ltb (c % 8) 3 then loose_shared x else
      loose_leaf x)

  -- extra bits as in `after_span`: a control byte follows if neither is set
  unfoldable pub loose_after : ℕ → SpanRead → Loose
  loose_after p (span extra s q) =
      if eqb (extra % 2) 1 then loose_leaf (is_loose p s q) else
      (if eqb (extra / 2) 1 then loose_leaf (is_loose p s q) else
      loose_by (is_loose p s q) q (byte_at b q))
  loose_after p SpanRead.short = loose_leaf false

  unfoldable pub loose_at : ℕ → Loose
  loose_at p = loose_after p (span_at b p)

  -- "the number of longer spans stored": in the j trees from tree n on, by where each begins
  unfoldable pub loose_from : (ℕ → ℕ) → ℕ → ℕ → ℕ
  loose_from place zero n = 0
  loose_from place (suc j) n = (loose_at (place n)).spans + loose_from place j (n + 1)

  -- ".. below the root, close spans of 101 included .. The root is always heavy and never counted."
  abbrev pub loose_below : (ℕ → ℕ) → ℕ → ℕ
  loose_below place k = loose_from place (k - 1) 1

-- ---- "In the walk rule this report, like the byte place, is that of the bytes from which the definition reads the tree": trees in pairs with their report

module _ {Tree : Type 0} where
  abbrev pub beside : Loose → Reply Tree → Reply (Tree × Loose)
  beside x (got t next kids) = got (t, x) next kids
  beside x (bad r) = bad r

  abbrev pub reported_shape : Shape Tree → Shape (Tree × Loose)
  reported_shape S = record { is_sub = λ t. S.is_sub t.0; count = λ t. S.count t.0; blank = (S.blank, loose_leaf false) }

  -- by the report of each place
  abbrev pub reported : (ℕ → Loose) → Reader Tree → Reader (Tree × Loose)
  reported f R = record { sized = R.sized; trees = R.trees; bytes = R.bytes; read = λ n p. beside (f p) (R.read n p) }
