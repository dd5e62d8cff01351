-- Spans packed one behind the other, up to the first that is refused. One or two words behind the last span are no span.
use Rattle.std.specs.Prelude.{ℕ, zero, suc, ◌+◌, ◌*◌, ◌-◌, ◌/◌, ◌≡◌, Bool, List, length, get_or}
use Rattle.format.specs.Verdict.{Report, wrote, refusal}
use Rattle.format.specs.Span.{Span}
use Rattle.format.specs.Pack.{span_report, span_packed}

-- index, start and length of a span
abbrev pub span_numbers : ℕ
span_numbers = 3

abbrev pub listed_span : List ℕ → ℕ → Span
listed_span ws j = record { index = get_or ws (span_numbers * j) 0; start = get_or ws (span_numbers * j + 1) 0; len = get_or ws (span_numbers * j + 2) 0 }

-- behind one span: the rest of the list, or its refusal and the run with the spans before it
abbrev pub behind : Report → (ℕ → Report × List ℕ) → List ℕ → Report × List ℕ
behind (wrote n) rest b = rest n
behind (refusal r k) rest b = (refusal r k, b)

-- m spans from number j on, packed at p: a report is the place behind the last
module _ (heavy : Bool) (extra : ℕ) (ws : List ℕ) where
  unfoldable pub packed_from : ℕ → ℕ → List ℕ → ℕ → Report × List ℕ
  packed_from zero j b p = (wrote p, b)
  packed_from (suc m) j b p =
      behind (span_report b p heavy extra (listed_span ws j))
      (λ n. packed_from m (j + 1) (span_packed b p heavy extra (listed_span ws j)) (p + n)) b

-- a refusal's number, out of the way of every length
abbrev pub refused_code : ℕ → ℕ
refused_code r = 9223372036854775808 + r

-- the bytes from a place on, or a refusal by its number
unfoldable pub bytes_code : ℕ → Report → ℕ
bytes_code at (wrote p) = p - at
bytes_code at (refusal r k) = refused_code r

pub record AllPacked (b : List ℕ) (at : ℕ) (ws : List ℕ) (extra : ℕ) (heavy : Bool) (r : ℕ) (b' : List ℕ) : Type 0 where
  pub answer : r ≡ bytes_code at (packed_from heavy extra ws (length ws / span_numbers) 0 b at).0
  pub contents : b' ≡ (packed_from heavy extra ws (length ws / span_numbers) 0 b at).1
