-- Limits that a tree of each sort may keep to, so that row 2 is silent on it.
use Rattle.std.specs.Prelude.{ℕ, ◌+◌, ◌*◌, ◌≤◌, eqb, if◌then◌else◌}
use Rattle.format.specs.Width.{span_size, close_at}
use Rattle.format.specs.Part.{WordSpan, span_from}

-- of word 2: in a literal a kind with neither raw count nor suffix
abbrev pub second_most : ℕ → ℕ
second_most x = if eqb x 0 then 2 else (if eqb x 1 then 1 else (if eqb x 2 then 10 else 3))

-- of word 1
abbrev pub first_most : ℕ → ℕ
first_most x = if eqb x 0 then 0xD7FF else 4294967294

-- the sum of a span's words
abbrev pub span_sum : WordSpan → ℕ
span_sum s = s.part.file + s.part.ast + s.part.context + s.start + s.len

-- of the closing span's sum
abbrev pub close_most : ℕ → ℕ
close_most x = if eqb x 3 then span_size * 4294967295 else 0

-- the words of one tree within these limits
pub record Low (w : ℕ → ℕ) : Type 0 where
  pub sort : w 0 ≤ 3
  pub first : w 1 ≤ first_most (w 0)
  pub second : w 2 ≤ second_most (w 0)

pub record LowClose (w : ℕ → ℕ) : Type 0 where
  pub close : span_sum (span_from w close_at) ≤ close_most (w 0)
