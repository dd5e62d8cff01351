-- Widths and places of the list's words, each said once: "A list is a lent run of u32 words, 13 a tree".
use Rattle.std.specs.Prelude.{ℕ, ◌+◌}

-- "A span part is file, ast id and context"
abbrev pub part_size : ℕ
part_size = 3

-- ".. start, length"
abbrev pub span_size : ℕ
span_size = part_size + 2

-- "Words 3 to 7: the span, or the opening one", behind the sort and two words of a tree's own
abbrev pub open_at : ℕ
open_at = 3

-- "Words 8 to 12: the closing span"
abbrev pub close_at : ℕ
close_at = open_at + span_size

-- "13 a tree"
abbrev pub tree_size : ℕ
tree_size = close_at + span_size
