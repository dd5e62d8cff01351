-- What the functions that look for a tree promise, where only the reach of indices is known. `is_leaf_lem` does without: its contract is `is_leaf`.
use Rattle.std.specs.Prelude.{ℕ, ◌+◌, Bool, true, not, List, leb, if◌then◌else◌}
use Rattle.format.specs.Reader.{Reader, Reply, got, bad}
use Rattle.format.specs.Tree.{Raw, is_subtree, count_of}
use Rattle.format.specs.Buffer.{raw_reader}
use Rattle.tree.specs.Mode.{limits_of}
use Rattle.tree.specs.declared.limits.Limits.{Limits}
use Rattle.decode.specs.Judge.{limit_rules}
use Rattle.unpack.specs.declared.leaf.Reached.{Reached}

unfoldable pub raw_in : List ℕ → ℕ → Limits → Reader Raw
raw_in b k N = raw_reader b k (limit_rules (limits_of N))

-- tree n at a place; it does not turn on how many trees there are
unfoldable pub raw_at : List ℕ → Limits → ℕ → ℕ → Reply Raw
raw_at b N n at = (raw_reader b 0 (limit_rules (limits_of N))).read n at

-- the tree behind tree m
abbrev pub into : ℕ → ℕ → Reached
into m next = record { number = m + 1; at = next }

-- past subtree m with its children bytes and its descendants, unless that passes tree n
unfoldable pub past : ℕ → ℕ → ℕ → ℕ → ℕ → Reached
past m n next kids count = if leb (m + 1 + count) n then record { number = m + 1 + count; at = next + kids } else into m next

-- from tree m, as it is read, towards tree n behind it
unfoldable pub toward : ℕ → ℕ → Reply Raw → Reached
toward m n (got t next kids) = if is_subtree t then past m n next kids (count_of t) else into m next
toward m n (bad r) = into m 0

-- what is read is no subtree
unfoldable pub is_flat : Reply Raw → Bool
is_flat (got t next kids) = not (is_subtree t)
is_flat (bad r) = true
