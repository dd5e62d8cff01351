-- What the check sees of a tree, as an answer of the code.
use Rattle.std.specs.Prelude.{ℕ, List, Result, Ok, Err}
use Rattle.format.specs.Reader.{Reader}
use Rattle.format.specs.Tree.{Raw}
use Rattle.format.specs.Buffer.{raw_shape, raw_reader}
use Rattle.tree.specs.Mode.{limits_of}
use Rattle.decode.specs.Judge.{limit_rules}
use Rattle.format.proofs.Sight.{Sight, leaf, subtree, unread, sight}
use Rattle.checker.specs.declared.glance.Sizes.{Sizes}
use Rattle.checker.specs.declared.glance.Glance.{Glance}
use Rattle.checker.specs.declared.glance.Glance.TheVariants.{Leaf, Subtree}

unfoldable pub glance : Sight → Result Glance ℕ
glance (leaf next) = Ok (Leaf next)
glance (subtree count kids next) = Ok (Subtree (record { count = record { 0 = count }; kids = record { 0 = kids }; next = next }))
glance (unread r) = Err r

abbrev pub next_of : Glance → ℕ
next_of (Leaf next) = next
next_of (Subtree o) = o.next

-- the buffer with its stated tree count, where only the reach of indices is known: the check asks no table entry
abbrev pub reader_of : List ℕ → Sizes → Reader Raw
reader_of b s = raw_reader b s.trees (limit_rules (limits_of s.limits))

abbrev pub glance_at : List ℕ → Sizes → ℕ → ℕ → Result Glance ℕ
glance_at b s n at = glance (sight raw_shape ((reader_of b s).read n at))
