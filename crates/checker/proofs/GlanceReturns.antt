-- What a glance says of the tree.
use Prim.Native.Nat.{ℕ}
use mathlib.Core.Path.{◌≡◌, ◌∙◌}
use mathlib.Core.List.{List}
use Rattle.std.specs.Prelude.{Result, Ok, Err}
use Rattle.format.specs.Reader.{got}
use Rattle.format.specs.Tree.{tree_at}
use Rattle.tree.specs.Mode.{limits_of}
use Rattle.decode.specs.Judge.{limit_rules}
use Rattle.format.specs.Buffer.{raw_shape, judge}
use Rattle.format.proofs.Sight.{Sight, leaf, subtree, unread, sight}
use Rattle.tree.specs.Raw.{RawAt, raw_of, raw_answer}
use Rattle.decode.proofs.ReadUse.{reply_got}
use Rattle.checker.specs.Glance.{glance, glance_at}
use Rattle.checker.specs.declared.glance.Sizes.{Sizes}
use Rattle.checker.specs.declared.glance.Opening.{Opening}
use Rattle.checker.specs.declared.glance.Glance.{Glance}
use Rattle.checker.specs.declared.glance.Glance.TheVariants.{Leaf, Subtree}

-- a tree that was read, as a glance
pub at_got : (b : List ℕ) (s : Sizes) (n at : ℕ) (r : Result RawAt ℕ) → r ≡ raw_answer (judge (λ n t. t) (limit_rules (limits_of s.limits)) n at (tree_at b at))
    → (y : RawAt) → r ≡ Ok y → (g : Result Glance ℕ) → g ≡ glance (sight raw_shape (got (raw_of y.tree) y.next y.children.0)) → g ≡ glance_at b s n at
at_got b s n at r e y q g f =
    let d = reply_got (judge (λ n t. t) (limit_rules (limits_of s.limits)) n at (tree_at b at)) r e y q in
    f ∙ rw d

pub leaf_seen : (s : Sight) (next : ℕ) → glance s ≡ Ok (Leaf next) → s ≡ leaf next
unfolding glance
leaf_seen (leaf x) next e = cc
leaf_seen (subtree c k x) next e = cc
leaf_seen (unread r) next e = cc

pub sub_seen_lem : (s : Sight) (o : Opening) → glance s ≡ Ok (Subtree o) → s ≡ subtree o.count.0 o.kids.0 o.next
unfolding glance
sub_seen_lem (leaf x) o e = cc
sub_seen_lem (subtree c k x) o e = let d : o ≡ record { count = record { 0 = c }; kids = record { 0 = k }; next = x } = cc in rw d
sub_seen_lem (unread r) o e = cc

pub bad_seen : (s : Sight) (r : ℕ) → glance s ≡ Err r → s ≡ unread r
unfolding glance
bad_seen (leaf x) r e = cc
bad_seen (subtree c k x) r e = cc
bad_seen (unread x) r e = cc
