-- The form of a subtree below the root, and the reply and contents of writing one tree, for every input.
use Rattle.std.specs.Prelude.{ℕ, Bool, ◌&&◌, ◌≡◌, List, length, ltb, if◌then◌else◌, Result}
use Rattle.format.specs.Verdict.{Verdict, ◌and_then◌, rule, report}
use Rattle.format.specs.Verdict as verdict
use Rattle.format.specs.Word.{put}
use Rattle.format.specs.Span.{Span}
use Rattle.format.specs.Tree.{Raw, punct, ident, literal, subtree}
use Rattle.format.specs.Fields.{fields}
use Rattle.format.specs.Write.{fits000, fits001, fits010, tree_bytes}
use Rattle.format.specs.Pack.{room_for}
use Rattle.pack.specs.Answer.{packed_answer}
use Rattle.encode.specs.declared.size.SubtreeForm.{SubtreeForm}
use Rattle.encode.specs.declared.size.SubtreeForm.TheVariants.{Brackets, Equal, TwoParts, Apart}

-- "Subtree forms are tried in the order 000, 001, 010, 101."
unfoldable pub subtree_form : Span → Span → ℕ → ℕ → SubtreeForm
subtree_form s t n kids =
    if fits000 s t n kids then Brackets else
    (if fits001 s t n kids then Equal else
    (if fits010 s t n kids then TwoParts else Apart))

-- row 8: "to pack a span index of 2^28 or a symbol index of 2^29 or more"
abbrev pub part_fits : Span → Bool
part_fits s = ltb s.index 268435456

abbrev pub symbol_fits : ℕ → Bool
symbol_fits i = ltb i 536870912

abbrev pub indices : Raw → Bool
indices (punct s c x) = part_fits s
indices (ident s i r) = part_fits s && symbol_fits i
indices (literal s i k r x) = part_fits s && symbol_fits i
indices (subtree s t n d) = part_fits s && part_fits t

-- tree number m at a place of a lent run: rows 2, 8, 6
unfoldable pub pack_tree : List ℕ → ℕ → ℕ → Raw → ℕ → Verdict
pack_tree out at m t kids =
    rule (fields t) 2 0 and_then
    rule (indices t) 8 0 and_then
    room_for out at (tree_bytes m t kids)

pub record TreePacked (b : List ℕ) (at m : ℕ) (t : Raw) (kids : ℕ) (r : Result ℕ ℕ) (b' : List ℕ) : Type 0 where
  pub answer : r ≡ packed_answer (report (pack_tree b at m t kids) (length (tree_bytes m t kids)))
  pub contents : b' ≡ verdict.contents (pack_tree b at m t kids) b (put b at (tree_bytes m t kids))
