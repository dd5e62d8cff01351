-- The crate's builder as the definitions' builder.
use Rattle.std.specs.Prelude.{ℕ, zero, suc, ◌+◌, ◌*◌, List, [], ◌∷◌, get_or}
use Rattle.format.specs.Word.{put}
use Rattle.format.specs.Width.{close_at, tree_size}
use Rattle.format.specs.Part.{WordSpan, span_list}
use Rattle.format.specs.Builder as format
use Rattle.builder.specs.declared.state.Builder.{Builder}

-- the open trees, the last opened first: the first d of an array, from the last on
unfoldable pub numbers : List ℕ → ℕ → List ℕ
numbers a zero = []
numbers a (suc d) = get_or a d 0 ∷ numbers a d

abbrev pub state_of : ℕ → ℕ → List ℕ → format.Builder
state_of n d a = record { count = n; opened = numbers a d }

abbrev pub seen : Builder → format.Builder
seen b = state_of b.count b.depth b.opened

-- tree m with n descendants and a close span
abbrev pub closed_at : List ℕ → ℕ → ℕ → WordSpan → List ℕ
closed_at l m n s = put (put l (tree_size * m + 1) (n ∷ [])) (tree_size * m + close_at) (span_list s)
