-- Keys: a span part, or a symbol in a part's place.
use Rattle.std.specs.Prelude.{ℕ, ◌+◌, ◌/◌, Bool, ◌||◌, List, length, get_or, eqb}
use Rattle.format.specs.Width.{part_size}
use Rattle.format.specs.Part.{Part, part_from, same_part, part_at}
use Rattle.format.specs.WordList.{word_of, list_count, open_part, close_part}
use Rattle.places.specs.declared.key.Key.{Key}
use Rattle.places.specs.declared.key.Layout.{Layout}
use Rattle.places.specs.declared.key.Layout.TheVariants.{Parts, Symbols, Open, Close, Name}

-- a key as the code holds it
abbrev pub part_of : Key → Part
part_of k = record { file = k.file; ast = k.ast_id; context = k.context }

-- a symbol is one word; zeros make it a key
abbrev pub symbol_part : ℕ → Part
symbol_part y = record { file = y; ast = 0; context = 0 }

-- the part whose words begin at a place
abbrev pub part_in : List ℕ → ℕ → Part
part_in t i = part_from (λ j. get_or t j 0) i

-- key i of a run of words: entry i of a table; the open part, the close part, the symbol of tree i of a list
unfoldable pub key_at : List ℕ → Layout → ℕ → Part
key_at t Parts i = part_at t i
key_at t Symbols i = symbol_part (get_or t i 0)
key_at t Open i = open_part t i
key_at t Close i = close_part t i
key_at t Name i = symbol_part (word_of t i 1)

-- how many keys there are
unfoldable pub key_count : List ℕ → Layout → ℕ
key_count t Parts = length t / part_size
key_count t Symbols = length t
key_count t Open = list_count t
key_count t Close = list_count t
key_count t Name = list_count t

-- the keys from one on
unfoldable pub shift : (ℕ → Part) → ℕ → ℕ → Part
shift key base i = key (base + i)

-- whether key i is this one
unfoldable pub is_key : (ℕ → Part) → Part → ℕ → Bool
is_key key k i = same_part (key i) k

-- an ident or a literal has a symbol
unfoldable pub named : ℕ → Bool
named sort = eqb sort 1 || eqb sort 2
