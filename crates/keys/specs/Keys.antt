-- Keys as the code meets them: where they are looked for, which class they are in, how many words they have in a run.
use Rattle.std.specs.Prelude.{ℕ, ◌*◌, Bool, true, false, ◌&&◌, List, get_or, leb, eqb, if◌then◌else◌}
use Rattle.format.specs.Width.{part_size}
use Rattle.format.specs.Part.{Part, part_from}
use Rattle.format.specs.MakeTables.{live_at, key_word, key_part}
use Rattle.slots.specs.Hash.{mix_of}

-- the part whose words begin at place a of the list
unfoldable pub part_in : List ℕ → ℕ → Part
part_in l a = part_from (λ j. get_or l j 0) a

-- the slot where key v is looked for first
unfoldable pub slot_of : List ℕ → Bool → ℕ → ℕ → ℕ
slot_of l true size v = mix_of (key_word l true v 0) 0 0 size
slot_of l false size v = let p = key_part l v in mix_of p.file p.ast p.context size

-- the class of key v, by other bits of its words
unfoldable pub class_of : List ℕ → Bool → ℕ → ℕ → ℕ
class_of l true classes v = mix_of 0 (key_word l true v 0) 0 classes
class_of l false classes v = let p = key_part l v in mix_of p.context p.file p.ast classes

-- number v has a key, and it is of the class; one class has all
unfoldable pub live_in : List ℕ → Bool → ℕ → ℕ → ℕ → Bool
live_in l symbols classes class =
    if leb classes 1 then live_at l symbols else (λ v. live_at l symbols v && eqb (class_of l symbols classes v) class)

-- where key k begins in a run of keys: a symbol is one word
unfoldable pub place_in : Bool → ℕ → ℕ
place_in true k = k
place_in false k = part_size * k
