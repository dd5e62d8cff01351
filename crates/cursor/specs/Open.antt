-- A cursor's open subtrees in three arrays, and the tests on them.
use Rattle.std.specs.Prelude.{ℕ, zero, suc, ◌+◌, Bool, true, false, ◌&&◌, List, [], ◌∷◌, ltb, eqb, get_or}
use Rattle.format.specs.Reader.{bad}
use Rattle.format.specs.Cursor.{Open, Cursor, cursor_fits}
use Rattle.walk.specs.Source.{tree_shape}
use Rattle.cursor.specs.declared.state.At.{At}

-- the first d entries of numbers, counts and places, the last opened first: entries past the open ones are not looked at
unfoldable pub opened : List ℕ → List ℕ → List ℕ → ℕ → List Open
opened ns cs ps zero = []
opened ns cs ps (suc d) = record { number = get_or ns d 0; count = get_or cs d 0; place = get_or ps d 0 } ∷ opened ns cs ps d

abbrev pub cursor_of : At → List ℕ → List ℕ → List ℕ → Cursor
cursor_of c ns cs ps = record { number = c.number; place = c.place; opened = opened ns cs ps c.depth }

-- not "A cursor disagrees (10)", which asks no more of a buffer than how many trees and bytes it has
abbrev pub agreed : ℕ → ℕ → Cursor → Bool
agreed k bytes c = cursor_fits tree_shape (record { sized = true; trees = k; bytes = bytes; read = λ n p. bad 0 }) c

-- "closing means one is open and n is the last one's number + 1 + descendants"
unfoldable pub closes : ℕ → List ℕ → List ℕ → ℕ → Bool
closes n ns cs zero = false
closes n ns cs (suc d) = eqb n (get_or ns d 0 + 1 + get_or cs d 0)

-- tree n lies in the list and, if one is open, in the last open subtree
unfoldable pub inside : ℕ → ℕ → List ℕ → List ℕ → ℕ → Bool
inside k n ns cs zero = ltb n k
inside k n ns cs (suc d) = ltb n k && ltb n (get_or ns d 0 + 1 + get_or cs d 0)
