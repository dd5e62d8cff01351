-- "Nothing shorter exists" (document 02, ticket 7): the claim, on a list and its tables. "This concerns existing code": no contract uses it.
use Rattle.std.specs.Prelude.{ℕ, ◌+◌, ◌*◌, ◌-◌, ◌≤◌, ◌≡◌, List, length}
use Rattle.format.specs.Verdict.{passed}
use Rattle.format.specs.Word.{AreBytes}
use Rattle.format.specs.Buffer.{buffer_check}
use Rattle.format.specs.Writer.{list_verdict, packed}
use Rattle.format.specs.Unpack.{list_of}

-- "all buffers that the check passes, as Ticket 6 left it, and that read as a given list over given tables": b is one of them, with k trees
pub record Stores (k : ℕ) (parts symbols l b : List ℕ) : Type 0 where
  pub bytes : AreBytes b
  pub passes : buffer_check b k parts symbols ≡ passed
  pub reads : list_of b k parts symbols ≡ l

pub record Shortest (k : ℕ) (parts symbols l : List ℕ) : Type 0 where
  -- rows 1 to 5 pass the list: with room the writer makes its bytes
  pub lawful : list_verdict parts symbols l ≡ passed
  -- which are one of these buffers
  pub written : Stores k parts symbols l (packed parts symbols l)
  -- "none has fewer bytes than the writer's"
  pub none : (b : List ℕ) → Stores k parts symbols l b → length (packed parts symbols l) ≤ length b
  -- "the total lies between 33 + 5 × (trees - 1) and 33 × trees"
  pub least : 33 + 5 * (k - 1) ≤ length (packed parts symbols l)
  pub most : length (packed parts symbols l) ≤ 33 * k
