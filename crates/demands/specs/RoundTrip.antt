-- DEMAND 2 as one statement on the bytes of a list: what the check, the walk and the cursor return over them.
use Rattle.std.specs.Prelude.{ℕ, ◌≡◌, List, [], ◌∷◌, ◌++◌, map, replicate}
use Rattle.format.specs.Reader.{Answer, done, none, one, two, refused}
use Rattle.format.specs.Walk as steps
use Rattle.format.specs.Walk.{advance}
use Rattle.format.specs.WordList.{list_count}
use Rattle.writer.specs.Encoded.{Encodes}
use Rattle.walk.specs.Walk.{step_words}
use Rattle.walk.specs.Run.{Ran}
use Rattle.walk.specs.declared.walk.Walk.{Walk}
use Rattle.walk.specs.declared.walk.Step.{Step}
use Rattle.demands.specs.PlainMachine.{IsFresh, AsPlain}

-- the list words of the trees that were handed back, one tree after the other
abbrev pub handed : Answer (List ℕ) → List ℕ
handed done = []
handed none = []
handed (one w) = w
handed (two v w) = v ++ w
handed (refused r n) = []

unfoldable pub handed_all : List (Answer (List ℕ) × steps.Walk) → List ℕ
handed_all [] = []
handed_all (x ∷ xs) = handed x.0 ++ handed_all xs

-- the bytes b, the list's tree count and these tables give the list back.
-- Ruled out: a writer and a reader that agree on a layout of their own; a walk that ends before the last tree
pub record RoundTrip (parts symbols l b : List ℕ) : Type 0 where
  -- the definition's bytes, which `check_buffer` passes and the definition reads as the list
  pub encodes : Encodes parts symbols l b
  -- as many calls of `advance` as there are trees hand back the list
  pub walked : (first : Walk) → IsFresh (list_count l) first → (ss : List Step) → Ran b (list_count l) parts symbols (replicate (list_count l) advance) first ss
      → handed_all (map step_words ss) ≡ l
  -- and demand 3 holds over them
  pub plain : AsPlain b (list_count l) parts symbols
