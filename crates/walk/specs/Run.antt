-- Lists of walk calls: what the functions hand back, by their contracts alone.
use Rattle.std.specs.Prelude.{ℕ, List, [], ◌∷◌}
use Rattle.format.specs.Walk.{WalkCall}
use Rattle.walk.specs.Walk.{Stepped}
use Rattle.walk.specs.declared.walk.Walk.{Walk}
use Rattle.walk.specs.declared.walk.Step.{Step}

-- these steps were handed back, each call being given the walk that the one before left
unfoldable pub Ran : List ℕ → ℕ → List ℕ → List ℕ → List WalkCall → Walk → List Step → Type 0
Ran b k parts symbols [] w [] = Unit {0}
Ran b k parts symbols [] w (s ∷ ss) = ⊥
Ran b k parts symbols (c ∷ cs) w [] = ⊥
Ran b k parts symbols (c ∷ cs) w (s ∷ ss) = Stepped b k parts symbols c w s × Ran b k parts symbols cs s.walk ss

-- the walk behind them
unfoldable pub walk_after : Walk → List Step → Walk
walk_after w [] = w
walk_after w (s ∷ ss) = walk_after s.walk ss
