-- Many keys, class by class: what the lent runs hold when the classes below k are done.
use Rattle.std.specs.Prelude.{ℕ, ◌+◌, ◌<◌, ◌≤◌, ◌≡◌, Bool, ◌&&◌, List, IfSome, MatchOption, length, get_or, ltb}
use Rattle.std.specs.Prelude.{Option}
use Rattle.format.specs.Distinct.{tally, news}
use Rattle.format.proofs.Tally.{amount}
use Rattle.format.specs.MakeTables.{alike_at, key_count, keys_of, times_of}
use Rattle.keys.specs.Keys.{class_of, live_in}
use Rattle.keys.specs.Runs.{Behind}
use Rattle.distinct.specs.Pairs.{Paired}

-- the first q elements of f stand in b' from place `at` on, and nothing else has changed
pub record Copied (at q : ℕ) (f b b' : List ℕ) : Type 0 where
  pub size : length b' ≡ length b
  pub same : (e : ℕ) → e < q → get_or b' (at + e) 0 ≡ get_or f e 0
  pub front : (i : ℕ) → i < at → get_or b' i 0 ≡ get_or b i 0
  pub rest : (i : ℕ) → at + q ≤ i → get_or b' i 0 ≡ get_or b i 0

module _ (l : List ℕ) (symbols : Bool) where
  module _ (classes : ℕ) where
    -- the number of distinct keys in the classes below k
    unfoldable pub below : ℕ → ℕ
    below k = amount (λ v. ltb (class_of l symbols classes v) k) (keys_of l symbols)

    -- the first p pairs are the distinct keys of the classes below k, and their counts
    pub record Held (k p : ℕ) (w t : List ℕ) : Type 0 where
      pub keys : (f : ℕ → Bool) → tally (λ i. f (get_or w i 0)) p ≡ amount (λ v. f v && ltb (class_of l symbols classes v) k) (keys_of l symbols)
      pub counts : (j : ℕ) → j < p → get_or t j 0 ≡ times_of l symbols (get_or w j 0)

    -- one class more, of q keys
    pub record Joined (k at q : ℕ) (w w' t t' : List ℕ) : Type 0 where
      pub held : Held (k + 1) (at + q) w' t'
      pub words : Behind (at + q) w w'
      pub tallies : Behind (at + q) t t'

    -- the same, or nothing has changed
    abbrev pub HeldIf : ℕ → ℕ → Option ℕ → List ℕ → List ℕ → List ℕ → List ℕ → Type 0
    HeldIf k at r w w' t t' = MatchOption r ((w' ≡ w) × (t' ≡ t)) (λ q. Joined k at q w w' t t')

    -- the number of distinct keys in class k, where it is known
    abbrev pub ClassIf : ℕ → Option ℕ → Type 0
    ClassIf k r = IfSome r (λ q. q ≡ length (news (live_in l symbols classes k) (alike_at l symbols) (key_count l symbols)))

  -- what stands behind the distinct keys is unchanged
  pub record Scratched (w w' t t' : List ℕ) : Type 0 where
    pub words : Behind (length (keys_of l symbols)) w w'
    pub tallies : Behind (length (keys_of l symbols)) t t'

  -- and where their number is known, the distinct keys and their counts are there
  pub record PairedIf (r : Option ℕ) (w w' t t' : List ℕ) : Type 0 where
    pub scratched : Scratched w w' t t'
    pub paired : IfSome r (λ p. Paired l symbols p w' t')

  -- the number of distinct keys, where it is known
  abbrev pub NumberIf : Option ℕ → Type 0
  NumberIf r = IfSome r (λ p. p ≡ length (keys_of l symbols))
