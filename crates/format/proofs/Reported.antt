-- The walk rule with reports: it holds of every reader of which it holds without them, whatever the reports say.
use Prim.Native.Nat.{ℕ, ◌<◌}
use mathlib.Core.Bool.{false}
use mathlib.Core.Path.{◌≡◌, refl, ap, ◌∙◌}
use native.Mathlib.Omega.{arith}
use Rattle.format.specs.Verdict.{passed}
use Rattle.format.specs.Reader.{Shape, Reader, Reply, got, bad, mapped}
use Rattle.format.specs.Walk.{Walk, WalkCall, walk_step}
use Rattle.format.specs.Cursor.{Cursor, CursorCall, cursor_step}
use Rattle.format.specs.LastSpan.{last_tree}
use Rattle.format.specs.Check.{check, place_of, tree_of, listing, Admitted}
use Rattle.format.specs.Rule.{WalkRule}
use Rattle.format.specs.Loose.{Loose, beside, reported_shape, reported}
use Rattle.format.proofs.Sight.{sight, Alike, place_same, check_same}
use Rattle.format.proofs.Shown.{shown_reply, shown, shown_step, walk_shown, cursor_shown, last_shown}
use Rattle.format.proofs.CheckLaw.{every_walk, every_pass, every_cursor}

module _ {Tree : Type 0} (S : Shape Tree) (f : ℕ → Loose) (R : Reader Tree) (flat : S.is_sub S.blank ≡ false) where
  sight_beside : (x : Loose) (r : Reply Tree) → sight (reported_shape S) (beside x r) ≡ sight S r
  unfolding sight
  sight_beside x (got t next kids) = refl
  sight_beside x (bad r) = refl

  pub reported_alike : Alike (reported_shape S) (reported f R) S R
  reported_alike = record { sized = refl; trees = refl; bytes = refl; flat = flat; flat' = flat; read = λ n p. sight_beside (f p) (R.read n p) }

  -- reports change no verdict
  pub reported_check : check (reported_shape S) (reported f R) ≡ check S R
  reported_check = check_same (reported_shape S) (reported f R) S R reported_alike

  -- trees stand where they stood, each in a pair with its place's report
  pub reported_place : (n : ℕ) → place_of (reported_shape S) (reported f R) n ≡ place_of S R n
  reported_place = place_same (reported_shape S) (reported f R) S R reported_alike

  pub reported_tree : Admitted S R → (n : ℕ) → n < R.trees → (listing (reported_shape S) (reported f R)).tree n ≡ ((listing S R).tree n, f (place_of S R n))
  reported_tree ad n h =
      ap (λ p. tree_of (reported_shape S) (reported f R) (beside (f p) (R.read n p))) (reported_place n)
      ∙ ap (λ r. tree_of (reported_shape S) (reported f R) (beside (f (place_of S R n)) r)) (ad.readable n h)

  module _ (forward : (n p : ℕ) (t : Tree) (next kids : ℕ) → R.read n p ≡ got t next kids → p < next) where
    ahead : (p : ℕ) (x : Loose) (r : Reply Tree) (t : Tree × Loose) (next kids : ℕ) → ((t : Tree) (q k : ℕ) → r ≡ got t q k → p < q) → beside x r ≡ got t next kids → p < next
    ahead p x (got u q k) t next kids h e = let i : q ≡ next = cc in let l : p < q = h u q k refl in omega arith
    ahead p x (bad r) t next kids h e = let z : ◌≡◌ {A = ℕ} 0 1 = cc in absurd (omega arith)

    pub reported_forward : (n p : ℕ) (t : Tree × Loose) (next kids : ℕ) → (reported f R).read n p ≡ got t next kids → p < next
    reported_forward n p t next kids e = ahead p (f p) (R.read n p) t next kids (λ u q k g. forward n p u q k g) e

    -- DEMAND 3 with reports
    pub reported_rule : check S R ≡ passed → WalkRule (reported_shape S) (reported f R)
    reported_rule ok =
        let ok' : check (reported_shape S) (reported f R) ≡ passed = reported_check ∙ ok in
        record {
          walks = every_walk (reported_shape S) (reported f R) reported_forward ok';
          cursors = every_cursor (reported_shape S) (reported f R) reported_forward ok';
          passing = every_pass (reported_shape S) (reported f R) reported_forward ok';
        }

-- ---- over every buffer and from every state: without its report each answer is the old one, and the state is

module _ {Tree : Type 0} (S : Shape Tree) (f : ℕ → Loose) (R : Reader Tree) where
  abbrev S' : Shape (Tree × Loose)
  S' = reported_shape S

  abbrev R' : Reader (Tree × Loose)
  R' = reported f R

  abbrev tree : Tree × Loose → Tree
  tree t = t.0

  reply_back : (x : Loose) (r : Reply Tree) → shown_reply tree (beside x r) ≡ r
  reply_back x (got t next kids) = refl
  reply_back x (bad r) = refl

  reader_back : shown tree (reported f R) ≡ R
  reader_back = λ i. record { sized = R.sized; trees = R.trees; bytes = R.bytes; read = λ n p. reply_back (f p) (R.read n p) i }

  pub walk_reported : (c : WalkCall) (w : Walk) → shown_step tree (walk_step (reported_shape S) (reported f R) c w) ≡ walk_step S R c w
  walk_reported c w = walk_shown tree S S'.blank R' c w ∙ ap (λ Q. walk_step S Q c w) reader_back

  pub cursor_reported : (call : CursorCall) (c : Cursor) → shown_step tree (cursor_step (reported_shape S) (reported f R) call c) ≡ cursor_step S R call c
  cursor_reported call c = cursor_shown tree S S'.blank R' call c ∙ ap (λ Q. cursor_step S Q call c) reader_back

  pub last_reported_lem : (w : Walk) → mapped tree (last_tree (reported_shape S) (reported f R) w) ≡ last_tree S R w
  last_reported_lem w = last_shown tree S S'.blank R' w ∙ ap (λ Q. last_tree S Q w) reader_back
