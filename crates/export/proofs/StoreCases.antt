-- Stores into lent runs.
use Prim.Native.Nat.{ℕ, suc, ◌+◌, ◌*◌, ◌<◌, ◌≤◌}
use mathlib.Core.Bool.{Bool}
use mathlib.Core.Path.{◌≡◌, refl, sym, ap, ◌∙◌}
use mathlib.Core.List.{List, [], ◌∷◌, ◌++◌, append_assoc}
use native.Mathlib.Omega.{arith}
use native.Mathlib.Numerals.{add-one}
use lib.ListN.{length, get_or, set, take, length-take, length-append}
use lib.Seq.{sets-eq, take-suc, take_all}
use Rattle.format.specs.Width.{part_size, span_size, tree_size}
use Rattle.format.specs.Word.{put}
use Rattle.format.proofs.Put.{put_length}
use Rattle.format.specs.Loose.{Loose, bit}
use Rattle.tree.specs.Loose.{loose_of}
use Rattle.tree.specs.declared.types.TokenTree.TheVariants as trees
use Rattle.walk.specs.declared.last_span.ReportedSpan.{ReportedSpan}
use Rattle.cursor.specs.declared.look.Ahead.{Ahead}
use Rattle.export.specs.Steps.{loose_size, loose_words, reported_size, report_list, last_size}
use Rattle.export.specs.Code.{found_size}
use Rattle.export.specs.Cursors.{ahead_list}
use Rattle.tree.specs.Types.{span_list, tree_words_of}
use Rattle.tree.specs.declared.types.Span.{Span}
use Rattle.tree.proofs.WordsAgain.{tree_long}
use Rattle.pack.proofs.Store.{store_1, put_put, put_then, put_none}

-- the children bytes behind the words
pub words_then : (w v f : List ℕ) (k : ℕ) → length f ≡ tree_size → tree_size + 1 ≤ length w → v ≡ put w 0 f → set v tree_size k ≡ put w 0 (f ++ k ∷ [])
words_then w v f k l h e =
    let m : length v ≡ length w = ap length e ∙ put_length w 0 f (omega arith) in
    store_1 v tree_size k (omega arith) ∙ ap (λ (x : List ℕ). put x tree_size (k ∷ [])) e ∙ put_put w 0 tree_size f (k ∷ []) l (omega arith)

store_3 : (b : List ℕ) (at a₀ a₁ a₂ : ℕ) → at + 3 ≤ length b → set (set (set b at a₀) (at + 1) a₁) (at + 2) a₂ ≡ put b at (a₀ ∷ a₁ ∷ a₂ ∷ [])
unfolding put
store_3 b at a₀ a₁ a₂ h = rw (add-one, add_two) (sets-eq (a₀ ∷ a₁ ∷ a₂ ∷ []) b at h)
  where
    add_two : (n : ℕ) → n + 2 ≡ suc (suc n)
    add_two n = omega arith

-- a report
pub loose_stored : (w : List ℕ) (at : ℕ) (x : Loose) (o c : Bool) (m n s : ℕ) → o ≡ x.opening → c ≡ x.closing → m ≡ bit o → n ≡ bit c → s ≡ x.spans
    → put w at (m ∷ n ∷ s ∷ []) ≡ put w at (loose_words x)
loose_stored w at x o c m n s d e f g i =
    (λ j. put w at (f j ∷ g j ∷ i j ∷ [])) ∙ (λ j. put w at (bit (d j) ∷ bit (e j) ∷ x.spans ∷ []))

-- behind a tree's words
pub reported_stored : (w v v' f : List ℕ) (at : ℕ) (x : Loose) → v ≡ put w at f → v' ≡ put v (at + tree_size) (loose_words x) → length f ≡ tree_size → at + reported_size ≤ length w
    → v' ≡ put w at (report_list (f, x))
reported_stored w v v' f at x e d l h = put_then w v v' at tree_size f (loose_words x) e d l (omega arith)

-- and behind the children bytes
pub tree_stored : (w v v' f : List ℕ) (k : ℕ) (x : Loose) → length f ≡ tree_size → found_size ≤ length w → v ≡ put w 0 (f ++ k ∷ []) → v' ≡ put v (tree_size + 1) (loose_words x)
    → v' ≡ put w 0 (f ++ k ∷ loose_words x)
tree_stored w v v' f k x l h e d =
    let n : length (f ++ k ∷ []) ≡ tree_size + 1 = length-append f (k ∷ []) ∙ ap (λ (j : ℕ). j + 1) l in
    put_then w v v' 0 (tree_size + 1) (f ++ k ∷ []) (loose_words x) e d n (omega arith)
    ∙ ap (put w 0) (append_assoc f (k ∷ []) (loose_words x))

-- ---- a leaf ahead

ahead_size : (a : Ahead) → length (ahead_list a) ≡ reported_size
ahead_size a =
    length-append (tree_words_of (trees.Leaf a.leaf)) (loose_words (loose_of a.loose))
    ∙ ap (λ (n : ℕ). n + loose_size) (tree_long (trees.Leaf a.leaf))

pub ahead_stored : (w w' ts : List ℕ) (at : ℕ) (a : Ahead) → ts ≡ tree_words_of (trees.Leaf a.leaf) → w' ≡ put w at (report_list (ts, loose_of a.loose)) → w' ≡ put w at (ahead_list a)
ahead_stored w w' ts at a e q = q ∙ ap (λ (u : List ℕ). put w at (report_list (u, loose_of a.loose))) e

pub two_stored : (w v v' : List ℕ) (near far : Ahead) → v ≡ put w 0 (ahead_list near) → v' ≡ put v reported_size (ahead_list far) → 2 * reported_size ≤ length w
    → v' ≡ put w 0 (ahead_list near ++ ahead_list far)
two_stored w v v' near far e f h =
    let l = ahead_size far in
    put_then w v v' 0 reported_size (ahead_list near) (ahead_list far) e f (ahead_size near) (omega arith)

-- the second number by way of another type
pub state_stored : (b : List ℕ) (a₀ a₁ a₂ n : ℕ) → 3 ≤ length b → (n ≡ a₁) × (n < 4294967296) → set (set (set b 0 a₀) 1 n) 2 a₂ ≡ put b 0 (a₀ ∷ a₁ ∷ a₂ ∷ [])
state_stored b a₀ a₁ a₂ n h e = store_3 b 0 a₀ n a₂ h ∙ ap (λ (x : ℕ). put b 0 (a₀ ∷ x ∷ a₂ ∷ [])) e.0

-- its report behind it
pub last_stored : (w v : List ℕ) (s : ReportedSpan) (n : ℕ) → last_size ≤ length w → v ≡ put w 0 (span_list s.span) → n ≡ bit s.loose
    → set v span_size n ≡ put w 0 (span_list s.span ++ bit s.loose ∷ [])
last_stored w v s n h e f =
    let m : length v ≡ length w = ap length e ∙ put_length w 0 (span_list s.span) (omega arith) in
    store_1 v span_size n (omega arith)
    ∙ (λ i. put (e i) span_size (f i ∷ []))
    ∙ put_put w 0 span_size (span_list s.span) (bit s.loose ∷ []) refl (omega arith)

pub ruleset store_cases = (words_then, state_stored)

pub ruleset report_cases = (loose_stored, reported_stored, tree_stored, ahead_stored, two_stored)
