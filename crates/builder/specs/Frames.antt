-- The plain model of the builder, with no run of words: a stack of frames, one for the root and one for each open subtree.
-- A frame has what its subtree was opened with and the trees made in it so far.
use Rattle.std.specs.Prelude.{ℕ, zero, suc, ◌+◌, ◌-◌, List, [], ◌∷◌, ◌++◌, Bool, true, false, ◌&&◌, length, take, leb, eqb, if◌then◌else◌}
use Rattle.format.specs.Part.{WordSpan}
use Rattle.format.specs.Verdict.{Verdict, passed, refused}
use Rattle.format.specs.Buffer.{word_shape}
use Rattle.format.specs.Builder.{Builder, subtree_words, leaf_words, Step, push, open_subtree, close_subtree, restore, new, builder_step}

-- trees in pre-order, each by its words
abbrev pub Trees : Type 0
Trees = List (List ℕ)

unfoldable pub flat : Trees → List ℕ
flat [] = []
flat (t ∷ ts) = t ++ flat ts

pub record Frame : Type 0 where
  pub kind : ℕ
  pub opening : WordSpan
  -- as it stands: the open span until the subtree is closed; the root's from the start
  pub closing : WordSpan
  pub made : Trees

-- the frames of the open subtrees, the last opened first
pub record Model : Type 0 where
  pub root : Frame
  pub frames : List Frame

-- a frame's subtree, closed: the true descendant count, then its trees
abbrev pub whole : Frame → Trees
whole f = subtree_words (length f.made) f.kind f.opening f.closing ∷ f.made

-- a frame's subtree, still open
abbrev pub begun : Frame → Trees
begun f = subtree_words 0 f.kind f.opening f.closing ∷ f.made

abbrev pub with_made : Frame → Trees → Frame
with_made f ts = record { kind = f.kind; opening = f.opening; closing = f.closing; made = ts }

abbrev pub with_closing : Frame → WordSpan → Frame
with_closing f s = record { kind = f.kind; opening = f.opening; closing = s; made = f.made }

-- all that is there
unfoldable pub laid : Frame → List Frame → Trees
laid r [] = begun r
laid r (f ∷ fs) = laid r fs ++ begun f

-- ---- a step

-- trees behind what is made in the last frame
abbrev pub added : Trees → Frame → List Frame → Model
added ts r [] = record { root = with_made r (r.made ++ ts); frames = [] }
added ts r (f ∷ fs) = record { root = r; frames = with_made f (f.made ++ ts) ∷ fs }

-- the last frame becomes trees of the one around it
abbrev pub close_frame : WordSpan → Frame → List Frame → Model
close_frame s r [] = record { root = r; frames = [] }
close_frame s r (f ∷ fs) = added (whole (with_closing f s)) r fs

-- the first n trees: frames that begin later go, and the last one left is cut
unfoldable pub cut : ℕ → Frame → List Frame → Model
cut n r [] = record { root = with_made r (take (n - 1) r.made); frames = [] }
cut n r (f ∷ fs) =
    let at = length (laid r fs) in
    if leb n at then cut n r fs else
    record { root = r; frames = with_made f (take (n - (at + 1)) f.made) ∷ fs }

abbrev pub model_step : Step → Model → Model
model_step (push w) m = added (leaf_words w ∷ []) m.root m.frames
model_step (open_subtree kind s) m =
    record { root = m.root; frames = record { kind = kind; opening = s; closing = s; made = [] } ∷ m.frames }
model_step (close_subtree s) m = close_frame s m.root m.frames
model_step (restore p) m = cut p.trees m.root m.frames

unfoldable pub model_run : List Step → Model → Model
model_run [] m = m
model_run (s ∷ ss) m = model_run ss (model_step s m)

abbrev pub new_model : ℕ → WordSpan → WordSpan → Model
new_model kind o c = record { root = record { kind = kind; opening = o; closing = c; made = [] }; frames = [] }

-- the list that the steps make
abbrev pub model_list : Model → List ℕ
model_list m = flat (whole m.root)

-- ---- the steps that were not refused

abbrev pub kept_if : Verdict → Step → List Step → List Step
kept_if passed s ss = s ∷ ss
kept_if (refused r n) s ss = ss

unfoldable pub accepted : List Step → Builder → List ℕ → List Step
accepted [] b l = []
accepted (s ∷ ss) b l =
    let a = builder_step s b l in
    kept_if a.verdict s (accepted ss a.builder a.words)

-- pushes, opens and closes, none of which closes a subtree that was open before them; d have been opened since
unfoldable pub stays_inside : ℕ → List Step → Bool
stays_inside d [] = true
stays_inside d (push w ∷ ss) = stays_inside d ss
stays_inside d (open_subtree kind s ∷ ss) = stays_inside (suc d) ss
stays_inside zero (close_subtree s ∷ ss) = false
stays_inside (suc d) (close_subtree s ∷ ss) = stays_inside d ss
stays_inside d (restore p ∷ ss) = false

-- what the accepted steps make
unfoldable pub model_from : ℕ → WordSpan → WordSpan → List ℕ → List Step → Model
model_from kind o c l ss = model_run (accepted ss (new kind o c l).builder (new kind o c l).words) (new_model kind o c)

-- ---- `build_skip_top_subtree`

-- one subtree that holds all others
abbrev pub is_one : Trees → Bool
is_one [] = false
is_one (t ∷ ts) = word_shape.is_sub t && eqb (word_shape.count t) (length ts)

-- the root is left out where one subtree holds all others
abbrev pub model_skip : Model → List ℕ
model_skip m = if is_one m.root.made then flat m.root.made else model_list m
