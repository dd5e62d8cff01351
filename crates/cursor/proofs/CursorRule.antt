-- DEMAND 3 of the cursor's calls: over a buffer that the check passed, every list of calls answers as the plain machine does.
use Prim.Native.Nat.{ℕ}
use mathlib.Core.Path.{◌≡◌, refl, sym, ap, ◌∙◌, subst}
use mathlib.Core.List.{List, [], ◌∷◌, map}
use lib.Dec.{eqb}
use lib.ListN.{length, set, length-set, length-replicate}
use mathlib.Core.Bool.{Bool, true, false}
use Rattle.std.specs.Prelude.{if◌then◌else◌}
use Rattle.format.specs.Verdict.{passed}
use Rattle.format.specs.Reader.{Reader, Answer}
use Rattle.format.specs.Cursor as calls
use Rattle.format.specs.Cursor.{Open, CursorCall, bump, end, bump_or_end, token_tree, peek_two_leaves, cursor_fits, cursor_step, cursor_run}
use Rattle.format.specs.Plain.{plain_cursor_run, fresh_state}
use Rattle.format.specs.Check.{listing}
use Rattle.format.specs.Buffer.{word_shape, own_reader, buffer_check}
use Rattle.format.proofs.Own.{own_walk_rule}
use Rattle.format.proofs.OwnReported.{own_reported_rule}
use Rattle.format.proofs.Reported.{cursor_reported}
use Rattle.tree.specs.declared.types.TokenTree.{TokenTree}
use Rattle.format.specs.Loose.{Loose, loose_at, reported_shape, reported}
use Rattle.walk.specs.Source.{answer_words, answer_report}
use Rattle.cursor.specs.Open.{opened}
use Rattle.cursor.specs.Moves.{fresh_cursor, written, Arrays}
use Rattle.cursor.specs.Run.{Held, held, held_as, MovedOn, Handed, Ran, in_words, in_report}

-- a call writes no array longer or shorter
written_length : (f : Open → ℕ) (a : List ℕ) (d : ℕ) (os : List Open) → length (written f a d os) ≡ length a
unfolding written
written_length f a d [] = refl
written_length f a d (o ∷ os) = go (eqb (length os) d)
  where
    go : (x : Bool) → length (if x then set a d (f o) else a) ≡ length a
    go true = length-set a d (f o)
    go false = refl

abbrev Full : Held → Type 0
Full h = Arrays h.numbers h.counts h.places

module _ (b : List ℕ) (k : ℕ) (parts symbols : List ℕ) where
  abbrev O : Reader (List ℕ)
  O = own_reader b k parts symbols

  -- looking leaves the cursor as it is
  pub looking : (c : calls.Cursor) → ((cursor_step word_shape O token_tree c).1 ≡ c) × ((cursor_step word_shape O peek_two_leaves c).1 ≡ c)
  unfolding cursor_step
  looking c = go _ _ refl refl
    where
      go : (x y : Bool) → O.sized ≡ x → cursor_fits word_shape O c ≡ y → ((cursor_step word_shape O token_tree c).1 ≡ c) × ((cursor_step word_shape O peek_two_leaves c).1 ≡ c)
      go false y f g = (simp f, simp f)
      go true false f g = (simp (f, g), simp (f, g))
      go true true f g = (simp (f, g), simp (f, g))

  moved_on : (call : CursorCall) (h : Held) (a : Answer (TokenTree × Loose)) (h' : Held) → Full h → MovedOn b k parts symbols call h a h'
      → (in_words (a, h') ≡ cursor_step word_shape O call (held_as h)) × Full h'
  moved_on call h a h' full m =
      let w : answer_words a ≡ (cursor_step word_shape O call (held_as h)).0 = ap answer_words m.said ∙ m.moves.words in
      let n = m.moves.next full in (
        (λ i. (w i, n i)),
        record {
          numbers = ap length m.moves.numbers ∙ written_length _ _ _ _ ∙ full.numbers;
          counts = ap length m.moves.counts ∙ written_length _ _ _ _ ∙ full.counts;
          places = ap length m.moves.places ∙ written_length _ _ _ _ ∙ full.places;
        },
      )

  -- one call over every buffer, any cursor
  pub handed_is : (call : CursorCall) (h : Held) (a : Answer (TokenTree × Loose)) (h' : Held) → Full h → Handed b k parts symbols call h a h'
      → (in_words (a, h') ≡ cursor_step word_shape O call (held_as h)) × Full h'
  handed_is bump h a h' full m = moved_on bump h a h' full m
  handed_is end h a h' full m = moved_on end h a h' full m
  handed_is bump_or_end h a h' full m = moved_on bump_or_end h a h' full m
  handed_is token_tree h a h' full m =
      let w : answer_words a ≡ (cursor_step word_shape O token_tree (held_as h)).0 = ap answer_words m.said ∙ m.tells.words in
      let n : held_as h' ≡ (cursor_step word_shape O token_tree (held_as h)).1 = ap held_as m.stays ∙ sym (looking (held_as h)).0 in
      ((λ i. (w i, n i)), subst Full (sym m.stays) full)
  handed_is peek_two_leaves h a h' full m =
      let w : answer_words a ≡ (cursor_step word_shape O peek_two_leaves (held_as h)).0 = ap answer_words m.said ∙ m.peeks.words in
      let n : held_as h' ≡ (cursor_step word_shape O peek_two_leaves (held_as h)).1 = ap held_as m.stays ∙ sym (looking (held_as h)).1 in
      ((λ i. (w i, n i)), subst Full (sym m.stays) full)

  -- reports change no cursor
  same_next : (call : CursorCall) (c : calls.Cursor) → (cursor_step word_shape O call c).1 ≡ (cursor_step (reported_shape word_shape) (reported (loose_at b) O) call c).1
  same_next call c = sym (ap (λ x. x.1) (cursor_reported word_shape (loose_at b) O call c))

  -- the same call's answer with reports
  reports : (call : CursorCall) (h : Held) (a : Answer (TokenTree × Loose)) (h' : Held) → Handed b k parts symbols call h a h'
      → answer_report a ≡ (cursor_step (reported_shape word_shape) (reported (loose_at b) O) call (held_as h)).0
  reports bump h a h' m = ap answer_report m.said ∙ m.moves.reports
  reports end h a h' m = ap answer_report m.said ∙ m.moves.reports
  reports bump_or_end h a h' m = ap answer_report m.said ∙ m.moves.reports
  reports token_tree h a h' m = ap answer_report m.said ∙ m.tells.reports
  reports peek_two_leaves h a h' m = ap answer_report m.said ∙ m.peeks.reports

  handed_reported : (call : CursorCall) (h : Held) (a : Answer (TokenTree × Loose)) (h' : Held) → Full h → Handed b k parts symbols call h a h'
      → in_report (a, h') ≡ cursor_step (reported_shape word_shape) (reported (loose_at b) O) call (held_as h)
  handed_reported call h a h' full m =
      let n : held_as h' ≡ (cursor_step (reported_shape word_shape) (reported (loose_at b) O) call (held_as h)).1
      = ap (λ x. x.1) (handed_is call h a h' full m).0 ∙ same_next call (held_as h) in
      λ i. (reports call h a h' m i, n i)

  -- a list of calls over every buffer, any cursor
  pub ran_is : (cs : List CursorCall) (h : Held) (rs : List (Answer (TokenTree × Loose) × Held)) → Full h → Ran b k parts symbols cs h rs
      → map in_words rs ≡ cursor_run word_shape O cs (held_as h)
  unfolding Ran cursor_run
  ran_is [] h [] full r = refl
  ran_is [] h (x ∷ xs) full r = absurd r
  ran_is (c ∷ cs) h [] full r = absurd r
  ran_is (c ∷ cs) h (x ∷ xs) full r =
      let q = handed_is c h x.0 x.1 full r.0 in
      ap (λ y. in_words x ∷ y) (ran_is cs x.1 xs q.1 r.1)
      ∙ ap (λ (y : Answer (List ℕ) × calls.Cursor). y ∷ cursor_run word_shape O cs y.1) q.0

  -- … and with reports
  pub ran_reported : (cs : List CursorCall) (h : Held) (rs : List (Answer (TokenTree × Loose) × Held)) → Full h → Ran b k parts symbols cs h rs
      → map in_report rs ≡ cursor_run (reported_shape word_shape) (reported (loose_at b) O) cs (held_as h)
  unfolding Ran cursor_run
  ran_reported [] h [] full r = refl
  ran_reported [] h (x ∷ xs) full r = absurd r
  ran_reported (c ∷ cs) h [] full r = absurd r
  ran_reported (c ∷ cs) h (x ∷ xs) full r =
      ap (λ y. in_report x ∷ y) (ran_reported cs x.1 xs (handed_is c h x.0 x.1 full r.0).1 r.1)
      ∙ ap (λ (y : Answer (List ℕ × Loose) × calls.Cursor). y ∷ cursor_run (reported_shape word_shape) (reported (loose_at b) O) cs y.1) (handed_reported c h x.0 x.1 full r.0)

  module _ (ok : buffer_check b k parts symbols ≡ passed) where
    -- from any fresh cursor, whatever its arrays hold
    pub cursor_rule : (h : Held) → Full h → held_as h ≡ calls.fresh_cursor → (cs : List CursorCall) (rs : List (Answer (TokenTree × Loose) × Held)) → Ran b k parts symbols cs h rs
        → map in_words rs ≡ plain_cursor_run word_shape (listing word_shape O) cs fresh_state
    cursor_rule h full e cs rs r = ran_is cs h rs full r ∙ ap (cursor_run word_shape O cs) e ∙ (own_walk_rule b k parts symbols ok).cursors cs

    -- with the report on each tree
    pub report_rule : (h : Held) → Full h → held_as h ≡ calls.fresh_cursor → (cs : List CursorCall) (rs : List (Answer (TokenTree × Loose) × Held)) → Ran b k parts symbols cs h rs
        → map in_report rs ≡ plain_cursor_run (reported_shape word_shape) (listing (reported_shape word_shape) (reported (loose_at b) O)) cs fresh_state
    report_rule h full e cs rs r =
        ran_reported cs h rs full r ∙ ap (cursor_run (reported_shape word_shape) (reported (loose_at b) O) cs) e ∙ (own_reported_rule b k parts symbols ok).cursors cs

    fresh_full : Full (held fresh_cursor)
    fresh_full = record { numbers = length-replicate {A = ℕ} 256 0; counts = length-replicate {A = ℕ} 256 0; places = length-replicate {A = ℕ} 256 0 }

    -- from the cursor of `fresh`
    pub fresh_rule : (cs : List CursorCall) (rs : List (Answer (TokenTree × Loose) × Held)) → Ran b k parts symbols cs (held fresh_cursor) rs
        → map in_words rs ≡ plain_cursor_run word_shape (listing word_shape O) cs fresh_state
    unfolding opened
    fresh_rule = cursor_rule (held fresh_cursor) fresh_full refl

    pub fresh_report_rule : (cs : List CursorCall) (rs : List (Answer (TokenTree × Loose) × Held)) → Ran b k parts symbols cs (held fresh_cursor) rs
        → map in_report rs ≡ plain_cursor_run (reported_shape word_shape) (listing (reported_shape word_shape) (reported (loose_at b) O)) cs fresh_state
    unfolding opened
    fresh_report_rule = report_rule (held fresh_cursor) fresh_full refl
