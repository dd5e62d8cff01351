-- Distance bits (document 02, ticket 6) over all buffers: a 000 subtree that is read, passed or written repeats its stored length, which is its distance and at most 2047;
-- one that does not is 2 wherever it is read.
use Prim.Native.Nat.{ℕ, ◌+◌, ◌/◌, ◌%◌, ◌≤◌, ◌<◌}
use mathlib.Core.Bool.{Bool, true, false}
use mathlib.Core.Path.{◌≡◌, refl, ap, ◌∙◌}
use mathlib.Core.List.{List}
use native.Mathlib.Omega.{arith}
use borrow.Author.Tests.{le-leb, eqb-true}
use lib.Dec.{eqb}
use lib.ListN.{length}
use Rattle.std.specs.Prelude.{if◌then◌else◌}
use Rattle.format.specs.Verdict.{passed, refused}
use Rattle.format.specs.Word.{AreBytes, byte_at}
use Rattle.format.specs.Span.{Span}
use Rattle.format.specs.Reader.{Reader, got, bad}
use Rattle.format.specs.Reader as answers
use Rattle.format.specs.Tree.{Raw, subtree, bits_agree, controlled, after_span, tree_at}
use Rattle.format.specs.Check.{place_of, read_rule, listing}
use Rattle.format.specs.Walk.{Walk, WalkCall, advance, skip, walk_fits, walk_step}
use Rattle.format.specs.Tables.{limits, rules, own_mode, own_tables}
use Rattle.format.specs.Buffer.{word_shape, own_reader, buffer_check}
use Rattle.format.specs.WordList.{list_count}
use Rattle.format.specs.Writer.{list_verdict, packed}
use Rattle.format.proofs.CheckRefusal.{tree}
use Rattle.format.proofs.Unread.{Form000, Disagrees}
use Rattle.format.proofs.TreeRefusal.{bits, row_tree, row_own, refusal_own}
use Rattle.format.proofs.WriterLaw.{packed_passes}
use Rattle.format.proofs.WriteBytes.{packed_bytes}
use Rattle.format.proofs.Own.{own_clean}

module _ (b : List ℕ) where
  -- both lengths 1, the stored length as the distance
  abbrev pub tree000 : Span → ℕ → Raw
  tree000 s q =
      subtree (record { index = s.index; start = s.start; len = 1 }) (record { index = s.index; start = s.start + s.len; len = 1 }) (byte_at b (q + 1))
      (byte_at b q / 8 % 4)

  -- a 000 with this span and control byte was read as t: "those bits equal the stored length / 256"
  pub record Agrees (s : Span) (q : ℕ) (t : Raw) : Type 0 where
    pub bits : byte_at b q / 32 ≡ s.len / 256
    pub reads : t ≡ tree000 s q

  bad_got : {A : Type 0} (r : ℕ) (t : Raw) (next kids : ℕ) → bad r ≡ got t next kids → A
  bad_got r t next kids e = let z : ◌≡◌ {A = ℕ} 0 1 = cc in absurd (omega arith)

  same_tree : (t u : Raw) (m n k l : ℕ) → got t m k ≡ got u n l → u ≡ t
  same_tree t u m n k l e = cc

  -- READ: it agrees
  pub read_agrees : (p : ℕ) (s : Span) (q : ℕ) → Form000 b p s q → (t : Raw) (next kids : ℕ) → tree_at b p ≡ got t next kids → Agrees s q t
  unfolding tree_at after_span controlled
  read_agrees p s q h t next kids e =
      let d = h.plain in
      let o = h.form in
      let l = h.room in
      let g = le-leb (q + 1) (length b) (omega arith) in
      let i = le-leb (q + 3) (length b) l in
      by _ refl (simp (d, g, o, i) at e)
    where
      by : (x : Bool) → bits_agree s (byte_at b q) ≡ x → (if bits_agree s (byte_at b q) then got (tree000 s q) (q + 3) (byte_at b (q + 2)) else bad 2) ≡ got t next kids
          → Agrees s q t
      by false f z = bad_got 2 t next kids (simp f at z)
      by true f z = record { bits = eqb-true (byte_at b q / 32) (s.len / 256) f; reads = same_tree _ t _ next _ kids (simp f at z) }

  -- its distance is at most 2047
  pub agrees_most : (s : Span) (q : ℕ) (t : Raw) → AreBytes b → Agrees s q t → s.len ≤ 2047
  agrees_most s q t bytes a =
      let l = bytes.below q in
      let e = a.bits in
      omega arith

module _ (b : List ℕ) (k : ℕ) (parts symbols : List ℕ) where
  abbrev R : Reader (List ℕ)
  R = own_reader b k parts symbols

  abbrev place : ℕ → ℕ
  place = place_of word_shape R

  -- tree n of the list that was read is that of the 000 there
  pub record Listed000 (n : ℕ) (s : Span) (q : ℕ) : Type 0 where
    pub bits : byte_at b q / 32 ≡ s.len / 256
    pub tree : (listing word_shape R).tree n ≡ (own_tables parts symbols).words n (tree000 b s q)
    pub most : AreBytes b → s.len ≤ 2047

  -- PASSED: every 000 agrees, and is in the list with its stored length as its distance
  pub own_agrees : buffer_check b k parts symbols ≡ passed → (n : ℕ) → n < k → (s : Span) (q : ℕ) → Form000 b (place n) s q → Listed000 n s q
  own_agrees ok n l s q h =
      let c = own_clean b k parts symbols ok n l in
      let a = read_agrees b (place n) s q h c.raw _ _ c.stands in
      record {
        bits = a.bits;
        tree = c.shown ∙ ap ((own_tables parts symbols).words n) a.reads;
        most = λ bytes. agrees_most b s q c.raw bytes a;
      }

  -- DISAGREEMENT IS 2: in reading any tree at any place, so in every walk step that comes to it, whose state stays
  pub read_disagrees : (n p : ℕ) → Disagrees b p → R.read n p ≡ bad 2
  unfolding own_reader
  read_disagrees n p d =
      let T = own_tables parts symbols in
      row_tree b (limits (own_mode parts symbols)) n p T.words (rules T) (λ t. refl) 2 (bits d)

  pub walk_disagrees : (c : WalkCall) (w : Walk) → R.sized ≡ true → walk_fits word_shape R w ≡ true → eqb w.left 0 ≡ false → Disagrees b w.place
      → walk_step word_shape R c w ≡ (answers.refused 2 w.number, w)
  unfolding walk_step
  walk_disagrees advance w z f l d = let e = read_disagrees w.number w.place d in simp (z, f, l, e)
  walk_disagrees skip w z f l d = let e = read_disagrees w.number w.place d in simp (z, f, l, e)

  -- … and in the check, at the first tree that is not read
  pub own_disagrees : (n : ℕ) → R.sized ≡ true → n < k → ((m : ℕ) → m < n → read_rule word_shape R m ≡ passed) → Disagrees b (place n)
      → buffer_check b k parts symbols ≡ refused 2 n
  unfolding own_reader
  own_disagrees n z l f d = refusal_own b k parts symbols 2 n (tree 2 n z l (row_own b k parts symbols n 2 (bits d)) f)

-- WRITTEN: every 000 agrees, and its distance is at most 2047
pub packed_agrees : (parts symbols l : List ℕ) → list_verdict parts symbols l ≡ passed → (n : ℕ) → n < list_count l → (s : Span) (q : ℕ)
    → Form000 (packed parts symbols l) (place_of word_shape (own_reader (packed parts symbols l) (list_count l) parts symbols) n) s q
    → Listed000 (packed parts symbols l) (list_count l) parts symbols n s q × (s.len ≤ 2047)
packed_agrees parts symbols l ok n h s q f =
    let a = own_agrees (packed parts symbols l) (list_count l) parts symbols (packed_passes parts symbols l ok) n h s q f in
    (a, a.most (packed_bytes parts symbols l ok))
