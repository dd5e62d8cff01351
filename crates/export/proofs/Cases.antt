-- One law for each return.
use Prim.Native.Nat.{ℕ, ◌+◌, ◌<◌, ◌≤◌}
use mathlib.Core.Path.{◌≡◌, refl, sym, ap, ◌∙◌}
use mathlib.Core.Bool.{Bool}
use mathlib.Core.List.{List, [], ◌∷◌}
use borrow.Author.Tests.{lt-ltb, le-ltb}
use lib.ListN.{length, set}
use lib.Seq.{sets-eq}
use Rattle.std.specs.Prelude.{Option, Some, None, Result, Ok, Err}
use Rattle.format.specs.Word.{put}
use Rattle.format.specs.Span.{Span, span_at, symbol_at}
use Rattle.pack.specs.Answer.{decoded_answer, symbol_answer}
use Rattle.pack.specs.Packing.{SpanPacked, SymbolPacked}
use Rattle.pack.specs.declared.span.DecodedSpan.{DecodedSpan}
use Rattle.pack.specs.declared.symbol.SymbolAt.{SymbolAt}
use mathlib.Core.Bool.{true, false}
use native.Mathlib.Omega.{arith}
use Rattle.format.specs.Tree.{subtree}
use Rattle.format.specs.WordList.{word_of, raw_from, word_fields}
use Rattle.tree.specs.Raw.{raw_tree, raw_of}
use Rattle.tree.specs.Words.{raw_words_answer}
use Rattle.tree.specs.declared.raw.RawTree.{RawTree}
use Rattle.tree.proofs.RawAgain.{raw_again}
use mathlib.Core.List.{◌++◌}
use Rattle.format.specs.Loose.{bit, loose_at, beside}
use Rattle.tree.specs.Loose.{loose_of}
use Rattle.tree.specs.Types.{tree_words_of}
use Rattle.format.specs.Reader.{got, bad}
use Rattle.decode.specs.Decode.{decoded_of, decoded}
use Rattle.decode.specs.declared.loose.Reported.{Reported}
use Rattle.tree.specs.declared.types.TokenTree.{TokenTree}
use Rattle.encode.specs.Encode.{TreePacked}
use Rattle.export.specs.Replies.{refusal_code}
use Rattle.export.specs.Code.{code_of, SpanStored, SymbolStored, span_words, symbol_words, SpanFound, SymbolFound, TreeStored, RootStored, found_size, TreeFound}
use Rattle.export.specs.Steps.{loose_words}

pub span_stored : (b : List ℕ) (at : ℕ) (heavy : Bool) (x : ℕ) (s : Span) (p : Result ℕ ℕ) (r : ℕ) (b' : List ℕ) → SpanPacked b at heavy x s p b' → r ≡ code_of p → SpanStored b at heavy x s r b'
span_stored b at heavy x s p r b' q e = record { reply = e ∙ ap code_of q.answer; contents = q.contents }

pub symbol_stored : (b : List ℕ) (at t i : ℕ) (p : Result ℕ ℕ) (r : ℕ) (b' : List ℕ) → SymbolPacked b at t i p b' → r ≡ code_of p → SymbolStored b at t i r b'
symbol_stored b at t i p r b' q e = record { reply = e ∙ ap code_of q.answer; contents = q.contents }

module _ (b : List ℕ) (at : ℕ) (w : List ℕ) where
  pub span_few : length w < 5 → SpanFound b at w 9223372036854775814 w
  span_few h = let t = lt-ltb (length w) 5 h in record { reply = simp t; contents = simp t }

  pub symbol_few : length w < 2 → SymbolFound b at w 9223372036854775814 w
  symbol_few h = let t = lt-ltb (length w) 2 h in record { reply = simp t; contents = simp t }

  module _ (h : 5 ≤ length w) (a : Option DecodedSpan) (e : a ≡ decoded_answer at (span_at b at)) where
    pub span_none : a ≡ None → SpanFound b at w 9223372036854775815 w
    span_none k = let t = le-ltb (length w) 5 h in let f = sym e ∙ k in record { reply = simp (t, f); contents = simp (t, f) }

    pub span_some : (y : DecodedSpan) (w' : List ℕ) → a ≡ Some y → w' ≡ put w 0 (span_words y) → SpanFound b at w y.next w'
    span_some y w' k q = let t = le-ltb (length w) 5 h in let f = sym e ∙ k in record { reply = simp (t, f); contents = simp (t, f) q }

  module _ (h : 2 ≤ length w) (a : Option SymbolAt) (e : a ≡ symbol_answer (symbol_at b at)) where
    pub symbol_none : a ≡ None → SymbolFound b at w 9223372036854775815 w
    symbol_none k = let t = le-ltb (length w) 2 h in let f = sym e ∙ k in record { reply = simp (t, f); contents = simp (t, f) }

    pub symbol_some : (y : SymbolAt) (w' : List ℕ) → a ≡ Some y → w' ≡ put w 0 (symbol_words y) → SymbolFound b at w y.next w'
    symbol_some y w' k q = let t = le-ltb (length w) 2 h in let f = sym e ∙ k in record { reply = simp (t, f); contents = simp (t, f) q }

-- ---- trees

got_bad : {A : Type 0} (t : RawTree) (k : ℕ) → ◌≡◌ {A = Result RawTree ℕ} (Ok t) (Err k) → A
got_bad t k e = let z : ◌≡◌ {A = ℕ} 0 1 = cc in absurd (omega arith)

got_same : (t u : RawTree) → ◌≡◌ {A = Result RawTree ℕ} (Ok t) (Ok u) → t ≡ u
got_same t u e = cc

bad_same : (j k : ℕ) → ◌≡◌ {A = Result RawTree ℕ} (Err j) (Err k) → j ≡ k
bad_same j k e = cc

-- what an answer says of the words
raw_read : (o c y : ℕ) (w : ℕ → ℕ) (t : RawTree) → raw_words_answer o c y w ≡ Ok t → (word_fields w ≡ true) × (t ≡ raw_tree (raw_from o c y w))
unfolding raw_words_answer
raw_read o c y w t e = go (word_fields w) refl
  where
    go : (x : Bool) → word_fields w ≡ x → (word_fields w ≡ true) × (t ≡ raw_tree (raw_from o c y w))
    go true f = let d : ◌≡◌ {A = Result RawTree ℕ} (Ok (raw_tree (raw_from o c y w))) (Ok t) = simp f at e in (f, sym (got_same (raw_tree (raw_from o c y w)) t d))
    go false f = let d : ◌≡◌ {A = Result RawTree ℕ} (Err 2) (Ok t) = simp f at e in got_bad t 2 (sym d)

raw_none : (o c y : ℕ) (w : ℕ → ℕ) (k : ℕ) → raw_words_answer o c y w ≡ Err k → (word_fields w ≡ false) × (k ≡ 2)
unfolding raw_words_answer
raw_none o c y w k e = go (word_fields w) refl
  where
    go : (x : Bool) → word_fields w ≡ x → (word_fields w ≡ false) × (k ≡ 2)
    go true f = let d : ◌≡◌ {A = Result RawTree ℕ} (Ok (raw_tree (raw_from o c y w))) (Err k) = simp f at e in got_bad (raw_tree (raw_from o c y w)) k d
    go false f = let d : ◌≡◌ {A = Result RawTree ℕ} (Err 2) (Err k) = simp f at e in (f, sym (bad_same 2 k d))

module _ (b : List ℕ) (at : ℕ) (w : List ℕ) (o c y kids : ℕ) (a : Result RawTree ℕ) (e : a ≡ raw_words_answer o c y (word_of w 0)) where
  pub tree_refused : (k r : ℕ) → a ≡ Err k → r ≡ refusal_code k → TreeStored b at w o c y kids r b
  tree_refused k r h q =
      let n = raw_none o c y (word_of w 0) k (sym e ∙ h) in
      let t : word_fields (word_of w 0) ≡ false = n.0 in
      record { reply = simp t (q ∙ ap refusal_code n.1); contents = simp t }

  pub tree_stored : (q : RawTree) → a ≡ Ok q → (p : Result ℕ ℕ) (r : ℕ) (b' : List ℕ) → TreePacked b at 1 (raw_of q) kids p b' → r ≡ code_of p → TreeStored b at w o c y kids r b'
  tree_stored q h p r b' k d =
      let n = raw_read o c y (word_of w 0) q (sym e ∙ h) in
      let t : word_fields (word_of w 0) ≡ true = n.0 in
      let z : raw_of q ≡ raw_from o c y (word_of w 0) = ap raw_of n.1 ∙ raw_again (raw_from o c y (word_of w 0)) in
      let m : TreePacked b at 1 (raw_from o c y (word_of w 0)) kids p b' = rw (← z) k in
      record { reply = simp t (d ∙ ap code_of m.answer); contents = simp t m.contents }

pub root_stored : (b : List ℕ) (at : ℕ) (s t : Span) (n d kids : ℕ) (p : Result ℕ ℕ) (r : ℕ) (b' : List ℕ) → TreePacked b at 0 (subtree s t n d) kids p b' → r ≡ code_of p → RootStored b at s t n d kids r b'
root_stored b at s t n d kids p r b' k e = record { reply = e ∙ ap code_of k.answer; contents = k.contents }

-- ---- a tree that is read

module _ (b parts symbols : List ℕ) (n at : ℕ) (w : List ℕ) where
  pub tree_few : length w < found_size → TreeFound b parts symbols n at w 9223372036854775814 w
  tree_few h = let t = lt-ltb (length w) found_size h in record { reply = simp t; contents = simp t }

  module _ (h : found_size ≤ length w) (a : Result (Reported TokenTree) ℕ) (e : decoded_of a ≡ beside (loose_at b at) (decoded b parts symbols n at)) where
    pub tree_none : (k r : ℕ) → a ≡ Err k → r ≡ refusal_code k → TreeFound b parts symbols n at w r w
    unfolding decoded_of
    tree_none k r d q = let t = le-ltb (length w) found_size h in let f : beside (loose_at b at) (decoded b parts symbols n at) ≡ bad k = sym e ∙ ap decoded_of d in record { reply = simp (t, f) q; contents = simp (t, f) }

    pub tree_some : (y : Reported TokenTree) (ws w' : List ℕ) → a ≡ Ok y → ws ≡ tree_words_of y.tree → w' ≡ put w 0 (ws ++ y.children.0 ∷ loose_words (loose_of y.loose)) → TreeFound b parts symbols n at w y.next w'
    unfolding decoded_of
    tree_some y ws w' d g q =
        let t = le-ltb (length w) found_size h in
        let f : beside (loose_at b at) (decoded b parts symbols n at) ≡ got (y.tree, loose_of y.loose) y.next y.children.0 = sym e ∙ ap decoded_of d in record { reply = simp (t, f); contents = simp (t, f) (q ∙ rw g) }

pub ruleset tree_cases = (tree_refused, tree_stored, root_stored, tree_few, tree_none, tree_some)

pub ruleset export_cases = (span_stored, symbol_stored, span_few, symbol_few, span_none, span_some, symbol_none, symbol_some)
