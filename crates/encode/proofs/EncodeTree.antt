-- What `encode` and `encode_top_subtree` answer and leave, and what a tree that has passed every row has in range.
use Prim.Native.Nat.{ℕ, ◌+◌, ◌-◌, ◌<◌, ◌≤◌}
use mathlib.Core.Bool.{Bool, true, false, not}
use mathlib.Core.Path.{◌≡◌, refl, sym, ap, ◌∙◌, subst}
use mathlib.Core.List.{List, [], ◌∷◌}
use native.Mathlib.Omega.{arith}
use borrow.Author.Tests.{le-leb, lt-leb, leb-true, ltb-true, not-true, not-false}
use lib.Dec.{leb, eqb}
use lib.ListN.{length}
use Rattle.std.specs.Prelude.{if◌then◌else◌, Ok, Err}
use Rattle.format.specs.Verdict.{passed, ◌and_then◌, rule}
use Rattle.format.specs.Word.{put}
use Rattle.format.specs.Span.{Span}
use Rattle.format.specs.Tree.{Raw, subtree, is_raw_kind}
use Rattle.format.specs.Fields.{span_fits, is_scalar, fields}
use Rattle.format.specs.Write.{join, span_bytes, symbol_bytes, tree_bytes}
use Rattle.format.specs.Pack.{room_for}
use Rattle.format.proofs.Each.{both, rule_passed, and_left, and_right, and₃, and₄}
use Rattle.format.proofs.WriteSize.{root_33}
use Rattle.pack.specs.Answer.{span_of, packed_answer}
use Rattle.tree.specs.Raw.{raw_of, punct_raw, ident_raw, literal_raw, subtree_raw}
use Rattle.encode.specs.Ready.{span_size, symbol_size, SpanReady, PunctReady, IdentReady, LiteralReady, SubtreeReady}
use Rattle.encode.specs.Encode.{part_fits, symbol_fits, indices, pack_tree, TreePacked}
use Rattle.tree.specs.declared.raw.RawPunct.{RawPunct}
use Rattle.tree.specs.declared.raw.RawIdent.{RawIdent}
use Rattle.tree.specs.declared.raw.RawLiteral.{RawLiteral}
use Rattle.tree.specs.declared.raw.RawSubtree.{RawSubtree}
use Rattle.tree.specs.declared.raw.RawTree.{RawTree}
use Rattle.tree.specs.declared.raw.RawTree.TheVariants.{Punct, Ident, Literal, Subtree}
use Rattle.tree.proofs.TypesWords.{count_255}
use Rattle.encode.proofs.SizeReturns.{size_ident}

-- ---- room

module _ (n at m : ℕ) where
  pub room_past : n < at → false ≡ leb (at + m) n
  room_past h = let k : n < at + m = omega arith in simp (lt-leb _ _ k)

  module _ (h : at ≤ n) where
    pub room_short : n - at < m → false ≡ leb (at + m) n
    room_short g = let k : n < at + m = omega arith in simp (lt-leb _ _ k)

    pub room_there : m ≤ n - at → true ≡ leb (at + m) n
    room_there g = let k : at + m ≤ n = omega arith in simp (le-leb _ _ k)

-- ---- the answers

module _ (b : List ℕ) (at m : ℕ) (t : Raw) (kids : ℕ) (y : Bool) (e : y ≡ fields t) where
  pub tree_2 : not y ≡ true → TreePacked b at m t kids (Err 2) b
  unfolding pack_tree packed_answer
  tree_2 h = let a : fields t ≡ false = sym e ∙ not-true y h in record { answer = simp a; contents = simp a }

  module _ (h : not y ≡ false) (z : Bool) (f : z ≡ indices t) where
    pub tree_8 : not z ≡ true → TreePacked b at m t kids (Err 8) b
    unfolding pack_tree packed_answer
    tree_8 g =
        let a : fields t ≡ true = sym e ∙ not-false y h in
        let c : indices t ≡ false = sym f ∙ not-true z g in
        record { answer = simp (a, c); contents = simp (a, c) }

    module _ (g : not z ≡ false) (n : ℕ) (d : n ≡ length (tree_bytes m t kids)) (w : Bool) (p : w ≡ leb (at + n) (length b)) where
      pub tree_6 : not w ≡ true → TreePacked b at m t kids (Err 6) b
      unfolding pack_tree packed_answer
      tree_6 q =
          let a : fields t ≡ true = sym e ∙ not-false y h in
          let c : indices t ≡ true = sym f ∙ not-false z g in
          let o : leb (at + length (tree_bytes m t kids)) (length b) ≡ false = ap (λ j. leb (at + j) (length b)) (sym d) ∙ sym p ∙ not-true w q in
          record { answer = simp (a, c, o); contents = simp (a, c, o) }

      module _ (q : not w ≡ false) where
        pub tree_passes : pack_tree b at m t kids ≡ passed
        unfolding pack_tree
        tree_passes =
            let a : fields t ≡ true = sym e ∙ not-false y h in
            let c : indices t ≡ true = sym f ∙ not-false z g in
            let o : leb (at + length (tree_bytes m t kids)) (length b) ≡ true = ap (λ j. leb (at + j) (length b)) (sym d) ∙ sym p ∙ not-false w q in
            simp (a, c, o)

        pub tree_written : (b' : List ℕ) → b' ≡ put b at (tree_bytes m t kids) → TreePacked b at m t kids (Ok n) b'
        unfolding packed_answer
        tree_written b' i = record { answer = rw tree_passes (ap Ok d); contents = i ∙ rw tree_passes }

-- the root takes 33 bytes
pub root_size : (s t : Span) (n d k : ℕ) → 33 ≡ length (tree_bytes 0 (subtree s t n d) k)
root_size s t n d k = sym (root_33 (subtree s t n d) k refl)

pub ruleset answer_cases = (room_past, room_short, room_there, tree_2, tree_8, tree_6, tree_passes, tree_written, root_size)

-- ---- what has passed

module _ (b : List ℕ) (at m : ℕ) (t : Raw) (kids : ℕ) (e : pack_tree b at m t kids ≡ passed) where
  split : (rule (fields t) 2 0 ≡ passed) × ((rule (indices t) 8 0 and_then room_for b at (tree_bytes m t kids)) ≡ passed)
  unfolding pack_tree
  split = both (rule (fields t) 2 0) (rule (indices t) 8 0 and_then room_for b at (tree_bytes m t kids)) e

  pub passed_fields : fields t ≡ true
  passed_fields = rule_passed (fields t) 2 0 split.0

  pub passed_indices : indices t ≡ true
  passed_indices = rule_passed (indices t) 8 0 (both (rule (indices t) 8 0) (room_for b at (tree_bytes m t kids)) split.1).0

  pub passed_room : at + length (tree_bytes m t kids) ≤ length b
  passed_room = leb-true (at + length (tree_bytes m t kids)) (length b) (rule_passed (leb (at + length (tree_bytes m t kids)) (length b)) 6 0 (both (rule (indices t) 8 0) (room_for b at (tree_bytes m t kids)) split.1).1)

span_ready : (s : Span) → span_fits s ≡ true → part_fits s ≡ true → SpanReady s
span_ready s e f = record { ends = leb-true (s.start + s.len) 4294967295 e; part = ltb-true s.index 268435456 f }

-- fields and indices in range
fit_punct : (p : RawPunct) → fields (punct_raw p) ≡ true → indices (punct_raw p) ≡ true → PunctReady p
fit_punct p e f =
    let a = and₃ (span_fits (span_of p.span)) (is_scalar p.char) (leb p.spacing 2) e in
    record { span = span_ready (span_of p.span) a.0 f; spacing = leb-true p.spacing 2 a.2 }

fit_ident : (p : RawIdent) → fields (ident_raw p) ≡ true → indices (ident_raw p) ≡ true → IdentReady p
fit_ident p e f =
    let s : Span = span_of p.span in
    record {
      span = span_ready s (and_left (span_fits s) (leb p.raw 1) e) (and_left (part_fits s) (symbol_fits p.symbol) f);
      symbol = ltb-true p.symbol 536870912 (and_right (part_fits s) (symbol_fits p.symbol) f);
      raw = leb-true p.raw 1 (and_right (span_fits s) (leb p.raw 1) e);
    }

fit_literal : (p : RawLiteral) → fields (literal_raw p) ≡ true → indices (literal_raw p) ≡ true → LiteralReady p
fit_literal p e f =
    let s : Span = span_of p.span in
    let a = and₄ (span_fits s) (leb p.kind 10) (if is_raw_kind p.kind then leb p.raw_count 255 else eqb p.raw_count 0) (leb p.suffix_len 255) e in
    record {
      span = span_ready s a.0 (and_left (part_fits s) (symbol_fits p.symbol) f);
      symbol = ltb-true p.symbol 536870912 (and_right (part_fits s) (symbol_fits p.symbol) f);
      kind = leb-true p.kind 10 a.1;
      count = count_255 p.raw_count (is_raw_kind p.kind) a.2;
      suffix = leb-true p.suffix_len 255 a.3;
    }

fit_subtree : (p : RawSubtree) → fields (subtree_raw p) ≡ true → indices (subtree_raw p) ≡ true → SubtreeReady p
fit_subtree p e f =
    let s : Span = span_of p.opening in
    let t : Span = span_of p.closing in
    let a = and₃ (span_fits s) (span_fits t) (leb p.kind 3) e in
    record {
      opening = span_ready s a.0 (and_left (part_fits s) (part_fits t) f);
      closing = span_ready t a.1 (and_right (part_fits s) (part_fits t) f);
      kind = leb-true p.kind 3 a.2;
    }

-- a tree below the root
module _ (b : List ℕ) (at kids : ℕ) (tree : RawTree) (e : pack_tree b at 1 (raw_of tree) kids ≡ passed) where
  module _ (p : RawPunct) (h : tree ≡ Punct p) where
    ok_punct : pack_tree b at 1 (punct_raw p) kids ≡ passed
    unfolding raw_of
    ok_punct = subst (λ (u : RawTree). pack_tree b at 1 (raw_of u) kids ≡ passed) h e

    pub punct_ready : PunctReady p
    punct_ready = fit_punct p (passed_fields b at 1 (punct_raw p) kids ok_punct) (passed_indices b at 1 (punct_raw p) kids ok_punct)

    pub punct_room : at + length (tree_bytes 1 (punct_raw p) 0) ≤ length b
    unfolding tree_bytes
    punct_room = passed_room b at 1 (punct_raw p) kids ok_punct

    pub punct_put : (b₁ : List ℕ) → b₁ ≡ put b at (tree_bytes 1 (punct_raw p) 0) → b₁ ≡ put b at (tree_bytes 1 (raw_of tree) kids)
    unfolding tree_bytes raw_of
    punct_put b₁ q = q ∙ rw h

  module _ (p : RawIdent) (h : tree ≡ Ident p) where
    ok_ident : pack_tree b at 1 (ident_raw p) kids ≡ passed
    unfolding raw_of
    ok_ident = subst (λ (u : RawTree). pack_tree b at 1 (raw_of u) kids ≡ passed) h e

    pub ident_ready : IdentReady p
    ident_ready = fit_ident p (passed_fields b at 1 (ident_raw p) kids ok_ident) (passed_indices b at 1 (ident_raw p) kids ok_ident)

    pub ident_room : at + span_size (span_of p.span) + symbol_size p.symbol ≤ length b
    ident_room =
        let r = passed_room b at 1 (ident_raw p) kids ok_ident in
        omega (arith, size_ident (span_of p.span) (span_size (span_of p.span)) refl p.symbol (symbol_size p.symbol) refl p.raw kids)

    pub ident_put : (b₁ : List ℕ) → b₁ ≡ put b at (join (span_bytes 2 (span_of p.span) ∷ symbol_bytes p.raw p.symbol ∷ [])) → b₁ ≡ put b at (tree_bytes 1 (raw_of tree) kids)
    unfolding tree_bytes raw_of
    ident_put b₁ q = q ∙ rw h

  module _ (p : RawLiteral) (h : tree ≡ Literal p) where
    ok_literal : pack_tree b at 1 (literal_raw p) kids ≡ passed
    unfolding raw_of
    ok_literal = subst (λ (u : RawTree). pack_tree b at 1 (raw_of u) kids ≡ passed) h e

    pub literal_ready : LiteralReady p
    literal_ready = fit_literal p (passed_fields b at 1 (literal_raw p) kids ok_literal) (passed_indices b at 1 (literal_raw p) kids ok_literal)

    pub literal_room : at + length (tree_bytes 1 (literal_raw p) 0) ≤ length b
    unfolding tree_bytes
    literal_room = passed_room b at 1 (literal_raw p) kids ok_literal

    pub literal_put : (b₁ : List ℕ) → b₁ ≡ put b at (tree_bytes 1 (literal_raw p) 0) → b₁ ≡ put b at (tree_bytes 1 (raw_of tree) kids)
    unfolding tree_bytes raw_of
    literal_put b₁ q = q ∙ rw h

  module _ (p : RawSubtree) (h : tree ≡ Subtree p) where
    ok_subtree : pack_tree b at 1 (subtree_raw p) kids ≡ passed
    unfolding raw_of
    ok_subtree = subst (λ (u : RawTree). pack_tree b at 1 (raw_of u) kids ≡ passed) h e

    pub subtree_ready : SubtreeReady p
    subtree_ready = fit_subtree p (passed_fields b at 1 (subtree_raw p) kids ok_subtree) (passed_indices b at 1 (subtree_raw p) kids ok_subtree)

    pub subtree_room : at + length (tree_bytes 1 (subtree_raw p) kids) ≤ length b
    subtree_room = passed_room b at 1 (subtree_raw p) kids ok_subtree

    pub subtree_put : (b₁ : List ℕ) → b₁ ≡ put b at (tree_bytes 1 (subtree_raw p) kids) → b₁ ≡ put b at (tree_bytes 1 (raw_of tree) kids)
    unfolding raw_of
    subtree_put b₁ q = q ∙ rw h

-- the root
module _ (b : List ℕ) (at kids : ℕ) (p : RawSubtree) (e : pack_tree b at 0 (subtree_raw p) kids ≡ passed) where
  pub root_ready : SubtreeReady p
  root_ready = fit_subtree p (passed_fields b at 0 (subtree_raw p) kids e) (passed_indices b at 0 (subtree_raw p) kids e)

  pub root_room : at + 33 ≤ length b
  root_room =
      let r = passed_room b at 0 (subtree_raw p) kids e in
      omega (arith, root_size (span_of p.opening) (span_of p.closing) p.len.0 p.kind kids)

pub ruleset passed_cases = (punct_ready, punct_room, punct_put, ident_ready, ident_room, ident_put, literal_ready, literal_room, literal_put, subtree_ready, subtree_room, subtree_put)

pub ruleset root_cases = (root_ready, root_room)
