-- The root in its 33 bytes: what stands at which byte, and what is read from that.
use Prim.Native.Nat.{ℕ, ◌/◌, ◌%◌, ◌≤◌}
use mathlib.Core.Path.{◌≡◌, sym, ◌∙◌, subst}
use mathlib.Core.List.{List}
use native.Mathlib.Omega.{arith}
use borrow.Author.Tests.{le-leb}
use lib.ListN.{length}
use Rattle.format.specs.Word.{byte_at, word_at}
use Rattle.format.specs.Span.{Span, span, span_at}
use Rattle.format.specs.Reader.{Reply, got}
use Rattle.format.specs.Tree.{Raw, subtree, controlled, after_span, tree_at}
use Rattle.format.proofs.TreeBounds.{Ended, tree_ended}
use Rattle.format.proofs.RootForm.{heavy_at, root_at, heavy_span, root_form, root_is}

module _ (b : List ℕ) where
  -- the open span s, the control byte of form 101, the close span t
  pub record RootStands (s t : Span) : Type 0 where
    pub room : 33 ≤ length b
    pub opens : span_at b 0 ≡ span 0 s 12
    pub form : byte_at b 12 % 8 ≡ 5
    pub extra : ℕ
    pub closes : span_at b 13 ≡ span extra t 25

  -- count, kind and children bytes stand behind them
  abbrev pub root_of : Span → Span → Reply Raw
  root_of s t = got (subtree s t (word_at b 25) (byte_at b 12 / 8)) 33 (word_at b 29)

  pub root_read : (s t : Span) → RootStands s t → tree_at b 0 ≡ root_of s t
  unfolding tree_at after_span controlled
  root_read s t r =
      let h = r.room in
      let e = r.opens in
      let f = r.form in
      let g = r.closes in
      let x = le-leb 13 (length b) (omega arith) in
      let y = le-leb 33 (length b) (omega arith) in
      simp (e, x, f, g, y)

  pub root_stands : (s t : Span) (n d kids : ℕ) → tree_at b 0 ≡ got (subtree s t n d) 33 kids → RootStands s t
  root_stands s t n d kids e =
      let F = root_form b 0 (subtree s t n d) kids e in
      let h : 33 ≤ length b = (subst (Ended b 0) e (tree_ended b 0)).1 in
      let q : root_at b 0 ≡ got (subtree s t n d) 33 kids = sym (root_is b 0 (subtree s t n d) kids e) ∙ e in
      let i : heavy_at b 0 ≡ s = cc in
      let j : heavy_at b 13 ≡ t = cc in
      let o = F.plain in
      let x = le-leb 12 (length b) (omega arith) in
      let y = le-leb 25 (length b) (omega arith) in
      record {
        room = h;
        opens = heavy_span b 0 F.first ∙ simp (x, o, i);
        form = F.control;
        extra = word_at b 13 % 4;
        closes = heavy_span b 13 F.second ∙ simp (y, j);
      }
