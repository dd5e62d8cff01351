-- One law for each return of the parts of a call, with premises as the code's tests and calls give them.
use Prim.Native.Nat.{ℕ, zero, suc, ◌+◌, ◌-◌, ◌<◌, ◌≤◌}
use mathlib.Core.Bool.{Bool, true, false, not, ◌&&◌}
use mathlib.Core.Path.{◌≡◌, refl, sym, ap, ◌∙◌, subst}
use mathlib.Core.List.{List, [], ◌∷◌}
use native.Mathlib.Omega.{arith}
use borrow.Author.Tests.{le-leb, lt-leb, leb-true, eq-eqb, ne_eqb, not-true, not-false}
use lib.Dec.{leb}
use lib.ListN.{length, get_or, drop}
use Rattle.std.specs.Prelude.{Result, Ok, Err}
use Rattle.format.specs.Reader.{Reader, Reply, got, bad, refused}
use Rattle.format.specs.Cursor.{Open, Cursor, CursorCall, bump, end, bump_or_end, closing, cursor_fits, bumped, go_on, shut, shut_last, drop_last, cursor_call, cursor_step, nested_in}
use Rattle.format.specs.Tree.{tree_at}
use Rattle.format.specs.Tables.{Mode, entry_at, own_mode}
use Rattle.format.specs.Loose.{Loose, loose_at, beside}
use Rattle.format.specs.Buffer.{judge}
use Rattle.format.proofs.Each.{and_left, and_right, true_false}
use Rattle.pack.specs.Answer.{span_of}
use Rattle.tree.specs.Loose.{loose_of}
use Rattle.tree.specs.declared.loose.Loose as looses
use Rattle.tree.specs.Raw.{RawAt, raw_of, raw_answer}
use Rattle.tree.specs.Types.{punct_with, ident_with, literal_with, subtree_with, resolved}
use Rattle.tree.specs.declared.raw.RawPunct.{RawPunct}
use Rattle.tree.specs.declared.raw.RawIdent.{RawIdent}
use Rattle.tree.specs.declared.raw.RawLiteral.{RawLiteral}
use Rattle.tree.specs.declared.raw.RawSubtree.{RawSubtree}
use Rattle.tree.specs.declared.raw.RawTree.{RawTree}
use Rattle.tree.specs.declared.raw.RawTree.TheVariants as raws
use Rattle.tree.specs.declared.types.TokenTree.{TokenTree}
use Rattle.tree.specs.declared.types.TokenTree.TheVariants as trees
use Rattle.tree.specs.declared.types.Leaf.{Leaf}
use Rattle.tree.specs.declared.types.Subtree.{Subtree}
use Rattle.tree.specs.Mode.{limits_of}
use Rattle.tree.specs.Tables.{mode_in}
use Rattle.tree.specs.declared.refusal.Refusal.{Refusal}
use Rattle.tree.specs.declared.tables.Tables.{Tables}
use Rattle.decode.specs.Judge.{limit_rules}
use Rattle.decode.specs.Decode.{TreeAt, read_in}
use Rattle.decode.proofs.DecodeUse.{sized_got, sized_refused}
use Rattle.walk.specs.Source.{trees_sized, sizes, tree_shape, tree_reader_in, report_shape, report_reader_in}
use Rattle.walk.proofs.BufferReturns.{mode_sized}
use Rattle.walk.proofs.WalkWords.{reads_decoded}
use Rattle.walk.proofs.WalkReturns.{leaf_flat, subtree_holds}
use Rattle.cursor.specs.Open.{opened, cursor_of, agreed, closes}
use Rattle.cursor.specs.Plan.{answer_of, changed, plan_of, refusal, doing, May, cursor_at, Enters, GoesOn, Shuts, ShutsLast, Planned}
use Rattle.cursor.specs.declared.state.At.{At}
use Rattle.cursor.specs.declared.plan.Reply.TheVariants as replies
use Rattle.cursor.specs.declared.plan.Change.TheVariants as changes
use Rattle.cursor.specs.declared.plan.Plan.{Plan}
use Rattle.cursor.proofs.OpenReturns.{opened_length, opened_last}

-- ---- plans

refused_plan : (r n : ℕ) (p : Plan) (c : Cursor) → p ≡ refusal r n → plan_of p c ≡ (refused r n, c)
unfolding answer_of changed
refused_plan r n p c e = rw e

refused_may : (r n : ℕ) (p : Plan) (c : At) → p ≡ refusal r n → May c p.change
unfolding May
refused_may r n p c e = rw e tt

module _ (y : TreeAt) (p : Subtree) (e : y.tree ≡ trees.Subtree p) where
  holds : tree_shape.is_sub y.tree ≡ true
  holds = ap tree_shape.is_sub e ∙ (subtree_holds p).0

  counts : tree_shape.count y.tree ≡ p.len.0
  counts = ap tree_shape.count e ∙ (subtree_holds p).1

-- ---- over a leaf, into a subtree

-- a tree shown by entries is of the sort that was read
module _ (M : Mode) (n : ℕ) (t : RawTree) where
  flat_punct : (p : RawPunct) → t ≡ raws.Punct p → tree_shape.is_sub (resolved M n (raw_of t)) ≡ false
  unfolding raw_of resolved
  flat_punct p e = ap (λ (u : RawTree). tree_shape.is_sub (resolved M n (raw_of u))) e ∙ leaf_flat (punct_with (entry_at M n p.span.index) (span_of p.span) p.char p.spacing)

  flat_ident : (p : RawIdent) → t ≡ raws.Ident p → tree_shape.is_sub (resolved M n (raw_of t)) ≡ false
  unfolding raw_of resolved
  flat_ident p e = ap (λ (u : RawTree). tree_shape.is_sub (resolved M n (raw_of u))) e ∙ leaf_flat (ident_with (entry_at M n p.span.index) M.symbols (span_of p.span) p.symbol p.raw)

  flat_literal : (p : RawLiteral) → t ≡ raws.Literal p → tree_shape.is_sub (resolved M n (raw_of t)) ≡ false
  unfolding raw_of resolved
  flat_literal p e =
      ap (λ (u : RawTree). tree_shape.is_sub (resolved M n (raw_of u))) e
      ∙ leaf_flat (literal_with (entry_at M n p.span.index) M.symbols (span_of p.span) p.symbol p.kind p.raw_count p.suffix_len)

  module _ (p : RawSubtree) (e : t ≡ raws.Subtree p) where
    raw_holds : tree_shape.is_sub (resolved M n (raw_of t)) ≡ true
    unfolding raw_of resolved
    raw_holds =
        ap (λ (u : RawTree). tree_shape.is_sub (resolved M n (raw_of u))) e
        ∙ (subtree_holds (subtree_with (entry_at M n p.opening.index) (entry_at M n p.closing.index) (span_of p.opening) (span_of p.closing) p.len.0 p.kind)).0

    raw_counts : tree_shape.count (resolved M n (raw_of t)) ≡ p.len.0
    unfolding raw_of resolved
    raw_counts =
        ap (λ (u : RawTree). tree_shape.count (resolved M n (raw_of u))) e
        ∙ (subtree_holds (subtree_with (entry_at M n p.opening.index) (entry_at M n p.closing.index) (span_of p.opening) (span_of p.closing) p.len.0 p.kind)).1

module _ (c : At) (y : RawAt) (r : Plan) where
  enter_flat : ((M : Mode) (n : ℕ) → tree_shape.is_sub (resolved M n (raw_of y.tree)) ≡ false) → c.number + 1 < 4294967296 → r ≡ doing (changes.On y.next) → Enters c y r
  unfolding answer_of changed May
  enter_flat d h q = record { step = λ R M n x os f. let g = d M n in rw q (simp g); may = rw q h }

  pub enter_punct : (p : RawPunct) → y.tree ≡ raws.Punct p → c.number + 1 < 4294967296 → r ≡ doing (changes.On y.next) → Enters c y r
  enter_punct p e h q = enter_flat (λ M n. flat_punct M n y.tree p e) h q

  pub enter_ident : (p : RawIdent) → y.tree ≡ raws.Ident p → c.number + 1 < 4294967296 → r ≡ doing (changes.On y.next) → Enters c y r
  enter_ident p e h q = enter_flat (λ M n. flat_ident M n y.tree p e) h q

  pub enter_literal : (p : RawLiteral) → y.tree ≡ raws.Literal p → c.number + 1 < 4294967296 → r ≡ doing (changes.On y.next) → Enters c y r
  enter_literal p e h q = enter_flat (λ M n. flat_literal M n y.tree p e) h q

  module _ (p : RawSubtree) (e : y.tree ≡ raws.Subtree p) where
    pub enter_deep : 256 ≤ c.depth → r ≡ refusal 4 c.number → Enters c y r
    enter_deep h q =
        record {
          step = λ R M n x os f.
              let g : leb 256 (length os) ≡ true = ap (leb 256) f ∙ le-leb _ _ h in
              refused_plan 4 c.number r (cursor_at c os) q ∙ simp (raw_holds M n y.tree p e, g);
          may = refused_may 4 c.number r c q;
        }

    pub enter_open : c.depth < 256 → c.number + 1 < 4294967296 → r ≡ doing (changes.Open (record { count = p.len; next = y.next })) → Enters c y r
    unfolding answer_of changed May
    enter_open h i q =
        record {
          step = λ R M n x os f.
              let g : leb 256 (length os) ≡ false = ap (leb 256) f ∙ lt-leb _ _ h in
              rw q (simp (raw_holds M n y.tree p e, raw_counts M n y.tree p e, g));
          may = rw q (i, h);
        }

pub ruleset enter_cases = (enter_punct, enter_ident, enter_literal, enter_deep, enter_open)

-- ---- to the next tree

module _ (b : List ℕ) (M : Mode) (k : ℕ) (c : At) (p : Plan) where
  pub go_end : k ≤ c.number → p ≡ doing changes.Stay → GoesOn b k M c p
  unfolding answer_of changed May report_reader_in tree_reader_in
  go_end h q = record { step = λ os f. rw q (simp (le-leb _ _ h)); may = rw q tt }

module _ (b : List ℕ) (t : Tables) (k : ℕ) (c : At) (p : Plan) (h : c.number < k) (r : Result RawAt ℕ)
    (f : r ≡ raw_answer (judge (λ n t. t) (limit_rules (limits_of t.limits)) c.number c.place (tree_at b c.place))) where
  abbrev M : Mode
  M = mode_in t

  before : leb (report_reader_in b k M).trees c.number ≡ false
  unfolding report_reader_in tree_reader_in
  before = lt-leb _ _ h

  goes : (z : Reply (TokenTree × Loose)) → beside (loose_at b c.place) (read_in b M c.number c.place) ≡ z → (os : List Open)
      → go_on report_shape (report_reader_in b k M) (cursor_at c os) ≡ bumped report_shape (report_reader_in b k M) (cursor_at c os) z
  goes z e os =
      let g = before in
      let d : (report_reader_in b k M).read c.number c.place ≡ z = reads_decoded b k M c.number c.place ∙ e in
      simp (g, d)

  pub go_refused : (i : ℕ) → r ≡ Err i → p ≡ refusal i c.number → GoesOn b k M c p
  go_refused i g q =
      let d = sized_refused b t.limits t.parts.now t.pair.now t.symbols.now t.whole c.number c.place r f i g in
      record {
        step = λ os e. refused_plan i c.number p (cursor_at c os) q ∙ sym (goes (bad i) (ap (beside (loose_at b c.place)) d) os);
        may = refused_may i c.number p c q;
      }

  pub go_got : (y : RawAt) → r ≡ Ok y → Enters c y p → GoesOn b k M c p
  go_got y g n =
      let d = sized_got b t.limits t.parts.now t.pair.now t.symbols.now t.whole c.number c.place r f y g in
      record {
        step = λ os e.
            n.step (report_reader_in b k M) M c.number (loose_at b c.place) os e
            ∙ sym (goes (got (resolved M c.number (raw_of y.tree), loose_at b c.place) y.next y.children.0) (ap (beside (loose_at b c.place)) d) os);
        may = n.may;
      }

pub ruleset go_cases = (go_end, go_refused, go_got)

-- ---- the last open subtree

module _ (y : TreeAt) (o : looses.Loose) (count : ℕ) where
  pub shut_leaf : (l : Leaf) (r : Plan) → y.tree ≡ trees.Leaf l → r ≡ refusal 10 0 → Shuts y (loose_of o) count r
  shut_leaf l r e q =
      let d : tree_shape.is_sub y.tree ≡ false = ap tree_shape.is_sub e ∙ leaf_flat l in
      record { step = λ R c o os f. refused_plan 10 0 r (cursor_at c (o ∷ os)) q ∙ simp d; may = λ c h. refused_may 10 0 r c q }

  module _ (p : Subtree) (e : y.tree ≡ trees.Subtree p) where
    pub shut_other : (p.len.0 ≡ count → ⊥) → (r : Plan) → r ≡ refusal 10 0 → Shuts y (loose_of o) count r
    shut_other h r q =
        record {
          step = λ R c o os f.
              let g : p.len.0 ≡ o.count → ⊥ = λ x. h (x ∙ f) in
              refused_plan 10 0 r (cursor_at c (o ∷ os)) q ∙ simp (holds y p e, counts y p e, ne_eqb _ _ g);
          may = λ c h. refused_may 10 0 r c q;
        }

    pub shut_same : p.len.0 ≡ count → (t : TokenTree) → t ≡ trees.Subtree p → Shuts y (loose_of o) count (record { answer = Ok (replies.Tree (record { tree = t; loose = o })); change = changes.Shut })
    unfolding answer_of changed May
    shut_same h t i =
        record {
          step = λ R c o os f.
              let g : p.len.0 ≡ o.count = h ∙ sym f in
              rw (i ∙ sym e) (simp (holds y p e, counts y p e, eq-eqb _ _ g));
          may = λ c h. h;
        }

pub ruleset shut_cases = (shut_leaf, shut_other, shut_same)

module _ (b : List ℕ) (M : Mode) (c : At) (ns cs ps : List ℕ) (h : 0 < c.depth) (p : Plan) where
  abbrev here : Reply TokenTree
  here = read_in b M (get_or ns (c.depth - 1) 0) (get_or ps (c.depth - 1) 0)

  abbrev report : Loose
  report = loose_at b (get_or ps (c.depth - 1) 0)

  abbrev last_open : Open
  last_open = record { number = get_or ns (c.depth - 1) 0; count = get_or cs (c.depth - 1) 0; place = get_or ps (c.depth - 1) 0 }

  lasts : (k : ℕ) (z : Reply (TokenTree × Loose)) → beside report (read_in b M (get_or ns (c.depth - 1) 0) (get_or ps (c.depth - 1) 0)) ≡ z
      → shut_last report_shape (report_reader_in b k M) (cursor_of c ns cs ps) (opened ns cs ps c.depth)
      ≡ shut report_shape (report_reader_in b k M) (cursor_of c ns cs ps) last_open (opened ns cs ps (c.depth - 1)) z
  lasts k z e =
      let d : (report_reader_in b k M).read (get_or ns (c.depth - 1) 0) (get_or ps (c.depth - 1) 0) ≡ z
      = reads_decoded b k M (get_or ns (c.depth - 1) 0) (get_or ps (c.depth - 1) 0) ∙ e in
      ap (shut_last report_shape (report_reader_in b k M) (cursor_of c ns cs ps)) (opened_last ns cs ps c.depth h)
      ∙ ap (shut report_shape (report_reader_in b k M) (cursor_of c ns cs ps) last_open (opened ns cs ps (c.depth - 1))) d

  pub last_refused : (r : Refusal) → (here ≡ bad r.number) × (r.tree ≡ get_or ns (c.depth - 1) 0) → p ≡ refusal r.number r.tree → ShutsLast b M c ns cs ps p
  last_refused r d q =
      let e : p ≡ refusal r.number (get_or ns (c.depth - 1) 0) = q ∙ ap (refusal r.number) d.1 in
      record {
        step = λ k. refused_plan r.number (get_or ns (c.depth - 1) 0) p (cursor_of c ns cs ps) e ∙ sym (lasts k (bad r.number) (ap (beside report) d.0));
        may = refused_may r.number (get_or ns (c.depth - 1) 0) p c e;
      }

  pub last_got : (y : TreeAt) → here ≡ got y.tree y.next y.children.0 → (x : Loose) → x ≡ report → Shuts y x (get_or cs (c.depth - 1) 0) p → ShutsLast b M c ns cs ps p
  last_got y g x i m =
      let n : Shuts y report (get_or cs (c.depth - 1) 0) p = subst (λ (u : Loose). Shuts y u (get_or cs (c.depth - 1) 0) p) i m in
      let d = ap (beside report) g in
      let o = opened_last ns cs ps c.depth h in
      record {
        step = λ k.
            subst (λ (os : List Open). plan_of p (cursor_at c os) ≡ shut report_shape (report_reader_in b k M) (cursor_at c os) last_open (opened ns cs ps (c.depth - 1)) (got (y.tree, report) y.next y.children.0))
            (sym o) (n.step (report_reader_in b k M) c last_open (opened ns cs ps (c.depth - 1)) refl)
            ∙ sym (lasts k (got (y.tree, report) y.next y.children.0) d);
        may = n.may c h;
      }

pub ruleset last_cases = (last_refused, last_got)

-- ---- row 10, and the calls

module _ (R : Reader (TokenTree × Loose)) (s : R.sized ≡ true) (c : Cursor) (call : CursorCall) where
  pub fit_stops : cursor_fits report_shape R c ≡ false → (refused 10 0, c) ≡ cursor_step report_shape R call c
  unfolding cursor_step
  fit_stops f = simp (s, f)

  pub fit_calls : cursor_fits report_shape R c ≡ true → cursor_step report_shape R call c ≡ cursor_call report_shape R call c
  unfolding cursor_step
  fit_calls f = simp (s, f)

module _ (k bytes : ℕ) (c : At) (ns cs ps : List ℕ) where
  pub plan_few : agreed k bytes (cursor_of c ns cs ps) ≡ true → c.depth ≤ 256
  plan_few h =
      let os = opened ns cs ps c.depth in
      let n = nested_in c.number c.place c.number os in
      let q = and_left (leb c.number k && leb c.place bytes && leb (length os) 256) n h in
      let d = leb-true (length os) 256 (and_right (leb c.number k && leb c.place bytes) (leb (length os) 256) q) in
      let l = opened_length ns cs ps c.depth in
      omega arith

-- row 1 of document 01's tables
pub sizes_stop : (b : List ℕ) (k : ℕ) (parts symbols : List ℕ) → sizes k parts symbols ≡ false → (call : CursorCall) (c : Cursor)
    → (refused 1 0, c) ≡ cursor_step report_shape (report_reader_in b k (own_mode parts symbols)) call c
unfolding cursor_step report_reader_in tree_reader_in
sizes_stop b k parts symbols f call c = simp f

drop_last_lem : (R : Reader (TokenTree × Loose)) (os : List Open) → drop 1 os ≡ drop_last report_shape R os
drop_last_lem R [] = refl
drop_last_lem R (o ∷ os) = refl

closing_closes : (n : ℕ) (ns cs ps : List ℕ) (d : ℕ) → closing n (opened ns cs ps d) ≡ closes n ns cs d
unfolding opened closes
closing_closes n ns cs ps zero = refl
closing_closes n ns cs ps (suc d) = refl

pub closes_some : (c : At) (ns cs : List ℕ) → closes c.number ns cs c.depth ≡ true → 0 < c.depth
unfolding closes
closes_some c ns cs g = go c.depth g
  where
    go : (d : ℕ) → closes c.number ns cs d ≡ true → 0 < d
    go zero i = true_false false i refl
    go (suc d) i = omega arith

module _ (b : List ℕ) (t : Tables) (k : ℕ) (s : trees_sized k ≡ true) (c : At) (ns cs ps : List ℕ) where
  abbrev own : Mode
  own = mode_in t

  abbrev R : Reader (TokenTree × Loose)
  R = report_reader_in b k own

  pub plan_10 : agreed k (length b) (cursor_of c ns cs ps) ≡ false → (call : CursorCall) (p : Plan) → p ≡ refusal 10 0 → Planned b k own call c ns cs ps p
  unfolding report_reader_in tree_reader_in
  plan_10 h call p q =
      record {
        step = refused_plan 10 0 p (cursor_of c ns cs ps) q ∙ fit_stops R (mode_sized b k t s) (cursor_of c ns cs ps) call h;
        may = refused_may 10 0 p c q;
      }

  module _ (h : agreed k (length b) (cursor_of c ns cs ps) ≡ true) where
    called : (call : CursorCall) → cursor_step report_shape R call (cursor_of c ns cs ps) ≡ cursor_call report_shape R call (cursor_of c ns cs ps)
    unfolding report_reader_in tree_reader_in
    called call = fit_calls R (mode_sized b k t s) (cursor_of c ns cs ps) call h

    refused_10 : (call : CursorCall) (p : Plan) → p ≡ refusal 10 0 → cursor_call report_shape R call (cursor_of c ns cs ps) ≡ (refused 10 0, cursor_of c ns cs ps)
        → Planned b k own call c ns cs ps p
    refused_10 call p q z = record { step = refused_plan 10 0 p (cursor_of c ns cs ps) q ∙ sym (called call ∙ z); may = refused_may 10 0 p c q }

    goes_on_lem : (call : CursorCall) (p : Plan) → GoesOn b k own c p
        → cursor_call report_shape R call (cursor_of c ns cs ps) ≡ go_on report_shape R (cursor_of c ns cs ps)
        → Planned b k own call c ns cs ps p
    goes_on_lem call p n z = record { step = n.step (opened ns cs ps c.depth) (opened_length ns cs ps c.depth) ∙ sym (called call ∙ z); may = n.may }

    module _ (g : closes c.number ns cs c.depth ≡ true) where
      is_closing_lem : closing c.number (opened ns cs ps c.depth) ≡ true
      is_closing_lem = closing_closes c.number ns cs ps c.depth ∙ g

      pub bump_closing : (p : Plan) → p ≡ refusal 10 0 → Planned b k own bump c ns cs ps p
      bump_closing p q = let z = is_closing_lem in refused_10 bump p q (simp z)

      pub either_shut : (p : Plan) → p ≡ doing changes.Shut → Planned b k own bump_or_end c ns cs ps p
      unfolding answer_of changed May
      either_shut p q =
          let z = is_closing_lem in
          let d = drop_last_lem R (opened ns cs ps c.depth) in
          let w : plan_of p (cursor_of c ns cs ps) ≡ cursor_call report_shape R bump_or_end (cursor_of c ns cs ps) = rw q (simp (z, d)) in
          record { step = w ∙ sym (called bump_or_end); may = rw q (closes_some c ns cs g) }

      pub end_shut : (p : Plan) → ShutsLast b own c ns cs ps p → Planned b k own end c ns cs ps p
      end_shut p n =
          let z = is_closing_lem in
          let w : cursor_call report_shape R end (cursor_of c ns cs ps) ≡ shut_last report_shape R (cursor_of c ns cs ps) (opened ns cs ps c.depth) = simp z in
          record { step = n.step k ∙ sym (called end ∙ w); may = n.may }

    module _ (g : closes c.number ns cs c.depth ≡ false) where
      not_closing : closing c.number (opened ns cs ps c.depth) ≡ false
      not_closing = closing_closes c.number ns cs ps c.depth ∙ g

      pub bump_on : (p : Plan) → GoesOn b k own c p → Planned b k own bump c ns cs ps p
      bump_on p n = let z = not_closing in goes_on_lem bump p n (simp z)

      pub either_on : (p : Plan) → GoesOn b k own c p → Planned b k own bump_or_end c ns cs ps p
      either_on p n = let z = not_closing in goes_on_lem bump_or_end p n (simp z)

      pub end_open : (p : Plan) → p ≡ refusal 10 0 → Planned b k own end c ns cs ps p
      end_open p q = let z = not_closing in refused_10 end p q (simp z)

-- what a test that was made says of what it stands for
module _ (x z : Bool) (e : x ≡ z) where
  pub fails_so : not x ≡ true → z ≡ false
  fails_so h = sym e ∙ not-true x h

  pub holds_so : not x ≡ false → z ≡ true
  holds_so h = sym e ∙ not-false x h

  pub true_so : x ≡ true → z ≡ true
  true_so h = sym e ∙ h

  pub false_so : x ≡ false → z ≡ false
  false_so h = sym e ∙ h

pub ruleset plan_cases = (fails_so, holds_so, true_so, false_so, plan_10, plan_few, closes_some, bump_closing, bump_on, either_on, either_shut, end_open, end_shut)
