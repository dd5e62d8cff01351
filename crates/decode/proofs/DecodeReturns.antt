-- One law for each return of the functions that look a tree's indices up, with premises as the code's tests and calls give them.
use Prim.Native.Nat.{ℕ, ◌+◌, ◌*◌, ◌-◌, ◌<◌, ◌≤◌}
use mathlib.Core.Bool.{Bool, true, false, ◌&&◌}
use mathlib.Core.Path.{◌≡◌, refl, sym, ap, ◌∙◌}
use mathlib.Core.List.{List}
use native.Mathlib.Omega.{arith}
use borrow.Author.Tests.{ltb-true, eqb-true, eq-eqb, ne_eqb}
use lib.Dec.{ltb, eqb}
use lib.ListN.{length}
use Rattle.std.specs.Prelude.{Result, Ok, Err, ⊤, if◌then◌else◌}
use Rattle.format.specs.Reader.{got}
use Rattle.format.specs.Tree.{Raw, tree_at}
use Rattle.format.specs.Fields.{fields}
use Rattle.format.specs.Width.{part_size}
use Rattle.format.specs.Part.{Part, part_at}
use Rattle.format.specs.Tables.{rules, row_eight, Mode, entry_at, mode_tables}
use Rattle.format.specs.Buffer.{formed, unless}
use Rattle.format.proofs.Each.{and_left, and_right, true_false}
use Rattle.pack.specs.Answer.{span_of}
use Rattle.tree.specs.Raw.{RawAt, raw_of, punct_raw, ident_raw, literal_raw, subtree_raw, raw_answer, in_range}
use Rattle.tree.specs.Types.{punct_with, ident_with, literal_with, subtree_with, resolved}
use Rattle.decode.specs.Judge.{row_answer, row_from, row_of}
use Rattle.decode.specs.Decode.{TreeAt, tree_answer, read_in, shown_as}
use Rattle.tree.specs.Mode.{limits_of}
use Rattle.tree.specs.Tables.{mode_in}
use Rattle.tree.specs.declared.tables.Tables.{Tables}
use Rattle.tree.specs.declared.limits.Limits.{Limits}
use Rattle.tree.specs.declared.raw.ChildrenBytes.{ChildrenBytes}
use Rattle.tree.specs.declared.raw.RawPunct.{RawPunct}
use Rattle.tree.specs.declared.raw.RawIdent.{RawIdent}
use Rattle.tree.specs.declared.raw.RawLiteral.{RawLiteral}
use Rattle.tree.specs.declared.raw.RawSubtree.{RawSubtree}
use Rattle.tree.specs.declared.raw.RawTree.{RawTree}
use Rattle.tree.specs.declared.raw.RawTree.TheVariants.{Punct, Ident, Literal, Subtree}
use Rattle.tree.specs.declared.types.Subtree as types
use Rattle.tree.specs.declared.types.Leaf.{Leaf}
use Rattle.tree.specs.declared.types.TokenTree.{TokenTree}
use Rattle.tree.specs.declared.types.TokenTree.TheVariants as trees
use Rattle.decode.proofs.ReadUse.{reply_bad, raw_read, raw_fits}
use Rattle.decode.proofs.JudgeReturns.{row_formed, row_passes, row_refuses, bad_judged, row_judged}

-- ---- an index that passes its row lies in its table

module _ (n at next : ℕ) (x y : Bool) (l : row_from n at next x y ≡ 0) where
  -- row 0 is that of a root with a root's indices, or of another tree with that one's
  row_zero : (if eqb n 0 then x else y) ≡ true
  unfolding row_from
  row_zero = go (formed n at next) (if eqb n 0 then x else y) refl refl
    where
      go : (f z : Bool) → formed n at next ≡ f → (if eqb n 0 then x else y) ≡ z → (if eqb n 0 then x else y) ≡ true
      go f true a c = c
      go false false a c = let k : ◌≡◌ {A = ℕ} 2 0 = simp a at l in absurd (omega arith)
      go true false a c =
          let m : ◌≡◌ {A = ℕ} (if (if eqb n 0 then x else y) then 0 else 8) 0 = sym (row_formed n at next x y a) ∙ l in
          let k : ◌≡◌ {A = ℕ} 8 0 = rw c at m in
          absurd (omega arith)

  root_zero : n ≡ 0 → x ≡ true
  root_zero h = simp (eq-eqb n 0 h) at row_zero

  below_zero : (n ≡ 0 → ⊥) → y ≡ true
  below_zero h = simp (ne_eqb n 0 h) at row_zero

-- a leaf is never a root
module _ (n at next : ℕ) (y : Bool) (l : row_from n at next false y ≡ 0) where
  leaf_below : n ≡ 0 → ⊥
  leaf_below h = true_false false (root_zero n at next false y l h) refl

  leaf_zero : y ≡ true
  leaf_zero = below_zero n at next false y l leaf_below

module _ (T : Tables) where
  abbrev M : Mode
  M = mode_in T

  abbrev N : Limits
  N = T.limits

  abbrev parts : List ℕ
  parts = T.parts.now

  abbrev pair : List ℕ
  pair = T.pair.now

  room : (i : ℕ) → ltb i N.limit ≡ true → part_size * i + part_size ≤ length parts
  room i e =
      let h = ltb-true i N.limit e in
      let k = T.whole.below in
      omega arith

  module _ (n at next : ℕ) (row : Result ⊤ ℕ) (u : ⊤) (l : row ≡ Ok u) where
    pub punct_part : (i : ℕ) → row ≡ row_answer (row_from n at next false (ltb i N.limit)) → part_size * i + part_size ≤ length parts
    punct_part i j = room i (leaf_zero n at next (ltb i N.limit) (row_passes row _ j u l))

    module _ (i k : ℕ) (j : row ≡ row_answer (row_from n at next false (ltb i N.limit && ltb k N.symbols))) where
      both : (ltb i N.limit && ltb k N.symbols) ≡ true
      both = leaf_zero n at next (ltb i N.limit && ltb k N.symbols) (row_passes row _ j u l)

      pub symbol_part_lem : part_size * i + part_size ≤ length parts
      symbol_part_lem = room i (and_left (ltb i N.limit) (ltb k N.symbols) both)

      pub symbol_symbol : k < length T.symbols.now
      symbol_symbol =
          let h = ltb-true k N.symbols (and_right (ltb i N.limit) (ltb k N.symbols) both) in
          let m = T.whole.many in
          omega arith

    module _ (i k : ℕ) (j : row ≡ row_answer (row_from n at next (eqb i N.root && eqb k (N.root + 1)) (ltb i N.limit && ltb k N.limit))) (z : n ≡ 0 → ⊥) where
      two : (ltb i N.limit && ltb k N.limit) ≡ true
      two = below_zero n at next (eqb i N.root && eqb k (N.root + 1)) (ltb i N.limit && ltb k N.limit) (row_passes row _ j u l) z

      pub open_part_lem : (a : ℕ) → a ≡ i → part_size * a + part_size ≤ length parts
      open_part_lem a e = rw e (room i (and_left (ltb i N.limit) (ltb k N.limit) two))

      pub close_part_lem : (a : ℕ) → a ≡ k → part_size * a + part_size ≤ length parts
      close_part_lem a e = rw e (room k (and_right (ltb i N.limit) (ltb k N.limit) two))

  -- ---- a tree that was read

  module _ (n at next : ℕ) (kids : ChildrenBytes) (row : Result ⊤ ℕ) where
    module _ (t : Raw) (f : fields t ≡ true) (j : row ≡ row_answer (row_of (limits_of N) n at next t)) where
      by_row : shown_as M n at next kids.0 t ≡ unless (row_of (limits_of N) n at next t) (got (resolved M n t) next kids.0)
      unfolding shown_as
      by_row =
          row_judged (resolved M) (rules (mode_tables M)) n at (limits_of N)
          (λ u. ap (λ (k : ℕ). row_eight (record { limit = N.limit; root = N.root; symbols = k }) n u) (sym T.whole.many)) t next kids.0 f

      refused : (k : ℕ) → row ≡ Err k → Err k ≡ tree_answer (shown_as M n at next kids.0 t)
      unfolding tree_answer
      refused k l = let d = row_refuses row _ j k l in rw by_row (simp (ne_eqb _ _ d.1) (ap Err (sym d.0)))

      shown : (u : ⊤) → row ≡ Ok u → (x : TokenTree) → x ≡ resolved M n t → Ok (record { tree = x; next = next; children = kids }) ≡ tree_answer (shown_as M n at next kids.0 t)
      unfolding tree_answer
      shown u l x q = rw (by_row, row_passes row _ j u l, q)

    -- below the root an index leads into the table of parts
    below_entry : (n ≡ 0 → ⊥) → (i : ℕ) → part_at parts i ≡ entry_at M n i
    below_entry z i = simp (ne_eqb n 0 z)

    module _ (t : RawTree) (f : fields (raw_of t) ≡ true) where
      module _ (p : RawPunct) (e : t ≡ Punct p) where
        pub punct_fits : fields (punct_raw p) ≡ true
        unfolding raw_of
        punct_fits = rw e at f

        module _ (j : row ≡ row_answer (row_from n at next false (ltb p.span.index N.limit))) where
          pub punct_refused : (k : ℕ) → row ≡ Err k → Err k ≡ tree_answer (shown_as M n at next kids.0 (raw_of t))
          unfolding raw_of
          punct_refused k l = rw e (refused (punct_raw p) punct_fits j k l)

          pub punct_found : (u : ⊤) → row ≡ Ok u → (y : Leaf) → y ≡ punct_with (part_at parts p.span.index) (span_of p.span) p.char p.spacing
              → Ok (record { tree = trees.Leaf y; next = next; children = kids }) ≡ tree_answer (shown_as M n at next kids.0 (raw_of t))
          unfolding raw_of resolved
          punct_found u l y q =
              let d = below_entry (leaf_below n at next _ (row_passes row _ j u l)) p.span.index in
              rw e (shown (punct_raw p) punct_fits j u l (trees.Leaf y) (ap trees.Leaf (q ∙ ap (λ v. punct_with v (span_of p.span) p.char p.spacing) d)))

      module _ (p : RawIdent) (e : t ≡ Ident p) where
        pub ident_fits : fields (ident_raw p) ≡ true
        unfolding raw_of
        ident_fits = rw e at f

        module _ (j : row ≡ row_answer (row_from n at next false (ltb p.span.index N.limit && ltb p.symbol N.symbols))) where
          pub ident_refused : (k : ℕ) → row ≡ Err k → Err k ≡ tree_answer (shown_as M n at next kids.0 (raw_of t))
          unfolding raw_of
          ident_refused k l = rw e (refused (ident_raw p) ident_fits j k l)

          pub ident_found : (u : ⊤) → row ≡ Ok u → (y : Leaf) → y ≡ ident_with (part_at parts p.span.index) T.symbols.now (span_of p.span) p.symbol p.raw
              → Ok (record { tree = trees.Leaf y; next = next; children = kids }) ≡ tree_answer (shown_as M n at next kids.0 (raw_of t))
          unfolding raw_of resolved
          ident_found u l y q =
              let d = below_entry (leaf_below n at next _ (row_passes row _ j u l)) p.span.index in
              rw e (shown (ident_raw p) ident_fits j u l (trees.Leaf y) (ap trees.Leaf (q ∙ ap (λ v. ident_with v T.symbols.now (span_of p.span) p.symbol p.raw) d)))

      module _ (p : RawLiteral) (e : t ≡ Literal p) where
        pub literal_fits : fields (literal_raw p) ≡ true
        unfolding raw_of
        literal_fits = rw e at f

        module _ (j : row ≡ row_answer (row_from n at next false (ltb p.span.index N.limit && ltb p.symbol N.symbols))) where
          pub literal_refused : (k : ℕ) → row ≡ Err k → Err k ≡ tree_answer (shown_as M n at next kids.0 (raw_of t))
          unfolding raw_of
          literal_refused k l = rw e (refused (literal_raw p) literal_fits j k l)

          pub literal_found : (u : ⊤) → row ≡ Ok u → (y : Leaf) → y ≡ literal_with (part_at parts p.span.index) T.symbols.now (span_of p.span) p.symbol p.kind p.raw_count p.suffix_len
              → Ok (record { tree = trees.Leaf y; next = next; children = kids }) ≡ tree_answer (shown_as M n at next kids.0 (raw_of t))
          unfolding raw_of resolved
          literal_found u l y q =
              let d = below_entry (leaf_below n at next _ (row_passes row _ j u l)) p.span.index in
              rw e (shown (literal_raw p) literal_fits j u l (trees.Leaf y)
              (ap trees.Leaf (q ∙ ap (λ v. literal_with v T.symbols.now (span_of p.span) p.symbol p.kind p.raw_count p.suffix_len) d)))

      module _ (p : RawSubtree) (e : t ≡ Subtree p) where
        pub subtree_fits : fields (subtree_raw p) ≡ true
        unfolding raw_of
        subtree_fits = rw e at f

        module _ (j : row ≡ row_answer (row_from n at next
            (eqb p.opening.index N.root && eqb p.closing.index (N.root + 1))
            (ltb p.opening.index N.limit && ltb p.closing.index N.limit))) where
          pub subtree_refused : (k : ℕ) → row ≡ Err k → Err k ≡ tree_answer (shown_as M n at next kids.0 (raw_of t))
          unfolding raw_of
          subtree_refused k l = rw e (refused (subtree_raw p) subtree_fits j k l)

          abbrev of : Part → Part → types.Subtree
          of o c = subtree_with o c (span_of p.opening) (span_of p.closing) p.len.0 p.kind

          module _ (u : ⊤) (l : row ≡ Ok u) (y : types.Subtree) where
            -- the root's two stand in the pair
            pub root_found : n ≡ 0 → y ≡ of (part_at pair 0) (part_at pair 1)
                → Ok (record { tree = trees.Subtree y; next = next; children = kids }) ≡ tree_answer (shown_as M n at next kids.0 (raw_of t))
            unfolding raw_of resolved
            root_found z q =
                let x = root_zero n at next _ _ (row_passes row _ j u l) z in
                let a = eqb p.opening.index N.root in
                let b = eqb p.closing.index (N.root + 1) in
                let i = eqb-true p.opening.index N.root (and_left a b x) in
                let k = eqb-true p.closing.index (N.root + 1) (and_right a b x) in
                let d₀ : p.opening.index - N.root ≡ 0 = omega arith in
                let d₁ : p.closing.index - N.root ≡ 1 = omega arith in
                let g = eq-eqb n 0 z in
                let o : part_at pair 0 ≡ entry_at M n p.opening.index = simp (g, d₀) in
                let c : part_at pair 1 ≡ entry_at M n p.closing.index = simp (g, d₁) in
                rw e (shown (subtree_raw p) subtree_fits j u l (trees.Subtree y) (ap trees.Subtree (q ∙ (λ v. of (o v) (c v)))))

            pub subtree_found : (n ≡ 0 → ⊥) → y ≡ of (part_at parts p.opening.index) (part_at parts p.closing.index)
                → Ok (record { tree = trees.Subtree y; next = next; children = kids }) ≡ tree_answer (shown_as M n at next kids.0 (raw_of t))
            unfolding raw_of resolved
            subtree_found z q =
                let o = below_entry z p.opening.index in
                let k = below_entry z p.closing.index in
                rw e (shown (subtree_raw p) subtree_fits j u l (trees.Subtree y) (ap trees.Subtree (q ∙ (λ v. of (o v) (k v)))))

pub ruleset found_cases = (
  punct_fits,
  punct_refused,
  punct_found,
  ident_fits,
  ident_refused,
  ident_found,
  literal_fits,
  literal_refused,
  literal_found,
  subtree_fits,
  subtree_refused,
  root_found,
  subtree_found,
)

-- ---- tree n at a place

pub decode_fits : (b : List ℕ) (at : ℕ) (r : Result RawAt ℕ) → r ≡ raw_answer (in_range (tree_at b at)) → (y : RawAt) → r ≡ Ok y → fields (raw_of y.tree) ≡ true
decode_fits b at r e y q = raw_fits b at r e y q

module _ (b : List ℕ) (M : Mode) (n at : ℕ) (r : Result RawAt ℕ) (e : r ≡ raw_answer (in_range (tree_at b at))) where
  pub decode_bad : (k : ℕ) → r ≡ Err k → Err k ≡ tree_answer (read_in b M n at)
  unfolding tree_answer read_in
  decode_bad k q =
      sym (ap tree_answer (bad_judged (resolved M) (rules (mode_tables M)) n at (tree_at b at) k (reply_bad (in_range (tree_at b at)) r e k q)))

  module _ (y : RawAt) (q : r ≡ Ok y) where
    pub decode_found : (x : Result TreeAt ℕ) → x ≡ tree_answer (shown_as M n at y.next y.children.0 (raw_of y.tree)) → x ≡ tree_answer (read_in b M n at)
    unfolding read_in shown_as
    decode_found x f = rw (raw_read b at r e y q) f

pub ruleset decode_cases = (decode_bad, decode_fits, decode_found)
