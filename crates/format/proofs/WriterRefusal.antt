-- Each refusal of the writer is given exactly where its row holds and no earlier one does: "1 to 6 in turn, each over the whole list".
use Prim.Native.Nat.{ℕ, ◌+◌, ◌≤◌, ◌<◌}
use mathlib.Core.Bool.{Bool, true, false, ◌&&◌}
use mathlib.Core.Path.{◌≡◌, refl}
use mathlib.Core.List.{List}
use mathlib.Core.Logic.{◌↔◌}
use native.Mathlib.Omega.{arith}
use borrow.Author.Tests.{eq-eqb, le-leb, lt-leb, leb-true, leb-false}
use lib.Dec.{leb}
use lib.ListN.{length}
use Rattle.format.specs.Verdict.{Verdict, passed, refused, ◌and_then◌, rule, each}
use Rattle.format.specs.Plain.{Listing, end_of}
use Rattle.format.specs.Nest.{rooted, nest, Nested}
use Rattle.format.specs.Tables.{own_tables, own_mode}
use Rattle.format.specs.Buffer.{word_shape}
use Rattle.format.specs.WordList.{word_of, word_fields, list_count, given, list_sized, row_two, list_rules, list_rows}
use Rattle.format.specs.Writer.{present, row_five, list_verdict, packed, writer_verdict}
use Rattle.format.proofs.Each.{true_false, both, rule_passed, then_refused, rule_refused, renumber, each_all, all_each, each_lowest, each_found}
use Rattle.format.proofs.NestLaw.{nest_sound, nest_complete, root_sub, root_end, Refusal, nest_refusal, refusal_nest}
use Rattle.format.proofs.First.{Absent, absent_of, absent_not}

-- ---- rows 2 to 4, over any list

module _ (l : List ℕ) where
  abbrev G : Listing (List ℕ)
  G = given l

  -- row 2 is silent
  pub record InRange : Type 0 where
    pub fields : (m : ℕ) → m < list_count l → word_fields (word_of l m) ≡ true

  -- … and rows 3 and 4 are
  pub record Ruled : Type 0 where
    pub range : InRange
    pub held : rooted word_shape G ≡ true
    pub nested : Nested word_shape G

  pub data RulesRefused : ℕ → ℕ → Type 0 where
    -- the lowest tree with a field out of range
    field : (n : ℕ) → n < list_count l → word_fields (word_of l n) ≡ false → ((m : ℕ) → m < n → word_fields (word_of l m) ≡ true) → RulesRefused 2 n
    root : InRange → rooted word_shape G ≡ false → RulesRefused 3 0
    nesting : (r n : ℕ) → InRange → rooted word_shape G ≡ true → Refusal word_shape G 0 r n → RulesRefused r n

  all_fields : InRange → each (row_two l) (list_count l) ≡ passed
  all_fields a = all_each (row_two l) (list_count l) 0 (λ m h i. let e = a.fields m (omega arith) in simp e)

  fields_all : each (row_two l) (list_count l) ≡ passed → InRange
  fields_all e = record { fields = λ m h. rule_passed (word_fields (word_of l m)) 2 m (each_all (row_two l) (list_count l) 0 e m (omega arith) (omega arith)) }

  pub rules_sound : list_rules l ≡ passed → Ruled
  unfolding list_rules
  rules_sound e =
      let a = both (each (row_two l) (list_count l)) (nest word_shape G) e in
      let b = nest_sound word_shape G a.1 in
      let o = b.0 in
      let q = eq-eqb (end_of word_shape G 0) (list_count l) b.1 in
      record { range = fields_all a.0; held = simp (o, q); nested = b.2 }

  pub rules_complete : Ruled → list_rules l ≡ passed
  unfolding list_rules
  rules_complete a =
      let n = nest_complete word_shape G (root_sub word_shape G a.held) (root_end word_shape G a.held) a.nested in
      simp (all_fields a.range, n)

  pub rules_refusal : (r n : ℕ) → list_rules l ≡ refused r n → RulesRefused r n
  unfolding list_rules
  rules_refusal r n e =
      then_refused (each (row_two l) (list_count l)) (nest word_shape G) r n
      (λ f.
      let x = each_lowest (row_two l) (list_count l) 0 r n f in
      let y = rule_refused (word_fields (word_of l x.0)) 2 x.0 r n x.3 in
      let h = x.2 in
      renumber RulesRefused y.1 y.2
      (field x.0 (omega arith) y.0 (λ m i. rule_passed (word_fields (word_of l m)) 2 m (x.4 m (omega arith) i))))
      (λ p f. go (fields_all p) f (rooted word_shape G) refl)
      e
    where
      go : InRange → nest word_shape G ≡ refused r n → (b : Bool) → rooted word_shape G ≡ b → RulesRefused r n
      go a f true o = nesting r n a o (nest_refusal word_shape G r n o f)
      go a f false o =
          let j : refused 3 0 ≡ refused r n = simp o at f in
          let x : 3 ≡ r = cc in
          let y : 0 ≡ n = cc in
          renumber RulesRefused x y (root a o)

  pub refusal_rules : (r n : ℕ) → RulesRefused r n → list_rules l ≡ refused r n
  unfolding list_rules
  refusal_rules r n (field m h e a) =
      let f : row_two l n ≡ refused 2 n = simp e in
      simp (each_found (row_two l) (list_count l) n 2 n h (λ i j. let g = a i j in simp g) f)
  refusal_rules r n (root a o) = simp (all_fields a, o)
  refusal_rules r n (nesting s m a o f) = simp (all_fields a, refusal_nest word_shape G r n f o)

  -- ---- a list that goes with no tables: row 1 before them

  pub data RowsRefused : ℕ → ℕ → Type 0 where
    list_size : list_sized l ≡ false → RowsRefused 1 0
    list_rule : (r n : ℕ) → list_sized l ≡ true → RulesRefused r n → RowsRefused r n

  pub rows_refusal : (r n : ℕ) → list_rows l ≡ refused r n → RowsRefused r n
  rows_refusal r n e =
      then_refused (rule (list_sized l) 1 0) (list_rules l) r n
      (λ f.
      let x = rule_refused (list_sized l) 1 0 r n f in
      renumber RowsRefused x.1 x.2 (list_size x.0))
      (λ s f. list_rule r n (rule_passed (list_sized l) 1 0 s) (rules_refusal r n f))
      e

  pub refusal_rows : (r n : ℕ) → RowsRefused r n → list_rows l ≡ refused r n
  refusal_rows r n (list_size h) = simp h
  refusal_rows r n (list_rule s m h f) = simp (h, refusal_rules r n f)

-- ---- the writer's rows

module _ (parts symbols l : List ℕ) where
  -- whether row 1 is silent
  abbrev sizes : Bool
  sizes = list_sized l && (own_tables parts symbols).sized

  -- rows 1 to 5 are silent
  pub record Writes : Type 0 where
    pub sized : sizes ≡ true
    pub ruled : Ruled l
    pub stand : (m : ℕ) → m < list_count l → Absent (own_mode parts symbols) l m → ⊥

  pub data ListRefused : ℕ → ℕ → Type 0 where
    size : sizes ≡ false → ListRefused 1 0
    rules : (r n : ℕ) → sizes ≡ true → RulesRefused l r n → ListRefused r n
    -- the lowest tree that lacks a part or a symbol
    absent : (n : ℕ) → sizes ≡ true → Ruled l → n < list_count l → Absent (own_mode parts symbols) l n → ((m : ℕ) → m < n → Absent (own_mode parts symbols) l m → ⊥) → ListRefused 5 n

  stands : (n : ℕ) → (Absent (own_mode parts symbols) l n → ⊥) → row_five (own_mode parts symbols) l n ≡ passed
  stands n f = go (present (own_mode parts symbols) l n) refl
    where
      go : (b : Bool) → present (own_mode parts symbols) l n ≡ b → row_five (own_mode parts symbols) l n ≡ passed
      go true e = simp e
      go false e = absurd (f (absent_of (own_mode parts symbols) l n e))

  not_absent : (n : ℕ) → row_five (own_mode parts symbols) l n ≡ passed → Absent (own_mode parts symbols) l n → ⊥
  not_absent n e a = true_false (present (own_mode parts symbols) l n) (rule_passed (present (own_mode parts symbols) l n) 5 n e) (absent_not (own_mode parts symbols) l n a)

  pub list_sound : list_verdict parts symbols l ≡ passed → Writes
  unfolding list_verdict
  list_sound e =
      let v₃ : Verdict = each (row_five (own_mode parts symbols) l) (list_count l) in
      let a = both (rule sizes 1 0) (list_rules l and_then v₃) e in
      let b = both (list_rules l) v₃ a.1 in
      record {
        sized = rule_passed sizes 1 0 a.0;
        ruled = rules_sound l b.0;
        stand = λ m h. not_absent m (each_all (row_five (own_mode parts symbols) l) (list_count l) 0 b.1 m (omega arith) (omega arith));
      }

  pub list_complete : Writes → list_verdict parts symbols l ≡ passed
  unfolding list_verdict
  list_complete a =
      let s = a.sized in
      let f = all_each (row_five (own_mode parts symbols) l) (list_count l) 0 (λ m h i. stands m (a.stand m (omega arith))) in
      simp (s, rules_complete l a.ruled, f)

  pub list_refusal : (r n : ℕ) → list_verdict parts symbols l ≡ refused r n → ListRefused r n
  unfolding list_verdict
  list_refusal r n e =
      let v₃ : Verdict = each (row_five (own_mode parts symbols) l) (list_count l) in
      then_refused (rule sizes 1 0) (list_rules l and_then v₃) r n
      (λ f.
      let x = rule_refused sizes 1 0 r n f in
      renumber ListRefused x.1 x.2 (size x.0))
      (λ s f.
      let s' = rule_passed sizes 1 0 s in
      then_refused (list_rules l) v₃ r n
      (λ g. rules r n s' (rules_refusal l r n g))
      (λ p g.
      let x = each_lowest (row_five (own_mode parts symbols) l) (list_count l) 0 r n g in
      let y = rule_refused (present (own_mode parts symbols) l x.0) 5 x.0 r n x.3 in
      let h = x.2 in
      renumber ListRefused y.1 y.2
      (absent x.0 s' (rules_sound l p) (omega arith) (absent_of (own_mode parts symbols) l x.0 y.0) (λ m i. not_absent m (x.4 m (omega arith) i))))
      f)
      e

  pub refusal_list : (r n : ℕ) → ListRefused r n → list_verdict parts symbols l ≡ refused r n
  unfolding list_verdict
  refusal_list r n (size h) = simp h
  refusal_list r n (rules s m h f) = simp (h, refusal_rules l r n f)
  refusal_list r n (absent m h a i e b) =
      let p = absent_not (own_mode parts symbols) l n e in
      let f : row_five (own_mode parts symbols) l n ≡ refused 5 n = simp p in
      simp (h, rules_complete l a, each_found (row_five (own_mode parts symbols) l) (list_count l) n 5 n i (λ j g. stands j (b j g)) f)

  pub rows_exact : (r n : ℕ) → (list_verdict parts symbols l ≡ refused r n) ↔ ListRefused r n
  rows_exact r n = (list_refusal r n, refusal_list r n)

  -- ---- row 6

  module _ (work out : List ℕ) where
    pub data WriterRefused : ℕ → ℕ → Type 0 where
      list : (r n : ℕ) → ListRefused r n → WriterRefused r n
      short_work : Writes → length work < list_count l + 1 → WriterRefused 6 0
      short_out : Writes → list_count l + 1 ≤ length work → length out < length (packed parts symbols l) → WriterRefused 6 0

    pub refusal_is : (r n : ℕ) → writer_verdict parts symbols l work out ≡ refused r n → WriterRefused r n
    refusal_is r n e =
        let w : Verdict = rule (leb (list_count l + 1) (length work)) 6 0 in
        let o : Verdict = rule (leb (length (packed parts symbols l)) (length out)) 6 0 in
        then_refused (list_verdict parts symbols l and_then w) o r n
        (λ f.
        then_refused (list_verdict parts symbols l) w r n
        (λ g. list r n (list_refusal r n g))
        (λ p g.
        let x = rule_refused (leb (list_count l + 1) (length work)) 6 0 r n g in
        renumber WriterRefused x.1 x.2
        (short_work (list_sound p) (leb-false (list_count l + 1) (length work) x.0)))
        f)
        (λ p f.
        let a = both (list_verdict parts symbols l) w p in
        let h = leb-true (list_count l + 1) (length work) (rule_passed (leb (list_count l + 1) (length work)) 6 0 a.1) in
        let x = rule_refused (leb (length (packed parts symbols l)) (length out)) 6 0 r n f in
        renumber WriterRefused x.1 x.2
        (short_out (list_sound a.0) h (leb-false (length (packed parts symbols l)) (length out) x.0)))
        e

    pub refusal_given : (r n : ℕ) → WriterRefused r n → writer_verdict parts symbols l work out ≡ refused r n
    refusal_given r n (list s m f) = simp (refusal_list r n f)
    refusal_given r n (short_work a h) =
        let t = lt-leb (list_count l + 1) (length work) h in
        simp (list_complete a, t)
    refusal_given r n (short_out a h i) =
        let t = le-leb (list_count l + 1) (length work) h in
        let u = lt-leb (length (packed parts symbols l)) (length out) i in
        simp (list_complete a, t, u)

    pub writer_exact : (r n : ℕ) → (writer_verdict parts symbols l work out ≡ refused r n) ↔ WriterRefused r n
    writer_exact r n = (refusal_is r n, refusal_given r n)
