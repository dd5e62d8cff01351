-- One law for each return of the functions of src/prepare.rt, with premises as the code's tests and calls give them; and what a caller has of its answer.
use Prim.Native.Nat.{ℕ, ◌+◌, ◌*◌, ◌-◌, ◌≤◌}
use mathlib.Core.Bool.{Bool, true, false, not}
use mathlib.Core.Path.{◌≡◌, refl, sym, ap, ◌∙◌, subst}
use mathlib.Core.List.{List}
use native.Mathlib.Omega.{arith}
use borrow.Author.Tests.{not-true, not-false}
use lib.ListN.{length, take, drop}
use Rattle.std.specs.Prelude.{Result, Ok, Err, ⊤}
use Rattle.format.specs.Verdict.{Verdict, passed, refused}
use Rattle.format.specs.Word.{put}
use Rattle.format.specs.Width.{tree_size}
use Rattle.format.specs.Buffer.{buffer_check}
use Rattle.format.specs.WordList.{list_count, list_rows}
use Rattle.format.specs.Replace.{exchanged, replace_verdict, replace_work}
use Rattle.format.specs.Unpack.{list_work, table_work, count_work, work_fits, list_of}
use Rattle.format.proofs.Kept.{kept}
use Rattle.format.proofs.Put.{put_length, put_behind, take_put}
use Rattle.format.proofs.TableRuns.{run_take}
use Rattle.format.proofs.ListOf.{list_length}
use Rattle.format.proofs.Exchange.{replace_check, replace_below, exchanged_count, exchanged_rows, work_room}
use Rattle.tree.specs.Refusal.{verdict_answer}
use Rattle.tree.specs.declared.refusal.Refusal.{Refusal}
use Rattle.tree.proofs.Answers.{answer_passed, answer_refused}
use Rattle.replace.specs.Fresh.{Held, Tabled}
use Rattle.replace.specs.Left.{worked, Left}
use Rattle.replace.specs.Prepared.{ListPut, NewMade, prepared_of, PreparedIn}
use Rattle.replace.specs.declared.fresh.Counted.{Counted}
use Rattle.unpack.proofs.WorkReturns.{work_ample}
use Rattle.builder.proofs.Pushed.{words_whole}

-- ---- the new list in work words

module _ (b : List ℕ) (k : ℕ) (parts symbols : List ℕ) (n : ℕ) (w : List ℕ) (ok : replace_verdict b k parts symbols n w ≡ passed) where
  pub checked : buffer_check b k parts symbols ≡ passed
  checked = replace_check b k parts symbols n w ok

  abbrev old : List ℕ
  old = list_of b k parts symbols

  module _ (a : List ℕ) (h : list_work k ≤ length a) where
    pub unpack_room : tree_size * k ≤ length a
    unpack_room = omega arith

    pub leaf_room : (a₁ : List ℕ) → length a₁ ≡ length a → length w ≡ tree_size → (m : ℕ) → m ≡ n → tree_size * m + length w ≤ length a₁
    leaf_room a₁ q z m j = let l = replace_below b k parts symbols n w ok in omega arith

    pub list_put : (a₁ a₂ : List ℕ) → length w ≡ tree_size → a₁ ≡ put a 0 (list_of b k parts symbols) → (p : ℕ) → p ≡ n → a₂ ≡ put a₁ (tree_size * p) w
        → ListPut b k parts symbols n w a a₂
    unfolding exchanged
    list_put a₁ a₂ z e₁ p j e =
        let e₂ : a₂ ≡ put a₁ (tree_size * n) w = e ∙ ap (λ (x : ℕ). put a₁ (tree_size * x) w) j in
        let m : length old ≡ tree_size * k = list_length b k parts symbols checked in
        let q : length a₁ ≡ length a = ap length e₁ ∙ put_length a 0 old (omega arith) in
        let i = replace_below b k parts symbols n w ok in
        record {
          words = ap (λ (j : ℕ). take j a₂) (sym m)
              ∙ ap (take (length old)) e₂
              ∙ take_put a₁ (tree_size * n) (length old) w (omega arith) (omega arith)
              ∙ ap (λ (x : List ℕ). put (take (length old) x) (tree_size * n) w) e₁
              ∙ ap (λ (x : List ℕ). put x (tree_size * n) w) (run_take a old)
              ∙ ap (put old (tree_size * n)) (sym (words_whole w z));
          behind = ap (drop (list_work k)) e₂
              ∙ put_behind a₁ (tree_size * n) w (omega arith) (list_work k) (omega arith)
              ∙ ap (drop (list_work k)) e₁
              ∙ put_behind a 0 old (omega arith) (list_work k) (omega arith);
        }

pub ruleset list_cases = (checked, unpack_room, leaf_room, list_put, kept)

-- ---- its tables

module _ (b : List ℕ) (k : ℕ) (parts symbols : List ℕ) (n : ℕ) (w : List ℕ) (ok : replace_verdict b k parts symbols n w ≡ passed)
    (a a₁ : List ℕ) (h : list_work k ≤ length a) (L : ListPut b k parts symbols n w a a₁) (p : ℕ) (j : p ≡ k) where
  -- the list as it is lent
  pub list_is : take (tree_size * p - 0) (drop 0 a₁) ≡ exchanged b k parts symbols n w
  list_is = let s : tree_size * p - 0 ≡ tree_size * k = omega arith in rw s L.words

  listed_count : list_count (take (tree_size * p - 0) (drop 0 a₁)) ≡ k
  listed_count = ap list_count list_is ∙ exchanged_count b k parts symbols n w ok

  pub list_inside : length a₁ ≡ length a → tree_size * p ≤ length a₁
  list_inside q = omega arith

  pub new_rows : list_rows (take (tree_size * p - 0) (drop 0 a₁)) ≡ passed
  new_rows = ap list_rows list_is ∙ exchanged_rows b k parts symbols n w ok

  pub tables_enough : (c : List ℕ) → table_work k ≤ length c → table_work (list_count (take (tree_size * p - 0) (drop 0 a₁))) ≤ length c
  tables_enough c g = subst (λ (i : ℕ). table_work i ≤ length c) (sym listed_count) g

  pub counts_enough : (d : List ℕ) → count_work k ≤ length d → count_work (list_count (take (tree_size * p - 0) (drop 0 a₁))) ≤ length d
  counts_enough d g = subst (λ (i : ℕ). count_work i ≤ length d) (sym listed_count) g

  pub new_made : (c d : List ℕ) (r : Counted) (c' d' : List ℕ) → Tabled (take (tree_size * p - 0) (drop 0 a₁)) r c c' d d' → NewMade b k parts symbols n w a c d r a₁ c' d'
  new_made c d r c' d' T = record { listed = L; tabled = subst (λ (l : List ℕ). Tabled l r c c' d d') list_is T }

pub ruleset new_cases = (list_inside, new_rows, tables_enough, counts_enough, new_made, kept)

-- ---- the answer

pub prepared_passed : (l : List ℕ) (v : Verdict) (t : Counted) → prepared_of l v ≡ Ok t → v ≡ passed
unfolding prepared_of
prepared_passed l passed t e = refl
prepared_passed l (refused r m) t e = cc

pub prepared_refused : (l : List ℕ) (v : Verdict) (x : Refusal) → prepared_of l v ≡ Err x → v ≡ refused x.number x.tree
unfolding prepared_of
prepared_refused l passed x e = cc
prepared_refused l (refused r m) x e =
    let f : record { number = r; tree = m } ≡ x = cc in
    ap (λ (y : Refusal). refused y.number y.tree) f

pub rows_passed : (b : List ℕ) (k : ℕ) (parts symbols : List ℕ) (n : ℕ) (w : List ℕ) (v : Result ⊤ Refusal) → v ≡ verdict_answer (replace_verdict b k parts symbols n w) → v ≡ Ok tt
    → replace_verdict b k parts symbols n w ≡ passed
rows_passed b k parts symbols n w v e q = answer_passed (replace_verdict b k parts symbols n w) (sym e ∙ q)

module _ (b : List ℕ) (k : ℕ) (parts symbols : List ℕ) (n : ℕ) (w a c d : List ℕ) where
  abbrev Rest : Result Counted Refusal → Type 0
  Rest r = PreparedIn b k parts symbols n w a c d r a c d

  none_made : (r m : ℕ) → worked b k parts symbols n w a c d ≡ refused r m → Rest (Err (record { number = r; tree = m }))
  unfolding prepared_of
  none_made r m e =
      record {
        answer = rw e;
        left = record {
          list_left = record { kept = rw e; behind = refl };
          tables_left = record { kept = rw e; behind = refl };
          counts_left = record { kept = rw e; behind = refl };
        };
        made = λ t q. cc;
      }

  module _ (v : Result ⊤ Refusal) (e : v ≡ verdict_answer (replace_verdict b k parts symbols n w)) where
    pub rows_refused : (why : Refusal) → v ≡ Err why → Rest (Err why)
    unfolding replace_work
    rows_refused why q =
        let f = answer_refused (replace_verdict b k parts symbols n w) why (sym e ∙ q) in
        none_made why.number why.tree (rw f)

    module _ (q : v ≡ Ok tt) (u : Bool) (g : u ≡ work_fits k (length a) (length c) (length d)) where
      pub work_short : not u ≡ true → Rest (Err (record { number = 6; tree = 0 }))
      unfolding replace_work
      work_short f =
          let o = rows_passed b k parts symbols n w v e q in
          let j : work_fits k (length a) (length c) (length d) ≡ false = sym g ∙ not-true u f in
          none_made 6 0 (simp (o, j))

      works : not u ≡ false → worked b k parts symbols n w a c d ≡ passed
      unfolding replace_work
      works f =
          let o = rows_passed b k parts symbols n w v e q in
          let j : work_fits k (length a) (length c) (length d) ≡ true = sym g ∙ not-false u f in
          simp (o, j)

      pub all_made : not u ≡ false → (t : Counted) (a' c' d' : List ℕ) → NewMade b k parts symbols n w a c d t a' c' d'
          → PreparedIn b k parts symbols n w a c d (Ok t) a' c' d'
      unfolding prepared_of
      all_made f t a' c' d' N =
          let y = works f in
          let H = N.tabled.held in
          let m = exchanged_count b k parts symbols n w (rows_passed b k parts symbols n w v e q) in
          record {
            answer = (λ i. Ok (record { parts = H.parts i; symbols = H.symbols i })) ∙ rw y;
            left = record {
              list_left = record { kept = rw y; behind = N.listed.behind };
              tables_left = record { kept = rw y; behind = subst (λ (i : ℕ). drop (table_work i) c' ≡ drop (table_work i) c) m N.tabled.tables_behind };
              counts_left = record { kept = rw y; behind = subst (λ (i : ℕ). drop (count_work i) d' ≡ drop (count_work i) d) m N.tabled.counts_behind };
            };
            made = λ s j. subst (λ (u : Counted). NewMade b k parts symbols n w a c d u a' c' d') (cc) N;
          }

pub ruleset prepare_cases = (rows_refused, rows_passed, work_short, all_made, work_ample, kept)

-- ---- what a caller has of it

module _ (b : List ℕ) (k : ℕ) (parts symbols : List ℕ) (n : ℕ) (w a c d : List ℕ) (q : Result Counted Refusal) (a₁ c₁ d₁ : List ℕ) (P : PreparedIn b k parts symbols n w a c d q a₁ c₁ d₁) where
  pub why_refused : (why : Refusal) → q ≡ Err why → worked b k parts symbols n w a c d ≡ refused why.number why.tree
  why_refused why e = prepared_refused (exchanged b k parts symbols n w) (worked b k parts symbols n w a c d) why (sym P.answer ∙ e)

  module _ (t : Counted) (e : q ≡ Ok t) where
    pub work_passed : worked b k parts symbols n w a c d ≡ passed
    work_passed = prepared_passed (exchanged b k parts symbols n w) (worked b k parts symbols n w a c d) t (sym P.answer ∙ e)

    rooms : (replace_verdict b k parts symbols n w ≡ passed) × (list_work k ≤ length a) × (table_work k ≤ length c) × (count_work k ≤ length d)
    rooms = work_room b k parts symbols n w (length a) (length c) (length d) work_passed

    module _ (p : ℕ) (j : p ≡ k) where
      pub there_is : take (tree_size * p - 0) (drop 0 a₁) ≡ exchanged b k parts symbols n w
      there_is = list_is b k parts symbols n w rooms.0 a a₁ rooms.1 (P.made t e).listed p j

      pub there_inside : length a₁ ≡ length a → tree_size * p ≤ length a₁
      there_inside = list_inside b k parts symbols n w rooms.0 a a₁ rooms.1 (P.made t e).listed p j

      pub there_rows : list_rows (take (tree_size * p - 0) (drop 0 a₁)) ≡ passed
      there_rows = new_rows b k parts symbols n w rooms.0 a a₁ rooms.1 (P.made t e).listed p j

      pub there_held : Held (take (tree_size * p - 0) (drop 0 a₁)) t c₁
      there_held = subst (λ (l : List ℕ). Held l t c₁) (sym there_is) (P.made t e).tabled.held

      -- of the list as it is handed on
      module _ (m : List ℕ) (o : m ≡ take (tree_size * p - 0) (drop 0 a₁)) where
        count_is : list_count m ≡ k
        count_is = ap list_count (o ∙ there_is) ∙ exchanged_count b k parts symbols n w rooms.0

        pub there_counts : length d₁ ≡ length d → count_work (list_count m) ≤ length d₁
        there_counts r = let h = rooms.3 in let e = count_is in omega arith

        -- the counts are overwritten once more
        pub left_then : (d₂ : List ℕ) → drop (count_work (list_count m)) d₂ ≡ drop (count_work (list_count m)) d₁ → Left b k parts symbols n w a c d a₁ c₁ d₂
        left_then d₂ f =
            let y = work_passed in
            record {
              list_left = P.left.list_left;
              tables_left = P.left.tables_left;
              counts_left = record { kept = rw y; behind = subst (λ (i : ℕ). drop (count_work i) d₂ ≡ drop (count_work i) d₁) count_is f ∙ P.left.counts_left.behind };
            }

pub ruleset there_cases = (there_inside, there_rows, there_held, there_counts)
