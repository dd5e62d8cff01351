-- One law for each return of `new`, `push`, `open` and `close`, with premises as the code's tests and calls give them.
use Prim.Native.Nat.{ℕ, ◌+◌, ◌*◌, ◌-◌, ◌≤◌, ◌<◌}
use mathlib.Core.Bool.{not, ◌&&◌}
use mathlib.Core.Path.{◌≡◌, refl, sym, ap, ◌∙◌, subst}
use mathlib.Core.List.{List}
use native.Mathlib.Omega.{arith}
use borrow.Author.Tests.{leb-true, ltb-true, not-true}
use lib.Dec.{leb, ltb}
use lib.ListN.{length, get_or, set}
use Rattle.std.specs.Prelude.{Result, Ok, Err, ⊤}
use Rattle.format.specs.Verdict.{Verdict, passed, refused, ◌and_then◌, contents, rule}
use Rattle.format.specs.Word.{put}
use Rattle.format.specs.Width.{tree_size}
use Rattle.format.specs.WordList.{list_count}
use Rattle.format.specs.Part.{WordSpan}
use Rattle.format.specs.Root.{range_fits}
use Rattle.format.specs.Builder.{subtree_words, leaf_fits, disagrees, new_verdict, new, agreed, room, push_verdict, open_verdict, close_verdict, close_last, Step, push, open_subtree, close_subtree, step_verdict, step_words, builder_step}
use Rattle.format.specs.Builder as format
use Rattle.format.proofs.Each.{both, rule_passed}
use Rattle.builder.proofs.Framed.{Below}
use Rattle.builder.proofs.BuilderRun.{after_step}
use Rattle.builder.proofs.BuilderRestore.{Agrees, agrees_is, fit_below}
use Rattle.tree.specs.Types.{words_of}
use Rattle.tree.specs.Refusal.{verdict_answer}
use Rattle.tree.proofs.Answers.{answer_passed, answer_refused}
use Rattle.tree.specs.declared.refusal.Refusal.{Refusal}
use Rattle.tree.specs.declared.types.Span.{Span}
use Rattle.tree.specs.declared.types.Leaf.{Leaf}
use Rattle.builder.specs.declared.state.Builder.{Builder}
use Rattle.builder.specs.declared.state.Stepped.{Stepped}
use Rattle.builder.specs.State.{numbers, seen, closed_at}
use Rattle.builder.specs.Given.{pushed}
use Rattle.builder.specs.Taken.{none_open, Begun, after, Taken}
use Rattle.builder.proofs.Numbers.{numbers_length, numbers_down}
use Rattle.builder.proofs.Pushed.{words_whole}

-- ---- new

module _ (kind : ℕ) (o c : Span) (l : List ℕ) (v : Result ⊤ Refusal) (e : v ≡ verdict_answer (new_verdict kind (words_of o) (words_of c) l)) where
  abbrev N : Verdict
  N = new_verdict kind (words_of o) (words_of c) l

  pub new_refused : (x : Refusal) → v ≡ Err x → (b : Builder) → b ≡ none_open 0 → Begun kind o c l (record { verdict = v; builder = b }) l
  unfolding new
  new_refused x h b f =
      let n = answer_refused N x (sym e ∙ h) in
      record {
        answer = e;
        builder = f ∙ sym (ap (λ (u : Verdict). contents u (none_open 0) (none_open 1)) n);
        words = sym (ap (λ (u : Verdict). contents u l (put l 0 (subtree_words 0 kind (words_of o) (words_of c)))) n);
      }

  module _ (h : v ≡ Ok tt) where
    ok : N ≡ passed
    ok = answer_passed N (sym e ∙ h)

    pub new_room : (ws : List ℕ) → length ws ≡ tree_size → 0 + length ws ≤ length l
    new_room ws k =
        let r = both (rule (leb kind 3 && range_fits (words_of o) && range_fits (words_of c)) 2 0) (rule (leb 1 (list_count l)) 6 0) ok in
        let z : 1 ≤ list_count l = leb-true _ _ (rule_passed (leb 1 (list_count l)) 6 0 r.1) in
        omega arith

    pub new_done : (b : Builder) → b ≡ none_open 1 → (ws : List ℕ) → ws ≡ subtree_words 0 kind (words_of o) (words_of c) → (l' : List ℕ) → l' ≡ put l 0 ws
        → Begun kind o c l (record { verdict = v; builder = b }) l'
    unfolding new
    new_done b f ws g l' k =
        let n = ok in
        record {
          answer = e;
          builder = f ∙ sym (ap (λ (u : Verdict). contents u (none_open 0) (none_open 1)) n);
          words = k ∙ ap (put l 0) g ∙ sym (ap (λ (u : Verdict). contents u l (put l 0 (subtree_words 0 kind (words_of o) (words_of c)))) n);
        }

pub ruleset new_cases = (new_refused, new_room, new_done)

-- ---- any step

module _ (s : Step) (b : Builder) (l : List ℕ) (v : Result ⊤ Refusal) (e : v ≡ verdict_answer (step_verdict s (seen b) l)) where
  pub step_refused : (x : Refusal) → v ≡ Err x → Taken s b l (record { verdict = v; builder = b }) l
  step_refused x h =
      let n = answer_refused (step_verdict s (seen b) l) x (sym e ∙ h) in
      let a = after_step s (seen b) l (refused x.number x.tree) n in
      record {
        answer = e ∙ ap verdict_answer (n ∙ sym a.0);
        builder = sym (ap (λ (u : Verdict). contents u b (after s b)) a.0);
        words = sym a.2;
      }

  pub step_passed : v ≡ Ok tt → (b' : Builder) → b' ≡ after s b → (l' : List ℕ) → l' ≡ step_words s (seen b) l → Taken s b l (record { verdict = v; builder = b' }) l'
  step_passed h b' f l' g =
      let n = answer_passed (step_verdict s (seen b) l) (sym e ∙ h) in
      let a = after_step s (seen b) l passed n in
      record {
        answer = e ∙ ap verdict_answer (n ∙ sym a.0);
        builder = f ∙ sym (ap (λ (u : Verdict). contents u b (after s b)) a.0);
        words = g ∙ sym a.2;
      }

-- what a passed verdict says of a tree more
record Roomy (l : List ℕ) (n : ℕ) : Type 0 where
  many : n < 1048576
  in_run : n < list_count l

roomy : (l : List ℕ) (b : format.Builder) → room l b ≡ passed → Roomy l b.count
roomy l b h =
    let n : ℕ = b.count in
    let r = both (rule (ltb n 1048576) 1 n) (rule (ltb n (list_count l)) 6 n) h in
    record { many = ltb-true _ _ (rule_passed (ltb n 1048576) 1 n r.0); in_run = ltb-true _ _ (rule_passed (ltb n (list_count l)) 6 n r.1) }

-- ---- push

module _ (b : Builder) (l w : List ℕ) (v : Result ⊤ Refusal) (e : v ≡ verdict_answer (push_verdict l (seen b) w)) where
  pub push_refused : (x : Refusal) → v ≡ Err x → Taken (push w) b l (record { verdict = v; builder = b }) l
  push_refused x h = step_refused (push w) b l v e x h

  module _ (h : v ≡ Ok tt) where
    said : (agreed l (seen b) ≡ passed) × ((rule (leaf_fits w) 2 b.count and_then room l (seen b)) ≡ passed)
    said = both (agreed l (seen b)) (rule (leaf_fits w) 2 b.count and_then room l (seen b)) (answer_passed (push_verdict l (seen b) w) (sym e ∙ h))

    then : (rule (leaf_fits w) 2 b.count ≡ passed) × (room l (seen b) ≡ passed)
    then = both (rule (leaf_fits w) 2 b.count) (room l (seen b)) said.1

    pub push_room : length w ≡ tree_size → (m : ℕ) → m ≡ b.count → tree_size * m + length w ≤ length l
    push_room k m f = let z = (roomy l (seen b) then.1).in_run in omega arith

    pub push_small : b.count + 1 < 4294967296
    push_small = let z = (roomy l (seen b) then.1).many in omega arith

    pub push_done : length w ≡ tree_size → (m : ℕ) → m ≡ b.count → (l' : List ℕ) → l' ≡ put l (tree_size * m) w
        → Taken (push w) b l (record { verdict = v; builder = record { count = b.count + 1; depth = b.depth; opened = b.opened } }) l'
    unfolding after
    push_done g m f l' k =
        step_passed (push w) b l v e h (record { count = b.count + 1; depth = b.depth; opened = b.opened }) refl l' (k ∙ rw (f, words_whole w g))

-- the words of a leaf
pub push_leaf : (b : Builder) (l w : List ℕ) (leaf : Leaf) (r : Stepped) (l' : List ℕ) → w ≡ pushed leaf → Taken (push w) b l r l' → Taken (push (pushed leaf)) b l r l'
push_leaf b l w leaf r l' e t = subst (λ (x : List ℕ). Taken (push x) b l r l') e t

pub ruleset push_cases = (push_refused, push_room, push_small, push_done, push_leaf)

-- ---- open

-- what a passed verdict says of the open trees, and of a tree more
module _ (l : List ℕ) (b : format.Builder) (kind : ℕ) (s : WordSpan) (h : open_verdict l b kind s ≡ passed) where
  abbrev ranged : Verdict
  ranged = rule (leb kind 3 && range_fits s) 2 b.count

  abbrev shallow : Verdict
  shallow = rule (ltb (length b.opened) 255) 4 b.count

  told : (shallow ≡ passed) × (room l b ≡ passed)
  told =
      let x = both (agreed l b) (ranged and_then shallow and_then room l b) h in
      both shallow (room l b) (both ranged (shallow and_then room l b) x.1).1

  pub open_few : length b.opened < 255
  open_few = ltb-true _ _ (rule_passed (ltb (length b.opened) 255) 4 b.count told.0)

module _ (b : Builder) (l : List ℕ) (kind : ℕ) (s : Span) (v : Result ⊤ Refusal) (e : v ≡ verdict_answer (open_verdict l (seen b) kind (words_of s))) where
  pub open_refused : (x : Refusal) → v ≡ Err x → Taken (open_subtree kind (words_of s)) b l (record { verdict = v; builder = b }) l
  open_refused x h = step_refused (open_subtree kind (words_of s)) b l v e x h

  module _ (h : v ≡ Ok tt) where
    open_ok : open_verdict l (seen b) kind (words_of s) ≡ passed
    open_ok = answer_passed (open_verdict l (seen b) kind (words_of s)) (sym e ∙ h)

    opens : Roomy l b.count
    opens = roomy l (seen b) (told l (seen b) kind (words_of s) open_ok).1

    pub open_room : (ws : List ℕ) → length ws ≡ tree_size → (m : ℕ) → m ≡ b.count → tree_size * m + length ws ≤ length l
    open_room ws k m f = let z = opens.in_run in omega arith

    pub open_small : b.count + 1 < 4294967296
    open_small = let z = opens.many in omega arith

    open_shallow : b.depth < 255
    open_shallow = let z = open_few l (seen b) kind (words_of s) open_ok in rw (numbers_length b.opened b.depth) at z

    pub open_index : b.depth < 256
    open_index = let z = open_shallow in omega arith

    pub open_index_4 : b.depth * 4 < 18446744073709551616
    open_index_4 = let z = open_shallow in omega arith

    pub open_deeper : b.depth + 1 < 18446744073709551616
    open_deeper = let z = open_shallow in omega arith

    pub open_done : (ws : List ℕ) → ws ≡ subtree_words 0 kind (words_of s) (words_of s) → (m : ℕ) → m ≡ b.count → (l' : List ℕ) → l' ≡ put l (tree_size * m) ws
        → Taken (open_subtree kind (words_of s)) b l
        (record { verdict = v; builder = record { count = b.count + 1; depth = b.depth + 1; opened = set b.opened b.depth b.count } }) l'
    unfolding after
    open_done ws g m f l' k =
        step_passed (open_subtree kind (words_of s)) b l v e h (record { count = b.count + 1; depth = b.depth + 1; opened = set b.opened b.depth b.count }) refl l' (k ∙ rw (f, g))

pub ruleset open_cases = (open_refused, open_room, open_small, open_index, open_index_4, open_deeper, open_done)

-- ---- close

module _ (b : Builder) (l : List ℕ) (s : Span) (v : Result ⊤ Refusal) (e : v ≡ verdict_answer (close_verdict l (seen b) (words_of s))) where
  pub close_refused : (x : Refusal) → v ≡ Err x → Taken (close_subtree (words_of s)) b l (record { verdict = v; builder = b }) l
  close_refused x h = step_refused (close_subtree (words_of s)) b l v e x h

  module _ (h : v ≡ Ok tt) where
    abbrev some : Verdict
    some = rule (leb 1 (length (numbers b.opened b.depth))) 10 b.count

    heard : (agreed l (seen b) ≡ passed) × (some ≡ passed)
    heard =
        let x = both (agreed l (seen b)) (some and_then rule (range_fits (words_of s)) 2 b.count) (answer_passed (close_verdict l (seen b) (words_of s)) (sym e ∙ h)) in
        (x.0, (both some (rule (range_fits (words_of s)) 2 b.count) x.1).0)

    pub close_open : 1 ≤ b.depth
    close_open =
        let z : 1 ≤ length (numbers b.opened b.depth) = leb-true _ _ (rule_passed (leb 1 (length (numbers b.opened b.depth))) 10 b.count heard.1) in
        rw (numbers_length b.opened b.depth) at z

    agree : Agrees l (seen b)
    agree = agrees_is l (seen b) (not-true (disagrees l (seen b)) (rule_passed (not (disagrees l (seen b))) 10 b.count heard.0))

    close_shallow : b.depth ≤ 255
    close_shallow = let z = agree.few in rw (numbers_length b.opened b.depth) at z

    pub close_index : b.depth - 1 < 256
    close_index = let z = close_shallow in omega arith

    pub close_index_4 : (b.depth - 1) * 4 < 18446744073709551616
    close_index_4 = let z = close_shallow in omega arith

    last_below : get_or b.opened (b.depth - 1) 0 < b.count
    last_below =
        let t = numbers_down b.opened b.depth close_open in
        (subst (Below b.count) t (fit_below l b.count (numbers b.opened b.depth) agree.fit)).0

    pub close_fits : get_or b.opened (b.depth - 1) 0 + 1 < 4294967296
    close_fits =
        let x = last_below in
        let y = agree.small in
        omega arith

    pub close_count : get_or b.opened (b.depth - 1) 0 + 1 ≤ b.count
    close_count = let x = last_below in omega arith

    pub close_inside : (m : ℕ) → m ≡ get_or b.opened (b.depth - 1) 0 → m < list_count l
    close_inside m f =
        let x = last_below in
        let y = agree.in_run in
        omega arith

    pub close_done : (m : ℕ) → m ≡ get_or b.opened (b.depth - 1) 0 → (l' : List ℕ)
        → l' ≡ closed_at l m (b.count - (get_or b.opened (b.depth - 1) 0 + 1)) (words_of s)
        → Taken (close_subtree (words_of s)) b l (record { verdict = v; builder = record { count = b.count; depth = b.depth - 1; opened = b.opened } }) l'
    unfolding after
    close_done m f l' k =
        let t = numbers_down b.opened b.depth close_open in
        step_passed (close_subtree (words_of s)) b l v e h (record { count = b.count; depth = b.depth - 1; opened = b.opened }) refl l'
        (k ∙ rw f (sym (ap (close_last l (seen b) (words_of s)) t)))

pub ruleset close_step_cases = (close_refused, close_open, close_index, close_index_4, close_fits, close_count, close_inside, close_done)
