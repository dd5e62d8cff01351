-- One law for each return of the functions of src/build.rt, with premises as the code's tests and calls give them.
use Prim.Native.Nat.{ℕ, ◌+◌, ◌*◌, ◌-◌, ◌≤◌}
use mathlib.Core.Bool.{Bool, true, false, not}
use mathlib.Core.Path.{◌≡◌, sym, ap, ◌∙◌, subst}
use mathlib.Core.List.{List, [], ◌++◌}
use native.Mathlib.Omega.{arith}
use borrow.Author.Tests.{not-true}
use lib.Dec.{eqb}
use lib.ListN.{length, take, drop}
use lib.Seq.{length-take-le, take-add, drop_at}
use Rattle.std.specs.Prelude.{Result, Ok, Err, ⊤}
use Rattle.format.specs.Verdict.{passed, refused}
use Rattle.format.specs.Width.{tree_size}
use Rattle.format.specs.WordList.{list_count}
use Rattle.format.specs.Builder.{holding_all, sub_at, disagrees, ready, one_inside, build_list, inner_list, written, build, build_skip_top_subtree}
use Rattle.format.specs.Builder as format
use Rattle.format.proofs.Each.{and_left, rule_passed}
use Rattle.builder.proofs.BuilderRestore.{Agrees, agrees_is}
use Rattle.tree.specs.Refusal.{verdict_answer, report_answer}
use Rattle.tree.proofs.Answers.{answer_passed, answer_refused}
use Rattle.tree.specs.declared.refusal.Refusal.{Refusal}
use Rattle.writer.specs.Written.{Written}
use Rattle.builder.specs.declared.state.Builder.{Builder}
use Rattle.builder.specs.State.{numbers, state_of, seen}
use Rattle.builder.specs.Building.{Made, Built, BuiltSkipping}

-- ---- build, build_skip_top_subtree: from the answer of `ready_verdict` and the writer's report

module _ (b : Builder) (l parts symbols work out : List ℕ) (v : Result ⊤ Refusal) (e : v ≡ verdict_answer (ready l (seen b))) where
  module _ (x : Refusal) (h : v ≡ Err x) where
    no : ready l (seen b) ≡ refused x.number x.tree
    no = answer_refused (ready l (seen b)) x (sym e ∙ h)

    pub build_refused : Built b l parts symbols work out (Err x) work out
    unfolding report_answer
    build_refused = let n = no in record { answer = rw n; works = rw n; outs = rw n }

    pub skip_refused : BuiltSkipping b l parts symbols work out (Err x) work out
    unfolding report_answer
    skip_refused = let n = no in record { answer = rw n; works = rw n; outs = rw n }

  module _ (h : v ≡ Ok tt) where
    yes : ready l (seen b) ≡ passed
    yes = answer_passed (ready l (seen b)) (sym e ∙ h)

    -- the trees are in the run
    agree : Agrees l (seen b)
    agree = agrees_is l (seen b) (not-true (disagrees l (seen b)) (and_left (not (disagrees l (seen b))) (eqb (length (numbers b.opened b.depth)) 0) (rule_passed _ 10 0 yes)))

    pub ready_inside : b.count ≤ list_count l
    ready_inside = agree.in_run

    module _ (m : ℕ) (c : m ≡ b.count) where
      pub ready_end : tree_size ≤ tree_size * m
      ready_end = let a = agree.some in omega arith

      pub ready_room : tree_size * m ≤ length l
      ready_room = let a = agree.in_run in omega arith

      module _ (r : Result ℕ Refusal) (work' out' : List ℕ) where
        -- what the writer makes of a list
        made : (q : List ℕ) (w : format.Built) → w ≡ written parts symbols work out q → Written parts symbols q work out r work' out' → Made w r work' out'
        made q w f h = rw f (record { answer = h.answer; works = h.works; outs = h.outs })

        of_whole : Written parts symbols (holding_all (take (tree_size * m) l)) work out r work' out' → Written parts symbols (build_list l (seen b)) work out r work' out'
        unfolding build_list
        of_whole h = subst (λ (i : ℕ). Written parts symbols (holding_all (take (tree_size * i) l)) work out r work' out') c h

        pub build_made : Written parts symbols (holding_all (take (tree_size * m) l)) work out r work' out' → Built b l parts symbols work out r work' out'
        build_made h = let n = yes in made (build_list l (seen b)) (build parts symbols work out l (seen b)) (rw n) (of_whole h)

        module _ (y : Bool) (f : y ≡ one_inside l (state_of b.count 0 [])) where
          pub skip_inner : y ≡ true → Written parts symbols (drop tree_size (take (tree_size * m) l)) work out r work' out' → BuiltSkipping b l parts symbols work out r work' out'
          unfolding inner_list
          skip_inner g h =
              let n = yes in
              let q : one_inside l (seen b) ≡ true = sym f ∙ g in
              made (inner_list l (seen b)) (build_skip_top_subtree parts symbols work out l (seen b)) (simp (n, q))
              (subst (λ (i : ℕ). Written parts symbols (drop tree_size (take (tree_size * i) l)) work out r work' out') c h)

          pub skip_whole : y ≡ false → Written parts symbols (holding_all (take (tree_size * m) l)) work out r work' out' → BuiltSkipping b l parts symbols work out r work' out'
          skip_whole g h =
              let n = yes in
              let q : one_inside l (seen b) ≡ false = sym f ∙ g in
              made (build_list l (seen b)) (build_skip_top_subtree parts symbols work out l (seen b)) (simp (n, q)) (of_whole h)

pub ruleset build_cases = (build_refused, skip_refused, ready_inside, ready_end, ready_room, build_made, skip_inner, skip_whole)

-- ---- the writer over a part of the run

pub front_length : (l : List ℕ) (end : ℕ) → end ≤ length l → end ≡ length (take end l)
front_length l end k = sym (length-take-le end l k)

module _ (l : List ℕ) (end : ℕ) (h : tree_size ≤ end) (k : end ≤ length l) where
  -- a part without the first tree is the front without it
  part_is : take (end - tree_size) (drop tree_size l) ≡ drop tree_size (take end l)
  part_is =
      let e : tree_size + (end - tree_size) ≡ end = omega arith in
      let f : take end l ≡ take tree_size l ++ take (end - tree_size) (drop tree_size l) = rw e at (take-add tree_size (end - tree_size) l) in
      sym (ap (drop tree_size) f ∙ drop_at (take tree_size l) (take (end - tree_size) (drop tree_size l)) tree_size (length-take-le tree_size l (omega arith)))

  pub inner_written : (p s work out : List ℕ) (r : Result ℕ Refusal) (work' out' : List ℕ) → Written p s (take (end - tree_size) (drop tree_size l)) work out r work' out'
      → Written p s (drop tree_size (take end l)) work out r work' out'
  inner_written p s work out r work' out' h = subst (λ (q : List ℕ). Written p s q work out r work' out') part_is h

pub ruleset front_cases = (front_length, inner_written)
