-- One law for each return of the functions of src/stream.rt.
use Prim.Native.Nat.{ℕ, ◌+◌, ◌≤◌, ◌<◌}
use mathlib.Core.Bool.{Bool, true, false}
use mathlib.Core.Logic.{⊎_elim}
use mathlib.Core.Path.{◌≡◌, refl, sym, ap, subst, ◌∙◌}
use mathlib.Core.List.{List}
use native.Mathlib.Omega.{arith}
use borrow.Author.Tests.{eq-eqb, ne_eqb, eqb-true, eqb-false}
use lib.Dec.{eqb}
use lib.ListN.{length, get_or, set, replicate, length-set}
use Rattle.std.proofs.lemmas.List.{get_or-replicate}
use lib.Seq.{get_or-set_same, get_or-set_other}
use Rattle.format.specs.Part.{Part}
use Rattle.std.specs.Prelude.{if◌then◌else◌, Option, Some, None}
use Rattle.format.specs.Writer.{find}
use Rattle.places.specs.Key.{key_at, is_key, shift}
use Rattle.places.specs.Index.{Leads, Finds}
use Rattle.places.specs.Places.{Placed, Midway, so_far}
use Rattle.places.specs.declared.key.Layout.{Layout}
use Rattle.slots.proofs.Cases.{eq_or_ne}
use Rattle.places.proofs.FindLaw.{so_far_none, so_far_all, so_far_not, so_far_first, so_far_again}
use Rattle.places.proofs.IndexLaw.{key_is, key_not, lead_once}

-- ---- one place

module _ (out : List ℕ) (i n e x : ℕ) (q : x ≡ get_or out i 0) where
  pub put_not : (x ≡ n → ⊥) → out ≡ (if eqb (get_or out i 0) n then set out i e else out)
  put_not h = let z : eqb (get_or out i 0) n ≡ false = ne_eqb _ _ (λ k. h (q ∙ k)) in simp z

  pub put_now : x ≡ n → set out i e ≡ (if eqb (get_or out i 0) n then set out i e else out)
  put_now h = let z : eqb (get_or out i 0) n ≡ true = eq-eqb _ _ (sym q ∙ h) in simp z

pub ruleset put_first_cases = (put_not, put_now)

-- ---- while keys are looked for

pub shift_at : (key : ℕ → Part) (base i : ℕ) → shift key base i ≡ key (base + i)
unfolding shift
shift_at key base i = refl

module _ (t : List ℕ) (table : Layout) (n : ℕ) (l : List ℕ) (keys : Layout) (from base a m : ℕ) (out : List ℕ) where
  abbrev tree : ℕ → Part
  tree = shift (key_at l keys) base

  abbrev test : ℕ → ℕ → Bool
  test j = is_key (key_at t table) (tree j)

  module _ (d e : ℕ) (M : Midway t table n l keys from base a m d e out) (k : Part) (q : Option ℕ) (F : Finds (shift (key_at l keys) base) m k q) where
    pub found_room : (j : ℕ) → q ≡ Some j → a + j < length out
    found_room j h = let r = M.room in let u = (F.found j h).0.to in omega arith

  -- ---- entry e

  module _ (e : ℕ) (M : Midway t table n l keys from base a m a e out) (k : Part) (ek : k ≡ key_at t table e) (q : Option ℕ) (F : Finds (shift (key_at l keys) base) m k q) where
    -- it is not key j
    other : (j : ℕ) → (tree j ≡ k → ⊥) → so_far (test j) n (e + 1) ≡ so_far (test j) n e
    other j h = so_far_not (test j) n e (key_not (key_at t table) (tree j) e (λ p. h (sym p ∙ sym ek)))

    pub meet_none : q ≡ None → Midway t table n l keys from base a m a (e + 1) out
    meet_none h = record {
      begin = M.begin;
      room = M.room;
      done = M.done;
      todo = M.todo;
      leads = λ j L. M.leads j L ∙ sym (other j (F.none h j L.to));
    }

    module _ (j : ℕ) (h : q ≡ Some j) (en : e < n) where
      lead : Leads tree m j
      lead = (F.found j h).0

      same : tree j ≡ k
      same = (F.found j h).1

      is_it : test j e ≡ true
      is_it = key_is (key_at t table) (tree j) e (sym ek ∙ sym same)

      -- another one that leads is not alike
      apart : (i : ℕ) → Leads tree m i → (i ≡ j → ⊥) → so_far (test i) n (e + 1) ≡ so_far (test i) n e
      apart i L n = other i (λ p. n (lead_once tree m i j L lead (p ∙ sym same)))

      before : get_or out (a + j) 0 ≡ so_far (test j) n e
      before = M.leads j lead

      again : (get_or out (a + j) 0 ≡ n → ⊥) → Midway t table n l keys from base a m a (e + 1) out
      again z = record {
        begin = M.begin;
        room = M.room;
        done = M.done;
        todo = M.todo;
        leads = λ i L. M.leads i L ∙ sym (⊎_elim
            (λ p. subst (λ (x : ℕ). so_far (test x) n (e + 1) ≡ so_far (test x) n e) (sym p) (so_far_again (test j) n e (λ s. z (before ∙ s))))
            (λ p. apart i L p)
            (eq_or_ne i j));
      }

      first : get_or out (a + j) 0 ≡ n → Midway t table n l keys from base a m a (e + 1) (set out (a + j) e)
      first z = record {
        begin = M.begin;
        room = rw (length-set out (a + j) e) M.room;
        done = λ i u. get_or-set_other out (a + j) i e 0 (λ p. absurd (low i u p)) ∙ M.done i u;
        todo = λ i u v. get_or-set_other out (a + j) i e 0 (λ p. absurd (high i u p)) ∙ M.todo i u (rw (length-set out (a + j) e) at v);
        leads = λ i L. ⊎_elim
            (λ p.
            subst (λ (x : ℕ). get_or (set out (a + j) e) (a + x) 0 ≡ so_far (test x) n (e + 1)) (sym p)
            (get_or-set_same out (a + j) e 0 (found_room a e M k q F j h) ∙ sym (so_far_first (test j) n e is_it en (sym before ∙ z))))
            (λ p. get_or-set_other out (a + j) (a + i) e 0 (λ r. p (left i r)) ∙ M.leads i L ∙ sym (apart i L p))
            (eq_or_ne i j);
      }
        where
          low : (i : ℕ) → i < a → i ≡ a + j → ⊥
          low i u p = omega arith

          high : (i : ℕ) → a + m ≤ i → i ≡ a + j → ⊥
          high i u p = let w = lead.to in omega arith

          left : (i : ℕ) → a + i ≡ a + j → i ≡ j
          left i r = omega arith

      pub meet_found : (out' : List ℕ) → out' ≡ (if eqb (get_or out (a + j) 0) n then set out (a + j) e else out) → Midway t table n l keys from base a m a (e + 1) out'
      meet_found out' eo = go (eqb (get_or out (a + j) 0) n) refl eo
        where
          go : (b : Bool) → eqb (get_or out (a + j) 0) n ≡ b → out' ≡ (if b then set out (a + j) e else out) → Midway t table n l keys from base a m a (e + 1) out'
          go true z o = subst (λ (x : List ℕ). Midway t table n l keys from base a m a (e + 1) x) (sym o) (first (eqb-true (get_or out (a + j) 0) n z))
          go false z o = subst (λ (x : List ℕ). Midway t table n l keys from base a m a (e + 1) x) (sym o) (again (eqb-false (get_or out (a + j) 0) n z))

  pub ruleset meet_cases = (found_room, meet_none, meet_found)

  -- ---- key a + i

  module _ (i : ℕ) (hi : i < m) (M : Midway t table n l keys from base a m (a + i) n out) (k : Part) (ek : k ≡ shift (key_at l keys) base i) (q : Option ℕ) (F : Finds (shift (key_at l keys) base) m k q) where
    pub spread_absent : q ≡ None → Midway t table n l keys from base a m (a + (i + 1)) n out
    spread_absent h = absurd (F.none h i hi (sym ek))

    pub spread_found : (j : ℕ) → q ≡ Some j → (out' : List ℕ) → out' ≡ set out (a + i) (get_or out (a + j) 0) → Midway t table n l keys from base a m (a + (i + 1)) n out'
    spread_found j h out' eo = subst (λ (x : List ℕ). Midway t table n l keys from base a m (a + (i + 1)) n x) (sym eo) (record {
      begin = M.begin;
      room = rw (length-set out (a + i) v) M.room;
      done = λ x u. ⊎_elim
          (λ p. subst (λ (y : ℕ). get_or (set out (a + i) v) y 0 ≡ find (is_key (key_at t table) (key_at l keys (from + y))) n 0) (sym p) (stored ∙ ap (λ (z : Part). find (is_key (key_at t table) z) n 0) absolute))
          (λ p. get_or-set_other out (a + i) x v 0 p ∙ M.done x (below x u p))
          (eq_or_ne x (a + i));
      todo = λ x u w. get_or-set_other out (a + i) x v 0 (λ p. absurd (high x u p)) ∙ M.todo x u (rw (length-set out (a + i) v) at w);
      leads = λ x L. ⊎_elim
          (λ p. subst (λ (y : ℕ). get_or (set out (a + i) v) (a + y) 0 ≡ so_far (test y) n n) (sym p) (stored ∙ sym (so_far_all (test i) n)))
          (λ p. get_or-set_other out (a + i) (a + x) v 0 (λ r. p (left x r)) ∙ M.leads x L)
          (eq_or_ne x i);
    })
      where
        v : ℕ
        v = get_or out (a + j) 0

        -- the value is key i's place, since the one that leads is alike
        value : v ≡ find (test i) n 0
        value = M.leads j (F.found j h).0 ∙ so_far_all (test j) n ∙ ap (λ (z : Part). find (is_key (key_at t table) z) n 0) ((F.found j h).1 ∙ ek)

        stored : get_or (set out (a + i) v) (a + i) 0 ≡ find (test i) n 0
        stored = get_or-set_same out (a + i) v 0 (let r = M.room in omega arith) ∙ value

        absolute : tree i ≡ key_at l keys (from + (a + i))
        absolute = let b = M.begin in let z : base + i ≡ from + (a + i) = omega arith in shift_at (key_at l keys) base i ∙ ap (λ (x : ℕ). key_at l keys x) z

        below : (x : ℕ) → x < a + (i + 1) → (x ≡ a + i → ⊥) → x < a + i
        below x u p = omega arith

        high : (x : ℕ) → a + m ≤ x → x ≡ a + i → ⊥
        high x u p = omega arith

        left : (x : ℕ) → a + x ≡ a + i → x ≡ i
        left x r = omega arith

    pub key_room : a + i < length out
    key_room = let r = M.room in omega arith

  pub ruleset spread_one_cases = (found_room, key_room, spread_absent, spread_found)

  pub spread_begin : (e : ℕ) → n ≡ e → Midway t table n l keys from base a m a e out → Midway t table n l keys from base a m (a + 0) n out
  spread_begin e p M =
      let z : a + 0 ≡ a = omega arith in
      rw z (subst (λ (x : ℕ). Midway t table n l keys from base a m a x out) (sym p) M)

  -- ---- a portion of the keys

  pub portion_begin : Placed t table n l keys from a out → base ≡ from + a → a + m ≤ length out → Midway t table n l keys from base a m a 0 out
  portion_begin P b r = record {
    begin = b;
    room = r;
    done = P.done;
    todo = λ j u v. P.todo j (omega arith) v;
    leads = λ j L. let u = L.to in P.todo (a + j) (omega arith) (omega arith) ∙ sym (so_far_none (test j) n);
  }

  pub portion_end : Midway t table n l keys from base a m (a + m) n out → Placed t table n l keys from (a + m) out
  portion_end M = record { done = M.done; todo = M.todo }

pub run_begin : (t : List ℕ) (table : Layout) (n : ℕ) (l : List ℕ) (keys : Layout) (from : ℕ) (out : List ℕ) (x : ℕ) → out ≡ replicate x n → length out ≡ x → Placed t table n l keys from 0 out
run_begin t table n l keys from out x F e = record { done = λ j h. absurd (omega arith); todo = λ j u v. rw F (get_or-replicate x j n 0 (omega arith)) }

pub run_end : (t : List ℕ) (table : Layout) (n : ℕ) (l : List ℕ) (keys : Layout) (from : ℕ) (out : List ℕ) (a m : ℕ) → Placed t table n l keys from a out → a ≤ m → m ≤ a
    → Placed t table n l keys from m out
run_end t table n l keys from out a m P u v = let e : a ≡ m = omega arith in subst (λ (x : ℕ). Placed t table n l keys from x out) e P

pub ruleset run_cases = (run_begin, run_end, portion_begin, portion_end)
