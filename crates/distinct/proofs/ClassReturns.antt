-- Laws for the functions that go class by class.
use Prim.Native.Nat.{ℕ, zero, suc, ◌+◌, ◌-◌, ◌<◌, ◌≤◌}
use mathlib.Core.Path.{◌≡◌, refl, ap, ap₂, sym, ◌∙◌, subst}
use mathlib.Core.Bool.{Bool, true, false, ◌&&◌}
use mathlib.Core.Logic.{⊎_elim}
use mathlib.Core.List.{List, ◌++◌}
use native.Mathlib.Omega.{arith}
use lib.ListN.{length, get_or, take, drop, length-append, length-drop, get_or-append}
use lib.Seq.{take_all, get_or-append_right, drop-drop}
use Rattle.std.proofs.Common.{append_assoc}
use Rattle.std.proofs.lemmas.List.{get_or-take, get_or-drop, length-take-le}
use lib.Dec.{ltb}
use Rattle.std.specs.Prelude.{if◌then◌else◌}
use Rattle.std.specs.Prelude.{Option, None, Some}
use Rattle.format.specs.Distinct.{tally, news}
use Rattle.format.proofs.Tally.{amount, lt_or_le, tally_all, tally_same, amount_all}
use Rattle.format.specs.MakeTables.{alike_at, key_count, limit_of, keys_of, times_of}
use Rattle.format.proofs.NewsLaw.{news_live}
use Rattle.format.proofs.TableKeys.{keys_many, keys_most}
use Rattle.keys.specs.Keys.{class_of, live_in}
use Rattle.distinct.specs.Gathered.{Gathered, Filled, FilledIf}
use Rattle.keys.specs.Runs.{Room, Behind}
use Rattle.distinct.specs.Classes.{Copied, below, Held, Joined, ClassIf, Scratched, PairedIf}
use Rattle.slots.proofs.Cases.{kept}
use Rattle.keys.proofs.RunLaw.{behind_none, behind_then, in_least}
use Rattle.distinct.proofs.Amounts.{tally_take}
use Rattle.distinct.proofs.ClassLaw.{amount_most, in_times, news_more, news_zero, news_every}

-- ---- a copy

module _ (at q : ℕ) (f b : List ℕ) where
  -- what stands there after the library's copy of the first q elements
  copied_as : q ≤ length f → at + q ≤ length b → Copied at q f b (take at b ++ take q f ++ drop (at + q) b)
  copied_as h g =
      let a : length (take at b) ≡ at = length-take-le at b (omega arith) in
      let d : length (take q f) ≡ q = length-take-le q f h in
      let s : length (take at b ++ take q f) ≡ at + q = length-append (take at b) (take q f) ∙ ap₂ (λ (x y : ℕ). x + y) a d in
      record {
        size = length-append (take at b ++ take q f) (drop (at + q) b) ∙ ap₂ (λ (x y : ℕ). x + y) s (length-drop (at + q) b) ∙ (omega arith);
        same = λ e h.
            get_or-append (take at b ++ take q f) (drop (at + q) b) 0 (at + e) (omega arith)
            ∙ get_or-append_right (take at b) (take q f) (at + e) 0 (omega arith)
            ∙ ap (λ (x : ℕ). get_or (take q f) x 0) (let i : at + e - length (take at b) ≡ e = omega arith in i)
            ∙ get_or-take q f e 0 h;
        front = λ i h.
            get_or-append (take at b ++ take q f) (drop (at + q) b) 0 i (omega arith)
            ∙ get_or-append (take at b) (take q f) 0 i (omega arith)
            ∙ get_or-take at b i 0 h;
        rest = λ i h.
            get_or-append_right (take at b ++ take q f) (drop (at + q) b) i 0 (omega arith)
            ∙ get_or-drop (at + q) b (i - length (take at b ++ take q f)) 0
            ∙ ap (λ (x : ℕ). get_or b x 0) (let j : at + q + (i - length (take at b ++ take q f)) ≡ i = omega arith in j);
      }

  pub copied : (m : List ℕ) (k : ℕ) → q ≤ length f → at + q ≤ length b → m ≡ take q f → k ≡ q → Copied at q f b (take at b ++ (m ++ drop k (drop at b)))
  copied m k h g em ek = let e : drop k (drop at b) ≡ drop (at + q) b = ap (λ (x : ℕ). drop x (drop at b)) ek ∙ drop-drop q at b in rw (em, e, ← append_assoc) (copied_as h g)

  copied_behind : (b₁ : List ℕ) → Copied at q f b b₁ → Behind (at + q) b b₁
  copied_behind b₁ S = record { size = S.size; rest = S.rest }

-- ---- one class joins

tally_split : (h : ℕ → Bool) (a b : ℕ) → tally h (a + b) ≡ tally h a + tally (λ e. h (a + e)) b
unfolding tally
tally_split h a zero = let z : a + 0 ≡ a = omega arith in rw z (omega arith)
tally_split h a (suc b) = let z : a + suc b ≡ suc (a + b) = omega arith in rw z (go (h (a + b)) (tally_split h a b))
  where
    go : (x : Bool) → tally h (a + b) ≡ tally h a + tally (λ e. h (a + e)) b
        → (if x then tally h (a + b) + 1 else tally h (a + b)) ≡ tally h a + (if x then tally (λ e. h (a + e)) b + 1 else tally (λ e. h (a + e)) b)
    go true e = omega arith
    go false e = e

module _ (l : List ℕ) (s : Bool) (C : ℕ) where
  pub held_none : (w t : List ℕ) → Held l s C 0 0 w t
  unfolding tally
  held_none w t = record { keys = λ f. sym (news_zero l s C f); counts = λ j h. absurd (omega arith) }

  module _ (k p : ℕ) (w t : List ℕ) (H : Held l s C k p w t) where
    held_number : p ≡ amount (λ v. true && ltb (class_of l s C v) k) (keys_of l s)
    held_number = sym (tally_all (λ i. true) p (λ i. refl)) ∙ H.keys (λ v. true)

    pub held_most : p ≤ length (keys_of l s)
    held_most = rw held_number (amount_most (λ v. true && ltb (class_of l s C v) k) (keys_of l s))

    module _ (q : ℕ) (f c : List ℕ) (G : Gathered (live_in l s C k) (alike_at l s) (key_count l s) q f c) (many : 1 < C) where
      abbrev new : List ℕ
      new = news (live_in l s C k) (alike_at l s) (key_count l s)

      joined_most : p + q ≤ length (keys_of l s)
      joined_most =
          let a : q ≡ amount (λ v. true) new = G.number ∙ sym (amount_all new) in
          let b : amount (λ v. true && ltb (class_of l s C v) (k + 1)) (keys_of l s) ≡ amount (λ v. true && ltb (class_of l s C v) k) (keys_of l s) + amount (λ v. true) new =
          news_more l s C (λ v. true) k many in
          let d : amount (λ v. true && ltb (class_of l s C v) (k + 1)) (keys_of l s) ≤ length (keys_of l s) = amount_most (λ v. true && ltb (class_of l s C v) (k + 1)) (keys_of l s) in
          let e = held_number in
          omega arith

      joined : (w' t' : List ℕ) → Copied p q f w w' → Copied p q c t t' → Held l s C (k + 1) (p + q) w' t'
      joined w' t' W T = record {
        keys = λ g.
            tally_split (λ i. g (get_or w' i 0)) p q
            ∙ ap₂ (λ (x y : ℕ). x + y)
            (tally_same (λ i. g (get_or w' i 0)) (λ i. g (get_or w i 0)) p (λ i h. ap g (W.front i h)) ∙ H.keys g)
            (tally_same (λ e. g (get_or w' (p + e) 0)) (λ e. g (get_or new e 0)) q (λ e h. ap g (W.same e h ∙ G.keys e h))
            ∙ sym (tally_take g new q (omega (arith, G.number))) ∙ ap (amount g) (take_all q new (omega (arith, G.number))))
            ∙ sym (news_more l s C g k many);
        counts = λ j h. ⊎_elim
            (λ y. T.front j y ∙ H.counts j y ∙ ap (times_of l s) (sym (W.front j y)))
            (λ y. let z : p + (j - p) ≡ j = omega arith in subst (λ (x : ℕ). get_or t' x 0 ≡ times_of l s (get_or w' x 0)) z (last (j - p) (omega arith)))
            (lt_or_le j p);
      }
        where
          last : (e : ℕ) → e < q → get_or t' (p + e) 0 ≡ times_of l s (get_or w' (p + e) 0)
          last e h =
              let a : get_or w' (p + e) 0 ≡ get_or new e 0 = W.same e h ∙ G.keys e h in
              T.same e h ∙ G.counts e h
              ∙ in_times l s C k many (get_or new e 0) (news_live (live_in l s C k) (alike_at l s) (key_count l s) e (omega (arith, G.number)))
              ∙ ap (times_of l s) (sym a)

module _ (l : List ℕ) (s : Bool) (C k N q : ℕ) (tb f c : List ℕ) (F : Filled l s C k N (key_count l s) q tb f c) (w t : List ℕ) (at : ℕ) (many : 1 < C)
    (H : Held l s C k at w t) where
  most : at + q ≤ length (keys_of l s)
  most = joined_most l s C k at w t H q f c F.gathered many

  pub class_words : Room l s w t → at + q ≤ length w
  class_words R = let a = most in let b = in_least s (length (keys_of l s)) in omega (arith, R.words)

  pub class_tallies : Room l s w t → at + q ≤ length t
  class_tallies R = let a = most in omega (arith, R.tallies)

  pub class_joined : (w' t' : List ℕ) → Copied at q f w w' → Copied at q c t t' → Joined l s C k at q w w' t t'
  class_joined w' t' W T = record {
    held = joined l s C k at w t H q f c F.gathered many w' t' W T;
    words = copied_behind at q f w w' W;
    tallies = copied_behind at q c t t' T;
  }

pub ruleset class_cases = (kept, class_words, class_tallies, class_joined)

-- ---- all classes

behind_wider : (p q : ℕ) (a b : List ℕ) → p ≤ q → Behind p a b → Behind q a b
behind_wider p q a b h B = record { size = B.size; rest = λ i g. B.rest i (omega arith) }

module _ (l : List ℕ) (s : Bool) (C : ℕ) (w t : List ℕ) (k p : ℕ) (w₁ t₁ : List ℕ) (H : Held l s C k p w₁ t₁) (A : Behind p w w₁) (B : Behind p t t₁) where
  scratched : Scratched l s w w₁ t t₁
  scratched =
      let m = held_most l s C k p w₁ t₁ H in
      record { words = behind_wider p (length (keys_of l s)) w w₁ m A; tallies = behind_wider p (length (keys_of l s)) t t₁ m B }

  pub class_room : Room l s w t → Room l s w₁ t₁
  class_room R = record { words = rw A.size R.words; tallies = rw B.size R.tallies }

  pub class_few : PairedIf l s None w w₁ t t₁
  class_few = record { scratched = scratched; paired = tt }

  -- a class has too many keys
  pub class_fails : (w₂ t₂ : List ℕ) → (w₂ ≡ w₁) × (t₂ ≡ t₁) → PairedIf l s None w w₂ t t₂
  class_fails w₂ t₂ z = rw (z.0, z.1) class_few

  module _ (q : ℕ) (w₂ t₂ : List ℕ) (I : Joined l s C k p q w₁ w₂ t₁ t₂) where
    pub class_held : Held l s C (k + 1) (p + q) w₂ t₂
    class_held = I.held

    pub class_words_on : Behind (p + q) w w₂
    class_words_on = behind_then (p + q) w w₁ w₂ (behind_wider p (p + q) w w₁ (omega arith) A) I.words

    pub class_tallies_on : Behind (p + q) t t₂
    class_tallies_on = behind_then (p + q) t t₁ t₂ (behind_wider p (p + q) t t₁ (omega arith) B) I.tallies

    pub class_fits : p + q ≤ key_count l s
    class_fits =
        let a = held_most l s C (k + 1) (p + q) w₂ t₂ I.held in
        let b = keys_many l s in
        let c = keys_most l s in
        omega arith

  pub class_every : (lim : ℕ) → 1 < C → k ≤ C → C ≤ k → lim ≡ limit_of s → lim < p → PairedIf l s (Some p) w w₁ t t₁
  class_every lim many a b el h =
      let e : k ≡ C = omega arith in
      let every : (f : ℕ → Bool) → tally (λ i. f (get_or w₁ i 0)) p ≡ amount f (keys_of l s) = λ f.
      H.keys f ∙ ap (λ (x : ℕ). amount (λ v. f v && ltb (class_of l s C v) x) (keys_of l s)) e ∙ news_every l s C f (omega arith) in
      let n : p ≡ length (keys_of l s) = sym (tally_all (λ i. true) p (λ i. refl)) ∙ every (λ v. true) ∙ amount_all (keys_of l s) in
      record {
        scratched = scratched;
        paired = record { number = n; keys = every; counts = H.counts; turn = λ g. absurd (omega arith) };
      }

pub ruleset by_class_cases = (kept, behind_none, held_none, class_room, class_fails, class_held, class_words_on, class_tallies_on, class_fits, class_few, class_every)

-- ---- more and more classes

module _ (l : List ℕ) (s : Bool) where
  pub scratched_none : (w t : List ℕ) → Scratched l s w w t t
  scratched_none w t = record { words = behind_none (length (keys_of l s)) w; tallies = behind_none (length (keys_of l s)) t }

  module _ (w w₁ t t₁ : List ℕ) (S : Scratched l s w w₁ t t₁) where
    pub scratched_room : Room l s w t → Room l s w₁ t₁
    scratched_room R = record { words = rw S.words.size R.words; tallies = rw S.tallies.size R.tallies }

    pub scratched_unknown : PairedIf l s None w w₁ t t₁
    scratched_unknown = record { scratched = S; paired = tt }

    module _ (r : Option ℕ) (w₂ t₂ : List ℕ) (P : PairedIf l s r w₁ w₂ t₁ t₂) where
      pub scratched_then : Scratched l s w w₂ t t₂
      scratched_then = record {
        words = behind_then (length (keys_of l s)) w w₁ w₂ S.words P.scratched.words;
        tallies = behind_then (length (keys_of l s)) t t₁ t₂ S.tallies P.scratched.tallies;
      }

      pub scratched_paired : PairedIf l s r w w₂ t t₂
      scratched_paired = record { scratched = scratched_then; paired = P.paired }

pub ruleset by_classes_cases = (kept, scratched_none, scratched_room, scratched_unknown, scratched_then, scratched_paired)

-- ---- numbers alone

pub class_known : (l : List ℕ) (s : Bool) (C k m N : ℕ) (q : Option ℕ) (tb f c : List ℕ) → FilledIf m l s C k N (key_count l s) q tb f c → ClassIf l s C k q
class_known l s C k m N None tb f c F = tt
class_known l s C k m N (Some q) tb f c F = F.1.gathered.number

module _ (l : List ℕ) (s : Bool) (C : ℕ) where
  plain : (k : ℕ) → amount (λ v. true && ltb (class_of l s C v) k) (keys_of l s) ≡ below l s C k
  unfolding below
  plain k = refl

  pub below_none : 0 ≡ below l s C 0
  below_none = sym (sym (plain 0) ∙ news_zero l s C (λ v. true))

  module _ (k p q : ℕ) (e : p ≡ below l s C k) (K : q ≡ length (news (live_in l s C k) (alike_at l s) (key_count l s))) (many : 1 < C) where
    pub below_more : p + q ≡ below l s C (k + 1)
    below_more =
        let a : q ≡ amount (λ v. true) (news (live_in l s C k) (alike_at l s) (key_count l s)) = K ∙ sym (amount_all _) in
        let b : below l s C (k + 1) ≡ below l s C k + amount (λ v. true) (news (live_in l s C k) (alike_at l s) (key_count l s)) =
        sym (plain (k + 1)) ∙ news_more l s C (λ v. true) k many ∙ ap (λ (x : ℕ). x + amount (λ v. true) (news (live_in l s C k) (alike_at l s) (key_count l s))) (plain k) in
        omega arith

    pub below_fits : p + q ≤ key_count l s
    below_fits =
        let a : p + q ≡ below l s C (k + 1) = below_more in
        let b : below l s C (k + 1) ≤ length (keys_of l s) = rw (sym (plain (k + 1))) (amount_most (λ v. true && ltb (class_of l s C v) (k + 1)) (keys_of l s)) in
        let c = keys_many l s in
        let d = keys_most l s in
        omega arith

  pub below_all : (k p : ℕ) → p ≡ below l s C k → 1 < C → k ≤ C → C ≤ k → p ≡ length (keys_of l s)
  below_all k p e many a b =
      let i : k ≡ C = omega arith in
      e ∙ ap (below l s C) i ∙ sym (plain C) ∙ news_every l s C (λ v. true) (omega arith) ∙ amount_all (keys_of l s)

pub ruleset number_cases = (below_none, below_more, below_fits, below_all)
