-- Laws for the functions that choose the numbers that are keys, and for those that enter them stretch by stretch.
use Prim.Native.Nat.{ℕ, ◌+◌, ◌*◌, ◌/◌, ◌<◌, ◌≤◌}
use mathlib.Core.Path.{◌≡◌, sym, ◌∙◌}
use mathlib.Core.Bool.{Bool, true, false}
use mathlib.Core.List.{List}
use native.Mathlib.Omega.{arith}
use lib.ListN.{length, get_or, set, replicate, length-replicate}
use borrow.Author.Tests.{le-leb}
use Rattle.std.specs.Prelude.{Option}
use Rattle.format.specs.MakeTables.{key_count}
use Rattle.keys.specs.Keys.{live_in}
use Rattle.distinct.specs.Select.{number_of, trees_of, lead_of, Selected}
use Rattle.distinct.specs.Gathered.{Filled, FilledIf}
use Rattle.keys.proofs.Lists.{differ}
use Rattle.slots.proofs.Cases.{kept}
use Rattle.distinct.proofs.SelectLaw.{lead_next, selected_none, selected_step, filled_on}

-- ---- numbers of trees

pub number_symbols : (s : Bool) (t : ℕ) → s ≡ true → t ≡ number_of s t
unfolding number_of
number_symbols s t e = rw e

pub number_parts : (s : Bool) (t : ℕ) → s ≡ false → 2 * t ≡ number_of s t
unfolding number_of
number_parts s t e = rw e

pub trees_symbols : (s : Bool) (n : ℕ) → s ≡ true → n ≡ trees_of s n
unfolding trees_of
trees_symbols s n e = rw e

pub trees_parts : (s : Bool) (n : ℕ) → s ≡ false → n / 2 ≡ trees_of s n
unfolding trees_of
trees_parts s n e = rw e

pub ruleset number_cases = (number_symbols, number_parts, trees_symbols, trees_parts)

-- ---- choosing

module _ (l : List ℕ) (s : Bool) (C k a z m : ℕ) (b : List ℕ) (S : Selected (live_in l s C k) a z m b) where
  pub choose_index : z < a + length b → m < length b
  choose_index h = omega (arith, S.most)

  pub choose_fits : (d : ℕ) → z < 4294967295 → d ≤ 1 → m + d ≤ 18446744073709551615
  choose_fits d h g = omega (arith, S.most)

  module _ (x : Bool) (h : z < a + length b) (e : x ≡ live_in l s C k z) where
    pub choose_live : x ≡ true → Selected (live_in l s C k) a (z + 1) (m + 1) (set b m z)
    choose_live y = let q : live_in l s C k z ≡ true = sym e ∙ y in selected_step (live_in l s C k) a z m b S (choose_index h) 1 (simp q)

    pub choose_dead : x ≡ false → Selected (live_in l s C k) a (z + 1) m (set b m z)
    choose_dead y =
        let q : live_in l s C k z ≡ false = sym e ∙ y in
        let i : m + 0 ≡ m = omega arith in
        rw i at (selected_step (live_in l s C k) a z m b S (choose_index h) 0 (simp q))

  -- over another name of the end
  pub selected_end : (z' : ℕ) → z ≤ z' → z' ≤ z → Selected (live_in l s C k) a z' m b
  selected_end z' g h = let i : z ≡ z' = omega arith in rw i at S

  pub selected_from : (a' : ℕ) → a' ≡ a → Selected (live_in l s C k) a' z m b
  selected_from a' e = rw e S

pub two_chosen : (l : List ℕ) (s : Bool) (C k a t m : ℕ) (b : List ℕ) → Selected (live_in l s C k) a (2 * t + 1 + 1) m b → Selected (live_in l s C k) a (2 * (t + 1)) m b
two_chosen l s C k a t m b S = let i : 2 * t + 1 + 1 ≡ 2 * (t + 1) = omega arith in rw i at S

pub two_end : (l : List ℕ) (s : Bool) (C k a t u m : ℕ) (b : List ℕ) → Selected (live_in l s C k) a (2 * t) m b → t ≤ u → u ≤ t → Selected (live_in l s C k) a (2 * u) m b
two_end l s C k a t u m b S g h = let i : t ≡ u = omega arith in rw i at S

pub selected_start : (l : List ℕ) (s : Bool) (C k a : ℕ) (b : List ℕ) → Selected (live_in l s C k) a a 0 b
selected_start l s C k a b = selected_none (live_in l s C k) a b

pub ruleset choose_cases = (kept, choose_index, choose_fits, selected_end, selected_from, selected_start, two_chosen, two_end)

-- ---- all of a stretch

pub number_fits : (l : List ℕ) (s : Bool) (t u : ℕ) → t ≤ u → number_of s u ≤ key_count l s → key_count l s < 4294967295 → t < 4294967295
unfolding number_of
number_fits l true t u h g f = omega arith
number_fits l false t u h g f = omega arith

module _ (l : List ℕ) (s : Bool) (t u : ℕ) (h : t ≤ u) (x y : ℕ) (ex : x ≡ number_of s t) (ey : y ≡ number_of s u) where
  pub number_rising : x ≤ y
  unfolding number_of
  number_rising = go s ex ey
    where
      go : (s : Bool) → x ≡ number_of s t → y ≡ number_of s u → x ≤ y
      go true p q = omega arith
      go false p q = omega arith

  pub number_room : (m : ℕ) → 2 * u ≤ 2 * t + m → y ≤ x + m
  unfolding number_of
  number_room m g = go s ex ey
    where
      go : (s : Bool) → x ≡ number_of s t → y ≡ number_of s u → y ≤ x + m
      go true p q = omega arith
      go false p q = omega arith

  pub number_most : number_of s u ≤ key_count l s → y ≤ key_count l s
  number_most g = rw ey g

  pub number_below : number_of s u ≤ key_count l s → key_count l s < 4294967295 → y < 4294967295
  number_below g f = let k = number_most g in omega arith

module _ (l : List ℕ) (s : Bool) (C k t u r : ℕ) (b : List ℕ) where
  pub select_class : (x y : ℕ) → x ≡ number_of s t → y ≡ number_of s u → Selected (live_in l s C k) x y r b → Selected (live_in l s C k) (number_of s t) (number_of s u) r b
  select_class x y ex ey S = rw (← ex, ← ey) S

  one_class : C ≤ 1 → live_in l s C k ≡ live_in l s 1 0
  unfolding live_in
  one_class h = simp (le-leb _ _ h)

  pub select_symbols : C ≤ 1 → s ≡ true → Selected (live_in l true 1 0) t u r b → Selected (live_in l s C k) (number_of s t) (number_of s u) r b
  unfolding number_of
  select_symbols h e S = rw (one_class h, e) S

  pub select_parts : C ≤ 1 → s ≡ false → Selected (live_in l false 1 0) (2 * t) (2 * u) r b → Selected (live_in l s C k) (number_of s t) (number_of s u) r b
  unfolding number_of
  select_parts h e S = rw (one_class h, e) S

module _ (l : List ℕ) (s : Bool) (t u : ℕ) (g : number_of s u ≤ key_count l s) (f : key_count l s < 4294967295) where
  pub symbols_most : s ≡ true → u ≤ key_count l true
  unfolding number_of
  symbols_most e = rw e at g

  pub symbols_below : s ≡ true → u < 4294967295
  unfolding number_of
  symbols_below e = go s e g f
    where
      go : (s : Bool) → s ≡ true → number_of s u ≤ key_count l s → key_count l s < 4294967295 → u < 4294967295
      go true e g f = omega arith
      go false e g f = differ (sym e)

  pub parts_most : s ≡ false → 2 * u ≤ key_count l false
  unfolding number_of
  parts_most e = rw e at g

  pub parts_below : s ≡ false → 2 * u < 4294967295
  unfolding number_of
  parts_below e = go s e g f
    where
      go : (s : Bool) → s ≡ false → number_of s u ≤ key_count l s → key_count l s < 4294967295 → 2 * u < 4294967295
      go true e g f = differ e
      go false e g f = omega arith

pub ruleset select_cases = (kept, number_fits, number_rising, number_room, number_most, number_below, select_class, select_symbols, select_parts, symbols_most, symbols_below, parts_most, parts_below)

-- ---- entering what is chosen

module _ (l : List ℕ) (s : Bool) (C k a z m : ℕ) (b : List ℕ) (S : Selected (live_in l s C k) a z m b) (j : ℕ) where
  module _ (h : j < m) where
    pub chosen_index : (n : ℕ) → z ≤ a + n → j < n
    chosen_index n g = omega (arith, S.most)

    module _ (v : ℕ) (e : v ≡ get_or b j 0) where
      pub chosen_below : (n : ℕ) → z ≤ n → v < n
      chosen_below n g = let q : get_or b j 0 < z = S.within j h in omega arith

      pub chosen_live : live_in l s C k v ≡ true
      chosen_live = rw e (S.keys j h)

      pub chosen_filled : (N N' p : ℕ) (t f c : List ℕ) → Filled l s C k N (lead_of b a j) p t f c → N' ≡ N → Filled l s C k N' v p t f c
      chosen_filled N N' p t f c F i =
          rw (i, e) (filled_on l s C k N (lead_of b a j) p t f c F (get_or b j 0) (S.rising j h) (S.between j h))

  pub chosen_all : (N p : ℕ) (t f c : List ℕ) → j ≤ m → m ≤ j → Filled l s C k N (lead_of b a j) p t f c → Filled l s C k N z p t f c
  chosen_all N p t f c g h F =
      let i : j ≡ m = omega arith in filled_on l s C k N (lead_of b a m) p t f c (rw i at F) z S.last S.behind

pub chosen_start : (l : List ℕ) (s : Bool) (C k N a p : ℕ) (b t f c : List ℕ) → Filled l s C k N a p t f c → Filled l s C k N (lead_of b a 0) p t f c
unfolding lead_of
chosen_start l s C k N a p b t f c F = F

pub chosen_again : (l : List ℕ) (s : Bool) (C k N N' v q a j : ℕ) (b t f c : List ℕ) → Filled l s C k N' (v + 1) q t f c → v ≡ get_or b j 0
    → N' ≡ N → Filled l s C k N (lead_of b a (j + 1)) q t f c
chosen_again l s C k N N' v q a j b t f c F e n = rw (lead_next b a j, ← e) (rw n at F)

pub ruleset chosen_cases = (kept, chosen_index, chosen_below, chosen_live, chosen_filled, chosen_again, chosen_all, chosen_start)

-- ---- stretch by stretch

module _ (l : List ℕ) (s : Bool) (n trees : ℕ) (e : n ≡ key_count l s) (h : trees ≡ trees_of s n) where
  number_end : number_of s trees ≡ n
  unfolding number_of trees_of key_count
  number_end = go s e h
    where
      go : (s : Bool) → n ≡ key_count l s → trees ≡ trees_of s n → number_of s trees ≡ n
      go true e h = h
      go false e h = omega arith

  pub stretch_most : (u : ℕ) → u ≤ trees → number_of s u ≤ key_count l s
  unfolding number_of
  stretch_most u g = go s e number_end
    where
      go : (s : Bool) → n ≡ key_count l s → number_of s trees ≡ n → number_of s u ≤ key_count l s
      go true e q = omega arith
      go false e q = omega arith

  pub stretch_all : (C k N t p : ℕ) (a f c : List ℕ) → t ≤ trees → trees ≤ t → Filled l s C k N (number_of s t) p a f c → Filled l s C k N (key_count l s) p a f c
  stretch_all C k N t p a f c g i F = let j : t ≡ trees = omega arith in rw (number_end ∙ e) at (rw j at F)

pub stretch_start : (l : List ℕ) (s : Bool) (C k N p : ℕ) (t f c : List ℕ) → Filled l s C k N 0 p t f c → Filled l s C k N (number_of s 0) p t f c
unfolding number_of
stretch_start l true C k N p t f c F = F
stretch_start l false C k N p t f c F = F

-- over other names of the numbers
pub stretch_chosen : (l : List ℕ) (s : Bool) (C k m x y x' y' : ℕ) (b : List ℕ) → x ≡ x' → y ≡ y' → Selected (live_in l s C k) x' y' m b → Selected (live_in l s C k) x y m b
stretch_chosen l s C k m x y x' y' b ex ey S = rw (ex, ey) S

pub stretch_from : (l : List ℕ) (s : Bool) (C k N p x x' : ℕ) (t f c : List ℕ) → x ≡ x' → Filled l s C k N x' p t f c → Filled l s C k N x p t f c
stretch_from l s C k N p x x' t f c e F = rw e F

pub stretch_to : (l : List ℕ) (s : Bool) (C k N mm y y' : ℕ) (p : Option ℕ) (t f c : List ℕ) → y ≡ y' → FilledIf mm l s C k N y p t f c → FilledIf mm l s C k N y' p t f c
stretch_to l s C k N mm y y' p t f c e F = rw e at F

pub stretch_room : (s : Bool) (t u x y : ℕ) (b : List ℕ) → x ≡ number_of s t → y ≡ number_of s u → u ≤ t + 512 → length b ≡ length (replicate {A = ℕ} 1024 0) → y ≤ x + length b
unfolding number_of
stretch_room s t u x y b ex ey h e = go s ex ey
  where
    wide : length b ≡ 1024
    wide = e ∙ length-replicate {A = ℕ} 1024 0

    go : (s : Bool) → x ≡ number_of s t → y ≡ number_of s u → y ≤ x + length b
    go true p q = let w = wide in omega arith
    go false p q = let w = wide in omega arith

pub ruleset stretch_cases = (kept, number_fits, number_most, stretch_room, stretch_chosen, stretch_from, stretch_to)

pub ruleset all_cases = (kept, stretch_most, stretch_all, stretch_start)
