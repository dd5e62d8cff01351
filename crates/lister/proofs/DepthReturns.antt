-- One law for each return, call and turn of the loop of the functions over the stack of ends.
use Prim.Native.Nat.{ℕ, zero, suc, ◌+◌, ◌-◌, ◌≤◌, ◌<◌}
use mathlib.Core.Path.{◌≡◌, refl, sym, ◌∙◌, subst}
use mathlib.Core.List.{List}
use native.Mathlib.Omega.{arith}
use lib.ListN.{set, get_or, length-set}
use Rattle.format.specs.Nest.{still_open}
use Rattle.format.proofs.OpenEnds.{open_ends, open_more}
use Rattle.format.proofs.NestLaw.{still_above, still_below}
use Rattle.tree.specs.Raw.{raw_of}
use Rattle.tree.specs.declared.raw.RawSubtree.{RawSubtree}
use Rattle.tree.specs.declared.raw.RawTree.{RawTree}
use Rattle.tree.specs.declared.raw.RawTree.TheVariants.{Punct, Ident, Literal, Subtree}
use Rattle.lister.specs.Ends.{Closed, Opens, Pushed}

-- ---- still_open

-- what is left of the stack is closed alike
pub record Closing (ends : List ℕ) (depth n left : ℕ) : Type 0 where
  pub fewer : left ≤ depth
  pub alike : still_open n (open_ends ends depth) ≡ still_open n (open_ends ends left)

pub close_start : (ends : List ℕ) (depth n : ℕ) → Closing ends depth n depth
close_start ends depth n = record { fewer = omega arith; alike = refl }

module _ (ends : List ℕ) (depth n : ℕ) where
  pub close_stop : (left r : ℕ) → Closing ends depth n left → 0 < left → n < get_or ends (left - 1) 0 → r ≡ left - 1 + 1 → Closed ends depth n r
  unfolding open_ends
  close_stop zero r c h g e = absurd (omega arith)
  close_stop (suc l) r c h g e =
      let p : suc l - 1 ≡ l = omega arith in
      let g' : n < get_or ends l 0 = rw p at g in
      let q : r ≡ suc l = omega arith in
      rw q (record { fewer = c.fewer; left = sym (c.alike ∙ still_above n (get_or ends l 0) (open_ends ends l) g') })

  pub close_on : (left : ℕ) → Closing ends depth n left → 0 < left → get_or ends (left - 1) 0 ≤ n → Closing ends depth n (left - 1)
  unfolding open_ends
  close_on zero c h g = absurd (omega arith)
  close_on (suc l) c h g =
      let p : suc l - 1 ≡ l = omega arith in
      let g' : get_or ends l 0 ≤ n = rw p at g in
      let f = c.fewer in
      subst (Closing ends depth n) (sym p) (record { fewer = omega arith; alike = c.alike ∙ still_below n (get_or ends l 0) (open_ends ends l) g' })

  pub close_end : (left : ℕ) → Closing ends depth n left → left ≤ 0 → Closed ends depth n 0
  unfolding open_ends still_open
  close_end zero c h = record { fewer = omega arith; left = sym c.alike }
  close_end (suc l) c h = absurd (omega arith)

pub ruleset close_cases = (close_start, close_stop, close_on, close_end)

-- ---- open_tree

-- a leaf opens none
pub push_none : (ends : List ℕ) (depth n : ℕ) (t : RawTree) → Opens ends depth n (raw_of t) → ((p : RawSubtree) → t ≡ Subtree p → ⊥) → Pushed ends depth n (raw_of t) depth ends
unfolding raw_of
push_none ends depth n (Punct p) o h = record { size = o.size; few = o.few; left = refl }
push_none ends depth n (Ident p) o h = record { size = o.size; few = o.few; left = refl }
push_none ends depth n (Literal p) o h = record { size = o.size; few = o.few; left = refl }
push_none ends depth n (Subtree p) o h = absurd (h p refl)

module _ (ends : List ℕ) (depth n : ℕ) (p : RawSubtree) where
  is_room : Opens ends depth n (raw_of (Subtree p)) → depth < 256
  unfolding raw_of
  is_room o = o.room refl

  is_end : Opens ends depth n (raw_of (Subtree p)) → n + 1 + p.len.0 < 4294967296
  unfolding raw_of
  is_end o = o.end refl

  is_pushed : Opens ends depth n (raw_of (Subtree p)) → Pushed ends depth n (raw_of (Subtree p)) (depth + 1) (set ends depth (n + 1 + p.len.0))
  unfolding raw_of open_ends
  is_pushed o =
      let r = is_room o in
      let l = o.size in
      record { size = length-set ends depth (n + 1 + p.len.0) ∙ l; few = omega arith; left = open_more ends depth (n + 1 + p.len.0) (omega arith) }

  module _ (t : RawTree) (e : t ≡ Subtree p) (o : Opens ends depth n (raw_of t)) where
    opens : Opens ends depth n (raw_of (Subtree p))
    opens = subst (λ (x : RawTree). Opens ends depth n (raw_of x)) e o

    pub push_room : depth < 256
    push_room = is_room opens

    pub push_end : n + 1 + p.len.0 < 4294967296
    push_end = is_end opens

    pub push_next : n + 1 < 4294967296
    push_next = let h = push_end in omega arith

    pub push_subtree : Pushed ends depth n (raw_of t) (depth + 1) (set ends depth (n + 1 + p.len.0))
    push_subtree = subst (λ (x : RawTree). Pushed ends depth n (raw_of x) (depth + 1) (set ends depth (n + 1 + p.len.0))) (sym e) (is_pushed opens)

pub ruleset push_cases = (push_none, push_room, push_end, push_next, push_subtree)
