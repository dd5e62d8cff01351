-- The same reader with its trees shown otherwise: steps answer the same trees, shown so.
use Prim.Native.Nat.{ℕ, zero, suc, ◌+◌}
use mathlib.Core.Bool.{Bool, true, false, ◌&&◌}
use mathlib.Core.Path.{◌≡◌, refl, ap, ◌∙◌}
use mathlib.Core.List.{List, [], ◌∷◌}
use lib.Dec.{leb, eqb, ltb}
use lib.ListN.{length}
use Rattle.format.specs.Reader.{Shape, Reader, Reply, got, bad, Answer, done, none, one, two, refused, mapped}
use Rattle.format.specs.Walk.{Walk, WalkCall, advance, skip, walk_fits, walk_read, walk_step}
use Rattle.format.specs.LastSpan.{last_after, last_for, last_tree}
use Rattle.format.specs.Cursor.{Open, Cursor, CursorCall, bump, end, bump_or_end, token_tree, peek_two_leaves, closing, within, cursor_fits, bumped, go_on, shut, shut_last, tree_here, second_leaf, first_leaf, cursor_call, cursor_step}

module _ {A B : Type 0} (f : A → B) where
  abbrev pub shown_reply : Reply A → Reply B
  shown_reply (got t n k) = got (f t) n k
  shown_reply (bad r) = bad r

  abbrev pub shown : Reader A → Reader B
  shown R = record { sized = R.sized; trees = R.trees; bytes = R.bytes; read = λ n p. shown_reply (R.read n p) }

  abbrev pub shown_step : {State : Type 0} → Answer A × State → Answer B × State
  shown_step a = (mapped f a.0, a.1)

  -- sort and count are those of what is shown
  module _ (S : Shape B) (blank : A) where
    abbrev pub shown_shape : Shape A
    shown_shape = record { is_sub = λ t. S.is_sub (f t); count = λ t. S.count (f t); blank = blank }

    module _ (R : Reader A) where
      -- ---- walks

      read_shown : (c : WalkCall) (w : Walk) (z : Reply A) → shown_step (walk_read shown_shape R c w z) ≡ walk_read S (shown R) c w (shown_reply z)
      read_shown advance w (got t next kids) = refl
      read_shown advance w (bad r) = refl
      read_shown skip w (bad r) = refl
      read_shown skip w (got t next kids) = go _ _ _ refl refl refl
        where
          go : (x y z : Bool) → S.is_sub (f t) ≡ x → leb w.left (S.count (f t)) ≡ y → ltb R.bytes (next + kids) ≡ z
              → shown_step (walk_read shown_shape R skip w (got t next kids)) ≡ walk_read S (shown R) skip w (shown_reply (got t next kids))
          go false y z f g h = simp f
          go true true z f g h = simp (f, g)
          go true false true f g h = simp (f, g, h)
          go true false false f g h = simp (f, g, h)

      pub walk_shown : (c : WalkCall) (w : Walk) → shown_step (walk_step shown_shape R c w) ≡ walk_step S (shown R) c w
      unfolding walk_step
      walk_shown c w = go _ _ _ refl refl refl
        where
          go : (x y z : Bool) → R.sized ≡ x → walk_fits shown_shape R w ≡ y → eqb w.left 0 ≡ z
              → shown_step (walk_step shown_shape R c w) ≡ walk_step S (shown R) c w
          go false y z f g h = simp f
          go true false z f g h = simp (f, g)
          go true true true f g h = simp (f, g, h)
          go true true false f g h = simp (f, g, h) (read_shown c w (R.read w.number w.place))

      -- ---- the last tree of a walk

      after_shown : (go : Walk → Answer A) (go' : Walk → Answer B) → ((v : Walk) → mapped f (go v) ≡ go' v)
          → (w : Walk) (a : Answer A) (v : Walk) → mapped f (last_after shown_shape R go w a v) ≡ last_after S (shown R) go' w (mapped f a) v
      after_shown go go' same w done v = refl
      after_shown go go' same w none v = refl
      after_shown go go' same w (two t u) v = refl
      after_shown go go' same w (refused r n) v = refl
      after_shown go go' same w (one t) v = at _ _ refl refl
        where
          at : (x y : Bool) → ltb 0 v.left ≡ x → (S.is_sub (f t) && ltb 0 (S.count (f t))) ≡ y
              → mapped f (last_after shown_shape R go w (one t) v) ≡ last_after S (shown R) go' w (mapped f (one t)) v
          at true y g h = simp g (same v)
          at false false g h = simp (g, h)
          at false true g h = simp (g, h) (same _ ∙ ap (λ (x : Answer B × Walk). go' x.1) (walk_shown advance w))

      for_shown : (n : ℕ) (w : Walk) → mapped f (last_for shown_shape R n w) ≡ last_for S (shown R) n w
      unfolding last_for
      for_shown zero w = refl
      for_shown (suc n) w =
          after_shown (last_for shown_shape R n) (last_for S (shown R) n) (for_shown n) w (walk_step shown_shape R skip w).0 (walk_step shown_shape R skip w).1
          ∙ ap (λ (x : Answer B × Walk). last_after S (shown R) (last_for S (shown R) n) w x.0 x.1) (walk_shown skip w)

      pub last_shown : (w : Walk) → mapped f (last_tree shown_shape R w) ≡ last_tree S (shown R) w
      last_shown w = for_shown (w.left + 1) w

      -- ---- cursors

      bumped_shown : (c : Cursor) (z : Reply A) → shown_step (bumped shown_shape R c z) ≡ bumped S (shown R) c (shown_reply z)
      bumped_shown c (bad r) = refl
      bumped_shown c (got t next kids) = go _ _ refl refl
        where
          go : (x y : Bool) → S.is_sub (f t) ≡ x → leb 256 (length c.opened) ≡ y
              → shown_step (bumped shown_shape R c (got t next kids)) ≡ bumped S (shown R) c (shown_reply (got t next kids))
          go false y f g = simp f
          go true true f g = simp (f, g)
          go true false f g = simp (f, g)

      on_shown : (c : Cursor) → shown_step (go_on shown_shape R c) ≡ go_on S (shown R) c
      on_shown c = go _ refl
        where
          go : (x : Bool) → leb R.trees c.number ≡ x → shown_step (go_on shown_shape R c) ≡ go_on S (shown R) c
          go true f = simp f
          go false f = simp f (bumped_shown c (R.read c.number c.place))

      shut_shown : (c : Cursor) (o : Open) (os : List Open) (z : Reply A) → shown_step (shut shown_shape R c o os z) ≡ shut S (shown R) c o os (shown_reply z)
      shut_shown c o os (bad r) = refl
      shut_shown c o os (got t next kids) = go _ _ refl refl
        where
          go : (x y : Bool) → S.is_sub (f t) ≡ x → eqb (S.count (f t)) o.count ≡ y
              → shown_step (shut shown_shape R c o os (got t next kids)) ≡ shut S (shown R) c o os (shown_reply (got t next kids))
          go false y f g = simp f
          go true true f g = simp (f, g)
          go true false f g = simp (f, g)

      shut_last_shown : (c : Cursor) (os : List Open) → shown_step (shut_last shown_shape R c os) ≡ shut_last S (shown R) c os
      shut_last_shown c [] = refl
      shut_last_shown c (o ∷ os) = shut_shown c o os (R.read o.number o.place)

      here_shown : (n : ℕ) (z : Reply A) → mapped f (tree_here shown_shape R n z) ≡ tree_here S (shown R) n (shown_reply z)
      here_shown n (got t next kids) = refl
      here_shown n (bad r) = refl

      second_shown : (n : ℕ) (t : A) (z : Reply A) → mapped f (second_leaf shown_shape R n t z) ≡ second_leaf S (shown R) n (f t) (shown_reply z)
      second_shown n t (bad r) = refl
      second_shown n t (got u next kids) = go _ refl
        where
          go : (x : Bool) → S.is_sub (f u) ≡ x → mapped f (second_leaf shown_shape R n t (got u next kids)) ≡ second_leaf S (shown R) n (f t) (shown_reply (got u next kids))
          go true f = simp f
          go false f = simp f

      first_shown : (n : ℕ) (z : Reply A) → mapped f (first_leaf shown_shape R n z) ≡ first_leaf S (shown R) n (shown_reply z)
      first_shown n (bad r) = refl
      first_shown n (got t next kids) = go _ refl
        where
          go : (x : Bool) → S.is_sub (f t) ≡ x → mapped f (first_leaf shown_shape R n (got t next kids)) ≡ first_leaf S (shown R) n (shown_reply (got t next kids))
          go true f = simp f
          go false f = simp f (second_shown n t (R.read (n + 1) next))

      call_shown : (call : CursorCall) (c : Cursor) → shown_step (cursor_call shown_shape R call c) ≡ cursor_call S (shown R) call c
      call_shown bump c = go _ refl
        where
          go : (x : Bool) → closing c.number c.opened ≡ x → shown_step (cursor_call shown_shape R bump c) ≡ cursor_call S (shown R) bump c
          go true f = simp f
          go false f = simp f (on_shown c)
      call_shown end c = go _ refl
        where
          go : (x : Bool) → closing c.number c.opened ≡ x → shown_step (cursor_call shown_shape R end c) ≡ cursor_call S (shown R) end c
          go true f = simp f (shut_last_shown c c.opened)
          go false f = simp f
      call_shown bump_or_end c = go _ refl
        where
          go : (x : Bool) → closing c.number c.opened ≡ x → shown_step (cursor_call shown_shape R bump_or_end c) ≡ cursor_call S (shown R) bump_or_end c
          go true f = rw f
          go false f = simp f (on_shown c)
      call_shown token_tree c = go _ refl
        where
          go : (x : Bool) → within R.trees c.opened c.number ≡ x → shown_step (cursor_call shown_shape R token_tree c) ≡ cursor_call S (shown R) token_tree c
          go true f = simp f (ap (λ (a : Answer B). (a, c)) (here_shown c.number (R.read c.number c.place)))
          go false f = simp f
      call_shown peek_two_leaves c = go _ refl
        where
          go : (x : Bool) → within R.trees c.opened (c.number + 1) ≡ x → shown_step (cursor_call shown_shape R peek_two_leaves c) ≡ cursor_call S (shown R) peek_two_leaves c
          go true f = simp f (ap (λ (a : Answer B). (a, c)) (first_shown c.number (R.read c.number c.place)))
          go false f = simp f

      pub cursor_shown : (call : CursorCall) (c : Cursor) → shown_step (cursor_step shown_shape R call c) ≡ cursor_step S (shown R) call c
      unfolding cursor_step
      cursor_shown call c = go _ _ refl refl
        where
          go : (x y : Bool) → R.sized ≡ x → cursor_fits shown_shape R c ≡ y → shown_step (cursor_step shown_shape R call c) ≡ cursor_step S (shown R) call c
          go false y f g = simp f
          go true false f g = simp (f, g)
          go true true f g = simp (f, g) (call_shown call c)
