-- Why a tree is not read: 7, the buffer ends inside it or before it; 2 at once, for a long literal kind above 10; or 2, its bytes being there, for control bits of a
-- 000 that disagree with the stored length.
use Prim.Native.Nat.{ℕ, zero, suc, ◌+◌, ◌*◌, ◌/◌, ◌%◌, ◌-◌, ◌≤◌, ◌<◌}
use mathlib.Core.Bool.{Bool, true, false, ◌||◌}
use mathlib.Core.Path.{◌≡◌, refl, sym, ap, ◌∙◌, subst}
use mathlib.Core.List.{List, ◌++◌}
use mathlib.Core.Logic.{◌⊎◌, inl, inr, ⊎_elim}
use native.Mathlib.Omega.{arith}
use borrow.Author.Tests.{le-leb, leb-true, leb-false, lt-ltb, ltb-true, eqb-true, eqb-false, ne_eqb}
use lib.Dec.{leb, eqb, ltb}
use lib.ListN.{length, replicate, get_or, length-append, length-replicate, get_or-append}
use lib.Seq.{get_or-append-add}
use Rattle.std.specs.Prelude.{if◌then◌else◌}
use Rattle.format.specs.Word.{AreBytes, byte_at, word_at}
use Rattle.format.specs.Span.{Span, SpanRead, span, span_at, SymbolRead, symbol, symbol_at}
use Rattle.format.specs.Reader.{Reply, got, bad}
use Rattle.format.specs.Tree.{Raw, punct, need, ident_of, literal_of, closed101, bits_agree, form000, form111, form_short, controlled, after_span, tree_at}
use Rattle.format.proofs.Tally.{lt_or_le}
use Rattle.format.proofs.TreeBounds.{Spanned, span_within, Symboled, symbol_within, Ended, tree_ended}
use Rattle.format.proofs.RootForm.{SpanSize, span_size_lem, no_extra}
use Rattle.format.proofs.Local.{span_kept}
use Rattle.format.proofs.TreeKept.{tree_kept}

module _ (b : List ℕ) where
  -- the bytes of a 000 subtree are all there at p: a span s without extra bits, its control byte at q
  pub record Form000 (p : ℕ) (s : Span) (q : ℕ) : Type 0 where
    pub plain : span_at b p ≡ span 0 s q
    pub room : q + 3 ≤ length b
    pub form : byte_at b q % 8 ≡ 0

  -- … of which "control bits 5 to 7 differ from the span's stored length divided by 256"
  pub record Disagrees (p : ℕ) : Type 0 where
    pub opening : Span
    pub place : ℕ
    pub stands : Form000 p opening place
    pub bits : byte_at b place / 32 ≡ opening.len / 256 → ⊥

  -- the bytes of the tree at p are all there, up to next: it is read, or it is such a subtree
  pub data Whole (p next : ℕ) : Type 0 where
    reads : (tree : Raw) (kids : ℕ) → tree_at b p ≡ got tree next kids → Whole p next
    disagrees : (h : Disagrees p) → next ≡ h.place + 3 → Whole p next

module _ (b : List ℕ) where
  -- "buffer ends inside a tree or before a due one": with some bytes behind the buffer's own those of a tree at p are all there, and it ends behind the buffer
  pub record Cut (p : ℕ) : Type 0 where
    pub more : List ℕ
    pub bytes : AreBytes more
    pub next : ℕ
    pub whole : Whole (b ++ more) p next
    pub passes : length b < next

  -- "a long literal kind above 10 is 2 as soon as its control byte is read"
  pub record Early (p : ℕ) : Type 0 where
    pub opening : Span
    pub place : ℕ
    pub plain : span_at b p ≡ span 0 opening place
    pub room : place + 1 ≤ length b
    pub form : byte_at b place % 8 ≡ 7
    pub kind : 10 < byte_at b place / 8

  -- ---- no form but 111 and 000 refuses by any other number than 7, and none by 7 where the buffer reaches m

  abbrev Seven : ℕ → Reply Raw → Type 0
  Seven m (got t next kids) = Unit {0}
  Seven m (bad r) = (r ≡ 7) × (length b < m)

  needed : (q m : ℕ) (x : Reply Raw) → q ≤ m → Seven m x → Seven m (need b q x)
  needed q m x l h = go (leb q (length b)) refl
    where
      go : (y : Bool) → leb q (length b) ≡ y → Seven m (need b q x)
      go true e = simp e h
      go false e = let g = leb-false q (length b) e in simp e (refl, omega arith)

  literal_seven : (i m : ℕ) (s : Span) (k c x : ℕ) (r : SymbolRead) → i + 4 ≤ m → Symboled b i r → Seven m (literal_of s k c x r)
  literal_seven i m s k c x (symbol t j n) l h = tt
  literal_seven i m s k c x SymbolRead.short l h = (refl, omega arith)

  closed_seven : (i m : ℕ) (s : Span) (c : ℕ) (r : SpanRead) → i + 20 ≤ m → Spanned b i r → SpanSize b i r → Seven m (closed101 b s c r)
  closed_seven i m s c (span e t r) l h x = let y = x.0 in needed (r + 8) m (got _ _ _) (omega arith) tt
  closed_seven i m s c SpanRead.short l h x = (refl, omega arith)

  -- … behind a span s that ends at q, and the control byte c
  abbrev LongKind : ℕ → ℕ → Type 0
  LongKind c r = (r ≡ 2) × (c % 8 ≡ 7) × (10 < c / 8)

  abbrev OtherBits : Span → ℕ → ℕ → ℕ → Type 0
  OtherBits s q c r = (r ≡ 2) × (c % 8 ≡ 0) × (q + 3 ≤ length b) × (c / 32 ≡ s.len / 256 → ⊥)

  abbrev Refuses : Span → ℕ → ℕ → Reply Raw → Type 0
  Refuses s q c (got t next kids) = Unit {0}
  Refuses s q c (bad r) = ((r ≡ 7) × (length b < q + 21)) ⊎ (LongKind c r ⊎ OtherBits s q c r)

  refuses : (s : Span) (q c : ℕ) (x : Reply Raw) → Seven (q + 21) x → Refuses s q c x
  refuses s q c (got t next kids) h = tt
  refuses s q c (bad r) h = inl h

  fixed : (s : Span) (q c m : ℕ) (t : Raw) (next kids : ℕ) → m ≤ q + 21 → Refuses s q c (need b m (got t next kids))
  fixed s q c m t next kids l = refuses s q c (need b m (got t next kids)) (needed m (q + 21) (got t next kids) l tt)

  refuses_000 : (s : Span) (q c : ℕ) → c % 8 ≡ 0 → Refuses s q c (form000 b s q c)
  refuses_000 s q c f = go _ _ refl refl
    where
      go : (x y : Bool) → leb (q + 3) (length b) ≡ x → bits_agree s c ≡ y → Refuses s q c (form000 b s q c)
      go false y e g = let l = leb-false (q + 3) (length b) e in simp e (inl (refl, omega arith))
      go true true e g = simp (e, g) tt
      go true false e g = simp (e, g) (inr (inr (refl, f, leb-true (q + 3) (length b) e, eqb-false (c / 32) (s.len / 256) g)))

  refuses_111 : (s : Span) (q c : ℕ) → c % 8 ≡ 7 → Refuses s q c (form111 b s q c)
  refuses_111 s q c f = go _ _ refl refl
    where
      read : (i r x : ℕ) → i + 4 ≤ q + 21 → Refuses s q c (need b i (literal_of s (c / 8) r x (symbol_at b i)))
      read i r x l =
          refuses s q c (need b i (literal_of s (c / 8) r x (symbol_at b i)))
          (needed i (q + 21) (literal_of s (c / 8) r x (symbol_at b i)) (omega arith) (literal_seven i (q + 21) s (c / 8) r x (symbol_at b i) l (symbol_within b i)))

      go : (x y : Bool) → ltb 10 (c / 8) ≡ x → (eqb (c / 8) 5 || eqb (c / 8) 7 || eqb (c / 8) 9) ≡ y → Refuses s q c (form111 b s q c)
      go true y e g = simp e (inr (inl (refl, f, ltb-true 10 (c / 8) e)))
      go false true e g = simp (e, g) (read (q + 3) (byte_at b (q + 1)) (byte_at b (q + 2)) (omega arith))
      go false false e g = simp (e, g) (read (q + 2) 0 (byte_at b (q + 1)) (omega arith))

  refuses_controlled : (s : Span) (q c : ℕ) → Refuses s q c (controlled b s q c)
  unfolding controlled
  refuses_controlled s q c = go _ _ _ _ _ _ refl refl refl refl refl refl
    where
      go : (x₀ x₁ x₂ x₅ x₆ x₇ : Bool) → eqb (c % 8) 0 ≡ x₀ → eqb (c % 8) 1 ≡ x₁ → eqb (c % 8) 2 ≡ x₂ → eqb (c % 8) 5 ≡ x₅ → eqb (c % 8) 6 ≡ x₆ → eqb (c % 8) 7 ≡ x₇
          → Refuses s q c (controlled b s q c)
      go true x₁ x₂ x₅ x₆ x₇ e₀ e₁ e₂ e₅ e₆ e₇ = simp e₀ (refuses_000 s q c (eqb-true (c % 8) 0 e₀))
      go false true x₂ x₅ x₆ x₇ e₀ e₁ e₂ e₅ e₆ e₇ = simp (e₀, e₁) (fixed s q c (q + 3) _ _ _ (omega arith))
      go false false true x₅ x₆ x₇ e₀ e₁ e₂ e₅ e₆ e₇ = simp (e₀, e₁, e₂) (fixed s q c (q + 5) _ _ _ (omega arith))
      go false false false true x₆ x₇ e₀ e₁ e₂ e₅ e₆ e₇ =
          simp (e₀, e₁, e₂, e₅)
          (refuses s q c (closed101 b s c (span_at b (q + 1)))
          (closed_seven (q + 1) (q + 21) s c (span_at b (q + 1)) (omega arith) (span_within b (q + 1)) (span_size_lem b (q + 1))))
      go false false false false true x₇ e₀ e₁ e₂ e₅ e₆ e₇ = simp (e₀, e₁, e₂, e₅, e₆) (fixed s q c (q + 5) _ _ _ (omega arith))
      go false false false false false true e₀ e₁ e₂ e₅ e₆ e₇ = simp (e₀, e₁, e₂, e₅, e₆, e₇) (refuses_111 s q c (eqb-true (c % 8) 7 e₇))
      go false false false false false false e₀ e₁ e₂ e₅ e₆ e₇ =
          simp (e₀, e₁, e₂, e₅, e₆, e₇)
          (refuses s q c (form_short b s q c) (literal_seven (q + 1) (q + 21) s _ _ _ (symbol_at b (q + 1)) (omega arith) (symbol_within b (q + 1))))

  -- ---- the whole tree

  abbrev Why : ℕ → Reply Raw → Type 0
  Why p (got t next kids) = Unit {0}
  Why p (bad r) = ((r ≡ 7) × (length b < p + 33)) ⊎ ((r ≡ 2) × (Early p ⊎ Disagrees b p))

  why_ident : (p q : ℕ) (s : Span) (r : SymbolRead) → q ≤ p + 12 → Symboled b q r → Why p (ident_of s r)
  why_ident p q s (symbol t i n) l h = tt
  why_ident p q s SymbolRead.short l h = inl (refl, omega arith)

  why_controlled : (p : ℕ) (s : Span) (q : ℕ) → q ≤ p + 12 → span_at b p ≡ span 0 s q → q + 1 ≤ length b → (x : Reply Raw) → Refuses s q (byte_at b q) x → Why p x
  why_controlled p s q l e h (got t next kids) c = tt
  why_controlled p s q l e h (bad r) c =
      ⊎_elim (λ z. let y = z.1 in inl (z.0, omega arith))
      (⊎_elim
      (λ z. inr (z.0, inl (record { opening = s; place = q; plain = e; room = h; form = z.1; kind = z.2 })))
      (λ z. inr (z.0, inr (record { opening = s; place = q; stands = record { plain = e; room = z.2; form = z.1 }; bits = z.3 }))))
      c

  after : (p : ℕ) (r : SpanRead) → span_at b p ≡ r → Spanned b p r → SpanSize b p r → Why p (after_span b r)
  unfolding after_span
  after p (span e s q) i y x = go _ _ _ refl refl refl
    where
      near : q ≤ p + 12
      near = x.0

      reply : Reply Raw
      reply = if eqb (e % 2) 1 then got (punct s (byte_at b q / 2) (byte_at b q % 2 + 2 * (e / 2))) (q + 1) 0 else
          (if eqb (e / 2) 1 then ident_of s (symbol_at b q) else controlled b s q (byte_at b q))

      go : (t y z : Bool) → leb (q + 1) (length b) ≡ t → eqb (e % 2) 1 ≡ y → eqb (e / 2) 1 ≡ z → Why p (need b (q + 1) reply)
      go false y z g f h =
          let l = leb-false (q + 1) (length b) g in
          let n = near in
          simp g (inl (refl, omega arith))
      go true true z g f h = simp (g, f) tt
      go true false true g f h = simp (g, f, h) (why_ident p q s (symbol_at b q) near (symbol_within b q))
      go true false false g f h =
          let o : e ≡ 0 = x.2 ∙ no_extra b e (word_at b p) x.2 f h in
          let j : span_at b p ≡ span 0 s q = i ∙ rw o in
          simp (g, f, h) (why_controlled p s q near j (leb-true (q + 1) (length b) g) (controlled b s q (byte_at b q)) (refuses_controlled s q (byte_at b q)))
  after p SpanRead.short i y x = inl (refl, omega arith)

  -- a tree with 33 bytes of buffer from its place on is read, or refused by 2
  why : (p r : ℕ) → tree_at b p ≡ bad r → ((r ≡ 7) × (length b < p + 33)) ⊎ ((r ≡ 2) × (Early p ⊎ Disagrees b p))
  unfolding tree_at
  why p r e = subst (Why p) e (after p (span_at b p) refl (span_within b p) (span_size_lem b p))

  -- 2, both ways
  pub early_two : (p : ℕ) → Early p → tree_at b p ≡ bad 2
  unfolding tree_at after_span controlled
  early_two p h =
      let e = h.plain in
      let r = le-leb (h.place + 1) (length b) h.room in
      let f = h.form in
      let k = lt-ltb 10 (byte_at b h.place / 8) h.kind in
      simp (e, r, f, k)

  pub disagrees_two : (p : ℕ) → Disagrees b p → tree_at b p ≡ bad 2
  unfolding tree_at after_span controlled
  disagrees_two p h =
      let e = h.stands.plain in
      let l = h.stands.room in
      let r = le-leb (h.place + 1) (length b) (omega arith) in
      let u = le-leb (h.place + 3) (length b) l in
      let f = h.stands.form in
      let k : bits_agree h.opening (byte_at b h.place) ≡ false = ne_eqb (byte_at b h.place / 32) (h.opening.len / 256) h.bits in
      simp (e, r, f, u, k)

  pub two_is : (p : ℕ) → tree_at b p ≡ bad 2 → Early p ⊎ Disagrees b p
  two_is p e = ⊎_elim (λ h. absurd (omega (arith, h.0))) (λ h. h.1) (why p 2 e)

-- ---- 7 both ways

got_bad : {A : Type 0} (t : Raw) (next kids r : ℕ) (x : Reply Raw) → x ≡ got t next kids → x ≡ bad r → A
got_bad t next kids r x e f = let z : ◌≡◌ {A = ℕ} 0 1 = cc in absurd (omega arith)

same_bad : (a r : ℕ) (x : Reply Raw) → x ≡ bad a → x ≡ bad r → a ≡ r
same_bad a r x e f = cc

same_next : (t u : Raw) (m n k l : ℕ) (x : Reply Raw) → x ≡ got t m k → x ≡ got u n l → m ≡ n
same_next t u m n k l x e f = cc

-- an early 2 wherever the same bytes stand
early_kept : (b c : List ℕ) (p : ℕ) (h : Early b p) → h.place < length c → ((i : ℕ) → i ≤ h.place → byte_at b i ≡ byte_at c i) → Early c p
early_kept b c p h l same =
    record {
      opening = h.opening;
      place = h.place;
      plain = span_kept b c p h.place (omega arith) (λ i g f. same i (omega arith)) 0 h.opening h.plain;
      room = omega arith;
      form = subst (λ x. x % 8 ≡ 7) (same h.place (omega arith)) h.form;
      kind = subst (λ x. 10 < x / 8) (same h.place (omega arith)) h.kind;
    }

disagrees_kept : (b c : List ℕ) (p : ℕ) (h : Disagrees b p) → h.place + 3 ≤ length c → ((i : ℕ) → i ≤ h.place → byte_at b i ≡ byte_at c i) → Disagrees c p
disagrees_kept b c p h l same =
    let s = same h.place (omega arith) in
    record {
      opening = h.opening;
      place = h.place;
      stands =
          record {
            plain = span_kept b c p h.place (omega arith) (λ i g f. same i (omega arith)) 0 h.opening h.stands.plain;
            room = l;
            form = subst (λ x. x % 8 ≡ 0) s h.stands.form;
          };
      bits = subst (λ x. x / 32 ≡ h.opening.len / 256 → ⊥) s h.bits;
    }

same_place : (e f : ℕ) (s t : Span) (i j : ℕ) (x : SpanRead) → x ≡ span e s i → x ≡ span f t j → i ≡ j
same_place e f s t i j x p q = cc

-- a tree is not both
not_both : (b : List ℕ) (p : ℕ) → Early b p → Disagrees b p → ⊥
not_both b p h k =
    let e = same_place 0 0 h.opening k.opening h.place k.place (span_at b p) h.plain k.stands.plain in
    let f : byte_at b h.place % 8 ≡ 0 = subst (λ i. byte_at b i % 8 ≡ 0) (sym e) k.stands.form in
    let g = h.form in
    absurd (omega arith)

-- zeros, put behind a buffer
zero_at : (n i : ℕ) → ◌≡◌ {A = ℕ} (get_or (replicate n 0) i 0) 0
zero_at zero i = refl
zero_at (suc n) zero = refl
zero_at (suc n) (suc i) = zero_at n i

pub zeros_bytes : (n : ℕ) → AreBytes (replicate n 0)
zeros_bytes n = record { below = λ i. rw (zero_at n i) (omega arith) }

module _ (b : List ℕ) (p : ℕ) where
  -- zeros in place of what is missing make a tree, or one that disagrees
  pub seven_cut : tree_at b p ≡ bad 7 → Cut b p
  seven_cut e = go (tree_at c p) refl
    where
      zeros : List ℕ
      zeros = replicate (p + 33) 0

      c : List ℕ
      c = b ++ zeros

      size : length c ≡ length b + (p + 33)
      size = length-append b zeros ∙ ap (λ n. length b + n) (length-replicate {A = ℕ} (p + 33) 0)

      front : (i : ℕ) → i < length b → byte_at c i ≡ byte_at b i
      front i h = get_or-append b zeros 0 i h

      behind : (i : ℕ) → length b ≤ i → byte_at c i ≡ 0
      behind i h =
          let d : i ≡ length b + (i - length b) = omega arith in
          ap (byte_at c) d ∙ get_or-append-add b zeros (i - length b) 0 ∙ zero_at (p + 33) (i - length b)

      whole : (t : Raw) (next kids : ℕ) → tree_at c p ≡ got t next kids → (length b < next) ⊎ (next ≤ length b) → Cut b p
      whole t next kids f (inl h) =
          record { more = zeros; bytes = zeros_bytes (p + 33); next = next; whole = reads t kids f; passes = h }
      whole t next kids f (inr h) = got_bad t next kids 7 (tree_at b p) (tree_kept c b p next h (λ i g l. front i (omega arith)) t kids f) e

      early : (h : Early c p) → (h.place < length b) ⊎ (length b ≤ h.place) → Cut b p
      early h (inl l) =
          let k = early_two b p (early_kept c b p h l (λ i g. front i (omega arith))) in
          absurd (omega (arith, same_bad 2 7 (tree_at b p) k e))
      early h (inr l) =
          let z = behind h.place l in
          let k = h.kind in
          absurd (omega arith)

      apart : (h : Disagrees c p) → (length b < h.place + 3) ⊎ (h.place + 3 ≤ length b) → Cut b p
      apart h (inl l) = record { more = zeros; bytes = zeros_bytes (p + 33); next = h.place + 3; whole = disagrees h refl; passes = l }
      apart h (inr l) =
          let k = disagrees_two b p (disagrees_kept c b p h l (λ i g. front i (omega arith))) in
          absurd (omega (arith, same_bad 2 7 (tree_at b p) k e))

      go : (x : Reply Raw) → tree_at c p ≡ x → Cut b p
      go (got t next kids) f = whole t next kids f (lt_or_le (length b) next)
      go (bad r) f =
          ⊎_elim (λ h. let l = h.1 in absurd (omega (arith, size)))
          (λ h. ⊎_elim (λ k. early k (lt_or_le k.place (length b))) (λ k. apart k (lt_or_le (length b) (k.place + 3))) h.1) (why c p r f)

  pub cut_seven : Cut b p → tree_at b p ≡ bad 7
  unfolding disagrees_kept
  cut_seven h = go (tree_at b p) refl
    where
      c : List ℕ
      c = b ++ h.more

      size : length c ≡ length b + length h.more
      size = length-append b h.more

      front : (i : ℕ) → i < length b → byte_at b i ≡ byte_at c i
      front i l = sym (get_or-append b h.more 0 i l)

      -- what stands in the buffer's own bytes stands in all of them
      never_early : Whole c p h.next → Early c p → ⊥
      never_early (reads t kids e) k = got_bad t h.next kids 2 (tree_at c p) e (early_two c p k)
      never_early (disagrees d e) k = not_both c p k d

      never_apart : Whole c p h.next → (k : Disagrees c p) → k.place + 3 ≤ length b → ⊥
      never_apart (reads t kids e) k l = got_bad t h.next kids 2 (tree_at c p) e (disagrees_two c p k)
      never_apart (disagrees d e) k l =
          let i = same_place 0 0 d.opening k.opening d.place k.place (span_at c p) d.stands.plain k.stands.plain in
          let m = h.passes in
          absurd (omega arith)

      never_read : Whole c p h.next → (t : Raw) (next kids : ℕ) → next ≤ length b → tree_at c p ≡ got t next kids → ⊥
      never_read (reads u m e) t next kids l f =
          let d = same_next t u next h.next kids m (tree_at c p) f e in
          let k = h.passes in
          absurd (omega arith)
      never_read (disagrees d e) t next kids l f = got_bad t next kids 2 (tree_at c p) f (disagrees_two c p d)

      early : Early b p → ⊥
      early k = let l = k.room in never_early h.whole (early_kept b c p k (omega (arith, size)) (λ i g. front i (omega arith)))

      apart : Disagrees b p → ⊥
      apart k = let l = k.stands.room in never_apart h.whole (disagrees_kept b c p k (omega (arith, size)) (λ i g. front i (omega arith))) l

      go : (x : Reply Raw) → tree_at b p ≡ x → x ≡ bad 7
      go (got t next kids) e =
          let l : next ≤ length b = (subst (Ended b p) e (tree_ended b p)).1 in
          absurd (never_read h.whole t next kids l (tree_kept b c p next (omega (arith, size)) (λ i g k. front i (omega arith)) t kids e))
      go (bad r) e = ⊎_elim (λ k. ap bad k.0) (λ k. absurd (⊎_elim early apart k.1)) (why b p r e)

  -- WHY A TREE IS NOT READ
  pub unread : (r : ℕ) → tree_at b p ≡ bad r → ((r ≡ 7) × Cut b p) ⊎ ((r ≡ 2) × (Early b p ⊎ Disagrees b p))
  unread r e = ⊎_elim (λ h. inl (h.0, seven_cut (e ∙ ap bad h.0))) inr (why b p r e)
