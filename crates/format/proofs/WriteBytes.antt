-- Every byte that the writer makes of a list within the rules is below 256, and every work word below 2^32.
use Prim.Native.Nat.{ℕ, zero, suc, ◌+◌, ◌*◌, ◌-◌, ◌/◌, ◌%◌, ◌≤◌, ◌<◌}
use mathlib.Core.Bool.{Bool, true, false, ◌&&◌}
use mathlib.Core.Path.{◌≡◌, refl, ◌∙◌}
use mathlib.Core.List.{List, [], ◌∷◌, ◌++◌}
use native.Mathlib.Omega.{arith}
use native.Mathlib.Nat.{zero-add}
use borrow.Author.Tests.{ltb-true, leb-true, eqb-true}
use lib.Dec.{leb, eqb, ltb}
use lib.ListN.{length, get_or}
use Rattle.std.specs.Prelude.{if◌then◌else◌}
use Rattle.format.specs.Verdict.{passed}
use Rattle.format.specs.Word.{AreBytes, byte_at, half_bytes, word_bytes}
use Rattle.format.specs.Span.{Span}
use Rattle.format.specs.Tree.{Raw, punct, ident, literal, subtree, is_subtree, count_of, is_raw_kind}
use Rattle.format.specs.Fields.{span_fits, is_scalar, fields}
use Rattle.format.specs.Tables.{Tables, own_tables}
use Rattle.format.specs.Write.{first_word, second_word, heavy_second, heavy_third, heavy_bytes, span_bytes, symbol_bytes, short_base, literal_bytes, apart, near, fits000, fits001, fits010, bytes000, bytes001, bytes010, subtree_bytes, root_bytes, tree_bytes, suffixes, write}
use Rattle.format.specs.Writer.{list_verdict, packed, trees}
use Rattle.format.proofs.Each.{and_left, and_right, and₃, and₄, true_false}
use Rattle.format.proofs.SpanBack.{Packable}
use Rattle.format.proofs.SubtreeForm.{subtree_form_lem}
use Rattle.format.proofs.TreeBack.{Writable, near_true}
use Rattle.format.proofs.WriteLaw.{Lawful, suffix_at, suffix_end}
use Rattle.format.proofs.WriteSize.{leaf_count, write_size}
use Rattle.format.proofs.WriterLaw.{lawful}

-- ---- lists of bytes

bytes_none : AreBytes []
bytes_none = record { below = λ i. omega arith }

bytes_more : (x : ℕ) (xs : List ℕ) → x < 256 → AreBytes xs → AreBytes (x ∷ xs)
bytes_more x xs h k = record { below = go }
  where
    go : (i : ℕ) → byte_at (x ∷ xs) i < 256
    go zero = h
    go (suc i) = k.below i

pub bytes_append : (xs ys : List ℕ) → AreBytes xs → AreBytes ys → AreBytes (xs ++ ys)
bytes_append [] ys h k = k
bytes_append (x ∷ xs) ys h k = bytes_more x (xs ++ ys) (h.below zero) (bytes_append xs ys (record { below = λ i. h.below (suc i) }) k)

word_bytes_lem : (w : ℕ) → w < 4294967296 → AreBytes (word_bytes w)
word_bytes_lem w h =
    bytes_more (w % 256) _ (omega arith)
    (bytes_more (w / 256 % 256) _ (omega arith)
    (bytes_more (w / 65536 % 256) _ (omega arith)
    (bytes_more (w / 16777216) [] (omega arith) bytes_none)))

half_bytes_lem : (w : ℕ) → w < 65536 → AreBytes (half_bytes w)
half_bytes_lem w h = bytes_more (w % 256) _ (omega arith) (bytes_more (w / 256) [] (omega arith) bytes_none)

-- ---- spans and symbols

first_below : (x e : ℕ) (s : Span) → x < 4 → e < 2 → first_word x e s < 4294967296
first_below x e s hx he = sum x (s.index % 16) (s.len % 256) e (s.start % 131072) hx (omega arith) (omega arith) he (omega arith)
  where
    sum : (x a c e f : ℕ) → x < 4 → a < 16 → c < 256 → e < 2 → f < 131072 → x + 4 * a + 64 * c + 16384 * e + 32768 * f < 4294967296
    sum x a c e f h₁ h₂ h₃ h₄ h₅ = omega arith

second_below : (s : Span) → s.index < 32768 → s.start < 134217728 → s.len < 262144 → second_word s < 4294967296
second_below s i t l = sum (s.index / 16) (s.len / 256) (s.start / 131072) (omega arith) (omega arith) (omega arith)
  where
    sum : (a c f : ℕ) → a < 2048 → c < 1024 → f < 1024 → 2 * a + 4096 * c + 4194304 * f < 4294967296
    sum a c f h₁ h₂ h₃ = omega arith

heavy_second_below : (s : Span) → Packable s → heavy_second s < 4294967296
heavy_second_below s k = let r = k.range in sum (s.len / 65536) (s.start / 131072) (omega arith) (omega arith)
  where
    sum : (c f : ℕ) → c < 65536 → f < 32768 → 1 + 2 * c + 131072 * f < 4294967296
    sum c f h₁ h₂ = omega arith

heavy_third_below : (s : Span) → Packable s → heavy_third s < 4294967296
heavy_third_below s k = let i = k.index in sum (s.index / 16) (s.len / 256 % 256) (omega arith) (omega arith)
  where
    sum : (a g : ℕ) → a < 16777216 → g < 256 → a + 16777216 * g < 4294967296
    sum a g h₁ h₂ = omega arith

pub heavy_bytes_lem : (x : ℕ) (s : Span) → x < 4 → Packable s → AreBytes (heavy_bytes x s)
unfolding heavy_bytes
heavy_bytes_lem x s hx k =
    bytes_append (word_bytes (first_word x 1 s)) _ (word_bytes_lem (first_word x 1 s) (first_below x 1 s hx (omega arith)))
    (bytes_append (word_bytes (heavy_second s)) _ (word_bytes_lem (heavy_second s) (heavy_second_below s k)) (word_bytes_lem (heavy_third s) (heavy_third_below s k)))

pub span_bytes_lem : (x : ℕ) (s : Span) → x < 4 → Packable s → AreBytes (span_bytes x s)
unfolding span_bytes
span_bytes_lem x s hx k = go _ _ refl refl
  where
    go : (y z : Bool) → (ltb s.index 16 && ltb s.start 131072 && ltb s.len 256) ≡ y → (ltb s.index 32768 && ltb s.start 134217728 && ltb s.len 262144) ≡ z → AreBytes (span_bytes x s)
    go true z e f = simp e (word_bytes_lem (first_word x 0 s) (first_below x 0 s hx (omega arith)))
    go false true e f =
        let t = and₃ (ltb s.index 32768) (ltb s.start 134217728) (ltb s.len 262144) f in
        let h = second_below s (ltb-true s.index 32768 t.0) (ltb-true s.start 134217728 t.1) (ltb-true s.len 262144 t.2) in
        simp (e, f) (bytes_append (word_bytes (first_word x 1 s)) _ (word_bytes_lem (first_word x 1 s) (first_below x 1 s hx (omega arith))) (word_bytes_lem (second_word s) h))
    go false false e f = simp (e, f) (heavy_bytes_lem x s hx k)

pub symbol_bytes_lem : (t i : ℕ) → t < 2 → i < 536870912 → AreBytes (symbol_bytes t i)
unfolding symbol_bytes
symbol_bytes_lem t i ht hi = go _ _ refl refl
  where
    go : (y z : Bool) → ltb i 64 ≡ y → ltb i 8192 ≡ z → AreBytes (symbol_bytes t i)
    go true z e f = let l = ltb-true i 64 e in simp e (bytes_more (t + 4 * i) [] (omega arith) bytes_none)
    go false true e f =
        let l = ltb-true i 8192 f in
        simp (e, f) (bytes_more (t + 2 + 4 * (i % 64)) _ (omega arith) (bytes_more (2 * (i / 64)) [] (omega arith) bytes_none))
    go false false e f = simp (e, f) (bytes_more (t + 2 + 4 * (i % 64)) _ (omega arith) (bytes_more (1 + 2 * (i / 64 % 128)) _ (omega arith) (half_bytes_lem (i / 8192) (omega arith))))

-- ---- one tree

-- a span, a control byte and what follows
after_control : (s : Span) (c : ℕ) (rest : List ℕ) → Packable s → c < 256 → AreBytes rest → AreBytes (span_bytes 0 s ++ (c ∷ rest))
after_control s c rest k h r = bytes_append (span_bytes 0 s) (c ∷ rest) (span_bytes_lem 0 s (omega arith) k) (bytes_more c rest h r)

base_below : (k r : ℕ) → short_base k r ≤ 12
base_below k r = go (eqb k 4) (eqb k 2) (eqb k 5) (eqb r 0) (eqb r 1) refl refl refl refl refl
  where
    go : (a b c d e : Bool) → eqb k 4 ≡ a → eqb k 2 ≡ b → eqb k 5 ≡ c → eqb r 0 ≡ d → eqb r 1 ≡ e → short_base k r ≤ 12
    go true b c d e fa fb fc fd fe = simp fa (omega arith)
    go false true c d e fa fb fc fd fe = simp (fa, fb) (omega arith)
    go false false true true e fa fb fc fd fe = simp (fa, fb, fc, fd) (omega arith)
    go false false true false true fa fb fc fd fe = simp (fa, fb, fc, fd, fe) (omega arith)
    go false false true false false fa fb fc fd fe = simp (fa, fb, fc, fd, fe) (omega arith)
    go false false false d e fa fb fc fd fe = simp (fa, fb, fc) (omega arith)

literal_bytes_lem : (s : Span) (i k r x : ℕ) → Packable s → i < 536870912 → k ≤ 10 → r ≤ 255 → x ≤ 255 → AreBytes (literal_bytes s i k r x)
unfolding literal_bytes
literal_bytes_lem s i k r x ks hi hk hr hx = go _ _ refl refl
  where
    sy : AreBytes (symbol_bytes 0 i)
    sy = symbol_bytes_lem 0 i (omega arith) hi

    go : (y z : Bool) → (ltb 0 (short_base k r) && leb x 15) ≡ y → is_raw_kind k ≡ z → AreBytes (literal_bytes s i k r x)
    go true z e f =
        let l = leb-true x 15 (and_right (ltb 0 (short_base k r)) (leb x 15) e) in
        let m = base_below k r in
        simp e (after_control s (short_base k r + 16 * x) (symbol_bytes 0 i) ks (omega arith) sy)
    go false true e f = simp (e, f) (after_control s (7 + 8 * k) (r ∷ x ∷ symbol_bytes 0 i) ks (omega arith) (bytes_more r _ (omega arith) (bytes_more x (symbol_bytes 0 i) (omega arith) sy)))
    go false false e f = simp (e, f) (after_control s (7 + 8 * k) (x ∷ symbol_bytes 0 i) ks (omega arith) (bytes_more x (symbol_bytes 0 i) (omega arith) sy))

module _ (s t : Span) (n d kids : ℕ) (ks : Packable s) (kt : Packable t) (hd : d ≤ 3) (hn : n < 4294967296) (hk : kids < 4294967296) where
  counts : (z : List ℕ) → AreBytes z → AreBytes (z ++ (word_bytes n ++ word_bytes kids))
  counts z h = bytes_append z _ h (bytes_append (word_bytes n) (word_bytes kids) (word_bytes_lem n hn) (word_bytes_lem kids hk))

  root_bytes_lem : AreBytes (root_bytes s t n d kids)
  unfolding root_bytes
  root_bytes_lem = bytes_append (heavy_bytes 0 s) _ (heavy_bytes_lem 0 s (omega arith) ks) (bytes_more (5 + 8 * d) _ (omega arith) (counts (heavy_bytes 0 t) (heavy_bytes_lem 0 t (omega arith) kt)))

  subtree_bytes_lem : AreBytes (subtree_bytes s t n d kids)
  subtree_bytes_lem = subtree_form_lem AreBytes s t n d kids in_000 in_001 in_010 (after_control s (5 + 8 * d) _ ks (omega arith) (counts (span_bytes 0 t) (span_bytes_lem 0 t (omega arith) kt)))
    where
      in_byte : (m : ℕ) → (leb n 255 && leb kids m) ≡ true → (n ≤ 255) × (kids ≤ m)
      in_byte m e = (leb-true n 255 (and_left (leb n 255) (leb kids m) e), leb-true kids m (and_right (leb n 255) (leb kids m) e))

      two : (n ≤ 255) × (kids ≤ 255) → AreBytes (n ∷ kids ∷ [])
      two h = let a = h.0 in let b = h.1 in bytes_more n (kids ∷ []) (omega arith) (bytes_more kids [] (omega arith) bytes_none)

      in_000 : fits000 s t n kids ≡ true → AreBytes (bytes000 s t n d kids)
      in_000 e =
          let h = and_left (eqb s.index t.index && (leb n 255 && leb kids 255) && eqb s.len 1 && eqb t.len 1) (near s t 2047) e in
          let q = and₄ (eqb s.index t.index) (leb n 255 && leb kids 255) (eqb s.len 1) (eqb t.len 1) h in
          let a = near_true s t 2047 (and_right (eqb s.index t.index && (leb n 255 && leb kids 255) && eqb s.len 1 && eqb t.len 1) (near s t 2047) e) in
          let o = a.0 in
          let m = a.1 in
          let i = ks.index in
          let r = kt.range in
          let u : Span = record { index = s.index; start = s.start; len = apart s t } in
          after_control u (8 * d + 32 * (apart s t / 256)) (n ∷ kids ∷ []) (record { index = i; range = omega arith }) (omega arith) (two (in_byte 255 q.1))

      in_001 : fits001 s t n kids ≡ true → AreBytes (bytes001 s t n d kids)
      in_001 e =
          let q = and₄ (eqb s.index t.index) (leb n 255 && leb kids 255) (eqb s.len t.len) (near s t 7) e in
          let m = (near_true s t 7 q.3).1 in
          after_control s (1 + 8 * d + 32 * apart s t) (n ∷ kids ∷ []) ks (omega arith) (two (in_byte 255 q.1))

      in_010 : fits010 s t n kids ≡ true → AreBytes (bytes010 s t n d kids)
      in_010 e =
          let q = and₄ (leb n 255 && leb kids 4095) (eqb s.len t.len) (near s t 255) (leb t.index 127) e in
          let m = (near_true s t 255 q.2).1 in
          let c = in_byte 4095 q.0 in
          let c₀ = c.0 in
          let c₁ = c.1 in
          let j = leb-true t.index 127 q.3 in
          after_control s (2 + 8 * d + 32 * (t.index % 8)) (apart s t ∷ n ∷ half_bytes (16 * kids + t.index / 8)) ks (omega arith)
          (bytes_more (apart s t) _ (omega arith) (bytes_more n _ (omega arith) (half_bytes_lem (16 * kids + t.index / 8) (omega arith))))

scalar_below : (c : ℕ) → is_scalar c ≡ true → c < 4294967296
scalar_below c e = go (leb c 0xD7FF) (leb 0xE000 c) refl refl
  where
    go : (x y : Bool) → leb c 0xD7FF ≡ x → leb 0xE000 c ≡ y → c < 4294967296
    go true y f g = let l = leb-true c 0xD7FF f in omega arith
    go false true f g = let l = leb-true c 0x10FFFF (simp (f, g) at e) in omega arith
    go false false f g = true_false false (simp (f, g) at e) refl

pub tree_bytes_lem : (m : ℕ) (t : Raw) (kids : ℕ) → Writable t → fields t ≡ true → count_of t < 4294967296 → kids < 4294967296 → AreBytes (tree_bytes m t kids)
unfolding tree_bytes
tree_bytes_lem m (punct s c x) kids w f hc hk = go _ refl
  where
    go : (y : Bool) → ltb c 128 ≡ y → AreBytes (tree_bytes m (punct s c x) kids)
    go true e =
        let l = ltb-true c 128 e in
        let h = w.1 in
        simp e (bytes_append (span_bytes (1 + 2 * (x / 2)) s) _ (span_bytes_lem (1 + 2 * (x / 2)) s (omega arith) w.0) (bytes_more (2 * c + x % 2) [] (omega arith) bytes_none))
    go false e =
        let h = w.1 in
        let l = scalar_below c (and₃ (span_fits s) (is_scalar c) (leb x 2) f).1 in
        simp e (after_control s (6 + 8 * x) (word_bytes c) w.0 (omega arith) (word_bytes_lem c l))
tree_bytes_lem m (ident s i r) kids w f hc hk =
    let h = w.1 in
    bytes_append (span_bytes 2 s) (symbol_bytes r i) (span_bytes_lem 2 s (omega arith) w.0) (symbol_bytes_lem r i (omega arith) w.2)
tree_bytes_lem m (literal s i k r x) kids w f hc hk =
    let g = and_left (span_fits s && leb k 10 && (if is_raw_kind k then leb r 255 else eqb r 0)) (leb x 255) f in
    let a = and₃ (span_fits s) (leb k 10) (if is_raw_kind k then leb r 255 else eqb r 0) g in
    literal_bytes_lem s i k r x w.0 w.1 w.2 (raw_below (is_raw_kind k) a.2) (leb-true x 255 (and_right (span_fits s && leb k 10 && (if is_raw_kind k then leb r 255 else eqb r 0)) (leb x 255) f))
  where
    raw_below : (z : Bool) → (if z then leb r 255 else eqb r 0) ≡ true → r ≤ 255
    raw_below true h = leb-true r 255 h
    raw_below false h = let q = eqb-true r 0 h in omega arith
tree_bytes_lem m (subtree s t n d) kids w f hc hk = go _ refl
  where
    go : (y : Bool) → eqb m 0 ≡ y → AreBytes (tree_bytes m (subtree s t n d) kids)
    go true e = simp e (root_bytes_lem s t n d kids w.0 w.1 w.2 hc hk)
    go false e = simp e (subtree_bytes_lem s t n d kids w.0 w.1 w.2 hc hk)

-- ---- a list of trees

module _ (T : Tables) (ts : List Raw) (r₀ : Raw) (ok : Lawful T ts r₀) where
  abbrev rest : ℕ → List ℕ
  rest n = get_or (suffixes 0 ts) n []

  suffix_size : (ts : List Raw) (m n : ℕ) → length (get_or (suffixes m ts) n []) ≤ 33 * length ts
  unfolding suffixes
  suffix_size [] m zero = omega arith
  suffix_size [] m (suc n) = omega arith
  suffix_size (t ∷ ts) m zero = (write_size m (t ∷ ts)).1
  suffix_size (t ∷ ts) m (suc n) = let a = suffix_size ts (m + 1) n in omega arith

  pub rest_below : (n : ℕ) → length (rest n) < 4294967296
  rest_below n =
      let a = suffix_size ts 0 n in
      let b = ok.bounded in
      omega arith

  count_below : (n : ℕ) → n < length ts → count_of (get_or ts n r₀) < 4294967296
  count_below n h = go (is_subtree (get_or ts n r₀)) refl
    where
      go : (x : Bool) → is_subtree (get_or ts n r₀) ≡ x → count_of (get_or ts n r₀) < 4294967296
      go true e =
          let c = ok.counts n h e in
          let i = ok.nested.in_list n h (ok.sort n h ∙ e) in
          let b = ok.bounded in
          omega arith
      go false e = let z = leaf_count (get_or ts n r₀) e in omega arith

  rest_bytes : (j n : ℕ) → n + j ≡ length ts → AreBytes (rest n)
  rest_bytes zero n e =
      let q : n ≡ length ts = omega arith in
      rw (q, suffix_end ts 0) bytes_none
  rest_bytes (suc j) n e =
      let h : n < length ts = omega arith in
      let kids : ℕ = length (rest (suc n)) - length (rest (suc n + count_of (get_or ts n r₀))) in
      let b = rest_below (suc n) in
      let is : rest n ≡ tree_bytes n (get_or ts n r₀) kids ++ rest (suc n) = rw zero-add at (suffix_at r₀ ts 0 n h) in
      rw is (bytes_append (tree_bytes n (get_or ts n r₀) kids) (rest (suc n)) (tree_bytes_lem n (get_or ts n r₀) kids (ok.writable n h) (ok.in_range n h) (count_below n h) (omega arith)) (rest_bytes j (suc n) (omega arith)))

  pub write_bytes : AreBytes (write ts)
  write_bytes = rest_bytes (length ts) 0 (zero-add (length ts))

-- THE WRITTEN BYTES of a list that passes rows 1 to 5
pub packed_bytes : (parts symbols l : List ℕ) → list_verdict parts symbols l ≡ passed → AreBytes (packed parts symbols l)
packed_bytes parts symbols l ok = write_bytes (own_tables parts symbols) (trees parts symbols l) (punct (record { index = 0; start = 0; len = 0 }) 0 0) (lawful parts symbols l ok)
