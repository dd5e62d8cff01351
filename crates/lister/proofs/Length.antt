-- How long a text can be: of a buffer that the check has passed, five bytes for each byte, and the header.
use Prim.Native.Nat.{ℕ, zero, suc, ◌+◌, ◌*◌, ◌≤◌, ◌<◌}
use mathlib.Core.Bool.{Bool, true, false, ◌&&◌}
use mathlib.Core.Path.{◌≡◌, refl, ap, ◌∙◌, subst}
use mathlib.Core.List.{List, ◌++◌}
use native.Mathlib.Omega.{arith}
use native.Mathlib.Nat.{zero-add}
use native.Mathlib.Numerals.{add-one}
use borrow.Author.Tests.{leb-true}
use lib.Dec.{leb, eqb}
use lib.ListN.{length, length-append}
use Rattle.format.specs.Verdict.{passed}
use Rattle.format.specs.Reader.{Reader}
use Rattle.format.specs.Tree.{Raw}
use Rattle.format.specs.Check.{check, place_of, listing, Admitted}
use Rattle.format.specs.Tables.{count_rules, tables_sized}
use Rattle.format.specs.Buffer.{raw_shape, size_reader}
use Rattle.format.specs.Lister.{decimal, gap, newline, trees_text, bytes_text, parts_text, symbols_text, loose_text, refused_text, at_text, sort_text, header, refusal_line, line, depth_of, tree_line, tree_lines}
use Rattle.format.proofs.Each.{and_left, and_right, and₃}
use Rattle.format.proofs.CursorRun.{around_up}
use Rattle.format.proofs.CheckLaw.{check_sound}
use Rattle.format.proofs.TreeBounds.{Ended, tree_ended}
use Rattle.format.proofs.Reading.{each_clean}
use Rattle.text.proofs.Decimal.{decimal_few}
use Rattle.lister.specs.BySizes.{sort_of, size_lines, size_loose, size_listing}
use Rattle.lister.proofs.Listed.{lines_more}
use Rattle.lister.proofs.Counted.{loose_few}

-- ---- one line

sort_few : (x : ℕ) → length (sort_text x) ≤ 7
sort_few x = go _ _ _ refl refl refl
  where
    go : (p q r : Bool) → eqb x 0 ≡ p → eqb x 1 ≡ q → eqb x 2 ≡ r → length (sort_text x) ≤ 7
    go true q r e f g = simp e (omega arith)
    go false true r e f g = simp (e, f) (omega arith)
    go false false true e f g = simp (e, f, g) (omega arith)
    go false false false e f g = simp (e, f, g) (omega arith)

length_8 : (a b c d e f g h : List ℕ) → length (a ++ b ++ c ++ d ++ e ++ f ++ g ++ h) ≡ length a + length b + length c + length d + length e + length f + length g + length h
length_8 a b c d e f g h = simp length-append

length_11 : (a b c d e f g h i j k : List ℕ) → length (a ++ b ++ c ++ d ++ e ++ f ++ g ++ h ++ i ++ j ++ k)
    ≡ length a + length b + length c + length d + length e + length f + length g + length h + length i + length j + length k
length_11 a b c d e f g h i j k = simp length-append

length_5 : (a b c d e : List ℕ) → length (a ++ b ++ c ++ d ++ e) ≡ length a + length b + length c + length d + length e
length_5 a b c d e = simp length-append

line_few : (n first depth s : ℕ) → n < 100000 → first < 100000 → depth < 1000 → length (line n first depth s) ≤ 25
line_few n first depth s h₁ h₂ h₃ =
    let e = length_8 (decimal n) gap (decimal first) gap (decimal depth) gap (sort_text s) newline in
    let a₁ = decimal_few 4 n h₁ in
    let a₂ = decimal_few 4 first h₂ in
    let a₃ = decimal_few 2 depth h₃ in
    let a₄ = sort_few s in
    omega arith

pub refusal_few : (x n : ℕ) → x < 4294967296 → n < 4294967296 → length (refusal_line x n) ≤ 64
refusal_few x n h₁ h₂ =
    let e = length_5 refused_text (decimal x) at_text (decimal n) newline in
    let a₁ = decimal_few 9 x (omega arith) in
    let a₂ = decimal_few 9 n (omega arith) in
    omega arith

header_few : (k n p y x : ℕ) → k < 10000000 → n < 100000 → p < 10000000 → y < 10000000 → x < 10000 → length (header k n p y x) ≤ 75
header_few k n p y x h₁ h₂ h₃ h₄ h₅ =
    let e = length_11 trees_text (decimal k) bytes_text (decimal n) parts_text (decimal p) symbols_text (decimal y) loose_text (decimal x) newline in
    let a₁ = decimal_few 6 k h₁ in
    let a₂ = decimal_few 4 n h₂ in
    let a₃ = decimal_few 6 p h₃ in
    let a₄ = decimal_few 6 y h₄ in
    let a₅ = decimal_few 3 x h₅ in
    omega arith

-- ---- all lines

module _ (b : List ℕ) (k parts symbols : ℕ) (ok : check raw_shape (size_reader b k parts symbols) ≡ passed) (small : length b ≤ 65536) where
  abbrev R : Reader Raw
  R = size_reader b k parts symbols

  admitted : Admitted raw_shape R
  admitted = check_sound raw_shape R ok

  -- tree n is five bytes long at least, and ends in the buffer
  ended : (n : ℕ) → n < k → (place_of raw_shape R n + 5 ≤ place_of raw_shape R (n + 1)) × (place_of raw_shape R (n + 1) ≤ length b)
  unfolding size_reader
  ended n h =
      let c = each_clean raw_shape (λ n t. t) b k (count_rules parts symbols) admitted n h in
      subst (Ended b (place_of raw_shape R n)) c.stands (tree_ended b (place_of raw_shape R n))

  depth_few : (n : ℕ) → n < k → depth_of raw_shape sort_of R n < 1000
  unfolding size_reader
  depth_few n h =
      let s = admitted.nested.shallow n h in
      let u = around_up raw_shape (listing raw_shape R) n n 1 in
      omega arith

  record Short (n : ℕ) : Type 0 where
    trees : 5 * n ≤ place_of raw_shape R n
    bytes : place_of raw_shape R n ≤ length b
    text : length (tree_lines raw_shape sort_of R n 0) ≤ 5 * place_of raw_shape R n

  short : (n : ℕ) → n ≤ k → Short n
  unfolding place_of tree_lines tree_line
  short zero h = record { trees = omega arith; bytes = omega arith; text = omega arith }
  short (suc n) h = go (short n (omega arith)) (ended n (omega arith)) (depth_few n (omega arith))
    where
      line_is : place_of raw_shape R n < 100000 → n < 100000 → depth_of raw_shape sort_of R n < 1000 → length (tree_line raw_shape sort_of R n) ≤ 25
      line_is p q d = line_few n (place_of raw_shape R n) (depth_of raw_shape sort_of R n) (sort_of ((listing raw_shape R).tree n)) q p d

      go : Short n → (place_of raw_shape R n + 5 ≤ place_of raw_shape R (n + 1)) × (place_of raw_shape R (n + 1) ≤ length b) → depth_of raw_shape sort_of R n < 1000 → Short (suc n)
      go s e d =
          let t = s.trees in
          let u = s.bytes in
          let v = s.text in
          let l = line_is (omega arith) (omega arith) d in
          let m = ap length (lines_more raw_shape sort_of R n 0) ∙ length-append (tree_lines raw_shape sort_of R n 0) (tree_line raw_shape sort_of R (0 + n)) in
          let m₁ = ap (λ (x : ℕ). length (tree_line raw_shape sort_of R x)) (zero-add n) in
          let e' : (place_of raw_shape R n + 5 ≤ place_of raw_shape R (suc n)) × (place_of raw_shape R (suc n) ≤ length b) = rw add-one at e in
          record { trees = omega arith; bytes = e'.1; text = omega arith }

  sizes_few : (k ≤ 1048576) × (parts ≤ 2097152) × (symbols ≤ 1048576)
  unfolding size_reader
  sizes_few =
      let s = admitted.sized in
      let t = and₃ (leb 2 parts) (leb parts 2097152) (leb symbols 1048576) (and_right (leb 1 k && leb k 1048576) (tables_sized parts symbols) s) in
      let u = and_right (leb 1 k) (leb k 1048576) (and_left (leb 1 k && leb k 1048576) (tables_sized parts symbols) s) in
      (leb-true k 1048576 u, leb-true parts 2097152 t.1, leb-true symbols 1048576 t.2)

  pub passed_few : length (size_listing b k parts symbols) ≤ 327755
  unfolding size_lines
  passed_few =
      let x = size_loose b k parts symbols in
      let e = length-append (header k (length b) parts symbols x) (tree_lines raw_shape sort_of R k 0) in
      let c = sizes_few in
      let c₁ = c.0 in
      let c₂ = c.1 in
      let c₃ = c.2 in
      let l = loose_few b k parts symbols ok in
      let h = header_few k (length b) parts symbols x (omega arith) (omega arith) (omega arith) (omega arith) (omega arith) in
      let s = short k (omega arith) in
      let t = s.bytes in
      let u = s.text in
      omega arith
