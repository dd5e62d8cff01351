-- The list words of the source's tree are those of the tree with indices.
use Prim.Native.Nat.{ℕ, zero, suc, ◌+◌, ◌*◌, ◌%◌, ◌≤◌}
use mathlib.Core.Bool.{Bool, true, false, ◌&&◌}
use mathlib.Core.Path.{◌≡◌, refl}
use native.Mathlib.Omega.{arith}
use borrow.Author.Tests.{leb-true, eqb-true}
use lib.Dec.{leb, eqb}
use Rattle.std.specs.Prelude.{if◌then◌else◌}
use Rattle.format.specs.Tree.{Raw, punct, ident, literal, subtree, is_raw_kind}
use Rattle.format.specs.Fields.{span_fits, is_scalar, fields}
use Rattle.format.specs.Tables.{Mode, tree_words}
use Rattle.format.proofs.Each.{and_left, and_right}
use Rattle.tree.specs.Types.{spacing_of, is_raw_of, delimiter_of, lit_kind_of, resolved, spacing_word, is_raw_word, delimiter_word, lit_kind_word, tree_words_of}

pub spacing_again : (x : ℕ) → x ≤ 2 → spacing_word (spacing_of x) ≡ x
unfolding spacing_word spacing_of
spacing_again zero h = refl
spacing_again (suc zero) h = refl
spacing_again (suc (suc zero)) h = refl
spacing_again (suc (suc (suc x))) h = absurd (omega arith)

pub is_raw_again : (x : ℕ) → x ≤ 1 → is_raw_word (is_raw_of x) ≡ x
unfolding is_raw_word is_raw_of
is_raw_again zero h = refl
is_raw_again (suc zero) h = refl
is_raw_again (suc (suc x)) h = absurd (omega arith)

pub delimiter_again : (x : ℕ) → x ≤ 3 → delimiter_word (delimiter_of x) ≡ x
unfolding delimiter_word delimiter_of
delimiter_again zero h = refl
delimiter_again (suc zero) h = refl
delimiter_again (suc (suc zero)) h = refl
delimiter_again (suc (suc (suc zero))) h = refl
delimiter_again (suc (suc (suc (suc x)))) h = absurd (omega arith)

no_count : (k r : ℕ) → eqb r 0 ≡ true → k ≡ k + 256 * r
no_count k r e = let z : r ≡ 0 = eqb-true r 0 e in omega arith

pub kind_again : (k r : ℕ) → k ≤ 10 → (if is_raw_kind k then leb r 255 else eqb r 0) ≡ true → lit_kind_word (lit_kind_of k r) ≡ k + 256 * r
unfolding lit_kind_word lit_kind_of
kind_again zero r h e = no_count 0 r e
kind_again (suc zero) r h e = no_count 1 r e
kind_again (suc (suc zero)) r h e = no_count 2 r e
kind_again (suc (suc (suc zero))) r h e = no_count 3 r e
kind_again (suc (suc (suc (suc zero)))) r h e = no_count 4 r e
kind_again (suc (suc (suc (suc (suc zero))))) r h e = refl
kind_again (suc (suc (suc (suc (suc (suc zero)))))) r h e = no_count 6 r e
kind_again (suc (suc (suc (suc (suc (suc (suc zero))))))) r h e = refl
kind_again (suc (suc (suc (suc (suc (suc (suc (suc zero)))))))) r h e = no_count 8 r e
kind_again (suc (suc (suc (suc (suc (suc (suc (suc (suc zero))))))))) r h e = refl
kind_again (suc (suc (suc (suc (suc (suc (suc (suc (suc (suc zero)))))))))) r h e = no_count 10 r e
kind_again (suc (suc (suc (suc (suc (suc (suc (suc (suc (suc (suc k))))))))))) r h e = absurd (omega arith)

pub count_255 : (r : ℕ) (y : Bool) → (if y then leb r 255 else eqb r 0) ≡ true → r ≤ 255
count_255 r true e = leb-true r 255 e
count_255 r false e = let h = eqb-true r 0 e in omega arith

-- in range, kind, raw count and suffix length do not pass a word
pub one_word : (k r x : ℕ) → k ≤ 10 → r ≤ 255 → x ≤ 255 → (k + 256 * r + 65536 * x) % 4294967296 ≡ k + 256 * r + 65536 * x
one_word k r x f g h = omega arith

pub resolved_words : (M : Mode) (n : ℕ) (t : Raw) → fields t ≡ true → tree_words_of (resolved M n t) ≡ tree_words M n t
unfolding tree_words_of resolved tree_words
resolved_words M n (punct s c x) e =
    let h : x ≤ 2 = leb-true x 2 (and_right (span_fits s && is_scalar c) (leb x 2) e) in
    rw (spacing_again x h)
resolved_words M n (ident s i r) e =
    let h : r ≤ 1 = leb-true r 1 (and_right (span_fits s) (leb r 1) e) in
    rw (is_raw_again r h)
resolved_words M n (literal s i k r x) e =
    let c : Bool = if is_raw_kind k then leb r 255 else eqb r 0 in
    let f = and_left (span_fits s && leb k 10 && c) (leb x 255) e in
    let g : c ≡ true = and_right (span_fits s && leb k 10) c f in
    let h : k ≤ 10 = leb-true k 10 (and_right (span_fits s) (leb k 10) (and_left (span_fits s && leb k 10) c f)) in
    let l : x ≤ 255 = leb-true x 255 (and_right (span_fits s && leb k 10 && c) (leb x 255) e) in
    rw (kind_again k r h g, one_word k r x h (count_255 r (is_raw_kind k) g) l)
resolved_words M n (subtree s t c d) e =
    let h : d ≤ 3 = leb-true d 3 (and_right (span_fits s && span_fits t) (leb d 3) e) in
    rw (delimiter_again d h)
