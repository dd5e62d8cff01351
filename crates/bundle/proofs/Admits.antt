-- What the host's number means: 0 is given to bundles of an admitted buffer and to no other, and else the number of the row that holds first.
use Prim.Native.Nat.{ℕ, ◌<◌}
use mathlib.Core.Path.{◌≡◌, refl, sym, ap, ◌∙◌}
use mathlib.Core.List.{List}
use mathlib.Core.Logic.{◌⊎◌, ⊎_elim}
use native.Mathlib.Omega.{arith}
use Rattle.std.specs.Prelude.{Option, None}
use Rattle.format.specs.Verdict.{Verdict, passed, refused}
use Rattle.format.specs.Plain.{Listing}
use Rattle.format.specs.Reader.{Shape}
use Rattle.format.specs.Check.{Admitted}
use Rattle.format.specs.Buffer.{word_shape, own_reader}
use Rattle.format.specs.Bundle.{Bundle, BundleRead, bundle, bad_bundle, bundle_at, check_of, bundle_check, number_of}
use Rattle.bundle.specs.Answer.{read_answer, read_number}
use Rattle.bundle.specs.declared.read.Contents.{Contents}
use Rattle.format.proofs.CheckRefusal as rows
use Rattle.format.proofs.NestLaw.{Why, passes_other, passes_list, deep}
use Rattle.format.proofs.TreeRefusal.{own_numbers, own_refusal}
use Rattle.format.proofs.Own.{own_sound, own_complete}

-- ---- no refusal has the number 0

why_positive : {Tree : Type 0} (S : Shape Tree) (L : Listing Tree) (r n : ℕ) → Why S L r n → 0 < r
why_positive S L r n (passes_other m x a b c d e) = omega arith
why_positive S L r n (passes_list x a b) = omega arith
why_positive S L r n (deep x a b c) = omega arith

module _ (B : Bundle) where
  read_positive : (n r : ℕ) → (r ≡ 7) ⊎ ((r ≡ 2) ⊎ (r ≡ 8)) → 0 < r
  read_positive n r = ⊎_elim (λ e. omega arith) (⊎_elim (λ e. omega arith) (λ e. omega arith))

  row_positive : (r n : ℕ) → rows.Refused word_shape (own_reader B.bytes B.trees B.parts B.symbols) r n → 0 < r
  row_positive r n (rows.size a) = omega arith
  row_positive r n (rows.tree x y a b c d) = read_positive n x (own_numbers B.bytes B.trees B.parts B.symbols y x c)
  row_positive r n (rows.left a b) = omega arith
  row_positive r n (rows.root a b c) = omega arith
  row_positive r n (rows.nesting x y a b) = why_positive word_shape _ x y b.why
  row_positive r n (rows.count x a b c d e f) = omega arith

zero_passed : (q : BundleRead) → number_of (check_of q) ≡ 0 → check_of q ≡ passed
zero_passed bad_bundle e = absurd (omega arith)
zero_passed (bundle B) e = go (check_of (bundle B)) refl
  where
    go : (v : Verdict) → check_of (bundle B) ≡ v → v ≡ passed
    go passed f = refl
    go (refused r n) f =
        let p = row_positive B r n (own_refusal B.bytes B.trees B.parts B.symbols r n f) in
        let z : r ≡ 0 = sym (ap number_of f) ∙ e in
        absurd (omega arith)

bad_read : (b : List ℕ) (q : BundleRead) → read_answer b q ≡ None → q ≡ bad_bundle
unfolding read_answer
bad_read b bad_bundle e = refl
bad_read b (bundle B) e = let z : ◌≡◌ {A = ℕ} 0 1 = cc in absurd (omega arith)

-- ---- r is the host's number

module _ (b : List ℕ) (r : ℕ) (says : r ≡ number_of (bundle_check b)) where
  pub zero_checked : r ≡ 0 → bundle_check b ≡ passed
  zero_checked e = zero_passed (bundle_at b) (sym says ∙ e)

  module _ (B : Bundle) (q : bundle_at b ≡ bundle B) where
    pub zero_admitted : r ≡ 0 → Admitted word_shape (own_reader B.bytes B.trees B.parts B.symbols)
    zero_admitted e = own_sound B.bytes B.trees B.parts B.symbols (sym (ap check_of q) ∙ zero_checked e)

    pub admitted_zero : Admitted word_shape (own_reader B.bytes B.trees B.parts B.symbols) → r ≡ 0
    admitted_zero a = says ∙ ap number_of (ap check_of q ∙ own_complete B.bytes B.trees B.parts B.symbols a)

  -- what `read_bundle` answers of a bad bundle is what the check says
  pub bad_refused : (a : Option Contents) → a ≡ read_answer b (bundle_at b) → a ≡ None → bundle_check b ≡ refused (read_number a) 0
  bad_refused a e f = ap check_of (bad_read b (bundle_at b) (sym e ∙ f)) ∙ sym (ap (λ (x : Option Contents). refused (read_number x) 0) f)

  pub bad_one : bundle_at b ≡ bad_bundle → r ≡ 1
  bad_one q = says ∙ ap (λ (x : BundleRead). number_of (check_of x)) q
