-- What a caller learns from an answer of the reading of a bundle.
use Prim.Native.Nat.{ℕ, ◌-◌, ◌/◌, ◌≤◌}
use mathlib.Core.Path.{◌≡◌, refl, sym, ap, ◌∙◌, subst}
use mathlib.Core.List.{List}
use native.Mathlib.Omega.{arith}
use lib.ListN.{length, take, drop, length-drop}
use lib.Seq.{take_all}
use Rattle.std.specs.Prelude.{Option, Some, None}
use Rattle.format.specs.Width.{part_size}
use Rattle.format.specs.Bundle as bundles
use Rattle.format.specs.Bundle.{bundle_at}
use Rattle.bundle.specs.Answer.{read_answer}
use Rattle.bundle.specs.declared.read.Contents.{Contents}
use Rattle.bundle.proofs.Records.{Placed, bytes_placed}

-- the bundle that is read, by its contents
pub record Holds (b : List ℕ) (x : Contents) (B : bundles.Bundle) : Type 0 where
  pub reads : bundle_at b ≡ bundles.bundle B
  pub trees : x.trees ≡ B.trees
  pub parts : x.parts ≡ length B.parts / part_size
  pub symbols : x.symbols ≡ length B.symbols
  pub bytes : drop x.start b ≡ B.bytes
  pub inside : x.start ≤ length b

-- a run's part from a place to its end
pub rest_of : (b : List ℕ) (p : ℕ) → take (length b - p) (drop p b) ≡ drop p b
rest_of b p = let l = length-drop p b in take_all (length b - p) (drop p b) (omega arith)

abbrev pub Told : List ℕ → Contents → Type 0
Told b x = (B : bundles.Bundle) × Holds b x B

module _ (b : List ℕ) where
  tell : (r : bundles.BundleRead) → Placed b r → bundle_at b ≡ r → (x : Contents) → read_answer b r ≡ Some x → Told b x
  unfolding read_answer
  tell (bundles.bundle B) p e x q =
      let d : ◌≡◌ {A = Contents} (record { trees = B.trees; parts = length B.parts / part_size; symbols = length B.symbols; start = length b - length B.bytes }) x = cc in
      let s : length b - length B.bytes ≡ x.start = ap (λ (y : Contents). y.start) d in (
        B,
        record {
          reads = e;
          trees = sym (ap (λ (y : Contents). y.trees) d);
          parts = sym (ap (λ (y : Contents). y.parts) d);
          symbols = sym (ap (λ (y : Contents). y.symbols) d);
          bytes = subst (λ (n : ℕ). drop n b ≡ B.bytes) s p;
          inside = omega arith;
        },
      )
  tell bundles.bad_bundle p e x q = cc

  told_bad : (r : bundles.BundleRead) → read_answer b r ≡ None → r ≡ bundles.bad_bundle
  unfolding read_answer
  told_bad (bundles.bundle B) q = cc
  told_bad bundles.bad_bundle q = refl

  module _ (r : Option Contents) (e : r ≡ read_answer b (bundle_at b)) where
    pub told : (x : Contents) → r ≡ Some x → Told b x
    told x q = tell (bundle_at b) (bytes_placed b) refl x (sym e ∙ q)

    pub is_bad : r ≡ None → bundle_at b ≡ bundles.bad_bundle
    is_bad q = told_bad (bundle_at b) (sym e ∙ q)

    pub start_inside : (x : Contents) → r ≡ Some x → x.start ≤ length b
    start_inside x q = (told x q).1.inside
