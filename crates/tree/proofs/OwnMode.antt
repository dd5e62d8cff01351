-- Document 01's tables behind row 1, as the code has them: all but the last two parts are below the limit, and the last two are the root's pair.
use Prim.Native.Nat.{ℕ, ◌*◌, ◌-◌, ◌/◌, ◌%◌}
use mathlib.Core.Bool.{Bool, true}
use mathlib.Core.Path.{◌≡◌, sym, ap, ◌∙◌}
use mathlib.Core.List.{List}
use native.Mathlib.Omega.{arith}
use borrow.Author.Tests.{eqb-true, leb-true}
use lib.Dec.{eqb, leb}
use lib.ListN.{length, take, drop, length-drop}
use lib.Seq.{take_all}
use Rattle.format.specs.Width.{part_size}
use Rattle.format.specs.Tables as format
use Rattle.format.specs.Tables.{Mode, tables_sized, own_limits, own_mode}
use Rattle.format.proofs.Each.{and_left, and_right, and₃}
use Rattle.tree.specs.Mode.{limits_of, mode_of, Whole}
use Rattle.tree.specs.declared.limits.Limits.{Limits}

-- the part words from the limit on, as a part of the run that is lent on
abbrev pub pair_of : Limits → List ℕ → List ℕ
pair_of N parts = take (length parts - part_size * N.limit) (drop (part_size * N.limit) parts)

pair_drop : (N : Limits) (parts : List ℕ) → pair_of N parts ≡ drop (part_size * N.limit) parts
pair_drop N parts = let e = length-drop (part_size * N.limit) parts in take_all (length parts - part_size * N.limit) (drop (part_size * N.limit) parts) (omega arith)

module _ (parts symbols : List ℕ) (s : (own_mode parts symbols).sized ≡ true) (N : Limits) (e : limits_of N ≡ own_limits (length parts / part_size) (length symbols)) where
  abbrev P : ℕ
  P = length parts / part_size

  abbrev whole : Bool
  whole = eqb (length parts % part_size) 0

  pub own_whole : Whole N parts (pair_of N parts) symbols
  own_whole =
      let w = eqb-true (length parts % part_size) 0 (and_left whole (tables_sized P (length symbols)) s) in
      let t = and₃ (leb 2 P) (leb P 2097152) (leb (length symbols) 1048576) (and_right whole (tables_sized P (length symbols)) s) in
      let a = leb-true 2 P t.0 in
      let l : N.limit ≡ P - 2 = ap (λ (x : format.Limits). x.limit) e in
      let d = ap length (pair_drop N parts) ∙ length-drop (part_size * N.limit) parts in
      record {
        below = omega arith;
        two = omega arith;
        many = ap (λ (x : format.Limits). x.symbols) e;
      }

  pub own_mode_lem : mode_of N parts (pair_of N parts) symbols ≡ own_mode parts symbols
  own_mode_lem =
      let l : N.limit ≡ P - 2 = ap (λ (x : format.Limits). x.limit) e in
      let r : N.root ≡ P - 2 = ap (λ (x : format.Limits). x.root) e in
      let p = pair_drop N parts ∙ ap (λ (k : ℕ). drop (part_size * k) parts) l in
      λ i. record { sized = sym s i; limit = l i; root = r i; parts = parts; pair = p i; symbols = symbols }
