-- The hash is below the size that it is scaled to.
use Prim.Native.Nat.{ℕ, ◌+◌, ◌*◌, ◌/◌, ◌%◌, ◌<◌, ◌≤◌}
use mathlib.Core.Path.{◌≡◌}
use native.Mathlib.Omega.{arith}
use native.Mathlib.Nat.{mul-le-mul, mul-lt-mul_of_pos_right, div-lt_iff_lt-mul, mul_comm}
use Rattle.slots.specs.Hash.{mix_of}

pub scaled_lt : (h size : ℕ) → 0 < size → h < 4294967296 → h * size / 4294967296 < size
scaled_lt h size z k =
    let big : 0 < 4294967296 = omega arith in
    let lt : h * size < 4294967296 * size = mul-lt-mul_of_pos_right k z in
    (div-lt_iff_lt-mul big).1 (rw (mul_comm 4294967296 size) at lt)

pub product_most : (h size : ℕ) → size ≤ 1048576 → h < 4294967296 → h * size ≤ 4294967296 * 1048576
product_most h size z k = mul-le-mul (let j : h ≤ 4294967296 = omega arith in j) z

pub mix_is : (a b c x y z size r : ℕ) → x ≡ a → y ≡ b → z ≡ c
    → r ≡ (x * 1013904223 + y * 668265263 + z * 374761393) % 4294967296 * size / 4294967296 → r ≡ mix_of a b c size
unfolding mix_of
mix_is a b c x y z size r p q s e = rw (← p, ← q, ← s) e

pub mix_lt : (a b c size : ℕ) → 0 < size → mix_of a b c size < size
unfolding mix_of
mix_lt a b c size h = scaled_lt ((a * 1013904223 + b * 668265263 + c * 374761393) % 4294967296) size h (omega arith)

pub ruleset hash_cases = (scaled_lt, mix_is)
