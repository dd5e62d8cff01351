-- Parts and spans by their words: equal exactly where the tests say so. What stands in a part, and how many words, is asked for here alone.
use Prim.Native.Nat.{ℕ, suc, ◌+◌, ◌*◌, ◌<◌, ◌≤◌}
use mathlib.Core.Bool.{true}
use mathlib.Core.Path.{◌≡◌, ap, ◌∙◌}
use mathlib.Core.List.{List, ◌++◌}
use native.Mathlib.Omega.{arith}
use native.Mathlib.Nat.{add-zero}
use borrow.Author.Tests.{eq-eqb, eqb-true}
use lib.Dec.{eqb}
use lib.ListN.{get_or, drop}
use lib.Seq.{get_or-drop, get_or-append-add}
use Rattle.format.specs.Width.{part_size}
use Rattle.format.specs.Part.{Part, part_words, part_from, same_part, part_at, WordSpan, span_from, same_span}
use Rattle.format.proofs.Each.{and₃}

pub same_part_lem : (p q : Part) → same_part p q ≡ true → p ≡ q
same_part_lem p q e =
    let x = and₃ (eqb p.file q.file) (eqb p.ast q.ast) (eqb p.context q.context) e in
    let a = eqb-true p.file q.file x.0 in
    let b = eqb-true p.ast q.ast x.1 in
    let c = eqb-true p.context q.context x.2 in
    λ i. record { file = a i; ast = b i; context = c i }

pub part_same : (p q : Part) → p ≡ q → same_part p q ≡ true
part_same p q e =
    let a = eq-eqb p.file q.file (ap (λ r. r.file) e) in
    let b = eq-eqb p.ast q.ast (ap (λ r. r.ast) e) in
    let c = eq-eqb p.context q.context (ap (λ r. r.context) e) in
    simp (a, b, c)

pub same_span_lem : (s t : WordSpan) → same_span s t ≡ true → s ≡ t
same_span_lem s t e =
    let x = and₃ (same_part s.part t.part) (eqb s.start t.start) (eqb s.len t.len) e in
    let a = same_part_lem s.part t.part x.0 in
    let b = eqb-true s.start t.start x.1 in
    let c = eqb-true s.len t.len x.2 in
    λ i. record { part = a i; start = b i; len = c i }

pub span_same : (s t : WordSpan) → s ≡ t → same_span s t ≡ true
span_same s t e =
    let a = part_same s.part t.part (ap (λ r. r.part) e) in
    let b = eq-eqb s.start t.start (ap (λ r. r.start) e) in
    let c = eq-eqb s.len t.len (ap (λ r. r.len) e) in
    simp (a, b, c)

-- their words tell them apart
pub words_part : (p q : Part) → part_words p ≡ part_words q → p ≡ q
words_part p q e =
    let a : p.file ≡ q.file = cc in
    let b : p.ast ≡ q.ast = cc in
    let c : p.context ≡ q.context = cc in
    λ i. record { file = a i; ast = b i; context = c i }

-- a part read from other words, k further on
pub part_from_lem : (w v : ℕ → ℕ) (k : ℕ) → ((j : ℕ) → w j ≡ v (k + j)) → part_from w 0 ≡ part_from v k
part_from_lem w v k same =
    let a : w 0 ≡ v k = rw add-zero at (same 0) in
    let b = same 1 in
    let c = same 2 in
    λ i. record { file = a i; ast = b i; context = c i }

-- a span turns on its words alone
pub from_same : (w v : ℕ → ℕ) (k : ℕ) → ((j : ℕ) → k ≤ j → w j ≡ v j) → span_from w k ≡ span_from v k
from_same w v k same =
    let a = same k (omega arith) in
    let b = same (k + 1) (omega arith) in
    let c = same (k + 2) (omega arith) in
    let s = same (k + part_size) (omega arith) in
    let l = same (k + part_size + 1) (omega arith) in
    λ i. record { part = record { file = a i; ast = b i; context = c i }; start = s i; len = l i }

-- ---- a table of parts

-- an entry turns on its words alone
pub entry_same : (t u : List ℕ) (i k : ℕ) → ((j : ℕ) → j < part_size → get_or t (part_size * i + j) 0 ≡ get_or u (part_size * k + j) 0) → part_at t i ≡ part_at u k
entry_same t u i k same =
    let a : get_or t (part_size * i) 0 ≡ get_or u (part_size * k) 0 = rw (add-zero (part_size * i), add-zero (part_size * k)) at (same 0 (omega arith)) in
    let b = same 1 (omega arith) in
    let c = same 2 (omega arith) in
    λ x. record { file = a x; ast = b x; context = c x }

-- one part on
pub part_on : (p : Part) (t : List ℕ) (i : ℕ) → part_at (part_words p ++ t) (suc i) ≡ part_at t i
part_on p t i =
    entry_same (part_words p ++ t) t (suc i) i
    (λ j h.
    let e : part_size * suc i + j ≡ part_size + (part_size * i + j) = omega arith in
    ap (λ (y : ℕ). get_or (part_words p ++ t) y 0) e ∙ get_or-append-add (part_words p) t (part_size * i + j) 0)

pub part_drop : (t : List ℕ) (i j : ℕ) → part_at (drop (part_size * i) t) j ≡ part_at t (i + j)
part_drop t i j =
    entry_same (drop (part_size * i) t) t j (i + j)
    (λ x h. let e : part_size * i + (part_size * j + x) ≡ part_size * (i + j) + x = omega arith in get_or-drop (part_size * i) t (part_size * j + x) 0 ∙ ap (λ (y : ℕ). get_or t y 0) e)
