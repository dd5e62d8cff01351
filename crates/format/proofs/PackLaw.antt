-- A span or symbol that was packed is read back at its place; packing in bounds and with room is never refused.
use Prim.Native.Nat.{ℕ, ◌+◌, ◌≤◌, ◌<◌}
use mathlib.Core.Bool.{Bool, true, false}
use mathlib.Core.Path.{◌≡◌}
use mathlib.Core.List.{List}
use native.Mathlib.Omega.{arith}
use borrow.Author.Tests.{leb-true, ltb-true, le-leb, lt-ltb}
use lib.Dec.{leb, ltb}
use lib.ListN.{length}
use Rattle.format.specs.Verdict.{Verdict, passed, ◌and_then◌, rule}
use Rattle.format.specs.Word.{put}
use Rattle.format.specs.Span.{Span, span, span_at, symbol, symbol_at}
use Rattle.format.specs.Fields.{span_fits}
use Rattle.format.specs.Write.{symbol_bytes}
use Rattle.format.specs.Pack.{room_for, span_form, pack_span, span_packed, pack_symbol, symbol_packed}
use Rattle.format.proofs.Each.{both, rule_passed}
use Rattle.format.proofs.Holds.{Holds}
use Rattle.format.proofs.WriteSize.{heavy_size}
use Rattle.format.proofs.Put.{put_holds}
use Rattle.format.proofs.SpanBack.{Packable, heavy_back, span_back, symbol_back}

module _ (out : List ℕ) (at : ℕ) where
  form_back : (b : List ℕ) (heavy : Bool) (x : ℕ) (s : Span) → x < 4 → Packable s → Holds b at (span_form heavy x s) → span_at b at ≡ span x s (at + length (span_form heavy x s))
  form_back b true x s hx k h = rw (heavy_size x s) (heavy_back b at x s hx k h)
  form_back b false x s hx k h = span_back b at x s hx k h

  pub span_packed_lem : (heavy : Bool) (extra : ℕ) (s : Span) → pack_span out at heavy extra s ≡ passed
      → span_at (span_packed out at heavy extra s) at ≡ span extra s (at + length (span_form heavy extra s))
  span_packed_lem heavy extra s ok =
      let v₃ : Verdict = room_for out at (span_form heavy extra s) in
      let v₂ : Verdict = rule (ltb s.index 268435456) 8 0 and_then v₃ in
      let v₁ : Verdict = rule (span_fits s) 2 0 and_then v₂ in
      let a = both (rule (leb extra 3) 2 0) v₁ ok in
      let b = both (rule (span_fits s) 2 0) v₂ a.1 in
      let c = both (rule (ltb s.index 268435456) 8 0) v₃ b.1 in
      let x = leb-true extra 3 (rule_passed (leb extra 3) 2 0 a.0) in
      let k : Packable s =
      record {
        index = ltb-true s.index 268435456 (rule_passed (ltb s.index 268435456) 8 0 c.0);
        range = leb-true (s.start + s.len) 4294967295 (rule_passed (span_fits s) 2 0 b.0);
      } in
      let r = leb-true (at + length (span_form heavy extra s)) (length out) (rule_passed (leb (at + length (span_form heavy extra s)) (length out)) 6 0 c.1) in
      rw ok (form_back (put out at (span_form heavy extra s)) heavy extra s (omega arith) k (put_holds out at (span_form heavy extra s) r))

  pub symbol_packed_lem : (tag i : ℕ) → pack_symbol out at tag i ≡ passed → symbol_at (symbol_packed out at tag i) at ≡ symbol tag i (at + length (symbol_bytes tag i))
  symbol_packed_lem tag i ok =
      let v₂ : Verdict = room_for out at (symbol_bytes tag i) in
      let v₁ : Verdict = rule (ltb i 536870912) 8 0 and_then v₂ in
      let a = both (rule (leb tag 1) 2 0) v₁ ok in
      let b = both (rule (ltb i 536870912) 8 0) v₂ a.1 in
      let x = leb-true tag 1 (rule_passed (leb tag 1) 2 0 a.0) in
      let j = ltb-true i 536870912 (rule_passed (ltb i 536870912) 8 0 b.0) in
      let r = leb-true (at + length (symbol_bytes tag i)) (length out) (rule_passed (leb (at + length (symbol_bytes tag i)) (length out)) 6 0 b.1) in
      rw ok (symbol_back (put out at (symbol_bytes tag i)) at tag i (omega arith) j (put_holds out at (symbol_bytes tag i) r))

  -- within the bounds and with room, packing passes
  pub span_packs : (heavy : Bool) (extra : ℕ) (s : Span) → extra ≤ 3 → s.start + s.len ≤ 4294967295 → s.index < 268435456 → at + length (span_form heavy extra s) ≤ length out
      → pack_span out at heavy extra s ≡ passed
  span_packs heavy extra s a b c d =
      let x = le-leb extra 3 a in
      let y = le-leb (s.start + s.len) 4294967295 b in
      let z = lt-ltb s.index 268435456 c in
      let w = le-leb (at + length (span_form heavy extra s)) (length out) d in
      simp (x, y, z, w)

  pub symbol_packs : (tag i : ℕ) → tag ≤ 1 → i < 536870912 → at + length (symbol_bytes tag i) ≤ length out → pack_symbol out at tag i ≡ passed
  symbol_packs tag i a b c =
      let x = le-leb tag 1 a in
      let y = lt-ltb i 536870912 b in
      let z = le-leb (at + length (symbol_bytes tag i)) (length out) c in
      simp (x, y, z)
