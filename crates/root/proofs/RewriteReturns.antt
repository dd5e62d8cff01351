-- One law for each return, with premises as the code's tests and calls give them.
use Prim.Native.Nat.{ℕ, suc, ◌+◌, ◌*◌, ◌-◌, ◌/◌, ◌%◌, ◌<◌, ◌≤◌}
use mathlib.Core.Bool.{Bool, true, false, ◌&&◌}
use mathlib.Core.Path.{◌≡◌, refl, sym, ap, ◌∙◌}
use mathlib.Core.List.{List, [], ◌∷◌, ◌++◌}
use native.Mathlib.Omega.{arith}
use native.Mathlib.Numerals.{add-one}
use borrow.Author.Tests.{le-leb, lt-leb, leb-true}
use lib.ListN.{length, set}
use lib.Seq.{sets-eq}
use Rattle.std.specs.Prelude.{Result, Ok, Err, ⊤}
use Rattle.format.specs.Verdict.{Verdict, passed, refused, rule}
use Rattle.format.specs.Width.{part_size}
use Rattle.format.specs.Part.{part_words, indexed}
use Rattle.format.specs.Word.{byte_at, put}
use Rattle.format.specs.Write.{heavy_bytes}
use Rattle.format.specs.Check.{Admitted}
use Rattle.format.specs.Tables.{own_mode, own_tables}
use Rattle.format.specs.Buffer.{word_shape, reader, buffer_check}
use Rattle.format.specs.Root.{range_fits, new_kind, new_spans, spans_verdict}
use Rattle.format.proofs.Each.{both, rule_passed, and_left, and_right}
use Rattle.format.proofs.NewRoot.{root_of_lem, admitted, sizes}
use Rattle.format.proofs.RootKind.{kind_unchecked, kind_high, kind_fits, kind_refused, kind_stored}
use Rattle.format.proofs.RootSpans.{spans_unchecked, spans_high, spans_fit, spans_refused, spans_stored}
use Rattle.pack.specs.Packing.{SpanPacked}
use Rattle.pack.proofs.Store.{put_then}
use Rattle.pack.proofs.Use.{heavy_contents}
use Rattle.tree.specs.Refusal.{verdict_answer}
use Rattle.tree.specs.Types.{words_of}
use Rattle.tree.proofs.Answers.{answer_passed, answer_refused}
use Rattle.tree.specs.declared.refusal.Refusal.{Refusal}
use Rattle.tree.specs.declared.types.Span as types
use Rattle.checker.proofs.Admits.{passes}
use Rattle.root.specs.Rewrite.{KindSet, Storable, SpansJudged, SpansSet}

-- ---- what the check's `Ok` says of the sizes

module _ (b : List ℕ) (k : ℕ) (parts symbols : List ℕ) (r : Result ⊤ Refusal) (e : r ≡ verdict_answer (buffer_check b k parts symbols)) where
  module _ (u : ⊤) (q : r ≡ Ok u) where
    ok : buffer_check b k parts symbols ≡ passed
    ok = passes b k parts symbols r e q

    pub passed_room : 33 ≤ length b
    passed_room = (root_of_lem b k (own_mode parts symbols) (admitted b k parts symbols ok)).stands.room

    -- ---- set_top_subtree_delimiter_kind

    module _ (d : ℕ) where
      pub kind_two : (z : Result ⊤ Refusal) → 3 < d → z ≡ verdict_answer (refused 2 0) → KindSet b k parts symbols d z b
      kind_two z h p =
          let v = kind_high b k parts symbols d ok (lt-leb d 3 h) in
          record { answer = p ∙ ap verdict_answer (sym v); contents = sym (kind_refused b k parts symbols d 2 0 v) }

      pub kind_done : (b' : List ℕ) → d ≤ 3 → b' ≡ new_kind b d → KindSet b k parts symbols d (Ok tt) b'
      kind_done b' h p =
          let v = kind_fits b k parts symbols d ok (le-leb d 3 h) in
          record { answer = sym q ∙ e ∙ ap verdict_answer (ok ∙ sym v); contents = p ∙ sym (kind_stored b k parts symbols d v) }

    -- ---- spans_verdict

    module _ (o c : types.Span) (x : Bool) (f : x ≡ (range_fits (words_of o) && range_fits (words_of c))) where
      pub spans_two : (z : Result ⊤ Refusal) → x ≡ false → z ≡ verdict_answer (refused 2 0) → SpansJudged b k parts symbols o c z
      spans_two z h p = record { answer = p ∙ ap verdict_answer (sym (spans_high b k parts symbols (words_of o) (words_of c) ok (sym f ∙ h))) }

      pub spans_pass : x ≡ true → SpansJudged b k parts symbols o c (Ok tt)
      spans_pass h = record { answer = sym q ∙ e ∙ ap verdict_answer (ok ∙ sym (spans_fit b k parts symbols (words_of o) (words_of c) ok (sym f ∙ h))) }

  -- ---- what the check refuses

  module _ (x : Refusal) (q : r ≡ Err x) where
    no : buffer_check b k parts symbols ≡ refused x.number x.tree
    no = answer_refused (buffer_check b k parts symbols) x (sym e ∙ q)

    pub kind_unread : (d : ℕ) (z : Result ⊤ Refusal) → z ≡ Err x → KindSet b k parts symbols d z b
    kind_unread d z f =
        let v = kind_unchecked b k parts symbols d x.number x.tree no in
        record { answer = f ∙ sym q ∙ e ∙ ap verdict_answer (no ∙ sym v); contents = sym (kind_refused b k parts symbols d x.number x.tree v) }

    pub spans_unread : (o c : types.Span) (z : Result ⊤ Refusal) → z ≡ Err x → SpansJudged b k parts symbols o c z
    spans_unread o c z f = record { answer = f ∙ sym q ∙ e ∙ ap verdict_answer (no ∙ sym (spans_unchecked b k parts symbols (words_of o) (words_of c) x.number x.tree no)) }

pub ruleset kind_cases = (passed_room)

-- ---- set_top_subtree_delimiter_span

module _ (b : List ℕ) (k : ℕ) (parts symbols : List ℕ) (o c : types.Span) (r : Result ⊤ Refusal) (e : SpansJudged b k parts symbols o c r) where
  abbrev verdict : Verdict
  verdict = spans_verdict b k parts symbols (words_of o) (words_of c)

  pub set_refused : (x : Refusal) → r ≡ Err x → (z : Result ⊤ Refusal) → z ≡ Err x → SpansSet b k parts symbols o c z b parts
  set_refused x q z f =
      let v = answer_refused verdict x (sym e.answer ∙ q) in
      let s = spans_refused b k parts symbols (words_of o) (words_of c) x.number x.tree v in
      record { answer = f ∙ sym q ∙ e.answer; contents = sym s.0; table = sym s.1 }

  module _ (u : ⊤) (q : r ≡ Ok u) where
    judged : verdict ≡ passed
    judged = answer_passed verdict (sym e.answer ∙ q)

    parts_of : (buffer_check b k parts symbols ≡ passed) × (range_fits (words_of o) ≡ true) × (range_fits (words_of c) ≡ true)
    unfolding spans_verdict
    parts_of =
        let v = both (buffer_check b k parts symbols) (rule (range_fits (words_of o) && range_fits (words_of c)) 2 0) judged in
        let w = rule_passed (range_fits (words_of o) && range_fits (words_of c)) 2 0 v.1 in
        (v.0, and_left (range_fits (words_of o)) (range_fits (words_of c)) w, and_right (range_fits (words_of o)) (range_fits (words_of c)) w)

    accepted : Admitted word_shape (reader b k (own_tables parts symbols))
    accepted = admitted b k parts symbols parts_of.0

    abbrev P : ℕ
    P = length parts / part_size

    pub set_two : 2 ≤ length parts / part_size
    set_two = (sizes b k parts symbols accepted).two

    pub set_index : length parts / part_size - 2 < 4294967296
    set_index = let z = (sizes b k parts symbols accepted).many in omega arith

    pub set_storable : Storable (length b) (length parts / part_size - 2) o c
    set_storable =
        let z = (sizes b k parts symbols accepted).many in
        record {
          room = (root_of_lem b k (own_mode parts symbols) accepted).stands.room;
          index = omega arith;
          opens = leb-true _ _ parts_of.1;
          closes = leb-true _ _ parts_of.2;
        }

    pub set_least : 2 * part_size ≤ length parts
    set_least = let z = set_two in omega arith

    pub set_pair : length parts - 2 * part_size + 2 * part_size ≤ length parts
    set_pair = let z = set_least in omega arith

    pub set_done : (b' parts' : List ℕ) → b' ≡ new_spans b (length parts / part_size - 2) (words_of o) (words_of c)
        → parts' ≡ put parts (length parts - 2 * part_size) (part_words (words_of o).part ++ part_words (words_of c).part)
        → SpansSet b k parts symbols o c (Ok tt) b' parts'
    set_done b' parts' p q' =
        let s = spans_stored b k parts symbols (words_of o) (words_of c) judged in
        record { answer = sym q ∙ e.answer; contents = p ∙ sym s.0; table = q' ∙ sym s.1 }

pub ruleset set_cases = (set_refused, set_two, set_index, set_storable, set_least, set_pair, set_done)

-- ---- stores

pub kind_put : (b b' : List ℕ) (d x : ℕ) → x ≡ byte_at b 12 → b' ≡ put b 12 ((x % 8 + 8 * d) ∷ []) → b' ≡ new_kind b d
kind_put b b' d x e p = p ∙ rw e

pub span_put : (b : List ℕ) (at i : ℕ) (s : types.Span) (r : Result ℕ ℕ) (b' : List ℕ) → s.start + s.len ≤ 4294967295 → i < 268435456 → at + 12 ≤ length b
    → SpanPacked b at true 0 (indexed i (words_of s)) r b' → b' ≡ put b at (heavy_bytes 0 (indexed i (words_of s)))
span_put b at i s r b' h₁ h₂ h₃ p = heavy_contents b at 0 (indexed i (words_of s)) r b' (omega arith) h₁ h₂ p h₃

pub spans_put : (b b₁ b₂ : List ℕ) (n : ℕ) (o c : types.Span) → b₁ ≡ put b 0 (heavy_bytes 0 (indexed n (words_of o)))
    → b₂ ≡ put b₁ 13 (heavy_bytes 0 (indexed (n + 1) (words_of c))) → b₂ ≡ new_spans b n (words_of o) (words_of c)
spans_put b b₁ b₂ n o c e₁ e₂ = e₂ ∙ rw e₁

add_two : (n : ℕ) → n + 2 ≡ suc (suc n)
add_two n = omega arith

pub part_put : (p : List ℕ) (at x y z : ℕ) → at + part_size ≤ length p
    → set (set (set p at x) (at + 1) y) (at + 2) z ≡ put p at (part_words (record { file = x; ast = y; context = z }))
unfolding put
part_put p at x y z h = rw (add-one, add_two) (sets-eq (x ∷ y ∷ z ∷ []) p at h)

pub pair_put : (p p₁ p₂ : List ℕ) (at : ℕ) (o c : types.Span) → p₁ ≡ put p at (part_words (words_of o).part)
    → p₂ ≡ put p₁ (at + part_size) (part_words (words_of c).part) → at + 2 * part_size ≤ length p → p₂ ≡ put p at (part_words (words_of o).part ++ part_words (words_of c).part)
pair_put p p₁ p₂ at o c e₁ e₂ h = put_then p p₁ p₂ at part_size (part_words (words_of o).part) (part_words (words_of c).part) e₁ e₂ refl (omega arith)

pub ruleset put_cases = (kind_put, span_put, spans_put, part_put, pair_put)
