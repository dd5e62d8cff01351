-- One law for each return of the functions that pack, with premises as the code's tests and calls give them.
use Prim.Native.Nat.{ℕ, ◌+◌, ◌*◌, ◌-◌, ◌/◌, ◌%◌, ◌<◌, ◌≤◌}
use mathlib.Core.Bool.{Bool, true, false, not, ◌&&◌}
use mathlib.Core.Path.{◌≡◌, refl, sym, ap, ◌∙◌, subst}
use mathlib.Core.List.{List, [], ◌∷◌, ◌++◌, append_assoc, append-nil}
use native.Mathlib.Omega.{arith}
use borrow.Author.Tests.{lt-ltb, le-ltb, le-leb, lt-leb, not-true, not-false}
use lib.Dec.{ltb, leb}
use lib.ListN.{length, take, get_or}
use Rattle.std.proofs.lemmas.List.{take_all, take_more, length-take-le}
use Rattle.std.specs.Prelude.{Result, Ok, Err}
use Rattle.format.specs.Word.{word_bytes, put}
use Rattle.format.specs.Span.{Span}
use Rattle.format.specs.Write.{first_word, heavy_bytes, span_bytes, symbol_bytes}
use Rattle.format.specs.Pack.{span_form}
use Rattle.format.proofs.Put.{put_length}
use Rattle.pack.specs.Answer.{packed_answer, all_below}
use Rattle.pack.specs.Packing.{Stored, SpanPacked, SymbolPacked, words_bytes}
use Rattle.pack.proofs.Store.{put_none, put_then}
use Rattle.pack.proofs.Sizes.{symbol_length, symbol_least}
use Rattle.pack.proofs.RestsLaw.{taken_below, word_only, no_rests, rests_small, rests_extended, start_rest_fits, len_rest_whole, rests_second, rests_heavy_second, rests_heavy_third}

-- ---- the words of a form, where there is room for them

module _ (b : List ℕ) (at : ℕ) (vs : List ℕ) where
  pub no_room : length b < at + length vs → Stored b at vs (Err 6) b
  unfolding packed_answer
  no_room k = record { answer = simp (lt-leb _ _ k); contents = simp (lt-leb _ _ k) }

  with_room_lem : (b' : List ℕ) → at + length vs ≤ length b → b' ≡ put b at vs → Stored b at vs (Ok (length vs)) b'
  unfolding packed_answer
  with_room_lem b' k e = record { answer = simp (le-leb _ _ k); contents = simp (le-leb _ _ k) e }

words_cons : (w : ℕ) (ws : List ℕ) → words_bytes (w ∷ ws) ≡ word_bytes w ++ words_bytes ws
words_cons w [] = sym (append-nil (word_bytes w))
words_cons w (v ∷ ws) = refl

words_length : (ws : List ℕ) → length (words_bytes ws) ≡ 4 * length ws
words_length [] = refl
words_length (w ∷ ws) = rw (words_cons w ws) (let h = words_length ws in omega arith)

words_push : (ws : List ℕ) (v : ℕ) → words_bytes (ws ++ (v ∷ [])) ≡ words_bytes ws ++ word_bytes v
words_push [] v = refl
words_push (w ∷ ws) v = words_cons w (ws ++ (v ∷ [])) ∙ ap (λ (x : List ℕ). word_bytes w ++ x) (words_push ws v) ∙ rw (words_cons w ws) (append_assoc (word_bytes w) (words_bytes ws) (word_bytes v))

module _ (b : List ℕ) (at : ℕ) (ws : List ℕ) where
  module _ (n : ℕ) (e : length ws ≡ n) where
    pub words_short : length b < 4 * n → Stored b at (words_bytes ws) (Err 6) b
    words_short h = no_room b at (words_bytes ws) (omega (arith, words_length ws))

    pub words_late : length b - 4 * n < at → Stored b at (words_bytes ws) (Err 6) b
    words_late h = no_room b at (words_bytes ws) (omega (arith, words_length ws))

    pub words_stored : (b' : List ℕ) (i : ℕ) → b' ≡ put b at (words_bytes (take i ws)) → n ≤ i → 4 * n ≤ length b → at ≤ length b - 4 * n → Stored b at (words_bytes ws) (Ok (4 * n)) b'
    words_stored b' i h g j k =
        let l : length (words_bytes ws) ≡ 4 * n = words_length ws ∙ ap (λ (m : ℕ). 4 * m) e in
        subst (λ (m : ℕ). Stored b at (words_bytes ws) (Ok m) b') l (with_room_lem b at (words_bytes ws) b' (omega arith) (h ∙ rw (take_all i ws (omega arith))))

  pub words_start : b ≡ put b at (words_bytes (take 0 ws))
  words_start = sym (put_none b at)

  module _ (b₁ b₂ : List ℕ) (i : ℕ) (e₁ : b₁ ≡ put b at (words_bytes (take i ws))) (h : i < length ws) (k : at + 4 * length ws ≤ length b) where
    pub word_room : at + 4 * i + 4 ≤ length b₁
    word_room =
        let l = words_length (take i ws) in
        let m : length (take i ws) ≡ i = length-take-le i ws (omega arith) in
        omega (arith, ap length e₁, put_length b at (words_bytes (take i ws)) (omega arith))

    pub word_more : b₂ ≡ put b₁ (at + 4 * i) (word_bytes (get_or ws i 0)) → b₂ ≡ put b at (words_bytes (take (i + 1) ws))
    word_more e₂ =
        let l = words_length (take i ws) in
        let m : length (take i ws) ≡ i = length-take-le i ws (omega arith) in
        put_then b b₁ b₂ at (4 * i) (words_bytes (take i ws)) (word_bytes (get_or ws i 0)) e₁ e₂ (omega arith) (omega arith)
        ∙ ap (put b at) (sym (ap words_bytes (take_more ws i 0 h) ∙ words_push (take i ws) (get_or ws i 0)))

pub ruleset put_words_cases = (words_short, words_late, words_start, words_stored, word_room, word_more)

-- ---- the form that the rests choose

module _ (b : List ℕ) (at x : ℕ) (s : Span) (heavy : Bool) (r : Result ℕ ℕ) (b' : List ℕ) (w : ℕ) where
  module _ (i t l : ℕ) (d₁ : i ≡ s.index - s.index % 16) (d₂ : t ≡ s.start - s.start % 131072) (d₃ : l ≡ s.len - s.len % 256) where
    -- what the first word takes
    module _ (a c d : ℕ) (e₁ : a ≡ s.index % 16) (e₂ : c ≡ s.start % 131072) (e₃ : d ≡ s.len % 256) (f : w ≡ x + 4 * a + 64 * d + 16384 * 1 + 32768 * c) where
      word_first : w ≡ first_word x 1 s
      word_first = f ∙ rw (e₁, e₂, e₃)

      module _ (v u : ℕ) (m : v ≡ 1 + 2 * (l / 65536) + t) (n : u ≡ i / 16 + 65536 * (l % 65536)) where
        words_heavy : words_bytes (w ∷ v ∷ u ∷ []) ≡ heavy_bytes x s
        unfolding heavy_bytes
        words_heavy = rw (word_first, rests_heavy_second s i t l d₁ d₂ d₃ v m, rests_heavy_third s i t l d₁ d₂ d₃ u n)

        pub rests_forced : not heavy ≡ false → Stored b at (words_bytes (w ∷ v ∷ u ∷ [])) r b' → Stored b at (span_form heavy x s) r b'
        rests_forced e p = simp (not-false heavy e, ← words_heavy) p

    module _ (e : not heavy ≡ true) (y : Bool) (g : y ≡ (ltb i 1 && ltb t 1 && ltb l 1)) where
      pub rests_one : w ≡ x + 4 * s.index + 64 * s.len + 16384 * 0 + 32768 * s.start → y ≡ true → Stored b at (words_bytes (w ∷ [])) r b' → Stored b at (span_form heavy x s) r b'
      unfolding span_bytes
      rests_one f h p =
          let k : w ≡ first_word x 0 s = word_only x s w f (no_rests s i t l d₁ d₂ d₃ y g h) in
          simp (not-true heavy e, rests_small s i t l d₁ d₂ d₃ ∙ sym g ∙ h, ← k) p

      module _ (h : y ≡ false) (z : Bool) (k : z ≡ (ltb i 32768 && ltb t 134217728 && ltb l 262144)) where
        not_small : all_below s 16 131072 256 ≡ false
        not_small = rests_small s i t l d₁ d₂ d₃ ∙ sym g ∙ h

        extended : all_below s 32768 134217728 262144 ≡ z
        extended = rests_extended s i t l d₁ d₂ d₃ ∙ sym k

        module _ (a c d : ℕ) (e₁ : a ≡ s.index % 16) (e₂ : c ≡ s.start % 131072) (e₃ : d ≡ s.len % 256) (f : w ≡ x + 4 * a + 64 * d + 16384 * 1 + 32768 * c) where
          pub rests_two : (v : ℕ) → v ≡ i / 8 + 16 * l + 32 * t → z ≡ true → Stored b at (words_bytes (w ∷ v ∷ [])) r b' → Stored b at (span_form heavy x s) r b'
          unfolding span_bytes
          rests_two v j m p =
              simp (not-true heavy e, not_small, extended ∙ m, ← word_first a c d e₁ e₂ e₃ f, ← rests_second s i t l d₁ d₂ d₃ v j) p

          pub rests_three : (v u : ℕ) → v ≡ 1 + 2 * (l / 65536) + t → u ≡ i / 16 + 65536 * (l % 65536) → z ≡ false → Stored b at (words_bytes (w ∷ v ∷ u ∷ [])) r b' → Stored b at (span_form heavy x s) r b'
          unfolding span_bytes
          rests_three v u j n m p = simp (not-true heavy e, not_small, extended ∙ m, ← words_heavy a c d e₁ e₂ e₃ f v u j n) p

pub ruleset pack_rests_cases = (start_rest_fits, len_rest_whole, taken_below, rests_one, rests_two, rests_three, rests_forced)

-- ---- the refusals

module _ (b : List ℕ) (at x : ℕ) (s : Span) (heavy : Bool) where
  pub extra_2 : 3 < x → SpanPacked b at heavy x s (Err 2) b
  unfolding packed_answer
  extra_2 h = record { answer = simp (lt-leb _ _ h); contents = simp (lt-leb _ _ h) }

  module _ (h₁ : x ≤ 3) (f : Bool) (e : f ≡ leb (s.start + s.len) 4294967295) where
    pub end_2 : not f ≡ true → SpanPacked b at heavy x s (Err 2) b
    unfolding packed_answer
    end_2 h =
        let k : leb (s.start + s.len) 4294967295 ≡ false = sym e ∙ not-true f h in
        record { answer = simp (le-leb _ _ h₁, k); contents = simp (le-leb _ _ h₁, k) }

    module _ (h₂ : not f ≡ false) where
      k : leb (s.start + s.len) 4294967295 ≡ true
      k = sym e ∙ not-false f h₂

      pub index_8 : 268435456 ≤ s.index → SpanPacked b at heavy x s (Err 8) b
      unfolding packed_answer
      index_8 h = record { answer = simp (le-leb _ _ h₁, k, le-ltb _ _ h); contents = simp (le-leb _ _ h₁, k, le-ltb _ _ h) }

      pub span_form_lem : s.index < 268435456 → (r : Result ℕ ℕ) (b' : List ℕ) → Stored b at (span_form heavy x s) r b' → SpanPacked b at heavy x s r b'
      span_form_lem h r b' p = record { answer = simp (le-leb _ _ h₁, k, lt-ltb _ _ h) p.answer; contents = simp (le-leb _ _ h₁, k, lt-ltb _ _ h) p.contents }

pub ruleset encode_span_cases = (extra_2, end_2, index_8, span_form_lem)

module _ (b : List ℕ) (at t i : ℕ) where
  pub tag_2 : 1 < t → SymbolPacked b at t i (Err 2) b
  unfolding packed_answer
  tag_2 h = record { answer = simp (lt-leb _ _ h); contents = simp (lt-leb _ _ h) }

  module _ (h₁ : t ≤ 1) where
    pub symbol_8 : 536870912 ≤ i → SymbolPacked b at t i (Err 8) b
    unfolding packed_answer
    symbol_8 h = record { answer = simp (le-leb _ _ h₁, le-ltb _ _ h); contents = simp (le-leb _ _ h₁, le-ltb _ _ h) }

    module _ (h₂ : i < 536870912) (n r : ℕ) (d : n ≡ length (symbol_bytes 0 i)) (e : r ≡ length b - at) where
      pub symbol_6 : r < n → SymbolPacked b at t i (Err 6) b
      unfolding packed_answer
      symbol_6 h =
          let l = symbol_length t i in
          let k : length b < at + length (symbol_bytes t i) = omega arith in
          record { answer = simp (le-leb _ _ h₁, lt-ltb _ _ h₂, lt-leb _ _ k); contents = simp (le-leb _ _ h₁, lt-ltb _ _ h₂, lt-leb _ _ k) }

      pub symbol_written : n ≤ r → (b' : List ℕ) → b' ≡ put b at (symbol_bytes t i) → SymbolPacked b at t i (Ok n) b'
      unfolding packed_answer
      symbol_written h b' q =
          let l = symbol_length t i in
          let g = symbol_least 0 i in
          let k : at + length (symbol_bytes t i) ≤ length b = omega arith in
          let m : n ≡ length (symbol_bytes t i) = omega arith in
          record { answer = simp (le-leb _ _ h₁, lt-ltb _ _ h₂, le-leb _ _ k) (ap Ok m); contents = simp (le-leb _ _ h₁, lt-ltb _ _ h₂, le-leb _ _ k) q }

    pub symbol_room : (n r : ℕ) → n ≡ length (symbol_bytes 0 i) → r ≡ length b - at → n ≤ r → at + length (symbol_bytes 0 i) ≤ length b
    symbol_room n r d e h = let l = symbol_least 0 i in omega arith

pub ruleset encode_symbol_cases = (tag_2, symbol_8, symbol_6, symbol_written, symbol_room)
