-- DEMAND 2 from the answers of the functions: list, tables, bytes, check, and the list again.
use Prim.Native.Nat.{ℕ, zero, suc, ◌+◌, ◌*◌, ◌≤◌}
use mathlib.Core.Bool.{false}
use mathlib.Core.Path.{◌≡◌, refl, sym, ap, ◌∙◌}
use mathlib.Core.List.{List, ◌∷◌, ◌++◌, append_assoc, append-nil}
use native.Mathlib.Omega.{arith}
use native.Mathlib.Nat.{add-zero, zero-add}
use native.Mathlib.Numerals.{add-one}
use borrow.Author.Tests.{ne_eqb}
use lib.Dec.{eqb}
use lib.ListN.{length, take, replicate}
use Rattle.std.specs.Prelude.{Result, Ok, Err, ⊤}
use Rattle.format.specs.Verdict.{passed}
use Rattle.format.specs.Walk.{WalkCall, advance}
use Rattle.format.specs.Plain.{Listing, plain_walk_run}
use Rattle.format.specs.Buffer.{word_shape, own_reader, buffer_check}
use Rattle.format.specs.WordList.{words_up_to, list_count, list_rows}
use Rattle.format.specs.Writer.{list_verdict, packed}
use Rattle.format.specs.MakeTables.{part_total, symbol_table}
use Rattle.tree.specs.Refusal.{verdict_answer}
use Rattle.tree.specs.declared.refusal.Refusal.{Refusal}
use Rattle.tables.specs.Made.{made_of, TablesDone}
use Rattle.tables.specs.declared.make.Made.{Made}
use Rattle.tables.proofs.Tabled.{tabled, made_given, room_enough}
use Rattle.writer.specs.Written.{Written}
use Rattle.writer.specs.Encoded.{Encodes}
use Rattle.writer.proofs.Encoded.{wrote, wrote_given, bytes_enough, six_alone}
use Rattle.demands.specs.PlainMachine.{list_read}
use Rattle.demands.specs.RoundTrip.{handed_all, RoundTrip}
use Rattle.demands.proofs.PlainMachine.{passed_plain}

-- ---- the plain machine's trees, one after the other

module _ (L : Listing (List ℕ)) where
  one_more : (cs : List WalkCall) (n : ℕ) → eqb n L.k ≡ false
      → handed_all (plain_walk_run word_shape L (advance ∷ cs) n) ≡ L.tree n ++ handed_all (plain_walk_run word_shape L cs (n + 1))
  unfolding handed_all plain_walk_run
  one_more cs n e = simp e

  words_more : (n : ℕ) → words_up_to L.tree (n + 1) ≡ words_up_to L.tree n ++ L.tree n
  unfolding words_up_to
  words_more n = rw (add-one n)

  plain_handed : (j n : ℕ) → n + j ≡ L.k → words_up_to L.tree n ++ handed_all (plain_walk_run word_shape L (replicate j advance) n) ≡ words_up_to L.tree (n + j)
  unfolding handed_all plain_walk_run
  plain_handed zero n h = append-nil (words_up_to L.tree n) ∙ ap (words_up_to L.tree) (sym (add-zero n))
  plain_handed (suc j) n h =
      let e : eqb n L.k ≡ false = ne_eqb n L.k (λ q. absurd (omega arith)) in
      let q : n + 1 + j ≡ n + suc j = omega arith in
      let more : List ℕ = handed_all (plain_walk_run word_shape L (replicate j advance) (n + 1)) in
      ap (λ (x : List ℕ). words_up_to L.tree n ++ x) (one_more (replicate j advance) n e)
      ∙ sym (append_assoc (words_up_to L.tree n) (L.tree n) more)
      ∙ ap (λ (x : List ℕ). x ++ more) (sym (words_more n))
      ∙ plain_handed j (n + 1) (omega arith)
      ∙ ap (words_up_to L.tree) q

  all_handed : handed_all (plain_walk_run word_shape L (replicate L.k advance) 0) ≡ words_up_to L.tree L.k
  unfolding words_up_to
  all_handed = plain_handed L.k 0 (zero-add L.k) ∙ ap (words_up_to L.tree) (zero-add L.k)

-- ---- the bytes of a list give it back

pub encodes_back : (parts symbols l b : List ℕ) → Encodes parts symbols l b → RoundTrip parts symbols l b
unfolding own_reader
encodes_back parts symbols l b e =
    let k : ℕ = list_count l in
    let v : Result ⊤ Refusal = verdict_answer (buffer_check b (list_count l) parts symbols) in
    let m = passed_plain b k parts symbols v refl (e.checks v refl) in
    record {
      encodes = e;
      walked = λ first f ss ran. ap handed_all (m.walks first f (replicate k advance) ss ran) ∙ all_handed (list_read b k parts symbols) ∙ e.whole;
      plain = m;
    }

-- ---- over given tables: r is the answer of `encode_list`

pub given_back : (parts symbols l work out : List ℕ) (r : Result ℕ Refusal) (work' out' : List ℕ) → Written parts symbols l work out r work' out'
    → (n : ℕ) → r ≡ Ok n → RoundTrip parts symbols l (take n out')
given_back parts symbols l work out r work' out' w n e =
    encodes_back parts symbols l (take n out') (wrote parts symbols l work out r work' out' w n e).encodes

-- ---- over its own tables: t is the answer of `compute_span_frequencies_and_symbols`, and what it made is lent to `encode_list`

module _ (l a b c d : List ℕ) (t : Result Made Refusal) (a' b' c' d' : List ℕ) (done : TablesDone l a b c d t a' b' c' d') (p s : ℕ) (made : t ≡ made_of p s)
    (work out : List ℕ) (r : Result ℕ Refusal) (work' out' : List ℕ) (w : Written (take (3 * p) a') (take s c') l work out r work' out') where
  silent : list_verdict (take (3 * p) a') (take s c') l ≡ passed
  silent = (tabled l a b c d t a' b' c' d' done p s made).writes

  -- bytes or 6
  pub own_six : (x : Refusal) → r ≡ Err x → (x.number ≡ 6) × (x.tree ≡ 0)
  own_six = six_alone (take (3 * p) a') (take s c') l work out r work' out' w silent

  pub own_wrote : list_count l + 1 ≤ length work → 33 * list_count l ≤ length out → r ≡ Ok (length (packed (take (3 * p) a') (take s c') l))
  own_wrote h g =
      wrote_given (take (3 * p) a') (take s c') l work out r work' out' w silent h
      (bytes_enough (take (3 * p) a') (take s c') l out g)

  pub own_back : (n : ℕ) → r ≡ Ok n → RoundTrip (take (3 * p) a') (take s c') l (take n out')
  own_back = given_back (take (3 * p) a') (take s c') l work out r work' out' w

-- DEMAND 2 of every list within the limits: with six, two, one and one words a tree for the tables, a work word a tree and one more, and 33 bytes a
-- tree, nothing is refused, and the bytes give the list back
pub list_back : (l a b c d : List ℕ) → list_rows l ≡ passed
    → 6 * list_count l ≤ length a → 2 * list_count l ≤ length b → list_count l ≤ length c → list_count l ≤ length d
    → (t : Result Made Refusal) (a' b' c' d' : List ℕ) → TablesDone l a b c d t a' b' c' d'
    → (p : ℕ) × (s : ℕ) × (t ≡ made_of p s)
    × ((work out : List ℕ) → list_count l + 1 ≤ length work → 33 * list_count l ≤ length out
    → (r : Result ℕ Refusal) (work' out' : List ℕ) → Written (take (3 * p) a') (take s c') l work out r work' out'
    → (n : ℕ) × (r ≡ Ok n) × RoundTrip (take (3 * p) a') (take s c') l (take n out'))
list_back l a b c d rows ha hb hc hd t a' b' c' d' done =
    let p : ℕ = part_total l in
    let s : ℕ = length (symbol_table l) in
    let made : t ≡ made_of p s =
    made_given l a b c d t a' b' c' d' done rows (room_enough l (length a) (length b) (length c) (length d) rows ha hb hc hd) in (
      p,
      s,
      made,
      λ work out hw ho r work' out' w.
          let n : ℕ = length (packed (take (3 * p) a') (take s c') l) in
          let e = own_wrote l a b c d t a' b' c' d' done p s made work out r work' out' w hw ho in
          (n, e, own_back l a b c d t a' b' c' d' done p s made work out r work' out' w n e),
    )
