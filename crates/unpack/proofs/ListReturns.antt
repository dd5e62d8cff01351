-- One law for each return and call of the functions of src/list.rt, with premises as the code's tests and calls give them.
use Prim.Native.Nat.{ℕ, ◌+◌, ◌*◌, ◌/◌, ◌≤◌, ◌<◌}
use mathlib.Core.Bool.{true, ◌&&◌}
use mathlib.Core.Path.{◌≡◌, refl, sym, ap, ◌∙◌}
use mathlib.Core.List.{List, ◌++◌}
use native.Mathlib.Omega.{arith}
use native.Mathlib.Nat.{zero-add}
use native.Mathlib.Numerals.{add-one}
use lib.Dec.{leb}
use lib.ListN.{length, length-append}
use Rattle.std.specs.Prelude.{Result, Ok, Err}
use Rattle.format.specs.Verdict.{passed}
use Rattle.format.specs.Word.{put}
use Rattle.format.specs.Width.{part_size, tree_size}
use Rattle.format.specs.Reader.{Reader, Reply, got, bad}
use Rattle.format.specs.Tree.{tree_at}
use Rattle.format.specs.Fields.{fields}
use Rattle.format.specs.Tables.{Mode, row_eight, tree_words, own_limits, own_mode}
use Rattle.format.specs.Check.{check, next_of, tree_of, place_of, reading, listing}
use Rattle.format.specs.Buffer.{judge, word_shape, own_reader, buffer_check}
use Rattle.format.specs.WordList.{words_up_to}
use Rattle.format.specs.Unpack.{list_of}
use Rattle.format.proofs.CheckLaw.{next_place}
use Rattle.format.proofs.Each.{and_right}
use Rattle.format.proofs.Own.{own_sound}
use Rattle.format.proofs.ListOf.{words_length, mode_whole}
use Rattle.pack.proofs.Store.{put_put, put_none}
use Rattle.tree.specs.Raw.{RawAt, raw_of, raw_answer}
use Rattle.tree.specs.Mode.{limits_of}
use Rattle.tree.specs.Tables.{mode_in}
use Rattle.tree.specs.declared.tables.Tables.{Tables}
use Rattle.tree.proofs.TypesWords.{resolved_words}
use Rattle.decode.specs.Judge.{limit_rules}
use Rattle.decode.specs.Decode.{read_in}
use Rattle.decode.proofs.JudgeUse.{judged_passed}
use Rattle.decode.proofs.DecodeUse.{worded, decoded_words, sized_refused, sized_got}
use Rattle.unpack.specs.List.{reader_in, read_at, words_read, list_in}

-- ---- put_tree

module _ (b : List ℕ) (t : Tables) (n at : ℕ) (r : Result RawAt ℕ)
    (e : r ≡ raw_answer (judge (λ n t. t) (limit_rules (limits_of t.limits)) n at (tree_at b at))) where
  abbrev M : Mode
  M = mode_in t

  worded_here : worded (read_in b M n at) ≡ read_at b M n at
  unfolding read_at
  worded_here = decoded_words M n at b 0

  module _ (j : ℕ) (q : r ≡ Err j) where
    here_bad : read_at b M n at ≡ bad j
    here_bad = sym worded_here ∙ ap worded (sized_refused b t.limits t.parts.now t.pair.now t.symbols.now t.whole n at r e j q)

    pub bad_next : 0 ≡ next_of (read_at b (mode_in t) n at)
    bad_next = sym (ap next_of here_bad)

    pub bad_words : (l : List ℕ) (at' : ℕ) → l ≡ put l at' (words_read (read_at b (mode_in t) n at))
    bad_words l at' = sym (ap (λ z. put l at' (words_read z)) here_bad ∙ put_none l at')

  module _ (y : RawAt) (q : r ≡ Ok y) where
    pub here_fits : fields (raw_of y.tree) ≡ true
    here_fits = (judged_passed b (limit_rules (limits_of t.limits)) n at r e y q).fits

    pub here_row : row_eight (limits_of t.limits) n (raw_of y.tree) ≡ 0
    here_row = (judged_passed b (limit_rules (limits_of t.limits)) n at r e y q).row

    here_got : read_at b M n at ≡ got (tree_words M n (raw_of y.tree)) y.next y.children.0
    here_got =
        sym worded_here ∙ ap worded (sized_got b t.limits t.parts.now t.pair.now t.symbols.now t.whole n at r e y q)
        ∙ ap (λ (z : List ℕ). got z y.next y.children.0) (resolved_words M n (raw_of y.tree) here_fits)

    pub got_next : y.next ≡ next_of (read_at b (mode_in t) n at)
    got_next = sym (ap next_of here_got)

    pub got_words : (l l' ws : List ℕ) (p : ℕ) → p ≡ n → ws ≡ tree_words (mode_in t) n (raw_of y.tree) → l' ≡ put l (tree_size * p) ws
        → l' ≡ put l (tree_size * n) (words_read (read_at b (mode_in t) n at))
    got_words l l' ws p f g h = h ∙ ap (λ (i : ℕ). put l (tree_size * i) ws) f ∙ ap (put l (tree_size * n)) (g ∙ sym (ap words_read here_got))

pub ruleset tree_cases = (bad_next, bad_words, here_fits, here_row, got_next, got_words)

-- ---- unpack_in

module _ (b : List ℕ) (k : ℕ) (M : Mode) where
  abbrev R : Reader (List ℕ)
  R = reader_in b k M

  abbrev tree : ℕ → List ℕ
  tree = (listing word_shape R).tree

  -- the trees of a buffer that the check has passed have all their words
  words_long : check word_shape R ≡ passed → (m : ℕ) → m ≤ k → length (words_up_to tree m) ≡ tree_size * m
  unfolding reader_in
  words_long ok m f = words_length tree m (λ n h. mode_whole M b k ok n (omega arith))

  -- the words of the trees before tree n are stored, and tree n stands at this place; l₀ has become l
  pub record Unpacked (l₀ : List ℕ) (n at : ℕ) (l : List ℕ) : Type 0 where
    pub place : at ≡ place_of word_shape R n
    pub words : l ≡ put l₀ 0 (words_up_to tree n)
    pub same : length l ≡ length l₀
    pub inside : n ≤ k

  pub unpacked_none : (l₀ : List ℕ) → Unpacked l₀ 0 0 l₀
  unfolding place_of words_up_to
  unpacked_none l₀ = record { place = refl; words = sym (put_none l₀ 0); same = refl; inside = omega arith }

  read_words : (q : Reply (List ℕ)) → words_read q ≡ tree_of word_shape R q
  read_words (got w next kids) = refl
  read_words (bad r) = refl

  module _ (l₀ : List ℕ) (n at : ℕ) (l : List ℕ) (u : Unpacked l₀ n at l) where
    pub unpacked_all : k ≤ n → l ≡ put l₀ 0 (list_in b k M)
    unfolding list_in
    unpacked_all h = let i = u.inside in let e : n ≡ k = omega arith in u.words ∙ ap (λ (x : ℕ). put l₀ 0 (words_up_to tree x)) e

    module _ (room : tree_size * k ≤ length l₀) (h : n < k) where
      pub unpacked_room : tree_size * n + tree_size ≤ length l
      unpacked_room = let e = u.same in omega arith

      module _ (ok : check word_shape R ≡ passed) where
        read_here : read_at b M n at ≡ reading word_shape R n
        unfolding read_at reader_in
        read_here = ap (read_at b M n) u.place

        words_here : words_read (read_at b M n at) ≡ tree n
        words_here = ap words_read read_here ∙ read_words (reading word_shape R n)

        words_more : words_up_to tree n ++ tree n ≡ words_up_to tree (n + 1)
        unfolding words_up_to
        words_more = rw add-one

        pub unpacked_next : (at' : ℕ) (l' : List ℕ) → at' ≡ next_of (read_at b M n at) → l' ≡ put l (tree_size * n) (words_read (read_at b M n at)) → length l' ≡ length l
            → Unpacked l₀ (n + 1) at' l'
        unpacked_next at' l' f g s =
            let i = words_long ok n (omega arith) in
            let j = words_long ok (n + 1) (omega arith) in
            let m = length-append (words_up_to tree n) (tree n) in
            let o = ap length words_more in
            let z = ap (λ (x : ℕ). put (put l₀ 0 (words_up_to tree n)) x (tree n)) (sym (zero-add (tree_size * n))) in
            let p = z ∙ put_put l₀ 0 (tree_size * n) (words_up_to tree n) (tree n) i (omega arith) in
            record {
              place = f ∙ ap next_of read_here ∙ sym (next_place word_shape R n);
              words = g ∙ ap (put l (tree_size * n)) words_here ∙ ap (λ (z : List ℕ). put z (tree_size * n) (tree n)) u.words ∙ p ∙ ap (put l₀ 0) words_more;
              same = s ∙ u.same;
              inside = omega arith;
            }

pub ruleset unpacked_cases = (unpacked_none, unpacked_all, unpacked_room, unpacked_next)

-- ---- unpack

module _ (b : List ℕ) (k : ℕ) (parts symbols : List ℕ) (ok : buffer_check b k parts symbols ≡ passed) where
  pub own_sized : (own_mode parts symbols).sized ≡ true
  unfolding own_reader
  own_sized = and_right (leb 1 k && leb k 1048576) (own_mode parts symbols).sized (own_sound b k parts symbols ok).sized

  module _ (t : Tables) (d : mode_in t ≡ own_mode parts symbols) where
    pub own_checked : check word_shape (reader_in b k (mode_in t)) ≡ passed
    unfolding own_reader reader_in
    own_checked = ap (λ (M : Mode). check word_shape (reader_in b k M)) d ∙ ok

    pub own_list : (l l' : List ℕ) → l' ≡ put l 0 (list_in b k (mode_in t)) → l' ≡ put l 0 (list_of b k parts symbols)
    unfolding own_reader reader_in list_in list_of
    own_list l l' e = e ∙ ap (λ (M : Mode). put l 0 (list_in b k M)) d

pub ruleset unpack_cases = (own_sized, own_checked, own_list)
