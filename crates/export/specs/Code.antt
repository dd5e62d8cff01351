-- Replies in one number, and what reading leaves in lent words.
use Rattle.std.specs.Prelude.{ℕ, ◌+◌, ◌≡◌, Bool, List, [], ◌∷◌, ◌++◌, ltb, length, if◌then◌else◌, Option, Some, None, Result}
use Rattle.format.specs.Width.{tree_size}
use Rattle.format.specs.Word.{put}
use Rattle.format.specs.Span.{Span, span_at, symbol_at}
use Rattle.format.specs.Pack.{span_report, span_packed, symbol_report, symbol_packed}
use Rattle.format.specs.Verdict.{report}
use Rattle.format.specs.Verdict as verdict
use Rattle.format.specs.Tree.{Raw, subtree}
use Rattle.format.specs.WordList.{word_of, raw_from, word_fields}
use Rattle.format.specs.Write.{tree_bytes}
use Rattle.pack.specs.Answer.{packed_answer, decoded_answer, symbol_answer, span_number, symbol_number}
use Rattle.pack.specs.declared.span.DecodedSpan.{DecodedSpan}
use Rattle.pack.specs.declared.symbol.SymbolAt.{SymbolAt}
use Rattle.format.specs.Reader.{Reply, got, bad}
use Rattle.format.specs.Loose.{Loose, bit, loose_at, beside}
use Rattle.tree.specs.Types.{tree_words_of}
use Rattle.tree.specs.declared.types.TokenTree.{TokenTree}
use Rattle.decode.specs.Decode.{decoded}
use Rattle.encode.specs.Encode.{pack_tree}
use Rattle.export.specs.Replies.{refusal_code, reply_of}
use Rattle.export.specs.Steps.{loose_size, loose_words}

abbrev pub code_of : Result ℕ ℕ → ℕ
code_of p = reply_of (λ n. n) refusal_code p

pub record SpanStored (b : List ℕ) (at : ℕ) (heavy : Bool) (extra : ℕ) (s : Span) (r : ℕ) (b' : List ℕ) : Type 0 where
  pub reply : r ≡ code_of (packed_answer (span_report b at heavy extra s))
  pub contents : b' ≡ span_packed b at heavy extra s

pub record SymbolStored (b : List ℕ) (at tag i : ℕ) (r : ℕ) (b' : List ℕ) : Type 0 where
  pub reply : r ≡ code_of (packed_answer (symbol_report b at tag i))
  pub contents : b' ≡ symbol_packed b at tag i

-- what is read, as words
abbrev pub span_words : DecodedSpan → List ℕ
span_words y = y.span.index ∷ y.span.start ∷ y.span.len ∷ y.extra ∷ bit y.loose ∷ []

abbrev pub symbol_words : SymbolAt → List ℕ
symbol_words y = y.index ∷ y.tag ∷ []

abbrev pub span_code : Option DecodedSpan → ℕ
span_code (Some y) = y.next
span_code None = refusal_code (span_number None)

abbrev pub span_left : List ℕ → Option DecodedSpan → List ℕ
span_left w (Some y) = put w 0 (span_words y)
span_left w None = w

abbrev pub symbol_code : Option SymbolAt → ℕ
symbol_code (Some y) = y.next
symbol_code None = refusal_code (symbol_number None)

abbrev pub symbol_left : List ℕ → Option SymbolAt → List ℕ
symbol_left w (Some y) = put w 0 (symbol_words y)
symbol_left w None = w

-- too few words are 6
pub record SpanFound (b : List ℕ) (at : ℕ) (w : List ℕ) (r : ℕ) (w' : List ℕ) : Type 0 where
  pub reply : r ≡ (if ltb (length w) 5 then refusal_code 6 else span_code (decoded_answer at (span_at b at)))
  pub contents : w' ≡ (if ltb (length w) 5 then w else span_left w (decoded_answer at (span_at b at)))

pub record SymbolFound (b : List ℕ) (at : ℕ) (w : List ℕ) (r : ℕ) (w' : List ℕ) : Type 0 where
  pub reply : r ≡ (if ltb (length w) 2 then refusal_code 6 else symbol_code (symbol_answer (symbol_at b at)))
  pub contents : w' ≡ (if ltb (length w) 2 then w else symbol_left w (symbol_answer (symbol_at b at)))

-- ---- trees

-- tree m, packed: the reply and the contents
abbrev pub tree_reply : List ℕ → ℕ → ℕ → Raw → ℕ → ℕ
tree_reply b at m t kids = code_of (packed_answer (report (pack_tree b at m t kids) (length (tree_bytes m t kids))))

abbrev pub tree_left : List ℕ → ℕ → ℕ → Raw → ℕ → List ℕ
tree_left b at m t kids = verdict.contents (pack_tree b at m t kids) b (put b at (tree_bytes m t kids))

-- the tree of these list words: 2 if a word is out of range, then as the tree is packed
pub record TreeStored (b : List ℕ) (at : ℕ) (w : List ℕ) (o c y kids : ℕ) (r : ℕ) (b' : List ℕ) : Type 0 where
  pub reply : r ≡ (if word_fields (word_of w 0) then tree_reply b at 1 (raw_from o c y (word_of w 0)) kids else refusal_code 2)
  pub contents : b' ≡ (if word_fields (word_of w 0) then tree_left b at 1 (raw_from o c y (word_of w 0)) kids else b)

pub record RootStored (b : List ℕ) (at : ℕ) (s t : Span) (n d kids : ℕ) (r : ℕ) (b' : List ℕ) : Type 0 where
  pub reply : r ≡ tree_reply b at 0 (subtree s t n d) kids
  pub contents : b' ≡ tree_left b at 0 (subtree s t n d) kids

-- tree n as it is read: its list words, the children bytes and the report
abbrev pub found_size : ℕ
found_size = tree_size + 1 + loose_size

abbrev pub tree_code : Reply (TokenTree × Loose) → ℕ
tree_code (got t next kids) = next
tree_code (bad k) = refusal_code k

abbrev pub found_words : List ℕ → Reply (TokenTree × Loose) → List ℕ
found_words w (got t next kids) = put w 0 (tree_words_of t.0 ++ kids ∷ loose_words t.1)
found_words w (bad k) = w

pub record TreeFound (b parts symbols : List ℕ) (n at : ℕ) (w : List ℕ) (r : ℕ) (w' : List ℕ) : Type 0 where
  pub reply : r ≡ (if ltb (length w) found_size then refusal_code 6 else tree_code (beside (loose_at b at) (decoded b parts symbols n at)))
  pub contents : w' ≡ (if ltb (length w) found_size then w else found_words w (beside (loose_at b at) (decoded b parts symbols n at)))
