-- `set_token` (document 02, ticket 1): the list of an admitted buffer with one leaf exchanged, written over tables made afresh.
use Rattle.std.specs.Prelude.{ℕ, ◌*◌, ◌<◌, Bool, not, ◌&&◌, ◌≡◌, List, length, ltb, leb}
use Rattle.format.specs.Verdict.{Verdict, passed, refused, ◌and_then◌, contents, rule}
use Rattle.format.specs.Word.{put}
use Rattle.format.specs.Width.{tree_size}
use Rattle.format.specs.Reader.{Reader}
use Rattle.format.specs.Plain.{sub}
use Rattle.format.specs.Check.{Admitted, listing}
use Rattle.format.specs.Buffer.{word_shape, own_reader, buffer_check}
use Rattle.format.specs.MakeTables.{part_table, symbol_table, part_total}
use Rattle.format.specs.Writer.{packed}
use Rattle.format.specs.Builder.{leaf_words, leaf_fits}
use Rattle.format.specs.Unpack.{list_of, work_fits}

-- "the written form of that list .. over tables made afresh by document 01's order"
abbrev pub fresh_bytes : List ℕ → List ℕ
fresh_bytes l = packed (part_table l) (symbol_table l) l

-- "new buffer and new tables out, in lent runs of their own": whether these hold them
abbrev pub out_fits : List ℕ → List ℕ → List ℕ → List ℕ → Bool
out_fits l out out_parts out_symbols =
    leb (length (fresh_bytes l)) (length out) && leb (length (part_table l)) (length out_parts)
    && leb (length (symbol_table l)) (length out_symbols)

-- what is reported: the byte length, how many parts, the root's two among them, and how many symbols; or the refusal
pub data ReplaceReport : Type 0 where
  replaced : ℕ → ℕ → ℕ → ReplaceReport
  refusal : ℕ → ℕ → ReplaceReport

abbrev pub report_of : List ℕ → Verdict → ReplaceReport
report_of l passed = replaced (length (fresh_bytes l)) (part_total l) (length (symbol_table l))
report_of l (refused r m) = refusal r m

module _ (b : List ℕ) (k : ℕ) (parts symbols : List ℕ) where
  -- not "a tree number at or past the tree count or of a subtree"
  unfoldable pub is_leaf : ℕ → Bool
  is_leaf n = ltb n k && not (sub word_shape (listing word_shape (own_reader b k parts symbols)) n)

  -- a tree number, and the words of the new leaf
  module _ (n : ℕ) (w : List ℕ) where
    -- "that list with one leaf exchanged"
    unfoldable pub exchanged : List ℕ
    exchanged = put (list_of b k parts symbols) (tree_size * n) (leaf_words w)

    -- "Checks: the buffer's own check first, then 10 .., 2 for a bad leaf, both at that number"
    unfoldable pub replace_verdict : Verdict
    replace_verdict = buffer_check b k parts symbols and_then rule (is_leaf n) 10 n and_then rule (leaf_fits w) 2 n

    -- "then 6": first the work words, by how many there are in each run
    module _ (a c d : ℕ) where
      unfoldable pub replace_work : Verdict
      replace_work = replace_verdict and_then rule (work_fits k a c d) 6 0

      -- "an output run too short"
      module _ (out out_parts out_symbols : List ℕ) where
        unfoldable pub replace_out : Verdict
        replace_out = replace_work and_then rule (out_fits exchanged out out_parts out_symbols) 6 0

        abbrev pub replace_report : ReplaceReport
        replace_report = report_of exchanged replace_out

        -- what the outputs hold then
        abbrev pub bytes_out : List ℕ
        bytes_out = contents replace_out out (put out 0 (fresh_bytes exchanged))

        abbrev pub parts_out : List ℕ
        parts_out = contents replace_out out_parts (put out_parts 0 (part_table exchanged))

        abbrev pub symbols_out : List ℕ
        symbols_out = contents replace_out out_symbols (put out_symbols 0 (symbol_table exchanged))

-- what it is for: the new buffer over the new tables is admitted, with as many trees; tree n is the new leaf, and every other one, the root among them, what it was
pub record LeafOnly (old new : Reader (List ℕ)) (n : ℕ) (w : List ℕ) : Type 0 where
  pub admitted : Admitted word_shape new
  pub trees : new.trees ≡ old.trees
  pub there : (listing word_shape new).tree n ≡ w
  pub others : (m : ℕ) → m < old.trees → (m ≡ n → ⊥) → (listing word_shape new).tree m ≡ (listing word_shape old).tree m
