-- A lent buffer with its tables and stated tree count: one tree read and judged, and the reader that the check, the walk and the cursor are defined over.
use Rattle.std.specs.Prelude.{ℕ, ◌+◌, Bool, true, not, ◌&&◌, List, [], length, get_or, leb, eqb, if◌then◌else◌}
use Rattle.format.specs.Verdict.{Verdict}
use Rattle.format.specs.Reader.{Shape, Reader, Reply, got, bad}
use Rattle.format.specs.Tree.{Raw, punct, is_subtree, count_of, tree_at}
use Rattle.format.specs.Fields.{fields}
use Rattle.format.specs.Tables.{TableRules, Tables, rules, count_rules, own_tables}
use Rattle.format.specs.Check.{check}

-- "The root is 33 bytes: 101, both spans heavy": 33 bytes are that form and no other (`root_form`, `form_root` in proofs/RootForm). "A root not in the form below is 2 at tree 0."
abbrev pub formed : ℕ → ℕ → ℕ → Bool
formed n p next = if eqb n 0 then eqb next (p + 33) else true

module _ {A : Type 0} where
  -- the tree, unless a row of this number refuses it
  abbrev pub unless : ℕ → Reply A → Reply A
  unless r a = if eqb r 0 then a else bad r

  -- "tree by tree 7, 2, 8": tree n at place p, shown as an A. 7, the early 2 and that of distance bits come from reading its bytes
  unfoldable pub judge : (ℕ → Raw → A) → TableRules → ℕ → ℕ → Reply Raw → Reply A
  judge show T n p (got t next kids) =
      if not (formed n p next) then bad 2 else
      (if not (fields t) then bad 2 else
      unless (T.judged n t) (got (show n t) next kids))
  judge show T n p (bad r) = bad r

  -- "Trees: 1 to 1,048,576."
  abbrev pub reader_as : (ℕ → Raw → A) → List ℕ → ℕ → TableRules → Reader A
  reader_as show b k T =
      record {
        sized = leb 1 k && leb k 1048576 && T.sized;
        trees = k;
        bytes = length b;
        read = λ n p. judge show T n p (tree_at b p);
      }

-- ---- trees by their list words: "A tree handed back is compared by its list words."

abbrev pub word_shape : Shape (List ℕ)
word_shape = record { is_sub = λ w. eqb (get_or w 0 0) 3; count = λ w. get_or w 1 0; blank = [] }

abbrev pub reader : List ℕ → ℕ → Tables → Reader (List ℕ)
reader b k T = reader_as T.words b k (rules T)

-- ---- trees with their indices, no table entry looked up

abbrev pub raw_shape : Shape Raw
raw_shape = record { is_sub = is_subtree; count = count_of; blank = punct (record { index = 0; start = 0; len = 0 }) 0 0 }

abbrev pub raw_reader : List ℕ → ℕ → TableRules → Reader Raw
raw_reader b k T = reader_as (λ n t. t) b k T

-- ---- document 01's table mode: a part table whose last two are the root's, and a symbol table

unfoldable pub own_reader : List ℕ → ℕ → List ℕ → List ℕ → Reader (List ℕ)
own_reader b k parts symbols = reader b k (own_tables parts symbols)

-- the check of a stored buffer: passed, or number and tree number
abbrev pub buffer_check : List ℕ → ℕ → List ℕ → List ℕ → Verdict
buffer_check b k parts symbols = check word_shape (own_reader b k parts symbols)

-- the same buffer where only the number of parts and of symbols is known
unfoldable pub size_reader : List ℕ → ℕ → ℕ → ℕ → Reader Raw
size_reader b k parts symbols = raw_reader b k (count_rules parts symbols)
