-- The writer's reply and contents, for every input, and for lists that rows 1 to 4 pass.
use Rattle.std.specs.Prelude.{ℕ, ◌+◌, true, ◌≡◌, List, length, leb, Result}
use Rattle.format.specs.Verdict.{Verdict, passed, ◌and_then◌, rule, each, report}
use Rattle.format.specs.Verdict as verdict
use Rattle.format.specs.Word.{put}
use Rattle.format.specs.WordList.{list_rules, list_count}
use Rattle.format.specs.Builder.{holding_all}
use Rattle.format.specs.Writer.{present, writer_report, work_after, out_after, raws, row_five, packed_in}
use Rattle.format.specs.Write.{work_words}
use Rattle.format.specs.Tables.{Mode}
use Rattle.passes.specs.Passed.{Within}
use Rattle.tree.specs.Refusal.{report_answer}
use Rattle.tree.specs.declared.refusal.Refusal.{Refusal}

-- "Writer: 1 to 6 in turn": the bytes written or the refusal, and what the work words and the output hold afterwards
pub record Written (parts symbols l work out : List ℕ) (r : Result ℕ Refusal) (work' out' : List ℕ) : Type 0 where
  pub answer : r ≡ report_answer (writer_report parts symbols l work out)
  pub works : work' ≡ work_after parts symbols l work out
  pub outs : out' ≡ out_after parts symbols l work out

-- ---- over the tables of one mode, behind row 1

-- rows 2 to 5
unfoldable pub rows_in : Mode → List ℕ → Verdict
rows_in M l = list_rules l and_then each (row_five M l) (list_count l)

-- row 6, where v is the verdict of the rows before it: first for the work words, then for the output
abbrev pub work_row : Verdict → List ℕ → List ℕ → Verdict
work_row v l work = v and_then rule (leb (list_count l + 1) (length work)) 6 0

abbrev pub out_row : Verdict → Mode → List ℕ → List ℕ → List ℕ → Verdict
out_row v M l work out = work_row v l work and_then rule (leb (length (packed_in M l)) (length out)) 6 0

-- as `Written`, by that verdict
pub record WrittenBy (v : Verdict) (M : Mode) (l work out : List ℕ) (r : Result ℕ Refusal) (work' out' : List ℕ) : Type 0 where
  pub answer : r ≡ report_answer (report (out_row v M l work out) (length (packed_in M l)))
  pub works : work' ≡ verdict.contents (work_row v l work) work (put work 0 (work_words (raws M l (list_count l) 0)))
  pub outs : out' ≡ verdict.contents (out_row v M l work out) out (put out 0 (packed_in M l))

abbrev pub WrittenIn : Mode → (l work out : List ℕ) → Result ℕ Refusal → (work' out' : List ℕ) → Type 0
WrittenIn M l work out r work' out' = WrittenBy (rows_in M l) M l work out r work' out'

-- rows 1 to 4 are silent where the root is taken to hold all others, and row 5 at the root
pub record Ruled (M : Mode) (l : List ℕ) : Type 0 where
  pub within : Within M l
  pub rules : list_rules (holding_all l) ≡ passed
  pub root : present M l 0 ≡ true

-- row 6 for the output, where the work words are filled
pub record Finished (M : Mode) (l out : List ℕ) (r : Result ℕ Refusal) (out' : List ℕ) : Type 0 where
  pub answer : r ≡ report_answer (report (rule (leb (length (packed_in M l)) (length out)) 6 0) (length (packed_in M l)))
  pub contents : out' ≡ verdict.contents (rule (leb (length (packed_in M l)) (length out)) 6 0) out (put out 0 (packed_in M l))
