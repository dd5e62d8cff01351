-- DEMAND 3 from the answer of `check_buffer`: over what it passed, the functions of crates `walk` and `cursor` are the plain machine.
use Prim.Native.Nat.{ℕ}
use mathlib.Core.Path.{◌≡◌}
use mathlib.Core.List.{List, []}
use Rattle.std.specs.Prelude.{Result, Ok, ⊤}
use Rattle.format.specs.Buffer.{own_reader, buffer_check}
use Rattle.tree.specs.Refusal.{verdict_answer}
use Rattle.format.proofs.OwnReported.{reported_listing, reported_places}
use Rattle.checker.proofs.Admits.{passes}
use Rattle.walk.specs.Run.{Ran}
use Rattle.walk.proofs.WalkRule as walk
use Rattle.walk.proofs.WalkRule.{fresh_is, walk_rule, pass_rule, last_rule, last_report_rule}
use Rattle.walk.proofs.LastRule.{within_rule, within_report_rule}
use Rattle.cursor.proofs.CursorRule as cursor
use Rattle.cursor.proofs.CursorRule.{cursor_rule, fresh_rule, fresh_report_rule}
use Rattle.demands.specs.PlainMachine.{AsPlain, AsPlainReported}
use Rattle.tree.specs.declared.refusal.Refusal.{Refusal}

-- r is the answer of `check_buffer`
pub passed_plain : (b : List ℕ) (k : ℕ) (parts symbols : List ℕ) (r : Result ⊤ Refusal) → r ≡ verdict_answer (buffer_check b k parts symbols) → r ≡ Ok tt
    → AsPlain b k parts symbols
unfolding own_reader Ran
passed_plain b k parts symbols r says e =
    let ok = passes b k parts symbols r says e in
    record {
      walks = λ first f cs ss ran. walk_rule b k parts symbols ok first (fresh_is b k parts symbols first f) cs ss ran;
      passing = λ first f cs ss ran s singly. pass_rule b k parts symbols ok first (fresh_is b k parts symbols first f) cs ss ran s singly;
      last_spans = λ first f. last_rule b k parts symbols ok first (fresh_is b k parts symbols first f) [] [] tt;
      last_within = within_rule b k parts symbols ok;
      cursors = fresh_rule b k parts symbols ok;
      lent = cursor_rule b k parts symbols ok;
    }

-- with reports
pub passed_reported : (b : List ℕ) (k : ℕ) (parts symbols : List ℕ) (r : Result ⊤ Refusal) → r ≡ verdict_answer (buffer_check b k parts symbols) → r ≡ Ok tt
    → AsPlainReported b k parts symbols
unfolding own_reader Ran
passed_reported b k parts symbols r says e =
    let ok = passes b k parts symbols r says e in
    record {
      trees = reported_listing b k parts symbols ok;
      places = reported_places b k parts symbols ok;
      walks = λ first f cs ss ran. walk.report_rule b k parts symbols ok first (fresh_is b k parts symbols first f) cs ss ran;
      last_spans = λ first f. last_report_rule b k parts symbols ok first (fresh_is b k parts symbols first f) [] [] tt;
      last_within = within_report_rule b k parts symbols ok;
      cursors = fresh_report_rule b k parts symbols ok;
      lent = cursor.report_rule b k parts symbols ok;
    }
