use Rattle.std.proofs.Common.{◌≡◌, ◌≤◌, ◌∙◌, ℕ, true, sym, arith}
use borrow.Author.Tests.{leb-true}
use Rattle.format.specs.Fields.{fields}
use Rattle.format.specs.WordList.{word_of, raw_from}
use Rattle.tree.proofs.RawAgain.{raw_again}
use Rattle.tree.proofs.WordsFit.{leaf_fields}
use Rattle.tree.proofs.words.word_fields.Goals as goal
use Rattle.tree.proofs.words.word_fields.Goals.{then-sort-le-SUBTREE, else-sort-le-SUBTREE}

pub returns-else-is_subtree : goal.returns-else-is_subtree
returns-else-is_subtree c =
    let w : ℕ → ℕ = word_of c.args.l.now c.args.n in
    elim c.if-sort-le-SUBTREE.branch [
      | then-sort-le-SUBTREE v ↦
          let h : w 0 ≤ 3 = omega arith in
          let f : fields (raw_from 0 0 0 w) ≡ true = cc (raw_again (raw_from 0 0 0 w)) in
          c.no_close.ensures ∙ leaf_fields w h (λ q. c.if-is_subtree.false (c.sort_at-sort.ensures ∙ q)) f
      | else-sort-le-SUBTREE v ↦ let h : c.sort_at-sort.result ≤ 3 = leb-true _ 3 (sym v.value-is ∙ c.if-tree_fits.true) in absurd (omega arith)
    ]
