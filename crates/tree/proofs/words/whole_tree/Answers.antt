-- The number of a kind that row 2 has passed: no conversion refuses it.
use Rattle.std.proofs.Common.{◌≡◌, ◌≤◌, ◌∙◌, ℕ, sym, arith}
use borrow.Author.Tests.{leb-true}
use Rattle.format.specs.WordList.{word_of}
use Rattle.tree.specs.Words.{tree_from}
use Rattle.tree.proofs.WordsFit.{three, spacing_fit, is_raw_fit, lit_kind_fit, delimiter_fit}
use Rattle.tree.proofs.words.whole_tree.Goals as goal

pub returns-in_err-try_from-in-0 : goal.returns-in_err-try_from-in-0
returns-in_err-try_from-in-0 c =
    let w : ℕ → ℕ = word_of c.args.l.now c.args.n in
    let e : w 0 ≡ 0 = sym c.sort_at.ensures ∙ c.in-0.is in
    cc (c.in_err-try_from-in-0.ensures, spacing_fit w c.requires.1 e)

pub returns-in_ok-try_from-in-0 : goal.returns-in_ok-try_from-in-0
unfolding tree_from
returns-in_ok-try_from-in-0 c =
    let w : ℕ → ℕ = word_of c.args.l.now c.args.n in
    let e : w 0 ≡ 0 = sym c.sort_at.ensures ∙ c.in-0.is in
    simp e (cc (c.in_ok-try_from-in-0.ensures, spacing_fit w c.requires.1 e))

pub returns-in_err-try_from-in-1 : goal.returns-in_err-try_from-in-1
returns-in_err-try_from-in-1 c =
    let w : ℕ → ℕ = word_of c.args.l.now c.args.n in
    let e : w 0 ≡ 1 = sym c.sort_at.ensures ∙ c.in-1.is in
    cc (c.in_err-try_from-in-1.ensures, is_raw_fit w c.requires.1 e)

pub returns-in_ok-try_from-in-1 : goal.returns-in_ok-try_from-in-1
unfolding tree_from
returns-in_ok-try_from-in-1 c =
    let w : ℕ → ℕ = word_of c.args.l.now c.args.n in
    let e : w 0 ≡ 1 = sym c.sort_at.ensures ∙ c.in-1.is in
    simp e (cc (c.in_ok-try_from-in-1.ensures, is_raw_fit w c.requires.1 e))

pub returns-in_err-lit_kind_from-in-2 : goal.returns-in_err-lit_kind_from-in-2
returns-in_err-lit_kind_from-in-2 c =
    let w : ℕ → ℕ = word_of c.args.l.now c.args.n in
    let e : w 0 ≡ 2 = sym c.sort_at.ensures ∙ c.in-2.is in
    cc (c.in_err-lit_kind_from-in-2.ensures, lit_kind_fit w c.requires.1 e)

pub returns-in_ok-lit_kind_from-in-2 : goal.returns-in_ok-lit_kind_from-in-2
unfolding tree_from
returns-in_ok-lit_kind_from-in-2 c =
    let w : ℕ → ℕ = word_of c.args.l.now c.args.n in
    let e : w 0 ≡ 2 = sym c.sort_at.ensures ∙ c.in-2.is in
    simp e (cc (c.in_ok-lit_kind_from-in-2.ensures, lit_kind_fit w c.requires.1 e))

pub returns-in_err-try_from-in_default : goal.returns-in_err-try_from-in_default
returns-in_err-try_from-in_default c =
    let w : ℕ → ℕ = word_of c.args.l.now c.args.n in
    let l : w 0 ≤ 3 = leb-true (w 0) 3 (three w c.requires.1).0 in
    let e : w 0 ≡ 3 = omega arith in
    cc (c.in_err-try_from-in_default.ensures, delimiter_fit w c.requires.1 e)

pub returns-in_ok-try_from-in_default : goal.returns-in_ok-try_from-in_default
unfolding tree_from
returns-in_ok-try_from-in_default c =
    let w : ℕ → ℕ = word_of c.args.l.now c.args.n in
    let l : w 0 ≤ 3 = leb-true (w 0) 3 (three w c.requires.1).0 in
    let e : w 0 ≡ 3 = omega arith in
    simp e (cc (c.in_ok-try_from-in_default.ensures, delimiter_fit w c.requires.1 e))
