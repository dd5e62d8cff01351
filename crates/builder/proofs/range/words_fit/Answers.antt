use borrow.Author.Rules.{rules}
use Rattle.builder.proofs.Pushed.{words_fit_cases}
use Rattle.builder.proofs.range.words_fit.Goals as goal

pub tree_from_words-requires : goal.tree_from_words-requires
tree_from_words-requires c = search (rules, words_fit_cases)

pub enum_told-1 : goal.enum_told-1
enum_told-1 c = search (rules, words_fit_cases)

pub enum_known-tree : goal.enum_known-tree
enum_known-tree c = search (rules, words_fit_cases)

pub enum_told-in-Leaf : goal.enum_told-in-Leaf
enum_told-in-Leaf c = search (rules, words_fit_cases)

pub enum_told-in-Subtree : goal.enum_told-in-Subtree
enum_told-in-Subtree c = search (rules, words_fit_cases)

pub returns-in-Err : goal.returns-in-Err
returns-in-Err c = search (rules, words_fit_cases)

pub returns-in-Leaf : goal.returns-in-Leaf
returns-in-Leaf c = search (rules, words_fit_cases)

pub returns-in-Subtree : goal.returns-in-Subtree
returns-in-Subtree c = search (rules, words_fit_cases)
