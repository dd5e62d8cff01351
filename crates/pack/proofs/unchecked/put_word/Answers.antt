use borrow.Author.Rules.{rules}
use mathlib.Core.Path.{refl, ◌∙◌}
use Rattle.pack.proofs.Store.{store_bytes, word_le}
use Rattle.pack.proofs.unchecked.put_word.Goals as goal

pub returns : goal.returns
returns c = store_bytes c.args.out.now c.args.at 4 _ _ (c.copy_from_slice.ensures.after ∙ c.to_le_bytes.ensures ∙ word_le c.args.w (search rules)) refl
