use mathlib.Core.Path.{refl, ◌∙◌}
use Rattle.pack.proofs.Store.{store_bytes, half_le}
use Rattle.pack.proofs.unchecked.put_half.Goals as goal

pub returns : goal.returns
returns c = store_bytes c.args.out.now c.args.at 2 _ _ (c.copy_from_slice.ensures.after ∙ c.to_le_bytes.ensures ∙ half_le c.args.w c.requires.1) refl
