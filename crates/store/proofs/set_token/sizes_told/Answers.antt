use borrow.Author.Rules.{rules}
use Rattle.std.proofs.lemmas.Result.{MatchResult-weaker}
use Rattle.store.specs.Told.{sizes_list}
use Rattle.store.proofs.Mapped.{told_mapped, ok_is}
use Rattle.store.proofs.set_token.sizes_told.Goals as goal

pub returns : goal.returns
returns c = told_mapped sizes_list 2 c.args.report c.map-sizes.result (MatchResult-weaker c.args.report c.map-sizes.ensures.cases (λ x h. ok_is _ _ _ (λ y p. search rules) h) (λ y h. h)) _ _ c.tell.ensures
