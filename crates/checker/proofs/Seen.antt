-- What is seen of a tree says all that a descent asks of it.
use Prim.Native.Nat.{ℕ, ◌+◌}
use mathlib.Core.Bool.{true, false}
use mathlib.Core.Path.{◌≡◌, sym, ap, ◌∙◌}
use Rattle.format.specs.Verdict.{refused}
use Rattle.format.specs.Reader.{Shape, Reader}
use Rattle.format.specs.Plain.{sub}
use Rattle.format.specs.Check.{reading, listing, read_rule}
use Rattle.format.proofs.CheckLaw.{next_place}
use Rattle.format.proofs.Sight.{leaf, subtree, unread, sight, next_seen, kids_seen, count_seen, sub_seen, verdict_seen, see_next, see_sub, see_verdict, see_count, see_kids}
use Rattle.checker.specs.Descent.{LeafAt, SubtreeAt}

module _ {Tree : Type 0} (S : Shape Tree) (R : Reader Tree) (flat : S.is_sub S.blank ≡ false) (n : ℕ) where
  pub seen_unread : (r : ℕ) → sight S (reading S R n) ≡ unread r → read_rule S R n ≡ refused r n
  seen_unread r e = see_verdict S R flat n (reading S R n) ∙ ap (verdict_seen n) e

  pub seen_leaf : (next : ℕ) → sight S (reading S R n) ≡ leaf next → LeafAt S R n next
  seen_leaf next e =
      record {
        readable = see_verdict S R flat n (reading S R n) ∙ ap (verdict_seen n) e;
        flat = see_sub S R flat (reading S R n) ∙ ap sub_seen e;
        place = sym (next_place S R n ∙ see_next S R flat (reading S R n) ∙ ap next_seen e);
      }

  pub seen_subtree : (count kids next : ℕ) → sight S (reading S R n) ≡ subtree count kids next → SubtreeAt S R n count kids next
  seen_subtree count kids next e =
      let s : sub S (listing S R) n ≡ true = see_sub S R flat (reading S R n) ∙ ap sub_seen e in
      record {
        readable = see_verdict S R flat n (reading S R n) ∙ ap (verdict_seen n) e;
        holds = s;
        ends = ap (λ c. n + 1 + c) (see_count S R flat (reading S R n) s ∙ ap count_seen e);
        bytes = see_kids S R flat (reading S R n) s ∙ ap kids_seen e;
        place = sym (next_place S R n ∙ see_next S R flat (reading S R n) ∙ ap next_seen e);
      }
