-- Nothing shorter exists (document 02, ticket 7). The claim is specs/Shortest; why it holds: a span and a symbol take no more bytes for a lower index (Smallest); of the forms
-- that fit the first is never longer, and a form that fits still does if children take no more bytes (TreeSmallest); a first place is the least place, and children take no more (ListSmallest).
use Prim.Native.Nat.{ℕ, ◌≤◌}
use mathlib.Core.Path.{◌≡◌, sym, ap, ◌∙◌, subst}
use mathlib.Core.List.{List}
use native.Mathlib.Omega.{arith}
use lib.ListN.{length}
use Rattle.format.specs.Verdict.{passed}
use Rattle.format.specs.Tables.{own_mode}
use Rattle.format.specs.Buffer.{own_reader}
use Rattle.format.specs.WordList.{list_count}
use Rattle.format.specs.Writer.{list_verdict, packed}
use Rattle.format.specs.Unpack.{list_of}
use Rattle.format.specs.Shortest.{Stores, Shortest}
use Rattle.format.proofs.WriteSize.{packed_most}
use Rattle.format.proofs.WriterLaw.{packed_passes, packed_least, packed_is}
use Rattle.format.proofs.WriteBytes.{packed_bytes}
use Rattle.format.proofs.ListOf.{list_count_lem, admitted_lawful}
use Rattle.format.proofs.ListSmallest.{mode_shortest}

stores_written : (parts symbols l : List ℕ) → list_verdict parts symbols l ≡ passed → Stores (list_count l) parts symbols l (packed parts symbols l)
unfolding list_of
stores_written parts symbols l ok = record { bytes = packed_bytes parts symbols l ok; passes = packed_passes parts symbols l ok; reads = packed_is parts symbols l ok }

shorter_none : (k : ℕ) (parts symbols l b : List ℕ) → Stores k parts symbols l b → length (packed parts symbols l) ≤ length b
unfolding list_of own_reader
shorter_none k parts symbols l b s = subst (λ (x : List ℕ). length (packed parts symbols x) ≤ length b) s.reads (mode_shortest (own_mode parts symbols) b k s.bytes s.passes)

-- NOTHING SHORTER: of every list that the writer does not refuse …
pub written_shortest : (parts symbols l : List ℕ) → list_verdict parts symbols l ≡ passed → Shortest (list_count l) parts symbols l
written_shortest parts symbols l ok =
    let a = packed_least parts symbols l ok in
    let z = packed_most parts symbols l in
    record {
      lawful = ok;
      written = stores_written parts symbols l ok;
      none = shorter_none (list_count l) parts symbols l;
      least = omega arith;
      most = omega arith;
    }

-- … and so of every list that any buffer stores
pub nothing_shorter : (k : ℕ) (parts symbols l b : List ℕ) → Stores k parts symbols l b → Shortest k parts symbols l
nothing_shorter k parts symbols l b s =
    let c : list_count l ≡ k = ap list_count (sym s.reads) ∙ list_count_lem b k parts symbols s.passes in
    let v : list_verdict parts symbols l ≡ passed = subst (λ (x : List ℕ). list_verdict parts symbols x ≡ passed) s.reads (admitted_lawful b k parts symbols s.passes) in
    subst (λ (n : ℕ). Shortest n parts symbols l) c (written_shortest parts symbols l v)
