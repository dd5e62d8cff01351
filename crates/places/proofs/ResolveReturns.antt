-- One law for each return of the functions of src/resolve.rt.
use Prim.Native.Nat.{ℕ, ◌+◌, ◌-◌, ◌≤◌, ◌<◌}
use mathlib.Core.Bool.{Bool, true, ◌&&◌}
use mathlib.Core.Path.{◌≡◌, sym, ◌∙◌}
use mathlib.Core.List.{List}
use native.Mathlib.Omega.{arith}
use borrow.Author.Tests.{leb-true}
use lib.Dec.{leb}
use Rattle.std.specs.Prelude.{min}
use lib.ListN.{length, get_or}
use Rattle.format.specs.WordList.{list_count}
use Rattle.format.proofs.Each.{and_left, and_right}
use Rattle.places.specs.Key.{key_count}
use Rattle.places.specs.Index.{portion, Loaded, Ready}
use Rattle.places.specs.Places.{below_root, Resolved, Placed, Closed, Streamed, Roomy, Indexed, Whole}
use Rattle.places.specs.declared.key.Layout.{Layout}
use Rattle.places.specs.declared.key.Layout.TheVariants.{Parts, Symbols, Open, Name}
use Rattle.places.proofs.ClosesReturns.{opens_inside, closes_inside, names_inside}
use Rattle.places.proofs.TreeLaw.{tree_raw}

-- ---- what the slots hold

module _ (t : List ℕ) (w : Layout) (n : ℕ) (slots : List ℕ) where
  pub ready_large : (most : ℕ) → most ≡ portion (length slots) → most < n → Ready t w n slots
  ready_large most e h = record { held = λ k. absurd (omega arith) }

  pub ready_loaded : Loaded t w 0 n slots → Ready t w n slots
  ready_loaded L = record { held = λ k. L.held }

  pub none_before : n ≤ key_count t w → 0 + n ≤ key_count t w
  none_before h = omega arith

  pub ready_whole : Ready t w n slots → n ≤ portion (length slots) → n ≤ key_count t w → n ≤ 2097152 → 0 < length slots → length slots ≤ 1048576 → Loaded t w 0 n slots
  ready_whole R h a b c d = record { inside = none_before a; bound = b; some = c; most = d; held = R.held h }

pub portion_fits : (n most m : ℕ) → most ≡ portion m → n ≤ most → n ≤ m
portion_fits n most m e h = omega arith

pub ruleset build_one_cases = (ready_large, ready_loaded, none_before, portion_fits)

-- ---- sizes

pub symbols_inside : (symbols : List ℕ) → length symbols ≤ key_count symbols Symbols
unfolding key_count
symbols_inside symbols = omega arith

module _ (limit : ℕ) (parts symbols : List ℕ) where
  module _ (a b : ℕ) (R : Roomy limit (length parts) (length symbols) a b) where
    pub parts_inside : limit ≤ key_count parts Parts
    unfolding key_count
    parts_inside = let h = R.below in omega arith

    pub symbols_below : length symbols ≤ 2097152
    symbols_below = let h = R.of_symbols in omega arith

  pub indexed : (t s : List ℕ) (w v : Layout) (n m : ℕ) (ps ss : List ℕ) → t ≡ parts → w ≡ Parts → n ≡ limit → s ≡ symbols → v ≡ Symbols → m ≡ length symbols
      → Ready t w n ps → Ready s v m ss → Indexed limit parts symbols ps ss
  indexed t s w v n m ps ss et ew en es ev em P S = record { of_parts = rw (← et, ← ew, ← en) P; of_symbols = rw (← em, ← es, ← ev) S }

-- ---- both tables whole

pub indexed_whole : (limit : ℕ) (parts symbols ps ss : List ℕ) (b : Bool) → Roomy limit (length parts) (length symbols) (length ps) (length ss) → Indexed limit parts symbols ps ss
    → b ≡ (leb limit (portion (length ps)) && leb (length symbols) (portion (length ss))) → b ≡ true → Whole limit parts symbols ps ss
indexed_whole limit parts symbols ps ss b R I w h =
    let x = leb limit (portion (length ps)) in
    let y = leb (length symbols) (portion (length ss)) in
    let p : limit ≤ portion (length ps) = leb-true _ _ (and_left x y (sym w ∙ h)) in
    let s : length symbols ≤ portion (length ss) = leb-true _ _ (and_right x y (sym w ∙ h)) in
    let i = parts_inside limit parts symbols (length ps) (length ss) R in
    let n = symbols_below limit parts symbols (length ps) (length ss) R in
    record {
      of_parts = ready_whole parts Parts limit ps I.of_parts p i R.of_parts R.some_part R.most_part;
      of_symbols = ready_whole symbols Symbols (length symbols) ss I.of_symbols s (symbols_inside symbols) n R.some_symbol R.most_symbol;
    }

-- ---- tables that are read through

pub streamed : (limit : ℕ) (parts symbols l : List ℕ) (from m : ℕ) (opens closes syms : List ℕ) → Placed parts Parts limit l Open from m opens → Closed parts limit l from m closes
    → Placed symbols Symbols (length symbols) l Name from m syms → Streamed limit parts symbols l from m opens closes syms
streamed limit parts symbols l from m opens closes syms O C S = record { opening = O; closing = C; symbol = S }

pub ruleset stream_cases = (opens_inside, closes_inside, names_inside)

module _ (limit : ℕ) (parts symbols l : List ℕ) (from : ℕ) (opens closes syms : List ℕ) where
  pub stream_none : (m : ℕ) → list_count l ≤ from → Resolved (below_root limit parts symbols) l from m opens closes syms
  stream_none m h = record { at = λ j k q. absurd (omega arith) }

  pub stream_resolved : (m r : ℕ) → 1 ≤ from → from < list_count l → r ≡ min m (list_count l - from) → Streamed limit parts symbols l from r opens closes syms
      → Resolved (below_root limit parts symbols) l from m opens closes syms
  stream_resolved m r h k L S = record {
    at = λ j u q.
        let v : j < r = omega arith in
        tree_raw (below_root limit parts symbols) l (from + j) (get_or opens j 0) (get_or closes j 0) (get_or syms j 0) (omega arith)
        (S.opening.done j v)
        (λ w. S.closing.at j v w)
        (λ w. S.symbol.done j v);
  }

pub ruleset resolve_stream_cases = (stream_none, stream_resolved)
