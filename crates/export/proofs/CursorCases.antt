-- One law for each return of a cursor's functions.
use Prim.Native.Nat.{ℕ, zero, suc, ◌*◌, ◌<◌, ◌≤◌}
use mathlib.Core.Bool.{true, false}
use mathlib.Core.Path.{◌≡◌, refl, sym, ap, ◌∙◌, subst}
use mathlib.Core.List.{List, [], ◌∷◌, ◌++◌}
use native.Mathlib.Omega.{arith}
use borrow.Author.Tests.{lt-ltb, le-ltb}
use lib.ListN.{length, get_or}
use Rattle.std.specs.Prelude.{Option, Some, None, Result, Ok, Err}
use Rattle.format.specs.Word.{put}
use Rattle.format.specs.Reader as format
use Rattle.format.specs.Reader.{Reader}
use Rattle.format.specs.Cursor as calls
use Rattle.format.specs.Cursor.{CursorCall, bump, end, bump_or_end, token_tree, peek_two_leaves, cursor_step}
use Rattle.format.specs.Buffer.{word_shape, own_reader}
use Rattle.tree.specs.Types.{tree_words_of}
use Rattle.tree.specs.declared.refusal.Refusal.{Refusal}
use Rattle.tree.specs.Loose.{loose_of}
use Rattle.tree.specs.declared.loose.ReportedTree.{ReportedTree}
use Rattle.walk.specs.Source.{answer_report}
use Rattle.cursor.specs.Open.{opened, cursor_of}
use Rattle.cursor.specs.Plan.{answer_of}
use Rattle.cursor.specs.Moves.{state_of, written, Moves}
use Rattle.cursor.specs.Look.{ahead_of, both_of, peek_of, Tells, Peeks}
use Rattle.cursor.specs.declared.state.At.{At}
use Rattle.cursor.specs.declared.plan.Reply.{Reply}
use Rattle.cursor.specs.declared.plan.Reply.TheVariants as kinds
use Rattle.cursor.specs.declared.look.Ahead.{Ahead}
use Rattle.cursor.proofs.OpenReturns.{opened_length}
use Rattle.cursor.proofs.MovesReturns.{written_none}
use Rattle.cursor.proofs.CursorRule.{looking}
use Rattle.export.specs.Replies.{refused_code}
use Rattle.export.specs.Steps.{reported_size, report_list, answer_list, Replied}
use Rattle.export.specs.Cursors.{call_of, at_list, ahead_list, AnswerStored, BothStored, LeavesStored, said, called, Called, CursorReplied}

-- an inner part of an answer
pub reply_is : (x : Result Reply Refusal) (o v : Reply) → x ≡ Ok o → o ≡ v → x ≡ Ok v
reply_is x o v e d = e ∙ ap Ok d

pub ahead_is : (x : Result (Option (List Ahead)) Refusal) (o v : Option (List Ahead)) → x ≡ Ok o → o ≡ v → x ≡ Ok v
ahead_is x o v e d = e ∙ ap Ok d

-- ---- what is stored

module _ (a : Result Reply Refusal) (c : At) (next words : List ℕ) where
  pub answer_refused : (f : Refusal) (r : ℕ) → a ≡ Err f → r ≡ refused_code f → AnswerStored a c next words r next words
  unfolding answer_report answer_of
  answer_refused f r e q = record { replied = record { reply = simp e q; after = simp e; handed = simp e } }

  module _ (next' : List ℕ) (n : next' ≡ put next 0 (at_list c)) where
    pub answer_none : a ≡ Ok kinds.None → AnswerStored a c next words 0 next' words
    unfolding answer_report answer_of
    answer_none e = record { replied = record { reply = simp e; after = simp e n; handed = simp e } }

    pub answer_done : a ≡ Ok kinds.Done → AnswerStored a c next words 3 next' words
    unfolding answer_report answer_of
    answer_done e = record { replied = record { reply = simp e; after = simp e n; handed = simp e } }

    pub answer_tree : (t : ReportedTree) (ts words' : List ℕ) → a ≡ Ok (kinds.Tree t) → ts ≡ tree_words_of t.tree → words' ≡ put words 0 (report_list (ts, loose_of t.loose))
        → AnswerStored a c next words 1 next' words'
    unfolding answer_report answer_of
    answer_tree t ts words' e d q = record { replied = record { reply = simp e; after = simp e n; handed = simp e (q ∙ ap (λ (u : List ℕ). put words 0 (report_list (u, loose_of t.loose))) d) } }

module _ (l : Result (Option (List Ahead)) Refusal) (c : At) (next words : List ℕ) where
  pub leaves_refused : (f : Refusal) (r : ℕ) → l ≡ Err f → r ≡ refused_code f → LeavesStored l c next words r next words
  unfolding answer_report peek_of
  leaves_refused f r e q = record { replied = record { reply = simp e q; after = simp e; handed = simp e } }

  pub leaves_none : (next' : List ℕ) → next' ≡ put next 0 (at_list c) → l ≡ Ok None → LeavesStored l c next words 0 next' words
  unfolding answer_report peek_of
  leaves_none next' n e = record { replied = record { reply = simp e; after = simp e n; handed = simp e } }

  pub leaves_found : (ls : List Ahead) (r : ℕ) (next' words' : List ℕ) → l ≡ Ok (Some ls) → BothStored ls c next words r next' words'
      → LeavesStored l c next words r next' words'
  unfolding peek_of
  leaves_found ls r next' words' e q = let p = q.replied in record { replied = record { reply = simp e p.reply; after = simp e p.after; handed = simp e p.handed } }

both : (ls : List Ahead) (d₀ d₁ : Ahead) → length ls ≡ 2 → both_of ls ≡ format.two (ahead_of (get_or ls 0 d₀)) (ahead_of (get_or ls 1 d₁))
both [] d₀ d₁ h = absurd (omega arith)
both (a ∷ []) d₀ d₁ h = absurd (omega arith)
both (a ∷ b ∷ more) d₀ d₁ h = refl

module _ (ls : List Ahead) (h : length ls ≡ 2) (d₀ d₁ : Ahead) where
  two_words_lem : answer_list (answer_report (both_of ls)) ≡ format.two (ahead_list (get_or ls 0 d₀)) (ahead_list (get_or ls 1 d₁))
  unfolding answer_report
  two_words_lem = ap (λ a. answer_list (answer_report a)) (both ls d₀ d₁ h)

  pub leaves_both : (c : At) (next words next' words' : List ℕ) → next' ≡ put next 0 (at_list c) → words' ≡ put words 0 (ahead_list (get_or ls 0 d₀) ++ ahead_list (get_or ls 1 d₁))
      → BothStored ls c next words 2 next' words'
  leaves_both c next words next' words' n w =
      let e = two_words_lem in record { replied = record { reply = simp e; after = simp e n; handed = simp e w } }

-- ---- what a call says and leaves

module _ (b : List ℕ) (k : ℕ) (parts symbols : List ℕ) (c : At) (ns cs ps : List ℕ) where
  abbrev O : Reader (List ℕ)
  O = own_reader b k parts symbols

  abbrev C : calls.Cursor
  C = cursor_of c ns cs ps

  -- a call that leaves the cursor as it is
  stays : (call : CursorCall) (a : format.Answer (List ℕ)) → a ≡ said b k parts symbols call c ns cs ps → (cursor_step word_shape O call C).1 ≡ C
      → Called b k parts symbols call c ns cs ps a c ns cs ps
  stays call a e s =
      let z : length (opened ns cs ps c.depth) ≡ c.depth = opened_length ns cs ps c.depth in
      let l : length (opened ns cs ps c.depth) ≤ c.depth = omega (arith, z) in
      let t : c ≡ state_of C = rw z in
      record {
        answer = e;
        state = t ∙ ap state_of (sym s);
        numbers = written_none (λ o. o.number) ns c.depth C.opened l ∙ ap (λ (x : calls.Cursor). written (λ o. o.number) ns c.depth x.opened) (sym s);
        counts = written_none (λ o. o.count) cs c.depth C.opened l ∙ ap (λ (x : calls.Cursor). written (λ o. o.count) cs c.depth x.opened) (sym s);
        places = written_none (λ o. o.place) ps c.depth C.opened l ∙ ap (λ (x : calls.Cursor). written (λ o. o.place) ps c.depth x.opened) (sym s);
      }

  moves : (call : CursorCall) (a : Result Reply Refusal) (c' : At) (ns' cs' ps' : List ℕ) → Moves b k parts symbols call c ns cs ps a c' ns' cs' ps'
      → Called b k parts symbols call c ns cs ps (answer_list (answer_report (answer_of a))) c' ns' cs' ps'
  moves call a c' ns' cs' ps' m = record { answer = ap answer_list m.reports; state = m.state; numbers = m.numbers; counts = m.counts; places = m.places }

  module _ (n : ℕ) (a : Result Reply Refusal) (c' : At) (ns' cs' ps' : List ℕ) where
    pub call_bump : n ≡ 0 → Moves b k parts symbols bump c ns cs ps a c' ns' cs' ps' → Called b k parts symbols (call_of n) c ns cs ps (answer_list (answer_report (answer_of a))) c' ns' cs' ps'
    call_bump e m = rw e (moves bump a c' ns' cs' ps' m)

    pub call_end : n ≡ 1 → Moves b k parts symbols end c ns cs ps a c' ns' cs' ps' → Called b k parts symbols (call_of n) c ns cs ps (answer_list (answer_report (answer_of a))) c' ns' cs' ps'
    call_end e m = rw e (moves end a c' ns' cs' ps' m)

    pub call_bump_or_end : n ≡ 2 → Moves b k parts symbols bump_or_end c ns cs ps a c' ns' cs' ps' → Called b k parts symbols (call_of n) c ns cs ps (answer_list (answer_report (answer_of a))) c' ns' cs' ps'
    call_bump_or_end e m = rw e (moves bump_or_end a c' ns' cs' ps' m)

  pub call_token_tree : (n : ℕ) (a : Result Reply Refusal) → n ≤ 3 → (n ≡ 0 → ⊥) → (n ≡ 1 → ⊥) → (n ≡ 2 → ⊥) → Tells b k parts symbols c ns cs ps a
      → Called b k parts symbols (call_of n) c ns cs ps (answer_list (answer_report (answer_of a))) c ns cs ps
  call_token_tree n a h f g i t =
      let e : n ≡ 3 = omega arith in
      rw e (stays token_tree (answer_list (answer_report (answer_of a))) (ap answer_list t.reports) (looking b k parts symbols C).0)

  peeked : (n : ℕ) (l : Result (Option (List Ahead)) Refusal) → 4 ≤ n → Peeks b k parts symbols c ns cs ps l → Called b k parts symbols (call_of n) c ns cs ps (answer_list (answer_report (peek_of l))) c ns cs ps
  peeked zero l h p = absurd (omega arith)
  peeked (suc zero) l h p = absurd (omega arith)
  peeked (suc (suc zero)) l h p = absurd (omega arith)
  peeked (suc (suc (suc zero))) l h p = absurd (omega arith)
  peeked (suc (suc (suc (suc n)))) l h p = stays peek_two_leaves (answer_list (answer_report (peek_of l))) (ap answer_list p.reports) (looking b k parts symbols C).1

  -- ---- the reply

  module _ (n : ℕ) (next words : List ℕ) where
    pub cursor_few : length next < 3 → CursorReplied b k parts symbols (call_of n) c ns cs ps next words 9223372062624579584 next words ns cs ps
    cursor_few h =
        let t = lt-ltb (length next) 3 h in
        record { replied = record { reply = simp t; after = simp t; handed = simp t }; numbers = simp t; counts = simp t; places = simp t }

    module _ (h : 3 ≤ length next) where
      pub cursor_few_words : length words < 2 * reported_size → CursorReplied b k parts symbols (call_of n) c ns cs ps next words 9223372062624579584 next words ns cs ps
      cursor_few_words g =
          let t = le-ltb (length next) 3 h in
          let u = lt-ltb (length words) (2 * reported_size) g in
          record { replied = record { reply = simp (t, u); after = simp (t, u); handed = simp (t, u) }; numbers = simp (t, u); counts = simp (t, u); places = simp (t, u) }

      module _ (g : 2 * reported_size ≤ length words) (r : ℕ) (next' words' : List ℕ) where
        replies : (a : format.Answer (List ℕ)) (c' : At) (ns' cs' ps' : List ℕ) → Called b k parts symbols (call_of n) c ns cs ps a c' ns' cs' ps'
            → Replied a (at_list c') next words r next' words' → CursorReplied b k parts symbols (call_of n) c ns cs ps next words r next' words' ns' cs' ps'
        replies a c' ns' cs' ps' m p =
            let t = le-ltb (length next) 3 h in
            let u = le-ltb (length words) (2 * reported_size) g in
            let x = m.answer in
            let q : Replied a (at_list (state_of (called b k parts symbols (call_of n) c ns cs ps))) next words r next' words' =
            subst (λ (y : At). Replied a (at_list y) next words r next' words') m.state p in
            record {
              replied = record { reply = simp (t, u, ← x) q.reply; after = simp (t, u, ← x) q.after; handed = simp (t, u, ← x) q.handed };
              numbers = simp (t, u) m.numbers;
              counts = simp (t, u) m.counts;
              places = simp (t, u) m.places;
            }

        pub cursor_replied : (a : Result Reply Refusal) (c' : At) (ns' cs' ps' : List ℕ) → Called b k parts symbols (call_of n) c ns cs ps (answer_list (answer_report (answer_of a))) c' ns' cs' ps'
            → AnswerStored a c' next words r next' words' → CursorReplied b k parts symbols (call_of n) c ns cs ps next words r next' words' ns' cs' ps'
        cursor_replied a c' ns' cs' ps' m p = replies (answer_list (answer_report (answer_of a))) c' ns' cs' ps' m p.replied

        pub cursor_peeked : (l : Result (Option (List Ahead)) Refusal) → 4 ≤ n → Peeks b k parts symbols c ns cs ps l
            → LeavesStored l c next words r next' words' → CursorReplied b k parts symbols (call_of n) c ns cs ps next words r next' words' ns cs ps
        cursor_peeked l i m p = replies (answer_list (answer_report (peek_of l))) c ns cs ps (peeked n l i m) p.replied

pub ruleset cursor_cases = (reply_is, ahead_is, answer_refused, answer_none, answer_done, answer_tree, leaves_refused, leaves_none, leaves_both, leaves_found, call_bump, call_end, call_bump_or_end, call_token_tree, cursor_few, cursor_few_words, cursor_replied, cursor_peeked)
