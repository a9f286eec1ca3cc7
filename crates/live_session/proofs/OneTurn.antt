-- A history of a session at a command: the command's own entries, each with the book before it, and what is behind them.
use Rattle.std.proofs.Common.{◌≡◌, ◌∙◌, ℕ, ◌+◌, Bool, true, false, cond, List, [], ◌∷◌, ◌++◌, length, take, drop, refl, sym, ap, ap₂, subst}
use Rattle.std.proofs.Common.{arith}
use Rattle.std.specs.Prelude.{◌==◌, Option, Result, Ok, Err}
use Rattle.std.proofs.Math.Seq.{drop-append_seam, take-append_seam}
use Rattle.ls_text.specs.Readings.{TextFault}
use Rattle.book_history.specs.Book.{Opens, Reloads, Settings as BookSettings, apply}
use Rattle.book_history.specs.Book.{replay_from}
use Rattle.book_history.specs.Legal.{LegalFrom}
use Rattle.book_history.specs.Moments.{moments_from}
use Rattle.book_history.proofs.Places.{moments-append}
use Rattle.segment_verify.specs.Passes.{IsSettle}
use Rattle.command_read.specs.Asking.{Asked, Edits, Sets, Runs, Shows, Settles, AsksStatus, Quits}
use Rattle.cycle_eval.specs.declared.design.Design.{Design}
use Rattle.live_session.specs.Judging.{verdict_on, after}
use Rattle.live_session.specs.Logs.{LogEvent, LogMoment, Ops, kit, valid}
use Rattle.live_session.specs.Scripts.{AllAgree, IsAccepted, IsJudged, IsPart, IsScript, entry_worlds}
use Rattle.live_session.specs.Scripts.{judged_worlds}
use Rattle.live_session.specs.Settings.{Settings}
use Rattle.live_session.specs.Verdicts.{Told, chosen, passes_of}
use Rattle.live_session.specs.Worlds.{World, Refused}
use Rattle.live_session.proofs.OneBook.{SessionBook}
use Rattle.live_session.proofs.OneSettle.{passes_turned, passes_moments}

-- ---- lists

-- two cuts of one list at one place
module _ {A : Type 0} where
  same_front : (xs ys us vs : List A) → xs ++ ys ≡ us ++ vs → length xs ≡ length us → xs ≡ us
  same_front xs ys us vs same many =
      sym (take-append_seam xs ys) ∙ ap₂ take many same ∙ take-append_seam us vs

  same_end : (xs ys us vs : List A) → xs ++ ys ≡ us ++ vs → length xs ≡ length us → ys ≡ vs
  same_end xs ys us vs same many =
      sym (drop-append_seam xs ys) ∙ ap₂ drop many same ∙ drop-append_seam us vs

-- ---- the entries of a command, and what is behind them

-- as many moments as worlds
agree_many : (names : List (List ℕ)) (ws : List World) (ms : List LogMoment) → AllAgree names ws ms → length ws ≡ length ms
agree_many names [] [] agree = refl
agree_many names [] (m ∷ ms) agree = absurd agree
agree_many names (w ∷ ws) [] agree = absurd agree
agree_many names (w ∷ ws) (m ∷ ms) agree =
    let more : length ws ≡ length ms = agree_many names ws ms agree.1 in omega (arith, more)

module _ (st : Settings) (bs : BookSettings) where
  module _ (names : List (List ℕ)) (b : Option SessionBook) where
    -- a command has as many entries of its own as it has worlds
    settle_many : (n links : ℕ) (es : List LogEvent) → IsSettle n links es → 1 ≡ length (moments_from kit bs b es)
    settle_many n links es is =
        subst (λ (xs : List LogEvent). 1 ≡ length (moments_from kit bs b xs)) (sym is.split)
        (ap length (sym (passes_moments bs b is.answer (passes_turned is.are))))

    edit_many : (v w from : ℕ) (machine : Design) (ops : Ops) (t : Bool)
        → 1 ≡ length (moments_from kit bs b (cond t (Opens v machine) (Reloads w machine ops from) ∷ []))
    edit_many v w from machine ops true = refl
    edit_many v w from machine ops false = refl

    accepted_many : (asked : Asked) (old new : World) (es : List LogEvent) → IsAccepted names st old new es asked
        → length (entry_worlds old asked) ≡ length (moments_from kit bs b es)
    accepted_many (Edits block) old new es is =
        subst (λ (xs : List LogEvent). 1 ≡ length (moments_from kit bs b xs)) (sym is.4)
        (edit_many 1 (old.version + 1) (chosen st old) is.0 is.2 (old.version == 0))
    accepted_many (Sets line values) old new es is = subst (λ (xs : List LogEvent). 0 ≡ length (moments_from kit bs b xs)) (sym is) refl
    accepted_many (Runs line n) old new es is = subst (λ (xs : List LogEvent). 1 ≡ length (moments_from kit bs b xs)) (sym is.2) refl
    accepted_many (Shows line prefix) old new es is = subst (λ (xs : List LogEvent). 1 ≡ length (moments_from kit bs b xs)) (sym is.1) refl
    accepted_many (Settles line passes) old new es is = settle_many (passes_of old passes) (length old.grid) es is
    accepted_many (AsksStatus line) old new es is = subst (λ (xs : List LogEvent). 0 ≡ length (moments_from kit bs b xs)) (sym is) refl
    accepted_many (Quits line) old new es is = subst (λ (xs : List LogEvent). 0 ≡ length (moments_from kit bs b xs)) (sym is) refl

    judged_many : (asked : Result Asked TextFault) (old : World) (es : List LogEvent) (v : Result World Refused) → IsJudged names st asked old es v
        → length (judged_worlds old asked v) ≡ length (moments_from kit bs b es)
    judged_many (Ok asked) old es (Ok new) is = accepted_many asked old new es is
    judged_many (Err fault) old es (Ok new) is = subst (λ (xs : List LogEvent). 0 ≡ length (moments_from kit bs b xs)) (sym is) refl
    judged_many (Ok asked) old es (Err refused) is = subst (λ (xs : List LogEvent). 0 ≡ length (moments_from kit bs b xs)) (sym is) refl
    judged_many (Err fault) old es (Err refused) is = subst (λ (xs : List LogEvent). 0 ≡ length (moments_from kit bs b xs)) (sym is) refl

  -- what is legal in two parts
  legal_split : (b : Option SessionBook) (xs ys : List LogEvent) → LegalFrom kit valid bs b (xs ++ ys)
      → LegalFrom kit valid bs b xs × LegalFrom kit valid bs (replay_from kit bs b xs) ys
  legal_split b [] ys l = (tt, l)
  legal_split b (x ∷ xs) ys l =
      let rest = legal_split (apply kit bs b x) xs ys l.1 in ((l.0, rest.0), rest.1)

  -- one history at a command: the command's entries, and what is behind them
  pub record HasTurn (t : Told) (ts : List Told) (w : World) (b : Option SessionBook) (es : List LogEvent) : Type 0 where
    pub own : List LogEvent
    pub rest : List LogEvent
    pub split : es ≡ own ++ rest
    pub part : IsPart st t.asked w own (moments_from kit bs b own) (verdict_on st t w)
    pub legal : LegalFrom kit valid bs b own
    pub on : LegalFrom kit valid bs (replay_from kit bs b own) rest
    pub script : IsScript st ts (after st t w) rest (moments_from kit bs (replay_from kit bs b own) rest)
    pub moments : moments_from kit bs b es ≡ moments_from kit bs b own ++ moments_from kit bs (replay_from kit bs b own) rest

  pub has_turn : (t : Told) (ts : List Told) (w : World) (b : Option SessionBook) (es : List LogEvent) → LegalFrom kit valid bs b es
      → IsScript st (t ∷ ts) w es (moments_from kit bs b es) → HasTurn t ts w b es
  has_turn t ts w b es l s =
      let own : List LogEvent = s.0 in
      let rest : List LogEvent = s.1 in
      let here : List LogMoment = s.2 in
      let there : List LogMoment = s.3 in
      let part : IsPart st t.asked w own here (verdict_on st t w) = s.6 in
      let legal : LegalFrom kit valid bs b own × LegalFrom kit valid bs (replay_from kit bs b own) rest =
      legal_split b own rest (subst (LegalFrom kit valid bs b) s.4 l) in
      let cut : moments_from kit bs b es ≡ moments_from kit bs b own ++ moments_from kit bs (replay_from kit bs b own) rest =
      ap (moments_from kit bs b) s.4 ∙ moments-append kit bs b own rest in
      let same : here ++ there ≡ moments_from kit bs b own ++ moments_from kit bs (replay_from kit bs b own) rest = sym s.5 ∙ cut in
      let many : length here ≡ length (moments_from kit bs b own) =
      sym (agree_many part.names (judged_worlds w t.asked (verdict_on st t w)) here part.agree)
      ∙ judged_many part.names b t.asked w own (verdict_on st t w) part.is in
      record {
        own = own;
        rest = rest;
        split = s.4;
        part =
            subst (λ (ms : List LogMoment). IsPart st t.asked w own ms (verdict_on st t w))
            (same_front here there (moments_from kit bs b own) (moments_from kit bs (replay_from kit bs b own) rest) same many) part;
        legal = legal.0;
        on = legal.1;
        script =
            subst (IsScript st ts (after st t w) rest)
            (same_end here there (moments_from kit bs b own) (moments_from kit bs (replay_from kit bs b own) rest) same many) s.7;
        moments = cut;
      }
