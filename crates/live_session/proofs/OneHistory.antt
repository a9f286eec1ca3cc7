-- Commands have one output over all legal histories without workers that have their entries, and these are one but for what has numbers of names.
use Rattle.std.proofs.Common.{◌≡◌, ◌∙◌, ℕ, ◌+◌, ◌<◌, Bool, true, false, cond, List, [], ◌∷◌, ◌++◌, map, length, refl, sym, ap, ap₂, subst}
use Rattle.std.proofs.Common.{subst₂, arith}
use Rattle.std.proofs.lemmas.List.{map-append}
use Rattle.std.specs.Prelude.{◌==◌, ⊤, codes, replicate, Option, Some, None, Result, Ok, Err}
use Rattle.ls_text.specs.Readings.{TextFault}
use Rattle.ls_text.specs.Texts.{HasEachOnce}
use Rattle.book_history.specs.Book.{Event, Opens, Runs as RunsEvent, Reloads, Shows as ShowsEvent, Settings as BookSettings, apply, last_state}
use Rattle.book_history.specs.Book.{replay_from, shown}
use Rattle.book_history.specs.Legal.{Follows, LegalFrom}
use Rattle.book_history.specs.Moments.{moments_from}
use Rattle.book_history.specs.Outline.{outline_in}
use Rattle.book_history.specs.Owned.{AllOwned}
use Rattle.book_history.proofs.Places.{replay-append}
use Rattle.segment_verify.specs.Passes.{IsSettle}
use Rattle.command_read.specs.Asking.{Asked, Block, Edits, Sets, Runs, Shows, Settles, AsksStatus, Quits}
use Rattle.cycle_eval.specs.declared.design.Design.{Design}
use Rattle.reg_transform.specs.States.{state_values}
use Rattle.wave_report.specs.Replies.{run_text}
use Rattle.live_session.specs.Entries.{bare}
use Rattle.live_session.specs.Judging.{verdict_on, after}
use Rattle.live_session.specs.Logs.{InputRow, LogEvent, LogMoment, Ops, kit, valid}
use Rattle.live_session.specs.Replies.{accepted_text, answer_text, lines, refusal_text, text_then}
use Rattle.live_session.specs.Rows.{Row}
use Rattle.live_session.specs.Scripts.{Agrees, AllAgree, AreRows, IsAccepted, IsCurrent, IsDesign, IsEdit, IsJudged, IsPart, IsScript, entry_worlds}
use Rattle.live_session.specs.Scripts.{judged_worlds}
use Rattle.live_session.specs.Settings.{Settings}
use Rattle.live_session.specs.Shown.{display_text, last_values, settle_text}
use Rattle.live_session.specs.Spelled.{Spelled}
use Rattle.live_session.specs.Statuses.{status_lines}
use Rattle.live_session.specs.Verdicts.{Told, chosen, passes_of}
use Rattle.live_session.specs.Worlds.{World, Refused, cycle, fresh}
use Rattle.live_session.proofs.OneRun.{IsOneDesign, AreOneRows, no_rows, more_rows, one_design, one_rows, between_alike}
use Rattle.live_session.proofs.OneCarry.{AreOneOperations, one_operations}
use Rattle.live_session.proofs.OneBook.{SessionBook, IsOneBook, AreOneBooks, no_books, one_books, opens_alike, runs_alike, reloads_alike}
use Rattle.live_session.proofs.OneSettle.{Passes, no_more, one_first, RunAlike, IsOneSettle, IsLeft, passes_turned, passes_moments, settle_alike}
use Rattle.live_session.proofs.OneSettle.{settle_leaves}
use Rattle.live_session.proofs.OneTurn.{HasTurn, has_turn}

-- ---- entries without what has numbers of names

abbrev bare_of : List LogEvent → List (Event ⊤ ⊤ ⊤)
bare_of es = map bare es

-- of rows there is only how many they are
abbrev rows_only : List InputRow → List ⊤
rows_only rows = map (λ (x : InputRow). tt) rows

bare_rows : (names others : List (List ℕ)) {xs ys : List InputRow} → AreOneRows names others xs ys → rows_only xs ≡ rows_only ys
bare_rows names others no_rows = refl
bare_rows names others (more_rows h hs) = ap (λ (us : List ⊤). tt ∷ us) (bare_rows names others hs)

-- an open or a reload
bare_edit : (v w from : ℕ) (m n : Design) (ops done : Ops) (t : Bool)
    → bare_of (cond t (Opens v m) (Reloads w m ops from) ∷ []) ≡ bare_of (cond t (Opens v n) (Reloads w n done from) ∷ [])
bare_edit v w from m n ops done true = refl
bare_edit v w from m n ops done false = refl

-- two histories in two parts each
bare_parts : (es xs ys fs us vs : List LogEvent) → es ≡ xs ++ ys → fs ≡ us ++ vs → bare_of xs ≡ bare_of us → bare_of ys ≡ bare_of vs
    → bare_of es ≡ bare_of fs
bare_parts es xs ys fs us vs is also first rest =
    ap bare_of is ∙ map-append bare xs ys ∙ ap₂ ◌++◌ first rest ∙ sym (ap bare_of also ∙ map-append bare us vs)

module _ (st : Settings) (bs : BookSettings) where
  -- ---- what a moment's book and the world say

  -- the machine of an open book is the world's design
  current_design : (names : List (List ℕ)) (design : Option Spelled) (m : Design) → IsCurrent names design (Some m) → IsDesign names design m
  current_design names None m is = absurd is
  current_design names (Some d) m is = is

  -- the two histories' own entries at one command are one but for what has numbers of names, and lead to one text and to books that are one
  record IsOneStep (asked : Result Asked TextFault) (old : World) (v : Result World Refused) (b c : Option SessionBook)
      (own mine : List LogEvent) : Type 0 where
    text : List ℕ
    here : (ms : List LogMoment) → answer_text st asked old v (moments_from kit bs b own ++ ms) ≡ Some (text, ms)
    there : (ms : List LogMoment) → answer_text st asked old v (moments_from kit bs c mine ++ ms) ≡ Some (text, ms)
    behind : AreOneBooks (replay_from kit bs b own) (replay_from kit bs c mine)
    entries : bare_of own ≡ bare_of mine

  -- a command without entries
  none_alike : (asked : Result Asked TextFault) (old : World) (v : Result World Refused) (b c : Option SessionBook) (own mine : List LogEvent)
      (text : List ℕ) → ((ms : List LogMoment) → answer_text st asked old v ms ≡ Some (text, ms)) → AreOneBooks b c → own ≡ [] → mine ≡ []
      → IsOneStep asked old v b c own mine
  none_alike asked old v b c own mine text says one is also =
      subst₂ (IsOneStep asked old v b c) (sym is) (sym also) (record { text = text; here = says; there = says; behind = one; entries = refl })

  module _ (names others : List (List ℕ)) (once : HasEachOnce names) (apart : HasEachOnce others) where
    -- at the place of a command's own entry
    designs_alike : (w : World) (b c : SessionBook) → Agrees names w (outline_in (Some b)) → Agrees others w (outline_in (Some c))
        → IsOneDesign names others b.machine c.machine
    designs_alike w b c p q =
        one_design names others w.design b.machine c.machine (current_design names w.design b.machine p.machine)
        (current_design others w.design c.machine q.machine)

    rows_alike : (rows : List Row) (xs ys : List InputRow) → AreRows names rows xs → AreRows others rows ys → AreOneRows names others xs ys
    rows_alike rows xs ys p q = one_rows names others xs ys (p.are ∙ sym q.are) p.within q.within

    -- ---- edits

    -- the first edit opens both books, and a later one reloads both
    edit_alike : (old new : World) (block : Block) (b c : Option SessionBook) → AreOneBooks b c → (m n : Design) → IsOneDesign names others m n
        → (ops done : Ops) → AreOneOperations names others ops done → (v w from : ℕ) → (t : Bool)
        → LegalFrom kit valid bs b (cond t (Opens v m) (Reloads w m ops from) ∷ [])
        → LegalFrom kit valid bs c (cond t (Opens v n) (Reloads w n done from) ∷ [])
        → AllAgree names (old ∷ []) (moments_from kit bs b (cond t (Opens v m) (Reloads w m ops from) ∷ []))
        → AllAgree others (old ∷ []) (moments_from kit bs c (cond t (Opens v n) (Reloads w n done from) ∷ []))
        → IsOneStep (Ok (Edits block)) old (Ok new) b c (cond t (Opens v m) (Reloads w m ops from) ∷ [])
        (cond t (Opens v n) (Reloads w n done from) ∷ [])
    edit_alike old new block b c no_books m n h ops done k v w from true l r p q = record {
      text = accepted_text st old new new.design;
      here = λ ms. refl;
      there = λ ms. refl;
      behind = one_books (opens_alike names others once apart bs m n h);
      entries = bare_edit v w from m n ops done true;
    }
    edit_alike old new block b c no_books m n h ops done k v w from false l r p q = absurd l.0
    edit_alike old new block b c (one_books one) m n h ops done k v w from true l r p q = absurd l.0
    edit_alike old new block b c (one_books {b = x} {c = y} one) m n h ops done k v w from false l r p q = record {
      text = accepted_text st old new new.design;
      here = λ ms. refl;
      there = λ ms. refl;
      behind =
          one_books
          (reloads_alike names others once apart bs x y one (designs_alike old x y p.0 q.0)
          (rows_alike old.record_ x.rows y.rows p.0.rows q.0.rows) m n h
          ops done k);
      entries = bare_edit v w from m n ops done false;
    }

    edits_alike : (old new : World) (block : Block) (b c : Option SessionBook) → AreOneBooks b c → (own mine : List LogEvent)
        → IsEdit names st old new block own → IsEdit others st old new block mine
        → LegalFrom kit valid bs b own → LegalFrom kit valid bs c mine → AllAgree names (old ∷ []) (moments_from kit bs b own)
        → AllAgree others (old ∷ []) (moments_from kit bs c mine) → IsOneStep (Ok (Edits block)) old (Ok new) b c own mine
    edits_alike old new block b c one own mine is also l r p q =
        subst₂ (IsOneStep (Ok (Edits block)) old (Ok new) b c) (sym is.4) (sym also.4)
        (edit_alike old new block b c one is.0 also.0 (one_design names others new.design is.0 also.0 is.1 also.1) is.2 also.2
        (one_operations names others block.ops is.2 also.2 is.3 also.3) 1 (old.version + 1) (chosen st old) (old.version == 0)
        (subst (LegalFrom kit valid bs b) is.4 l) (subst (LegalFrom kit valid bs c) also.4 r)
        (subst (λ (es : List LogEvent). AllAgree names (old ∷ []) (moments_from kit bs b es)) is.4 p)
        (subst (λ (es : List LogEvent). AllAgree others (old ∷ []) (moments_from kit bs c es)) also.4 q))

    -- ---- runs

    -- the rows are those of the world's row
    run_alike : (old new : World) (line n : ℕ) (b c : Option SessionBook) → AreOneBooks b c → (rows more : List InputRow)
        → AreOneRows names others rows more → LegalFrom kit valid bs b (RunsEvent n rows ∷ []) → LegalFrom kit valid bs c (RunsEvent n more ∷ [])
        → AllAgree names (old ∷ []) (moments_from kit bs b (RunsEvent n rows ∷ []))
        → AllAgree others (old ∷ []) (moments_from kit bs c (RunsEvent n more ∷ []))
        → IsOneStep (Ok (Runs line n)) old (Ok new) b c (RunsEvent n rows ∷ []) (RunsEvent n more ∷ [])
    run_alike old new line n b c no_books rows more k l r p q = absurd l.0
    run_alike old new line n b c (one_books {b = x} {c = y} one) rows more k l r p q = record {
      text = run_text (cycle new);
      here = λ ms. refl;
      there = λ ms. refl;
      behind =
          one_books
          (runs_alike names others once apart bs x y one (designs_alike old x y p.0 q.0)
          (rows_alike old.record_ x.rows y.rows p.0.rows q.0.rows) rows more k);
      entries = ap (λ (us : List ⊤). RunsEvent n us ∷ []) (bare_rows names others k);
    }

    -- ---- displays

    -- both say how far their links are joined, and have one state at the last mark
    show_alike : (old new : World) (line : ℕ) (prefix : List ℕ) (b c : Option SessionBook) → AreOneBooks b c → (answer other : Option ℕ)
        → LegalFrom kit valid bs b (ShowsEvent answer ∷ []) → LegalFrom kit valid bs c (ShowsEvent other ∷ [])
        → IsOneStep (Ok (Shows line prefix)) old (Ok new) b c (ShowsEvent answer ∷ []) (ShowsEvent other ∷ [])
    show_alike old new line prefix b c no_books answer other l r = absurd l.0
    show_alike old new line prefix b c (one_books {b = x} {c = y} one) answer other l r =
        let said : answer ≡ other = l.0 ∙ ap shown one.segs ∙ sym r.0 in
        let values : state_values (last_state x.first x.segs) ≡ state_values (last_state y.first y.segs) =
        ap state_values (ap₂ last_state one.first one.segs) in
        record {
          text = display_text new prefix new.design answer (last_values (Some x));
          here = λ ms. refl;
          there = λ ms. ap₂ (λ (a : Option ℕ) (xs : List ℕ). Some (display_text new prefix new.design a xs, ms)) (sym said) (sym values);
          behind = one_books one;
          entries = ap (λ (a : Option ℕ). ShowsEvent a ∷ []) said;
        }

    -- ---- settles

    -- a show leaves the books, and before the first open there is neither it nor a claim
    shows_behind : (b c : Option SessionBook) (answer other : Option ℕ) → AreOneBooks b c
        → AreOneBooks (apply kit bs b (ShowsEvent answer)) (apply kit bs c (ShowsEvent other))
    shows_behind b c answer other no_books = no_books
    shows_behind b c answer other (one_books one) = one_books one

    no_settle : (P : Type 0) {n : ℕ} {es : List LogEvent} → Passes n es → (answer : Option ℕ)
        → LegalFrom kit valid bs None (es ++ ShowsEvent answer ∷ []) → P
    no_settle P no_more answer l = absurd l.0
    no_settle P (one_first t a e j p) answer l = absurd l.0

    -- the worlds say the same of the books before the passes as of those behind
    run_before : (w : World) (b c : SessionBook) → IsOneBook b c → (d e : Option SessionBook) → IsLeft bs b d → IsLeft bs c e
        → Agrees names w (outline_in d) → Agrees others w (outline_in e) → RunAlike b c
    run_before w b c one d e x y p q =
        let here : Agrees names w (outline_in (Some x.book)) = subst (λ (o : Option SessionBook). Agrees names w (outline_in o)) x.is p in
        let there : Agrees others w (outline_in (Some y.book)) = subst (λ (o : Option SessionBook). Agrees others w (outline_in o)) y.is q in
        record {
          one = one;
          runs =
              between_alike names others once apart b.machine c.machine
              (subst₂ (IsOneDesign names others) x.machine y.machine (designs_alike w x.book y.book here there)) b.rows c.rows
              (subst₂ (AreOneRows names others) x.rows y.rows (rows_alike w.record_ x.book.rows y.book.rows here.rows there.rows));
        }

    settled_alike : (w : World) (most links : ℕ) (b c : Option SessionBook) → AreOneBooks b c → (own mine : List LogEvent)
        → (is : IsSettle most links own) → (also : IsSettle most links mine)
        → LegalFrom kit valid bs b (is.passes ++ ShowsEvent is.answer ∷ []) → LegalFrom kit valid bs c (also.passes ++ ShowsEvent also.answer ∷ [])
        → Agrees names w (outline_in (replay_from kit bs b is.passes)) → Agrees others w (outline_in (replay_from kit bs c also.passes))
        → IsOneSettle (replay_from kit bs b is.passes) (replay_from kit bs c also.passes) is.passes also.passes is.answer also.answer
    settled_alike w most links b c no_books own mine is also l r p q =
        no_settle (IsOneSettle (replay_from kit bs None is.passes) (replay_from kit bs None also.passes) is.passes also.passes is.answer also.answer)
        (passes_turned is.are) is.answer l
    settled_alike w most links b c (one_books {b = x} {c = y} one) own mine is also l r p q =
        settle_alike bs (passes_turned is.are) (passes_turned also.are) x y
        (run_before w x y one (replay_from kit bs (Some x) is.passes) (replay_from kit bs (Some y) also.passes)
        (settle_leaves bs (passes_turned is.are) x is.answer l) (settle_leaves bs (passes_turned also.are) y also.answer r) p q)
        is.answer also.answer l r
        (λ (lt : is.count < also.count). is.stops (omega (arith, lt, also.few)))
        (λ (lt : also.count < is.count). also.stops (omega (arith, lt, is.few)))

    settles_alike : (old new : World) (line : ℕ) (passes : Option ℕ) (most links : ℕ) (b c : Option SessionBook) → AreOneBooks b c
        → (own mine : List LogEvent) → IsSettle most links own → IsSettle most links mine
        → LegalFrom kit valid bs b own → LegalFrom kit valid bs c mine → AllAgree names (old ∷ []) (moments_from kit bs b own)
        → AllAgree others (old ∷ []) (moments_from kit bs c mine)
        → IsOneStep (Ok (Settles line passes)) old (Ok new) b c own mine
    settles_alike old new line passes most links b c one own mine is also l r p q =
        let here : moments_from kit bs b own ≡ record { entry = ShowsEvent is.answer; book = replay_from kit bs b is.passes } ∷ [] =
        ap (moments_from kit bs b) is.split ∙ passes_moments bs b is.answer (passes_turned is.are) in
        let there : moments_from kit bs c mine ≡ record { entry = ShowsEvent also.answer; book = replay_from kit bs c also.passes } ∷ [] =
        ap (moments_from kit bs c) also.split ∙ passes_moments bs c also.answer (passes_turned also.are) in
        let agree = subst (AllAgree names (old ∷ [])) here p in
        let agrees = subst (AllAgree others (old ∷ [])) there q in
        let both : IsOneSettle (replay_from kit bs b is.passes) (replay_from kit bs c also.passes) is.passes also.passes is.answer also.answer =
        settled_alike old most links b c one own mine is also (subst (LegalFrom kit valid bs b) is.split l)
        (subst (LegalFrom kit valid bs c) also.split r)
        agree.0 agrees.0 in
        record {
          text = settle_text new is.answer;
          here = λ ms. ap (λ (xs : List LogMoment). answer_text st (Ok (Settles line passes)) old (Ok new) (xs ++ ms)) here;
          there = λ ms. ap (λ (xs : List LogMoment). answer_text st (Ok (Settles line passes)) old (Ok new) (xs ++ ms)) there
              ∙ ap (λ (a : Option ℕ). Some (settle_text new a, ms)) (sym both.answers);
          behind =
              subst₂ AreOneBooks
              (sym (ap (replay_from kit bs b) is.split ∙ replay-append kit bs b is.passes (ShowsEvent is.answer ∷ [])))
              (sym (ap (replay_from kit bs c) also.split ∙ replay-append kit bs c also.passes (ShowsEvent also.answer ∷ [])))
              (shows_behind (replay_from kit bs b is.passes) (replay_from kit bs c also.passes) is.answer also.answer both.books);
          entries =
              bare_parts own is.passes (ShowsEvent is.answer ∷ []) mine also.passes (ShowsEvent also.answer ∷ []) is.split also.split both.passes
              (ap (λ (a : Option ℕ). ShowsEvent a ∷ []) both.answers);
        }

    -- ---- all commands

    -- by what is asked, and by the verdict on it
    accepted_alike : (asked : Asked) (old new : World) (b c : Option SessionBook) → AreOneBooks b c → (own mine : List LogEvent)
        → IsAccepted names st old new own asked → IsAccepted others st old new mine asked → LegalFrom kit valid bs b own
        → LegalFrom kit valid bs c mine → AllAgree names (entry_worlds old asked) (moments_from kit bs b own)
        → AllAgree others (entry_worlds old asked) (moments_from kit bs c mine) → IsOneStep (Ok asked) old (Ok new) b c own mine
    accepted_alike (Edits block) old new b c one own mine is also l r p q = edits_alike old new block b c one own mine is also l r p q
    accepted_alike (Sets line values) old new b c one own mine is also l r p q =
        none_alike (Ok (Sets line values)) old (Ok new) b c own mine (codes "ok set\n") (λ ms. refl) one is also
    accepted_alike (Runs line n) old new b c one own mine is also l r p q =
        subst₂ (IsOneStep (Ok (Runs line n)) old (Ok new) b c) (sym is.2) (sym also.2)
        (run_alike old new line n b c one is.0 also.0 (rows_alike (replicate n old.row) is.0 also.0 is.1 also.1)
        (subst (LegalFrom kit valid bs b) is.2 l) (subst (LegalFrom kit valid bs c) also.2 r)
        (subst (λ (es : List LogEvent). AllAgree names (old ∷ []) (moments_from kit bs b es)) is.2 p)
        (subst (λ (es : List LogEvent). AllAgree others (old ∷ []) (moments_from kit bs c es)) also.2 q))
    accepted_alike (Shows line prefix) old new b c one own mine is also l r p q =
        subst₂ (IsOneStep (Ok (Shows line prefix)) old (Ok new) b c) (sym is.1) (sym also.1)
        (show_alike old new line prefix b c one is.0 also.0 (subst (LegalFrom kit valid bs b) is.1 l) (subst (LegalFrom kit valid bs c) also.1 r))
    accepted_alike (Settles line passes) old new b c one own mine is also l r p q =
        settles_alike old new line passes (passes_of old passes) (length old.grid) b c one own mine is also l r p q
    accepted_alike (AsksStatus line) old new b c one own mine is also l r p q =
        none_alike (Ok (AsksStatus line)) old (Ok new) b c own mine (status_lines new new.design) (λ ms. refl) one is also
    accepted_alike (Quits line) old new b c one own mine is also l r p q =
        none_alike (Ok (Quits line)) old (Ok new) b c own mine (codes "ok quit\n") (λ ms. refl) one is also

    judged_alike : (asked : Result Asked TextFault) (old : World) (v : Result World Refused) (b c : Option SessionBook) → AreOneBooks b c
        → (own mine : List LogEvent) → IsJudged names st asked old own v → IsJudged others st asked old mine v → LegalFrom kit valid bs b own
        → LegalFrom kit valid bs c mine → AllAgree names (judged_worlds old asked v) (moments_from kit bs b own)
        → AllAgree others (judged_worlds old asked v) (moments_from kit bs c mine) → IsOneStep asked old v b c own mine
    judged_alike (Ok asked) old (Ok new) b c one own mine is also l r p q = accepted_alike asked old new b c one own mine is also l r p q
    judged_alike (Err fault) old (Ok new) b c one own mine is also l r p q =
        none_alike (Err fault) old (Ok new) b c own mine [] (λ ms. refl) one is also
    judged_alike (Ok asked) old (Err refused) b c one own mine is also l r p q =
        none_alike (Ok asked) old (Err refused) b c own mine (refusal_text refused) (λ ms. refl) one is also
    judged_alike (Err fault) old (Err refused) b c one own mine is also l r p q =
        none_alike (Err fault) old (Err refused) b c own mine (refusal_text refused) (λ ms. refl) one is also

  -- ---- all commands, one after another

  -- each history has a table of names of its own at each command
  parts_alike : (asked : Result Asked TextFault) (old : World) (v : Result World Refused) (b c : Option SessionBook) → AreOneBooks b c
      → (own mine : List LogEvent) → IsPart st asked old own (moments_from kit bs b own) v → IsPart st asked old mine (moments_from kit bs c mine) v
      → LegalFrom kit valid bs b own → LegalFrom kit valid bs c mine → IsOneStep asked old v b c own mine
  parts_alike asked old v b c one own mine p q l r =
      judged_alike p.names q.names p.once q.once asked old v b c one own mine p.is q.is l r p.agree q.agree

  -- the lines that answer the commands over both histories, and the histories
  pub record IsOneHistory (ts : List Told) (w : World) (b c : Option SessionBook) (es fs : List LogEvent) : Type 0 where
    pub text : lines st ts w (moments_from kit bs b es) ≡ lines st ts w (moments_from kit bs c fs)
    pub entries : bare_of es ≡ bare_of fs

  histories_alike : (ts : List Told) (w : World) (b c : Option SessionBook) → AreOneBooks b c → (es fs : List LogEvent)
      → LegalFrom kit valid bs b es → LegalFrom kit valid bs c fs → IsScript st ts w es (moments_from kit bs b es)
      → IsScript st ts w fs (moments_from kit bs c fs) → IsOneHistory ts w b c es fs
  histories_alike [] w b c one es fs l r p q = record { text = refl; entries = ap bare_of p.0 ∙ sym (ap bare_of q.0) }
  histories_alike (t ∷ ts) w b c one es fs l r p q =
      let x : HasTurn st bs t ts w b es = has_turn st bs t ts w b es l p in
      let y : HasTurn st bs t ts w c fs = has_turn st bs t ts w c fs r q in
      let step : IsOneStep t.asked w (verdict_on st t w) b c x.own y.own =
      parts_alike t.asked w (verdict_on st t w) b c one x.own y.own x.part y.part x.legal y.legal in
      let further : List LogMoment → List ℕ = λ (ms : List LogMoment). lines st ts (after st t w) ms in
      let here : Option SessionBook = replay_from kit bs b x.own in
      let there : Option SessionBook = replay_from kit bs c y.own in
      let rest : IsOneHistory ts (after st t w) here there x.rest y.rest =
      histories_alike ts (after st t w) here there step.behind x.rest y.rest x.on y.on x.script y.script in
      record {
        text =
            ap (lines st (t ∷ ts) w) x.moments
            ∙ ap (λ (o : Option (List ℕ × List LogMoment)). text_then o further) (step.here (moments_from kit bs here x.rest))
            ∙ ap (λ (more : List ℕ). step.text ++ more) rest.text
            ∙ sym
            (ap (lines st (t ∷ ts) w) y.moments
            ∙ ap (λ (o : Option (List ℕ × List LogMoment)). text_then o further) (step.there (moments_from kit bs there y.rest)));
        entries = bare_parts es x.own x.rest fs y.own y.rest x.split y.split step.entries rest.entries;
      }

-- whatever names have which numbers in them
pub one_history : (st : Settings) (bs : BookSettings) (ts : List Told) (es fs : List LogEvent) → Follows kit valid bs es → Follows kit valid bs fs
    → AllOwned true es → AllOwned true fs → IsScript st ts fresh es (moments_from kit bs None es)
    → IsScript st ts fresh fs (moments_from kit bs None fs) → IsOneHistory st bs ts fresh None None es fs
one_history st bs ts es fs l r owned also p q = histories_alike st bs ts fresh None None no_books es fs l r p q
