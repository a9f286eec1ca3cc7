-- One entry more, with what belongs to it.
use Rattle.std.proofs.Common.{◌≡◌, ◌≤◌, List, [], ◌∷◌, ◌++◌, length, take, drop, map, refl, sym, ◌∙◌, ap, subst, arith, length-append}
use Rattle.std.proofs.lemmas.List.{take-append-le, drop-append-le, take-append-drop}
use Rattle.book_history.specs.declared.entry.Entry.{Entry}
use Rattle.book_history.specs.declared.entry.Entry.TheVariants.{Open, Run, Reload, Claim, Install, Release, Show, Close}
use Rattle.book_history.specs.declared.load.Load.{Load}
use Rattle.book_history.specs.declared.load.Load.TheVariants as held
use Rattle.book_history.specs.Book.{Event, Runs}
use Rattle.book_history.specs.Law.{ran_rows, record_of}
use Rattle.book_history.specs.Entries.{entry_of}
use Rattle.book_history.specs.Weave.{event_of, needs, cycles_of, rest_after, weave, IsLoadOf, AreHeld}

pub rest_same : {D O : Type 0} (x : Entry) (ls more : List (Load D O)) → IsLoadOf x ls → rest_after (needs x) (ls ++ more) ≡ rest_after (needs x) ls ++ more
rest_same (Open v) [] more h = absurd h
rest_same (Open v) (y ∷ ls) more h = refl
rest_same (Run n) ls more h = refl
rest_same (Reload v f) [] more h = absurd h
rest_same (Reload v f) (y ∷ ls) more h = refl
rest_same (Claim n a b by) ls more h = refl
rest_same (Install n j by) ls more h = refl
rest_same (Release n by) ls more h = refl
rest_same (Show s) ls more h = refl
rest_same Close ls more h = refl

pub load_same : {D O : Type 0} (x : Entry) (ls more : List (Load D O)) → IsLoadOf x ls → IsLoadOf x (ls ++ more)
load_same (Open v) [] more h = absurd h
load_same (Open v) (held.Open y ∷ ls) more h = h
load_same (Open v) (held.Reload y z ∷ ls) more h = absurd h
load_same (Run n) ls more h = tt
load_same (Reload v f) [] more h = absurd h
load_same (Reload v f) (held.Open y ∷ ls) more h = absurd h
load_same (Reload v f) (held.Reload y z ∷ ls) more h = h
load_same (Claim n a b by) ls more h = tt
load_same (Install n j by) ls more h = tt
load_same (Release n by) ls more h = tt
load_same (Show s) ls more h = tt
load_same Close ls more h = tt

module _ {D R O : Type 0} where
  -- what belongs to an entry is not changed by what comes after it
  pub event_same : (x : Entry) (ls more : List (Load D O)) (rows rows' : List R) → IsLoadOf x ls → cycles_of x ≤ length rows
      → event_of x (ls ++ more) (rows ++ rows') ≡ event_of x ls rows
  event_same (Open v) [] more rows rows' h le = absurd h
  event_same (Open v) (held.Open y ∷ ls) more rows rows' h le = refl
  event_same (Open v) (held.Reload y z ∷ ls) more rows rows' h le = absurd h
  event_same (Run n) ls more rows rows' h le = ap (λ (l : List R). Runs n l) (take-append-le n rows rows' le)
  event_same (Reload v f) [] more rows rows' h le = absurd h
  event_same (Reload v f) (held.Open y ∷ ls) more rows rows' h le = absurd h
  event_same (Reload v f) (held.Reload y z ∷ ls) more rows rows' h le = refl
  event_same (Claim n a b by) ls more rows rows' h le = refl
  event_same (Install n j by) ls more rows rows' h le = refl
  event_same (Release n by) ls more rows rows' h le = refl
  event_same (Show s) ls more rows rows' h le = refl
  event_same Close ls more rows rows' h le = refl

  pub weave-snoc : (es : List Entry) (ls more : List (Load D O)) (rows rows' : List R) (e : Entry) → AreHeld es ls rows
      → weave (es ++ e ∷ []) (ls ++ more) (rows ++ rows') ≡ weave es ls rows ++ event_of e more rows' ∷ []
  weave-snoc [] ls more rows rows' e h =
      ap (λ (l : List (Load D O)). weave (e ∷ []) (l ++ more) (rows ++ rows')) h.0 ∙ ap (λ (l : List R). weave (e ∷ []) more (l ++ rows')) h.1
  weave-snoc (x ∷ xs) ls more rows rows' e h =
      let head = event_same x ls more rows rows' h.0 h.1 in
      let loads = rest_same x ls more h.0 in
      let left : drop (cycles_of x) (rows ++ rows') ≡ drop (cycles_of x) rows ++ rows' = drop-append-le (cycles_of x) rows rows' h.1 in
      let ih = weave-snoc xs (rest_after (needs x) ls) more (drop (cycles_of x) rows) rows' e h.2 in
      ap (λ (y : Event D R O). y ∷ weave (xs ++ e ∷ []) (rest_after (needs x) (ls ++ more)) (drop (cycles_of x) (rows ++ rows'))) head
      ∙ ap (λ (l : List (Load D O)). event_of x ls rows ∷ weave (xs ++ e ∷ []) l (drop (cycles_of x) (rows ++ rows'))) loads
      ∙ ap (λ (l : List R). event_of x ls rows ∷ weave (xs ++ e ∷ []) (rest_after (needs x) ls ++ more) l) left
      ∙ ap (λ (l : List (Event D R O)). event_of x ls rows ∷ l) ih

  pub held-snoc : (es : List Entry) (ls more : List (Load D O)) (rows rows' : List R) (e : Entry) → AreHeld es ls rows
      → IsLoadOf e more → rest_after (needs e) more ≡ [] → cycles_of e ≤ length rows' → drop (cycles_of e) rows' ≡ []
      → AreHeld (es ++ e ∷ []) (ls ++ more) (rows ++ rows')
  held-snoc [] ls more rows rows' e h load rest le whole =
      let here : AreHeld (e ∷ []) more rows' = (load, le, (rest, whole)) in
      let some : AreHeld (e ∷ []) (ls ++ more) rows' = subst (λ (l : List (Load D O)). AreHeld (e ∷ []) (l ++ more) rows') (sym h.0) here in
      subst (λ (l : List R). AreHeld (e ∷ []) (ls ++ more) (l ++ rows')) (sym h.1) some
  held-snoc (x ∷ xs) ls more rows rows' e h load rest le whole =
      let ih = held-snoc xs (rest_after (needs x) ls) more (drop (cycles_of x) rows) rows' e h.2 load rest le whole in
      let loads : AreHeld (xs ++ e ∷ []) (rest_after (needs x) (ls ++ more)) (drop (cycles_of x) rows ++ rows') =
      subst (λ (l : List (Load D O)). AreHeld (xs ++ e ∷ []) l (drop (cycles_of x) rows ++ rows')) (sym (rest_same x ls more h.0)) ih in
      let both : AreHeld (xs ++ e ∷ []) (rest_after (needs x) (ls ++ more)) (drop (cycles_of x) (rows ++ rows')) =
      subst (λ (l : List R). AreHeld (xs ++ e ∷ []) (rest_after (needs x) (ls ++ more)) l) (sym (drop-append-le (cycles_of x) rows rows' h.1)) loads in
      (load_same x ls more h.0, omega (arith, h.1, length-append rows rows'), both)

  pub length-weave : (es : List Entry) (ls : List (Load D O)) (rows : List R) → length (weave es ls rows) ≡ length es
  length-weave [] ls rows = refl
  length-weave (e ∷ es) ls rows = omega (arith, length-weave es (rest_after (needs e) ls) (drop (cycles_of e) rows))

  pub ran_is : (e : Entry) (ls : List (Load D O)) (rows : List R) → ran_rows (event_of e ls rows) ≡ take (cycles_of e) rows
  ran_is (Open v) [] rows = refl
  ran_is (Open v) (held.Open y ∷ ls) rows = refl
  ran_is (Open v) (held.Reload y z ∷ ls) rows = refl
  ran_is (Run n) ls rows = refl
  ran_is (Reload v f) [] rows = refl
  ran_is (Reload v f) (held.Open y ∷ ls) rows = refl
  ran_is (Reload v f) (held.Reload y z ∷ ls) rows = refl
  ran_is (Claim n a b by) ls rows = refl
  ran_is (Install n j by) ls rows = refl
  ran_is (Release n by) ls rows = refl
  ran_is (Show s) ls rows = refl
  ran_is Close ls rows = refl

  -- the rows that a history keeps are its record
  pub record-weave : (es : List Entry) (ls : List (Load D O)) (rows : List R) → AreHeld es ls rows → record_of (weave es ls rows) ≡ rows
  record-weave [] ls rows h = sym h.1
  record-weave (e ∷ es) ls rows h =
      ap (λ (l : List R). l ++ record_of (weave es (rest_after (needs e) ls) (drop (cycles_of e) rows))) (ran_is e ls rows)
      ∙ ap (λ (l : List R). take (cycles_of e) rows ++ l) (record-weave es (rest_after (needs e) ls) (drop (cycles_of e) rows) h.2)
      ∙ take-append-drop (cycles_of e) rows

  pub entry_is : (e : Entry) (ls : List (Load D O)) (rows : List R) → IsLoadOf e ls → entry_of (event_of e ls rows) ≡ e
  entry_is (Open v) [] rows h = absurd h
  entry_is (Open v) (held.Open y ∷ ls) rows h = refl
  entry_is (Open v) (held.Reload y z ∷ ls) rows h = absurd h
  entry_is (Run n) ls rows h = refl
  entry_is (Reload v f) [] rows h = absurd h
  entry_is (Reload v f) (held.Open y ∷ ls) rows h = absurd h
  entry_is (Reload v f) (held.Reload y z ∷ ls) rows h = refl
  entry_is (Claim n a b by) ls rows h = refl
  entry_is (Install n j by) ls rows h = refl
  entry_is (Release n by) ls rows h = refl
  entry_is (Show s) ls rows h = refl
  entry_is Close ls rows h = refl

  pub entries-weave : (es : List Entry) (ls : List (Load D O)) (rows : List R) → AreHeld es ls rows → map entry_of (weave es ls rows) ≡ es
  entries-weave [] ls rows h = refl
  entries-weave (e ∷ es) ls rows h =
      ap (λ (x : Entry). x ∷ map entry_of (weave es (rest_after (needs e) ls) (drop (cycles_of e) rows))) (entry_is e ls rows h.0)
      ∙ ap (λ (l : List Entry). e ∷ l) (entries-weave es (rest_after (needs e) ls) (drop (cycles_of e) rows) h.2)
