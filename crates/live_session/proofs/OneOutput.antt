-- Commands have one output, whatever is told of their texts and of what a shelf answers, as long as it is right and the answers begin one list.
use Rattle.std.proofs.Common.{◌≡◌, ◌∙◌, ℕ, ◌+◌, Bool, true, false, ltb, cond, ◌||◌, List, [], ◌∷◌, ◌++◌, length, drop, append_assoc, refl, sym, ap, subst, arith}
use Rattle.std.specs.Prelude.{Option, Some, None, Result, Ok, Err, is_err}
use Rattle.std.specs.Bool.{MatchBool}
use Rattle.ls_text.specs.Readings.{TextFault}
use Rattle.ls_port.specs.declared.shelf_answer.ShelfAnswer.{ShelfAnswer}
use Rattle.ls_port.specs.declared.shelf_answer.ShelfAnswer.TheVariants as shelf
use Rattle.command_read.specs.Asking.{Block, LoadedFile, Asked, Edits, Sets, Runs, Shows, Settles, AsksStatus, Quits}
use Rattle.live_session.specs.Files.{TextFile}
use Rattle.live_session.specs.Judging.{verdict_on, world_or, after, world_after, any_refused}
use Rattle.live_session.specs.Loads.{LoadAnswer, Gave, Broke, AreAnswers, loaded_files, shelf_answer, shelf_answers}
use Rattle.live_session.specs.Readings.{FilesRead, IsRightEdit, IsRightAsked, IsRight, AreRight}
use Rattle.live_session.specs.Logs.{LogEvent, LogMoment}
use Rattle.live_session.specs.Replies.{answer_text, reply, lines as lines_of, text_then, asked_of, answers_to, answers_of}
use Rattle.live_session.specs.Scripts.{IsPart, IsScript}
use Rattle.live_session.specs.Settings.{Settings}
use Rattle.live_session.specs.Spelled.{Answer}
use Rattle.live_session.specs.Verdicts.{Told, files_after, top_after, clock_after, loaded_verdict, planned_verdict, verdict}
use Rattle.live_session.specs.Worlds.{World, Refused, refused_at}

-- files have at most one answer
abbrev OneAnswer : Type 0
OneAnswer = (files : List TextFile) (top : Option (List ℕ)) (clock : List ℕ) (x y : Answer) → FilesRead files top clock x
    → FilesRead files top clock y → x ≡ y

-- ---- one list of answers of a shelf has one front that answers these loads

-- what answers a load, as a shelf lists it
abbrev answer_of : ShelfAnswer → LoadAnswer
answer_of (shelf.Given name text) = Gave text
answer_of (shelf.Failed name) = Broke

answer_back : (load : LoadedFile) (a : LoadAnswer) → answer_of (shelf_answer load a) ≡ a
answer_back load (Gave text) = refl
answer_back load Broke = refl

abbrev head_or : ShelfAnswer → List ShelfAnswer → ShelfAnswer
head_or a [] = a
head_or a (x ∷ xs) = x

-- the answers to a command's loads, and what is left of the list
record AreOne (x y : List LoadAnswer) (rest others : List ShelfAnswer) : Type 0 where
  pub same : x ≡ y
  pub left : rest ≡ others

none_answered : (loads : List LoadedFile) → shelf_answers loads [] ≡ []
none_answered [] = refl
none_answered (load ∷ loads) = refl

-- where nothing is answered
none_one : (loads : List LoadedFile) (x y : List LoadAnswer) (rest others : List ShelfAnswer) → x ≡ [] → y ≡ []
    → shelf_answers loads x ++ rest ≡ shelf_answers loads y ++ others → AreOne x y rest others
none_one loads x y rest others p q same = record {
  same = p ∙ sym q;
  left = ap (λ (xs : List ShelfAnswer). xs ++ rest) (sym (ap (shelf_answers loads) p ∙ none_answered loads)) ∙ same
      ∙ ap (λ (xs : List ShelfAnswer). xs ++ others) (ap (shelf_answers loads) q ∙ none_answered loads);
}

one_front : (loads : List LoadedFile) (x y : List LoadAnswer) (rest others : List ShelfAnswer) → AreAnswers loads x → AreAnswers loads y
    → shelf_answers loads x ++ rest ≡ shelf_answers loads y ++ others → AreOne x y rest others
one_front [] x y rest others p q same = none_one [] x y rest others p q same
one_front (load ∷ loads) [] y rest others p q same = absurd p
one_front (load ∷ loads) (a ∷ x) [] rest others p q same = absurd q
one_front (load ∷ loads) (a ∷ x) (b ∷ y) rest others p q same =
    both a b p q here (ap (drop 1) same) (one_front loads x y rest others)
  where
    here : a ≡ b
    here = sym (answer_back load a) ∙ ap answer_of (ap (head_or (shelf_answer load a)) same) ∙ answer_back load b

    longer : (c : LoadAnswer) → AreOne x y rest others → AreOne (c ∷ x) (c ∷ y) rest others
    longer c h = record { same = ap (λ (xs : List LoadAnswer). c ∷ xs) h.same; left = h.left }

    by : (long : Bool) (c : LoadAnswer) → MatchBool long (x ≡ []) (AreAnswers loads x) → MatchBool long (y ≡ []) (AreAnswers loads y)
        → shelf_answers loads x ++ rest ≡ shelf_answers loads y ++ others
        → (AreAnswers loads x → AreAnswers loads y → shelf_answers loads x ++ rest ≡ shelf_answers loads y ++ others → AreOne x y rest others)
        → AreOne (c ∷ x) (c ∷ y) rest others
    by true c p q tails more = longer c (none_one loads x y rest others p q tails)
    by false c p q tails more = longer c (more p q tails)

    both : (c d : LoadAnswer) → AreAnswers (load ∷ loads) (c ∷ x) → AreAnswers (load ∷ loads) (d ∷ y) → c ≡ d
        → shelf_answers loads x ++ rest ≡ shelf_answers loads y ++ others
        → (AreAnswers loads x → AreAnswers loads y → shelf_answers loads x ++ rest ≡ shelf_answers loads y ++ others → AreOne x y rest others)
        → AreOne (c ∷ x) (d ∷ y) rest others
    both c d p q is tails more =
        subst (λ (e : LoadAnswer). AreOne (c ∷ x) (e ∷ y) rest others) is
        (one c p (subst (λ (e : LoadAnswer). AreAnswers (load ∷ loads) (e ∷ y)) (sym is) q))
      where
        one : (e : LoadAnswer) → AreAnswers (load ∷ loads) (e ∷ x) → AreAnswers (load ∷ loads) (e ∷ y) → AreOne (e ∷ x) (e ∷ y) rest others
        one (Gave text) p q = by (ltb 4194304 (length text)) (Gave text) p q tails more
        one Broke p q = longer Broke (none_one loads x y rest others p q tails)

-- ---- one verdict

module _ (one : OneAnswer) (st : Settings) where
  -- of an edit whose loads have these answers
  same_loaded : (w : World) (block : Block) (a b : Answer) (r : Result (List TextFile) Refused)
      → ((files : List TextFile) → r ≡ Ok files → FilesRead (files_after w block files) (top_after w block) (clock_after w block) a)
      → ((files : List TextFile) → r ≡ Ok files → FilesRead (files_after w block files) (top_after w block) (clock_after w block) b)
      → loaded_verdict w block a r ≡ loaded_verdict w block b r
  same_loaded w block a b (Ok files) p q =
      ap (planned_verdict w block files)
      (one (files_after w block files) (top_after w block) (clock_after w block) a b (p files refl) (q files refl))
  same_loaded w block a b (Err refused) p q = refl

  -- a command's verdict, and what is left of the answers behind it
  record IsJudged (judged other : Result World Refused) (rest others : List ShelfAnswer) : Type 0 where
    pub same : judged ≡ other
    pub left : rest ≡ others

  same_edit : (w : World) (block : Block) (x y : List LoadAnswer) (a b : Answer) (rest others : List ShelfAnswer) → (full : Bool)
      → MatchBool full (x ≡ []) (IsRightEdit w block x a) → MatchBool full (y ≡ []) (IsRightEdit w block y b)
      → shelf_answers block.loads x ++ rest ≡ shelf_answers block.loads y ++ others
      → IsJudged (cond full (Err (refused_at 68 block.line [])) (loaded_verdict w block a (loaded_files block.loads x)))
      (cond full (Err (refused_at 68 block.line [])) (loaded_verdict w block b (loaded_files block.loads y))) rest others
  same_edit w block x y a b rest others true p q same =
      record { same = refl; left = (none_one block.loads x y rest others p q same).left }
  same_edit w block x y a b rest others false p q same =
      let answers : AreOne x y rest others = one_front block.loads x y rest others p.loaded q.loaded same in
      let loaded : loaded_files block.loads x ≡ loaded_files block.loads y = ap (loaded_files block.loads) answers.same in
      record {
        same = same_loaded w block a b (loaded_files block.loads x) p.read (λ (files : List TextFile) is. q.read files (sym loaded ∙ is))
            ∙ ap (loaded_verdict w block b) loaded;
        left = answers.left;
      }

  same_asked : (w : World) (asked : Result Asked TextFault) (x y : List LoadAnswer) (a b : Answer) (rest others : List ShelfAnswer)
      → IsRightAsked st w asked x a → IsRightAsked st w asked y b → answers_to asked x ++ rest ≡ answers_to asked y ++ others
      → IsJudged (verdict st w asked x a) (verdict st w asked y b) rest others
  same_asked w (Ok (Edits block)) x y a b rest others p q same =
      same_edit w block x y a b rest others (ltb st.room (w.charge + 1)) p q same
  same_asked w (Ok (Sets line values)) x y a b rest others p q same = record { same = refl; left = same }
  same_asked w (Ok (Runs line n)) x y a b rest others p q same = record { same = refl; left = same }
  same_asked w (Ok (Shows line prefix)) x y a b rest others p q same = record { same = refl; left = same }
  same_asked w (Ok (Settles line passes)) x y a b rest others p q same = record { same = refl; left = same }
  same_asked w (Ok (AsksStatus line)) x y a b rest others p q same = record { same = refl; left = same }
  same_asked w (Ok (Quits line)) x y a b rest others p q same = record { same = refl; left = same }
  same_asked w (Err fault) x y a b rest others p q same = record { same = refl; left = same }

  -- two things told of one command
  same_verdict : (w : World) (t u : Told) (rest others : List ShelfAnswer) → IsRight st w t → IsRight st w u → t.asked ≡ u.asked
      → answers_to t.asked t.loads ++ rest ≡ answers_to u.asked u.loads ++ others
      → IsJudged (verdict_on st t w) (verdict_on st u w) rest others
  same_verdict w t u rest others p q is same =
      subst (λ (v : Told). IsJudged (verdict_on st t w) (verdict_on st v w) rest others) (ap (λ c. told c) is)
      (same_asked w t.asked t.loads u.loads t.answer u.answer rest others p
      (subst (λ c. IsRight st w (told c)) (sym is) q) (same ∙ ap (λ c. answers_to c u.loads ++ others) (sym is)))
    where
      told : Result Asked TextFault → Told
      told c = record { asked = c; loads = u.loads; answer = u.answer }

  same_reply : (w : World) (t u : Told) → verdict_on st t w ≡ verdict_on st u w → t.asked ≡ u.asked → (ms : List LogMoment)
      → reply st t w ms ≡ reply st u w ms
  same_reply w t u judged is ms =
      ap (λ c. answer_text st c w (verdict_on st t w) ms) is ∙ ap (λ v. answer_text st u.asked w v ms) judged

-- ---- one output

-- lines behind a reply
same_then : (r : Option (List ℕ × List LogMoment)) (f g : List LogMoment → List ℕ) → ((ms : List LogMoment) → f ms ≡ g ms)
    → text_then r f ≡ text_then r g
same_then None f g same = refl
same_then (Some r) f g same = ap (λ (more : List ℕ). r.0 ++ more) (same r.1)

-- what commands come to: their lines, whether one is refused, the world behind them, and which entries are theirs
pub record ComeToOne (st : Settings) (ts us : List Told) (w : World) : Type 0 where
  pub lines : (ms : List LogMoment) → lines_of st ts w ms ≡ lines_of st us w ms
  pub refused : any_refused st ts w ≡ any_refused st us w
  pub world : world_after st ts w ≡ world_after st us w
  pub scripts : (es : List LogEvent) (ms : List LogMoment) → IsScript st ts w es ms → IsScript st us w es ms

abbrev first_or : Result Asked TextFault → List (Result Asked TextFault) → Result Asked TextFault
first_or c [] = c
first_or c (x ∷ xs) = x

module _ (one : OneAnswer) (st : Settings) where
  pub one_output : (ts us : List Told) (w : World) (rest others : List ShelfAnswer) → AreRight st w ts → AreRight st w us
      → asked_of ts ≡ asked_of us → answers_of ts ++ rest ≡ answers_of us ++ others → ComeToOne st ts us w
  one_output [] [] w rest others p q same begun = record { lines = λ ms. refl; refused = refl; world = refl; scripts = λ es ms is. is }
  one_output [] (u ∷ us) w rest others p q same begun = absurd (omega (arith, ap length same))
  one_output (t ∷ ts) [] w rest others p q same begun = absurd (omega (arith, ap length same))
  one_output (t ∷ ts) (u ∷ us) w rest others p q same begun =
      let first : t.asked ≡ u.asked = ap (first_or t.asked) same in
      let judged : IsJudged one st (verdict_on st t w) (verdict_on st u w) (answers_of ts ++ rest) (answers_of us ++ others) =
      same_verdict one st w t u (answers_of ts ++ rest) (answers_of us ++ others) p.0 q.0 first
      (sym (append_assoc (answers_to t.asked t.loads) (answers_of ts) rest) ∙ begun
      ∙ append_assoc (answers_to u.asked u.loads) (answers_of us) others) in
      let next : after st t w ≡ after st u w = ap (world_or w) judged.same in
      let behind : ComeToOne st ts us (after st t w) =
      one_output ts us (after st t w) rest others p.1 (subst (λ (v : World). AreRight st v us) (sym next) q.1) (ap (drop 1) same) judged.left in
      record {
        lines = λ (ms : List LogMoment).
            ap (λ r. text_then r (λ (left : List LogMoment). lines_of st ts (after st t w) left)) (same_reply one st w t u judged.same first ms)
            ∙ same_then (reply st u w ms) (λ (left : List LogMoment). lines_of st ts (after st t w) left)
            (λ (left : List LogMoment). lines_of st us (after st u w) left)
            (λ (left : List LogMoment). behind.lines left ∙ ap (λ (v : World). lines_of st us v left) next);
        refused = ap (λ v. is_err v || any_refused st ts (after st t w)) judged.same
            ∙ ap (λ r. is_err (verdict_on st u w) || r) (behind.refused ∙ ap (any_refused st us) next);
        world = behind.world ∙ ap (world_after st us) next;
        scripts = λ es ms is. (
          is.0,
          is.1,
          is.2,
          is.3,
          is.4,
          is.5,
          subst (λ c. IsPart st c w is.0 is.2 (verdict_on st u w)) first (subst (IsPart st t.asked w is.0 is.2) judged.same is.6),
          subst (λ (v : World). IsScript st us v is.1 is.3) next (behind.scripts is.1 is.3 is.7),
        );
      }
