-- A display whose entry says that all is settled tells its truth.
use Rattle.std.proofs.Common.{◌≡◌, ℕ, ◌+◌, ◌<◌, ltb, Bool, false, cond, List, [], ◌∷◌, ◌++◌, Option, Some, None, Result, Ok, Err, refl, sym, ap, ◌∙◌, append_assoc, arith}
use Rattle.std.proofs.lemmas.Bool.Decides.{nat_tests}
use Rattle.ls_text.specs.Readings.{TextFault}
use Rattle.ls_text.proofs.Lists.{none_is_some}
use Rattle.command_read.specs.Asking.{Asked, Edits, Sets, Runs, Shows, Settles, AsksStatus, Quits}
use Rattle.live_session.specs.Judging.{after, verdict_on, world_after}
use Rattle.live_session.specs.Logs.{LogMoment}
use Rattle.live_session.specs.Replies.{answer_text, command_text, lines, reply, text_then}
use Rattle.live_session.specs.Settings.{Settings}
use Rattle.live_session.specs.Shown.{answer_of, display_lines, display_text, last_values}
use Rattle.live_session.specs.Spelled.{Spelled}
use Rattle.live_session.specs.Verdicts.{Told, show_verdict, verdict}
use Rattle.live_session.specs.Worlds.{World, Refused, fresh, refused_at}
use Rattle.livesim.specs.Runs.{entries_left, left_then, true_display}

-- ---- what is left of the entries

-- where none is there, none is left
command_none : (st : Settings) (asked : Asked) (old new : World) → left_then (command_text st asked old new []) ≡ []
command_none st (Edits block) old new = refl
command_none st (Sets line values) old new = refl
command_none st (Runs line n) old new = refl
command_none st (Shows line prefix) old new = refl
command_none st (Settles line passes) old new = refl
command_none st (AsksStatus line) old new = refl
command_none st (Quits line) old new = refl

answer_none : (st : Settings) (asked : Result Asked TextFault) (old : World) (v : Result World Refused) → left_then (answer_text st asked old v []) ≡ []
answer_none st (Ok asked) old (Ok new) = command_none st asked old new
answer_none st (Err fault) old (Ok new) = refl
answer_none st (Ok asked) old (Err refused) = refl
answer_none st (Err fault) old (Err refused) = refl

left_none : (st : Settings) (xs : List Told) (w : World) → entries_left st xs w [] ≡ []
left_none st [] w = refl
left_none st (x ∷ xs) w =
    ap (λ (ms : List LogMoment). entries_left st xs (after st x w) ms) (answer_none st x.asked w (verdict_on st x w))
    ∙ left_none st xs (after st x w)

-- the lines of all are those of the first commands and then those of the others, with the entries that are left
lines_split : (st : Settings) (xs ys : List Told) (w : World) (ms : List LogMoment) (m : LogMoment) (rest : List LogMoment) → entries_left st xs w ms ≡ m ∷ rest
    → lines st (xs ++ ys) w ms ≡ lines st xs w ms ++ lines st ys (world_after st xs w) (m ∷ rest)
lines_split st [] ys w ms m rest is = ap (λ (ns : List LogMoment). lines st ys w ns) is
lines_split st (x ∷ xs) ys w ms m rest is = by (reply st x w ms) is (lines_split st xs ys (after st x w))
  where
    by : (r : Option (List ℕ × List LogMoment)) → entries_left st xs (after st x w) (left_then r) ≡ m ∷ rest
        → ((ns : List LogMoment) (n : LogMoment) (more : List LogMoment) → entries_left st xs (after st x w) ns ≡ n ∷ more
        → lines st (xs ++ ys) (after st x w) ns ≡ lines st xs (after st x w) ns ++ lines st ys (world_after st xs (after st x w)) (n ∷ more))
        → text_then r (λ (ns : List LogMoment). lines st (xs ++ ys) (after st x w) ns)
        ≡ text_then r (λ (ns : List LogMoment). lines st xs (after st x w) ns) ++ lines st ys (world_after st xs (after st x w)) (m ∷ rest)
    by None left more = none_is_some m rest (sym (left_none st xs (after st x w)) ∙ left)
    by (Some r) left more =
        ap (λ (text : List ℕ). r.0 ++ text) (more r.1 m rest left)
        ∙ sym (append_assoc r.0 (lines st xs (after st x w) r.1) (lines st ys (world_after st xs (after st x w)) (m ∷ rest)))

-- ---- a display

module _ (st : Settings) (w : World) (line : ℕ) (prefix : List ℕ) (m : LogMoment) (ms : List LogMoment) where
  abbrev shown : World
  shown = record w { charge = w.charge + 1 }

  -- where there is room for it
  there_is_room : (full : Bool) → full ≡ false → answer_text st (Ok (Shows line prefix)) w (cond full (Err (refused_at 68 line [])) (Ok shown)) (m ∷ ms)
      ≡ answer_text st (Ok (Shows line prefix)) w (Ok shown) (m ∷ ms)
  there_is_room full has = ap (λ (b : Bool). answer_text st (Ok (Shows line prefix)) w (cond b (Err (refused_at 68 line [])) (Ok shown)) (m ∷ ms)) has

  -- a display of a design
  shows_truth : (d : Option Spelled) (design : Spelled) → d ≡ Some design → w.design ≡ Some design → ltb st.room (w.charge + 1) ≡ false → answer_of m.entry ≡ None
      → answer_text st (Ok (Shows line prefix)) w (show_verdict st w line d) (m ∷ ms) ≡ Some (true_display w prefix design, ms)
  shows_truth d design is there room settled =
      ap (λ (x : Option Spelled). answer_text st (Ok (Shows line prefix)) w (show_verdict st w line x) (m ∷ ms)) is ∙ there_is_room (ltb st.room (w.charge + 1)) room
      ∙ ap (λ (x : Option Spelled). Some (display_text shown prefix x (answer_of m.entry) (last_values m.book), ms)) there
      ∙ ap (λ (x : Option ℕ). Some (display_lines shown prefix design x (last_values m.book), ms)) settled

  pub display_truth : (t : Told) (design : Spelled) → t.asked ≡ Ok (Shows line prefix) → w.design ≡ Some design → w.charge < st.room → answer_of m.entry ≡ None
      → reply st t w (m ∷ ms) ≡ Some (true_display w prefix design, ms)
  display_truth t design asked is room settled =
      ap (λ (a : Result Asked TextFault). answer_text st a w (verdict st w a t.loads t.answer) (m ∷ ms)) asked
      ∙ shows_truth w.design design is is (grind (arith, nat_tests)) settled

-- and so do the lines of commands among which it stands
pub shown_truth : (st : Settings) (told : List Told) (all : List LogMoment) (before rest : List Told) (line : ℕ) (prefix : List ℕ) (t : Told) (design : Spelled)
    (m : LogMoment) (ms : List LogMoment) → before ++ t ∷ rest ≡ told
    → t.asked ≡ Ok (Shows line prefix) → (world_after st before fresh).design ≡ Some design → (world_after st before fresh).charge < st.room
    → entries_left st before fresh all ≡ m ∷ ms → answer_of m.entry ≡ None
    → lines st told fresh all
    ≡ lines st before fresh all ++ (true_display (world_after st before fresh) prefix design ++ lines st rest (after st t (world_after st before fresh)) ms)
shown_truth st told all before rest line prefix t design m ms at asked is room left settled =
    ap (λ (ts : List Told). lines st ts fresh all) (sym at) ∙ lines_split st before (t ∷ rest) fresh all m ms left
    ∙ ap (λ (r : Option (List ℕ × List LogMoment)).
    lines st before fresh all ++ text_then r (λ (ns : List LogMoment). lines st rest (after st t (world_after st before fresh)) ns))
    (display_truth st (world_after st before fresh) line prefix m ms t design asked is room settled)
