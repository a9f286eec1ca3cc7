-- What a command did, by its verdict and by the entries that it added.
use Rattle.std.proofs.Common.{◌≡◌, ◌∙◌, ℕ, true, false, List, [], ◌∷◌, ◌++◌, map, Some, Result, Ok, Err, refl, sym, ap, ap₂, subst, append-nil, Bool}
use Rattle.std.specs.Prelude.{IfOk, codes}
use Rattle.ls_text.specs.Texts.{HasEachOnce}
use Rattle.book_history.specs.Book.{Settings as BookSettings}
use Rattle.book_history.specs.Outline.{outline_in}
use Rattle.book_history.specs.Owned.{AllOwned, owned}
use Rattle.command_read.specs.Asking.{Asked, Sets}
use Rattle.command_read.specs.Spoken.{setting}
use Rattle.command_read.specs.declared.port_value.PortValue.{PortValue}
use Rattle.module_registry.specs.Entries.{Entry}
use Rattle.version_swap.specs.Behind.{design_of}
use Rattle.live_session.specs.Beside.{Stands, settings_by}
use Rattle.live_session.specs.Done.{IsDone}
use Rattle.live_session.specs.Logs.{Log, LogEvent, LogMoment, marks_of, moments_after}
use Rattle.live_session.specs.Replies.{command_text}
use Rattle.live_session.specs.Rows.{row_of}
use Rattle.live_session.specs.Scripts.{Agrees, AllAgree, IsAccepted, entry_worlds}
use Rattle.live_session.specs.Sessions.{world_of}
use Rattle.live_session.specs.Settings.{Settings}
use Rattle.live_session.specs.Spelled.{spelled}
use Rattle.live_session.specs.Turns.{Accepts, AnswersIn, Refuses, StopsIn, no_answer, undone_at}
use Rattle.live_session.specs.Verdicts.{command_verdict, set_row, with_row}
use Rattle.live_session.specs.Worlds.{World, Refused}
use Rattle.live_session.specs.declared.limits.Limits.{Limits}
use Rattle.live_session.specs.declared.reply.Reply.{Reply}
use Rattle.live_session.specs.declared.running.Running.{Running}
use Rattle.live_session.proofs.Standing.{Adds}

module _ (st : Settings) (asked : Asked) (names : List (List ℕ)) (once : HasEachOnce names) (old new : World) (v : Result World Refused)
    (r : Reply) where
  -- it was refused: no entry is new, and the world is as before
  pub refused_done : (j : Log) (refused : Refused) → v ≡ Err refused → Refuses refused r → new ≡ old
      → IsDone true st (Ok asked) old new v j j r.lines r.refused
  refused_done j refused is says same =
      subst (λ (x : Result World Refused). IsDone true st (Ok asked) old new x j j r.lines r.refused) (sym is)
      (record {
        added = [];
        settings = refl;
        events = sym (append-nil j.events);
        goes = same;
        refusal = says.refusal;
        all_own = λ alone. tt;
        part = record { names = names; once = once; is = refl; agree = tt };
        tells = λ (rest : List LogMoment). ap (λ (text : List ℕ). Some (text, rest)) (sym says.text);
      })

  -- it was accepted, and has no entry of its own
  pub told_done : (j : Log) (w : World) → v ≡ Ok w → new ≡ w → IsAccepted names st old w [] asked → entry_worlds old asked ≡ []
      → ((rest : List LogMoment) → command_text st asked old w rest ≡ Some (r.lines, rest)) → r.refused ≡ false
      → IsDone true st (Ok asked) old new v j j r.lines r.refused
  told_done j w is same part none says accepts =
      subst (λ (x : Result World Refused). IsDone true st (Ok asked) old new x j j r.lines r.refused) (sym is)
      (record {
        added = [];
        settings = refl;
        events = sym (append-nil j.events);
        goes = same;
        refusal = accepts;
        all_own = λ alone. tt;
        part = record { names = names; once = once; is = part; agree = subst (λ (ws : List World). AllAgree names ws []) (sym none) tt };
        tells = says;
      })

  -- it was accepted, and one of the entries is its own
  pub entry_done : (alone : Bool) (was is : Log) (es own : List LogEvent) → Adds was is es → (alone ≡ true → AllOwned true es) → owned es ≡ own → (m : LogMoment)
      → moments_after was es ≡ m ∷ [] → (w : World) → v ≡ Ok w → new ≡ w → IsAccepted names st old w own asked → entry_worlds old asked ≡ old ∷ []
      → Agrees names old (outline_in m.book) → ((rest : List LogMoment) → command_text st asked old w (m ∷ rest) ≡ Some (r.lines, rest))
      → r.refused ≡ false
      → IsDone alone st (Ok asked) old new v was is r.lines r.refused
  entry_done alone was is es own adds all_own mine m moments w judged same part at_one agrees says accepts =
      subst (λ (x : Result World Refused). IsDone alone st (Ok asked) old new x was is r.lines r.refused) (sym judged)
      (record {
        added = es;
        settings = adds.settings;
        events = adds.events;
        goes = same;
        refusal = accepts;
        all_own = all_own;
        part = record {
          names = names;
          once = once;
          is = subst (λ (xs : List LogEvent). IsAccepted names st old w xs asked) (sym mine) part;
          agree = subst (λ (ws : List World). AllAgree names ws (moments_after was es)) (sym at_one)
              (subst (λ (ms : List LogMoment). AllAgree names (old ∷ []) ms) (sym moments) (agrees, tt));
        };
        tells = λ (rest : List LogMoment). ap (λ (ms : List LogMoment). command_text st asked old w (ms ++ rest)) moments ∙ says rest;
      })

-- two states of what runs that are one to a session
abbrev pub IsSameIn : (names : List (List ℕ)) → (old new : Running) → Type 0
IsSameIn names old new = (entries : List Entry) (grid : List ℕ) → world_of names entries grid new ≡ world_of names entries grid old

module _ {E : Type 0} (names : List (List ℕ)) (once : HasEachOnce names) (limits : Limits) (asked : Asked) (old new : Running) where
  -- what runs refuses, and its world is as before
  pub refuses_in : (j : Log) (r : Result Reply E) (refused : Refused)
      → ((entries : List Entry) → command_verdict (settings_by limits j) (world_of names entries (marks_of j) old) asked [] no_answer ≡ Err refused)
      → ((entries : List Entry) (grid : List ℕ) → world_of names entries grid new ≡ world_of names entries grid old) → IfOk r (Refuses refused)
      → IfOk r (AnswersIn names limits asked old new j j)
  refuses_in j (Ok r) refused is same says = λ (entries : List Entry).
      refused_done (settings_by limits j) asked names once (world_of names entries (marks_of j) old) (world_of names entries (marks_of j) new)
      (command_verdict (settings_by limits j) (world_of names entries (marks_of j) old) asked [] no_answer) r j refused (is entries) says
      (same entries (marks_of j))
  refuses_in j (Err e) refused is same says = tt

-- the marks of a book without new entries
marks_still : (was is : Log) → is.settings ≡ was.settings → is.events ≡ was.events → marks_of is ≡ marks_of was
marks_still was is settings events =
    ap₂ (λ (st : BookSettings) (h : List LogEvent). marks_of (record { settings = st; events = h })) settings events

-- memory ran out, and nothing is new
pub stops_still : (names : List (List ℕ)) (limits : Limits) (asked : Asked) (old new : Running) (was is : Log) → Adds was is []
    → IsSameIn names old new
    → StopsIn names limits asked old new was is
stops_still names limits asked old new was is adds same = λ (entries : List Entry).
    let events : is.events ≡ was.events = adds.events ∙ append-nil was.events in
    undone_at adds.settings events
    (same entries (marks_of is) ∙ ap (λ (grid : List ℕ). world_of names entries grid old) (marks_still was is adds.settings events))

-- what runs with another record
abbrev pub world_with : (names : List (List ℕ)) → List Entry → (grid : List ℕ) → Running → (rows : List (List (ℕ × ℕ))) → World
world_with names entries grid r rows = let w = world_of names entries grid r in record w { record_ = map (row_of names) rows }

-- a refusal beside whatever book
pub refuses_any : {E : Type 0} (names : List (List ℕ)) (once : HasEachOnce names) (limits : Limits) (asked : Asked) (old new : Running)
    (r : Result Reply E)
    (refused : Refused)
    → ((j : Log) (entries : List Entry)
    → command_verdict (settings_by limits j) (world_of names entries (marks_of j) old) asked [] no_answer ≡ Err refused)
    → ((entries : List Entry) (grid : List ℕ) → world_of names entries grid new ≡ world_of names entries grid old) → IfOk r (Refuses refused)
    → IfOk r (λ (x : Reply). (j : Log) → Stands limits (Some old) j → AnswersIn names limits asked old new j j x)
refuses_any {E = E} names once limits asked old new (Ok r) refused is same says =
    λ (j : Log) (stands : Stands limits (Some old) j). refuses_in {E = E} names once limits asked old new j (Ok r) refused (is j) same says
refuses_any names once limits asked old new (Err e) refused is same says = tt

-- inputs that were set
pub set_done : (names : List (List ℕ)) (once : HasEachOnce names) (limits : Limits) (old : Running) (line : ℕ) (values : List PortValue)
    (row : List (ℕ × ℕ)) (reply : Reply)
    → set_row line (spelled names (design_of old.version.value.machine.value old.keys)) (row_of names old.row.value) (map (setting names) values)
    ≡ Ok (row_of names row)
    → Accepts (codes "ok set\n") reply → (j : Log) (entries : List Entry)
    → IsDone true (settings_by limits j) (Ok (Sets line (map (setting names) values))) (world_of names entries (marks_of j) old)
    (let w = world_of names entries (marks_of j) old in record w { row = row_of names row })
    (command_verdict (settings_by limits j) (world_of names entries (marks_of j) old) (Sets line (map (setting names) values)) [] no_answer)
    j j reply.lines reply.refused
set_done names once limits old line values row reply set says j entries =
    let st = settings_by limits j in
    let w = world_of names entries (marks_of j) old in
    told_done st (Sets line (map (setting names) values)) names once w (record w { row = row_of names row })
    (command_verdict st w (Sets line (map (setting names) values)) [] no_answer) reply j (record w { row = row_of names row })
    (ap (with_row w) set) refl refl refl
    (λ (rest : List LogMoment). ap (λ (text : List ℕ). Some (text, rest)) (sym says.text)) says.refusal
