-- Two runs that took the same bytes and were given the same answers have written the same.
use Rattle.std.proofs.Common.{◌≡◌, ◌≢◌, ◌⊎◌, inl, inr, ℕ, Bool, true, List, [], ◌∷◌, ◌++◌, map, None, Result, refl, sym, ap, ◌∙◌, subst, append-nil}
use Rattle.std.specs.Prelude.{⊤}
use Rattle.std.proofs.lemmas.List.{append_cancel_left}
use Rattle.book_history.specs.Book.{Closes, Event, Settings as BookSettings}
use Rattle.book_history.specs.Legal.{Follows}
use Rattle.book_history.specs.Moments.{moments_from}
use Rattle.book_history.specs.Owned.{AllOwned, owned}
use Rattle.book_history.proofs.Places.{moments-append}
use Rattle.book_history.proofs.Prefixes.{follows_first}
use Rattle.ls_text.specs.Readings.{TextFault}
use Rattle.command_read.specs.Asking.{Asked}
use Rattle.ls_port.specs.declared.shelf_answer.ShelfAnswer.{ShelfAnswer}
use Rattle.live_session.specs.Entries.{bare}
use Rattle.live_session.specs.Logs.{IsLegal, Log, LogEvent, LogMoment, kit, moments_of, valid}
use Rattle.live_session.specs.Readings.{AreRight}
use Rattle.live_session.specs.Replies.{answers_of, asked_of, lines}
use Rattle.live_session.specs.Scripts.{IsScript}
use Rattle.live_session.specs.Settings.{Settings}
use Rattle.live_session.specs.Verdicts.{Told}
use Rattle.live_session.specs.Worlds.{World, fresh}
use Rattle.livesim.specs.Outputs.{WritesAll}
use Rattle.livesim.specs.Runs.{HasEntries, all_entries, unfinished_settle, no_entries, HasSettings}
use Rattle.book_history.proofs.Owned.{all_owned}
use Rattle.livesim.proofs.Alone.{alone_front}

-- ---- the history of a run for which memory was enough

-- the entries of these commands, which lead to these moments in a book with these settings
pub record HasScript (st : Settings) (told : List Told) (bs : BookSettings) (all : List LogEvent) (ms : List LogMoment) : Type 0 where
  pub entries : List LogEvent
  pub closes : all ≡ entries ++ Closes ∷ []
  pub follows : Follows kit valid bs entries
  pub alone : AllOwned true entries
  pub script : IsScript st told fresh entries (moments_from kit bs None entries)
  pub moments : ms ≡ moments_from kit bs None entries

-- they are all but the close, which is no moment
pub has_script : (st : Settings) (told : List Told) (rest : List (Result Asked TextFault)) (status : ℕ) (h : Log) → status ≢ 5 → IsLegal h
    → HasEntries st told rest status (owned h.events) (moments_of h) → AllOwned true h.events → HasScript st told h.settings h.events (moments_of h)
has_script st told rest status h enough legal (all_entries entries is script) alone =
    let all : h.events ≡ entries ++ Closes ∷ [] = sym (all_owned h.events alone) ∙ is in
    let moments : moments_of h ≡ moments_from kit h.settings None entries = ap (λ (es : List LogEvent). moments_from kit h.settings None es) all
    ∙ moments-append kit h.settings None entries (Closes ∷ []) ∙ append-nil (moments_from kit h.settings None entries) in
    record {
      entries = entries;
      closes = all;
      follows = follows_first kit h.settings valid None entries (Closes ∷ [])
          (subst (λ (es : List LogEvent). Follows kit valid h.settings es) all legal.follows);
      alone = alone_front entries (Closes ∷ []) (subst (λ (es : List LogEvent). AllOwned true es) all alone);
      script = subst (λ (ms : List LogMoment). IsScript st told fresh entries ms) moments script;
      moments = moments;
    }
has_script st told rest status h enough legal (unfinished_settle entries passes five is script unfinished cut) alone = absurd (enough five)
has_script st told rest status h enough legal (no_entries five none nothing) alone = absurd (enough five)

-- ---- the settings of a book

same_settings : (x y : BookSettings) → x.interval ≡ y.interval → x.lookback ≡ y.lookback → x.rooms.session ≡ y.rooms.session
    → x.rooms.workers ≡ y.rooms.workers → x ≡ y
same_settings x y interval lookback session workers =
    ap (λ (n : ℕ). record { interval = n; lookback = x.lookback; rooms = x.rooms }) interval
    ∙ ap (λ (n : ℕ). record { interval = y.interval; lookback = n; rooms = x.rooms }) lookback
    ∙ ap (λ (n : ℕ). record { interval = y.interval; lookback = y.lookback; rooms = record { session = n; workers = x.rooms.workers } }) session
    ∙ ap (λ (n : ℕ). record { interval = y.interval; lookback = y.lookback; rooms = record { session = y.rooms.session; workers = n } }) workers

-- those of two books that have the settings of the same options
settings_alike : (st : Settings) (j k : Log) → HasSettings st j → HasSettings st k → j.settings ≡ k.settings
settings_alike st j k x y = same_settings j.settings k.settings (x.0 ∙ sym y.0) (x.1 ∙ sym y.1) (x.2 ∙ sym y.2) (x.3 ∙ sym y.3)

has_settings : (st : Settings) (j : Log) (status : ℕ) → status ≢ 5 → HasSettings st j ⊎ ((status ≡ 5) × (j.events ≡ [])) → HasSettings st j
has_settings st j status enough (inl has) = has
has_settings st j status enough (inr none) = absurd (enough none.0)

-- ---- two runs

-- commands have one output over the same entries
abbrev pub HaveOneOutput : Type 0
HaveOneOutput =
    (st : Settings) (w : World) (ts us : List Told) (rest others : List ShelfAnswer) → AreRight st w ts → AreRight st w us → asked_of ts ≡ asked_of us
    → answers_of ts ++ rest ≡ answers_of us ++ others → (ms : List LogMoment) → lines st ts w ms ≡ lines st us w ms

-- and the entries of the ones are those of the others
abbrev pub HaveOneScript : Type 0
HaveOneScript =
    (st : Settings) (w : World) (ts us : List Told) (rest others : List ShelfAnswer) → AreRight st w ts → AreRight st w us → asked_of ts ≡ asked_of us
    → answers_of ts ++ rest ≡ answers_of us ++ others → (es : List LogEvent) (ms : List LogMoment) → IsScript st ts w es ms → IsScript st us w es ms

-- histories with the entries of the same commands give them one output
abbrev pub GiveOneOutput : Type 0
GiveOneOutput =
    (st : Settings) (bs : BookSettings) (ts : List Told) (es fs : List LogEvent) → Follows kit valid bs es → Follows kit valid bs fs
    → AllOwned true es → AllOwned true fs → IsScript st ts fresh es (moments_from kit bs None es)
    → IsScript st ts fresh fs (moments_from kit bs None fs)
    → lines st ts fresh (moments_from kit bs None es) ≡ lines st ts fresh (moments_from kit bs None fs)

-- and the same entries
abbrev pub GiveOneHistory : Type 0
GiveOneHistory =
    (st : Settings) (bs : BookSettings) (ts : List Told) (es fs : List LogEvent) → Follows kit valid bs es → Follows kit valid bs fs
    → AllOwned true es → AllOwned true fs → IsScript st ts fresh es (moments_from kit bs None es)
    → IsScript st ts fresh fs (moments_from kit bs None fs) → map bare es ≡ map bare fs

bare_closed : (es : List LogEvent) → map bare (es ++ Closes ∷ []) ≡ map bare es ++ Closes ∷ []
bare_closed [] = refl
bare_closed (e ∷ es) = ap (λ (rest : List (Event ⊤ ⊤ ⊤)). bare e ∷ rest) (bare_closed es)

module _ (one_output : HaveOneOutput) (one_script : HaveOneScript) (all_outputs : GiveOneOutput) (one_history : GiveOneHistory) where
  -- what is told of the second is what is told of the first, over a history of its own
  lines_alike : (st : Settings) (bs cs : BookSettings) (ts us : List Told) (rest others : List ShelfAnswer) (ds gs : List LogEvent) (ms ns : List LogMoment)
      → bs ≡ cs → AreRight st fresh ts → AreRight st fresh us → asked_of ts ≡ asked_of us → answers_of ts ++ rest ≡ answers_of us ++ others
      → HasScript st ts bs ds ms → HasScript st us cs gs ns → lines st ts fresh ms ≡ lines st us fresh ns
  lines_alike st bs cs ts us rest others ds gs ms ns same right also_right asked answers first second =
      let other : HasScript st us bs gs ns = subst (λ (s : BookSettings). HasScript st us s gs ns) (sym same) second in
      ap (λ (x : List LogMoment). lines st ts fresh x) first.moments
      ∙ all_outputs st bs ts first.entries other.entries first.follows other.follows first.alone other.alone first.script
      (one_script st fresh us ts others rest also_right right (sym asked) (sym answers) other.entries (moments_from kit bs None other.entries)
      other.script)
      ∙ ap (λ (x : List LogMoment). lines st ts fresh x) (sym other.moments)
      ∙ one_output st fresh ts us rest others right also_right asked answers ns

  entries_alike : (st : Settings) (bs cs : BookSettings) (ts us : List Told) (rest others : List ShelfAnswer) (ds gs : List LogEvent)
      (ms ns : List LogMoment)
      → bs ≡ cs → AreRight st fresh ts → AreRight st fresh us → asked_of ts ≡ asked_of us → answers_of ts ++ rest ≡ answers_of us ++ others
      → HasScript st ts bs ds ms → HasScript st us cs gs ns → map bare ds ≡ map bare gs
  entries_alike st bs cs ts us rest others ds gs ms ns same right also_right asked answers first second =
      let other : HasScript st us bs gs ns = subst (λ (s : BookSettings). HasScript st us s gs ns) (sym same) second in
      ap (map bare) first.closes ∙ bare_closed first.entries
      ∙ ap (λ (es : List (Event ⊤ ⊤ ⊤)). es ++ Closes ∷ [])
      (one_history st bs ts first.entries other.entries first.follows other.follows first.alone other.alone first.script
      (one_script st fresh us ts others rest also_right right (sym asked) (sym answers) other.entries (moments_from kit bs None other.entries)
      other.script))
      ∙ sym (bare_closed other.entries) ∙ ap (map bare) (sym other.closes)

  module _ (st : Settings) (bytes : List ℕ) (ended : Bool) (given : List ShelfAnswer) (out other : List ℕ) (j k : Log)
      (p : WritesAll st bytes ended given out j) (q : WritesAll st bytes ended given other k) where
    answered : given ≡ answers_of p.ran.told ++ p.ran.lost
    answered = append_cancel_left p.answers _ _ p.ran.answered

    also_answered : given ≡ answers_of q.ran.told ++ q.ran.lost
    also_answered = append_cancel_left q.answers _ _ q.ran.answered

    alike : j.settings ≡ k.settings
    alike =
        settings_alike st j k (has_settings st j p.status p.enough_memory p.ran.settings) (has_settings st k q.status q.enough_memory q.ran.settings)

    asked : asked_of p.ran.told ≡ asked_of q.ran.told
    asked = p.ran.all p.no_sink_fault p.enough_memory ∙ sym (q.ran.all q.no_sink_fault q.enough_memory)

    first : HasScript st p.ran.told j.settings j.events (moments_of j)
    first = has_script st p.ran.told p.ran.begins.0 p.status j p.enough_memory p.ran.legal p.ran.entries p.alone

    second : HasScript st q.ran.told k.settings k.events (moments_of k)
    second = has_script st q.ran.told q.ran.begins.0 q.status k q.enough_memory q.ran.legal q.ran.entries q.alone

    pub outputs_alike : out ≡ other
    outputs_alike =
        append_cancel_left p.written _ _ (p.ran.written p.no_sink_fault p.enough_memory)
        ∙ lines_alike st j.settings k.settings p.ran.told q.ran.told p.ran.lost q.ran.lost j.events k.events (moments_of j) (moments_of k) alike
        p.ran.right q.ran.right asked (sym answered ∙ also_answered) first second
        ∙ sym (append_cancel_left q.written _ _ (q.ran.written q.no_sink_fault q.enough_memory))

    pub histories_alike : map bare j.events ≡ map bare k.events
    histories_alike =
        entries_alike st j.settings k.settings p.ran.told q.ran.told p.ran.lost q.ran.lost j.events k.events (moments_of j) (moments_of k) alike
        p.ran.right q.ran.right asked (sym answered ∙ also_answered) first second
