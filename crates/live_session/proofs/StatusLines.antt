-- What a status tells of what runs and of its book.
use Rattle.std.proofs.Common.{◌≡◌, ◌∙◌, ℕ, ◌+◌, ◌<◌, List, [], ◌∷◌, ◌++◌, map, drop, length, get_or, All, Option, Some, None, Ok, refl, sym, ap, ap₂, append_assoc}
use Rattle.std.proofs.lemmas.List.{length-map}
use Rattle.std.proofs.lemmas.List.Elements.{All-head, All-tail}
use Rattle.std.proofs.lemmas.Option.{none-some}
use Rattle.sha2.specs.Sha256.{sha256}
use Rattle.ls_text.specs.Texts.{HasEachOnce}
use Rattle.book_history.specs.Outline.{outline_in}
use Rattle.book_history.specs.Readers.{marks_in}
use Rattle.book_history.proofs.Outlines.{links_marked}
use Rattle.command_read.specs.Asking.{AsksStatus}
use Rattle.module_registry.specs.Entries.{Entry}
use Rattle.module_registry.specs.Keys.{KeyData}
use Rattle.stimulus.specs.Records.{rows_of}
use Rattle.typed_ir.proofs.Lists.{drop_split}
use Rattle.wave_report.specs.Replies.{status_text}
use Rattle.wave_report.specs.declared.unit_line.UnitLine.{UnitLine}
use Rattle.live_session.specs.Beside.{RunsIn, Stands, settings_by}
use Rattle.live_session.specs.Kept.{IsKept}
use Rattle.live_session.specs.Logs.{Log, LogMoment, book_in, marks_of}
use Rattle.live_session.specs.Rows.{row_of}
use Rattle.live_session.specs.Sessions.{world_of}
use Rattle.live_session.specs.Statuses.{key_line, module_in, status_lines, unit_line}
use Rattle.live_session.specs.Turns.{Accepts, AnswersIn}
use Rattle.live_session.specs.Worlds.{cycle}
use Rattle.live_session.specs.declared.limits.Limits.{Limits}
use Rattle.live_session.specs.declared.reply.Reply.{Reply}
use Rattle.live_session.specs.declared.running.Running.{Running}
use Rattle.live_session.proofs.Judged.{told_done}
use Rattle.live_session.proofs.ShownTables.{LogBook}

abbrev HasDigest : KeyData → Type 0
HasDigest k = k.digest ≡ sha256 k.text

keys_told : (ks : List KeyData) → All HasDigest ks → map key_line ks ≡ map unit_line (map (λ (k : KeyData). k.text) ks)
keys_told [] all = refl
keys_told (k ∷ ks) all =
    ap₂ (λ (u : UnitLine) (us : List UnitLine). u ∷ us)
    (ap (λ (d : List ℕ). record { «module» = module_in k.text; digest = d }) (All-head HasDigest k ks all))
    (keys_told ks (All-tail HasDigest k ks all))

pub marks_there : (r : Running) (b : Option LogBook) → RunsIn r (outline_in b) → marks_in b ≡ length (outline_in b).marks + 1
marks_there r None runs = absurd (none-some r.version.value.machine.value runs.machine)
marks_there r (Some c) runs = ap (λ (n : ℕ). n + 1) (links_marked (Some c))

module _ (names : List (List ℕ)) (once : HasEachOnce names) (limits : Limits) (r : Running) (kept : IsKept names limits r) (j : Log)
    (stands : Stands limits (Some r) j) (line : ℕ) (reply : Reply) where
  pub status_told : Accepts (status_text r.version.value.number (length (rows_of r.record_)) (marks_in (book_in j)) (map key_line r.keys)) reply
      → AnswersIn names limits (AsksStatus line) r r j j reply
  status_told says = λ (entries : List Entry).
      let w = world_of names entries (marks_of j) r in
      let count : length (rows_of r.record_) ≡ cycle w = sym (length-map (rows_of r.record_) (row_of names)) in
      let lines : reply.lines ≡ status_lines w w.design =
      says.text
      ∙ ap₂ (λ (n m : ℕ). status_text w.version n m (map key_line r.keys)) count (marks_there r (book_in j) stands.outline)
      ∙ ap (status_text w.version (cycle w) (length w.grid + 1)) (keys_told r.keys kept.digests) in
      told_done (settings_by limits j) (AsksStatus line) names once w w (Ok w) reply j w refl refl refl refl
      (λ (rest : List LogMoment). ap (λ (text : List ℕ). Some (text, rest)) (sym lines)) says.refusal

-- a line that is added for one key more
pub line_added : (ks : List KeyData) (i : ℕ) (d : KeyData) (old new all : List UnitLine) (u : UnitLine) → i < length ks → u ≡ key_line (get_or ks i d)
    → new ≡ old ++ u ∷ [] → old ++ map key_line (drop i ks) ≡ all → new ++ map key_line (drop (i + 1) ks) ≡ all
line_added ks i d old new all u below is added so =
    ap (λ (us : List UnitLine). us ++ map key_line (drop (i + 1) ks)) added
    ∙ append_assoc old (u ∷ []) (map key_line (drop (i + 1) ks))
    ∙ ap (λ (x : UnitLine). old ++ x ∷ map key_line (drop (i + 1) ks)) is
    ∙ ap (λ (xs : List KeyData). old ++ map key_line xs) (sym (drop_split ks i d below))
    ∙ so
