-- What a block comes to, in the code: the first version at its beginning, or the next one.
use Rattle.std.specs.Prelude.{◌≡◌, ℕ, ◌+◌, List, [], ◌∷◌, ◌++◌, take, false, None, Some, Ok}
use Rattle.book_history.specs.Book.{Opens, Reloads}
use Rattle.checkpoint_book.specs.Views.{chosen_in}
use Rattle.command_read.specs.Asking.{Block}
use Rattle.cycle_eval.specs.declared.design.Design.{Design}
use Rattle.module_registry.specs.Entries.{Entry}
use Rattle.module_registry.specs.Keys.{KeyData}
use Rattle.stimulus.specs.Records.{limit_of, rows_of}
use Rattle.version_swap.specs.declared.texts.Texts.{Texts}
use Rattle.wave_report.specs.Replies.{edit_text}
use Rattle.live_session.specs.Beside.{Stands, settings_by}
use Rattle.live_session.specs.Files.{TextFile}
use Rattle.live_session.specs.Kept.{IsKept}
use Rattle.live_session.specs.Logs.{Log, Ops, book_in, marks_of}
use Rattle.live_session.specs.Sessions.{world_of}
use Rattle.live_session.specs.Taken.{TakesBlock}
use Rattle.live_session.specs.Turns.{Accepts}
use Rattle.live_session.specs.Worlds.{fresh}
use Rattle.live_session.specs.declared.begun.Begun.{Begun}
use Rattle.live_session.specs.declared.begun.Begun.TheVariants as begun
use Rattle.live_session.specs.declared.limits.Limits.{Limits}
use Rattle.live_session.specs.declared.reply.Reply.{Reply}
use Rattle.live_session.specs.declared.running.Running.{Running}

-- version 1 of these texts at its beginning, which opened the book, with the line that accepts it
pub record Starts (limits : Limits) (texts : Texts) (design : Design) (keys : List KeyData) (built kept : ℕ) (was is : Log) (running : Running)
    (line : List ℕ) : Type 0 where
  pub has_texts : running.texts ≡ texts
  pub has_design : running.version.value.machine.value ≡ design
  pub has_keys : running.keys ≡ keys
  pub first : running.version.value.number ≡ 1
  pub no_row : running.row.value ≡ []
  pub no_rows : rows_of running.record_ ≡ []
  pub stimulus : limit_of running.record_ ≡ limits.stimulus
  pub charge : running.charge ≡ 1
  pub settings : is.settings ≡ was.settings
  pub opens : is.events ≡ was.events ++ Opens 1 design ∷ []
  pub marks : marks_of is ≡ []
  pub stands : Stands limits (Some running) is
  pub text : line ≡ edit_text 1 built kept 0

abbrev pub StartsIn : Limits → Texts → Design → List KeyData → (built kept : ℕ) → (was is : Log) → Begun → Type 0
StartsIn limits texts design keys built kept was is (begun.Accepted running line) = Starts limits texts design keys built kept was is running line.items
StartsIn limits texts design keys built kept was is (begun.Refused reply) = ⊥

-- the next version of these texts, which runs from that cycle on over the same record, with what these operations do to registers
pub record GoesOn (ops : Ops) (texts : Texts) (design : Design) (keys : List KeyData) (from : ℕ) (old new : Running) (was is : Log) : Type 0 where
  pub has_texts : new.texts ≡ texts
  pub has_design : new.version.value.machine.value ≡ design
  pub has_keys : new.keys ≡ keys
  pub next : new.version.value.number ≡ old.version.value.number + 1
  pub row : new.row.value ≡ old.row.value
  pub rows : rows_of new.record_ ≡ rows_of old.record_
  pub stimulus : limit_of new.record_ ≡ limit_of old.record_
  pub charge : new.charge ≡ old.charge + 1
  pub settings : is.settings ≡ was.settings
  pub reloads : is.events ≡ was.events ++ Reloads (old.version.value.number + 1) design ops from ∷ []
  pub marks : marks_of is ≡ marks_of was
  pub chosen : from ≡ chosen_in was.settings (book_in was)

-- and its line says so
pub record SaysSo (ops : Ops) (texts : Texts) (design : Design) (keys : List KeyData) (built kept : ℕ) (old new : Running) (was is : Log) (reply : Reply) : Type 0 where
  pub from : ℕ
  pub goes : GoesOn ops texts design keys from old new was is
  pub accepts : Accepts (edit_text (old.version.value.number + 1) built kept from) reply

-- memory ran out: the units behind the first so many are gone, and all else is as before; or the line alone is lost
pub data LosesLine (ops : Ops) (texts : Texts) (design : Design) (keys : List KeyData) (held : ℕ) (before after : List Entry) (old new : Running) (was is : Log) : Type 0 where
  nothing_new : after ≡ take held before → new ≡ old → is.settings ≡ was.settings → is.events ≡ was.events
      → LosesLine ops texts design keys held before after old new was is
  line_lost : (from : ℕ) → after ≡ before → GoesOn ops texts design keys from old new was is → LosesLine ops texts design keys held before after old new was is

-- a first block was taken so: by the verdict on it, with what is kept of a design that runs, or else no unit
pub record IsBegun (names : List (List ℕ)) (limits : Limits) (block : Block) (loaded : List TextFile) (entries : List Entry) (was is : Log)
    (running : Running) (line : List ℕ) : Type 0 where
  pub takes : TakesBlock (settings_by limits was) block (Ok loaded) fresh (world_of names entries (marks_of is) running) was is line false
  pub kept : IsKept names limits running
  pub stands : Stands limits (Some running) is

pub record IsRefused (limits : Limits) (block : Block) (loaded : List TextFile) (entries : List Entry) (was is : Log) (reply : Reply) : Type 0 where
  pub takes : TakesBlock (settings_by limits was) block (Ok loaded) fresh fresh was is reply.lines reply.refused
  pub goes_on : reply.quit ≡ false
  pub none : entries ≡ []
  pub stands : Stands limits None is

abbrev pub Begins : (names : List (List ℕ)) → Limits → Block → (loaded : List TextFile) → List Entry → (was is : Log) → Begun → Type 0
Begins names limits block loaded entries was is (begun.Accepted running line) = IsBegun names limits block loaded entries was is running line.items
Begins names limits block loaded entries was is (begun.Refused reply) = IsRefused limits block loaded entries was is reply
