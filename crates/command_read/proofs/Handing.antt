-- What is handed out.
use Rattle.std.proofs.Common.{◌≡◌, ℕ, true, cond, List, [], ◌∷◌, ◌++◌, length, Option, Some, None, Result, refl, sym, ap, ◌∙◌, subst, arith}
use Rattle.std.specs.Prelude.{is_some}
use Rattle.std.proofs.lemmas.Option.{none-some}
use Rattle.ls_text.specs.Readings.{TextFault}
use Rattle.command_read.specs.declared.reader.Reader.{Reader}
use Rattle.command_read.specs.declared.item.Item.{Item}
use Rattle.command_read.specs.declared.item.Item.TheVariants.{Open}
use Rattle.command_read.specs.Leading.{MayFollow}
use Rattle.command_read.specs.Asking.{Asked}
use Rattle.command_read.specs.Scripts.{Outside, asked_by, asks}
use Rattle.command_read.specs.Readers.{left, next_number, has_ended, count_taken, stopped, asked_of, told, AreKept, Takes, HandsOut}
use Rattle.command_read.specs.declared.stop.Stop.{Stop}
use Rattle.command_read.specs.declared.stop.Stop.TheVariants as stop
use Rattle.command_read.specs.declared.read_end.ReadEnd.{ReadEnd}
use Rattle.command_read.specs.declared.read_end.ReadEnd.TheVariants as read_end
use Rattle.command_read.proofs.Skipping.{takes_same}
use Rattle.command_read.specs.Found.{IsAtFront, item_asked}
use Rattle.command_read.proofs.FirstLines.{nothing}

-- where nothing is held and the input has ended, nothing is asked for
pub asks_nothing : (number : ℕ) → asks true number [] ≡ []
unfolding asks
asks_nothing number = ap (asked_by true Outside number) (nothing true)

-- a block that the input's end cuts, with all that is held
pub hands_open : (old new : Reader) (item : Item) → item ≡ Open → IsAtFront old item → left new ≡ [] → has_ended new ≡ has_ended old → HandsOut old new (item_asked old item ∷ []) []
hands_open old new item is front none ended =
    let here : IsAtFront old Open = subst (IsAtFront old) is front in
    subst (λ i. HandsOut old new (item_asked old i ∷ []) []) (sym is) (λ more end follows.
    let last : MayFollow true more end = subst (λ e. MayFollow e more end) (ended ∙ here.0) follows in
    ap (λ m. asked_of old m end) last.0 ∙ ap (asked_of old []) last.1 ∙ here.1
    ∙ ap (λ a. item_asked old Open ∷ a) (sym (ap (λ m. asks end (next_number new) (left new ++ m)) last.0 ∙ ap (λ l. asks end (next_number new) (l ++ [])) none
    ∙ ap (λ e. asks e (next_number new) []) last.1 ∙ asks_nothing (next_number new))))

-- what tells nothing by one table tells nothing by another
pub tells_nothing : (a b : List (List ℕ)) (r : ReadEnd) → told a r ≡ [] → told b r ≡ []
tells_nothing a b (read_end.Command command) none = absurd (omega (arith, ap length none))
tells_nothing a b (read_end.Refused fault) none = absurd (omega (arith, ap length none))
tells_nothing a b read_end.End none = refl
tells_nothing a b read_end.Fault none = refl
tells_nothing a b read_end.TooMuch none = refl
tells_nothing a b read_end.NoMemory none = refl

-- a reader that stops at the input's end has taken what it had
pub takes_halted : (a b : Option (List ℕ)) (f g : ℕ) (old mid new : Reader) (came kept : List ℕ) → Takes a b f g old mid came kept
    → stopped new ≡ cond (is_some (stopped mid)) (stopped mid) (Some stop.End) → count_taken new ≡ count_taken mid → has_ended new ≡ has_ended mid → Takes a b f g old new came kept
takes_halted a b f g old mid new came kept takes halted taken ended =
    by (stopped mid) refl
  where
    by : (s : Option Stop) → stopped mid ≡ s → Takes a b f g old new came kept
    by (Some s) is =
        takes_same a b f g old mid new came kept takes taken (halted ∙ ap (λ t. cond (is_some t) t (Some stop.End)) is ∙ sym is) ended
    by None is =
        let stops : stopped new ≡ Some stop.End = halted ∙ ap (λ t. cond (is_some t) t (Some stop.End)) is in
        record {
          consumed = takes.consumed;
          counted = taken ∙ takes.counted;
          holds = subst (λ t. AreKept t came kept) (sym stops) (subst (λ t. AreKept t came kept) is takes.holds);
          failed = λ failed. cc;
          unfailed = λ other. takes.unfailed (λ failed. none-some stop.Fault (sym is ∙ failed));
          ended = λ e. takes.ended (sym ended ∙ e);
          quiet = λ e. let still = takes.quiet e in (still.0, still.1, ended ∙ still.2, still.3);
          whole = λ e. takes.whole (sym ended ∙ e);
          faultless = λ e failed. cc;
          few = λ e much. cc;
        }

pub hands_halted : (old mid new : Reader) (kept : List ℕ) (tells : List (Result Asked TextFault)) → tells ≡ [] → HandsOut old mid [] kept → left new ≡ left mid → next_number new ≡ next_number mid
    → has_ended new ≡ has_ended mid → HandsOut old new tells kept
hands_halted old mid new kept tells none hands same number ended more end follows =
    hands more end (subst (λ e. MayFollow e more end) ended follows) ∙ ap (λ n. asks end n (left mid ++ more)) (sym number)
    ∙ ap (λ l. asks end (next_number new) (l ++ more)) (sym same) ∙ ap (λ t. t ++ asked_of new more end) (sym none)
