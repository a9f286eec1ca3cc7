-- How many bytes a reader may hand out yet.
use Rattle.std.proofs.Common.{◌≡◌, ℕ, ◌+◌, ◌-◌, ◌<◌, ◌≤◌, List, [], ◌∷◌, ◌++◌, length, drop, Option, Some, None, sym, ap, ◌∙◌, subst, true, Result, arith}
use Rattle.std.proofs.lemmas.List.{length-append, length-drop}
use Rattle.command_read.specs.declared.reader.Reader.{Reader}
use Rattle.command_read.specs.declared.stop.Stop.{Stop}
use Rattle.command_read.specs.declared.stop.Stop.TheVariants as stop
use Rattle.ls_text.specs.Readings.{TextFault}
use Rattle.command_read.specs.declared.item.Item.{Item}
use Rattle.command_read.specs.declared.item.Item.TheVariants.{Open}
use Rattle.command_read.specs.Asking.{Asked}
use Rattle.command_read.specs.Scripts.{asks}
use Rattle.command_read.specs.Found.{IsAtFront, item_asked}
use Rattle.command_read.proofs.Handing.{asks_nothing}
use Rattle.command_read.specs.Readers.{next_number, left, still_of, count_taken, stopped, AreKept}

-- no more is kept than came
kept_few : (s : Option Stop) (came kept : List ℕ) → AreKept s came kept → length kept ≤ length came
kept_few None came kept e = omega (arith, ap length e)
kept_few (Some stop.End) came kept e = omega (arith, ap length e)
kept_few (Some stop.Fault) came kept e = omega (arith, ap length e)
kept_few (Some stop.TooMuch) came kept e = omega (arith, ap length e.1, length-append kept (e.0 ∷ []))
kept_few (Some stop.NoMemory) came kept e = omega (arith, ap length e.1, length-append kept e.0)

-- bytes that come may be handed out where they could come
pub still_kept : (old new : Reader) (came kept : List ℕ) → count_taken new ≡ count_taken old + length came → AreKept (stopped new) came kept
    → left new ≡ left old ++ kept → count_taken new ≤ 67108865 → still_of new ≤ still_of old
still_kept old new came kept counted holds e most =
    omega (arith, counted, kept_few (stopped new) came kept holds, ap length e, length-append (left old) kept, most)

-- bytes that are handed out are no more
pub still_passed : (old new : Reader) (n : ℕ) → left new ≡ drop n (left old) → count_taken new ≡ count_taken old → 0 < n → n ≤ length (left old)
    → still_of new < still_of old
still_passed old new n e counted some within =
    omega (arith, ap length e, length-drop n (left old), counted, some, within)

-- a reader of which something is asked holds something
some_held : (number : ℕ) (held : List ℕ) (x : Result Asked TextFault) (xs : List (Result Asked TextFault)) → asks true number (held ++ []) ≡ x ∷ xs
    → 0 < length held
some_held number [] x xs e = absurd (omega (arith, ap length (sym (asks_nothing number) ∙ e)))
some_held number (b ∷ bs) x xs e = omega arith

-- and where that is a block which the input's end cuts, all of it goes
pub still_open : (old new : Reader) (item : Item) → item ≡ Open → IsAtFront old item → left new ≡ [] → count_taken new ≡ count_taken old
    → still_of new < still_of old
still_open old new item is front none counted =
    let here : IsAtFront old Open = subst (IsAtFront old) is front in
    omega (arith, some_held (next_number old) (left old) (item_asked old Open) [] here.1, ap length none, counted)
