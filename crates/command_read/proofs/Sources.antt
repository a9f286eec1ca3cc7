-- What calls that read from a source take together.
use Rattle.std.proofs.Common.{◌≡◌, ◌⊎◌, inl, inr, ℕ, Bool, true, false, List, [], ◌∷◌, ◌++◌, length, Option, Some, None, refl, sym, ap, ◌∙◌, subst, append_assoc, length-append, take, ◌<◌, true≢false, arith}
use Rattle.std.proofs.lemmas.Option.{none-some}
use Rattle.std.specs.Io.KnownBytes.{Consumes, IsAtEnd, Keeps}
use Rattle.std.proofs.KnownBytes.{Consumes-nil, Consumes-trans}
use Rattle.ls_port.specs.Causes.{Rose}
use Rattle.ls_text.specs.Readings.{TextFault}
use Rattle.std.specs.Prelude.{Result}
use Rattle.command_read.specs.declared.reader.Reader.{Reader}
use Rattle.command_read.specs.declared.stop.Stop.{Stop}
use Rattle.command_read.specs.declared.stop.Stop.TheVariants as stop
use Rattle.command_read.specs.Leading.{MayFollow}
use Rattle.command_read.specs.Asking.{Asked}
use Rattle.command_read.specs.Scripts.{asks}
use Rattle.command_read.specs.Readers.{left, next_number, has_ended, count_taken, stopped, asked_of, AreKept, Takes, HandsOut}

kept_on : (s : Option Stop) (before came kept : List ℕ) → AreKept s came kept → AreKept s (before ++ came) (before ++ kept)
kept_on None before came kept is = ap (λ c. before ++ c) is
kept_on (Some stop.End) before came kept is = ap (λ c. before ++ c) is
kept_on (Some stop.Fault) before came kept is = ap (λ c. before ++ c) is
kept_on (Some stop.TooMuch) before came kept is = (is.0, ap (λ c. before ++ c) is.1 ∙ sym (append_assoc before kept (is.0 ∷ [])))
kept_on (Some stop.NoMemory) before came kept is = (is.0, ap (λ c. before ++ c) is.1 ∙ sym (append_assoc before kept is.0))

pub going_kept : (s : Option Stop) (came kept : List ℕ) → s ≡ None → AreKept s came kept → came ≡ kept
going_kept s came kept going is = subst (λ t. AreKept t came kept) going is

not_stopped : (s : Option Stop) (t : Stop) → s ≡ None → s ≡ Some t → ⊥
not_stopped s t going stopped = none-some t (sym going ∙ stopped)

not_failed : (s : Option Stop) → s ≡ None → s ≡ Some stop.Fault → ⊥
not_failed s going failed = not_stopped s stop.Fault going failed

-- nothing is taken
pub takes_nothing : (before : Option (List ℕ)) (faults : ℕ) (r : Reader) → stopped r ≡ None → Takes before before faults faults r r [] []
takes_nothing before faults r going = record {
  consumed = Consumes-nil before;
  counted = omega arith;
  holds = subst (λ s. AreKept s [] []) (sym going) refl;
  failed = λ failed. absurd (not_failed (stopped r) going failed);
  unfailed = λ other. refl;
  ended = λ ended. inl ended;
  quiet = λ ended. (refl, refl, ended, refl);
  whole = λ ended. refl;
  faultless = λ ended failed. not_failed (stopped r) going failed;
  few = λ ended much. not_stopped (stopped r) stop.TooMuch going much;
}

-- one call after another
pub takes_on : (a b c : Option (List ℕ)) (f g h : ℕ) (old mid new : Reader) (c1 k1 c2 k2 : List ℕ) → Takes a b f g old mid c1 k1 → stopped mid ≡ None
    → Takes b c g h mid new c2 k2 → Takes a c f h old new (c1 ++ c2) (k1 ++ k2)
takes_on a b c f g h old mid new c1 k1 c2 k2 first going second =
    let same : c1 ≡ k1 = going_kept (stopped mid) c1 k1 going first.holds in
    let count : g ≡ f = first.unfailed (not_failed (stopped mid) going) in
    record {
      consumed = Consumes-trans a b c c1 c2 first.consumed second.consumed;
      counted = omega (arith, first.counted, second.counted, length-append c1 c2);
      holds = subst (λ k. AreKept (stopped new) (c1 ++ c2) (k ++ k2)) same (kept_on (stopped new) c1 c2 k2 second.holds);
      failed = λ failed. subst (λ n. Rose n h) count (second.failed failed);
      unfailed = λ other. second.unfailed other ∙ count;
      ended = λ ended. by_end (second.ended ended);
      quiet = λ ended.
          let once = first.quiet ended in
          let twice = second.quiet once.2 in
          (ap (λ l. l ++ c2) once.0 ∙ twice.0, ap (λ l. l ++ k2) once.1 ∙ twice.1, twice.2, twice.3 ∙ once.3);
      whole = λ ended. ap (λ l. l ++ c2) same ∙ ap (λ l. k1 ++ l) (second.whole ended);
      faultless = second.faultless;
      few = second.few;
    }
  where
    by_mid : (has_ended mid ≡ true) → (has_ended old ≡ true) ⊎ IsAtEnd b → (has_ended old ≡ true) ⊎ IsAtEnd c
    by_mid ended (inl before) = inl before
    by_mid ended (inr end) = inr (subst IsAtEnd (sym (second.quiet ended).3) end)

    by_end : (has_ended mid ≡ true) ⊎ IsAtEnd c → (has_ended old ≡ true) ⊎ IsAtEnd c
    by_end (inl ended) = by_mid ended (first.ended ended)
    by_end (inr end) = inr end

follow_kept : (b now : Bool) (kept more : List ℕ) (end : Bool) → (b ≡ true → (kept ≡ []) × (now ≡ true)) → MayFollow now more end → MayFollow b (kept ++ more) end
follow_kept false now kept more end quiet follows = tt
follow_kept true now kept more end quiet follows =
    let still = quiet refl in
    let here : MayFollow true more end = subst (λ c. MayFollow c more end) still.1 follows in
    (ap (λ k. k ++ more) still.0 ∙ here.0, here.1)

-- what is handed out by one call after another
pub hands_on : (old mid new : Reader) (t1 t2 : List (Result Asked TextFault)) (k1 k2 : List ℕ) → HandsOut old mid t1 k1 → HandsOut mid new t2 k2
    → (has_ended mid ≡ true → (k2 ≡ []) × (has_ended new ≡ true)) → HandsOut old new (t1 ++ t2) (k1 ++ k2)
hands_on old mid new t1 t2 k1 k2 first second quiet more end follows =
    ap (λ b. asked_of old b end) (append_assoc k1 k2 more) ∙ first (k2 ++ more) end (follow_kept (has_ended mid) (has_ended new) k2 more end quiet follows)
    ∙ ap (λ a. t1 ++ a) (second more end follows) ∙ sym (append_assoc t1 t2 (asked_of new more end))

-- a reader that only holds more hands nothing out
pub holds_more : (old new : Reader) (kept : List ℕ) → left new ≡ left old ++ kept → next_number new ≡ next_number old → HandsOut old new [] kept
holds_more old new kept holds number more end follows =
    ap (asks end (next_number old)) (sym (append_assoc (left old) kept more) ∙ ap (λ l. l ++ more) (sym holds))
    ∙ ap (λ n. asks end n (left new ++ more)) (sym number)

nothing_consumed : (a b : Option (List ℕ)) → Keeps a b → Consumes a b []
nothing_consumed None b kept = tt
nothing_consumed (Some xs) None kept = absurd kept
nothing_consumed (Some xs) (Some ys) kept = sym kept

-- a read that saw the input's end
pub takes_end : (before behind : Option (List ℕ)) (f g : ℕ) (old new : Reader) (piece : List ℕ) (n : ℕ) → n ≡ 0 → Consumes before behind (take n piece)
    → (n ≡ 0 → 0 < length piece → IsAtEnd behind) → 0 < length piece → g ≡ f → count_taken new ≡ count_taken old → stopped new ≡ None → has_ended old ≡ false
    → Takes before behind f g old new [] []
takes_end before behind f g old new piece n none consumed end some same taken going more = record {
  consumed = subst (λ k. Consumes before behind (take k piece)) none consumed;
  counted = omega (arith, taken);
  holds = subst (λ s. AreKept s [] []) (sym going) refl;
  failed = λ failed. absurd (not_failed (stopped new) going failed);
  unfailed = λ other. same;
  ended = λ ended. inr (end none some);
  quiet = λ ended. absurd (true≢false (sym ended ∙ more));
  whole = λ ended. refl;
  faultless = λ ended failed. not_failed (stopped new) going failed;
  few = λ ended much. not_stopped (stopped new) stop.TooMuch going much;
}

-- a read that failed
pub takes_failed : (before behind : Option (List ℕ)) (f g : ℕ) (old new : Reader) → Keeps before behind → Rose f g → stopped new ≡ Some stop.Fault
    → count_taken new ≡ count_taken old → has_ended new ≡ has_ended old → has_ended old ≡ false → Takes before behind f g old new [] []
takes_failed before behind f g old new kept rose failed taken same more = record {
  consumed = nothing_consumed before behind kept;
  counted = omega (arith, taken);
  holds = subst (λ s. AreKept s [] []) (sym failed) refl;
  failed = λ here. rose;
  unfailed = λ other. absurd (other failed);
  ended = λ ended. inl (sym same ∙ ended);
  quiet = λ ended. absurd (true≢false (sym ended ∙ more));
  whole = λ ended. refl;
  faultless = λ ended stopped. true≢false (sym ended ∙ same ∙ more);
  few = λ ended stopped. true≢false (sym ended ∙ same ∙ more);
}

-- more is read behind what is held
pub reads_on : (a b c : Option (List ℕ)) (f g h : ℕ) (old mid new : Reader) (c1 k1 c2 k2 : List ℕ) → Takes a b f g old mid c1 k1 → left mid ≡ left old ++ k1 → stopped mid ≡ None
    → Takes b c g h mid new c2 k2 → left new ≡ left mid ++ k2 → (came : List ℕ) × (kept : List ℕ) × Takes a c f h old new came kept × (left new ≡ left old ++ kept)
reads_on a b c f g h old mid new c1 k1 c2 k2 first holds going second more =
    (c1 ++ c2, k1 ++ k2, takes_on a b c f g h old mid new c1 k1 c2 k2 first going second, more ∙ ap (λ l. l ++ k2) holds ∙ append_assoc (left old) k1 k2)

pub only_same : (P A B Q : Type 0) → (P × A × B) ⊎ Q → P ⊎ Q
only_same P A B Q (inl same) = inl same.0
only_same P A B Q (inr is) = inr is
