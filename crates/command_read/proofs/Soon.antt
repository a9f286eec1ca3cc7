-- Nothing is read once something is complete.
use Rattle.std.proofs.Common.{◌≡◌, inl, inr, ℕ, ◌≤◌, Bool, true, false, List, [], ◌++◌, length, drop, Option, None, refl, sym, ap, ◌∙◌, subst, append-nil, append_assoc, true≢false}
use Rattle.std.proofs.lemmas.List.{drop-append-le}
use Rattle.command_read.specs.declared.reader.Reader.{Reader}
use Rattle.command_read.specs.Lines.{script_lines}
use Rattle.command_read.specs.Leading.{MayFollow}
use Rattle.command_read.specs.Scripts.{Outside, Within, asked_by, asks}
use Rattle.command_read.specs.Scanned.{Scanned}
use Rattle.command_read.specs.Readers.{left, next_number, has_ended, stopped, asked_of, IsSoon, IsSoonAt, Takes, HandsOut}
use Rattle.command_read.proofs.Scanning.{scan_front, scan_none}
use Rattle.command_read.proofs.Sources.{going_kept, takes_on, hands_on, holds_more}

-- a reader that hasn't ended hadn't before
open_before : (a b : Option (List ℕ)) (f g : ℕ) (old mid : Reader) (came kept : List ℕ) → Takes a b f g old mid came kept → has_ended mid ≡ false → has_ended old ≡ false
open_before a b f g old mid came kept takes more =
    by (has_ended old) refl
  where
    by : (e : Bool) → has_ended old ≡ e → has_ended old ≡ false
    by false is = is
    by true is = absurd (true≢false (sym (takes.quiet is).2 ∙ more))

-- a read where no line was complete
pub soon_read : (a b : Option (List ℕ)) (f g : ℕ) (from : ℕ) (old mid : Reader) (c1 k1 c2 : List ℕ) → Takes a b f g old mid c1 k1 → stopped mid ≡ None → left mid ≡ left old ++ k1
    → has_ended mid ≡ false → script_lines false (drop from (left mid)) ≡ [] → length c2 ≤ 65536 → IsSoonAt from old (c1 ++ c2)
soon_read a b f g from old mid c1 k1 c2 takes going holds more none few =
    let same : c1 ≡ k1 = going_kept (stopped mid) c1 k1 going takes.holds in
    inr (
      c1,
      c2,
      refl,
      few,
      open_before a b f g old mid c1 k1 takes more,
      ap (λ c. script_lines false (drop from (left old ++ c))) same ∙ ap (λ l. script_lines false (drop from l)) (sym holds) ∙ none,
    )

-- bytes without a line ask for nothing
asks_none : (number : ℕ) (bytes : List ℕ) → script_lines false bytes ≡ [] → asks false number bytes ≡ []
asks_none number bytes none = scan_none false number bytes Outside number 0 (scan_front false number bytes) none

-- what no line was complete with asked for nothing, outside of blocks
pub soon_outside : (r : Reader) (came : List ℕ) → IsSoonAt 0 r came → IsSoon r came
soon_outside r came (inl none) = inl none
soon_outside r came (inr is) = inr (is.0, is.1, is.2, is.3, is.4, asks_none (next_number r) (left r ++ is.0) is.5)

-- and in one
pub soon_within : (r : Reader) (before : List (List ℕ)) (in_text : Bool) (at from : ℕ) (came : List ℕ)
    → Scanned (has_ended r) (next_number r) (left r) (Within (next_number r) before in_text) at from → from ≤ length (left r) → IsSoonAt from r came → IsSoon r came
soon_within r before in_text at from came scan within (inl none) = inl none
soon_within r before in_text at from came scan within (inr is) =
    inr (
      is.0,
      is.1,
      is.2,
      is.3,
      is.4,
      scan.rest is.0 false (subst (λ e. MayFollow e is.0 false) (sym is.4) tt)
          ∙ ap (λ l. asked_by false (Within (next_number r) before in_text) at (script_lines false l)) (sym (drop-append-le from (left r) is.0 within))
          ∙ ap (asked_by false (Within (next_number r) before in_text) at) is.5,
    )

-- one call after another
pub soon_on : (a b : Option (List ℕ)) (f g : ℕ) (old mid : Reader) (c1 k1 c2 : List ℕ) → Takes a b f g old mid c1 k1 → stopped mid ≡ None → HandsOut old mid [] k1 → IsSoon old c1
    → IsSoon mid c2 → IsSoon old (c1 ++ c2)
soon_on a b f g old mid c1 k1 c2 takes going hands first (inl none) = subst (IsSoon old) (sym (ap (λ c. c1 ++ c) none ∙ append-nil c1)) first
soon_on a b f g old mid c1 k1 c2 takes going hands first (inr is) =
    let same : c1 ≡ k1 = going_kept (stopped mid) c1 k1 going takes.holds in
    inr (
      c1 ++ is.0,
      is.1,
      ap (λ c. c1 ++ c) is.2 ∙ sym (append_assoc c1 is.0 is.1),
      is.3,
      open_before a b f g old mid c1 k1 takes is.4,
      ap (λ c. asked_of old (c ++ is.0) false) same ∙ hands is.0 false (subst (λ e. MayFollow e is.0 false) (sym is.4) tt) ∙ is.5,
    )

-- where more is held alone
pub soon_held : (a b : Option (List ℕ)) (f g : ℕ) (old mid : Reader) (c1 k1 c2 : List ℕ) → Takes a b f g old mid c1 k1 → stopped mid ≡ None → left mid ≡ left old ++ k1
    → next_number mid ≡ next_number old → IsSoon old c1 → IsSoon mid c2 → IsSoon old (c1 ++ c2)
soon_held a b f g old mid c1 k1 c2 takes going holds number first second =
    soon_on a b f g old mid c1 k1 c2 takes going (holds_more old mid k1 holds number) first second

-- more is read behind what was skipped, or behind what is held
pub goes_soon : (a b c : Option (List ℕ)) (f g h : ℕ) (old mid new : Reader) (c1 k1 c2 k2 : List ℕ) → Takes a b f g old mid c1 k1 → HandsOut old mid [] k1 → IsSoon old c1 → stopped mid ≡ None
    → Takes b c g h mid new c2 k2 → left new ≡ left mid ++ k2 → IsSoon mid c2 → next_number new ≡ next_number mid
    → (came : List ℕ) × (kept : List ℕ) × Takes a c f h old new came kept × HandsOut old new [] kept × IsSoon old came
goes_soon a b c f g h old mid new c1 k1 c2 k2 first hands soon going second holds next number = (
  c1 ++ c2,
  k1 ++ k2,
  takes_on a b c f g h old mid new c1 k1 c2 k2 first going second,
  hands_on old mid new [] [] k1 k2 hands (holds_more mid new k2 holds number) (λ ended. let still = second.quiet ended in (still.1, still.2)),
  soon_on a b f g old mid c1 k1 c2 first going hands soon next,
)

pub reads_soon : (a b c : Option (List ℕ)) (f g h : ℕ) (old mid new : Reader) (c1 k1 c2 k2 : List ℕ) → Takes a b f g old mid c1 k1 → left mid ≡ left old ++ k1
    → next_number mid ≡ next_number old → IsSoon old c1 → stopped mid ≡ None → Takes b c g h mid new c2 k2 → left new ≡ left mid ++ k2 → IsSoon mid c2
    → (came : List ℕ) × (kept : List ℕ) × Takes a c f h old new came kept × (left new ≡ left old ++ kept) × IsSoon old came
reads_soon a b c f g h old mid new c1 k1 c2 k2 first holds number soon going second more next = (
  c1 ++ c2,
  k1 ++ k2,
  takes_on a b c f g h old mid new c1 k1 c2 k2 first going second,
  more ∙ ap (λ l. l ++ k2) holds ∙ append_assoc (left old) k1 k2,
  soon_held a b f g old mid c1 k1 c2 first going holds number soon next,
)
