-- Lines outside of blocks.
use Rattle.std.proofs.Common.{◌≡◌, ◌⊎◌, inl, inr, ℕ, ◌+◌, ◌-◌, Bool, true, false, cond, ◌||◌, List, [], ◌∷◌, ◌++◌, take, drop, Option, None, refl, sym, ap, ◌∙◌, subst, append-nil, arith}
use Rattle.std.specs.Prelude.{codes}
use Rattle.command_read.specs.declared.reader.Reader.{Reader}
use Rattle.command_read.specs.declared.line_end.LineEnd.{LineEnd}
use Rattle.command_read.specs.Lines.{script_lines, words, is_skipped, are_just}
use Rattle.command_read.specs.Leading.{MayFollow}
use Rattle.command_read.specs.LineEnds.{IsLineAt}
use Rattle.command_read.specs.LineCommands.{line_command}
use Rattle.command_read.specs.Scripts.{Outside, Within, asked_at, stand_behind, asked_by, asks}
use Rattle.command_read.specs.Scanned.{Scanned}
use Rattle.command_read.specs.Readers.{left, next_number, has_ended, count_taken, stopped, asked_of, AreKept, Takes, HandsOut}
use Rattle.command_read.specs.Found.{IsEndOf, AsksFirst}
use Rattle.command_read.proofs.Scanning.{scan_front, scan_line, scan_none, skips, stays_outside}
use Rattle.command_read.proofs.Sources.{takes_on, hands_on, holds_more}

-- a line at the front
pub line_at_front : (r : Reader) (f : LineEnd) → IsEndOf r 0 f → IsLineAt (has_ended r) (left r) f.end f.next
line_at_front r f found =
    let one : f.end - 0 ≡ f.end = omega arith in
    let two : f.next - 0 ≡ f.next = omega arith in
    subst (λ k. IsLineAt (has_ended r) (left r) f.end k) two (subst (λ k. IsLineAt (has_ended r) (left r) k (f.next - 0)) one found.is)

-- what a reader has taken goes by its counts alone
pub takes_same : (a b : Option (List ℕ)) (f g : ℕ) (old mid new : Reader) (came kept : List ℕ) → Takes a b f g old mid came kept → count_taken new ≡ count_taken mid
    → stopped new ≡ stopped mid → has_ended new ≡ has_ended mid → Takes a b f g old new came kept
takes_same a b f g old mid new came kept takes taken stop ended = record {
  consumed = takes.consumed;
  counted = taken ∙ takes.counted;
  holds = subst (λ s. AreKept s came kept) (sym stop) takes.holds;
  failed = λ failed. takes.failed (sym stop ∙ failed);
  unfailed = λ other. takes.unfailed (λ failed. other (stop ∙ failed));
  ended = λ is. takes.ended (sym ended ∙ is);
  quiet = λ is. let still = takes.quiet is in (still.0, still.1, ended ∙ still.2, still.3);
  whole = λ is. takes.whole (sym ended ∙ is);
  faultless = λ is failed. takes.faultless (sym ended ∙ is) (sym stop ∙ failed);
  few = λ is much. takes.few (sym ended ∙ is) (sym stop ∙ much);
}

-- more is read behind what was skipped
pub goes_on : (a b c : Option (List ℕ)) (f g h : ℕ) (old mid new : Reader) (c1 k1 c2 k2 : List ℕ) → Takes a b f g old mid c1 k1 → HandsOut old mid [] k1 → stopped mid ≡ None
    → Takes b c g h mid new c2 k2 → left new ≡ left mid ++ k2 → next_number new ≡ next_number mid → (came : List ℕ) × (kept : List ℕ) × Takes a c f h old new came kept × HandsOut old new [] kept
goes_on a b c f g h old mid new c1 k1 c2 k2 first hands going second holds number = (
  c1 ++ c2,
  k1 ++ k2,
  takes_on a b c f g h old mid new c1 k1 c2 k2 first going second,
  hands_on old mid new [] [] k1 k2 hands (holds_more mid new k2 holds number) (λ ended. let still = second.quiet ended in (still.1, still.2)),
)

-- a line that is skipped is handed out, and nothing is told
pub passes_line : (old new : Reader) (len next : ℕ) → IsLineAt (has_ended old) (left old) len next → is_skipped (words (take len (left old))) ≡ true → left new ≡ drop next (left old)
    → next_number new ≡ next_number old + 1 → has_ended new ≡ has_ended old → HandsOut old new [] []
unfolding asks
passes_line old new len next is skipped behind number ended more end follows =
    let n = next_number old in
    let line = take len (left old) in
    let scan = scan_line (has_ended old) n (left old) Outside n 0 next line (scan_front (has_ended old) n (left old)) is.leads (skips n line skipped) in
    scan.rest more end (subst (λ e. MayFollow e more end) ended follows)
    ∙ ap (λ s. asked_by end s (n + 1) (script_lines end (drop next (left old) ++ more))) (stays_outside n line skipped)
    ∙ ap (λ k. asked_by end Outside k (script_lines end (drop next (left old) ++ more))) (sym number)
    ∙ ap (λ l. asked_by end Outside (next_number new) (script_lines end (l ++ more))) (sym behind)

-- nothing is asked for, where there is no line
pub no_line_asks : (r : Reader) (end : Bool) → script_lines end (left r) ≡ [] → asked_of r [] end ≡ []
no_line_asks r end none = ap (asks end (next_number r)) (append-nil (left r)) ∙ scan_none end (next_number r) (left r) Outside (next_number r) 0 (scan_front end (next_number r) (left r)) none

-- a line that isn't skipped and no `edit` is asked for first
pub asks_line : (r : Reader) (len next : ℕ) → IsLineAt (has_ended r) (left r) len next → is_skipped (words (take len (left r))) ≡ false
    → are_just (codes "edit") (words (take len (left r))) ≡ false → AsksFirst r (line_command (next_number r) (words (take len (left r)))) next 1
unfolding asks
asks_line r len next is told other more end follows =
    let n = next_number r in
    let line = take len (left r) in
    let here = scan_front (has_ended r) n (left r) in
    let said : asked_at Outside n line ≡ line_command n (words line) ∷ []
    = ap (λ b. cond (b || are_just (codes "edit") (words line)) [] (line_command n (words line) ∷ [])) told
    ∙ ap (λ b. cond b [] (line_command n (words line) ∷ [])) other in
    let stays : stand_behind Outside n line ≡ Outside = ap (λ b. cond b (Within n [] false) Outside) other in
    here.rest more end follows ∙ ap (asked_by end Outside n) (is.leads.lines more end follows)
    ∙ ap (λ a. a ++ asked_by end (stand_behind Outside n line) (n + 1) (script_lines end (drop next (left r) ++ more))) said
    ∙ ap (λ s. line_command n (words line) ∷ asked_by end s (n + 1) (script_lines end (drop next (left r) ++ more))) stays

-- an `edit` opens a block
pub opens_block : (r : Reader) (len next : ℕ) → IsLineAt (has_ended r) (left r) len next → is_skipped (words (take len (left r))) ≡ false
    → are_just (codes "edit") (words (take len (left r))) ≡ true → Scanned (has_ended r) (next_number r) (left r) (Within (next_number r) [] false) (next_number r + 1) next
opens_block r len next is told edit =
    let n = next_number r in
    let line = take len (left r) in
    let none : asked_at Outside n line ≡ []
    = ap (λ b. cond (b || are_just (codes "edit") (words line)) [] (line_command n (words line) ∷ [])) told
    ∙ ap (λ b. cond b [] (line_command n (words line) ∷ [])) edit in
    let stand : stand_behind Outside n line ≡ Within n [] false = ap (λ b. cond b (Within n [] false) Outside) edit in
    subst (λ s. Scanned (has_ended r) n (left r) s (n + 1) next) stand
    (scan_line (has_ended r) n (left r) Outside n 0 next line (scan_front (has_ended r) n (left r)) is.leads none)

-- where a line is read, nothing was asked for before
pub unread_line : (P Q R : Type 0) (first old new : Reader) → (P → Q → R) → (P × (has_ended old ≡ has_ended first) × (has_ended first ≡ false → asked_of old [] false ≡ asked_of first [] false))
    ⊎ ((has_ended first ≡ false) × (asked_of first [] false ≡ []))
    → (Q × (left new ≡ left old) × (has_ended new ≡ has_ended old)) ⊎ ((has_ended old ≡ false) × (script_lines false (left old) ≡ [])) → next_number new ≡ next_number old
    → (R × (has_ended new ≡ has_ended first) × (has_ended first ≡ false → asked_of new [] false ≡ asked_of first [] false))
    ⊎ ((has_ended first ≡ false) × (asked_of first [] false ≡ []))
unread_line P Q R first old new join (inr is) next number = inr is
unread_line P Q R first old new join (inl same) (inl still) number =
    inl (
      join same.0 still.0,
      still.2 ∙ same.1,
      λ more.
          ap (λ n. asks false n (left new ++ [])) number ∙ ap (λ l. asks false (next_number old) (l ++ [])) still.1 ∙ same.2 more,
    )
unread_line P Q R first old new join (inl same) (inr none) number =
    let more = sym same.1 ∙ none.0 in
    inr (more, sym (same.2 more) ∙ no_line_asks old false none.1)

-- and so it stays as a line is skipped
pub unread_skipped : (P : Type 0) (first old new : Reader) → (P × (has_ended old ≡ has_ended first) × (has_ended first ≡ false → asked_of old [] false ≡ asked_of first [] false))
    ⊎ ((has_ended first ≡ false) × (asked_of first [] false ≡ []))
    → HandsOut old new [] [] → has_ended new ≡ has_ended old
    → (P × (has_ended new ≡ has_ended first) × (has_ended first ≡ false → asked_of new [] false ≡ asked_of first [] false))
    ⊎ ((has_ended first ≡ false) × (asked_of first [] false ≡ []))
unread_skipped P first old new (inr is) hands ended = inr is
unread_skipped P first old new (inl same) hands ended =
    inl (
      same.0,
      ended ∙ same.1,
      λ more.
          sym (hands [] false (subst (λ e. MayFollow e [] false) (sym (ended ∙ same.1 ∙ more)) tt)) ∙ same.2 more,
    )

-- a line that is skipped after one was read
pub skipped_on : (old mid new : Reader) (kept : List ℕ) → HandsOut old mid [] kept → HandsOut mid new [] [] → has_ended new ≡ has_ended mid
    → HandsOut old new [] kept
skipped_on old mid new kept first skips ended =
    subst (HandsOut old new []) (append-nil kept) (hands_on old mid new [] [] kept [] first skips (λ is. (refl, ended ∙ is)))
