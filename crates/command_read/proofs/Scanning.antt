-- What the lines from a place on ask for.
use Rattle.std.proofs.Common.{◌≡◌, ℕ, ◌+◌, ◌≤◌, Bool, true, false, eqb, cond, ◌||◌, List, [], ◌∷◌, ◌++◌, length, drop, refl, sym, ap, ◌∙◌, subst, append-nil, append_assoc, true≢false}
use Rattle.std.specs.Prelude.{codes, slice_index}
use Rattle.std.specs.Str.{bytes_eq}
use Rattle.std.specs.Cmp.Lexicographic.{bytes_decides}
use Rattle.std.proofs.lemmas.List.{drop-append-le}
use Rattle.command_read.specs.Lines.{script_lines, words, is_skipped, are_just}
use Rattle.command_read.specs.Leading.{MayFollow, Leads}
use Rattle.command_read.specs.LineCommands.{line_command}
use Rattle.command_read.specs.Scripts.{Stand, Outside, Within, stand_behind, asked_at, asked_last, asked_by, asks}
use Rattle.command_read.specs.Scanned.{Scanned}

pub scan_front : (ended : Bool) (number : ℕ) (bytes : List ℕ) → Scanned ended number bytes Outside number 0
unfolding asks
scan_front ended number bytes = record { rest = λ more end follows. refl }

-- one line more, which by itself asks for nothing
pub scan_line : (ended : Bool) (number : ℕ) (bytes : List ℕ) (stand : Stand) (at next after : ℕ) (line : List ℕ) → Scanned ended number bytes stand at next
    → Leads ended (drop next bytes) line (drop after bytes) → asked_at stand at line ≡ [] → Scanned ended number bytes (stand_behind stand at line) (at + 1) after
scan_line ended number bytes stand at next after line so_far leads none = record {
  rest = λ more end follows.
      so_far.rest more end follows ∙ ap (asked_by end stand at) (leads.lines more end follows)
      ∙ ap (λ a. a ++ asked_by end (stand_behind stand at line) (at + 1) (script_lines end (drop after bytes ++ more))) none;
}

follow_on : (ended now : Bool) (came more : List ℕ) (end : Bool) → (ended ≡ true → (came ≡ []) × (now ≡ true)) → MayFollow now more end → MayFollow ended (came ++ more) end
follow_on false now came more end quiet follows = tt
follow_on true now came more end quiet follows =
    let still = quiet refl in
    let here : MayFollow true more end = subst (λ b. MayFollow b more end) still.1 follows in
    (ap (λ c. c ++ more) still.0 ∙ here.0, here.1)

-- more bytes behind
pub scan_more : (ended now : Bool) (number : ℕ) (bytes came : List ℕ) (stand : Stand) (line next : ℕ) → Scanned ended number bytes stand line next → next ≤ length bytes
    → (ended ≡ true → (came ≡ []) × (now ≡ true)) → Scanned now number (bytes ++ came) stand line next
scan_more ended now number bytes came stand line next so_far within quiet = record {
  rest = λ more end follows.
      ap (asks end number) (append_assoc bytes came more) ∙ so_far.rest (came ++ more) end (follow_on ended now came more end quiet follows)
      ∙ ap (λ b. asked_by end stand line (script_lines end b)) (sym (append_assoc (drop next bytes) came more))
      ∙ ap (λ b. asked_by end stand line (script_lines end (b ++ more))) (sym (drop-append-le next bytes came within));
}

-- what is asked for, where no line is left
pub scan_none : (ended : Bool) (number : ℕ) (bytes : List ℕ) (stand : Stand) (line next : ℕ) → Scanned ended number bytes stand line next
    → script_lines ended (drop next bytes) ≡ [] → asks ended number bytes ≡ asked_last ended stand
scan_none ended number bytes stand line next so_far none =
    ap (asks ended number) (sym (append-nil bytes)) ∙ so_far.rest [] ended (by ended)
    ∙ ap (λ b. asked_by ended stand line (script_lines ended b)) (append-nil (drop next bytes)) ∙ ap (asked_by ended stand line) none
  where
    by : (e : Bool) → MayFollow e [] e
    by true = (refl, refl)
    by false = tt

-- a line that is skipped is no `edit`
not_edit : (ws : List (List ℕ)) → is_skipped ws ≡ true → are_just (codes "edit") ws ≡ false
not_edit [] skipped = refl
not_edit (w ∷ []) skipped =
    by (bytes_eq w (codes "edit")) refl
  where
    by : (b : Bool) → bytes_eq w (codes "edit") ≡ b → b ≡ false
    by false h = refl
    by true h = absurd (true≢false (sym skipped ∙ ap (λ v. eqb (slice_index v 0) 35) ((bytes_decides w (codes "edit")).0 h)))
not_edit (w ∷ v ∷ ws) skipped = refl

pub skips : (number : ℕ) (line : List ℕ) → is_skipped (words line) ≡ true → asked_at Outside number line ≡ []
skips number line skipped =
    ap (λ b. cond (b || are_just (codes "edit") (words line)) [] (line_command number (words line) ∷ [])) skipped

pub stays_outside : (number : ℕ) (line : List ℕ) → is_skipped (words line) ≡ true → stand_behind Outside number line ≡ Outside
stays_outside number line skipped = ap (λ b. cond b (Within number [] false) Outside) (not_edit (words line) skipped)
