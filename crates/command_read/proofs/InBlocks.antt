-- Lines of a block.
use Rattle.std.proofs.Common.{◌≡◌, ◌⊎◌, inl, inr, ℕ, ◌+◌, ◌-◌, ◌<◌, ◌≤◌, Bool, true, false, not, cond, List, [], ◌∷◌, ◌++◌, length, take, drop, Err, refl, sym, ap, ◌∙◌, subst, append-nil, arith}
use Rattle.std.proofs.lemmas.List.{drop-append-le, drop-drop, length-drop, drop_all, take-append-le, take-take, take-append-drop, drop-take}
use Rattle.std.specs.Prelude.{codes}
use Rattle.std.specs.Str.{bytes_eq}
use Rattle.command_read.specs.declared.reader.Reader.{Reader}
use Rattle.command_read.specs.declared.line_end.LineEnd.{LineEnd}
use Rattle.command_read.specs.Lines.{script_lines, words, are_just, begin_with}
use Rattle.command_read.specs.Leading.{Leads}
use Rattle.command_read.specs.LineEnds.{line_length}
use Rattle.command_read.specs.Asking.{fault_on}
use Rattle.command_read.specs.Blocks.{block_command}
use Rattle.command_read.specs.Scripts.{Outside, Within, asked_at, asked_last, stand_behind, asked_by, asks}
use Rattle.command_read.specs.Scanned.{Scanned}
use Rattle.command_read.specs.Readers.{left, next_number, has_ended, asked_of}
use Rattle.command_read.specs.Found.{IsEndOf, AsksFirst}
use Rattle.command_read.proofs.FirstLines.{IsCut, cut_nothing, cut_more, lines_more, nothing}
use Rattle.command_read.proofs.Scanning.{scan_line, scan_more, scan_none}

-- the lines of a block between its `edit` and a place
abbrev pub block_text : (body from : ℕ) → List ℕ → List ℕ
block_text body from bytes = take (from - body) (drop body bytes)

no_text : (body : ℕ) (bytes : List ℕ) → block_text body body bytes ≡ []
no_text body bytes = let none : body - body ≡ 0 = omega arith in ap (λ k. take k (drop body bytes)) none

-- at the beginning of a block
pub begins_block : (ended : Bool) (n body : ℕ) (bytes : List ℕ) → Scanned ended n bytes (Within n [] false) (n + 1) body
    → Scanned ended n bytes (Within n (script_lines true (block_text body body bytes)) false) (n + 1) body
begins_block ended n body bytes scan =
    subst (λ ls. Scanned ended n bytes (Within n ls false) (n + 1) body) (sym (ap (script_lines true) (no_text body bytes) ∙ nothing true)) scan

pub begins_whole : (body : ℕ) (bytes : List ℕ) → IsCut (block_text body body bytes)
begins_whole body bytes = subst IsCut (sym (no_text body bytes)) cut_nothing

-- more bytes behind leave the text of a block
more_behind : (body from : ℕ) (bytes kept : List ℕ) → body ≤ from → from ≤ length bytes → block_text body from (bytes ++ kept) ≡ block_text body from bytes
more_behind body from bytes kept low high =
    ap (take (from - body)) (drop-append-le body bytes kept (omega (arith, low, high)))
    ∙ take-append-le (from - body) (drop body bytes) kept (omega (arith, low, high, length-drop body bytes))

pub moved_whole : (body from : ℕ) (bytes kept new : List ℕ) → body ≤ from → from ≤ length bytes → new ≡ bytes ++ kept → IsCut (block_text body from bytes) → IsCut (block_text body from new)
moved_whole body from bytes kept new low high is whole = subst IsCut (sym (ap (block_text body from) is ∙ more_behind body from bytes kept low high)) whole

pub moved_scan : (old new : Reader) (kept : List ℕ) (body from lines : ℕ) (in_text : Bool) → left new ≡ left old ++ kept → next_number new ≡ next_number old → body ≤ from → from ≤ length (left old)
    → (has_ended old ≡ true → (kept ≡ []) × (has_ended new ≡ true))
    → Scanned (has_ended old) (next_number old) (left old) (Within (next_number old) (script_lines true (block_text body from (left old))) in_text) (next_number old + lines) from
    → Scanned (has_ended new) (next_number new) (left new) (Within (next_number new) (script_lines true (block_text body from (left new))) in_text) (next_number new + lines) from
moved_scan old new kept body from lines in_text is number low high quiet scan =
    let more = scan_more (has_ended old) (has_ended new) (next_number old) (left old) kept _ _ from scan high quiet in
    let here = subst (λ t. Scanned (has_ended new) (next_number old) (left old ++ kept) (Within (next_number old) (script_lines true t) in_text) (next_number old + lines) from)
    (sym (more_behind body from (left old) kept low high)) more in
    let there = subst (λ l. Scanned (has_ended new) (next_number old) l (Within (next_number old) (script_lines true (block_text body from l)) in_text) (next_number old + lines) from) (sym is) here in
    subst (λ n. Scanned (has_ended new) n (left new) (Within n (script_lines true (block_text body from (left new))) in_text) (n + lines) from) (sym number) there

abbrev pub before_of : (r : Reader) (body from : ℕ) → List (List ℕ)
before_of r body from = script_lines true (block_text body from (left r))

leads_on : (r : Reader) (from : ℕ) (f : LineEnd) (line : List ℕ) → IsEndOf r from f → line ≡ take (f.end - from) (drop from (left r)) → Leads (has_ended r) (drop from (left r)) line (drop f.next (left r))
leads_on r from f line found is =
    let there : drop (f.next - from) (drop from (left r)) ≡ drop f.next (left r)
    = drop-drop (f.next - from) from (left r) ∙ ap (λ k. drop k (left r)) (omega (arith, found.more)) in
    subst (λ l. Leads (has_ended r) (drop from (left r)) l (drop f.next (left r))) (sym is)
    (subst (Leads (has_ended r) (drop from (left r)) (take (f.end - from) (drop from (left r)))) there found.is.leads)

-- a lone `end` outside of texts ends the block
pub ends_block : (r : Reader) (body from lines : ℕ) (in_text : Bool) (f : LineEnd) (line : List ℕ)
    → Scanned (has_ended r) (next_number r) (left r) (Within (next_number r) (before_of r body from) in_text) (next_number r + lines) from
    → IsEndOf r from f → line ≡ take (f.end - from) (drop from (left r)) → in_text ≡ false → are_just (codes "end") (words line) ≡ true
    → AsksFirst r (block_command (next_number r) (before_of r body from)) f.next (lines + 1)
unfolding asks
ends_block r body from lines in_text f line scan found is outside end more ends follows =
    let n = next_number r in
    let before = before_of r body from in
    let here = subst (λ b. Scanned (has_ended r) n (left r) (Within n before b) (n + lines) from) outside scan in
    let said : asked_at (Within n before false) (n + lines) line ≡ block_command n before ∷ [] = ap (λ b. cond b (block_command n before ∷ []) []) end in
    let stand : stand_behind (Within n before false) (n + lines) line ≡ Outside
    = ap (λ b. cond b Outside (Within n (before ++ line ∷ []) (begin_with (codes "file") (words line)))) end in
    let rest = script_lines ends (drop f.next (left r) ++ more) in
    let number : n + lines + 1 ≡ n + (lines + 1) = omega arith in
    here.rest more ends follows ∙ ap (asked_by ends (Within n before false) (n + lines)) ((leads_on r from f line found is).lines more ends follows)
    ∙ ap (λ a. a ++ asked_by ends (stand_behind (Within n before false) (n + lines) line) (n + lines + 1) rest) said
    ∙ ap (λ s. block_command n before ∷ asked_by ends s (n + lines + 1) rest) stand
    ∙ ap (λ k. block_command n before ∷ asked_by ends Outside k rest) number

-- where the line behind a line of a block stands
abbrev pub text_behind : Bool → (line : List ℕ) → Bool
text_behind in_text line = cond in_text (not (bytes_eq line (codes "."))) (begin_with (codes "file") (words line))

says_nothing : (n at : ℕ) (before : List (List ℕ)) (in_text : Bool) (line : List ℕ) → (in_text ≡ false → are_just (codes "end") (words line) ≡ false)
    → (asked_at (Within n before in_text) at line ≡ []) × (stand_behind (Within n before in_text) at line ≡ Within n (before ++ line ∷ []) (text_behind in_text line))
says_nothing n at before true line other = (refl, refl)
says_nothing n at before false line other = (
  ap (λ b. cond b (block_command n before ∷ []) []) (other refl),
  ap (λ b. cond b Outside (Within n (before ++ line ∷ []) (begin_with (codes "file") (words line)))) (other refl),
)

-- another line is one more line of the block
pub scans_line : (r : Reader) (body from lines : ℕ) (in_text : Bool) (f : LineEnd) (line : List ℕ)
    → Scanned (has_ended r) (next_number r) (left r) (Within (next_number r) (before_of r body from) in_text) (next_number r + lines) from
    → IsEndOf r from f → line ≡ take (f.end - from) (drop from (left r)) → (in_text ≡ false → are_just (codes "end") (words line) ≡ false)
    → Scanned (has_ended r) (next_number r) (left r) (Within (next_number r) (before_of r body from ++ line ∷ []) (text_behind in_text line)) (next_number r + (lines + 1)) f.next
scans_line r body from lines in_text f line scan found is other =
    let n = next_number r in
    let before = before_of r body from in
    let nothing_said = says_nothing n (n + lines) before in_text line other in
    let number : n + lines + 1 ≡ n + (lines + 1) = omega arith in
    subst (λ k. Scanned (has_ended r) n (left r) (Within n (before ++ line ∷ []) (text_behind in_text line)) k f.next) number
    (subst (λ s. Scanned (has_ended r) n (left r) s (n + lines + 1) f.next) nothing_said.1
    (scan_line (has_ended r) n (left r) (Within n before in_text) (n + lines) from f.next line scan (leads_on r from f line found is) nothing_said.0))

take_both : (n m : ℕ) (xs : List ℕ) → take (n + m) xs ≡ take n xs ++ take m (drop n xs)
take_both n m xs =
    sym (take-append-drop n (take (n + m) xs)) ∙ ap (λ l. l ++ drop n (take (n + m) xs)) (take-take n (n + m) xs (omega arith)) ∙ ap (λ l. take n xs ++ l) (drop-take n m xs)

text_on : (body from next : ℕ) (bytes : List ℕ) → body ≤ from → from ≤ next → block_text body next bytes ≡ block_text body from bytes ++ take (next - from) (drop from bytes)
text_on body from next bytes low order =
    let sum : next - body ≡ (from - body) + (next - from) = omega (arith, low, order) in
    let there : drop (from - body) (drop body bytes) ≡ drop from bytes = drop-drop (from - body) body bytes ∙ ap (λ k. drop k bytes) (omega (arith, low)) in
    ap (λ k. take k (drop body bytes)) sum ∙ take_both (from - body) (next - from) (drop body bytes)
    ∙ ap (λ l. block_text body from bytes ++ take (next - from) l) there

-- and where a newline ends it, it goes on with whole lines
pub whole_on : (r : Reader) (body from : ℕ) (f : LineEnd) → IsEndOf r from f → body ≤ from → f.end < f.next → IsCut (block_text body from (left r)) → IsCut (block_text body f.next (left r))
whole_on r body from f found low more whole =
    let bytes = drop from (left r) in
    let next = found.is.newline (omega (arith, more, found.low)) in
    let within : line_length bytes < length bytes = omega (arith, next, found.is.within) in
    subst IsCut (sym (text_on body from f.next (left r) low (omega (arith, found.more)) ∙ ap (λ k. block_text body from (left r) ++ take k bytes) next))
    (cut_more (block_text body from (left r)) bytes (line_length bytes) whole refl within)

pub lines_on : (r : Reader) (body from : ℕ) (f : LineEnd) (line : List ℕ) → IsEndOf r from f → line ≡ take (f.end - from) (drop from (left r)) → body ≤ from → f.end < f.next
    → IsCut (block_text body from (left r)) → before_of r body f.next ≡ before_of r body from ++ line ∷ []
lines_on r body from f line found is low more whole =
    let bytes = drop from (left r) in
    let short : f.end - from < f.next - from = omega (arith, more, found.low) in
    let next = found.is.newline short in
    let within : line_length bytes < length bytes = omega (arith, next, found.is.within) in
    ap (script_lines true) (text_on body from f.next (left r) low (omega (arith, found.more)) ∙ ap (λ k. block_text body from (left r) ++ take k bytes) next)
    ∙ lines_more (block_text body from (left r)) bytes (line_length bytes) whole refl within
    ∙ ap (λ l. before_of r body from ++ l ∷ []) (sym (is ∙ found.is.strips short))

-- what is asked for where the input ends in the block
pub cut_block : (r : Reader) (before : List (List ℕ)) (in_text : Bool) (at from : ℕ) → Scanned (has_ended r) (next_number r) (left r) (Within (next_number r) before in_text) at from
    → script_lines (has_ended r) (drop from (left r)) ≡ [] → has_ended r ≡ true → asked_of r [] true ≡ Err (fault_on 66 (next_number r) []) ∷ []
cut_block r before in_text at from scan none ended =
    let n = next_number r in
    ap (λ e. asks e n (left r ++ [])) (sym ended) ∙ ap (asks (has_ended r) n) (append-nil (left r))
    ∙ scan_none (has_ended r) n (left r) (Within n before in_text) at from scan none ∙ ap (λ e. asked_last e (Within n before in_text)) ended

-- and where it goes on
pub open_block : (r : Reader) (ended : Bool) (before : List (List ℕ)) (in_text : Bool) (at from : ℕ) → Scanned ended (next_number r) (left r) (Within (next_number r) before in_text) at from
    → script_lines ended (drop from (left r)) ≡ [] → ended ≡ false → asked_of r [] false ≡ []
open_block r ended before in_text at from scan none more =
    let n = next_number r in
    ap (λ e. asks e n (left r ++ [])) (sym more) ∙ ap (asks ended n) (append-nil (left r))
    ∙ scan_none ended n (left r) (Within n before in_text) at from scan none ∙ ap (λ e. asked_last e (Within n before in_text)) more

-- the last line of a block that isn't its `end`
pub no_more_lines : (r : Reader) (from : ℕ) (f : LineEnd) → IsEndOf r from f → f.next ≡ f.end → (has_ended r ≡ true) × (script_lines (has_ended r) (drop f.next (left r)) ≡ [])
no_more_lines r from f found same =
    let last = found.is.last (omega (arith, same)) in
    let all : f.next ≡ length (left r) = omega (arith, last.0, found.more, found.high, length-drop from (left r)) in
    (last.1, ap (script_lines (has_ended r)) (drop_all f.next (left r) (omega (arith, all))) ∙ nothing (has_ended r))

-- where a line of a block is read, nothing was asked for before
pub unread_block : (P Q R : Type 0) (first old new : Reader) (before : List (List ℕ)) (in_text : Bool) (at from : ℕ) → (P → Q → R)
    → (P × (left old ≡ left first) × (has_ended old ≡ has_ended first)) ⊎ ((has_ended first ≡ false) × (asked_of first [] false ≡ []))
    → (Q × (left new ≡ left old) × (has_ended new ≡ has_ended old)) ⊎ ((has_ended old ≡ false) × (script_lines false (drop from (left old)) ≡ []))
    → Scanned (has_ended old) (next_number old) (left old) (Within (next_number old) before in_text) at from → next_number old ≡ next_number first
    → (R × (left new ≡ left first) × (has_ended new ≡ has_ended first)) ⊎ ((has_ended first ≡ false) × (asked_of first [] false ≡ []))
unread_block P Q R first old new before in_text at from join (inr is) next scan number = inr is
unread_block P Q R first old new before in_text at from join (inl same) (inl still) scan number = inl (join same.0 still.0, still.1 ∙ same.1, still.2 ∙ same.2)
unread_block P Q R first old new before in_text at from join (inl same) (inr none) scan number =
    let here = open_block old (has_ended old) before in_text at from scan (ap (λ e. script_lines e (drop from (left old))) none.0 ∙ none.1) none.0 in
    inr (sym same.2 ∙ none.0, ap (λ n. asks false n (left first ++ [])) (sym number) ∙ ap (λ l. asks false (next_number old) (l ++ [])) (sym same.1) ∙ here)
