-- Commands up to the first `quit`.
use Rattle.std.proofs.Common.{◌≡◌, ℕ, ◌≤◌, Bool, true, false, ◌||◌, cond, List, [], ◌∷◌, ◌++◌, length, take, Result, refl, sym, ap, ◌∙◌, append-nil, append_assoc, true≢false}
use Rattle.std.specs.List.{list_any}
use Rattle.std.proofs.Math.Seq.{take-append_seam}
use Rattle.std.proofs.lemmas.List.{take_all}
use Rattle.std.proofs.lemmas.List.Folds.{list_any-append}
use Rattle.std.proofs.lemmas.Bool.{or_parts}
use Rattle.ls_text.specs.Readings.{TextFault}
use Rattle.command_read.specs.Asking.{Asked}
use Rattle.command_read.specs.Leading.{MayFollow}
use Rattle.command_read.specs.Readers.{has_ended, asked_of}
use Rattle.command_read.specs.Runs.{HasTold}
use Rattle.command_read.specs.Scripts.{asks, commands, is_quit, up_to_quit}
use Rattle.command_read.specs.declared.reader.Reader.{Reader}
use Rattle.livesim.specs.Runs.{end_with_quit}

abbrev Told : Type 0
Told = List (Result Asked TextFault)

-- none of them is `quit`, or the last one alone
abbrev pub EndsAt : (quit : Bool) → Told → Type 0
EndsAt false told = list_any is_quit told ≡ false
EndsAt true told =
    (front : Told) × (last : Result Asked TextFault) × (told ≡ front ++ last ∷ []) × (list_any is_quit front ≡ false) × (is_quit last ≡ true)

-- what counts of what is behind
abbrev pub counted : (quit : Bool) → (more : Told) → Told
counted true more = []
counted false more = up_to_quit more

none_quits : (xs ys : Told) → list_any is_quit xs ≡ false → up_to_quit (xs ++ ys) ≡ xs ++ up_to_quit ys
none_quits [] ys none = refl
none_quits (x ∷ xs) ys none =
    ap (λ q. x ∷ cond q [] (up_to_quit (xs ++ ys))) (or_parts (is_quit x) (list_any is_quit xs) none).0
    ∙ ap (λ more. x ∷ more) (none_quits xs ys (or_parts (is_quit x) (list_any is_quit xs) none).1)

-- the commands up to the first `quit` are these, and then what counts behind them
pub up_to : (quit : Bool) (told more : Told) → EndsAt quit told → up_to_quit (told ++ more) ≡ told ++ counted quit more
up_to false told more ends = none_quits told more ends
up_to true told more ends =
    let front = ends.0 in
    let last = ends.1 in
    ap (λ t. up_to_quit (t ++ more)) ends.2 ∙ ap up_to_quit (append_assoc front (last ∷ []) more) ∙ none_quits front (last ∷ more) ends.3
    ∙ ap (λ q. front ++ last ∷ cond q [] (up_to_quit more)) ends.4 ∙ sym ends.2 ∙ sym (append-nil told)

-- one more
pub more_ends : (told : Told) (x : Result Asked TextFault) → list_any is_quit told ≡ false → EndsAt (is_quit x) (told ++ x ∷ [])
more_ends told x none = by (is_quit x) refl
  where
    by : (q : Bool) → is_quit x ≡ q → EndsAt q (told ++ x ∷ [])
    by true is = (told, x, refl, none, is)
    by false is =
        list_any-append is_quit told (x ∷ []) ∙ ap (λ b. b || (is_quit x || false)) none ∙ ap (λ q. q || false) is

quits_last : (front : Told) (last : Result Asked TextFault) → end_with_quit (front ++ last ∷ []) ≡ is_quit last
quits_last [] last = refl
quits_last (x ∷ []) last = refl
quits_last (x ∷ y ∷ front) last = quits_last (y ∷ front) last

none_last : (told : Told) → list_any is_quit told ≡ false → end_with_quit told ≡ false
none_last [] none = refl
none_last (x ∷ []) none = (or_parts (is_quit x) false none).0
none_last (x ∷ y ∷ told) none = none_last (y ∷ told) (or_parts (is_quit x) (list_any is_quit (y ∷ told)) none).1

-- where none is `quit` the last one isn't
pub never_quits : (told : Told) → list_any is_quit told ≡ false → end_with_quit told ≡ true → ⊥
never_quits told none quits = true≢false (sym quits ∙ none_last told none)

pub ends_with : (told : Told) → EndsAt true told → end_with_quit told ≡ true
ends_with told ends = ap end_with_quit ends.2 ∙ quits_last ends.0 ends.1 ∙ ends.4

-- what the first bytes ask for, where a reader has told some of it
pub commands_are : (r : Reader) (bytes kept lost : List ℕ) (told : Told) (quit end : Bool) → HasTold r kept told → MayFollow (has_ended r) lost end
    → take 67108864 bytes ≡ kept ++ lost → EndsAt quit told → commands bytes end ≡ told ++ counted quit (asked_of r lost end)
unfolding commands
commands_are r bytes kept lost told quit end has follows front ends =
    ap (λ b. up_to_quit (asks end 1 b)) front ∙ ap up_to_quit (has.asked lost end follows) ∙ up_to quit told (asked_of r lost end) ends

-- bytes within the limit are the first ones
pub few_front : (limit : ℕ) (bytes : List ℕ) → length bytes ≤ limit → take limit bytes ≡ bytes
few_front limit bytes few = take_all limit bytes few

-- and so are all but the one above it
pub most_front : (limit last : ℕ) (bytes kept : List ℕ) → bytes ≡ kept ++ last ∷ [] → length kept ≡ limit → take limit bytes ≡ kept
most_front limit last bytes kept is count =
    ap (take limit) is ∙ ap (λ n. take n (kept ++ last ∷ [])) (sym count) ∙ take-append_seam kept (last ∷ [])

-- the same, where some more was told that isn't answered
pub commands_then : (r : Reader) (bytes kept lost : List ℕ) (told more : Told) (end : Bool) → HasTold r kept (told ++ more) → MayFollow (has_ended r) lost end
    → take 67108864 bytes ≡ kept ++ lost → list_any is_quit told ≡ false → commands bytes end ≡ told ++ up_to_quit (more ++ asked_of r lost end)
unfolding commands
commands_then r bytes kept lost told more end has follows front none =
    ap (λ b. up_to_quit (asks end 1 b)) front ∙ ap up_to_quit (has.asked lost end follows ∙ append_assoc told more (asked_of r lost end))
    ∙ none_quits told (more ++ asked_of r lost end) none
