-- The commands of bytes that are cut, and what readers tell of them.
use Rattle.std.proofs.Common.{◌≡◌, ℕ, zero, suc, ◌+◌, ◌-◌, ◌≤◌, Bool, true, false, eqb, cond, List, [], ◌∷◌, ◌++◌, length, take, Result, refl, sym, ap, ◌∙◌, subst, append-nil, append_assoc, arith}
use Rattle.std.proofs.lemmas.List.{take_all}
use Rattle.std.specs.Str.Lines.{strip_carriage_return}
use Rattle.ls_text.specs.Readings.{TextFault}
use Rattle.command_read.specs.declared.reader.Reader.{Reader}
use Rattle.command_read.specs.Lines.{lines_behind, script_lines}
use Rattle.command_read.specs.Leading.{MayFollow}
use Rattle.command_read.specs.Asking.{Asked}
use Rattle.command_read.specs.Scripts.{Stand, Outside, Within, stand_behind, asked_at, asked_by, asks, is_quit, up_to_quit, commands}
use Rattle.command_read.specs.Readers.{left, next_number, has_ended, asked_of, HandsOut}
use Rattle.command_read.specs.Runs.{Continues, HasTold}

-- the lines of bytes that are cut begin those of the bytes and more
lines_begin : (end : Bool) (begun bytes more : List ℕ) → (rest : List (List ℕ)) × (lines_behind end begun (bytes ++ more) ≡ lines_behind false begun bytes ++ rest)
lines_begin end begun [] more = (lines_behind end begun more, refl)
lines_begin end begun (b ∷ bs) more =
    by (eqb b 10) (lines_begin end [] bs more) (lines_begin end (begun ++ b ∷ []) bs more)
  where
    by : (c : Bool) → (rest : List (List ℕ)) × (lines_behind end [] (bs ++ more) ≡ lines_behind false [] bs ++ rest)
        → (rest : List (List ℕ)) × (lines_behind end (begun ++ b ∷ []) (bs ++ more) ≡ lines_behind false (begun ++ b ∷ []) bs ++ rest)
        → (rest : List (List ℕ)) × (cond c (strip_carriage_return begun ∷ lines_behind end [] (bs ++ more)) (lines_behind end (begun ++ b ∷ []) (bs ++ more))
        ≡ cond c (strip_carriage_return begun ∷ lines_behind false [] bs) (lines_behind false (begun ++ b ∷ []) bs) ++ rest)
    by true one other = (one.0, ap (λ ls. strip_carriage_return begun ∷ ls) one.1)
    by false one other = other

-- what lines ask for behind which more come begins what all ask for
asked_begin : (end : Bool) (stand : Stand) (number : ℕ) (lines more : List (List ℕ)) → Continues (asked_by false stand number lines) (asked_by end stand number (lines ++ more))
asked_begin end Outside number [] more = (asked_by end Outside number more, refl)
asked_begin end (Within first before in_text) number [] more = (asked_by end (Within first before in_text) number more, refl)
asked_begin end stand number (l ∷ ls) more =
    let rest = asked_begin end (stand_behind stand number l) (number + 1) ls more in
    (rest.0, ap (λ a. asked_at stand number l ++ a) rest.1 ∙ sym (append_assoc (asked_at stand number l) (asked_by false (stand_behind stand number l) (number + 1) ls) rest.0))

-- what bytes ask for that are cut begins what the bytes and more ask for
pub asks_begin : (end : Bool) (number : ℕ) (bytes more : List ℕ) → Continues (asks false number bytes) (asks end number (bytes ++ more))
unfolding asks script_lines
asks_begin end number bytes more =
    let lines = lines_begin end [] bytes more in
    let rest = asked_begin end Outside number (lines_behind false [] bytes) lines.0 in
    (rest.0, ap (asked_by end Outside number) lines.1 ∙ rest.1)

quits_begin : (xs ys : List (Result Asked TextFault)) → Continues (up_to_quit xs) (up_to_quit (xs ++ ys))
quits_begin [] ys = (up_to_quit ys, refl)
quits_begin (x ∷ xs) ys = by (is_quit x) (quits_begin xs ys)
  where
    by : (b : Bool) → Continues (up_to_quit xs) (up_to_quit (xs ++ ys)) → Continues (x ∷ cond b [] (up_to_quit xs)) (x ∷ cond b [] (up_to_quit (xs ++ ys)))
    by true rest = ([], refl)
    by false rest = (rest.0, ap (λ a. x ∷ a) rest.1)

taken : (n : ℕ) (xs ys : List ℕ) → length xs ≤ n → take n (xs ++ ys) ≡ xs ++ take (n - length xs) ys
taken n [] ys within = let same : n ≡ n - 0 = omega arith in ap (λ k. take k ys) same
taken zero (x ∷ xs) ys within = absurd (omega (arith, within))
taken (suc n) (x ∷ xs) ys within =
    let same : n - length xs ≡ suc n - length (x ∷ xs) = omega arith in
    ap (λ l. x ∷ l) (taken n xs ys (omega (arith, within))) ∙ ap (λ k. x ∷ (xs ++ take k ys)) same

-- the commands of a script that is cut begin those of the whole script
pub commands_begin : (bytes more : List ℕ) (end : Bool) → length bytes ≤ 67108864 → Continues (commands bytes false) (commands (bytes ++ more) end)
unfolding commands
commands_begin bytes more end few =
    let rest = asks_begin end 1 bytes (take (67108864 - length bytes) more) in
    let quits = quits_begin (asks false 1 bytes) rest.0 in (
      quits.0,
      ap (λ b. up_to_quit (asks end 1 b)) (taken 67108864 bytes more few) ∙ ap up_to_quit rest.1 ∙ quits.1
          ∙ ap (λ b. up_to_quit (asks false 1 b) ++ quits.0) (sym (take_all 67108864 bytes few)),
    )

-- what a reader has told
pub told_begins : (r : Reader) → left r ≡ [] → next_number r ≡ 1 → HasTold r [] []
told_begins r none one = record {
  asked = λ more end follows. ap (λ n. asks end n more) (sym one) ∙ ap (λ l. asks end (next_number r) (l ++ more)) (sym none);
}

follow_kept : (b now : Bool) (kept more : List ℕ) (end : Bool) → (b ≡ true → (kept ≡ []) × (now ≡ true)) → MayFollow now more end → MayFollow b (kept ++ more) end
follow_kept false now kept more end quiet follows = tt
follow_kept true now kept more end quiet follows =
    let still = quiet refl in
    let here : MayFollow true more end = subst (λ c. MayFollow c more end) still.1 follows in
    (ap (λ k. k ++ more) still.0 ∙ here.0, here.1)

pub told_on : (old new : Reader) (bytes kept : List ℕ) (before now : List (Result Asked TextFault)) → HasTold old bytes before
    → (has_ended old ≡ true → (kept ≡ []) × (has_ended new ≡ true)) → HandsOut old new now kept → HasTold new (bytes ++ kept) (before ++ now)
told_on old new bytes kept before now so_far quiet hands = record {
  asked = λ more end follows.
      ap (asks end 1) (append_assoc bytes kept more)
      ∙ so_far.asked (kept ++ more) end (follow_kept (has_ended old) (has_ended new) kept more end quiet follows)
      ∙ ap (λ a. before ++ a) (hands more end follows) ∙ sym (append_assoc before now (asked_of new more end));
}

pub told_all : (r : Reader) (bytes : List ℕ) (told : List (Result Asked TextFault)) (end : Bool) → HasTold r bytes told → has_ended r ≡ end → asked_of r [] end ≡ []
    → told ≡ asks end 1 bytes
told_all r bytes told end so_far ended none =
    sym (ap (asks end 1) (sym (append-nil bytes)) ∙ so_far.asked [] end (subst (λ e. MayFollow e [] end) (sym ended) (last end)) ∙ ap (λ a. told ++ a) none ∙ append-nil told)
  where
    last : (e : Bool) → MayFollow e [] e
    last true = (refl, refl)
    last false = tt
