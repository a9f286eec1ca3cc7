-- Commands are of their form.
use Rattle.std.proofs.Common.{◌≡◌, ℕ, ◌+◌, ◌^◌, ◌<◌, ◌≤◌, Bool, true, false, ltb, leb, cond, ◌&&◌, ◌||◌, List, [], ◌∷◌, length, Option, Some, None, Result, Ok, Err, codes, refl, subst, arith}
use Rattle.std.specs.Prelude.{IfOk, IfSome}
use Rattle.std.specs.Str.{bytes_eq}
use Rattle.std.proofs.lemmas.Bool.{leb-true, ltb-false}
use Rattle.std.proofs.lemmas.List.Elements.{All-nil, All-cons, All-append, All-head}
use Rattle.std.specs.List.{All}
use Rattle.ls_text.specs.Readings.{TextFault, ◌>>=◌}
use Rattle.command_read.specs.Lines.{words, are_just, is_skipped, script_lines}
use Rattle.command_read.specs.Values.{count_of, setting_of, shown_of}
use Rattle.command_read.specs.Asking.{GivenFile, Block, Asked, Edits, Sets, Runs, Shows, Settles, AsksStatus, Quits, of_form, bad_command, fault_on}
use Rattle.command_read.specs.LineCommands.{just_one, lone, settings, set_command, run_command, show_command, passes_of, settle_with, settle_command, command_of, line_command}
use Rattle.command_read.specs.Blocks.{Entry, Skipped, Top, Clock, Gives, Loads, Operates, Reading, block_entry, names_file, with_file, with_entry, with_text, more_text, reading_behind, reading_of, begun_at, block_command}
use Rattle.command_read.specs.Scripts.{Stand, Outside, Within, stand_behind, asked_at, asked_last, asked_by, asks}
use Rattle.command_read.specs.Formed.{IsFormed, AsksFormed, AsksFormedFirst}
use Rattle.command_read.proofs.SmallValues.{IsSmallPair, count_small, setting_small}

-- a reading that goes on keeps what each step gives
then_ok : {A B : Type 0} (P : A → Type 0) (Q : B → Type 0) (r : Result A TextFault) (f : A → Result B TextFault) → IfOk r P → ((x : A) → P x → IfOk (f x) Q) → IfOk (r >>= f) Q
then_ok P Q (Ok x) f h next = next x h
then_ok P Q (Err e) f h next = tt

any_ok : {A B : Type 0} (Q : B → Type 0) (r : Result A TextFault) (f : A → Result B TextFault) → ((x : A) → IfOk (f x) Q) → IfOk (r >>= f) Q
any_ok Q (Ok x) f next = next x
any_ok Q (Err e) f next = tt

-- a value that is wanted of its form
formed_ok : {A : Type 0} (P : A → Type 0) (line : ℕ) (shown : List ℕ) (o : Option A) → IfSome o P → IfOk (of_form line shown o) P
formed_ok P line shown None h = tt
formed_ok P line shown (Some x) h = h

either_ok : {A : Type 0} (P : A → Type 0) (b : Bool) (r other : Result A TextFault) → IfOk r P → IfOk other P → IfOk (cond b r other) P
either_ok P true r other h k = h
either_ok P false r other h k = k

-- the pairs of a `set`
abbrev AreSmall : List (List ℕ × ℕ) → Type 0
AreSmall vs = All IsSmallPair vs

settings_small : (line : ℕ) (ws : List (List ℕ)) → IfOk (settings line ws) AreSmall
settings_small line [] = All-nil IsSmallPair
settings_small line (w ∷ ws) =
    then_ok IsSmallPair AreSmall (of_form line (shown_of w) (setting_of w)) (λ v. settings line ws >>= λ vs. Ok (v ∷ vs))
    (formed_ok IsSmallPair line (shown_of w) (setting_of w) (setting_small w))
    (λ v small. then_ok AreSmall AreSmall (settings line ws) (λ vs. Ok (v ∷ vs)) (settings_small line ws)
    (λ vs all. All-cons IsSmallPair v vs small all))

some_pair : (line : ℕ) (w : List ℕ) (ws : List (List ℕ)) → IfOk (settings line (w ∷ ws)) (λ vs. 0 < length vs)
some_pair line w ws =
    any_ok (λ vs. 0 < length vs) (of_form line (shown_of w) (setting_of w)) (λ v. settings line ws >>= λ vs. Ok (v ∷ vs))
    (λ v. any_ok (λ vs. 0 < length vs) (settings line ws) (λ vs. Ok (v ∷ vs)) (λ vs. omega arith))

both_ok : {A : Type 0} (P Q : A → Type 0) (r : Result A TextFault) → IfOk r P → IfOk r Q → IfOk r (λ x. P x × Q x)
both_ok P Q (Ok x) p q = (p, q)
both_ok P Q (Err e) p q = tt

set_formed : (line : ℕ) (ws : List (List ℕ)) → IfOk (set_command line ws) IsFormed
set_formed line [] = tt
set_formed line (w ∷ ws) =
    then_ok (λ vs. (0 < length vs) × AreSmall vs) IsFormed (settings line (w ∷ ws)) (λ vs. Ok (Sets line vs))
    (both_ok (λ vs. 0 < length vs) AreSmall (settings line (w ∷ ws)) (some_pair line w ws) (settings_small line (w ∷ ws)))
    (λ vs h. h)

run_formed : (line : ℕ) (ws : List (List ℕ)) → IfOk (run_command line ws) IsFormed
unfolding run_command
run_formed line ws =
    any_ok IsFormed (just_one line ws) (λ word. of_form line word (count_of word) >>= λ n. Ok (Runs line n))
    (λ word. then_ok (λ n. n < 2 ^ 64) IsFormed (of_form line word (count_of word)) (λ n. Ok (Runs line n))
    (formed_ok (λ n. n < 2 ^ 64) line word (count_of word) (count_small word)) (λ n h. h))

show_formed : (line : ℕ) (ws : List (List ℕ)) → IfOk (show_command line ws) IsFormed
show_formed line [] = tt
show_formed line (w ∷ ws) = any_ok IsFormed (just_one line (w ∷ ws)) (λ prefix. Ok (Shows line prefix)) (λ prefix. tt)

passes_few : (o : Option ℕ) → IfSome (passes_of o) (λ n. (1 ≤ n) × (n ≤ 1024))
passes_few None = tt
passes_few (Some n) = by (leb 1 n) (leb n 1024) refl refl
  where
    by : (x y : Bool) → leb 1 n ≡ x → leb n 1024 ≡ y → IfSome (cond (x && y) (Some n) None) (λ n. (1 ≤ n) × (n ≤ 1024))
    by true true least most = (leb-true _ _ least, leb-true _ _ most)
    by true false least most = tt
    by false y least most = tt

settle_formed : (line : ℕ) (ws : List (List ℕ)) → IfOk (settle_command line ws) IsFormed
settle_formed line [] = tt
settle_formed line (w ∷ ws) =
    any_ok IsFormed (just_one line (w ∷ ws)) (λ word. settle_with line word)
    (λ word. then_ok (λ n. (1 ≤ n) × (n ≤ 1024)) IsFormed (of_form line word (passes_of (count_of word))) (λ n. Ok (Settles line (Some n)))
    (formed_ok (λ n. (1 ≤ n) × (n ≤ 1024)) line word (passes_of (count_of word)) (passes_few (count_of word))) (λ n h. h))

lone_formed : (line : ℕ) (asked : Asked) (ws : List (List ℕ)) → IsFormed asked → IfOk (lone line asked ws) IsFormed
lone_formed line asked [] h = h
lone_formed line asked (w ∷ ws) h = tt

command_formed : (line : ℕ) (word : List ℕ) (ws : List (List ℕ)) → IfOk (command_of line word ws) IsFormed
command_formed line word ws =
    either_ok IsFormed (bytes_eq word (codes "set")) (set_command line ws) _ (set_formed line ws)
    (either_ok IsFormed (bytes_eq word (codes "run")) (run_command line ws) _ (run_formed line ws)
    (either_ok IsFormed (bytes_eq word (codes "show")) (show_command line ws) _ (show_formed line ws)
    (either_ok IsFormed (bytes_eq word (codes "settle")) (settle_command line ws) _ (settle_formed line ws)
    (either_ok IsFormed (bytes_eq word (codes "status")) (lone line (AsksStatus line) ws) _ (lone_formed line (AsksStatus line) ws tt)
    (either_ok IsFormed (bytes_eq word (codes "quit")) (lone line (Quits line) ws) _ (lone_formed line (Quits line) ws tt)
    (either_ok IsFormed (bytes_eq word (codes "edit")) (bad_command line []) (bad_command line (word ∷ [])) tt tt))))))

line_formed : (line : ℕ) (ws : List (List ℕ)) → IfOk (line_command line ws) IsFormed
unfolding line_command
line_formed line [] = tt
line_formed line (word ∷ ws) = command_formed line word ws

-- the texts of a block as far as it is read
abbrev IsShort : GivenFile → Type 0
IsShort f = length f.text ≤ 4194304

abbrev HasShort : Reading → Type 0
HasShort reading = All IsShort reading.block.files

with_entry_short : (b : Block) (line : ℕ) (entry : Entry) → All IsShort b.files
    → IfOk (with_entry b line entry) HasShort
with_entry_short b line Skipped short = short
with_entry_short b line (Top name) short = short
with_entry_short b line (Clock name) short = short
with_entry_short b line (Gives name) short = either_ok HasShort (names_file b name) _ _ tt short
with_entry_short b line (Loads name) short = either_ok HasShort (names_file b name) _ _ tt short
with_entry_short b line (Operates op) short = short

with_text_short : (b : Block) (file : GivenFile) → All IsShort b.files → IfOk (with_text b file) HasShort
with_text_short b file short = by (ltb 4194304 (length file.text)) refl
  where
    by : (c : Bool) → ltb 4194304 (length file.text) ≡ c
        → IfOk (cond c (Err (fault_on 10 file.line (file.name ∷ []))) (Ok (record { block = with_file b file; file = None }))) HasShort
    by true long = tt
    by false few = All-append IsShort b.files (file ∷ []) short (All-cons IsShort file [] (ltb-false _ _ few) (All-nil IsShort))

behind_short : (b : Block) (file : Option GivenFile) (number : ℕ) (line : List ℕ) → All IsShort b.files → IfOk (reading_behind b file number line) HasShort
behind_short b None number line short = any_ok HasShort (block_entry number (words line)) (λ entry. with_entry b number entry) (λ entry. with_entry_short b number entry short)
behind_short b (Some file) number line short =
    either_ok HasShort (bytes_eq line (codes ".")) (with_text b file) (Ok (record { block = b; file = Some (more_text file line) })) (with_text_short b file short) short

lines_short : (reading : Reading) (number : ℕ) (lines : List (List ℕ)) → HasShort reading → IfOk (reading_of reading number lines) HasShort
lines_short reading number [] short = short
lines_short reading number (line ∷ lines) short =
    then_ok HasShort HasShort (reading_behind reading.block reading.file number line) (λ next. reading_of next (number + 1) lines)
    (behind_short reading.block reading.file number line short) (λ next h. lines_short next (number + 1) lines h)

block_formed : (line : ℕ) (lines : List (List ℕ)) → IfOk (block_command line lines) IsFormed
unfolding block_command
block_formed line lines =
    then_ok HasShort IsFormed (reading_of (begun_at line) (line + 1) lines) (λ reading. Ok (Edits reading.block))
    (lines_short (begun_at line) (line + 1) lines (All-nil IsShort)) (λ reading h. h)

-- what is asked for, line by line
abbrev AreFormed : List (Result Asked TextFault) → Type 0
AreFormed rs = All (λ r. IfOk r IsFormed) rs

one_formed : (r : Result Asked TextFault) → IfOk r IsFormed → AreFormed (r ∷ [])
one_formed r h = All-cons (λ r. IfOk r IsFormed) r [] h (All-nil (λ r. IfOk r IsFormed))

either_formed : (b : Bool) (xs ys : List (Result Asked TextFault)) → AreFormed xs → AreFormed ys → AreFormed (cond b xs ys)
either_formed true xs ys h k = h
either_formed false xs ys h k = k

at_formed : (stand : Stand) (number : ℕ) (line : List ℕ) → AreFormed (asked_at stand number line)
at_formed Outside number line =
    either_formed (is_skipped (words line) || are_just (codes "edit") (words line)) [] _ (All-nil (λ r. IfOk r IsFormed))
    (one_formed (line_command number (words line)) (line_formed number (words line)))
at_formed (Within first before true) number line = All-nil (λ r. IfOk r IsFormed)
at_formed (Within first before false) number line =
    either_formed (are_just (codes "end") (words line)) _ [] (one_formed (block_command first before) (block_formed first before)) (All-nil (λ r. IfOk r IsFormed))

last_formed : (ended : Bool) (stand : Stand) → AreFormed (asked_last ended stand)
last_formed ended Outside = All-nil (λ r. IfOk r IsFormed)
last_formed ended (Within first before in_text) = either_formed ended _ [] (one_formed (Err (fault_on 66 first [])) tt) (All-nil (λ r. IfOk r IsFormed))

by_formed : (ended : Bool) (stand : Stand) (number : ℕ) (lines : List (List ℕ)) → AreFormed (asked_by ended stand number lines)
by_formed ended stand number [] = last_formed ended stand
by_formed ended stand number (line ∷ lines) =
    All-append (λ r. IfOk r IsFormed) (asked_at stand number line) (asked_by ended (stand_behind stand number line) (number + 1) lines)
    (at_formed stand number line) (by_formed ended (stand_behind stand number line) (number + 1) lines)

pub asks_formed : AsksFormed
unfolding asks
asks_formed end number bytes = by_formed end Outside number (script_lines end bytes)

pub asks_formed_first : AsksFormedFirst
asks_formed_first end number bytes asked rest is = All-head (λ r. IfOk r IsFormed) (Ok asked) rest (subst AreFormed is (asks_formed end number bytes))
