-- A text is read as its stretches say, and in no other way.
use Rattle.std.proofs.Common.{◌≡◌, ℕ, zero, suc, ◌+◌, ◌-◌, ◌<◌, ◌≤◌, Bool, true, false, cond, List, [], ◌∷◌, ◌++◌, length, take, drop, Option, Some, None, Result, Ok, Err, refl, sym, ap, subst, ◌∙◌, arith, append_assoc}
use Rattle.std.proofs.Math.Seq.{take-append_seam, drop-append_seam}
use Rattle.std.specs.Prelude.{nat_lt, slice_get}
use Rattle.std.proofs.lemmas.Bool.{ltb-true, ltb-false, lt-ltb, le-ltb}
use Rattle.std.proofs.lemmas.List.{append-nil, take-append-drop, take-append-le, length-append, length-take-le}
use Rattle.ls_text.specs.declared.place.Place.{Place}
use Rattle.ls_text.specs.Readings.{TextFault, fault_at, ◌>>=◌}
use Rattle.ls_text.specs.Places.{step, place_after}
use Rattle.verilog_pre.specs.declared.conditional.Conditional.{Conditional}
use Rattle.verilog_pre.specs.declared.head.Head.{Head}
use Rattle.ls_text.specs.declared.piece.Piece.{Piece}
use Rattle.verilog_pre.specs.Conditionals.{is_read}
use Rattle.verilog_pre.specs.Expansions.{Output, emitted}
use Rattle.verilog_pre.specs.Heads.{head_of, stays_open}
use Rattle.verilog_pre.specs.LeavesOpen.{LeavesOpen, AllClosed}
use Rattle.verilog_pre.specs.Obeys.{Carries}
use Rattle.verilog_pre.specs.Reading.{Read, full_place, run_read, behind_word, directive_read, word_read, head_at, left_open, earlier, first_fault, turn, text_from, text_read, with_out}
use Rattle.verilog_pre.specs.Shapes.{IsRun, IsWord}
use Rattle.verilog_pre.specs.States.{State}
use Rattle.verilog_pre.specs.Stretches.{with_run, Does, LineComment, BlockComment, OpenComment, Skipped, Run, FullRun, Directive, BadDirective, Reads, AtEnd, Goes, Fails, Opens}
use Rattle.verilog_pre.proofs.HeadShapes.{Headed, Line, Block, Unclosed, Backquoted, Plain, headed, line_head, block_head, open_head, word_head, run_head}
use Rattle.verilog_pre.proofs.LeavesOpen.{whole_leaves, only_leaves}
use Rattle.verilog_pre.proofs.Obeys.{whole_directive, only_directive}
use Rattle.verilog_pre.proofs.Stretches.{longer}
use Rattle.verilog_pre.proofs.Uses.{text_on}
use Rattle.verilog_pre.proofs.Within.{directive_within}

abbrev piece_of : Place → ℕ → ℕ → Piece
piece_of at offset n = record { file = at.file; start = offset; end = offset + n; at = at; fixed = false }

abbrev more_out : Place → ℕ → State → ℕ → Output
more_out at offset st n = record { uses = st.out.uses; bytes = st.out.bytes - n; pieces = st.out.pieces ++ piece_of at offset n ∷ [] }

-- what is read at the head of a text: the first stretch and what it does
data Turned (at : Place) (offset : ℕ) (st : State) (text : List ℕ) : Read → Type 0 where
  Went : (cut rest : List ℕ) (next : State) → text ≡ cut ++ rest → Does at offset st cut rest (Ok next) → 0 < length cut
      → Turned at offset st text (Ok (next, length cut))
  Failed : (cut rest : List ℕ) (e : TextFault) → text ≡ cut ++ rest → Does at offset st cut rest (Err e) → Turned at offset st text (Err e)

went : (at : Place) (offset : ℕ) (st : State) (text cut rest : List ℕ) (next : State) (n : ℕ)
    → text ≡ cut ++ rest → Does at offset st cut rest (Ok next) → 0 < length cut → length cut ≡ n → Turned at offset st text (Ok (next, n))
went at offset st text cut rest next n is does some count =
    subst (λ k. Turned at offset st text (Ok (next, k))) count (Went cut rest next is does some)

-- ---- each kind of stretch at the head of a text

-- a backquote and a word
reads_word : (at : Place) (offset : ℕ) (st : State) (word left : List ℕ)
    → word_read at offset st (96 ∷ (word ++ left)) (length word) ≡ behind_word word (directive_read at (offset + 1 + length word) word st left)
unfolding word_read
reads_word at offset st word left =
    ap (λ xs. behind_word xs (directive_read at (offset + 1 + length word) xs st (drop (length word) (word ++ left)))) (take-append_seam word left)
    ∙ ap (λ xs. behind_word word (directive_read at (offset + 1 + length word) word st xs)) (drop-append_seam word left)

word_turned : (at : Place) (offset : ℕ) (st : State) (word left : List ℕ) → IsWord word left
    → Turned at offset st (96 ∷ (word ++ left)) (word_read at offset st (96 ∷ (word ++ left)) (length word))
word_turned at offset st word left is_word =
    subst (Turned at offset st (96 ∷ (word ++ left))) (sym (reads_word at offset st word left))
    (told (directive_read at here word st left) refl (whole_directive at here word st left))
  where
    here : ℕ
    here = offset + 1 + length word

    told : (r : Read) → directive_read at here word st left ≡ r → Carries at here word st left r → Turned at offset st (96 ∷ (word ++ left)) (behind_word word r)
    told (Err e) is carries =
        Failed (96 ∷ (word ++ left)) [] e (sym (append-nil (96 ∷ (word ++ left))))
        (BadDirective word left refl (subst (IsWord word) (sym (append-nil left)) is_word)
        e (subst (λ xs. Carries at here word st xs (Err e)) (sym (append-nil left)) carries))
    told (Ok t) is carries =
        let m : ℕ = t.1 in
        let within : m ≤ length left = directive_within at here word st left t is in
        let size : length (take m left) ≡ m = length-take-le m left within in
        let sum : length (word ++ take m left) ≡ length word + length (take m left) = length-append word (take m left) in
        went at offset st (96 ∷ (word ++ left)) (96 ∷ (word ++ take m left)) (drop m left) t.0 (1 + length word + m)
        (ap (λ xs. 96 ∷ xs) (ap (λ xs. word ++ xs) (sym (take-append-drop m left)) ∙ sym (append_assoc word (take m left) (drop m left))))
        (Directive word (take m left) refl (subst (IsWord word) (sym (take-append-drop m left)) is_word) t.0
        (subst (λ xs. Carries at here word st xs (Ok (t.0, length (take m left)))) (sym (take-append-drop m left))
        (subst (λ k. Carries at here word st left (Ok (t.0, k))) (sym size) carries)))
        (omega arith)
        (let same : length (96 ∷ (word ++ take m left)) ≡ 1 + length word + m = omega (arith, sum, size) in same)

run_turned : (at : Place) (offset : ℕ) (st : State) (text cut rest : List ℕ) → text ≡ cut ++ rest → IsRun cut rest
    → Turned at offset st text (run_read at offset st text (length cut))
unfolding run_read emitted
run_turned at offset st text cut rest joined is = told (is_read st.nest) refl
  where
    full : is_read st.nest ≡ true → (t : Bool) → nat_lt st.out.bytes (length cut) ≡ t
        → Turned at offset st text (emitted (full_place st.out.bytes (length cut) at text) (piece_of at offset (length cut)) (length cut) st.out >>= λ out. Ok (with_out st out, length cut))
    full e true low =
        let short : st.out.bytes < length cut = ltb-true st.out.bytes (length cut) low in
        subst (Turned at offset st text)
        (sym (ap (λ t. cond t (Err (fault_at 10 (cond t (place_after at (take st.out.bytes text)) at) [])) (Ok (more_out at offset st (length cut))) >>= λ out. Ok (with_out st out, length cut)) low
        ∙ ap (λ xs. Err (fault_at 10 (place_after at xs) [])) (ap (take st.out.bytes) joined ∙ take-append-le st.out.bytes cut rest (omega (arith, short)))))
        (Failed cut rest (fault_at 10 (place_after at (take st.out.bytes cut)) []) joined (FullRun is e short))
    full e false room =
        subst (Turned at offset st text)
        (sym (ap (λ t. cond t (Err (fault_at 10 (cond t (place_after at (take st.out.bytes text)) at) [])) (Ok (more_out at offset st (length cut))) >>= λ out. Ok (with_out st out, length cut)) room))
        (Went cut rest (with_run at offset st cut) joined (Run is e (ltb-false st.out.bytes (length cut) room)) is.some)

    told : (t : Bool) → is_read st.nest ≡ t → Turned at offset st text (run_read at offset st text (length cut))
    told false e =
        subst (Turned at offset st text)
        (sym (ap (λ t. cond t (emitted (full_place st.out.bytes (length cut) at text) (piece_of at offset (length cut)) (length cut) st.out >>= λ out. Ok (with_out st out, length cut)) (Ok (st, length cut))) e))
        (Went cut rest st joined (Skipped is e) is.some)
    told true e =
        subst (Turned at offset st text)
        (sym (ap (λ t. cond t (emitted (full_place st.out.bytes (length cut) at text) (piece_of at offset (length cut)) (length cut) st.out >>= λ out. Ok (with_out st out, length cut)) (Ok (st, length cut))) e))
        (full e (nat_lt st.out.bytes (length cut)) refl)

head_turned : (at : Place) (offset : ℕ) (st : State) (text : List ℕ) (h : Head) → Headed text h → Turned at offset st text (head_at at offset st text h)
head_turned at offset st text h (Line cut rest joined is) =
    let size : length cut ≡ length (47 ∷ 47 ∷ is.inside) = ap length is.is in
    Went cut rest st joined (LineComment is) (omega (arith, size))
head_turned at offset st text h (Block cut rest joined is) =
    let size : length cut ≡ length (47 ∷ 42 ∷ (is.inside ++ 42 ∷ 47 ∷ [])) = ap length is.is in
    Went cut rest st joined (BlockComment is) (omega (arith, size))
head_turned at offset st text h (Unclosed inside joined has) =
    Failed text [] (fault_at 12 at []) (sym (append-nil text)) (OpenComment inside joined refl has)
head_turned at offset st text h (Backquoted word left joined is) =
    subst (λ xs. Turned at offset st xs (word_read at offset st xs (length word))) (sym joined) (word_turned at offset st word left is)
head_turned at offset st text h (Plain cut rest joined is) = run_turned at offset st text cut rest joined is

turned : (at : Place) (offset : ℕ) (st : State) (text : List ℕ) → 0 < length text → Turned at offset st text (head_at at offset st text (head_of text))
turned at offset st text some = head_turned at offset st text (head_of text) (headed text some)

-- ---- the whole text

turn_is : (at : Place) (offset : ℕ) (st : State) (text : List ℕ) (r : Read) → head_at at offset st text (head_of text) ≡ r
    → turn at offset st text ≡ first_fault st.nest text r
unfolding turn
turn_is at offset st text r is = ap (first_fault st.nest text) is

-- a turn, and then the rest
goes_on : (at : Place) (offset : ℕ) (st next : State) (cut rest : List ℕ) → 0 < length cut
    → turn at offset st (cut ++ rest) ≡ Ok (next, length cut)
    → text_read at offset st (cut ++ rest) ≡ text_read (place_after at cut) (offset + length cut) next rest
goes_on at offset st next cut rest some turns =
    text_on at (place_after at cut) offset st next (cut ++ rest) rest (length cut) (longer cut rest some) some turns
    (ap (place_after at) (sym (take-append_seam cut rest))) (sym (drop-append_seam cut rest))

fails_with : (at : Place) (offset : ℕ) (st : State) (text : List ℕ) (e : TextFault) → 0 < length text
    → turn at offset st text ≡ Err e → text_read at offset st text ≡ Err e
unfolding text_read
fails_with at offset st [] e some turns = absurd (omega arith)
fails_with at offset st (b ∷ bs) e some turns = ap (λ r. r >>= λ t. text_from (step at b) (offset + 1) t.0 (t.1 - 1) bs) turns

-- a fault, and what is open around it
failed : (at : Place) (offset : ℕ) (st : State) (cut rest : List ℕ) (e : TextFault) → Does at offset st cut rest (Err e)
    → (nest : List Conditional) → st.nest ≡ nest → (stays : Bool) → stays_open (length st.nest) (cut ++ rest) ≡ stays
    → Reads at offset st (cut ++ rest) (Err (earlier (slice_get nest 0) stays e))
failed at offset st cut rest e does [] none stays is =
    Fails at offset st cut rest e does
    (subst (λ n. LeavesOpen (length n) (cut ++ rest) false) (sym none) (AllClosed (cut ++ rest)))
failed at offset st cut rest e does (outer ∷ inner) some true is =
    Opens at offset st cut rest e outer inner does some
    (subst (LeavesOpen (length st.nest) (cut ++ rest)) is (whole_leaves (length (cut ++ rest)) (length st.nest) (cut ++ rest) (omega arith)))
failed at offset st cut rest e does (outer ∷ inner) some false is =
    Fails at offset st cut rest e does
    (subst (LeavesOpen (length st.nest) (cut ++ rest)) is (whole_leaves (length (cut ++ rest)) (length st.nest) (cut ++ rest) (omega arith)))

pub whole : (fuel : ℕ) (at : Place) (offset : ℕ) (st : State) (text : List ℕ) → length text ≤ fuel
    → Reads at offset st text (text_read at offset st text)
unfolding text_read
whole fuel at offset st [] within = AtEnd at offset st
whole zero at offset st (b ∷ bs) within = absurd (omega arith)
whole (suc fuel) at offset st (b ∷ bs) within =
    told (head_at at offset st (b ∷ bs) (head_of (b ∷ bs))) refl (turned at offset st (b ∷ bs) (omega arith)) (λ at offset st rest short. whole fuel at offset st rest short)
  where
    told : (r : Read) → head_at at offset st (b ∷ bs) (head_of (b ∷ bs)) ≡ r → Turned at offset st (b ∷ bs) r
        → ((at : Place) (offset : ℕ) (st : State) (rest : List ℕ) → length rest ≤ fuel → Reads at offset st rest (text_read at offset st rest))
        → Reads at offset st (b ∷ bs) (text_read at offset st (b ∷ bs))
    told r is (Went cut rest next joined does some) more =
        let size : length (cut ++ rest) ≡ length cut + length rest = length-append cut rest in
        let sizes : length (b ∷ bs) ≡ length (cut ++ rest) = ap length joined in
        let short : length rest ≤ fuel = omega (arith, size, some, within, sizes) in
        let turns : turn at offset st (cut ++ rest) ≡ Ok (next, length cut) =
        ap (turn at offset st) (sym joined) ∙ turn_is at offset st (b ∷ bs) (Ok (next, length cut)) is in
        let read : Reads at offset st (cut ++ rest) (text_read at offset st (cut ++ rest)) =
        subst (Reads at offset st (cut ++ rest)) (sym (goes_on at offset st next cut rest some turns))
        (Goes at offset st next cut rest (text_read (place_after at cut) (offset + length cut) next rest) does
        (more (place_after at cut) (offset + length cut) next rest short)) in
        subst (λ text. Reads at offset st text (text_read at offset st text)) (sym joined) read
    told r is (Failed cut rest e joined does) more =
        let stays : Bool = stays_open (length st.nest) (b ∷ bs) in
        let fault : TextFault = earlier (slice_get st.nest 0) stays e in
        let read : Reads at offset st (cut ++ rest) (Err fault) =
        failed at offset st cut rest e does st.nest refl stays (ap (stays_open (length st.nest)) (sym joined)) in
        subst (λ text. Reads at offset st text (text_read at offset st (b ∷ bs))) (sym joined)
        (subst (Reads at offset st (cut ++ rest)) (sym (fails_with at offset st (b ∷ bs) fault (omega arith) (turn_is at offset st (b ∷ bs) (Err e) is))) read)

-- ---- and in no other way

-- what is read at the head where the first stretch does this
abbrev Gave : List ℕ → Result State TextFault → Read → Type 0
Gave cut (Ok next) t = t ≡ Ok (next, length cut)
Gave cut (Err e) t = t ≡ Err e

abbrev read_head : Place → ℕ → State → List ℕ → Read
read_head at offset st text = head_at at offset st text (head_of text)

reads_run : (at : Place) (offset : ℕ) (st : State) (cut rest : List ℕ) → IsRun cut rest
    → read_head at offset st (cut ++ rest) ≡ run_read at offset st (cut ++ rest) (length cut)
reads_run at offset st cut rest is = ap (head_at at offset st (cut ++ rest)) (run_head cut rest is)

skipped_is : (at : Place) (offset : ℕ) (st : State) (text : List ℕ) (n : ℕ) → is_read st.nest ≡ false → run_read at offset st text n ≡ Ok (st, n)
unfolding run_read
skipped_is at offset st text n e =
    ap (λ t. cond t (emitted (full_place st.out.bytes n at text) (piece_of at offset n) n st.out >>= λ out. Ok (with_out st out, n)) (Ok (st, n))) e

emits : (at : Place) (offset : ℕ) (st : State) (text : List ℕ) (n : ℕ) → is_read st.nest ≡ true
    → run_read at offset st text n ≡ (cond (nat_lt st.out.bytes n) (Err (fault_at 10 (full_place st.out.bytes n at text) [])) (Ok (more_out at offset st n)) >>= λ out. Ok (with_out st out, n))
unfolding run_read emitted
emits at offset st text n e =
    ap (λ t. cond t (emitted (full_place st.out.bytes n at text) (piece_of at offset n) n st.out >>= λ out. Ok (with_out st out, n)) (Ok (st, n))) e

-- what the first stretch does is what is read at the head
does_is : (at : Place) (offset : ℕ) (st : State) (cut rest : List ℕ) (r : Result State TextFault)
    → Does at offset st cut rest r → Gave cut r (read_head at offset st (cut ++ rest))
does_is at offset st cut rest r (LineComment is) = ap (head_at at offset st (cut ++ rest)) (line_head cut rest is)
does_is at offset st cut rest r (BlockComment is) = ap (head_at at offset st (cut ++ rest)) (block_head cut rest is)
does_is at offset st cut rest r (OpenComment inside is none has) =
    subst (λ xs. read_head at offset st (cut ++ xs) ≡ Err (fault_at 12 at [])) (sym none)
    (subst (λ xs. read_head at offset st (xs ++ []) ≡ Err (fault_at 12 at [])) (sym is)
    (ap (read_head at offset st) (append-nil (47 ∷ 42 ∷ inside)) ∙ ap (head_at at offset st (47 ∷ 42 ∷ inside)) (open_head inside has)))
does_is at offset st cut rest r (Skipped is e) = reads_run at offset st cut rest is ∙ skipped_is at offset st (cut ++ rest) (length cut) e
does_is at offset st cut rest r (Run is e room) =
    reads_run at offset st cut rest is ∙ emits at offset st (cut ++ rest) (length cut) e
    ∙ ap (λ t. cond t (Err (fault_at 10 (full_place st.out.bytes (length cut) at (cut ++ rest)) [])) (Ok (more_out at offset st (length cut))) >>= λ out. Ok (with_out st out, length cut))
    (le-ltb st.out.bytes (length cut) room)
does_is at offset st cut rest r (FullRun is e short) =
    reads_run at offset st cut rest is ∙ emits at offset st (cut ++ rest) (length cut) e
    ∙ ap (λ t. cond t (Err (fault_at 10 (cond t (place_after at (take st.out.bytes (cut ++ rest))) at) [])) (Ok (more_out at offset st (length cut))) >>= λ out. Ok (with_out st out, length cut))
    (lt-ltb st.out.bytes (length cut) short)
    ∙ ap (λ xs. Err (fault_at 10 (place_after at xs) [])) (take-append-le st.out.bytes cut rest (omega (arith, short)))
does_is at offset st cut rest r (Directive word behind is word_is next carries) =
    subst (λ xs. read_head at offset st (xs ++ rest) ≡ Ok (next, length xs)) (sym is)
    (ap (λ xs. read_head at offset st (96 ∷ xs)) (append_assoc word behind rest)
    ∙ ap (head_at at offset st (96 ∷ (word ++ (behind ++ rest)))) (word_head word (behind ++ rest) word_is)
    ∙ reads_word at offset st word (behind ++ rest)
    ∙ ap (behind_word word) (sym (only_directive at (offset + 1 + length word) word st (behind ++ rest) (Ok (next, length behind)) carries))
    ∙ ap (λ n. Ok (next, n))
    (let sum : length (word ++ behind) ≡ length word + length behind = length-append word behind in
    let same : 1 + length word + length behind ≡ length (96 ∷ (word ++ behind)) = omega (arith, sum) in same))
does_is at offset st cut rest r (BadDirective word behind is word_is e carries) =
    subst (λ xs. read_head at offset st (xs ++ rest) ≡ Err e) (sym is)
    (ap (λ xs. read_head at offset st (96 ∷ xs)) (append_assoc word behind rest)
    ∙ ap (head_at at offset st (96 ∷ (word ++ (behind ++ rest)))) (word_head word (behind ++ rest) word_is)
    ∙ reads_word at offset st word (behind ++ rest)
    ∙ ap (behind_word word) (sym (only_directive at (offset + 1 + length word) word st (behind ++ rest) (Err e) carries)))

-- and it isn't empty
does_some : (at : Place) (offset : ℕ) (st : State) (cut rest : List ℕ) (r : Result State TextFault)
    → Does at offset st cut rest r → 0 < length cut
does_some at offset st cut rest r (LineComment is) = let size : length cut ≡ length (47 ∷ 47 ∷ is.inside) = ap length is.is in omega (arith, size)
does_some at offset st cut rest r (BlockComment is) = let size : length cut ≡ length (47 ∷ 42 ∷ (is.inside ++ 42 ∷ 47 ∷ [])) = ap length is.is in omega (arith, size)
does_some at offset st cut rest r (OpenComment inside is none has) = let size : length cut ≡ length (47 ∷ 42 ∷ inside) = ap length is in omega (arith, size)
does_some at offset st cut rest r (Skipped is e) = is.some
does_some at offset st cut rest r (Run is e room) = is.some
does_some at offset st cut rest r (FullRun is e short) = is.some
does_some at offset st cut rest r (Directive word behind is word_is next read) = let size : length cut ≡ length (96 ∷ (word ++ behind)) = ap length is in omega (arith, size)
does_some at offset st cut rest r (BadDirective word behind is word_is e read) = let size : length cut ≡ length (96 ∷ (word ++ behind)) = ap length is in omega (arith, size)

unmoved : (o : Option Conditional) (e : TextFault) → earlier o false e ≡ e
unmoved None e = refl
unmoved (Some c) e = refl

pub only : (at : Place) (offset : ℕ) (st : State) (text : List ℕ) (r : Result State TextFault)
    → Reads at offset st text r → r ≡ text_read at offset st text
unfolding text_read
only at offset st text r (AtEnd a o s) = refl
only at offset st text r (Goes a o s next cut rest x does more) =
    only (place_after a cut) (o + length cut) next rest x more
    ∙ sym (goes_on a o s next cut rest (does_some a o s cut rest (Ok next) does) (turn_is a o s (cut ++ rest) (Ok (next, length cut)) (does_is a o s cut rest (Ok next) does)))
only at offset st text r (Fails a o s cut rest e does shut) =
    sym (fails_with a o s (cut ++ rest) e (longer cut rest (does_some a o s cut rest (Err e) does))
    (turn_is a o s (cut ++ rest) (Err e) (does_is a o s cut rest (Err e) does)
    ∙ ap Err (ap (λ b. earlier (slice_get s.nest 0) b e) (sym (only_leaves (length s.nest) (cut ++ rest) false shut)) ∙ unmoved (slice_get s.nest 0) e)))
only at offset st text r (Opens a o s cut rest e outer inner does some stays) =
    sym (fails_with a o s (cut ++ rest) (left_open outer) (longer cut rest (does_some a o s cut rest (Err e) does))
    (turn_is a o s (cut ++ rest) (Err e) (does_is a o s cut rest (Err e) does)
    ∙ ap Err (ap (λ b. earlier (slice_get s.nest 0) b e) (sym (only_leaves (length s.nest) (cut ++ rest) true stays)) ∙ ap (λ n. earlier (slice_get n 0) true e) some)))
