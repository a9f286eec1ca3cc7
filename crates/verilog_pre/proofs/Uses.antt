-- What a directive's reading comes to.
use Rattle.std.proofs.Common.{◌≡◌, ℕ, zero, suc, ◌+◌, ◌-◌, ◌<◌, true, false, cond, List, [], ◌∷◌, length, take, drop, Result, Ok, refl, sym, ap, subst, ◌∙◌, arith}
use Rattle.ls_text.specs.declared.place.Place.{Place}
use Rattle.ls_text.specs.declared.refusal.Refusal.{Refusal}
use Rattle.ls_text.specs.Readings.{TextFault, Refuses, ◌>>=◌}
use Rattle.ls_text.proofs.Refused.{refused_on}
use Rattle.ls_text.specs.Places.{step, place_after}
use Rattle.ls_text.specs.declared.piece.Piece.{Piece}
use Rattle.verilog_pre.specs.Conditionals.{is_read}
use Rattle.verilog_pre.specs.Expansions.{Output, emitted}
use Rattle.verilog_pre.specs.Reading.{Read, behind_word, with_out, full_place, run_read, turn, text_from, text_read}
use Rattle.verilog_pre.specs.States.{State}

pub worded : (word : List ℕ) (st : State) (n : ℕ) (read : Read) → read ≡ Ok (st, n) → behind_word word read ≡ Ok (st, 1 + length word + n)
worded word st n read is = ap (behind_word word) is

pub unworded : (names : List (List ℕ)) (e : Refusal) (word : List ℕ) (read : Read) → Refuses names e read → Refuses names e (behind_word word read)
unworded names e word read refused = refused_on names e read _ refused

abbrev behind_run : State → ℕ → Output → Read
behind_run st n out = Ok (with_out st out, n)

run_is : (at full : Place) (offset : ℕ) (st : State) (text : List ℕ) (n : ℕ) → is_read st.nest ≡ true → full ≡ full_place st.out.bytes n at text
    → run_read at offset st text n
    ≡ (emitted full (record { file = at.file; start = offset; end = offset + n; at = at; fixed = false }) n st.out >>= λ out. Ok (with_out st out, n))
unfolding run_read
run_is at full offset st text n read is =
    let piece : Piece = record { file = at.file; start = offset; end = offset + n; at = at; fixed = false } in
    let onward = λ (out : Output). behind_run st n out in
    ap (λ b. cond b (emitted (full_place st.out.bytes n at text) piece n st.out >>= onward) (Ok (st, n))) read
    ∙ ap (λ place. emitted place piece n st.out >>= onward) (sym is)

pub run_ok : (at full : Place) (offset : ℕ) (st : State) (text : List ℕ) (n : ℕ) (out : Output) → is_read st.nest ≡ true → full ≡ full_place st.out.bytes n at text
    → emitted full (record { file = at.file; start = offset; end = offset + n; at = at; fixed = false }) n st.out ≡ Ok out
    → run_read at offset st text n ≡ Ok (with_out st out, n)
run_ok at full offset st text n out read is gives =
    run_is at full offset st text n read is ∙ ap (λ r. r >>= λ o. Ok (with_out st o, n)) gives

pub run_err : (names : List (List ℕ)) (e : Refusal) (at full : Place) (offset : ℕ) (st : State) (text : List ℕ) (n : ℕ) → is_read st.nest ≡ true → full ≡ full_place st.out.bytes n at text
    → Refuses names e (emitted full (record { file = at.file; start = offset; end = offset + n; at = at; fixed = false }) n st.out)
    → Refuses names e (run_read at offset st text n)
run_err names e at full offset st text n read is refused =
    let R : Read → Type 0 = λ r. Refuses names e r in
    subst R (sym (run_is at full offset st text n read is)) (refused_on names e _ (λ o. Ok (with_out st o, n)) refused)

text_skip : (at : Place) (offset : ℕ) (st : State) (k : ℕ) (bs : List ℕ)
    → text_from at offset st k bs ≡ text_from (place_after at (take k bs)) (offset + k) st 0 (drop k bs)
text_skip at offset st zero bs = ap (λ o. text_from at o st 0 bs) (let same : offset ≡ offset + 0 = omega arith in same)
text_skip at offset st (suc k) [] = refl
text_skip at offset st (suc k) (b ∷ bs) =
    text_skip (step at b) (offset + 1) st k bs
    ∙ ap (λ o. text_from (place_after (step at b) (take k bs)) o st 0 (drop k bs)) (let same : offset + 1 + k ≡ offset + suc k = omega arith in same)

text_is : (at : Place) (offset : ℕ) (st : State) (text : List ℕ) → 0 < length text
    → text_read at offset st text ≡ (turn at offset st text >>= λ t. text_from (place_after at (take 1 text)) (offset + 1) t.0 (t.1 - 1) (drop 1 text))
unfolding text_read
text_is at offset st [] some = absurd (omega arith)
text_is at offset st (b ∷ bs) some = refl

-- a turn, and the text behind it
pub text_on : (at next : Place) (offset : ℕ) (st new : State) (text rest : List ℕ) (n : ℕ) → 0 < length text → 0 < n
    → turn at offset st text ≡ Ok (new, n) → next ≡ place_after at (take n text) → rest ≡ drop n text
    → text_read at offset st text ≡ text_read next (offset + n) new rest
unfolding text_read
text_on at next offset st new [] rest n some more turns moves behind = absurd (omega arith)
text_on at next offset st new (b ∷ bs) rest n some more turns moves behind =
    ap (λ r. r >>= λ t. text_from (step at b) (offset + 1) t.0 (t.1 - 1) bs) turns
    ∙ text_skip (step at b) (offset + 1) new (n - 1) bs
    ∙ at_n n more
    ∙ ap (λ place. text_from place (offset + n) new 0 (drop n (b ∷ bs))) (sym moves)
    ∙ ap (λ left. text_from next (offset + n) new 0 left) (sym behind)
  where
    at_n : (n : ℕ) → 0 < n → text_from (place_after (step at b) (take (n - 1) bs)) (offset + 1 + (n - 1)) new 0 (drop (n - 1) bs)
        ≡ text_from (place_after at (take n (b ∷ bs))) (offset + n) new 0 (drop n (b ∷ bs))
    at_n zero more = absurd (omega arith)
    at_n (suc k) more =
        ap (λ j. text_from (place_after (step at b) (take j bs)) (offset + 1 + j) new 0 (drop j bs)) (let same : suc k - 1 ≡ k = omega arith in same)
        ∙ ap (λ o. text_from (place_after (step at b) (take k bs)) o new 0 (drop k bs)) (let same : offset + 1 + k ≡ offset + suc k = omega arith in same)

pub text_refused : (names : List (List ℕ)) (e : Refusal) (at : Place) (offset : ℕ) (st : State) (text : List ℕ) → 0 < length text
    → Refuses names e (turn at offset st text) → Refuses names e (text_read at offset st text)
text_refused names e at offset st text some refused =
    let R : Result State TextFault → Type 0 = λ r. Refuses names e r in
    subst R (sym (text_is at offset st text some)) (refused_on names e _ (λ t. text_from (place_after at (take 1 text)) (offset + 1) t.0 (t.1 - 1) (drop 1 text)) refused)
