-- The first line of bytes, and the lines after it.
use Rattle.std.proofs.Common.{◌≡◌, ℕ, zero, suc, ◌+◌, ◌-◌, ◌<◌, ◌≤◌, Bool, true, false, not, eqb, cond, List, [], ◌∷◌, ◌++◌, length, take, drop, refl, sym, ap, ◌∙◌, subst, append-nil, append_assoc, take-append-drop, arith}
use Rattle.std.proofs.lemmas.List.{nil_from_length, take_all, drop_all, length-take, length-take-le, take-take}
use Rattle.std.specs.Prelude.{slice_index}
use Rattle.std.specs.Str.Lines.{strip_carriage_return}
use Rattle.command_read.specs.Lines.{with_any, lines_behind, script_lines}
use Rattle.command_read.specs.Leading.{Leads}
use Rattle.command_read.specs.LineEnds.{line_length, IsLineAt}

-- a newline ends the first line, which began with other bytes
front_line : (e : Bool) (begun bytes tail : List ℕ) (n : ℕ) → n ≡ line_length bytes → n < length bytes
    → lines_behind e begun (take (n + 1) bytes ++ tail) ≡ strip_carriage_return (begun ++ take n bytes) ∷ lines_behind e [] tail
front_line e begun [] tail n is within = absurd (omega (arith, within))
front_line e begun (b ∷ bs) tail n is within =
    by (λ i. front_line e (begun ++ b ∷ []) bs tail (line_length bs) refl i) (eqb b 10) refl
  where
    by : (line_length bs < length bs → lines_behind e (begun ++ b ∷ []) (take (line_length bs + 1) bs ++ tail)
        ≡ strip_carriage_return ((begun ++ b ∷ []) ++ take (line_length bs) bs) ∷ lines_behind e [] tail) → (c : Bool) → eqb b 10 ≡ c
        → lines_behind e begun (take (n + 1) (b ∷ bs) ++ tail) ≡ strip_carriage_return (begun ++ take n (b ∷ bs)) ∷ lines_behind e [] tail
    by rest true h =
        let none : n ≡ 0 = is ∙ ap (λ c. cond (not c) (1 + line_length bs) 0) h in
        ap (λ k. lines_behind e begun (take (k + 1) (b ∷ bs) ++ tail)) none
        ∙ ap (λ c. cond c (strip_carriage_return begun ∷ lines_behind e [] tail) (lines_behind e (begun ++ b ∷ []) tail)) h
        ∙ ap (λ l. strip_carriage_return l ∷ lines_behind e [] tail) (sym (append-nil begun))
        ∙ sym (ap (λ k. strip_carriage_return (begun ++ take k (b ∷ bs)) ∷ lines_behind e [] tail) none)
    by rest false h =
        let m = line_length bs in
        let one : n ≡ 1 + m = is ∙ ap (λ c. cond (not c) (1 + line_length bs) 0) h in
        let next : n ≡ suc m = omega (arith, one) in
        let after : n + 1 ≡ suc (m + 1) = omega (arith, one) in
        ap (λ k. lines_behind e begun (take k (b ∷ bs) ++ tail)) after
        ∙ ap (λ c. cond c (strip_carriage_return begun ∷ lines_behind e [] (take (m + 1) bs ++ tail)) (lines_behind e (begun ++ b ∷ []) (take (m + 1) bs ++ tail))) h
        ∙ rest (omega (arith, within, one))
        ∙ ap (λ l. strip_carriage_return l ∷ lines_behind e [] tail) (append_assoc begun (b ∷ []) (take m bs))
        ∙ sym (ap (λ k. strip_carriage_return (begun ++ take k (b ∷ bs)) ∷ lines_behind e [] tail) next)

pub ended_line : (e : Bool) (begun bytes more : List ℕ) (n : ℕ) → n ≡ line_length bytes → n < length bytes
    → lines_behind e begun (bytes ++ more) ≡ strip_carriage_return (begun ++ take n bytes) ∷ lines_behind e [] (drop (n + 1) bytes ++ more)
ended_line e begun bytes more n is within =
    ap (λ b. lines_behind e begun (b ++ more)) (sym (take-append-drop (n + 1) bytes))
    ∙ ap (lines_behind e begun) (append_assoc (take (n + 1) bytes) (drop (n + 1) bytes) more)
    ∙ front_line e begun bytes (drop (n + 1) bytes ++ more) n is within

-- no newline ends what has begun
pub open_line : (e : Bool) (begun bytes : List ℕ) → length bytes ≤ line_length bytes → lines_behind e begun bytes ≡ cond e (with_any (begun ++ bytes) []) []
open_line e begun [] all = ap (λ l. cond e (with_any l []) []) (sym (append-nil begun))
open_line e begun (b ∷ bs) all =
    by (open_line e (begun ++ b ∷ []) bs) (eqb b 10) refl
  where
    by : (length bs ≤ line_length bs → lines_behind e (begun ++ b ∷ []) bs ≡ cond e (with_any ((begun ++ b ∷ []) ++ bs) []) []) → (c : Bool) → eqb b 10 ≡ c
        → lines_behind e begun (b ∷ bs) ≡ cond e (with_any (begun ++ b ∷ bs) []) []
    by rest true h =
        let none : line_length (b ∷ bs) ≡ 0 = ap (λ c. cond (not c) (1 + line_length bs) 0) h in
        absurd (omega (arith, all, none))
    by rest false h =
        let one : line_length (b ∷ bs) ≡ 1 + line_length bs = ap (λ c. cond (not c) (1 + line_length bs) 0) h in
        ap (λ c. cond c (strip_carriage_return begun ∷ lines_behind e [] bs) (lines_behind e (begun ++ b ∷ []) bs)) h
        ∙ rest (omega (arith, all, one))
        ∙ ap (λ l. cond e (with_any l []) []) (append_assoc begun (b ∷ []) bs)

-- a line with a newline
pub leads_line : (ended : Bool) (bytes : List ℕ) (n : ℕ) → n ≡ line_length bytes → n < length bytes
    → Leads ended bytes (strip_carriage_return (take n bytes)) (drop (n + 1) bytes)
unfolding script_lines
leads_line ended bytes n is within = record { lines = λ more end follows. ended_line end [] bytes more n is within }

-- a last line without one
pub leads_last : (bytes : List ℕ) → length bytes ≤ line_length bytes → 0 < length bytes → Leads true bytes bytes []
unfolding script_lines
leads_last [] all some = absurd (omega (arith, some))
leads_last (b ∷ bs) all some = record {
  lines = λ more end follows.
      ap (λ m. lines_behind end [] ((b ∷ bs) ++ m)) follows.0 ∙ ap (lines_behind end []) (append-nil (b ∷ bs))
      ∙ open_line end [] (b ∷ bs) all ∙ ap (λ e. cond e (with_any (b ∷ bs) []) []) follows.1
      ∙ sym (ap (λ e. (b ∷ bs) ∷ lines_behind e [] []) follows.1) ∙ sym (ap (λ m. (b ∷ bs) ∷ lines_behind end [] m) follows.0);
}

-- bytes without a newline are no line, unless the input ends there
pub no_line : (bytes : List ℕ) → length bytes ≤ line_length bytes → script_lines false bytes ≡ []
unfolding script_lines
no_line bytes all = open_line false [] bytes all

pub nothing : (e : Bool) → script_lines e [] ≡ []
unfolding script_lines
nothing true = refl
nothing false = refl

-- bytes that end lines, or none: the lines behind them stand by themselves
pub record IsCut (bytes : List ℕ) : Type 0 where
  pub cut : (e : Bool) (tail : List ℕ) → script_lines e (bytes ++ tail) ≡ script_lines true bytes ++ script_lines e tail

pub cut_nothing : IsCut []
unfolding script_lines
cut_nothing = record { cut = λ e tail. refl }

-- the lines of bytes behind which nothing comes
pub no_bytes : (e : Bool) (bytes : List ℕ) → length bytes ≡ 0 → script_lines e bytes ≡ []
no_bytes e bytes none = ap (script_lines e) (nil_from_length bytes none) ∙ nothing e

pub lines_of_first : (e : Bool) (bytes line front rest : List ℕ) (n : ℕ) → n ≡ line_length bytes → n < length bytes → front ≡ take n bytes → line ≡ strip_carriage_return front → rest ≡ drop (n + 1) bytes
    → script_lines e bytes ≡ line ∷ script_lines e rest
unfolding script_lines
lines_of_first e bytes line front rest n is within at strips behind =
    ap (lines_behind e []) (sym (append-nil bytes)) ∙ ended_line e [] bytes [] n is within
    ∙ ap (λ r. strip_carriage_return (take n bytes) ∷ lines_behind e [] r) (append-nil (drop (n + 1) bytes) ∙ sym behind)
    ∙ ap (λ l. l ∷ lines_behind e [] rest) (ap strip_carriage_return (sym at) ∙ sym strips)

pub lines_of_last : (bytes rest : List ℕ) (n : ℕ) → n ≡ line_length bytes → length bytes ≤ n → 0 < length bytes → length rest ≡ 0 → script_lines true bytes ≡ bytes ∷ script_lines true rest
unfolding script_lines
lines_of_last [] rest n is all some none = absurd (omega (arith, some))
lines_of_last (b ∷ bs) rest n is all some none =
    open_line true [] (b ∷ bs) (omega (arith, is, all)) ∙ ap (λ r. (b ∷ bs) ∷ lines_behind true [] r) (sym (nil_from_length rest none))

-- one line more: what ends lines goes on to end lines
pub cut_more : (xs bytes : List ℕ) (n : ℕ) → IsCut xs → n ≡ line_length bytes → n < length bytes → IsCut (xs ++ take (n + 1) bytes)
unfolding script_lines
cut_more xs bytes n whole is within = record {
  cut = λ e tail.
      let y = take (n + 1) bytes in
      let line = strip_carriage_return (take n bytes) in
      let alone = ap (λ t. lines_behind true [] t) (sym (append-nil y)) ∙ front_line true [] bytes [] n is within in
      ap (lines_behind e []) (append_assoc xs y tail) ∙ whole.cut e (y ++ tail)
      ∙ ap (λ ls. script_lines true xs ++ ls) (front_line e [] bytes tail n is within ∙ sym (ap (λ ls. ls ++ lines_behind e [] tail) alone))
      ∙ sym (append_assoc (script_lines true xs) (lines_behind true [] y) (lines_behind e [] tail))
      ∙ ap (λ ls. ls ++ lines_behind e [] tail) (sym (whole.cut true y));
}

pub lines_more : (xs bytes : List ℕ) (n : ℕ) → IsCut xs → n ≡ line_length bytes → n < length bytes
    → script_lines true (xs ++ take (n + 1) bytes) ≡ script_lines true xs ++ strip_carriage_return (take n bytes) ∷ []
unfolding script_lines
lines_more xs bytes n whole is within =
    whole.cut true (take (n + 1) bytes)
    ∙ ap (λ ls. script_lines true xs ++ ls) (ap (λ t. lines_behind true [] t) (sym (append-nil (take (n + 1) bytes))) ∙ front_line true [] bytes [] n is within)

-- the length of a line goes on from a place before its end
pub length_from : (k : ℕ) (bytes : List ℕ) → k ≤ line_length bytes → line_length bytes ≡ k + line_length (drop k bytes)
length_from zero bytes within = omega arith
length_from (suc k) [] within = absurd (omega (arith, within))
length_from (suc k) (b ∷ bs) within =
    by (length_from k bs) (eqb b 10) refl
  where
    by : (k ≤ line_length bs → line_length bs ≡ k + line_length (drop k bs)) → (c : Bool) → eqb b 10 ≡ c → line_length (b ∷ bs) ≡ suc k + line_length (drop k bs)
    by rest true h =
        let none : line_length (b ∷ bs) ≡ 0 = ap (λ c. cond (not c) (1 + line_length bs) 0) h in
        absurd (omega (arith, within, none))
    by rest false h =
        let one : line_length (b ∷ bs) ≡ 1 + line_length bs = ap (λ c. cond (not c) (1 + line_length bs) 0) h in
        let more = rest (omega (arith, within, one)) in
        omega (arith, one, more)

strip_shorter : (l : List ℕ) → length (strip_carriage_return l) ≤ length l
strip_shorter l = by (eqb (slice_index l (length l - 1)) 13)
  where
    by : (c : Bool) → length (cond c (take (length l - 1) l) l) ≤ length l
    by true = omega (arith, length-take (length l - 1) l)
    by false = omega arith

strip_front : (l : List ℕ) → take (length (strip_carriage_return l)) l ≡ strip_carriage_return l
strip_front l = by (eqb (slice_index l (length l - 1)) 13)
  where
    by : (c : Bool) → take (length (cond c (take (length l - 1) l) l)) l ≡ cond c (take (length l - 1) l) l
    by true = ap (λ k. take k l) (length-take-le (length l - 1) l (omega arith))
    by false = take_all (length l) l (omega arith)

-- a line with a newline
pub line_with_newline : (ended : Bool) (bytes : List ℕ) (n len : ℕ) → n ≡ line_length bytes → n < length bytes → len ≡ length (strip_carriage_return (take n bytes))
    → IsLineAt ended bytes len (n + 1)
line_with_newline ended bytes n len is within strips =
    let front = take n bytes in
    let long : length front ≡ n = length-take-le n bytes (omega (arith, within)) in
    let short = strip_shorter front in
    let at : take len bytes ≡ strip_carriage_return front
    = sym (take-take len n bytes (omega (arith, strips, short, long))) ∙ ap (λ k. take k front) strips ∙ strip_front front in
    record {
      leads = subst (λ l. Leads ended bytes l (drop (n + 1) bytes)) (sym at) (leads_line ended bytes n is within);
      within = omega (arith, within);
      some = omega arith;
      shorter = omega (arith, strips, short, long);
      last = λ full. absurd (omega (arith, full, strips, short, long));
      newline = λ more. ap (λ k. k + 1) is;
      strips = λ more. at ∙ ap (λ k. strip_carriage_return (take k bytes)) is;
    }

-- a last line without one
pub line_without_newline : (bytes : List ℕ) → length bytes ≤ line_length bytes → 0 < length bytes → IsLineAt true bytes (length bytes) (length bytes)
line_without_newline bytes all some =
    record {
      leads = subst (λ r. Leads true bytes (take (length bytes) bytes) r) (sym (drop_all (length bytes) bytes (omega arith)))
          (subst (λ l. Leads true bytes l []) (sym (take_all (length bytes) bytes (omega arith))) (leads_last bytes all some));
      within = omega arith;
      some = some;
      shorter = omega arith;
      last = λ full. (refl, refl);
      newline = λ more. absurd (omega (arith, more));
      strips = λ more. absurd (omega (arith, more));
    }
