-- A body has the parts that its stretches give, and no others.
use Rattle.std.proofs.Common.{◌≡◌, ℕ, zero, suc, ◌+◌, ◌-◌, ◌<◌, ◌≤◌, ◌==◌, ◌&&◌, ◌||◌, not, Bool, true, false, cond, List, [], ◌∷◌, ◌++◌, length, take, drop, Option, Some, None, refl, sym, ap, subst, ◌∙◌, arith, append_assoc, true≢false}
use Rattle.std.proofs.Math.Seq.{take-append_seam, drop-append_seam}
use Rattle.std.proofs.Math.Bool.{and-false}
use Rattle.std.specs.Prelude.{slice_index}
use Rattle.std.specs.List.{prefix_len}
use Rattle.std.proofs.lemmas.Bool.{eqb-true, not-true, and_parts}
use Rattle.std.proofs.lemmas.List.{take-append-drop, length-append}
use Rattle.std.proofs.lemmas.List.Folds.{length-prefix_len}
use Rattle.ls_text.specs.Bytes.{is_letter, is_word_byte, is_blank}
use Rattle.ls_text.proofs.Lists.{first_of}
use Rattle.verilog_pre.specs.Parts.{Part, Use}
use Rattle.verilog_pre.specs.declared.body_cut.BodyCut.{BodyCut}
use Rattle.verilog_pre.specs.declared.body_cut.BodyCut.TheVariants as cut
use Rattle.verilog_pre.specs.Bodies.{begins_cut, lines_len, comment_len, run_len, comment_or, body_cut, cut_len, goes_on, run_part, cut_parts, trimmed_parts, trimmed_len, body_parts, body_len}
use Rattle.verilog_pre.specs.Shapes.{HasNo, AllAre, StopsAt, ends_comment, IsLineComment, IsWord}
use Rattle.verilog_pre.specs.BodyStretches.{ends_line, begins_stretch, LineEnds, IsBodyRun, Gives, Run, Continued, Comment, Unclosed, Macro, Trimmed, Body, AtEnd, AtNewline, AtComment, Goes}
use Rattle.verilog_pre.proofs.Stretches.{zero_no_star, front_all, front_stops, leading_word, front_is, longer}
use Rattle.verilog_pre.proofs.BodyStretches.{not_newline, line_of, after_line, line_and_after, line_count, line_plain, line_ends, line_is, open_plain, open_is, ClosedOn, closes_on, closed_on_is, run_from, left_from, from_joined, from_count, from_on_line, from_plain, from_ends, from_is}
use Rattle.verilog_pre.proofs.Cuts.{parts_on, parts_last, len_on, len_last}

-- what the first cut of a body is: a stretch behind which the body goes on, or its end
data Cut (file offset : ℕ) (text : List ℕ) : BodyCut → Type 0 where
  On : (bytes rest : List ℕ) (c : BodyCut) → text ≡ bytes ++ rest → goes_on c ≡ true → length bytes ≡ cut_len c → 0 < length bytes
      → Gives file offset bytes rest (cut_parts file offset text c) → Cut file offset text c
  Newline : (rest : List ℕ) → text ≡ 10 ∷ rest → Cut file offset text (cut.Last 0)
  Remark : (bytes rest : List ℕ) (n : ℕ) → text ≡ bytes ++ rest → IsLineComment bytes rest → length bytes ≡ n → Cut file offset text (cut.Last n)

-- ---- each kind of stretch at the front of a body

remark : (file offset : ℕ) (bs : List ℕ) → Cut file offset (47 ∷ 47 ∷ bs) (cut.Last (prefix_len not_newline (47 ∷ 47 ∷ bs)))
remark file offset bs =
    let n : ℕ = prefix_len not_newline bs in
    let counted : length (take n bs) ≡ n = length-prefix_len not_newline bs in
    Remark (47 ∷ 47 ∷ take n bs) (drop n bs) (prefix_len not_newline (47 ∷ 47 ∷ bs)) (ap (λ xs. 47 ∷ 47 ∷ xs) (sym (take-append-drop n bs)))
    (record { inside = take n bs; is = refl; on_line = front_all not_newline bs; ends = front_stops not_newline bs })
    (let same : length (47 ∷ 47 ∷ take n bs) ≡ 1 + (1 + n) = omega (arith, counted) in same)

comment : (file offset : ℕ) (bs : List ℕ) → Cut file offset (47 ∷ 42 ∷ bs) (comment_or bs (comment_len 0 0 bs))
comment file offset bs = told (comment_len 0 0 bs) refl
  where
    tail : (pair : ℕ → ℕ → Bool) (a : ℕ) (xs : List ℕ) → HasNo pair (a ∷ xs) → HasNo pair xs
    tail pair a [] has = tt
    tail pair a (x ∷ xs) has = has.1

    zero_first : (c : ℕ) (cs : List ℕ) → 0 ≡ c → HasNo ends_line (c ∷ cs) → HasNo ends_line (0 ∷ cs)
    zero_first c cs is has = subst (λ x. HasNo ends_line (x ∷ cs)) (sym is) has

    from : (m : ℕ) (inside rest : List ℕ) → 0 ∷ bs ≡ inside ++ 42 ∷ 47 ∷ rest → m ≡ 0 + length inside + 1 → HasNo ends_comment (inside ++ 42 ∷ []) → HasNo ends_line inside
        → Cut file offset (47 ∷ 42 ∷ bs) (cut.Gap (2 + m))
    from m [] rest is count first on = absurd (zero_no_star 0 42 refl refl (ap first_of is))
    from m (c ∷ cs) rest is count first on =
        let sum : length (cs ++ 42 ∷ 47 ∷ []) ≡ length cs + 2 = length-append cs (42 ∷ 47 ∷ []) in
        On (47 ∷ 42 ∷ (cs ++ 42 ∷ 47 ∷ [])) rest (cut.Gap (2 + m))
        (ap (λ xs. 47 ∷ 42 ∷ xs) (ap (drop 1) is ∙ sym (append_assoc cs (42 ∷ 47 ∷ []) rest)))
        refl (let same : length (47 ∷ 42 ∷ (cs ++ 42 ∷ 47 ∷ [])) ≡ 2 + m = omega (arith, sum, count) in same) (omega arith)
        (Comment (record { inside = cs; is = refl; first = tail ends_comment c (cs ++ 42 ∷ []) first; on_lines = zero_first c cs (ap first_of is) on }))

    told : (o : Option ℕ) → comment_len 0 0 bs ≡ o → Cut file offset (47 ∷ 42 ∷ bs) (comment_or bs o)
    told None e =
        let line : List ℕ = line_of 0 bs in
        let counted : lines_len (0 == 92) 0 bs ≡ 0 + length (line_of 0 bs) = line_count 0 0 bs in
        let size : length (47 ∷ 42 ∷ line_of 0 bs) ≡ 2 + lines_len false 0 bs = omega (arith, counted) in
        On (47 ∷ 42 ∷ line_of 0 bs) (after_line 0 bs) (cut.Open (2 + lines_len false 0 bs)) (ap (λ xs. 47 ∷ 42 ∷ xs) (sym (line_and_after 0 bs))) refl size (omega arith)
        (Unclosed (record { inside = line_of 0 bs; is = refl; none = tail ends_comment 0 (line_of 0 bs) (open_plain 0 0 bs e); on_lines = line_plain 0 bs; ends = line_ends 0 bs }))
    told (Some m) e = let c : ClosedOn (0 ∷ bs) 0 m = closes_on 0 0 m bs e in from m c.inside c.rest c.is c.count c.first c.on_lines

macro : (file offset b : ℕ) (bs : List ℕ) → is_letter b ≡ true → Cut file offset (96 ∷ b ∷ bs) (cut.Use (1 + prefix_len is_word_byte (b ∷ bs)))
macro file offset b bs letter =
    On (96 ∷ take n (b ∷ bs)) (drop n (b ∷ bs)) (cut.Use (1 + n)) (ap (λ xs. 96 ∷ xs) (sym (take-append-drop n (b ∷ bs)))) refl size (omega arith)
    (subst (λ k. Gives file offset (96 ∷ take n (b ∷ bs)) (drop n (b ∷ bs)) (Use (take k (b ∷ bs)) ∷ [])) (let same : n ≡ 1 + n - 1 = omega arith in same)
    (Macro (take n (b ∷ bs)) refl (leading_word (b ∷ bs) letter)))
  where
    n : ℕ
    n = prefix_len is_word_byte (b ∷ bs)

    counted : length (take n (b ∷ bs)) ≡ n
    counted = length-prefix_len is_word_byte (b ∷ bs)

    size : length (96 ∷ take n (b ∷ bs)) ≡ 1 + n
    size = omega (arith, counted)

-- no stretch but a run begins with a and what follows it
abbrev Plain : ℕ → List ℕ → Type 0
Plain a [] = Unit {0}
Plain a (b ∷ bs) = begins_stretch a b ≡ false

counted_from : (a : ℕ) (bs : List ℕ) → Plain a bs → run_len 0 1 bs ≡ length (run_from a bs)
counted_from a bs plain =
    let more : run_len a 1 bs + 1 ≡ 1 + length (run_from a bs) = from_count a 1 bs (omega arith) in
    from_first bs plain ∙ (let same : run_len a 1 bs ≡ length (run_from a bs) = omega (arith, more) in same)
  where
    first : (s t u v : Bool) (x : ℕ) → ((t && s) || u) ≡ false → cond s 1 x ≡ cond s (cond t 0 1) (cond u 0 x)
    first true true u v x e = absurd (true≢false e)
    first true false u v x e = refl
    first false t true v x e = absurd (true≢false (sym (and_no t) ∙ e))
      where
        and_no : (t : Bool) → ((t && false) || true) ≡ true
        and_no true = refl
        and_no false = refl
    first false t false v x e = refl

    from_first : (bs : List ℕ) → Plain a bs → run_len 0 1 bs ≡ run_len a 1 bs
    from_first [] plain = refl
    from_first (b ∷ bs) plain = first (b == 10) (a == 92) (begins_cut a b) true (run_len b 2 bs) plain

run : (file offset a : ℕ) (bs : List ℕ) → (a == 10) ≡ false → Plain a bs → Cut file offset (a ∷ bs) (cut.Run (run_len 0 1 bs))
run file offset a bs line plain =
    subst (λ n. Cut file offset (a ∷ bs) (cut.Run n)) (sym (counted_from a bs plain))
    (On (run_from a bs) (left_from a bs) (cut.Run (length (run_from a bs))) joined refl refl some
    (subst (λ xs. Gives file offset (run_from a bs) (left_from a bs) (run_part file offset xs (drop (length (run_from a bs)) (a ∷ bs))))
    (sym (ap (take (length (run_from a bs))) joined ∙ take-append_seam (run_from a bs) (left_from a bs)))
    (subst (λ ys. Gives file offset (run_from a bs) (left_from a bs) (run_part file offset (run_from a bs) ys))
    (sym (ap (drop (length (run_from a bs))) joined ∙ drop-append_seam (run_from a bs) (left_from a bs)))
    (Run (record { some = some; on_line = from_on_line a bs (ap not line); plain = from_plain a bs; ends = from_ends a bs })))))
  where
    joined : a ∷ bs ≡ run_from a bs ++ left_from a bs
    joined = sym (from_joined a bs)

    some_of : (bs : List ℕ) → Plain a bs → 0 < length (run_from a bs)
    some_of [] plain = omega arith
    some_of (b ∷ bs) plain = told (b == 10) (a == 92) (begins_cut a b) plain
      where
        told : (s t u : Bool) → ((t && s) || u) ≡ false → 0 < length (cond s (cond t [] (a ∷ [])) (cond u [] (a ∷ run_from b bs)))
        told true true u e = absurd (true≢false e)
        told true false u e = omega arith
        told false t false e = omega arith
        told false true true e = absurd (true≢false e)
        told false false true e = absurd (true≢false e)

    some : 0 < length (run_from a bs)
    some = some_of bs plain

-- ---- the front of any body

first_cut : (file offset : ℕ) (text : List ℕ) → 0 < length text → Cut file offset text (body_cut text)
unfolding body_cut
first_cut file offset [] some = absurd (omega arith)
first_cut file offset (a ∷ []) some = line (a == 10) refl
  where
    line : (t : Bool) → (a == 10) ≡ t → Cut file offset (a ∷ []) (cond t (cut.Last 0) (cond ((a == 92) && false) (cut.Gap 2)
        (cond ((a == 47) && false) (cut.Last (prefix_len not_newline (a ∷ []))) (cond ((a == 47) && false) (comment_or [] (comment_len 0 0 []))
        (cond ((a == 96) && false) (cut.Use (1 + prefix_len is_word_byte [])) (cut.Run (run_len 0 1 [])))))))
    line true e = Newline [] (ap (λ x. x ∷ []) (eqb-true a 10 e))
    line false e =
        subst (Cut file offset (a ∷ []))
        (sym (ap (λ t. cond t (cut.Gap 2) (cond ((a == 47) && false) (cut.Last (prefix_len not_newline (a ∷ []))) (cond ((a == 47) && false) (comment_or [] (comment_len 0 0 []))
        (cond ((a == 96) && false) (cut.Use (1 + prefix_len is_word_byte [])) (cut.Run (run_len 0 1 [])))))) (and-false (a == 92))
        ∙ ap (λ t. cond t (cut.Last (prefix_len not_newline (a ∷ []))) (cond ((a == 47) && false) (comment_or [] (comment_len 0 0 []))
        (cond ((a == 96) && false) (cut.Use (1 + prefix_len is_word_byte [])) (cut.Run (run_len 0 1 []))))) (and-false (a == 47))
        ∙ ap (λ t. cond t (comment_or [] (comment_len 0 0 [])) (cond ((a == 96) && false) (cut.Use (1 + prefix_len is_word_byte [])) (cut.Run (run_len 0 1 [])))) (and-false (a == 47))
        ∙ ap (λ t. cond t (cut.Use (1 + prefix_len is_word_byte [])) (cut.Run (run_len 0 1 []))) (and-false (a == 96))))
        (run file offset a [] e tt)
first_cut file offset (a ∷ b ∷ bs) some = line (a == 10) refl
  where
    none_of : (c x y z w : Bool) → c ≡ false → (x && y) ≡ false → (x && z) ≡ false → w ≡ false → (c || ((x && (y || z)) || w)) ≡ false
    none_of true x y z w e f g h = absurd (true≢false e)
    none_of false true true z w e f g h = absurd (true≢false f)
    none_of false true false true w e f g h = absurd (true≢false g)
    none_of false true false false w e f g h = h
    none_of false false y z w e f g h = h

    word : (a == 10) ≡ false → ((a == 92) && (b == 10)) ≡ false → ((a == 47) && (b == 47)) ≡ false → ((a == 47) && (b == 42)) ≡ false → (t : Bool) → ((a == 96) && is_letter b) ≡ t
        → Cut file offset (a ∷ b ∷ bs) (cond t (cut.Use (1 + prefix_len is_word_byte (b ∷ bs))) (cut.Run (run_len 0 1 (b ∷ bs))))
    word d e f g true h =
        let is : ((a == 96) ≡ true) × (is_letter b ≡ true) = and_parts (a == 96) (is_letter b) h in
        subst (λ x. Cut file offset (x ∷ b ∷ bs) (cut.Use (1 + prefix_len is_word_byte (b ∷ bs)))) (sym (eqb-true a 96 is.0)) (macro file offset b bs is.1)
    word d e f g false h = run file offset a (b ∷ bs) d (none_of ((a == 92) && (b == 10)) (a == 47) (b == 47) (b == 42) ((a == 96) && is_letter b) e f g h)

    block : (a == 10) ≡ false → ((a == 92) && (b == 10)) ≡ false → ((a == 47) && (b == 47)) ≡ false → (t : Bool) → ((a == 47) && (b == 42)) ≡ t
        → Cut file offset (a ∷ b ∷ bs) (cond t (comment_or bs (comment_len 0 0 bs)) (cond ((a == 96) && is_letter b) (cut.Use (1 + prefix_len is_word_byte (b ∷ bs))) (cut.Run (run_len 0 1 (b ∷ bs)))))
    block d e f true g =
        let is : ((a == 47) ≡ true) × ((b == 42) ≡ true) = and_parts (a == 47) (b == 42) g in
        subst (λ x. Cut file offset (x ∷ b ∷ bs) (comment_or bs (comment_len 0 0 bs))) (sym (eqb-true a 47 is.0))
        (subst (λ y. Cut file offset (47 ∷ y ∷ bs) (comment_or bs (comment_len 0 0 bs))) (sym (eqb-true b 42 is.1)) (comment file offset bs))
    block d e f false g = word d e f g ((a == 96) && is_letter b) refl

    slashes : (a == 10) ≡ false → ((a == 92) && (b == 10)) ≡ false → (t : Bool) → ((a == 47) && (b == 47)) ≡ t
        → Cut file offset (a ∷ b ∷ bs) (cond t (cut.Last (prefix_len not_newline (a ∷ b ∷ bs))) (cond ((a == 47) && (b == 42)) (comment_or bs (comment_len 0 0 bs))
        (cond ((a == 96) && is_letter b) (cut.Use (1 + prefix_len is_word_byte (b ∷ bs))) (cut.Run (run_len 0 1 (b ∷ bs))))))
    slashes d e true f =
        let is : ((a == 47) ≡ true) × ((b == 47) ≡ true) = and_parts (a == 47) (b == 47) f in
        subst (λ x. Cut file offset (x ∷ b ∷ bs) (cut.Last (prefix_len not_newline (x ∷ b ∷ bs)))) (sym (eqb-true a 47 is.0))
        (subst (λ y. Cut file offset (47 ∷ y ∷ bs) (cut.Last (prefix_len not_newline (47 ∷ y ∷ bs)))) (sym (eqb-true b 47 is.1)) (remark file offset bs))
    slashes d e false f = block d e f ((a == 47) && (b == 42)) refl

    continued : (a == 10) ≡ false → (t : Bool) → ((a == 92) && (b == 10)) ≡ t
        → Cut file offset (a ∷ b ∷ bs) (cond t (cut.Gap 2) (cond ((a == 47) && (b == 47)) (cut.Last (prefix_len not_newline (a ∷ b ∷ bs))) (cond ((a == 47) && (b == 42)) (comment_or bs (comment_len 0 0 bs))
        (cond ((a == 96) && is_letter b) (cut.Use (1 + prefix_len is_word_byte (b ∷ bs))) (cut.Run (run_len 0 1 (b ∷ bs)))))))
    continued d true e =
        let is : ((a == 92) ≡ true) × ((b == 10) ≡ true) = and_parts (a == 92) (b == 10) e in
        On (a ∷ b ∷ []) bs (cut.Gap 2) refl refl refl (omega arith) (Continued (ap (λ x. x ∷ b ∷ []) (eqb-true a 92 is.0) ∙ ap (λ y. 92 ∷ y ∷ []) (eqb-true b 10 is.1)))
    continued d false e = slashes d e ((a == 47) && (b == 47)) refl

    line : (t : Bool) → (a == 10) ≡ t
        → Cut file offset (a ∷ b ∷ bs) (cond t (cut.Last 0) (cond ((a == 92) && (b == 10)) (cut.Gap 2) (cond ((a == 47) && (b == 47)) (cut.Last (prefix_len not_newline (a ∷ b ∷ bs)))
        (cond ((a == 47) && (b == 42)) (comment_or bs (comment_len 0 0 bs)) (cond ((a == 96) && is_letter b) (cut.Use (1 + prefix_len is_word_byte (b ∷ bs))) (cut.Run (run_len 0 1 (b ∷ bs))))))))
    line true e = Newline (b ∷ bs) (ap (λ x. x ∷ b ∷ bs) (eqb-true a 10 e))
    line false e = continued e ((a == 92) && (b == 10)) refl

-- ---- the whole body

whole_trimmed : (fuel file offset : ℕ) (text : List ℕ) → length text ≤ fuel → Trimmed file offset text (trimmed_parts file offset text) (trimmed_len text)
unfolding trimmed_parts trimmed_len
whole_trimmed fuel file offset [] within = AtEnd offset
whole_trimmed zero file offset (b ∷ bs) within = absurd (omega arith)
whole_trimmed (suc fuel) file offset (b ∷ bs) within =
    told (body_cut (b ∷ bs)) refl (first_cut file offset (b ∷ bs) (omega arith)) (λ offset rest short. whole_trimmed fuel file offset rest short)
  where
    told : (c : BodyCut) → c ≡ body_cut (b ∷ bs) → Cut file offset (b ∷ bs) c
        → ((offset : ℕ) (rest : List ℕ) → length rest ≤ fuel → Trimmed file offset rest (trimmed_parts file offset rest) (trimmed_len rest))
        → Trimmed file offset (b ∷ bs) (trimmed_parts file offset (b ∷ bs)) (trimmed_len (b ∷ bs))
    told c is (On bytes rest d joined on size some gives) more =
        let sum : length (bytes ++ rest) ≡ length bytes + length rest = length-append bytes rest in
        let sizes : length (b ∷ bs) ≡ length (bytes ++ rest) = ap length joined in
        let short : length rest ≤ fuel = omega (arith, sum, some, within, sizes) in
        let behind : drop (length bytes) (b ∷ bs) ≡ rest = ap (drop (length bytes)) joined ∙ drop-append_seam bytes rest in
        let parts : trimmed_parts file offset (b ∷ bs) ≡ cut_parts file offset (b ∷ bs) c ++ trimmed_parts file (offset + length bytes) rest =
        parts_on file offset (b ∷ bs) c (length bytes) (omega arith) is size some on
        ∙ ap (λ xs. cut_parts file offset (b ∷ bs) c ++ trimmed_parts file (offset + length bytes) xs) behind in
        let count : trimmed_len (b ∷ bs) ≡ length bytes + trimmed_len rest =
        len_on (b ∷ bs) c (length bytes) (omega arith) is size some (omega (arith, sum, sizes)) on ∙ ap (λ xs. length bytes + trimmed_len xs) behind in
        let read : Trimmed file offset (bytes ++ rest) (cut_parts file offset (b ∷ bs) c ++ trimmed_parts file (offset + length bytes) rest) (length bytes + trimmed_len rest) =
        Goes offset bytes rest (cut_parts file offset (b ∷ bs) c) (trimmed_parts file (offset + length bytes) rest) (trimmed_len rest) gives (more (offset + length bytes) rest short) in
        subst (λ xs. Trimmed file offset xs (trimmed_parts file offset (b ∷ bs)) (trimmed_len (b ∷ bs))) (sym joined)
        (subst (λ ps. Trimmed file offset (bytes ++ rest) ps (trimmed_len (b ∷ bs))) (sym parts)
        (subst (Trimmed file offset (bytes ++ rest) (cut_parts file offset (b ∷ bs) c ++ trimmed_parts file (offset + length bytes) rest)) (sym count) read))
    told c is (Newline rest joined) more =
        subst (λ ps. Trimmed file offset (b ∷ bs) ps (trimmed_len (b ∷ bs))) (sym (parts_last file offset (b ∷ bs) (cut.Last 0) (omega arith) is refl))
        (subst (Trimmed file offset (b ∷ bs) []) (sym (len_last (b ∷ bs) (cut.Last 0) (omega arith) is refl))
        (subst (λ xs. Trimmed file offset xs [] 0) (sym joined) (AtNewline offset rest)))
    told c is (Remark bytes rest n joined comment size) more =
        subst (λ ps. Trimmed file offset (b ∷ bs) ps (trimmed_len (b ∷ bs))) (sym (parts_last file offset (b ∷ bs) (cut.Last n) (omega arith) is refl))
        (subst (Trimmed file offset (b ∷ bs) []) (sym (len_last (b ∷ bs) (cut.Last n) (omega arith) is refl))
        (subst (λ xs. Trimmed file offset xs [] n) (sym joined) (subst (Trimmed file offset (bytes ++ rest) []) size (AtComment offset bytes rest comment))))

-- ---- and no others

record IsCut (file offset : ℕ) (bytes rest : List ℕ) (parts : List Part) : Type 0 where
  cut : BodyCut
  is : cut ≡ body_cut (bytes ++ rest)
  on : goes_on cut ≡ true
  size : length bytes ≡ cut_len cut
  gives : cut_parts file offset (bytes ++ rest) cut ≡ parts

first_is_none : (a : ℕ) (zs : List ℕ) → Plain a zs → (((a == 92) && (slice_index (a ∷ zs) 1 == 10)) ≡ false) × (((a == 47) && (slice_index (a ∷ zs) 1 == 47)) ≡ false)
    × (((a == 47) && (slice_index (a ∷ zs) 1 == 42)) ≡ false) × (((a == 96) && is_letter (slice_index (a ∷ zs) 1)) ≡ false)
first_is_none a [] plain = (and-false (a == 92), and-false (a == 47), and-false (a == 47), and-false (a == 96))
first_is_none a (b ∷ bs) plain = parts ((a == 92) && (b == 10)) (a == 47) (b == 47) (b == 42) ((a == 96) && is_letter b) plain
  where
    parts : (v x y z w : Bool) → (v || ((x && (y || z)) || w)) ≡ false → (v ≡ false) × ((x && y) ≡ false) × ((x && z) ≡ false) × (w ≡ false)
    parts true x y z w e = absurd (true≢false e)
    parts false false y z w e = (refl, refl, refl, e)
    parts false true true z w e = absurd (true≢false e)
    parts false true false true w e = absurd (true≢false e)
    parts false true false false w e = (refl, refl, refl, e)

plain_cut : (a : ℕ) (zs : List ℕ) → (a == 10) ≡ false → Plain a zs → body_cut (a ∷ zs) ≡ cut.Run (run_len 0 1 zs)
unfolding body_cut
plain_cut a zs line plain =
    let b : ℕ = slice_index (a ∷ zs) 1 in
    let none = first_is_none a zs plain in
    let word : BodyCut = cut.Use (1 + prefix_len is_word_byte zs) in
    let block : BodyCut = comment_or (drop 2 (a ∷ zs)) (comment_len 0 0 (drop 2 (a ∷ zs))) in
    let remark : BodyCut = cut.Last (prefix_len not_newline (a ∷ zs)) in
    let left : BodyCut = cut.Run (run_len 0 1 zs) in
    ap (λ t. cond t (cut.Last 0) (cond ((a == 92) && (b == 10)) (cut.Gap 2) (cond ((a == 47) && (b == 47)) remark (cond ((a == 47) && (b == 42)) block (cond ((a == 96) && is_letter b) word left))))) line
    ∙ ap (λ t. cond t (cut.Gap 2) (cond ((a == 47) && (b == 47)) remark (cond ((a == 47) && (b == 42)) block (cond ((a == 96) && is_letter b) word left)))) none.0
    ∙ ap (λ t. cond t remark (cond ((a == 47) && (b == 42)) block (cond ((a == 96) && is_letter b) word left))) none.1
    ∙ ap (λ t. cond t block (cond ((a == 96) && is_letter b) word left)) none.2
    ∙ ap (λ t. cond t word left) none.3

run_cut : (file offset : ℕ) (bytes rest : List ℕ) → IsBodyRun bytes rest → IsCut file offset bytes rest (run_part file offset bytes rest)
run_cut file offset [] rest is = absurd (omega (arith, is.some))
run_cut file offset (a ∷ cs) rest is =
    record {
      cut = cut.Run (length (a ∷ cs));
      is = sym (plain_cut a (cs ++ rest) (not-true (a == 10) is.on_line.0) plain ∙ ap cut.Run (counted_from a (cs ++ rest) plain ∙ ap length (from_is a cs rest is.on_line is.plain is.ends)));
      on = refl;
      size = refl;
      gives = ap (λ xs. run_part file offset xs (drop (length (a ∷ cs)) ((a ∷ cs) ++ rest))) (take-append_seam (a ∷ cs) rest)
          ∙ ap (run_part file offset (a ∷ cs)) (drop-append_seam (a ∷ cs) rest);
    }
  where
    first_two : (cs rest : List ℕ) → HasNo begins_stretch (a ∷ (cs ++ take 1 rest)) → Plain a (cs ++ rest)
    first_two [] [] has = tt
    first_two [] (b ∷ bs) has = has.0
    first_two (c ∷ cs) rest has = has.0

    plain : Plain a (cs ++ rest)
    plain = first_two cs rest is.plain

with_zero : (xs : List ℕ) → HasNo ends_comment xs → HasNo ends_comment (0 ∷ xs)
with_zero [] has = tt
with_zero (x ∷ xs) has = (refl, has)

closed_cut : (inside rest : List ℕ) → HasNo ends_comment (inside ++ 42 ∷ []) → HasNo ends_line (0 ∷ inside)
    → body_cut (47 ∷ 42 ∷ ((inside ++ 42 ∷ 47 ∷ []) ++ rest)) ≡ cut.Gap (length (47 ∷ 42 ∷ (inside ++ 42 ∷ 47 ∷ [])))
unfolding body_cut
closed_cut inside rest first on =
    ap (λ xs. comment_or xs (comment_len 0 0 xs)) (append_assoc inside (42 ∷ 47 ∷ []) rest)
    ∙ ap (comment_or (inside ++ 42 ∷ 47 ∷ rest)) (closed_on_is 0 0 inside rest (with_zero (inside ++ 42 ∷ []) first) on)
    ∙ ap cut.Gap
    (let sum : length (inside ++ 42 ∷ 47 ∷ []) ≡ length inside + 2 = length-append inside (42 ∷ 47 ∷ []) in
    let same : 2 + (0 + length inside + 2) ≡ length (47 ∷ 42 ∷ (inside ++ 42 ∷ 47 ∷ [])) = omega (arith, sum) in same)

open_cut : (inside rest : List ℕ) → HasNo ends_comment inside → HasNo ends_line (0 ∷ inside) → LineEnds inside rest
    → body_cut (47 ∷ 42 ∷ (inside ++ rest)) ≡ cut.Open (length (47 ∷ 42 ∷ inside))
unfolding body_cut
open_cut inside rest none on ends =
    ap (comment_or (inside ++ rest)) (open_is 0 0 inside rest (with_zero inside none) on ends)
    ∙ ap cut.Open
    (let counted : lines_len (0 == 92) 0 (inside ++ rest) ≡ 0 + length (line_of 0 (inside ++ rest)) = line_count 0 0 (inside ++ rest) in
    let size : length (line_of 0 (inside ++ rest)) ≡ length inside = ap length (line_is 0 inside rest on ends) in
    let same : 2 + lines_len false 0 (inside ++ rest) ≡ length (47 ∷ 42 ∷ inside) = omega (arith, counted, size) in same)

word_cut : (word rest : List ℕ) → IsWord word rest → body_cut (96 ∷ (word ++ rest)) ≡ cut.Use (length (96 ∷ word))
unfolding body_cut
word_cut [] rest is = absurd (true≢false (sym is.begins))
word_cut (w ∷ ws) rest is =
    ap (λ t. cond t (cut.Use (1 + prefix_len is_word_byte (w ∷ (ws ++ rest)))) (cut.Run (run_len 0 1 (w ∷ (ws ++ rest))))) is.begins
    ∙ ap cut.Use
    (let size : prefix_len is_word_byte ((w ∷ ws) ++ rest) ≡ length (w ∷ ws) = front_is is_word_byte (w ∷ ws) rest is.all is.ends in
    let same : 1 + prefix_len is_word_byte ((w ∷ ws) ++ rest) ≡ length (96 ∷ w ∷ ws) = omega (arith, size) in same)

remark_cut : (inside rest : List ℕ) → AllAre not_newline inside → StopsAt not_newline rest → body_cut (47 ∷ 47 ∷ (inside ++ rest)) ≡ cut.Last (length (47 ∷ 47 ∷ inside))
unfolding body_cut
remark_cut inside rest all stops = ap cut.Last (front_is not_newline (47 ∷ 47 ∷ inside) rest (refl, (refl, all)) stops)

continued_cut : (rest : List ℕ) → cut.Gap 2 ≡ body_cut (92 ∷ 10 ∷ rest)
unfolding body_cut
continued_cut rest = refl

front_word : (word rest : List ℕ) → take (length (96 ∷ word) - 1) (drop 1 ((96 ∷ word) ++ rest)) ≡ word
front_word word rest =
    let same : length (96 ∷ word) - 1 ≡ length word = omega arith in ap (λ n. take n (word ++ rest)) same ∙ take-append_seam word rest

gives_is : (file offset : ℕ) (bytes rest : List ℕ) (parts : List Part) → Gives file offset bytes rest parts → IsCut file offset bytes rest parts
gives_is file offset bytes rest parts (Run is) = run_cut file offset bytes rest is
gives_is file offset bytes rest parts (Continued is) =
    record { cut = cut.Gap 2; is = subst (λ xs. cut.Gap 2 ≡ body_cut (xs ++ rest)) (sym is) (continued_cut rest); on = refl; size = ap length is; gives = refl }
gives_is file offset bytes rest parts (Comment is) =
    record {
      cut = cut.Gap (length bytes);
      is = subst (λ xs. cut.Gap (length xs) ≡ body_cut (xs ++ rest)) (sym is.is) (sym (closed_cut is.inside rest is.first is.on_lines));
      on = refl;
      size = refl;
      gives = refl;
    }
gives_is file offset bytes rest parts (Unclosed is) =
    record {
      cut = cut.Open (length bytes);
      is = subst (λ xs. cut.Open (length xs) ≡ body_cut (xs ++ rest)) (sym is.is) (sym (open_cut is.inside rest is.none is.on_lines is.ends));
      on = refl;
      size = refl;
      gives = refl;
    }
gives_is file offset bytes rest parts (Macro word is word_is) =
    record {
      cut = cut.Use (length bytes);
      is = subst (λ xs. cut.Use (length xs) ≡ body_cut (xs ++ rest)) (sym is) (sym (word_cut word rest word_is));
      on = refl;
      size = refl;
      gives = ap (λ w. Use w ∷ []) (subst (λ xs. take (length xs - 1) (drop 1 (xs ++ rest)) ≡ word) (sym is) (front_word word rest));
    }

gives_some : (file offset : ℕ) (bytes rest : List ℕ) (parts : List Part) → Gives file offset bytes rest parts → 0 < length bytes
gives_some file offset bytes rest parts (Run is) = is.some
gives_some file offset bytes rest parts (Continued is) = let size : length bytes ≡ 2 = ap length is in omega (arith, size)
gives_some file offset bytes rest parts (Comment is) = let size : length bytes ≡ length (47 ∷ 42 ∷ (is.inside ++ 42 ∷ 47 ∷ [])) = ap length is.is in omega (arith, size)
gives_some file offset bytes rest parts (Unclosed is) = let size : length bytes ≡ length (47 ∷ 42 ∷ is.inside) = ap length is.is in omega (arith, size)
gives_some file offset bytes rest parts (Macro word is word_is) = let size : length bytes ≡ length (96 ∷ word) = ap length is in omega (arith, size)

newline_cut : (rest : List ℕ) → cut.Last 0 ≡ body_cut (10 ∷ rest)
unfolding body_cut
newline_cut rest = refl

goes_is : (file offset : ℕ) (bytes rest : List ℕ) (parts more : List Part) (n : ℕ) → IsCut file offset bytes rest parts → 0 < length bytes
    → (more ≡ trimmed_parts file (offset + length bytes) rest) × (n ≡ trimmed_len rest)
    → (parts ++ more ≡ trimmed_parts file offset (bytes ++ rest)) × (length bytes + n ≡ trimmed_len (bytes ++ rest))
goes_is file offset bytes rest parts more n c some behind =
    let sum : length (bytes ++ rest) ≡ length bytes + length rest = length-append bytes rest in (
      ap (λ ps. ps ++ more) (sym c.gives) ∙ ap (λ ps. cut_parts file offset (bytes ++ rest) c.cut ++ ps) behind.0
          ∙ ap (λ xs. cut_parts file offset (bytes ++ rest) c.cut ++ trimmed_parts file (offset + length bytes) xs) (sym (drop-append_seam bytes rest))
          ∙ sym (parts_on file offset (bytes ++ rest) c.cut (length bytes) (longer bytes rest some) c.is c.size some c.on),
      ap (λ k. length bytes + k) (behind.1 ∙ ap trimmed_len (sym (drop-append_seam bytes rest)))
          ∙ sym (len_on (bytes ++ rest) c.cut (length bytes) (longer bytes rest some) c.is c.size some (omega (arith, sum)) c.on),
    )

remark_is : (file offset : ℕ) (bytes rest : List ℕ) → IsLineComment bytes rest → ([] ≡ trimmed_parts file offset (bytes ++ rest)) × (length bytes ≡ trimmed_len (bytes ++ rest))
remark_is file offset bytes rest is =
    let cut_is : cut.Last (length bytes) ≡ body_cut (bytes ++ rest) =
    subst (λ xs. cut.Last (length xs) ≡ body_cut (xs ++ rest)) (sym is.is) (sym (remark_cut is.inside rest is.on_line is.ends)) in
    let size : length bytes ≡ length (47 ∷ 47 ∷ is.inside) = ap length is.is in
    let some : 0 < length (bytes ++ rest) = longer bytes rest (omega (arith, size)) in
    (sym (parts_last file offset (bytes ++ rest) (cut.Last (length bytes)) some cut_is refl), sym (len_last (bytes ++ rest) (cut.Last (length bytes)) some cut_is refl))

only_trimmed : (file offset : ℕ) (text : List ℕ) (parts : List Part) (n : ℕ) → Trimmed file offset text parts n
    → (parts ≡ trimmed_parts file offset text) × (n ≡ trimmed_len text)
unfolding trimmed_parts trimmed_len
only_trimmed file offset text parts n (AtEnd o) = (refl, refl)
only_trimmed file offset text parts n (AtNewline o rest) =
    (sym (parts_last file o (10 ∷ rest) (cut.Last 0) (omega arith) (newline_cut rest) refl), sym (len_last (10 ∷ rest) (cut.Last 0) (omega arith) (newline_cut rest) refl))
only_trimmed file offset text parts n (AtComment o bytes rest is) = remark_is file o bytes rest is
only_trimmed file offset text parts n (Goes o bytes rest ps more k gives behind) =
    goes_is file o bytes rest ps more k (gives_is file o bytes rest ps gives) (gives_some file o bytes rest ps gives) (only_trimmed file (o + length bytes) rest more k behind)

-- ---- with the white space at its front

pub whole_body : (file offset : ℕ) (text : List ℕ) → Body file offset text (body_parts file offset text) (body_len text)
unfolding body_parts body_len
whole_body file offset text =
    let n : ℕ = prefix_len is_blank text in
    let size : length (take n text) ≡ n = length-prefix_len is_blank text in
    record {
      blanks = take n text;
      rest = drop n text;
      is = sym (take-append-drop n text);
      blank = front_all is_blank text;
      ends = front_stops is_blank text;
      size = trimmed_len (drop n text);
      count = ap (λ k. k + trimmed_len (drop n text)) (sym size);
      behind = subst (λ k. Trimmed file (offset + k) (drop n text) (trimmed_parts file (offset + n) (drop n text)) (trimmed_len (drop n text))) (sym size)
          (whole_trimmed (length (drop n text)) file (offset + n) (drop n text) (omega arith));
    }

pub only_body : (file offset : ℕ) (text : List ℕ) (parts : List Part) (n : ℕ) → Body file offset text parts n
    → (parts ≡ body_parts file offset text) × (n ≡ body_len text)
unfolding body_parts body_len
only_body file offset text parts n b =
    let lead : prefix_len is_blank text ≡ length b.blanks = ap (prefix_len is_blank) b.is ∙ front_is is_blank b.blanks b.rest b.blank b.ends in
    let left : drop (prefix_len is_blank text) text ≡ b.rest = ap (λ k. drop k text) lead ∙ ap (drop (length b.blanks)) b.is ∙ drop-append_seam b.blanks b.rest in
    let is : (parts ≡ trimmed_parts file (offset + length b.blanks) b.rest) × (b.size ≡ trimmed_len b.rest) =
    only_trimmed file (offset + length b.blanks) b.rest parts b.size b.behind in (
      is.0 ∙ ap (λ k. trimmed_parts file (offset + k) b.rest) (sym lead) ∙ ap (trimmed_parts file (offset + prefix_len is_blank text)) (sym left),
      b.count ∙ ap (λ k. length b.blanks + k) is.1 ∙ ap (λ k. k + trimmed_len b.rest) (sym lead) ∙ ap (λ xs. prefix_len is_blank text + trimmed_len xs) (sym left),
    )
