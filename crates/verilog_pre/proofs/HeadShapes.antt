-- What stands at the head of a text is what its shapes say, and nothing else.
use Rattle.std.proofs.Common.{◌≡◌, ℕ, ◌+◌, ◌<◌, ◌==◌, ◌&&◌, ◌||◌, not, Bool, true, false, cond, List, [], ◌∷◌, ◌++◌, length, take, drop, Option, Some, None, refl, sym, ap, subst, ◌∙◌, arith, append_assoc, true≢false}
use Rattle.std.proofs.Math.Bool.{and-false, or-false}
use Rattle.std.specs.Prelude.{slice_index}
use Rattle.std.specs.List.{prefix_len}
use Rattle.std.proofs.lemmas.Bool.{eqb-true, and_parts}
use Rattle.std.proofs.lemmas.List.{take-append-drop, length-append}
use Rattle.std.proofs.lemmas.List.Folds.{length-prefix_len}
use Rattle.ls_text.specs.Bytes.{is_letter, is_word_byte, through_pair}
use Rattle.ls_text.proofs.Lists.{first_of}
use Rattle.verilog_pre.specs.Bodies.{begins_cut}
use Rattle.verilog_pre.specs.declared.head.Head.{Head}
use Rattle.verilog_pre.specs.declared.head.Head.TheVariants as head
use Rattle.verilog_pre.specs.Heads.{plain_len, comment_head, head_of}
use Rattle.verilog_pre.specs.Shapes.{HasNo, AllAre, StopsAt, ends_comment, IsLineComment, IsBlockComment, IsRun, IsWord}
use Rattle.verilog_pre.proofs.Stretches.{front_all, front_stops, leading_word, front_is, unclosed, unclosed_is, Closed, closes, closed_is, zero_no_star, run_of, left_of, run_and_left, run_plain, run_ends, run_count, run_is}

abbrev not_newline : ℕ → Bool
not_newline b = not (b == 10)

-- the shape at the head of a text, and the head that it is
pub data Headed (text : List ℕ) : Head → Type 0 where
  Line : (cut rest : List ℕ) → text ≡ cut ++ rest → IsLineComment cut rest → Headed text (head.Comment (length cut))
  Block : (cut rest : List ℕ) → text ≡ cut ++ rest → IsBlockComment cut → Headed text (head.Comment (length cut))
  Unclosed : (inside : List ℕ) → text ≡ 47 ∷ 42 ∷ inside → HasNo ends_comment inside → Headed text head.OpenComment
  Backquoted : (word rest : List ℕ) → text ≡ 96 ∷ (word ++ rest) → IsWord word rest → Headed text (head.Word (length word))
  Plain : (cut rest : List ℕ) → text ≡ cut ++ rest → IsRun cut rest → Headed text (head.Run (length cut))

-- ---- each kind at the head of a text

commented : (text : List ℕ) (n m : ℕ) → n ≡ m → Headed text (head.Comment n) → Headed text (head.Comment m)
commented text n m same headed = subst (λ k. Headed text (head.Comment k)) same headed

line_comment : (bs : List ℕ) → Headed (47 ∷ 47 ∷ bs) (head.Comment (prefix_len not_newline (47 ∷ 47 ∷ bs)))
line_comment bs =
    let n : ℕ = prefix_len not_newline bs in
    let counted : length (take n bs) ≡ n = length-prefix_len not_newline bs in
    commented (47 ∷ 47 ∷ bs) (length (47 ∷ 47 ∷ take n bs)) (prefix_len not_newline (47 ∷ 47 ∷ bs))
    (let same : length (47 ∷ 47 ∷ take n bs) ≡ 1 + (1 + n) = omega (arith, counted) in same)
    (Line (47 ∷ 47 ∷ take n bs) (drop n bs) (ap (λ xs. 47 ∷ 47 ∷ xs) (sym (take-append-drop n bs)))
    (record { inside = take n bs; is = refl; on_line = front_all not_newline bs; ends = front_stops not_newline bs }))

block_comment : (bs : List ℕ) → Headed (47 ∷ 42 ∷ bs) (comment_head (through_pair 42 47 false 0 bs))
block_comment bs = told (through_pair 42 47 false 0 bs) refl
  where
    tail : (bs : List ℕ) → HasNo ends_comment (0 ∷ bs) → HasNo ends_comment bs
    tail [] has = tt
    tail (b ∷ bs) has = has.1

    behind : (m : ℕ) → Closed (0 ∷ bs) 0 m → Headed (47 ∷ 42 ∷ bs) (head.Comment (2 + m))
    behind m c = from c.inside c.rest c.is c.count c.first
      where
        from : (inside rest : List ℕ) → 0 ∷ bs ≡ inside ++ 42 ∷ 47 ∷ rest → m ≡ 0 + length inside + 1 → HasNo ends_comment (inside ++ 42 ∷ [])
            → Headed (47 ∷ 42 ∷ bs) (head.Comment (2 + m))
        from [] rest is count first = absurd (zero_no_star 0 42 refl refl (ap first_of is))
        from (c ∷ cs) rest is count first =
            commented (47 ∷ 42 ∷ bs) (length (47 ∷ 42 ∷ (cs ++ 42 ∷ 47 ∷ []))) (2 + m)
            (let sum : length (cs ++ 42 ∷ 47 ∷ []) ≡ length cs + 2 = length-append cs (42 ∷ 47 ∷ []) in
            let same : length (47 ∷ 42 ∷ (cs ++ 42 ∷ 47 ∷ [])) ≡ 2 + m = omega (arith, sum, count) in same)
            (Block (47 ∷ 42 ∷ (cs ++ 42 ∷ 47 ∷ [])) rest
            (ap (λ xs. 47 ∷ 42 ∷ xs) (ap (drop 1) is ∙ sym (append_assoc cs (42 ∷ 47 ∷ []) rest)))
            (record { inside = cs; is = refl; first = no_more cs first }))
          where
            no_more : (cs : List ℕ) → HasNo ends_comment (c ∷ (cs ++ 42 ∷ [])) → HasNo ends_comment (cs ++ 42 ∷ [])
            no_more [] has = tt
            no_more (x ∷ xs) has = has.1

    told : (o : Option ℕ) → through_pair 42 47 false 0 bs ≡ o → Headed (47 ∷ 42 ∷ bs) (comment_head o)
    told None e = Unclosed bs refl (tail bs (unclosed 0 0 bs e))
    told (Some m) e = behind m (closes 0 0 m bs e)

backquoted : (b : ℕ) (bs : List ℕ) → is_letter b ≡ true → Headed (96 ∷ b ∷ bs) (head.Word (prefix_len is_word_byte (b ∷ bs)))
backquoted b bs letter =
    subst (λ k. Headed (96 ∷ b ∷ bs) (head.Word k)) counted
    (Backquoted word (drop n (b ∷ bs)) (ap (λ xs. 96 ∷ xs) (sym (take-append-drop n (b ∷ bs))))
    (leading_word (b ∷ bs) letter))
  where
    n : ℕ
    n = prefix_len is_word_byte (b ∷ bs)

    word : List ℕ
    word = take n (b ∷ bs)

    counted : length word ≡ n
    counted = length-prefix_len is_word_byte (b ∷ bs)

counted_run : (a : ℕ) (bs : List ℕ) → HasNo begins_cut (a ∷ take 1 bs) → plain_len 0 1 bs ≡ length (run_of a bs)
counted_run a bs has =
    let more : plain_len a 1 bs + 1 ≡ 1 + length (run_of a bs) = run_count a 1 bs (omega arith) in
    from_first bs has ∙ (let same : plain_len a 1 bs ≡ length (run_of a bs) = omega (arith, more) in same)
  where
    from_first : (bs : List ℕ) → HasNo begins_cut (a ∷ take 1 bs) → plain_len 0 1 bs ≡ plain_len a 1 bs
    from_first [] has = refl
    from_first (b ∷ bs) has = sym (ap (λ t. cond t 0 (plain_len b 2 bs)) has.0)

plain_run : (a : ℕ) (bs : List ℕ) → HasNo begins_cut (a ∷ take 1 bs) → Headed (a ∷ bs) (head.Run (plain_len 0 1 bs))
plain_run a bs has =
    subst (λ n. Headed (a ∷ bs) (head.Run n)) (sym (counted_run a bs has))
    (Plain (run_of a bs) (left_of a bs) (sym (run_and_left a bs)) (record { some = some_of bs has; plain = run_plain a bs; ends = run_ends a bs }))
  where
    some_of : (bs : List ℕ) → HasNo begins_cut (a ∷ take 1 bs) → 0 < length (run_of a bs)
    some_of [] has = omega arith
    some_of (b ∷ bs) has = subst (λ t. 0 < length (cond t [] (a ∷ run_of b bs))) (sym has.0) (omega arith)

-- ---- the head of any text

one_cut : (a b : ℕ) → ((a == 47) && (b == 47)) ≡ false → ((a == 47) && (b == 42)) ≡ false → ((a == 96) && is_letter b) ≡ false → begins_cut a b ≡ false
one_cut a b e f g = ap (λ t. ((a == 47) && ((b == 47) || (b == 42))) || t) g ∙ or-false ((a == 47) && ((b == 47) || (b == 42))) ∙ neither (a == 47) (b == 47) (b == 42) e f
  where
    neither : (x y z : Bool) → (x && y) ≡ false → (x && z) ≡ false → (x && (y || z)) ≡ false
    neither false y z e f = refl
    neither true true z e f = e
    neither true false z e f = f

-- what a text that isn't empty has at its head
pub headed : (text : List ℕ) → 0 < length text → Headed text (head_of text)
unfolding head_of
headed [] some = absurd (omega arith)
headed (a ∷ []) some =
    subst (Headed (a ∷ []))
    (sym (ap (λ t. cond t (head.Comment (prefix_len not_newline (a ∷ []))) (cond ((a == 47) && false) (comment_head (through_pair 42 47 false 0 [])) (cond ((a == 96) && false) (head.Word (prefix_len is_word_byte [])) (head.Run (plain_len 0 1 []))))) (and-false (a == 47))
    ∙ ap (λ t. cond t (comment_head (through_pair 42 47 false 0 [])) (cond ((a == 96) && false) (head.Word (prefix_len is_word_byte [])) (head.Run (plain_len 0 1 [])))) (and-false (a == 47))
    ∙ ap (λ t. cond t (head.Word (prefix_len is_word_byte [])) (head.Run (plain_len 0 1 []))) (and-false (a == 96))))
    (plain_run a [] tt)
headed (a ∷ b ∷ bs) some = line ((a == 47) && (b == 47)) refl
  where
    plain : ((a == 47) && (b == 47)) ≡ false → ((a == 47) && (b == 42)) ≡ false → (t : Bool) → ((a == 96) && is_letter b) ≡ t
        → Headed (a ∷ b ∷ bs) (cond t (head.Word (prefix_len is_word_byte (b ∷ bs))) (head.Run (plain_len 0 1 (b ∷ bs))))
    plain e f true g =
        let is : (a ≡ 96) × (is_letter b ≡ true) = ((eqb-true a 96 (and_parts (a == 96) (is_letter b) g).0), (and_parts (a == 96) (is_letter b) g).1) in
        subst (λ x. Headed (x ∷ b ∷ bs) (head.Word (prefix_len is_word_byte (b ∷ bs)))) (sym is.0) (backquoted b bs is.1)
    plain e f false g = plain_run a (b ∷ bs) (one_cut a b e f g, tt)

    block : ((a == 47) && (b == 47)) ≡ false → (t : Bool) → ((a == 47) && (b == 42)) ≡ t
        → Headed (a ∷ b ∷ bs) (cond t (comment_head (through_pair 42 47 false 0 bs))
        (cond ((a == 96) && is_letter b) (head.Word (prefix_len is_word_byte (b ∷ bs))) (head.Run (plain_len 0 1 (b ∷ bs)))))
    block e true f =
        let is : (a ≡ 47) × (b ≡ 42) = (eqb-true a 47 (and_parts (a == 47) (b == 42) f).0, eqb-true b 42 (and_parts (a == 47) (b == 42) f).1) in
        subst (λ x. Headed (x ∷ b ∷ bs) (comment_head (through_pair 42 47 false 0 bs))) (sym is.0)
        (subst (λ y. Headed (47 ∷ y ∷ bs) (comment_head (through_pair 42 47 false 0 bs))) (sym is.1) (block_comment bs))
    block e false f = plain e f ((a == 96) && is_letter b) refl

    line : (t : Bool) → ((a == 47) && (b == 47)) ≡ t
        → Headed (a ∷ b ∷ bs) (cond t (head.Comment (prefix_len not_newline (a ∷ b ∷ bs)))
        (cond ((a == 47) && (b == 42)) (comment_head (through_pair 42 47 false 0 bs))
        (cond ((a == 96) && is_letter b) (head.Word (prefix_len is_word_byte (b ∷ bs))) (head.Run (plain_len 0 1 (b ∷ bs))))))
    line true e =
        let is : (a ≡ 47) × (b ≡ 47) = (eqb-true a 47 (and_parts (a == 47) (b == 47) e).0, eqb-true b 47 (and_parts (a == 47) (b == 47) e).1) in
        subst (λ x. Headed (x ∷ b ∷ bs) (head.Comment (prefix_len not_newline (x ∷ b ∷ bs)))) (sym is.0)
        (subst (λ y. Headed (47 ∷ y ∷ bs) (head.Comment (prefix_len not_newline (47 ∷ y ∷ bs)))) (sym is.1) (line_comment bs))
    line false e = block e ((a == 47) && (b == 42)) refl

-- ---- and nothing else

line_is : (inside rest : List ℕ) → AllAre not_newline inside → StopsAt not_newline rest
    → head_of (47 ∷ 47 ∷ (inside ++ rest)) ≡ head.Comment (length (47 ∷ 47 ∷ inside))
unfolding head_of
line_is inside rest all stops = ap head.Comment (front_is not_newline (47 ∷ 47 ∷ inside) rest (refl, (refl, all)) stops)

with_zero : (xs : List ℕ) → HasNo ends_comment xs → HasNo ends_comment (0 ∷ xs)
with_zero [] has = tt
with_zero (x ∷ xs) has = (refl, has)

block_is : (inside rest : List ℕ) → HasNo ends_comment (inside ++ 42 ∷ [])
    → head_of (47 ∷ 42 ∷ ((inside ++ 42 ∷ 47 ∷ []) ++ rest)) ≡ head.Comment (length (47 ∷ 42 ∷ (inside ++ 42 ∷ 47 ∷ [])))
unfolding head_of
block_is inside rest first =
    ap (λ xs. comment_head (through_pair 42 47 false 0 xs)) (append_assoc inside (42 ∷ 47 ∷ []) rest)
    ∙ ap comment_head (closed_is 0 0 inside rest (with_zero (inside ++ 42 ∷ []) first))
    ∙ ap head.Comment
    (let sum : length (inside ++ 42 ∷ 47 ∷ []) ≡ length inside + 2 = length-append inside (42 ∷ 47 ∷ []) in
    let same : 2 + (0 + length inside + 2) ≡ length (47 ∷ 42 ∷ (inside ++ 42 ∷ 47 ∷ [])) = omega (arith, sum) in same)

pub open_head : (inside : List ℕ) → HasNo ends_comment inside → head_of (47 ∷ 42 ∷ inside) ≡ head.OpenComment
unfolding head_of
open_head inside has = ap comment_head (unclosed_is 0 0 inside (with_zero inside has))

pub word_head : (word rest : List ℕ) → IsWord word rest → head_of (96 ∷ (word ++ rest)) ≡ head.Word (length word)
unfolding head_of
word_head [] rest is = absurd (true≢false (sym is.begins))
word_head (w ∷ ws) rest is =
    ap (λ t. cond t (head.Word (prefix_len is_word_byte (w ∷ (ws ++ rest)))) (head.Run (plain_len 0 1 (w ∷ (ws ++ rest))))) is.begins
    ∙ ap head.Word (front_is is_word_byte (w ∷ ws) rest is.all is.ends)

first_is_none : (a : ℕ) (zs : List ℕ) → HasNo begins_cut (a ∷ take 1 zs) → (((a == 47) && (slice_index (a ∷ zs) 1 == 47)) ≡ false)
    × (((a == 47) && (slice_index (a ∷ zs) 1 == 42)) ≡ false) × (((a == 96) && is_letter (slice_index (a ∷ zs) 1)) ≡ false)
first_is_none a [] has = (and-false (a == 47), and-false (a == 47), and-false (a == 96))
first_is_none a (b ∷ bs) has = parts (a == 47) (b == 47) (b == 42) ((a == 96) && is_letter b) has.0
  where
    parts : (x y z w : Bool) → ((x && (y || z)) || w) ≡ false → ((x && y) ≡ false) × ((x && z) ≡ false) × (w ≡ false)
    parts false y z w e = (refl, refl, e)
    parts true true z w e = absurd (true≢false e)
    parts true false true w e = absurd (true≢false e)
    parts true false false w e = (refl, refl, e)

pub run_head : (cut rest : List ℕ) → IsRun cut rest → head_of (cut ++ rest) ≡ head.Run (length cut)
unfolding head_of
run_head [] rest is = absurd (omega (arith, is.some))
run_head (a ∷ cs) rest is =
    let zs : List ℕ = cs ++ rest in
    let b : ℕ = slice_index (a ∷ zs) 1 in
    let none = first_is_none a zs (first_two cs rest is.plain) in
    ap (λ t. cond t (head.Comment (prefix_len not_newline (a ∷ zs))) (cond ((a == 47) && (b == 42)) (comment_head (through_pair 42 47 false 0 (drop 2 (a ∷ zs))))
    (cond ((a == 96) && is_letter b) (head.Word (prefix_len is_word_byte zs)) (head.Run (plain_len 0 1 zs))))) none.0
    ∙ ap (λ t. cond t (comment_head (through_pair 42 47 false 0 (drop 2 (a ∷ zs))))
    (cond ((a == 96) && is_letter b) (head.Word (prefix_len is_word_byte zs)) (head.Run (plain_len 0 1 zs)))) none.1
    ∙ ap (λ t. cond t (head.Word (prefix_len is_word_byte zs)) (head.Run (plain_len 0 1 zs))) none.2
    ∙ ap head.Run (counted_run a zs (first_two cs rest is.plain) ∙ ap length (run_is a cs rest is.plain is.ends))
  where
    first_two : (cs rest : List ℕ) → HasNo begins_cut (a ∷ (cs ++ take 1 rest)) → HasNo begins_cut (a ∷ take 1 (cs ++ rest))
    first_two [] rest has = has
    first_two (c ∷ cs) rest has = (has.0, tt)

pub line_head : (cut rest : List ℕ) → IsLineComment cut rest → head_of (cut ++ rest) ≡ head.Comment (length cut)
line_head cut rest is = subst (λ xs. head_of (xs ++ rest) ≡ head.Comment (length xs)) (sym is.is) (line_is is.inside rest is.on_line is.ends)

pub block_head : (cut rest : List ℕ) → IsBlockComment cut → head_of (cut ++ rest) ≡ head.Comment (length cut)
block_head cut rest is = subst (λ xs. head_of (xs ++ rest) ≡ head.Comment (length xs)) (sym is.is) (block_is is.inside rest is.first)
