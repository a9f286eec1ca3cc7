-- The rest of a file leaves conditionals open where the relation says so, and nowhere else.
use Rattle.std.proofs.Common.{◌≡◌, ℕ, zero, suc, ◌+◌, ◌<◌, ◌≤◌, ◌⊎◌, inl, inr, Bool, true, List, [], ◌∷◌, ◌++◌, length, drop, refl, sym, ap, subst, ◌∙◌, arith}
use Rattle.std.proofs.Math.Seq.{take-append_seam, drop-append_seam}
use Rattle.std.proofs.lemmas.Bool.{lt-ltb}
use Rattle.std.proofs.lemmas.List.{length-append}
use Rattle.verilog_pre.specs.declared.head.Head.{Head}
use Rattle.verilog_pre.specs.declared.head.Head.TheVariants as head
use Rattle.verilog_pre.specs.Directives.{directive_of}
use Rattle.verilog_pre.specs.Heads.{head_of, depth_behind, passed, stays_open}
use Rattle.verilog_pre.specs.LeavesOpen.{LeavesOpen, AllClosed, AtEnd, Comment, OpenComment, Run, Word}
use Rattle.verilog_pre.specs.Shapes.{HasNo, ends_comment, IsLineComment, IsBlockComment, IsWord}
use Rattle.verilog_pre.proofs.HeadShapes.{Headed, Line, Block, Unclosed, Backquoted, Plain, headed, line_head, block_head, open_head, word_head, run_head}
use Rattle.verilog_pre.proofs.Passed.{stays_on, none_stays, stays_at_end}
use Rattle.verilog_pre.proofs.Stretches.{longer}

-- behind a stretch it goes on with the rest
goes : (depth next : ℕ) (cut rest : List ℕ) → 0 < depth → 0 < length cut → passed depth (cut ++ rest) (head_of (cut ++ rest)) ≡ (next, length cut)
    → stays_open depth (cut ++ rest) ≡ stays_open next rest
goes depth next cut rest open_ some is =
    stays_on depth next (cut ++ rest) rest (length cut) (longer cut rest some) open_ some is (sym (drop-append_seam cut rest))

-- what the stretches come to, each by its head
comment_goes : (depth : ℕ) (cut rest : List ℕ) → 0 < depth → 0 < length cut → head_of (cut ++ rest) ≡ head.Comment (length cut)
    → stays_open depth (cut ++ rest) ≡ stays_open depth rest
comment_goes depth cut rest open_ some is = goes depth depth cut rest open_ some (ap (passed depth (cut ++ rest)) is)

run_goes : (depth : ℕ) (cut rest : List ℕ) → 0 < depth → 0 < length cut → head_of (cut ++ rest) ≡ head.Run (length cut)
    → stays_open depth (cut ++ rest) ≡ stays_open depth rest
run_goes depth cut rest open_ some is = goes depth depth cut rest open_ some (ap (passed depth (cut ++ rest)) is)

word_goes : (depth : ℕ) (word rest : List ℕ) → 0 < depth → IsWord word rest
    → stays_open depth (96 ∷ (word ++ rest)) ≡ stays_open (depth_behind depth (directive_of word)) rest
word_goes depth word rest open_ is =
    goes depth (depth_behind depth (directive_of word)) (96 ∷ word) rest open_ (omega arith)
    (ap (passed depth (96 ∷ (word ++ rest))) (word_head word rest is)
    ∙ ap (λ w. (depth_behind depth (directive_of w), 1 + length word)) (take-append_seam word rest)
    ∙ ap (λ n. (depth_behind depth (directive_of word), n)) (let same : 1 + length word ≡ length (96 ∷ word) = omega arith in same))

open_goes : (depth : ℕ) (inside : List ℕ) → 0 < depth → HasNo ends_comment inside → stays_open depth (47 ∷ 42 ∷ inside) ≡ true
open_goes depth inside open_ has =
    let text : List ℕ = 47 ∷ 42 ∷ inside in
    stays_on depth depth text [] (length text) (omega arith) open_ (omega arith) (ap (passed depth text) (open_head inside has)) (sym (drop_all text))
    ∙ stays_at_end depth ∙ lt-ltb 0 depth open_
  where
    drop_all : (xs : List ℕ) → drop (length xs) xs ≡ []
    drop_all [] = refl
    drop_all (x ∷ xs) = drop_all xs

line_some : (cut rest : List ℕ) → IsLineComment cut rest → 0 < length cut
line_some cut rest is = let size : length cut ≡ length (47 ∷ 47 ∷ is.inside) = ap length is.is in omega (arith, size)

block_some : (cut : List ℕ) → IsBlockComment cut → 0 < length cut
block_some cut is = let size : length cut ≡ length (47 ∷ 42 ∷ (is.inside ++ 42 ∷ 47 ∷ [])) = ap length is.is in omega (arith, size)

pub whole_leaves : (fuel depth : ℕ) (text : List ℕ) → length text ≤ fuel → LeavesOpen depth text (stays_open depth text)
whole_leaves fuel zero text within = subst (LeavesOpen 0 text) (sym (none_stays 0 text refl)) (AllClosed text)
whole_leaves fuel (suc d) [] within =
    let open_ : 0 < suc d = omega arith in
    subst (LeavesOpen (suc d) []) (sym (stays_at_end (suc d) ∙ lt-ltb 0 (suc d) open_)) (AtEnd (suc d) open_)
whole_leaves zero (suc d) (b ∷ bs) within = absurd (omega arith)
whole_leaves (suc fuel) (suc d) (b ∷ bs) within =
    told (head_of (b ∷ bs)) (headed (b ∷ bs) (omega arith)) (λ depth rest short. whole_leaves fuel depth rest short)
  where
    depth : ℕ
    depth = suc d

    open_ : 0 < depth
    open_ = omega arith

    Leaves : List ℕ → Type 0
    Leaves text = LeavesOpen (suc d) text (stays_open (suc d) text)

    shorter : (cut rest : List ℕ) → b ∷ bs ≡ cut ++ rest → 0 < length cut → length rest ≤ fuel
    shorter cut rest joined some =
        let size : length (cut ++ rest) ≡ length cut + length rest = length-append cut rest in
        let sizes : length (b ∷ bs) ≡ length (cut ++ rest) = ap length joined in
        omega (arith, size, some, within, sizes)

    commented : (cut rest : List ℕ) → b ∷ bs ≡ cut ++ rest → 0 < length cut → IsLineComment cut rest ⊎ IsBlockComment cut
        → head_of (cut ++ rest) ≡ head.Comment (length cut) → LeavesOpen (suc d) rest (stays_open (suc d) rest) → Leaves (b ∷ bs)
    commented cut rest joined some is at_head left =
        subst Leaves (sym joined)
        (subst (LeavesOpen (suc d) (cut ++ rest)) (sym (comment_goes (suc d) cut rest open_ some at_head))
        (Comment (suc d) cut rest (stays_open (suc d) rest) open_ is left))

    told : (h : Head) → Headed (b ∷ bs) h → ((depth : ℕ) (rest : List ℕ) → length rest ≤ fuel → LeavesOpen depth rest (stays_open depth rest)) → Leaves (b ∷ bs)
    told h (Line cut rest joined is) more =
        commented cut rest joined (line_some cut rest is) (inl is) (line_head cut rest is) (more (suc d) rest (shorter cut rest joined (line_some cut rest is)))
    told h (Block cut rest joined is) more =
        commented cut rest joined (block_some cut is) (inr is) (block_head cut rest is) (more (suc d) rest (shorter cut rest joined (block_some cut is)))
    told h (Unclosed inside joined has) more =
        subst Leaves (sym joined)
        (subst (LeavesOpen (suc d) (47 ∷ 42 ∷ inside)) (sym (open_goes (suc d) inside open_ has)) (OpenComment (suc d) inside open_ has))
    told h (Backquoted word rest joined is) more =
        let next : ℕ = depth_behind (suc d) (directive_of word) in
        subst Leaves (sym joined)
        (subst (LeavesOpen (suc d) (96 ∷ (word ++ rest))) (sym (word_goes (suc d) word rest open_ is))
        (Word (suc d) word rest (stays_open next rest) open_ is (more next rest (shorter (96 ∷ word) rest joined (omega arith)))))
    told h (Plain cut rest joined is) more =
        subst Leaves (sym joined)
        (subst (LeavesOpen (suc d) (cut ++ rest)) (sym (run_goes (suc d) cut rest open_ is.some (run_head cut rest is)))
        (Run (suc d) cut rest (stays_open (suc d) rest) open_ is (more (suc d) rest (shorter cut rest joined is.some))))

pub only_leaves : (depth : ℕ) (text : List ℕ) (stays : Bool) → LeavesOpen depth text stays → stays ≡ stays_open depth text
only_leaves depth text stays (AllClosed t) = sym (none_stays 0 t refl)
only_leaves depth text stays (AtEnd n open_) = sym (stays_at_end n ∙ lt-ltb 0 n open_)
only_leaves depth text stays (Comment n cut rest s open_ (inl is) left) =
    only_leaves n rest s left ∙ sym (comment_goes n cut rest open_ (line_some cut rest is) (line_head cut rest is))
only_leaves depth text stays (Comment n cut rest s open_ (inr is) left) =
    only_leaves n rest s left ∙ sym (comment_goes n cut rest open_ (block_some cut is) (block_head cut rest is))
only_leaves depth text stays (OpenComment n inside open_ has) = sym (open_goes n inside open_ has)
only_leaves depth text stays (Run n cut rest s open_ is left) =
    only_leaves n rest s left ∙ sym (run_goes n cut rest open_ is.some (run_head cut rest is))
only_leaves depth text stays (Word n word rest s open_ is left) =
    only_leaves (depth_behind n (directive_of word)) rest s left ∙ sym (word_goes n word rest open_ is)
