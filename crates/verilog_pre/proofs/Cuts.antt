-- The first cut of a body.
use Rattle.std.proofs.Common.{◌≡◌, ℕ, zero, suc, ◌+◌, ◌-◌, ◌<◌, ◌≤◌, true, false, cond, List, [], ◌∷◌, ◌++◌, length, drop, refl, sym, ap, ◌∙◌, arith, append_assoc}
use Rattle.std.proofs.lemmas.List.{append-nil}
use Rattle.verilog_pre.specs.Parts.{Part}
use Rattle.verilog_pre.specs.declared.body_cut.BodyCut.{BodyCut}
use Rattle.verilog_pre.specs.Bodies.{body_cut, cut_len, goes_on, cut_parts, parts_from, body_from, trimmed_parts, trimmed_len}

parts_skip : (file offset k : ℕ) (bs : List ℕ) → parts_from file offset k bs ≡ parts_from file (offset + k) 0 (drop k bs)
parts_skip file offset zero bs = ap (λ o. parts_from file o 0 bs) (let same : offset ≡ offset + 0 = omega arith in same)
parts_skip file offset (suc k) [] = refl
parts_skip file offset (suc k) (b ∷ bs) =
    parts_skip file (offset + 1) k bs
    ∙ ap (λ o. parts_from file o 0 (drop k bs)) (let same : offset + 1 + k ≡ offset + suc k = omega arith in same)

body_skip : (k : ℕ) (bs : List ℕ) → k ≤ length bs → body_from k bs ≡ k + body_from 0 (drop k bs)
body_skip zero bs within = omega arith
body_skip (suc k) [] within = absurd (omega arith)
body_skip (suc k) (b ∷ bs) within =
    let more : body_from k bs ≡ k + body_from 0 (drop k bs) = body_skip k bs (omega arith) in
    omega (arith, more)

-- a cut behind which the body goes on
pub parts_on : (file offset : ℕ) (text : List ℕ) (cut : BodyCut) (n : ℕ) → 0 < length text → cut ≡ body_cut text → n ≡ cut_len cut → 0 < n → goes_on cut ≡ true
    → trimmed_parts file offset text ≡ cut_parts file offset text cut ++ trimmed_parts file (offset + n) (drop n text)
unfolding trimmed_parts
parts_on file offset [] cut n some is count more on = absurd (omega arith)
parts_on file offset (b ∷ bs) cut n some is count more on =
    ap (λ c. cut_parts file offset (b ∷ bs) c ++ cond (goes_on c) (parts_from file (offset + 1) (cut_len c - 1) bs) []) (sym is)
    ∙ ap (λ go. cut_parts file offset (b ∷ bs) cut ++ cond go (parts_from file (offset + 1) (cut_len cut - 1) bs) []) on
    ∙ ap (λ k. cut_parts file offset (b ∷ bs) cut ++ parts_from file (offset + 1) (k - 1) bs) (sym count)
    ∙ ap (λ ps. cut_parts file offset (b ∷ bs) cut ++ ps) (behind n more)
  where
    behind : (n : ℕ) → 0 < n → parts_from file (offset + 1) (n - 1) bs ≡ parts_from file (offset + n) 0 (drop n (b ∷ bs))
    behind zero more = absurd (omega arith)
    behind (suc n) more =
        ap (λ k. parts_from file (offset + 1) k bs) (let same : suc n - 1 ≡ n = omega arith in same)
        ∙ parts_skip file (offset + 1) n bs
        ∙ ap (λ o. parts_from file o 0 (drop n bs)) (let same : offset + 1 + n ≡ offset + suc n = omega arith in same)

-- and one that ends it
pub parts_last : (file offset : ℕ) (text : List ℕ) (cut : BodyCut) → 0 < length text → cut ≡ body_cut text → goes_on cut ≡ false
    → trimmed_parts file offset text ≡ cut_parts file offset text cut
unfolding trimmed_parts
parts_last file offset [] cut some is off = absurd (omega arith)
parts_last file offset (b ∷ bs) cut some is off =
    ap (λ c. cut_parts file offset (b ∷ bs) c ++ cond (goes_on c) (parts_from file (offset + 1) (cut_len c - 1) bs) []) (sym is)
    ∙ ap (λ go. cut_parts file offset (b ∷ bs) cut ++ cond go (parts_from file (offset + 1) (cut_len cut - 1) bs) []) off
    ∙ append-nil (cut_parts file offset (b ∷ bs) cut)

pub len_on : (text : List ℕ) (cut : BodyCut) (n : ℕ) → 0 < length text → cut ≡ body_cut text → n ≡ cut_len cut → 0 < n → n ≤ length text → goes_on cut ≡ true
    → trimmed_len text ≡ n + trimmed_len (drop n text)
unfolding trimmed_len
len_on [] cut n some is count more within on = absurd (omega arith)
len_on (b ∷ bs) cut n some is count more within on =
    ap (λ c. cond (goes_on c) (1 + body_from (cut_len c - 1) bs) (cut_len c)) (sym is)
    ∙ ap (λ go. cond go (1 + body_from (cut_len cut - 1) bs) (cut_len cut)) on
    ∙ ap (λ k. 1 + body_from (k - 1) bs) (sym count)
    ∙ behind n more within
  where
    behind : (n : ℕ) → 0 < n → n ≤ length (b ∷ bs) → 1 + body_from (n - 1) bs ≡ n + body_from 0 (drop n (b ∷ bs))
    behind zero more within = absurd (omega arith)
    behind (suc n) more within =
        let one : suc n - 1 ≡ n = omega arith in
        let skip : body_from n bs ≡ n + body_from 0 (drop n bs) = body_skip n bs (omega arith) in
        omega (arith, skip, ap (λ k. body_from k bs) one)

pub len_last : (text : List ℕ) (cut : BodyCut) → 0 < length text → cut ≡ body_cut text → goes_on cut ≡ false → trimmed_len text ≡ cut_len cut
unfolding trimmed_len
len_last [] cut some is off = absurd (omega arith)
len_last (b ∷ bs) cut some is off =
    ap (λ c. cond (goes_on c) (1 + body_from (cut_len c - 1) bs) (cut_len c)) (sym is)
    ∙ ap (λ go. cond go (1 + body_from (cut_len cut - 1) bs) (cut_len cut)) off

pub parts_more : (file offset : ℕ) (text rest : List ℕ) (cut : BodyCut) (n : ℕ) (before now all : List Part)
    → 0 < length text → cut ≡ body_cut text → n ≡ cut_len cut → 0 < n → goes_on cut ≡ true → rest ≡ drop n text
    → now ≡ before ++ cut_parts file offset text cut → before ++ trimmed_parts file offset text ≡ all
    → now ++ trimmed_parts file (offset + n) rest ≡ all
parts_more file offset text rest cut n before now all some is count more on behind adds so_far =
    ap (λ r. now ++ trimmed_parts file (offset + n) r) behind
    ∙ ap (λ ps. ps ++ trimmed_parts file (offset + n) (drop n text)) adds
    ∙ append_assoc before (cut_parts file offset text cut) (trimmed_parts file (offset + n) (drop n text))
    ∙ ap (λ ps. before ++ ps) (sym (parts_on file offset text cut n some is count more on))
    ∙ so_far
