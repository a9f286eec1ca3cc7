-- What stands before a name of a block, by the table of blocks.
use Rattle.std.proofs.Common.{◌≡◌, ℕ, suc, ◌+◌, ◌<◌, ◌≤◌, ◌==◌, List, [], ◌∷◌, ◌++◌, length, length-append, map, get_or, take, drop, append_assoc, Some, refl, sym, ◌∙◌, ap, arith}
use Rattle.std.specs.Prelude.{reverse}
use Rattle.std.specs.List.{take-map}
use Rattle.std.proofs.lemmas.Bool.{ne_eqb, eq-eqb, cond-true, cond-false}
use Rattle.std.proofs.lemmas.List.{take-append-drop, reverse-append, length-reverse, length-map, length-take-le, get_or-map}
use Rattle.gen_unroll.specs.declared.block.Block.{Block}
use Rattle.gen_unroll.specs.Steps.{GenerateBlock}
use Rattle.gen_unroll.specs.Spoken.{own_text, prefix_in}
use Rattle.gen_unroll.specs.Views.{block_of}
use Rattle.typed_ir.proofs.Lists.{drop_read}

-- a block that stands before is not among those behind
skipped : (texts : List (List ℕ)) (xs ys : List GenerateBlock) (k : ℕ) → k < length ys → prefix_in texts (xs ++ ys) (Some k) ≡ prefix_in texts ys (Some k)
skipped texts [] ys k h = refl
skipped texts (x ∷ xs) ys k h =
    cond-false (k == length (xs ++ ys)) (prefix_in texts (xs ++ ys) x.parent ++ own_text texts x) (prefix_in texts (xs ++ ys) (Some k))
    (ne_eqb k (length (xs ++ ys)) (λ same. let long = length-append xs ys in omega (arith, same, long, h)))
    ∙ skipped texts xs ys k h

beyond : (texts : List (List ℕ)) (xs : List GenerateBlock) (k : ℕ) → length xs ≤ k → prefix_in texts xs (Some k) ≡ []
beyond texts [] k h = refl
beyond texts (x ∷ xs) k h =
    cond-false (k == length xs) (prefix_in texts xs x.parent ++ own_text texts x) (prefix_in texts xs (Some k))
    (ne_eqb k (length xs) (λ same. let long : suc (length xs) ≤ k = h in omega (arith, same, long)))
    ∙ beyond texts xs k (let long : suc (length xs) ≤ k = h in omega (arith, long))

-- the table cut at a block, the last one first
cut : (xs : List GenerateBlock) (k : ℕ) (b : GenerateBlock) → k < length xs → b ≡ get_or xs k b
    → reverse xs ≡ reverse (drop (k + 1) xs) ++ (b ∷ reverse (take k xs))
cut xs k b h is =
    ap reverse (sym (take-append-drop k xs) ∙ ap (λ zs. take k xs ++ zs) (drop_read xs k b h is))
    ∙ reverse-append (take k xs) (b ∷ drop (k + 1) xs)
    ∙ ap (λ zs. zs ++ reverse (take k xs)) (reverse-append (b ∷ []) (drop (k + 1) xs))
    ∙ append_assoc (reverse (drop (k + 1) xs)) (b ∷ []) (reverse (take k xs))

at_block : (texts : List (List ℕ)) (xs : List GenerateBlock) (k : ℕ) (b : GenerateBlock) → k < length xs → b ≡ get_or xs k b
    → prefix_in texts (reverse xs) (Some k) ≡ prefix_in texts (reverse (take k xs)) b.parent ++ own_text texts b
at_block texts xs k b h is =
    let many : length (reverse (take k xs)) ≡ k = length-reverse (take k xs) ∙ length-take-le k xs (omega (arith, h)) in
    ap (λ zs. prefix_in texts zs (Some k)) (cut xs k b h is)
    ∙ skipped texts (reverse (drop (k + 1) xs)) (b ∷ reverse (take k xs)) k (omega (arith, many))
    ∙ cond-true (k == length (reverse (take k xs))) (prefix_in texts (reverse (take k xs)) b.parent ++ own_text texts b) (prefix_in texts (reverse (take k xs)) (Some k))
    (eq-eqb k (length (reverse (take k xs))) (sym many))

-- of the code's table
pub prefix_at : (texts : List (List ℕ)) (xs : List Block) (k : ℕ) (b : Block) → k < length xs → b ≡ get_or xs k b
    → prefix_in texts (reverse (map block_of xs)) (Some k) ≡ prefix_in texts (reverse (map block_of (take k xs))) (block_of b).parent ++ own_text texts (block_of b)
prefix_at texts xs k b h is =
    at_block texts (map block_of xs) k (block_of b) (let z = length-map xs block_of in omega (arith, z, h)) (ap block_of is ∙ mapped xs k b h)
    ∙ ap (λ zs. prefix_in texts (reverse zs) (block_of b).parent ++ own_text texts (block_of b)) (take-map block_of k xs)
  where
    mapped : (xs : List Block) (k : ℕ) (b : Block) → k < length xs → block_of (get_or xs k b) ≡ get_or (map block_of xs) k (block_of b)
    mapped xs k b h = sym (get_or-map block_of xs k b (block_of b) h)

pub prefix_beyond : (texts : List (List ℕ)) (xs : List Block) (k : ℕ) → length xs ≤ k → prefix_in texts (reverse (map block_of xs)) (Some k) ≡ []
prefix_beyond texts xs k h =
    beyond texts (reverse (map block_of xs)) k (let z = length-reverse (map block_of xs) ∙ length-map xs block_of in omega (arith, z, h))
