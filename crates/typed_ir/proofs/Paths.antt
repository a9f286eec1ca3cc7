-- Paths of instances, by the table before each.
use Rattle.std.proofs.Common.{◌≡◌, ℕ, zero, suc, ◌+◌, ◌<◌, ◌≤◌, ◌==◌, true, List, [], ◌∷◌, ◌++◌, length, get_or, take, drop, append_assoc, refl, sym, ◌∙◌, ap, arith}
use Rattle.std.specs.Prelude.{slice_index_or, codes}
use Rattle.std.proofs.lemmas.Bool.{eq-eqb, and_from}
use Rattle.std.proofs.lemmas.List.{length-append, length-take-le, take-append-drop, get_or_append_left, get_or-append-add}
use Rattle.ls_text.specs.Texts.{text_at}
use Rattle.typed_ir.specs.declared.instance_name.InstanceName.{InstanceName}
use Rattle.typed_ir.specs.Paths.{path_next, paths_from, paths_of, same_path, joined, dotted}
use Rattle.typed_ir.proofs.Lists.{drop_read}

paths_cut : (paths : List (List ℕ)) (xs ys : List InstanceName) → paths_from paths (xs ++ ys) ≡ paths_from (paths_from paths xs) ys
paths_cut paths [] ys = refl
paths_cut paths (x ∷ xs) ys = paths_cut (paths ++ path_next paths x.parent x.name.0 ∷ []) xs ys

paths_long : (paths : List (List ℕ)) (xs : List InstanceName) → length (paths_from paths xs) ≡ length paths + length xs
paths_long paths [] = omega arith
paths_long paths (x ∷ xs) =
    paths_long (paths ++ path_next paths x.parent x.name.0 ∷ []) xs
    ∙ ap (λ n. n + length xs) (length-append paths (path_next paths x.parent x.name.0 ∷ []))
    ∙ omega arith

none_there : (xs : List (List ℕ)) (k : ℕ) → length xs ≤ k → slice_index_or xs k [] ≡ []
none_there [] k h = refl
none_there (x ∷ xs) zero h = absurd (omega (arith, h))
none_there (x ∷ xs) (suc k) h = none_there xs k (omega (arith, h))

paths_keep : (paths : List (List ℕ)) (xs : List InstanceName) (k : ℕ) → k < length paths
    → slice_index_or (paths_from paths xs) k [] ≡ slice_index_or paths k []
paths_keep paths [] k h = refl
paths_keep paths (x ∷ xs) k h =
    let one = path_next paths x.parent x.name.0 in
    let inside : k < length (paths ++ one ∷ []) = omega (arith, h, length-append paths (one ∷ [])) in
    paths_keep (paths ++ one ∷ []) xs k inside ∙ get_or_append_left paths (one ∷ []) [] k h

pub path_beyond : (rows : List InstanceName) (k : ℕ) → length rows ≤ k → slice_index_or (paths_of rows) k [] ≡ []
path_beyond rows k h = none_there (paths_of rows) k (omega (arith, h, paths_long [] rows))

pub path_of : (rows : List InstanceName) (k : ℕ) (x : InstanceName) → k < length rows → x ≡ get_or rows k x
    → slice_index_or (paths_of rows) k [] ≡ path_next (paths_of (take k rows)) x.parent x.name.0
path_of rows k x h is =
    let earlier = paths_of (take k rows) in
    let one = path_next earlier x.parent x.name.0 in
    let rest = drop (k + 1) rows in
    let cut : rows ≡ take k rows ++ (x ∷ rest) = sym (take-append-drop k rows) ∙ ap (λ zs. take k rows ++ zs) (drop_read rows k x h is) in
    let whole : paths_of rows ≡ paths_from (earlier ++ one ∷ []) rest = ap paths_of cut ∙ paths_cut [] (take k rows) (x ∷ rest) in
    let within : k ≤ length rows = omega (arith, h) in
    let long : length earlier ≡ k = paths_long [] (take k rows) ∙ omega (arith, length-take-le k rows within) in
    let inside : k < length (earlier ++ one ∷ []) = omega (arith, length-append earlier (one ∷ []), long) in
    let back : k ≡ length earlier + 0 = omega (arith, long) in
    ap (λ ps. slice_index_or ps k []) whole
    ∙ paths_keep (earlier ++ one ∷ []) rest k inside
    ∙ ap (λ n. slice_index_or (earlier ++ one ∷ []) n []) back
    ∙ get_or-append-add earlier (one ∷ []) 0 []

pub path_itself : (xs : List ℕ) → same_path xs xs ≡ true
path_itself [] = refl
path_itself (x ∷ xs) = and_from (x == x) (same_path xs xs) (eq-eqb x x refl) (path_itself xs)

-- ---- texts of paths with one more name

pub dotted_push : (texts : List (List ℕ)) (p : List ℕ) (n : ℕ) → dotted texts (p ++ n ∷ []) ≡ dotted texts p ++ (text_at texts n ++ codes ".")
dotted_push texts [] n = refl
dotted_push texts (m ∷ p) n =
    ap (λ zs. text_at texts m ++ (codes "." ++ zs)) (dotted_push texts p n)
    ∙ sym (append_assoc (text_at texts m) (codes "." ++ dotted texts p) (text_at texts n ++ codes "."))

pub joined_push : (texts : List (List ℕ)) (p : List ℕ) (n : ℕ) → joined texts (p ++ n ∷ []) ≡ dotted texts p ++ text_at texts n
joined_push texts [] n = refl
joined_push texts (m ∷ []) n = sym (append_assoc (text_at texts m) (codes ".") (text_at texts n))
joined_push texts (m ∷ k ∷ p) n =
    ap (λ zs. text_at texts m ++ (codes "." ++ zs)) (joined_push texts (k ∷ p) n)
    ∙ sym (append_assoc (text_at texts m) (codes "." ++ dotted texts (k ∷ p)) (text_at texts n))
