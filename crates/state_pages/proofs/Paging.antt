-- The words of pages, page by page.
use Rattle.std.proofs.Common.{◌≡◌, ℕ, zero, suc, ◌+◌, ◌-◌, ◌*◌, ◌/◌, ◌%◌, ◌<◌, ◌≤◌, List, [], ◌∷◌, ◌++◌, length, get_or, set, take, drop, replicate, refl, sym, ◌∙◌, ap, subst, arith, append_assoc, append-nil, length-append, length-take}
use Rattle.std.proofs.lemmas.List.{get_or_append_left, get_or-append_right, set-append_left, set-append_right, get_or-take, take-append-drop, replicate-append-replicate, take_at, drop_at, length-set, set_comm, get_or-set_other}
use Rattle.std.specs.Arc.{arc_value}
use Rattle.std.specs.Global.{Global}
use Rattle.std.specs.List.{AllZip}
use Rattle.std.specs.Prelude.{◌⊎◌, OnErr, IsOk}
use Rattle.std.proofs.lemmas.Result.{IfErr-at_err}
use Rattle.std.specs.Vec.{vec_len}
use Rattle.std.specs.declared.vec.Vec.{Vec}
use Rattle.std.specs.declared.result.Result.{Result}
use Rattle.std.specs.declared.result.Result.TheVariants.{Ok, Err}
use mathlib.Core.Logic.{inl, inr}
use Rattle.std.specs.declared.sync.Arc.{Arc}
use Rattle.state_pages.specs.declared.page.Page.{Page}
use Rattle.state_pages.specs.Words.{page_words, words_in, AreFilled}

length_page : (page : Arc Page Global) → length (page_words page) ≡ 64
length_page page = page.value.full

pub words_length : (pages : List (Arc Page Global)) → length (words_in pages) ≡ 64 * length pages
words_length [] = refl
words_length (page ∷ pages) = length-append (page_words page) (words_in pages) ∙ omega (arith, length_page page, words_length pages)

-- word w of page p
pub word_within : (pages : List (Arc Page Global)) (i p w : ℕ) (d : Arc Page Global)
    → i ≡ 64 * p + w → p < length pages → w < 64 → get_or (words_in pages) i 0 ≡ get_or (page_words (get_or pages p d)) w 0
word_within [] i p w d is there within = absurd (omega (arith, there))
word_within (page ∷ pages) i zero w d is there within =
    let here : i ≡ w = omega (arith, is) in
    ap (λ n. get_or (page_words page ++ words_in pages) n 0) here ∙ get_or_append_left (page_words page) (words_in pages) 0 w (omega (arith, length_page page, within))
word_within (page ∷ pages) i (suc p) w d is there within =
    get_or-append_right (page_words page) (words_in pages) 64 i 0 (length_page page) (omega (arith, is))
    ∙ word_within pages (i - 64) p w d (omega (arith, is)) (omega (arith, there)) within

-- the pages with a page in which word w is written
pub put_page : (pages : List (Arc Page Global)) (i p w value : ℕ) (d page : Arc Page Global)
    → i ≡ 64 * p + w → p < length pages → w < 64 → page_words page ≡ set (page_words (get_or pages p d)) w value
    → words_in (set pages p page) ≡ set (words_in pages) i value
put_page [] i p w value d page is there within put = absurd (omega (arith, there))
put_page (x ∷ pages) i zero w value d page is there within put =
    let here : w ≡ i = omega (arith, is) in
    ap (λ ws. ws ++ words_in pages) put ∙ sym (set-append_left (page_words x) (words_in pages) w value (omega (arith, length_page x, within)))
    ∙ ap (λ n. set (page_words x ++ words_in pages) n value) here
put_page (x ∷ pages) i (suc p) w value d page is there within put =
    ap (λ ws. page_words x ++ ws) (put_page pages (i - 64) p w value d page (omega (arith, is)) (omega (arith, there)) within put)
    ∙ sym (set-append_right (page_words x) (words_in pages) 64 i value (length_page x) (omega (arith, is)))

-- the pages with a page in which word w and the next are written
pub pair_page : (pages : List (Arc Page Global)) (i p w low high : ℕ) (d page : Arc Page Global)
    → i ≡ 64 * p + w → p < length pages → w + 1 < 64 → page_words page ≡ set (set (page_words (get_or pages p d)) w low) (w + 1) high
    → words_in (set pages p page) ≡ set (set (words_in pages) i low) (i + 1) high
pair_page [] i p w low high d page is there within put = absurd (omega (arith, there))
pair_page (x ∷ pages) i zero w low high d page is there within put =
    let here : w ≡ i = omega (arith, is) in
    let first : set (page_words x ++ words_in pages) w low ≡ set (page_words x) w low ++ words_in pages =
    set-append_left (page_words x) (words_in pages) w low (omega (arith, length_page x, within)) in
    let second : set (set (page_words x) w low ++ words_in pages) (w + 1) high ≡ set (set (page_words x) w low) (w + 1) high ++ words_in pages =
    set-append_left (set (page_words x) w low) (words_in pages) (w + 1) high (omega (arith, length-set (page_words x) w low, length_page x, within)) in
    ap (λ ws. ws ++ words_in pages) put ∙ sym second ∙ ap (λ ws. set ws (w + 1) high) (sym first)
    ∙ ap (λ n. set (set (page_words x ++ words_in pages) n low) (n + 1) high) here
pair_page (x ∷ pages) i (suc p) w low high d page is there within put =
    let next : i - 64 + 1 ≡ i + 1 - 64 = omega (arith, is) in
    let first : set (page_words x ++ words_in pages) i low ≡ page_words x ++ set (words_in pages) (i - 64) low =
    set-append_right (page_words x) (words_in pages) 64 i low (length_page x) (omega (arith, is)) in
    let second : set (page_words x ++ set (words_in pages) (i - 64) low) (i + 1) high ≡ page_words x ++ set (set (words_in pages) (i - 64) low) (i + 1 - 64) high =
    set-append_right (page_words x) (set (words_in pages) (i - 64) low) 64 (i + 1) high (length_page x) (omega (arith, is)) in
    ap (λ ws. page_words x ++ ws) (pair_page pages (i - 64) p w low high d page (omega (arith, is)) (omega (arith, there)) within put)
    ∙ ap (λ n. page_words x ++ set (set (words_in pages) (i - 64) low) n high) next ∙ sym second ∙ ap (λ ws. set ws (i + 1) high) (sym first)

-- the pages with two pages: in the first the last word is written, in the next the first
pub put_pages : (pages : List (Arc Page Global)) (i p low high : ℕ) (d e first second : Arc Page Global)
    → i ≡ 64 * p + 63 → p + 1 < length pages → page_words first ≡ set (page_words (get_or pages p d)) 63 low → page_words second ≡ set (page_words (get_or pages (p + 1) e)) 0 high
    → words_in (set (set pages (p + 1) second) p first) ≡ set (set (words_in pages) i low) (i + 1) high
put_pages pages i p low high d e first second is there one two =
    let other : get_or (set pages (p + 1) second) p d ≡ get_or pages p d = get_or-set_other pages (p + 1) p second d (omega arith) in
    let behind : words_in (set pages (p + 1) second) ≡ set (words_in pages) (i + 1) high = put_page pages (i + 1) (p + 1) 0 high e second (omega (arith, is)) there (omega arith) two in
    put_page (set pages (p + 1) second) i p 63 low d first is (omega (arith, there, length-set pages (p + 1) second)) (omega arith) (one ∙ ap (λ page. set (page_words page) 63 low) (sym other))
    ∙ ap (λ ws. set ws i low) behind ∙ set_comm (words_in pages) (i + 1) i high low (omega arith)

-- the pages with a page of the same words
pub kept_page : (pages : List (Arc Page Global)) (p : ℕ) (d page : Arc Page Global) → page_words page ≡ page_words (get_or pages p d) → words_in (set pages p page) ≡ words_in pages
kept_page [] p d page same = refl
kept_page (x ∷ pages) zero d page same = ap (λ ws. ws ++ words_in pages) same
kept_page (x ∷ pages) (suc p) d page same = ap (λ ws. page_words x ++ ws) (kept_page pages p d page same)

-- the same pages, shared
pub shared_pages : (xs ys : List (Arc Page Global)) → AllZip (λ x y. arc_value y ≡ arc_value x) xs ys → words_in ys ≡ words_in xs
shared_pages [] [] same = refl
shared_pages [] (y ∷ ys) same = absurd same
shared_pages (x ∷ xs) [] same = absurd same
shared_pages (x ∷ xs) (y ∷ ys) same =
    ap (λ (page : Page). page.words ++ words_in ys) same.0 ∙ ap (λ ws. page_words x ++ ws) (shared_pages xs ys same.1)

-- a list of pages for an owner of its own
pub owned_words : (old new : Vec (Arc Page Global) Global)
    → (new ≡ old) ⊎ (AllZip (λ x y. arc_value y ≡ arc_value x) old.items new.items × (vec_len new ≡ vec_len old)) → words_in new.items ≡ words_in old.items
owned_words old new (inl same) = ap (λ (v : Vec (Arc Page Global) Global). words_in v.items) same
owned_words old new (inr shared) = shared_pages old.items new.items shared.0

-- what a borrow that was made or refused tells
pub told_at_err : {T E P : Type 0} {r : Result T E} {e : E} → r ≡ Err e → OnErr r P → P
told_at_err {P = P} is h = IfErr-at_err (λ _. P) is h

pub made : {T E : Type 0} {r : Result T E} {x : T} → r ≡ Ok x → IsOk r
made {r = r} is = subst IsOk (sym is) refl

pub always : {T E P : Type 0} (r : Result T E) → P → OnErr r P
always (Ok x) p = tt
always (Err e) p = p

pub one_more : (pages : List (Arc Page Global)) (page : Arc Page Global) → words_in (pages ++ page ∷ []) ≡ words_in pages ++ page_words page
one_more [] page = append-nil (page_words page)
one_more (x ∷ pages) page = ap (λ ws. page_words x ++ ws) (one_more pages page) ∙ sym (append_assoc (page_words x) (words_in pages) (page_words page))

-- one page of zeros more
pub more_zeros : (pages : List (Arc Page Global)) (page : Arc Page Global) (n : ℕ)
    → words_in pages ≡ replicate (64 * n) 0 → page_words page ≡ replicate 64 0 → words_in (pages ++ page ∷ []) ≡ replicate (64 * (n + 1)) 0
more_zeros pages page n zeros blank =
    let more : 64 * n + 64 ≡ 64 * (n + 1) = omega arith in
    one_more pages page ∙ ap (λ ws. ws ++ page_words page) zeros ∙ ap (λ ws. replicate (64 * n) 0 ++ ws) blank
    ∙ replicate-append-replicate (64 * n) 64 0 ∙ ap (λ k. replicate k 0) more

-- ---- so many words

room : (count : ℕ) (pages : List (Arc Page Global)) → AreFilled count pages → count ≤ length (words_in pages)
room count pages filled = omega (arith, words_length pages, filled.0)

pub count_is : (count : ℕ) (pages : List (Arc Page Global)) (view : List ℕ) → take count (words_in pages) ≡ view → AreFilled count pages → count ≡ length view
count_is count pages view is filled =
    omega (arith, length-take count (words_in pages), ap length is, room count pages filled)

-- a word of the view
pub word_is : (count i : ℕ) (pages : List (Arc Page Global)) (view : List ℕ) (d : Arc Page Global)
    → take count (words_in pages) ≡ view → AreFilled count pages → i < length view → get_or (page_words (get_or pages (i / 64) d)) (i % 64) 0 ≡ get_or view i 0
word_is count i pages view d is filled there =
    let counted = count_is count pages view is filled in
    let within : i < count = omega (arith, there, counted) in
    sym (word_within pages i (i / 64) (i % 64) d (omega arith) (omega (arith, within, filled.0)) (omega arith))
    ∙ sym (get_or-take count (words_in pages) i 0 within) ∙ ap (λ ws. get_or ws i 0) is

-- ---- the same words

-- each page of the same words
pub same_page_at : (xs ys : List (Arc Page Global)) (p : ℕ) (d e : Arc Page Global) → p < length xs → p < length ys → words_in xs ≡ words_in ys
    → page_words (get_or xs p d) ≡ page_words (get_or ys p e)
same_page_at [] ys p d e one other same = absurd (omega (arith, one))
same_page_at (x ∷ xs) [] p d e one other same = absurd (omega (arith, other))
same_page_at (x ∷ xs) (y ∷ ys) zero d e one other same =
    sym (take_at (page_words x) (words_in xs) 64 (length_page x)) ∙ ap (take 64) same ∙ take_at (page_words y) (words_in ys) 64 (length_page y)
same_page_at (x ∷ xs) (y ∷ ys) (suc p) d e one other same =
    same_page_at xs ys p d e (omega (arith, one)) (omega (arith, other))
    (sym (drop_at (page_words x) (words_in xs) 64 (length_page x)) ∙ ap (drop 64) same ∙ drop_at (page_words y) (words_in ys) 64 (length_page y))

-- two views of as many words
pub views_same : (m n : ℕ) (xs ys : List (Arc Page Global)) (u v : List ℕ)
    → m ≡ n → take m (words_in xs) ≡ u → take n (words_in ys) ≡ v → AreFilled m xs → AreFilled n ys → u ≡ v → words_in xs ≡ words_in ys
views_same m n xs ys u v many one other full filled same =
    let long : length ys ≡ length xs = filled.0 ∙ ap (λ k. (k + 63) / 64) (sym many) ∙ sym full.0 in
    let fronts : take m (words_in xs) ≡ take m (words_in ys) = one ∙ same ∙ sym other ∙ ap (λ k. take k (words_in ys)) (sym many) in
    let zeros : drop m (words_in ys) ≡ replicate (64 * length xs - m) 0 = ap (λ k. drop k (words_in ys)) many ∙ filled.1 ∙ ap (λ k. replicate (64 * length ys - k) 0) (sym many) ∙ ap (λ k. replicate (64 * k - m) 0) long in
    let rests : drop m (words_in xs) ≡ drop m (words_in ys) = full.1 ∙ sym zeros in
    sym (take-append-drop m (words_in xs)) ∙ ap (λ ws. ws ++ drop m (words_in xs)) fronts ∙ ap (λ ws. take m (words_in ys) ++ ws) rests ∙ take-append-drop m (words_in ys)
