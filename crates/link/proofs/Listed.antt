-- The instances that stand in each one, found in the table of a tree, are those that the tree has there.
use Rattle.std.proofs.Common.{◌≡◌, ◌≢◌, ℕ, suc, ◌+◌, ◌<◌, ◌≤◌, false, List, [], ◌∷◌, ◌++◌, length, cond, Option, Some, None, append_assoc, append-nil, refl, sym, ◌∙◌, ap, ap₂, ne_eqb, eq-eqb, arith}
use Rattle.typed_ir.specs.Shapes.{stands_in}
use Rattle.typed_ir.specs.Trees.{Instances, Nothing, One, signals_in, firsts}
use Rattle.link.specs.Copies.{kids_in}
use Rattle.link.specs.Listings.{Entry, instances_in, listed}

-- ---- what is given of instances, by their first signals

abbrev pub kids_by : {A : Type 0} → (ℕ → Entry → A) → ℕ → ℕ → List Entry → List A
kids_by give k first [] = []
kids_by give k first (x ∷ xs) = cond (stands_in k x.parent) (give first x ∷ []) [] ++ kids_by give k (first + length x.unit.signals) xs

abbrev pub tops_by : {A : Type 0} → (ℕ → Entry → A) → Option ℕ → ℕ → Instances → List A
tops_by give parent first Nothing = []
tops_by give parent first (One name u within after) =
    give first (record { parent = parent; name = name; unit = u }) ∷ tops_by give parent (first + length u.signals + signals_in within) after

pub first_alone : ℕ → Entry → ℕ
first_alone first x = first

pub kids_are : (k first : ℕ) (xs : List Entry) → kids_in k first xs ≡ kids_by first_alone k first xs
unfolding first_alone
kids_are k first [] = refl
kids_are k first (x ∷ xs) = ap (λ zs. cond (stands_in k x.parent) (first ∷ []) [] ++ zs) (kids_are k (first + length x.unit.signals) xs)

pub firsts_are : (parent : Option ℕ) (first : ℕ) (tree : Instances) → tops_by first_alone parent first tree ≡ firsts first tree
unfolding first_alone
firsts_are parent first Nothing = refl
firsts_are parent first (One name u within after) =
    ap (λ zs. first ∷ zs) (firsts_are parent (first + length u.signals + signals_in within) after)

-- each instance of a tree has those in it, by the whole table
abbrev pub HasKids : {A : Type 0} → (ℕ → Entry → A) → List Entry → ℕ → ℕ → Instances → Type 0
HasKids give all index first Nothing = Unit {0}
HasKids give all index first (One name u within after) =
    (kids_by give index 0 all ≡ tops_by give (Some index) (first + length u.signals) within)
    × HasKids give all (suc index) (first + length u.signals) within
    × HasKids give all (suc index + instances_in within) (first + length u.signals + signals_in within) after

-- ---- parts of a table

total : List Entry → ℕ
total [] = 0
total (x ∷ xs) = length x.unit.signals + total xs

total_append : (xs ys : List Entry) → total (xs ++ ys) ≡ total xs + total ys
unfolding total
total_append [] ys = omega arith
total_append (x ∷ xs) ys = ap (λ n. length x.unit.signals + n) (total_append xs ys) ∙ omega arith

total_listed : (parent : Option ℕ) (index : ℕ) (tree : Instances) → total (listed parent index tree) ≡ signals_in tree
unfolding total
total_listed parent index Nothing = refl
total_listed parent index (One name u within after) =
    ap (λ n. length u.signals + n)
    (total_append (listed (Some index) (suc index) within) (listed parent (suc index + instances_in within) after)
    ∙ ap₂ (λ a b. a + b) (total_listed (Some index) (suc index) within)
    (total_listed parent (suc index + instances_in within) after))
    ∙ omega arith

kids_append : {A : Type 0} (give : ℕ → Entry → A) (i first : ℕ) (xs ys : List Entry)
    → kids_by give i first (xs ++ ys) ≡ kids_by give i first xs ++ kids_by give i (first + total xs) ys
unfolding total
kids_append give i first [] ys = ap (λ n. kids_by give i n ys) (omega arith)
kids_append give i first (x ∷ xs) ys =
    ap (λ zs. cond (stands_in i x.parent) (give first x ∷ []) [] ++ zs) (kids_append give i (first + length x.unit.signals) xs ys)
    ∙ sym (append_assoc (cond (stands_in i x.parent) (give first x ∷ []) []) (kids_by give i (first + length x.unit.signals) xs) _)
    ∙ ap (λ n. (cond (stands_in i x.parent) (give first x ∷ []) [] ++ kids_by give i (first + length x.unit.signals) xs) ++ kids_by give i n ys) (omega arith)

-- those in the instances of a tree, and those after it
kids_split : {A : Type 0} (give : ℕ → Entry → A) (i first : ℕ) (parent : Option ℕ) (index : ℕ) (tree : Instances) (ys : List Entry)
    → kids_by give i first (listed parent index tree ++ ys) ≡ kids_by give i first (listed parent index tree) ++ kids_by give i (first + signals_in tree) ys
kids_split give i first parent index tree ys =
    kids_append give i first (listed parent index tree) ys
    ∙ ap (λ n. kids_by give i first (listed parent index tree) ++ kids_by give i (first + n) ys) (total_listed parent index tree)

other : (i index : ℕ) → index ≢ i → stands_in i (Some index) ≡ false
other i index h = ne_eqb index i h

-- no instance of a tree stands in one that is neither the tree's parent nor of the tree
kids_none : {A : Type 0} (give : ℕ → Entry → A) (i first : ℕ) (parent : Option ℕ) (index : ℕ) (tree : Instances)
    → stands_in i parent ≡ false → (index ≤ i → index + instances_in tree ≤ i) → kids_by give i first (listed parent index tree) ≡ []
kids_none give i first parent index Nothing no_parent out = refl
kids_none {A = A} give i first parent index (One name u within after) no_parent out =
    let w = listed (Some index) (suc index) within in
    let a = listed parent (suc index + instances_in within) after in
    let x : Entry = record { parent = parent; name = name; unit = u } in
    let far : index ≤ i → index + suc (instances_in within + instances_in after) ≤ i = out in
    let apart : index ≢ i = (λ (e : index ≡ i). let le : index ≤ i = omega arith in let k = far le in omega arith) in
    let out_within : suc index ≤ i → suc index + instances_in within ≤ i =
    (λ (h : suc index ≤ i). let le : index ≤ i = omega arith in let k = far le in omega arith) in
    let out_after : suc index + instances_in within ≤ i → suc index + instances_in within + instances_in after ≤ i =
    (λ (h : suc index + instances_in within ≤ i). let le : index ≤ i = omega arith in let k = far le in omega arith) in
    ap (λ b. cond b (give first x ∷ []) [] ++ kids_by give i (first + length u.signals) (w ++ a)) no_parent
    ∙ kids_split give i (first + length u.signals) (Some index) (suc index) within a
    ∙ ap₂ (λ (xs ys : List A). xs ++ ys)
    (kids_none give i (first + length u.signals) (Some index) (suc index) within (other i index apart) out_within)
    (kids_none give i (first + length u.signals + signals_in within) parent (suc index + instances_in within) after no_parent out_after)

-- those that stand side by side in `p`
kids_own : {A : Type 0} (give : ℕ → Entry → A) (p first index : ℕ) (tree : Instances) → p < index
    → kids_by give p first (listed (Some p) index tree) ≡ tops_by give (Some p) first tree
kids_own give p first index Nothing h = refl
kids_own {A = A} give p first index (One name u within after) h =
    let w = listed (Some index) (suc index) within in
    let a = listed (Some p) (suc index + instances_in within) after in
    let x : Entry = record { parent = Some p; name = name; unit = u } in
    let apart : index ≢ p = omega arith in
    let out : suc index ≤ p → suc index + instances_in within ≤ p = λ (k : suc index ≤ p). omega arith in
    let later : p < suc index + instances_in within = omega arith in
    ap (λ b. cond b (give first x ∷ []) [] ++ kids_by give p (first + length u.signals) (w ++ a)) (eq-eqb p p refl)
    ∙ ap (λ zs. give first x ∷ zs)
    (kids_split give p (first + length u.signals) (Some index) (suc index) within a
    ∙ ap₂ (λ (xs ys : List A). xs ++ ys)
    (kids_none give p (first + length u.signals) (Some index) (suc index) within (other p index apart) out)
    (kids_own give p (first + length u.signals + signals_in within) (suc index + instances_in within) after later))

-- ---- the whole table

has_kids_in : {A : Type 0} (give : ℕ → Entry → A) (all : List Entry) (parent : Option ℕ) (index first : ℕ) (tree : Instances)
    → ((i : ℕ) → index ≤ i → stands_in i parent ≡ false)
    → ((i : ℕ) → index ≤ i → i < index + instances_in tree → kids_by give i 0 all ≡ kids_by give i first (listed parent index tree))
    → HasKids give all index first tree
has_kids_in give all parent index first Nothing out same = tt
has_kids_in {A = A} give all parent index first (One name u within after) out same =
    let n = length u.signals in
    let x : Entry = record { parent = parent; name = name; unit = u } in
    let w = listed (Some index) (suc index) within in
    let a = listed parent (suc index + instances_in within) after in
    let second = first + n in
    let third = first + n + signals_in within in
    let next = suc index + instances_in within in
    let cut : (i : ℕ) → index ≤ i → i < index + suc (instances_in within + instances_in after)
    → kids_by give i 0 all ≡ kids_by give i second w ++ kids_by give i third a =
    (λ (i : ℕ) (h : index ≤ i) (k : i < index + suc (instances_in within + instances_in after)).
    same i h k
    ∙ ap (λ b. cond b (give first x ∷ []) [] ++ kids_by give i second (w ++ a)) (out i h)
    ∙ kids_split give i second (Some index) (suc index) within a) in
    let inside : index < index + suc (instances_in within + instances_in after) = omega arith in
    let here_last : index ≤ index = omega arith in
    let beyond : next ≤ index → next + instances_in after ≤ index = λ (h : next ≤ index). omega arith in
    let one_more : index < suc index = omega arith in
    let mine : kids_by give index 0 all ≡ tops_by give (Some index) second within =
    cut index here_last inside
    ∙ ap₂ (λ (xs ys : List A). xs ++ ys) (kids_own give index second (suc index) within one_more)
    (kids_none give index third parent next after (out index here_last) beyond)
    ∙ append-nil (tops_by give (Some index) second within) in
    let out_within : (i : ℕ) → suc index ≤ i → stands_in i (Some index) ≡ false =
    (λ (i : ℕ) (h : suc index ≤ i). other i index (omega arith)) in
    let out_after : (i : ℕ) → next ≤ i → stands_in i parent ≡ false =
    (λ (i : ℕ) (h : next ≤ i). out i (omega arith)) in
    let same_within : (i : ℕ) → suc index ≤ i → i < suc index + instances_in within → kids_by give i 0 all ≡ kids_by give i second w =
    (λ (i : ℕ) (h : suc index ≤ i) (k : i < suc index + instances_in within).
    let past : next ≤ i → next + instances_in after ≤ i = λ (g : next ≤ i). omega arith in
    let there : index ≤ i = omega arith in
    cut i there (omega arith)
    ∙ ap (λ zs. kids_by give i second w ++ zs) (kids_none give i third parent next after (out i there) past)
    ∙ append-nil (kids_by give i second w)) in
    let same_after : (i : ℕ) → next ≤ i → i < next + instances_in after → kids_by give i 0 all ≡ kids_by give i third a =
    (λ (i : ℕ) (h : next ≤ i) (k : i < next + instances_in after).
    let past : suc index ≤ i → suc index + instances_in within ≤ i = λ (g : suc index ≤ i). h in
    let there : index ≤ i = omega arith in
    cut i there (omega arith)
    ∙ ap (λ zs. zs ++ kids_by give i third a) (kids_none give i second (Some index) (suc index) within (other i index (omega arith)) past)) in (
      mine,
      has_kids_in give all (Some index) (suc index) second within out_within same_within,
      has_kids_in give all parent next third after out_after same_after,
    )

pub has_kids : {A : Type 0} (give : ℕ → Entry → A) (tree : Instances) → HasKids give (listed None 0 tree) 0 0 tree
has_kids give tree = has_kids_in give (listed None 0 tree) None 0 0 tree (λ i h. refl) (λ i h k. refl)
