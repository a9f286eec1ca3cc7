-- Rows of a table, by number, and the shapes that stand in them.
use Rattle.std.proofs.Common.{◌≡◌, ℕ, suc, ◌+◌, ◌<◌, Bool, true, false, List, [], ◌∷◌, ◌++◌, Vec}
use Rattle.std.proofs.Common.{length, map, drop, get_or, cond, append_assoc, refl, sym, ◌∙◌, ap, ap₂, arith}
use Rattle.std.specs.Global.{Global}
use Rattle.typed_ir.specs.Rows.{row_in}
use Rattle.typed_ir.proofs.Lists.{drop_read}
use Rattle.typed_ir.specs.declared.child_shape.ChildShape.{ChildShape}
use Rattle.typed_ir.specs.declared.instance.Instance.{Instance}
use Rattle.typed_ir.specs.Shapes.{children_of, shape_of, stands_in}
use Rattle.unit_jobs.specs.Rows.{row_of, rows_from, shapes_in}

-- ---- shapes

children_so : (k : ℕ) (b : Bool) (x : Instance) (xs : List Instance)
    → cond b (shape_of x ∷ []) [] ++ map shape_of (children_of k xs) ≡ map shape_of (cond b (x ∷ children_of k xs) (children_of k xs))
children_so k true x xs = refl
children_so k false x xs = refl

-- what is appended one by one are the shapes of those that stand there
shapes_so : (k : ℕ) (xs : List Instance) → shapes_in k xs ≡ map shape_of (children_of k xs)
shapes_so k [] = refl
shapes_so k (x ∷ xs) =
    ap (λ (z : List ChildShape). cond (stands_in k x.place.parent) (shape_of x ∷ []) [] ++ z) (shapes_so k xs) ∙ children_so k
    (stands_in k x.place.parent) x xs

-- one instance more
pub row_step : (rows new : List (Vec ChildShape Global)) (all : List Instance) (i : ℕ) (x : Instance) (shape : ChildShape) (k : ℕ)
    (whole : List ChildShape)
    → i < length all → x ≡ get_or all i x → shape ≡ shape_of x → row_in new k ≡ row_in rows k ++ cond (stands_in k x.place.parent) (shape ∷ []) []
    → row_in rows k ++ shapes_in k (drop i all) ≡ whole → row_in new k ++ shapes_in k (drop (i + 1) all) ≡ whole
row_step rows new all i x shape k whole h at is more so_far =
    let left = shapes_in k (drop (i + 1) all) in
    ap (λ (z : List ChildShape). z ++ left) (more ∙ ap (λ (s : ChildShape). row_in rows k ++ cond (stands_in k x.place.parent) (s ∷ []) []) is)
    ∙ append_assoc (row_in rows k) (cond (stands_in k x.place.parent) (shape_of x ∷ []) []) left
    ∙ sym (ap (λ (zs : List Instance). row_in rows k ++ shapes_in k zs) (drop_read all i x h at))
    ∙ so_far

-- rows that are so one by one are so as a list
rows_are : (all : List Instance) (rows : List (Vec ChildShape Global)) (k : ℕ) (xs : List Instance) → length rows ≡ length xs
    → ((i : ℕ) → i < length xs → row_in rows i ≡ shapes_in (k + i) all) → map row_of rows ≡ rows_from all k xs
rows_are all [] k [] same row = refl
rows_are all [] k (x ∷ xs) same row = absurd (omega (arith, same))
rows_are all (r ∷ rs) k [] same row = absurd (omega (arith, same))
rows_are all (r ∷ rs) k (x ∷ xs) same row =
    let here : k + 0 ≡ k = omega arith in
    ap₂ (λ (z : List ChildShape) (zs : List (List ChildShape)). z ∷ zs)
    (row 0 (omega arith) ∙ ap (λ n. shapes_in n all) here ∙ shapes_so k all)
    (rows_are all rs (suc k) xs (omega (arith, same)) (λ i h.
    let next : k + suc i ≡ suc k + i = omega arith in
    row (suc i) (omega (arith, h)) ∙ ap (λ n. shapes_in n all) next))

-- empty rows to which those of all were appended
pub rows_all : (all : List Instance) (empty rows : List (Vec ChildShape Global)) → length empty ≡ length all → length rows ≡ length empty
    → ((k : ℕ) → row_in empty k ≡ []) → ((k : ℕ) → k < length empty → row_in rows k ≡ row_in empty k ++ shapes_in k all)
    → map row_of rows ≡ rows_from all 0 all
rows_all all empty rows many same none row =
    rows_are all rows 0 all (same ∙ many) (λ i h.
    let here : 0 + i ≡ i = omega arith in
    row i (omega (arith, h, many)) ∙ ap (λ (z : List ChildShape). z ++ shapes_in i all) (none i) ∙ ap (λ n. shapes_in n all) (sym here))
