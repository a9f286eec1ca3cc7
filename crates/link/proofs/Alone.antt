-- A table of instances is that of one tree alone.
use Rattle.std.proofs.Common.{◌≡◌, ℕ, suc, ◌+◌, ◌≤◌, List, [], ◌∷◌, ◌++◌, length, get_or, drop, Option, Some, None, append_assoc, append-nil, refl, sym, ◌∙◌, ap, ap₂, arith}
use Rattle.std.proofs.lemmas.Option.{none-some}
use Rattle.typed_ir.specs.Trees.{Instances, Nothing, One}
use Rattle.link.specs.Listings.{Entry, instances_in, listed}

number : Option ℕ → ℕ
number None = 0
number (Some q) = q

-- the parent stands before the instances from `index` on
abbrev IsBefore : ℕ → Option ℕ → Type 0
IsBefore index parent = (q : ℕ) → index ≤ q → parent ≡ Some q → ⊥

-- what comes after instances that stand in `parent`, and begin with number `index`
abbrev IsOutside : ℕ → Option ℕ → List Entry → Type 0
IsOutside index parent [] = Unit {0}
IsOutside index parent (e ∷ es) = (e.parent ≡ parent → ⊥) × IsBefore index e.parent

later_outside : (index next : ℕ) (parent : Option ℕ) (xs : List Entry) → index ≤ next → IsOutside index parent xs → IsOutside next parent xs
later_outside index next parent [] h out = tt
later_outside index next parent (e ∷ es) h out = (out.0, λ q k is. out.1 q (omega (arith, h, k)) is)

within_outside : (index next : ℕ) (parent : Option ℕ) (after : Instances) (xs : List Entry) → IsBefore index parent → IsOutside index parent xs
    → IsOutside (suc index) (Some index) (listed parent next after ++ xs)
within_outside index next parent Nothing [] before out = tt
within_outside index next parent Nothing (e ∷ es) before out = ((λ is. out.1 index (omega arith) is), λ q k is. out.1 q (omega (arith, k)) is)
within_outside index next parent (One name u w a) xs before out = ((λ is. before index (omega arith) is), λ q k is. before q (omega (arith, k)) is)

record IsSame (s t : Instances) (xs ys : List Entry) : Type 0 where
  tree : s ≡ t
  rest : xs ≡ ys

abbrev nobody : Entry
nobody = record { parent = None; name = 0; unit = record { signals = []; registers = []; inputs = []; nodes = []; clocked = [] } }

same : (index : ℕ) (parent : Option ℕ) (s t : Instances) (xs ys : List Entry) → IsBefore index parent → IsOutside index parent xs → IsOutside index parent ys
    → listed parent index s ++ xs ≡ listed parent index t ++ ys → IsSame s t xs ys
unfolding number
same index parent Nothing Nothing xs ys before out over is = record { tree = refl; rest = is }
same index parent Nothing (One name u within after) [] ys before out over is = absurd (omega (arith, ap (λ (zs : List Entry). length zs) is))
same index parent Nothing (One name u within after) (x ∷ xs) ys before out over is = absurd (out.0 (ap (λ (zs : List Entry). (get_or zs 0 nobody).parent) is))
same index parent (One name u within after) Nothing xs [] before out over is = absurd (omega (arith, ap (λ (zs : List Entry). length zs) is))
same index parent (One name u within after) Nothing xs (y ∷ ys) before out over is = absurd (over.0 (sym (ap (λ (zs : List Entry). (get_or zs 0 nobody).parent) is)))
same index parent (One name u within after) (One name2 u2 within2 after2) xs ys before out over is =
    let next = suc index + instances_in within in
    let next2 = suc index + instances_in within2 in
    let inside : IsBefore (suc index) (Some index) = λ q k e. omega (arith, k, ap number e) in
    let tails : listed (Some index) (suc index) within ++ (listed parent next after ++ xs) ≡ listed (Some index) (suc index) within2 ++ (listed parent next2 after2 ++ ys) =
    sym (append_assoc (listed (Some index) (suc index) within) (listed parent next after) xs)
    ∙ ap (λ (zs : List Entry). drop 1 zs) is
    ∙ append_assoc (listed (Some index) (suc index) within2) (listed parent next2 after2) ys in
    let inner = same (suc index) (Some index) within within2 (listed parent next after ++ xs) (listed parent next2 after2 ++ ys) inside
    (within_outside index next parent after xs before out) (within_outside index next2 parent after2 ys before over) tails in
    let further : index ≤ next = omega arith in
    let later = same next parent after after2 xs ys (λ q k e. before q (omega (arith, k, further)) e)
    (later_outside index next parent xs further out) (later_outside index next parent ys further over)
    (inner.rest ∙ ap (λ n. listed parent n after2 ++ ys) (ap (λ (t : Instances). suc index + instances_in t) (sym inner.tree))) in
    record {
      tree = ap (λ n. One n u within after) (ap (λ (zs : List Entry). (get_or zs 0 nobody).name) is)
          ∙ ap (λ v. One name2 v within after) (ap (λ (zs : List Entry). (get_or zs 0 nobody).unit) is)
          ∙ ap₂ (λ w a. One name2 u2 w a) inner.tree later.tree;
      rest = later.rest;
    }

pub one_tree : (s t : Instances) → listed None 0 s ≡ listed None 0 t → s ≡ t
unfolding number
one_tree s t is =
    (same 0 None s t [] [] (λ q h e. none-some q e) tt tt (append-nil (listed None 0 s) ∙ is ∙ sym (append-nil (listed None 0 t)))).tree
