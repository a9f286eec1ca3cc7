-- Names in an order, one more of them.
use Rattle.std.proofs.Common.{◌≡◌, ℕ, Bool, true, false, ◌==◌, List, [], ◌∷◌, ◌++◌, refl, ◌∙◌, ap, cond}
use Rattle.ls_text.proofs.Cases.{turned}
use Rattle.verilog_ast.specs.declared.identifier.Identifier.{Identifier}
use Rattle.module_names.specs.Listings.{is_listed}

swapped : (b c d : Bool) → cond b true (cond c true d) ≡ cond c true (cond b true d)
swapped true true d = refl
swapped true false d = refl
swapped false c d = refl

-- one name more is found, beside those that were
pub listed_last : (q : ℕ) (ns : List Identifier) (n : Identifier) → is_listed q (ns ++ n ∷ []) ≡ cond (n.name.0 == q) true (is_listed q ns)
listed_last q [] n = ap (λ (b : Bool). cond b true false) (turned q n.name.0)
listed_last q (m ∷ ns) n =
    ap (λ (b : Bool). cond (q == m.name.0) true b) (listed_last q ns n) ∙ swapped (q == m.name.0) (n.name.0 == q) (is_listed q ns)
