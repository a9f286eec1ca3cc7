-- Lines of parameters.
use Rattle.std.proofs.Common.{◌≡◌, ℕ, List, [], ◌∷◌, ◌++◌, length, refl, sym, ap, ◌∙◌, arith}
use Rattle.std.proofs.lemmas.List.{append-nil}
use Rattle.verilog_ast.specs.declared.identifier.Identifier.{Identifier}
use Rattle.typed_ir.specs.declared.constant.Const.{Const}
use Rattle.module_registry.specs.KeyTexts.{parameter_lines}

-- without a value there is no line
no_values : (names : List (List ℕ)) (ns : List Identifier) → parameter_lines names ns [] ≡ []
no_values names [] = refl
no_values names (n ∷ ns) = refl

-- where the values end, the text is whole
pub ended : (names : List (List ℕ)) (text whole : List ℕ) (ns : List Identifier) (rest : List Const) → length rest ≡ 0 → text ++ parameter_lines names ns rest ≡ whole → text ≡ whole
ended names text whole ns [] none is = sym (append-nil text) ∙ sym (ap (λ (l : List ℕ). text ++ l) (no_values names ns)) ∙ is
ended names text whole ns (c ∷ cs) none is = absurd (omega (arith, none))
