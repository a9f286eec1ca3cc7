-- An instance, by the levels that are left below the one that it stands in.
use Rattle.std.proofs.Common.{◌≡◌, ℕ, zero, suc, ◌-◌, nat_le, if◌then◌else◌, List, [], ◌∷◌, ◌++◌, length, Err, refl, ap, arith}
use Rattle.std.specs.Prelude.{Option}
use Rattle.verilog_ast.specs.Items.{ModuleDeclaration}
use Rattle.width_rules.specs.Faults.{fault_at}
use Rattle.ls_text.specs.Answers.{◌>>=◌}
use Rattle.elaborate.specs.declared.limits.Limits.{Limits}
use Rattle.elaborate.specs.Checks.{ModuleChild, or_no_module}
use Rattle.elaborate.specs.Elaborated.{Standing, child_at, of_module, is_on}
use Rattle.module_names.specs.Modules.{module_named}

-- where some level is left
pub child_deep : (l : Limits) (ms : List ModuleDeclaration) (left : ℕ) (path : List ℕ) (above : ℕ) (c : ModuleChild) (k : Option ℕ) (all : List Standing) → (left ≡ 0 → ⊥)
    → child_at l ms left path above c k all
    ≡ (if is_on path c.instantiated.name.0 then Err (fault_at 23 c.instantiated)
    else if nat_le l.instances (length all) then Err (fault_at 40 c.instantiated)
    else (or_no_module (module_named c.instantiated.name.0 ms) c.instantiated
    >>= λ m. of_module l ms above (child_at l ms (left - 1) (path ++ c.instantiated.name.0 ∷ [])) c k all m))
child_deep l ms zero path above c k all some = absurd (some refl)
child_deep l ms (suc n) path above c k all some =
    let less : n ≡ suc n - 1 = omega arith in
    ap (λ (x : ℕ). if is_on path c.instantiated.name.0 then Err (fault_at 23 c.instantiated)
    else if nat_le l.instances (length all) then Err (fault_at 40 c.instantiated)
    else (or_no_module (module_named c.instantiated.name.0 ms) c.instantiated
    >>= λ m. of_module l ms above (child_at l ms x (path ++ c.instantiated.name.0 ∷ [])) c k all m)) less

-- where none is left
pub child_top : (l : Limits) (ms : List ModuleDeclaration) (left : ℕ) (path : List ℕ) (above : ℕ) (c : ModuleChild) (k : Option ℕ) (all : List Standing) → left ≡ 0
    → child_at l ms left path above c k all ≡ Err (fault_at 23 c.instantiated)
child_top l ms zero path above c k all is = refl
child_top l ms (suc n) path above c k all is = absurd (let z : suc n ≡ 0 = is in omega arith)

pub ruleset children = (child_deep, child_top)
