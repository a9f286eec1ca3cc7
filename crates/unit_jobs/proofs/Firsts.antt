-- Of several modules of one name the first is found, whether the others stand there or not.
use Rattle.std.proofs.Common.{◌≡◌, ℕ, Bool, true, false, ◌==◌, List, [], ◌∷◌, ◌++◌, sym, ◌∙◌, refl, ap, cond, append_assoc, append-nil, eqb-true}
use Rattle.std.specs.Prelude.{Option, Some, None}
use Rattle.typed_ir.proofs.Cases.{by_cases}
use Rattle.verilog_ast.specs.declared.module.Module.{Module}
use Rattle.unit_jobs.specs.FirstModules.{one_if_none, with_module, first_modules}
use Rattle.unit_jobs.specs.Jobs.{module_called}

abbrev either : Option Module → Option Module → Option Module
either None p = p
either (Some m) p = Some m

cond_either : (b : Bool) (m : Module) (o p : Option Module) → cond b (Some m) (either o p) ≡ either (cond b (Some m) o) p
cond_either true m o p = refl
cond_either false m o p = refl

called_both : (n : ℕ) (ms ns : List Module) → module_called n (ms ++ ns) ≡ either (module_called n ms) (module_called n ns)
called_both n [] ns = refl
called_both n (m ∷ ms) ns =
    ap (λ (o : Option Module). cond (n == m.body.name.name.0) (Some m) o) (called_both n ms ns)
    ∙ cond_either (n == m.body.name.name.0) m (module_called n ms) (module_called n ns)

-- one of a name that stands there before is never found
hidden : (n : ℕ) (m p : Module) (ms ns : List Module) → module_called m.body.name.name.0 ms ≡ Some p
    → either (module_called n ms) (module_called n ns) ≡ either (module_called n ms) (module_called n (m ∷ ns))
hidden n m p ms ns there = by_cases (n == m.body.name.name.0)
    (λ t.
    let here : module_called n ms ≡ Some p = ap (λ (k : ℕ). module_called k ms) (eqb-true n m.body.name.name.0 t) ∙ there in
    ap (λ (o : Option Module). either o (module_called n ns)) here ∙ sym (ap (λ (o : Option Module). either o (module_called n (m ∷ ns))) here))
    (λ f. ap (λ (b : Bool). either (module_called n ms) (cond b (Some m) (module_called n ns))) (sym f))

one_more : (n : ℕ) (m : Module) (ms ns : List Module) (o : Option Module) → module_called m.body.name.name.0 ms ≡ o
    → module_called n (one_if_none o ms m ++ ns) ≡ module_called n (ms ++ m ∷ ns)
one_more n m ms ns None there = ap (module_called n) (append_assoc ms (m ∷ []) ns)
one_more n m ms ns (Some p) there = called_both n ms ns ∙ hidden n m p ms ns there ∙ sym (called_both n ms (m ∷ ns))

firsts_behind : (n : ℕ) (ms ns : List Module) → module_called n (first_modules ms ns) ≡ module_called n (ms ++ ns)
firsts_behind n ms [] = ap (module_called n) (sym (append-nil ms))
firsts_behind n ms (m ∷ ns) = firsts_behind n (with_module ms m) ns ∙ one_more n m ms ns (module_called m.body.name.name.0 ms) refl

pub same_found : (n : ℕ) (ms : List Module) → module_called n (first_modules [] ms) ≡ module_called n ms
same_found n ms = firsts_behind n [] ms
