-- The first module beyond those that a design may have.
use Rattle.std.proofs.Common.{◌≡◌, ℕ, ◌<◌, ◌≤◌, List, [], ◌∷◌, length, get_or, Ok, Err, sym, subst}
use Rattle.ls_text.specs.declared.refusal.Refusal.{Refusal}
use Rattle.verilog_ast.specs.declared.module.Module.{Module}
use Rattle.verilog_ast.specs.Views.{declaration_of, declarations_of}
use Rattle.width_rules.specs.Faults.{IsFirst, fault_at}
use Rattle.ls_text.specs.Answers.{Answers}
use Rattle.gen_unroll.proofs.Values.{is_first}
use Rattle.elaborate.specs.Elaborated.{none_more, few_modules}
use Rattle.elaborate.proofs.Dropping.{from_place_viewed, past_end}

pub refused_beyond : (xs : List Module) (i : ℕ) (x : Module) (r : Refusal) → i < length xs → x ≡ get_or xs i x → IsFirst (fault_at 40 x.body.name ∷ []) r
    → Answers {A = Unit {0}} (Err r) (λ u. u) (few_modules i (declarations_of xs))
refused_beyond xs i x r h is first =
    subst (Answers {A = Unit {0}} (Err r) (λ u. u)) (sym (from_place_viewed none_more (λ (m : Module). declaration_of m.body) xs i x h is))
    (is_first (fault_at 40 x.body.name ∷ []) tt (λ (u : Unit {0}). u) r first)

pub none_beyond : (xs : List Module) (i : ℕ) → length xs ≤ i → few_modules i (declarations_of xs) ≡ Ok tt
none_beyond xs i h = past_end none_more (λ (m : Module). declaration_of m.body) xs i h

pub ruleset beyond = (refused_beyond, none_beyond)
