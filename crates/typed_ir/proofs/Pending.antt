-- What a clocked block leaves as it is.
use Rattle.std.proofs.Common.{◌≡◌, ℕ, true, ◌==◌, refl, sym, ◌∙◌, ap, true≢false}
use Rattle.std.proofs.lemmas.Bool.{cond-true, cond-false}
use Rattle.typed_ir.specs.Valuations.{Valuation}
use Rattle.typed_ir.specs.Sized.{value_of}
use Rattle.typed_ir.specs.Stmts.{SizedStmt, SizedArms, Skip, Assign, Later, Then, If, Case, Arm, Default, matches_any, exec, exec_arms, is_clocked, are_clocked_arms}
use Rattle.typed_ir.proofs.Cases.{by_cases, and_left, and_right}

-- without blocking assignments nothing is written
mutual
  pub clocked_still : (st : SizedStmt) → is_clocked st ≡ true → (env : Valuation) → exec st env ≡ env
  clocked_still Skip h env = refl
  clocked_still (Assign parts e) h env = absurd (true≢false (sym h))
  clocked_still (Later parts e) h env = refl
  clocked_still (Then a b) h env =
      ap (exec b) (clocked_still a (and_left (is_clocked a) (is_clocked b) h) env) ∙ clocked_still b (and_right (is_clocked a) (is_clocked b) h) env
  clocked_still (If c a b) h env =
      by_cases (value_of c env == 0)
      (λ t. cond-true (value_of c env == 0) (exec b env) (exec a env) t ∙ clocked_still b (and_right (is_clocked a) (is_clocked b) h) env)
      (λ t. cond-false (value_of c env == 0) (exec b env) (exec a env) t ∙ clocked_still a (and_left (is_clocked a) (is_clocked b) h) env)
  clocked_still (Case e arms) h env = clocked_arms_still arms (value_of e env) h env

  clocked_arms_still : (arms : SizedArms) (subject : ℕ) → are_clocked_arms arms ≡ true → (env : Valuation) → exec_arms arms subject env ≡ env
  clocked_arms_still (Arm items body rest) subject h env =
      by_cases (matches_any subject items env)
      (λ t. cond-true (matches_any subject items env) (exec body env) (exec_arms rest subject env) t ∙ clocked_still body (and_left (is_clocked body) (are_clocked_arms rest) h) env)
      (λ t. cond-false (matches_any subject items env) (exec body env) (exec_arms rest subject env) t ∙ clocked_arms_still rest subject (and_right (is_clocked body) (are_clocked_arms rest) h) env)
  clocked_arms_still (Default otherwise) subject h env = clocked_still otherwise h env
