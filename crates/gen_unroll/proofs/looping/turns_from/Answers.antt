use Rattle.std.proofs.Common.{◌≡◌, ◌-◌, [], ◌∷◌, ◌++◌, Bool, true, false, map, length, length-append, Ok, Err, sym, ◌∙◌, ap, subst, arith, rules}
use Rattle.std.proofs.lemmas.List.{map-append}
use Rattle.typed_ir.specs.declared.constant.Const.{Const}
use Rattle.verilog_ast.specs.declared.expression.Expr.{Expr}
use Rattle.verilog_ast.specs.Views.{expression_of, head_of}
use Rattle.width_rules.specs.Entries.{scope_of}
use Rattle.gen_unroll.specs.Unrolled.{genvar_value, turns_from}
use Rattle.ls_text.specs.Answers.{Answers}
use Rattle.gen_unroll.specs.Values.{constant_of, evaluated}
use Rattle.gen_unroll.proofs.Counting.{before, goes_more, ends_here, passes_limit, limit_refused, condition_refused, step_refused}
use Rattle.gen_unroll.proofs.Scoping.{differs_more}
use Rattle.gen_unroll.proofs.looping.turns_from.Goals as goal

pub returns-in-Err-clause-answer : goal.returns-in-Err-clause-answer
returns-in-Err-clause-answer c =
    condition_refused c.args.at (head_of c.args.head.now) (scope_of c.args.scope.now) (scope_of c.turns.scope) c.turns.left (constant_of c.turns.value)
    (map constant_of c.turns.values.items) _ (λ vs. map constant_of vs.items) (λ b. b) c.in-Err.refusal
    c.turns.invariant.answer c.turns.invariant.names c.in-Err.ensures.answer

pub returns-then-not-more-clause-answer : goal.returns-then-not-more-clause-answer
returns-then-not-more-clause-answer c =
    let stops : c.in-Ok.more ≡ false = search rules in
    ends_here c.args.at (head_of c.args.head.now) (scope_of c.args.scope.now) (scope_of c.turns.scope) c.turns.left (constant_of c.turns.value)
    (map constant_of c.turns.values.items) _ c.turns.invariant.answer c.turns.invariant.names
    (c.in-Ok.ensures.answer ∙ ap (λ (b : Bool). Ok b) stops)

pub returns-then-left-eq0-clause-answer : goal.returns-then-left-eq0-clause-answer
returns-then-left-eq0-clause-answer c =
    let goes : c.in-Ok.more ≡ true = search rules in
    limit_refused c.args.at _ (λ vs. map constant_of vs.items) c.refused.result
    (passes_limit c.args.at (head_of c.args.head.now) (scope_of c.args.scope.now) (scope_of c.turns.scope) c.turns.left (constant_of c.turns.value)
    (map constant_of c.turns.values.items) _ c.turns.invariant.answer c.turns.invariant.names c.if-left-eq0.true
    (c.in-Ok.ensures.answer ∙ ap (λ (b : Bool). Ok b) goes))
    c.refused.ensures

pub returns-in-Err-evaluated-clause-answer : goal.returns-in-Err-evaluated-clause-answer
returns-in-Err-evaluated-clause-answer c =
    let goes : c.in-Ok.more ≡ true = search rules in
    step_refused c.args.at (head_of c.args.head.now) (scope_of c.args.scope.now) (scope_of c.turns.scope) (scope_of c.enters.new.scope) c.turns.left (constant_of c.turns.value)
    (map constant_of c.turns.values.items) _ (λ vs. map constant_of vs.items) constant_of c.in-Err-evaluated.refusal
    c.turns.invariant.answer c.turns.invariant.names c.in-Ok.ensures.names c.if-left-eq0.false
    (c.in-Ok.ensures.answer ∙ ap (λ (b : Bool). Ok b) goes)
    (subst (λ (e : Expr). Answers {A = Const} (Err c.in-Err-evaluated.refusal) constant_of (evaluated (scope_of c.enters.new.scope) (expression_of e))) c.get.ensures c.in-Err-evaluated.ensures)

pub turns-preserved : goal.turns-preserved
turns-preserved c =
    let goes : c.in-Ok.more ≡ true = search rules in
    let pushed : map constant_of c.push.new.self.items ≡ map constant_of c.turns.values.items ++ constant_of c.turns.value ∷ [] =
    ap (map constant_of) c.in_ok-push.ensures.items ∙ map-append constant_of c.turns.values.items (c.turns.value ∷ []) in
    let next : evaluated (scope_of c.enters.new.scope) (head_of c.args.head.now).step.value ≡ Ok (constant_of c.in-Ok-evaluated.next) = search rules in
    record {
      names = differs_more c.args.head.now.start.name (scope_of c.args.scope.now) (scope_of c.turns.scope) (scope_of c.enters.new.scope) _ c.turns.invariant.names c.in-Ok.ensures.names;
      kept = c.in-Ok.ensures.around ∙ c.turns.invariant.kept;
      count = omega (arith, length-append c.turns.values.items (c.turns.value ∷ []), ap length c.in_ok-push.ensures.items, c.turns.invariant.count, c.if-left-eq0.false);
      answer = goes_more c.args.at (head_of c.args.head.now) (scope_of c.args.scope.now) (scope_of c.turns.scope) (scope_of c.enters.new.scope) c.turns.left (constant_of c.turns.value)
          (constant_of c.in-Ok-evaluated.next) (map constant_of c.turns.values.items) _ c.turns.invariant.answer c.turns.invariant.names c.in-Ok.ensures.names c.if-left-eq0.false
          (c.in-Ok.ensures.answer ∙ ap (λ (b : Bool). Ok b) goes) next
          ∙ ap (λ zs. before zs (turns_from c.args.at (head_of c.args.head.now) (scope_of c.args.scope.now) (c.turns.left - 1) (genvar_value (constant_of c.in-Ok-evaluated.next)))) (sym pushed)
          ∙ ap (λ v. before (map constant_of c.push.new.self.items) (turns_from c.args.at (head_of c.args.head.now) (scope_of c.args.scope.now) (c.turns.left - 1) v)) (sym c.genvar_value-value.ensures);
    }
