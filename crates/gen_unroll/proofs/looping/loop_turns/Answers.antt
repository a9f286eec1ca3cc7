use Rattle.std.proofs.Common.{List, map, get_or, drop, sym, ◌∙◌, ap}
use Rattle.verilog_ast.specs.Views.{head_of}
use Rattle.width_rules.specs.Entries.{scope_of}
use Rattle.width_rules.specs.Scopes.{Scope}
use Rattle.gen_unroll.specs.Values.{constant_of}
use Rattle.gen_unroll.proofs.Counting.{loop_counted, loop_refused}
use Rattle.gen_unroll.proofs.looping.loop_turns.Goals as goal

pub returns-in-Ok-clause-answer : goal.returns-in-Ok-clause-answer
returns-in-Ok-clause-answer c =
    loop_counted c.args.at (head_of c.args.head.now) (scope_of c.args.scope.now) (scope_of c.open_block.new.self) (scope_of c.declare.new.scope) c.args.limit _
    (map constant_of c.in-Ok.values.items)
    c.in_ok-assigned.ensures c.open_block.ensures.names c.in_ok-declare.ensures.names c.in-Ok.ensures.answer

pub returns-in-Err-clause-answer : goal.returns-in-Err-clause-answer
returns-in-Err-clause-answer c =
    loop_refused c.args.at (head_of c.args.head.now) (scope_of c.args.scope.now) (scope_of c.open_block.new.self) (scope_of c.declare.new.scope) c.args.limit _
    (λ vs. map constant_of vs.items) c.in-Err.refusal
    c.in_ok-assigned.ensures c.open_block.ensures.names c.in_ok-declare.ensures.names c.in-Err.ensures.answer

pub returns-in-Ok-clause-names : goal.returns-in-Ok-clause-names
returns-in-Ok-clause-names c =
    ap (λ (ss : List Scope). get_or ss 0 (scope_of c.args.scope.now))
    (sym c.close_block.ensures ∙ c.in-Ok.ensures.around ∙ c.in_ok-declare.ensures.around ∙ c.in_ok-open_block.ensures.around)

pub returns-in-Ok-clause-around : goal.returns-in-Ok-clause-around
returns-in-Ok-clause-around c =
    ap (λ (ss : List Scope). drop 1 ss)
    (sym c.close_block.ensures ∙ c.in-Ok.ensures.around ∙ c.in_ok-declare.ensures.around ∙ c.in_ok-open_block.ensures.around)
