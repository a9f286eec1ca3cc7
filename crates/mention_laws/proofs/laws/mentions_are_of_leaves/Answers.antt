use Rattle.std.proofs.Common.{◌≡◌, List, length, sym, ◌∙◌, ap}
use Rattle.std.proofs.lemmas.List.{length-map}
use Rattle.typed_ir.specs.declared.span.Span.{Span}
use Rattle.typed_ir.specs.Stmts.{targets, later_targets}
use Rattle.typed_ir.specs.declared.mention.Mention.{Mention}
use Rattle.verilog_ast.specs.Views.{statement_of, target_of}
use Rattle.width_rules.specs.declared.writer.Writer.TheVariants.{Clocked, Combinational}
use Rattle.width_rules.specs.Scopes.{Scope}
use Rattle.statement_rules.specs.Statements.{sized_statement}
use Rattle.statement_rules.specs.DeclaredValues.{signal_in}
use Rattle.statement_rules.proofs.Trees.{target_is_written, statement_is_written}
use Rattle.mention_laws.specs.Leaves.{statement_leaves, signals_of, signals_named}
use Rattle.width_rules.specs.Mentions.{statement_reads, statement_targets}
use Rattle.width_rules.specs.Names.{target_names}
use Rattle.mention_laws.proofs.Connections.{target_same}
use Rattle.mention_laws.proofs.Flags.{block_flags}
use Rattle.mention_laws.proofs.StatementLeaves.{numbered_same, reads_same, targets_same, later_same}
use Rattle.mention_laws.proofs.TargetLeaves.{target_named}
use Rattle.mention_laws.proofs.Trees.{statement_is_placed}
use Rattle.mention_laws.proofs.laws.mentions_are_of_leaves.Goals as goal

-- lists of the same signals are as long
as_long : (scope : Scope) (xs : List Span) (ms : List Mention) → signals_of xs ≡ signals_named scope ms → length xs ≡ length ms
as_long scope xs ms h =
    sym (length-map xs (λ (p : Span). p.signal)) ∙ ap length h ∙ length-map ms (λ (m : Mention). signal_in (scope m.name.0))

pub returns-clause-reads : goal.returns-clause-reads
returns-clause-reads c scope by x = reads_same scope by 0 (statement_of x) (statement_is_placed x) (statement_is_written x)

pub returns-clause-targets : goal.returns-clause-targets
returns-clause-targets c scope x = targets_same scope 0 (statement_of x) (statement_is_placed x) (statement_is_written x)

pub returns-clause-later_targets : goal.returns-clause-later_targets
returns-clause-later_targets c scope x = later_same scope 0 (statement_of x) (statement_is_placed x) (statement_is_written x)

pub returns-clause-parts : goal.returns-clause-parts
returns-clause-parts c scope t = target_named scope 0 (target_of t) (target_is_written t) ∙ sym (numbered_same scope 0 (target_names (target_of t)))

pub returns-clause-connections : goal.returns-clause-connections
returns-clause-connections c t = target_same (target_of t) (target_is_written t)

pub returns-clause-flags : goal.returns-clause-flags
returns-clause-flags c = block_flags

pub returns-clause-so_many_reads : goal.returns-clause-so_many_reads
returns-clause-so_many_reads c scope x =
    let st = sized_statement scope Combinational (statement_of x) in
    block_flags st
    ∙ as_long scope (statement_leaves st) (statement_reads scope 0 (statement_of x)) (reads_same scope Combinational 0 (statement_of x) (statement_is_placed x) (statement_is_written x))

pub returns-clause-so_many_targets : goal.returns-clause-so_many_targets
returns-clause-so_many_targets c scope x =
    as_long scope (targets (sized_statement scope Combinational (statement_of x))) (statement_targets 0 (statement_of x))
    (targets_same scope 0 (statement_of x) (statement_is_placed x) (statement_is_written x))

pub returns-clause-so_many_later : goal.returns-clause-so_many_later
returns-clause-so_many_later c scope x =
    as_long scope (later_targets (sized_statement scope Clocked (statement_of x))) (statement_targets 0 (statement_of x))
    (later_same scope 0 (statement_of x) (statement_is_placed x) (statement_is_written x))
