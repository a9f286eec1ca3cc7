-- A statement that stands for tokens stands without places for the tokens without theirs.
use Rattle.std.proofs.Common.{◌≡◌, ◌≢◌, List, map, true, false, sym, subst}
use Rattle.std.specs.Option.{option_map}
use Rattle.verilog_lex.specs.declared.token.Token.{Token}
use Rattle.verilog_lex.specs.declared.kind.Kind.{Kind}
use Rattle.verilog_lex.specs.declared.kind.Kind.TheVariants as k
use Rattle.verilog_ast.specs.Places.{no_place}
use Rattle.verilog_ast.specs.declared.target.Lhs.{Lhs}
use Rattle.verilog_ast.specs.declared.statement.Stmt.{Stmt}
use Rattle.verilog_ast.specs.declared.statement.Arm.{Arm}
use Rattle.version_swap.specs.Unplaced.{unplaced_name}
use Rattle.version_swap.proofs.BareForms.{bare_expression, bare_target, bare_label, bare_statement, bare_arm, bare_tokens}
use Rattle.verilog_expr.specs.Grammar.{begins_statement, begins_arm}
use Rattle.version_swap.proofs.BareTokens.{at_next, takes_so}
use Rattle.version_swap.proofs.BareSpells.{spells_so}
use Rattle.verilog_stmt.specs.Statements.{Phrase, Spells, ATarget, Braces, TargetsBehind, OtherTargets, AStatement, Statements, AnIf, Alternative, ACase, AnArm, ArmsBehind, OtherArms, OptionalColon, ALabel, LabelsBehind, OtherLabels, OptionalLabel, AnAssignment, ASign, target_name, target_braces, braces, targets_behind, no_target, another_target, empty, block, if_, case_, casez_, assign_name, assign_braces, no_statement, another_statement, branch, if_alone, if_else, choice, arms_behind, no_arm, another_arm, default, matching, colon, no_colon, case_label, casez_value, casez_pattern, labels_behind, no_other_label, another_label, no_label, a_label, assigns, blocking, nonblocking}
use Rattle.version_swap.proofs.BareStatementTrees.{target_reference_so, target_concatenation_so, block_so, if_so, if_else_so, case_so, assign_so, empty_so, default_so, match_so}

abbrev pub bare_phrase : Phrase → Phrase
bare_phrase (ATarget x) = ATarget (bare_target x)
bare_phrase (Braces x) = Braces (map bare_target x)
bare_phrase (TargetsBehind x y) = TargetsBehind (bare_target x) (map bare_target y)
bare_phrase (OtherTargets x) = OtherTargets (map bare_target x)
bare_phrase (AStatement x y) = AStatement x (bare_statement y)
bare_phrase (Statements x y) = Statements x (map bare_statement y)
bare_phrase (AnIf x y z) = AnIf x no_place (bare_statement z)
bare_phrase (Alternative x y z u v) = Alternative x no_place (bare_expression z) (bare_statement u) (bare_statement v)
bare_phrase (ACase x y z u) = ACase x y no_place (bare_statement u)
bare_phrase (AnArm x y z) = AnArm x y (bare_arm z)
bare_phrase (ArmsBehind x y z u) = ArmsBehind x y (bare_arm z) (map bare_arm u)
bare_phrase (OtherArms x y z) = OtherArms x y (map bare_arm z)
bare_phrase OptionalColon = OptionalColon
bare_phrase (ALabel x y) = ALabel x (bare_label y)
bare_phrase (LabelsBehind x y z) = LabelsBehind x (bare_label y) (map bare_label z)
bare_phrase (OtherLabels x y) = OtherLabels x (map bare_label y)
bare_phrase (OptionalLabel x) = OptionalLabel (option_map unplaced_name x)
bare_phrase (AnAssignment x y z) = AnAssignment x (bare_target y) (bare_statement z)
bare_phrase (ASign x) = ASign x

pub statement_so : {phrase : Phrase} {s r : List Token} → Spells phrase s r
    → Spells (bare_phrase phrase) (bare_tokens s) (bare_tokens r)
statement_so (target_name {x = x} {s = s} {r = r} h i) =
    subst (λ (z : Lhs). Spells (ATarget z) (bare_tokens s) (bare_tokens r)) (sym (target_reference_so x))
    (target_name (takes_so h) (spells_so i))
statement_so (target_braces {xs = xs} {s = s} {r = r} {t = t} h i) =
    subst (λ (z : Lhs). Spells (ATarget z) (bare_tokens s) (bare_tokens r)) (sym (target_concatenation_so t.at xs))
    (target_braces (takes_so h) (statement_so i))
statement_so (braces h i j) = braces (statement_so h) (statement_so i) (takes_so j)
statement_so (targets_behind h) = targets_behind (statement_so h)
statement_so (no_target {s = s} h) = no_target (at_next s (λ (kind : Kind). kind ≢ k.Comma) h)
statement_so (another_target h i j) = another_target (takes_so h) (statement_so i) (statement_so j)
statement_so (empty {g = g} {s = s} {r = r} {t = t} h) =
    subst (λ (z : Stmt). Spells (AStatement g z) (bare_tokens s) (bare_tokens r)) (sym (empty_so t.at))
    (empty (takes_so h))
statement_so (block {g = g} {l = l} {xs = xs} {s = s} {r = r} {t = t} h i j o) =
    subst (λ (z : Stmt). Spells (AStatement g z) (bare_tokens s) (bare_tokens r)) (sym (block_so t.at l xs))
    (block (takes_so h) (statement_so i) (statement_so j) (takes_so o))
statement_so (if_ h i) = if_ (takes_so h) (statement_so i)
statement_so (case_ h i) = case_ (takes_so h) (statement_so i)
statement_so (casez_ h i) = casez_ (takes_so h) (statement_so i)
statement_so (assign_name {g = g} {x = x} {y = y} {b = b} {r = r} h i j) = assign_name (takes_so h) (spells_so i)
    (subst (λ (z : Lhs). Spells (AnAssignment g z (bare_statement x)) (bare_tokens b) (bare_tokens r)) (target_reference_so y)
    (statement_so j))
statement_so (assign_braces {g = g} {x = x} {ys = ys} {b = b} {r = r} {t = t} h i j) = assign_braces (takes_so h) (statement_so i)
    (subst (λ (z : Lhs). Spells (AnAssignment g z (bare_statement x)) (bare_tokens b) (bare_tokens r)) (target_concatenation_so t.at ys)
    (statement_so j))
statement_so (no_statement {s = s} h) = no_statement (at_next s (λ (kind : Kind). begins_statement kind ≡ false) h)
statement_so (another_statement {s = s} h i j) =
    another_statement (at_next s (λ (kind : Kind). begins_statement kind ≡ true) h) (statement_so i) (statement_so j)
statement_so (branch h i j o q) = branch (takes_so h) (spells_so i) (takes_so j) (statement_so o) (statement_so q)
statement_so (if_alone {g = g} {at = at} {x = x} {y = y} {s = s} h) =
    subst (λ (z : Stmt). Spells (Alternative g no_place (bare_expression x) (bare_statement y) z) (bare_tokens s) (bare_tokens s))
    (sym (if_so at x y))
    (if_alone (at_next s (λ (kind : Kind). kind ≢ k.Else) h))
statement_so (if_else {g = g} {at = at} {x = x} {y = y} {z = z} {s = s} {r = r} h i) =
    subst (λ (z : Stmt). Spells (Alternative g no_place (bare_expression x) (bare_statement y) z) (bare_tokens s) (bare_tokens r))
    (sym (if_else_so at x y z))
    (if_else (takes_so h) (statement_so i))
statement_so (choice {g = g} {which = which} {at = at} {x = x} {ys = ys} {s = s} {r = r} h i j o q w) =
    subst (λ (z : Stmt). Spells (ACase g which no_place z) (bare_tokens s) (bare_tokens r)) (sym (case_so at which x ys))
    (choice (takes_so h) (spells_so i) (takes_so j) (statement_so o) (statement_so q) (takes_so w))
statement_so (arms_behind h) = arms_behind (statement_so h)
statement_so (no_arm {which = which} {s = s} h) = no_arm (at_next s (λ (kind : Kind). begins_arm which kind ≡ false) h)
statement_so (another_arm {which = which} {s = s} h i j) =
    another_arm (at_next s (λ (kind : Kind). begins_arm which kind ≡ true) h) (statement_so i) (statement_so j)
statement_so (default {g = g} {which = which} {x = x} {s = s} {r = r} {t = t} h i j) =
    subst (λ (z : Arm). Spells (AnArm g which z) (bare_tokens s) (bare_tokens r)) (sym (default_so t.at x))
    (default (takes_so h) (statement_so i) (statement_so j))
statement_so (matching {g = g} {which = which} {ls = ls} {x = x} {s = s} {r = r} h i j o q) =
    subst (λ (z : Arm). Spells (AnArm g which z) (bare_tokens s) (bare_tokens r)) (sym (match_so ls x))
    (matching (at_next s (λ (kind : Kind). kind ≢ k.Default) h) (statement_so i) (statement_so j) (takes_so o) (statement_so q))
statement_so (colon h) = colon (takes_so h)
statement_so (no_colon {s = s} h) = no_colon (at_next s (λ (kind : Kind). kind ≢ k.Colon) h)
statement_so (case_label h) = case_label (spells_so h)
statement_so (casez_value {s = s} h i) = casez_value (at_next s (λ (kind : Kind). kind ≢ k.Wild) h) (spells_so i)
statement_so (casez_pattern h) = casez_pattern (takes_so h)
statement_so (labels_behind h) = labels_behind (statement_so h)
statement_so (no_other_label {s = s} h) = no_other_label (at_next s (λ (kind : Kind). kind ≢ k.Comma) h)
statement_so (another_label h i j) = another_label (takes_so h) (statement_so i) (statement_so j)
statement_so (no_label {s = s} h) = no_label (at_next s (λ (kind : Kind). kind ≢ k.Colon) h)
statement_so (a_label h i) = a_label (takes_so h) (takes_so i)
statement_so (assigns {g = g} {x = x} {y = y} {s = s} {r = r} h i j) =
    subst (λ (z : Stmt). Spells (AnAssignment g (bare_target x) z) (bare_tokens s) (bare_tokens r)) (sym (assign_so x y))
    (assigns (statement_so h) (spells_so i) (takes_so j))
statement_so (blocking h) = blocking (takes_so h)
statement_so (nonblocking h) = nonblocking (takes_so h)
