-- A statement that stands for tokens stands under other names for the tokens under these.
use Rattle.std.proofs.Common.{◌≡◌, ◌≢◌, List, map, true, false, sym, subst}
use Rattle.std.specs.Option.{option_map}
use Rattle.ls_text.specs.declared.name_id.NameId.{NameId}
use Rattle.verilog_lex.specs.declared.token.Token.{Token}
use Rattle.verilog_lex.specs.declared.kind.Kind.{Kind}
use Rattle.verilog_lex.specs.declared.kind.Kind.TheVariants as k
use Rattle.verilog_ast.specs.declared.target.Lhs.{Lhs}
use Rattle.verilog_ast.specs.declared.statement.Stmt.{Stmt}
use Rattle.verilog_ast.specs.declared.statement.Arm.{Arm}
use Rattle.verilog_ast.specs.Renamed.{renamed_identifier, renamed_expression, renamed_target, renamed_label, renamed_statement, renamed_arm}
use Rattle.verilog_expr.specs.Grammar.{begins_statement, begins_arm}
use Rattle.verilog_expr.specs.Renamed.{retokens}
use Rattle.verilog_expr.proofs.RenamedTokens.{at_next, takes_so}
use Rattle.verilog_expr.proofs.RenamedSpells.{spells_so}
use Rattle.verilog_stmt.specs.Statements.{Phrase, Spells, ATarget, Braces, TargetsBehind, OtherTargets, AStatement, Statements, AnIf, Alternative, ACase, AnArm, ArmsBehind, OtherArms, OptionalColon, ALabel, LabelsBehind, OtherLabels, OptionalLabel, AnAssignment, ASign, target_name, target_braces, braces, targets_behind, no_target, another_target, empty, block, if_, case_, casez_, assign_name, assign_braces, no_statement, another_statement, branch, if_alone, if_else, choice, arms_behind, no_arm, another_arm, default, matching, colon, no_colon, case_label, casez_value, casez_pattern, labels_behind, no_other_label, another_label, no_label, a_label, assigns, blocking, nonblocking}
use Rattle.verilog_stmt.proofs.RenamedTrees.{target_reference_so, target_concatenation_so, block_so, if_so, if_else_so, case_so, assign_so, empty_so, default_so, match_so}

abbrev pub renamed_phrase : (NameId → NameId) → Phrase → Phrase
renamed_phrase f (ATarget x) = ATarget (renamed_target f x)
renamed_phrase f (Braces x) = Braces (map (renamed_target f) x)
renamed_phrase f (TargetsBehind x y) = TargetsBehind (renamed_target f x) (map (renamed_target f) y)
renamed_phrase f (OtherTargets x) = OtherTargets (map (renamed_target f) x)
renamed_phrase f (AStatement x y) = AStatement x (renamed_statement f y)
renamed_phrase f (Statements x y) = Statements x (map (renamed_statement f) y)
renamed_phrase f (AnIf x y z) = AnIf x y (renamed_statement f z)
renamed_phrase f (Alternative x y z u v) = Alternative x y (renamed_expression f z) (renamed_statement f u) (renamed_statement f v)
renamed_phrase f (ACase x y z u) = ACase x y z (renamed_statement f u)
renamed_phrase f (AnArm x y z) = AnArm x y (renamed_arm f z)
renamed_phrase f (ArmsBehind x y z u) = ArmsBehind x y (renamed_arm f z) (map (renamed_arm f) u)
renamed_phrase f (OtherArms x y z) = OtherArms x y (map (renamed_arm f) z)
renamed_phrase f OptionalColon = OptionalColon
renamed_phrase f (ALabel x y) = ALabel x (renamed_label f y)
renamed_phrase f (LabelsBehind x y z) = LabelsBehind x (renamed_label f y) (map (renamed_label f) z)
renamed_phrase f (OtherLabels x y) = OtherLabels x (map (renamed_label f) y)
renamed_phrase f (OptionalLabel x) = OptionalLabel (option_map (renamed_identifier f) x)
renamed_phrase f (AnAssignment x y z) = AnAssignment x (renamed_target f y) (renamed_statement f z)
renamed_phrase f (ASign x) = ASign x

pub statement_so : (f : NameId → NameId) {phrase : Phrase} {s r : List Token} → Spells phrase s r
    → Spells (renamed_phrase f phrase) (retokens f s) (retokens f r)
statement_so f (target_name {x = x} {s = s} {r = r} h i) =
    subst (λ (z : Lhs). Spells (ATarget z) (retokens f s) (retokens f r)) (sym (target_reference_so f x))
    (target_name (takes_so f h) (spells_so f i))
statement_so f (target_braces {xs = xs} {s = s} {r = r} {t = t} h i) =
    subst (λ (z : Lhs). Spells (ATarget z) (retokens f s) (retokens f r)) (sym (target_concatenation_so f t.at xs))
    (target_braces (takes_so f h) (statement_so f i))
statement_so f (braces h i j) = braces (statement_so f h) (statement_so f i) (takes_so f j)
statement_so f (targets_behind h) = targets_behind (statement_so f h)
statement_so f (no_target {s = s} h) = no_target (at_next f s (λ (kind : Kind). kind ≢ k.Comma) h)
statement_so f (another_target h i j) = another_target (takes_so f h) (statement_so f i) (statement_so f j)
statement_so f (empty {g = g} {s = s} {r = r} {t = t} h) =
    subst (λ (z : Stmt). Spells (AStatement g z) (retokens f s) (retokens f r)) (sym (empty_so f t.at))
    (empty (takes_so f h))
statement_so f (block {g = g} {l = l} {xs = xs} {s = s} {r = r} {t = t} h i j o) =
    subst (λ (z : Stmt). Spells (AStatement g z) (retokens f s) (retokens f r)) (sym (block_so f t.at l xs))
    (block (takes_so f h) (statement_so f i) (statement_so f j) (takes_so f o))
statement_so f (if_ h i) = if_ (takes_so f h) (statement_so f i)
statement_so f (case_ h i) = case_ (takes_so f h) (statement_so f i)
statement_so f (casez_ h i) = casez_ (takes_so f h) (statement_so f i)
statement_so f (assign_name {g = g} {x = x} {y = y} {b = b} {r = r} h i j) = assign_name (takes_so f h) (spells_so f i)
    (subst (λ (z : Lhs). Spells (AnAssignment g z (renamed_statement f x)) (retokens f b) (retokens f r)) (target_reference_so f y)
    (statement_so f j))
statement_so f (assign_braces {g = g} {x = x} {ys = ys} {b = b} {r = r} {t = t} h i j) = assign_braces (takes_so f h) (statement_so f i)
    (subst (λ (z : Lhs). Spells (AnAssignment g z (renamed_statement f x)) (retokens f b) (retokens f r)) (target_concatenation_so f t.at ys)
    (statement_so f j))
statement_so f (no_statement {s = s} h) = no_statement (at_next f s (λ (kind : Kind). begins_statement kind ≡ false) h)
statement_so f (another_statement {s = s} h i j) =
    another_statement (at_next f s (λ (kind : Kind). begins_statement kind ≡ true) h) (statement_so f i) (statement_so f j)
statement_so f (branch h i j o q) = branch (takes_so f h) (spells_so f i) (takes_so f j) (statement_so f o) (statement_so f q)
statement_so f (if_alone {g = g} {at = at} {x = x} {y = y} {s = s} h) =
    subst (λ (z : Stmt). Spells (Alternative g at (renamed_expression f x) (renamed_statement f y) z) (retokens f s) (retokens f s))
    (sym (if_so f at x y))
    (if_alone (at_next f s (λ (kind : Kind). kind ≢ k.Else) h))
statement_so f (if_else {g = g} {at = at} {x = x} {y = y} {z = z} {s = s} {r = r} h i) =
    subst (λ (z : Stmt). Spells (Alternative g at (renamed_expression f x) (renamed_statement f y) z) (retokens f s) (retokens f r))
    (sym (if_else_so f at x y z))
    (if_else (takes_so f h) (statement_so f i))
statement_so f (choice {g = g} {which = which} {at = at} {x = x} {ys = ys} {s = s} {r = r} h i j o q w) =
    subst (λ (z : Stmt). Spells (ACase g which at z) (retokens f s) (retokens f r)) (sym (case_so f at which x ys))
    (choice (takes_so f h) (spells_so f i) (takes_so f j) (statement_so f o) (statement_so f q) (takes_so f w))
statement_so f (arms_behind h) = arms_behind (statement_so f h)
statement_so f (no_arm {which = which} {s = s} h) = no_arm (at_next f s (λ (kind : Kind). begins_arm which kind ≡ false) h)
statement_so f (another_arm {which = which} {s = s} h i j) =
    another_arm (at_next f s (λ (kind : Kind). begins_arm which kind ≡ true) h) (statement_so f i) (statement_so f j)
statement_so f (default {g = g} {which = which} {x = x} {s = s} {r = r} {t = t} h i j) =
    subst (λ (z : Arm). Spells (AnArm g which z) (retokens f s) (retokens f r)) (sym (default_so f t.at x))
    (default (takes_so f h) (statement_so f i) (statement_so f j))
statement_so f (matching {g = g} {which = which} {ls = ls} {x = x} {s = s} {r = r} h i j o q) =
    subst (λ (z : Arm). Spells (AnArm g which z) (retokens f s) (retokens f r)) (sym (match_so f ls x))
    (matching (at_next f s (λ (kind : Kind). kind ≢ k.Default) h) (statement_so f i) (statement_so f j) (takes_so f o) (statement_so f q))
statement_so f (colon h) = colon (takes_so f h)
statement_so f (no_colon {s = s} h) = no_colon (at_next f s (λ (kind : Kind). kind ≢ k.Colon) h)
statement_so f (case_label h) = case_label (spells_so f h)
statement_so f (casez_value {s = s} h i) = casez_value (at_next f s (λ (kind : Kind). kind ≢ k.Wild) h) (spells_so f i)
statement_so f (casez_pattern h) = casez_pattern (takes_so f h)
statement_so f (labels_behind h) = labels_behind (statement_so f h)
statement_so f (no_other_label {s = s} h) = no_other_label (at_next f s (λ (kind : Kind). kind ≢ k.Comma) h)
statement_so f (another_label h i j) = another_label (takes_so f h) (statement_so f i) (statement_so f j)
statement_so f (no_label {s = s} h) = no_label (at_next f s (λ (kind : Kind). kind ≢ k.Colon) h)
statement_so f (a_label h i) = a_label (takes_so f h) (takes_so f i)
statement_so f (assigns {g = g} {x = x} {y = y} {s = s} {r = r} h i j) =
    subst (λ (z : Stmt). Spells (AnAssignment g (renamed_target f x) z) (retokens f s) (retokens f r)) (sym (assign_so f x y))
    (assigns (statement_so f h) (spells_so f i) (takes_so f j))
statement_so f (blocking h) = blocking (takes_so f h)
statement_so f (nonblocking h) = nonblocking (takes_so f h)
