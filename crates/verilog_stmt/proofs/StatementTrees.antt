-- The rules by which a statement stands for tokens.
use Rattle.verilog_stmt.specs.Statements.{target_name, target_braces, braces, targets_behind, no_target, another_target, empty, block, if_, case_, casez_, assign_name, assign_braces, no_statement, another_statement, branch, if_alone, if_else, choice, arms_behind, no_arm, another_arm, default, matching, colon, no_colon, case_label, casez_value, casez_pattern, labels_behind, no_other_label, another_label, no_label, a_label, assigns, blocking, nonblocking}

pub ruleset statement_trees = (target_name, target_braces, braces, targets_behind, no_target, another_target, empty, block, if_, case_, casez_, assign_name, assign_braces, no_statement, another_statement, branch, if_alone, if_else, choice, arms_behind, no_arm, another_arm, default, matching, colon, no_colon, case_label, casez_value, casez_pattern, labels_behind, no_other_label, another_label, no_label, a_label, assigns, blocking, nonblocking)
