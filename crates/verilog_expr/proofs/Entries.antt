-- Where a nonterminal has its empty alternative, where it has none, and which alternative stands before all other tokens.
use Rattle.std.proofs.Common.{◌≡◌, ◌≢◌, ℕ, [], ◌∷◌, Some, None, Bool, true, false, refl, ap, ◌∙◌, arith}
use Rattle.verilog_lex.specs.declared.kind.Kind.{Kind}
use Rattle.verilog_lex.specs.declared.kind.Kind.TheVariants as k
use Rattle.verilog_expr.specs.Tokens.{unary_operator, binary_operator}
use Rattle.verilog_expr.specs.Grammar as g
use Rattle.verilog_expr.specs.Grammar.{entry, T, N, where_begun}
use Rattle.verilog_expr.proofs.Runs.{Refuses, RefusesOutside}
use Rattle.verilog_ast.specs.declared.sign.Sign.{Sign}
use Rattle.verilog_ast.specs.declared.sign.Sign.TheVariants.{Blocking, Nonblocking}
use Rattle.verilog_ast.specs.declared.case_kind.CaseKind.{CaseKind}
use Rattle.verilog_ast.specs.declared.case_kind.CaseKind.TheVariants.{Casez}

-- ---- expressions

pub select_skips : (w : ℕ) (kind : Kind) → kind ≢ k.LeftBracket → kind ≢ k.Dot → entry g.ASelect w kind ≡ Some []
select_skips w kind a b = grind arith

pub select_dot : (w : ℕ) → RefusesOutside g.ASelect w k.Dot
select_dot w = record { none = refl; outside = refl }

pub after_select_skips : (w : ℕ) (kind : Kind) → kind ≢ k.Dot → entry g.AfterSelect w kind ≡ Some []
after_select_skips w kind a = grind arith

pub after_select_dot : (w : ℕ) → RefusesOutside g.AfterSelect w k.Dot
after_select_dot w = record { none = refl; outside = refl }

pub part_skips : (w : ℕ) (kind : Kind) → kind ≢ k.Colon → kind ≢ k.PlusColon → kind ≢ k.MinusColon → entry g.Part w kind ≡ Some []
part_skips w kind a b c = grind arith

pub more_skips : (w : ℕ) (kind : Kind) → kind ≢ k.Comma → entry g.More w kind ≡ Some []
more_skips w kind h = grind arith

pub tail_skips : (w : ℕ) (kind : Kind) → binary_operator kind ≡ None → kind ≢ k.Question → entry g.Tail w kind ≡ Some []
tail_skips w kind h q = grind arith

none_at : (w : ℕ) (kind : Kind) → kind ≢ k.Number → kind ≢ k.Word → kind ≢ k.LeftParen → kind ≢ k.LeftBrace → g.operand_at w kind None ≡ None
none_at w kind a b c d = grind arith

pub operand_refuses : (w : ℕ) (kind : Kind) → unary_operator kind ≡ None → kind ≢ k.Number → kind ≢ k.Word → kind ≢ k.LeftParen → kind ≢ k.LeftBrace → Refuses g.Operand w kind
operand_refuses w kind u a b c d = record { none = ap (g.operand_at w kind) u ∙ none_at w kind a b c d; plain = refl }

pub braced_joins : (w : ℕ) (kind : Kind) → kind ≢ k.LeftBrace → entry g.Braced w kind ≡ Some (N g.More w ∷ T k.RightBrace w ∷ [])
braced_joins w kind h = grind arith

-- ---- statements

pub statement_refuses : (sign : Sign) (w : ℕ) (kind : Kind) → kind ≢ k.Semicolon → kind ≢ k.Begin → kind ≢ k.If → kind ≢ k.Case → kind ≢ k.Casez → kind ≢ k.Word → kind ≢ k.LeftBrace → Refuses (g.AStatement sign) w kind
statement_refuses sign w kind a b c d e f h = record { none = grind arith; plain = refl }

pub statements_go : (sign : Sign) (w : ℕ) (kind : Kind) → g.begins_statement kind ≡ true → entry (g.Statements sign) w kind ≡ Some (N (g.AStatement sign) w ∷ N (g.Statements sign) w ∷ [])
statements_go sign w kind h = ap (λ (b : Bool). where_begun b (N (g.AStatement sign) w ∷ N (g.Statements sign) w ∷ [])) h

pub statements_skip : (sign : Sign) (w : ℕ) (kind : Kind) → g.begins_statement kind ≡ false → entry (g.Statements sign) w kind ≡ Some []
statements_skip sign w kind h = ap (λ (b : Bool). where_begun b (N (g.AStatement sign) w ∷ N (g.Statements sign) w ∷ [])) h

pub alternative_skips : (sign : Sign) (w : ℕ) (kind : Kind) → kind ≢ k.Else → entry (g.Alternative sign) w kind ≡ Some []
alternative_skips sign w kind h = grind arith

pub blocking_refuses : (w : ℕ) (kind : Kind) → kind ≢ k.Equal → kind ≢ k.LessEqual → Refuses (g.ASign Blocking) w kind
blocking_refuses w kind a b = record { none = grind arith; plain = grind arith }

pub blocking_outside : (w : ℕ) → RefusesOutside (g.ASign Blocking) w k.LessEqual
blocking_outside w = record { none = refl; outside = refl }

pub nonblocking_refuses : (w : ℕ) (kind : Kind) → kind ≢ k.LessEqual → kind ≢ k.Equal → Refuses (g.ASign Nonblocking) w kind
nonblocking_refuses w kind a b = record { none = grind arith; plain = grind arith }

pub nonblocking_outside : (w : ℕ) → RefusesOutside (g.ASign Nonblocking) w k.Equal
nonblocking_outside w = record { none = refl; outside = refl }

pub optional_label_skips : (w : ℕ) (kind : Kind) → kind ≢ k.Colon → entry g.OptionalLabel w kind ≡ Some []
optional_label_skips w kind h = grind arith

pub arm_matches : (sign : Sign) (which : CaseKind) (w : ℕ) (kind : Kind) → kind ≢ k.Default → entry (g.AnArm sign which) w kind ≡ Some (N (g.ALabel which) w ∷ N (g.MoreLabels which) w ∷ T k.Colon w ∷ N (g.AStatement sign) w ∷ [])
arm_matches sign which w kind h = grind arith

pub more_arms_go : (sign : Sign) (which : CaseKind) (w : ℕ) (kind : Kind) → g.begins_arm which kind ≡ true → entry (g.MoreArms sign which) w kind ≡ Some (N (g.AnArm sign which) w ∷ N (g.MoreArms sign which) w ∷ [])
more_arms_go sign which w kind h = ap (λ (b : Bool). where_begun b (N (g.AnArm sign which) w ∷ N (g.MoreArms sign which) w ∷ [])) h

pub more_arms_skip : (sign : Sign) (which : CaseKind) (w : ℕ) (kind : Kind) → g.begins_arm which kind ≡ false → entry (g.MoreArms sign which) w kind ≡ Some []
more_arms_skip sign which w kind h = ap (λ (b : Bool). where_begun b (N (g.AnArm sign which) w ∷ N (g.MoreArms sign which) w ∷ [])) h

pub optional_colon_skips : (w : ℕ) (kind : Kind) → kind ≢ k.Colon → entry g.OptionalColon w kind ≡ Some []
optional_colon_skips w kind h = grind arith

pub casez_label : (w : ℕ) (kind : Kind) → kind ≢ k.Wild → entry (g.ALabel Casez) w kind ≡ Some (N g.AnExpression w ∷ [])
casez_label w kind h = grind arith

pub more_labels_skips : (which : CaseKind) (w : ℕ) (kind : Kind) → kind ≢ k.Comma → entry (g.MoreLabels which) w kind ≡ Some []
more_labels_skips which w kind h = grind arith

pub target_refuses : (w : ℕ) (kind : Kind) → kind ≢ k.Word → kind ≢ k.LeftBrace → Refuses g.ATarget w kind
target_refuses w kind a b = record { none = grind arith; plain = refl }

pub more_targets_skips : (w : ℕ) (kind : Kind) → kind ≢ k.Comma → entry g.MoreTargets w kind ≡ Some []
more_targets_skips w kind h = grind arith

pub ruleset statement_entries = (statement_refuses, statements_go, statements_skip, alternative_skips, blocking_refuses, blocking_outside, nonblocking_refuses, nonblocking_outside, optional_label_skips, arm_matches, more_arms_go, more_arms_skip, optional_colon_skips, casez_label, more_labels_skips, target_refuses, more_targets_skips)

-- ---- items

pub optional_signed_skips : (w : ℕ) (kind : Kind) → kind ≢ k.Signed → entry g.OptionalSigned w kind ≡ Some []
optional_signed_skips w kind h = grind arith

pub optional_range_skips : (w : ℕ) (kind : Kind) → kind ≢ k.LeftBracket → entry g.OptionalRange w kind ≡ Some []
optional_range_skips w kind h = grind arith

pub optional_wire_skips : (w : ℕ) (kind : Kind) → kind ≢ k.Wire → entry g.OptionalWire w kind ≡ Some []
optional_wire_skips w kind h = grind arith

pub optional_net_skips : (w : ℕ) (kind : Kind) → kind ≢ k.Wire → kind ≢ k.Reg → entry g.OptionalNet w kind ≡ Some []
optional_net_skips w kind a b = grind arith

pub more_names_skips : (w : ℕ) (kind : Kind) → kind ≢ k.Comma → entry g.MoreNames w kind ≡ Some []
more_names_skips w kind h = grind arith

pub optional_value_skips : (w : ℕ) (kind : Kind) → kind ≢ k.Equal → entry g.OptionalValue w kind ≡ Some []
optional_value_skips w kind h = grind arith

pub more_variables_skips : (w : ℕ) (kind : Kind) → kind ≢ k.Comma → entry g.MoreVariables w kind ≡ Some []
more_variables_skips w kind h = grind arith

pub more_parameters_skips : (w : ℕ) (kind : Kind) → kind ≢ k.Comma → entry g.MoreParameters w kind ≡ Some []
more_parameters_skips w kind h = grind arith

pub more_assignments_skips : (w : ℕ) (kind : Kind) → kind ≢ k.Comma → entry g.MoreAssignments w kind ≡ Some []
more_assignments_skips w kind h = grind arith

pub event_refuses : (w : ℕ) (kind : Kind) → kind ≢ k.Star → kind ≢ k.LeftParen → Refuses g.AnEvent w kind
event_refuses w kind a b = record { none = grind arith; plain = refl }

pub trigger_refuses : (w : ℕ) (kind : Kind) → kind ≢ k.Star → kind ≢ k.Posedge → kind ≢ k.Word → Refuses g.Trigger w kind
trigger_refuses w kind a b c = record { none = grind arith; plain = grind arith }

pub trigger_word : (w : ℕ) → RefusesOutside g.Trigger w k.Word
trigger_word w = record { none = refl; outside = refl }

pub edge_end_refuses : (w : ℕ) (kind : Kind) → kind ≢ k.RightParen → kind ≢ k.Comma → Refuses g.EdgeEnd w kind
edge_end_refuses w kind a b = record { none = grind arith; plain = grind arith }

pub edge_end_comma : (w : ℕ) → RefusesOutside g.EdgeEnd w k.Comma
edge_end_comma w = record { none = refl; outside = refl }

pub overrides_skips : (w : ℕ) (kind : Kind) → kind ≢ k.Hash → entry g.Overrides w kind ≡ Some []
overrides_skips w kind h = grind arith

pub more_instances_skips : (w : ℕ) (kind : Kind) → kind ≢ k.Comma → entry g.MoreInstances w kind ≡ Some []
more_instances_skips w kind h = grind arith

pub connections_ordered : (w : ℕ) (kind : Kind) → kind ≢ k.Dot → entry g.AConnections w kind ≡ Some (N g.AnOrdered w ∷ N g.MoreOrdered w ∷ [])
connections_ordered w kind h = grind arith

pub more_named_skips : (w : ℕ) (kind : Kind) → kind ≢ k.Comma → entry g.MoreNamed w kind ≡ Some []
more_named_skips w kind h = grind arith

pub more_ordered_skips : (w : ℕ) (kind : Kind) → kind ≢ k.Comma → entry g.MoreOrdered w kind ≡ Some []
more_ordered_skips w kind h = grind arith

pub optional_expression_goes : (w : ℕ) (kind : Kind) → g.begins_expression kind ≡ true → entry g.OptionalExpression w kind ≡ Some (N g.AnExpression w ∷ [])
optional_expression_goes w kind h = ap (λ (b : Bool). where_begun b (N g.AnExpression w ∷ [])) h

pub optional_expression_skips : (w : ℕ) (kind : Kind) → g.begins_expression kind ≡ false → entry g.OptionalExpression w kind ≡ Some []
optional_expression_skips w kind h = ap (λ (b : Bool). where_begun b (N g.AnExpression w ∷ [])) h

pub plain_item_refuses : (w : ℕ) (kind : Kind) → kind ≢ k.Wire → kind ≢ k.Reg → kind ≢ k.LocalParam → kind ≢ k.Genvar → kind ≢ k.Assign → kind ≢ k.Always → kind ≢ k.Word → Refuses g.APlainItem w kind
plain_item_refuses w kind a b c d e f h = record { none = grind arith; plain = refl }

pub ruleset plain_entries = (optional_signed_skips, optional_range_skips, optional_wire_skips, optional_net_skips, more_names_skips, optional_value_skips, more_variables_skips, more_parameters_skips, more_assignments_skips, event_refuses, trigger_refuses, trigger_word, edge_end_refuses, edge_end_comma, overrides_skips, more_instances_skips, connections_ordered, more_named_skips, more_ordered_skips, optional_expression_goes, optional_expression_skips, plain_item_refuses)

-- ---- generate blocks and modules

pub generate_items_go : (w : ℕ) (kind : Kind) → g.begins_generate_item kind ≡ true → entry g.GenerateItems w kind ≡ Some (N g.AGenerateItem w ∷ N g.GenerateItems w ∷ [])
generate_items_go w kind h = ap (λ (b : Bool). where_begun b (N g.AGenerateItem w ∷ N g.GenerateItems w ∷ [])) h

pub generate_items_skip : (w : ℕ) (kind : Kind) → g.begins_generate_item kind ≡ false → entry g.GenerateItems w kind ≡ Some []
generate_items_skip w kind h = ap (λ (b : Bool). where_begun b (N g.AGenerateItem w ∷ N g.GenerateItems w ∷ [])) h

pub generate_item_plain : (w : ℕ) (kind : Kind) → kind ≢ k.For → kind ≢ k.If → entry g.AGenerateItem w kind ≡ Some (N g.APlainItem w ∷ [])
generate_item_plain w kind a b = grind arith

pub other_branches_skip : (w : ℕ) (kind : Kind) → kind ≢ k.Else → entry g.OtherBranches w kind ≡ Some []
other_branches_skip w kind h = grind arith

pub last_branch_otherwise : (w : ℕ) (kind : Kind) → kind ≢ k.If → entry g.LastBranch w kind ≡ Some (N g.AnOtherwise w ∷ [])
last_branch_otherwise w kind h = grind arith

pub modules_skip : (w : ℕ) (kind : Kind) → kind ≢ k.Module → entry g.Modules w kind ≡ Some []
modules_skip w kind h = grind arith

pub parameter_header_skips : (w : ℕ) (kind : Kind) → kind ≢ k.Hash → entry g.ParameterHeader w kind ≡ Some []
parameter_header_skips w kind h = grind arith

pub more_header_parameters_skips : (w : ℕ) (kind : Kind) → kind ≢ k.Comma → entry g.MoreHeaderParameters w kind ≡ Some []
more_header_parameters_skips w kind h = grind arith

pub header_parameter_alone : (w : ℕ) (kind : Kind) → kind ≢ k.Parameter → entry g.AHeaderParameter w kind ≡ Some (N g.AParameter w ∷ [])
header_parameter_alone w kind h = grind arith

pub port_header_skips : (w : ℕ) (kind : Kind) → kind ≢ k.LeftParen → entry g.PortHeader w kind ≡ Some []
port_header_skips w kind h = grind arith

pub port_list_skips : (w : ℕ) (kind : Kind) → kind ≢ k.Word → kind ≢ k.Input → kind ≢ k.Output → entry g.PortList w kind ≡ Some []
port_list_skips w kind a b c = grind arith

pub more_header_ports_skip : (w : ℕ) (kind : Kind) → kind ≢ k.Comma → entry g.MoreHeaderPorts w kind ≡ Some []
more_header_ports_skip w kind h = grind arith

pub header_port_refuses : (w : ℕ) (kind : Kind) → kind ≢ k.Input → kind ≢ k.Output → Refuses g.AHeaderPort w kind
header_port_refuses w kind a b = record { none = grind arith; plain = refl }

pub next_header_port_declared : (w : ℕ) (kind : Kind) → kind ≢ k.Word → entry g.NextHeaderPort w kind ≡ Some (N g.AHeaderPort w ∷ [])
next_header_port_declared w kind h = grind arith

pub items_go : (w : ℕ) (kind : Kind) → g.begins_item kind ≡ true → entry g.Items w kind ≡ Some (N g.AnItem w ∷ N g.Items w ∷ [])
items_go w kind h = ap (λ (b : Bool). where_begun b (N g.AnItem w ∷ N g.Items w ∷ [])) h

pub items_skip : (w : ℕ) (kind : Kind) → g.begins_item kind ≡ false → entry g.Items w kind ≡ Some []
items_skip w kind h = ap (λ (b : Bool). where_begun b (N g.AnItem w ∷ N g.Items w ∷ [])) h

pub item_generates : (w : ℕ) (kind : Kind) → kind ≢ k.Input → kind ≢ k.Output → kind ≢ k.Parameter → kind ≢ k.Generate → entry g.AnItem w kind ≡ Some (N g.AGenerateItem w ∷ [])
item_generates w kind a b c d = grind arith

pub ruleset module_entries = (generate_items_go, generate_items_skip, generate_item_plain, other_branches_skip, last_branch_otherwise, modules_skip, parameter_header_skips, more_header_parameters_skips, header_parameter_alone, port_header_skips, port_list_skips, more_header_ports_skip, header_port_refuses, next_header_port_declared, items_go, items_skip, item_generates)

pub ruleset entries = (select_skips, select_dot, after_select_skips, after_select_dot, part_skips, more_skips, tail_skips, operand_refuses, braced_joins)
