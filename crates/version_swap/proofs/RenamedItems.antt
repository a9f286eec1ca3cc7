-- The items of a module but for instances, under other names: the same items, and the same faults (IEEE 1364-2005, 6.1, 6.2.1, 9.2 and 9.9).
use Rattle.std.proofs.Common.{◌≡◌, List, [], ◌∷◌, map, refl, ◌∙◌, ap, ap₂}
use Rattle.ls_text.specs.declared.name_id.NameId.{NameId}
use Rattle.ls_text.specs.declared.place.Place.{Place}
use Rattle.typed_ir.specs.declared.shown_target.ShownTarget.{ShownTarget}
use Rattle.typed_ir.specs.Nodes.{Block}
use Rattle.typed_ir.specs.Stmts.{SizedStmt}
use Rattle.typed_ir.specs.declared.mention.Mention.{Mention}
use Rattle.typed_ir.specs.Items.{PlacedItem, Node, Clocked}
use Rattle.typed_ir.specs.Trees.{Own}
use Rattle.verilog_ast.specs.Items as i
use Rattle.verilog_ast.specs.Items.{ContinuousAssignment, ModuleItem}
use Rattle.verilog_ast.specs.Renaming.{statement_as, assignment_as, item_as}
use Rattle.verilog_ast.specs.Statements.{Statement}
use Rattle.width_rules.specs.declared.writer.Writer.TheVariants as writer
use Rattle.width_rules.specs.Renaming.{MeansSame, fault_as}
use Rattle.width_rules.specs.Scopes.{Scope}
use Rattle.statement_rules.specs.Statements.{sized_statement}
use Rattle.statement_rules.proofs.RenamedStatements.{same_statement, same_statement_faults, same_assign_faults}
use Rattle.width_rules.specs.Forms.{statement_shown}
use Rattle.width_rules.specs.Mentions.{statement_reads, statement_targets}
use Rattle.statement_rules.specs.declared.value_kind.ValueKind.TheVariants as kind
use Rattle.statement_rules.specs.DeclaredValues.{DeclaredValue, kind_of_net, declaration_faults, declaration_initials}
use Rattle.statement_rules.specs.SizedItems.{drive_item, value_item, combinational_item, clocked_item, plain_items, plain_initials, plain_faults}
use Rattle.version_swap.specs.RenamedFindings.{value_as, placed_as}
use Rattle.version_swap.proofs.RenamedForms.{same_shown}
use Rattle.version_swap.proofs.RenamedMentions.{same_reads, same_targets}
use Rattle.version_swap.proofs.RenamedValueItems.{same_values, same_reg_values, same_declaration_faults, same_initials, same_drive_item, same_value_item}

-- ---- declarations with values

pub faults_so : (f : NameId → NameId) (scope other : Scope) (vs xs : List DeclaredValue) → MeansSame f scope other → vs ≡ map (value_as f) xs
    → declaration_faults other vs ≡ map (fault_as f) (declaration_faults scope xs)
faults_so f scope other vs xs same is = ap (declaration_faults other) is ∙ same_declaration_faults f scope other xs same

pub initials_so : (f : NameId → NameId) (scope other : Scope) (vs xs : List DeclaredValue) → MeansSame f scope other → vs ≡ map (value_as f) xs
    → declaration_initials other vs ≡ declaration_initials scope xs
initials_so f scope other vs xs same is = ap (declaration_initials other) is ∙ same_initials f scope other xs same

value_items_so : (f : NameId → NameId) (scope other : Scope) (xs : List DeclaredValue) → MeansSame f scope other
    → map (value_item other) (map (value_as f) xs) ≡ map (placed_as f) (map (value_item scope) xs)
value_items_so f scope other [] same = refl
value_items_so f scope other (x ∷ xs) same =
    ap₂ (λ (y : PlacedItem) (ys : List PlacedItem). y ∷ ys) (same_value_item f scope other x same) (value_items_so f scope other xs same)

pub values_so : (f : NameId → NameId) (scope other : Scope) (vs xs : List DeclaredValue) → MeansSame f scope other → vs ≡ map (value_as f) xs
    → map (value_item other) vs ≡ map (placed_as f) (map (value_item scope) xs)
values_so f scope other vs xs same is = ap (map (value_item other)) is ∙ value_items_so f scope other xs same

drive_items_so : (f : NameId → NameId) (scope other : Scope) (xs : List ContinuousAssignment) → MeansSame f scope other
    → map (drive_item other) (map (assignment_as f) xs) ≡ map (placed_as f) (map (drive_item scope) xs)
drive_items_so f scope other [] same = refl
drive_items_so f scope other (x ∷ xs) same =
    ap₂ (λ (y : PlacedItem) (ys : List PlacedItem). y ∷ ys) (same_drive_item f scope other x same) (drive_items_so f scope other xs same)

-- ---- blocks

abbrev combinational_with : Place → ShownTarget → SizedStmt → List Mention → List Mention → PlacedItem
combinational_with at shown st targets reads = record { body = Node (Own (Block shown st)); at = at; targets = targets; reads = reads }

combinational_so : (f : NameId → NameId) (scope other : Scope) (at : Place) (x : Statement) → MeansSame f scope other
    → combinational_item other at (statement_as f x) ≡ placed_as f (combinational_item scope at x)
combinational_so f scope other at x same =
    ap₂ (λ (shown : ShownTarget) (st : SizedStmt). combinational_with at shown st (statement_targets 0 (statement_as f x))
    (statement_reads other 0 (statement_as f x)))
    (same_shown f scope other x same) (same_statement f scope other writer.Combinational x same)
    ∙ ap₂ (combinational_with at (statement_shown scope x) (sized_statement scope writer.Combinational x)) (same_targets f 0 x)
    (same_reads f scope other 0 x same)

abbrev clocked_with : Place → SizedStmt → List Mention → List Mention → PlacedItem
clocked_with at st targets reads = record { body = Clocked st; at = at; targets = targets; reads = reads }

clocked_so : (f : NameId → NameId) (scope other : Scope) (at : Place) (x : Statement) → MeansSame f scope other
    → clocked_item other at (statement_as f x) ≡ placed_as f (clocked_item scope at x)
clocked_so f scope other at x same =
    ap (λ (st : SizedStmt). clocked_with at st (statement_targets 0 (statement_as f x)) (statement_reads other 0 (statement_as f x)))
    (same_statement f scope other writer.Clocked x same)
    ∙ ap₂ (clocked_with at (sized_statement scope writer.Clocked x)) (same_targets f 0 x) (same_reads f scope other 0 x same)

-- ---- items

pub same_plain_faults : (f : NameId → NameId) (scope other : Scope) (x : ModuleItem) → MeansSame f scope other
    → plain_faults other (item_as f x) ≡ map (fault_as f) (plain_faults scope x)
same_plain_faults f scope other (i.Outputs at n k xs) same = faults_so f scope other _ _ same (same_values f (kind_of_net n) xs)
same_plain_faults f scope other (i.Wires at k xs) same = faults_so f scope other _ _ same (same_values f kind.Net xs)
same_plain_faults f scope other (i.Regs at k xs) same = faults_so f scope other _ _ same (same_reg_values f xs)
same_plain_faults f scope other (i.Assigns at xs) same = same_assign_faults f scope other xs same
same_plain_faults f scope other (i.Combinational at x) same = same_statement_faults f scope other writer.Combinational x same
same_plain_faults f scope other (i.Clocked at n x) same = same_statement_faults f scope other writer.Clocked x same
same_plain_faults f scope other rest same = refl

pub same_plain_items : (f : NameId → NameId) (scope other : Scope) (x : ModuleItem) → MeansSame f scope other
    → plain_items other (item_as f x) ≡ map (placed_as f) (plain_items scope x)
same_plain_items f scope other (i.Outputs at n k xs) same = values_so f scope other _ _ same (same_values f (kind_of_net n) xs)
same_plain_items f scope other (i.Wires at k xs) same = values_so f scope other _ _ same (same_values f kind.Net xs)
same_plain_items f scope other (i.Regs at k xs) same = values_so f scope other _ _ same (same_reg_values f xs)
same_plain_items f scope other (i.Assigns at xs) same = drive_items_so f scope other xs same
same_plain_items f scope other (i.Combinational at x) same = ap (λ (y : PlacedItem). y ∷ []) (combinational_so f scope other at x same)
same_plain_items f scope other (i.Clocked at n x) same = ap (λ (y : PlacedItem). y ∷ []) (clocked_so f scope other at x same)
same_plain_items f scope other rest same = refl

pub same_plain_initials : (f : NameId → NameId) (scope other : Scope) (x : ModuleItem) → MeansSame f scope other
    → plain_initials other (item_as f x) ≡ plain_initials scope x
same_plain_initials f scope other (i.Outputs at n k xs) same = initials_so f scope other _ _ same (same_values f (kind_of_net n) xs)
same_plain_initials f scope other (i.Wires at k xs) same = initials_so f scope other _ _ same (same_values f kind.Net xs)
same_plain_initials f scope other (i.Regs at k xs) same = initials_so f scope other _ _ same (same_reg_values f xs)
same_plain_initials f scope other rest same = refl
