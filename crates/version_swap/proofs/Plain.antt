-- Items but for instances where signals have other numbers: the same faults, and their sized items under these numbers.
use Rattle.std.proofs.Common.{◌≡◌, ℕ, List, [], ◌∷◌, map, refl, ap, ap₂}
use Rattle.ls_text.specs.declared.place.Place.{Place}
use Rattle.typed_ir.specs.declared.shown_target.ShownTarget.{ShownTarget}
use Rattle.typed_ir.specs.Nodes.{Block}
use Rattle.typed_ir.specs.Stmts.{SizedStmt}
use Rattle.typed_ir.specs.declared.mention.Mention.{Mention}
use Rattle.typed_ir.specs.Trees.{Own}
use Rattle.typed_ir.specs.Items.{SizedBody, PlacedItem, Node, Clocked}
use Rattle.verilog_ast.specs.Items as i
use Rattle.verilog_ast.specs.Items.{ModuleItem}
use Rattle.verilog_ast.specs.Statements.{Statement}
use Rattle.width_rules.specs.declared.writer.Writer.{Writer}
use Rattle.width_rules.specs.declared.writer.Writer.TheVariants as writer
use Rattle.width_rules.specs.Scopes.{Scope}
use Rattle.width_rules.proofs.Reading.{right_none}
use Rattle.statement_rules.specs.Drives.{all_drive_faults, all_kind_faults}
use Rattle.statement_rules.specs.Statements.{sized_statement, expression_faults, item_faults, statement_faults}
use Rattle.statement_rules.specs.Renumbering.{renumbered, statement_as}
use Rattle.statement_rules.specs.Written.{IsStatementWritten}
use Rattle.statement_rules.proofs.RenumberedStatements.{same_statement, statement_faults_as, assign_faults_as}
use Rattle.width_rules.specs.Mentions.{statement_targets}
use Rattle.statement_rules.specs.declared.value_kind.ValueKind.TheVariants as kind
use Rattle.statement_rules.specs.DeclaredValues.{kind_of_net, values_of, reg_values_of}
use Rattle.statement_rules.specs.SizedItems.{combinational_item, clocked_item, plain_items, plain_initials, plain_faults}
use Rattle.unit_build.proofs.ItemLaws.{IsItemWritten}
use Rattle.version_swap.specs.RenumberedItems.{placed_as, initial_as}
use Rattle.version_swap.proofs.Declared.{drive_items_as, declaration_faults_as, value_items_as, initials_as}
use Rattle.version_swap.proofs.Mentioned.{reads_as, shown_as}

-- ---- blocks

body_so : (g : ℕ → ℕ) (scope : Scope) (by : Writer) (x : Statement) → IsStatementWritten x → statement_faults scope by x ≡ []
    → sized_statement (renumbered g scope) by x ≡ statement_as g (sized_statement scope by x)
body_so g scope by x w h = same_statement g scope by x w (right_none (expression_faults scope x) (item_faults scope by x) h)

abbrev block_with : Place → Statement → SizedBody → List Mention → PlacedItem
block_with at x body reads = record { body = body; at = at; targets = statement_targets 0 x; reads = reads }

combinational_as : (g : ℕ → ℕ) (scope : Scope) (at : Place) (x : Statement) → IsStatementWritten x
    → statement_faults scope writer.Combinational x ≡ []
    → combinational_item (renumbered g scope) at x ≡ placed_as g (combinational_item scope at x)
combinational_as g scope at x w h =
    ap₂ (block_with at x)
    (ap₂ (λ (f : ShownTarget) (s : SizedStmt). Node (Own (Block f s))) (shown_as g scope x) (body_so g scope writer.Combinational x w h))
    (reads_as g scope 0 x)

clocked_as : (g : ℕ → ℕ) (scope : Scope) (at : Place) (x : Statement) → IsStatementWritten x → statement_faults scope writer.Clocked x ≡ []
    → clocked_item (renumbered g scope) at x ≡ placed_as g (clocked_item scope at x)
clocked_as g scope at x w h =
    ap₂ (block_with at x) (ap (λ (s : SizedStmt). Clocked s) (body_so g scope writer.Clocked x w h)) (reads_as g scope 0 x)

-- ---- items

pub plain_faults_as : (g : ℕ → ℕ) (scope : Scope) (x : ModuleItem) → plain_faults (renumbered g scope) x ≡ plain_faults scope x
plain_faults_as g scope (i.Outputs at n k xs) = declaration_faults_as g scope (values_of (kind_of_net n) xs)
plain_faults_as g scope (i.Wires at k xs) = declaration_faults_as g scope (values_of kind.Net xs)
plain_faults_as g scope (i.Regs at k xs) = declaration_faults_as g scope (reg_values_of xs)
plain_faults_as g scope (i.Assigns at xs) = assign_faults_as g scope xs
plain_faults_as g scope (i.Combinational at body) = statement_faults_as g scope writer.Combinational body
plain_faults_as g scope (i.Clocked at n body) = statement_faults_as g scope writer.Clocked body
plain_faults_as g scope other = refl

pub plain_items_as : (g : ℕ → ℕ) (scope : Scope) (x : ModuleItem) → IsItemWritten x → plain_faults scope x ≡ []
    → plain_items (renumbered g scope) x ≡ map (placed_as g) (plain_items scope x)
plain_items_as g scope (i.Outputs at n k xs) w h = value_items_as g scope (values_of (kind_of_net n) xs) h
plain_items_as g scope (i.Wires at k xs) w h = value_items_as g scope (values_of kind.Net xs) h
plain_items_as g scope (i.Regs at k xs) w h = value_items_as g scope (reg_values_of xs) h
plain_items_as g scope (i.Assigns at xs) w h = drive_items_as g scope xs w (right_none (all_drive_faults scope xs) (all_kind_faults scope xs) h)
plain_items_as g scope (i.Combinational at body) w h = ap (λ (p : PlacedItem). p ∷ []) (combinational_as g scope at body w h)
plain_items_as g scope (i.Clocked at n body) w h = ap (λ (p : PlacedItem). p ∷ []) (clocked_as g scope at body w h)
plain_items_as g scope other w h = refl

pub plain_initials_as : (g : ℕ → ℕ) (scope : Scope) (x : ModuleItem) → plain_faults scope x ≡ []
    → plain_initials (renumbered g scope) x ≡ map (initial_as g) (plain_initials scope x)
plain_initials_as g scope (i.Outputs at n k xs) h = initials_as g scope (values_of (kind_of_net n) xs) h
plain_initials_as g scope (i.Wires at k xs) h = initials_as g scope (values_of kind.Net xs) h
plain_initials_as g scope (i.Regs at k xs) h = initials_as g scope (reg_values_of xs) h
plain_initials_as g scope other h = refl
