-- Statements of `always` blocks, sized, and what may be wrong with one (IEEE Std 1364-2005, 9.2, 9.4, 9.5 and 9.8).
use Rattle.std.specs.Prelude.{ℕ, ◌%◌, ◌^◌, max, Bool, true, false, ◌&&◌, List, [], ◌∷◌, ◌++◌, map}
use Rattle.ls_text.specs.declared.fault.Fault.{Fault}
use Rattle.typed_ir.specs.Sized.{Sized}
use Rattle.typed_ir.specs.Stmts as s
use Rattle.typed_ir.specs.Stmts.{SizedItem, SizedStmt, SizedArms}
use Rattle.verilog_ast.specs.Expressions.{Expression}
use Rattle.verilog_ast.specs.Statements.{CaseLabel, DontCare, Compared, Statement, Block, If, IfElse, Case, Assignment, Null, Default, Match, NoStatement, Statements}
use Rattle.width_rules.specs.declared.writer.Writer.{Writer}
use Rattle.width_rules.specs.declared.writer.Writer.TheVariants as writer
use Rattle.width_rules.specs.declared.due.Due.TheVariants.{AnyValue}
use Rattle.width_rules.specs.Scopes.{Scope}
use Rattle.width_rules.specs.Signs.{is_signed}
use Rattle.width_rules.specs.Sizes.{length, push, literal_length, constant_at}
use Rattle.width_rules.specs.Opened.{own}
use Rattle.width_rules.specs.Faults.{faults, fault, fault_if, total_faults}
use Rattle.statement_rules.specs.Targets.{target_length, parts, target_faults, kind_faults}

-- ---- assignments: at the larger of both lengths, by the sign of the right side (5.4.1, 5.5.1); bits above the target's are dropped

abbrev pub assigned : Scope → ℕ → Expression → Sized
assigned scope width x = push scope x (max width (length scope x)) (is_signed scope x)

-- of a clocked block nonblocking (9.2.2), else blocking (9.2.1)
abbrev pub assignment : Writer → List s.SizedTarget → Sized → SizedStmt
assignment writer.Nothing ts x = s.Assign ts x
assignment writer.Continuous ts x = s.Assign ts x
assignment writer.Combinational ts x = s.Assign ts x
assignment writer.Clocked ts x = s.Later ts x

-- ---- case: all as long as the longest, and signed where all are (9.5; of the sign our choice)

abbrev pub label_length : Scope → CaseLabel → ℕ
label_length scope (DontCare at x) = literal_length x.size
label_length scope (Compared x) = length scope x

abbrev pub label_signed : Scope → CaseLabel → Bool
label_signed scope (DontCare at x) = false
label_signed scope (Compared x) = is_signed scope x

abbrev pub labels_length : Scope → List CaseLabel → ℕ
labels_length scope [] = 0
labels_length scope (l ∷ ls) = max (label_length scope l) (labels_length scope ls)

abbrev pub labels_signed : Scope → List CaseLabel → Bool
labels_signed scope [] = true
labels_signed scope (l ∷ ls) = label_signed scope l && labels_signed scope ls

-- the longest label of the items of a case
abbrev pub items_length : Scope → Statement → ℕ
items_length scope (Match ls body) = labels_length scope ls
items_length scope (Statements x xs) = max (items_length scope x) (items_length scope xs)
items_length scope other = 0

abbrev pub items_signed : Scope → Statement → Bool
items_signed scope (Match ls body) = labels_signed scope ls
items_signed scope (Statements x xs) = items_signed scope x && items_signed scope xs
items_signed scope other = true

-- the digits that match any bit are ignored; bits beyond the literal's size are 0 and have to match (9.5.1)
abbrev pub label_at : Scope → ℕ → Bool → CaseLabel → SizedItem
label_at scope width signed (DontCare at x) = record {
  ignored = x.mask % 2 ^ literal_length x.size;
  item = constant_at (literal_length x.size) (x.value % 2 ^ literal_length x.size) width false;
}
label_at scope width signed (Compared x) = record { ignored = 0; item = push scope x width signed }

abbrev pub item_before : Scope → ℕ → Bool → Statement → SizedStmt → SizedArms → SizedArms
item_before scope width signed (Match ls x) body rest = s.Arm (map (label_at scope width signed) ls) body rest
item_before scope width signed other body rest = rest

-- what a case does where no item matches: its default, wherever it stands
abbrev pub default_or : Statement → SizedStmt → SizedStmt → SizedStmt
default_or (Default at x) body rest = body
default_or other body rest = rest

abbrev mutual
  -- the statement of a block whose assignments are of this kind
  pub sized_statement : Scope → Writer → Statement → SizedStmt
  sized_statement scope by (Block at label body) = sized_statement scope by body
  sized_statement scope by (If at c x) = s.If (own scope c) (sized_statement scope by x) s.Skip
  sized_statement scope by (IfElse at c x y) = s.If (own scope c) (sized_statement scope by x) (sized_statement scope by y)
  sized_statement scope by (Case at kind x items) =
      s.Case (push scope x (max (length scope x) (items_length scope items)) (is_signed scope x && items_signed scope items))
      (sized_arms scope by (max (length scope x) (items_length scope items)) (is_signed scope x && items_signed scope items) (sized_default scope by items) items)
  sized_statement scope by (Assignment t x) = assignment by (parts scope 0 t) (assigned scope (target_length scope t) x)
  sized_statement scope by (Null at) = s.Skip
  sized_statement scope by (Default at body) = sized_statement scope by body
  sized_statement scope by (Match ls body) = sized_statement scope by body
  sized_statement scope by NoStatement = s.Skip
  sized_statement scope by (Statements x xs) = s.Then (sized_statement scope by x) (sized_statement scope by xs)

  -- the items of a case in their order, before its default
  pub sized_arms : Scope → Writer → ℕ → Bool → SizedStmt → Statement → SizedArms
  sized_arms scope by width signed otherwise (Statements x xs) =
      item_before scope width signed x (sized_statement scope by x) (sized_arms scope by width signed otherwise xs)
  sized_arms scope by width signed otherwise other = s.Default otherwise

  pub sized_default : Scope → Writer → Statement → SizedStmt
  sized_default scope by (Statements x xs) = default_or x (sized_statement scope by x) (sized_default scope by xs)
  sized_default scope by other = s.Skip

-- ---- faults: those of all expressions from left to right, and only then those of targets (33) and of a second default (30)

abbrev pub label_faults : Scope → CaseLabel → List Fault
label_faults scope (DontCare at x) = total_faults at (literal_length x.size)
label_faults scope (Compared x) = faults scope AnyValue x

abbrev pub labels_faults : Scope → List CaseLabel → List Fault
labels_faults scope [] = []
labels_faults scope (l ∷ ls) = label_faults scope l ++ labels_faults scope ls

abbrev pub expression_faults : Scope → Statement → List Fault
expression_faults scope (Block at label body) = expression_faults scope body
expression_faults scope (If at c x) = faults scope AnyValue c ++ expression_faults scope x
expression_faults scope (IfElse at c x y) = faults scope AnyValue c ++ (expression_faults scope x ++ expression_faults scope y)
expression_faults scope (Case at kind x items) = faults scope AnyValue x ++ expression_faults scope items
expression_faults scope (Assignment t x) = target_faults scope AnyValue t ++ faults scope AnyValue x
expression_faults scope (Null at) = []
expression_faults scope (Default at body) = expression_faults scope body
expression_faults scope (Match ls body) = labels_faults scope ls ++ expression_faults scope body
expression_faults scope NoStatement = []
expression_faults scope (Statements x xs) = expression_faults scope x ++ expression_faults scope xs

-- a default where another one stands before it
abbrev pub second_default : Bool → Statement → List Fault
second_default seen (Default at body) = fault_if seen (fault 30 at [])
second_default seen other = []

abbrev pub is_default_or : Bool → Statement → Bool
is_default_or seen (Default at body) = true
is_default_or seen other = seen

abbrev mutual
  pub item_faults : Scope → Writer → Statement → List Fault
  item_faults scope by (Block at label body) = item_faults scope by body
  item_faults scope by (If at c x) = item_faults scope by x
  item_faults scope by (IfElse at c x y) = item_faults scope by x ++ item_faults scope by y
  item_faults scope by (Case at kind x items) = arm_faults scope by false items
  item_faults scope by (Assignment t x) = kind_faults scope by t
  item_faults scope by (Null at) = []
  item_faults scope by (Default at body) = item_faults scope by body
  item_faults scope by (Match ls body) = item_faults scope by body
  item_faults scope by NoStatement = []
  item_faults scope by (Statements x xs) = item_faults scope by x ++ item_faults scope by xs

  -- of the items of a case, where a default stood before them or not
  pub arm_faults : Scope → Writer → Bool → Statement → List Fault
  arm_faults scope by seen (Statements x xs) =
      second_default seen x ++ (item_faults scope by x ++ arm_faults scope by (is_default_or seen x) xs)
  arm_faults scope by seen other = []

abbrev pub statement_faults : Scope → Writer → Statement → List Fault
statement_faults scope by x = expression_faults scope x ++ item_faults scope by x
