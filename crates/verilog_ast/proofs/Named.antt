-- The names of a node are those of its parts.
use Rattle.std.proofs.Common.{◌≡◌, List, [], ◌∷◌, ◌++◌, Option, map, flat_map, refl, sym, ap, ◌∙◌}
use Rattle.ls_text.specs.declared.name_id.NameId.{NameId}
use Rattle.ls_text.specs.declared.place.Place.{Place}
use Rattle.verilog_ast.specs.declared.identifier.Identifier.{Identifier}
use Rattle.verilog_ast.specs.declared.number.Number.{Number}
use Rattle.verilog_ast.specs.declared.unary_operator.UnaryOperator.{UnaryOperator}
use Rattle.verilog_ast.specs.declared.binary_operator.BinaryOperator.{BinaryOperator}
use Rattle.verilog_ast.specs.declared.expression.Expr.{Expr}
use Rattle.verilog_ast.specs.declared.expression.Expr.TheOpen.{Expr-F, Reference-F}
use Rattle.verilog_ast.specs.declared.expression.Expr.TheFolds.{fold-roll-Expr, fold-roll-Reference}
use Rattle.verilog_ast.specs.declared.expression.Expr.TheVariants as e
use Rattle.verilog_ast.specs.declared.expression.Reference.{Reference}
use Rattle.verilog_ast.specs.declared.expression.Reference.TheVariants as r
use Rattle.verilog_ast.specs.declared.target.Lhs.{Lhs}
use Rattle.verilog_ast.specs.declared.target.Lhs.TheOpen.{Lhs-F}
use Rattle.verilog_ast.specs.declared.target.Lhs.TheFolds.{fold-roll-Lhs}
use Rattle.verilog_ast.specs.declared.target.Lhs.TheVariants as t
use Rattle.verilog_ast.specs.declared.case_kind.CaseKind.{CaseKind}
use Rattle.verilog_ast.specs.declared.label.Label.{Label}
use Rattle.verilog_ast.specs.declared.statement.Stmt.{Stmt}
use Rattle.verilog_ast.specs.declared.statement.Stmt.TheVariants as s
use Rattle.verilog_ast.specs.declared.statement.Arm.{Arm}
use Rattle.verilog_ast.specs.declared.statement.Arm.TheVariants as a
use Rattle.verilog_ast.specs.declared.statement.Arm.TheOpen.{Stmt-F, Arm-F}
use Rattle.verilog_ast.specs.declared.statement.Arm.TheFolds.{fold-roll-Stmt, fold-roll-Arm}
use Rattle.verilog_ast.specs.declared.generate_loop.Loop.{Loop}
use Rattle.verilog_ast.specs.declared.plain_item.PlainItem.{PlainItem}
use Rattle.verilog_ast.specs.declared.generate_item.Branch.{Branch}
use Rattle.verilog_ast.specs.declared.generate_item.GenerateItem.{GenerateItem}
use Rattle.verilog_ast.specs.declared.generate_item.GenerateItem.TheVariants as g
use Rattle.verilog_ast.specs.declared.generate_item.GenerateItem.TheOpen.{GenerateItem-F}
use Rattle.verilog_ast.specs.declared.generate_item.GenerateItem.TheFolds.{fold-roll-GenerateItem, fold_out-Branch}
use Rattle.verilog_ast.specs.Names as n
use Rattle.verilog_ast.specs.Names.{joined, names_of_expression, names_of_reference, names_of_target, names_of_label, names_of_optional_label, names_of_statement, names_of_arm, names_of_option, names_of_plain_item, names_of_loop, names_of_generate_item, names_of_branch}

joined_map : {A : Type 0} (f : A → List NameId) (xs : List A) → joined (map f xs) ≡ flat_map f xs
joined_map f [] = refl
joined_map f (x ∷ xs) = ap (λ z. f x ++ z) (joined_map f xs)

-- ---- expressions

pub number_names : (at : Place) (x : Number) → names_of_expression (e.Number at x) ≡ []
number_names at x =
    ap names_of_expression (sym (e.rolls-Number at x)) ∙ fold-roll-Expr (List NameId) (List NameId) n.expression_names n.reference_names (Expr-F.Number at x)

pub read_names : (x : Reference) → names_of_expression (e.Read x) ≡ names_of_reference x
read_names x =
    ap names_of_expression (sym (e.rolls-Read x)) ∙ fold-roll-Expr (List NameId) (List NameId) n.expression_names n.reference_names (Expr-F.Read x)

pub unary_names : (at : Place) (op : UnaryOperator) (x : Expr) → names_of_expression (e.Unary at op x) ≡ names_of_expression x
unary_names at op x =
    ap names_of_expression (sym (e.rolls-Unary at op x)) ∙ fold-roll-Expr (List NameId) (List NameId) n.expression_names n.reference_names (Expr-F.Unary at op x)

pub binary_names : (op : BinaryOperator) (x : Expr) (y : Expr) → names_of_expression (e.Binary op x y) ≡ names_of_expression x ++ names_of_expression y
binary_names op x y =
    ap names_of_expression (sym (e.rolls-Binary op x y)) ∙ fold-roll-Expr (List NameId) (List NameId) n.expression_names n.reference_names (Expr-F.Binary op x y)

pub conditional_names : (x : Expr) (y : Expr) (z : Expr) → names_of_expression (e.Conditional x y z) ≡ names_of_expression x ++ (names_of_expression y ++ names_of_expression z)
conditional_names x y z =
    ap names_of_expression (sym (e.rolls-Conditional x y z)) ∙ fold-roll-Expr (List NameId) (List NameId) n.expression_names n.reference_names (Expr-F.Conditional x y z)

pub concatenation_names : (at : Place) (xs : List Expr) → names_of_expression (e.Concatenation at xs) ≡ flat_map names_of_expression xs
concatenation_names at xs =
    ap names_of_expression (sym (e.rolls-Concatenation at xs)) ∙ fold-roll-Expr (List NameId) (List NameId) n.expression_names n.reference_names (Expr-F.Concatenation at xs)
    ∙ joined_map names_of_expression xs

pub replication_names : (at : Place) (x : Expr) (ys : List Expr) → names_of_expression (e.Replication at x ys) ≡ names_of_expression x ++ flat_map names_of_expression ys
replication_names at x ys =
    ap names_of_expression (sym (e.rolls-Replication at x ys)) ∙ fold-roll-Expr (List NameId) (List NameId) n.expression_names n.reference_names (Expr-F.Replication at x ys)
    ∙ ap (λ z. names_of_expression x ++ z) (joined_map names_of_expression ys)

pub bracketed_names : (at : Place) (x : Expr) → names_of_expression (e.Bracketed at x) ≡ names_of_expression x
bracketed_names at x =
    ap names_of_expression (sym (e.rolls-Bracketed at x)) ∙ fold-roll-Expr (List NameId) (List NameId) n.expression_names n.reference_names (Expr-F.Bracketed at x)

pub whole_names : (name : Identifier) → names_of_reference (r.Whole name) ≡ name.name ∷ []
whole_names name =
    ap names_of_reference (sym (r.rolls-Whole name)) ∙ fold-roll-Reference (List NameId) (List NameId) n.expression_names n.reference_names (Reference-F.Whole name)

pub bit_names : (name : Identifier) (x : Expr) → names_of_reference (r.Bit name x) ≡ name.name ∷ names_of_expression x
bit_names name x =
    ap names_of_reference (sym (r.rolls-Bit name x)) ∙ fold-roll-Reference (List NameId) (List NameId) n.expression_names n.reference_names (Reference-F.Bit name x)

pub part_names : (name : Identifier) (x : Expr) (y : Expr) → names_of_reference (r.Part name x y) ≡ name.name ∷ (names_of_expression x ++ names_of_expression y)
part_names name x y =
    ap names_of_reference (sym (r.rolls-Part name x y)) ∙ fold-roll-Reference (List NameId) (List NameId) n.expression_names n.reference_names (Reference-F.Part name x y)

pub upward_names : (name : Identifier) (x : Expr) (y : Expr) → names_of_reference (r.Upward name x y) ≡ name.name ∷ (names_of_expression x ++ names_of_expression y)
upward_names name x y =
    ap names_of_reference (sym (r.rolls-Upward name x y)) ∙ fold-roll-Reference (List NameId) (List NameId) n.expression_names n.reference_names (Reference-F.Upward name x y)

pub downward_names : (name : Identifier) (x : Expr) (y : Expr) → names_of_reference (r.Downward name x y) ≡ name.name ∷ (names_of_expression x ++ names_of_expression y)
downward_names name x y =
    ap names_of_reference (sym (r.rolls-Downward name x y)) ∙ fold-roll-Reference (List NameId) (List NameId) n.expression_names n.reference_names (Reference-F.Downward name x y)

pub target_name_names : (x : Reference) → names_of_target (t.Reference x) ≡ names_of_reference x
target_name_names x =
    ap names_of_target (sym (t.rolls-Reference x)) ∙ fold-roll-Lhs (List NameId) n.target_names (Lhs-F.Reference x)

pub target_braces_names : (at : Place) (xs : List Lhs) → names_of_target (t.Concatenation at xs) ≡ flat_map names_of_target xs
target_braces_names at xs =
    ap names_of_target (sym (t.rolls-Concatenation at xs)) ∙ fold-roll-Lhs (List NameId) n.target_names (Lhs-F.Concatenation at xs)
    ∙ joined_map names_of_target xs

-- ---- statements

pub block_names : (at : Place) (l : Option Identifier) (xs : List Stmt) → names_of_statement (s.Block at l xs) ≡ names_of_optional_label l ++ flat_map names_of_statement xs
block_names at l xs =
    ap names_of_statement (sym (s.rolls-Block at l xs)) ∙ fold-roll-Stmt (List NameId) (List NameId) n.arm_names n.statement_names (Stmt-F.Block at l xs)
    ∙ ap (λ z. names_of_optional_label l ++ z) (joined_map names_of_statement xs)

pub if_names : (at : Place) (x : Expr) (y : Stmt) → names_of_statement (s.If at x y) ≡ names_of_expression x ++ names_of_statement y
if_names at x y =
    ap names_of_statement (sym (s.rolls-If at x y)) ∙ fold-roll-Stmt (List NameId) (List NameId) n.arm_names n.statement_names (Stmt-F.If at x y)

pub if_else_names : (at : Place) (x : Expr) (y : Stmt) (z : Stmt) → names_of_statement (s.IfElse at x y z) ≡ names_of_expression x ++ (names_of_statement y ++ names_of_statement z)
if_else_names at x y z =
    ap names_of_statement (sym (s.rolls-IfElse at x y z)) ∙ fold-roll-Stmt (List NameId) (List NameId) n.arm_names n.statement_names (Stmt-F.IfElse at x y z)

pub case_names : (at : Place) (which : CaseKind) (x : Expr) (ys : List Arm) → names_of_statement (s.Case at which x ys) ≡ names_of_expression x ++ flat_map names_of_arm ys
case_names at which x ys =
    ap names_of_statement (sym (s.rolls-Case at which x ys)) ∙ fold-roll-Stmt (List NameId) (List NameId) n.arm_names n.statement_names (Stmt-F.Case at which x ys)
    ∙ ap (λ z. names_of_expression x ++ z) (joined_map names_of_arm ys)

pub assign_names : (x : Lhs) (y : Expr) → names_of_statement (s.Assign x y) ≡ names_of_target x ++ names_of_expression y
assign_names x y =
    ap names_of_statement (sym (s.rolls-Assign x y)) ∙ fold-roll-Stmt (List NameId) (List NameId) n.arm_names n.statement_names (Stmt-F.Assign x y)

pub empty_names : (at : Place) → names_of_statement (s.Empty at) ≡ []
empty_names at =
    ap names_of_statement (sym (s.rolls-Empty at)) ∙ fold-roll-Stmt (List NameId) (List NameId) n.arm_names n.statement_names (Stmt-F.Empty at)

pub default_names : (at : Place) (x : Stmt) → names_of_arm (a.Default at x) ≡ names_of_statement x
default_names at x =
    ap names_of_arm (sym (a.rolls-Default at x)) ∙ fold-roll-Arm (List NameId) (List NameId) n.arm_names n.statement_names (Arm-F.Default at x)

pub match_names : (ls : List Label) (x : Stmt) → names_of_arm (a.Match ls x) ≡ flat_map names_of_label ls ++ names_of_statement x
match_names ls x =
    ap names_of_arm (sym (a.rolls-Match ls x)) ∙ fold-roll-Arm (List NameId) (List NameId) n.arm_names n.statement_names (Arm-F.Match ls x)

-- ---- items of generate blocks

pub plain_names : (x : PlainItem) → names_of_generate_item (g.Plain x) ≡ names_of_plain_item x
plain_names x =
    ap names_of_generate_item (sym (g.rolls-Plain x)) ∙ fold-roll-GenerateItem (List NameId) (List NameId) n.generate_item_names n.branch_names (GenerateItem-F.Plain x)

pub for_names : (at : Place) (x : Loop) (label : Identifier) (ys : List GenerateItem) → names_of_generate_item (g.For at x label ys) ≡ names_of_loop x ++ (label.name ∷ flat_map names_of_generate_item ys)
for_names at x label ys =
    ap names_of_generate_item (sym (g.rolls-For at x label ys)) ∙ fold-roll-GenerateItem (List NameId) (List NameId) n.generate_item_names n.branch_names (GenerateItem-F.For at x label ys)
    ∙ ap (λ z. names_of_loop x ++ (label.name ∷ z)) (joined_map names_of_generate_item ys)

pub branches_names : (xs : List Branch) → names_of_generate_item (g.If xs) ≡ flat_map names_of_branch xs
branches_names xs =
    ap names_of_generate_item (sym (g.rolls-If xs)) ∙ fold-roll-GenerateItem (List NameId) (List NameId) n.generate_item_names n.branch_names (GenerateItem-F.If xs)
    ∙ joined_map names_of_branch xs

pub branch_names : (x : Branch) → names_of_branch x ≡ names_of_option names_of_expression x.condition ++ (x.label.name ∷ flat_map names_of_generate_item x.items)
branch_names x =
    fold_out-Branch (List NameId) (List NameId) n.generate_item_names n.branch_names x
    ∙ ap (λ z. names_of_option names_of_expression x.condition ++ (x.label.name ∷ z)) (joined_map names_of_generate_item x.items)
