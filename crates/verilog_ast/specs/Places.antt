-- Where the parts of a tree stand: the place of their first token.
use Rattle.std.specs.Prelude.{List, [], ◌∷◌}
use Rattle.ls_text.specs.declared.place.Place.{Place}
use Rattle.verilog_ast.specs.Expressions.{Expression, Literal, Whole, BitSelect, PartSelect, UpwardSelect, DownwardSelect, Unary, Binary, Conditional, Concatenation, Replication, Bracketed, NoPart, Parts, Target, Reference, Joined, NoTarget, Targets}
use Rattle.verilog_ast.specs.Statements.{CaseLabel, DontCare, Compared, Statement, Block, If, IfElse, Case, Assignment, Null, Default, Match, NoStatement, Statements}
use Rattle.verilog_ast.specs.Declarations.{PortDeclaration, InputPort, OutputPort, NextPort}
use Rattle.verilog_ast.specs.Items as i
use Rattle.verilog_ast.specs.Items.{ModuleItem}

-- the end of a list has no token: the first place of all
abbrev pub no_place : Place
no_place = record { file = 0; line = 1; col = 1 }

-- of an expression: that of its first operand, where no token stands before it
abbrev pub expression_place : Expression → Place
expression_place (Literal at x) = at
expression_place (Whole n) = n.at
expression_place (BitSelect n x) = n.at
expression_place (PartSelect n x y) = n.at
expression_place (UpwardSelect n x y) = n.at
expression_place (DownwardSelect n x y) = n.at
expression_place (Unary at op x) = at
expression_place (Binary op x y) = expression_place x
expression_place (Conditional x y z) = expression_place x
expression_place (Concatenation at xs) = at
expression_place (Replication at x ys) = at
expression_place (Bracketed at x) = at
expression_place NoPart = no_place
expression_place (Parts x xs) = expression_place x

abbrev pub target_place : Target → Place
target_place (Reference x) = expression_place x
target_place (Joined at xs) = at
target_place NoTarget = no_place
target_place (Targets x xs) = target_place x

abbrev pub label_place : CaseLabel → Place
label_place (DontCare at x) = at
label_place (Compared x) = expression_place x

abbrev pub labels_place : List CaseLabel → Place
labels_place [] = no_place
labels_place (x ∷ xs) = label_place x

-- of an assignment: that of its target; of an item of a `case`: that of its first label
abbrev pub statement_place : Statement → Place
statement_place (Block at label xs) = at
statement_place (If at x y) = at
statement_place (IfElse at x y z) = at
statement_place (Case at which x ys) = at
statement_place (Assignment x y) = target_place x
statement_place (Null at) = at
statement_place (Default at x) = at
statement_place (Match ls x) = labels_place ls
statement_place NoStatement = no_place
statement_place (Statements x xs) = statement_place x

-- of a further name: that of the name
abbrev pub port_place : PortDeclaration → Place
port_place (InputPort at net x n) = at
port_place (OutputPort at net x y) = at
port_place (NextPort x) = x.name.at

-- of instances: that of the module's name
abbrev pub item_place : ModuleItem → Place
item_place (i.Inputs at net x ys) = at
item_place (i.Outputs at net x ys) = at
item_place (i.Parameters at x ys) = at
item_place (i.LocalParameters at x ys) = at
item_place (i.Wires at x ys) = at
item_place (i.Regs at x ys) = at
item_place (i.Genvars at ns) = at
item_place (i.Assigns at xs) = at
item_place (i.Combinational at x) = at
item_place (i.Clocked at n x) = at
item_place (i.Instances n x ys) = n.at
item_place (i.Region at xs) = at
item_place (i.Loop at x n ys) = at
item_place (i.Conditional xs) = item_place xs
item_place (i.Branch at x n ys) = at
item_place i.NoItem = no_place
item_place (i.Items x xs) = item_place x
