-- A scope and its signals, and texts without a fault in it:
--     input [7:0] a; input [3:0] b; reg [3:0] y; wire [9:2] w; parameter p = 3;
--     casez (b) 4'b1??0: y = a[b +: 4] & b; default: ; endcase
--     assign w[5:2] = {p, ~b};
use Rattle.std.specs.Prelude.{ℕ, zero, suc, false, true, List, [], ◌∷◌}
use Rattle.verilog_ast.specs.declared.binary_operator.BinaryOperator.TheVariants.{And}
use Rattle.verilog_ast.specs.declared.case_kind.CaseKind.TheVariants.{Casez}
use Rattle.verilog_ast.specs.declared.identifier.Identifier.{Identifier}
use Rattle.verilog_ast.specs.declared.unary_operator.UnaryOperator.TheVariants.{Invert}
use Rattle.verilog_ast.specs.Expressions.{Expression, Literal, Whole, PartSelect, UpwardSelect, Unary, Binary, Concatenation, NoPart, Parts, Reference}
use Rattle.verilog_ast.specs.Items.{ContinuousAssignment}
use Rattle.verilog_ast.specs.Statements.{Statement, DontCare, Case, Assignment, Null, Default, Match, NoStatement, Statements}
use Rattle.verilog_ast.specs.Places.{no_place}
use Rattle.width_rules.specs.declared.writer.Writer.TheVariants as writer
use Rattle.width_rules.specs.Scopes.{Scope, Signal, Constant, Unknown}

-- the widths of a, b, y and w, by their numbers
abbrev pub widths : List ℕ
widths = 8 ∷ 4 ∷ 4 ∷ 8 ∷ []

-- by the numbers of the names: a, b, y, w, p
abbrev pub scope : Scope
scope zero = Signal 0 8 0 false writer.Nothing
scope (suc zero) = Signal 1 4 0 false writer.Nothing
scope (suc (suc zero)) = Signal 2 4 0 false writer.Combinational
scope (suc (suc (suc zero))) = Signal 3 8 2 false writer.Continuous
scope (suc (suc (suc (suc zero)))) = Constant 32 3 true
scope (suc (suc (suc (suc (suc n))))) = Unknown

abbrev pub named : ℕ → Identifier
named n = record { at = no_place; name = record { 0 = n } }

abbrev pub number : ℕ → Expression
number n = Literal no_place (record { size = 0; signed = true; value = n })

abbrev pub expression : Expression
expression = Binary And (UpwardSelect (named 0) (Whole (named 1)) (number 4)) (Whole (named 1))

abbrev pub statement : Statement
statement = Case no_place Casez (Whole (named 1))
    (Statements (Match (DontCare no_place (record { size = 4; value = 8; mask = 6 }) ∷ []) (Assignment (Reference (Whole (named 2))) expression))
    (Statements (Default no_place (Null no_place)) NoStatement))

abbrev pub assignments : List ContinuousAssignment
assignments = record {
  target = Reference (PartSelect (named 3) (number 5) (number 2));
  value = Concatenation no_place (Parts (Whole (named 4)) (Parts (Unary no_place Invert (Whole (named 1))) NoPart));
} ∷ []
