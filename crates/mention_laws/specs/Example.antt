-- A case whose default stands first, and what it mentions by hand. The signals a, b, c, d, y have the names 0 to 4, the parameter p is 5:
--     case (a) default: y[b] = {c, p}; 3, d: begin y[p -: 2] = c[b]; {y, c} = a ? b : d; end default: y = d; endcase
use Rattle.std.specs.Prelude.{ℕ, zero, suc, false, true, None, List, [], ◌∷◌}
use Rattle.verilog_ast.specs.declared.case_kind.CaseKind.TheVariants.{Case as Plain}
use Rattle.verilog_ast.specs.Expressions.{Expression, Whole, BitSelect, DownwardSelect, Conditional, Concatenation, NoPart, Parts, Reference, Joined, NoTarget, Targets}
use Rattle.verilog_ast.specs.Statements.{Statement, Compared, Block, Case, Assignment, Null, Default, Match, NoStatement, Statements}
use Rattle.verilog_ast.specs.Places.{no_place}
use Rattle.typed_ir.specs.declared.mention.Mention.{Mention}
use Rattle.width_rules.specs.declared.writer.Writer.TheVariants as writer
use Rattle.width_rules.specs.Scopes.{Scope, Signal, Constant, Unknown}
use Rattle.statement_rules.specs.Examples.{named, number}

abbrev pub scope : Scope
scope zero = Signal 0 8 0 false writer.Nothing
scope (suc zero) = Signal 1 4 0 false writer.Nothing
scope (suc (suc zero)) = Signal 2 4 0 false writer.Nothing
scope (suc (suc (suc zero))) = Signal 3 4 0 false writer.Nothing
scope (suc (suc (suc (suc zero)))) = Signal 4 8 0 false writer.Combinational
scope (suc (suc (suc (suc (suc zero))))) = Constant 32 3 true
scope (suc (suc (suc (suc (suc (suc n)))))) = Unknown

abbrev pub whole : ℕ → Expression
whole n = Whole (named n)

abbrev pub first : Statement
first = Assignment (Reference (BitSelect (named 4) (whole 1))) (Concatenation no_place (Parts (whole 2) (Parts (whole 5) NoPart)))

abbrev pub second : Statement
second = Assignment (Reference (DownwardSelect (named 4) (whole 5) (number 2))) (BitSelect (named 2) (whole 1))

abbrev pub third : Statement
third = Assignment (Joined no_place (Targets (Reference (whole 4)) (Targets (Reference (whole 2)) NoTarget))) (Conditional (whole 0) (whole 1) (whole 3))

abbrev pub last : Statement
last = Assignment (Reference (whole 4)) (whole 3)

abbrev pub statement : Statement
statement = Case no_place Plain (whole 0)
    (Statements (Default no_place first)
    (Statements (Match (Compared (number 3) ∷ Compared (whole 3) ∷ []) (Block no_place None (Statements second (Statements third NoStatement))))
    (Statements (Default no_place last) NoStatement)))

-- with a second default, which is refused with 30: case (a) default: ; default: y = d; 3: y = b; endcase
abbrev pub with_two : Statement
with_two = Case no_place Plain (whole 0)
    (Statements (Default no_place (Null no_place))
    (Statements (Default no_place last)
    (Statements (Match (Compared (number 3) ∷ []) (Assignment (Reference (whole 4)) (whole 1))) NoStatement)))

abbrev pub mention : ℕ → ℕ → Mention
mention n k = record { name = record { 0 = n }; at = no_place; order = k }

-- a; d, c and b, a and b and d; of the first default b and c
abbrev pub reads : List Mention
reads = mention 0 0 ∷ mention 3 3 ∷ mention 2 4 ∷ mention 1 5 ∷ mention 0 6 ∷ mention 1 7 ∷ mention 3 8 ∷ mention 1 1 ∷ mention 2 2 ∷ []

-- y, y and c; of the first default y
abbrev pub targets : List Mention
targets = mention 4 1 ∷ mention 4 2 ∷ mention 2 3 ∷ mention 4 0 ∷ []
