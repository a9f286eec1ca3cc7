-- The grammar: what stands for a nonterminal before a token. Of IEEE 1364-2005, annex A (A.1 to A.8), it has a part; and one
-- form of its own, an assignment on an `output` without `reg`, which the standard has for nets (A.2.1.3, A.2.4).
use Rattle.std.specs.Prelude.{ℕ, ◌+◌, List, [], ◌∷◌, Option, Some, None, Bool, true, false}
use Rattle.verilog_lex.specs.declared.kind.Kind.{Kind}
use Rattle.verilog_lex.specs.declared.kind.Kind.TheVariants as k
use Rattle.verilog_ast.specs.declared.unary_operator.UnaryOperator.{UnaryOperator}
use Rattle.verilog_ast.specs.declared.binary_operator.BinaryOperator.{BinaryOperator}
use Rattle.verilog_ast.specs.declared.sign.Sign.{Sign}
use Rattle.verilog_ast.specs.declared.sign.Sign.TheVariants.{Blocking, Nonblocking}
use Rattle.verilog_ast.specs.declared.case_kind.CaseKind.{CaseKind}
use Rattle.verilog_ast.specs.declared.case_kind.CaseKind.TheVariants.{Case, Casez}
use Rattle.verilog_expr.specs.Tokens.{unary_operator, binary_operator}

pub data Nonterminal : Type 0 where
  -- modules
  Modules : Nonterminal
  AModule : Nonterminal
  AHeader : Nonterminal
  ParameterHeader : Nonterminal
  AShapedParameter : Nonterminal
  MoreHeaderParameters : Nonterminal
  AHeaderParameter : Nonterminal
  PortHeader : Nonterminal
  PortList : Nonterminal
  DeclaredPorts : Nonterminal
  MoreHeaderPorts : Nonterminal
  AHeaderPort : Nonterminal
  NextHeaderPort : Nonterminal
  Items : Nonterminal
  AnItem : Nonterminal
  -- declarations
  AShape : Nonterminal
  OptionalSigned : Nonterminal
  OptionalRange : Nonterminal
  OptionalWire : Nonterminal
  OptionalNet : Nonterminal
  Names : Nonterminal
  MoreNames : Nonterminal
  AVariable : Nonterminal
  OptionalValue : Nonterminal
  Variables : Nonterminal
  MoreVariables : Nonterminal
  AParameter : Nonterminal
  Parameters : Nonterminal
  MoreParameters : Nonterminal
  -- items of generate blocks
  GenerateItems : Nonterminal
  AGenerateItem : Nonterminal
  ALoop : Nonterminal
  ALoopHead : Nonterminal
  APlainItem : Nonterminal
  Assignments : Nonterminal
  MoreAssignments : Nonterminal
  AContinuous : Nonterminal
  AnEvent : Nonterminal
  Trigger : Nonterminal
  EdgeEnd : Nonterminal
  Overrides : Nonterminal
  Instances : Nonterminal
  MoreInstances : Nonterminal
  AnInstance : Nonterminal
  AConnections : Nonterminal
  ANamedConnection : Nonterminal
  MoreNamed : Nonterminal
  AnOrdered : Nonterminal
  MoreOrdered : Nonterminal
  OptionalExpression : Nonterminal
  ABlock : Nonterminal
  ABranch : Nonterminal
  OtherBranches : Nonterminal
  LastBranch : Nonterminal
  AnOtherwise : Nonterminal
  -- statements
  AStatement : Sign → Nonterminal
  Statements : Sign → Nonterminal
  AnIf : Sign → Nonterminal
  Alternative : Sign → Nonterminal
  ACase : Sign → CaseKind → Nonterminal
  AnAssignment : Sign → Nonterminal
  ASign : Sign → Nonterminal
  OptionalLabel : Nonterminal
  AnArm : Sign → CaseKind → Nonterminal
  MoreArms : Sign → CaseKind → Nonterminal
  OptionalColon : Nonterminal
  ALabel : CaseKind → Nonterminal
  MoreLabels : CaseKind → Nonterminal
  ATarget : Nonterminal
  Braces : Nonterminal
  MoreTargets : Nonterminal
  -- expressions
  AnExpression : Nonterminal
  Tail : Nonterminal
  Operand : Nonterminal
  ASelect : Nonterminal
  Part : Nonterminal
  AfterSelect : Nonterminal
  Braced : Nonterminal
  More : Nonterminal
  ARange : Nonterminal

-- A symbol, and how much is open at its first token.
pub data Symbol : Type 0 where
  T : Kind → ℕ → Symbol
  N : Nonterminal → ℕ → Symbol

-- ---- what can begin a phrase

abbrev pub begins_operand : Option UnaryOperator → Kind → Bool
begins_operand (Some op) _ = true
begins_operand None k.Number = true
begins_operand None k.Word = true
begins_operand None k.LeftParen = true
begins_operand None k.LeftBrace = true
begins_operand None _ = false

abbrev pub begins_expression : Kind → Bool
begins_expression kind = begins_operand (unary_operator kind) kind

abbrev pub begins_label : CaseKind → Kind → Bool
begins_label Casez k.Wild = true
begins_label _ kind = begins_expression kind

abbrev pub begins_arm : CaseKind → Kind → Bool
begins_arm _ k.Default = true
begins_arm which kind = begins_label which kind

abbrev pub begins_statement : Kind → Bool
begins_statement k.Begin = true
begins_statement k.If = true
begins_statement k.Case = true
begins_statement k.Casez = true
begins_statement k.Semicolon = true
begins_statement k.Word = true
begins_statement k.LeftBrace = true
begins_statement _ = false

abbrev pub begins_generate_item : Kind → Bool
begins_generate_item k.Wire = true
begins_generate_item k.Reg = true
begins_generate_item k.LocalParam = true
begins_generate_item k.Genvar = true
begins_generate_item k.Assign = true
begins_generate_item k.Always = true
begins_generate_item k.Word = true
begins_generate_item k.For = true
begins_generate_item k.If = true
begins_generate_item _ = false

abbrev pub begins_item : Kind → Bool
begins_item k.Input = true
begins_item k.Output = true
begins_item k.Parameter = true
begins_item k.Generate = true
begins_item kind = begins_generate_item kind

-- ---- alternatives that depend on such a test

abbrev pub operand_at : ℕ → Kind → Option UnaryOperator → Option (List Symbol)
operand_at w kind (Some op) = Some (T kind w ∷ N Operand (w + 1) ∷ [])
operand_at w k.Number None = Some (T k.Number w ∷ [])
operand_at w k.Word None = Some (T k.Word w ∷ N ASelect w ∷ [])
operand_at w k.LeftParen None = Some (T k.LeftParen w ∷ N AnExpression (w + 1) ∷ T k.RightParen (w + 1) ∷ [])
operand_at w k.LeftBrace None = Some (T k.LeftBrace w ∷ N AnExpression (w + 1) ∷ N Braced (w + 1) ∷ [])
operand_at w _ None = None

abbrev pub tail_at : ℕ → Kind → Option BinaryOperator → Option (List Symbol)
tail_at w kind (Some op) = Some (T kind w ∷ N Operand (w + 1) ∷ N Tail (w + 1) ∷ [])
tail_at w k.Question None = Some (T k.Question w ∷ N AnExpression (w + 1) ∷ T k.Colon w ∷ N AnExpression (w + 1) ∷ [])
tail_at w _ None = Some []

-- a repetition or an option that is taken where the test holds
abbrev pub where_begun : Bool → List Symbol → Option (List Symbol)
where_begun true alternative = Some alternative
where_begun false alternative = Some []

-- ---- the table

-- The alternative of a nonterminal that the token can begin, else its empty alternative, where it has one.
abbrev pub entry : Nonterminal → ℕ → Kind → Option (List Symbol)
entry Modules w k.Module = Some (N AModule w ∷ N Modules w ∷ [])
entry Modules w _ = Some []
entry AModule w _ = Some (T k.Module w ∷ T k.Word w ∷ N AHeader w ∷ N Items w ∷ T k.EndModule w ∷ [])
entry AHeader w _ = Some (N ParameterHeader w ∷ N PortHeader w ∷ T k.Semicolon w ∷ [])
entry ParameterHeader w k.Hash = Some (T k.Hash w ∷ T k.LeftParen w ∷ N AShapedParameter (w + 1) ∷ N MoreHeaderParameters (w + 1) ∷ T k.RightParen (w + 1) ∷ [])
entry ParameterHeader w _ = Some []
entry AShapedParameter w _ = Some (T k.Parameter w ∷ N AShape w ∷ N AParameter w ∷ [])
entry MoreHeaderParameters w k.Comma = Some (T k.Comma w ∷ N AHeaderParameter w ∷ N MoreHeaderParameters w ∷ [])
entry MoreHeaderParameters w _ = Some []
entry AHeaderParameter w k.Parameter = Some (N AShapedParameter w ∷ [])
entry AHeaderParameter w _ = Some (N AParameter w ∷ [])
entry PortHeader w k.LeftParen = Some (T k.LeftParen w ∷ N PortList (w + 1) ∷ T k.RightParen (w + 1) ∷ [])
entry PortHeader w _ = Some []
entry PortList w k.Word = Some (N Names w ∷ [])
entry PortList w k.Input = Some (N DeclaredPorts w ∷ [])
entry PortList w k.Output = Some (N DeclaredPorts w ∷ [])
entry PortList w _ = Some []
entry DeclaredPorts w _ = Some (N AHeaderPort w ∷ N MoreHeaderPorts w ∷ [])
entry MoreHeaderPorts w k.Comma = Some (T k.Comma w ∷ N NextHeaderPort w ∷ N MoreHeaderPorts w ∷ [])
entry MoreHeaderPorts w _ = Some []
entry AHeaderPort w k.Input = Some (T k.Input w ∷ N OptionalWire w ∷ N AShape w ∷ T k.Word w ∷ [])
entry AHeaderPort w k.Output = Some (T k.Output w ∷ N OptionalNet w ∷ N AShape w ∷ N AVariable w ∷ [])
entry AHeaderPort w _ = None
entry NextHeaderPort w k.Word = Some (N AVariable w ∷ [])
entry NextHeaderPort w _ = Some (N AHeaderPort w ∷ [])
entry Items w kind = where_begun (begins_item kind) (N AnItem w ∷ N Items w ∷ [])
entry AnItem w k.Input = Some (T k.Input w ∷ N OptionalWire w ∷ N AShape w ∷ N Names w ∷ T k.Semicolon w ∷ [])
entry AnItem w k.Output = Some (T k.Output w ∷ N OptionalNet w ∷ N AShape w ∷ N Variables w ∷ T k.Semicolon w ∷ [])
entry AnItem w k.Parameter = Some (T k.Parameter w ∷ N AShape w ∷ N Parameters w ∷ T k.Semicolon w ∷ [])
entry AnItem w k.Generate = Some (T k.Generate w ∷ N GenerateItems w ∷ T k.EndGenerate w ∷ [])
entry AnItem w _ = Some (N AGenerateItem w ∷ [])
entry AShape w _ = Some (N OptionalSigned w ∷ N OptionalRange w ∷ [])
entry OptionalSigned w k.Signed = Some (T k.Signed w ∷ [])
entry OptionalSigned w _ = Some []
entry OptionalRange w k.LeftBracket = Some (N ARange w ∷ [])
entry OptionalRange w _ = Some []
entry OptionalWire w k.Wire = Some (T k.Wire w ∷ [])
entry OptionalWire w _ = Some []
entry OptionalNet w k.Wire = Some (T k.Wire w ∷ [])
entry OptionalNet w k.Reg = Some (T k.Reg w ∷ [])
entry OptionalNet w _ = Some []
entry Names w _ = Some (T k.Word w ∷ N MoreNames w ∷ [])
entry MoreNames w k.Comma = Some (T k.Comma w ∷ T k.Word w ∷ N MoreNames w ∷ [])
entry MoreNames w _ = Some []
entry AVariable w _ = Some (T k.Word w ∷ N OptionalValue w ∷ [])
entry OptionalValue w k.Equal = Some (T k.Equal w ∷ N AnExpression w ∷ [])
entry OptionalValue w _ = Some []
entry Variables w _ = Some (N AVariable w ∷ N MoreVariables w ∷ [])
entry MoreVariables w k.Comma = Some (T k.Comma w ∷ N AVariable w ∷ N MoreVariables w ∷ [])
entry MoreVariables w _ = Some []
entry AParameter w _ = Some (T k.Word w ∷ T k.Equal w ∷ N AnExpression w ∷ [])
entry Parameters w _ = Some (N AParameter w ∷ N MoreParameters w ∷ [])
entry MoreParameters w k.Comma = Some (T k.Comma w ∷ N AParameter w ∷ N MoreParameters w ∷ [])
entry MoreParameters w _ = Some []
entry GenerateItems w kind = where_begun (begins_generate_item kind) (N AGenerateItem w ∷ N GenerateItems w ∷ [])
entry AGenerateItem w k.For = Some (N ALoop w ∷ [])
entry AGenerateItem w k.If = Some (N ABranch w ∷ N OtherBranches w ∷ [])
entry AGenerateItem w _ = Some (N APlainItem w ∷ [])
entry ALoop w _ = Some (T k.For w ∷ T k.LeftParen w ∷ N ALoopHead (w + 1) ∷ T k.RightParen (w + 1) ∷ N ABlock w ∷ [])
entry ALoopHead w _ = Some (N AParameter w ∷ T k.Semicolon w ∷ N AnExpression w ∷ T k.Semicolon w ∷ N AParameter w ∷ [])
entry APlainItem w k.Wire = Some (T k.Wire w ∷ N AShape w ∷ N Variables w ∷ T k.Semicolon w ∷ [])
entry APlainItem w k.Reg = Some (T k.Reg w ∷ N AShape w ∷ N Variables w ∷ T k.Semicolon w ∷ [])
entry APlainItem w k.LocalParam = Some (T k.LocalParam w ∷ N AShape w ∷ N Parameters w ∷ T k.Semicolon w ∷ [])
entry APlainItem w k.Genvar = Some (T k.Genvar w ∷ N Names w ∷ T k.Semicolon w ∷ [])
entry APlainItem w k.Assign = Some (T k.Assign w ∷ N Assignments w ∷ T k.Semicolon w ∷ [])
entry APlainItem w k.Always = Some (T k.Always w ∷ T k.AtSign w ∷ N AnEvent w ∷ [])
entry APlainItem w k.Word = Some (T k.Word w ∷ N Overrides w ∷ N Instances w ∷ T k.Semicolon w ∷ [])
entry APlainItem w _ = None
entry Assignments w _ = Some (N AContinuous w ∷ N MoreAssignments w ∷ [])
entry MoreAssignments w k.Comma = Some (T k.Comma w ∷ N AContinuous w ∷ N MoreAssignments w ∷ [])
entry MoreAssignments w _ = Some []
entry AContinuous w _ = Some (N ATarget w ∷ T k.Equal w ∷ N AnExpression w ∷ [])
entry AnEvent w k.Star = Some (T k.Star w ∷ N (AStatement Blocking) w ∷ [])
entry AnEvent w k.LeftParen = Some (T k.LeftParen w ∷ N Trigger w ∷ [])
entry AnEvent w _ = None
entry Trigger w k.Star = Some (T k.Star (w + 1) ∷ T k.RightParen (w + 1) ∷ N (AStatement Blocking) w ∷ [])
entry Trigger w k.Posedge = Some (T k.Posedge (w + 1) ∷ T k.Word (w + 1) ∷ N EdgeEnd (w + 1) ∷ N (AStatement Nonblocking) w ∷ [])
entry Trigger w _ = None
entry EdgeEnd w k.RightParen = Some (T k.RightParen w ∷ [])
entry EdgeEnd w _ = None
entry Overrides w k.Hash = Some (T k.Hash w ∷ T k.LeftParen w ∷ N AConnections (w + 1) ∷ T k.RightParen (w + 1) ∷ [])
entry Overrides w _ = Some []
entry Instances w _ = Some (N AnInstance w ∷ N MoreInstances w ∷ [])
entry MoreInstances w k.Comma = Some (T k.Comma w ∷ N AnInstance w ∷ N MoreInstances w ∷ [])
entry MoreInstances w _ = Some []
entry AnInstance w _ = Some (T k.Word w ∷ T k.LeftParen w ∷ N AConnections (w + 1) ∷ T k.RightParen (w + 1) ∷ [])
entry AConnections w k.Dot = Some (N ANamedConnection w ∷ N MoreNamed w ∷ [])
entry AConnections w _ = Some (N AnOrdered w ∷ N MoreOrdered w ∷ [])
entry ANamedConnection w _ = Some (T k.Dot w ∷ T k.Word w ∷ T k.LeftParen w ∷ N OptionalExpression (w + 1) ∷ T k.RightParen (w + 1) ∷ [])
entry MoreNamed w k.Comma = Some (T k.Comma w ∷ N ANamedConnection w ∷ N MoreNamed w ∷ [])
entry MoreNamed w _ = Some []
entry MoreOrdered w k.Comma = Some (T k.Comma w ∷ N AnOrdered w ∷ N MoreOrdered w ∷ [])
entry MoreOrdered w _ = Some []
entry AnOrdered w _ = Some (N OptionalExpression w ∷ [])
entry OptionalExpression w kind = where_begun (begins_expression kind) (N AnExpression w ∷ [])
entry ABlock w _ = Some (T k.Begin w ∷ T k.Colon (w + 1) ∷ T k.Word (w + 1) ∷ N GenerateItems (w + 1) ∷ T k.BlockEnd (w + 1) ∷ [])
entry ABranch w _ = Some (T k.If w ∷ T k.LeftParen w ∷ N AnExpression (w + 1) ∷ T k.RightParen (w + 1) ∷ N ABlock w ∷ [])
entry OtherBranches w k.Else = Some (T k.Else w ∷ N LastBranch w ∷ [])
entry OtherBranches w _ = Some []
entry LastBranch w k.If = Some (N ABranch w ∷ N OtherBranches w ∷ [])
entry LastBranch w _ = Some (N AnOtherwise w ∷ [])
entry AnOtherwise w _ = Some (N ABlock w ∷ [])
entry (AStatement sign) w k.Begin = Some (T k.Begin w ∷ N OptionalLabel (w + 1) ∷ N (Statements sign) (w + 1) ∷ T k.BlockEnd (w + 1) ∷ [])
entry (AStatement sign) w k.If = Some (T k.If w ∷ N (AnIf sign) (w + 1) ∷ [])
entry (AStatement sign) w k.Case = Some (T k.Case w ∷ N (ACase sign Case) (w + 1) ∷ [])
entry (AStatement sign) w k.Casez = Some (T k.Casez w ∷ N (ACase sign Casez) (w + 1) ∷ [])
entry (AStatement sign) w k.Semicolon = Some (T k.Semicolon w ∷ [])
entry (AStatement sign) w k.Word = Some (T k.Word w ∷ N ASelect (w + 1) ∷ N (AnAssignment sign) (w + 1) ∷ [])
entry (AStatement sign) w k.LeftBrace = Some (T k.LeftBrace w ∷ N Braces (w + 2) ∷ N (AnAssignment sign) (w + 1) ∷ [])
entry (AStatement sign) w _ = None
entry (AnIf sign) w _ = Some (T k.LeftParen w ∷ N AnExpression (w + 1) ∷ T k.RightParen (w + 1) ∷ N (AStatement sign) w ∷ N (Alternative sign) w ∷ [])
entry (ACase sign which) w _ = Some (T k.LeftParen w ∷ N AnExpression (w + 1) ∷ T k.RightParen (w + 1) ∷ N (AnArm sign which) w ∷ N (MoreArms sign which) w ∷ T k.EndCase w ∷ [])
entry (Statements sign) w kind = where_begun (begins_statement kind) (N (AStatement sign) w ∷ N (Statements sign) w ∷ [])
entry (Alternative sign) w k.Else = Some (T k.Else w ∷ N (AStatement sign) w ∷ [])
entry (Alternative sign) w _ = Some []
entry (AnAssignment sign) w _ = Some (N (ASign sign) w ∷ N AnExpression w ∷ T k.Semicolon w ∷ [])
entry (ASign Blocking) w k.Equal = Some (T k.Equal w ∷ [])
entry (ASign Blocking) w _ = None
entry (ASign Nonblocking) w k.LessEqual = Some (T k.LessEqual w ∷ [])
entry (ASign Nonblocking) w _ = None
entry OptionalLabel w k.Colon = Some (T k.Colon w ∷ T k.Word w ∷ [])
entry OptionalLabel w _ = Some []
entry (AnArm sign which) w k.Default = Some (T k.Default w ∷ N OptionalColon w ∷ N (AStatement sign) w ∷ [])
entry (AnArm sign which) w _ = Some (N (ALabel which) w ∷ N (MoreLabels which) w ∷ T k.Colon w ∷ N (AStatement sign) w ∷ [])
entry (MoreArms sign which) w kind = where_begun (begins_arm which kind) (N (AnArm sign which) w ∷ N (MoreArms sign which) w ∷ [])
entry OptionalColon w k.Colon = Some (T k.Colon w ∷ [])
entry OptionalColon w _ = Some []
entry (ALabel Casez) w k.Wild = Some (T k.Wild w ∷ [])
entry (ALabel Casez) w _ = Some (N AnExpression w ∷ [])
entry (ALabel Case) w _ = Some (N AnExpression w ∷ [])
entry (MoreLabels which) w k.Comma = Some (T k.Comma w ∷ N (ALabel which) w ∷ N (MoreLabels which) w ∷ [])
entry (MoreLabels which) w _ = Some []
entry ATarget w k.Word = Some (T k.Word w ∷ N ASelect w ∷ [])
entry ATarget w k.LeftBrace = Some (T k.LeftBrace w ∷ N Braces (w + 1) ∷ [])
entry ATarget w _ = None
entry Braces w _ = Some (N ATarget w ∷ N MoreTargets w ∷ T k.RightBrace w ∷ [])
entry MoreTargets w k.Comma = Some (T k.Comma w ∷ N ATarget w ∷ N MoreTargets w ∷ [])
entry MoreTargets w _ = Some []
entry AnExpression w _ = Some (N Operand w ∷ N Tail w ∷ [])
entry Tail w kind = tail_at w kind (binary_operator kind)
entry Operand w kind = operand_at w kind (unary_operator kind)
entry ASelect w k.LeftBracket = Some (T k.LeftBracket w ∷ N AnExpression (w + 1) ∷ N Part (w + 1) ∷ T k.RightBracket (w + 1) ∷ N AfterSelect w ∷ [])
entry ASelect w k.Dot = None
entry ASelect w _ = Some []
entry Part w k.Colon = Some (T k.Colon w ∷ N AnExpression w ∷ [])
entry Part w k.PlusColon = Some (T k.PlusColon w ∷ N AnExpression w ∷ [])
entry Part w k.MinusColon = Some (T k.MinusColon w ∷ N AnExpression w ∷ [])
entry Part w _ = Some []
entry AfterSelect w k.Dot = None
entry AfterSelect w _ = Some []
entry Braced w k.LeftBrace = Some (T k.LeftBrace w ∷ N AnExpression (w + 1) ∷ N More (w + 1) ∷ T k.RightBrace (w + 1) ∷ T k.RightBrace w ∷ [])
entry Braced w _ = Some (N More w ∷ T k.RightBrace w ∷ [])
entry More w k.Comma = Some (T k.Comma w ∷ N AnExpression w ∷ N More w ∷ [])
entry More w _ = Some []
entry ARange w _ = Some (T k.LeftBracket w ∷ N AnExpression (w + 1) ∷ T k.Colon (w + 1) ∷ N AnExpression (w + 1) ∷ T k.RightBracket (w + 1) ∷ [])

-- ---- what is outside of this language

-- reserved words and operators that the grammar doesn't use
abbrev pub is_outside : Kind → Bool
is_outside k.Reserved = true
is_outside k.Or = true
is_outside k.Hash = true
is_outside k.CaseEqual = true
is_outside k.CaseNotEqual = true
is_outside k.Power = true
is_outside k.Arrow = true
is_outside _ = false

abbrev is_dot : Kind → Bool
is_dot k.Dot = true
is_dot _ = false

abbrev is_word : Kind → Bool
is_word k.Word = true
is_word _ = false

abbrev is_comma : Kind → Bool
is_comma k.Comma = true
is_comma _ = false

abbrev is_other_sign : Sign → Kind → Bool
is_other_sign Blocking k.LessEqual = true
is_other_sign Nonblocking k.Equal = true
is_other_sign _ _ = false

-- tokens that the language of the standard has in the place of the nonterminal, and this one hasn't
abbrev pub is_outside_at : Nonterminal → Kind → Bool
is_outside_at ASelect kind = is_dot kind
is_outside_at AfterSelect kind = is_dot kind
is_outside_at Trigger kind = is_word kind
is_outside_at EdgeEnd kind = is_comma kind
is_outside_at (ASign sign) kind = is_other_sign sign kind
is_outside_at _ kind = false
