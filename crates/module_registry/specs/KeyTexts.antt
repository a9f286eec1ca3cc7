-- The text of what a unit is built from: the module's spelling, and lines of what its text doesn't say.
use Rattle.std.specs.Prelude.{Bool, if◌then◌else◌, ℕ, List, [], ◌∷◌, ◌++◌, codes, decimal, Option, Some, None}
use Rattle.std.specs.List.{flat_map}
use Rattle.ls_text.specs.Texts.{text_at}
use Rattle.ls_text.specs.declared.name_id.NameId.{NameId}
use Rattle.verilog_ast.specs.declared.identifier.Identifier.{Identifier}
use Rattle.typed_ir.specs.declared.constant.Const.{Const}
use Rattle.typed_ir.specs.declared.port_shape.PortShape.{PortShape}
use Rattle.typed_ir.specs.declared.child_shape.ChildShape.{ChildShape}
use Rattle.verilog_spelling.specs.Spellings.{hex_text}

abbrev pub line_end : List ℕ
line_end = 10 ∷ []

-- ` u`, or ` s` for what is signed
abbrev pub sign_text : Bool → List ℕ
sign_text signed = if signed then codes " s" else codes " u"

-- ` WIDTH u`
abbrev pub shape_text : ℕ → Bool → List ℕ
shape_text width signed = codes " " ++ decimal width ++ sign_text signed

-- `param NAME WIDTH u HEX`
abbrev pub parameter_line : List (List ℕ) → Identifier → Const → List ℕ
parameter_line names n c =
    codes "param " ++ text_at names n.name.0 ++ shape_text c.bits.width c.signed ++ codes " " ++ hex_text c.bits.value ++ line_end

-- as many lines as there are names and values
abbrev pub parameter_lines : List (List ℕ) → List Identifier → List Const → List ℕ
parameter_lines names [] cs = []
parameter_lines names (n ∷ ns) [] = []
parameter_lines names (n ∷ ns) (c ∷ cs) = parameter_line names n c ++ parameter_lines names ns cs

-- `-` where there is none
abbrev pub clock_text : List (List ℕ) → Option NameId → List ℕ
clock_text names None = codes "-"
clock_text names (Some n) = text_at names n.0

abbrev pub clock_line : List (List ℕ) → Option NameId → List ℕ
clock_line names clock = codes "clock " ++ clock_text names clock ++ line_end

-- `in NAME WIDTH u`, or `out NAME WIDTH u`
abbrev pub port_line : List (List ℕ) → PortShape → List ℕ
port_line names p =
    (if p.input then codes "in " else codes "out ") ++ text_at names p.name.0 ++ shape_text p.width p.signed ++ line_end

-- `child INSTANCE CLOCK`, and then its ports
abbrev pub child_lines : List (List ℕ) → ChildShape → List ℕ
child_lines names c =
    codes "child " ++ text_at names c.instance.0 ++ codes " " ++ clock_text names c.clock ++ line_end ++ flat_map (port_line names) c.ports

abbrev pub key_text : List (List ℕ) → List ℕ → List Identifier → List Const → Option NameId → List ChildShape → List ℕ
key_text names spelling constants values clock children =
    spelling ++ line_end ++ parameter_lines names constants values ++ clock_line names clock ++ flat_map (child_lines names) children
