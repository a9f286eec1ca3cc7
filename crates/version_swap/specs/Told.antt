-- Jobs whose key text tells their parts: names are words of the table, so that spaces and line ends stand only between words.
use Rattle.std.specs.Prelude.{◌≡◌, ⊤, ℕ, ◌==◌, ◌<◌, ◌≤◌, ◌^◌, true, not, ◌&&◌, List, length, codes, Option, Some, None, Bool}
use Rattle.std.specs.List.{All, list_all}
use Rattle.ls_text.specs.Texts.{text_at}
use Rattle.ls_text.specs.declared.name_id.NameId.{NameId}
use Rattle.verilog_lex.specs.declared.token.Token.{Token}
use Rattle.verilog_ast.specs.declared.identifier.Identifier.{Identifier}
use Rattle.verilog_ast.specs.Views.{declaration_of}
use Rattle.typed_ir.specs.declared.port_shape.PortShape.{PortShape}
use Rattle.typed_ir.specs.declared.child_shape.ChildShape.{ChildShape}
use Rattle.module_registry.specs.Constants.{constants_of}
use Rattle.module_registry.specs.declared.build_job.BuildJob.{BuildJob}

-- the byte doesn't stand in the text
abbrev pub lacks : ℕ → List ℕ → Bool
lacks byte text = list_all (λ c. not (c == byte)) text

-- neither a space nor a line end
abbrev pub is_word : List ℕ → Bool
is_word text = lacks 32 text && lacks 10 text

-- a number of the table whose text is a word
pub record IsNamed (names : List (List ℕ)) (id : NameId) : Type 0 where
  pub within : id.0 < length names
  pub word : is_word (text_at names id.0) ≡ true

abbrev pub IsPortTold : List (List ℕ) → PortShape → Type 0
IsPortTold names p = IsNamed names p.name

-- no clock is called `-`
abbrev pub IsClockTold : List (List ℕ) → Option NameId → Type 0
IsClockTold names None = ⊤
IsClockTold names (Some n) = IsNamed names n × (text_at names n.0 ≡ codes "-" → ⊥)

pub record IsChildTold (names : List (List ℕ)) (c : ChildShape) : Type 0 where
  pub instance : IsNamed names c.instance
  pub clock : IsClockTold names c.clock
  pub ports : All (IsPortTold names) c.ports

-- the text of a constant's name is a word, whether it is in the table or not
abbrev pub IsConstantTold : List (List ℕ) → Identifier → Type 0
IsConstantTold names n = is_word (text_at names n.name.0) ≡ true

pub record IsTold (names : List (List ℕ)) (job : BuildJob) : Type 0 where
  pub spelling : lacks 10 job.module.value.spelling ≡ true
  pub constants : All (IsConstantTold names) (constants_of (declaration_of job.module.value.body))
  -- no value is left out
  pub values : length job.parameters ≤ length (constants_of (declaration_of job.module.value.body))
  pub clock : IsClockTold names job.clock
  pub children : All (IsChildTold names) job.children

-- a token whose text has no line end
pub record IsTokenTold (names : List (List ℕ)) (t : Token) : Type 0 where
  pub size : t.literal.size < 2 ^ 64
  pub text : lacks 10 (text_at names t.text.0) ≡ true

-- one spelling, the same values, the same clock and the same instances
pub record HasSameParts (a b : BuildJob) : Type 0 where
  pub spelling : a.module.value.spelling ≡ b.module.value.spelling
  pub parameters : a.parameters ≡ b.parameters
  pub clock : a.clock ≡ b.clock
  pub children : a.children ≡ b.children
