-- What a script asks for, with the texts of names.
use Rattle.std.specs.Prelude.{ℕ, List, [], ◌∷◌, Option, Some, None, Result, Ok, Err}
use Rattle.ls_text.specs.Readings.{TextFault}
use Rattle.ls_text.specs.declared.at.At.TheVariants.{Line}
use Rattle.reg_ops.specs.Operations.{Operation}

-- a file that a block gives, and the line of its `file`
pub record GivenFile : Type 0 where
  pub line : ℕ
  pub name : List ℕ
  pub text : List ℕ

-- a file that a block loads, and the line of its `load`
pub record LoadedFile : Type 0 where
  pub line : ℕ
  pub name : List ℕ

-- an operation of a block, and its line
pub record LineOperation : Type 0 where
  pub line : ℕ
  pub op : Operation

-- a block: the line of `edit`, what it names anew, and in line order what it gives, loads and does to registers
pub record Block : Type 0 where
  pub line : ℕ
  pub top : Option (List ℕ)
  pub clock : Option (List ℕ)
  pub files : List GivenFile
  pub loads : List LoadedFile
  pub ops : List LineOperation

-- a command with its line
pub data Asked : Type 0 where
  Edits : (block : Block) → Asked
  Sets : (line : ℕ) (values : List (List ℕ × ℕ)) → Asked
  Runs : (line n : ℕ) → Asked
  Shows : (line : ℕ) (prefix : List ℕ) → Asked
  -- with as many passes as there are links, where none are said
  Settles : (line : ℕ) (passes : Option ℕ) → Asked
  AsksStatus : (line : ℕ) → Asked
  Quits : (line : ℕ) → Asked

-- a fault of a script's line: its code, and the words that it shows
abbrev pub fault_on : (code line : ℕ) → List (List ℕ) → TextFault
fault_on code line shown = record { code = code; at = Line line; words = shown }

-- 60: an unknown word, which is shown, or a wrong number of words
abbrev pub bad_command : {A : Type 0} → (line : ℕ) → (shown : List (List ℕ)) → Result A TextFault
bad_command line shown = Err (fault_on 60 line shown)

-- 61: a value that isn't of its form
abbrev pub bad_value : {A : Type 0} → (line : ℕ) → (shown : List ℕ) → Result A TextFault
bad_value line shown = Err (fault_on 61 line (shown ∷ []))

-- a value of its form, or 61
abbrev pub of_form : {A : Type 0} → (line : ℕ) → (shown : List ℕ) → Option A → Result A TextFault
of_form line shown None = bad_value line shown
of_form line shown (Some x) = Ok x

-- as many words as are wanted, or 60
abbrev pub of_number : {A : Type 0} → (line : ℕ) → Option A → Result A TextFault
of_number line None = bad_command line []
of_number line (Some x) = Ok x
