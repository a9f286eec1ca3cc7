-- When two plans are one, whatever tables of names they are read with: their texts are the same, and all that has numbers but those of names.
use Rattle.std.specs.Prelude.{◌≡◌, ◌<◌, ⊤, ℕ, List, [], ◌∷◌, length, map, Option, Some, None, Result, Ok, Err}
use Rattle.ls_text.specs.declared.name_id.NameId.{NameId}
use Rattle.ls_text.specs.declared.source_file.SourceFile.{SourceFile}
use Rattle.ls_text.specs.Readings.{TextFault}
use Rattle.ls_text.specs.Texts.{text_at}
use Rattle.typed_ir.specs.Cycles.{Signal}
use Rattle.version_swap.specs.Plans.{DesignOfTexts}

-- the text of a file, whatever the file is called
abbrev pub file_text : SourceFile → List ℕ
file_text file = file.text

-- a signal without its names
abbrev pub nameless : Signal → Signal
nameless x = record x { in_module = 0; path = [] }

-- what a signal is called, and the module that declares it
abbrev pub path_texts : (names : List (List ℕ)) → Signal → List (List ℕ)
path_texts names x = map (text_at names) x.path

-- the text of the last of these names
abbrev pub last_text : (names : List (List ℕ)) → List ℕ → List ℕ
last_text names [] = []
last_text names (n ∷ []) = text_at names n
last_text names (n ∷ m ∷ ns) = last_text names (m ∷ ns)

-- what a signal is called within its instance
abbrev pub own_text : (names : List (List ℕ)) → Signal → List ℕ
own_text names x = last_text names x.path

abbrev pub module_text : (names : List (List ℕ)) → Signal → List ℕ
module_text names x = text_at names x.in_module

-- two designs that are one but for the numbers of their names
pub record IsSameDesign (names others : List (List ℕ)) (d e : DesignOfTexts) : Type 0 where
  pub keys : d.keys ≡ e.keys
  pub signals : map nameless d.design.signals ≡ map nameless e.design.signals
  pub paths : map (path_texts names) d.design.signals ≡ map (path_texts others) e.design.signals
  pub own : map (own_text names) d.design.signals ≡ map (own_text others) e.design.signals
  pub modules : map (module_text names) d.design.signals ≡ map (module_text others) e.design.signals
  pub registers : d.design.registers ≡ e.design.registers
  pub inputs : d.design.inputs ≡ e.design.inputs
  pub nodes : d.design.nodes ≡ e.design.nodes
  pub clocked : d.design.clocked ≡ e.design.clocked

-- one design, or one fault
abbrev pub IsSamePlan : (names others : List (List ℕ)) → Result DesignOfTexts TextFault → Result DesignOfTexts TextFault → Type 0
IsSamePlan names others (Ok d) (Ok e) = IsSameDesign names others d e
IsSamePlan names others (Ok d) (Err g) = ⊥
IsSamePlan names others (Err f) (Ok e) = ⊥
IsSamePlan names others (Err f) (Err g) = f ≡ g

-- ---- names of two tables that have one text

pub record IsSameName (names others : List (List ℕ)) (m n : NameId) : Type 0 where
  pub here : m.0 < length names
  pub there : n.0 < length others
  pub text : text_at names m.0 ≡ text_at others n.0

-- no top is named, or one of one text
abbrev pub IsSameTop : (names others : List (List ℕ)) → Option NameId → Option NameId → Type 0
IsSameTop names others None None = ⊤
IsSameTop names others None (Some n) = ⊥
IsSameTop names others (Some m) None = ⊥
IsSameTop names others (Some m) (Some n) = IsSameName names others m n
