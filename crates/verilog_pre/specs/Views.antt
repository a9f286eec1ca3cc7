-- What parts and items stand for, where a word that is used is a number in the table of words.
use Rattle.std.specs.Prelude.{ℕ, ◌<◌, ◌-◌, List, map, take, drop}
use Rattle.ls_text.specs.Texts.{text_at}
use Rattle.verilog_pre.specs.Parts.{Part, Text, Use, Open, Item, Read, Leave}
use Rattle.verilog_pre.specs.declared.part.Part as code
use Rattle.verilog_pre.specs.declared.part.Part.TheVariants as part
use Rattle.verilog_pre.specs.declared.item.Item as work
use Rattle.verilog_pre.specs.declared.item.Item.TheVariants as item
use Rattle.verilog_pre.specs.declared.macro_body.Macro.{Macro}
use Rattle.verilog_pre.specs.declared.macros.Macros.{Macros}
use Rattle.verilog_pre.specs.declared.nest.Nest.{Nest}

abbrev pub part_of : List (List ℕ) → code.Part → Part
part_of words (part.Text s) = Text s
part_of words (part.Use id) = Use (text_at words id.0)
part_of words part.Open = Open

abbrev pub item_of : List (List ℕ) → work.Item → Item
item_of words (item.Part p) = Read (part_of words p)
item_of words item.Leave = Leave

unfoldable pub parts_of : Macros → List Part
parts_of m = map (part_of m.words) m.parts.items

abbrev pub work_of : List (List ℕ) → Nest → List Item
work_of words nest = map (item_of words) nest.work.items

-- the items that the use of a macro puts before the work
abbrev pub body_work : List code.Part → Macro → List work.Item
body_work parts m = map item.Part (take (m.last - m.first) (drop m.first parts))

-- the number of a word that is used lies in a table of so many words
abbrev pub IsListed : ℕ → code.Part → Type 0
IsListed n (part.Text s) = Unit {0}
IsListed n (part.Use id) = id.0 < n
IsListed n part.Open = Unit {0}

abbrev pub IsListedItem : ℕ → work.Item → Type 0
IsListedItem n (item.Part p) = IsListed n p
IsListedItem n item.Leave = Unit {0}
