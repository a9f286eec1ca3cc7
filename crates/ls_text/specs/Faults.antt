-- The line that shows a fault.
use Rattle.std.specs.Prelude.{ℕ, List, [], ◌∷◌, ◌++◌, ◌==◌, if◌then◌else◌, codes, decimal, slice_get, length, Option, Some, None}
use Rattle.std.specs.List.{flat_map}
use Rattle.ls_text.specs.Texts.{text_at}
use Rattle.ls_text.specs.declared.name_id.NameId.{NameId}
use Rattle.ls_text.specs.declared.source_file.SourceFile.{SourceFile}
use Rattle.ls_text.specs.declared.at.At.{At}
use Rattle.ls_text.specs.declared.at.At.TheVariants.{Text, Line, Edit}

-- the fault table: what each code is called
abbrev pub code_name : ℕ → List ℕ
code_name code =
    if code == 10 then codes "TextTooLong"
    else if code == 12 then codes "BadDirective"
    else if code == 13 then codes "BadToken"
    else if code == 14 then codes "BadNumber"
    else if code == 15 then codes "Syntax"
    else if code == 16 then codes "NestedTooDeep"
    else if code == 20 then codes "NoModule"
    else if code == 21 then codes "TwoModules"
    else if code == 22 then codes "NoTop"
    else if code == 23 then codes "RecursiveInstance"
    else if code == 24 then codes "BadParam"
    else if code == 25 then codes "NotConstant"
    else if code == 26 then codes "BadRange"
    else if code == 27 then codes "NoPort"
    else if code == 28 then codes "PortTwice"
    else if code == 29 then codes "UnknownName"
    else if code == 30 then codes "NameTwice"
    else if code == 31 then codes "TooWide"
    else if code == 32 then codes "BadSelect"
    else if code == 33 then codes "BadTarget"
    else if code == 34 then codes "MultipleDrivers"
    else if code == 35 then codes "Latch"
    else if code == 36 then codes "ReadBeforeWrite"
    else if code == 37 then codes "ClockMisuse"
    else if code == 38 then codes "NotInProfile"
    else if code == 39 then codes "CombLoop"
    else if code == 40 then codes "TooMany"
    else if code == 41 then codes "GenLimit"
    else if code == 50 then codes "OldMissing"
    else if code == 51 then codes "RenameNew"
    else if code == 52 then codes "TransformTwice"
    else if code == 53 then codes "CreateMissing"
    else if code == 54 then codes "DeleteKept"
    else if code == 55 then codes "CreateWide"
    else if code == 60 then codes "BadCommand"
    else if code == 61 then codes "BadValue"
    else if code == 62 then codes "NoDesign"
    else if code == 63 then codes "UnknownPort"
    else if code == 64 then codes "RunRange"
    else if code == 65 then codes "CycleLimit"
    else if code == 66 then codes "Unfinished"
    else if code == 67 then codes "ShelfFault"
    else if code == 68 then codes "HistoryFull"
    else if code == 69 then codes "StimulusFull"
    else codes "-"

-- `@L`, with a script line
abbrev pub line_text : ℕ → List ℕ
line_text line = 64 ∷ decimal line

-- the name of the file, where there is one
abbrev pub file_text : List (List ℕ) → Option SourceFile → List ℕ
file_text names None = []
file_text names (Some file) = text_at names file.name.0

-- where a fault is: `file:line:col`, or `@L` with a script line
abbrev pub place_text : List (List ℕ) → List SourceFile → ℕ → At → List ℕ
place_text names files edit_line (Text p) =
    file_text names (slice_get files p.file) ++ (58 ∷ decimal p.line) ++ (58 ∷ decimal p.col)
place_text names files edit_line (Line line) = line_text line
place_text names files edit_line Edit = line_text edit_line

-- each name after a space, and `-` where there is none
abbrev pub names_text : List (List ℕ) → List NameId → List ℕ
names_text names ids =
    if length ids == 0 then codes " -" else flat_map (λ (id : NameId). 32 ∷ text_at names id.0) ids

-- the line of a fault: its code and the code's name, its place, and its names
abbrev pub fault_text : List (List ℕ) → List SourceFile → ℕ → ℕ → At → List NameId → List ℕ
fault_text names files edit_line code at ids =
    codes "refused " ++ decimal code ++ codes " " ++ code_name code ++ codes " "
    ++ place_text names files edit_line at ++ names_text names ids ++ (10 ∷ [])
