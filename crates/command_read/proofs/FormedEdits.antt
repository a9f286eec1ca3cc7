-- What an edit in code has whose meaning is of its form.
use Rattle.std.proofs.Common.{ℕ, ◌≤◌, List, [], ◌∷◌, length, map}
use Rattle.std.specs.List.{All}
use Rattle.std.proofs.lemmas.List.Elements.{All-nil, All-cons, All-head, All-tail}
use Rattle.command_read.specs.declared.edit.Edit.{Edit as EditBlock}
use Rattle.command_read.specs.declared.file_line.FileLine.{FileLine}
use Rattle.command_read.specs.declared.command.Command.TheVariants.{Edit}
use Rattle.command_read.specs.Asking.{GivenFile}
use Rattle.command_read.specs.Spoken.{given_file, spoken}
use Rattle.command_read.specs.Formed.{IsFormed}

abbrev IsShort : GivenFile → Type 0
IsShort f = length f.text ≤ 4194304

abbrev IsShortFile : FileLine → Type 0
IsShortFile f = length f.file.text ≤ 4194304

each_short : (names : List (List ℕ)) (files : List FileLine) → All IsShort (map (given_file names) files) → All IsShortFile files
each_short names [] short = All-nil IsShortFile
each_short names (f ∷ fs) short =
    All-cons IsShortFile f fs (All-head IsShort (given_file names f) (map (given_file names) fs) short)
    (each_short names fs (All-tail IsShort (given_file names f) (map (given_file names) fs) short))

-- the texts that it gives have at most 4,194,304 bytes
pub short_texts : (names : List (List ℕ)) (e : EditBlock) → IsFormed (spoken names (Edit e)) → All (λ (f : FileLine). length f.file.text ≤ 4194304) e.files
short_texts names e formed = each_short names e.files formed
