-- Scripts whose commands are worked out by hand.
use Rattle.std.proofs.Common.{◌≡◌, true, false, [], ◌∷◌, Some, None, Ok, Err, refl}
use Rattle.std.specs.Prelude.{codes}
use Rattle.ls_text.specs.FileNames.{is_file_name}
use Rattle.command_read.specs.Lines.{script_lines, words}
use Rattle.command_read.specs.Values.{is_identifier, number_in, count_of, hex_of, parted_at, setting_of, shown_of}
use Rattle.command_read.specs.Asking.{Edits, Sets, Runs, Shows, Quits, fault_on}
use Rattle.command_read.specs.LineCommands.{run_command, line_command}
use Rattle.command_read.specs.Blocks.{block_entry, block_command}
use Rattle.command_read.specs.Scripts.{asks, commands}

pub lines_worked : commands (codes "run 5\n# x\nshow a") true ≡ Ok (Runs 1 5) ∷ Ok (Shows 3 (codes "a")) ∷ []
unfolding commands asks script_lines words line_command run_command count_of number_in
lines_worked = refl

pub cut_worked : commands (codes "run 5\n# x\nshow a") false ≡ Ok (Runs 1 5) ∷ []
unfolding commands asks script_lines words line_command run_command count_of number_in
cut_worked = refl

pub refused_worked : commands (codes "frob\nrun x\n") true ≡ Err (fault_on 60 1 (codes "frob" ∷ [])) ∷ Err (fault_on 61 2 (codes "x" ∷ [])) ∷ []
unfolding commands asks script_lines words line_command run_command count_of number_in
refused_worked = refl

pub values_worked : commands (codes "set d=03 e=g\nset d=1f") true ≡ Err (fault_on 61 1 (codes "e" ∷ [])) ∷ Ok (Sets 2 ((codes "d", 31) ∷ [])) ∷ []
unfolding commands asks script_lines words line_command setting_of shown_of parted_at hex_of number_in is_identifier
values_worked = refl

pub block_worked : commands (codes "edit\ntop t\nfile a\nx\r\n.\nend\nquit\nrun 1\n") true
    ≡ Ok (Edits (record { line = 1; top = Some (codes "t"); clock = None; files = (record { line = 3; name = codes "a"; text = codes "x\n" }) ∷ []; loads = []; ops = [] })) ∷ Ok (Quits 7) ∷ []
unfolding commands asks script_lines words line_command run_command count_of number_in block_command block_entry is_file_name is_identifier
block_worked = refl

pub unfinished_worked : commands (codes "edit\ntop top\n") true ≡ Err (fault_on 66 1 []) ∷ []
unfolding commands asks script_lines words line_command
unfinished_worked = refl

pub open_worked : commands (codes "edit\ntop top\n") false ≡ []
unfolding commands asks script_lines words line_command
open_worked = refl
