-- Files that an edit gives and loads, one step after the other.
use Rattle.std.proofs.Common.{◌≡◌, ℕ, List, [], ◌∷◌, ◌++◌, take, drop, refl, sym, ap, ap₂, ◌∙◌}
use Rattle.ls_text.specs.declared.source_file.SourceFile.{SourceFile}
use Rattle.command_read.specs.declared.file_line.FileLine.{FileLine}
use Rattle.command_read.specs.declared.load_line.LoadLine.{LoadLine}
use Rattle.version_swap.specs.Files.{before, in_line_order, with_file, with_files, files_behind}

pub with_files_more : (xs files more : List SourceFile) → with_files (with_files xs files) more ≡ with_files xs (files ++ more)
with_files_more xs [] more = refl
with_files_more xs (file ∷ files) more = with_files_more (with_file xs file) files more

-- the loads before a line and then the file of that line
pub one_given : (start middle end whole : List SourceFile) (g : FileLine) (all rest : List FileLine) (lines left : List LoadLine)
    (texts earlier later : List SourceFile) (n : ℕ) → all ≡ g ∷ rest → n ≡ before g.line lines → earlier ≡ take n texts → later ≡ drop n texts
    → left ≡ drop n lines → middle ≡ with_files start earlier → end ≡ with_file middle g.file
    → with_files start (in_line_order all lines texts) ≡ whole
    → with_files end (in_line_order rest left later) ≡ whole
one_given start middle end whole g all rest lines left texts earlier later n all_is n_is earlier_is later_is left_is middle_is end_is so_far =
    ap (λ (fs : List SourceFile). with_files fs (in_line_order rest left later))
    (end_is ∙ ap (λ (fs : List SourceFile). with_file fs g.file) middle_is)
    ∙ with_files_more start earlier (g.file ∷ in_line_order rest left later)
    ∙ ap (with_files start)
    (ap₂ (λ (a r : List SourceFile). a ++ g.file ∷ r) (earlier_is ∙ ap (λ (k : ℕ). take k texts) n_is)
    (ap₂ (in_line_order rest) (left_is ∙ ap (λ (k : ℕ). drop k lines) n_is) (later_is ∙ ap (λ (k : ℕ). drop k texts) n_is))
    ∙ sym (ap (λ (gs : List FileLine). in_line_order gs lines texts) all_is))
    ∙ so_far

-- all files
pub all_given : (start middle end before : List SourceFile) (given : List FileLine) (loads : List LoadLine) (loaded : List SourceFile)
    → start ≡ [] → middle ≡ with_files start before → end ≡ with_files middle (in_line_order given loads loaded)
    → end ≡ files_behind before given loads loaded
all_given start middle end before given loads loaded start_is middle_is end_is =
    end_is ∙ ap (λ (fs : List SourceFile). with_files fs (in_line_order given loads loaded))
    (middle_is ∙ ap (λ (fs : List SourceFile). with_files fs before) start_is)
    ∙ with_files_more [] before (in_line_order given loads loaded)

-- by the files before, which were handed over as a slice
pub are_behind : (all slice files : List SourceFile) (given : List FileLine) (loads : List LoadLine) (loaded : List SourceFile)
    → all ≡ files_behind slice given loads loaded → slice ≡ files → all ≡ files_behind files given loads loaded
are_behind all slice files given loads loaded is same = is ∙ ap (λ (fs : List SourceFile). files_behind fs given loads loaded) same
