-- What holds of the files before an edit and of those that it gives and loads holds of the files behind it.
use Rattle.std.proofs.Common.{◌≡◌, ℕ, ◌≤◌, ◌==◌, Bool, true, false, cond, List, [], ◌∷◌, ◌++◌, All, take, drop, length}
use Rattle.std.proofs.lemmas.List.Elements.{All-nil, All-cons, All-head, All-tail, All-append, All-take, All-drop}
use Rattle.ls_text.specs.declared.source_file.SourceFile.{SourceFile}
use Rattle.command_read.specs.declared.file_line.FileLine.{FileLine}
use Rattle.command_read.specs.declared.load_line.LoadLine.{LoadLine}
use Rattle.version_swap.specs.Files.{before, in_line_order, with_file, with_files, files_behind}

module _ (P : SourceFile → Type 0) where
  abbrev IsGiven : FileLine → Type 0
  IsGiven given = P given.file

  either : (b : Bool) (xs ys : List SourceFile) → All P xs → All P ys → All P (cond b xs ys)
  either true xs ys one other = one
  either false xs ys one other = other

  with_one : (xs : List SourceFile) (file : SourceFile) → All P xs → P file → All P (with_file xs file)
  with_one [] file all is = All-cons P file [] is (All-nil P)
  with_one (x ∷ xs) file all is =
      either (file.name.0 == x.name.0) (file ∷ xs) (x ∷ with_file xs file) (All-cons P file xs is (All-tail P x xs all))
      (All-cons P x (with_file xs file) (All-head P x xs all) (with_one xs file (All-tail P x xs all) is))

  with_all : (xs files : List SourceFile) → All P xs → All P files → All P (with_files xs files)
  with_all xs [] all more = all
  with_all xs (file ∷ files) all more =
      with_all (with_file xs file) files (with_one xs file all (All-head P file files more)) (All-tail P file files more)

  ordered : (given : List FileLine) (loads : List LoadLine) (loaded : List SourceFile) → All IsGiven given → All P loaded
      → All P (in_line_order given loads loaded)
  ordered [] loads loaded all more = more
  ordered (g ∷ gs) loads loaded all more =
      let n = before g.line loads in
      let rest = in_line_order gs (drop n loads) (drop n loaded) in
      All-append P (take n loaded) (g.file ∷ rest) (All-take P n loaded more)
      (All-cons P g.file rest (All-head IsGiven g gs all) (ordered gs (drop n loads) (drop n loaded) (All-tail IsGiven g gs all)
      (All-drop P n loaded more)))

  pub all_behind : (files : List SourceFile) (given : List FileLine) (loads : List LoadLine) (loaded : List SourceFile) → All P files
      → All IsGiven given → All P loaded → All P (files_behind files given loads loaded)
  all_behind files given loads loaded all more others =
      with_all [] (files ++ in_line_order given loads loaded) (All-nil P)
      (All-append P files (in_line_order given loads loaded) all (ordered given loads loaded more others))

-- no text is longer than so many bytes
abbrev pub IsShort : ℕ → SourceFile → Type 0
IsShort most f = length f.text ≤ most

pub short_behind : (most : ℕ) (all files : List SourceFile) (given : List FileLine) (loads : List LoadLine) (loaded : List SourceFile)
    → all ≡ files_behind files given loads loaded → All (λ (f : SourceFile). length f.text ≤ most) files
    → All (λ (g : FileLine). length g.file.text ≤ most) given → All (λ (f : SourceFile). length f.text ≤ most) loaded
    → All (λ (f : SourceFile). length f.text ≤ most) all
short_behind most all files given loads loaded is a b c =
    rw is (all_behind (IsShort most) files given loads loaded a b c)
