-- The files behind a block are the same by the numbers of their names and by the texts of these.
use Rattle.std.proofs.Common.{◌≡◌, ◌∙◌, ℕ, ◌+◌, ◌<◌, Bool, true, false, cond, ltb, eqb, List, [], ◌∷◌, ◌++◌, map, take, drop, length, All, refl, sym, ap, ap₂}
use Rattle.std.proofs.lemmas.List.{map-append, take-map, drop-map}
use Rattle.std.proofs.lemmas.List.Elements.{All-nil, All-cons, All-head, All-tail, All-append, All-take, All-drop}
use Rattle.ls_text.specs.Texts.{HasEachOnce}
use Rattle.ls_text.specs.declared.source_file.SourceFile.{SourceFile}
use Rattle.ls_text.proofs.Tables.{one_text}
use Rattle.command_read.specs.declared.file_line.FileLine.{FileLine}
use Rattle.command_read.specs.declared.load_line.LoadLine.{LoadLine}
use Rattle.command_read.specs.Spoken.{given_file, loaded_file, AreFilesWithin}
use Rattle.version_swap.specs.Files as numbered
use Rattle.live_session.specs.Files.{TextFile, text_file, loads_before, in_line_order, with_file, with_files, files_behind}

-- the names of files are among so many
abbrev pub AreSourcesWithin : ℕ → List SourceFile → Type 0
AreSourcesWithin count files = All (λ (f : SourceFile). f.name.0 < count) files

-- ---- what stays within

put_within : (count : ℕ) (xs : List SourceFile) (file : SourceFile) → AreSourcesWithin count xs → file.name.0 < count
    → AreSourcesWithin count (numbered.with_file xs file)
put_within count [] file within lt = All-cons (λ (f : SourceFile). f.name.0 < count) file [] lt within
put_within count (x ∷ xs) file within lt =
    by (eqb file.name.0 x.name.0) (put_within count xs file rest lt)
  where
    rest : AreSourcesWithin count xs
    rest = All-tail (λ (f : SourceFile). f.name.0 < count) x xs within

    by : (b : Bool) → AreSourcesWithin count (numbered.with_file xs file)
        → AreSourcesWithin count (cond b (file ∷ xs) (x ∷ numbered.with_file xs file))
    by true more = All-cons (λ (f : SourceFile). f.name.0 < count) file xs lt rest
    by false more =
        All-cons (λ (f : SourceFile). f.name.0 < count) x (numbered.with_file xs file)
        (All-head (λ (f : SourceFile). f.name.0 < count) x xs within) more

all_within : (count : ℕ) (xs files : List SourceFile) → AreSourcesWithin count xs → AreSourcesWithin count files
    → AreSourcesWithin count (numbered.with_files xs files)
all_within count xs [] within also = within
all_within count xs (file ∷ files) within also =
    all_within count (numbered.with_file xs file) files
    (put_within count xs file within (All-head (λ (f : SourceFile). f.name.0 < count) file files also))
    (All-tail (λ (f : SourceFile). f.name.0 < count) file files also)

order_within : (count : ℕ) (given : List FileLine) (loads : List LoadLine) (loaded : List SourceFile) → AreFilesWithin count given
    → AreSourcesWithin count loaded → AreSourcesWithin count (numbered.in_line_order given loads loaded)
order_within count [] loads loaded within also = also
order_within count (given ∷ more) loads loaded within also =
    let n = numbered.before given.line loads in
    All-append (λ (f : SourceFile). f.name.0 < count) (take n loaded) (given.file ∷ numbered.in_line_order more (drop n loads) (drop n loaded))
    (All-take (λ (f : SourceFile). f.name.0 < count) n loaded also)
    (All-cons (λ (f : SourceFile). f.name.0 < count) given.file (numbered.in_line_order more (drop n loads) (drop n loaded))
    (All-head (λ (f : FileLine). f.file.name.0 < count) given more within)
    (order_within count more (drop n loads) (drop n loaded) (All-tail (λ (f : FileLine). f.file.name.0 < count) given more within)
    (All-drop (λ (f : SourceFile). f.name.0 < count) n loaded also)))

-- the names of the files behind a block are among so many
pub behind_within : (count : ℕ) (before : List SourceFile) (given : List FileLine) (loads : List LoadLine) (loaded : List SourceFile)
    → AreSourcesWithin count before → AreFilesWithin count given → AreSourcesWithin count loaded
    → AreSourcesWithin count (numbered.files_behind before given loads loaded)
behind_within count before given loads loaded befores within also =
    all_within count [] (before ++ numbered.in_line_order given loads loaded) (All-nil (λ (f : SourceFile). f.name.0 < count))
    (All-append (λ (f : SourceFile). f.name.0 < count) before (numbered.in_line_order given loads loaded) befores
    (order_within count given loads loaded within also))

-- ---- the same by texts

module _ (names : List (List ℕ)) where
  as_many_before : (line : ℕ) (loads : List LoadLine) → loads_before line (map (loaded_file names) loads) ≡ numbered.before line loads
  as_many_before line [] = refl
  as_many_before line (l ∷ ls) = ap (λ n. cond (ltb l.line line) (1 + n) 0) (as_many_before line ls)

  same_order : (given : List FileLine) (loads : List LoadLine) (loaded : List SourceFile)
      → map (text_file names) (numbered.in_line_order given loads loaded)
      ≡ in_line_order (map (given_file names) given) (map (loaded_file names) loads) (map (text_file names) loaded)
  same_order [] loads loaded = refl
  same_order (given ∷ more) loads loaded =
      let n = numbered.before given.line loads in
      map-append (text_file names) (take n loaded) (given.file ∷ numbered.in_line_order more (drop n loads) (drop n loaded))
      ∙ ap₂ (λ (front back : List TextFile). front ++ text_file names given.file ∷ back)
      (sym (take-map (text_file names) n loaded))
      (same_order more (drop n loads) (drop n loaded)
      ∙ ap₂ (in_line_order (map (given_file names) more)) (sym (drop-map (loaded_file names) n loads)) (sym (drop-map (text_file names) n loaded)))
      ∙ ap (λ (m : ℕ). take m (map (text_file names) loaded)
      ++ text_file names given.file
      ∷ in_line_order (map (given_file names) more) (drop m (map (loaded_file names) loads)) (drop m (map (text_file names) loaded)))
      (sym (as_many_before given.line loads))

module _ (names : List (List ℕ)) (once : HasEachOnce names) where
  same_put : (xs : List SourceFile) (file : SourceFile) → AreSourcesWithin (length names) xs → file.name.0 < length names
      → map (text_file names) (numbered.with_file xs file) ≡ with_file (map (text_file names) xs) (text_file names file)
  same_put [] file within lt = refl
  same_put (x ∷ xs) file within lt =
      by (eqb file.name.0 x.name.0) (same_put xs file (All-tail (λ (f : SourceFile). f.name.0 < length names) x xs within) lt)
      ∙ ap (λ b. cond b (text_file names file ∷ map (text_file names) xs)
      (text_file names x ∷ with_file (map (text_file names) xs) (text_file names file)))
      (sym (one_text names once file.name.0 x.name.0 lt (All-head (λ (f : SourceFile). f.name.0 < length names) x xs within)))
    where
      by : (b : Bool) → map (text_file names) (numbered.with_file xs file) ≡ with_file (map (text_file names) xs) (text_file names file)
          → map (text_file names) (cond b (file ∷ xs) (x ∷ numbered.with_file xs file))
          ≡ cond b (text_file names file ∷ map (text_file names) xs) (text_file names x ∷ with_file (map (text_file names) xs) (text_file names file))
      by true rest = refl
      by false rest = ap (λ (fs : List TextFile). text_file names x ∷ fs) rest

  same_all : (xs files : List SourceFile) → AreSourcesWithin (length names) xs → AreSourcesWithin (length names) files
      → map (text_file names) (numbered.with_files xs files) ≡ with_files (map (text_file names) xs) (map (text_file names) files)
  same_all xs [] within also = refl
  same_all xs (file ∷ files) within also =
      let lt = All-head (λ (f : SourceFile). f.name.0 < length names) file files also in
      same_all (numbered.with_file xs file) files (put_within (length names) xs file within lt)
      (All-tail (λ (f : SourceFile). f.name.0 < length names) file files also)
      ∙ ap (λ (fs : List TextFile). with_files fs (map (text_file names) files)) (same_put xs file within lt)

  pub files_spoken : (before : List SourceFile) (given : List FileLine) (loads : List LoadLine) (loaded : List SourceFile)
      → AreSourcesWithin (length names) before → AreFilesWithin (length names) given → AreSourcesWithin (length names) loaded
      → map (text_file names) (numbered.files_behind before given loads loaded)
      ≡ files_behind (map (text_file names) before) (map (given_file names) given) (map (loaded_file names) loads) (map (text_file names) loaded)
  files_spoken before given loads loaded befores within also =
      same_all [] (before ++ numbered.in_line_order given loads loaded) (All-nil (λ (f : SourceFile). f.name.0 < length names))
      (All-append (λ (f : SourceFile). f.name.0 < length names) before (numbered.in_line_order given loads loaded) befores
      (order_within (length names) given loads loaded within also))
      ∙ ap (with_files [])
      (map-append (text_file names) before (numbered.in_line_order given loads loaded)
      ∙ ap (λ (fs : List TextFile). map (text_file names) before ++ fs) (same_order names given loads loaded))
