-- Files under their names, in a map of the code.
use Rattle.std.proofs.Common.{◌≡◌, ℕ, Bool, true, false, ◌==◌, cond, List, [], ◌∷◌, refl, sym, ◌∙◌, ap}
use Rattle.std.proofs.lemmas.Bool.{eqb-true}
use Rattle.indexmap.specs.IndexMap.{insert_entry}
use Rattle.ls_text.specs.declared.name_id.NameId.{NameId}
use Rattle.ls_text.specs.declared.source_file.SourceFile.{SourceFile}
use Rattle.version_swap.specs.Files.{with_file}
use Rattle.version_swap.specs.FileViews.{file_of, files_of}

abbrev pub Entries : Type 0
Entries = List (NameId × List ℕ)

chosen : (b : Bool) (xs ys : Entries) (us vs : List SourceFile) → (b ≡ true → files_of xs ≡ us) → files_of ys ≡ vs
    → files_of (cond b xs ys) ≡ cond b us vs
chosen true xs ys us vs one other = one refl
chosen false xs ys us vs one other = other

-- a file that is put under its name
pub put_file : (E : NameId → NameId → Bool) → ((x y : NameId) → E x y ≡ (x.0 == y.0)) → (es : Entries) (file : SourceFile)
    → files_of (insert_entry E es file.name file.text) ≡ with_file (files_of es) file
put_file E same [] file = refl
put_file E same (e ∷ es) file =
    ap (λ (b : Bool). files_of (cond b ((e.0, file.text) ∷ es) (e ∷ insert_entry E es file.name file.text))) (same file.name e.0)
    ∙ chosen (file.name.0 == e.0.0) ((e.0, file.text) ∷ es) (e ∷ insert_entry E es file.name file.text) (file ∷ files_of es)
    (file_of e ∷ with_file (files_of es) file)
    (λ is. ap (λ (n : ℕ). the_file n ∷ files_of es) (sym (eqb-true file.name.0 e.0.0 is)))
    (ap (λ (fs : List SourceFile). file_of e ∷ fs) (put_file E same es file))
  where
    the_file : ℕ → SourceFile
    the_file n = record { name = record { 0 = n }; text = file.text }
