-- The line of a fault in the files of a block.
use Rattle.std.proofs.Common.{◌≡◌, ℕ, zero, suc, Bool, cond, List, [], ◌∷◌, ◌++◌, map, length, refl, sym, ap, ◌∙◌}
use Rattle.std.proofs.Math.Dec.{eqb-suc-zero}
use Rattle.std.proofs.lemmas.List.Folds.{flat_map-map}
use Rattle.std.specs.Prelude.{codes, decimal, slice_get, slice_index_or}
use Rattle.std.specs.List.{flat_map}
use Rattle.ls_text.specs.Texts.{text_at}
use Rattle.ls_text.specs.Faults.{code_name, file_text, fault_text, names_text, place_text}
use Rattle.ls_text.specs.declared.name_id.NameId.{NameId}
use Rattle.ls_text.specs.declared.source_file.SourceFile.{SourceFile}
use Rattle.ls_text.specs.declared.at.At.{At}
use Rattle.ls_text.specs.declared.at.At.TheVariants.{Text, Line, Edit}
use Rattle.ls_text.specs.declared.fault.Fault.{Fault}
use Rattle.ls_text.specs.Readings.{fault_view}
use Rattle.live_session.specs.Files.{TextFile, text_file}
use Rattle.live_session.specs.Replies.{refusal_text, shown_names, where_text}
use Rattle.live_session.specs.Worlds.{refused_text, where_of}

file_shown : (names : List (List ℕ)) (files : List SourceFile) (n : ℕ)
    → file_text names (slice_get files n) ≡ slice_index_or (map (λ (f : TextFile). f.name) (map (text_file names) files)) n []
file_shown names [] n = refl
file_shown names (f ∷ files) zero = refl
file_shown names (f ∷ files) (suc n) = file_shown names files n

place_shown : (names : List (List ℕ)) (files : List SourceFile) (line : ℕ) (at : At)
    → place_text names files line at ≡ where_text (where_of (map (text_file names) files) line at)
place_shown names files line (Text p) = ap (λ file. file ++ (58 ∷ decimal p.line) ++ (58 ∷ decimal p.col)) (file_shown names files p.file)
place_shown names files line (Line n) = refl
place_shown names files line Edit = refl

names_shown : (names : List (List ℕ)) (ids : List NameId) → names_text names ids ≡ shown_names (map (λ (id : NameId). text_at names id.0) ids)
names_shown names [] = refl
names_shown names (id ∷ ids) =
    let front = flat_map (λ (id : NameId). 32 ∷ text_at names id.0) (id ∷ ids) in
    let back = flat_map (λ (name : List ℕ). 32 ∷ name) (map (λ (id : NameId). text_at names id.0) (id ∷ ids)) in
    ap (λ (b : Bool). cond b (codes " -") front) (eqb-suc-zero (length ids))
    ∙ sym (flat_map-map (λ (name : List ℕ). 32 ∷ name) (λ (id : NameId). text_at names id.0) (id ∷ ids))
    ∙ ap (λ (b : Bool). cond b (codes " -") back) (sym (eqb-suc-zero (length (map (λ (id : NameId). text_at names id.0) ids))))

pub fault_shown : (names : List (List ℕ)) (files : List SourceFile) (line : ℕ) (f : Fault)
    → fault_text names files line f.code f.at f.names ≡ refusal_text (refused_text (map (text_file names) files) line (fault_view names f))
fault_shown names files line f =
    ap (λ place. codes "refused " ++ decimal f.code ++ codes " " ++ code_name f.code ++ codes " " ++ place ++ names_text names f.names ++ (10 ∷ []))
    (place_shown names files line f.at)
    ∙ ap (λ shown. codes "refused " ++ decimal f.code ++ codes " " ++ code_name f.code ++ codes " "
    ++ where_text (where_of (map (text_file names) files) line f.at) ++ shown ++ (10 ∷ [])) (names_shown names f.names)
