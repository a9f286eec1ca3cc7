-- Files come to one answer, whatever table and numbers their names have.
use Rattle.std.proofs.Common.{◌≡◌, ◌∙◌, ℕ, List, [], ◌∷◌, map, refl, sym, ap}
use Rattle.std.specs.Prelude.{Option, Some, None, Result, Ok, Err}
use Rattle.ls_text.specs.declared.name_id.NameId.{NameId}
use Rattle.ls_text.specs.declared.source_file.SourceFile.{SourceFile}
use Rattle.ls_text.specs.Readings.{TextFault}
use Rattle.version_swap.specs.OnePlan.{file_text, IsSameName, IsSameTop, IsSamePlan}
use Rattle.version_swap.specs.Plans.{DesignOfTexts}
use Rattle.version_swap.proofs.PlansAreOne.{plans_one}
use Rattle.live_session.specs.Files.{TextFile, text_file}
use Rattle.live_session.specs.Readings.{FilesRead, HasMaybe, HasText}
use Rattle.live_session.specs.Spelled.{Answer, spelled_answer}
use Rattle.live_session.proofs.SpelledAlike.{spelled_alike}

one_spelling : (names others : List (List ℕ)) (r s : Result DesignOfTexts TextFault) → IsSamePlan names others r s
    → spelled_answer names r ≡ spelled_answer others s
one_spelling names others (Ok d) (Ok e) h = ap Ok (spelled_alike names others d e h)
one_spelling names others (Ok d) (Err g) h = absurd h
one_spelling names others (Err f) (Ok e) h = absurd h
one_spelling names others (Err f) (Err g) h = ap Err h

-- the texts of files, whatever table their names are of
texts_are : (names : List (List ℕ)) (xs : List SourceFile) → map file_text xs ≡ map (λ (f : TextFile). f.text) (map (text_file names) xs)
texts_are names [] = refl
texts_are names (x ∷ xs) = ap (λ (ts : List (List ℕ)). file_text x ∷ ts) (texts_are names xs)

same_texts : (names others : List (List ℕ)) (xs ys : List SourceFile) (files : List TextFile) → map (text_file names) xs ≡ files
    → map (text_file others) ys ≡ files → map file_text xs ≡ map file_text ys
same_texts names others xs ys files one other =
    texts_are names xs ∙ ap (map (λ (f : TextFile). f.text)) (one ∙ sym other) ∙ sym (texts_are others ys)

-- two names of one text
one_name : (names others : List (List ℕ)) (m n : NameId) (text : List ℕ) → HasText names m text → HasText others n text → IsSameName names others m n
one_name names others m n text p q = record { here = p.0; there = q.0; text = p.1 ∙ sym q.1 }

one_top : (names others : List (List ℕ)) (m n : Option NameId) (text : Option (List ℕ)) → HasMaybe names m text → HasMaybe others n text
    → IsSameTop names others m n
one_top names others None None text p q = tt
one_top names others None (Some n) None p q = absurd q
one_top names others None (Some n) (Some text) p q = absurd p
one_top names others (Some m) None None p q = absurd p
one_top names others (Some m) None (Some text) p q = absurd q
one_top names others (Some m) (Some n) None p q = absurd p
one_top names others (Some m) (Some n) (Some text) p q = one_name names others m n text p q

pub one_answer : (files : List TextFile) (top : Option (List ℕ)) (clock : List ℕ) (x y : Answer) → FilesRead files top clock x
    → FilesRead files top clock y → x ≡ y
one_answer files top clock x y p q =
    p.same
    ∙ one_spelling p.names q.names p.read q.read
    (plans_one p.names q.names p.once q.once p.sources q.sources (same_texts p.names q.names p.sources q.sources files p.are q.are)
    p.top_id q.top_id p.clock_id q.clock_id (one_top p.names q.names p.top_id q.top_id top p.top_is q.top_is)
    (one_name p.names q.names p.clock_id q.clock_id clock p.clock_is q.clock_is) p.read q.read p.plans q.plans)
    ∙ sym q.same
