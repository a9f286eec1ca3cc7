-- A scope of the code fits the widths of its signals.
use Rattle.std.proofs.Common.{◌≡◌, ℕ, ◌==◌, true, List, [], ◌∷◌, sym, subst}
use Rattle.std.proofs.lemmas.Bool.{cond-true, cond-false}
use Rattle.ls_text.specs.declared.name_id.NameId.{NameId}
use Rattle.typed_ir.proofs.Cases.{by_cases, and_left, and_right}
use Rattle.width_rules.specs.declared.entry.Entry.{Entry}
use Rattle.width_rules.specs.declared.entry.Entry.TheVariants as entry
use Rattle.width_rules.specs.Found.{meaning_of, found}
use Rattle.width_rules.specs.Scopes.{Meaning}
use Rattle.statement_rules.specs.Entries.{is_there, are_there}
use Rattle.statement_rules.specs.Fitting.{FitsMeaning, FitsScope}
use Rattle.statement_rules.proofs.Bounds.{width_from}

entry_fits : (x : Entry) (widths : List ℕ) → is_there x widths ≡ true → FitsMeaning (meaning_of x) widths
entry_fits (entry.Signal x) widths h = (width_from x.width (record { least = x.at_least_one; most = x.at_most_128 }), h)
entry_fits (entry.Constant x) widths h = (width_from x.bits.width (record { least = x.bits.at_least_one; most = x.bits.at_most_128 }), x.bits.fits)
entry_fits (entry.Turn x) widths h = (width_from x.bits.width (record { least = x.bits.at_least_one; most = x.bits.at_most_128 }), x.bits.fits)
entry_fits entry.Genvar widths h = tt
entry_fits entry.Unknown widths h = tt

pub entries_fit : (entries : List (NameId × Entry)) (widths : List ℕ) → are_there entries widths ≡ true → FitsScope (found entries) widths
entries_fit [] widths h name = tt
entries_fit (x ∷ xs) widths h name = by_cases (x.0.0 == name)
    (λ y. subst (λ (m : Meaning). FitsMeaning m widths) (sym (cond-true (x.0.0 == name) (meaning_of x.1) (found xs name) y))
    (entry_fits x.1 widths (and_left (is_there x.1 widths) (are_there xs widths) h)))
    (λ n. subst (λ (m : Meaning). FitsMeaning m widths) (sym (cond-false (x.0.0 == name) (meaning_of x.1) (found xs name) n))
    (entries_fit xs widths (and_right (is_there x.1 widths) (are_there xs widths) h) name))
