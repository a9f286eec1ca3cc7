-- Files come to one design or one fault, whatever table and numbers their names have.
use Rattle.std.proofs.Common.{◌≡◌, ℕ, ◌<◌, ◌≤◌, List, length, map, refl, sym, ap, arith}
use Rattle.std.specs.Prelude.{Option, Result}
use Rattle.ls_text.specs.declared.name_id.NameId.{NameId}
use Rattle.ls_text.specs.declared.source_file.SourceFile.{SourceFile}
use Rattle.ls_text.specs.Readings.{TextFault}
use Rattle.ls_text.specs.Texts.{Grows, HasEachOnce}
use Rattle.ls_text.proofs.Growth.{grows_on}
use Rattle.typed_ir.specs.declared.instance.Instance.{Instance}
use Rattle.module_registry.specs.declared.build_job.BuildJob.{BuildJob}
use Rattle.version_swap.specs.Copies.{Copies}
use Rattle.version_swap.specs.Flat.{flat}
use Rattle.state_layout.specs.Words.{register_widths, words_of}
use Rattle.version_swap.specs.Founds.{AreFound}
use Rattle.version_swap.specs.OnePlan.{file_text as text, IsSameName, IsSameTop, IsSamePlan}
use Rattle.version_swap.specs.Plans as plans
use Rattle.version_swap.specs.Plans.{DesignOfTexts, Plans}
use Rattle.version_swap.proofs.FilesAlike.{as_many}
use Rattle.version_swap.proofs.TwoPlans.{one_read_fault, fault_or_modules, modules_or_fault}
use Rattle.version_swap.proofs.TwoPlans.{one_tree_fault, fault_or_tree, tree_or_fault, one_unit_fault}
use Rattle.version_swap.proofs.TwoPlans.{fault_or_units, units_or_fault, one_link_fault, fault_or_linked, linked_or_fault, widths_same, one_design}

many_and_few : {P : Type 0} (n m : ℕ) → 256 < n → m ≤ 256 → n ≡ m → P
many_and_few n m many few same = absurd (omega (arith, many, few, same))

wide_and_small : {P : Type 0} (n m : ℕ) → 65536 < n → m ≤ 65536 → n ≡ m → P
wide_and_small n m wide small same = absurd (omega (arith, wide, small, same))

-- the table of the modules begins that of the plan
begun : {words : List (List ℕ)} {files : List SourceFile} {name : Option NameId} {clock : NameId} {xs : List Instance} {js : List BuildJob}
    (h : AreFound words files name clock xs js) (names : List (List ℕ)) → Grows words names → Grows h.texts names
begun {words} h names grows = grows_on h.texts h.known names h.grown (grows_on h.known words names h.grows grows)

module _ (names others : List (List ℕ)) (once : HasEachOnce names) (also : HasEachOnce others) (files again : List SourceFile)
    (same : map text files ≡ map text again) (top up : Option NameId) (clock net : NameId) (tops : IsSameTop names others top up)
    (clocks : IsSameName names others clock net) where
  count : length files ≡ length again
  count = as_many files again same

  -- the words that the registers of a design take
  abbrev room : Copies → ℕ
  room copies = words_of (register_widths (flat copies))

  pub plans_one : (x y : Result DesignOfTexts TextFault) → Plans names files top clock x → Plans others again up net y
      → IsSamePlan names others x y
  plans_one x y (plans.too_many many) (plans.too_many more) = refl
  plans_one x y (plans.too_many many) (plans.at_text low seen) = many_and_few (length files) (length again) many low count
  plans_one x y (plans.too_many many) (plans.at_tree d gs seen) = many_and_few (length files) (length again) many d.few count
  plans_one x y (plans.too_many many) (plans.at_unit d gs seen) = many_and_few (length files) (length again) many d.has.few count
  plans_one x y (plans.too_many many) (plans.at_link d gs seen) = many_and_few (length files) (length again) many d.found.has.few count
  plans_one x y (plans.too_many many) (plans.too_wide d gs joins broad) = many_and_few (length files) (length again) many d.found.has.few count
  plans_one x y (plans.too_many many) (plans.made d gs joins slim) = many_and_few (length files) (length again) many d.found.has.few count
  plans_one x y (plans.at_text few is) (plans.too_many more) = many_and_few (length again) (length files) more few (sym count)
  plans_one x y (plans.at_text {f = f} few is) (plans.at_text {f = e} low seen) =
      one_read_fault names others files again once also same f e is seen
  plans_one x y (plans.at_text {f = f} few is) (plans.at_tree {texts = told} {ms = ns} d gs seen) =
      fault_or_modules names others files again once also same told ns f is d.modules gs
  plans_one x y (plans.at_text {f = f} few is) (plans.at_unit d gs seen) =
      fault_or_modules names others files again once also same d.texts d.ms f is d.has.modules (begun d others gs)
  plans_one x y (plans.at_text {f = f} few is) (plans.at_link d gs seen) =
      fault_or_modules names others files again once also same d.found.texts d.found.ms f is d.found.has.modules (begun d.found others gs)
  plans_one x y (plans.at_text {f = f} few is) (plans.too_wide d gs joins broad) =
      fault_or_modules names others files again once also same d.found.texts d.found.ms f is d.found.has.modules (begun d.found others gs)
  plans_one x y (plans.at_text {f = f} few is) (plans.made d gs joins slim) =
      fault_or_modules names others files again once also same d.found.texts d.found.ms f is d.found.has.modules (begun d.found others gs)
  plans_one x y (plans.at_tree h g is) (plans.too_many more) = many_and_few (length again) (length files) more h.few (sym count)
  plans_one x y (plans.at_tree {texts = texts} {ms = ms} h g is) (plans.at_text {f = e} low seen) =
      modules_or_fault names others files again once also same texts ms e h.modules g seen
  plans_one x y (plans.at_tree {f = f} h g is) (plans.at_tree {f = e} d gs seen) =
      one_tree_fault names others files again once also same top up clock net tops clocks h g d gs f e is seen
  plans_one x y (plans.at_tree {f = f} h g is) (plans.at_unit d gs seen) =
      fault_or_tree names others files again once also same top up clock net tops clocks h g d.has (begun d others gs) f d.all is d.found
  plans_one x y (plans.at_tree {f = f} h g is) (plans.at_link d gs seen) =
      fault_or_tree names others files again once also same top up clock net tops clocks
      h g d.found.has (begun d.found others gs) f d.found.all is d.found.found
  plans_one x y (plans.at_tree {f = f} h g is) (plans.too_wide d gs joins broad) =
      fault_or_tree names others files again once also same top up clock net tops clocks
      h g d.found.has (begun d.found others gs) f d.found.all is d.found.found
  plans_one x y (plans.at_tree {f = f} h g is) (plans.made d gs joins slim) =
      fault_or_tree names others files again once also same top up clock net tops clocks
      h g d.found.has (begun d.found others gs) f d.found.all is d.found.found
  plans_one x y (plans.at_unit h g is) (plans.too_many more) = many_and_few (length again) (length files) more h.has.few (sym count)
  plans_one x y (plans.at_unit h g is) (plans.at_text {f = e} low seen) =
      modules_or_fault names others files again once also same h.texts h.ms e h.has.modules (begun h names g) seen
  plans_one x y (plans.at_unit h g is) (plans.at_tree {f = e} d gs seen) =
      tree_or_fault names others files again once also same top up clock net tops clocks h.has (begun h names g) d gs h.all e h.found seen
  plans_one x y (plans.at_unit {f = f} h g is) (plans.at_unit {f = e} d gs seen) =
      one_unit_fault names others files again once also same top up clock net tops clocks h g d gs f e is seen
  plans_one x y (plans.at_unit {f = f} h g is) (plans.at_link d gs seen) =
      fault_or_units names others files again once also same top up clock net tops clocks h g d.found gs f d.units is d.made
  plans_one x y (plans.at_unit {f = f} h g is) (plans.too_wide d gs joins broad) =
      fault_or_units names others files again once also same top up clock net tops clocks h g d.found gs f d.units is d.made
  plans_one x y (plans.at_unit {f = f} h g is) (plans.made d gs joins slim) =
      fault_or_units names others files again once also same top up clock net tops clocks h g d.found gs f d.units is d.made
  plans_one x y (plans.at_link h g is) (plans.too_many more) = many_and_few (length again) (length files) more h.found.has.few (sym count)
  plans_one x y (plans.at_link h g is) (plans.at_text {f = e} low seen) =
      modules_or_fault names others files again once also same h.found.texts h.found.ms e h.found.has.modules (begun h.found names g) seen
  plans_one x y (plans.at_link h g is) (plans.at_tree {f = e} d gs seen) =
      tree_or_fault names others files again once also same top up clock net tops clocks
      h.found.has (begun h.found names g) d gs h.found.all e h.found.found seen
  plans_one x y (plans.at_link h g is) (plans.at_unit {f = e} d gs seen) =
      units_or_fault names others files again once also same top up clock net tops clocks h.found g d gs h.units e h.made seen
  plans_one x y (plans.at_link {f = f} h g is) (plans.at_link {f = e} d gs seen) =
      one_link_fault names others files again once also same top up clock net tops clocks h g d gs f e is seen
  plans_one x y (plans.at_link {f = f} h g is) (plans.too_wide d gs joins broad) =
      absurd (fault_or_linked names others files again once also same top up clock net tops clocks h g d gs f is joins)
  plans_one x y (plans.at_link {f = f} h g is) (plans.made d gs joins slim) =
      absurd (fault_or_linked names others files again once also same top up clock net tops clocks h g d gs f is joins)
  plans_one x y (plans.too_wide h g linked wide) (plans.too_many more) =
      many_and_few (length again) (length files) more h.found.has.few (sym count)
  plans_one x y (plans.too_wide h g linked wide) (plans.at_text {f = e} low seen) =
      modules_or_fault names others files again once also same h.found.texts h.found.ms e h.found.has.modules (begun h.found names g) seen
  plans_one x y (plans.too_wide h g linked wide) (plans.at_tree {f = e} d gs seen) =
      tree_or_fault names others files again once also same top up clock net tops clocks
      h.found.has (begun h.found names g) d gs h.found.all e h.found.found seen
  plans_one x y (plans.too_wide h g linked wide) (plans.at_unit {f = e} d gs seen) =
      units_or_fault names others files again once also same top up clock net tops clocks h.found g d gs h.units e h.made seen
  plans_one x y (plans.too_wide h g linked wide) (plans.at_link {f = e} d gs seen) =
      absurd (linked_or_fault names others files again once also same top up clock net tops clocks h g d gs e linked seen)
  plans_one x y (plans.too_wide h g linked wide) (plans.too_wide d gs joins broad) = refl
  plans_one x y (plans.too_wide {copies = copies} h g linked wide) (plans.made {copies = rest} d gs joins slim) =
      wide_and_small (room copies) (room rest) wide slim
      (ap words_of (widths_same names others files again once also same top up clock net tops clocks h g d gs))
  plans_one x y (plans.made h g linked small) (plans.too_many more) = many_and_few (length again) (length files) more h.found.has.few (sym count)
  plans_one x y (plans.made h g linked small) (plans.at_text {f = e} low seen) =
      modules_or_fault names others files again once also same h.found.texts h.found.ms e h.found.has.modules (begun h.found names g) seen
  plans_one x y (plans.made h g linked small) (plans.at_tree {f = e} d gs seen) =
      tree_or_fault names others files again once also same top up clock net tops clocks
      h.found.has (begun h.found names g) d gs h.found.all e h.found.found seen
  plans_one x y (plans.made h g linked small) (plans.at_unit {f = e} d gs seen) =
      units_or_fault names others files again once also same top up clock net tops clocks h.found g d gs h.units e h.made seen
  plans_one x y (plans.made h g linked small) (plans.at_link {f = e} d gs seen) =
      absurd (linked_or_fault names others files again once also same top up clock net tops clocks h g d gs e linked seen)
  plans_one x y (plans.made {copies = copies} h g linked small) (plans.too_wide {copies = rest} d gs joins broad) =
      wide_and_small (room rest) (room copies) broad small
      (sym (ap words_of (widths_same names others files again once also same top up clock net tops clocks h g d gs)))
  plans_one x y (plans.made h g linked small) (plans.made d gs joins slim) =
      one_design names others files again once also same top up clock net tops clocks h g d gs
