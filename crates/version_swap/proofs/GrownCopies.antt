-- The copies of a design, by each table that the table of its jobs grows to.
use Rattle.std.proofs.Common.{◌≡◌, ◌∙◌, ℕ, suc, true, List, [], ◌∷◌, All, map, refl, sym, ap₂, subst}
use Rattle.std.specs.Prelude.{None}
use Rattle.std.proofs.lemmas.List.Elements.{All-head, All-tail}
use Rattle.ls_text.specs.declared.name_id.NameId.{NameId}
use Rattle.ls_text.specs.Texts.{Grows}
use Rattle.ls_text.proofs.Growth.{grown_text, grows_none}
use Rattle.verilog_ast.specs.declared.module.Module.{Module}
use Rattle.verilog_ast.specs.Views.{declarations_of}
use Rattle.typed_ir.specs.declared.instance.Instance.{Instance}
use Rattle.gen_unroll.specs.Steps.{ModuleStep, blocks_in}
use Rattle.elaborate.specs.Elaborated.{Standing}
use Rattle.elaborate.specs.TreeViews.{language_limits}
use Rattle.module_registry.specs.declared.build_job.BuildJob.{BuildJob}
use Rattle.ls_text.specs.TextViews.{text_of}
use Rattle.version_swap.specs.Outer.{are_ports_outside}
use Rattle.version_swap.proofs.BlockNames.{same_names_within}
use Rattle.version_swap.proofs.Rerolled.{ports_stand_outside}
use Rattle.version_swap.specs.Copies.{Copies}
use Rattle.version_swap.specs.DesignCopies.{NameTables, IsCopyIn, AreEntriesIn, AreCopiesIn}
use Rattle.version_swap.specs.JobsUnder.{IsIn}
use Rattle.version_swap.specs.TableCopies.{CopyEntry, copies_listed}
use Rattle.version_swap.specs.TreeJobs.{one_table}
use Rattle.version_swap.proofs.InstanceTexts.{IsNameWord}
use Rattle.version_swap.proofs.OneTable.{outer_ports, by_one_table}
use Rattle.version_swap.proofs.OwnInstances.{module_is}
use Rattle.version_swap.proofs.StepNames.{IsStepNamed, told_go}
use Rattle.version_swap.proofs.ToldInstances.{modules_named}
use Rattle.version_swap.proofs.GrownFound.{FoundIn}
use Rattle.version_swap.proofs.SomeTexts.{IsSome, ids_in, texts_some}

module _ {old new : List (List ℕ)} {ms : List Module} {top clock : ℕ} {xs : List Instance} {js : List BuildJob} {all : List Standing}
    (grows : Grows old new) (h : FoundIn old ms top clock xs js all) where
  abbrev later_words : NameTables
  later_words = record { texts = old; known = old; others = old; words = new }

  -- the names of a copy are in the table
  names_in : (k : ℕ) (e : CopyEntry) (s : Standing) → IsCopyIn language_limits.turns (declarations_of ms) (one_table old) xs all k e s
      → All (IsIn old) e.copy.names
  names_in k e s c =
      let steps = e.copy.steps in
      let d = e.copy.declaration in
      let words = modules_named old ms h.spelled in
      let named = module_is (IsNameWord old) language_limits (declarations_of ms) words s.instantiated (declarations_of ms) d words c.declared in
      let outside = subst (λ (ss : List ModuleStep). are_ports_outside 0 ss ≡ true) (sym c.unrolled)
      (ports_stand_outside language_limits.turns s.overrides d (outer_ports ms s.instantiated d c.declared)) in
      let are = subst (λ (ss : List ModuleStep). All (IsStepNamed (IsNameWord old)) ss) (sym c.unrolled)
      (told_go (IsNameWord old) language_limits.turns s.overrides d named.1) in
      ids_in old e.copy.names
      (subst (All IsSome) (same_names_within d steps e.copy.table old outside c.signals ∙ sym c.names)
      (texts_some old (blocks_in steps) [] steps are))

  names_grown : (ns : List NameId) → All (IsIn old) ns → map (text_of new) ns ≡ map (text_of old) ns
  names_grown [] within = refl
  names_grown (n ∷ ns) within =
      ap₂ (λ (t : List ℕ) (ts : List (List ℕ)). t ∷ ts) (grown_text old new n.0 grows (All-head (IsIn old) n ns within))
      (names_grown ns (All-tail (IsIn old) n ns within))

  copy_later : (k : ℕ) (e : CopyEntry) (s : Standing) → IsCopyIn language_limits.turns (declarations_of ms) (one_table old) xs all k e s
      → IsCopyIn language_limits.turns (declarations_of ms) later_words xs all k e s
  copy_later k e s c = record {
    parent = c.parent;
    name = c.name;
    declared = c.declared;
    unrolled = c.unrolled;
    signals = c.signals;
    clock = c.clock;
    children = c.children;
    names = names_grown e.copy.names (names_in k e s c) ∙ c.names;
  }

  entries_later : (k : ℕ) (es : List CopyEntry) (ss : List Standing)
      → AreEntriesIn language_limits.turns (declarations_of ms) (one_table old) xs all k es ss
      → AreEntriesIn language_limits.turns (declarations_of ms) later_words xs all k es ss
  entries_later k [] [] are = are
  entries_later k [] (s ∷ ss) are = absurd are
  entries_later k (e ∷ es) [] are = absurd are
  entries_later k (e ∷ es) (s ∷ ss) are = (copy_later k e s are.0, entries_later (suc k) es ss are.1)

  pub copies_grown : (copies : Copies) → AreCopiesIn language_limits.turns (declarations_of ms) (one_table old) xs all copies
      → AreCopiesIn language_limits.turns (declarations_of ms) (one_table new) xs all copies
  copies_grown copies are =
      by_one_table language_limits old old new ms (grows_none old) grows h.spelled top clock all xs h.found copies
      (entries_later 0 (copies_listed None 0 copies) all are)
