-- The flat design of the copies of a design under other names that have the same texts is the flat design under these names; so the names in a
-- flat design are names of the table by which its modules were read.
use Rattle.std.proofs.Common.{◌≡◌, ◌∙◌, ℕ, ◌<◌, List, [], ◌∷◌, All, length, map, refl, sym, ap, subst}
use Rattle.std.proofs.lemmas.List.Elements.{All-nil, All-cons}
use Rattle.ls_text.specs.declared.name_id.NameId.{NameId}
use Rattle.ls_text.specs.Texts.{HasEachOnce}
use Rattle.ls_text.proofs.Tables.{same_id}
use Rattle.ls_text.proofs.Lists.{same_first, same_others}
use Rattle.typed_ir.specs.Cycles.{Signal, Flat}
use Rattle.verilog_ast.specs.declared.module.Module.{Module}
use Rattle.verilog_ast.specs.Items.{ModuleDeclaration}
use Rattle.verilog_ast.specs.Renaming.{declaration_as}
use Rattle.verilog_ast.specs.Views.{declarations_of}
use Rattle.gen_unroll.proofs.Answered.{ok_same}
use Rattle.typed_ir.specs.declared.instance.Instance.{Instance}
use Rattle.elaborate.specs.Elaborated.{Standing}
use Rattle.elaborate.specs.Trees.{all_seen}
use Rattle.elaborate.specs.TreeViews.{instance_view, language_limits}
use Rattle.module_registry.specs.declared.build_job.BuildJob.{BuildJob}
use Rattle.elaborate.specs.Findings.{standing_as}
use Rattle.elaborate.specs.Renaming.{KeepsApart, SpellsSame, number_as, found_as}
use Rattle.version_swap.specs.RenamedFindings.{unit_signal_as}
use Rattle.version_swap.specs.Jobs.{instance_as}
use Rattle.version_swap.specs.Copies.{Copies}
use Rattle.version_swap.specs.DesignCopies.{AreCopiesIn}
use Rattle.version_swap.specs.Flat.{flat}
use Rattle.version_swap.specs.FlatRenaming.{copies_as, flat_as}
use Rattle.version_swap.specs.TreeJobs.{one_table, IsFlatIn}
use Rattle.version_swap.proofs.OneDesign.{one_design}
use Rattle.version_swap.proofs.RenamedDesignCopies.{same_copies}
use Rattle.version_swap.proofs.RenamedFlat.{same_flat}
use Rattle.version_swap.proofs.GrownFound.{FoundIn}
use Rattle.version_swap.proofs.MovedNames.{moved, moved_apart, moved_spells, is_below}
use Rattle.version_swap.proofs.RenamedInstances.{listed_as}
use Rattle.version_swap.proofs.StayingDesigns.{elaborated_stays}

module _ (f : NameId → NameId) (texts table : List (List ℕ)) (apart : KeepsApart f) (spells : SpellsSame f texts table) (once : HasEachOnce table)
    {ms : List Module} {top clock : ℕ} {xs : List Instance} {js : List BuildJob} {all : List Standing}
    (h : FoundIn table ms top clock xs js all) (ds : List ModuleDeclaration) (ys : List Instance) (also : List Standing)
    (trees : declarations_of ms ≡ map (declaration_as f) ds)
    (same : all ≡ map (standing_as f) also) (listed : map (instance_view table) (map (instance_as f) ys) ≡ all_seen table all) where
  copies_there : (copies : Copies) → AreCopiesIn language_limits.turns ds (one_table texts) ys also copies
      → AreCopiesIn language_limits.turns (declarations_of ms) (one_table table) (map (instance_as f) ys) all (copies_as f copies)
  copies_there copies are =
      subst (λ (es : List ModuleDeclaration). AreCopiesIn language_limits.turns es (one_table table) (map (instance_as f) ys) all
      (copies_as f copies))
      (sym trees)
      (subst (λ (ss : List Standing).
      AreCopiesIn language_limits.turns (map (declaration_as f) ds) (one_table table) (map (instance_as f) ys) ss (copies_as f copies))
      (sym same)
      (same_copies f language_limits.turns ds (one_table texts) (one_table table) ys also copies apart
      (record { texts = spells; known = spells; others = spells; words = spells }) are))

  one : (copies : Copies) → AreCopiesIn language_limits.turns (declarations_of ms) (one_table table) xs all copies
      → IsFlatIn table ms top clock xs (flat copies)
  one copies are =
      record { all = all; found = h.found; seen = h.listed; copies = copies; are_copies = are; same = refl }

  other : (copies : Copies) → AreCopiesIn language_limits.turns ds (one_table texts) ys also copies
      → IsFlatIn table ms top clock (map (instance_as f) ys) (flat (copies_as f copies))
  other copies are =
      record { all = all; found = h.found; seen = listed; copies = copies_as f copies; are_copies = copies_there copies are; same = refl }

  pub flat_alike : (copies others : Copies) → AreCopiesIn language_limits.turns (declarations_of ms) (one_table table) xs all copies
      → AreCopiesIn language_limits.turns ds (one_table texts) ys also others → flat copies ≡ flat_as f (flat others)
  flat_alike copies others are there =
      one_design table once ms h.spelled top clock xs (map (instance_as f) ys) (flat copies) (flat (copies_as f others)) (one copies are)
      (other others there)
      ∙ same_flat f others apart

-- ---- the names in a design

pub record IsSignalIn (names : List (List ℕ)) (x : Signal) : Type 0 where
  pub in_module : x.in_module < length names
  pub path : All (λ (n : ℕ). n < length names) x.path

number_below : (count n : ℕ) → number_as (moved count) n ≡ n → n < count
number_below count n is = is_below count (record { 0 = n }) (same_id (moved count (record { 0 = n })) (record { 0 = n }) is)

numbers_below : (count : ℕ) (ns : List ℕ) → map (number_as (moved count)) ns ≡ ns → All (λ (n : ℕ). n < count) ns
numbers_below count [] same = All-nil (λ (n : ℕ). n < count)
numbers_below count (n ∷ ns) same =
    All-cons (λ (m : ℕ). m < count) n ns
    (number_below count n (same_first (number_as (moved count) n) n (map (number_as (moved count)) ns) ns same))
    (numbers_below count ns (same_others (number_as (moved count) n) n (map (number_as (moved count)) ns) ns same))

signals_in : (names : List (List ℕ)) (xs : List Signal) → xs ≡ map (unit_signal_as (moved (length names))) xs → All (IsSignalIn names) xs
signals_in names [] same = All-nil (IsSignalIn names)
signals_in names (x ∷ xs) same =
    let f = moved (length names) in
    let here = sym (same_first x (unit_signal_as f x) xs (map (unit_signal_as f) xs) same) in
    All-cons (IsSignalIn names) x xs
    (record {
      in_module = number_below (length names) x.in_module (ap (λ (s : Signal). s.in_module) here);
      path = numbers_below (length names) x.path (ap (λ (s : Signal). s.path) here);
    })
    (signals_in names xs (same_others x (unit_signal_as f x) xs (map (unit_signal_as f) xs) same))

module _ {names : List (List ℕ)} (once : HasEachOnce names) {ms : List Module} {top clock : ℕ} {xs : List Instance} {js : List BuildJob}
    {all : List Standing} (h : FoundIn names ms top clock xs js all)
    (fixed : map (declaration_as (moved (length names))) (declarations_of ms) ≡ declarations_of ms) where
  abbrev f : NameId → NameId
  f n = moved (length names) n

  apart : KeepsApart f
  apart = moved_apart (length names)

  all_stay : all ≡ map (standing_as f) all
  all_stay =
      ok_same all (map (standing_as f) all)
      (sym h.found ∙ elaborated_stays f apart language_limits (declarations_of ms) fixed top clock ∙ ap (found_as f (map (standing_as f))) h.found)

  pub flat_in : (copies : Copies) → AreCopiesIn language_limits.turns (declarations_of ms) (one_table names) xs all copies
      → All (IsSignalIn names) (flat copies).signals
  flat_in copies are =
      signals_in names (flat copies).signals
      (ap (λ (d : Flat). d.signals)
      (flat_alike f names names apart (moved_spells names) once h (declarations_of ms) xs all (sym fixed) all_stay
      (listed_as f names names apart (moved_spells names) (declarations_of ms) top clock all h.found xs h.listed
      ∙ ap (all_seen names) (sym all_stay))
      copies copies are are))
