-- Why a flat design can't be run: it isn't linked, or its registers take too much room.
use Rattle.std.proofs.Common.{Global}
use Rattle.std.specs.Prelude.{◌≡◌, ◌≤◌, ◌<◌, ℕ, List, ⊤}
use Rattle.std.specs.declared.sync.Arc.{Arc}
use Rattle.ls_text.specs.declared.refusal.Refusal.{Refusal}
use Rattle.typed_ir.specs.Cycles.{Flat}
use Rattle.ls_text.specs.declared.refusal.Refusal.TheVariants as refusals
use Rattle.typed_ir.specs.declared.instance.Instance.{Instance}
use Rattle.typed_ir.specs.declared.unit.Unit.{Unit as ModuleUnit}
use Rattle.typed_ir.specs.Trees.{Instances, flat_of_tree}
use Rattle.module_registry.specs.Entries.{Entry}
use Rattle.module_registry.specs.Keys.{KeyData}
use Rattle.version_swap.specs.Held.{AreUnder}
use Rattle.link.specs.Listings.{IsTreeOf, all_parts}
use Rattle.link.specs.Faults.{IsLinkFault, HasNoLinkFault}
use Rattle.state_layout.specs.Words.{register_widths, words_of, IsTooMany}

pub record CanRun (design : Flat) : Type 0 where
  pub linked : HasNoLinkFault 1048576 design
  pub small : words_of (register_widths design) ≤ 65536

pub data IsDesignFault (texts new : List (List ℕ)) (design : Flat) (refusal : Refusal) : Type 0 where
  not_linked : IsLinkFault 1048576 texts new design refusal → IsDesignFault texts new design refusal
  too_wide : HasNoLinkFault 1048576 design → 65536 < words_of (register_widths design) → IsTooMany refusal → IsDesignFault texts new design refusal

-- ---- the design of instances whose units are held under these keys, whichever tree it is the table of

pub record IsDesignOfUnits (xs : List Instance) (es : List Entry) (keys : List KeyData) (design : Flat) : Type 0 where
  pub units : List (Arc ModuleUnit Global)
  pub are : AreUnder es keys units
  pub linked : (t : Instances) → IsTreeOf xs (all_parts units) t → (design ≡ flat_of_tree t) × CanRun (flat_of_tree t)

pub record IsFaultOfUnits (texts new : List (List ℕ)) (xs : List Instance) (es : List Entry) (keys : List KeyData) (refusal : Refusal) : Type 0 where
  pub units : List (Arc ModuleUnit Global)
  pub are : AreUnder es keys units
  pub refused : (t : Instances) → IsTreeOf xs (all_parts units) t → IsDesignFault texts new (flat_of_tree t) refusal

-- a fault is such a one; want of memory may come before the units are found
abbrev pub IsRefusedOfUnits : (texts new : List (List ℕ)) → List Instance → List Entry → List KeyData → Refusal → Type 0
IsRefusedOfUnits texts new xs es keys (refusals.Fault f) = IsFaultOfUnits texts new xs es keys (refusals.Fault f)
IsRefusedOfUnits texts new xs es keys refusals.NoMemory = ⊤
