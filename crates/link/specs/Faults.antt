-- Why a design isn't linked.
use Rattle.std.specs.Prelude.{◌≡◌, ◌<◌, ◌≤◌, All, ℕ, List, [], ◌∷◌, map, length}
use Rattle.ls_text.specs.declared.at.At.TheVariants.{Edit}
use Rattle.ls_text.specs.declared.name_id.NameId.{NameId}
use Rattle.ls_text.specs.declared.refusal.Refusal.{Refusal}
use Rattle.ls_text.specs.declared.refusal.Refusal.TheVariants.{Fault, NoMemory}
use Rattle.typed_ir.specs.Cycles.{Flat}
use Rattle.comb_order.specs.Loops.{IsLoop, HasNoLoop}
use Rattle.comb_order.specs.Refusals.{NodeBefore}
use Rattle.ls_text.specs.TextViews.{text_of}
use Rattle.link.specs.Names.{node_text}

-- at most so many nodes, and no loop of them
pub record HasNoLinkFault (most : ℕ) (design : Flat) : Type 0 where
  pub few : length design.nodes ≤ most
  pub no_loop : HasNoLoop (NodeBefore design.nodes) (length design.nodes)

-- the nodes of the loop are named by the table that came in; the names that are shown are of the table that is left
pub data IsLinkFault (most : ℕ) (texts new : List (List ℕ)) (design : Flat) : Refusal → Type 0 where
  too_many : most < length design.nodes → IsLinkFault most texts new design (Fault (record { code = 40; at = Edit; names = [] }))
  loop_of : {first : ℕ} {rest : List ℕ} {names : List NameId} → length design.nodes ≤ most
      → IsLoop (NodeBefore design.nodes) (length design.nodes) first rest
      → map (text_of new) names ≡ map (node_text texts design) (first ∷ rest)
      → All (λ (name : NameId). name.0 < length new) names
      → IsLinkFault most texts new design (Fault (record { code = 39; at = Edit; names = names }))
  no_memory : IsLinkFault most texts new design NoMemory
