-- Items by their parts, and one more item of a list.
use Rattle.std.proofs.Common.{◌≡◌, List, [], ◌∷◌, ◌++◌, map, ◌∙◌, ap, ap₂}
use Rattle.std.proofs.lemmas.List.{map-append}
use Rattle.ls_text.specs.declared.place.Place.{Place}
use Rattle.typed_ir.specs.declared.lane.Lane.{Lane}
use Rattle.typed_ir.specs.declared.target_form.TargetForm.{TargetForm}
use Rattle.typed_ir.specs.Sized.{Sized}
use Rattle.typed_ir.specs.Nodes.{Drive, known_lanes}
use Rattle.statement_rules.specs.Drives.{SizedDrive}
use Rattle.typed_ir.specs.declared.mention.Mention.{Mention}
use Rattle.typed_ir.specs.declared.typed_item.TypedItem.{TypedItem}
use Rattle.typed_ir.specs.Trees.{Own}
use Rattle.typed_ir.specs.Items.{SizedBody, PlacedItem, Node, item_of}

-- an item by its body, where it stands, and what its targets and its reads mention
abbrev pub placed : SizedBody → Place → List Mention → List Mention → PlacedItem
placed body at targets reads = record { body = body; at = at; targets = targets; reads = reads }

pub placed_is : (x y : SizedBody) (at there : Place) (ts us rs ss : List Mention) → x ≡ y → at ≡ there → ts ≡ us → rs ≡ ss → placed x at ts rs ≡ placed y there us ss
placed_is x y at there ts us rs ss h k l m = ap₂ (λ (z : SizedBody) (p : Place). placed z p ts rs) h k ∙ ap₂ (placed y there) l m

abbrev pub driving : TargetForm → List Lane → Sized → SizedBody
driving form lanes e = Node (Own (Drive form lanes e))

pub driving_is : (f g : TargetForm) (ls ms : List Lane) (x y : Sized) → f ≡ g → ls ≡ ms → x ≡ y → driving f ls x ≡ driving g ms y
driving_is f g ls ms x y h k l = ap (λ (z : TargetForm). driving z ls x) h ∙ ap₂ (driving g) k l

-- the item of a continuous assignment
abbrev pub drive_with : TargetForm → SizedDrive → Place → List Mention → PlacedItem
drive_with form x at targets = record { body = Node (Own (Drive form (known_lanes x.parts) x.value)); at = at; targets = targets; reads = [] }

-- ---- lists

pub added : (xs ys : List TypedItem) (x : TypedItem) (y : PlacedItem) → ys ≡ xs ++ x ∷ [] → item_of x ≡ y → map item_of ys ≡ map item_of xs ++ y ∷ []
added xs ys x y h k = ap (map item_of) h ∙ map-append item_of xs (x ∷ []) ∙ ap (λ (z : PlacedItem). map item_of xs ++ z ∷ []) k
