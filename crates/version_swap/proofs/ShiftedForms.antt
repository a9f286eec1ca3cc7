-- Numbers that are shifted by that of the first signal are other numbers.
use Rattle.std.proofs.Common.{◌≡◌, ℕ, ◌+◌, List, map, refl, ◌∙◌, ap, ap₂}
use Rattle.ls_text.proofs.Lists.{same_map}
use Rattle.typed_ir.specs.declared.lane.Lane.{Lane}
use Rattle.typed_ir.specs.Sized.{Sized, Constant, Name, Part, Pick, Unary, Binary, Choice, Concat, Repeat, Resized}
use Rattle.typed_ir.specs.Stmts.{SizedTarget, Fixed, Moving, SizedItem, SizedStmt, SizedArms, Skip, Assign, Later, Then, If, Case, Arm, Default}
use Rattle.typed_ir.specs.Nodes.{FlatNode, Drive, Block}
use Rattle.typed_ir.specs.Shifts.{shifted, shifted_lane, shifted_target, shifted_reach, shifted_item, shifted_stmt, shifted_arms, shifted_node}
use Rattle.statement_rules.specs.Renumbering.{numbered_as, lane_as, target_as, item_as, statement_as, arms_as}
use Rattle.version_swap.specs.RenumberedItems.{flat_node_as}

abbrev pub behind_first : ℕ → ℕ → ℕ
behind_first first s = first + s

pub form_shifted : (first : ℕ) (e : Sized) → numbered_as (behind_first first) e ≡ shifted first e
form_shifted first (Constant width value) = refl
form_shifted first (Name signal width) = refl
form_shifted first (Part span) = refl
form_shifted first (Pick signal width below signed index) = ap (Pick (first + signal) width below signed) (form_shifted first index)
form_shifted first (Unary op a) = ap (Unary op) (form_shifted first a)
form_shifted first (Binary op a b) = ap₂ (Binary op) (form_shifted first a) (form_shifted first b)
form_shifted first (Choice c a b) =
    ap (λ x. Choice x (numbered_as (behind_first first) a) (numbered_as (behind_first first) b)) (form_shifted first c)
    ∙ ap₂ (Choice (shifted first c)) (form_shifted first a) (form_shifted first b)
form_shifted first (Concat width a b) = ap₂ (Concat width) (form_shifted first a) (form_shifted first b)
form_shifted first (Repeat width count a) = ap (Repeat width count) (form_shifted first a)
form_shifted first (Resized a width signed) = ap (λ x. Resized x width signed) (form_shifted first a)

pub lanes_shifted : (first : ℕ) (ls : List Lane) → map (lane_as (behind_first first)) ls ≡ map (shifted_lane first) ls
lanes_shifted first ls = same_map (lane_as (behind_first first)) (shifted_lane first) (λ l. refl) ls

target_shifted : (first : ℕ) (t : SizedTarget) → target_as (behind_first first) t ≡ shifted_target first t
target_shifted first (Fixed lane) = refl
target_shifted first (Moving reach index) = ap (Moving (shifted_reach first reach)) (form_shifted first index)

targets_shifted : (first : ℕ) (ts : List SizedTarget) → map (target_as (behind_first first)) ts ≡ map (shifted_target first) ts
targets_shifted first ts = same_map (target_as (behind_first first)) (shifted_target first) (target_shifted first) ts

item_shifted : (first : ℕ) (x : SizedItem) → item_as (behind_first first) x ≡ shifted_item first x
item_shifted first x = ap (λ (e : Sized). record { ignored = x.ignored; item = e }) (form_shifted first x.item)

mutual
  pub statement_shifted : (first : ℕ) (st : SizedStmt) → statement_as (behind_first first) st ≡ shifted_stmt first st
  statement_shifted first Skip = refl
  statement_shifted first (Assign parts e) = ap₂ Assign (targets_shifted first parts) (form_shifted first e)
  statement_shifted first (Later parts e) = ap₂ Later (targets_shifted first parts) (form_shifted first e)
  statement_shifted first (Then a b) = ap₂ Then (statement_shifted first a) (statement_shifted first b)
  statement_shifted first (If c a b) =
      ap (λ x. If x (statement_as (behind_first first) a) (statement_as (behind_first first) b)) (form_shifted first c)
      ∙ ap₂ (If (shifted first c)) (statement_shifted first a) (statement_shifted first b)
  statement_shifted first (Case e arms) = ap₂ Case (form_shifted first e) (arms_shifted first arms)

  arms_shifted : (first : ℕ) (arms : SizedArms) → arms_as (behind_first first) arms ≡ shifted_arms first arms
  arms_shifted first (Arm items body rest) =
      ap (λ is. Arm is (statement_as (behind_first first) body) (arms_as (behind_first first) rest))
      (same_map (item_as (behind_first first)) (shifted_item first) (item_shifted first) items)
      ∙ ap₂ (Arm (map (shifted_item first) items)) (statement_shifted first body) (arms_shifted first rest)
  arms_shifted first (Default otherwise) = ap Default (statement_shifted first otherwise)

pub node_shifted : (first : ℕ) (n : FlatNode) → flat_node_as (behind_first first) n ≡ shifted_node first n
node_shifted first (Drive form lanes e) = ap₂ (Drive form) (lanes_shifted first lanes) (form_shifted first e)
node_shifted first (Block shown body) = ap (Block shown) (statement_shifted first body)
