-- Along a walk, the shapes of the instances that it has passed and of those that are left are all of them.
use Rattle.std.proofs.Common.{◌≡◌, ◌≤◌, ℕ, ◌+◌, List, [], ◌++◌, length, drop, append_assoc, refl, sym, ◌∙◌, ap, arith}
use Rattle.std.proofs.lemmas.List.{length-append, take-append-drop}
use Rattle.std.proofs.Math.Seq.{drop-append_seam}
use Rattle.typed_ir.specs.declared.child_shape.ChildShape.{ChildShape}
use Rattle.verilog_ast.specs.Items.{ModuleItem}
use Rattle.width_rules.specs.declared.writer.Writer.{Writer}
use Rattle.gen_unroll.specs.Reaches.{Reach}
use Rattle.gen_unroll.specs.Steps.{ModuleStep, Listed, Port, Parameter, Item, Labelled, Opened, Closed}
use Rattle.gen_unroll.specs.Signals.{NamedSignal}
use Rattle.unit_build.specs.Walks.{Walk, instances_in, shapes_of, shapes_behind, passed, remaining, behind}

-- the next instance has as its number how many stand before it
pub record IsWalkOver (all : List ChildShape) (k : Walk) : Type 0 where
  pub before : List ChildShape
  pub all_are : before ++ k.left ≡ all
  pub many : length before ≡ k.child

-- where the walk begins
pub begins_over : (all : List ChildShape) (here : Reach) → IsWalkOver all (record { here = here; child = 0; left = all })
begins_over all here = record { before = []; all_are = refl; many = refl }

pub item_shapes : (left : List ChildShape) (x : ModuleItem) → shapes_of left x ++ shapes_behind left x ≡ left
item_shapes left x = take-append-drop (length (instances_in x)) left

step_shapes : (left : List ChildShape) (s : ModuleStep) → passed left s ++ remaining left s ≡ left
step_shapes left (Listed n) = refl
step_shapes left (Port p) = refl
step_shapes left (Parameter s n v) = refl
step_shapes left (Item x) = item_shapes left x
step_shapes left (Labelled n) = refl
step_shapes left (Opened b items) = refl
step_shapes left Closed = refl

-- behind a step it is so too
pub goes_over : (w : ℕ → Writer) (xs : List NamedSignal) (all : List ChildShape) (s : ModuleStep) (k : Walk) → IsWalkOver all k → IsWalkOver all (behind w xs s k)
goes_over w xs all s k is = record {
  before = is.before ++ passed k.left s;
  all_are = append_assoc is.before (passed k.left s) (remaining k.left s) ∙ ap (λ (l : List ChildShape). is.before ++ l) (step_shapes k.left s) ∙ is.all_are;
  many = length-append is.before (passed k.left s) ∙ ap (λ n. n + length (passed k.left s)) is.many;
}

-- ---- what follows for numbers

pub all_numbers : (all : List ChildShape) (k : Walk) → IsWalkOver all k → k.child + length k.left ≡ length all
all_numbers all k is =
    ap (λ n. n + length k.left) (sym is.many) ∙ sym (length-append is.before k.left) ∙ ap (λ (l : List ChildShape). length l) is.all_are

pub left_behind : (all : List ChildShape) (k : Walk) → IsWalkOver all k → k.left ≡ drop k.child all
left_behind all k is =
    sym (drop-append_seam is.before k.left) ∙ ap (λ n. drop n (is.before ++ k.left)) is.many ∙ ap (λ (l : List ChildShape). drop k.child l) is.all_are

-- the shapes of an item are among all
pub item_within : (all : List ChildShape) (k : Walk) (x : ModuleItem) → IsWalkOver all k → k.child + length (shapes_of k.left x) ≤ length all
item_within all k x is =
    let parts : length (shapes_of k.left x) + length (shapes_behind k.left x) ≡ length k.left =
    sym (length-append (shapes_of k.left x) (shapes_behind k.left x)) ∙ ap (λ (l : List ChildShape). length l) (item_shapes k.left x) in
    omega (arith, all_numbers all k is, parts)
