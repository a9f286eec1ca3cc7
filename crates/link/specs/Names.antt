-- What a node is called: by its first target, with the path of its signal (IEEE Std 1364-2005, 12.4); how a select is shown is this project's own.
use Rattle.std.specs.Prelude.{◌≡◌, true, ◌<◌, length, ℕ, ◌+◌, ◌-◌, codes, decimal, Bool, is_some, List, [], ◌∷◌, ◌++◌, Option, Some, None, slice_get}
use Rattle.typed_ir.specs.declared.span.Span.{Span}
use Rattle.typed_ir.specs.declared.target_form.TargetForm.{TargetForm}
use Rattle.typed_ir.specs.declared.target_form.TargetForm.TheVariants.{Name, Bit, Range}
use Rattle.typed_ir.specs.Cycles.{Signal, Flat}
use Rattle.typed_ir.specs.Nodes.{FlatNode, Drive, Block, lane_spans}
use Rattle.typed_ir.specs.Orders.{at_or}
use Rattle.typed_ir.specs.Paths.{joined}
use Rattle.typed_ir.specs.Stmts.{targets}
use Rattle.typed_ir.specs.Valuations.{any_within}

-- bits of a signal, counted with the lower bound of its range
abbrev pub select_text : TargetForm → ℕ → Span → List ℕ
select_text Name lsb p = []
select_text Bit lsb p = codes "[" ++ (decimal (lsb + p.low) ++ codes "]")
select_text Range lsb p = codes "[" ++ (decimal (lsb + p.low + p.width - 1) ++ (codes ":" ++ (decimal (lsb + p.low) ++ codes "]")))

abbrev pub first_of : {A : Type 0} → List A → Option A
first_of [] = None
first_of (x ∷ xs) = Some x

-- bits of a signal of the design; nothing where it isn't there
abbrev pub target_text : List (List ℕ) → List Signal → TargetForm → Option Span → List ℕ
target_text texts signals form None = []
target_text texts signals form (Some p) = at_or (λ (x : Signal). joined texts x.path ++ select_text form x.lsb p) [] signals p.signal

-- the first target of an assignment, and of a block the one that it tells
abbrev pub first_target : FlatNode → Option Span
first_target (Drive form lanes e) = first_of (lane_spans lanes)
first_target (Block shown body) = slice_get (targets body) shown.number

abbrev pub has_target : FlatNode → Bool
has_target n = is_some (first_target n)

-- the target that a block tells is among its own, where it has any
abbrev pub IsShown : FlatNode → Type 0
IsShown (Drive form lanes e) = Unit {0}
IsShown (Block shown body) = (s i : ℕ) → any_within (targets body) s i ≡ true → shown.number < length (targets body)

abbrev pub form_of : FlatNode → TargetForm
form_of (Drive form lanes e) = form
form_of (Block shown body) = shown.form

-- what the k-th node is called
unfoldable pub node_text : List (List ℕ) → Flat → ℕ → List ℕ
node_text texts design k = at_or (λ n. target_text texts design.signals (form_of n) (first_target n)) [] design.nodes k
