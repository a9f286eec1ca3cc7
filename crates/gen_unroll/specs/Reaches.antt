-- The names in reach behind each step (IEEE Std 1364-2005, 12.7).
use Rattle.std.specs.Prelude.{◌≡◌, ℕ, ◌==◌, Bool, true, false, List, [], ◌∷◌, length, Option, Some, None}
use Rattle.verilog_ast.specs.declared.identifier.Identifier.{Identifier}
use Rattle.verilog_ast.specs.Items.{ModuleItem, ModuleDeclaration}
use Rattle.width_rules.specs.Scopes.{Meaning, Constant, Unknown, Scope}
use Rattle.gen_unroll.specs.Declarations.{declared, item_names}
use Rattle.gen_unroll.specs.Steps.{GenerateBlock, ModuleStep, Listed, Port, Parameter, Item, Labelled, Opened, Closed}
use Rattle.gen_unroll.specs.Unrolled.{with_turn, own_names}

-- the names in reach, those around each open block, and the numbers of these blocks, both from the innermost one on
pub record Reach : Type 0 where
  pub scope : Scope
  pub around : List Scope
  pub blocks : List ℕ

-- where a module begins: its own names, and no block
abbrev pub reach_in : ModuleDeclaration → Reach
reach_in m = record { scope = own_names m; around = []; blocks = [] }

-- the innermost block, none in the module itself
abbrev pub innermost : List ℕ → Option ℕ
innermost [] = None
innermost (b ∷ bs) = Some b

abbrev pub same_block : Option ℕ → Option ℕ → Bool
same_block None None = true
same_block None (Some n) = false
same_block (Some m) None = false
same_block (Some m) (Some n) = m == n

abbrev pub blocks_around : List ℕ → List ℕ
blocks_around [] = []
blocks_around (b ∷ bs) = bs

abbrev pub scope_around : List Scope → Scope → Scope
scope_around [] scope = scope
scope_around (s ∷ ss) scope = s

abbrev pub scopes_behind : List Scope → List Scope
scopes_behind [] = []
scopes_behind (s ∷ ss) = ss

-- within a block, with the genvar of its turn and its own names
abbrev pub opened_reach : GenerateBlock → ModuleItem → Reach → Reach
opened_reach b items r = record {
  scope = item_names items (with_turn b.turn r.scope);
  around = r.scope ∷ r.around;
  blocks = b.number ∷ r.blocks;
}

-- behind a block, where the names around it come back
abbrev pub closed_reach : Reach → Reach
closed_reach r = record { scope = scope_around r.around r.scope; around = scopes_behind r.around; blocks = blocks_around r.blocks }

-- with one more name, in the innermost block
abbrev pub known_reach : Identifier → Meaning → Reach → Reach
known_reach n m r = record { scope = declared r.scope n m; around = r.around; blocks = r.blocks }

-- a parameter is known from here on, and so is a label, which no expression can use
abbrev pub in_reach : ModuleStep → Reach → Reach
in_reach (Listed n) r = r
in_reach (Port p) r = r
in_reach (Parameter s n v) r = known_reach n (Constant v.width v.value v.signed) r
in_reach (Item x) r = r
in_reach (Labelled n) r = known_reach n Unknown r
in_reach (Opened b items) r = opened_reach b items r
in_reach Closed r = closed_reach r

-- as many scopes as blocks
abbrev pub IsEven : Reach → Type 0
IsEven r = length r.around ≡ length r.blocks
