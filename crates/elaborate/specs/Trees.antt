-- The tree of a design: its instances as the designs above see them (IEEE Std 1364-2005, 12.1 and 12.4).
use Rattle.std.specs.Prelude.{ℕ, zero, suc, List, [], ◌∷◌, map, Option, Some, None, Result, Ok}
use Rattle.ls_text.specs.declared.fault.Fault.{Fault}
use Rattle.verilog_ast.specs.Items.{ModuleDeclaration}
use Rattle.gen_unroll.specs.Spoken.{spoken}
use Rattle.gen_unroll.specs.Steps.{GenerateBlock}
use Rattle.ls_text.specs.Answers.{◌>>=◌}
use Rattle.gen_unroll.specs.Values.{ConstantValue}
use Rattle.elaborate.specs.declared.limits.Limits.{Limits}
use Rattle.elaborate.specs.Elaborated.{Standing, elaborated}
use Rattle.elaborate.specs.Ports.{PortOutline}

-- an instance: the place of the one that it stands in, what it is called there, its module with the values of the parameters outside of
-- generate blocks, its clock port, and its ports in the order of the header
pub record TreeInstance : Type 0 where
  pub parent : Option ℕ
  pub name : List ℕ
  pub instantiated : ℕ
  pub parameters : List ConstantValue
  pub clock : Option ℕ
  pub ports : List PortOutline

abbrev pub blocks_of : List Standing → ℕ → List GenerateBlock
blocks_of [] k = []
blocks_of (s ∷ ss) zero = s.visited.blocks
blocks_of (s ∷ ss) (suc k) = blocks_of ss k

-- the blocks of the module that an instance stands in
abbrev pub blocks_around : List Standing → Option ℕ → List GenerateBlock
blocks_around all None = []
blocks_around all (Some k) = blocks_of all k

-- what an instance is called in the one that it stands in
abbrev pub called : (texts : List (List ℕ)) → List Standing → Standing → List ℕ
called texts all s = spoken texts (blocks_around all s.parent) s.block s.name.name.0

abbrev pub seen_as : (name : List ℕ) → Standing → TreeInstance
seen_as name s = record {
  parent = s.parent;
  name = name;
  instantiated = s.instantiated;
  parameters = s.visited.checks.parameters;
  clock = s.clock;
  ports = s.visited.ports;
}

-- instances of these names, one after another
abbrev pub seen_under : (names : List (List ℕ)) → List Standing → List TreeInstance
seen_under [] ss = []
seen_under (name ∷ names) [] = []
seen_under (name ∷ names) (s ∷ ss) = seen_as name s ∷ seen_under names ss

abbrev pub seen : (texts : List (List ℕ)) → List Standing → Standing → TreeInstance
seen texts all s = seen_as (called texts all s) s

abbrev pub all_seen : (texts : List (List ℕ)) → List Standing → List TreeInstance
all_seen texts all = map (seen texts all) all

-- the instances of a design, or the first fault of its modules and its top, and then of what is visited from there
unfoldable pub tree : Limits → (texts : List (List ℕ)) → List ModuleDeclaration → (top clock : ℕ) → Result (List TreeInstance) Fault
tree l texts ms top clock = elaborated l ms top clock >>= λ all. Ok (all_seen texts all)
