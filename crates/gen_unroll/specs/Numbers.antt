-- The signals of a module by numbers of their own, its ports first, in the order of the header (IEEE Std 1364-2005, 12.3).
use Rattle.std.specs.Prelude.{ℕ, zero, suc, Bool, ◌&&◌, ◌==◌, not, if◌then◌else◌, List, [], ◌∷◌, ◌++◌, map, length, filter, Option, Some, None, is_some, Result, Ok}
use Rattle.std.specs.Option.{option_map, option_to_list}
use Rattle.ls_text.specs.declared.fault.Fault.{Fault}
use Rattle.verilog_ast.specs.declared.identifier.Identifier.{Identifier}
use Rattle.verilog_ast.specs.Declarations.{PortList, NoPorts, NamedPorts, DeclaredPorts}
use Rattle.verilog_ast.specs.Items.{ModuleDeclaration}
use Rattle.gen_unroll.specs.Declarations.{port_name}
use Rattle.gen_unroll.specs.Reaches.{reach_in, same_block}
use Rattle.gen_unroll.specs.Steps.{ModuleStep}
use Rattle.ls_text.specs.Answers.{◌>>=◌}
use Rattle.gen_unroll.specs.Signals.{NamedSignal, is_outermost, is_port, is_port_named, declared_in}

-- the names that a header lists or declares
abbrev pub header_names : PortList → List Identifier
header_names NoPorts = []
header_names (NamedPorts names) = names
header_names (DeclaredPorts ports) = map port_name ports

-- the first signal that meets a test, and its place
abbrev pub first_where : (NamedSignal → Bool) → List NamedSignal → Option NamedSignal
first_where test [] = None
first_where test (x ∷ xs) = if test x then Some x else first_where test xs

abbrev pub place_where : (NamedSignal → Bool) → List NamedSignal → Option ℕ
place_where test [] = None
place_where test (x ∷ xs) = if test x then Some 0 else option_map suc (place_where test xs)

-- ---- names of the module itself

abbrev pub is_own_named : ℕ → NamedSignal → Bool
is_own_named name x = is_outermost x.block && (x.name.name.0 == name)

-- the number that a name of the module itself has
abbrev pub number_of_name : ℕ → List NamedSignal → Option ℕ
number_of_name name xs = place_where (is_own_named name) xs

-- ---- numbers

-- the first port of a name of the header, behind these; a name counts once, and one without a port gives nothing
abbrev pub with_header_port : List NamedSignal → Identifier → List NamedSignal → List NamedSignal
with_header_port xs n out =
    if is_some (number_of_name n.name.0 out) then out else out ++ option_to_list (first_where (is_port_named n.name.0) xs)

-- those of all its names, one after another
abbrev pub ports_onto : List Identifier → (xs out : List NamedSignal) → List NamedSignal
ports_onto [] xs out = out
ports_onto (n ∷ ns) xs out = ports_onto ns xs (with_header_port xs n out)

abbrev pub is_no_port : NamedSignal → Bool
is_no_port x = not (is_port x)

-- the ports in the order of the header, and then all that are none; the number of a signal is its place here
abbrev pub numbered : List Identifier → List NamedSignal → List NamedSignal
numbered header xs = ports_onto header xs [] ++ filter is_no_port xs

-- ---- the order of declarations

abbrev pub has_order : ℕ → NamedSignal → Bool
has_order k x = x.order == k

-- the numbers of the signals that were declared k-th and later, so many
abbrev pub numbers_from : (k left : ℕ) → List NamedSignal → List ℕ
numbers_from k zero xs = []
numbers_from k (suc left) xs = option_to_list (place_where (has_order k) xs) ++ numbers_from (suc k) left xs

-- the signals by their numbers, and these in the order of their declarations
pub record SignalTable : Type 0 where
  pub signals : List NamedSignal
  pub declared : List ℕ

abbrev pub table_of : List Identifier → List NamedSignal → SignalTable
table_of header xs = record { signals = numbered header xs; declared = numbers_from 0 (length xs) (numbered header xs) }

-- the signals of a module with these steps
unfoldable pub module_table : ModuleDeclaration → List ModuleStep → Result SignalTable Fault
module_table m steps = declared_in (reach_in m) steps [] >>= λ xs. Ok (table_of (header_names m.ports) xs)

-- ---- those of a block

-- a signal with its number
pub record NumberedSignal : Type 0 where
  pub number : ℕ
  pub signal : NamedSignal

-- those of a block with their numbers, of signals that are numbered from k on
abbrev pub in_block_from : ℕ → Option ℕ → List NamedSignal → List NumberedSignal
in_block_from k b [] = []
in_block_from k b (x ∷ xs) =
    if same_block b x.block then record { number = k; signal = x } ∷ in_block_from (suc k) b xs else in_block_from (suc k) b xs

abbrev pub in_block : Option ℕ → List NamedSignal → List NumberedSignal
in_block b xs = in_block_from 0 b xs
