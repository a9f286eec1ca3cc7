-- A module's declarations, ports and parameters, checked under other names.
use Rattle.std.proofs.Common.{◌≡◌, ℕ, Bool, false, List, [], ◌∷◌, map, Option, Some, None, Result, Ok, refl, sym, ◌∙◌, ap}
use Rattle.std.proofs.lemmas.List.{map-append}
use Rattle.std.specs.Option.{option_map}
use Rattle.ls_text.specs.declared.fault.Fault.{Fault}
use Rattle.ls_text.specs.declared.name_id.NameId.{NameId}
use Rattle.verilog_ast.specs.declared.identifier.Identifier.{Identifier}
use Rattle.verilog_ast.specs.declared.port_net.PortNet.{PortNet}
use Rattle.verilog_ast.specs.declared.port_net.PortNet.TheVariants as net
use Rattle.verilog_ast.specs.Declarations.{RangeBounds, Kind, Declared, DeclaredReg, PortDeclaration, InputPort, OutputPort, NextPort, header_net}
use Rattle.verilog_ast.specs.Expressions.{Expression}
use Rattle.verilog_ast.specs.Renamed.{renamed_identifier}
use Rattle.verilog_ast.specs.Renaming.{expression_as, range_as, kind_as, declared_as, declared_reg_as, port_as}
use Rattle.width_rules.specs.Renaming.{MeansSame}
use Rattle.width_rules.specs.Scopes.{Scope}
use Rattle.gen_unroll.specs.declared.parameter_sort.ParameterSort.{ParameterSort}
use Rattle.gen_unroll.specs.Declarations.{BitRange, declared_name, range_or_none}
use Rattle.gen_unroll.specs.Reaches.{Reach, innermost}
use Rattle.gen_unroll.specs.Values.{ConstantValue}
use Rattle.elaborate.specs.declared.declaration_kind.DeclarationKind.{DeclarationKind}
use Rattle.elaborate.specs.declared.declaration_kind.DeclarationKind.TheVariants as kind
use Rattle.elaborate.specs.Checks.{Checked, declaration, each, range_of_kind, plain, list_port, declare_port, header_port, body_port, variable, wire, reg, inputs, outputs, wires, regs, genvar, with_parameter, parameter}
use Rattle.elaborate.specs.Tables.{Declaration, declare, declare_net, kind_of_net}
use Rattle.elaborate.specs.Findings.{table_as, checked_as}
use Rattle.elaborate.specs.Renaming.{KeepsApart, SameReach, found_as, answer_as}
use Rattle.elaborate.proofs.RenamedAnswers.{bind_so, found_so, value_so, if_found}
use Rattle.elaborate.proofs.RenamedModules.{same_listed}
use Rattle.elaborate.proofs.RenamedNames.{names_so}
use Rattle.elaborate.proofs.RenamedTables.{same_declare, same_initial, same_declare_net}
use Rattle.elaborate.proofs.RenamedValues.{same_range_value}

-- one after another
pub each_so : {A : Type 0} (f : NameId → NameId) (moved : A → A) (step steps : A → Checked → Result Checked Fault)
    → ((x : A) (c : Checked) → steps (moved x) (checked_as f c) ≡ found_as f (checked_as f) (step x c))
    → (xs : List A) (c : Checked) → each steps (map moved xs) (checked_as f c) ≡ found_as f (checked_as f) (each step xs c)
each_so f moved step steps is [] c = refl
each_so f moved step steps is (x ∷ xs) c =
    found_so f (checked_as f) (checked_as f) _ _ _ _ (is x c) (λ next. each_so f moved step steps is xs next)

-- ---- ranges

pub range_so : (f : NameId → NameId) (scope other : Scope) (r : Option RangeBounds) → MeansSame f scope other
    → range_or_none other (option_map (range_as f) r) ≡ answer_as f (range_or_none scope r)
range_so f scope other None same = refl
range_so f scope other (Some r) same = bind_so f _ _ _ _ (same_range_value f scope other r same) (λ b. refl)

same_kind_range : (f : NameId → NameId) (scope other : Scope) (k : Kind) → MeansSame f scope other
    → range_of_kind other (kind_as f k) ≡ answer_as f (range_of_kind scope k)
same_kind_range f scope other k same = range_so f scope other k.range same

-- ---- names

pub plain_so : (f : NameId → NameId) (here there : Reach) (n : Identifier) (d : Declaration) (c : Checked) → KeepsApart f → SameReach f here there
    → plain there (renamed_identifier f n) d (checked_as f c) ≡ found_as f (checked_as f) (plain here n d c)
unfolding plain
plain_so f here there n d c apart same =
    found_so f (table_as f) (checked_as f) _ _ _ _
    (ap (λ (bs : List ℕ). declare (innermost bs) (renamed_identifier f n) d (table_as f c.declared)) same.blocks ∙ same_declare f (innermost here.blocks) n d c.declared apart)
    (λ t. refl)

pub list_port_so : (f : NameId → NameId) (n : Identifier) (c : Checked) → KeepsApart f
    → list_port (renamed_identifier f n) (checked_as f c) ≡ found_as f (checked_as f) (list_port n c)
unfolding list_port
list_port_so f n c apart =
    if_found f (checked_as f) _ _ _ _ _ _ (same_listed f n.name.0 c.ports apart) refl
    (ap (λ (ns : List Identifier). Ok (record (checked_as f c) { ports = ns })) (sym (map-append (renamed_identifier f) c.ports (n ∷ []))))

-- ---- ports of the header

declare_port_so : (f : NameId → NameId) (here there : Reach) (n : Identifier) (d : Declaration) (value : Option Expression) (c : Checked) → KeepsApart f → SameReach f here there
    → declare_port there (renamed_identifier f n) d (option_map (expression_as f) value) (checked_as f c) ≡ found_as f (checked_as f) (declare_port here n d value c)
unfolding declare_port
declare_port_so f here there n d value c apart same =
    found_so f (checked_as f) (checked_as f) _ _ _ _ (plain_so f here there n d c apart same)
    (λ next. found_so f (checked_as f) (checked_as f) _ _ _ _ (list_port_so f n (record next { port = d }) apart)
    (λ listed. value_so f (checked_as f) _ _ _ _ (same_initial f value n d.kind) (λ _. refl)))

pub header_port_so : (f : NameId → NameId) (here there : Reach) (p : PortDeclaration) (c : Checked) → KeepsApart f → SameReach f here there
    → header_port there (port_as f p) (checked_as f c) ≡ found_as f (checked_as f) (header_port here p c)
header_port_so f here there (InputPort at by k n) c apart same =
    value_so f (checked_as f) _ _ _ _ (same_kind_range f here.scope there.scope k same.names)
    (λ r. declare_port_so f here there n (declaration (kind.Input (header_net by)) r k.signed n) None c apart same)
header_port_so f here there (OutputPort at by k x) c apart same =
    value_so f (checked_as f) _ _ _ _ (same_kind_range f here.scope there.scope k same.names)
    (λ r. declare_port_so f here there x.name (declaration (kind.Output (header_net by)) r k.signed x.name) x.value c apart same)
header_port_so f here there (NextPort x) c apart same =
    declare_port_so f here there x.name (declaration c.port.kind c.port.range c.port.signed x.name) x.value c apart same

-- ---- declarations of the body

body_port_so : (f : NameId → NameId) (here there : Reach) (k : DeclarationKind) (range : Option BitRange) (signed : Bool) (n : Identifier) (c : Checked) → KeepsApart f → SameReach f here there
    → body_port there k range signed (renamed_identifier f n) (checked_as f c) ≡ found_as f (checked_as f) (body_port here k range signed n c)
unfolding body_port
body_port_so f here there k range signed n c apart same =
    found_so f (checked_as f) (checked_as f) _ _ _ _ (plain_so f here there n (declaration k range signed n) c apart same)
    (λ next. if_found f (checked_as f) _ _ _ _ _ _ (same_listed f n.name.0 next.ports apart) refl refl)

variable_so : (f : NameId → NameId) (here there : Reach) (by : PortNet) (range : Option BitRange) (signed : Bool) (n : Identifier) (value : Option Expression) (c : Checked) → KeepsApart f → SameReach f here there
    → variable there by range signed (renamed_identifier f n) (option_map (expression_as f) value) (checked_as f c) ≡ found_as f (checked_as f) (variable here by range signed n value c)
unfolding variable
variable_so f here there by range signed n value c apart same =
    found_so f (table_as f) (checked_as f) _ _ _ _
    (ap (λ (bs : List ℕ). declare_net (innermost bs) (renamed_identifier f n) by (declaration (kind_of_net by) range signed n) (option_map (expression_as f) value) (table_as f c.declared)) same.blocks
    ∙ same_declare_net f (innermost here.blocks) n by (declaration (kind_of_net by) range signed n) value c.declared apart)
    (λ t. refl)

pub inputs_so : (f : NameId → NameId) (here there : Reach) (by : PortNet) (k : Kind) (ns : List Identifier) (c : Checked) → KeepsApart f → SameReach f here there
    → inputs there by (kind_as f k) (map (renamed_identifier f) ns) (checked_as f c) ≡ found_as f (checked_as f) (inputs here by k ns c)
inputs_so f here there by k ns c apart same =
    value_so f (checked_as f) _ _ _ _ (same_kind_range f here.scope there.scope k same.names)
    (λ r. each_so f (renamed_identifier f) (body_port here (kind.Input by) r k.signed) (body_port there (kind.Input by) r k.signed)
    (λ n d. body_port_so f here there (kind.Input by) r k.signed n d apart same) ns c)

pub outputs_so : (f : NameId → NameId) (here there : Reach) (by : PortNet) (k : Kind) (xs : List Declared) (c : Checked) → KeepsApart f → SameReach f here there
    → outputs there by (kind_as f k) (map (declared_as f) xs) (checked_as f c) ≡ found_as f (checked_as f) (outputs here by k xs c)
outputs_so f here there by k xs c apart same =
    value_so f (checked_as f) _ _ _ _ (same_kind_range f here.scope there.scope k same.names)
    (λ r. ap (λ (ns : List Identifier). each (body_port there (kind.Output by) r k.signed) ns (checked_as f c)) (names_so f declared_name (declared_as f) (λ x. refl) xs)
    ∙ each_so f (renamed_identifier f) (body_port here (kind.Output by) r k.signed) (body_port there (kind.Output by) r k.signed)
    (λ n d. body_port_so f here there (kind.Output by) r k.signed n d apart same) (map declared_name xs) c)

pub wires_so : (f : NameId → NameId) (here there : Reach) (k : Kind) (xs : List Declared) (c : Checked) → KeepsApart f → SameReach f here there
    → wires there (kind_as f k) (map (declared_as f) xs) (checked_as f c) ≡ found_as f (checked_as f) (wires here k xs c)
wires_so f here there k xs c apart same =
    value_so f (checked_as f) _ _ _ _ (same_kind_range f here.scope there.scope k same.names)
    (λ r. each_so f (declared_as f) (wire here r k.signed) (wire there r k.signed)
    (λ x d. variable_so f here there net.Wire r k.signed x.name x.value d apart same) xs c)

pub regs_so : (f : NameId → NameId) (here there : Reach) (k : Kind) (xs : List DeclaredReg) (c : Checked) → KeepsApart f → SameReach f here there
    → regs there (kind_as f k) (map (declared_reg_as f) xs) (checked_as f c) ≡ found_as f (checked_as f) (regs here k xs c)
regs_so f here there k xs c apart same =
    value_so f (checked_as f) _ _ _ _ (same_kind_range f here.scope there.scope k same.names)
    (λ r. each_so f (declared_reg_as f) (reg here r k.signed) (reg there r k.signed)
    (λ x d. variable_so f here there net.Reg r k.signed x.name x.value d apart same) xs c)

pub genvars_so : (f : NameId → NameId) (here there : Reach) (ns : List Identifier) (c : Checked) → KeepsApart f → SameReach f here there
    → each (genvar there) (map (renamed_identifier f) ns) (checked_as f c) ≡ found_as f (checked_as f) (each (genvar here) ns c)
genvars_so f here there ns c apart same =
    each_so f (renamed_identifier f) (genvar here) (genvar there) (λ n d. plain_so f here there n (declaration kind.Genvar None false n) d apart same) ns c

-- ---- parameters

with_parameter_moves : (f : NameId → NameId) (block : Option ℕ) (v : ConstantValue) (c : Checked) → with_parameter block v (checked_as f c) ≡ checked_as f (with_parameter block v c)
with_parameter_moves f None v c = refl
with_parameter_moves f (Some b) v c = refl

pub parameter_so : (f : NameId → NameId) (here there : Reach) (s : ParameterSort) (n : Identifier) (v : ConstantValue) (c : Checked) → KeepsApart f → SameReach f here there
    → parameter there s (renamed_identifier f n) v (checked_as f c) ≡ found_as f (checked_as f) (parameter here s n v c)
unfolding parameter
parameter_so f here there s n v c apart same =
    found_so f (checked_as f) (checked_as f) _ _ _ _ (plain_so f here there n (declaration (kind.Parameter s) None v.signed n) c apart same)
    (λ next. ap (λ (bs : List ℕ). Ok (with_parameter (innermost bs) v (checked_as f next))) same.blocks ∙ ap Ok (with_parameter_moves f (innermost here.blocks) v next))
