-- A declaration or a connection that stands for tokens stands under other names for the tokens under these.
use Rattle.std.proofs.Common.{◌≡◌, ◌≢◌, List, map, true, false, subst}
use Rattle.std.specs.Option.{option_map}
use Rattle.ls_text.specs.declared.place.Place.{Place}
use Rattle.ls_text.specs.declared.name_id.NameId.{NameId}
use Rattle.verilog_lex.specs.declared.token.Token.{Token}
use Rattle.verilog_lex.specs.declared.kind.Kind.{Kind}
use Rattle.verilog_lex.specs.declared.kind.Kind.TheVariants as k
use Rattle.verilog_ast.specs.Renamed.{renamed_identifier, renamed_expression, renamed_range, renamed_shape, renamed_variable, renamed_reg_variable, renamed_parameter, renamed_named, renamed_ordered, renamed_connections, renamed_instance}
use Rattle.verilog_expr.specs.Grammar.{begins_expression}
use Rattle.verilog_expr.specs.Renamed.{retokens}
use Rattle.verilog_expr.proofs.RenamedTokens.{at_next, takes_so, same_place}
use Rattle.verilog_expr.proofs.RenamedSpells.{spells_so}
use Rattle.verilog_decl.specs.Declarations.{Phrase, Spells, AShape, OptionalSigned, OptionalRange, OptionalWire, OptionalNet, Names, NamesBehind, OtherNames, AVariable, OptionalValue, Variables, VariablesBehind, OtherVariables, ARegVariable, RegVariables, RegVariablesBehind, OtherRegVariables, AParameter, Parameters, ParametersBehind, OtherParameters, Overrides, Instances, InstancesBehind, OtherInstances, AnInstance, AConnections, ANamedConnection, NamedBehind, OtherNamed, AnOrdered, OrderedBehind, OtherOrdered, OptionalExpression, shape, not_signed, is_signed, no_range, a_range, no_wire, a_wire, no_net, net_wire, net_reg, names, names_behind, no_name, another_name, variable, no_value, a_value, variables, variables_behind, no_variable, another_variable, reg_variable, reg_variables, reg_variables_behind, no_reg_variable, another_reg_variable, parameter, parameters, parameters_behind, no_parameter, another_parameter, no_override, an_override, instances, instances_behind, no_instance, another_instance, instance_, by_name, by_order, named, named_behind, no_named, another_named, ordered, ordered_behind, no_ordered, another_ordered, no_expression, an_expression}

abbrev pub renamed_phrase : (NameId → NameId) → Phrase → Phrase
renamed_phrase f (AShape x) = AShape (renamed_shape f x)
renamed_phrase f (OptionalSigned x) = OptionalSigned x
renamed_phrase f (OptionalRange x) = OptionalRange (option_map (renamed_range f) x)
renamed_phrase f (OptionalWire x) = OptionalWire x
renamed_phrase f (OptionalNet x) = OptionalNet x
renamed_phrase f (Names x) = Names (map (renamed_identifier f) x)
renamed_phrase f (NamesBehind x y) = NamesBehind (renamed_identifier f x) (map (renamed_identifier f) y)
renamed_phrase f (OtherNames x) = OtherNames (map (renamed_identifier f) x)
renamed_phrase f (AVariable x) = AVariable (renamed_variable f x)
renamed_phrase f (OptionalValue x) = OptionalValue (option_map (renamed_expression f) x)
renamed_phrase f (Variables x) = Variables (map (renamed_variable f) x)
renamed_phrase f (VariablesBehind x y) = VariablesBehind (renamed_variable f x) (map (renamed_variable f) y)
renamed_phrase f (OtherVariables x) = OtherVariables (map (renamed_variable f) x)
renamed_phrase f (ARegVariable x) = ARegVariable (renamed_reg_variable f x)
renamed_phrase f (RegVariables x) = RegVariables (map (renamed_reg_variable f) x)
renamed_phrase f (RegVariablesBehind x y) = RegVariablesBehind (renamed_reg_variable f x) (map (renamed_reg_variable f) y)
renamed_phrase f (OtherRegVariables x) = OtherRegVariables (map (renamed_reg_variable f) x)
renamed_phrase f (AParameter x) = AParameter (renamed_parameter f x)
renamed_phrase f (Parameters x) = Parameters (map (renamed_parameter f) x)
renamed_phrase f (ParametersBehind x y) = ParametersBehind (renamed_parameter f x) (map (renamed_parameter f) y)
renamed_phrase f (OtherParameters x) = OtherParameters (map (renamed_parameter f) x)
renamed_phrase f (Overrides x) = Overrides (option_map (renamed_connections f) x)
renamed_phrase f (Instances x) = Instances (map (renamed_instance f) x)
renamed_phrase f (InstancesBehind x y) = InstancesBehind (renamed_instance f x) (map (renamed_instance f) y)
renamed_phrase f (OtherInstances x) = OtherInstances (map (renamed_instance f) x)
renamed_phrase f (AnInstance x) = AnInstance (renamed_instance f x)
renamed_phrase f (AConnections x) = AConnections (renamed_connections f x)
renamed_phrase f (ANamedConnection x) = ANamedConnection (renamed_named f x)
renamed_phrase f (NamedBehind x y) = NamedBehind (renamed_named f x) (map (renamed_named f) y)
renamed_phrase f (OtherNamed x) = OtherNamed (map (renamed_named f) x)
renamed_phrase f (AnOrdered x) = AnOrdered (renamed_ordered f x)
renamed_phrase f (OrderedBehind x y) = OrderedBehind (renamed_ordered f x) (map (renamed_ordered f) y)
renamed_phrase f (OtherOrdered x) = OtherOrdered (map (renamed_ordered f) x)
renamed_phrase f (OptionalExpression x) = OptionalExpression (option_map (renamed_expression f) x)

pub declaration_so : (f : NameId → NameId) {phrase : Phrase} {s r : List Token} → Spells phrase s r
    → Spells (renamed_phrase f phrase) (retokens f s) (retokens f r)
declaration_so f (shape h i) = shape (declaration_so f h) (declaration_so f i)
declaration_so f (not_signed {s = s} h) = not_signed (at_next f s (λ (kind : Kind). kind ≢ k.Signed) h)
declaration_so f (is_signed h) = is_signed (takes_so f h)
declaration_so f (no_range {s = s} h) = no_range (at_next f s (λ (kind : Kind). kind ≢ k.LeftBracket) h)
declaration_so f (a_range {s = s} h i) = a_range (at_next f s (λ (kind : Kind). k.LeftBracket ≡ kind) h) (spells_so f i)
declaration_so f (no_wire {s = s} h) = no_wire (at_next f s (λ (kind : Kind). kind ≢ k.Wire) h)
declaration_so f (a_wire h) = a_wire (takes_so f h)
declaration_so f (no_net {s = s} h i) = no_net (at_next f s (λ (kind : Kind). kind ≢ k.Wire) h) (at_next f s (λ (kind : Kind). kind ≢ k.Reg) i)
declaration_so f (net_wire h) = net_wire (takes_so f h)
declaration_so f (net_reg h) = net_reg (takes_so f h)
declaration_so f (names h i) = names (takes_so f h) (declaration_so f i)
declaration_so f (names_behind h) = names_behind (declaration_so f h)
declaration_so f (no_name {s = s} h) = no_name (at_next f s (λ (kind : Kind). kind ≢ k.Comma) h)
declaration_so f (another_name h i j) = another_name (takes_so f h) (takes_so f i) (declaration_so f j)
declaration_so f (variable h i) = variable (takes_so f h) (declaration_so f i)
declaration_so f (no_value {s = s} h) = no_value (at_next f s (λ (kind : Kind). kind ≢ k.Equal) h)
declaration_so f (a_value h i) = a_value (takes_so f h) (spells_so f i)
declaration_so f (variables h i) = variables (declaration_so f h) (declaration_so f i)
declaration_so f (variables_behind h) = variables_behind (declaration_so f h)
declaration_so f (no_variable {s = s} h) = no_variable (at_next f s (λ (kind : Kind). kind ≢ k.Comma) h)
declaration_so f (another_variable h i j) = another_variable (takes_so f h) (declaration_so f i) (declaration_so f j)
declaration_so f (reg_variable h) = reg_variable (declaration_so f h)
declaration_so f (reg_variables h i) = reg_variables (declaration_so f h) (declaration_so f i)
declaration_so f (reg_variables_behind h) = reg_variables_behind (declaration_so f h)
declaration_so f (no_reg_variable {s = s} h) = no_reg_variable (at_next f s (λ (kind : Kind). kind ≢ k.Comma) h)
declaration_so f (another_reg_variable h i j) = another_reg_variable (takes_so f h) (declaration_so f i) (declaration_so f j)
declaration_so f (parameter h i j) = parameter (takes_so f h) (takes_so f i) (spells_so f j)
declaration_so f (parameters h i) = parameters (declaration_so f h) (declaration_so f i)
declaration_so f (parameters_behind h) = parameters_behind (declaration_so f h)
declaration_so f (no_parameter {s = s} h) = no_parameter (at_next f s (λ (kind : Kind). kind ≢ k.Comma) h)
declaration_so f (another_parameter h i j) = another_parameter (takes_so f h) (declaration_so f i) (declaration_so f j)
declaration_so f (no_override {s = s} h) = no_override (at_next f s (λ (kind : Kind). kind ≢ k.Hash) h)
declaration_so f (an_override h i j o) = an_override (takes_so f h) (takes_so f i) (declaration_so f j) (takes_so f o)
declaration_so f (instances h i) = instances (declaration_so f h) (declaration_so f i)
declaration_so f (instances_behind h) = instances_behind (declaration_so f h)
declaration_so f (no_instance {s = s} h) = no_instance (at_next f s (λ (kind : Kind). kind ≢ k.Comma) h)
declaration_so f (another_instance h i j) = another_instance (takes_so f h) (declaration_so f i) (declaration_so f j)
declaration_so f (instance_ h i j o) = instance_ (takes_so f h) (takes_so f i) (declaration_so f j) (takes_so f o)
declaration_so f (by_name {s = s} h i j) = by_name (at_next f s (λ (kind : Kind). k.Dot ≡ kind) h) (declaration_so f i) (declaration_so f j)
declaration_so f (by_order {s = s} h i j) = by_order (at_next f s (λ (kind : Kind). kind ≢ k.Dot) h) (declaration_so f i) (declaration_so f j)
declaration_so f (named h i j o q) = named (takes_so f h) (takes_so f i) (takes_so f j) (declaration_so f o) (takes_so f q)
declaration_so f (named_behind h) = named_behind (declaration_so f h)
declaration_so f (no_named {s = s} h) = no_named (at_next f s (λ (kind : Kind). kind ≢ k.Comma) h)
declaration_so f (another_named h i j) = another_named (takes_so f h) (declaration_so f i) (declaration_so f j)
declaration_so f (ordered {x = x} {s = s} {r = r} h) =
    subst (λ (z : Place). Spells (AnOrdered (record { at = z; value = option_map (renamed_expression f) x })) (retokens f s) (retokens f r))
    (same_place f s)
    (ordered (declaration_so f h))
declaration_so f (ordered_behind h) = ordered_behind (declaration_so f h)
declaration_so f (no_ordered {s = s} h) = no_ordered (at_next f s (λ (kind : Kind). kind ≢ k.Comma) h)
declaration_so f (another_ordered h i j) = another_ordered (takes_so f h) (declaration_so f i) (declaration_so f j)
declaration_so f (no_expression {s = s} h) = no_expression (at_next f s (λ (kind : Kind). begins_expression kind ≡ false) h)
declaration_so f (an_expression {s = s} h i) = an_expression (at_next f s (λ (kind : Kind). begins_expression kind ≡ true) h) (spells_so f i)
