-- A declaration or a connection that stands for tokens stands without places for the tokens without theirs.
use Rattle.std.proofs.Common.{◌≡◌, ◌≢◌, List, map, true, false, subst}
use Rattle.std.specs.Option.{option_map}
use Rattle.ls_text.specs.declared.place.Place.{Place}
use Rattle.verilog_lex.specs.declared.token.Token.{Token}
use Rattle.verilog_lex.specs.declared.kind.Kind.{Kind}
use Rattle.verilog_lex.specs.declared.kind.Kind.TheVariants as k
use Rattle.version_swap.specs.Unplaced.{unplaced_name}
use Rattle.version_swap.proofs.BareForms.{bare_expression, bare_range, bare_shape, bare_variable, bare_reg_variable, bare_parameter, bare_named, bare_ordered, bare_connections, bare_instance, bare_tokens}
use Rattle.verilog_expr.specs.Grammar.{begins_expression}
use Rattle.version_swap.proofs.BareTokens.{at_next, takes_so, same_place}
use Rattle.version_swap.proofs.BareSpells.{spells_so}
use Rattle.verilog_decl.specs.Declarations.{Phrase, Spells, AShape, OptionalSigned, OptionalRange, OptionalWire, OptionalNet, Names, NamesBehind, OtherNames, AVariable, OptionalValue, Variables, VariablesBehind, OtherVariables, ARegVariable, RegVariables, RegVariablesBehind, OtherRegVariables, AParameter, Parameters, ParametersBehind, OtherParameters, Overrides, Instances, InstancesBehind, OtherInstances, AnInstance, AConnections, ANamedConnection, NamedBehind, OtherNamed, AnOrdered, OrderedBehind, OtherOrdered, OptionalExpression, shape, not_signed, is_signed, no_range, a_range, no_wire, a_wire, no_net, net_wire, net_reg, names, names_behind, no_name, another_name, variable, no_value, a_value, variables, variables_behind, no_variable, another_variable, reg_variable, reg_variables, reg_variables_behind, no_reg_variable, another_reg_variable, parameter, parameters, parameters_behind, no_parameter, another_parameter, no_override, an_override, instances, instances_behind, no_instance, another_instance, instance_, by_name, by_order, named, named_behind, no_named, another_named, ordered, ordered_behind, no_ordered, another_ordered, no_expression, an_expression}

abbrev pub bare_phrase : Phrase → Phrase
bare_phrase (AShape x) = AShape (bare_shape x)
bare_phrase (OptionalSigned x) = OptionalSigned x
bare_phrase (OptionalRange x) = OptionalRange (option_map bare_range x)
bare_phrase (OptionalWire x) = OptionalWire x
bare_phrase (OptionalNet x) = OptionalNet x
bare_phrase (Names x) = Names (map unplaced_name x)
bare_phrase (NamesBehind x y) = NamesBehind (unplaced_name x) (map unplaced_name y)
bare_phrase (OtherNames x) = OtherNames (map unplaced_name x)
bare_phrase (AVariable x) = AVariable (bare_variable x)
bare_phrase (OptionalValue x) = OptionalValue (option_map bare_expression x)
bare_phrase (Variables x) = Variables (map bare_variable x)
bare_phrase (VariablesBehind x y) = VariablesBehind (bare_variable x) (map bare_variable y)
bare_phrase (OtherVariables x) = OtherVariables (map bare_variable x)
bare_phrase (ARegVariable x) = ARegVariable (bare_reg_variable x)
bare_phrase (RegVariables x) = RegVariables (map bare_reg_variable x)
bare_phrase (RegVariablesBehind x y) = RegVariablesBehind (bare_reg_variable x) (map bare_reg_variable y)
bare_phrase (OtherRegVariables x) = OtherRegVariables (map bare_reg_variable x)
bare_phrase (AParameter x) = AParameter (bare_parameter x)
bare_phrase (Parameters x) = Parameters (map bare_parameter x)
bare_phrase (ParametersBehind x y) = ParametersBehind (bare_parameter x) (map bare_parameter y)
bare_phrase (OtherParameters x) = OtherParameters (map bare_parameter x)
bare_phrase (Overrides x) = Overrides (option_map bare_connections x)
bare_phrase (Instances x) = Instances (map bare_instance x)
bare_phrase (InstancesBehind x y) = InstancesBehind (bare_instance x) (map bare_instance y)
bare_phrase (OtherInstances x) = OtherInstances (map bare_instance x)
bare_phrase (AnInstance x) = AnInstance (bare_instance x)
bare_phrase (AConnections x) = AConnections (bare_connections x)
bare_phrase (ANamedConnection x) = ANamedConnection (bare_named x)
bare_phrase (NamedBehind x y) = NamedBehind (bare_named x) (map bare_named y)
bare_phrase (OtherNamed x) = OtherNamed (map bare_named x)
bare_phrase (AnOrdered x) = AnOrdered (bare_ordered x)
bare_phrase (OrderedBehind x y) = OrderedBehind (bare_ordered x) (map bare_ordered y)
bare_phrase (OtherOrdered x) = OtherOrdered (map bare_ordered x)
bare_phrase (OptionalExpression x) = OptionalExpression (option_map bare_expression x)

pub declaration_so : {phrase : Phrase} {s r : List Token} → Spells phrase s r
    → Spells (bare_phrase phrase) (bare_tokens s) (bare_tokens r)
declaration_so (shape h i) = shape (declaration_so h) (declaration_so i)
declaration_so (not_signed {s = s} h) = not_signed (at_next s (λ (kind : Kind). kind ≢ k.Signed) h)
declaration_so (is_signed h) = is_signed (takes_so h)
declaration_so (no_range {s = s} h) = no_range (at_next s (λ (kind : Kind). kind ≢ k.LeftBracket) h)
declaration_so (a_range {s = s} h i) = a_range (at_next s (λ (kind : Kind). k.LeftBracket ≡ kind) h) (spells_so i)
declaration_so (no_wire {s = s} h) = no_wire (at_next s (λ (kind : Kind). kind ≢ k.Wire) h)
declaration_so (a_wire h) = a_wire (takes_so h)
declaration_so (no_net {s = s} h i) = no_net (at_next s (λ (kind : Kind). kind ≢ k.Wire) h) (at_next s (λ (kind : Kind). kind ≢ k.Reg) i)
declaration_so (net_wire h) = net_wire (takes_so h)
declaration_so (net_reg h) = net_reg (takes_so h)
declaration_so (names h i) = names (takes_so h) (declaration_so i)
declaration_so (names_behind h) = names_behind (declaration_so h)
declaration_so (no_name {s = s} h) = no_name (at_next s (λ (kind : Kind). kind ≢ k.Comma) h)
declaration_so (another_name h i j) = another_name (takes_so h) (takes_so i) (declaration_so j)
declaration_so (variable h i) = variable (takes_so h) (declaration_so i)
declaration_so (no_value {s = s} h) = no_value (at_next s (λ (kind : Kind). kind ≢ k.Equal) h)
declaration_so (a_value h i) = a_value (takes_so h) (spells_so i)
declaration_so (variables h i) = variables (declaration_so h) (declaration_so i)
declaration_so (variables_behind h) = variables_behind (declaration_so h)
declaration_so (no_variable {s = s} h) = no_variable (at_next s (λ (kind : Kind). kind ≢ k.Comma) h)
declaration_so (another_variable h i j) = another_variable (takes_so h) (declaration_so i) (declaration_so j)
declaration_so (reg_variable h) = reg_variable (declaration_so h)
declaration_so (reg_variables h i) = reg_variables (declaration_so h) (declaration_so i)
declaration_so (reg_variables_behind h) = reg_variables_behind (declaration_so h)
declaration_so (no_reg_variable {s = s} h) = no_reg_variable (at_next s (λ (kind : Kind). kind ≢ k.Comma) h)
declaration_so (another_reg_variable h i j) = another_reg_variable (takes_so h) (declaration_so i) (declaration_so j)
declaration_so (parameter h i j) = parameter (takes_so h) (takes_so i) (spells_so j)
declaration_so (parameters h i) = parameters (declaration_so h) (declaration_so i)
declaration_so (parameters_behind h) = parameters_behind (declaration_so h)
declaration_so (no_parameter {s = s} h) = no_parameter (at_next s (λ (kind : Kind). kind ≢ k.Comma) h)
declaration_so (another_parameter h i j) = another_parameter (takes_so h) (declaration_so i) (declaration_so j)
declaration_so (no_override {s = s} h) = no_override (at_next s (λ (kind : Kind). kind ≢ k.Hash) h)
declaration_so (an_override h i j o) = an_override (takes_so h) (takes_so i) (declaration_so j) (takes_so o)
declaration_so (instances h i) = instances (declaration_so h) (declaration_so i)
declaration_so (instances_behind h) = instances_behind (declaration_so h)
declaration_so (no_instance {s = s} h) = no_instance (at_next s (λ (kind : Kind). kind ≢ k.Comma) h)
declaration_so (another_instance h i j) = another_instance (takes_so h) (declaration_so i) (declaration_so j)
declaration_so (instance_ h i j o) = instance_ (takes_so h) (takes_so i) (declaration_so j) (takes_so o)
declaration_so (by_name {s = s} h i j) = by_name (at_next s (λ (kind : Kind). k.Dot ≡ kind) h) (declaration_so i) (declaration_so j)
declaration_so (by_order {s = s} h i j) = by_order (at_next s (λ (kind : Kind). kind ≢ k.Dot) h) (declaration_so i) (declaration_so j)
declaration_so (named h i j o q) = named (takes_so h) (takes_so i) (takes_so j) (declaration_so o) (takes_so q)
declaration_so (named_behind h) = named_behind (declaration_so h)
declaration_so (no_named {s = s} h) = no_named (at_next s (λ (kind : Kind). kind ≢ k.Comma) h)
declaration_so (another_named h i j) = another_named (takes_so h) (declaration_so i) (declaration_so j)
declaration_so (ordered {x = x} {s = s} {r = r} h) =
    subst (λ (z : Place). Spells (AnOrdered (record { at = z; value = option_map bare_expression x })) (bare_tokens s) (bare_tokens r))
    (same_place s)
    (ordered (declaration_so h))
declaration_so (ordered_behind h) = ordered_behind (declaration_so h)
declaration_so (no_ordered {s = s} h) = no_ordered (at_next s (λ (kind : Kind). kind ≢ k.Comma) h)
declaration_so (another_ordered h i j) = another_ordered (takes_so h) (declaration_so i) (declaration_so j)
declaration_so (no_expression {s = s} h) = no_expression (at_next s (λ (kind : Kind). begins_expression kind ≡ false) h)
declaration_so (an_expression {s = s} h i) = an_expression (at_next s (λ (kind : Kind). begins_expression kind ≡ true) h) (spells_so i)
