-- The machine takes the tokens that a declaration or a connection stands for, unless too much is open.
use Rattle.std.proofs.Common.{◌≡◌, ◌+◌, ◌++◌, ◌∙◌, ℕ, List, [], ◌∷◌, Some, refl, sym, ap}
use Rattle.verilog_lex.specs.declared.token.Token.{Token}
use Rattle.verilog_lex.specs.declared.kind.Kind.{Kind}
use Rattle.verilog_expr.specs.Tokens.{next}
use Rattle.verilog_expr.specs.Grammar as g
use Rattle.verilog_expr.specs.Grammar.{N, Nonterminal, entry, Symbol}
use Rattle.verilog_expr.proofs.Entries as e
use Rattle.verilog_expr.proofs.Complete.{Gets, gets_end, gets_token, gets_at, gets_skip, enters, ◌⊳◌}
use Rattle.verilog_expr.proofs.Complete as expressions
use Rattle.verilog_decl.specs.Declarations as d

-- what the next token, seen before it is taken, makes the machine enter
pub seen : {x : Nonterminal} {w : ℕ} {alternative k : List Symbol} {s r : List Token} {kind : Kind} → kind ≡ next s → entry x w kind ≡ Some alternative → Gets (alternative ++ k) s r → Gets (N x w ∷ k) s r
seen {x} {w} is entered h = enters (ap (entry x w) (sym is) ∙ entered) h

abbrev MeetsDeclaration : d.Phrase → ℕ → List Token → List Token → Type 0
MeetsDeclaration (d.AShape x) w a r = Gets (N g.AShape w ∷ []) a r
MeetsDeclaration (d.OptionalSigned x) w a r = Gets (N g.OptionalSigned w ∷ []) a r
MeetsDeclaration (d.OptionalRange x) w a r = Gets (N g.OptionalRange w ∷ []) a r
MeetsDeclaration (d.OptionalWire x) w a r = Gets (N g.OptionalWire w ∷ []) a r
MeetsDeclaration (d.OptionalNet x) w a r = Gets (N g.OptionalNet w ∷ []) a r
MeetsDeclaration (d.Names xs) w a r = Gets (N g.Names w ∷ []) a r
MeetsDeclaration (d.NamesBehind x xs) w a r = Gets (N g.MoreNames w ∷ []) a r
MeetsDeclaration (d.OtherNames xs) w a r = Gets (N g.MoreNames w ∷ []) a r
MeetsDeclaration (d.AVariable x) w a r = Gets (N g.AVariable w ∷ []) a r
MeetsDeclaration (d.OptionalValue x) w a r = Gets (N g.OptionalValue w ∷ []) a r
MeetsDeclaration (d.Variables xs) w a r = Gets (N g.Variables w ∷ []) a r
MeetsDeclaration (d.VariablesBehind x xs) w a r = Gets (N g.MoreVariables w ∷ []) a r
MeetsDeclaration (d.OtherVariables xs) w a r = Gets (N g.MoreVariables w ∷ []) a r
MeetsDeclaration (d.ARegVariable x) w a r = Gets (N g.AVariable w ∷ []) a r
MeetsDeclaration (d.RegVariables xs) w a r = Gets (N g.Variables w ∷ []) a r
MeetsDeclaration (d.RegVariablesBehind x xs) w a r = Gets (N g.MoreVariables w ∷ []) a r
MeetsDeclaration (d.OtherRegVariables xs) w a r = Gets (N g.MoreVariables w ∷ []) a r
MeetsDeclaration (d.AParameter x) w a r = Gets (N g.AParameter w ∷ []) a r
MeetsDeclaration (d.Parameters xs) w a r = Gets (N g.Parameters w ∷ []) a r
MeetsDeclaration (d.ParametersBehind x xs) w a r = Gets (N g.MoreParameters w ∷ []) a r
MeetsDeclaration (d.OtherParameters xs) w a r = Gets (N g.MoreParameters w ∷ []) a r
MeetsDeclaration (d.Overrides x) w a r = Gets (N g.Overrides w ∷ []) a r
MeetsDeclaration (d.Instances xs) w a r = Gets (N g.Instances w ∷ []) a r
MeetsDeclaration (d.InstancesBehind x xs) w a r = Gets (N g.MoreInstances w ∷ []) a r
MeetsDeclaration (d.OtherInstances xs) w a r = Gets (N g.MoreInstances w ∷ []) a r
MeetsDeclaration (d.AnInstance x) w a r = Gets (N g.AnInstance w ∷ []) a r
MeetsDeclaration (d.AConnections x) w a r = Gets (N g.AConnections w ∷ []) a r
MeetsDeclaration (d.ANamedConnection x) w a r = Gets (N g.ANamedConnection w ∷ []) a r
MeetsDeclaration (d.NamedBehind x xs) w a r = Gets (N g.MoreNamed w ∷ []) a r
MeetsDeclaration (d.OtherNamed xs) w a r = Gets (N g.MoreNamed w ∷ []) a r
MeetsDeclaration (d.AnOrdered x) w a r = Gets (N g.AnOrdered w ∷ []) a r
MeetsDeclaration (d.OrderedBehind x xs) w a r = Gets (N g.MoreOrdered w ∷ []) a r
MeetsDeclaration (d.OtherOrdered xs) w a r = Gets (N g.MoreOrdered w ∷ []) a r
MeetsDeclaration (d.OptionalExpression x) w a r = Gets (N g.OptionalExpression w ∷ []) a r

pub declaration : {p : d.Phrase} {a r : List Token} → d.Spells p a r → (w : ℕ) → MeetsDeclaration p w a r
declaration (d.shape x y) w = enters refl (declaration x w ⊳ declaration y w ⊳ gets_end)
declaration (d.not_signed free) w = gets_skip (e.optional_signed_skips w _ free) gets_end
declaration (d.is_signed t) w = gets_at t refl (gets_token t ⊳ gets_end)
declaration (d.no_range free) w = gets_skip (e.optional_range_skips w _ free) gets_end
declaration (d.a_range is x) w = seen is refl (expressions.complete x w ⊳ gets_end)
declaration (d.no_wire free) w = gets_skip (e.optional_wire_skips w _ free) gets_end
declaration (d.a_wire t) w = gets_at t refl (gets_token t ⊳ gets_end)
declaration (d.no_net a b) w = gets_skip (e.optional_net_skips w _ a b) gets_end
declaration (d.net_wire t) w = gets_at t refl (gets_token t ⊳ gets_end)
declaration (d.net_reg t) w = gets_at t refl (gets_token t ⊳ gets_end)
declaration (d.names t xs) w = enters refl (gets_token t ⊳ declaration xs w ⊳ gets_end)
declaration (d.names_behind h) w = declaration h w
declaration (d.no_name free) w = gets_skip (e.more_names_skips w _ free) gets_end
declaration (d.another_name t u xs) w = gets_at t refl (gets_token t ⊳ gets_token u ⊳ declaration xs w ⊳ gets_end)
declaration (d.variable t x) w = enters refl (gets_token t ⊳ declaration x w ⊳ gets_end)
declaration (d.no_value free) w = gets_skip (e.optional_value_skips w _ free) gets_end
declaration (d.a_value t x) w = gets_at t refl (gets_token t ⊳ expressions.complete x w ⊳ gets_end)
declaration (d.variables x xs) w = enters refl (declaration x w ⊳ declaration xs w ⊳ gets_end)
declaration (d.variables_behind h) w = declaration h w
declaration (d.no_variable free) w = gets_skip (e.more_variables_skips w _ free) gets_end
declaration (d.another_variable t x xs) w = gets_at t refl (gets_token t ⊳ declaration x w ⊳ declaration xs w ⊳ gets_end)
declaration (d.reg_variable x) w = declaration x w
declaration (d.reg_variables x xs) w = enters refl (declaration x w ⊳ declaration xs w ⊳ gets_end)
declaration (d.reg_variables_behind h) w = declaration h w
declaration (d.no_reg_variable free) w = gets_skip (e.more_variables_skips w _ free) gets_end
declaration (d.another_reg_variable t x xs) w = gets_at t refl (gets_token t ⊳ declaration x w ⊳ declaration xs w ⊳ gets_end)
declaration (d.parameter t u x) w = enters refl (gets_token t ⊳ gets_token u ⊳ expressions.complete x w ⊳ gets_end)
declaration (d.parameters x xs) w = enters refl (declaration x w ⊳ declaration xs w ⊳ gets_end)
declaration (d.parameters_behind h) w = declaration h w
declaration (d.no_parameter free) w = gets_skip (e.more_parameters_skips w _ free) gets_end
declaration (d.another_parameter t x xs) w = gets_at t refl (gets_token t ⊳ declaration x w ⊳ declaration xs w ⊳ gets_end)
declaration (d.no_override free) w = gets_skip (e.overrides_skips w _ free) gets_end
declaration (d.an_override t u x v) w = gets_at t refl (gets_token t ⊳ gets_token u ⊳ declaration x (w + 1) ⊳ gets_token v ⊳ gets_end)
declaration (d.instances x xs) w = enters refl (declaration x w ⊳ declaration xs w ⊳ gets_end)
declaration (d.instances_behind h) w = declaration h w
declaration (d.no_instance free) w = gets_skip (e.more_instances_skips w _ free) gets_end
declaration (d.another_instance t x xs) w = gets_at t refl (gets_token t ⊳ declaration x w ⊳ declaration xs w ⊳ gets_end)
declaration (d.instance_ t u x v) w = enters refl (gets_token t ⊳ gets_token u ⊳ declaration x (w + 1) ⊳ gets_token v ⊳ gets_end)
declaration (d.by_name is x xs) w = seen is refl (declaration x w ⊳ declaration xs w ⊳ gets_end)
declaration (d.by_order free x xs) w = enters (e.connections_ordered w _ free) (declaration x w ⊳ declaration xs w ⊳ gets_end)
declaration (d.named t u v x z) w = enters refl (gets_token t ⊳ gets_token u ⊳ gets_token v ⊳ declaration x (w + 1) ⊳ gets_token z ⊳ gets_end)
declaration (d.named_behind h) w = declaration h w
declaration (d.no_named free) w = gets_skip (e.more_named_skips w _ free) gets_end
declaration (d.another_named t x xs) w = gets_at t refl (gets_token t ⊳ declaration x w ⊳ declaration xs w ⊳ gets_end)
declaration (d.ordered x) w = enters refl (declaration x w ⊳ gets_end)
declaration (d.ordered_behind h) w = declaration h w
declaration (d.no_ordered free) w = gets_skip (e.more_ordered_skips w _ free) gets_end
declaration (d.another_ordered t x xs) w = gets_at t refl (gets_token t ⊳ declaration x w ⊳ declaration xs w ⊳ gets_end)
declaration (d.no_expression {s = a} free) w = gets_skip (e.optional_expression_skips w (next a) free) gets_end
declaration (d.an_expression {s = a} go x) w = enters (e.optional_expression_goes w (next a) go) (expressions.complete x w ⊳ gets_end)
