-- A declared name and a connection stand where their first token does.
use Rattle.std.proofs.Common.{◌≡◌, ◌∙◌, List, [], ◌∷◌, drop, refl, sym, ap, subst}
use Rattle.verilog_lex.specs.declared.token.Token.{Token}
use Rattle.verilog_ast.specs.declared.identifier.Identifier.{Identifier}
use Rattle.verilog_lex.specs.declared.kind.Kind.{Kind}
use Rattle.verilog_expr.specs.Tokens.{Takes, taken, place_at}
use Rattle.verilog_expr.proofs.Placed.{token_place}
use Rattle.verilog_decl.specs.Apart.{StandApart}
use Rattle.verilog_decl.specs.Declarations as d

-- what a token leaves
pub behind : {kind : Kind} {s r : List Token} {t : Token} → Takes kind s r t → r ≡ drop 1 s
behind (taken cut is) = sym (ap (drop 1) cut)

-- the token behind a token stands where it is next
pub second_place : {kind other : Kind} {s a r : List Token} {t u : Token} → Takes kind s a t → Takes other a r u → u.at ≡ place_at (drop 1 s)
second_place t u = token_place u ∙ ap place_at (behind t)

pub dropped : (q : List Token) → drop 1 (drop 1 q) ≡ drop 2 q
dropped [] = refl
dropped (t ∷ q) = refl

moved : (xs : List Identifier) (s q : List Token) → s ≡ q → StandApart xs s → StandApart xs q
moved xs s q same = subst (StandApart xs) same

abbrev pub IsPlacedDeclaration : d.Phrase → List Token → Type 0
IsPlacedDeclaration (d.AVariable x) s = x.name.at ≡ place_at s
IsPlacedDeclaration (d.ARegVariable x) s = x.name.at ≡ place_at s
IsPlacedDeclaration (d.AParameter x) s = x.name.at ≡ place_at s
IsPlacedDeclaration (d.AnInstance x) s = x.name.at ≡ place_at s
IsPlacedDeclaration (d.Names xs) s = StandApart xs s
IsPlacedDeclaration (d.NamesBehind x xs) s = (q : List Token) → s ≡ drop 1 q → x.at ≡ place_at q → StandApart xs q
IsPlacedDeclaration (d.OtherNames xs) s = StandApart xs (drop 1 s)
IsPlacedDeclaration (d.ANamedConnection x) s = (x.at ≡ place_at s) × (x.name.at ≡ place_at (drop 1 s))
IsPlacedDeclaration (d.AnOrdered x) s = x.at ≡ place_at s
IsPlacedDeclaration phrase s = Unit {0}

pub declaration_placed : {phrase : d.Phrase} {s r : List Token} → d.Spells phrase s r → IsPlacedDeclaration phrase s
declaration_placed (d.variable h x) = token_place h
declaration_placed (d.reg_variable h) = declaration_placed h
declaration_placed (d.parameter h t x) = token_place h
declaration_placed (d.instance_ h t x u) = token_place h
declaration_placed (d.names {s = s} t h) = declaration_placed h s (behind t) (token_place t)
declaration_placed (d.names_behind {xs = xs} {s = s} h) = λ q is here. (here, moved xs (drop 1 s) (drop 2 q) (ap (drop 1) is ∙ dropped q) (declaration_placed h))
declaration_placed (d.no_name free) = tt
declaration_placed (d.another_name {xs = xs} {s = s} {b = b} t u h) =
    (second_place t u, moved xs (drop 1 b) (drop 2 (drop 1 s)) (ap (drop 1) (behind u ∙ ap (drop 1) (behind t)) ∙ dropped (drop 1 s)) (declaration_placed h))
declaration_placed (d.named h t u x v) = (token_place h, second_place h t)
declaration_placed (d.ordered h) = refl
declaration_placed _ = tt
