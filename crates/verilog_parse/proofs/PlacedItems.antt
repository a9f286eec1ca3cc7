-- An item and a port stand where their first token does.
use Rattle.std.proofs.Common.{◌≡◌, ◌∙◌, List, [], ◌∷◌, drop, map, refl, ap, subst}
use Rattle.ls_text.specs.declared.place.Place.{Place}
use Rattle.verilog_lex.specs.declared.token.Token.{Token}
use Rattle.verilog_ast.specs.declared.plain_item.PlainItem.{PlainItem}
use Rattle.verilog_ast.specs.declared.plain_item.PlainItem.TheVariants as item
use Rattle.verilog_ast.specs.Places.{target_place, item_place}
use Rattle.verilog_ast.specs.Views.{target_of, plain_item_of, items_of, generate_item_of, branch_of, item_of}
use Rattle.verilog_ast.proofs.Seen as seen
use Rattle.verilog_expr.specs.Tokens.{place_at}
use Rattle.verilog_expr.proofs.Placed.{token_place}
use Rattle.verilog_decl.specs.Apart.{StandApart}
use Rattle.verilog_parse.specs.Items as i
use Rattle.verilog_parse.specs.Generates as g
use Rattle.verilog_parse.specs.Modules as m
use Rattle.verilog_decl.proofs.PlacedDeclarations.{behind, second_place, dropped, declaration_placed}
use Rattle.verilog_stmt.proofs.PlacedStatements as statements

-- ---- plain items

-- the clock of an event stands there
abbrev ClockStands : PlainItem → Place → Type 0
ClockStands (item.Clocked at clock x) p = clock.at ≡ p
ClockStands (item.Combinational at x) p = Unit {0}
ClockStands x p = ⊥

-- the names of an item that are no part of a declaration
abbrev NamesStand : PlainItem → List Token → Type 0
NamesStand (item.Clocked at clock x) s = clock.at ≡ place_at (drop 4 s)
NamesStand (item.Genvar at xs) s = StandApart xs (drop 1 s)
NamesStand x s = Unit {0}

clock_moves : (x : PlainItem) (p q : Place) → p ≡ q → ClockStands x p → ClockStands x q
clock_moves x p q same = subst (ClockStands x) same

event_names : (x : PlainItem) (s : List Token) → ClockStands x (place_at (drop 4 s)) → NamesStand x s
event_names (item.Clocked at clock x) s h = h
event_names (item.Combinational at x) s h = tt
event_names (item.Wire at x xs) s h = absurd h
event_names (item.Reg at x xs) s h = absurd h
event_names (item.LocalParameter at x xs) s h = absurd h
event_names (item.Genvar at xs) s h = absurd h
event_names (item.Assign at xs) s h = absurd h
event_names (item.Instances x xs ys) s h = absurd h

dropped_twice : (s : List Token) → drop 2 (drop 1 (drop 1 s)) ≡ drop 4 s
dropped_twice [] = refl
dropped_twice (t ∷ []) = refl
dropped_twice (t ∷ u ∷ s) = refl

abbrev pub IsPlacedItem : i.Phrase → List Token → Type 0
IsPlacedItem (i.APlainItem x) s = (item_place (plain_item_of x) ≡ place_at s) × NamesStand x s
IsPlacedItem (i.AnEvent at x) s = (item_place (plain_item_of x) ≡ at) × ClockStands x (place_at (drop 2 s))
IsPlacedItem (i.Trigger at x) s = (item_place (plain_item_of x) ≡ at) × ClockStands x (place_at (drop 1 s))
IsPlacedItem (i.AContinuous x) s = target_place (target_of x.target) ≡ place_at s
IsPlacedItem phrase s = Unit {0}

pub item_placed : {phrase : i.Phrase} {s r : List Token} → i.Spells phrase s r → IsPlacedItem phrase s
item_placed (i.wire_item h x y t) = (token_place h, tt)
item_placed (i.reg_item h x y t) = (token_place h, tt)
item_placed (i.local_item h x y t) = (token_place h, tt)
item_placed (i.genvar_item {xs = xs} h x t) = (token_place h, subst (StandApart xs) (behind h) (declaration_placed x))
item_placed (i.assign_item h x t) = (token_place h, tt)
item_placed (i.always_item {x = x} {s = s} {b = b} h t e) =
    let a = item_placed e in
    let there = ap (λ l. place_at (drop 2 l)) (behind t ∙ ap (drop 1) (behind h)) ∙ ap place_at (dropped_twice s) in
    (a.0 ∙ token_place h, event_names x s (clock_moves x (place_at (drop 2 b)) (place_at (drop 4 s)) there a.1))
item_placed (i.instances_item h x y t) = (token_place h, tt)
item_placed (i.at_all t x) = (refl, tt)
item_placed (i.at_bracket {x = x} {s = s} {a = b} t e) =
    let a = item_placed e in
    let there = ap (λ l. place_at (drop 1 l)) (behind t) ∙ ap place_at (dropped s) in
    (a.0, clock_moves x (place_at (drop 1 b)) (place_at (drop 2 s)) there a.1)
item_placed (i.at_inputs t u x) = (refl, tt)
item_placed (i.at_edge t u h x) = (refl, second_place t u)
item_placed (i.continuous h t x) = statements.placed h
item_placed _ = tt

-- ---- items of generate blocks

abbrev pub IsPlacedGenerate : g.Phrase → List Token → Type 0
IsPlacedGenerate (g.AGenerateItem x) s = item_place (generate_item_of x) ≡ place_at s
IsPlacedGenerate (g.ALoop x) s = item_place (generate_item_of x) ≡ place_at s
IsPlacedGenerate (g.ABlock at y ys) s = (at ≡ place_at s) × (y.at ≡ place_at (drop 2 s))
IsPlacedGenerate (g.ABranch x) s = x.at ≡ place_at s
IsPlacedGenerate (g.AnOtherwise x) s = x.at ≡ place_at s
IsPlacedGenerate (g.BranchesBehind x xs) s = item_place (items_of (map branch_of xs)) ≡ x.at
IsPlacedGenerate phrase s = Unit {0}

pub generate_placed : {phrase : g.Phrase} {s r : List Token} → g.Spells phrase s r → IsPlacedGenerate phrase s
generate_placed (g.loop_item is h) = generate_placed h
generate_placed (g.if_item {xs = xs} is h i) = ap item_place (seen.branches_seen xs) ∙ generate_placed i ∙ generate_placed h
generate_placed (g.plain_item {x = x} free others h) = ap item_place (seen.plain_seen x) ∙ (item_placed h).0
generate_placed (g.generate_loop {x = x} {y = y} {ys = ys} {t = t} h u i v j) = ap item_place (seen.loop_seen t.at x y ys) ∙ token_place h
generate_placed (g.block {s = s} h t u x v) =
    (token_place h, second_place t u ∙ ap (λ l. place_at (drop 1 l)) (behind h) ∙ ap place_at (dropped s))
generate_placed (g.branch h t x u y) = token_place h
generate_placed (g.otherwise h) = (generate_placed h).0
generate_placed (g.branches_behind {x = x} h) = ap item_place (seen.branch_seen x)
generate_placed _ = tt

-- ---- items of modules

abbrev pub IsPlacedModule : m.Phrase → List Token → Type 0
IsPlacedModule (m.AModule x) s = x.name.at ≡ place_at (drop 1 s)
IsPlacedModule (m.AnItem x) s = item_place (item_of x) ≡ place_at s
IsPlacedModule phrase s = Unit {0}

pub module_placed : {phrase : m.Phrase} {s r : List Token} → m.Spells phrase s r → IsPlacedModule phrase s
module_placed (m.module_ h t x y u) = second_place h t
module_placed (m.input_item h x y z t) = token_place h
module_placed (m.output_item h x y z t) = token_place h
module_placed (m.parameter_item h x y t) = token_place h
module_placed (m.region h x t) = token_place h
module_placed (m.other_item a b c d h) = generate_placed h
module_placed _ = tt
