-- A target, a statement and an item of a `case` stand where their first token does.
use Rattle.std.proofs.Common.{◌≡◌, ◌∙◌, List, Some, None, drop, map, refl, sym, ap}
use Rattle.verilog_lex.specs.declared.token.Token.{Token}
use Rattle.verilog_ast.specs.declared.label.Label.TheVariants as label
use Rattle.verilog_ast.specs.Places.{expression_place, target_place, label_place, labels_place, statement_place}
use Rattle.verilog_ast.specs.Views.{target_of, label_of, statement_of, arm_of}
use Rattle.verilog_ast.proofs.Seen as seen
use Rattle.verilog_expr.specs.Tokens.{taken, place_at, identifier_of}
use Rattle.verilog_expr.proofs.Placed.{token_place, expression_placed, select_placed}
use Rattle.verilog_stmt.specs.Statements as p
use Rattle.verilog_stmt.specs.Statements.{Phrase, Spells}

-- where a phrase has its place from: its first token, or what is before it
abbrev pub IsPlaced : Phrase → List Token → Type 0
IsPlaced (p.ATarget x) s = target_place (target_of x) ≡ place_at s
IsPlaced (p.Braces xs) s = Unit {0}
IsPlaced (p.TargetsBehind x xs) s = Unit {0}
IsPlaced (p.OtherTargets xs) s = Unit {0}
IsPlaced (p.AStatement g x) s = statement_place (statement_of x) ≡ place_at s
IsPlaced (p.Statements g xs) s = Unit {0}
IsPlaced (p.AnIf g at x) s = statement_place (statement_of x) ≡ at
IsPlaced (p.Alternative g at x y z) s = statement_place (statement_of z) ≡ at
IsPlaced (p.ACase g which at x) s = statement_place (statement_of x) ≡ at
IsPlaced (p.AnArm g which x) s = statement_place (arm_of x) ≡ place_at s
IsPlaced (p.ArmsBehind g which x xs) s = Unit {0}
IsPlaced (p.OtherArms g which xs) s = Unit {0}
IsPlaced p.OptionalColon s = Unit {0}
IsPlaced (p.ALabel which x) s = label_place (label_of x) ≡ place_at s
IsPlaced (p.LabelsBehind which x xs) s = labels_place (map label_of xs) ≡ label_place (label_of x)
IsPlaced (p.OtherLabels which xs) s = Unit {0}
IsPlaced (p.OptionalLabel None) s = Unit {0}
IsPlaced (p.OptionalLabel (Some l)) s = l.at ≡ place_at (drop 1 s)
IsPlaced (p.AnAssignment g x y) s = statement_place (statement_of y) ≡ target_place (target_of x)
IsPlaced (p.ASign g) s = Unit {0}

pub placed : {phrase : Phrase} {s r : List Token} → Spells phrase s r → IsPlaced phrase s
placed (p.target_name {x = x} {t = t} h i) =
    ap target_place (seen.target_reference_seen x) ∙ select_placed (identifier_of t) x _ _ i ∙ token_place h
placed (p.target_braces {xs = xs} {t = t} h i) = ap target_place (seen.target_braces_seen t.at xs) ∙ token_place h
placed (p.braces h i t) = tt
placed (p.targets_behind h) = tt
placed (p.no_target free) = tt
placed (p.another_target t h i) = tt
placed (p.empty {t = t} h) = ap statement_place (seen.empty_seen t.at) ∙ token_place h
placed (p.block {l = l} {xs = xs} {t = t} h i j u) = ap statement_place (seen.block_seen t.at l xs) ∙ token_place h
placed (p.if_ h i) = placed i ∙ token_place h
placed (p.case_ h i) = placed i ∙ token_place h
placed (p.casez_ h i) = placed i ∙ token_place h
placed (p.assign_name {y = y} {t = t} h i j) =
    placed j ∙ ap target_place (seen.target_reference_seen y) ∙ select_placed (identifier_of t) y _ _ i ∙ token_place h
placed (p.assign_braces {ys = ys} {t = t} h i j) = placed j ∙ ap target_place (seen.target_braces_seen t.at ys) ∙ token_place h
placed (p.no_statement free) = tt
placed (p.another_statement is h i) = tt
placed (p.branch t h u i j) = placed j
placed (p.if_alone {at = at} {x = x} {y = y} free) = ap statement_place (seen.if_seen at x y)
placed (p.if_else {at = at} {x = x} {y = y} {z = z} t h) = ap statement_place (seen.if_else_seen at x y z)
placed (p.choice {which = which} {at = at} {x = x} {ys = ys} t h u i j v) = ap statement_place (seen.case_seen at which x ys)
placed (p.arms_behind h) = tt
placed (p.no_arm free) = tt
placed (p.another_arm is h i) = tt
placed (p.default {x = x} {t = t} h i j) = ap statement_place (seen.default_seen t.at x) ∙ token_place h
placed (p.matching {ls = ls} {x = x} free h i t j) = ap statement_place (seen.match_seen ls x) ∙ placed i ∙ placed h
placed (p.colon t) = tt
placed (p.no_colon free) = tt
placed (p.case_label {x = x} h) = expression_placed x _ _ h
placed (p.casez_value {x = x} free h) = expression_placed x _ _ h
placed (p.casez_pattern h) = token_place h
placed (p.labels_behind h) = refl
placed (p.no_other_label free) = tt
placed (p.another_label t h i) = tt
placed (p.no_label free) = tt
placed (p.a_label (taken cut is) u) = token_place u ∙ sym (ap (λ l. place_at (drop 1 l)) cut)
placed (p.assigns {x = x} {y = y} h i t) = ap statement_place (seen.assign_seen x y)
placed (p.blocking t) = tt
placed (p.nonblocking t) = tt
