-- The names of an item without a generate construct are names of its tokens.
use Rattle.std.proofs.Common.{ℕ, List, flat_map}
use Rattle.verilog_lex.specs.declared.token.Token.{Token}
use Rattle.verilog_ast.specs.Names.{names_of_continuous, names_of_plain_item}
use Rattle.verilog_ast.proofs.Within.{IsWithin, no_name, one_more, ◌⊕◌}
use Rattle.verilog_expr.proofs.Named.{AreWithin, took}
use Rattle.verilog_expr.proofs.Named as expressions
use Rattle.verilog_parse.specs.Items as p
use Rattle.verilog_decl.proofs.NamedDeclarations.{declaration}
use Rattle.verilog_stmt.proofs.NamedStatements.{statement}

-- The names of a phrase are below the bound, where those of what stands before it are.
abbrev pub IsNamed : ℕ → p.Phrase → Type 0
IsNamed n (p.APlainItem x) = IsWithin n (names_of_plain_item x)
IsNamed n (p.AnEvent at x) = IsWithin n (names_of_plain_item x)
IsNamed n (p.Trigger at x) = IsWithin n (names_of_plain_item x)
IsNamed n p.EdgeEnd = Unit {0}
IsNamed n (p.AContinuous x) = IsWithin n (names_of_continuous x)
IsNamed n (p.Assignments xs) = IsWithin n (flat_map names_of_continuous xs)
IsNamed n (p.AssignmentsBehind x xs) = IsWithin n (names_of_continuous x) → IsWithin n (flat_map names_of_continuous xs)
IsNamed n (p.OtherAssignments xs) = IsWithin n (flat_map names_of_continuous xs)

pub item : {n : ℕ} {q : p.Phrase} {s r : List Token} → p.Spells q s r → AreWithin n s → IsNamed n q × AreWithin n r
item (p.wire_item t h i u) w = let a = took t w in let b = declaration h a.1 in let c = declaration i b.1 in let d = took u c.1 in (b.0 ⊕ c.0, d.1)
item (p.reg_item t h i u) w = let a = took t w in let b = declaration h a.1 in let c = declaration i b.1 in let d = took u c.1 in (b.0 ⊕ c.0, d.1)
item (p.local_item t h i u) w = let a = took t w in let b = declaration h a.1 in let c = declaration i b.1 in let d = took u c.1 in (b.0 ⊕ c.0, d.1)
item (p.genvar_item t h u) w = let a = took t w in let b = declaration h a.1 in let c = took u b.1 in (b.0, c.1)
item (p.assign_item t h u) w = let a = took t w in let b = item h a.1 in let c = took u b.1 in (b.0, c.1)
item (p.always_item t u h) w = let a = took t w in let b = took u a.1 in let c = item h b.1 in (c.0, c.1)
item (p.instances_item t h i u) w =
    let a = took t w in let b = declaration h a.1 in let c = declaration i b.1 in let d = took u c.1 in (one_more a.0 (b.0 ⊕ c.0), d.1)
item (p.at_all t h) w = let a = took t w in let b = statement h a.1 in (b.0, b.1)
item (p.at_bracket t h) w = let a = took t w in let b = item h a.1 in (b.0, b.1)
item (p.at_inputs t u h) w = let a = took t w in let b = took u a.1 in let c = statement h b.1 in (c.0, c.1)
item (p.at_edge t u h i) w = let a = took t w in let b = took u a.1 in let c = item h b.1 in let d = statement i c.1 in (one_more b.0 d.0, d.1)
item (p.edge_end t) w = let a = took t w in (tt, a.1)
item (p.assignments h i) w = let a = item h w in let b = item i a.1 in (b.0 a.0, b.1)
item (p.assignments_behind h) w = let a = item h w in (λ x. x ⊕ a.0, a.1)
item (p.no_assignment free) w = (no_name, w)
item (p.another_assignment t h i) w = let a = took t w in let b = item h a.1 in let c = item i b.1 in (b.0 ⊕ c.0, c.1)
item (p.continuous h t i) w = let a = statement h w in let b = took t a.1 in let c = expressions.named i b.1 in (a.0 ⊕ c.0, c.1)
