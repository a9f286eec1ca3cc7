-- The machine takes what an item without a generate construct is spelled as, unless too much is open.
use Rattle.std.proofs.Common.{◌+◌, ℕ, List, [], ◌∷◌, refl}
use Rattle.verilog_lex.specs.declared.token.Token.{Token}
use Rattle.verilog_expr.specs.Grammar as g
use Rattle.verilog_expr.specs.Grammar.{N}
use Rattle.verilog_expr.proofs.Entries as e
use Rattle.verilog_expr.proofs.Complete.{Gets, gets_end, gets_token, gets_at, gets_skip, enters, ◌⊳◌}
use Rattle.verilog_expr.proofs.Complete as expressions
use Rattle.verilog_stmt.proofs.Complete.{statement}
use Rattle.verilog_decl.proofs.Complete.{declaration}
use Rattle.verilog_parse.specs.Items as i

abbrev MeetsItem : i.Phrase → ℕ → List Token → List Token → Type 0
MeetsItem (i.APlainItem x) w a r = Gets (N g.APlainItem w ∷ []) a r
MeetsItem (i.AnEvent at x) w a r = Gets (N g.AnEvent w ∷ []) a r
MeetsItem (i.Trigger at x) w a r = Gets (N g.Trigger w ∷ []) a r
MeetsItem i.EdgeEnd w a r = Gets (N g.EdgeEnd w ∷ []) a r
MeetsItem (i.Assignments xs) w a r = Gets (N g.Assignments w ∷ []) a r
MeetsItem (i.AssignmentsBehind x xs) w a r = Gets (N g.MoreAssignments w ∷ []) a r
MeetsItem (i.OtherAssignments xs) w a r = Gets (N g.MoreAssignments w ∷ []) a r
MeetsItem (i.AContinuous x) w a r = Gets (N g.AContinuous w ∷ []) a r

pub plain_item : {p : i.Phrase} {a r : List Token} → i.Spells p a r → (w : ℕ) → MeetsItem p w a r
plain_item (i.wire_item t x xs u) w = gets_at t refl (gets_token t ⊳ declaration x w ⊳ declaration xs w ⊳ gets_token u ⊳ gets_end)
plain_item (i.reg_item t x xs u) w = gets_at t refl (gets_token t ⊳ declaration x w ⊳ declaration xs w ⊳ gets_token u ⊳ gets_end)
plain_item (i.local_item t x xs u) w = gets_at t refl (gets_token t ⊳ declaration x w ⊳ declaration xs w ⊳ gets_token u ⊳ gets_end)
plain_item (i.genvar_item t xs u) w = gets_at t refl (gets_token t ⊳ declaration xs w ⊳ gets_token u ⊳ gets_end)
plain_item (i.assign_item t xs u) w = gets_at t refl (gets_token t ⊳ plain_item xs w ⊳ gets_token u ⊳ gets_end)
plain_item (i.always_item t u x) w = gets_at t refl (gets_token t ⊳ gets_token u ⊳ plain_item x w ⊳ gets_end)
plain_item (i.instances_item t x xs u) w = gets_at t refl (gets_token t ⊳ declaration x w ⊳ declaration xs w ⊳ gets_token u ⊳ gets_end)
plain_item (i.at_all t x) w = gets_at t refl (gets_token t ⊳ statement x w ⊳ gets_end)
plain_item (i.at_bracket t x) w = gets_at t refl (gets_token t ⊳ plain_item x w ⊳ gets_end)
plain_item (i.at_inputs t u x) w = gets_at t refl (gets_token t ⊳ gets_token u ⊳ statement x w ⊳ gets_end)
plain_item (i.at_edge t u x y) w = gets_at t refl (gets_token t ⊳ gets_token u ⊳ plain_item x (w + 1) ⊳ statement y w ⊳ gets_end)
plain_item (i.edge_end t) w = gets_at t refl (gets_token t ⊳ gets_end)
plain_item (i.assignments x xs) w = enters refl (plain_item x w ⊳ plain_item xs w ⊳ gets_end)
plain_item (i.assignments_behind h) w = plain_item h w
plain_item (i.no_assignment free) w = gets_skip (e.more_assignments_skips w _ free) gets_end
plain_item (i.another_assignment t x xs) w = gets_at t refl (gets_token t ⊳ plain_item x w ⊳ plain_item xs w ⊳ gets_end)
plain_item (i.continuous x t y) w = enters refl (statement x w ⊳ gets_token t ⊳ expressions.complete y w ⊳ gets_end)
