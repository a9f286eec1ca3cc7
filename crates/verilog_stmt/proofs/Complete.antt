-- The machine takes the tokens that a statement stands for, unless too much is open.
use Rattle.std.proofs.Common.{◌+◌, ℕ, List, [], ◌∷◌, refl}
use Rattle.verilog_lex.specs.declared.token.Token.{Token}
use Rattle.verilog_expr.specs.Tokens.{next}
use Rattle.verilog_expr.specs.Grammar as g
use Rattle.verilog_expr.specs.Grammar.{N}
use Rattle.verilog_expr.proofs.Entries as e
use Rattle.verilog_expr.proofs.Complete.{Gets, gets_end, gets_token, gets_at, gets_skip, enters, ◌⊳◌}
use Rattle.verilog_expr.proofs.Complete as expressions
use Rattle.verilog_stmt.specs.Statements as s

abbrev MeetsStatement : s.Phrase → ℕ → List Token → List Token → Type 0
MeetsStatement (s.ATarget x) w a r = Gets (N g.ATarget w ∷ []) a r
MeetsStatement (s.Braces xs) w a r = Gets (N g.Braces w ∷ []) a r
MeetsStatement (s.TargetsBehind x xs) w a r = Gets (N g.MoreTargets w ∷ []) a r
MeetsStatement (s.OtherTargets xs) w a r = Gets (N g.MoreTargets w ∷ []) a r
MeetsStatement (s.AStatement sign x) w a r = Gets (N (g.AStatement sign) w ∷ []) a r
MeetsStatement (s.Statements sign xs) w a r = Gets (N (g.Statements sign) w ∷ []) a r
MeetsStatement (s.AnIf sign at x) w a r = Gets (N (g.AnIf sign) w ∷ []) a r
MeetsStatement (s.Alternative sign at x y z) w a r = Gets (N (g.Alternative sign) w ∷ []) a r
MeetsStatement (s.ACase sign which at x) w a r = Gets (N (g.ACase sign which) w ∷ []) a r
MeetsStatement (s.AnArm sign which x) w a r = Gets (N (g.AnArm sign which) w ∷ []) a r
MeetsStatement (s.ArmsBehind sign which x xs) w a r = Gets (N (g.MoreArms sign which) w ∷ []) a r
MeetsStatement (s.OtherArms sign which xs) w a r = Gets (N (g.MoreArms sign which) w ∷ []) a r
MeetsStatement s.OptionalColon w a r = Gets (N g.OptionalColon w ∷ []) a r
MeetsStatement (s.ALabel which x) w a r = Gets (N (g.ALabel which) w ∷ []) a r
MeetsStatement (s.LabelsBehind which x xs) w a r = Gets (N (g.MoreLabels which) w ∷ []) a r
MeetsStatement (s.OtherLabels which xs) w a r = Gets (N (g.MoreLabels which) w ∷ []) a r
MeetsStatement (s.OptionalLabel x) w a r = Gets (N g.OptionalLabel w ∷ []) a r
MeetsStatement (s.AnAssignment sign x y) w a r = Gets (N (g.AnAssignment sign) w ∷ []) a r
MeetsStatement (s.ASign sign) w a r = Gets (N (g.ASign sign) w ∷ []) a r

pub statement : {p : s.Phrase} {a r : List Token} → s.Spells p a r → (w : ℕ) → MeetsStatement p w a r
statement (s.target_name t x) w = gets_at t refl (gets_token t ⊳ expressions.complete x w ⊳ gets_end)
statement (s.target_braces t xs) w = gets_at t refl (gets_token t ⊳ statement xs (w + 1) ⊳ gets_end)
statement (s.braces x xs t) w = enters refl (statement x w ⊳ statement xs w ⊳ gets_token t ⊳ gets_end)
statement (s.targets_behind h) w = statement h w
statement (s.no_target free) w = gets_skip (e.more_targets_skips w _ free) gets_end
statement (s.another_target t x xs) w = gets_at t refl (gets_token t ⊳ statement x w ⊳ statement xs w ⊳ gets_end)
statement (s.empty t) w = gets_at t refl (gets_token t ⊳ gets_end)
statement (s.block t l xs u) w = gets_at t refl (gets_token t ⊳ statement l (w + 1) ⊳ statement xs (w + 1) ⊳ gets_token u ⊳ gets_end)
statement (s.if_ t h) w = gets_at t refl (gets_token t ⊳ statement h (w + 1) ⊳ gets_end)
statement (s.case_ t h) w = gets_at t refl (gets_token t ⊳ statement h (w + 1) ⊳ gets_end)
statement (s.casez_ t h) w = gets_at t refl (gets_token t ⊳ statement h (w + 1) ⊳ gets_end)
statement (s.assign_name t x y) w = gets_at t refl (gets_token t ⊳ expressions.complete x (w + 1) ⊳ statement y (w + 1) ⊳ gets_end)
statement (s.assign_braces t xs y) w = gets_at t refl (gets_token t ⊳ statement xs (w + 2) ⊳ statement y (w + 1) ⊳ gets_end)
statement (s.no_statement {g = sign} {s = a} free) w = gets_skip (e.statements_skip sign w (next a) free) gets_end
statement (s.another_statement {g = sign} {s = a} go x xs) w = enters (e.statements_go sign w (next a) go) (statement x w ⊳ statement xs w ⊳ gets_end)
statement (s.branch t x u y z) w = enters refl (gets_token t ⊳ expressions.complete x (w + 1) ⊳ gets_token u ⊳ statement y w ⊳ statement z w ⊳ gets_end)
statement (s.if_alone {g = sign} free) w = gets_skip (e.alternative_skips sign w _ free) gets_end
statement (s.if_else t h) w = gets_at t refl (gets_token t ⊳ statement h w ⊳ gets_end)
statement (s.choice t x u y ys v) w = enters refl (gets_token t ⊳ expressions.complete x (w + 1) ⊳ gets_token u ⊳ statement y w ⊳ statement ys w ⊳ gets_token v ⊳ gets_end)
statement (s.arms_behind h) w = statement h w
statement (s.no_arm {g = sign} {which = which} {s = a} free) w = gets_skip (e.more_arms_skip sign which w (next a) free) gets_end
statement (s.another_arm {g = sign} {which = which} {s = a} go x xs) w = enters (e.more_arms_go sign which w (next a) go) (statement x w ⊳ statement xs w ⊳ gets_end)
statement (s.default t c x) w = gets_at t refl (gets_token t ⊳ statement c w ⊳ statement x w ⊳ gets_end)
statement (s.matching {g = sign} {which = which} free l ls t x) w = enters (e.arm_matches sign which w _ free) (statement l w ⊳ statement ls w ⊳ gets_token t ⊳ statement x w ⊳ gets_end)
statement (s.colon t) w = gets_at t refl (gets_token t ⊳ gets_end)
statement (s.no_colon free) w = gets_skip (e.optional_colon_skips w _ free) gets_end
statement (s.case_label x) w = enters refl (expressions.complete x w ⊳ gets_end)
statement (s.casez_value free x) w = enters (e.casez_label w _ free) (expressions.complete x w ⊳ gets_end)
statement (s.casez_pattern t) w = gets_at t refl (gets_token t ⊳ gets_end)
statement (s.labels_behind h) w = statement h w
statement (s.no_other_label {which = which} free) w = gets_skip (e.more_labels_skips which w _ free) gets_end
statement (s.another_label t x xs) w = gets_at t refl (gets_token t ⊳ statement x w ⊳ statement xs w ⊳ gets_end)
statement (s.no_label free) w = gets_skip (e.optional_label_skips w _ free) gets_end
statement (s.a_label t u) w = gets_at t refl (gets_token t ⊳ gets_token u ⊳ gets_end)
statement (s.assigns g y t) w = enters refl (statement g w ⊳ expressions.complete y w ⊳ gets_token t ⊳ gets_end)
statement (s.blocking t) w = gets_at t refl (gets_token t ⊳ gets_end)
statement (s.nonblocking t) w = gets_at t refl (gets_token t ⊳ gets_end)
