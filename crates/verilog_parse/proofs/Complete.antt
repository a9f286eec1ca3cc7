-- The machine takes what is spelled, unless too much is open.
use Rattle.std.proofs.Common.{◌+◌, ℕ, List, [], ◌∷◌, refl}
use Rattle.verilog_lex.specs.declared.token.Token.{Token}
use Rattle.verilog_expr.specs.Tokens.{next}
use Rattle.verilog_expr.specs.Grammar as g
use Rattle.verilog_expr.specs.Grammar.{N}
use Rattle.verilog_expr.proofs.Entries as e
use Rattle.verilog_expr.proofs.Complete.{Gets, gets_end, gets_token, gets_at, gets_skip, enters, ◌⊳◌}
use Rattle.verilog_expr.proofs.Complete as expressions
use Rattle.verilog_decl.proofs.Complete.{seen, declaration}
use Rattle.verilog_decl.proofs.CompleteHeaders.{header}
use Rattle.verilog_parse.proofs.CompleteItems.{plain_item}
use Rattle.verilog_parse.specs.Generates as b
use Rattle.verilog_parse.specs.Modules as m

-- ---- generate blocks

abbrev MeetsBlock : b.Phrase → ℕ → List Token → List Token → Type 0
MeetsBlock (b.GenerateItems xs) w a r = Gets (N g.GenerateItems w ∷ []) a r
MeetsBlock (b.AGenerateItem x) w a r = Gets (N g.AGenerateItem w ∷ []) a r
MeetsBlock (b.ALoop x) w a r = Gets (N g.ALoop w ∷ []) a r
MeetsBlock (b.ALoopHead x) w a r = Gets (N g.ALoopHead w ∷ []) a r
MeetsBlock (b.ABlock at x xs) w a r = Gets (N g.ABlock w ∷ []) a r
MeetsBlock (b.ABranch x) w a r = Gets (N g.ABranch w ∷ []) a r
MeetsBlock (b.AnOtherwise x) w a r = Gets (N g.AnOtherwise w ∷ []) a r
MeetsBlock (b.BranchesBehind x xs) w a r = Gets (N g.OtherBranches w ∷ []) a r
MeetsBlock (b.OtherBranches xs) w a r = Gets (N g.OtherBranches w ∷ []) a r

pub block : {p : b.Phrase} {a r : List Token} → b.Spells p a r → (w : ℕ) → MeetsBlock p w a r
block (b.no_item {s = a} free) w = gets_skip (e.generate_items_skip w (next a) free) gets_end
block (b.another_item {s = a} go x xs) w = enters (e.generate_items_go w (next a) go) (block x w ⊳ block xs w ⊳ gets_end)
block (b.loop_item is x) w = seen is refl (block x w ⊳ gets_end)
block (b.if_item is x xs) w = seen is refl (block x w ⊳ block xs w ⊳ gets_end)
block (b.plain_item a c x) w = enters (e.generate_item_plain w _ a c) (plain_item x w ⊳ gets_end)
block (b.generate_loop t u x v y) w = enters refl (gets_token t ⊳ gets_token u ⊳ block x (w + 1) ⊳ gets_token v ⊳ block y w ⊳ gets_end)
block (b.loop_head x t y u z) w = enters refl (declaration x w ⊳ gets_token t ⊳ expressions.complete y w ⊳ gets_token u ⊳ declaration z w ⊳ gets_end)
block (b.block t u v xs z) w = enters refl (gets_token t ⊳ gets_token u ⊳ gets_token v ⊳ block xs (w + 1) ⊳ gets_token z ⊳ gets_end)
block (b.branch t u x v y) w = enters refl (gets_token t ⊳ gets_token u ⊳ expressions.complete x (w + 1) ⊳ gets_token v ⊳ block y w ⊳ gets_end)
block (b.otherwise x) w = enters refl (block x w ⊳ gets_end)
block (b.branches_behind h) w = block h w
block (b.no_branch free) w = gets_skip (e.other_branches_skip w _ free) gets_end
block (b.another_branch t is x xs) w = gets_at t refl (gets_token t ⊳ seen is refl (block x w ⊳ block xs w ⊳ gets_end) ⊳ gets_end)
block (b.last_branch t not_if x) w = gets_at t refl (gets_token t ⊳ enters (e.last_branch_otherwise w _ not_if) (block x w ⊳ gets_end) ⊳ gets_end)

-- ---- modules

abbrev MeetsModule : m.Phrase → ℕ → List Token → List Token → Type 0
MeetsModule (m.AModule x) w a r = Gets (N g.AModule w ∷ []) a r
MeetsModule (m.Items xs) w a r = Gets (N g.Items w ∷ []) a r
MeetsModule (m.AnItem x) w a r = Gets (N g.AnItem w ∷ []) a r

pub module_ : {p : m.Phrase} {a r : List Token} → m.Spells p a r → (w : ℕ) → MeetsModule p w a r
module_ (m.module_ t u x xs v) w = enters refl (gets_token t ⊳ gets_token u ⊳ header x w ⊳ module_ xs w ⊳ gets_token v ⊳ gets_end)
module_ (m.no_item {s = a} free) w = gets_skip (e.items_skip w (next a) free) gets_end
module_ (m.another_item {s = a} go x xs) w = enters (e.items_go w (next a) go) (module_ x w ⊳ module_ xs w ⊳ gets_end)
module_ (m.input_item t x y z u) w = gets_at t refl (gets_token t ⊳ declaration x w ⊳ declaration y w ⊳ declaration z w ⊳ gets_token u ⊳ gets_end)
module_ (m.output_item t x y z u) w = gets_at t refl (gets_token t ⊳ declaration x w ⊳ declaration y w ⊳ declaration z w ⊳ gets_token u ⊳ gets_end)
module_ (m.parameter_item t y z u) w = gets_at t refl (gets_token t ⊳ declaration y w ⊳ declaration z w ⊳ gets_token u ⊳ gets_end)
module_ (m.region t xs u) w = gets_at t refl (gets_token t ⊳ block xs w ⊳ gets_token u ⊳ gets_end)
module_ (m.other_item a c d f x) w = enters (e.item_generates w _ a c d f) (block x w ⊳ gets_end)
