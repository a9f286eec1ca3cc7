-- The variables that combinational blocks write, by the names of their targets: these are no registers (IEEE Std 1364-2005, 9.2, 9.9; that a
-- variable has one kind of blocks is this project's own).
use Rattle.std.specs.Prelude.{ℕ, zero, suc, Bool, true, false, List, [], ◌∷◌, map}
use Rattle.typed_ir.specs.declared.mention.Mention.{Mention}
use Rattle.verilog_ast.specs.Items as i
use Rattle.verilog_ast.specs.Items.{ModuleItem}
use Rattle.width_rules.specs.declared.writer.Writer.{Writer}
use Rattle.width_rules.specs.Scopes.{Meaning, Signal, Constant, Turn, Genvar, Unknown, Scope}
use Rattle.gen_unroll.specs.Reaches.{Reach}
use Rattle.gen_unroll.specs.Steps.{ModuleStep, Item}
use Rattle.width_rules.specs.Mentions.{statement_targets}
use Rattle.gen_unroll.specs.Signals.{NamedSignal}
use Rattle.gen_unroll.specs.UnitReaches.{unit_in_reach}

-- the flag of a number is set, where there is one
abbrev pub flagged : ℕ → List Bool → List Bool
flagged k [] = []
flagged zero (b ∷ bs) = true ∷ bs
flagged (suc k) (b ∷ bs) = b ∷ flagged k bs

-- that of a net or variable; any other name sets none
abbrev pub flag_meaning : Meaning → List Bool → List Bool
flag_meaning (Signal signal width lsb signed writer) flags = flagged signal flags
flag_meaning (Constant width value signed) flags = flags
flag_meaning (Turn width value signed) flags = flags
flag_meaning Genvar flags = flags
flag_meaning Unknown flags = flags

abbrev pub flag_names : Scope → List Mention → List Bool → List Bool
flag_names scope [] flags = flags
flag_names scope (m ∷ ms) flags = flag_names scope ms (flag_meaning (scope m.name.0) flags)

abbrev pub flag_item : Scope → ModuleItem → List Bool → List Bool
flag_item scope (i.Combinational at body) flags = flag_names scope (statement_targets 0 body) flags
flag_item scope other flags = flags

abbrev pub flag_step : Scope → ModuleStep → List Bool → List Bool
flag_step scope (Item x) flags = flag_item scope x flags
flag_step scope other flags = flags

abbrev pub flag_steps : (w : ℕ → Writer) → List NamedSignal → Reach → List ModuleStep → List Bool → List Bool
flag_steps w xs here [] flags = flags
flag_steps w xs here (s ∷ ss) flags = flag_steps w xs (unit_in_reach w xs s here) ss (flag_step here.scope s flags)

-- before the first one
abbrev pub none_of : List NamedSignal → List Bool
none_of xs = map (λ x. false) xs
