-- The visit of a module under other names.
use Rattle.std.proofs.Common.{◌≡◌, ℕ, List, [], ◌∷◌, drop, map, Option, Some, None, Ok, refl, ◌∙◌, ap, ap₂}
use Rattle.std.proofs.lemmas.List.{drop-map}
use Rattle.ls_text.specs.declared.name_id.NameId.{NameId}
use Rattle.verilog_ast.specs.declared.identifier.Identifier.{Identifier}
use Rattle.verilog_ast.specs.Items.{ModuleDeclaration}
use Rattle.verilog_ast.specs.Renamed.{renamed_identifier}
use Rattle.verilog_ast.specs.Renaming.{declaration_as}
use Rattle.gen_unroll.specs.Reaches.{reach_in}
use Rattle.gen_unroll.specs.Steps.{GenerateBlock, ModuleStep}
use Rattle.gen_unroll.specs.Unrolled.{unrolled_module}
use Rattle.gen_unroll.specs.Values.{ConstantValue}
use Rattle.module_names.specs.Modules.{header_ports}
use Rattle.elaborate.specs.Checks.{Checked}
use Rattle.elaborate.specs.Clocks.{with_clock}
use Rattle.elaborate.specs.Ports.{PortOutline, outline, port_outline, port_outlines}
use Rattle.elaborate.specs.Tables.{Declaration, Table, declared_as}
use Rattle.elaborate.specs.Visits.{Visited, none_beyond, top_ports, clocked, with_clocks, visited}
use Rattle.elaborate.specs.Findings.{table_as, checked_as, clock_as, outline_as, visited_as}
use Rattle.elaborate.specs.Renaming.{KeepsApart, found_as, answer_as, step_as}
use Rattle.elaborate.proofs.RenamedAnswers.{found_so, value_so, bind_so}
use Rattle.elaborate.proofs.RenamedChecks.{same_checked}
use Rattle.elaborate.proofs.RenamedClockPorts.{same_clock_steps, same_own_clock}
use Rattle.elaborate.proofs.RenamedClocks.{clock_known}
use Rattle.elaborate.proofs.RenamedModules.{same_ports}
use Rattle.elaborate.proofs.RenamedNames.{same_beginning}
use Rattle.elaborate.proofs.RenamedTables.{same_declared}
use Rattle.elaborate.proofs.RenamedTold.{same_blocks}
use Rattle.elaborate.proofs.RenamedUnrolled.{same_steps}

-- ---- ports

outline_moves : (f : NameId → NameId) (p : Identifier) (d : Option Declaration) → outline (renamed_identifier f p) d ≡ outline_as f (outline p d)
outline_moves f p None = refl
outline_moves f p (Some d) = refl

outline_so : (f : NameId → NameId) (t : Table) (p : Identifier) → KeepsApart f → port_outline (table_as f t) (renamed_identifier f p) ≡ outline_as f (port_outline t p)
outline_so f t p apart =
    ap (outline (renamed_identifier f p)) (same_declared f (record { block = None; name = p.name.0 }) t apart)
    ∙ outline_moves f p (declared_as (record { block = None; name = p.name.0 }) t)

same_outlines : (f : NameId → NameId) (ps : List Identifier) (t : Table) → KeepsApart f
    → port_outlines (map (renamed_identifier f) ps) (table_as f t) ≡ map (outline_as f) (port_outlines ps t)
same_outlines f [] t apart = refl
same_outlines f (p ∷ ps) t apart = ap₂ (λ (o : PortOutline) (os : List PortOutline). o ∷ os) (outline_so f t p apart) (same_outlines f ps t apart)

beyond_so : (f : NameId → NameId) (ps : List Identifier) → none_beyond (map (renamed_identifier f) ps) ≡ answer_as f (none_beyond ps)
beyond_so f [] = refl
beyond_so f (p ∷ ps) = refl

-- ---- the clock

top_ports_so : (f : NameId → NameId) (most clock : Option ℕ) (ps : List Identifier) (t : Table) → KeepsApart f
    → top_ports most (clock_as f clock) (map (renamed_identifier f) ps) (table_as f t) ≡ answer_as f (top_ports most clock ps t)
top_ports_so f None clock ps t apart = refl
top_ports_so f (Some most) clock ps t apart =
    bind_so f _ _ _ _ (ap none_beyond (drop-map (renamed_identifier f) most ps) ∙ beyond_so f (drop most ps)) (λ _. same_own_clock f clock ps t apart)

clocked_so : (f : NameId → NameId) (ms : List ModuleDeclaration) (m : ModuleDeclaration) (said : List ModuleStep) (most clock : Option ℕ) (t : Table) → KeepsApart f
    → clocked (map (declaration_as f) ms) (declaration_as f m) (map (step_as f) said) most (clock_as f clock) (table_as f t) ≡ found_as f (map (clock_as f)) (clocked ms m said most clock t)
clocked_so f ms m said most clock t apart =
    value_so f (map (clock_as f)) _ _ _ _
    (ap (λ (ps : List Identifier). top_ports most (clock_as f clock) ps (table_as f t)) (same_ports f m.ports) ∙ top_ports_so f most clock (header_ports m.ports) t apart)
    (λ _. same_clock_steps f ms clock t (with_clock clock (reach_in m)) (with_clock (clock_as f clock) (reach_in (declaration_as f m))) said [] apart
    (clock_known f clock (reach_in m) (reach_in (declaration_as f m)) apart (same_beginning f m apart)))

-- ---- a visit

abbrev visited_with : Checked → List (Option ℕ) → List GenerateBlock → List PortOutline → Visited
visited_with c ks bs ps = record { checks = c; clocks = ks; blocks = bs; ports = ps }

with_clocks_so : (f : NameId → NameId) (m : ModuleDeclaration) (said : List ModuleStep) (c : Checked) (ks : List (Option ℕ)) → KeepsApart f
    → with_clocks (declaration_as f m) (map (step_as f) said) (checked_as f c) (map (clock_as f) ks) ≡ visited_as f (with_clocks m said c ks)
with_clocks_so f m said c ks apart =
    ap₂ (visited_with (checked_as f c) (map (clock_as f) ks)) (same_blocks f said)
    (ap (λ (ps : List Identifier). port_outlines ps (table_as f c.declared)) (same_ports f m.ports) ∙ same_outlines f (header_ports m.ports) c.declared apart)

pub same_visited : (f : NameId → NameId) (turns : ℕ) (ms : List ModuleDeclaration) (most : Option ℕ) (m : ModuleDeclaration) (vs : List (Option ConstantValue)) (clock : Option ℕ) → KeepsApart f
    → visited turns (map (declaration_as f) ms) most (declaration_as f m) vs (clock_as f clock) ≡ found_as f (visited_as f) (visited turns ms most m vs clock)
unfolding visited
same_visited f turns ms most m vs clock apart =
    found_so f (checked_as f) (visited_as f) _ _ _ _ (same_checked f turns ms m vs apart)
    (λ c. found_so f (map (clock_as f)) (visited_as f) _ _ _ _
    (ap (λ (said : List ModuleStep). clocked (map (declaration_as f) ms) (declaration_as f m) said most (clock_as f clock) (table_as f c.declared)) (same_steps f turns vs m apart)
    ∙ clocked_so f ms m (unrolled_module turns vs m).said most clock c.declared apart)
    (λ ks. ap (λ (said : List ModuleStep). Ok (with_clocks (declaration_as f m) said (checked_as f c) (map (clock_as f) ks))) (same_steps f turns vs m apart)
    ∙ ap Ok (with_clocks_so f m (unrolled_module turns vs m).said c ks apart)))
