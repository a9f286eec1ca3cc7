-- The text of a job under a table is the same under the table when it has grown.
use Rattle.std.proofs.Common.{◌≡◌, ℕ, List, [], ◌∷◌, ◌++◌, All, flat_map, codes, if◌then◌else◌, Option, Some, None, refl, ap, ap₂, ◌∙◌}
use Rattle.std.proofs.lemmas.List.Elements.{All-head, All-tail}
use Rattle.ls_text.specs.Texts.{Grows, text_at}
use Rattle.ls_text.specs.declared.name_id.NameId.{NameId}
use Rattle.ls_text.proofs.Growth.{grown_text}
use Rattle.typed_ir.specs.declared.constant.Const.{Const}
use Rattle.typed_ir.specs.declared.child_shape.ChildShape.{ChildShape}
use Rattle.typed_ir.specs.declared.port_shape.PortShape.{PortShape}
use Rattle.verilog_ast.specs.declared.identifier.Identifier.{Identifier}
use Rattle.verilog_ast.specs.Views.{declaration_of}
use Rattle.verilog_spelling.specs.Spellings.{hex_text}
use Rattle.module_registry.specs.Constants.{constants_of}
use Rattle.module_registry.specs.Jobs.{job_text}
use Rattle.module_registry.specs.KeyTexts.{line_end, shape_text, parameter_lines, clock_text, clock_line, port_line, child_lines}
use Rattle.module_registry.specs.declared.build_job.BuildJob.{BuildJob}
use Rattle.version_swap.specs.JobsUnder.{IsJobUnder}
use Rattle.version_swap.specs.Told.{IsNamed, IsPortTold, IsClockTold, IsChildTold}
use Rattle.version_swap.proofs.ConstantNames.{IsConstantNamed, constants_named}

module _ (old new : List (List ℕ)) (grows : Grows old new) where
  name_kept : (n : NameId) → IsNamed old n → text_at new n.0 ≡ text_at old n.0
  name_kept n h = grown_text old new n.0 grows h.within

  parameters_kept : (ns : List Identifier) (cs : List Const) → All (IsConstantNamed old) ns
      → parameter_lines new ns cs ≡ parameter_lines old ns cs
  parameters_kept [] cs all = refl
  parameters_kept (n ∷ ns) [] all = refl
  parameters_kept (n ∷ ns) (c ∷ cs) all =
      ap₂ (λ (name more : List ℕ).
      (codes "param " ++ name ++ shape_text c.bits.width c.signed ++ codes " " ++ hex_text c.bits.value ++ line_end) ++ more)
      (name_kept n.name (All-head (IsConstantNamed old) n ns all))
      (parameters_kept ns cs (All-tail (IsConstantNamed old) n ns all))

  clock_kept : (clock : Option NameId) → IsClockTold old clock → clock_text new clock ≡ clock_text old clock
  clock_kept None h = refl
  clock_kept (Some n) h = name_kept n h.0

  port_kept : (p : PortShape) → IsPortTold old p → port_line new p ≡ port_line old p
  port_kept p h =
      ap (λ (name : List ℕ). (if p.input then codes "in " else codes "out ") ++ name ++ shape_text p.width p.signed ++ line_end)
      (name_kept p.name h)

  ports_kept : (ps : List PortShape) → All (IsPortTold old) ps → flat_map (port_line new) ps ≡ flat_map (port_line old) ps
  ports_kept [] all = refl
  ports_kept (p ∷ ps) all =
      ap₂ (λ (line more : List ℕ). line ++ more) (port_kept p (All-head (IsPortTold old) p ps all))
      (ports_kept ps (All-tail (IsPortTold old) p ps all))

  child_kept : (c : ChildShape) → IsChildTold old c → child_lines new c ≡ child_lines old c
  child_kept c h =
      ap₂ (λ (first ports : List ℕ). first ++ ports)
      (ap₂ (λ (name clock : List ℕ). codes "child " ++ name ++ codes " " ++ clock ++ line_end) (name_kept c.instance h.instance)
      (clock_kept c.clock h.clock))
      (ports_kept c.ports h.ports)

  children_kept : (cs : List ChildShape) → All (IsChildTold old) cs → flat_map (child_lines new) cs ≡ flat_map (child_lines old) cs
  children_kept [] all = refl
  children_kept (c ∷ cs) all =
      ap₂ (λ (lines more : List ℕ). lines ++ more) (child_kept c (All-head (IsChildTold old) c cs all))
      (children_kept cs (All-tail (IsChildTold old) c cs all))

  pub text_kept : (job : BuildJob) → IsJobUnder old job → job_text new job ≡ job_text old job
  text_kept job h =
      let names = constants_of (declaration_of job.module.value.body) in
      ap (λ (parameters : List ℕ). job.module.value.spelling ++ line_end ++ parameters ++ clock_line new job.clock
      ++ flat_map (child_lines new) job.children)
      (parameters_kept names job.parameters (constants_named old job.module.value h.spelled))
      ∙ ap₂ (λ (clock children : List ℕ). job.module.value.spelling ++ line_end ++ parameter_lines old names job.parameters
      ++ (codes "clock " ++ clock ++ line_end) ++ children)
      (clock_kept job.clock h.clock) (children_kept job.children h.children)
