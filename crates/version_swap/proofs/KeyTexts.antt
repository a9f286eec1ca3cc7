-- A key's text tells the parts of its job.
use Rattle.std.proofs.Common.{◌≡◌, ℕ, ◌≤◌, List, [], ◌∷◌, ◌++◌, All, length, flat_map, codes, Option, refl, sym, ap, ap₂, ◌∙◌, append_assoc, arith}
use Rattle.std.proofs.lemmas.List.Elements.{All-head, All-tail}
use Rattle.std.proofs.lemmas.List.{append_cancel_left}
use Rattle.ls_text.specs.Texts.{HasEachOnce}
use Rattle.ls_text.specs.declared.name_id.NameId.{NameId}
use Rattle.ls_text.proofs.Lists.{first_of}
use Rattle.typed_ir.specs.declared.constant.Const.{Const}
use Rattle.typed_ir.specs.declared.child_shape.ChildShape.{ChildShape}
use Rattle.verilog_ast.specs.declared.identifier.Identifier.{Identifier}
use Rattle.verilog_ast.specs.Views.{declaration_of}
use Rattle.module_registry.specs.Constants.{constants_of}
use Rattle.module_registry.specs.Jobs.{job_text}
use Rattle.module_registry.specs.KeyTexts.{line_end, parameter_line, parameter_lines, clock_text, clock_line, child_lines, key_text}
use Rattle.module_registry.specs.declared.build_job.BuildJob.{BuildJob}
use Rattle.module_registry.proofs.Lines.{ended}
use Rattle.version_swap.specs.Told.{IsConstantTold, IsTold, HasSameParts}
use Rattle.version_swap.proofs.Cuts.{cut}
use Rattle.version_swap.proofs.Lines.{IsRead, parameter_read, clock_text_read}
use Rattle.version_swap.proofs.Children.{children_read}

-- ---- parameters

no_parameter : (names : List (List ℕ)) (ns : List Identifier) → [] ≡ parameter_lines names ns []
no_parameter names ns = ended names [] (parameter_lines names ns []) ns [] refl refl

-- a line of a parameter doesn't begin as what follows the last one
not_behind : {P : Type 0} (names : List (List ℕ)) (n : Identifier) (c : Const) (ns ms : List Identifier) (cs : List Const) (xs ys : List ℕ)
    → first_of xs ≡ 99 → parameter_lines names ms [] ++ xs ≡ parameter_lines names (n ∷ ns) (c ∷ cs) ++ ys → P
not_behind names n c ns ms cs xs ys starts e =
    let begins : first_of xs ≡ 112 = ap first_of (ap (λ z. z ++ xs) (no_parameter names ms) ∙ e) in
    absurd (omega (arith, starts, begins))

parameters_read : (names : List (List ℕ)) (ms ns : List Identifier) (bs cs : List Const) (xs ys : List ℕ)
    → All (IsConstantTold names) ms → All (IsConstantTold names) ns → length bs ≤ length ms → length cs ≤ length ns → first_of xs ≡ 99 → first_of ys ≡ 99
    → parameter_lines names ms bs ++ xs ≡ parameter_lines names ns cs ++ ys → IsRead bs cs xs ys
parameters_read names ms ns [] [] xs ys told_m told_n many_b many_c starts_x starts_y e = record {
  same = refl;
  after = ap (λ z. z ++ xs) (no_parameter names ms) ∙ e ∙ ap (λ z. z ++ ys) (sym (no_parameter names ns));
}
parameters_read names ms [] bs (c ∷ cs) xs ys told_m told_n many_b many_c starts_x starts_y e = absurd (omega (arith, many_c))
parameters_read names [] ns (b ∷ bs) cs xs ys told_m told_n many_b many_c starts_x starts_y e = absurd (omega (arith, many_b))
parameters_read names ms (n ∷ ns) [] (c ∷ cs) xs ys told_m told_n many_b many_c starts_x starts_y e =
    not_behind names n c ns ms cs xs ys starts_x e
parameters_read names (m ∷ ms) ns (b ∷ bs) [] xs ys told_m told_n many_b many_c starts_x starts_y e =
    not_behind names m b ms ns bs ys xs starts_y (sym e)
parameters_read names (m ∷ ms) (n ∷ ns) (b ∷ bs) (c ∷ cs) xs ys told_m told_n many_b many_c starts_x starts_y e =
    let one : IsRead b c (parameter_lines names ms bs ++ xs) (parameter_lines names ns cs ++ ys) =
    parameter_read names m n b c _ _ (All-head (IsConstantTold names) m ms told_m) (All-head (IsConstantTold names) n ns told_n)
    (sym (append_assoc (parameter_line names m b) (parameter_lines names ms bs) xs) ∙ e
    ∙ append_assoc (parameter_line names n c) (parameter_lines names ns cs) ys) in
    let more : IsRead bs cs xs ys =
    parameters_read names ms ns bs cs xs ys (All-tail (IsConstantTold names) m ms told_m) (All-tail (IsConstantTold names) n ns told_n)
    (omega (arith, many_b)) (omega (arith, many_c)) starts_x starts_y one.after in
    record { same = ap₂ (λ z zs. z ∷ zs) one.same more.same; after = more.after }

-- ---- keys

abbrev constants_in : BuildJob → List Identifier
constants_in job = constants_of (declaration_of job.module.value.body)

-- a key's text in a row: what stands up to the first line end, the parameters' lines, and then the clock's line and the instances' lines
key_row : (names : List (List ℕ)) (spelling : List ℕ) (ns : List Identifier) (cs : List Const) (clock : Option NameId) (children : List ChildShape)
    → key_text names spelling ns cs clock children
    ≡ spelling ++ 10 ∷ (parameter_lines names ns cs ++ (codes "clock " ++ (clock_text names clock ++ 10 ∷ flat_map (child_lines names) children)))
key_row names spelling ns cs clock children =
    let parameters : List ℕ = parameter_lines names ns cs in
    let name : List ℕ = clock_text names clock in
    let instances : List ℕ = flat_map (child_lines names) children in
    append_assoc (spelling ++ line_end ++ parameters) (clock_line names clock) instances
    ∙ append_assoc (spelling ++ line_end) parameters (clock_line names clock ++ instances)
    ∙ append_assoc spelling line_end (parameters ++ (clock_line names clock ++ instances))
    ∙ ap (λ z. spelling ++ 10 ∷ (parameters ++ z))
    (append_assoc (codes "clock " ++ name) line_end instances ∙ append_assoc (codes "clock ") name (10 ∷ instances))

-- two jobs of one key text have the same parts
pub key_tells : (names : List (List ℕ)) (a b : BuildJob) → HasEachOnce names → IsTold names a → IsTold names b
    → job_text names a ≡ job_text names b → HasSameParts a b
key_tells names a b once told_a told_b e =
    let row = sym (key_row names a.module.value.spelling (constants_in a) a.parameters a.clock a.children) ∙ e
    ∙ key_row names b.module.value.spelling (constants_in b) b.parameters b.clock b.children in
    let spelling = cut 10 a.module.value.spelling b.module.value.spelling _ _ told_a.spelling told_b.spelling row in
    let parameters = parameters_read names (constants_in a) (constants_in b) a.parameters b.parameters _ _
    told_a.constants told_b.constants told_a.values told_b.values refl refl spelling.after in
    let clock = clock_text_read names a.clock b.clock _ _ once told_a.clock told_b.clock (append_cancel_left (codes "clock ") _ _ parameters.after) in
    record {
      spelling = spelling.before;
      parameters = parameters.same;
      clock = clock.same;
      children = children_read names a.children b.children once told_a.children told_b.children clock.after;
    }
