-- Jobs of one text under two tables of names are the same under the names of one: they have one unit, or one first fault, under these names.
use Rattle.std.proofs.Common.{◌≡◌, ◌∙◌, ℕ, Bool, true, false, if◌then◌else◌, List, [], ◌∷◌, ◌++◌, flat_map, map, codes, refl, sym, ap, ap₂, subst}
use Rattle.std.specs.Prelude.{Option, Some, None, Result, Ok, Err}
use Rattle.std.specs.List.{AllZip}
use Rattle.std.specs.Option.{option_map}
use Rattle.std.specs.Str.{bytes_eq}
use Rattle.std.proofs.lemmas.List.{map-append}
use Rattle.std.proofs.lemmas.List.Elements.{AllZip-push}
use Rattle.ls_text.specs.declared.fault.Fault.{Fault}
use Rattle.ls_text.specs.declared.name_id.NameId.{NameId}
use Rattle.typed_ir.specs.declared.constant.Const.{Const}
use Rattle.verilog_ast.specs.declared.identifier.Identifier.{Identifier}
use Rattle.verilog_ast.specs.Items as i
use Rattle.verilog_ast.specs.Items.{ModuleItem, ModuleDeclaration}
use Rattle.verilog_ast.specs.Renamed.{renamed_identifier}
use Rattle.verilog_ast.specs.Renaming.{parameter_as, header_parameter_as, item_as, declaration_as}
use Rattle.verilog_ast.specs.Views.{declaration_of}
use Rattle.verilog_spelling.specs.Spellings.{hex_text}
use Rattle.typed_ir.specs.declared.child_shape.ChildShape.{ChildShape}
use Rattle.typed_ir.specs.declared.port_shape.PortShape.{PortShape}
use Rattle.module_registry.specs.declared.build_job.BuildJob.{BuildJob}
use Rattle.ls_text.specs.Answers.{◌>>=◌}
use Rattle.module_registry.specs.Building.{Built, built_all}
use Rattle.verilog_ast.specs.Declarations.{assigned_name, header_parameter_name}
use Rattle.module_registry.specs.Constants.{item_constants, constants_of}
use Rattle.module_registry.specs.Jobs.{job_text}
use Rattle.module_registry.specs.KeyTexts.{line_end, shape_text, parameter_lines, clock_text, clock_line, port_line, child_lines, key_text}
use Rattle.unit_build.specs.Building.{built}
use Rattle.elaborate.specs.Renaming.{KeepsApart, SpellsSame, found_as}
use Rattle.elaborate.proofs.RenamedNames.{names_so}
use Rattle.version_swap.specs.RenamedFindings.{port_shape_as, shape_as}
use Rattle.version_swap.specs.RenamedUnits.{built_as}
use Rattle.version_swap.proofs.RenamedBuilt.{same_job}
use Rattle.version_swap.specs.FirstKeys.{is_text_among, with_job, first_jobs}

-- one job is the other under other names, and its module has the same spelling
pub record IsTwin (f : NameId → NameId) (a b : BuildJob) : Type 0 where
  pub tree : declaration_of b.module.value.body ≡ declaration_as f (declaration_of a.module.value.body)
  pub spelling : b.module.value.spelling ≡ a.module.value.spelling
  pub parameters : b.parameters ≡ a.parameters
  pub clock : b.clock ≡ option_map f a.clock
  pub children : b.children ≡ map (shape_as f) a.children
  pub names : b.names ≡ map f a.names

-- ---- names of constants

item_so : (f : NameId → NameId) (x : ModuleItem) → item_constants (item_as f x) ≡ map (renamed_identifier f) (item_constants x)
item_so f (i.Items x xs) =
    ap₂ (λ (ns ms : List Identifier). ns ++ ms) (item_so f x) (item_so f xs)
    ∙ sym (map-append (renamed_identifier f) (item_constants x) (item_constants xs))
item_so f (i.Region at xs) = item_so f xs
item_so f (i.Parameters at k ps) = names_so f assigned_name (parameter_as f) (λ p. refl) ps
item_so f (i.LocalParameters at k ps) = names_so f assigned_name (parameter_as f) (λ p. refl) ps
item_so f other = refl

constants_so : (f : NameId → NameId) (m : ModuleDeclaration) → constants_of (declaration_as f m) ≡ map (renamed_identifier f) (constants_of m)
constants_so f m =
    ap₂ (λ (ns ms : List Identifier). ns ++ ms) (names_so f header_parameter_name (header_parameter_as f) (λ p. refl) m.parameters) (item_so f m.items)
    ∙ sym (map-append (renamed_identifier f) (map header_parameter_name m.parameters) (item_constants m.items))

-- ---- the text of a job

module _ (f : NameId → NameId) (texts others : List (List ℕ)) (same : SpellsSame f texts others) where
  parameters_so : (ns : List Identifier) (cs : List Const) → parameter_lines others (map (renamed_identifier f) ns) cs
      ≡ parameter_lines texts ns cs
  parameters_so [] cs = refl
  parameters_so (n ∷ ns) [] = refl
  parameters_so (n ∷ ns) (c ∷ cs) =
      ap₂ (λ (name more : List ℕ).
      (codes "param " ++ name ++ shape_text c.bits.width c.signed ++ codes " " ++ hex_text c.bits.value ++ line_end) ++ more)
      (same n.name) (parameters_so ns cs)

  clock_so : (clock : Option NameId) → clock_text others (option_map f clock) ≡ clock_text texts clock
  clock_so None = refl
  clock_so (Some n) = same n

  port_so : (p : PortShape) → port_line others (port_shape_as f p) ≡ port_line texts p
  port_so p =
      ap (λ (name : List ℕ). (if p.input then codes "in " else codes "out ") ++ name ++ shape_text p.width p.signed ++ line_end) (same p.name)

  ports_so : (ps : List PortShape) → flat_map (port_line others) (map (port_shape_as f) ps) ≡ flat_map (port_line texts) ps
  ports_so [] = refl
  ports_so (p ∷ ps) = ap₂ (λ (line more : List ℕ). line ++ more) (port_so p) (ports_so ps)

  child_so : (c : ChildShape) → child_lines others (shape_as f c) ≡ child_lines texts c
  child_so c =
      ap₂ (λ (first ports : List ℕ). first ++ ports)
      (ap₂ (λ (name clock : List ℕ). codes "child " ++ name ++ codes " " ++ clock ++ line_end) (same c.instance) (clock_so c.clock))
      (ports_so c.ports)

  children_so : (cs : List ChildShape) → flat_map (child_lines others) (map (shape_as f) cs) ≡ flat_map (child_lines texts) cs
  children_so [] = refl
  children_so (c ∷ cs) = ap₂ (λ (lines more : List ℕ). lines ++ more) (child_so c) (children_so cs)

  key_so : (spelling : List ℕ) (ns : List Identifier) (values : List Const) (clock : Option NameId) (cs : List ChildShape)
      → key_text others spelling (map (renamed_identifier f) ns) values (option_map f clock) (map (shape_as f) cs)
      ≡ key_text texts spelling ns values clock cs
  key_so spelling ns values clock cs =
      ap (λ (lines : List ℕ). spelling ++ line_end ++ lines ++ clock_line others (option_map f clock)
      ++ flat_map (child_lines others) (map (shape_as f) cs))
      (parameters_so ns values)
      ∙ ap₂ (λ (c lines : List ℕ). spelling ++ line_end ++ parameter_lines texts ns values ++ (codes "clock " ++ c ++ line_end) ++ lines)
      (clock_so clock) (children_so cs)

  pub twin_text : (a b : BuildJob) → IsTwin f a b → job_text others b ≡ job_text texts a
  twin_text a b h =
      let constants = ap constants_of h.tree ∙ constants_so f (declaration_of a.module.value.body) in
      ap₂ (λ (spelling : List ℕ) (ns : List Identifier). key_text others spelling ns b.parameters b.clock b.children) h.spelling constants
      ∙ ap₂ (λ (values : List Const) (clock : Option NameId).
      key_text others a.module.value.spelling
      (map (renamed_identifier f) (constants_of (declaration_of a.module.value.body))) values clock b.children)
      h.parameters h.clock
      ∙ ap (key_text others a.module.value.spelling (map (renamed_identifier f) (constants_of (declaration_of a.module.value.body))) a.parameters
      (option_map f a.clock))
      h.children
      ∙ key_so a.module.value.spelling (constants_of (declaration_of a.module.value.body)) a.parameters a.clock a.children

  -- ---- the first of each text

  abbrev AreTwins : List BuildJob → List BuildJob → Type 0
  AreTwins ks js = AllZip (IsTwin f) ks js

  among_so : (text : List ℕ) (ks js : List BuildJob) → AreTwins ks js → is_text_among others text js ≡ is_text_among texts text ks
  among_so text [] [] twins = refl
  among_so text [] (b ∷ js) twins = absurd twins
  among_so text (a ∷ ks) [] twins = absurd twins
  among_so text (a ∷ ks) (b ∷ js) twins =
      ap₂ (λ (other : List ℕ) (more : Bool). if bytes_eq text other then true else more) (twin_text a b twins.0) (among_so text ks js twins.1)

  one_more : (ks js : List BuildJob) (a b : BuildJob) → AreTwins ks js → IsTwin f a b → AreTwins (with_job texts ks a) (with_job others js b)
  one_more ks js a b twins twin =
      subst (λ (c : Bool). AreTwins (with_job texts ks a) (if c then js else js ++ b ∷ []))
      (sym (ap (λ (text : List ℕ). is_text_among others text js) (twin_text a b twin) ∙ among_so (job_text texts a) ks js twins))
      (by (is_text_among texts (job_text texts a) ks))
    where
      by : (c : Bool) → AreTwins (if c then ks else ks ++ a ∷ []) (if c then js else js ++ b ∷ [])
      by true = twins
      by false = AllZip-push (IsTwin f) ks js a b twins twin

  pub twins_first : (ks js cs ds : List BuildJob) → AreTwins ks js → AreTwins cs ds → AreTwins (first_jobs texts ks cs) (first_jobs others js ds)
  twins_first ks js [] [] first twins = first
  twins_first ks js [] (d ∷ ds) first twins = absurd twins
  twins_first ks js (c ∷ cs) [] first twins = absurd twins
  twins_first ks js (c ∷ cs) (d ∷ ds) first twins =
      twins_first (with_job texts ks c) (with_job others js d) cs ds (one_more ks js c d first twins.0) twins.1

  pub twin_texts : (ks js : List BuildJob) → AreTwins ks js → map (job_text others) js ≡ map (job_text texts) ks
  twin_texts [] [] twins = refl
  twin_texts [] (b ∷ js) twins = absurd twins
  twin_texts (a ∷ ks) [] twins = absurd twins
  twin_texts (a ∷ ks) (b ∷ js) twins = ap₂ (λ (t : List ℕ) (ts : List (List ℕ)). t ∷ ts) (twin_text a b twins.0) (twin_texts ks js twins.1)

-- ---- units

module _ (f : NameId → NameId) (apart : KeepsApart f) where
  twin_built : (a b : BuildJob) → IsTwin f a b → built b ≡ found_as f (built_as f) (built a)
  twin_built a b h = same_job f a b apart h.tree h.parameters h.clock h.children h.names

  abbrev both : Result Built Fault → Result (List Built) Fault → Result (List Built) Fault
  both first rest = first >>= λ u. rest >>= λ us. Ok (u ∷ us)

  both_so : (r : Result Built Fault) (more : Result (List Built) Fault)
      → both (found_as f (built_as f) r) (found_as f (map (built_as f)) more) ≡ found_as f (map (built_as f)) (both r more)
  both_so (Err e) more = refl
  both_so (Ok u) (Err e) = refl
  both_so (Ok u) (Ok us) = refl

  pub twins_built : (ks js : List BuildJob) → AllZip (IsTwin f) ks js → built_all built js ≡ found_as f (map (built_as f)) (built_all built ks)
  twins_built [] [] twins = refl
  twins_built [] (b ∷ js) twins = absurd twins
  twins_built (a ∷ ks) [] twins = absurd twins
  twins_built (a ∷ ks) (b ∷ js) twins =
      ap₂ both (twin_built a b twins.0) (twins_built ks js twins.1) ∙ both_so (built a) (built_all built ks)
