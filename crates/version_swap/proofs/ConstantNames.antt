-- The names of a module's parameters and localparams are words of the table, as they stand among its tokens (IEEE Std 1364-2005, 4.10 and 12.2).
use Rattle.std.proofs.Common.{◌≡◌, ℕ, List, [], All, map, sym, ◌∙◌, ap, subst}
use Rattle.std.proofs.lemmas.List.Elements.{All-nil, All-cons, All-append, All-weaker}
use Rattle.verilog_lex.specs.declared.token.Token.{Token}
use Rattle.verilog_ast.specs.declared.generate_item.Branch.{Branch}
use Rattle.verilog_ast.specs.declared.generate_item.GenerateItem.{GenerateItem, roll-GenerateItem}
use Rattle.verilog_ast.specs.declared.generate_item.GenerateItem.TheFolds.{map-GenerateItem}
use Rattle.verilog_ast.specs.declared.generate_item.GenerateItem.TheOpen.{GenerateItem-F}
use Rattle.verilog_ast.specs.declared.generate_item.GenerateItem.TheVariants as generate_item
use Rattle.verilog_ast.specs.declared.header_parameter.HeaderParameter.{HeaderParameter}
use Rattle.verilog_ast.specs.declared.identifier.Identifier.{Identifier}
use Rattle.verilog_ast.specs.declared.item.Item.{Item}
use Rattle.verilog_ast.specs.declared.module.Module.{Module}
use Rattle.verilog_ast.specs.declared.module_body.ModuleBody.{ModuleBody}
use Rattle.verilog_ast.specs.declared.parameter.Parameter.{Parameter}
use Rattle.verilog_ast.specs.declared.plain_item.PlainItem.{PlainItem}
use Rattle.verilog_ast.specs.declared.ports.Ports.{Ports}
use Rattle.verilog_ast.specs.Items.{ModuleItem}
use Rattle.verilog_ast.specs.Views.{parameter_of, header_parameter_of, plain_item_of, items_of, generate_item_view, generate_item_of, branch_of, item_of, declaration_of}
use Rattle.ls_text.specs.declared.place.Place.{Place}
use Rattle.verilog_decl.specs.Declarations as declarations
use Rattle.verilog_decl.specs.Headers as headers
use Rattle.verilog_parse.specs.Items as items
use Rattle.verilog_parse.specs.Generates as generates
use Rattle.verilog_parse.specs.Modules as modules
use Rattle.verilog_ast.specs.Declarations.{assigned_name, header_parameter_name}
use Rattle.module_registry.specs.Constants.{item_constants, constants_of}
use Rattle.version_swap.specs.Proper.{IsProper}
use Rattle.version_swap.specs.Spelled.{IsSpelledUnder}
use Rattle.version_swap.proofs.SameModule.{module_alone}
use Rattle.version_swap.specs.Told.{IsNamed, IsConstantTold}
use Rattle.version_swap.proofs.Fronts.{viewed, token, behind_declaration, behind_header, behind_generate, behind_module}
use Rattle.version_swap.proofs.ProperWords.{proper_word}

-- a name of the table, and a word
abbrev pub IsConstantNamed : List (List ℕ) → Identifier → Type 0
IsConstantNamed names n = IsNamed names n.name

module _ (names : List (List ℕ)) where
  abbrev AreProper : List Token → Type 0
  AreProper s = All (IsProper names) s

  abbrev AreNamed : List Identifier → Type 0
  AreNamed ns = All (IsConstantNamed names) ns

  abbrev none : AreNamed []
  none = All-nil (IsConstantNamed names)

  named : (t : Token) → IsProper names t → IsNamed names t.text
  named t h = record { within = h.0; word = proper_word names t h }

  -- ---- parameters

  parameter : {x : Parameter} {s r : List Token} → declarations.Spells (declarations.AParameter x) s r → AreProper s → IsConstantNamed names x.name
  parameter (declarations.parameter {t = t} h i j) all = named t (token names h all).0

  other_parameters : {xs : List Parameter} {s r : List Token} → declarations.Spells (declarations.OtherParameters xs) s r → AreProper s
      → AreNamed (map assigned_name (map parameter_of xs))
  other_parameters (declarations.no_parameter h) all = none
  other_parameters (declarations.another_parameter {x = x} {xs = xs} h i j) all =
      let here = (token names h all).1 in
      All-cons (IsConstantNamed names) x.name (map assigned_name (map parameter_of xs)) (parameter i here)
      (other_parameters j (behind_declaration names i here))

  parameters_behind : {x : Parameter} {xs : List Parameter} {s r : List Token} → declarations.Spells (declarations.ParametersBehind x xs) s r
      → IsConstantNamed names x.name → AreProper s → AreNamed (map assigned_name (map parameter_of xs))
  parameters_behind (declarations.parameters_behind {x = x} {xs = xs} h) first all =
      All-cons (IsConstantNamed names) x.name (map assigned_name (map parameter_of xs)) first (other_parameters h all)

  parameters : {xs : List Parameter} {s r : List Token} → declarations.Spells (declarations.Parameters xs) s r → AreProper s
      → AreNamed (map assigned_name (map parameter_of xs))
  parameters (declarations.parameters h i) all = parameters_behind i (parameter h all) (behind_declaration names h all)

  -- ---- headers

  shaped : {x : HeaderParameter} {s r : List Token} → headers.Spells (headers.AShapedParameter x) s r → AreProper s
      → IsConstantNamed names x.parameter.name
  shaped (headers.shaped h i j) all = parameter j (behind_declaration names i (token names h all).1)

  header_parameter : {x : HeaderParameter} {s r : List Token} → headers.Spells (headers.AHeaderParameter x) s r → AreProper s
      → IsConstantNamed names x.parameter.name
  header_parameter (headers.with_shape h i) all = shaped i all
  header_parameter (headers.without_shape h i) all = parameter i all

  other_header_parameters : {xs : List HeaderParameter} {s r : List Token} → headers.Spells (headers.OtherHeaderParameters xs) s r → AreProper s
      → AreNamed (map header_parameter_name (map header_parameter_of xs))
  other_header_parameters (headers.no_header_parameter h) all = none
  other_header_parameters (headers.another_header_parameter {x = x} {xs = xs} h i j) all =
      let here = (token names h all).1 in
      All-cons (IsConstantNamed names) x.parameter.name (map header_parameter_name (map header_parameter_of xs)) (header_parameter i here)
      (other_header_parameters j (behind_header names i here))

  header_parameters_behind : {x : HeaderParameter} {xs : List HeaderParameter} {s r : List Token}
      → headers.Spells (headers.HeaderParametersBehind x xs) s r → IsConstantNamed names x.parameter.name → AreProper s
      → AreNamed (map header_parameter_name (map header_parameter_of xs))
  header_parameters_behind (headers.header_parameters_behind {x = x} {xs = xs} h) first all =
      All-cons (IsConstantNamed names) x.parameter.name (map header_parameter_name (map header_parameter_of xs)) first (other_header_parameters h all)

  parameter_header : {xs : List HeaderParameter} {s r : List Token} → headers.Spells (headers.ParameterHeader xs) s r → AreProper s
      → AreNamed (map header_parameter_name (map header_parameter_of xs))
  parameter_header (headers.no_parameters h) all = none
  parameter_header (headers.some_parameters h i j o q) all =
      let here = (token names i (token names h all).1).1 in header_parameters_behind o (shaped j here) (behind_header names j here)

  header : {xs : List HeaderParameter} {y : Ports} {s r : List Token} → headers.Spells (headers.AHeader xs y) s r → AreProper s
      → AreNamed (map header_parameter_name (map header_parameter_of xs))
  header (headers.header h i j) all = parameter_header h all

  -- ---- items

  trigger : {at : Place} {x : PlainItem} {s r : List Token} → items.Spells (items.Trigger at x) s r → AreNamed (item_constants (plain_item_of x))
  trigger (items.at_inputs h i j) = none
  trigger (items.at_edge h i j o) = none

  event : {at : Place} {x : PlainItem} {s r : List Token} → items.Spells (items.AnEvent at x) s r → AreNamed (item_constants (plain_item_of x))
  event (items.at_all h i) = none
  event (items.at_bracket h i) = trigger i

  plain_item : {x : PlainItem} {s r : List Token} → items.Spells (items.APlainItem x) s r → AreProper s
      → AreNamed (item_constants (plain_item_of x))
  plain_item (items.wire_item h i j o) all = none
  plain_item (items.reg_item h i j o) all = none
  plain_item (items.local_item h i j o) all = parameters j (behind_declaration names i (token names h all).1)
  plain_item (items.genvar_item h i j) all = none
  plain_item (items.assign_item h i j) all = none
  plain_item (items.always_item h i j) all = event j
  plain_item (items.instances_item h i j o) all = none

  by_variant : (x : GenerateItem) (l : GenerateItem-F GenerateItem Branch) → roll-GenerateItem l ≡ x
      → AreNamed (item_constants (generate_item_view (map-GenerateItem GenerateItem Branch ModuleItem ModuleItem generate_item_of branch_of l)))
      → AreNamed (item_constants (generate_item_of x))
  by_variant x l is = subst (λ (y : ModuleItem). AreNamed (item_constants y)) (sym (viewed l) ∙ ap generate_item_of is)

  loop : {x : GenerateItem} {s r : List Token} → generates.Spells (generates.ALoop x) s r → AreNamed (item_constants (generate_item_of x))
  loop (generates.generate_loop {x = x} {y = y} {ys = ys} {t = t} h i j o q) =
      by_variant (generate_item.For t.at x y ys) (GenerateItem-F.For t.at x y ys) (generate_item.rolls-For t.at x y ys) none

  generated : {x : GenerateItem} {s r : List Token} → generates.Spells (generates.AGenerateItem x) s r → AreProper s
      → AreNamed (item_constants (generate_item_of x))
  generated (generates.loop_item h i) all = loop i
  generated (generates.if_item {xs = xs} h i j) all =
      by_variant (generate_item.If xs) (GenerateItem-F.If xs) (generate_item.rolls-If xs) none
  generated (generates.plain_item {x = x} h i j) all =
      by_variant (generate_item.Plain x) (GenerateItem-F.Plain x) (generate_item.rolls-Plain x) (plain_item j all)

  region : {xs : List GenerateItem} {s r : List Token} → generates.Spells (generates.GenerateItems xs) s r → AreProper s
      → AreNamed (item_constants (items_of (map generate_item_of xs)))
  region (generates.no_item h) all = none
  region (generates.another_item {x = x} {xs = xs} h i j) all =
      All-append (IsConstantNamed names) (item_constants (generate_item_of x)) (item_constants (items_of (map generate_item_of xs)))
      (generated i all) (region j (behind_generate names i all))

  item : {x : Item} {s r : List Token} → modules.Spells (modules.AnItem x) s r → AreProper s → AreNamed (item_constants (item_of x))
  item (modules.input_item h i j o q) all = none
  item (modules.output_item h i j o q) all = none
  item (modules.parameter_item h i j o) all = parameters j (behind_declaration names i (token names h all).1)
  item (modules.region h i j) all = region i (token names h all).1
  item (modules.other_item h i j o q) all = generated q all

  items_told : {xs : List Item} {s r : List Token} → modules.Spells (modules.Items xs) s r → AreProper s
      → AreNamed (item_constants (items_of (map item_of xs)))
  items_told (modules.no_item h) all = none
  items_told (modules.another_item {x = x} {xs = xs} h i j) all =
      All-append (IsConstantNamed names) (item_constants (item_of x)) (item_constants (items_of (map item_of xs)))
      (item i all) (items_told j (behind_module names i all))

  -- ---- modules

  body : {x : ModuleBody} {s r : List Token} → modules.Spells (modules.AModule x) s r → AreProper s → AreNamed (constants_of (declaration_of x))
  body (modules.module_ {xs = xs} {zs = zs} h i j o q) all =
      let here = (token names i (token names h all).1).1 in
      All-append (IsConstantNamed names) (map header_parameter_name (map header_parameter_of xs)) (item_constants (items_of (map item_of zs)))
      (header j here) (items_told o (behind_header names j here))

  pub constants_named : (x : Module) → IsSpelledUnder names x → AreNamed (constants_of (declaration_of x.body))
  constants_named x h = body (module_alone h.spelled.own h.spelled.cut h.spelled.tree) h.proper

  pub constants_told : (x : Module) → IsSpelledUnder names x → All (IsConstantTold names) (constants_of (declaration_of x.body))
  constants_told x h =
      All-weaker (IsConstantNamed names) (IsConstantTold names) (λ n is. is.word) (constants_of (declaration_of x.body)) (constants_named x h)
