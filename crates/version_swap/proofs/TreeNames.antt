-- What a module declares, its instances and the labels of its blocks are identifiers among its tokens, and so names of the table by which it is
-- spelled (IEEE Std 1364-2005, 4.2, 12.1.2 and 12.4).
use Rattle.std.proofs.Common.{◌≡◌, ℕ, List, [], All, map, Some, None, sym, ◌∙◌, ap, subst}
use Rattle.std.proofs.lemmas.List.Elements.{All-nil, All-cons}
use Rattle.ls_text.specs.declared.place.Place.{Place}
use Rattle.verilog_lex.specs.declared.kind.Kind.TheVariants as k
use Rattle.verilog_lex.specs.declared.token.Token.{Token}
use Rattle.verilog_ast.specs.declared.generate_item.Branch.{Branch}
use Rattle.verilog_ast.specs.declared.generate_item.GenerateItem.{GenerateItem, roll-GenerateItem}
use Rattle.verilog_ast.specs.declared.generate_item.GenerateItem.TheFolds.{fold_out-Branch, map-GenerateItem}
use Rattle.verilog_ast.specs.declared.generate_item.GenerateItem.TheOpen.{GenerateItem-F}
use Rattle.verilog_ast.specs.declared.generate_item.GenerateItem.TheVariants as generate_item
use Rattle.verilog_ast.specs.declared.identifier.Identifier.{Identifier}
use Rattle.verilog_ast.specs.declared.instance.Instance.{Instance}
use Rattle.verilog_ast.specs.declared.item.Item.{Item}
use Rattle.verilog_ast.specs.declared.module.Module.{Module}
use Rattle.verilog_ast.specs.declared.module_body.ModuleBody.{ModuleBody}
use Rattle.verilog_ast.specs.declared.plain_item.PlainItem.{PlainItem}
use Rattle.verilog_ast.specs.declared.reg_variable.RegVariable.{RegVariable}
use Rattle.verilog_ast.specs.declared.variable.Variable.{Variable}
use Rattle.verilog_ast.specs.Items.{ModuleItem, ModuleDeclaration}
use Rattle.verilog_ast.specs.Views.{declared_of, declared_reg_of, instance_of, plain_item_of, items_of, generate_item_view, branch_view, generate_item_of, branch_of, item_of, declaration_of}
use Rattle.verilog_expr.specs.Tokens.{Takes, taken, identifier_of}
use Rattle.verilog_decl.specs.Declarations as declarations
use Rattle.verilog_parse.specs.Items as items
use Rattle.verilog_parse.specs.Generates as generates
use Rattle.verilog_parse.specs.Modules as modules
use Rattle.gen_unroll.specs.Declarations.{declared_name, declared_reg_name, instance_name}
use Rattle.version_swap.specs.Proper.{IsProper}
use Rattle.version_swap.specs.Spelled.{IsSpelledUnder}
use Rattle.version_swap.proofs.SameModule.{module_alone}
use Rattle.version_swap.specs.JobsUnder.{IsIn}
use Rattle.version_swap.proofs.Fronts.{viewed, token, behind_declaration, behind_expression, behind_header, behind_generate, behind_module}
use Rattle.version_swap.proofs.StepNames.{AreNamed}

-- what holds of the name of a module, and of those in it
abbrev pub IsModuleNamed : (Identifier → Type 0) → ModuleDeclaration → Type 0
IsModuleNamed P m = P m.name × AreNamed P m.items

-- the name is in the table
abbrev pub IsNameIn : List (List ℕ) → Identifier → Type 0
IsNameIn names n = IsIn names n.name

module _ (names : List (List ℕ)) (P : Identifier → Type 0) (is : (t : Token) → t.kind ≡ k.Word → IsProper names t → P (identifier_of t)) where
  abbrev AreProper : List Token → Type 0
  AreProper s = All (IsProper names) s

  abbrev AreNames : List Identifier → Type 0
  AreNames ns = All P ns

  abbrev TreeNamed : ModuleItem → Type 0
  TreeNamed = AreNamed P

  abbrev none : AreNames []
  none = All-nil P

  -- a token that is taken as a word, and what is left
  word : {s r : List Token} {t : Token} → Takes k.Word s r t → AreProper s → P (identifier_of t) × AreProper r
  word (taken {token = t} cut same) all =
      let here = token names (taken {token = t} cut same) all in (is t same here.0, here.1)

  -- ---- nets and variables

  variable : {x : Variable} {s r : List Token} → declarations.Spells (declarations.AVariable x) s r → AreProper s → P x.name
  variable (declarations.variable h i) all = (word h all).0

  other_variables : {xs : List Variable} {s r : List Token} → declarations.Spells (declarations.OtherVariables xs) s r → AreProper s
      → AreNames (map declared_name (map declared_of xs))
  other_variables (declarations.no_variable h) all = none
  other_variables (declarations.another_variable {x = x} {xs = xs} h i j) all =
      let here = (token names h all).1 in
      All-cons P x.name (map declared_name (map declared_of xs)) (variable i here)
      (other_variables j (behind_declaration names i here))

  variables_behind : {x : Variable} {xs : List Variable} {s r : List Token} → declarations.Spells (declarations.VariablesBehind x xs) s r
      → P x.name → AreProper s → AreNames (map declared_name (map declared_of xs))
  variables_behind (declarations.variables_behind {x = x} {xs = xs} h) first all =
      All-cons P x.name (map declared_name (map declared_of xs)) first (other_variables h all)

  variables : {xs : List Variable} {s r : List Token} → declarations.Spells (declarations.Variables xs) s r → AreProper s
      → AreNames (map declared_name (map declared_of xs))
  variables (declarations.variables h i) all = variables_behind i (variable h all) (behind_declaration names h all)

  reg : {x : RegVariable} {s r : List Token} → declarations.Spells (declarations.ARegVariable x) s r → AreProper s → P x.name
  reg (declarations.reg_variable h) all = variable h all

  other_regs : {xs : List RegVariable} {s r : List Token} → declarations.Spells (declarations.OtherRegVariables xs) s r → AreProper s
      → AreNames (map declared_reg_name (map declared_reg_of xs))
  other_regs (declarations.no_reg_variable h) all = none
  other_regs (declarations.another_reg_variable {x = x} {xs = xs} h i j) all =
      let here = (token names h all).1 in
      All-cons P x.name (map declared_reg_name (map declared_reg_of xs)) (reg i here)
      (other_regs j (behind_declaration names i here))

  regs_behind : {x : RegVariable} {xs : List RegVariable} {s r : List Token} → declarations.Spells (declarations.RegVariablesBehind x xs) s r
      → P x.name → AreProper s → AreNames (map declared_reg_name (map declared_reg_of xs))
  regs_behind (declarations.reg_variables_behind {x = x} {xs = xs} h) first all =
      All-cons P x.name (map declared_reg_name (map declared_reg_of xs)) first (other_regs h all)

  regs : {xs : List RegVariable} {s r : List Token} → declarations.Spells (declarations.RegVariables xs) s r → AreProper s
      → AreNames (map declared_reg_name (map declared_reg_of xs))
  regs (declarations.reg_variables h i) all = regs_behind i (reg h all) (behind_declaration names h all)

  -- ---- instances

  one_instance : {x : Instance} {s r : List Token} → declarations.Spells (declarations.AnInstance x) s r → AreProper s → P x.name
  one_instance (declarations.instance_ h i j o) all = (word h all).0

  other_instances : {xs : List Instance} {s r : List Token} → declarations.Spells (declarations.OtherInstances xs) s r → AreProper s
      → AreNames (map instance_name (map instance_of xs))
  other_instances (declarations.no_instance h) all = none
  other_instances (declarations.another_instance {x = x} {xs = xs} h i j) all =
      let here = (token names h all).1 in
      All-cons P x.name (map instance_name (map instance_of xs)) (one_instance i here) (other_instances j (behind_declaration names i here))

  instances_behind : {x : Instance} {xs : List Instance} {s r : List Token} → declarations.Spells (declarations.InstancesBehind x xs) s r
      → P x.name → AreProper s → AreNames (map instance_name (map instance_of xs))
  instances_behind (declarations.instances_behind {x = x} {xs = xs} h) first all =
      All-cons P x.name (map instance_name (map instance_of xs)) first (other_instances h all)

  instances : {xs : List Instance} {s r : List Token} → declarations.Spells (declarations.Instances xs) s r → AreProper s
      → AreNames (map instance_name (map instance_of xs))
  instances (declarations.instances h i) all = instances_behind i (one_instance h all) (behind_declaration names h all)

  -- ---- items

  trigger : {at : Place} {x : PlainItem} {s r : List Token} → items.Spells (items.Trigger at x) s r → TreeNamed (plain_item_of x)
  trigger (items.at_inputs h i j) = none
  trigger (items.at_edge h i j o) = none

  event : {at : Place} {x : PlainItem} {s r : List Token} → items.Spells (items.AnEvent at x) s r → TreeNamed (plain_item_of x)
  event (items.at_all h i) = none
  event (items.at_bracket h i) = trigger i

  plain_item : {x : PlainItem} {s r : List Token} → items.Spells (items.APlainItem x) s r → AreProper s → TreeNamed (plain_item_of x)
  plain_item (items.wire_item h i j o) all = variables j (behind_declaration names i (token names h all).1)
  plain_item (items.reg_item h i j o) all = regs j (behind_declaration names i (token names h all).1)
  plain_item (items.local_item h i j o) all = none
  plain_item (items.genvar_item h i j) all = none
  plain_item (items.assign_item h i j) all = none
  plain_item (items.always_item h i j) all = event j
  plain_item (items.instances_item h i j o) all = instances j (behind_declaration names i (token names h all).1)

  -- ---- generate blocks

  by_variant : (x : GenerateItem) (l : GenerateItem-F GenerateItem Branch) → roll-GenerateItem l ≡ x
      → TreeNamed (generate_item_view (map-GenerateItem GenerateItem Branch ModuleItem ModuleItem generate_item_of branch_of l))
      → TreeNamed (generate_item_of x)
  by_variant x l is = subst TreeNamed (sym (viewed l) ∙ ap generate_item_of is)

  branch_in : (x : Branch) → P x.label × TreeNamed (items_of (map generate_item_of x.items)) → TreeNamed (branch_of x)
  branch_in x = subst TreeNamed (sym (fold_out-Branch ModuleItem ModuleItem generate_item_view branch_view x))

  abbrev PhraseNamed : generates.Phrase → Type 0
  PhraseNamed (generates.GenerateItems xs) = TreeNamed (items_of (map generate_item_of xs))
  PhraseNamed (generates.AGenerateItem x) = TreeNamed (generate_item_of x)
  PhraseNamed (generates.ALoop x) = TreeNamed (generate_item_of x)
  PhraseNamed (generates.ALoopHead h) = Unit {0}
  PhraseNamed (generates.ABlock at y ys) = P y × TreeNamed (items_of (map generate_item_of ys))
  PhraseNamed (generates.ABranch x) = TreeNamed (branch_of x)
  PhraseNamed (generates.AnOtherwise x) = TreeNamed (branch_of x)
  PhraseNamed (generates.BranchesBehind x xs) = TreeNamed (branch_of x) → TreeNamed (items_of (map branch_of xs))
  PhraseNamed (generates.OtherBranches xs) = TreeNamed (items_of (map branch_of xs))

  generated : {phrase : generates.Phrase} {s r : List Token} → generates.Spells phrase s r → AreProper s → PhraseNamed phrase
  generated (generates.no_item h) all = none
  generated (generates.another_item h i j) all = (generated i all, generated j (behind_generate names i all))
  generated (generates.loop_item h i) all = generated i all
  generated (generates.if_item {xs = xs} h i j) all =
      by_variant (generate_item.If xs) (GenerateItem-F.If xs) (generate_item.rolls-If xs)
      (generated j (behind_generate names i all) (generated i all))
  generated (generates.plain_item {x = x} h i j) all =
      by_variant (generate_item.Plain x) (GenerateItem-F.Plain x) (generate_item.rolls-Plain x) (plain_item j all)
  generated (generates.generate_loop {x = x} {y = y} {ys = ys} {t = t} h i j o q) all =
      by_variant (generate_item.For t.at x y ys) (GenerateItem-F.For t.at x y ys) (generate_item.rolls-For t.at x y ys)
      (generated q (token names o (behind_generate names j (token names i (token names h all).1).1)).1)
  generated (generates.loop_head h i j o q) all = tt
  generated (generates.block h i j o q) all =
      let here = word j (token names i (token names h all).1).1 in (here.0, generated o here.1)
  generated (generates.branch {x = x} {y = y} {ys = ys} {t = t} h i j o q) all =
      branch_in (record { at = t.at; condition = Some x; label = y; items = ys })
      (generated q (token names o (behind_expression names j (token names i (token names h all).1).1)).1)
  generated (generates.otherwise {at = at} {y = y} {ys = ys} h) all =
      branch_in (record { at = at; condition = None; label = y; items = ys }) (generated h all)
  generated (generates.branches_behind h) all = λ first. (first, generated h all)
  generated (generates.no_branch h) all = none
  generated (generates.another_branch h i j o) all =
      let here = (token names h all).1 in (generated j here, generated o (behind_generate names j here))
  generated (generates.last_branch h i j) all = (generated j (token names h all).1, none)

  -- ---- modules

  item : {x : Item} {s r : List Token} → modules.Spells (modules.AnItem x) s r → AreProper s → TreeNamed (item_of x)
  item (modules.input_item h i j o q) all = none
  item (modules.output_item h i j o q) all = none
  item (modules.parameter_item h i j o) all = none
  item (modules.region h i j) all = generated i (token names h all).1
  item (modules.other_item h i j o q) all = generated q all

  items_in : {xs : List Item} {s r : List Token} → modules.Spells (modules.Items xs) s r → AreProper s → TreeNamed (items_of (map item_of xs))
  items_in (modules.no_item h) all = none
  items_in (modules.another_item h i j) all = (item i all, items_in j (behind_module names i all))

  body : {x : ModuleBody} {s r : List Token} → modules.Spells (modules.AModule x) s r → AreProper s → IsModuleNamed P (declaration_of x)
  body (modules.module_ h i j o q) all =
      let here = word i (token names h all).1 in (here.0, items_in o (behind_header names j here.1))

  pub tree_named : (x : Module) → IsSpelledUnder names x → IsModuleNamed P (declaration_of x.body)
  tree_named x h = body (module_alone h.spelled.own h.spelled.cut h.spelled.tree) h.proper

pub tree_in : (names : List (List ℕ)) (x : Module) → IsSpelledUnder names x → AreNamed (IsNameIn names) (declaration_of x.body).items
tree_in names x h = (tree_named names (IsNameIn names) (λ t word proper. proper.0) x h).1
