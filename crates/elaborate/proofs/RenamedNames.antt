-- Names in reach under other names.
use Rattle.std.proofs.Common.{◌≡◌, ℕ, ◌==◌, Bool, true, if◌then◌else◌, List, [], ◌∷◌, map, Option, Some, None, true≢false, refl, sym, ◌∙◌, ap, ap₂}
use Rattle.std.proofs.lemmas.Bool.{eqb-true, eq-eqb}
use Rattle.std.specs.Option.{option_map}
use Rattle.ls_text.specs.declared.name_id.NameId.{NameId}
use Rattle.ls_text.proofs.Tables.{same_id}
use Rattle.ls_text.proofs.Lists.{map_so}
use Rattle.typed_ir.proofs.Cases.{by_cases}
use Rattle.verilog_ast.specs.declared.identifier.Identifier.{Identifier}
use Rattle.verilog_ast.specs.Declarations.{PortDeclaration, InputPort, OutputPort, NextPort, PortList, NoPorts, NamedPorts, DeclaredPorts}
use Rattle.verilog_ast.specs.Items as i
use Rattle.verilog_ast.specs.Items.{ModuleItem, ModuleDeclaration}
use Rattle.verilog_ast.specs.Renamed.{renamed_identifier}
use Rattle.verilog_ast.specs.Renaming.{declared_as, declared_reg_as, port_as, ports_as, instance_as, item_as, declaration_as}
use Rattle.width_rules.specs.Renaming.{MeansSame}
use Rattle.width_rules.specs.Scopes.{Meaning, Constant, Turn, Genvar, Unknown, Scope}
use Rattle.gen_unroll.specs.Declarations.{declared, all_declared, net, declared_name, declared_reg_name, instance_name, item_names, port_name, port_names}
use Rattle.gen_unroll.specs.Reaches.{Reach, reach_in, blocks_around, scope_around, scopes_behind, known_reach, in_reach}
use Rattle.gen_unroll.specs.Steps.{LoopTurn, ModuleStep, Listed, Port, Parameter, Item, Labelled, Opened, Closed}
use Rattle.gen_unroll.specs.Unrolled.{in_turn, with_turn, nowhere, own_names}
use Rattle.gen_unroll.specs.Values.{ConstantValue}
use Rattle.elaborate.specs.Renaming.{KeepsApart, MeanSame, SameReach, number_as, turn_as, step_as}

-- ---- names

found_so : (f : NameId → NameId) (m n : NameId) → (m.0 == n.0) ≡ true → (f m).0 ≡ (f n).0
found_so f m n t = ap (λ (x : NameId). (f x).0) (same_id m n (eqb-true m.0 n.0 t))

-- names are compared alike
pub same_test : (f : NameId → NameId) (m n : NameId) → KeepsApart f → ((f m).0 == (f n).0) ≡ (m.0 == n.0)
same_test f m n apart = by_cases (m.0 == n.0)
    (λ t. eq-eqb (f m).0 (f n).0 (found_so f m n t) ∙ sym t)
    (λ u. by_cases ((f m).0 == (f n).0)
    (λ t. absurd (true≢false (sym (eq-eqb m.0 n.0 (ap (λ (x : NameId). x.0) (apart m n (same_id (f m) (f n) (eqb-true (f m).0 (f n).0 t))))) ∙ u)))
    (λ g. g ∙ sym u))

pub same_number : (f : NameId → NameId) (m n : ℕ) → KeepsApart f → (number_as f m == number_as f n) ≡ (m == n)
same_number f m n apart = same_test f (record { 0 = m }) (record { 0 = n }) apart

-- ---- scopes

pub declared_so : (f : NameId → NameId) (scope other : Scope) (n : Identifier) (m : Meaning) → KeepsApart f → MeansSame f scope other
    → MeansSame f (declared scope n m) (declared other (renamed_identifier f n) m)
declared_so f scope other n m apart same x =
    ap₂ (λ (b : Bool) (k : Meaning). if b then m else k) (same_test f n.name x apart) (same x)

pub turn_so : (f : NameId → NameId) (scope other : Scope) (n : Identifier) (v : ConstantValue) → KeepsApart f → MeansSame f scope other
    → MeansSame f (in_turn scope n v) (in_turn other (renamed_identifier f n) v)
turn_so f scope other n v apart same = declared_so f scope other n (Turn v.width v.value v.signed) apart same

pub with_turn_so : (f : NameId → NameId) (scope other : Scope) (turn : Option LoopTurn) → KeepsApart f → MeansSame f scope other
    → MeansSame f (with_turn turn scope) (with_turn (option_map (turn_as f) turn) other)
with_turn_so f scope other None apart same = same
with_turn_so f scope other (Some t) apart same = turn_so f scope other t.genvar t.value apart same

pub all_declared_so : (f : NameId → NameId) (scope other : Scope) (m : Meaning) (ns : List Identifier) → KeepsApart f → MeansSame f scope other
    → MeansSame f (all_declared m ns scope) (all_declared m (map (renamed_identifier f) ns) other)
all_declared_so f scope other m [] apart same = same
all_declared_so f scope other m (n ∷ ns) apart same =
    all_declared_so f (declared scope n m) (declared other (renamed_identifier f n) m) m ns apart (declared_so f scope other n m apart same)

-- names of parts that are renamed
pub names_so : {A : Type 0} (f : NameId → NameId) (name : A → Identifier) (moved : A → A) → ((x : A) → name (moved x) ≡ renamed_identifier f (name x))
    → (xs : List A) → map name (map moved xs) ≡ map (renamed_identifier f) (map name xs)
names_so f name moved is xs = map_so name moved (renamed_identifier f) is xs

pub parts_so : {A : Type 0} (f : NameId → NameId) (scope other : Scope) (m : Meaning) (name : A → Identifier) (moved : A → A) → ((x : A) → name (moved x) ≡ renamed_identifier f (name x))
    → (xs : List A) → KeepsApart f → MeansSame f scope other → MeansSame f (all_declared m (map name xs) scope) (all_declared m (map name (map moved xs)) other)
parts_so f scope other m name moved is xs apart same x =
    ap (λ (ns : List Identifier). all_declared m ns other (f x).0) (names_so f name moved is xs) ∙ all_declared_so f scope other m (map name xs) apart same x

pub item_names_so : (f : NameId → NameId) (scope other : Scope) (x : ModuleItem) → KeepsApart f → MeansSame f scope other
    → MeansSame f (item_names x scope) (item_names (item_as f x) other)
item_names_so f scope other (i.Inputs at by k ns) apart same = all_declared_so f scope other net ns apart same
item_names_so f scope other (i.Outputs at by k xs) apart same = parts_so f scope other net declared_name (declared_as f) (λ x. refl) xs apart same
item_names_so f scope other (i.Wires at k xs) apart same = parts_so f scope other net declared_name (declared_as f) (λ x. refl) xs apart same
item_names_so f scope other (i.Regs at k xs) apart same = parts_so f scope other net declared_reg_name (declared_reg_as f) (λ x. refl) xs apart same
item_names_so f scope other (i.Genvars at ns) apart same = all_declared_so f scope other Genvar ns apart same
item_names_so f scope other (i.Instances n overrides xs) apart same = parts_so f scope other Unknown instance_name (instance_as f) (λ x. refl) xs apart same
item_names_so f scope other (i.Region at xs) apart same = item_names_so f scope other xs apart same
item_names_so f scope other (i.Items x xs) apart same =
    item_names_so f (item_names x scope) (item_names (item_as f x) other) xs apart (item_names_so f scope other x apart same)
item_names_so f scope other (i.Parameters at k ps) apart same = same
item_names_so f scope other (i.LocalParameters at k ps) apart same = same
item_names_so f scope other (i.Assigns at xs) apart same = same
item_names_so f scope other (i.Combinational at x) apart same = same
item_names_so f scope other (i.Clocked at n x) apart same = same
item_names_so f scope other (i.Loop at h label xs) apart same = same
item_names_so f scope other (i.Conditional xs) apart same = same
item_names_so f scope other (i.Branch at c label xs) apart same = same
item_names_so f scope other i.NoItem apart same = same

pub port_name_so : (f : NameId → NameId) (p : PortDeclaration) → port_name (port_as f p) ≡ renamed_identifier f (port_name p)
port_name_so f (InputPort at by k n) = refl
port_name_so f (OutputPort at by k x) = refl
port_name_so f (NextPort x) = refl

port_names_so : (f : NameId → NameId) (scope other : Scope) (ps : PortList) → KeepsApart f → MeansSame f scope other
    → MeansSame f (port_names ps scope) (port_names (ports_as f ps) other)
port_names_so f scope other NoPorts apart same = same
port_names_so f scope other (NamedPorts ns) apart same = same
port_names_so f scope other (DeclaredPorts ps) apart same = parts_so f scope other net port_name (port_as f) (port_name_so f) ps apart same

pub own_names_so : (f : NameId → NameId) (m : ModuleDeclaration) → KeepsApart f → MeansSame f (own_names m) (own_names (declaration_as f m))
own_names_so f m apart =
    item_names_so f (port_names m.ports nowhere) (port_names (ports_as f m.ports) nowhere) m.items apart (port_names_so f nowhere nowhere m.ports apart (λ n. refl))

-- ---- reach

pub same_beginning : (f : NameId → NameId) (m : ModuleDeclaration) → KeepsApart f → SameReach f (reach_in m) (reach_in (declaration_as f m))
same_beginning f m apart = record { names = own_names_so f m apart; outer = tt; blocks = refl }

around_so : (f : NameId → NameId) (scope other : Scope) (ss ts : List Scope) → MeansSame f scope other → MeanSame f ss ts → MeansSame f (scope_around ss scope) (scope_around ts other)
around_so f scope other [] [] same all = same
around_so f scope other [] (t ∷ ts) same all = absurd all
around_so f scope other (s ∷ ss) [] same all = absurd all
around_so f scope other (s ∷ ss) (t ∷ ts) same all = all.0

behind_so : (f : NameId → NameId) (ss ts : List Scope) → MeanSame f ss ts → MeanSame f (scopes_behind ss) (scopes_behind ts)
behind_so f [] [] all = all
behind_so f [] (t ∷ ts) all = absurd all
behind_so f (s ∷ ss) [] all = absurd all
behind_so f (s ∷ ss) (t ∷ ts) all = all.1

known_so : (f : NameId → NameId) (here there : Reach) (n : Identifier) (m : Meaning) → KeepsApart f → SameReach f here there
    → SameReach f (known_reach n m here) (known_reach (renamed_identifier f n) m there)
known_so f here there n m apart same =
    record { names = declared_so f here.scope there.scope n m apart same.names; outer = same.outer; blocks = same.blocks }

pub same_reach : (f : NameId → NameId) (step : ModuleStep) (here there : Reach) → KeepsApart f → SameReach f here there
    → SameReach f (in_reach step here) (in_reach (step_as f step) there)
same_reach f (Listed n) here there apart same = same
same_reach f (Port p) here there apart same = same
same_reach f (Parameter s n v) here there apart same = known_so f here there n (Constant v.width v.value v.signed) apart same
same_reach f (Item x) here there apart same = same
same_reach f (Labelled n) here there apart same = known_so f here there n Unknown apart same
same_reach f (Opened b items) here there apart same = record {
  names = item_names_so f (with_turn b.turn here.scope) (with_turn (option_map (turn_as f) b.turn) there.scope) items apart (with_turn_so f here.scope there.scope b.turn apart same.names);
  outer = (same.names, same.outer);
  blocks = ap (λ (bs : List ℕ). b.number ∷ bs) same.blocks;
}
same_reach f Closed here there apart same = record {
  names = around_so f here.scope there.scope here.around there.around same.names same.outer;
  outer = behind_so f here.around there.around same.outer;
  blocks = ap blocks_around same.blocks;
}
