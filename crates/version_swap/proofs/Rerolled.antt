-- A module is unrolled again to the same steps under the values that its parameters came to.
use Rattle.std.proofs.Common.{◌≡◌, ℕ, true, ◌&&◌, List, [], ◌∷◌, ◌++◌, map, Option, None, Result, Ok, Err, append_assoc, append-nil, refl, sym, ◌∙◌}
use Rattle.std.proofs.Common.{ap, ap₂, subst}
use Rattle.std.specs.Result.{IfOk, OnOk}
use Rattle.std.proofs.lemmas.Bool.{and_parts}
use Rattle.std.proofs.lemmas.Result.{IfOk-weaker, IfOk-at_ok, on_ok_weaker}
use Rattle.ls_text.specs.declared.fault.Fault.{Fault}
use Rattle.typed_ir.specs.declared.constant.Const.{Const}
use Rattle.verilog_ast.specs.declared.identifier.Identifier.{Identifier}
use Rattle.verilog_ast.specs.Declarations.{Kind, ParameterAssignment, HeaderParameterDeclaration, PortDeclaration, PortList, NoPorts, NamedPorts}
use Rattle.verilog_ast.specs.Declarations.{DeclaredPorts}
use Rattle.verilog_ast.specs.Items as i
use Rattle.verilog_ast.specs.Items.{ModuleItem, ModuleDeclaration}
use Rattle.width_rules.specs.Scopes.{Scope}
use Rattle.gen_unroll.specs.declared.parameter_sort.ParameterSort.TheVariants as sort
use Rattle.gen_unroll.specs.Declarations.{ParameterType, parameter_type, as_declared, valued}
use Rattle.gen_unroll.specs.Overriding.{item_sorts, constant_sorts, overrides_of}
use Rattle.gen_unroll.specs.Steps.{ModuleStep, Listed, Port, Parameter, Item}
use Rattle.gen_unroll.specs.Told.{Told, go_on, ◌>>=◌, say, say_all, quiet}
use Rattle.gen_unroll.specs.Unrolled.{State, each, override_in, given_or, known, parameter, parameters, next_type, header_parameters, port_steps}
use Rattle.gen_unroll.specs.Unrolled.{unrolled, untyped, module_told, beginning, unrolled_module}
use Rattle.gen_unroll.specs.Values.{ConstantValue, constant_of, evaluated}
use Rattle.version_swap.specs.Outer.{outer_values, is_item_outside, are_ports_outside}
use Rattle.version_swap.specs.OuterTrees.{may_stand_outside, has_outer_ports_alone}
use Rattle.version_swap.proofs.Again.{declared_again}
use Rattle.version_swap.proofs.Blind.{under, ending_under}
use Rattle.version_swap.proofs.InBlocks.{InBlock, locals_in, loop_in, item_in_block, branches_in_block}
use Rattle.version_swap.proofs.Levels.{blocks_behind, outer_overrides, more_blocks, more_overrides, more_ports, overrides_are}
use Rattle.version_swap.proofs.Told.{IsTold, ports_told, items_told, module_is_told}

-- once more, where the parameters that can be overridden have the values of these steps
abbrev pub again : (State → Told State) → List (Option ConstantValue) → State → Told State
again g os st = g (under (outer_overrides 0 (g st).said ++ os) st)

-- these steps up to a state, of whose overrides these are left
abbrev pub reached : List ModuleStep → List (Option ConstantValue) → State → Told State
reached said os end = record { said = said; ending = Ok (under os end) }

-- unless there is a fault, all blocks are closed behind the steps
abbrev pub IsLevel : Told State → Type 0
IsLevel t = OnOk t.ending (blocks_behind 0 t.said ≡ 0)

-- what goes on outside of blocks: where it ends without a fault, it goes on again in the same way
pub record AtTop (g : State → Told State) : Type 0 where
  pub rerolls : (os : List (Option ConstantValue)) (st : State) → IfOk (g st).ending (λ end. again g os st ≡ reached (g st).said os end)
  pub level : (st : State) → IsLevel (g st)
  pub ports : (st : State) → are_ports_outside 0 (g st).said ≡ true

-- ---- steps

-- a first part, again as it was, and what follows it
part_again : (os : List (Option ConstantValue)) (said : List ModuleStep) (mid end : State) (f : List (Option ConstantValue) → Told State)
    (g : State → Told State)
    → ((os : List (Option ConstantValue)) → f (outer_overrides 0 said ++ os) ≡ reached said os mid) → blocks_behind 0 said ≡ 0
    → again g os mid ≡ reached (g mid).said os end
    → (f (outer_overrides 0 (said ++ (g mid).said) ++ os) >>= g) ≡ reached (said ++ (g mid).said) os end
part_again os said mid end f g first level is =
    let rest : List (Option ConstantValue) = outer_overrides 0 (g mid).said ++ os in
    let same : outer_overrides 0 (said ++ (g mid).said) ++ os ≡ outer_overrides 0 said ++ rest =
    ap (λ (us : List (Option ConstantValue)). us ++ os) (more_overrides 0 said (g mid).said)
    ∙ ap (λ (n : ℕ). (outer_overrides 0 said ++ outer_overrides n (g mid).said) ++ os) level
    ∙ append_assoc (outer_overrides 0 said) (outer_overrides 0 (g mid).said) os in
    ap (λ (us : List (Option ConstantValue)). f us >>= g) same
    ∙ ap (λ (t : Told State). t >>= g) (first rest)
    ∙ ap (λ (t : Told State). record { said = said ++ t.said; ending = t.ending }) is

on_again : (os : List (Option ConstantValue)) (said : List ModuleStep) (r : Result State Fault) (f : List (Option ConstantValue) → Told State)
    (g : State → Told State)
    → ((os : List (Option ConstantValue)) → IfOk r (λ mid. f (outer_overrides 0 said ++ os) ≡ reached said os mid))
    → OnOk r (blocks_behind 0 said ≡ 0) → AtTop g
    → IfOk (go_on said r g).ending (λ end. (f (outer_overrides 0 (go_on said r g).said ++ os) >>= g) ≡ reached (go_on said r g).said os end)
on_again os said (Ok mid) f g first level next =
    IfOk-weaker (g mid).ending (λ end. again g os mid ≡ reached (g mid).said os end)
    (λ end. (f (outer_overrides 0 (said ++ (g mid).said) ++ os) >>= g) ≡ reached (said ++ (g mid).said) os end)
    (λ end is. part_again os said mid end f g first level is) (next.rerolls os mid)
on_again os said (Err e) f g first level next = tt

on_level : (said : List ModuleStep) (r : Result State Fault) (g : State → Told State) → OnOk r (blocks_behind 0 said ≡ 0) → AtTop g
    → IsLevel (go_on said r g)
on_level said (Ok mid) g level next =
    on_ok_weaker {P = blocks_behind 0 (g mid).said ≡ 0} {Q = blocks_behind 0 (said ++ (g mid).said) ≡ 0} (g mid).ending
    (λ is. more_blocks 0 said (g mid).said ∙ ap (λ (n : ℕ). blocks_behind n (g mid).said) level ∙ is) (next.level mid)
on_level said (Err e) g level next = tt

on_ports : (said : List ModuleStep) (r : Result State Fault) (g : State → Told State) → OnOk r (blocks_behind 0 said ≡ 0)
    → are_ports_outside 0 said ≡ true → AtTop g
    → are_ports_outside 0 (go_on said r g).said ≡ true
on_ports said (Ok mid) g level first next =
    more_ports 0 said (g mid).said
    ∙ ap₂ (λ a b. a && b) first (ap (λ (n : ℕ). are_ports_outside n (g mid).said) level ∙ next.ports mid)
on_ports said (Err e) g level first next = first

-- a step, and what follows it
then_at_top : (f g : State → Told State) → AtTop f → AtTop g → AtTop (λ st. f st >>= g)
then_at_top f g first next = record {
  rerolls = λ os st. on_again os (f st).said (f st).ending (λ us. f (under us st)) g (λ us. first.rerolls us st) (first.level st) next;
  level = λ st. on_level (f st).said (f st).ending g (first.level st) next;
  ports = λ st. on_ports (f st).said (f st).ending g (first.level st) (first.ports st) next;
}

-- what looks at no override
blind_again : (os : List (Option ConstantValue)) (said : List ModuleStep) (r : Result State Fault) (u : Told State)
    → u ≡ record { said = said; ending = ending_under os r } → IfOk r (λ end. u ≡ reached said os end)
blind_again os said (Ok end) u is = is
blind_again os said (Err e) u is = tt

from_block : (g : State → Told State) → InBlock g → ((st : State) → IsLevel (g st)) → AtTop g
from_block g is level = record {
  rerolls = λ os st. blind_again os (g st).said (g st).ending (again g os st)
      (ap (λ (us : List (Option ConstantValue)). g (under (us ++ os) st)) ((is.inner st).none 0) ∙ is.blind os st);
  level = level;
  ports = λ st. (is.inner st).ports 0;
}

-- a value that tells nothing, by the names in reach
quiet_again : {A : Type 0} (os : List (Option ConstantValue)) (st : State) (r : Result A Fault) (g : A → State → Told State) → ((x : A) → AtTop (g x))
    → IfOk (quiet r >>= λ x. g x st).ending (λ end. again (λ s. quiet r >>= λ x. g x s) os st ≡ reached (quiet r >>= λ x. g x st).said os end)
quiet_again os st (Ok x) g is = (is x).rerolls os st
quiet_again os st (Err e) g is = tt

quiet_level : {A : Type 0} (st : State) (r : Result A Fault) (g : A → State → Told State) → ((x : A) → AtTop (g x))
    → IsLevel (quiet r >>= λ x. g x st)
quiet_level st (Ok x) g is = (is x).level st
quiet_level st (Err e) g is = tt

quiet_ports : {A : Type 0} (st : State) (r : Result A Fault) (g : A → State → Told State) → ((x : A) → AtTop (g x))
    → are_ports_outside 0 (quiet r >>= λ x. g x st).said ≡ true
quiet_ports st (Ok x) g is = (is x).ports st
quiet_ports st (Err e) g is = refl

quiet_at_top : {A : Type 0} (found : Scope → Result A Fault) (g : A → State → Told State) → ((x : A) → AtTop (g x))
    → AtTop (λ st. quiet (found st.scope) >>= λ x. g x st)
quiet_at_top found g is = record {
  rerolls = λ os st. quiet_again os st (found st.scope) g is;
  level = λ st. quiet_level st (found st.scope) g is;
  ports = λ st. quiet_ports st (found st.scope) g is;
}

done_at_top : AtTop (λ st. record { said = []; ending = Ok st })
done_at_top = record { rerolls = λ os st. refl; level = λ st. refl; ports = λ st. refl }

-- ---- parameters

-- a parameter of this declaration, with what is given for it
abbrev told_value : ParameterType → Identifier → ConstantValue → State → Told State
told_value t n v st = say (Parameter sort.Overridable n (as_declared t v)) (known sort.Overridable n (as_declared t v) st)

-- a parameter that is overridden with the value that it came to
value_again : (os : List (Option ConstantValue)) (st : State) (t : ParameterType) (n : Identifier) (r own : Result ConstantValue Fault)
    → IfOk (quiet r >>= λ v. told_value t n v st).ending
    (λ end. (quiet (given_or (override_in (outer_overrides 0 (quiet r >>= λ v. told_value t n v st).said ++ os)) own)
    >>= λ v. told_value t n v (under (outer_overrides 0 (quiet r >>= λ v. told_value t n v st).said ++ os) st))
    ≡ reached (quiet r >>= λ v. told_value t n v st).said os end)
value_again os st t n (Ok v) own =
    ap (λ (w : ConstantValue). record {
      said = Parameter sort.Overridable n w ∷ [];
      ending = Ok (record { scope = valued st.scope n w; overrides = os; opened = st.opened; left = st.left });
    }) (declared_again t v)
value_again os st t n (Err e) own = tt

value_level : (st : State) (t : ParameterType) (n : Identifier) (r : Result ConstantValue Fault) → IsLevel (quiet r >>= λ v. told_value t n v st)
value_level st t n (Ok v) = refl
value_level st t n (Err e) = tt

value_ports : (st : State) (t : ParameterType) (n : Identifier) (r : Result ConstantValue Fault)
    → are_ports_outside 0 (quiet r >>= λ v. told_value t n v st).said ≡ true
value_ports st t n (Ok v) = refl
value_ports st t n (Err e) = refl

parameter_at_top : (t : ParameterType) (p : ParameterAssignment) → AtTop (parameter sort.Overridable t p)
unfolding parameter
parameter_at_top t p = record {
  rerolls = λ os st. value_again os st t p.name (given_or (override_in st.overrides) (evaluated st.scope p.value)) (evaluated st.scope p.value);
  level = λ st. value_level st t p.name (given_or (override_in st.overrides) (evaluated st.scope p.value));
  ports = λ st. value_ports st t p.name (given_or (override_in st.overrides) (evaluated st.scope p.value));
}

each_at_top : (t : ParameterType) (ps : List ParameterAssignment) → AtTop (each (parameter sort.Overridable t) ps)
each_at_top t [] = done_at_top
each_at_top t (p ∷ ps) =
    then_at_top (parameter sort.Overridable t p) (each (parameter sort.Overridable t) ps) (parameter_at_top t p) (each_at_top t ps)

parameters_at_top : (k : Kind) (ps : List ParameterAssignment) → AtTop (parameters sort.Overridable k ps)
parameters_at_top k ps =
    quiet_at_top (λ scope. parameter_type scope k) (λ t. each (parameter sort.Overridable t) ps) (λ t. each_at_top t ps)

header_at_top : (t : ParameterType) (ps : List HeaderParameterDeclaration) → AtTop (header_parameters t ps)
header_at_top t [] = done_at_top
header_at_top t (p ∷ ps) =
    quiet_at_top (λ scope. next_type scope t p.kind) (λ u st. parameter sort.Overridable u p.parameter st >>= header_parameters u ps)
    (λ u. then_at_top (parameter sort.Overridable u p.parameter) (header_parameters u ps) (parameter_at_top u p.parameter) (header_at_top u ps))

-- ---- ports

pub record IsHeader (said : List ModuleStep) : Type 0 where
  pub ports : are_ports_outside 0 said ≡ true
  pub none : outer_overrides 0 said ≡ []

listed_header : (ns : List Identifier) → IsHeader (map Listed ns)
listed_header [] = record { ports = refl; none = refl }
listed_header (n ∷ ns) = record { ports = (listed_header ns).ports; none = (listed_header ns).none }

declared_header : (ps : List PortDeclaration) → IsHeader (map Port ps)
declared_header [] = record { ports = refl; none = refl }
declared_header (p ∷ ps) = record { ports = (declared_header ps).ports; none = (declared_header ps).none }

ports_header : (ps : PortList) → IsHeader (port_steps ps)
ports_header NoPorts = record { ports = refl; none = refl }
ports_header (NamedPorts ns) = listed_header ns
ports_header (DeclaredPorts ps) = declared_header ps

ports_at_top : (ps : PortList) → AtTop (λ st. say_all (port_steps ps) st)
ports_at_top ps = record {
  rerolls = λ os st. ap (λ (us : List (Option ConstantValue)). reached (port_steps ps) (us ++ os) st) (ports_header ps).none;
  level = λ st. (ports_told ps).level 0;
  ports = λ st. (ports_header ps).ports;
}

-- an item that declares ports
port_item_at_top : (x : ModuleItem) → is_item_outside 0 x ≡ true → AtTop (λ st. say (Item x) st)
port_item_at_top x is = record { rerolls = λ os st. refl; level = λ st. refl; ports = λ st. ap (λ b. b && true) is }

-- ---- items

items_level : (x : ModuleItem) (here : Option ℕ) (st : State) → IsLevel (unrolled x here st)
items_level x here st =
    on_ok_weaker {P = IsTold (item_sorts x) (unrolled x here st).said} {Q = blocks_behind 0 (unrolled x here st).said ≡ 0} (unrolled x here st).ending
    (λ is. is.level 0) (items_told x here st)

block_at_top : (x : ModuleItem) → InBlock (unrolled x None) → AtTop (unrolled x None)
block_at_top x is = from_block (unrolled x None) is (items_level x None)

item_at_top : (x : ModuleItem) → may_stand_outside x ≡ true → AtTop (unrolled x None)
unfolding unrolled
item_at_top i.NoItem is = done_at_top
item_at_top (i.Items x xs) is =
    then_at_top (unrolled x None) (unrolled xs None) (item_at_top x (and_parts (may_stand_outside x) (may_stand_outside xs) is).0)
    (item_at_top xs (and_parts (may_stand_outside x) (may_stand_outside xs) is).1)
item_at_top (i.Region at xs) is = item_at_top xs is
item_at_top (i.Loop at h label xs) is =
    block_at_top (i.Loop at h label xs) (loop_in (unrolled xs) xs at h label None (λ inner. item_in_block xs inner is))
item_at_top (i.Conditional xs) is = block_at_top (i.Conditional xs) (branches_in_block xs None is)
item_at_top (i.Branch at c label xs) is = done_at_top
item_at_top (i.Parameters at k ps) is = parameters_at_top k ps
item_at_top (i.LocalParameters at k ps) is = block_at_top (i.LocalParameters at k ps) (locals_in k ps)
item_at_top other is = port_item_at_top other refl

-- ---- modules

module_at_top : (m : ModuleDeclaration) → has_outer_ports_alone m ≡ true → AtTop (module_told m)
module_at_top m is =
    then_at_top (header_parameters untyped m.parameters) (λ next. say_all (port_steps m.ports) next >>= unrolled m.items None)
    (header_at_top untyped m.parameters)
    (then_at_top (λ next. say_all (port_steps m.ports) next) (unrolled m.items None) (ports_at_top m.ports) (item_at_top m.items is))

-- ports are declared outside of generate blocks alone
pub ports_stand_outside : (limit : ℕ) (vs : List (Option ConstantValue)) (m : ModuleDeclaration) → has_outer_ports_alone m ≡ true
    → are_ports_outside 0 (unrolled_module limit vs m).said ≡ true
unfolding unrolled_module
ports_stand_outside limit vs m is = (module_at_top m is).ports (beginning limit vs m)

-- unrolled with the overrides among its own steps
values_again : (limit : ℕ) (vs : List (Option ConstantValue)) (m : ModuleDeclaration) → has_outer_ports_alone m ≡ true
    → IfOk (unrolled_module limit vs m).ending
    (λ end. unrolled_module limit (outer_overrides 0 (unrolled_module limit vs m).said) m ≡ reached (unrolled_module limit vs m).said [] end)
unfolding unrolled_module
values_again limit vs m is =
    subst (λ (us : List (Option ConstantValue)). IfOk (module_told m (beginning limit vs m)).ending
    (λ end. module_told m (beginning limit us m) ≡ reached (module_told m (beginning limit vs m)).said [] end))
    (append-nil (outer_overrides 0 (module_told m (beginning limit vs m)).said))
    ((module_at_top m is).rerolls [] (beginning limit vs m))

-- the overrides that the values of its parameters are
overrides_found : (limit : ℕ) (vs : List (Option ConstantValue)) (m : ModuleDeclaration) (cs : List Const)
    → map constant_of cs ≡ outer_values 0 (unrolled_module limit vs m).said → IsTold (constant_sorts m) (unrolled_module limit vs m).said
    → overrides_of (constant_sorts m) cs ≡ outer_overrides 0 (unrolled_module limit vs m).said
overrides_found limit vs m cs same is =
    ap (λ ss. overrides_of ss cs) (sym is.outer) ∙ overrides_are 0 (unrolled_module limit vs m).said cs same

-- a module that was unrolled without a fault, once more
pub again_from : (limit : ℕ) (vs : List (Option ConstantValue)) (m : ModuleDeclaration) (cs : List Const) (st : State)
    → has_outer_ports_alone m ≡ true → (unrolled_module limit vs m).ending ≡ Ok st
    → map constant_of cs ≡ outer_values 0 (unrolled_module limit vs m).said
    → unrolled_module limit (overrides_of (constant_sorts m) cs) m ≡ reached (unrolled_module limit vs m).said [] st
again_from limit vs m cs st is ended same =
    let told : IsTold (constant_sorts m) (unrolled_module limit vs m).said =
    IfOk-at_ok (λ _. IsTold (constant_sorts m) (unrolled_module limit vs m).said) ended (module_is_told limit vs m) in
    ap (λ us. unrolled_module limit us m) (overrides_found limit vs m cs same told)
    ∙ IfOk-at_ok
    (λ end. unrolled_module limit (outer_overrides 0 (unrolled_module limit vs m).said) m ≡ reached (unrolled_module limit vs m).said [] end)
    ended (values_again limit vs m is)

pub same_steps_again : (limit : ℕ) (vs : List (Option ConstantValue)) (m : ModuleDeclaration) (cs : List Const) (st : State)
    → has_outer_ports_alone m ≡ true → (unrolled_module limit vs m).ending ≡ Ok st
    → map constant_of cs ≡ outer_values 0 (unrolled_module limit vs m).said
    → (unrolled_module limit (overrides_of (constant_sorts m) cs) m).said ≡ (unrolled_module limit vs m).said
same_steps_again limit vs m cs st is ended same = ap (λ (t : Told State). t.said) (again_from limit vs m cs st is ended same)

pub ends_again : (limit : ℕ) (vs : List (Option ConstantValue)) (m : ModuleDeclaration) (cs : List Const) (st : State)
    → has_outer_ports_alone m ≡ true → (unrolled_module limit vs m).ending ≡ Ok st
    → map constant_of cs ≡ outer_values 0 (unrolled_module limit vs m).said
    → (unrolled_module limit (overrides_of (constant_sorts m) cs) m).ending ≡ Ok (under [] st)
ends_again limit vs m cs st is ended same = ap (λ (t : Told State). t.ending) (again_from limit vs m cs st is ended same)
