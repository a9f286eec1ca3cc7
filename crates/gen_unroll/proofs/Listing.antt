-- Lists of parameters, turns, items and branches, taken one by one.
use Rattle.std.proofs.Common.{◌≡◌, ℕ, ◌+◌, ◌<◌, ◌≤◌, if◌then◌else◌, List, map, length, get_or, drop, Option, Result, Ok, true, false, Bool, ◌∙◌, ap}
use Rattle.std.specs.Option.{option_map}
use Rattle.std.proofs.lemmas.List.{at_drop_all}
use Rattle.ls_text.specs.declared.fault.Fault.{Fault}
use Rattle.typed_ir.proofs.Lists.{drop_read}
use Rattle.verilog_ast.specs.declared.generate_item.Branch.{Branch}
use Rattle.verilog_ast.specs.declared.header_parameter.HeaderParameter.{HeaderParameter}
use Rattle.verilog_ast.specs.Items.{ModuleItem}
use Rattle.verilog_ast.specs.Views.{expression_of, kind_of, parameter_of, header_parameter_of, generate_item_of, branch_of, items_of}
use Rattle.verilog_ast.proofs.Seen.{branch_seen}
use Rattle.gen_unroll.specs.declared.parameter_sort.ParameterSort.TheVariants as sort
use Rattle.gen_unroll.specs.Declarations.{ParameterType}
use Rattle.gen_unroll.specs.Told.{Told, ◌>>=◌, done, quiet}
use Rattle.gen_unroll.specs.Unrolled.{State, each, parameter, next_type, header_parameters, is_taken, taken_with, unrolled, chosen, branch}

-- ---- steps over a list

pub each_next : {A B : Type 0} (view : B → A) (step : A → State → Told State) (xs : List B) (k : ℕ) (x : B) (st : State) → k < length xs → x ≡ get_or xs k x
    → each step (map view (drop k xs)) st ≡ (step (view x) st >>= λ next. each step (map view (drop (k + 1) xs)) next)
each_next view step xs k x st h is = ap (λ zs. each step (map view zs) st) (drop_read xs k x h is)

pub each_none : {A B : Type 0} (view : B → A) (step : A → State → Told State) (xs : List B) (k : ℕ) (st : State) → length xs ≤ k
    → each step (map view (drop k xs)) st ≡ done st
each_none view step xs k st h = at_drop_all (λ zs. each step (map view zs) st) xs k h

-- ---- parameters of a header

pub header_next : (t u : ParameterType) (xs : List HeaderParameter) (k : ℕ) (x : HeaderParameter) (st : State) → k < length xs → x ≡ get_or xs k x
    → next_type st.scope t (option_map kind_of x.shape) ≡ Ok u
    → header_parameters t (map header_parameter_of (drop k xs)) st
    ≡ (parameter sort.Overridable u (parameter_of x.parameter) st >>= λ next. header_parameters u (map header_parameter_of (drop (k + 1) xs)) next)
header_next t u xs k x st h is kind =
    ap (λ zs. header_parameters t (map header_parameter_of zs) st) (drop_read xs k x h is)
    ∙ ap (λ (r : Result ParameterType Fault). quiet r >>= λ v. parameter sort.Overridable v (parameter_of x.parameter) st >>= λ next. header_parameters v (map header_parameter_of (drop (k + 1) xs)) next) kind

pub header_quiet : (t : ParameterType) (xs : List HeaderParameter) (k : ℕ) (x : HeaderParameter) (st : State) → k < length xs → x ≡ get_or xs k x
    → header_parameters t (map header_parameter_of (drop k xs)) st
    ≡ (quiet (next_type st.scope t (option_map kind_of x.shape)) >>= λ u. parameter sort.Overridable u (parameter_of x.parameter) st >>= λ next. header_parameters u (map header_parameter_of (drop (k + 1) xs)) next)
header_quiet t xs k x st h is = ap (λ zs. header_parameters t (map header_parameter_of zs) st) (drop_read xs k x h is)

pub header_none : (t : ParameterType) (xs : List HeaderParameter) (k : ℕ) (st : State) → length xs ≤ k
    → header_parameters t (map header_parameter_of (drop k xs)) st ≡ done st
header_none t xs k st h = at_drop_all (λ zs. header_parameters t (map header_parameter_of zs) st) xs k h

-- ---- items

pub items_next : {B : Type 0} (view : B → ModuleItem) (xs : List B) (k : ℕ) (x : B) (here : Option ℕ) (st : State) → k < length xs → x ≡ get_or xs k x
    → unrolled (items_of (map view (drop k xs))) here st ≡ (unrolled (view x) here st >>= λ next. unrolled (items_of (map view (drop (k + 1) xs))) here next)
unfolding unrolled
items_next view xs k x here st h is = ap (λ zs. unrolled (items_of (map view zs)) here st) (drop_read xs k x h is)

pub items_none : {B : Type 0} (view : B → ModuleItem) (xs : List B) (k : ℕ) (here : Option ℕ) (st : State) → length xs ≤ k
    → unrolled (items_of (map view (drop k xs))) here st ≡ done st
unfolding unrolled
items_none view xs k here st h = at_drop_all (λ zs. unrolled (items_of (map view zs)) here st) xs k h

-- ---- branches

-- the branch at k, and those behind it
chosen_next : (xs : List Branch) (k : ℕ) (x : Branch) (here : Option ℕ) (st : State) → k < length xs → x ≡ get_or xs k x
    → chosen (items_of (map branch_of (drop k xs))) here st
    ≡ (quiet (is_taken st.scope (option_map expression_of x.condition))
    >>= λ yes. if yes then taken_with (unrolled (items_of (map generate_item_of x.items))) (items_of (map generate_item_of x.items)) x.label here st
    else chosen (items_of (map branch_of (drop (k + 1) xs))) here st)
unfolding unrolled
chosen_next xs k x here st h is =
    ap (λ zs. chosen (items_of (map branch_of zs)) here st) (drop_read xs k x h is)
    ∙ ap (λ (b : ModuleItem). branch b (chosen (items_of (map branch_of (drop (k + 1) xs))) here) here st) (branch_seen x)

pub chosen_first : (xs : List Branch) (k : ℕ) (x : Branch) (here : Option ℕ) (st : State) → k < length xs → x ≡ get_or xs k x
    → is_taken st.scope (option_map expression_of x.condition) ≡ Ok true
    → chosen (items_of (map branch_of (drop k xs))) here st
    ≡ taken_with (unrolled (items_of (map generate_item_of x.items))) (items_of (map generate_item_of x.items)) x.label here st
chosen_first xs k x here st h is go =
    chosen_next xs k x here st h is
    ∙ ap (λ (r : Result Bool Fault). quiet r >>= λ yes. if yes then taken_with (unrolled (items_of (map generate_item_of x.items))) (items_of (map generate_item_of x.items)) x.label here st
    else chosen (items_of (map branch_of (drop (k + 1) xs))) here st) go

pub chosen_later : (xs : List Branch) (k : ℕ) (x : Branch) (here : Option ℕ) (st : State) → k < length xs → x ≡ get_or xs k x
    → is_taken st.scope (option_map expression_of x.condition) ≡ Ok false
    → chosen (items_of (map branch_of (drop k xs))) here st ≡ chosen (items_of (map branch_of (drop (k + 1) xs))) here st
chosen_later xs k x here st h is go =
    chosen_next xs k x here st h is
    ∙ ap (λ (r : Result Bool Fault). quiet r >>= λ yes. if yes then taken_with (unrolled (items_of (map generate_item_of x.items))) (items_of (map generate_item_of x.items)) x.label here st
    else chosen (items_of (map branch_of (drop (k + 1) xs))) here st) go

pub chosen_quiet : (xs : List Branch) (k : ℕ) (x : Branch) (here : Option ℕ) (st : State) → k < length xs → x ≡ get_or xs k x
    → chosen (items_of (map branch_of (drop k xs))) here st
    ≡ (quiet (is_taken st.scope (option_map expression_of x.condition))
    >>= λ yes. if yes then taken_with (unrolled (items_of (map generate_item_of x.items))) (items_of (map generate_item_of x.items)) x.label here st
    else chosen (items_of (map branch_of (drop (k + 1) xs))) here st)
chosen_quiet = chosen_next

pub chosen_none : (xs : List Branch) (k : ℕ) (here : Option ℕ) (st : State) → length xs ≤ k
    → chosen (items_of (map branch_of (drop k xs))) here st ≡ done st
unfolding unrolled
chosen_none xs k here st h = at_drop_all (λ zs. chosen (items_of (map branch_of zs)) here st) xs k h
