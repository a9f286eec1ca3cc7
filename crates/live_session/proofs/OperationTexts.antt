-- The faults of operations by texts are those by the numbers of names, in a table in which each text stands once.
use Rattle.std.proofs.Common.{◌≡◌, ◌∙◌, ℕ, zero, suc, ◌<◌, ◌^◌, Bool, true, false, not, cond, ◌&&◌, ◌||◌, nat_le, refl, sym, ap, ap₂, subst, arith}
use Rattle.std.proofs.Common.{List, [], ◌∷◌, ◌++◌, map, length, All, append_assoc}
use Rattle.std.specs.Prelude.{IfSome, IsTrue, Option, Some, None, codes, nat_lt, slice_index, slice_index_or}
use Rattle.std.specs.List.{list_any}
use Rattle.std.specs.Option.{option_map, option_or}
use Rattle.std.proofs.lemmas.Bool.{and_parts, ltb-true}
use Rattle.std.proofs.lemmas.List.{length-map}
use Rattle.std.proofs.lemmas.List.Elements.{All-nil, All-cons, All-head, All-tail}
use Rattle.ls_text.specs.Texts.{HasEachOnce, text_at}
use Rattle.ls_text.proofs.Tables.{one_text}
use Rattle.command_read.specs.Spoken.{AreOpsWithin, line_operation}
use Rattle.command_read.specs.declared.op_line.OpLine.{OpLine}
use Rattle.cycle_eval.specs.Designs.{design_flat}
use Rattle.cycle_eval.specs.Kits.{register_of, regs_of}
use Rattle.cycle_eval.specs.declared.design.Design.{Design}
use Rattle.module_registry.specs.Keys.{KeyData}
use Rattle.reg_ops.specs.Operations.{HasNames, Operation, operation}
use Rattle.reg_ops.specs.declared.reg_op.RegOp.{RegOp}
use Rattle.reg_ops.specs.declared.reg_op.RegOp.TheVariants.{Rename, Create, Delete}
use Rattle.reg_transform.specs.OperationFaults as numbered
use Rattle.reg_transform.specs.Registers.{RegisterName as NumberedName, Register as NumberedRegister, called, is_same as is_one}
use Rattle.typed_ir.specs.Cycles.{Signal}
use Rattle.typed_ir.specs.Flats.{are_below, signal_of}
use Rattle.typed_ir.specs.Orders.{at_or}
use Rattle.typed_ir.specs.declared.instance_name.InstanceName.{InstanceName}
use Rattle.typed_ir.specs.declared.signal.Signal.{Signal as RowSignal}
use Rattle.version_swap.specs.Behind.{design_of}
use Rattle.version_swap.specs.OnePlan.{module_text, nameless, own_text}
use Rattle.version_swap.specs.Operations as edit
use Rattle.live_session.specs.Files.{TextFile}
use Rattle.live_session.specs.Operations.{Register, RegisterName, OperationFault, are_one, fault_if, first_refused, has, is_same, is_too_wide}
use Rattle.live_session.specs.Operations.{misses, new_of, old_of, operation_fault, operations_fault, refused_operation, registers_of, twice}
use Rattle.live_session.specs.Scripts.{IsCurrent, IsNamedIn}
use Rattle.live_session.specs.Spelled.{Spelled, spelled}
use Rattle.live_session.specs.Worlds.{Refused, refused_at, refused_text}
use Rattle.live_session.proofs.TextTables.{last_named, last_within}

-- ---- by the texts of a table

abbrev pub text_name : (names : List (List ℕ)) → NumberedName → RegisterName
text_name names x = record { in_module = text_at names x.in_module; name = text_at names x.name }

abbrev pub text_register : (names : List (List ℕ)) → NumberedRegister → Register
text_register names r = record { called = text_name names (called r); width = r.width }

abbrev pub text_fault : (names : List (List ℕ)) → numbered.OperationFault → OperationFault
text_fault names f = record { code = f.code; shown = text_name names f.shown }

-- what is refused, with the line of its operation among these
abbrev pub text_refused : (names : List (List ℕ)) → List OpLine → numbered.RefusedOperation → Refused
text_refused names lines r = refused_operation (slice_index_or (map (λ (o : OpLine). o.line) lines) r.index 0) (text_fault names r.fault)

-- a name is among so many
abbrev pub IsNameIn : (count : ℕ) → NumberedName → Type 0
IsNameIn count x = (x.in_module < count) × (x.name < count)

abbrev pub IsRegisterIn : (count : ℕ) → NumberedRegister → Type 0
IsRegisterIn count r = IsNameIn count (called r)

-- ---- lists and choices

any_same : {A B : Type 0} (f : A → B) (p : A → Bool) (q : B → Bool) (P : A → Type 0) → ((x : A) → P x → q (f x) ≡ p x) → (xs : List A) → All P xs
    → list_any q (map f xs) ≡ list_any p xs
any_same f p q P same [] all = refl
any_same f p q P same (x ∷ xs) all = ap₂ (λ (a b : Bool). a || b) (same x (All-head P x xs all)) (any_same f p q P same xs (All-tail P x xs all))

either_mapped : {A B : Type 0} (f : A → B) (x y : Option A) → option_or (option_map f x) (option_map f y) ≡ option_map f (option_or x y)
either_mapped f None y = refl
either_mapped f (Some a) y = refl

-- ---- operations

old_texts : (names : List (List ℕ)) (op : RegOp) → old_of (operation names op) ≡ option_map (text_name names) (numbered.old_of op)
old_texts names (Rename in_module from to) = refl
old_texts names (Create in_module reg value) = refl
old_texts names (Delete in_module reg) = refl

new_texts : (names : List (List ℕ)) (op : RegOp) → new_of (operation names op) ≡ option_map (text_name names) (numbered.new_of op)
new_texts names (Rename in_module from to) = refl
new_texts names (Create in_module reg value) = refl
new_texts names (Delete in_module reg) = refl

old_in : (count : ℕ) (op : RegOp) → HasNames count op → IfSome (numbered.old_of op) (IsNameIn count)
old_in count (Rename in_module from to) within = (within.0, within.1)
old_in count (Create in_module reg value) within = tt
old_in count (Delete in_module reg) within = (within.0, within.1)

new_in : (count : ℕ) (op : RegOp) → HasNames count op → IfSome (numbered.new_of op) (IsNameIn count)
new_in count (Rename in_module from to) within = (within.0, within.2)
new_in count (Create in_module reg value) within = (within.0, within.1)
new_in count (Delete in_module reg) within = tt

-- a fault where a test holds
fault_texts : (names : List (List ℕ)) (code : ℕ) (p : NumberedName → Bool) (q : RegisterName → Bool) (name : Option NumberedName)
    → IfSome name (IsNameIn (length names)) → ((x : NumberedName) → IsNameIn (length names) x → q (text_name names x) ≡ p x)
    → fault_if code q (option_map (text_name names) name) ≡ option_map (text_fault names) (numbered.fault_if code p name)
fault_texts names code p q None within same = refl
fault_texts names code p q (Some x) within same = by (p x) (q (text_name names x)) (same x within)
  where
    by : (a b : Bool) → b ≡ a
        → cond b (Some (record { code = code; shown = text_name names x })) None
        ≡ option_map (text_fault names) (cond a (Some (record { code = code; shown = x })) None)
    by true b is = ap (λ (c : Bool). cond c (Some (record { code = code; shown = text_name names x })) None) is
    by false b is = ap (λ (c : Bool). cond c (Some (record { code = code; shown = text_name names x })) None) is

module _ (names : List (List ℕ)) (once : HasEachOnce names) where
  -- ---- tests

  one_name : (x y : NumberedName) → IsNameIn (length names) x → IsNameIn (length names) y
      → is_same (text_name names x) (text_name names y) ≡ is_one x y
  one_name x y within also =
      ap₂ (λ (a b : Bool). a && b) (one_text names once x.in_module y.in_module within.0 also.0) (one_text names once x.name y.name within.1 also.1)

  one_maybe : (x y : Option NumberedName) → IfSome x (IsNameIn (length names)) → IfSome y (IsNameIn (length names))
      → are_one (option_map (text_name names) x) (option_map (text_name names) y) ≡ numbered.are_one x y
  one_maybe None y within also = refl
  one_maybe (Some x) None within also = refl
  one_maybe (Some x) (Some y) within also = one_name x y within also

  -- an operation before it names the same
  named_before : (t : Operation → Option RegisterName) (n : RegOp → Option NumberedName)
      → ((op : RegOp) → t (operation names op) ≡ option_map (text_name names) (n op))
      → ((op : RegOp) → HasNames (length names) op → IfSome (n op) (IsNameIn (length names)))
      → (earlier : List RegOp) → All (HasNames (length names)) earlier → (x : NumberedName) → IsNameIn (length names) x
      → list_any (λ (e : Operation). are_one (t e) (Some (text_name names x))) (map (operation names) earlier)
      ≡ list_any (λ (e : RegOp). numbered.are_one (n e) (Some x)) earlier
  named_before t n texts inside earlier all x within =
      any_same (operation names) (λ (e : RegOp). numbered.are_one (n e) (Some x)) (λ (e : Operation). are_one (t e) (Some (text_name names x)))
      (HasNames (length names))
      (λ (e : RegOp) (is : HasNames (length names) e).
      ap (λ (o : Option RegisterName). are_one o (Some (text_name names x))) (texts e) ∙ one_maybe (n e) (Some x) (inside e is) within)
      earlier all

  twice_texts : (earlier : List RegOp) → All (HasNames (length names)) earlier → (op : RegOp) → HasNames (length names) op
      → twice (map (operation names) earlier) (operation names op) ≡ option_map (text_fault names) (numbered.twice earlier op)
  twice_texts earlier all op within =
      let before = map (operation names) earlier in
      let olds = λ (x : RegisterName). list_any (λ (e : Operation). are_one (old_of e) (Some x)) before in
      let news = λ (x : RegisterName). list_any (λ (e : Operation). are_one (new_of e) (Some x)) before in
      let were = λ (x : NumberedName). list_any (λ (e : RegOp). numbered.are_one (numbered.old_of e) (Some x)) earlier in
      let are = λ (x : NumberedName). list_any (λ (e : RegOp). numbered.are_one (numbered.new_of e) (Some x)) earlier in
      ap₂ (λ (a b : Option RegisterName). option_or (fault_if 52 olds a) (fault_if 52 news b)) (old_texts names op) (new_texts names op)
      ∙ ap₂ (λ (a b : Option OperationFault). option_or a b)
      (fault_texts names 52 were olds (numbered.old_of op) (old_in (length names) op within)
      (named_before old_of numbered.old_of (old_texts names) (old_in (length names)) earlier all))
      (fault_texts names 52 are news (numbered.new_of op) (new_in (length names) op within)
      (named_before new_of numbered.new_of (new_texts names) (new_in (length names)) earlier all))
      ∙ either_mapped (text_fault names) (numbered.fault_if 52 were (numbered.old_of op)) (numbered.fault_if 52 are (numbered.new_of op))

  -- ---- the registers of both designs

  abbrev AreIn : List NumberedRegister → Type 0
  AreIn rs = All (IsRegisterIn (length names)) rs

  has_texts : (rs : List NumberedRegister) → AreIn rs → (x : NumberedName) → IsNameIn (length names) x
      → has (map (text_register names) rs) (text_name names x) ≡ numbered.has rs x
  has_texts rs all x within =
      any_same (text_register names) (λ (r : NumberedRegister). is_one (called r) x) (λ (r : Register). is_same r.called (text_name names x))
      (IsRegisterIn (length names)) (λ (r : NumberedRegister) (is : IsRegisterIn (length names) r). one_name (called r) x is within) rs all

  wide_texts : (rs : List NumberedRegister) → AreIn rs → (value : ℕ) (x : NumberedName) → IsNameIn (length names) x
      → is_too_wide (map (text_register names) rs) value (text_name names x) ≡ numbered.is_too_wide rs value x
  wide_texts rs all value x within =
      any_same (text_register names) (λ (r : NumberedRegister). is_one (called r) x && nat_le (2 ^ r.width) value)
      (λ (r : Register). is_same r.called (text_name names x) && nat_le (2 ^ r.width) value) (IsRegisterIn (length names))
      (λ (r : NumberedRegister) (is : IsRegisterIn (length names) r).
      ap (λ (b : Bool). b && nat_le (2 ^ r.width) value) (one_name (called r) x is within))
      rs all

  module _ (old new : List NumberedRegister) (olds : AreIn old) (news : AreIn new) where
    abbrev before : List Register
    before = map (text_register names) old

    abbrev behind : List Register
    behind = map (text_register names) new

    lacks : (rs : List NumberedRegister) → AreIn rs → (x : NumberedName) → IsNameIn (length names) x
        → not (has (map (text_register names) rs) (text_name names x)) ≡ not (numbered.has rs x)
    lacks rs all x within = ap not (has_texts rs all x within)

    misses_texts : (op : RegOp) → HasNames (length names) op
        → misses before behind (operation names op) ≡ option_map (text_fault names) (numbered.misses old new op)
    misses_texts (Rename in_module from to) within =
        let op = Rename in_module from to in
        ap₂ (λ (a b : Option OperationFault). option_or a b)
        (fault_texts names 50 (λ (x : NumberedName). not (numbered.has old x)) (λ (x : RegisterName). not (has before x)) (numbered.old_of op)
        (old_in (length names) op within) (lacks old olds))
        (fault_texts names 51 (λ (x : NumberedName). not (numbered.has new x)) (λ (x : RegisterName). not (has behind x)) (numbered.new_of op)
        (new_in (length names) op within) (lacks new news))
        ∙ either_mapped (text_fault names) (numbered.fault_if 50 (λ (x : NumberedName). not (numbered.has old x)) (numbered.old_of op))
        (numbered.fault_if 51 (λ (x : NumberedName). not (numbered.has new x)) (numbered.new_of op))
    misses_texts (Create in_module reg value) within =
        let op = Create in_module reg value in
        ap₂ (λ (a b : Option OperationFault). option_or a b)
        (fault_texts names 53 (λ (x : NumberedName). not (numbered.has new x)) (λ (x : RegisterName). not (has behind x)) (numbered.new_of op)
        (new_in (length names) op within) (lacks new news))
        (fault_texts names 55 (numbered.is_too_wide new value) (is_too_wide behind value) (numbered.new_of op) (new_in (length names) op within)
        (wide_texts new news value))
        ∙ either_mapped (text_fault names) (numbered.fault_if 53 (λ (x : NumberedName). not (numbered.has new x)) (numbered.new_of op))
        (numbered.fault_if 55 (numbered.is_too_wide new value) (numbered.new_of op))
    misses_texts (Delete in_module reg) within =
        let op = Delete in_module reg in
        ap₂ (λ (a b : Option OperationFault). option_or a b)
        (fault_texts names 50 (λ (x : NumberedName). not (numbered.has old x)) (λ (x : RegisterName). not (has before x)) (numbered.old_of op)
        (old_in (length names) op within) (lacks old olds))
        (fault_texts names 54 (numbered.has new) (has behind) (numbered.old_of op) (old_in (length names) op within) (has_texts new news))
        ∙ either_mapped (text_fault names) (numbered.fault_if 50 (λ (x : NumberedName). not (numbered.has old x)) (numbered.old_of op))
        (numbered.fault_if 54 (numbered.has new) (numbered.old_of op))

    -- ---- one operation, and all

    fault_of_texts : (earlier : List RegOp) → All (HasNames (length names)) earlier → (op : RegOp) → HasNames (length names) op
        → operation_fault before behind (map (operation names) earlier) (operation names op)
        ≡ option_map (text_fault names) (numbered.operation_fault old new earlier op)
    fault_of_texts earlier all op within =
        ap₂ (λ (a b : Option OperationFault). option_or a b) (twice_texts earlier all op within) (misses_texts op within)
        ∙ either_mapped (text_fault names) (numbered.twice earlier op) (numbered.misses old new op)

    abbrev ops : List OpLine → List RegOp
    ops lines = edit.ops_of lines

    one_more : (first : List OpLine) (o : OpLine) → ops (first ++ o ∷ []) ≡ ops first ++ o.op ∷ []
    one_more [] o = refl
    one_more (x ∷ xs) o = ap (λ (os : List RegOp). x.op ∷ os) (one_more xs o)

    texts_more : (earlier : List RegOp) (op : RegOp)
        → map (operation names) (earlier ++ op ∷ []) ≡ map (operation names) earlier ++ operation names op ∷ []
    texts_more [] op = refl
    texts_more (x ∷ xs) op = ap (λ (os : List Operation). operation names x ∷ os) (texts_more xs op)

    line_there : (first : List OpLine) (o : OpLine) (rest : List OpLine)
        → slice_index_or (map (λ (x : OpLine). x.line) (first ++ o ∷ rest)) (length (ops first)) 0 ≡ o.line
    line_there [] o rest = refl
    line_there (x ∷ xs) o rest = line_there xs o rest

    first_texts : (lines : List OpLine) (line index : ℕ) → slice_index_or (map (λ (x : OpLine). x.line) lines) index 0 ≡ line
        → (fault : Option numbered.OperationFault) (rest : Option numbered.RefusedOperation)
        → first_refused line (option_map (text_fault names) fault) (option_map (text_refused names lines) rest)
        ≡ option_map (text_refused names lines) (numbered.first_refused index fault rest)
    first_texts lines line index is None rest = refl
    first_texts lines line index is (Some fault) rest = ap (λ (n : ℕ). Some (refused_operation n (text_fault names fault))) (sym is)

    abbrev AreOps : List OpLine → Type 0
    AreOps lines = AreOpsWithin (length names) lines

    all_before : (first : List OpLine) (o : OpLine) → All (HasNames (length names)) (ops first) → HasNames (length names) o.op
        → All (HasNames (length names)) (ops (first ++ o ∷ []))
    all_before [] o all is = All-cons (HasNames (length names)) o.op [] is (All-nil (HasNames (length names)))
    all_before (x ∷ xs) o all is =
        All-cons (HasNames (length names)) x.op (ops (xs ++ o ∷ [])) (All-head (HasNames (length names)) x.op (ops xs) all)
        (all_before xs o (All-tail (HasNames (length names)) x.op (ops xs) all) is)

    -- behind the first of them
    faults_texts : (first : List OpLine) → All (HasNames (length names)) (ops first) → (lines : List OpLine) → AreOps lines
        → operations_fault before behind (map (operation names) (ops first)) (map (line_operation names) lines)
        ≡ option_map (text_refused names (first ++ lines)) (numbered.operations_fault old new (ops first) (ops lines))
    faults_texts first all [] within = refl
    faults_texts first all (o ∷ os) within =
        let here : HasNames (length names) o.op = All-head (λ (x : OpLine). HasNames (length names) x.op) o os within in
        let rest : AreOps os = All-tail (λ (x : OpLine). HasNames (length names) x.op) o os within in
        let lines = first ++ o ∷ os in
        ap₂ (λ (a : Option OperationFault) (b : Option Refused). first_refused o.line a b)
        (fault_of_texts (ops first) all o.op here)
        (ap (λ (es : List Operation). operations_fault before behind es (map (line_operation names) os))
        (sym (texts_more (ops first) o.op) ∙ ap (map (operation names)) (sym (one_more first o)))
        ∙ faults_texts (first ++ o ∷ []) (all_before first o all here) os rest
        ∙ ap₂ (λ (ls : List OpLine) (es : List RegOp). option_map (text_refused names ls) (numbered.operations_fault old new es (ops os)))
        (append_assoc first (o ∷ []) os) (one_more first o))
        ∙ first_texts lines o.line (length (ops first)) (line_there first o os) (numbered.operation_fault old new (ops first) o.op)
        (numbered.operations_fault old new (ops first ++ o.op ∷ []) (ops os))

-- ---- the registers of a design

-- each signal of a design has a name
abbrev IsCalled : Signal → Type 0
IsCalled x = 0 < length x.path

some_path : (path : List ℕ) (name : ℕ) → 0 < length (path ++ name ∷ [])
some_path [] name = omega arith
some_path (x ∷ xs) name = omega arith

rows_called : (rows : List InstanceName) (xs : List RowSignal) → All IsCalled (map (signal_of rows) xs)
rows_called rows [] = All-nil IsCalled
rows_called rows (x ∷ xs) = All-cons IsCalled (signal_of rows x) (map (signal_of rows) xs) (some_path _ x.name.0) (rows_called rows xs)

-- its registers are among its signals
all_below : (rs : List ℕ) (count : ℕ) → IsTrue (are_below rs count) → All (λ (r : ℕ). r < count) rs
all_below [] count h = All-nil (λ (r : ℕ). r < count)
all_below (r ∷ rs) count h =
    All-cons (λ (s : ℕ). s < count) r rs (ltb-true r count (and_parts (nat_lt r count) (are_below rs count) h).0)
    (all_below rs count (and_parts (nat_lt r count) (are_below rs count) h).1)

abbrev no_register : NumberedRegister
no_register = record { path = []; in_module = 0; name = 0; width = 0 }

module _ (names : List (List ℕ)) where
  abbrev text_at_signal : (xs : List Signal) (r : ℕ) → Register
  text_at_signal xs r = record {
    called = record { in_module = slice_index_or (map (module_text names) xs) r []; name = slice_index_or (map (own_text names) xs) r [] };
    width = slice_index (map (λ (x : Signal). x.width) (map nameless xs)) r;
  }

  one_register : (xs : List Signal) (r : ℕ) → All IsCalled xs → r < length xs
      → text_at_signal xs r ≡ text_register names (at_or register_of no_register xs r)
  one_register [] r called lt = absurd (omega (arith, lt))
  one_register (x ∷ xs) zero called lt =
      ap (λ (t : List ℕ). record { called = record { in_module = text_at names x.in_module; name = t }; width = x.width })
      (last_named names x.path (All-head IsCalled x xs called))
  one_register (x ∷ xs) (suc r) called lt = one_register xs r (All-tail IsCalled x xs called) (omega (arith, lt))

  registers_of_signals : (xs : List Signal) (rs : List ℕ) → All IsCalled xs → All (λ (r : ℕ). r < length xs) rs
      → map (text_at_signal xs) rs ≡ map (text_register names) (map (λ (r : ℕ). at_or register_of no_register xs r) rs)
  registers_of_signals xs [] called all = refl
  registers_of_signals xs (r ∷ rs) called all =
      ap₂ (λ (y : Register) (ys : List Register). y ∷ ys) (one_register xs r called (All-head (λ (s : ℕ). s < length xs) r rs all))
      (registers_of_signals xs rs called (All-tail (λ (s : ℕ). s < length xs) r rs all))

  registers_of_rows : (rows : List InstanceName) (xs : List RowSignal) (rs : List ℕ) → IsTrue (are_below rs (length xs))
      → All (λ (r : ℕ). r < length (map (signal_of rows) xs)) rs
  registers_of_rows rows xs rs below =
      subst (λ (n : ℕ). All (λ (r : ℕ). r < n) rs) (sym (length-map xs (signal_of rows))) (all_below rs (length xs) below)

  -- the registers of a design by their texts
  pub machine_registers : (m : Design) (keys : List KeyData)
      → registers_of (Some (spelled names (design_of m keys))) ≡ map (text_register names) (regs_of (design_flat m))
  machine_registers m keys =
      let f = m.linked.design in
      registers_of_signals (design_flat m).signals f.registers.items (rows_called f.instances.rows.items f.signals.items)
      (registers_of_rows f.instances.rows.items f.signals.items f.registers.items f.registers_there)

  -- their names are of the table where those of the signals are
  register_in : (xs : List Signal) (r : ℕ) → All IsCalled xs → All (IsNamedIn (length names)) xs → r < length xs
      → IsRegisterIn (length names) (at_or register_of no_register xs r)
  register_in [] r called within lt = absurd (omega (arith, lt))
  register_in (x ∷ xs) zero called within lt =
      let named : IsNamedIn (length names) x = All-head (IsNamedIn (length names)) x xs within in
      (named.0, last_within (length names) x.path (All-head IsCalled x xs called) named.1)
  register_in (x ∷ xs) (suc r) called within lt =
      register_in xs r (All-tail IsCalled x xs called) (All-tail (IsNamedIn (length names)) x xs within) (omega (arith, lt))

  registers_in : (xs : List Signal) (rs : List ℕ) → All IsCalled xs → All (IsNamedIn (length names)) xs → All (λ (r : ℕ). r < length xs) rs
      → All (IsRegisterIn (length names)) (map (λ (r : ℕ). at_or register_of no_register xs r) rs)
  registers_in xs [] called within all = All-nil (IsRegisterIn (length names))
  registers_in xs (r ∷ rs) called within all =
      All-cons (IsRegisterIn (length names)) (at_or register_of no_register xs r) (map (λ (s : ℕ). at_or register_of no_register xs s) rs)
      (register_in xs r called within (All-head (λ (s : ℕ). s < length xs) r rs all))
      (registers_in xs rs called within (All-tail (λ (s : ℕ). s < length xs) r rs all))

  pub machine_within : (m : Design) → All (IsNamedIn (length names)) (design_flat m).signals
      → All (IsRegisterIn (length names)) (regs_of (design_flat m))
  machine_within m within =
      let f = m.linked.design in
      registers_in (design_flat m).signals f.registers.items (rows_called f.instances.rows.items f.signals.items) within
      (registers_of_rows f.instances.rows.items f.signals.items f.registers.items f.registers_there)

  -- and those of the design of a world, or none
  current_registers : (design : Option Spelled) (old : Option Design) → IsCurrent names design old
      → registers_of design ≡ map (text_register names) (edit.registers_of old)
  current_registers None None is = refl
  current_registers None (Some m) is = absurd is
  current_registers (Some d) None is = absurd is
  current_registers (Some d) (Some m) is = ap registers_of is.is ∙ machine_registers m is.keys

  current_within : (design : Option Spelled) (old : Option Design) → IsCurrent names design old
      → All (IsRegisterIn (length names)) (edit.registers_of old)
  current_within None None is = All-nil (IsRegisterIn (length names))
  current_within None (Some m) is = absurd is
  current_within (Some d) None is = absurd is
  current_within (Some d) (Some m) is = machine_within m is.within

-- ---- the operations of an edit

-- what is refused is shown so
pub refusal_shown : (names : List (List ℕ)) (files : List TextFile) (line : ℕ) (lines : List OpLine) (r : numbered.RefusedOperation)
    → refused_text files line (edit.operation_fault names lines r) ≡ text_refused names lines r
refusal_shown names files line lines r =
    let at = slice_index_or (map (λ (o : OpLine). o.line) lines) r.index 0 in
    ap (λ (t : List ℕ). refused_at r.fault.code at (t ∷ []))
    (append_assoc (text_at names r.fault.shown.in_module) (codes ".") (text_at names r.fault.shown.name))

module _ (names : List (List ℕ)) (once : HasEachOnce names) (design : Option Spelled) (old : Option Design) (current : IsCurrent names design old)
    (new : Design) (keys : List KeyData) (within : All (IsNamedIn (length names)) (design_flat new).signals) (lines : List OpLine)
    (named : AreOpsWithin (length names) lines) where
  abbrev found : Option Refused
  found = operations_fault (registers_of design) (registers_of (Some (spelled names (design_of new keys)))) [] (map (line_operation names) lines)

  pub operations_by : found ≡ option_map (text_refused names lines) (edit.first_refused old new lines)
  operations_by =
      ap₂ (λ (xs ys : List Register). operations_fault xs ys [] (map (line_operation names) lines)) (current_registers names design old current)
      (machine_registers names new keys)
      ∙ faults_texts names once (edit.registers_of old) (regs_of (design_flat new)) (current_within names design old current)
      (machine_within names new within) [] (All-nil (HasNames (length names))) lines named

  -- none is refused
  pub operations_valid : edit.AreValidBetween old new lines → found ≡ None
  operations_valid valid = operations_by ∙ ap (option_map (text_refused names lines)) valid

  -- or the first of them, as it is shown
  pub operations_refused : (files : List TextFile) (line : ℕ) (refused : numbered.RefusedOperation) → edit.first_refused old new lines ≡ Some refused
      → found ≡ Some (refused_text files line (edit.operation_fault names lines refused))
  operations_refused files line refused is =
      operations_by ∙ ap (option_map (text_refused names lines)) is ∙ ap Some (sym (refusal_shown names files line lines refused))
