-- The names of a job are those of the signals within blocks, in the order of their numbers.
use Rattle.std.proofs.Common.{◌≡◌, ℕ, ◌==◌, Bool, true, false, not, if◌then◌else◌, List, [], ◌∷◌, ◌++◌, length, map, filter, Ok, refl, sym, ◌∙◌, ap}
use Rattle.std.proofs.Common.{append_assoc, append-nil}
use Rattle.std.specs.Prelude.{Option, Some, None}
use Rattle.std.specs.Option.{option_to_list}
use Rattle.std.proofs.lemmas.Bool.{eqb-true, and_parts, cond-false, not-false}
use Rattle.std.proofs.lemmas.List.{map-append, nil_from_length}
use Rattle.std.proofs.lemmas.List.Elements.{filter-append}
use Rattle.verilog_ast.specs.declared.identifier.Identifier.{Identifier}
use Rattle.verilog_ast.specs.declared.port_net.PortNet.{PortNet}
use Rattle.verilog_ast.specs.declared.port_net.PortNet.TheVariants as net
use Rattle.verilog_ast.specs.Declarations.{PortDeclaration, InputPort, OutputPort, NextPort, header_net}
use Rattle.verilog_ast.specs.Items as i
use Rattle.verilog_ast.specs.Items.{ModuleItem, ModuleDeclaration}
use Rattle.typed_ir.specs.declared.signal_kind.SignalKind.{SignalKind}
use Rattle.typed_ir.specs.declared.signal_kind.SignalKind.TheVariants as kind
use Rattle.gen_unroll.specs.Declarations.{BitRange, declared_name, declared_reg_name}
use Rattle.gen_unroll.specs.Reaches.{Reach, reach_in, innermost, in_reach}
use Rattle.gen_unroll.specs.Steps.{GenerateBlock, ModuleStep, Listed, Port, Parameter, Item, Labelled, Opened, Closed, blocks_in}
use Rattle.gen_unroll.proofs.Answered.{ok_same, first_step}
use Rattle.gen_unroll.specs.Numbers.{SignalTable, header_names, first_where, with_header_port, ports_onto, is_no_port, numbered, table_of}
use Rattle.gen_unroll.specs.Numbers.{module_table}
use Rattle.gen_unroll.specs.Signals.{NamedSignal, is_outermost, is_port, is_port_named, kind_of_net, with_port, with_ports, with_next}
use Rattle.gen_unroll.specs.Signals.{last_of, completed, completes}
use Rattle.gen_unroll.specs.Signals.{put, with_net, with_nets, range_in, header_port, item_signals, declared_in}
use Rattle.gen_unroll.proofs.Signals.{net_signal}
use Rattle.unit_jobs.specs.BlockNames.{declared_by, called_in, item_texts, texts_within}
use Rattle.version_swap.specs.BlockSignals.{is_within_block, called}
use Rattle.version_swap.specs.Outer.{is_item_outside, are_ports_outside}
use Rattle.version_swap.proofs.FoundValues.{one_less}
use Rattle.version_swap.proofs.Numbering.{first_meets}

-- ---- signals with numbers: those within blocks are as they were declared

port_outside : (x : NamedSignal) → is_port x ≡ true → is_within_block x ≡ false
port_outside x is = ap not (and_parts x.port (is_outermost x.block) is).1

none_of_any : (o : Option NamedSignal) → ((x : NamedSignal) → o ≡ Some x → is_within_block x ≡ false) → filter is_within_block (option_to_list o) ≡ []
none_of_any None outer = refl
none_of_any (Some x) outer = cond-false (is_within_block x) (x ∷ []) [] (outer x refl)

port_is_outer : (n : ℕ) (xs : List NamedSignal) (x : NamedSignal) → first_where (is_port_named n) xs ≡ Some x → is_within_block x ≡ false
port_is_outer n xs x is = port_outside x (and_parts (is_port x) (x.name.name.0 == n) (first_meets (is_port_named n) xs x is)).0

header_port_outer : (b : Bool) (n : ℕ) (xs out : List NamedSignal)
    → filter is_within_block (if b then out else out ++ option_to_list (first_where (is_port_named n) xs)) ≡ filter is_within_block out
header_port_outer true n xs out = refl
header_port_outer false n xs out =
    filter-append is_within_block out (option_to_list (first_where (is_port_named n) xs))
    ∙ ap (λ ys. filter is_within_block out ++ ys) (none_of_any (first_where (is_port_named n) xs) (port_is_outer n xs))
    ∙ append-nil (filter is_within_block out)

ports_outer : (ns : List Identifier) (xs out : List NamedSignal) → filter is_within_block (ports_onto ns xs out) ≡ filter is_within_block out
ports_outer [] xs out = refl
ports_outer (n ∷ ns) xs out = ports_outer ns xs (with_header_port xs n out) ∙ header_port_outer _ n.name.0 xs out

-- what stands within a block is no port
others_within : (xs : List NamedSignal) → filter is_within_block (filter is_no_port xs) ≡ filter is_within_block xs
others_within [] = refl
others_within (x ∷ xs) = cases (is_no_port x) refl (others_within xs)
  where
    cases : (b : Bool) → is_no_port x ≡ b → filter is_within_block (filter is_no_port xs) ≡ filter is_within_block xs
        → filter is_within_block (if b then x ∷ filter is_no_port xs else filter is_no_port xs) ≡ filter is_within_block (x ∷ xs)
    cases true is others = ap (λ ys. if is_within_block x then x ∷ ys else ys) others
    cases false is others =
        others
        ∙ sym (cond-false (is_within_block x) (x ∷ filter is_within_block xs) (filter is_within_block xs) (port_outside x (not-false (is_port x) is)))

pub same_within : (ns : List Identifier) (xs : List NamedSignal) → filter is_within_block (numbered ns xs) ≡ filter is_within_block xs
same_within ns xs =
    filter-append is_within_block (ports_onto ns xs []) (filter is_no_port xs)
    ∙ ap (λ ys. ys ++ filter is_within_block (filter is_no_port xs)) (ports_outer ns xs [])
    ∙ others_within xs

-- ---- what signals within blocks are called

module _ (texts : List (List ℕ)) (blocks : List GenerateBlock) where
  abbrev said : List NamedSignal → List (List ℕ)
  said xs = map (called texts blocks) (filter is_within_block xs)

  said_more : (xs ys : List NamedSignal) → said (xs ++ ys) ≡ said xs ++ said ys
  said_more xs ys =
      ap (map (called texts blocks)) (filter-append is_within_block xs ys)
      ∙ map-append (called texts blocks) (filter is_within_block xs) (filter is_within_block ys)

  -- one outside of blocks isn't among them
  said_outer : (xs : List NamedSignal) (x : NamedSignal) → x.block ≡ None → said (xs ++ x ∷ []) ≡ said xs
  said_outer xs x outer =
      said_more xs (x ∷ [])
      ∙ ap (λ ys. said xs ++ map (called texts blocks) ys)
      (cond-false (is_within_block x) (x ∷ []) [] (ap (λ (b : Option ℕ). not (is_outermost b)) outer))
      ∙ append-nil (said xs)

  said_first : (x : NamedSignal) (xs : List NamedSignal) → said (x ∷ xs) ≡ (if is_within_block x then called texts blocks x ∷ said xs else said xs)
  said_first x xs = cases (is_within_block x)
    where
      cases : (b : Bool) → map (called texts blocks) (if b then x ∷ filter is_within_block xs else filter is_within_block xs)
          ≡ (if b then called texts blocks x ∷ said xs else said xs)
      cases true = refl
      cases false = refl

  said_behind : (x : NamedSignal) (xs ys : List NamedSignal) → said xs ≡ said ys → said (x ∷ xs) ≡ said (x ∷ ys)
  said_behind x xs ys same =
      said_first x xs ∙ ap (λ (zs : List (List ℕ)). if is_within_block x then called texts blocks x ∷ zs else zs) same ∙ sym (said_first x ys)

  -- ---- ports, outside of blocks

  ports_said : (k : SignalKind) (by : PortNet) (r : Option BitRange) (s : Bool) (ns : List Identifier) (xs : List NamedSignal)
      → said (with_ports None k by r s ns xs) ≡ said xs
  ports_said k by r s [] xs = refl
  ports_said k by r s (n ∷ ns) xs =
      ports_said k by r s ns (with_port None k by r s n xs)
      ∙ said_outer xs (record { block = None; name = n; kind = k; range = r; signed = s; port = true; net = by; order = length xs }) refl

  next_said : (o : Option NamedSignal) (n : Identifier) (xs : List NamedSignal) → said (with_next o None n xs) ≡ said xs
  next_said None n xs = ports_said kind.Input net.Wire None false (n ∷ []) xs
  next_said (Some p) n xs = ports_said p.kind p.net p.range p.signed (n ∷ []) xs

  -- ---- nets and variables, those within a block put behind the others

  net_outer : (by : PortNet) (r : Option BitRange) (s : Bool) (n : Identifier) (k : ℕ) (xs : List NamedSignal)
      → said (put (net_signal None by r s n k) xs) ≡ said xs
  net_outer by r s n k [] = refl
  net_outer by r s n k (x ∷ xs) = cases (completes None n.name.0 x) (net_outer by r s n k xs)
    where
      cases : (b : Bool) → said (put (net_signal None by r s n k) xs) ≡ said xs
          → said (if b then completed by x ∷ xs else x ∷ put (net_signal None by r s n k) xs) ≡ said (x ∷ xs)
      cases true rest = said_first (completed by x) xs ∙ sym (said_first x xs)
      cases false rest = said_behind x (put (net_signal None by r s n k) xs) xs rest

  net_within : (b : ℕ) (by : PortNet) (r : Option BitRange) (s : Bool) (n : Identifier) (k : ℕ) (xs : List NamedSignal)
      → put (net_signal (Some b) by r s n k) xs ≡ xs ++ net_signal (Some b) by r s n k ∷ []
  net_within b by r s n k [] = refl
  net_within b by r s n k (x ∷ xs) = ap (λ ys. x ∷ ys) (net_within b by r s n k xs)

  abbrev names_in : Option ℕ → List Identifier → List (List ℕ)
  names_in None ns = []
  names_in (Some b) ns = map (called_in texts blocks b) ns

  nets_said : (b : Option ℕ) (by : PortNet) (r : Option BitRange) (s : Bool) (ns : List Identifier) (xs : List NamedSignal)
      → said (with_nets b by r s ns xs) ≡ said xs ++ names_in b ns
  nets_said None by r s [] xs = sym (append-nil (said xs))
  nets_said None by r s (n ∷ ns) xs =
      nets_said None by r s ns (with_net None by r s n xs) ∙ ap (λ ys. ys ++ []) (net_outer by r s n (length xs) xs)
  nets_said (Some b) by r s [] xs = sym (append-nil (said xs))
  nets_said (Some b) by r s (n ∷ ns) xs =
      nets_said (Some b) by r s ns (with_net (Some b) by r s n xs)
      ∙ ap (λ ys. said ys ++ names_in (Some b) ns) (net_within b by r s n (length xs) xs)
      ∙ ap (λ ys. ys ++ names_in (Some b) ns) (said_more xs (net_signal (Some b) by r s n (length xs) ∷ []))
      ∙ append_assoc (said xs) (called_in texts blocks b n ∷ []) (names_in (Some b) ns)

  wires_are : (b : Option ℕ) (x : ModuleItem) (ns : List Identifier) → declared_by x ≡ ns → names_in b ns ≡ item_texts texts blocks b x
  wires_are None x ns is = refl
  wires_are (Some b) x ns is = ap (map (called_in texts blocks b)) (sym is)

  none_in : (b : Option ℕ) (x : ModuleItem) → declared_by x ≡ [] → item_texts texts blocks b x ≡ []
  none_in None x is = refl
  none_in (Some b) x is = ap (map (called_in texts blocks b)) is

  -- ---- a step

  -- an item that declares no net or variable has no names
  nothing_said : (b : Option ℕ) (x : ModuleItem) (xs zs : List NamedSignal) → declared_by x ≡ [] → said zs ≡ said xs
      → said zs ≡ said xs ++ item_texts texts blocks b x
  nothing_said b x xs zs none is = is ∙ sym (append-nil (said xs)) ∙ ap (λ ys. said xs ++ ys) (sym (none_in b x none))

  -- where no block is open
  outermost : (here : Reach) → (length here.blocks == 0) ≡ true → innermost here.blocks ≡ None
  outermost here is = ap innermost (nil_from_length here.blocks (eqb-true (length here.blocks) 0 is))

  -- behind an item there are its names more
  item_said : (here : Reach) (x : ModuleItem) (xs zs : List NamedSignal) → is_item_outside (length here.blocks) x ≡ true
      → item_signals here x xs ≡ Ok zs → said zs ≡ said xs ++ item_texts texts blocks (innermost here.blocks) x
  item_said here (i.Inputs at by k ns) xs zs outside is =
      let r = first_step (range_in here k) (λ r. Ok (with_ports (innermost here.blocks) kind.Input by r k.signed ns xs)) zs is in
      nothing_said (innermost here.blocks) (i.Inputs at by k ns) xs zs refl
      (ap said (sym (ok_same (with_ports (innermost here.blocks) kind.Input by r.value k.signed ns xs) zs r.second))
      ∙ ap (λ b. said (with_ports b kind.Input by r.value k.signed ns xs)) (outermost here outside)
      ∙ ports_said kind.Input by r.value k.signed ns xs)
  item_said here (i.Outputs at by k ports) xs zs outside is =
      let ns = map declared_name ports in
      let r = first_step (range_in here k) (λ r. Ok (with_ports (innermost here.blocks) (kind_of_net by) by r k.signed ns xs)) zs is in
      nothing_said (innermost here.blocks) (i.Outputs at by k ports) xs zs refl
      (ap said (sym (ok_same (with_ports (innermost here.blocks) (kind_of_net by) by r.value k.signed ns xs) zs r.second))
      ∙ ap (λ b. said (with_ports b (kind_of_net by) by r.value k.signed ns xs)) (outermost here outside)
      ∙ ports_said (kind_of_net by) by r.value k.signed ns xs)
  item_said here (i.Wires at k nets) xs zs outside is =
      let ns = map declared_name nets in
      let b = innermost here.blocks in
      let r = first_step (range_in here k) (λ r. Ok (with_nets b net.Wire r k.signed ns xs)) zs is in
      ap said (sym (ok_same (with_nets b net.Wire r.value k.signed ns xs) zs r.second))
      ∙ nets_said b net.Wire r.value k.signed ns xs
      ∙ ap (λ ys. said xs ++ ys) (wires_are b (i.Wires at k nets) ns refl)
  item_said here (i.Regs at k regs) xs zs outside is =
      let ns = map declared_reg_name regs in
      let b = innermost here.blocks in
      let r = first_step (range_in here k) (λ r. Ok (with_nets b net.Reg r k.signed ns xs)) zs is in
      ap said (sym (ok_same (with_nets b net.Reg r.value k.signed ns xs) zs r.second))
      ∙ nets_said b net.Reg r.value k.signed ns xs
      ∙ ap (λ ys. said xs ++ ys) (wires_are b (i.Regs at k regs) ns refl)
  item_said here other xs zs outside is = nothing_said (innermost here.blocks) other xs zs refl (ap said (sym (ok_same xs zs is)))

  -- behind a port of the header there are as many
  port_said : (here : Reach) (p : PortDeclaration) (xs zs : List NamedSignal) → (length here.blocks == 0) ≡ true → header_port here p xs ≡ Ok zs
      → said zs ≡ said xs
  port_said here (InputPort at by k n) xs zs outside is =
      let r = first_step (range_in here k) (λ r. Ok (with_port (innermost here.blocks) kind.Input (header_net by) r k.signed n xs)) zs is in
      ap said (sym (ok_same (with_port (innermost here.blocks) kind.Input (header_net by) r.value k.signed n xs) zs r.second))
      ∙ ap (λ b. said (with_port b kind.Input (header_net by) r.value k.signed n xs)) (outermost here outside)
      ∙ ports_said kind.Input (header_net by) r.value k.signed (n ∷ []) xs
  port_said here (OutputPort at by k x) xs zs outside is =
      let b = innermost here.blocks in
      let r = first_step (range_in here k) (λ r. Ok (with_port b (kind_of_net by) (header_net by) r k.signed x.name xs)) zs is in
      ap said (sym (ok_same (with_port b (kind_of_net by) (header_net by) r.value k.signed x.name xs) zs r.second))
      ∙ ap (λ b. said (with_port b (kind_of_net by) (header_net by) r.value k.signed x.name xs)) (outermost here outside)
      ∙ ports_said (kind_of_net by) (header_net by) r.value k.signed (x.name ∷ []) xs
  port_said here (NextPort x) xs zs outside is =
      ap said (sym (ok_same (with_next (last_of xs) (innermost here.blocks) x.name xs) zs is))
      ∙ ap (λ b. said (with_next (last_of xs) b x.name xs)) (outermost here outside)
      ∙ next_said (last_of xs) x.name xs

  -- ---- steps, one after another

  steps_said : (here : Reach) (steps : List ModuleStep) (xs ys : List NamedSignal) → are_ports_outside (length here.blocks) steps ≡ true
      → declared_in here steps xs ≡ Ok ys → said ys ≡ said xs ++ texts_within texts blocks here.blocks steps
  steps_said here [] xs ys outside is = ap said (sym (ok_same xs ys is)) ∙ sym (append-nil (said xs))
  steps_said here (Item x ∷ steps) xs ys outside is =
      let parts = and_parts (is_item_outside (length here.blocks) x) (are_ports_outside (length here.blocks) steps) outside in
      let s = first_step (item_signals here x xs) (λ zs. declared_in here steps zs) ys is in
      let items = item_texts texts blocks (innermost here.blocks) x in
      steps_said here steps s.value ys parts.1 s.second
      ∙ ap (λ zs. zs ++ texts_within texts blocks here.blocks steps) (item_said here x xs s.value parts.0 s.first)
      ∙ append_assoc (said xs) items (texts_within texts blocks here.blocks steps)
  steps_said here (Port p ∷ steps) xs ys outside is =
      let parts = and_parts (length here.blocks == 0) (are_ports_outside (length here.blocks) steps) outside in
      let s = first_step (header_port here p xs) (λ zs. declared_in here steps zs) ys is in
      steps_said here steps s.value ys parts.1 s.second
      ∙ ap (λ zs. zs ++ texts_within texts blocks here.blocks steps) (port_said here p xs s.value parts.0 s.first)
  steps_said here (Opened b items ∷ steps) xs ys outside is = steps_said (in_reach (Opened b items) here) steps xs ys outside is
  steps_said here (Closed ∷ steps) xs ys outside is =
      steps_said (in_reach Closed here) steps xs ys (ap (λ n. are_ports_outside n steps) (one_less here.blocks) ∙ outside) is
  steps_said here (Listed n ∷ steps) xs ys outside is = steps_said here steps xs ys outside is
  steps_said here (Parameter s n v ∷ steps) xs ys outside is = steps_said (in_reach (Parameter s n v) here) steps xs ys outside is
  steps_said here (Labelled n ∷ steps) xs ys outside is = steps_said (in_reach (Labelled n) here) steps xs ys outside is

-- the names within the blocks of a module are those of its signals there, in the order of their numbers
pub same_names_within : (m : ModuleDeclaration) (steps : List ModuleStep) (t : SignalTable) (texts : List (List ℕ))
    → are_ports_outside 0 steps ≡ true → module_table m steps ≡ Ok t
    → texts_within texts (blocks_in steps) [] steps ≡ map (called texts (blocks_in steps)) (filter is_within_block t.signals)
unfolding module_table
same_names_within m steps t texts outside is =
    let s = first_step (declared_in (reach_in m) steps []) (λ xs. Ok (table_of (header_names m.ports) xs)) t is in
    let table = ok_same (table_of (header_names m.ports) s.value) t s.second in
    sym (steps_said texts (blocks_in steps) (reach_in m) steps [] s.value outside s.first)
    ∙ ap (map (called texts (blocks_in steps))) (sym (same_within (header_names m.ports) s.value))
    ∙ ap (λ (u : SignalTable). map (called texts (blocks_in steps)) (filter is_within_block u.signals)) table
