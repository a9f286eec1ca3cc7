-- Signals in the order of their declarations: each says how many were declared before it.
use Rattle.std.proofs.Common.{◌≡◌, ℕ, suc, ◌+◌, ◌<◌, ◌≤◌, inl, inr, Bool, true, false, cond, List, [], ◌∷◌, ◌++◌, map, length, sym, ◌∙◌, ap, arith, Result, Ok, Err}
use Rattle.std.specs.Prelude.{Option, Some, None}
use Rattle.ls_text.specs.declared.fault.Fault.{Fault}
use Rattle.typed_ir.specs.Orders.{Member}
use Rattle.verilog_ast.specs.declared.identifier.Identifier.{Identifier}
use Rattle.verilog_ast.specs.declared.port_net.PortNet.{PortNet}
use Rattle.verilog_ast.specs.declared.port_net.PortNet.TheVariants as net
use Rattle.verilog_ast.specs.Declarations.{PortDeclaration, InputPort, OutputPort, NextPort, header_net}
use Rattle.verilog_ast.specs.Items as i
use Rattle.verilog_ast.specs.Items.{ModuleItem}
use Rattle.typed_ir.specs.declared.signal_kind.SignalKind.{SignalKind}
use Rattle.typed_ir.specs.declared.signal_kind.SignalKind.TheVariants as kind
use Rattle.gen_unroll.specs.Declarations.{BitRange, declared_name, declared_reg_name}
use Rattle.gen_unroll.specs.Reaches.{Reach, innermost, in_reach}
use Rattle.gen_unroll.specs.Steps.{ModuleStep, Listed, Port, Parameter, Item, Labelled, Opened, Closed}
use Rattle.ls_text.specs.Answers.{◌>>=◌}
use Rattle.gen_unroll.specs.Signals.{NamedSignal, completes, completed, put, kind_of_net, with_port, with_ports, with_next, with_net, with_nets, last_of, range_in, header_port, item_signals, step_signals, declared_in}

-- so many were declared before the first of these, and one more before each further one
abbrev pub AreInOrder : ℕ → List NamedSignal → Type 0
AreInOrder k [] = Unit {0}
AreInOrder k (x ∷ xs) = (x.order ≡ k) × AreInOrder (suc k) xs

-- ---- one more

one_more : (k : ℕ) (xs : List NamedSignal) (x : NamedSignal) → x.order ≡ k + length xs → AreInOrder k xs → AreInOrder k (xs ++ x ∷ [])
one_more k [] x is before = (omega (arith, is), tt)
one_more k (y ∷ ys) x is before = (before.0, one_more (suc k) ys x (omega (arith, is)) before.1)

put_more : (k : ℕ) (xs : List NamedSignal) (d : NamedSignal) → d.order ≡ k + length xs → AreInOrder k xs → AreInOrder k (put d xs)
put_more k [] d is before = (omega (arith, is), tt)
put_more k (x ∷ xs) d is before = by (completes d.block d.name.name.0 x) (put_more (suc k) xs d (omega (arith, is)) before.1)
  where
    by : (b : Bool) → AreInOrder (suc k) (put d xs) → AreInOrder k (cond b (completed d.net x ∷ xs) (x ∷ put d xs))
    by true rest = (before.0, before.1)
    by false rest = (before.0, rest)

port_more : (here : Option ℕ) (k : SignalKind) (by : PortNet) (range : Option BitRange) (signed : Bool) (n : Identifier) (xs : List NamedSignal) → AreInOrder 0 xs
    → AreInOrder 0 (with_port here k by range signed n xs)
port_more here k by range signed n xs before =
    one_more 0 xs (record { block = here; name = n; kind = k; range = range; signed = signed; port = true; net = by; order = length xs }) (omega arith) before

ports_more : (here : Option ℕ) (k : SignalKind) (by : PortNet) (range : Option BitRange) (signed : Bool) (ns : List Identifier) (xs : List NamedSignal) → AreInOrder 0 xs
    → AreInOrder 0 (with_ports here k by range signed ns xs)
ports_more here k by range signed [] xs before = before
ports_more here k by range signed (n ∷ ns) xs before =
    ports_more here k by range signed ns (with_port here k by range signed n xs) (port_more here k by range signed n xs before)

next_more : (last : Option NamedSignal) (here : Option ℕ) (n : Identifier) (xs : List NamedSignal) → AreInOrder 0 xs → AreInOrder 0 (with_next last here n xs)
next_more None here n xs before = port_more here kind.Input net.Wire None false n xs before
next_more (Some p) here n xs before = port_more here p.kind p.net p.range p.signed n xs before

net_more : (here : Option ℕ) (by : PortNet) (range : Option BitRange) (signed : Bool) (n : Identifier) (xs : List NamedSignal) → AreInOrder 0 xs
    → AreInOrder 0 (with_net here by range signed n xs)
net_more here by range signed n xs before =
    put_more 0 xs (record { block = here; name = n; kind = kind_of_net by; range = range; signed = signed; port = false; net = by; order = length xs }) (omega arith) before

nets_more : (here : Option ℕ) (by : PortNet) (range : Option BitRange) (signed : Bool) (ns : List Identifier) (xs : List NamedSignal) → AreInOrder 0 xs
    → AreInOrder 0 (with_nets here by range signed ns xs)
nets_more here by range signed [] xs before = before
nets_more here by range signed (n ∷ ns) xs before = nets_more here by range signed ns (with_net here by range signed n xs) (net_more here by range signed n xs before)

-- ---- steps

-- where there is no fault
abbrev pub EndInOrder : Result (List NamedSignal) Fault → Type 0
EndInOrder (Ok xs) = AreInOrder 0 xs
EndInOrder (Err e) = Unit {0}

ranged : (r : Result (Option BitRange) Fault) (f : Option BitRange → List NamedSignal) → ((b : Option BitRange) → AreInOrder 0 (f b)) → EndInOrder (r >>= λ b. Ok (f b))
ranged (Ok b) f each = each b
ranged (Err e) f each = tt

header_more : (here : Reach) (p : PortDeclaration) (xs : List NamedSignal) → AreInOrder 0 xs → EndInOrder (header_port here p xs)
header_more here (InputPort at by k n) xs before =
    ranged (range_in here k) (λ r. with_port (innermost here.blocks) kind.Input (header_net by) r k.signed n xs)
    (λ r. port_more (innermost here.blocks) kind.Input (header_net by) r k.signed n xs before)
header_more here (OutputPort at by k x) xs before =
    ranged (range_in here k) (λ r. with_port (innermost here.blocks) (kind_of_net by) (header_net by) r k.signed x.name xs)
    (λ r. port_more (innermost here.blocks) (kind_of_net by) (header_net by) r k.signed x.name xs before)
header_more here (NextPort x) xs before = next_more (last_of xs) (innermost here.blocks) x.name xs before

item_more : (here : Reach) (x : ModuleItem) (xs : List NamedSignal) → AreInOrder 0 xs → EndInOrder (item_signals here x xs)
item_more here (i.Inputs at by k ns) xs before =
    ranged (range_in here k) (λ r. with_ports (innermost here.blocks) kind.Input by r k.signed ns xs)
    (λ r. ports_more (innermost here.blocks) kind.Input by r k.signed ns xs before)
item_more here (i.Outputs at by k ports) xs before =
    ranged (range_in here k) (λ r. with_ports (innermost here.blocks) (kind_of_net by) by r k.signed (map declared_name ports) xs)
    (λ r. ports_more (innermost here.blocks) (kind_of_net by) by r k.signed (map declared_name ports) xs before)
item_more here (i.Wires at k nets) xs before =
    ranged (range_in here k) (λ r. with_nets (innermost here.blocks) net.Wire r k.signed (map declared_name nets) xs)
    (λ r. nets_more (innermost here.blocks) net.Wire r k.signed (map declared_name nets) xs before)
item_more here (i.Regs at k all) xs before =
    ranged (range_in here k) (λ r. with_nets (innermost here.blocks) net.Reg r k.signed (map declared_reg_name all) xs)
    (λ r. nets_more (innermost here.blocks) net.Reg r k.signed (map declared_reg_name all) xs before)
item_more here other xs before = before

step_more : (here : Reach) (s : ModuleStep) (xs : List NamedSignal) → AreInOrder 0 xs → EndInOrder (step_signals here s xs)
step_more here (Listed n) xs before = before
step_more here (Port p) xs before = header_more here p xs before
step_more here (Parameter s n v) xs before = before
step_more here (Item x) xs before = item_more here x xs before
step_more here (Labelled n) xs before = before
step_more here (Opened b items) xs before = before
step_more here Closed xs before = before

pub declared_more : (here : Reach) (steps : List ModuleStep) (xs : List NamedSignal) → AreInOrder 0 xs → EndInOrder (declared_in here steps xs)
declared_more here [] xs before = before
declared_more here (s ∷ ss) xs before = by (step_signals here s xs) (step_more here s xs before) (declared_more (in_reach s here) ss)
  where
    by : (r : Result (List NamedSignal) Fault) → EndInOrder r → ((ys : List NamedSignal) → AreInOrder 0 ys → EndInOrder (declared_in (in_reach s here) ss ys))
        → EndInOrder (r >>= λ ys. declared_in (in_reach s here) ss ys)
    by (Ok ys) so rest = rest ys so
    by (Err e) so rest = tt

-- ---- those among them

pub order_from : (k : ℕ) (xs : List NamedSignal) (x : NamedSignal) → AreInOrder k xs → Member x xs → k ≤ x.order
order_from k [] x so m = absurd m
order_from k (y ∷ ys) x so (inl e) = let same = ap (λ (z : NamedSignal). z.order) e ∙ so.0 in omega (arith, same)
order_from k (y ∷ ys) x so (inr m) = let later = order_from (suc k) ys x so.1 m in omega (arith, later)

pub order_below : (k : ℕ) (xs : List NamedSignal) (x : NamedSignal) → AreInOrder k xs → Member x xs → x.order < k + length xs
order_below k [] x so m = absurd m
order_below k (y ∷ ys) x so (inl e) = let same = ap (λ (z : NamedSignal). z.order) e ∙ so.0 in omega (arith, same)
order_below k (y ∷ ys) x so (inr m) = let later = order_below (suc k) ys x so.1 m in omega (arith, later)

-- those before which as many were declared are one
pub same_order : (k : ℕ) (xs : List NamedSignal) (x y : NamedSignal) → AreInOrder k xs → Member x xs → Member y xs → x.order ≡ y.order → x ≡ y
same_order k [] x y so m n same = absurd m
same_order k (z ∷ zs) x y so (inl e) (inl f) same = e ∙ sym f
same_order k (z ∷ zs) x y so (inl e) (inr n) same =
    let first = ap (λ (u : NamedSignal). u.order) e ∙ so.0 in
    let later = order_from (suc k) zs y so.1 n in
    absurd (omega (arith, same, first, later))
same_order k (z ∷ zs) x y so (inr m) (inl f) same =
    let first = ap (λ (u : NamedSignal). u.order) f ∙ so.0 in
    let later = order_from (suc k) zs x so.1 m in
    absurd (omega (arith, same, first, later))
same_order k (z ∷ zs) x y so (inr m) (inr n) same = same_order (suc k) zs x y so.1 m n same
