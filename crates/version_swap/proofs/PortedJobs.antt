-- The ports among signals, where one more signal is declared.
use Rattle.std.proofs.Common.{◌≡◌, ℕ, ◌-◌, ◌==◌, Bool, true, false, if◌then◌else◌, List, [], ◌∷◌, ◌++◌, length, refl, sym, ◌∙◌, ap, arith, true≢false}
use Rattle.std.specs.Prelude.{Option, Some, None, slice_get}
use Rattle.std.specs.Option.{option_map}
use Rattle.std.proofs.lemmas.Bool.{cond-true, cond-false, eqb-true, and_parts, and_right}
use Rattle.std.proofs.lemmas.List.{length_push}
use Rattle.verilog_ast.specs.declared.identifier.Identifier.{Identifier}
use Rattle.verilog_ast.specs.declared.port_net.PortNet.{PortNet}
use Rattle.verilog_ast.specs.declared.port_net.PortNet.TheVariants as net
use Rattle.typed_ir.specs.declared.signal_kind.SignalKind.{SignalKind}
use Rattle.typed_ir.specs.declared.signal_kind.SignalKind.TheVariants as kind
use Rattle.gen_unroll.specs.Declarations.{BitRange}
use Rattle.gen_unroll.specs.Numbers.{first_where}
use Rattle.gen_unroll.specs.Signals.{NamedSignal, is_port, is_port_named, kind_of_net, last_of, completed_kind, completed, completes, put}
use Rattle.gen_unroll.specs.UnitLists.{is_input}
use Rattle.gen_unroll.proofs.Signals.{net_signal}

-- ---- one signal more

abbrev pub or_last : Option NamedSignal → Bool → NamedSignal → Option NamedSignal
or_last (Some y) b x = Some y
or_last None b x = if b then Some x else None

pub first_last : (test : NamedSignal → Bool) (xs : List NamedSignal) (x : NamedSignal)
    → first_where test (xs ++ x ∷ []) ≡ or_last (first_where test xs) (test x) x
first_last test [] x = refl
first_last test (y ∷ ys) x = by (test y) (first_last test ys x)
  where
    by : (b : Bool) → first_where test (ys ++ x ∷ []) ≡ or_last (first_where test ys) (test x) x
        → (if b then Some y else first_where test (ys ++ x ∷ [])) ≡ or_last (if b then Some y else first_where test ys) (test x) x
    by true rest = refl
    by false rest = rest

last_none : (o : Option NamedSignal) (x : NamedSignal) → or_last o false x ≡ o
last_none None x = refl
last_none (Some y) x = refl

pub first_kept : (test : NamedSignal → Bool) (xs : List NamedSignal) (x : NamedSignal) → test x ≡ false
    → first_where test (xs ++ x ∷ []) ≡ first_where test xs
first_kept test xs x other = first_last test xs x ∙ ap (λ (b : Bool). or_last (first_where test xs) b x) other ∙ last_none (first_where test xs) x

pub first_new : (test : NamedSignal → Bool) (xs : List NamedSignal) (x : NamedSignal) → first_where test xs ≡ None → test x ≡ true
    → first_where test (xs ++ x ∷ []) ≡ Some x
first_new test xs x none is =
    first_last test xs x ∙ ap (λ (o : Option NamedSignal). or_last o (test x) x) none ∙ ap (λ (b : Bool). or_last None b x) is

at_end : (xs : List NamedSignal) (x : NamedSignal) → slice_get (xs ++ x ∷ []) (length xs) ≡ Some x
at_end [] x = refl
at_end (y ∷ ys) x = at_end ys x

pub last_new : (xs : List NamedSignal) (x : NamedSignal) → last_of (xs ++ x ∷ []) ≡ Some x
last_new xs x =
    let more = length_push xs x in
    let before : length (xs ++ x ∷ []) - 1 ≡ length xs = omega (arith, more) in
    ap (slice_get (xs ++ x ∷ [])) before ∙ at_end xs x

-- ---- a net or variable, which completes a port of its name

pub put_same : (by : PortNet) (range : Option BitRange) (signed : Bool) (n : Identifier) (k : ℕ) (xs : List NamedSignal)
    → first_where (is_port_named n.name.0) (put (net_signal None by range signed n k) xs)
    ≡ option_map (completed by) (first_where (is_port_named n.name.0) xs)
put_same by range signed n k [] = refl
put_same by range signed n k (x ∷ xs) = cases (is_port_named n.name.0 x) refl (put_same by range signed n k xs)
  where
    cases : (b : Bool) → is_port_named n.name.0 x ≡ b
        → first_where (is_port_named n.name.0) (put (net_signal None by range signed n k) xs)
        ≡ option_map (completed by) (first_where (is_port_named n.name.0) xs)
        → first_where (is_port_named n.name.0) (if b then completed by x ∷ xs else x ∷ put (net_signal None by range signed n k) xs)
        ≡ option_map (completed by) (if b then Some x else first_where (is_port_named n.name.0) xs)
    cases true is more = cond-true (is_port_named n.name.0 x) (Some (completed by x)) (first_where (is_port_named n.name.0) xs) is
    cases false is more =
        cond-false (is_port_named n.name.0 x) (Some x) (first_where (is_port_named n.name.0) (put (net_signal None by range signed n k) xs)) is ∙ more

named_other : (p q : ℕ) (x : NamedSignal) → (p == q) ≡ false → is_port_named p x ≡ true → is_port_named q x ≡ false
named_other p q x apart is =
    and_right (is_port x) (x.name.name.0 == q)
    (ap (λ (m : ℕ). m == q) (eqb-true x.name.name.0 p (and_parts (is_port x) (x.name.name.0 == p) is).1) ∙ apart)

pub put_other : (by : PortNet) (range : Option BitRange) (signed : Bool) (n : Identifier) (k q : ℕ) (xs : List NamedSignal) → (n.name.0 == q) ≡ false
    → first_where (is_port_named q) (put (net_signal None by range signed n k) xs) ≡ first_where (is_port_named q) xs
put_other by range signed n k q [] apart = refl
put_other by range signed n k q (x ∷ xs) apart = cases (is_port_named n.name.0 x) refl (put_other by range signed n k q xs apart)
  where
    cases : (b : Bool) → is_port_named n.name.0 x ≡ b
        → first_where (is_port_named q) (put (net_signal None by range signed n k) xs) ≡ first_where (is_port_named q) xs
        → first_where (is_port_named q) (if b then completed by x ∷ xs else x ∷ put (net_signal None by range signed n k) xs)
        ≡ first_where (is_port_named q) (x ∷ xs)
    cases true is more =
        let none = named_other n.name.0 q x apart is in
        cond-false (is_port_named q x) (Some (completed by x)) (first_where (is_port_named q) xs) none
        ∙ sym (cond-false (is_port_named q x) (Some x) (first_where (is_port_named q) xs) none)
    cases false is more = ap (λ (o : Option NamedSignal). if is_port_named q x then Some x else o) more

-- within a block it is one more
pub put_within : (b : ℕ) (by : PortNet) (range : Option BitRange) (signed : Bool) (n : Identifier) (k q : ℕ) (xs : List NamedSignal)
    → first_where (is_port_named q) (put (net_signal (Some b) by range signed n k) xs) ≡ first_where (is_port_named q) xs
put_within b by range signed n k q [] = refl
put_within b by range signed n k q (x ∷ xs) =
    ap (λ (o : Option NamedSignal). if is_port_named q x then Some x else o) (put_within b by range signed n k q xs)

-- ---- inputs

-- what is no port is no input
abbrev pub InputsArePorts : List NamedSignal → Type 0
InputsArePorts [] = Unit {0}
InputsArePorts (x ∷ xs) = (is_port x ≡ false → is_input x.kind ≡ false) × InputsArePorts xs

pub net_no_input : (by : PortNet) → is_input (kind_of_net by) ≡ false
net_no_input net.Nothing = refl
net_no_input net.Wire = refl
net_no_input net.Reg = refl

pub completed_input : (by : PortNet) (k : SignalKind) → is_input (completed_kind by k) ≡ is_input k
completed_input by kind.Input = refl
completed_input by kind.Net = net_no_input by
completed_input by kind.Variable = net_no_input by

pub inputs_put : (here : Option ℕ) (by : PortNet) (range : Option BitRange) (signed : Bool) (n : Identifier) (k : ℕ) (xs : List NamedSignal)
    → InputsArePorts xs
    → InputsArePorts (put (net_signal here by range signed n k) xs)
inputs_put here by range signed n k [] so = ((λ none. net_no_input by), tt)
inputs_put here by range signed n k (x ∷ xs) so = cases (completes here n.name.0 x) (inputs_put here by range signed n k xs so.1)
  where
    cases : (b : Bool) → InputsArePorts (put (net_signal here by range signed n k) xs)
        → InputsArePorts (if b then completed by x ∷ xs else x ∷ put (net_signal here by range signed n k) xs)
    cases true rest = ((λ none. completed_input by x.kind ∙ so.0 none), so.1)
    cases false rest = (so.0, rest)

pub inputs_last : (xs : List NamedSignal) (x : NamedSignal) → InputsArePorts xs → is_port x ≡ true → InputsArePorts (xs ++ x ∷ [])
inputs_last [] x so is = ((λ none. absurd (true≢false (sym is ∙ none))), tt)
inputs_last (y ∷ ys) x so is = (so.0, inputs_last ys x so.1 is)
