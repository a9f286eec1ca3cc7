-- The ports that a table of declarations has are those among the signals, with the same direction, range and sign.
use Rattle.std.proofs.Common.{◌≡◌, ℕ, ◌==◌, Bool, true, false, List, length, Ok, refl, sym, ◌∙◌, ap, subst}
use Rattle.std.specs.Prelude.{Option, Some, None}
use Rattle.std.specs.Option.{option_map}
use Rattle.std.proofs.lemmas.Bool.{eqb-true, eq-eqb}
use Rattle.std.proofs.lemmas.Option.{none-some}
use Rattle.typed_ir.proofs.Cases.{turned}
use Rattle.verilog_ast.specs.declared.identifier.Identifier.{Identifier}
use Rattle.verilog_ast.specs.declared.port_net.PortNet.{PortNet}
use Rattle.verilog_ast.specs.declared.port_net.PortNet.TheVariants as net
use Rattle.verilog_ast.specs.Expressions.{Expression}
use Rattle.typed_ir.specs.declared.signal_kind.SignalKind.{SignalKind}
use Rattle.gen_unroll.specs.Declarations.{BitRange}
use Rattle.elaborate.specs.declared.declaration_kind.DeclarationKind.{DeclarationKind}
use Rattle.elaborate.specs.declared.declaration_kind.DeclarationKind.TheVariants as kind
use Rattle.elaborate.specs.Checks.{declaration}
use Rattle.elaborate.specs.Tables.{NameIn, Declaration, Table, declared_as, with_declaration, name_in, declare, declare_net, is_input, is_port}
use Rattle.elaborate.specs.Tables.{completed_kind, kind_of_net}
use Rattle.gen_unroll.specs.Numbers.{first_where}
use Rattle.gen_unroll.specs.Signals as signals
use Rattle.gen_unroll.specs.Signals.{NamedSignal, is_port_named, with_port, with_net, completed, put}
use Rattle.gen_unroll.specs.UnitLists as lists
use Rattle.gen_unroll.proofs.Signals.{port_signal}
use Rattle.version_swap.proofs.DeclaredJobs.{IsOver, declared_same, declared_other, declared_once, net_declared}
use Rattle.version_swap.proofs.PortedJobs.{first_kept, first_new, put_same, put_other, put_within, completed_input}

-- a port's declaration and a signal's kind, range and sign
pub record IsSame (d : Declaration) (k : SignalKind) (range : Option BitRange) (signed : Bool) : Type 0 where
  pub port : is_port d.kind ≡ true
  pub input : lists.is_input k ≡ is_input d.kind
  pub range_so : range ≡ d.range
  pub signed_so : signed ≡ d.signed

-- a name is a port in both or in neither
abbrev pub Agree : Option Declaration → Option NamedSignal → Type 0
Agree None None = Unit {0}
Agree None (Some x) = ⊥
Agree (Some d) None = is_port d.kind ≡ false
Agree (Some d) (Some x) = IsSame d x.kind x.range x.signed

-- a name of the module itself
abbrev pub own : ℕ → NameIn
own q = record { block = None; name = q }

abbrev pub Agrees : Table → List NamedSignal → Type 0
Agrees t xs = (q : ℕ) → Agree (declared_as (own q) t) (first_where (is_port_named q) xs)

-- ---- one declaration more

moved : (o p : Option Declaration) (x y : Option NamedSignal) → o ≡ p → x ≡ y → Agree p y → Agree o x
moved o p x y a b h = subst (λ (r : Option Declaration). Agree r x) (sym a) (subst (λ (z : Option NamedSignal). Agree p z) (sym b) h)

no_port : (o : Option Declaration) (x : Option NamedSignal) → Agree o x → o ≡ None → x ≡ None
no_port None None h none = refl
no_port None (Some x) h none = absurd h
no_port (Some d) x h none = absurd (none-some d (sym none))

-- by cases of a name: that which is declared, or another one
by_name : {P : ℕ → Type 0} (p : ℕ) → P p → ((q : ℕ) → (q == p) ≡ false → P q) → (q : ℕ) → P q
by_name {P} p here there q = cases (q == p) refl
  where
    cases : (b : Bool) → (q == p) ≡ b → P q
    cases true is = subst P (sym (eqb-true q p is)) here
    cases false is = there q is

now : (n : Identifier) (d : Declaration) (t u : Table) → u ≡ with_declaration (name_in None n) d t → declared_as (own n.name.0) u ≡ Some d
now n d t u after = ap (declared_as (own n.name.0)) after ∙ declared_same (name_in None n) d t

as_before : (here : Option ℕ) (n : Identifier) (d : Declaration) (q : ℕ) (t u : Table) → (q == n.name.0) ≡ false
    → u ≡ with_declaration (name_in here n) d t
    → declared_as (own q) u ≡ declared_as (own q) t
as_before None n d q t u apart after = ap (declared_as (own q)) after ∙ declared_other (own q) (name_in None n) d t apart
as_before (Some b) n d q t u apart after = ap (declared_as (own q)) after ∙ declared_other (own q) (name_in (Some b) n) d t refl

within : (b : ℕ) (n : Identifier) (d : Declaration) (q : ℕ) (t u : Table) → u ≡ with_declaration (name_in (Some b) n) d t
    → declared_as (own q) u ≡ declared_as (own q) t
within b n d q t u after = ap (declared_as (own q)) after ∙ declared_other (own q) (name_in (Some b) n) d t refl

-- ---- what is no port

pub other_agrees : (here : Option ℕ) (n : Identifier) (d : Declaration) (t u : Table) (xs : List NamedSignal) → Agrees t xs → is_port d.kind ≡ false
    → declare here n d t ≡ Ok u → Agrees u xs
other_agrees None n d t u xs so none h =
    let is = declared_once None n d t u h in
    by_name n.name.0
    (moved (declared_as (own n.name.0) u) (Some d) (first_where (is_port_named n.name.0) xs) None (now n d t u is.after)
    (no_port (declared_as (own n.name.0) t) (first_where (is_port_named n.name.0) xs) (so n.name.0) is.fresh) none)
    (λ q apart. moved (declared_as (own q) u) (declared_as (own q) t) (first_where (is_port_named q) xs) (first_where (is_port_named q) xs)
    (as_before None n d q t u apart is.after) refl (so q))
other_agrees (Some b) n d t u xs so none h = λ q.
    moved (declared_as (own q) u) (declared_as (own q) t) (first_where (is_port_named q) xs) (first_where (is_port_named q) xs)
    (within b n d q t u (declared_once (Some b) n d t u h).after) refl (so q)

-- ---- a port of the module itself

pub port_agrees : (n : Identifier) (d : Declaration) (k : SignalKind) (by : PortNet) (range : Option BitRange) (signed : Bool) (t u : Table)
    (xs : List NamedSignal)
    → Agrees t xs → IsSame d k range signed → declare None n d t ≡ Ok u → Agrees u (with_port None k by range signed n xs)
port_agrees n d k by range signed t u xs so same h =
    let is = declared_once None n d t u h in
    by_name n.name.0
    (moved (declared_as (own n.name.0) u) (Some d) (first_where (is_port_named n.name.0) (with_port None k by range signed n xs)) (Some new)
    (now n d t u is.after)
    (first_new (is_port_named n.name.0) xs new
    (no_port (declared_as (own n.name.0) t) (first_where (is_port_named n.name.0) xs) (so n.name.0) is.fresh) (eq-eqb n.name.0 n.name.0 refl)) same)
    (λ q apart. moved (declared_as (own q) u) (declared_as (own q) t) (first_where (is_port_named q) (with_port None k by range signed n xs))
    (first_where (is_port_named q) xs)
    (as_before None n d q t u apart is.after) (first_kept (is_port_named q) xs new (turned n.name.0 q ∙ apart)) (so q))
  where
    new : NamedSignal
    new = port_signal None k by range signed n (length xs)

-- ---- a net or variable

net_no_port : (by : PortNet) → is_port (kind_of_net by) ≡ false
net_no_port net.Nothing = refl
net_no_port net.Wire = refl
net_no_port net.Reg = refl

completed_port : (k : DeclarationKind) (by : PortNet) → is_port (completed_kind k by) ≡ is_port k
completed_port (kind.Input x) by = refl
completed_port (kind.Output x) by = refl
completed_port kind.Wire by = refl
completed_port kind.Reg by = refl
completed_port kind.Genvar by = refl
completed_port (kind.Parameter s) by = refl
completed_port kind.Instance by = refl
completed_port kind.Label by = refl

completed_direction : (k : DeclarationKind) (by : PortNet) → is_input (completed_kind k by) ≡ is_input k
completed_direction (kind.Input x) by = refl
completed_direction (kind.Output x) by = refl
completed_direction kind.Wire by = refl
completed_direction kind.Reg by = refl
completed_direction kind.Genvar by = refl
completed_direction (kind.Parameter s) by = refl
completed_direction kind.Instance by = refl
completed_direction kind.Label by = refl

abbrev completes_to : Declaration → PortNet → Declaration
completes_to port by = record port { kind = completed_kind port.kind by }

still_same : (by : PortNet) (port : Declaration) (x : NamedSignal) → IsSame port x.kind x.range x.signed
    → IsSame (completes_to port by) (signals.completed_kind by x.kind) x.range x.signed
still_same by port x same = record {
  port = completed_port port.kind by ∙ same.port;
  input = completed_input by x.kind ∙ same.input ∙ sym (completed_direction port.kind by);
  range_so = same.range_so;
  signed_so = same.signed_so;
}

over_agrees : (o : Option Declaration) (x : Option NamedSignal) (by : PortNet) (range : Option BitRange) (signed : Bool) (n : Identifier)
    (put : Declaration)
    → Agree o x → IsOver o by (declaration (kind_of_net by) range signed n) put → Agree (Some put) (option_map (completed by) x)
over_agrees None None by range signed n put h over = ap (λ (d : Declaration). is_port d.kind) over ∙ net_no_port by
over_agrees None (Some x) by range signed n put h over = absurd h
over_agrees (Some port) None by range signed n put h over = ap (λ (d : Declaration). is_port d.kind) over ∙ completed_port port.kind by ∙ h
over_agrees (Some port) (Some x) by range signed n put h over =
    subst (λ (d : Declaration). IsSame d (signals.completed_kind by x.kind) x.range x.signed) (sym over) (still_same by port x h)

pub net_agrees : (here : Option ℕ) (n : Identifier) (by : PortNet) (range : Option BitRange) (signed : Bool) (value : Option Expression) (t u : Table)
    (xs : List NamedSignal)
    → Agrees t xs → declare_net here n by (declaration (kind_of_net by) range signed n) value t ≡ Ok u → Agrees u (with_net here by range signed n xs)
net_agrees None n by range signed value t u xs so h =
    let is = net_declared None n by (declaration (kind_of_net by) range signed n) value t u h in
    by_name n.name.0
    (moved (declared_as (own n.name.0) u) (Some is.put) (first_where (is_port_named n.name.0) (with_net None by range signed n xs))
    (option_map (completed by) (first_where (is_port_named n.name.0) xs)) (now n is.put t u is.after) (put_same by range signed n (length xs) xs)
    (over_agrees (declared_as (own n.name.0) t) (first_where (is_port_named n.name.0) xs) by range signed n is.put (so n.name.0) is.over))
    (λ q apart. moved (declared_as (own q) u) (declared_as (own q) t) (first_where (is_port_named q) (with_net None by range signed n xs))
    (first_where (is_port_named q) xs)
    (as_before None n is.put q t u apart is.after) (put_other by range signed n (length xs) q xs (turned n.name.0 q ∙ apart)) (so q))
net_agrees (Some b) n by range signed value t u xs so h = λ q.
    moved (declared_as (own q) u) (declared_as (own q) t) (first_where (is_port_named q) (with_net (Some b) by range signed n xs))
    (first_where (is_port_named q) xs)
    (within b n (net_declared (Some b) n by (declaration (kind_of_net by) range signed n) value t u h).put q t u
    (net_declared (Some b) n by (declaration (kind_of_net by) range signed n) value t u h).after)
    (put_within b by range signed n (length xs) q xs) (so q)
