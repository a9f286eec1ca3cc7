-- Signals that have numbers are among those that were declared, and no two of them have one place in the order of the declarations.
use Rattle.std.proofs.Common.{◌≡◌, ℕ, suc, ◌<◌, ◌&&◌, ◌==◌, ◌⊎◌, inl, inr, Bool, true, false, cond, filter, List, [], ◌∷◌, ◌++◌, length, append-nil, refl, sym, ◌∙◌, ap, subst, arith, true≢false}
use Rattle.std.specs.Prelude.{Option, Some, None, is_some}
use Rattle.std.specs.Option.{option_map, option_to_list}
use Rattle.std.proofs.lemmas.Option.{none-some, same_Some}
use Rattle.std.proofs.lemmas.Bool.{both_ways, not-true}
use Rattle.typed_ir.specs.Orders.{Member}
use Rattle.typed_ir.proofs.Cases.{and_left}
use Rattle.typed_ir.proofs.Members.{member_filtered}
use Rattle.verilog_ast.specs.declared.identifier.Identifier.{Identifier}
use Rattle.gen_unroll.specs.Numbers.{first_where, place_where, is_own_named, number_of_name, with_header_port, ports_onto, is_no_port, numbered}
use Rattle.gen_unroll.specs.Signals.{NamedSignal, is_outermost, is_port, is_port_named}
use Rattle.gen_unroll.proofs.Orders.{AreInOrder, order_from, order_below, same_order}

-- no two have one place in the order of the declarations
abbrev pub HaveOwnOrders : List NamedSignal → Type 0
HaveOwnOrders [] = Unit {0}
HaveOwnOrders (x ∷ xs) = ((y : NamedSignal) → Member y xs → x.order ≡ y.order → ⊥) × HaveOwnOrders xs

-- ---- lists of signals

member_either : (xs ys : List NamedSignal) (y : NamedSignal) → Member y (xs ++ ys) → Member y xs ⊎ Member y ys
member_either [] ys y m = inr m
member_either (x ∷ xs) ys y (inl e) = inl (inl e)
member_either (x ∷ xs) ys y (inr m) = by (member_either xs ys y m)
  where
    by : Member y xs ⊎ Member y ys → Member y (x ∷ xs) ⊎ Member y ys
    by (inl h) = inl (inr h)
    by (inr h) = inr h

joined : (xs ys : List NamedSignal) → HaveOwnOrders xs → HaveOwnOrders ys → ((x y : NamedSignal) → Member x xs → Member y ys → x.order ≡ y.order → ⊥) → HaveOwnOrders (xs ++ ys)
joined [] ys own more apart = more
joined (x ∷ xs) ys own more apart =
    ((λ y m same. by y same (member_either xs ys y m)), joined xs ys own.1 more (λ z y m n. apart z y (inr m) n))
  where
    by : (y : NamedSignal) → x.order ≡ y.order → Member y xs ⊎ Member y ys → ⊥
    by y same (inl m) = own.0 y m same
    by y same (inr n) = apart x y (inl refl) n same

own_kept : (test : NamedSignal → Bool) (xs : List NamedSignal) → HaveOwnOrders xs → HaveOwnOrders (filter test xs)
own_kept test [] own = tt
own_kept test (x ∷ xs) own = by (test x) (own_kept test xs own.1)
  where
    by : (b : Bool) → HaveOwnOrders (filter test xs) → HaveOwnOrders (cond b (x ∷ filter test xs) (filter test xs))
    by true rest = ((λ y m. own.0 y (member_filtered test xs y m).0), rest)
    by false rest = rest

own_in_order : (k : ℕ) (xs : List NamedSignal) → AreInOrder k xs → HaveOwnOrders xs
own_in_order k [] so = tt
own_in_order k (x ∷ xs) so = ((λ y m same. apart y m same), own_in_order (suc k) xs so.1)
  where
    apart : (y : NamedSignal) → Member y xs → x.order ≡ y.order → ⊥
    apart y m same = let first = so.0 in let later = order_from (suc k) xs y so.1 m in absurd (omega (arith, first, later, same))

first_found : (test : NamedSignal → Bool) (xs : List NamedSignal) (y : NamedSignal) → first_where test xs ≡ Some y → Member y xs × (test y ≡ true)
first_found test [] y h = absurd (none-some y h)
first_found test (x ∷ xs) y h = by (test x) refl (first_found test xs y) h
  where
    later : Member y xs × (test y ≡ true) → Member y (x ∷ xs) × (test y ≡ true)
    later f = (inr f.0, f.1)

    by : (b : Bool) → test x ≡ b → (first_where test xs ≡ Some y → Member y xs × (test y ≡ true)) → cond b (Some x) (first_where test xs) ≡ Some y
        → Member y (x ∷ xs) × (test y ≡ true)
    by true is rest e = (inl (sym (same_Some x y e)), ap test (sym (same_Some x y e)) ∙ is)
    by false is rest e = later (rest e)

none_named : (test : NamedSignal → Bool) (xs : List NamedSignal) → place_where test xs ≡ None → (y : NamedSignal) → Member y xs → test y ≡ false
none_named test [] none y m = absurd m
none_named test (x ∷ xs) none y m = by (test x) refl none (λ h. none_named test xs h y) m
  where
    none_left : (p : Option ℕ) → option_map suc p ≡ None → p ≡ None
    none_left None e = refl
    none_left (Some j) e = absurd (none-some (suc j) (sym e))

    by : (b : Bool) → test x ≡ b → cond b (Some 0) (option_map suc (place_where test xs)) ≡ None → (place_where test xs ≡ None → Member y xs → test y ≡ false)
        → Member y (x ∷ xs) → test y ≡ false
    by true is e rest m = absurd (none-some 0 (sym e))
    by false is e rest (inl same) = ap test same ∙ is
    by false is e rest (inr m) = rest (none_left (place_where test xs) e) m

-- ---- the ports of a header

record ArePorts (xs out : List NamedSignal) : Type 0 where
  there : (y : NamedSignal) → Member y out → Member y xs
  ports : (y : NamedSignal) → Member y out → is_port y ≡ true
  own : HaveOwnOrders out

own_port : (a b c : Bool) → ((a && b) && c) ≡ true → (b && c) ≡ true
own_port true b c h = h
own_port false b c h = absurd (true≢false (sym h))

one_port : (xs out : List NamedSignal) (q : ℕ) (x : NamedSignal) → AreInOrder 0 xs → ArePorts xs out → ((y : NamedSignal) → Member y out → is_own_named q y ≡ false)
    → Member x xs → is_port_named q x ≡ true → ArePorts xs (out ++ x ∷ [])
one_port xs out q x so before none m port = record {
  there = λ y h. there y (member_either out (x ∷ []) y h);
  ports = λ y h. ports y (member_either out (x ∷ []) y h);
  own = joined out (x ∷ []) before.own ((λ y h. absurd h), tt) apart;
}
  where
    there : (y : NamedSignal) → Member y out ⊎ Member y (x ∷ []) → Member y xs
    there y (inl h) = before.there y h
    there y (inr (inl e)) = subst (λ (z : NamedSignal). Member z xs) (sym e) m
    there y (inr (inr h)) = absurd h

    ports : (y : NamedSignal) → Member y out ⊎ Member y (x ∷ []) → is_port y ≡ true
    ports y (inl h) = before.ports y h
    ports y (inr (inl e)) = ap is_port e ∙ and_left (is_port x) (x.name.name.0 == q) port
    ports y (inr (inr h)) = absurd h

    apart : (y z : NamedSignal) → Member y out → Member z (x ∷ []) → y.order ≡ z.order → ⊥
    apart y z h (inl e) same =
        let one = same_order 0 xs y x so (before.there y h) m (same ∙ ap (λ (u : NamedSignal). u.order) e) in
        true≢false (sym (own_port x.port (is_outermost x.block) (x.name.name.0 == q) port) ∙ ap (is_own_named q) (sym one) ∙ none y h)
    apart y z h (inr e) same = e

port_if_any : (xs out : List NamedSignal) (q : ℕ) → AreInOrder 0 xs → ArePorts xs out → number_of_name q out ≡ None → (o : Option NamedSignal)
    → first_where (is_port_named q) xs ≡ o → ArePorts xs (out ++ option_to_list o)
port_if_any xs out q so before none None is = subst (ArePorts xs) (sym (append-nil out)) before
port_if_any xs out q so before none (Some x) is =
    let found = first_found (is_port_named q) xs x is in
    one_port xs out q x so before (none_named (is_own_named q) out none) found.0 found.1

header_port_more : (xs out : List NamedSignal) (n : Identifier) → AreInOrder 0 xs → ArePorts xs out → ArePorts xs (with_header_port xs n out)
header_port_more xs out n so before = by (number_of_name n.name.0 out) refl
  where
    by : (p : Option ℕ) → number_of_name n.name.0 out ≡ p → ArePorts xs (cond (is_some p) out (out ++ option_to_list (first_where (is_port_named n.name.0) xs)))
    by None none = port_if_any xs out n.name.0 so before none (first_where (is_port_named n.name.0) xs) refl
    by (Some k) is = before

header_ports_more : (ns : List Identifier) (xs out : List NamedSignal) → AreInOrder 0 xs → ArePorts xs out → ArePorts xs (ports_onto ns xs out)
header_ports_more [] xs out so before = before
header_ports_more (n ∷ ns) xs out so before = header_ports_more ns xs (with_header_port xs n out) so (header_port_more xs out n so before)

-- ---- all that have numbers

pub record AreOwn (count : ℕ) (xs : List NamedSignal) : Type 0 where
  pub below : (y : NamedSignal) → Member y xs → y.order < count
  pub own : HaveOwnOrders xs

pub numbered_own : (header : List Identifier) (xs : List NamedSignal) → AreInOrder 0 xs → AreOwn (length xs) (numbered header xs)
numbered_own header xs so = record {
  below = λ y m. below y (member_either (ports_onto header xs []) (filter is_no_port xs) y m);
  own = joined (ports_onto header xs []) (filter is_no_port xs) first.own (own_kept is_no_port xs (own_in_order 0 xs so)) apart;
}
  where
    first : ArePorts xs (ports_onto header xs [])
    first = header_ports_more header xs [] so (record { there = λ y m. absurd m; ports = λ y m. absurd m; own = tt })

    placed : (y : NamedSignal) → Member y xs → y.order < length xs
    placed y m = let few = order_below 0 xs y so m in omega (arith, few)

    below : (y : NamedSignal) → Member y (ports_onto header xs []) ⊎ Member y (filter is_no_port xs) → y.order < length xs
    below y (inl m) = placed y (first.there y m)
    below y (inr m) = placed y (member_filtered is_no_port xs y m).0

    apart : (y z : NamedSignal) → Member y (ports_onto header xs []) → Member z (filter is_no_port xs) → y.order ≡ z.order → ⊥
    apart y z m n same =
        let kept = member_filtered is_no_port xs z n in
        let one = same_order 0 xs y z so (first.there y m) kept.0 same in
        both_ways (is_port z) (not-true (is_port z) kept.1) (ap is_port (sym one) ∙ first.ports y m)
