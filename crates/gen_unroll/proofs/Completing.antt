-- A port that is completed in its place.
use Rattle.std.proofs.Common.{◌≡◌, ℕ, ◌<◌, List, length, get_or, set, map, sym, ◌∙◌, ap, arith}
use Rattle.std.specs.Prelude.{Some}
use Rattle.std.proofs.lemmas.List.{map-set, length-map, get_or-map}
use Rattle.verilog_ast.specs.declared.port_net.PortNet.{PortNet}
use Rattle.gen_unroll.specs.declared.named_signal.NamedSignal.{NamedSignal as Named}
use Rattle.gen_unroll.specs.Numbers.{place_where, first_where}
use Rattle.gen_unroll.specs.Signals.{NamedSignal, is_port_named, completes, completed, put}
use Rattle.gen_unroll.specs.SignalViews.{signal_of}
use Rattle.gen_unroll.proofs.Searching.{place_within, place_kept, put_there, first_there}

-- the port of the code and that of the definition
same_port : (xs : List Named) (k : ℕ) (x y : Named) (by : PortNet) → k < length (map signal_of xs) → x ≡ get_or xs k x → signal_of y ≡ completed by (signal_of x)
    → signal_of y ≡ completed by (get_or (map signal_of xs) k (signal_of x))
same_port xs k x y by h is new =
    let same = length-map xs signal_of in
    new ∙ ap (λ (z : Named). completed by (signal_of z)) is
    ∙ sym (ap (completed by) (get_or-map signal_of xs k x (signal_of x) (omega (arith, h, same))))

pub completed_there : (xs : List Named) (k : ℕ) (x y : Named) (by : PortNet) (n : NamedSignal) → place_where (completes n.block n.name.name.0) (map signal_of xs) ≡ Some k
    → x ≡ get_or xs k x → signal_of y ≡ completed by (signal_of x) → by ≡ n.net → map signal_of (set xs k y) ≡ put n (map signal_of xs)
completed_there xs k x y by n there is new word =
    map-set signal_of xs k y
    ∙ ap (set (map signal_of xs) k) (same_port xs k x y by (place_within (completes n.block n.name.name.0) (map signal_of xs) k there) is new
    ∙ ap (λ (w : PortNet). completed w (get_or (map signal_of xs) k (signal_of x))) word)
    ∙ sym (put_there n (map signal_of xs) k (signal_of x) there)

-- its name finds it as before
pub completed_kept : (xs : List Named) (k : ℕ) (x y : Named) (by : PortNet) (q : ℕ) → k < length (map signal_of xs) → x ≡ get_or xs k x → signal_of y ≡ completed by (signal_of x)
    → place_where (is_port_named q) (map signal_of (set xs k y)) ≡ place_where (is_port_named q) (map signal_of xs)
completed_kept xs k x y by q h is new =
    ap (place_where (is_port_named q)) (map-set signal_of xs k y)
    ∙ place_kept (is_port_named q) (map signal_of xs) k (signal_of y) (signal_of x) (ap (is_port_named q) (same_port xs k x y by h is new))

-- the port of a name, where it stands
pub port_there : (xs : List Named) (k : ℕ) (x : Named) (q : ℕ) → place_where (is_port_named q) (map signal_of xs) ≡ Some k → x ≡ get_or xs k x
    → first_where (is_port_named q) (map signal_of xs) ≡ Some (signal_of x)
port_there xs k x q there is =
    let below = place_within (is_port_named q) (map signal_of xs) k there in
    let same = length-map xs signal_of in
    first_there (is_port_named q) (map signal_of xs) k (signal_of x) there
    ∙ ap Some (get_or-map signal_of xs k x (signal_of x) (omega (arith, below, same)) ∙ ap signal_of (sym is))
