-- Constants, ports and names are told by what of them is written.
use Rattle.std.proofs.Common.{◌≡◌, ℕ, ◌≤◌, ◌<◌, ◌^◌, List, length}
use Rattle.std.proofs.Math.Bridge.{le_prop}
use Rattle.std.proofs.Math.Path.{PathP, to_path_p}
use Rattle.bits.specs.declared.Bits.{Bits}
use Rattle.ls_text.specs.Texts.{HasEachOnce, text_at}
use Rattle.ls_text.specs.declared.name_id.NameId.{NameId}
use Rattle.typed_ir.specs.declared.constant.Const.{Const}
use Rattle.typed_ir.specs.declared.port_shape.PortShape.{PortShape}
use Rattle.version_swap.specs.Told.{IsNamed}

bits_same : (a b : Bits) → a.width ≡ b.width → a.value ≡ b.value → a ≡ b
bits_same a b width value =
    let least : PathP (λ i. 1 ≤ width i) a.at_least_one b.at_least_one = to_path_p (λ i. 1 ≤ width i) (le_prop _ _) in
    let most : PathP (λ i. width i ≤ 128) a.at_most_128 b.at_most_128 = to_path_p (λ i. width i ≤ 128) (le_prop _ _) in
    let fits : PathP (λ i. value i < 2 ^ width i) a.fits b.fits = to_path_p (λ i. value i < 2 ^ width i) (le_prop _ _) in
    λ i. record { width = width i; value = value i; at_least_one = least i; at_most_128 = most i; fits = fits i }

pub constant_same : (a b : Const) → a.bits.width ≡ b.bits.width → a.bits.value ≡ b.bits.value → a.signed ≡ b.signed → a ≡ b
constant_same a b width value signed = λ i. record { bits = bits_same a.bits b.bits width value i; signed = signed i }

pub port_same : (p q : PortShape) → p.name ≡ q.name → p.input ≡ q.input → p.width ≡ q.width → p.signed ≡ q.signed → p ≡ q
port_same p q name input width signed =
    let least : PathP (λ i. 1 ≤ width i) p.at_least_one q.at_least_one = to_path_p (λ i. 1 ≤ width i) (le_prop _ _) in
    let most : PathP (λ i. width i ≤ 128) p.at_most_128 q.at_most_128 = to_path_p (λ i. width i ≤ 128) (le_prop _ _) in
    λ i. record { name = name i; input = input i; width = width i; signed = signed i; at_least_one = least i; at_most_128 = most i }

-- a number of the table is told by its text
pub id_same : (names : List (List ℕ)) (m n : NameId) → HasEachOnce names → m.0 < length names → n.0 < length names
    → text_at names m.0 ≡ text_at names n.0 → m ≡ n
id_same names m n once in_m in_n same =
    let number : m.0 ≡ n.0 = once m.0 n.0 in_m in_n same in
    λ i. record { 0 = number i }

pub name_same : (names : List (List ℕ)) (m n : NameId) → HasEachOnce names → IsNamed names m → IsNamed names n
    → text_at names m.0 ≡ text_at names n.0 → m ≡ n
name_same names m n once at_m at_n same = id_same names m n once at_m.within at_n.within same
