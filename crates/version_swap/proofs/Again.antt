-- A parameter that is overridden with the value that it has keeps this value.
use Rattle.std.proofs.Common.{◌≡◌, ◌<◌, ◌≤◌, ℕ, ◌^◌, Bool, if◌then◌else◌, Some, None, Option, sym, ◌∙◌, ap, arith}
use Rattle.std.specs.Prelude.{pos}
use Rattle.std.proofs.Math.Bool.{or_self_left}
use Rattle.bits.specs.Values.{signed_of, resized}
use Rattle.bits.proofs.Modulo.{small}
use Rattle.bits.proofs.Signs.{cut_reading}
use Rattle.bits.proofs.Runs.{wrapped_below}
use Rattle.gen_unroll.specs.Declarations.{ParameterType, made, as_declared}
use Rattle.gen_unroll.specs.Values.{ConstantValue}

-- a value that fits its width keeps it, whatever its sign
resized_stays : (width value : ℕ) (signed : Bool) → value < 2 ^ width → resized width value width signed ≡ value
resized_stays width value signed h =
    let same : width ≤ width = omega arith in
    sym (cut_reading width value width signed h (λ _ _. same)) ∙ small value width h

made_again : (width : Option ℕ) (signed : Bool) (v : ConstantValue) → made width signed (made width signed v) ≡ made width signed v
made_again (Some width) signed v =
    ap (λ (n : ℕ). record { width = width; value = n; signed = signed })
    (resized_stays width (resized v.width v.value width v.signed) signed
    (wrapped_below width (if v.signed then signed_of v.width v.value else pos v.value)))
made_again None signed v = ap (λ (b : Bool). record { width = v.width; value = v.value; signed = b }) (or_self_left signed v.signed)

-- a value that a declaration gave is given again
pub declared_again : (t : ParameterType) (v : ConstantValue) → as_declared t (as_declared t v) ≡ as_declared t v
declared_again t v = made_again t.width t.signed v
