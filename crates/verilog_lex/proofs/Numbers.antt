-- A value that has grown too large stays too large.
use Rattle.std.proofs.Common.{◌≡◌, ℕ, suc, ◌+◌, ◌*◌, ◌<◌, ◌≤◌, Bool, true, false, cond, ltb, eqb, List, [], ◌∷◌, length, drop, get_or, Option, Some, None, refl, sym, ap, ◌∙◌, arith, drop-cons}
use Rattle.std.proofs.lemmas.Bool.{lt-ltb, le-ltb}
use Rattle.std.proofs.Math.Nat.{mul-le-mul_left}
use Rattle.verilog_lex.specs.Numbers.{digit_of, more_value, value_from}
use Rattle.ls_text.specs.Options.{◌>>=◌, guard}

abbrev below : ℕ → Option ℕ → Option ℕ
below limit value = value >>= λ n. guard (ltb n limit) n

not_below : (limit n : ℕ) → limit ≤ n → below limit (Some n) ≡ None
not_below limit n h = ap (λ b. guard b n) (le-ltb n limit h)

grows : (n r d limit : ℕ) → 1 ≤ r → limit ≤ n → limit ≤ n * r + d
grows n r d limit some h =
    let times : n * 1 ≤ n * r = mul-le-mul_left n some in
    omega (arith, times)

too_large : (radix limit n : ℕ) (cs : List ℕ) → 1 ≤ radix → limit ≤ n → below limit (value_from radix n cs) ≡ None
too_large radix limit n [] some h = not_below limit n h
too_large radix limit n (c ∷ cs) some h =
    at_byte (eqb c 95) (digit_of c) (too_large radix limit n cs some h) (λ m more. too_large radix limit m cs some more)
  where
    at_digit : (b : Bool) (d : ℕ) → ((m : ℕ) → limit ≤ m → below limit (value_from radix m cs) ≡ None)
        → below limit (cond b (value_from radix (n * radix + d) cs) None) ≡ None
    at_digit true d next = next (n * radix + d) (grows n radix d limit some h)
    at_digit false d next = refl

    at_value : (o : Option ℕ) → ((m : ℕ) → limit ≤ m → below limit (value_from radix m cs) ≡ None)
        → below limit (more_value radix n o (λ m. value_from radix m cs)) ≡ None
    at_value None next = refl
    at_value (Some d) next = at_digit (ltb d radix) d next

    at_byte : (b : Bool) (o : Option ℕ) → below limit (value_from radix n cs) ≡ None
        → ((m : ℕ) → limit ≤ m → below limit (value_from radix m cs) ≡ None)
        → below limit (cond b (value_from radix n cs) (more_value radix n o (λ m. value_from radix m cs))) ≡ None
    at_byte true o same next = same
    at_byte false o same next = at_value o next

one_more : (radix n c d : ℕ) (cs : List ℕ) → eqb c 95 ≡ false → digit_of c ≡ Some d → d < radix
    → value_from radix n (c ∷ cs) ≡ value_from radix (n * radix + d) cs
one_more radix n c d cs byte digit within =
    ap (λ b. cond b (value_from radix n cs) (more_value radix n (digit_of c) (λ m. value_from radix m cs))) byte
    ∙ ap (λ o. more_value radix n o (λ m. value_from radix m cs)) digit
    ∙ ap (λ b. cond b (value_from radix (n * radix + d) cs) None) (lt-ltb d radix within)

-- the digits have no value below the limit, where those up to one have none
pub past : (radix limit n i d : ℕ) (ds : List ℕ) → 1 ≤ radix → i < length ds → eqb (get_or ds i 0) 95 ≡ false
    → digit_of (get_or ds i 0) ≡ Some d → d < radix → limit ≤ n * radix + d
    → value_from radix n (drop i ds) ≡ value_from radix 0 ds
    → (value_from radix 0 ds >>= λ m. guard (ltb m limit) m) ≡ None
past radix limit n i d ds some within byte digit less large same =
    ap (below limit) (sym same ∙ ap (value_from radix n) (drop-cons ds i 0 within) ∙ one_more radix n (get_or ds i 0) d (drop (suc i) ds) byte digit less)
    ∙ too_large radix limit (n * radix + d) (drop (suc i) ds) some large
