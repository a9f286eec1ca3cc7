-- How large the values are that words have.
use Rattle.std.proofs.Common.{ℕ, ◌^◌, ◌<◌, ltb, leb, ◌&&◌, List, length}
use Rattle.std.specs.Prelude.{IfSome}
use Rattle.std.proofs.lemmas.Bool.{ltb-true, and_parts}
use Rattle.std.specs.List.{list_all}
use Rattle.std.specs.Char.{is_digit}
use Rattle.std.specs.Str.Parse.{digits_value}
use Rattle.ls_text.specs.Options.{guard, ◌>>=◌}
use Rattle.ls_text.proofs.Options.{then_some, any_some, guarded}
use Rattle.command_read.specs.Values.{number_in, count_of, hex_of, parted_at, is_identifier, setting_of}

-- below 2^128
abbrev pub IsSmall : ℕ → Type 0
IsSmall n = n < 2 ^ 128

abbrev pub IsSmallPair : List ℕ × ℕ → Type 0
IsSmallPair v = v.1 < 2 ^ 128

number_small : (base : ℕ) (ds : List ℕ) → IfSome (number_in base ds) IsSmall
unfolding number_in
number_small base ds =
    guarded IsSmall (ltb 0 (length ds) && (list_all (λ c. is_digit c base) ds && ltb (digits_value base ds) (2 ^ 128))) (digits_value base ds)
    (λ h. let fits = ltb (digits_value base ds) (2 ^ 128) in
    let each = list_all (λ c. is_digit c base) ds in
    ltb-true _ _ (and_parts each fits (and_parts (ltb 0 (length ds)) (each && fits) h).1).1)

-- a number of cycles
pub count_small : (word : List ℕ) → IfSome (count_of word) (λ n. n < 2 ^ 64)
unfolding count_of
count_small word =
    any_some (λ n. n < 2 ^ 64) (number_in 10 word) (λ n. guard (leb (length word) 20 && ltb n (2 ^ 64)) n)
    (λ n. guarded (λ m. m < 2 ^ 64) (leb (length word) 20 && ltb n (2 ^ 64)) n (λ h. ltb-true _ _ (and_parts (leb (length word) 20) (ltb n (2 ^ 64)) h).1))

hex_small : (word : List ℕ) → IfSome (hex_of word) IsSmall
unfolding hex_of
hex_small word =
    then_some IsSmall IsSmall (number_in 16 word) (λ n. guard (leb (length word) 32) n) (number_small 16 word)
    (λ n small. guarded IsSmall (leb (length word) 32) n (λ h. small))

-- a value of a port
pub setting_small : (word : List ℕ) → IfSome (setting_of word) IsSmallPair
unfolding setting_of
setting_small word =
    any_some IsSmallPair (parted_at 61 word) (λ parts. hex_of parts.1 >>= λ value. guard (is_identifier parts.0) (parts.0, value))
    (λ parts. then_some IsSmall IsSmallPair (hex_of parts.1) (λ value. guard (is_identifier parts.0) (parts.0, value)) (hex_small parts.1)
    (λ value small. guarded IsSmallPair (is_identifier parts.0) (parts.0, value) (λ h. small)))
