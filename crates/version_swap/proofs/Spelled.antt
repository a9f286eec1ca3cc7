-- A spelling has no line end, where the texts of its tokens have none.
use Rattle.std.proofs.Common.{◌≡◌, ℕ, zero, suc, ◌<◌, ◌^◌, ◌==◌, Bool, true, false, not, if◌then◌else◌, List, [], ◌∷◌, ◌++◌, All, codes, decimal, refl, arith}
use Rattle.std.proofs.lemmas.Bool.{and_from}
use Rattle.std.proofs.lemmas.List.Elements.{All-head, All-tail}
use Rattle.std.specs.Int.{bit_at}
use Rattle.verilog_lex.specs.declared.token.Token.{Token}
use Rattle.verilog_lex.specs.declared.literal.Literal.{Literal}
use Rattle.verilog_lex.specs.declared.kind.Kind.{Kind}
use Rattle.verilog_lex.specs.declared.kind.Kind.TheVariants as k
use Rattle.verilog_spelling.specs.Spellings.{size_text, number_text, binary_digits, pattern_text, text_of_kind, token_text, spaced, spelling, hex_text}
use Rattle.version_swap.specs.Told.{lacks, IsTokenTold}
use Rattle.version_swap.proofs.Lacking.{lacks_both, decimal_lacks, hex_lacks}

choice_lacks : (b : Bool) (xs ys : List ℕ) → lacks 10 xs ≡ true → lacks 10 ys ≡ true → lacks 10 (if b then xs else ys) ≡ true
choice_lacks true xs ys h k = h
choice_lacks false xs ys h k = k

size_lacks : (size : ℕ) → size < 2 ^ 64 → lacks 10 (size_text size) ≡ true
size_lacks size few = choice_lacks (size == 0) [] (decimal size) refl (decimal_lacks 10 size (omega arith) few)

number_lacks : (l : Literal) → l.size < 2 ^ 64 → lacks 10 (number_text l) ≡ true
number_lacks l few =
    lacks_both 10 (size_text l.size ++ (if l.signed then codes "'sh" else codes "'h")) (hex_text l.value)
    (lacks_both 10 (size_text l.size) (if l.signed then codes "'sh" else codes "'h") (size_lacks l.size few)
    (choice_lacks l.signed (codes "'sh") (codes "'h") refl refl))
    (hex_lacks l.value)

digit_lacks : (masked set : Bool) → not ((if masked then 63 else (if set then 49 else 48)) == 10) ≡ true
digit_lacks true set = refl
digit_lacks false true = refl
digit_lacks false false = refl

binary_lacks : (n value mask : ℕ) → lacks 10 (binary_digits n value mask) ≡ true
binary_lacks zero value mask = refl
binary_lacks (suc n) value mask = and_from _ _ (digit_lacks (bit_at mask n == 1) (bit_at value n == 1)) (binary_lacks n value mask)

pattern_lacks : (l : Literal) → l.size < 2 ^ 64 → lacks 10 (pattern_text l) ≡ true
pattern_lacks l few =
    lacks_both 10 (size_text l.size ++ codes "'b") (binary_digits l.size l.value l.mask)
    (lacks_both 10 (size_text l.size) (codes "'b") (size_lacks l.size few) refl) (binary_lacks l.size l.value l.mask)

kind_lacks : (kind : Kind) (names : List (List ℕ)) (t : Token) → IsTokenTold names t → lacks 10 (text_of_kind kind names t) ≡ true
kind_lacks k.Number names t told = number_lacks t.literal told.size
kind_lacks k.Wild names t told = pattern_lacks t.literal told.size
kind_lacks _ names t told = told.text

token_lacks : (names : List (List ℕ)) (t : Token) → IsTokenTold names t → lacks 10 (token_text names t) ≡ true
token_lacks names t told = kind_lacks t.kind names t told

spaced_lacks : (names : List (List ℕ)) (ts : List Token) → All (IsTokenTold names) ts → lacks 10 (spaced names ts) ≡ true
spaced_lacks names [] told = refl
spaced_lacks names (t ∷ ts) told =
    lacks_both 10 (32 ∷ token_text names t) (spaced names ts) (token_lacks names t (All-head (IsTokenTold names) t ts told))
    (spaced_lacks names ts (All-tail (IsTokenTold names) t ts told))

pub spelling_lacks : (names : List (List ℕ)) (ts : List Token) → All (IsTokenTold names) ts → lacks 10 (spelling names ts) ≡ true
spelling_lacks names [] told = refl
spelling_lacks names (t ∷ ts) told =
    lacks_both 10 (token_text names t) (spaced names ts) (token_lacks names t (All-head (IsTokenTold names) t ts told))
    (spaced_lacks names ts (All-tail (IsTokenTold names) t ts told))
