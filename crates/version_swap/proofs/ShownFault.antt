-- What a fault of the grammar shows depends on what the tokens say alone.
use Rattle.std.proofs.Common.{◌≡◌, ◌∙◌, ℕ, ◌-◌, List, [], ◌∷◌, map, length, Option, Some, None, slice_get, refl, sym, ap, ap₂}
use Rattle.std.specs.Option.{option_map}
use Rattle.std.proofs.lemmas.List.{length-map}
use Rattle.std.proofs.lemmas.Option.{slice_get-map}
use Rattle.ls_text.specs.Texts.{text_at}
use Rattle.ls_text.specs.declared.place.Place.{Place}
use Rattle.ls_text.specs.declared.at.At.{At}
use Rattle.ls_text.specs.declared.at.At.TheVariants.{Text}
use Rattle.ls_text.specs.declared.name_id.NameId.{NameId}
use Rattle.ls_text.specs.declared.fault.Fault.{Fault}
use Rattle.ls_text.specs.Readings.{TextFault, fault_view}
use Rattle.verilog_lex.specs.declared.token.Token.{Token}
use Rattle.verilog_lex.specs.Tokens.{Said}
use Rattle.verilog_lex.specs.Views.{said}
use Rattle.verilog_expr.specs.declared.fault.ParseFault.{ParseFault}
use Rattle.verilog_expr.specs.declared.fault.ParseFault.TheVariants.{Stuck, Heavy}
use Rattle.verilog_expr.specs.Shown.{code_of, left_at, token_at, place_of, names_of, IsShownAs}
use Rattle.verilog_ast.proofs.Equal.{ap₃}

-- ---- by what the tokens say

-- what is said where so many tokens are left
abbrev said_at : List Said → ℕ → Option Said
said_at ws n = slice_get ws (length ws - n)

abbrev said_place : Option Said → Place
said_place None = record { file = 0; line = 1; col = 1 }
said_place (Some w) = w.at

abbrev said_words : ParseFault → Option Said → List (List ℕ)
said_words (Stuck stop n) None = []
said_words (Stuck stop n) (Some w) = w.text ∷ []
said_words (Heavy n) w = []

-- what a fault shows, where this is said at its token
abbrev told : ParseFault → Option Said → TextFault
told f w = record { code = code_of f; at = Text (said_place w); words = said_words f w }

-- ---- by the tokens

same_said : (names : List (List ℕ)) (s : List Token) (n : ℕ) → option_map (said names) (token_at s n) ≡ said_at (map (said names) s) n
same_said names s n =
    sym (slice_get-map (said names) s (length s - n))
    ∙ ap (λ (l : ℕ). slice_get (map (said names) s) (l - n)) (sym (length-map s (said names)))

-- the view of a fault with this code, place and names
abbrev view_of : List (List ℕ) → ℕ → At → List NameId → TextFault
view_of names code at ids = record { code = code; at = at; words = map (λ (id : NameId). text_at names id.0) ids }

view_told : (names : List (List ℕ)) (f : ParseFault) (t : Option Token)
    → view_of names (code_of f) (Text (place_of t)) (names_of f t) ≡ told f (option_map (said names) t)
view_told names (Stuck stop n) None = refl
view_told names (Stuck stop n) (Some t) = refl
view_told names (Heavy n) None = refl
view_told names (Heavy n) (Some t) = refl

shown_told : (names : List (List ℕ)) (s : List Token) (f : ParseFault) (x : Fault) → IsShownAs s f x
    → fault_view names x ≡ told f (said_at (map (said names) s) (left_at f))
shown_told names s f x h =
    ap₃ (view_of names) h.code h.at h.names
    ∙ view_told names f (token_at s (left_at f))
    ∙ ap (told f) (same_said names s (left_at f))

-- one fault of tokens that say the same shows the same
pub same_view : (names other : List (List ℕ)) (s q : List Token) (f g : ParseFault) (x y : Fault) → map (said names) s ≡ map (said other) q
    → f ≡ g → IsShownAs s f x → IsShownAs q g y → fault_view names x ≡ fault_view other y
same_view names other s q f g x y same one h d =
    shown_told names s f x h
    ∙ ap₂ (λ (w : List Said) (e : ParseFault). told e (said_at w (left_at e))) same one
    ∙ sym (shown_told other q g y d)
