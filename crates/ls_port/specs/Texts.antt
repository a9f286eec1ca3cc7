-- What a read of a name gives of named texts.
use Rattle.std.specs.Prelude.{ℕ, List, take, Option}
use Rattle.std.specs.List.{find}
use Rattle.std.specs.Option.{option_map}
use Rattle.std.specs.Str.{bytes_eq}
use Rattle.ls_port.specs.declared.named_text.NamedText.{NamedText}

-- as much of a text as a read gives
unfoldable pub cut : List ℕ → List ℕ
cut text = take 4194305 text

-- the first text of this name
abbrev pub text_named : List ℕ → List NamedText → Option (List ℕ)
text_named name texts = option_map (λ t. t.text) (find (λ t. bytes_eq t.name name) texts)

-- what a read of this name gives of these texts
unfoldable pub given_of : List ℕ → List NamedText → Option (List ℕ)
given_of name texts = option_map cut (text_named name texts)
