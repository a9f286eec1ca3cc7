-- A token under another name.
use Rattle.std.specs.Prelude.{List, map}
use Rattle.ls_text.specs.declared.name_id.NameId.{NameId}
use Rattle.verilog_lex.specs.declared.token.Token.{Token}

-- its name's number becomes what the function tells, and all else stays
abbrev pub retoken : (NameId → NameId) → Token → Token
retoken f t = record { kind = t.kind; at = t.at; text = f t.text; literal = t.literal }

abbrev pub retokens : (NameId → NameId) → List Token → List Token
retokens f s = map (retoken f) s
