-- The operators and the other signs (IEEE 1364-2005, clause 3.4 and annex A), by their lengths.
use Rattle.std.specs.Prelude.{ℕ, List, [], ◌∷◌, codes}
use Rattle.verilog_lex.specs.declared.kind.Kind.{Kind}
use Rattle.verilog_lex.specs.declared.kind.Kind.TheVariants as kind

unfoldable pub triples : List (List ℕ × Kind)
triples =
    (codes "<<<", kind.SignedShiftLeft) ∷
    (codes ">>>", kind.SignedShiftRight) ∷
    (codes "===", kind.CaseEqual) ∷
    (codes "!==", kind.CaseNotEqual) ∷
    []

unfoldable pub doubles : List (List ℕ × Kind)
doubles =
    (codes "+:", kind.PlusColon) ∷
    (codes "-:", kind.MinusColon) ∷
    (codes "<<", kind.ShiftLeft) ∷
    (codes ">>", kind.ShiftRight) ∷
    (codes "<=", kind.LessEqual) ∷
    (codes ">=", kind.GreaterEqual) ∷
    (codes "==", kind.EqualEqual) ∷
    (codes "!=", kind.NotEqual) ∷
    (codes "&&", kind.LogicalAnd) ∷
    (codes "||", kind.LogicalOr) ∷
    (codes "~&", kind.TildeAmpersand) ∷
    (codes "~|", kind.TildeBar) ∷
    (codes "~^", kind.TildeCaret) ∷
    (codes "^~", kind.CaretTilde) ∷
    (codes "**", kind.Power) ∷
    (codes "->", kind.Arrow) ∷
    []

unfoldable pub singles : List (List ℕ × Kind)
singles =
    (codes "(", kind.LeftParen) ∷
    (codes ")", kind.RightParen) ∷
    (codes "[", kind.LeftBracket) ∷
    (codes "]", kind.RightBracket) ∷
    (codes "{", kind.LeftBrace) ∷
    (codes "}", kind.RightBrace) ∷
    (codes ",", kind.Comma) ∷
    (codes ";", kind.Semicolon) ∷
    (codes ":", kind.Colon) ∷
    (codes ".", kind.Dot) ∷
    (codes "#", kind.Hash) ∷
    (codes "@", kind.AtSign) ∷
    (codes "=", kind.Equal) ∷
    (codes "?", kind.Question) ∷
    (codes "+", kind.Plus) ∷
    (codes "-", kind.Minus) ∷
    (codes "*", kind.Star) ∷
    (codes "/", kind.Slash) ∷
    (codes "%", kind.Percent) ∷
    (codes "&", kind.Ampersand) ∷
    (codes "|", kind.Bar) ∷
    (codes "^", kind.Caret) ∷
    (codes "~", kind.Tilde) ∷
    (codes "!", kind.Bang) ∷
    (codes "<", kind.Less) ∷
    (codes ">", kind.Greater) ∷
    []
