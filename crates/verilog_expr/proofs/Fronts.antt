-- What an expression stands for is a front of its tokens.
use Rattle.std.proofs.Common.{◌≡◌, ◌∙◌, List, [], ◌∷◌, ◌++◌, refl, sym, ap, append_assoc}
use Rattle.verilog_lex.specs.declared.token.Token.{Token}
use Rattle.verilog_lex.specs.declared.kind.Kind.{Kind}
use Rattle.verilog_expr.specs.Tokens.{Takes, taken}
use Rattle.verilog_expr.specs.Spells.{Phrase, Spells, plain, conditional, one, binary, number, unary, read, bracketed, braced, concatenation, replication, behind, no_other, another, whole, select, bit, part, upward, downward, range}

-- the second tokens are what the first ones end in
pub record Leaves (s r : List Token) : Type 0 where
  pub own : List Token
  pub cut : s ≡ own ++ r

pub leaves_all : {s : List Token} → Leaves s s
leaves_all = record { own = []; cut = refl }

pub leaves_then : {s a r : List Token} → Leaves s a → Leaves a r → Leaves s r
leaves_then {s} {a} {r} f g = record {
  own = f.own ++ g.own;
  cut = f.cut ∙ ap (λ (l : List Token). f.own ++ l) g.cut ∙ sym (append_assoc f.own g.own r);
}

pub leaves_token : {kind : Kind} {s r : List Token} {t : Token} → Takes kind s r t → Leaves s r
leaves_token {t = t} (taken cut is) = record { own = t ∷ []; cut = cut }

pub leaves : {phrase : Phrase} {s r : List Token} → Spells phrase s r → Leaves s r
leaves (plain h i j) = leaves h
leaves (conditional h t i u j) = leaves_then (leaves h) (leaves_then (leaves_token t) (leaves_then (leaves i) (leaves_then (leaves_token u) (leaves j))))
leaves (one h) = leaves h
leaves (binary least h is t i) = leaves_then (leaves h) (leaves_then (leaves_token t) (leaves i))
leaves (number t) = leaves_token t
leaves (unary is t h) = leaves_then (leaves_token t) (leaves h)
leaves (read t h) = leaves_then (leaves_token t) (leaves h)
leaves (bracketed t h u) = leaves_then (leaves_token t) (leaves_then (leaves h) (leaves_token u))
leaves (braced t h i) = leaves_then (leaves_token t) (leaves_then (leaves h) (leaves i))
leaves (concatenation free h t) = leaves_then (leaves h) (leaves_token t)
leaves (replication t h i u v) = leaves_then (leaves_token t) (leaves_then (leaves h) (leaves_then (leaves i) (leaves_then (leaves_token u) (leaves_token v))))
leaves (behind h) = leaves h
leaves (no_other free) = leaves_all
leaves (another t h i) = leaves_then (leaves_token t) (leaves_then (leaves h) (leaves i))
leaves (whole free others) = leaves_all
leaves (select t h i u free) = leaves_then (leaves_token t) (leaves_then (leaves h) (leaves_then (leaves i) (leaves_token u)))
leaves (bit a b c) = leaves_all
leaves (part t h) = leaves_then (leaves_token t) (leaves h)
leaves (upward t h) = leaves_then (leaves_token t) (leaves h)
leaves (downward t h) = leaves_then (leaves_token t) (leaves h)
leaves (range t h u i v) = leaves_then (leaves_token t) (leaves_then (leaves h) (leaves_then (leaves_token u) (leaves_then (leaves i) (leaves_token v))))
