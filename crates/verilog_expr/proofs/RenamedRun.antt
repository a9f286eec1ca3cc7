-- Over tokens under other names the machine ends as it does over the tokens.
use Rattle.std.proofs.Common.{◌≡◌, ℕ, List, ◌∷◌, length, Some, None, Ok, Err, subst}
use Rattle.ls_text.specs.declared.name_id.NameId.{NameId}
use Rattle.verilog_lex.specs.declared.token.Token.{Token}
use Rattle.verilog_lex.specs.declared.kind.Kind.{Kind}
use Rattle.verilog_expr.specs.declared.fault.ParseFault.TheVariants.{Stuck, Heavy}
use Rattle.verilog_expr.specs.Tokens.{next}
use Rattle.verilog_expr.specs.Grammar.{Symbol, T, N, entry, is_outside, is_outside_at}
use Rattle.verilog_expr.specs.Machine.{Outcome, stop, stop_at, Run, ends, takes, heavy, differs, expands, refuses}
use Rattle.verilog_expr.specs.Renamed.{retokens}
use Rattle.verilog_expr.proofs.RenamedTokens.{same_next, same_length, at_next, differs_so, cut_so}

abbrev pub renamed_outcome : (NameId → NameId) → Outcome → Outcome
renamed_outcome f (Ok r) = Ok (retokens f r)
renamed_outcome f (Err x) = Err x

pub run_so : (f : NameId → NameId) {k : List Symbol} {s : List Token} {o : Outcome} → Run k s o → Run k (retokens f s) (renamed_outcome f o)
run_so f ends = ends
run_so f (takes cut is light r) = takes (cut_so f cut) is light (run_so f r)
run_so f (heavy {kind = kind} {w = w} {k = k} {s = s} cut is over) =
    subst (λ (n : ℕ). Run (T kind w ∷ k) (retokens f s) (Err (Heavy n))) (same_length f s) (heavy (cut_so f cut) is over)
run_so f (differs {kind = kind} {w = w} {k = k} {s = s} d) =
    subst (λ (n : ℕ). Run (T kind w ∷ k) (retokens f s) (Err (Stuck (stop (is_outside (next s))) n))) (same_length f s)
    (subst (λ (other : Kind). Run (T kind w ∷ k) (retokens f s) (Err (Stuck (stop (is_outside other)) (length (retokens f s))))) (same_next f s)
    (differs (differs_so f kind s d)))
run_so f (expands {x = x} {w = w} {alternative = alternative} {s = s} is r) =
    expands (at_next f s (λ (kind : Kind). entry x w kind ≡ Some alternative) is) (run_so f r)
run_so f (refuses {x = x} {w = w} {k = k} {s = s} is) =
    subst (λ (n : ℕ). Run (N x w ∷ k) (retokens f s) (Err (Stuck (stop_at (is_outside_at x (next s)) (next s)) n))) (same_length f s)
    (subst (λ (kind : Kind). Run (N x w ∷ k) (retokens f s) (Err (Stuck (stop_at (is_outside_at x kind) kind) (length (retokens f s)))))
    (same_next f s) (refuses (at_next f s (λ (kind : Kind). entry x w kind ≡ None) is)))
