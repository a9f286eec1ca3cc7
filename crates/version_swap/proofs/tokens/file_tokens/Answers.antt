use Rattle.version_swap.proofs.ReadTexts.{then_tokens}
use Rattle.version_swap.proofs.tokens.file_tokens.Goals as goal

pub returns-in-Ok-clause-tokens : goal.returns-in-Ok-clause-tokens
returns-in-Ok-clause-tokens c =
    then_tokens _ _ _ _ _ _ c.deref.ensures.value c.in-Ok.ensures.pieces c.lex.ensures.tokens
