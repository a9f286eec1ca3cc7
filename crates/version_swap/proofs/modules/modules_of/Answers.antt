use Rattle.version_swap.proofs.ModulesRead.{handed_over, modules_spelled, parse_refused, parse_known, text_refused}
use Rattle.version_swap.proofs.modules.modules_of.Goals as goal

pub returns-in-Ok-clause-spelled : goal.returns-in-Ok-clause-spelled
returns-in-Ok-clause-spelled c =
    let are = handed_over c.file_tokens.new.names c.args.files.now c.in-Ok.tokens.items c.deref.result.now c.deref.ensures.value
    c.in-Ok.ensures.tokens c.in-Ok.ensures.reads c.in-Ok.ensures.named c.in-Ok.ensures.ends in
    modules_spelled c.file_tokens.new.names c.parse.new.names c.args.files.now c.deref.result.now are c.parse.ensures.table c.parse.result
    c.parse.ensures.tree

pub returns-in-Ok-clause-refused : goal.returns-in-Ok-clause-refused
returns-in-Ok-clause-refused c =
    let are = handed_over c.file_tokens.new.names c.args.files.now c.in-Ok.tokens.items c.deref.result.now c.deref.ensures.value
    c.in-Ok.ensures.tokens c.in-Ok.ensures.reads c.in-Ok.ensures.named c.in-Ok.ensures.ends in
    parse_refused c.file_tokens.new.names c.parse.new.names c.args.files.now c.deref.result.now are c.parse.ensures.table c.parse.result
    c.parse.ensures.fault

pub returns-in-Ok-clause-known : goal.returns-in-Ok-clause-known
returns-in-Ok-clause-known c =
    let are = handed_over c.file_tokens.new.names c.args.files.now c.in-Ok.tokens.items c.deref.result.now c.deref.ensures.value
    c.in-Ok.ensures.tokens c.in-Ok.ensures.reads c.in-Ok.ensures.named c.in-Ok.ensures.ends in
    parse_known c.file_tokens.new.names c.parse.new.names c.args.files.now c.deref.result.now are c.parse.ensures.table c.parse.result
    c.parse.ensures.fault

pub returns-in-Err-clause-refused : goal.returns-in-Err-clause-refused
returns-in-Err-clause-refused c = text_refused c.file_tokens.new.names c.args.files.now c.in-Err.refusal c.in-Err.ensures.tokens
