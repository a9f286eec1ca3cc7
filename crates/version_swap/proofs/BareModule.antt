-- A module that stands for tokens stands without places for the tokens without theirs.
use Rattle.std.proofs.Common.{◌≡◌, ◌≢◌, List, map, true, false}
use Rattle.verilog_lex.specs.declared.token.Token.{Token}
use Rattle.verilog_lex.specs.declared.kind.Kind.{Kind}
use Rattle.verilog_lex.specs.declared.kind.Kind.TheVariants as k
use Rattle.version_swap.proofs.BareForms.{bare_item, bare_body, bare_tokens}
use Rattle.verilog_expr.specs.Grammar.{begins_item}
use Rattle.version_swap.proofs.BareTokens.{at_next, takes_so}
use Rattle.verilog_parse.specs.Modules.{Phrase, Spells, AModule, Items, AnItem, module_, no_item, another_item, input_item, output_item, parameter_item, region, other_item}
use Rattle.version_swap.proofs.BareDeclaration.{declaration_so}
use Rattle.version_swap.proofs.BareHeader.{header_so}
use Rattle.version_swap.proofs.BareGenerate.{generate_so}

abbrev pub bare_phrase : Phrase → Phrase
bare_phrase (AModule x) = AModule (bare_body x)
bare_phrase (Items x) = Items (map bare_item x)
bare_phrase (AnItem x) = AnItem (bare_item x)

pub module_so : {phrase : Phrase} {s r : List Token} → Spells phrase s r
    → Spells (bare_phrase phrase) (bare_tokens s) (bare_tokens r)
module_so (module_ h i j o q) = module_ (takes_so h) (takes_so i) (header_so j) (module_so o) (takes_so q)
module_so (no_item {s = s} h) = no_item (at_next s (λ (kind : Kind). begins_item kind ≡ false) h)
module_so (another_item {s = s} h i j) = another_item (at_next s (λ (kind : Kind). begins_item kind ≡ true) h) (module_so i) (module_so j)
module_so (input_item h i j o q) = input_item (takes_so h) (declaration_so i) (declaration_so j) (declaration_so o) (takes_so q)
module_so (output_item h i j o q) = output_item (takes_so h) (declaration_so i) (declaration_so j) (declaration_so o) (takes_so q)
module_so (parameter_item h i j o) = parameter_item (takes_so h) (declaration_so i) (declaration_so j) (takes_so o)
module_so (region h i j) = region (takes_so h) (generate_so i) (takes_so j)
module_so (other_item {s = s} h i j o q) =
    other_item (at_next s (λ (kind : Kind). kind ≢ k.Input) h) (at_next s (λ (kind : Kind). kind ≢ k.Output) i)
    (at_next s (λ (kind : Kind). kind ≢ k.Parameter) j) (at_next s (λ (kind : Kind). kind ≢ k.Generate) o) (generate_so q)
