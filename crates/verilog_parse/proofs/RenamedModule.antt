-- A module that stands for tokens stands under other names for the tokens under these.
use Rattle.std.proofs.Common.{◌≡◌, ◌≢◌, List, map, true, false}
use Rattle.ls_text.specs.declared.name_id.NameId.{NameId}
use Rattle.verilog_lex.specs.declared.token.Token.{Token}
use Rattle.verilog_lex.specs.declared.kind.Kind.{Kind}
use Rattle.verilog_lex.specs.declared.kind.Kind.TheVariants as k
use Rattle.verilog_ast.specs.Renamed.{renamed_item, renamed_body}
use Rattle.verilog_expr.specs.Grammar.{begins_item}
use Rattle.verilog_expr.specs.Renamed.{retokens}
use Rattle.verilog_expr.proofs.RenamedTokens.{at_next, takes_so}
use Rattle.verilog_parse.specs.Modules.{Phrase, Spells, AModule, Items, AnItem, module_, no_item, another_item, input_item, output_item, parameter_item, region, other_item}
use Rattle.verilog_decl.proofs.RenamedDeclaration.{declaration_so}
use Rattle.verilog_parse.proofs.RenamedHeader.{header_so}
use Rattle.verilog_parse.proofs.RenamedGenerate.{generate_so}

abbrev pub renamed_phrase : (NameId → NameId) → Phrase → Phrase
renamed_phrase f (AModule x) = AModule (renamed_body f x)
renamed_phrase f (Items x) = Items (map (renamed_item f) x)
renamed_phrase f (AnItem x) = AnItem (renamed_item f x)

pub module_so : (f : NameId → NameId) {phrase : Phrase} {s r : List Token} → Spells phrase s r
    → Spells (renamed_phrase f phrase) (retokens f s) (retokens f r)
module_so f (module_ h i j o q) = module_ (takes_so f h) (takes_so f i) (header_so f j) (module_so f o) (takes_so f q)
module_so f (no_item {s = s} h) = no_item (at_next f s (λ (kind : Kind). begins_item kind ≡ false) h)
module_so f (another_item {s = s} h i j) = another_item (at_next f s (λ (kind : Kind). begins_item kind ≡ true) h) (module_so f i) (module_so f j)
module_so f (input_item h i j o q) = input_item (takes_so f h) (declaration_so f i) (declaration_so f j) (declaration_so f o) (takes_so f q)
module_so f (output_item h i j o q) = output_item (takes_so f h) (declaration_so f i) (declaration_so f j) (declaration_so f o) (takes_so f q)
module_so f (parameter_item h i j o) = parameter_item (takes_so f h) (declaration_so f i) (declaration_so f j) (takes_so f o)
module_so f (region h i j) = region (takes_so f h) (generate_so f i) (takes_so f j)
module_so f (other_item {s = s} h i j o q) =
    other_item (at_next f s (λ (kind : Kind). kind ≢ k.Input) h) (at_next f s (λ (kind : Kind). kind ≢ k.Output) i)
    (at_next f s (λ (kind : Kind). kind ≢ k.Parameter) j) (at_next f s (λ (kind : Kind). kind ≢ k.Generate) o) (generate_so f q)
