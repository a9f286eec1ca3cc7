-- The ports in the header of a module are words of the table by which it is spelled (IEEE Std 1364-2005, 12.3).
use Rattle.std.proofs.Common.{◌≡◌, ℕ, List, [], All, map, codes, Some, refl, sym, ◌∙◌, ap, inl, inr}
use Rattle.std.proofs.lemmas.List.Elements.{All-nil, All-cons}
use Rattle.ls_text.specs.Texts.{text_at}
use Rattle.verilog_lex.specs.declared.kind.Kind.{Kind}
use Rattle.verilog_lex.specs.declared.kind.Kind.TheVariants as k
use Rattle.verilog_lex.specs.declared.literal.Literal.{Literal}
use Rattle.verilog_lex.specs.declared.token.Token.{Token}
use Rattle.verilog_lex.specs.Signs.{triples, doubles, singles}
use Rattle.verilog_ast.specs.declared.header_parameter.HeaderParameter.{HeaderParameter}
use Rattle.verilog_ast.specs.declared.header_port.HeaderPort.{HeaderPort}
use Rattle.verilog_ast.specs.declared.identifier.Identifier.{Identifier}
use Rattle.verilog_ast.specs.declared.module.Module.{Module}
use Rattle.verilog_ast.specs.declared.module_body.ModuleBody.{ModuleBody}
use Rattle.verilog_ast.specs.declared.ports.Ports.{Ports}
use Rattle.verilog_ast.specs.declared.variable.Variable.{Variable}
use Rattle.verilog_ast.specs.Views.{port_of, ports_of, declaration_of}
use Rattle.verilog_expr.specs.Tokens.{Takes, taken, identifier_of}
use Rattle.verilog_decl.specs.Declarations as declarations
use Rattle.verilog_decl.specs.Headers as headers
use Rattle.verilog_parse.specs.Modules as modules
use Rattle.module_names.specs.Modules.{port_name, header_ports}
use Rattle.version_swap.specs.Proper.{text_kind, IsToken, IsProper}
use Rattle.version_swap.specs.Spelled.{IsSpelledUnder}
use Rattle.version_swap.specs.Told.{IsClockTold}
use Rattle.version_swap.proofs.Fronts.{token, behind_declaration, behind_header}
use Rattle.version_swap.proofs.ProperWords.{proper_word}
use Rattle.version_swap.proofs.SameModule.{module_alone}

-- the name is a word of the table, and not `-`
abbrev pub IsWordIn : List (List ℕ) → Identifier → Type 0
IsWordIn names n = IsClockTold names (Some n.name)

minus : text_kind (codes "-") ≡ Some k.Minus
unfolding triples doubles singles
minus = refl

-- no word is `-`
no_dash : (kind : Kind) (text : List ℕ) (l : Literal) → kind ≡ k.Word → IsToken kind text l → text ≡ codes "-" → ⊥
no_dash kind text l word (inl h) dash =
    let same : Some k.Minus ≡ Some k.Word = sym minus ∙ ap text_kind (sym dash) ∙ h.listed ∙ ap Some word in absurd cc
no_dash kind text l word (inr (inl h)) dash = let same : k.Word ≡ k.Number = sym word ∙ h.number in absurd cc
no_dash kind text l word (inr (inr h)) dash = let same : k.Word ≡ k.Wild = sym word ∙ h.wild in absurd cc

module _ (names : List (List ℕ)) where
  abbrev AreProper : List Token → Type 0
  AreProper s = All (IsProper names) s

  abbrev AreWords : List Identifier → Type 0
  AreWords ns = All (IsWordIn names) ns

  abbrev none : AreWords []
  none = All-nil (IsWordIn names)

  token_word : (t : Token) → t.kind ≡ k.Word → IsProper names t → IsWordIn names (identifier_of t)
  token_word t is h = (record { within = h.0; word = proper_word names t h }, no_dash t.kind (text_at names t.text.0) t.literal is h.1)

  -- a token that is taken as a word, and what is left
  word : {s r : List Token} {t : Token} → Takes k.Word s r t → AreProper s → IsWordIn names (identifier_of t) × AreProper r
  word (taken {token = t} cut is) all =
      let here = token names (taken {token = t} cut is) all in (token_word t is here.0, here.1)

  -- ---- names alone

  other_names : {xs : List Identifier} {s r : List Token} → declarations.Spells (declarations.OtherNames xs) s r → AreProper s → AreWords xs
  other_names (declarations.no_name h) all = none
  other_names (declarations.another_name {xs = xs} {u = u} h i j) all =
      let here = word i (token names h all).1 in
      All-cons (IsWordIn names) (identifier_of u) xs here.0 (other_names j here.1)

  names_behind : {x : Identifier} {xs : List Identifier} {s r : List Token} → declarations.Spells (declarations.NamesBehind x xs) s r
      → IsWordIn names x → AreProper s → AreWords xs
  names_behind (declarations.names_behind {x = x} {xs = xs} h) first all = All-cons (IsWordIn names) x xs first (other_names h all)

  listed_names : {xs : List Identifier} {s r : List Token} → declarations.Spells (declarations.Names xs) s r → AreProper s → AreWords xs
  listed_names (declarations.names h i) all = let here = word h all in names_behind i here.0 here.1

  variable : {x : Variable} {s r : List Token} → declarations.Spells (declarations.AVariable x) s r → AreProper s → IsWordIn names x.name
  variable (declarations.variable h i) all = (word h all).0

  -- ---- ports that the header declares

  port : {x : HeaderPort} {s r : List Token} → headers.Spells (headers.AHeaderPort x) s r → AreProper s → IsWordIn names (port_name (port_of x))
  port (headers.input_port h i j o) all =
      (word o (behind_declaration names j (behind_declaration names i (token names h all).1))).0
  port (headers.output_port h i j o) all = variable o (behind_declaration names j (behind_declaration names i (token names h all).1))

  next_port : {x : HeaderPort} {s r : List Token} → headers.Spells (headers.NextHeaderPort x) s r → AreProper s
      → IsWordIn names (port_name (port_of x))
  next_port (headers.next_name h i) all = variable i all
  next_port (headers.next_port h i) all = port i all

  other_ports : {xs : List HeaderPort} {s r : List Token} → headers.Spells (headers.OtherHeaderPorts xs) s r → AreProper s
      → AreWords (map port_name (map port_of xs))
  other_ports (headers.no_header_port h) all = none
  other_ports (headers.another_header_port {x = x} {xs = xs} h i j) all =
      let here = (token names h all).1 in
      All-cons (IsWordIn names) (port_name (port_of x)) (map port_name (map port_of xs)) (next_port i here)
      (other_ports j (behind_header names i here))

  ports_behind : {x : HeaderPort} {xs : List HeaderPort} {s r : List Token} → headers.Spells (headers.HeaderPortsBehind x xs) s r
      → IsWordIn names (port_name (port_of x)) → AreProper s → AreWords (map port_name (map port_of xs))
  ports_behind (headers.header_ports_behind {x = x} {xs = xs} h) first all =
      All-cons (IsWordIn names) (port_name (port_of x)) (map port_name (map port_of xs)) first (other_ports h all)

  declared : {xs : List HeaderPort} {s r : List Token} → headers.Spells (headers.DeclaredPorts xs) s r → AreProper s
      → AreWords (map port_name (map port_of xs))
  declared (headers.declared h i) all = ports_behind i (port h all) (behind_header names h all)

  -- ---- headers

  port_list : {y : Ports} {s r : List Token} → headers.Spells (headers.PortList y) s r → AreProper s → AreWords (header_ports (ports_of y))
  port_list (headers.empty_list h i j) all = none
  port_list (headers.name_list h i) all = listed_names i all
  port_list (headers.input_list h i) all = declared i all
  port_list (headers.output_list h i) all = declared i all

  port_header : {y : Ports} {s r : List Token} → headers.Spells (headers.PortHeader y) s r → AreProper s → AreWords (header_ports (ports_of y))
  port_header (headers.no_ports h) all = none
  port_header (headers.some_ports h i j) all = port_list i (token names h all).1

  header : {xs : List HeaderParameter} {y : Ports} {s r : List Token} → headers.Spells (headers.AHeader xs y) s r → AreProper s
      → AreWords (header_ports (ports_of y))
  header (headers.header h i j) all = port_header i (behind_header names h all)

  body : {x : ModuleBody} {s r : List Token} → modules.Spells (modules.AModule x) s r → AreProper s
      → AreWords (header_ports (declaration_of x).ports)
  body (modules.module_ h i j o q) all = header j (token names i (token names h all).1).1

  pub ports_are_words : (x : Module) → IsSpelledUnder names x → AreWords (header_ports (declaration_of x.body).ports)
  ports_are_words x h = body (module_alone h.spelled.own h.spelled.cut h.spelled.tree) h.proper
