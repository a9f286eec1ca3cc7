-- Nets that have no number are hidden: what is so of all names before, of genvars and of unknown names is so of every name.
use Rattle.std.proofs.Common.{ℕ}
use Rattle.verilog_ast.specs.Items.{ModuleItem, ModuleDeclaration}
use Rattle.width_rules.specs.Scopes.{Meaning, Genvar, Unknown, Scope}
use Rattle.gen_unroll.specs.Declarations.{item_names, port_names}
use Rattle.gen_unroll.specs.Unrolled.{nowhere, own_names}
use Rattle.gen_unroll.specs.UnitReaches.{hidden, hidden_ports, hidden_module}
use Rattle.gen_unroll.proofs.Placeholders.{items_other, ports_other, items_hidden, ports_hidden}

pub block_so : (P : Meaning → Type 0) → P Genvar → P Unknown → (items : ModuleItem) (scope : Scope) → ((name : ℕ) → P (scope name)) → (name : ℕ)
    → P (hidden items (item_names items scope) name)
block_so P g u items scope before name =
    items_hidden P u items (item_names items scope) name (λ none. items_other P g u items scope name none (before name))

pub module_so : (P : Meaning → Type 0) → P Genvar → P Unknown → (d : ModuleDeclaration) (name : ℕ) → P (hidden_module d (own_names d) name)
module_so P g u d name =
    items_hidden P u d.items (hidden_ports d.ports (own_names d)) name
    (λ no_item. ports_hidden P u d.ports (own_names d) name
    (λ no_port. items_other P g u d.items (port_names d.ports nowhere) name no_item (ports_other P d.ports nowhere name no_port u)))
