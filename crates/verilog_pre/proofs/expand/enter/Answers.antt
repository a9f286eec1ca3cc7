use Rattle.std.proofs.Common.{◌++◌, length, map, refl, sym, ap, subst, ◌∙◌, arith, rules}
use Rattle.std.specs.List.{All}
use Rattle.std.proofs.lemmas.List.{length-set}
use Rattle.std.proofs.lemmas.List.Elements.{All-cons}
use Rattle.ls_text.specs.Texts.{text_at}
use Rattle.verilog_pre.specs.declared.item.Item.TheVariants as item
use Rattle.verilog_pre.specs.Expansions.{is_open, body_items, context, output}
use Rattle.verilog_pre.specs.Tables.{table_of}
use Rattle.verilog_pre.specs.Views.{item_of, parts_of, work_of, IsListedItem}
use Rattle.verilog_pre.proofs.Entries.{unknown_word, open_word, entered_word}
use Rattle.verilog_pre.proofs.Nests.{placed_push}
use Rattle.verilog_pre.proofs.Sounds.{sound_more}
use Rattle.verilog_pre.proofs.expand.enter.Goals as goal

pub push_body-requires-clause-sound : goal.push_body-requires-clause-sound
push_body-requires-clause-sound c =
    sound_more c.args.macros.now _ c.requires.sound refl refl c.requires.sound.uses (omega arith) (omega (arith, length-set c.args.macros.now.places.items c.in-Some.body.number c.len.result))

pub push_body-requires-clause-listed : goal.push_body-requires-clause-listed
push_body-requires-clause-listed c =
    subst (All (IsListedItem (length c.args.macros.now.words))) (sym c.in_ok-push_front.ensures.items)
    (All-cons (IsListedItem (length c.args.macros.now.words)) item.Leave c.args.nest.now.work.items tt c.requires.listed)

pub returns-clause-keeps : goal.returns-clause-keeps
unfolding table_of parts_of
returns-clause-keeps c = record {
  table = refl;
  parts = refl;
  kept = refl;
  count = length-set c.args.macros.now.places.items _ _;
}

pub returns-clause-placed : goal.returns-clause-placed
returns-clause-placed c =
    placed_push c.args.macros.now.places.items c.args.macros.now.places.items c.args.nest.now.open.items _ c.in-Some.body.number _
    c.requires.placed refl c.in-Some.ensures.place (ap (λ ns. is_open ns c.in-Some.body.number) (sym c.deref-2.ensures.value) ∙ sym c.is_open.ensures ∙ c.if-is_open.false) (search rules) (ap (λ o. o.items) c.push_body.ensures.open ∙ c.in_ok-push.ensures.items)

pub returns-in_default-clause-used : goal.returns-in_default-clause-used
returns-in_default-clause-used c =
    unknown_word (context c.args.macros.now c.args.at) (text_at c.args.macros.now.words c.args.word.0) c.args.nest.now.open.items (output c.args.out.now) (work_of c.args.macros.now.words c.args.nest.now) _
    (grind arith) (sym c.named.ensures.value ∙ c.in_default.is) c.in_ok-bad_use.ensures.fault

pub returns-then-is_open-clause-used : goal.returns-then-is_open-clause-used
returns-then-is_open-clause-used c =
    open_word (context c.args.macros.now c.args.at) (text_at c.args.macros.now.words c.args.word.0) c.args.nest.now.open.items (output c.args.out.now) (work_of c.args.macros.now.words c.args.nest.now) _ c.in-Some.body
    (grind arith) (sym c.named.ensures.value ∙ c.in-Some.is) (ap (λ ns. is_open ns c.in-Some.body.number) (sym c.deref-2.ensures.value) ∙ sym c.is_open.ensures ∙ c.if-is_open.true) c.in_ok-bad_use-2.ensures.fault

pub returns-clause-used : goal.returns-clause-used
unfolding parts_of
returns-clause-used c =
    entered_word (context c.args.macros.now c.args.at) (text_at c.args.macros.now.words c.args.word.0) c.args.nest.now.open.items _ (output c.args.out.now) (work_of c.args.macros.now.words c.args.nest.now) _ c.in-Some.body _
    (grind arith) refl (sym c.named.ensures.value ∙ c.in-Some.is) (ap (λ ns. is_open ns c.in-Some.body.number) (sym c.deref-2.ensures.value) ∙ sym c.is_open.ensures ∙ c.if-is_open.false)
    (ap (λ o. o.items) c.push_body.ensures.open ∙ c.in_ok-push.ensures.items)
    (c.in_ok-push_body.ensures.work ∙ ap (λ is. body_items (parts_of c.args.macros.now) c.in-Some.body ++ map (item_of c.args.macros.now.words) is) c.in_ok-push_front.ensures.items)

pub returns-clause-listed : goal.returns-clause-listed
returns-clause-listed c = c.in_ok-push_body.ensures.listed
