use Rattle.std.proofs.Common.{ℕ, List, length, sym, subst}
use Rattle.std.specs.List.{All}
use Rattle.std.proofs.lemmas.List.Elements.{All-rest}
use Rattle.ls_text.proofs.Growth.{grows_on}
use Rattle.verilog_pre.specs.Views.{IsListedItem}
use Rattle.verilog_pre.proofs.Steps.{keeps_on, stepped, step_refused, head_of}
use Rattle.verilog_pre.proofs.expand.work_off.Goals as goal

pub carry_out-requires-clause-next : goal.carry_out-requires-clause-next
carry_out-requires-clause-next c = head_of (IsListedItem _) c.in-Some.next _ _ c.in-Some.ensures.items c.loop-next.invariant.listed

pub carry_out-requires-clause-listed : goal.carry_out-requires-clause-listed
carry_out-requires-clause-listed c = All-rest (IsListedItem _) c.in-Some.next _ _ c.in-Some.ensures.items c.loop-next.invariant.listed

pub loop-next-preserved : goal.loop-next-preserved
loop-next-preserved c = record {
  same = stepped c.loop-next.macros c.carry_out.new.macros c.args.at c.loop-next.nest.open.items _ _ _ c.in-Some.next c.pop_front.new.self.items _ _ _ c.in-Ok.ensures.keeps c.carry_out.ensures.words c.in-Some.ensures.items c.in-Ok.ensures.step c.loop-next.invariant.same;
  keeps = keeps_on _ _ _ c.loop-next.invariant.keeps c.in-Ok.ensures.keeps;
  sound = c.in-Ok.ensures.sound;
  placed = c.in-Ok.ensures.placed;
  listed = subst (λ (ws : List (List ℕ)). All (IsListedItem (length ws)) c.carry_out.new.nest.work.items) (sym c.carry_out.ensures.words) c.in-Ok.ensures.listed;
  grows = grows_on _ _ _ c.loop-next.invariant.grows c.carry_out.ensures.grows;
}

pub returns-in-Err-clause-pieces : goal.returns-in-Err-clause-pieces
returns-in-Err-clause-pieces c =
    step_refused _ c.in-Err.refusal c.loop-next.macros c.args.at c.loop-next.nest.open.items _ c.in-Some.next c.pop_front.new.self.items _ _ c.in-Some.ensures.items c.in-Err.ensures.step c.loop-next.invariant.same
