use Rattle.std.proofs.Common.{◌∷◌, ap, ◌∙◌, arith, inl}
use Rattle.verilog_pre.specs.declared.item.Item.TheVariants as item
use Rattle.verilog_pre.specs.Views.{parts_of}
use Rattle.verilog_pre.proofs.Nests.{pushed_one, pushed_all}
use Rattle.verilog_pre.proofs.Parts.{body_viewed, body_listed}
use Rattle.verilog_pre.proofs.expand.push_body.Goals as goal

pub loop-next-preserved : goal.loop-next-preserved
loop-next-preserved c = record {
  work = pushed_one c.args.macros.now.parts.items c.args.body.last c.loop-next.next _ c.loop-next.nest.work.items _ _ (omega arith) c.loop-next.invariant.within c.requires.within (c.in_ok-push_front.ensures.items ∙ ap (λ p. item.Part p ∷ c.loop-next.nest.work.items) c.index.ensures) c.loop-next.invariant.work;
  open_ = c.loop-next.invariant.open_;
  within = omega (arith, c.loop-next.invariant.within);
  lower = inl (omega arith);
}

pub returns-clause-items : goal.returns-clause-items
returns-clause-items c =
    pushed_all c.args.macros.now.parts.items c.args.body.first c.args.body.last c.loop-next.next _ _ (omega arith) c.loop-next.invariant.lower c.loop-next.invariant.work

pub returns-clause-work : goal.returns-clause-work
unfolding parts_of
returns-clause-work c =
    body_viewed c.args.macros.now.words c.args.macros.now.parts.items c.args.body _ _
    (pushed_all c.args.macros.now.parts.items c.args.body.first c.args.body.last c.loop-next.next _ _ (omega arith) c.loop-next.invariant.lower c.loop-next.invariant.work)

pub returns-clause-listed : goal.returns-clause-listed
returns-clause-listed c =
    body_listed _ c.args.macros.now.parts.items c.args.body _ _
    (pushed_all c.args.macros.now.parts.items c.args.body.first c.args.body.last c.loop-next.next _ _ (omega arith) c.loop-next.invariant.lower c.loop-next.invariant.work)
    c.requires.sound.uses c.requires.listed
