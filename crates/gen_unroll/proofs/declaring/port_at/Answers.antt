use Rattle.gen_unroll.specs.TableViews.{signals_of}
use Rattle.gen_unroll.proofs.Searching.{none_at}
use Rattle.gen_unroll.proofs.declaring.port_at.Goals as goal

pub returns-in-Some : goal.returns-in-Some
returns-in-Some c = none_at c.args.here c.in-Some.field-0 c.args.name.name.0 (signals_of c.args.table.now) c.in-Some.is
