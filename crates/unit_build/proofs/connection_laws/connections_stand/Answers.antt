use Rattle.unit_build.proofs.ChildWidths.{lanes_lie, values_lie}
use Rattle.unit_build.proofs.StandingConnections.{once, none_before, none_behind, children_so, into_among}
use Rattle.unit_build.proofs.connection_laws.connections_stand.Goals as goal

pub returns-clause-once : goal.returns-clause-once
returns-clause-once c = λ scope first shapes instances child s i. once child s i first scope shapes instances

pub returns-clause-before : goal.returns-clause-before
returns-clause-before c = λ scope first shapes instances child s i. none_before child s i first scope shapes instances

pub returns-clause-behind : goal.returns-clause-behind
returns-clause-behind c = λ scope first shapes instances child s i. none_behind child s i first scope shapes instances

pub returns-clause-children : goal.returns-clause-children
returns-clause-children c = λ scope first total shapes instances h. children_so total first scope shapes instances h

pub returns-clause-into : goal.returns-clause-into
returns-clause-into c = λ scope first before shapes after instances h. into_among before after first scope shapes instances h

pub returns-clause-lanes : goal.returns-clause-lanes
returns-clause-lanes c = lanes_lie

pub returns-clause-values : goal.returns-clause-values
returns-clause-values c = values_lie
