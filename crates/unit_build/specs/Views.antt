-- What connections of the code mean.
use Rattle.verilog_ast.specs.Views.{expression_of}
use Rattle.unit_build.specs.declared.connection.Connection.{Connection}
use Rattle.unit_build.specs.Connections.{Connected}

abbrev pub connected_of : Connection → Connected
connected_of x = record { port = x.port; shape = x.shape; value = expression_of x.value.now }
