-- What a node of the code means.
use Rattle.typed_ir.specs.Nodes.{FlatNode, Drive, Block}
use Rattle.typed_ir.specs.Forms.{sized}
use Rattle.typed_ir.specs.Statements.{stmt_of}
use Rattle.typed_ir.specs.declared.node.Node.{Node}
use Rattle.typed_ir.specs.declared.node.Node.TheVariants.{Drive as Drive', Block as Block'}

abbrev pub node_of : Node → FlatNode
node_of (Drive' form lanes e) = Drive form lanes.items (sized e.form)
node_of (Block' shown body) = Block shown (stmt_of body)
