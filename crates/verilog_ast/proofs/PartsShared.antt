-- What the parts of a node are held in, under the names of trees: a box may go to another thread and be shared among threads where what it
-- holds may, and so may a list.
pub use Rattle.sqlite_items.proofs.boxed.Boxed.TheSendSync.{the_send as child_send, the_sync as child_sync}
pub use Rattle.sqlite_items.proofs.items.Items.TheSendSync.{the_send as children_send, the_sync as children_sync}
