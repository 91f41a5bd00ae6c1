use Rattle.std.proofs.Common.{ℕ, Some, None, Option, is_some, Decides}
use Rattle.page.specs.declared.fields.Entry.{Entry}
use Rattle.tree.specs.Table.{nodes_of}
use Rattle.tree.specs.Tree.{Entries, Among, Gets}
use Rattle.tree.proofs.Deciding.{it_is, it_is_not}
use Rattle.replay.proofs.wants.TreeWants.wants.Goals as goal

there : (E : Entries) (file : ℕ) (found : Option Entry) → Gets E file found → Decides (is_some found) ((e : Entry) × E file e)
there E file (Some e) here = it_is _ (e, here)
there E file None none = it_is_not _ (λ (e, here). none e here)

pub returns : goal.returns
returns c = rw c.is_some.ensures (there (Among (nodes_of c.args.self.now)) c.args.key.now.file c.get.result c.get.ensures)
