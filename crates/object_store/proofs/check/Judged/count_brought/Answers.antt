use Rattle.std.proofs.Common.{ℕ, map, take, ◌∙◌, rules, tests}
use Rattle.std.proofs.lemmas.Iterator.{YieldsList-from_slice}
use Rattle.std.proofs.lemmas.Iterator.Consumers.{YieldsList-from_enumerate, YieldsList-from_filter, count_from_yields_List}
use Rattle.object_store.specs.declared.change.Change.{Change}
use Rattle.object_store.specs.Counts.{brings}
use Rattle.object_store.proofs.Counting.{brought_paired}
use Rattle.object_store.proofs.check.Judged.count_brought.Goals as goal

pub returns-clause-count : goal.returns-clause-count
returns-clause-count g c =
    let ks = map g.R.Keyed.keyed c.args.self.now.table.now in
    let cs = c.args.self.now.changes.now in
    count_from_yields_List c.filter.result c.count.result c.count.ensures.ran
    (YieldsList-from_filter _ (λ (p : ℕ × Change). brings ks cs (take p.0 cs) p.1) (YieldsList-from_enumerate (YieldsList-from_slice cs (cc)) (cc)) c.filter.ensures.closure (λ x b q k. search (rules, tests)))
    ∙ brought_paired ks cs
