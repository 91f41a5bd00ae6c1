use Rattle.std.proofs.Common.{take, subst, ap, ◌∙◌, rules}
use Rattle.lookup.specs.Inserts.{Leads}
use Rattle.object.specs.Rank.{key_rank}
use Rattle.object_store.proofs.Placing.{Tells, tells, puts_over, puts_new, puts_none}
use Rattle.object_store.proofs.edit.put_record.Goals as goal

pub returns-then-is_some_and-clause-puts : goal.returns-then-is_some_and-clause-puts
returns-then-is_some_and-clause-puts g c = λ within.
    (let key = g.R.Keyed.keyed in
    let xs = c.args.records.now in
    let at = c.unwrap_or-at.result in
    let leads : Leads (λ r. key_rank (key r)) (take c.args.len xs) c.rank-rank.result at = search rules in
    let told = tells key c.args.new (take c.args.len xs) at c.get.result c.is_some_and.result _ c.get.ensures.lookup.1 c.get.ensures.lookup.2 c.get.ensures.lookup.3 c.is_some_and.ensures (λ y p. search rules) in
    puts_over key c.args.new xs c.args.len at c.rank-rank.result within (c.rank-rank.ensures ∙ ap key_rank c.key-key.ensures) leads
    (subst (Tells key c.args.new (take c.args.len xs) at) c.if-is_some_and.true told))

pub returns-in-Ok-clause-puts : goal.returns-in-Ok-clause-puts
returns-in-Ok-clause-puts g c = λ within.
    (let key = g.R.Keyed.keyed in
    let xs = c.args.records.now in
    let at = c.unwrap_or-at.result in
    let leads : Leads (λ r. key_rank (key r)) (take c.args.len xs) c.rank-rank.result at = search rules in
    let told = tells key c.args.new (take c.args.len xs) at c.get.result c.is_some_and.result _ c.get.ensures.lookup.1 c.get.ensures.lookup.2 c.get.ensures.lookup.3 c.is_some_and.ensures (λ y p. search rules) in
    puts_new key c.args.new xs c.args.len at c.rank-rank.result within (c.rank-rank.ensures ∙ ap key_rank c.key-key.ensures) leads
    (subst (Tells key c.args.new (take c.args.len xs) at) c.if-is_some_and.false told) c.in-Ok.field-0 c.insert_at.new.items c.in-Ok.ensures)

pub returns-in-Err-clause-puts : goal.returns-in-Err-clause-puts
returns-in-Err-clause-puts g c = λ within.
    (let key = g.R.Keyed.keyed in
    let xs = c.args.records.now in
    let at = c.unwrap_or-at.result in
    let leads : Leads (λ r. key_rank (key r)) (take c.args.len xs) c.rank-rank.result at = search rules in
    let told = tells key c.args.new (take c.args.len xs) at c.get.result c.is_some_and.result _ c.get.ensures.lookup.1 c.get.ensures.lookup.2 c.get.ensures.lookup.3 c.is_some_and.ensures (λ y p. search rules) in
    puts_none key c.args.new xs c.args.len at c.rank-rank.result within (c.rank-rank.ensures ∙ ap key_rank c.key-key.ensures) leads
    (subst (Tells key c.args.new (take c.args.len xs) at) c.if-is_some_and.false told) c.in-Err.field-0 c.insert_at.new.items c.in-Err.ensures)
