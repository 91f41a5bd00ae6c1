use Rattle.std.proofs.Common.{length, take, ◌∙◌, subst, inl, rules}
use Rattle.lookup.specs.Found.{Absent}
use Rattle.lookup.proofs.Putting.{entered}
use Rattle.lookup.proofs.table.Table.put.Goals as goal

pub replace-requires : goal.replace-requires
replace-requires g c = (search rules, (c.in-Some.ensures.0, λ d. c.in-Some.ensures.1 d ∙ c.rank.ensures))

pub returns-in-Some : goal.returns-in-Some
returns-in-Some g c =
    let found = c.in-Some.ensures in
    inl (record { at = c.in-Some.at; within = found.0; one = λ d. found.1 d ∙ c.rank.ensures; is = c.replace.ensures })

pub returns-in-None : goal.returns-in-None
returns-in-None g c =
    let xs = take c.args.self.now.len c.args.self.now.records in
    entered g.R.Ranked.ranked g.row.N xs c.args.new c.insert.result _ (subst (λ r. Absent g.R.Ranked.ranked xs r (length xs)) c.rank.ensures c.in-None.ensures) c.insert.ensures
