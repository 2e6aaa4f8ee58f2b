-- What a visit adds is given its words, and the term's own is among them.
use Rattle.std.proofs.Common.{◌≡◌, length, slice_get, ap, sym, ◌∙◌}
use Rattle.qv_entries.proofs.Tables.{kept-visited, in-table}
use Rattle.qv_entries.proofs.table.Table.word.Goals as goal

pub fill-requires : goal.fill-requires
fill-requires c =
    kept-visited c.args.store.now c.args.point.now c.args.self.now.walk c.visit.new.self c.args.self.now.words.items c.args.id
    c.requires.table.kept c.visit.ensures.walk c.visit.ensures.behind c.in_ok-visit.ensures.order c.requires.value

pub result_of-requires : goal.result_of-requires
result_of-requires c =
    let all : length c.deref.result.now ≡ length c.visit.new.self = ap length c.deref.ensures.value ∙ c.in_ok-fill.ensures.all in
    in-table c.visit.new.self c.deref.result.now c.args.id all c.in_ok-visit.ensures.has

pub returns-clause-table : goal.returns-clause-table
returns-clause-table c = record { kept = c.in_ok-fill.ensures.kept; all = c.in_ok-fill.ensures.all }

pub returns-clause-word : goal.returns-clause-word
returns-clause-word c =
    c.in_ok-fill.ensures.kept.right c.result_of.ensures.place c.args.id c.result_of.result.now c.result_of.ensures.at
    (ap (λ ws. slice_get ws c.result_of.ensures.place) (sym c.deref.ensures.value) ∙ c.result_of.ensures.found)
