use Rattle.std.proofs.Common.{◌∙◌, not, eqb, sym, subst}
use Rattle.std.specs.List.{list_any}
use Rattle.qv_cnf.specs.Listing.{Numbered}
use Rattle.qv_rup.specs.Indexing.{KeepsIndex}
use Rattle.qv_rup.specs.Shelving.{Shelved}
use Rattle.qv_rup.proofs.Indexed.{keeps-filter, keeps-none}
use Rattle.qv_rup.proofs.checker.delete.Goals as goal

pub returns-then-not-tidy-clause-index : goal.returns-then-not-tidy-clause-index
returns-then-not-tidy-clause-index c =
    subst (λ (s : Shelved). KeepsIndex c.args.index.now.lists.items s.live) (sym (c.tidy.ensures ∙ c.remove_all.ensures))
    (keeps-filter c.args.index.now.lists.items (λ (x : Numbered). not (list_any (λ id. eqb x.id id) c.args.ids.now)) c.args.clauses.now.live c.requires)

pub returns-clause-index : goal.returns-clause-index
returns-clause-index c = keeps-none c.clear.new.self.lists.items c.tidy.new.self.live c.clear.ensures
