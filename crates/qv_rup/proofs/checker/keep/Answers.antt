use Rattle.std.proofs.Common.{subst, sym}
use Rattle.qv_rup.specs.Indexing.{KeepsIndex}
use Rattle.qv_rup.specs.Shelving.{Shelved}
use Rattle.qv_rup.proofs.Indexed.{keeps-push, keeps-stay}
use Rattle.qv_rup.proofs.checker.keep.Goals as goal

pub returns-in_err-add-clause-index : goal.returns-in_err-add-clause-index
returns-in_err-add-clause-index c = keeps-stay c.args.index.now.lists.items c.add.new.self.lists.items c.args.clauses.now.live c.add.ensures.size c.add.ensures.stay c.requires.index

pub returns-in_err-add-2-clause-index : goal.returns-in_err-add-2-clause-index
returns-in_err-add-2-clause-index c =
    subst (λ (s : Shelved). KeepsIndex c.add.new.self.lists.items s.live) (sym c.in_err-add-2.ensures.err)
    (keeps-stay c.args.index.now.lists.items c.add.new.self.lists.items c.args.clauses.now.live c.add.ensures.size c.add.ensures.stay c.requires.index)

pub returns-clause-index : goal.returns-clause-index
returns-clause-index c =
    subst (λ (s : Shelved). KeepsIndex c.add.new.self.lists.items s.live) (sym c.in_ok-add-2.ensures.ok)
    (keeps-push c.args.index.now.lists.items c.add.new.self.lists.items c.args.clauses.now.live (record { id = c.args.id; lits = c.args.lits.now }) c.add.ensures.size c.add.ensures.stay c.in_ok-add.ensures.filed c.requires.index)
