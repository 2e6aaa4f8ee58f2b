use Rattle.std.proofs.Common.{◌≡◌, ◌+◌, ◌++◌, ◌∷◌, [], ◌∙◌, sym, ap, arith}
use Rattle.qv_cnf.specs.Counting.{Counting, additions-append}
use Rattle.qv_cnf.specs.Derivation.{additions, addition_of}
use Rattle.qv_cnf.specs.LratLine.{lines_of}
use Rattle.qv_cnf.proofs.budgets.CounterBudget.conflict.Goals as goal

pub returns-clause-may : goal.returns-clause-may
returns-clause-may c =
    let steps = lines_of c.args._steps.now in
    let addition = addition_of c.args._id c.args._lits.now c.args._hints.now in
    let one_more : additions (steps ++ addition ∷ []) ≡ additions steps + 1 = additions-append steps (addition ∷ []) in
    let count : c.self.inside.count ≡ c.args.self.now.count = ap (λ (x : Counting). x.count) c.self.view_is in
    record {
      clauses = c.requires.may.clauses ∙ sym (ap (λ (x : Counting). x.base) c.self.view_is);
      charged = omega (arith, c.requires.may.charged);
    }
