use Rattle.std.proofs.Common.{arith, refl, ◌≡◌, ◌-◌, ◌∷◌, ◌++◌, [], ◌∙◌}
use Rattle.qv_cnf.specs.Runs.{IsNumbering}
use Rattle.qv_cnf.proofs.RunLaws.{AreRuns-last, IsNumbering-pop, take-before, take-last, take-whole}
use Rattle.qv_cnf.proofs.numbering.cut.Goals as goal

pub runs-preserved : goal.runs-preserved
runs-preserved c =
    let rest = c.pop.new.self.items in
    let run = c.in-Some.run' in
    let items : c.runs.before.items ≡ rest ++ run ∷ [] = c.in-Some.ensures.items in
    let all = c.runs.invariant.numbering in
    let numbering : IsNumbering (rest ++ run ∷ []) c.runs.last = rw items at all in
    record {
      numbering = IsNumbering-pop rest run c.runs.last numbering;
      front = rw (← items) (take-before c.runs.before.items c.runs.last c.args.n all.runs (omega arith) ∙ c.runs.invariant.front);
    }

pub returns-then-last-kept-clause-cut : goal.returns-then-last-kept-clause-cut
returns-then-last-kept-clause-cut c =
    take-whole c.runs.before.items c.runs.last c.args.n c.runs.invariant.numbering.runs (omega arith) (omega arith) ∙ c.runs.invariant.front

pub returns-clause-numbering : goal.returns-clause-numbering
returns-clause-numbering c =
    let last = c.runs.last in
    let all = c.runs.invariant.numbering in
    record {
      runs = AreRuns-last 0 0 c.runs.before.items last (record last { count = c.args.n - last.at }) refl refl all.runs;
      filled = all.filled;
      few = omega (arith, all.few);
    }

pub returns-clause-cut : goal.returns-clause-cut
returns-clause-cut c =
    let last = c.runs.last in
    take-last c.runs.before.items last (record last { count = c.args.n - last.at }) c.args.n c.runs.invariant.numbering.runs (omega arith) (omega arith) refl refl ∙ c.runs.invariant.front
