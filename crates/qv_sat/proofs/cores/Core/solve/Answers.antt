use Rattle.std.proofs.Common.{◌≡◌, List, [], true, sym, ◌∙◌, ap, subst, arith}
use Rattle.qv_cnf.specs.Literal.{Literal}
use Rattle.qv_cnf.specs.LratLine.{lines_of}
use Rattle.qv_cnf.specs.Refutation.{Refutes}
use Rattle.qv_sat.specs.Answering.{IsFailed}
use Rattle.qv_sat.specs.CoreState.{CoreState}
use Rattle.qv_sat.specs.Feeding.{ComesFirst, IsRefuted}
use Rattle.qv_sat.specs.Holding.{core_of}
use Rattle.qv_sat.proofs.Accepting.{IsRefuted-from_empty}
use Rattle.qv_sat.proofs.Concluding.{refuted_map, IsFailed-refuted}
use Rattle.qv_sat.proofs.Counted.{top_counted, top_rises}
use Rattle.qv_sat.proofs.Whole.{ComesFirst-goes_on, Refutes-held}
use Rattle.qv_sat.proofs.cores.Core.solve.Goals as goal

pub returns-then-self-clause-unsat : goal.returns-then-self-clause-unsat
returns-then-self-clause-unsat g c =
    let u = c.backtrack.new.self in
    subst (λ (xs : List Literal). IsFailed c.args.self.now.base c.args.assumptions.now xs) (sym c.new-core.ensures.items)
    (subst (λ (k : CoreState). IsFailed k.base c.args.assumptions.now []) (c.backtrack.ensures.core ∙ c.self.view_is)
    (IsFailed-refuted u.base (lines_of u.steps.items) u.trail u.top u.variables u.refuted u.aside c.args.assumptions.now c.backtrack.ensures.held c.if-self.true))

pub returns-then-self-clause-refuted : goal.returns-then-self-clause-refuted
returns-then-self-clause-refuted g c _ =
    let u = c.backtrack.new.self in
    IsRefuted-from_empty u.base.live (lines_of u.steps.items) (c.backtrack.ensures.held.refutes c.if-self.true)

pub returns-clause-refuted : goal.returns-clause-refuted
returns-clause-refuted g c =
    let u = c.search.new.self in
    refuted_map c.search.result (u.refuted ≡ true) (IsRefuted u.base.live (lines_of u.steps.items)) (λ now. IsRefuted-from_empty u.base.live (lines_of u.steps.items) (c.search.ensures.spends.held.refutes now)) c.search.ensures.refuted

pub returns-clause-top : goal.returns-clause-top
returns-clause-top g c =
    let tops = top_counted (core_of c.make_choice.new.self) (core_of c.search.new.self) c.search.ensures.spends.goes_on in
    omega (arith, ap (λ (k : CoreState). k.top) c.make_choice.ensures.core, ap (λ (k : CoreState). k.top) c.make_room.ensures.core, ap (λ (k : CoreState). k.top) c.backtrack.ensures.core, ap (λ (k : CoreState). k.top) c.self.view_is, c.search.ensures.spends.count)

pub returns-clause-rises : goal.returns-clause-rises
returns-clause-rises g c =
    let rises = top_rises (core_of c.make_choice.new.self) (core_of c.search.new.self) c.search.ensures.spends.goes_on in
    omega (arith, ap (λ (k : CoreState). k.top) c.make_choice.ensures.core, ap (λ (k : CoreState). k.top) c.make_room.ensures.core, ap (λ (k : CoreState). k.top) c.backtrack.ensures.core, ap (λ (k : CoreState). k.top) c.self.view_is)

pub returns-then-self-clause-no_conflict : goal.returns-then-self-clause-no_conflict
returns-then-self-clause-no_conflict g c some = absurd (some c.new-core.ensures.items)

pub returns-then-self-clause-first : goal.returns-then-self-clause-first
returns-then-self-clause-first g c first = subst (λ (k : CoreState). ComesFirst k.base k.steps) (sym (c.backtrack.ensures.core ∙ c.self.view_is)) first

pub returns-then-self-clause-refutes : goal.returns-then-self-clause-refutes
returns-then-self-clause-refutes g c first _ =
    let u = c.backtrack.new.self in
    let now : ComesFirst u.base.live (lines_of u.steps.items) = subst (λ (k : CoreState). ComesFirst k.base k.steps) (sym (c.backtrack.ensures.core ∙ c.self.view_is)) first in
    Refutes-held u.base (lines_of u.steps.items) u.trail u.top u.variables u.refuted u.aside c.backtrack.ensures.held now c.if-self.true

pub returns-clause-first : goal.returns-clause-first
returns-clause-first g c first =
    let old = core_of c.make_choice.new.self in
    let before : ComesFirst old.base old.steps = subst (λ (k : CoreState). ComesFirst k.base k.steps) (sym (c.make_choice.ensures.core ∙ c.make_room.ensures.core ∙ c.backtrack.ensures.core ∙ c.self.view_is)) first in
    ComesFirst-goes_on old (core_of c.search.new.self) c.make_choice.ensures.held.ordered c.search.ensures.spends.goes_on before

pub returns-clause-refutes : goal.returns-clause-refutes
returns-clause-refutes g c first =
    let u = c.search.new.self in
    let old = core_of c.make_choice.new.self in
    let before : ComesFirst old.base old.steps = subst (λ (k : CoreState). ComesFirst k.base k.steps) (sym (c.make_choice.ensures.core ∙ c.make_room.ensures.core ∙ c.backtrack.ensures.core ∙ c.self.view_is)) first in
    let now = ComesFirst-goes_on old (core_of u) c.make_choice.ensures.held.ordered c.search.ensures.spends.goes_on before in
    refuted_map c.search.result (u.refuted ≡ true) (Refutes u.base.live (lines_of u.steps.items)) (λ is. Refutes-held u.base (lines_of u.steps.items) u.trail u.top u.variables u.refuted u.aside c.search.ensures.spends.held now is) c.search.ensures.refuted
