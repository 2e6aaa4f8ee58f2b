use Rattle.std.proofs.Common.{◌≡◌, List, map, ap, sym, subst, ◌∙◌, arith}
use Rattle.std.specs.Prelude.{All, sum, Result, Err, IsErrAnd}
use Rattle.std.proofs.lemmas.List.Elements.{recursion_from_All}
use Rattle.qv_words.specs.Tree.{Tree}
use Rattle.qv_words.specs.Truth.{IsAssertion, constants_of_each}
use Rattle.qv_words.specs.Problem.{in_order}
use Rattle.qv_store.specs.Nodes.{tree_at}
use Rattle.qv_store.specs.declared.problem.Problem.{Problem}
use Rattle.qv_prenex_laws.specs.FormLaws.{all_lengths}
use Rattle.qv_prenex.specs.declared.faults.PrenexFault.{PrenexFault}
use Rattle.qv_prenex.specs.declared.faults.PrenexFault.TheVariants.{PrefixLimit}
use Rattle.qv_prenex.specs.Posed.{IsProblemOf}
use Rattle.qv_prenex_matrix.proofs.Trees.{trees-grow, length-grows}
use Rattle.qv_prenex.proofs.Problems.{places-number}
use Rattle.qv_prenex.proofs.posing.pose_within.Goals as goal
use Rattle.qv_store.proofs.Replacement.{grows-more}

pub returns-in_err-count_variables-clause-over : goal.returns-in_err-count_variables-clause-over
returns-in_err-count_variables-clause-over c = λ e.
    let fs = map (tree_at c.args.store.now) c.args.assertions.now in
    let cs = c.args.constants.now in
    let fault : PrefixLimit ≡ c.in_err-count_variables.field-0.0 =
    subst (λ (r : Result Problem PrenexFault). IsErrAnd r (λ x. x ≡ c.in_err-count_variables.field-0.0)) e c.from_residual.ensures.1 in
    omega (arith, c.in_err-count_variables.ensures.over (ap Err (sym fault)), places-number fs cs c.requires.constants, c.requires.few)

pub pose-requires : goal.pose-requires
pose-requires c =
    let old = c.args.store.now in
    let new = c.count_variables.new.store in
    let ns = c.args.assertions.now in
    let grows = c.count_variables.ensures.grows in
    let longer = length-grows old new grows in
    let same : map (tree_at new) ns ≡ map (tree_at old) ns = trees-grow old new ns grows (recursion_from_All _ ns c.requires.ids) in
    let count = c.in_ok-count_variables.ensures.count in
    let within = c.in_ok-count_variables.ensures.within in
    record {
      ids = λ k d lt. let low = c.requires.ids k d lt in omega (arith, low, longer);
      assertions = subst (λ (fs : List Tree). All IsAssertion fs) (sym same) c.requires.assertions;
      constants = c.requires.constants ∙ ap (λ (fs : List Tree). in_order (constants_of_each fs)) (sym same);
      within = omega (arith, count, within, c.requires.few, ap (λ (fs : List Tree). sum (all_lengths fs)) same);
    }

pub returns : goal.returns
returns c =
    let old = c.args.store.now in
    let mid = c.count_variables.new.store in
    let new = c.pose.new.store in
    let ns = c.args.assertions.now in
    let grows = c.count_variables.ensures.grows in
    let same : map (tree_at mid) ns ≡ map (tree_at old) ns = trees-grow old mid ns grows (recursion_from_All _ ns c.requires.ids) in
    let count = c.in_ok-count_variables.ensures.count in
    let within = c.in_ok-count_variables.ensures.within in
    record {
      problem = subst (λ (gs : List Tree). IsProblemOf new c.in_ok-problem.problem gs) same c.in_ok-problem.ensures.problem;
      within = omega (arith, count, within, c.requires.few);
      over = λ e. absurd (cc);
      grows = grows-more old mid new grows c.pose.ensures.grows;
    }
