use Rattle.std.proofs.Common.{◌≡◌, ◌<◌, List, length, map, ap, sym, subst, ◌∙◌, arith}
use Rattle.std.specs.Prelude.{All, sum, Result, Err, IsErrAnd, IfOk}
use Rattle.std.proofs.lemmas.List.{length-map}
use Rattle.qv_words.specs.Tree.{Tree}
use Rattle.qv_words.specs.Truth.{IsAssertion, constants_of_each}
use Rattle.qv_words.specs.Problem.{in_order, problem_of}
use Rattle.qv_store.specs.Nodes.{tree_at}
use Rattle.qv_store.specs.Stores.{Grows}
use Rattle.qv_store.specs.Problems.{place_of, problem_in}
use Rattle.qv_store.specs.declared.problem.Problem.{Problem}
use Rattle.qv_store.proofs.Replacement.{if-ok}
use Rattle.qv_prenex_laws.specs.FormLaws.{all_lengths}
use Rattle.qv_prenex.specs.declared.constants.Constant.{Constant}
use Rattle.qv_prenex.specs.declared.faults.PrenexFault.{PrenexFault}
use Rattle.qv_prenex.specs.declared.faults.PrenexFault.TheVariants.{PrefixLimit}
use Rattle.qv_prenex.specs.Constants.{pair_of}
use Rattle.qv_prenex.specs.Posed.{IsProblemOf}
use Rattle.qv_prenex.proofs.Problems.{lawful-same, holds-same, under-same, places-number, places-count-of, if-both}
use Rattle.qv_prenex.proofs.posing.prenex.Goals as goal

pub returns-in_err-constants-clause-over : goal.returns-in_err-constants-clause-over
returns-in_err-constants-clause-over c = λ e.
    let fs = map (tree_at c.args.store.now) c.args.assertions.now in
    let fault : PrefixLimit ≡ c.in_err-constants.field-0.0 =
    subst (λ (r : Result Problem PrenexFault). IsErrAnd r (λ x. x ≡ c.in_err-constants.field-0.0)) e c.from_residual.ensures.1 in
    omega (arith, c.in_err-constants.ensures.over (ap Err (sym fault)), places-count-of fs)

pub pose_within-posed-requires : goal.pose_within-posed-requires
pose_within-posed-requires c =
    let ns = c.args.assertions.now in
    let e : c.args.store.now ≡ c.new-terms.result = sym (c.new-terms.ensures ∙ c.replace-whole.ensures.value) in
    let few = c.in_ok-constants.ensures.within in
    record {
      ids = subst (λ (trees : List Tree). All (λ id. id < length trees) ns) e c.requires.ids;
      assertions = subst (λ (trees : List Tree). All IsAssertion (map (tree_at trees) ns)) e c.requires.assertions;
      constants = ap (map pair_of) c.deref.ensures.value ∙ c.in_ok-constants.ensures.constants ∙ ap (λ (trees : List Tree). in_order (constants_of_each (map (tree_at trees) ns))) e;
      few = omega (arith, few, ap (λ (cs : List Constant). length cs) c.deref.ensures.value);
    }

pub returns : goal.returns
returns c =
    let ns = c.args.assertions.now in
    let old = c.args.store.now in
    let new = c.into_store.result in
    let fs = map (tree_at old) ns in
    let r = c.pose_within-posed.result in
    let cs = c.in_ok-constants.constants.items in
    let e : c.new-terms.result ≡ old = c.new-terms.ensures ∙ c.replace-whole.ensures.value in
    let f : c.pose_within-posed.new.store ≡ new = sym c.into_store.ensures in
    let is : IfOk r (λ p. IsProblemOf new p fs) =
    subst (λ (trees : List Tree). IfOk r (λ p. IsProblemOf trees p fs)) f
    (subst (λ (trees : List Tree). IfOk r (λ p. IsProblemOf c.pose_within-posed.new.store p (map (tree_at trees) ns))) e c.pose_within-posed.ensures.problem) in
    let number = places-number fs cs c.in_ok-constants.ensures.constants in
    record {
      problem = if-ok r (λ p h. h.problem) is;
      constants = if-ok r (λ p h. h.constants) is;
      posed = if-ok r (λ p h. record { below = h.below; problem = lawful-same fs (problem_in new p) h.problem c.requires.assertions c.requires.sorts }) is;
      within = if-both r (λ p h k.
          let long = ap (λ q. length q.prefix) h.problem in
          omega (arith, number, long, length-map p.prefix.items place_of, k, ap (λ (xs : List Constant). length xs) c.deref.ensures.value, ap (λ (trees : List Tree). sum (all_lengths (map (tree_at trees) ns))) e)) is c.pose_within-posed.ensures.within;
      over = subst (λ (trees : List Tree). r ≡ Err PrefixLimit → c.args.places < length (problem_of (map (tree_at trees) ns)).prefix) e c.pose_within-posed.ensures.over;
      holds = if-ok r (λ p h. holds-same fs (problem_in new p) h.problem c.requires.assertions c.requires.sorts) is;
      under_constants = if-ok r (λ p h. λ v has. under-same fs (problem_in new p) p.constants.items v h.problem h.constants c.requires.assertions has) is;
      grows = subst (λ (trees : List Tree). Grows old trees) f (subst (λ (trees : List Tree). Grows trees c.pose_within-posed.new.store) e c.pose_within-posed.ensures.grows);
    }
