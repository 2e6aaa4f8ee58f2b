use Rattle.std.proofs.Common.{◌≡◌, ◌<◌, ◌+◌, [], ℕ, List, length, map, take, ap, subst, sym, ◌∙◌, arith}
use Rattle.std.specs.Prelude.{All}
use Rattle.std.proofs.lemmas.List.{take_all, length-map}
use Rattle.qv_words.specs.Tree.{Tree}
use Rattle.qv_words.specs.Problem.{in_order}
use Rattle.qv_words.specs.Truth.{constants_of_each}
use Rattle.qv_store.specs.Nodes.{tree_at}
use Rattle.qv_store.specs.Walks.{named}
use Rattle.qv_prenex.specs.Constants.{pair_of, with_own}
use Rattle.qv_prenex.proofs.Leaves.{heaped, heaped-none, heaped-order, kept-in-order, order-more, order-fewer}
use Rattle.qv_prenex.proofs.constants.constants_in.Goals as goal

pub terms-init : goal.terms-init
terms-init c = record {
  order = ap (map pair_of) c.new-constants.ensures.items ∙ ap in_order (sym heaped-none);
  within = omega (arith, ap length c.new-constants.ensures.items);
}

pub node-requires : goal.node-requires
node-requires c =
    let all : All (λ n. n < length c.args.store.now) c.ids-id-items.result.now =
    subst (λ (xs : List ℕ). All (λ n. n < length c.args.store.now) xs) (sym c.ids-id-items.ensures) c.in_ok-terms.ensures.walk.within in
    subst (λ (n : ℕ). n < length c.args.store.now) (sym c.id-item.is) (all c.terms.id-index c.id-item.result c.terms-test.true)

pub put_own-requires : goal.put_own-requires
put_own-requires c =
    kept-in-order c.terms.constants.items (heaped (named c.args.store.now (take c.terms.id-index c.ids-id-items.result.now)) []) c.terms.invariant.order

pub terms-preserved : goal.terms-preserved
terms-preserved c =
    let trees = c.args.store.now in
    let old = map pair_of c.terms.constants.items in
    record {
      order = order-more trees c.ids-id-items.result.now c.terms.id-index c.id-item.result old (map pair_of c.put_own.new.constants.items) c.terms-test.true c.id-item.is c.terms.invariant.order
          (c.in_ok-put_own.ensures trees ∙ ap (λ (t : Tree). with_own t old) c.node.ensures.tree);
      within = omega arith;
    }

pub returns-then-len-room-clause-over : goal.returns-then-len-room-clause-over
returns-then-len-room-clause-over c = λ e.
    let trees = c.args.store.now in
    let ids = c.ids-id-items.result.now in
    let old = map pair_of c.terms.constants.items in
    let formulas = map (tree_at trees) c.args.formulas.now in
    let order = order-more trees ids c.terms.id-index c.id-item.result old (map pair_of c.put_own.new.constants.items) c.terms-test.true c.id-item.is c.terms.invariant.order
    (c.in_ok-put_own.ensures trees ∙ ap (λ (t : Tree). with_own t old) c.node.ensures.tree) in
    let whole : in_order (heaped (named trees ids) []) ≡ in_order (constants_of_each formulas) =
    ap (λ (xs : List ℕ). in_order (heaped (named trees xs) [])) c.ids-id-items.ensures ∙ heaped-order (named trees c.in_ok-terms.terms) formulas c.in_ok-terms.ensures.constants c.requires.sorts in
    omega (arith, c.if-len-room.true, c.len.ensures, ap length order, length-map c.put_own.new.constants.items pair_of, order-fewer trees ids (c.terms.id-index + 1), ap length whole)

pub returns : goal.returns
returns c =
    let trees = c.args.store.now in
    let ids = c.ids-id-items.result.now in
    let formulas = map (tree_at trees) c.args.formulas.now in
    let whole : in_order (heaped (named trees ids) []) ≡ in_order (constants_of_each formulas) =
    ap (λ (xs : List ℕ). in_order (heaped (named trees xs) [])) c.ids-id-items.ensures ∙ heaped-order (named trees c.in_ok-terms.terms) formulas c.in_ok-terms.ensures.constants c.requires.sorts in
    record {
      constants = c.terms.invariant.order ∙ ap (λ (xs : List ℕ). in_order (heaped (named trees xs) [])) (take_all c.terms.id-index ids c.terms-test.false) ∙ whole;
      within = c.terms.invariant.within;
      over = λ e. absurd (cc);
    }
