use Rattle.std.proofs.Common.{◌≡◌, ◌+◌, ◌++◌, ◌∷◌, [], ℕ, List, take, ap, sym, subst, ◌∙◌}
use Rattle.std.proofs.lemmas.List.{take_more, take_all, map-append}
use Rattle.qv_words.specs.Tree.{Tree}
use Rattle.qv_words.specs.Clauses.{with_nodes}
use Rattle.qv_store.specs.Nodes.{tree_at}
use Rattle.qv_store.specs.Walks.{named}
use Rattle.qv_choose.specs.Listing.{numbers_in}
use Rattle.qv_choose.proofs.Lists.{Noting, noted-next, listed-one}
use Rattle.qv_choose.proofs.listing.list_one.Goals as goal

pub terms-preserved : goal.terms-preserved
terms-preserved c =
    let trees = c.args.store.now in
    let ids = c.ids-term-items.result.now in
    let k = c.terms.term-index in
    let next : named trees (take (k + 1) ids) ≡ named trees (take k ids) ++ tree_at trees c.term-item.result ∷ [] =
    ap (named trees) (take_more ids k c.term-item.result c.terms-test.true ∙ ap (λ (n : ℕ). take k ids ++ n ∷ []) (sym c.term-item.is)) ∙ map-append (tree_at trees) (take k ids) (c.term-item.result ∷ []) in
    subst (λ (us : List Tree). Noting c.args.first c.args.number us (numbers_in c.args.lists.now) (numbers_in c.note_term.new.lists)) (sym next)
    (noted-next c.args.first c.args.number (named trees (take k ids)) (tree_at trees c.term-item.result) (numbers_in c.args.lists.now) (numbers_in c.terms.lists) (numbers_in c.note_term.new.lists) c.requires.less c.terms.invariant c.in_ok-note_term.ensures)

pub returns : goal.returns
returns c =
    let trees = c.args.store.now in
    let ids = c.ids-term-items.result.now in
    let t = tree_at trees c.args.formula in
    let whole : named trees (take c.terms.term-index ids) ≡ with_nodes [] t =
    ap (named trees) (take_all c.terms.term-index ids c.terms-test.false ∙ c.ids-term-items.ensures) ∙ c.in_ok-visit.ensures.nodes c.requires.free ∙ ap (λ (ws : List ℕ). with_nodes (named trees ws) t) c.new-walk.ensures in
    record {
      listed = listed-one c.args.first c.args.number t (numbers_in c.args.lists.now) (numbers_in c.terms.lists) c.requires.free
          (subst (λ (us : List Tree). Noting c.args.first c.args.number us (numbers_in c.args.lists.now) (numbers_in c.terms.lists)) whole c.terms.invariant);
    }
