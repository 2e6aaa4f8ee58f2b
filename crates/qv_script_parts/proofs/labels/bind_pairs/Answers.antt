use Rattle.std.proofs.Common.{◌≡◌, ◌<◌, ◌≤◌, ◌+◌, ◌∷◌, ℕ, Some, List, Bor, length, sym, ap, subst, ◌∙◌, arith}
use Rattle.std.specs.Prelude.{option_map}
use Rattle.std.proofs.lemmas.Option.{slice_get_within}
use Rattle.qv_sexpr.specs.declared.items.Item.{Item}
use Rattle.qv_sexpr.specs.Copying.{EndsBefore}
use Rattle.qv_sexpr.proofs.Copies.{ends_once}
use Rattle.qv_elab_items.specs.Flat.{name_in}
use Rattle.qv_elab_items.proofs.Within.{item-at}
use Rattle.qv_script_parts.proofs.Walks.{AreLeft, pairs-begin, pairs-within, next-pair, none-pairs, name-of-pair, named-some, named-none, open-item}
use Rattle.qv_script_parts.proofs.labels.bind_pairs.Goals.{in-Some+in_ok-push, in_default-name_in}
use Rattle.qv_script_parts.proofs.labels.bind_pairs.Goals as goal

pub pairs-init : goal.pairs-init
pairs-init c = record {
  left = λ ps h.
      let a = c.args in
      let there = item-at a.expr.now.items.items a.list c.index.result.now (pairs-within a.expr.now a.list ps h) c.index.ensures in
      pairs-begin a.expr.now a.list c.in-Open.close ps a.bound.now c.index.result.now there c.in-Open.is h;
}

pub behind-at-requires : goal.behind-at-requires
behind-at-requires c =
    let a = c.args in
    let r = c.requires in
    let n = next-pair a.expr.now.items.items a.expr.now.text.items c.in-Open.close r.0 a.bound.now c.pairs.at c.pairs.bound (c.pairs.invariant.left r.0 r.1) c.pairs-test.true in
    let o = open-item a.expr.now a.list c.in-Open.close c.index.result.now (item-at a.expr.now.items.items a.list c.index.result.now (pairs-within a.expr.now a.list r.0 r.1) c.index.ensures) c.in-Open.is r.0 r.1 in
    let le : n.behind ≤ length a.expr.now.items.items = omega (arith, n.within, o) in
    subst (λ (its : List Item). (to : ℕ) × (to ≤ length its) × (c.pairs.at < to) × EndsBefore its c.pairs.at to) (sym c.deref-in-pairs.ensures.value) (n.behind, le, n.rises, n.ends)

pub pairs-smaller : goal.pairs-smaller
pairs-smaller c =
    let a = c.args in
    let r = c.requires in
    let n = next-pair a.expr.now.items.items a.expr.now.text.items c.in-Open.close r.0 a.bound.now c.pairs.at c.pairs.bound (c.pairs.invariant.left r.0 r.1) c.pairs-test.true in
    let ends = subst (λ (its : List Item). EndsBefore its c.pairs.at c.behind-at.result) c.deref-in-pairs.ensures.value c.behind-at.ensures in
    let same = ends_once a.expr.now.items.items c.pairs.at n.behind c.behind-at.result n.ends ends in
    omega (arith, n.rises, same, c.pairs-test.true)

pub pairs-preserved : goal.pairs-preserved
pairs-preserved c = record {
  left = λ ps h.
      let a = c.args in
      let its = a.expr.now.items.items in
      let text = a.expr.now.text.items in
      let n = next-pair its text c.in-Open.close ps a.bound.now c.pairs.at c.pairs.bound (c.pairs.invariant.left ps h) c.pairs-test.true in
      let ends = subst (λ (xs : List Item). EndsBefore xs c.pairs.at c.behind-at.result) c.deref-in-pairs.ensures.value c.behind-at.ensures in
      let same = ends_once its c.pairs.at n.behind c.behind-at.result n.ends ends in
      let item = item-at its (c.pairs.at + 1) c.index-in-pairs.result.now (slice_get_within its (c.pairs.at + 1) _ n.name_stands.item) c.index-in-pairs.ensures in
      let name : option_map (λ (m : Bor (List ℕ)). m.now) c.name_in.result ≡ Some n.p.name =
      c.name_in.ensures ∙ ap (λ (t : List ℕ). name_in t c.index-in-pairs.result.now) c.deref.ensures.value ∙ name-of-pair its text c.in-Open.close ps a.bound.now c.pairs.at c.pairs.bound n c.index-in-pairs.result.now item in
      let bound : c.match-name_in.bound ≡ n.p.name ∷ c.pairs.bound =
      elim c.match-name_in.branch [
        | in-Some+in_ok-push w ↦ w.bound-is ∙ w.in_ok-push.ensures.ok ∙ ap (λ x. x ∷ c.pairs.bound) (named-some c.name_in.result w.in-Some.name n.p.name name w.in-Some.is)
        | in_default-name_in w ↦ absurd (named-none c.name_in.result n.p.name name w.in_default-name_in.not-Some)
      ] in
      subst (λ m. AreLeft its text c.in-Open.close ps a.bound.now m c.match-name_in.bound) same
      (subst (λ (ns : List (List ℕ)). AreLeft its text c.in-Open.close ps a.bound.now n.behind ns) (sym bound) n.after);
}

pub returns : goal.returns
returns c = λ ps h.
    let a = c.args in
    none-pairs a.expr.now.items.items a.expr.now.text.items c.in-Open.close ps a.bound.now c.pairs.at c.pairs.bound (c.pairs.invariant.left ps h) (omega (arith, c.pairs-test.false))
