use Rattle.std.proofs.Common.{◌∷◌, ℕ, List, ap, ◌∙◌, arith}
use Rattle.std.proofs.lemmas.Result.{err_from_is_err_and}
use Rattle.qv_elab_items.specs.Flat.{name_in}
use Rattle.qv_elab_scope.proofs.BoundVariables.{pair-within, sort-begins, pair-named, is-named, name-given, read-lawful, sort-out}
use Rattle.qv_elab_scope.proofs.variables.bind_variable.Goals as goal

pub scoped_sort-requires-clause-at : goal.scoped_sort-requires-clause-at
scoped_sort-requires-clause-at c = sort-begins c.args.expr.now c.args.at c.requires.pair.0 c.requires.pair.1

pub returns-in_err-sort-clause-binds : goal.returns-in_err-sort-clause-binds
returns-in_err-sort-clause-binds c = λ defs p s h.
    let a = c.args in
    let q = err_from_is_err_and c.from_residual.result c.from_residual.ensures.1 in
    sort-out a.store.now defs a.level p a.bound.now a.bound.now c.scoped_sort.result c.in_err-sort.field-0.0 q.0 c.from_residual.result (c.scoped_sort.ensures a.store.now defs p.beside h.behind s h.beside_stands) c.in_err-sort.was q.1 q.2

pub overflow_add-at-2 : goal.overflow_add-at-2
overflow_add-at-2 c =
    let n = pair-within c.args.expr.now c.args.at c.requires.pair.0 c.requires.pair.1 in
    omega (arith, n.0, c.args.expr.now.items.small, c.args.expr.now.items.ok.0, c.args.expr.now.items.ok.1)

pub index-requires : goal.index-requires
index-requires c =
    let n = pair-within c.args.expr.now c.args.at c.requires.pair.0 c.requires.pair.1 in
    omega (arith, n.0, c.args.expr.now.items.ok.0)

pub unwrap-name-requires : goal.unwrap-name-requires
unwrap-name-requires c =
    let named = pair-named c.args.expr.now c.args.at c.requires.pair.0 c.requires.pair.1 c.index.result.now c.index.ensures in
    is-named c.name_in.result c.requires.pair.0.name (c.name_in.ensures ∙ ap (λ t. name_in t c.index.result.now) c.deref.ensures.value ∙ named)

pub put-requires-clause-sorted : goal.put-requires-clause-sorted
put-requires-clause-sorted c =
    let p = c.requires.pair.0 in
    let h = c.requires.pair.1 in
    let defs = c.requires.scope.0 in
    let s = c.requires.scope.1 in
    (read-lawful defs p.beside c.in_ok-sort.sort s.is_scope (c.in_ok-sort.ensures c.args.store.now defs p.beside h.behind s h.beside_stands), tt)

pub returns-clause-binds : goal.returns-clause-binds
returns-clause-binds c = λ defs p s h.
    let named = pair-named c.args.expr.now c.args.at p h c.index.result.now c.index.ensures in
    let name = name-given c.name_in.result c.unwrap-name.result p.name c.unwrap-name.ensures (c.name_in.ensures ∙ ap (λ t. name_in t c.index.result.now) c.deref.ensures.value ∙ named) in
    record {
      s = c.in_ok-sort.sort;
      id = c.in_ok-id.id;
      read = c.in_ok-sort.ensures c.args.store.now defs p.beside h.behind s h.beside_stands;
      names_are = c.in_ok-push.ensures.ok ∙ ap (λ (n : List ℕ). (n, c.in_ok-id.id) ∷ c.args.bound.now) name;
      stands = c.in_ok-id.ensures.id;
      below_is = c.in-Some.ensures.1;
    }
