use Rattle.std.proofs.Common.{◌++◌, ◌∷◌, [], ℕ, List, is_some, sym, ap, ◌∙◌}
use Rattle.std.proofs.lemmas.Result.{err_from_is_err_and}
use Rattle.qv_elab.specs.declared.bodies.Parameter.{Parameter}
use Rattle.qv_elab_items.specs.Flat.{name_in}
use Rattle.qv_elab_items.specs.Places.{place_in}
use Rattle.qv_elab.proofs.ReadParameters.{sort-begins, name-same, new-read, sort-out, memory-out}
use Rattle.qv_elab.proofs.parameters.add_parameter.Goals as goal

pub scoped_sort-requires-clause-at : goal.scoped_sort-requires-clause-at
scoped_sort-requires-clause-at c = sort-begins c.args.expr.now c.args.at c.requires.pair.0 c.requires.pair.1

pub returns-in_err-sort : goal.returns-in_err-sort
returns-in_err-sort c = λ trees defs p i h.
    let a = c.args in
    let same = name-same a.expr.now a.at p h c.index-item.result.now c.index-item.ensures c.in-Some.name.now (c.in-Some.ensures ∙ ap (λ t. name_in t c.index-item.result.now) c.deref.ensures.value) in
    let fresh = ap (λ n. is_some (place_in n a.names.now)) (sym same) ∙ ap (λ o. is_some o) (sym c.find.ensures) ∙ sym c.is_some.ensures ∙ c.if-is_some.false in
    let q = err_from_is_err_and c.from_residual.result c.from_residual.ensures.1 in
    sort-out defs p a.names.now fresh a.names.now a.parameters.now.items a.parameters.now.items c.scoped_sort.result c.in_err-sort.field-0.0 q.0 c.from_residual.result (c.scoped_sort.ensures trees defs p.beside h.behind i h.beside_stands) c.in_err-sort.was q.1 q.2

pub returns-in_err-own : goal.returns-in_err-own
returns-in_err-own c = λ trees defs p i h.
    let a = c.args in
    let same = name-same a.expr.now a.at p h c.index-item.result.now c.index-item.ensures c.in-Some.name.now (c.in-Some.ensures ∙ ap (λ t. name_in t c.index-item.result.now) c.deref.ensures.value) in
    let fresh = ap (λ n. is_some (place_in n a.names.now)) (sym same) ∙ ap (λ o. is_some o) (sym c.find.ensures) ∙ sym c.is_some.ensures ∙ c.if-is_some.false in
    let q = err_from_is_err_and c.from_residual-in_err-own.result c.from_residual-in_err-own.ensures.1 in
    memory-out defs p a.names.now c.in_ok-sort.sort (new-read defs p a.names.now fresh c.scoped_sort.result c.in_ok-sort.sort (c.scoped_sort.ensures trees defs p.beside h.behind i h.beside_stands) c.in_ok-sort.was) _ a.parameters.now.items _ q.0 c.from_residual-in_err-own.result q.1 q.2

pub returns-in_err-reserve : goal.returns-in_err-reserve
returns-in_err-reserve c = λ trees defs p i h.
    let a = c.args in
    let same = name-same a.expr.now a.at p h c.index-item.result.now c.index-item.ensures c.in-Some.name.now (c.in-Some.ensures ∙ ap (λ t. name_in t c.index-item.result.now) c.deref.ensures.value) in
    let fresh = ap (λ n. is_some (place_in n a.names.now)) (sym same) ∙ ap (λ o. is_some o) (sym c.find.ensures) ∙ sym c.is_some.ensures ∙ c.if-is_some.false in
    let q = err_from_is_err_and c.from_residual-in_err-reserve.result c.from_residual-in_err-reserve.ensures.1 in
    memory-out defs p a.names.now c.in_ok-sort.sort (new-read defs p a.names.now fresh c.scoped_sort.result c.in_ok-sort.sort (c.scoped_sort.ensures trees defs p.beside h.behind i h.beside_stands) c.in_ok-sort.was) _ a.parameters.now.items _ q.0 c.from_residual-in_err-reserve.result q.1 q.2

pub returns-in_err-push : goal.returns-in_err-push
returns-in_err-push c = λ trees defs p i h.
    let a = c.args in
    let same = name-same a.expr.now a.at p h c.index-item.result.now c.index-item.ensures c.in-Some.name.now (c.in-Some.ensures ∙ ap (λ t. name_in t c.index-item.result.now) c.deref.ensures.value) in
    let fresh = ap (λ n. is_some (place_in n a.names.now)) (sym same) ∙ ap (λ o. is_some o) (sym c.find.ensures) ∙ sym c.is_some.ensures ∙ c.if-is_some.false in
    let q = err_from_is_err_and c.from_residual-in_err-push.result c.from_residual-in_err-push.ensures.1 in
    memory-out defs p a.names.now c.in_ok-sort.sort (new-read defs p a.names.now fresh c.scoped_sort.result c.in_ok-sort.sort (c.scoped_sort.ensures trees defs p.beside h.behind i h.beside_stands) c.in_ok-sort.was) _ a.parameters.now.items _ q.0 c.from_residual-in_err-push.result q.1 q.2

pub returns : goal.returns
returns c = λ trees defs p i h.
    let a = c.args in
    let same = name-same a.expr.now a.at p h c.index-item.result.now c.index-item.ensures c.in-Some.name.now (c.in-Some.ensures ∙ ap (λ t. name_in t c.index-item.result.now) c.deref.ensures.value) in
    let fresh = ap (λ n. is_some (place_in n a.names.now)) (sym same) ∙ ap (λ o. is_some o) (sym c.find.ensures) ∙ sym c.is_some.ensures ∙ c.if-is_some.false in
    let own : Parameter = record { name = c.in_ok-own.own; sort = c.in_ok-sort.sort } in
    record {
      parameter = own;
      read = new-read defs p a.names.now fresh c.scoped_sort.result c.in_ok-sort.sort (c.scoped_sort.ensures trees defs p.beside h.behind i h.beside_stands) c.in_ok-sort.was;
      name_is = c.in_ok-own.ensures.items ∙ same;
      names_are = c.in_ok-push.ensures.ok ∙ ap (λ (n : List ℕ). n ∷ a.names.now) same;
      behind_are = c.push_reserved.ensures.items ∙ ap (λ (ps : List Parameter). ps ++ own ∷ []) c.reserve.ensures.items;
    }
