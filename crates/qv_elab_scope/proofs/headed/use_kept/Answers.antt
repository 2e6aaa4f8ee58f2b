use Rattle.std.proofs.Common.{List, sym, ap, subst, ◌∙◌}
use Rattle.std.specs.Prelude.{Result}
use Rattle.qv_words.specs.declared.sort.Sort.{Sort}
use Rattle.qv_words.specs.Tree.{Tree}
use Rattle.qv_store.specs.Walks.{named}
use Rattle.qv_elab_scope.specs.declared.scope.Kept.{Kept}
use Rattle.qv_elab_defs.specs.Faults.{Fault}
use Rattle.qv_elab_defs.specs.Scopes.{Definition}
use Rattle.qv_elab_macros.specs.Readings.{IsUsed, used_at}
use Rattle.qv_elab_defs.specs.Answers.{Answers}
use Rattle.qv_elab_defs.specs.Beginnings.{Begins}
use Rattle.qv_elab_scope.specs.Kept.{IsKeptFor}
use Rattle.qv_elab_scope.proofs.Usable.{as-used, used-kept}
use Rattle.qv_elab_scope.proofs.headed.use_kept.Goals as goal

pub returns-in-Definition-clause-answers : goal.returns-in-Definition-clause-answers
returns-in-Definition-clause-answers c = λ scope ss read is k.
    let a = c.args in
    let body = c.in-Definition.body in
    let sorts = c.in-Definition.sorts.items in
    let d = subst (λ (q : Kept). IsKeptFor a.store.now scope q (Definition ss read)) c.in-Definition.is k in
    let used = as-used a.store.now scope is sorts body (Definition ss read) d in
    let used' = subst (λ (us : List Sort). IsUsed a.store.now scope d.parameters d.sort d.expr us body) (sym c.deref.ensures.value) used in
    let answer = c.use_definition.ensures.answer scope d.parameters d.sort d.expr used' in
    let same = ap (λ (us : List Sort). used_at a.place a.binders scope d.parameters d.expr us (named a.store.now a.args.now)) c.deref.ensures.value ∙ used-kept a.store.now scope sorts body ss read d a.place a.binders (named a.store.now a.args.now) in
    subst (λ (r : Result Tree Fault). Answers c.use_definition.new.store r c.use_definition.result) same answer

pub returns-in-Definition-clause-begins : goal.returns-in-Definition-clause-begins
returns-in-Definition-clause-begins c = λ scope ss read is k.
    let a = c.args in
    let body = c.in-Definition.body in
    let sorts = c.in-Definition.sorts.items in
    let d = subst (λ (q : Kept). IsKeptFor a.store.now scope q (Definition ss read)) c.in-Definition.is k in
    let used = as-used a.store.now scope is sorts body (Definition ss read) d in
    let used' = subst (λ (us : List Sort). IsUsed a.store.now scope d.parameters d.sort d.expr us body) (sym c.deref.ensures.value) used in
    let begins = c.use_definition.ensures.begins scope d.parameters d.sort d.expr used' in
    let same = ap (λ (us : List Sort). used_at a.place a.binders scope d.parameters d.expr us (named a.store.now a.args.now)) c.deref.ensures.value ∙ used-kept a.store.now scope sorts body ss read d a.place a.binders (named a.store.now a.args.now) in
    subst (λ (r : Result Tree Fault). Begins r c.use_definition.result) same begins
