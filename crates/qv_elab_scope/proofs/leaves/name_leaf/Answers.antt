use Rattle.std.proofs.Common.{Some, sym, ap, subst, ◌∙◌}
use Rattle.std.specs.Prelude.{Result}
use Rattle.qv_words.specs.Tree.{Tree}
use Rattle.qv_elab_scope.specs.declared.scope.Kept.{Kept}
use Rattle.qv_elab_defs.specs.Faults.{Fault}
use Rattle.qv_elab_defs.specs.Scopes.{found}
use Rattle.qv_elab_defs.specs.Leaves.{entry_tree, named_tree}
use Rattle.qv_elab_defs.specs.Answers.{Answers}
use Rattle.qv_elab_defs.specs.Beginnings.{Begins}
use Rattle.qv_elab_defs.proofs.Beginning.{ok-is}
use Rattle.qv_elab_scope.specs.Kept.{IsKeptFor}
use Rattle.qv_elab_scope.proofs.Tokened.{found-at, bound-leaf, none-bound, kept-lawful, kept-there, none-kept}
use Rattle.qv_elab_scope.proofs.leaves.name_leaf.Goals as goal

pub returns-in-Some-clause-answers : goal.returns-in-Some-clause-answers
returns-in-Some-clause-answers c = λ defs d i e b h.
    let name = c.args.name.now in
    bound-leaf c.args.store.now c.args.place c.in-Some.id name d (found name c.args.bound.now) (found name d.bound) c.in-Some.ensures (found-at c.args.store.now name c.args.bound.now d.bound h)

pub kept_leaf-requires-clause-kept : goal.kept_leaf-requires-clause-kept
kept_leaf-requires-clause-kept c =
    let there = kept-there c.args.store.now c.args.scope.now c.requires.0 c.args.name.now c.in-Some-find.kept.now c.requires.1 c.in-Some-find.ensures in
    (there.0.rest, there.0.entry, there.0.rest_is, subst (λ (k : Kept). IsKeptFor c.args.store.now there.0.rest k there.0.entry) (sym there.1) there.0.kept_for)

pub kept_leaf-requires-clause-lawful : goal.kept_leaf-requires-clause-lawful
kept_leaf-requires-clause-lawful c = kept-lawful c.args.store.now c.args.scope.now c.requires.0 c.args.name.now c.in-Some-find.kept.now c.requires.1 c.in-Some-find.ensures

pub returns-in-Some-find-clause-answers : goal.returns-in-Some-find-clause-answers
returns-in-Some-find-clause-answers c = λ defs d i e b h.
    let name = c.args.name.now in
    let store = c.args.store.now in
    let none = none-bound store (found name c.args.bound.now) (found name d.bound) c.in_default.ensures (found-at store name c.args.bound.now d.bound h) in
    let there = kept-there store c.args.scope.now defs name c.in-Some-find.kept.now i c.in-Some-find.ensures in
    let kept = subst (λ (k : Kept). IsKeptFor store there.0.rest k there.0.entry) (sym there.1) there.0.kept_for in
    let answer = c.kept_leaf.ensures.answers there.0.rest there.0.entry name there.0.rest_is kept in
    let is = ap (named_tree c.args.place name d) none ∙ ap (λ s. entry_tree c.args.place name d.binders (found name s)) e ∙ ap (entry_tree c.args.place name d.binders) there.0.entry_is ∙ ap (λ n. entry_tree c.args.place name n (Some there.0.entry)) b in
    subst (λ (r : Result Tree Fault). Answers c.kept_leaf.new.store r c.kept_leaf.result) (sym is) answer

pub returns-in-None-clause-answers : goal.returns-in-None-clause-answers
returns-in-None-clause-answers c = λ defs d i e b h.
    let name = c.args.name.now in
    let store = c.args.store.now in
    let none = none-bound store (found name c.args.bound.now) (found name d.bound) c.in_default.ensures (found-at store name c.args.bound.now d.bound h) in
    let nothing = none-kept store c.args.scope.now defs name i c.in-None.ensures in
    let is = ap (named_tree c.args.place name d) none ∙ ap (λ s. entry_tree c.args.place name d.binders (found name s)) e ∙ ap (entry_tree c.args.place name d.binders) nothing in
    subst (λ (r : Result Tree Fault). Answers c.truth_leaf.new.store r c.truth_leaf.result) (sym is) c.truth_leaf.ensures.answers

pub returns-in-Some-clause-begins : goal.returns-in-Some-clause-begins
returns-in-Some-clause-begins c = λ defs d i e b h.
    let name = c.args.name.now in
    let leaf = bound-leaf c.args.store.now c.args.place c.in-Some.id name d (found name c.args.bound.now) (found name d.bound) c.in-Some.ensures (found-at c.args.store.now name c.args.bound.now d.bound h) in
    ok-is (named_tree c.args.place name d (found name d.bound)) leaf.0 leaf.1

pub returns-in-Some-find-clause-begins : goal.returns-in-Some-find-clause-begins
returns-in-Some-find-clause-begins c = λ defs d i e b h.
    let name = c.args.name.now in
    let store = c.args.store.now in
    let none = none-bound store (found name c.args.bound.now) (found name d.bound) c.in_default.ensures (found-at store name c.args.bound.now d.bound h) in
    let there = kept-there store c.args.scope.now defs name c.in-Some-find.kept.now i c.in-Some-find.ensures in
    let kept = subst (λ (k : Kept). IsKeptFor store there.0.rest k there.0.entry) (sym there.1) there.0.kept_for in
    let begins = c.kept_leaf.ensures.begins there.0.rest there.0.entry name there.0.rest_is kept in
    let is = ap (named_tree c.args.place name d) none ∙ ap (λ s. entry_tree c.args.place name d.binders (found name s)) e ∙ ap (entry_tree c.args.place name d.binders) there.0.entry_is ∙ ap (λ n. entry_tree c.args.place name n (Some there.0.entry)) b in
    subst (λ (r : Result Tree Fault). Begins r c.kept_leaf.result) (sym is) begins

pub returns-in-None-clause-begins : goal.returns-in-None-clause-begins
returns-in-None-clause-begins c = λ defs d i e b h.
    let name = c.args.name.now in
    let store = c.args.store.now in
    let none = none-bound store (found name c.args.bound.now) (found name d.bound) c.in_default.ensures (found-at store name c.args.bound.now d.bound h) in
    let nothing = none-kept store c.args.scope.now defs name i c.in-None.ensures in
    let is = ap (named_tree c.args.place name d) none ∙ ap (λ s. entry_tree c.args.place name d.binders (found name s)) e ∙ ap (entry_tree c.args.place name d.binders) nothing in
    subst (λ (r : Result Tree Fault). Begins r c.truth_leaf.result) (sym is) c.truth_leaf.ensures.begins
