use Rattle.std.proofs.Common.{◌≡◌, sym, ap, subst, ◌∙◌}
use Rattle.std.specs.Prelude.{Result, option_and_then}
use Rattle.qv_words.specs.declared.sort.Sort.{Sort}
use Rattle.qv_elab_defs.specs.declared.faults.ElabFault.{ElabFault}
use Rattle.qv_elab_defs.specs.Faults.{Fault}
use Rattle.qv_elab_defs.specs.Sorts.{read_sort}
use Rattle.qv_elab_defs.specs.Synonyms.{scoped_sort}
use Rattle.qv_elab_defs.specs.Answers.{answered, ReadsSort}
use Rattle.qv_elab_scope.specs.Force.{sort_for}
use Rattle.qv_elab_scope.proofs.SortNames.{name-begins, sort-named, sort-itself, reads-answered}
use Rattle.qv_elab_scope.proofs.sorts.scoped_sort.Goals as goal

pub returns-in-Some : goal.returns-in-Some
returns-in-Some c = λ trees defs e to s stands.
    let begins = ap (option_and_then (λ name. sort_for name c.args.scope.now)) (name-begins c.args.expr.now.items.items c.args.expr.now.text.items c.args.at e to stands) in
    sort-named trees c.args.scope.now defs e s c.in-Some.sort (sym c.in-Some.is ∙ c.named_sort.ensures ∙ begins)

pub returns-in-None : goal.returns-in-None
returns-in-None c = λ trees defs e to s stands.
    let begins = ap (option_and_then (λ name. sort_for name c.args.scope.now)) (name-begins c.args.expr.now.items.items c.args.expr.now.text.items c.args.at e to stands) in
    let itself : scoped_sort defs e ≡ read_sort e = sort-itself trees c.args.scope.now defs e s (sym c.in-None.is ∙ c.named_sort.ensures ∙ begins) in
    subst (λ (q : Result Sort ElabFault). ReadsSort (scoped_sort defs e) q) (sym (c.read_sort.ensures e to stands))
    (subst (λ (r : Result Sort Fault). ReadsSort r (answered (read_sort e))) (sym itself) (reads-answered (read_sort e)))
