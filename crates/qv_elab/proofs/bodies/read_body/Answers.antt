use Rattle.std.proofs.Common.{◌≡◌, ◌<◌, ℕ, List, [], Some, length, slice_get, get_or, sym, ap, subst, ◌∙◌}
use Rattle.std.specs.Prelude.{Result, All}
use Rattle.std.proofs.lemmas.Option.{slice_get_within, slice_get-get_or}
use Rattle.std.proofs.lemmas.Result.{err_from_is_err_and}
use Rattle.qv_sexpr.specs.declared.items.Item.{Item}
use Rattle.qv_sexpr.proofs.Copies.{begun}
use Rattle.qv_elab_defs.specs.declared.faults.ElabFault.{ElabFault}
use Rattle.qv_elab_defs.specs.declared.faults.ElabKind.TheVariants.{Sorts}
use Rattle.qv_elab_macros.specs.declared.standing.Watched.{Watched}
use Rattle.qv_elab_defs.specs.Faults.{refuse}
use Rattle.qv_elab_defs.specs.Beginnings.{beginning}
use Rattle.qv_elab_defs.proofs.Beginning.{begins-anyhow, begins-ok, begins-out}
use Rattle.qv_elab_defs.specs.Scopes.{below_binders, outermost}
use Rattle.qv_elab_defs.specs.Looking.{looks_of}
use Rattle.qv_words.proofs.Equals.{sort_eq-is}
use Rattle.qv_elab_macros.specs.Checked.{Sees, IsRead}
use Rattle.qv_elab_frames.specs.Loop.{state_of}
use Rattle.qv_elab.proofs.OwnReadings.{written, begins-below, body-begins, watched-below, place-is, other-sort, is-read, read-out}
use Rattle.qv_elab.proofs.bodies.read_body.Goals as goal

-- the item that is read
item-at : (its : List Item) (at : ℕ) (x : Item) → at < length its → x ≡ get_or its at x → slice_get its at ≡ Some x
item-at its at x lt e = slice_get-get_or its at x lt ∙ ap Some (sym e)

pub run-requires-clause-reading : goal.run-requires-clause-reading
run-requires-clause-reading c =
    let a = c.args in
    let s = c.requires.scope in
    let b = c.requires.begun in
    let there = begun a.expr.now a.at c.requires.expr c.requires.at in
    (s.0, there.1, looks_of there.0 (below_binders b.0 (outermost s.0)) [], (s.1, begins-below a.store.now a.expr.now a.scope.now s.0 b.0 (state_of a.elaborator.now) a.at there.1 there.0 s.1 b.1 there.2))

pub returns-in_err-id-clause-reads : goal.returns-in_err-id-clause-reads
returns-in_err-id-clause-reads c = λ defs names e to s b many stands.
    let a = c.args in
    let seen = c.run.ensures.sees defs to (looks_of e (below_binders names (outermost defs)) []) s (begins-below a.store.now a.expr.now a.scope.now defs names (state_of a.elaborator.now) a.at to e s b stands) in
    let q = err_from_is_err_and c.from_residual.result c.from_residual.ensures.1 in
    read-out c.run.new.store defs names a.sort e c.run.new.elaborator.watched.items c.run.result c.in_err-id.field-0.0 q.0 c.from_residual.result seen c.in_err-id.was q.1 q.2

pub sort-requires : goal.sort-requires
sort-requires c =
    let a = c.args in
    let s = c.requires.scope in
    let b = c.requires.begun in
    let there = begun a.expr.now a.at c.requires.expr c.requires.at in
    let given = looks_of there.0 (below_binders b.0 (outermost s.0)) [] in
    let seen = c.run.ensures.sees s.0 there.1 given s.1 (begins-below a.store.now a.expr.now a.scope.now s.0 b.0 (state_of a.elaborator.now) a.at there.1 there.0 s.1 b.1 there.2) in
    let ok = subst (λ (r : Result ℕ ElabFault). Sees c.run.new.store c.run.new.elaborator.watched.items given r) c.in_ok-id.was seen in
    ok.3.below

pub reading_of-requires : goal.reading_of-requires
reading_of-requires c =
    let a = c.args in
    let s = c.requires.scope in
    let b = c.requires.begun in
    let there = begun a.expr.now a.at c.requires.expr c.requires.at in
    let given = looks_of there.0 (below_binders b.0 (outermost s.0)) [] in
    let seen = c.run.ensures.sees s.0 there.1 given s.1 (begins-below a.store.now a.expr.now a.scope.now s.0 b.0 (state_of a.elaborator.now) a.at there.1 there.0 s.1 b.1 there.2) in
    let ok = subst (λ (r : Result ℕ ElabFault). Sees c.run.new.store c.run.new.elaborator.watched.items given r) c.in_ok-id.was seen in
    subst (λ (ws : List Watched). All (λ w. w.id < length c.run.new.store) ws) (sym c.deref.ensures.value) (watched-below c.run.new.store c.run.new.elaborator.watched.items given c.in_ok-id.id ok)

pub returns-then-not-is_same-clause-reads : goal.returns-then-not-is_same-clause-reads
returns-then-not-is_same-clause-reads c = λ defs names e to s b many stands.
    let a = c.args in
    let given = looks_of e (below_binders names (outermost defs)) [] in
    let seen = c.run.ensures.sees defs to given s (begins-below a.store.now a.expr.now a.scope.now defs names (state_of a.elaborator.now) a.at to e s b stands) in
    let ok = subst (λ (r : Result ℕ ElabFault). Sees c.run.new.store c.run.new.elaborator.watched.items given r) c.in_ok-id.was seen in
    let place = place-is a.expr.now.items.items a.expr.now.text.items a.at e to c.index.result.now stands (item-at a.expr.now.items.items a.at c.index.result.now (slice_get_within a.expr.now.items.items a.at _ c.requires.at.1) c.index.ensures) in
    other-sort c.run.new.store defs names a.sort e c.run.new.elaborator.watched.items c.in_ok-id.id c.sort.result ok c.sort.ensures.sort (sym c.is_same.ensures ∙ c.if-not-is_same.true) ∙ ap (λ p. refuse p Sorts) place

pub returns-clause-reads : goal.returns-clause-reads
returns-clause-reads c = λ defs names e to s b many stands.
    let a = c.args in
    let given = looks_of e (below_binders names (outermost defs)) [] in
    let seen = c.run.ensures.sees defs to given s (begins-below a.store.now a.expr.now a.scope.now defs names (state_of a.elaborator.now) a.at to e s b stands) in
    let ok = subst (λ (r : Result ℕ ElabFault). Sees c.run.new.store c.run.new.elaborator.watched.items given r) c.in_ok-id.was seen in
    let read = is-read c.run.new.store defs names a.sort e c.run.new.elaborator.watched.items c.in_ok-id.id c.sort.result ok c.sort.ensures.sort (sym (sort_eq-is a.sort c.sort.result (sym c.is_same.ensures ∙ c.if-not-is_same.false))) in
    c.in_ok-body.ensures defs names a.sort e s.is_scope b.are_parameters (written a.expr.now.items.items a.expr.now.text.items a.at e to stands) many (subst (λ (ws : List Watched). IsRead c.run.new.store defs names a.sort e c.in_ok-id.id ws) (sym c.deref.ensures.value) read)

pub returns-in_err-id-clause-begins : goal.returns-in_err-id-clause-begins
returns-in_err-id-clause-begins c = λ defs names e to s b stands.
    let a = c.args in
    let first = body-begins a.store.now a.expr.now a.scope.now defs names (state_of a.elaborator.now) a.at to e c.run.result s b stands (c.run.ensures.begins defs to (looks_of e (below_binders names (outermost defs)) []) s) in
    let q = err_from_is_err_and c.from_residual.result c.from_residual.ensures.1 in
    begins-out (beginning e (below_binders names (outermost defs))) c.run.result c.in_err-id.field-0.0 q.0 c.from_residual.result first c.in_err-id.was q.1 q.2

pub returns-in_err-body-clause-begins : goal.returns-in_err-body-clause-begins
returns-in_err-body-clause-begins c = λ defs names e to s b stands.
    let a = c.args in
    let first = body-begins a.store.now a.expr.now a.scope.now defs names (state_of a.elaborator.now) a.at to e c.run.result s b stands (c.run.ensures.begins defs to (looks_of e (below_binders names (outermost defs)) []) s) in
    begins-anyhow (beginning e (below_binders names (outermost defs))) c.from_residual-in_err-body.result (begins-ok (beginning e (below_binders names (outermost defs))) c.run.result c.in_ok-id.id c.in_ok-id.was first)

pub returns-clause-begins : goal.returns-clause-begins
returns-clause-begins c = λ defs names e to s b stands.
    let a = c.args in
    let first = body-begins a.store.now a.expr.now a.scope.now defs names (state_of a.elaborator.now) a.at to e c.run.result s b stands (c.run.ensures.begins defs to (looks_of e (below_binders names (outermost defs)) []) s) in
    begins-ok (beginning e (below_binders names (outermost defs))) c.run.result c.in_ok-id.id c.in_ok-id.was first
