use Rattle.std.proofs.Common.{◌≡◌, List, Ok, Err, true, false, refl, sym, subst, ◌∙◌}
use Rattle.std.specs.Prelude.{Result, IfOk}
use Rattle.std.specs.Result.{IsErrAnd}
use Rattle.qv_words.specs.Sort.{IsLawful}
use Rattle.qv_words.specs.declared.sort.Sort.{Sort}
use Rattle.qv_words.specs.Tree.{Tree}
use Rattle.qv_elab_defs.specs.Faults.{Fault as TermFault}
use Rattle.qv_elab_defs.specs.declared.faults.ElabFault.{ElabFault}
use Rattle.qv_elab_defs.specs.Scopes.{Synonym, sort_key}
use Rattle.qv_elab_defs.specs.Synonyms.{scoped_sort}
use Rattle.qv_elab_defs.specs.Answers.{ReadsSort}
use Rattle.qv_elab_defs.proofs.ElaboratedTrees.{scoped-sorts-are-lawful}
use Rattle.qv_elab_scope.specs.Force.{Force}
use Rattle.qv_elab_scope.specs.Kept.{IsScopeIn}
use Rattle.qv_script_defs.specs.declared.effects.Effect.{Effect as Done}
use Rattle.qv_script_defs.specs.declared.faults.ScriptFault.{ScriptFault}
use Rattle.qv_script_defs.specs.declared.faults.ScriptKind.TheVariants.{NameInUse}
use Rattle.qv_script_defs.specs.Faults.{fault_of}
use Rattle.qv_script_defs.specs.State.{is_sort_taken, scope_of, with_entry}
use Rattle.qv_script_defs.specs.Moves.{Move, Quiet, define_sort}
use Rattle.qv_script_stack.specs.Held.{Held, IsScriptIn}
use Rattle.qv_script_stack.specs.Steps.{Settles}
use Rattle.qv_script_stack.proofs.Holding.{sort_taken-held}
use Rattle.qv_script_stack.proofs.Asserting.{held-synonym}
use Rattle.qv_script_stack.proofs.Stepping.{settles-fault, settles-short}
use Rattle.qv_script_plain.proofs.Plain.{sort-taken, sort-done, sort-faulty}
use Rattle.qv_script_plain.proofs.simple.name_sort.Goals as goal

pub returns-then-is_sort_taken-clause-step : goal.returns-then-is_sort_taken-clause-step
returns-then-is_sort_taken-clause-step c = λ trees s e h p.
    let taken : is_sort_taken s c.args.name.now ≡ true = sym (sort_taken-held trees _ s c.args.name.now h) ∙ sym c.is_sort_taken.ensures ∙ c.if-is_sort_taken.true in
    settles-fault trees c.args.stack.now (define_sort c.args.place s c.args.name.now e) c.args.place NameInUse c.fault_at.result c.fault_at.ensures (sort-taken c.args.place s c.args.name.now e taken)

err-of : (trees : List Tree) (held : Held) (given : Move) (fault : ElabFault) (r : Result Done ScriptFault) → IsErrAnd r (λ f. f ≡ fault_of fault) → Settles trees held given (Err (fault_of fault)) → Settles trees held given r
err-of trees held given fault (Ok d) h g = absurd h
err-of trees held given fault (Err f) h g = subst (λ (x : ScriptFault). Settles trees held given (Err x)) (sym h) g

pub returns-in_err-sort-clause-step : goal.returns-in_err-sort-clause-step
returns-in_err-sort-clause-step c = λ trees s e h p.
    let free : is_sort_taken s c.args.name.now ≡ false = sym (sort_taken-held trees _ s c.args.name.now h) ∙ sym c.is_sort_taken.ensures ∙ c.if-is_sort_taken.false in
    let scope = subst (λ (f : Force). IsScopeIn trees f (scope_of s)) (sym c.scope.ensures) h.scope in
    let told = subst (λ (r : Result Sort ElabFault). ReadsSort (scoped_sort (scope_of s) e) r) c.in_err-sort.was (c.scoped_sort.ensures trees (scope_of s) e p.0 scope p.1) in
    err-of trees c.args.stack.now (define_sort c.args.place s c.args.name.now e) c.in_err-sort.field-0.0 c.from_residual.result c.from_residual.ensures.1
    (sort-faulty trees c.args.stack.now c.args.place s c.args.name.now e c.in_err-sort.field-0.0 free told)

pub returns-clause-step : goal.returns-clause-step
returns-clause-step c = λ trees s e h p.
    let n = c.args.name.now in
    let t = c.in_ok-sort.sort in
    let now = with_entry (sort_key n) (Synonym t) s in
    let free : is_sort_taken s n ≡ false = sym (sort_taken-held trees _ s n h) ∙ sym c.is_sort_taken.ensures ∙ c.if-is_sort_taken.false in
    let scope = subst (λ (f : Force). IsScopeIn trees f (scope_of s)) (sym c.scope.ensures) h.scope in
    let told = subst (λ (r : Result Sort ElabFault). ReadsSort (scoped_sort (scope_of s) e) r) c.in_ok-sort.was (c.scoped_sort.ensures trees (scope_of s) e p.0 scope p.1) in
    let lawful = subst (λ (r : Result Sort TermFault). IfOk r IsLawful) told (scoped-sorts-are-lawful (scope_of s) e h.scope.is_scope) in (
      now,
      Quiet,
      sort-done c.args.place s n e t free told,
      subst (λ (k : Held). IsScriptIn trees k now) (sym c.in_ok-add_sort.ensures.ok) (held-synonym trees c.args.stack.now s n t lawful h),
      refl,
    )

pub returns-in_err-add_sort-clause-step : goal.returns-in_err-add_sort-clause-step
returns-in_err-add_sort-clause-step c = λ trees s e h p.
    let free : is_sort_taken s c.args.name.now ≡ false = sym (sort_taken-held trees _ s c.args.name.now h) ∙ sym c.is_sort_taken.ensures ∙ c.if-is_sort_taken.false in
    let scope = subst (λ (f : Force). IsScopeIn trees f (scope_of s)) (sym c.scope.ensures) h.scope in
    let told = subst (λ (r : Result Sort ElabFault). ReadsSort (scoped_sort (scope_of s) e) r) c.in_ok-sort.was (c.scoped_sort.ensures trees (scope_of s) e p.0 scope p.1) in
    settles-short trees c.add_sort.new.self (define_sort c.args.place s c.args.name.now e) _ c.from_residual-in_err-add_sort.result
    (sort-done c.args.place s c.args.name.now e c.in_ok-sort.sort free told) c.from_residual-in_err-add_sort.ensures.1
