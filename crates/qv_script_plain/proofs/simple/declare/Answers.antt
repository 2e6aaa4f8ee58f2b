use Rattle.std.proofs.Common.{◌≡◌, List, Ok, Err, true, false, refl, sym, subst, ◌∙◌}
use Rattle.std.specs.Prelude.{Result, IfOk}
use Rattle.std.specs.Result.{IsErrAnd}
use Rattle.qv_words.specs.Sort.{IsLawful}
use Rattle.qv_words.specs.declared.sort.Sort.{Sort}
use Rattle.qv_words.specs.Tree.{Tree}
use Rattle.qv_elab_defs.specs.Faults.{Fault as TermFault}
use Rattle.qv_elab_defs.specs.declared.faults.ElabFault.{ElabFault}
use Rattle.qv_elab_defs.specs.Synonyms.{scoped_sort}
use Rattle.qv_elab_defs.specs.Answers.{ReadsSort}
use Rattle.qv_elab_defs.proofs.ElaboratedTrees.{scoped-sorts-are-lawful}
use Rattle.qv_elab_scope.specs.Force.{Force}
use Rattle.qv_elab_scope.specs.Kept.{IsScopeIn}
use Rattle.qv_script_defs.specs.declared.effects.Effect.{Effect as Done}
use Rattle.qv_script_defs.specs.declared.faults.ScriptFault.{ScriptFault}
use Rattle.qv_script_stack.specs.declared.held.Declared.{Declared}
use Rattle.qv_script_stack.specs.Steps.{Settles}
use Rattle.qv_script_defs.specs.Faults.{fault_of}
use Rattle.qv_script_stack.specs.Changes.{with_constant as constant_held}
use Rattle.qv_script_defs.specs.declared.faults.ScriptKind.TheVariants.{NameInUse}
use Rattle.qv_script_defs.specs.State.{is_taken, scope_of, with_constant}
use Rattle.qv_script_defs.specs.Moves.{Move, Quiet, declare}
use Rattle.qv_script_stack.specs.Held.{Held, IsScriptIn}
use Rattle.qv_script_stack.proofs.Holding.{taken-held, held-constant}
use Rattle.qv_script_stack.proofs.Stepping.{settles-fault, settles-short}
use Rattle.qv_script_plain.proofs.Plain.{declare-taken, declare-done, declare-faulty}
use Rattle.qv_script_plain.proofs.simple.declare.Goals as goal

pub returns-then-is_taken-clause-step : goal.returns-then-is_taken-clause-step
returns-then-is_taken-clause-step c = λ trees s e h p.
    let taken : is_taken s c.args.name.now ≡ true = sym (taken-held trees _ s c.args.name.now h) ∙ sym c.is_taken.ensures ∙ c.if-is_taken.true in
    settles-fault trees c.args.stack.now (declare c.args.place s c.args.name.now e) c.args.place NameInUse c.fault_at.result c.fault_at.ensures (declare-taken c.args.place s c.args.name.now e taken)

err-of : (trees : List Tree) (held : Held) (given : Move) (fault : ElabFault) (r : Result Done ScriptFault) → IsErrAnd r (λ f. f ≡ fault_of fault) → Settles trees held given (Err (fault_of fault)) → Settles trees held given r
err-of trees held given fault (Ok d) h g = absurd h
err-of trees held given fault (Err f) h g = subst (λ (x : ScriptFault). Settles trees held given (Err x)) (sym h) g

pub returns-in_err-sort-clause-step : goal.returns-in_err-sort-clause-step
returns-in_err-sort-clause-step c = λ trees s e h p.
    let free : is_taken s c.args.name.now ≡ false = sym (taken-held trees _ s c.args.name.now h) ∙ sym c.is_taken.ensures ∙ c.if-is_taken.false in
    let scope = subst (λ (f : Force). IsScopeIn trees f (scope_of s)) (sym c.scope.ensures) h.scope in
    let told = subst (λ (r : Result Sort ElabFault). ReadsSort (scoped_sort (scope_of s) e) r) c.in_err-sort.was (c.scoped_sort.ensures trees (scope_of s) e p.0 scope p.1) in
    err-of trees c.args.stack.now (declare c.args.place s c.args.name.now e) c.in_err-sort.field-0.0 c.from_residual.result c.from_residual.ensures.1
    (declare-faulty trees c.args.stack.now c.args.place s c.args.name.now e c.in_err-sort.field-0.0 free told)

pub returns-clause-step : goal.returns-clause-step
returns-clause-step c = λ trees s e h p.
    let free : is_taken s c.args.name.now ≡ false = sym (taken-held trees _ s c.args.name.now h) ∙ sym c.is_taken.ensures ∙ c.if-is_taken.false in
    let scope = subst (λ (f : Force). IsScopeIn trees f (scope_of s)) (sym c.scope.ensures) h.scope in
    let told = subst (λ (r : Result Sort ElabFault). ReadsSort (scoped_sort (scope_of s) e) r) c.in_ok-sort.was (c.scoped_sort.ensures trees (scope_of s) e p.0 scope p.1) in
    let done = declare-done c.args.place s c.args.name.now e c.in_ok-sort.sort free told in
    let own : Declared = record { name = c.in_ok-name.name; sort = c.in_ok-sort.sort } in
    let same : own.name.items ≡ c.args.name.now = c.in_ok-name.ensures.items in (
      with_constant c.args.name.now c.in_ok-sort.sort s,
      Quiet,
      done,
      subst (λ (k : Held). IsScriptIn trees k (with_constant c.args.name.now c.in_ok-sort.sort s)) (sym c.in_ok-add_constant.ensures.ok)
          (subst (λ n. IsScriptIn trees (constant_held own c.args.stack.now) (with_constant n c.in_ok-sort.sort s)) same (held-constant trees c.args.stack.now s own (subst (λ (r : Result Sort TermFault). IfOk r IsLawful) told (scoped-sorts-are-lawful (scope_of s) e h.scope.is_scope)) h)),
      refl,
    )

pub returns-in_err-name-clause-step : goal.returns-in_err-name-clause-step
returns-in_err-name-clause-step c = λ trees s e h p.
    let free : is_taken s c.args.name.now ≡ false = sym (taken-held trees _ s c.args.name.now h) ∙ sym c.is_taken.ensures ∙ c.if-is_taken.false in
    let scope = subst (λ (f : Force). IsScopeIn trees f (scope_of s)) (sym c.scope.ensures) h.scope in
    let told = subst (λ (r : Result Sort ElabFault). ReadsSort (scoped_sort (scope_of s) e) r) c.in_ok-sort.was (c.scoped_sort.ensures trees (scope_of s) e p.0 scope p.1) in
    settles-short trees c.args.stack.now (declare c.args.place s c.args.name.now e) _ c.from_residual-in_err-name.result
    (declare-done c.args.place s c.args.name.now e c.in_ok-sort.sort free told) c.from_residual-in_err-name.ensures.1

pub returns-in_err-add_constant-clause-step : goal.returns-in_err-add_constant-clause-step
returns-in_err-add_constant-clause-step c = λ trees s e h p.
    let free : is_taken s c.args.name.now ≡ false = sym (taken-held trees _ s c.args.name.now h) ∙ sym c.is_taken.ensures ∙ c.if-is_taken.false in
    let scope = subst (λ (f : Force). IsScopeIn trees f (scope_of s)) (sym c.scope.ensures) h.scope in
    let told = subst (λ (r : Result Sort ElabFault). ReadsSort (scoped_sort (scope_of s) e) r) c.in_ok-sort.was (c.scoped_sort.ensures trees (scope_of s) e p.0 scope p.1) in
    settles-short trees c.add_constant.new.self (declare c.args.place s c.args.name.now e) _ c.from_residual-in_err-add_constant.result
    (declare-done c.args.place s c.args.name.now e c.in_ok-sort.sort free told) c.from_residual-in_err-add_constant.ensures.1
