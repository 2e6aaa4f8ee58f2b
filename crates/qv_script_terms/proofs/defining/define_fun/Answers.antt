use Rattle.std.proofs.Common.{◌≡◌, true, false, Some, List, Err, sym, ap, subst, ◌∙◌}
use Rattle.std.specs.Prelude.{Result, Vec, option_map}
use Rattle.std.specs.declared.alloc.Global.{Global}
use Rattle.std.proofs.lemmas.Result.{err_from_is_err_and}
use Rattle.qv_sexpr.specs.Script.{Tree as Written}
use Rattle.qv_sexpr.proofs.Copies.{begun}
use Rattle.qv_elab_defs.specs.declared.faults.ElabFault.{ElabFault}
use Rattle.qv_elab_defs.specs.Shapes.{listed_pairs}
use Rattle.qv_elab_defs.specs.Tokens.{symbol_of}
use Rattle.qv_elab_defs.specs.TreeLaws.{AreParameters}
use Rattle.qv_elab.specs.declared.bodies.Parameter.{Parameter}
use Rattle.qv_elab.specs.ReadBodies.{parameters_of, ReadsParameters}
use Rattle.qv_script_defs.specs.declared.effects.Effect.{Effect as Done}
use Rattle.qv_script_defs.specs.declared.faults.ScriptFault.{ScriptFault}
use Rattle.qv_script_defs.specs.declared.faults.ScriptKind.TheVariants.{NameInUse}
use Rattle.qv_script_terms.specs.Defined.{defined}
use Rattle.qv_script_terms.specs.Beginnings.{command_beginning}
use Rattle.qv_elab_scope.specs.Force.{Force}
use Rattle.qv_elab_scope.specs.Kept.{IsScopeIn}
use Rattle.qv_script_defs.specs.State.{is_taken, scope_of}
use Rattle.qv_script_defs.specs.Moves.{Move, define}
use Rattle.qv_script_defs.specs.Commands.{DefineFun, step}
use Rattle.qv_script_stack.specs.Steps.{Gives}
use Rattle.qv_script_defs.proofs.Commanding.{parameters-read}
use Rattle.qv_script_terms.proofs.Definitions.{define-taken, define-as, define-faulty, parameters-fault, pairs-there, four-parts, define-fun-as, define-fun-begins}
use Rattle.qv_script_stack.proofs.Holding.{taken-held}
use Rattle.qv_script_stack.proofs.Stepping.{gives-fault, refused-runs, runs-out}
use Rattle.qv_script_terms.proofs.defining.define_fun.Goals as goal

pub returns-then-is_taken-clause-step : goal.returns-then-is_taken-clause-step
returns-then-is_taken-clause-step c = λ s es h parts.
    let a = c.args in
    let n = c.in-Some.name.now in
    let four = four-parts a.expr.now a.f a.parameters a.sort a.t es parts in
    let name : symbol_of four.0 ≡ Some n = sym (c.symbol_at.ensures four.0 four.5) ∙ ap (option_map (λ x. x.now)) c.in-Some.is in
    let pairs = pairs-there (listed_pairs four.1) (sym (c.are_parameters.ensures four.1 four.6.0 four.6.1) ∙ c.if-not-are_parameters.false) in
    let taken : is_taken s n ≡ true = sym (taken-held a.store.now _ s n h) ∙ sym c.is_taken.ensures ∙ c.if-is_taken.true in
    gives-fault a.store.now a.stack.now (step DefineFun a.place es s) a.place NameInUse c.fault_at-then-is_taken.result c.fault_at-then-is_taken.ensures
    (ap (λ (xs : List Written). step DefineFun a.place xs s) four.4
    ∙ define-fun-as a.place s four.0 four.1 four.2 four.3 n pairs.0 name pairs.1
    ∙ define-taken a.place s n pairs.0 four.2 four.3 taken)

pub read_parameters-requires-clause-scope : goal.read_parameters-requires-clause-scope
read_parameters-requires-clause-scope c =
    let held = c.requires.held in
    (c.args.store.now, scope_of held.0, subst (λ (f : Force). IsScopeIn c.args.store.now f (scope_of held.0)) (sym c.scope.ensures) held.1.scope)

pub read_parameters-requires-clause-pairs : goal.read_parameters-requires-clause-pairs
read_parameters-requires-clause-pairs c =
    let b = begun c.args.expr.now c.args.parameters c.requires.expr c.requires.parameters in
    let pairs = pairs-there (listed_pairs b.0) (sym (c.are_parameters.ensures b.0 b.1 b.2) ∙ c.if-not-are_parameters.false) in
    (b.0, b.1, pairs.0, b.2, pairs.1)

pub returns-in_err-parameters-clause-step : goal.returns-in_err-parameters-clause-step
returns-in_err-parameters-clause-step c = λ s es h parts.
    let a = c.args in
    let n = c.in-Some.name.now in
    let four = four-parts a.expr.now a.f a.parameters a.sort a.t es parts in
    let name : symbol_of four.0 ≡ Some n = sym (c.symbol_at.ensures four.0 four.5) ∙ ap (option_map (λ x. x.now)) c.in-Some.is in
    let pairs = pairs-there (listed_pairs four.1) (sym (c.are_parameters.ensures four.1 four.6.0 four.6.1) ∙ c.if-not-are_parameters.false) in
    let free : is_taken s n ≡ false = sym (taken-held a.store.now _ s n h) ∙ sym c.is_taken.ensures ∙ c.if-is_taken.false in
    let given = ap (λ (xs : List Written). step DefineFun a.place xs s) four.4 ∙ define-fun-as a.place s four.0 four.1 four.2 four.3 n pairs.0 name pairs.1 in
    let scope = subst (λ (f : Force). IsScopeIn a.store.now f (scope_of s)) (sym c.scope.ensures) h.scope in
    let told = subst (λ (r : Result (Vec Parameter Global) ElabFault). ReadsParameters (scope_of s) pairs.0 r) c.in_err-parameters.was (c.read_parameters.ensures.read a.store.now (scope_of s) four.1 four.6.0 pairs.0 scope four.6.1 pairs.1) in
    let left = err_from_is_err_and c.from_residual.result c.from_residual.ensures.1 in
    subst (λ (m : Move). Gives a.store.now a.stack.now m c.from_residual.result) (sym given)
    (subst (λ (r : Result Done ScriptFault). Gives a.store.now a.stack.now (define a.place s n pairs.0 four.2 four.3) r) (sym (left.1 ∙ ap Err left.2))
    (define-faulty a.place s n pairs.0 four.2 four.3 a.store.now a.stack.now c.in_err-parameters.field-0.0 free (parameters-fault (scope_of s) pairs.0 c.in_err-parameters.field-0.0 told)))

pub define-requires-clause-parameters : goal.define-requires-clause-parameters
define-requires-clause-parameters c =
    let a = c.args in
    let b = begun a.expr.now a.parameters c.requires.expr c.requires.parameters in
    let pairs = pairs-there (listed_pairs b.0) (sym (c.are_parameters.ensures b.0 b.1 b.2) ∙ c.if-not-are_parameters.false) in
    let s = c.requires.held.0 in
    let h = c.requires.held.1 in
    let scope = subst (λ (f : Force). IsScopeIn a.store.now f (scope_of s)) (sym c.scope.ensures) h.scope in
    let told = subst (λ (r : Result (Vec Parameter Global) ElabFault). ReadsParameters (scope_of s) pairs.0 r) c.in_ok-parameters.was (c.read_parameters.ensures.read a.store.now (scope_of s) b.0 b.1 pairs.0 scope b.2 pairs.1) in
    subst (λ (ps : List Parameter). AreParameters (parameters_of ps)) (sym c.deref.ensures.value) (parameters-read (scope_of s) h.scope.is_scope pairs.0 (parameters_of c.in_ok-parameters.parameters.items) told)

pub returns-clause-step : goal.returns-clause-step
returns-clause-step c = λ s es h parts.
    let a = c.args in
    let n = c.in-Some.name.now in
    let four = four-parts a.expr.now a.f a.parameters a.sort a.t es parts in
    let name : symbol_of four.0 ≡ Some n = sym (c.symbol_at.ensures four.0 four.5) ∙ ap (option_map (λ x. x.now)) c.in-Some.is in
    let pairs = pairs-there (listed_pairs four.1) (sym (c.are_parameters.ensures four.1 four.6.0 four.6.1) ∙ c.if-not-are_parameters.false) in
    let free : is_taken s n ≡ false = sym (taken-held a.store.now _ s n h) ∙ sym c.is_taken.ensures ∙ c.if-is_taken.false in
    let scope = subst (λ (f : Force). IsScopeIn a.store.now f (scope_of s)) (sym c.scope.ensures) h.scope in
    let told = subst (λ (r : Result (Vec Parameter Global) ElabFault). ReadsParameters (scope_of s) pairs.0 r) c.in_ok-parameters.was (c.read_parameters.ensures.read a.store.now (scope_of s) four.1 four.6.0 pairs.0 scope four.6.1 pairs.1) in
    let given =
    ap (λ (xs : List Written). step DefineFun a.place xs s) four.4
    ∙ define-fun-as a.place s four.0 four.1 four.2 four.3 n pairs.0 name pairs.1
    ∙ define-as a.place s n pairs.0 four.2 four.3 (parameters_of c.in_ok-parameters.parameters.items) free told
    ∙ ap (λ (ps : List Parameter). defined s n (parameters_of ps) four.2 four.3) (sym c.deref.ensures.value) in
    subst (λ (m : Move). Gives c.define.new.store c.define.new.stack m c.define.result) (sym given) (c.define.ensures.step s four.2 four.3 h four.7 four.8)

pub returns-clause-lasts : goal.returns-clause-lasts
returns-clause-lasts c = c.define.ensures.lasts

pub returns-then-is_taken-clause-short : goal.returns-then-is_taken-clause-short
returns-then-is_taken-clause-short c = λ s es h parts. refused-runs Done (command_beginning DefineFun c.args.place es s) c.args.place NameInUse c.fault_at-then-is_taken.result c.fault_at-then-is_taken.ensures

pub returns-in_err-parameters-clause-short : goal.returns-in_err-parameters-clause-short
returns-in_err-parameters-clause-short c = λ s es h parts.
    let a = c.args in
    let n = c.in-Some.name.now in
    let four = four-parts a.expr.now a.f a.parameters a.sort a.t es parts in
    let name : symbol_of four.0 ≡ Some n = sym (c.symbol_at.ensures four.0 four.5) ∙ ap (option_map (λ x. x.now)) c.in-Some.is in
    let pairs = pairs-there (listed_pairs four.1) (sym (c.are_parameters.ensures four.1 four.6.0 four.6.1) ∙ c.if-not-are_parameters.false) in
    let free : is_taken s n ≡ false = sym (taken-held a.store.now _ s n h) ∙ sym c.is_taken.ensures ∙ c.if-is_taken.false in
    runs-out (command_beginning DefineFun a.place es s) tt c.from_residual.result
    (ap (λ (xs : List Written). command_beginning DefineFun a.place xs s) four.4 ∙ define-fun-begins a.place s four.0 four.1 four.2 four.3 n pairs.0 name pairs.1 free)

pub returns-clause-short : goal.returns-clause-short
returns-clause-short c = λ s es h parts.
    let a = c.args in
    let n = c.in-Some.name.now in
    let four = four-parts a.expr.now a.f a.parameters a.sort a.t es parts in
    let name : symbol_of four.0 ≡ Some n = sym (c.symbol_at.ensures four.0 four.5) ∙ ap (option_map (λ x. x.now)) c.in-Some.is in
    let pairs = pairs-there (listed_pairs four.1) (sym (c.are_parameters.ensures four.1 four.6.0 four.6.1) ∙ c.if-not-are_parameters.false) in
    let free : is_taken s n ≡ false = sym (taken-held a.store.now _ s n h) ∙ sym c.is_taken.ensures ∙ c.if-is_taken.false in
    runs-out (command_beginning DefineFun a.place es s) tt c.define.result
    (ap (λ (xs : List Written). command_beginning DefineFun a.place xs s) four.4 ∙ define-fun-begins a.place s four.0 four.1 four.2 four.3 n pairs.0 name pairs.1 free)
