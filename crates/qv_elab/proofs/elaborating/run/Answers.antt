use Rattle.std.proofs.Common.{Ok, sym, subst, ◌∙◌}
use Rattle.std.proofs.lemmas.Result.{err_from_is_err_and}
use Rattle.qv_store.proofs.Replacement.{grows-more}
use Rattle.qv_elab_frames.specs.declared.elaborator.Next.{Next}
use Rattle.qv_elab_frames.specs.Loop.{source, state_of, IsNext}
use Rattle.qv_elab_defs.specs.Beginnings.{beginning}
use Rattle.qv_elab_defs.proofs.Beginning.{begins-anyhow, begins-out}
use Rattle.qv_elab_scope.proofs.Growing.{scope-grows}
use Rattle.qv_elab.proofs.Starting.{finished, failed, taken, none-open}
use Rattle.qv_elab.proofs.elaborating.run.Goals as goal

pub returns-in_err-next-clause-sees : goal.returns-in_err-next-clause-sees
returns-in_err-next-clause-sees c = λ defs end given s r.
    let w = source c.args.expr.now end defs in
    let p = err_from_is_err_and c.from_residual.result c.from_residual.ensures.1 in
    failed w c.enter.new.store (state_of c.enter.new.elaborator) given c.enter.result c.in_err-next.field-0.0 p.0 c.from_residual.result (c.enter.ensures.next defs end given s r) c.in_err-next.was p.1 p.2 c.enter.new.elaborator.watched.items

pub returns-in_err-next-clause-begins : goal.returns-in_err-next-clause-begins
returns-in_err-next-clause-begins c = λ defs end given s h.
    let p = err_from_is_err_and c.from_residual.result c.from_residual.ensures.1 in
    begins-out (beginning h.expr h.c) c.enter.result c.in_err-next.field-0.0 p.0 c.from_residual.result (c.enter.ensures.begins defs end given s h) c.in_err-next.was p.1 p.2

pub enter-requires-in-Read-clause-reading : goal.enter-requires-in-Read-clause-reading
enter-requires-in-Read-clause-reading c =
    let x = c.requires.reading in
    let now = subst (λ (n : Next). IsNext (source c.args.expr.now x.1 x.0) c.items.store (state_of c.items.elaborator) x.2 (Ok n)) c.in-Read.is (c.items.invariant.same x.0 x.1 x.2 (scope-grows c.args.store.now c.enter.new.store c.enter.ensures.grows c.args.scope.now x.0 x.3.0) (c.in_ok-next.ensures.next x.0 x.1 x.2 x.3.0 x.3.1)) in
    (x.0, x.1, x.2, (scope-grows c.enter.new.store c.items.store c.items.invariant.grows c.args.scope.now x.0 (scope-grows c.args.store.now c.enter.new.store c.enter.ensures.grows c.args.scope.now x.0 x.3.0), now))

pub returns-in_err-next-in-Read-clause-sees : goal.returns-in_err-next-in-Read-clause-sees
returns-in_err-next-in-Read-clause-sees c = λ defs end given s r.
    let w = source c.args.expr.now end defs in
    let now = subst (λ (n : Next). IsNext w c.items.store (state_of c.items.elaborator) given (Ok n)) c.in-Read.is (c.items.invariant.same defs end given (scope-grows c.args.store.now c.enter.new.store c.enter.ensures.grows c.args.scope.now defs s) (c.in_ok-next.ensures.next defs end given s r)) in
    let scope = scope-grows c.enter.new.store c.items.store c.items.invariant.grows c.args.scope.now defs (scope-grows c.args.store.now c.enter.new.store c.enter.ensures.grows c.args.scope.now defs s) in
    let p = err_from_is_err_and c.from_residual-in_err-next-in-Read.result c.from_residual-in_err-next-in-Read.ensures.1 in
    failed w c.enter-in-Read.new.store (state_of c.enter-in-Read.new.elaborator) given c.enter-in-Read.result c.in_err-next-in-Read.field-0.0 p.0 c.from_residual-in_err-next-in-Read.result (c.enter-in-Read.ensures.next defs end given scope now) c.in_err-next-in-Read.was p.1 p.2 c.enter-in-Read.new.elaborator.watched.items

pub leave-requires : goal.leave-requires
leave-requires c =
    let x = c.requires.reading in
    let s = c.items.elaborator in
    let w = source c.args.expr.now x.1 x.0 in
    let now = subst (λ (n : Next). IsNext w c.items.store (state_of s) x.2 (Ok n)) c.in-Made.is (c.items.invariant.same x.0 x.1 x.2 (scope-grows c.args.store.now c.enter.new.store c.enter.ensures.grows c.args.scope.now x.0 x.3.0) (c.in_ok-next.ensures.next x.0 x.1 x.2 x.3.0 x.3.1)) in (
      x.0,
      x.1,
      x.2,
      (
        scope-grows c.enter.new.store c.items.store c.items.invariant.grows c.args.scope.now x.0 (scope-grows c.args.store.now c.enter.new.store c.enter.ensures.grows c.args.scope.now x.0 x.3.0),
        taken w c.items.store s.open.items c.pop.new.self.items c.in-Some.open s.done.items s.bound s.pending s.binders s.watched.items c.in-Made.id c.in-Made.at x.2 c.in-Some.ensures.items now,
      ),
    )

pub returns-in_err-next-in-Some-clause-sees : goal.returns-in_err-next-in-Some-clause-sees
returns-in_err-next-in-Some-clause-sees c = λ defs end given i r.
    let s = c.items.elaborator in
    let w = source c.args.expr.now end defs in
    let now = subst (λ (n : Next). IsNext w c.items.store (state_of s) given (Ok n)) c.in-Made.is (c.items.invariant.same defs end given (scope-grows c.args.store.now c.enter.new.store c.enter.ensures.grows c.args.scope.now defs i) (c.in_ok-next.ensures.next defs end given i r)) in
    let made = taken w c.items.store s.open.items c.pop.new.self.items c.in-Some.open s.done.items s.bound s.pending s.binders s.watched.items c.in-Made.id c.in-Made.at given c.in-Some.ensures.items now in
    let scope = scope-grows c.enter.new.store c.items.store c.items.invariant.grows c.args.scope.now defs (scope-grows c.args.store.now c.enter.new.store c.enter.ensures.grows c.args.scope.now defs i) in
    let p = err_from_is_err_and c.from_residual-in_err-next-in-Some.result c.from_residual-in_err-next-in-Some.ensures.1 in
    failed w c.leave.new.store (state_of c.leave.new.self) given c.leave.result c.in_err-next-in-Some.field-0.0 p.0 c.from_residual-in_err-next-in-Some.result (c.leave.ensures.next defs end given scope made) c.in_err-next-in-Some.was p.1 p.2 c.leave.new.self.watched.items

pub returns-in-None-clause-sees : goal.returns-in-None-clause-sees
returns-in-None-clause-sees c = λ defs end given s r.
    let w = source c.args.expr.now end defs in
    let now = subst (λ (n : Next). IsNext w c.items.store (state_of c.items.elaborator) given (Ok n)) c.in-Made.is (c.items.invariant.same defs end given (scope-grows c.args.store.now c.enter.new.store c.enter.ensures.grows c.args.scope.now defs s) (c.in_ok-next.ensures.next defs end given s r)) in
    finished w c.items.store (state_of c.items.elaborator) c.in-Made.id c.in-Made.at given (none-open c.items.elaborator.open.items (sym c.items.elaborator.open.ok.0 ∙ c.in-None.ensures.cases.0)) now

pub items-preserved-in_ok-next-in-Read : goal.items-preserved-in_ok-next-in-Read
items-preserved-in_ok-next-in-Read c = record {
  same = λ defs end given s r.
      let w = source c.args.expr.now end defs in
      let now = subst (λ (n : Next). IsNext w c.items.store (state_of c.items.elaborator) given (Ok n)) c.in-Read.is (c.items.invariant.same defs end given s r) in
      let scope = scope-grows c.enter.new.store c.items.store c.items.invariant.grows c.args.scope.now defs s in
      c.in_ok-next-in-Read.ensures.next defs end given scope now;
  grows = grows-more c.enter.new.store c.items.store c.enter-in-Read.new.store c.items.invariant.grows c.enter-in-Read.ensures.grows;
}

pub items-preserved : goal.items-preserved
items-preserved c = record {
  same = λ defs end given i r.
      let s = c.items.elaborator in
      let w = source c.args.expr.now end defs in
      let now = subst (λ (n : Next). IsNext w c.items.store (state_of s) given (Ok n)) c.in-Made.is (c.items.invariant.same defs end given i r) in
      let made = taken w c.items.store s.open.items c.pop.new.self.items c.in-Some.open s.done.items s.bound s.pending s.binders s.watched.items c.in-Made.id c.in-Made.at given c.in-Some.ensures.items now in
      let scope = scope-grows c.enter.new.store c.items.store c.items.invariant.grows c.args.scope.now defs i in
      c.in_ok-next-in-Some.ensures.next defs end given scope made;
  grows = grows-more c.enter.new.store c.items.store c.leave.new.store c.items.invariant.grows c.leave.ensures.grows;
}

pub returns-in_err-next-in-Read-clause-begins : goal.returns-in_err-next-in-Read-clause-begins
returns-in_err-next-in-Read-clause-begins c = λ defs end given s h. begins-anyhow (beginning h.expr h.c) c.from_residual-in_err-next-in-Read.result (c.in_ok-next.ensures.begins defs end given s h)

pub returns-in_err-next-in-Some-clause-begins : goal.returns-in_err-next-in-Some-clause-begins
returns-in_err-next-in-Some-clause-begins c = λ defs end given s h. begins-anyhow (beginning h.expr h.c) c.from_residual-in_err-next-in-Some.result (c.in_ok-next.ensures.begins defs end given s h)

pub returns-in-None-clause-begins : goal.returns-in-None-clause-begins
returns-in-None-clause-begins c = λ defs end given s h. c.in_ok-next.ensures.begins defs end given s h
