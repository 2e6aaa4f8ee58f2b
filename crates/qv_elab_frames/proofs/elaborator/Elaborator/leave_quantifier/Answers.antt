use Rattle.std.proofs.Common.{◌+◌, ◌-◌, ◌++◌, ◌∷◌, [], List, length, drop, refl, sym, ap, subst, ◌∙◌, arith}
use Rattle.std.proofs.lemmas.Result.{err_from_is_err_and}
use Rattle.qv_elab_macros.specs.declared.standing.Watched.{Watched}
use Rattle.qv_elab_frames.specs.Loop.{source, state_of, IsMade}
use Rattle.qv_elab_frames.proofs.Departing.{out}
use Rattle.qv_elab_frames.proofs.Quantifiers.{close-within, no-formula, counted, variables-of, closing, closed-out, closed-next}
use Rattle.qv_elab_frames.proofs.elaborator.Elaborator.leave_quantifier.Goals as goal

pub returns-in_default-clause-next : goal.returns-in_default-clause-next
returns-in_default-clause-next c = λ defs end given i h.
    let a = c.args in
    let s = state_of a.self.now in
    let w = source a.expr.now end defs in
    no-formula w a.store.now s a.place a.inner a.is_universal a.bound a.id a.at given h c.sort.result c.sort.ensures.sort c.in_default.not-Bool

pub overflow_sub-variables : goal.overflow_sub-variables
overflow_sub-variables c =
    let a = c.args in
    let s = state_of a.self.now in
    let x = c.requires in
    let given = x.2 in
    let h = x.3.1 in
    let w = source a.expr.now x.1 x.0 in
    let n = counted w a.store.now s a.place a.inner a.is_universal a.bound a.id a.at given h in
    omega (arith, n.0, c.len.ensures)

pub overflow_sub-self : goal.overflow_sub-self
overflow_sub-self c =
    let a = c.args in
    let s = state_of a.self.now in
    let x = c.requires in
    let given = x.2 in
    let h = x.3.1 in
    let w = source a.expr.now x.1 x.0 in
    let n = counted w a.store.now s a.place a.inner a.is_universal a.bound a.id a.at given h in
    omega (arith, n.0, n.1, c.len.ensures)

pub close_over-requires-clause-from : goal.close_over-requires-clause-from
close_over-requires-clause-from c =
    let a = c.args in
    let s = state_of a.self.now in
    let x = c.requires in
    let given = x.2 in
    let h = x.3.1 in
    let w = source a.expr.now x.1 x.0 in
    let n = counted w a.store.now s a.place a.inner a.is_universal a.bound a.id a.at given h in
    omega (arith, n.0)

pub close_over-requires-clause-binders : goal.close_over-requires-clause-binders
close_over-requires-clause-binders c =
    let a = c.args in
    let s = state_of a.self.now in
    let x = c.requires in
    let given = x.2 in
    let h = x.3.1 in
    let w = source a.expr.now x.1 x.0 in
    let n = counted w a.store.now s a.place a.inner a.is_universal a.bound a.id a.at given h in
    omega (arith, n.0, n.1, c.len.ensures)

pub close_over-requires-clause-closing : goal.close_over-requires-clause-closing
close_over-requires-clause-closing c =
    let a = c.args in
    let s = state_of a.self.now in
    let x = c.requires in
    let given = x.2 in
    let h = x.3.1 in
    let w = source a.expr.now x.1 x.0 in
    (variables-of w a.store.now s a.place a.inner a.is_universal a.bound a.id a.at given h, closing w a.store.now s a.place a.inner a.is_universal a.bound a.id a.at given h (s.binders - (length s.bound - a.bound)) refl c.in-Bool.ensures.sort)

pub returns-in_err-id-clause-next : goal.returns-in_err-id-clause-next
returns-in_err-id-clause-next c = λ defs end given i h.
    let a = c.args in
    let s = state_of a.self.now in
    let w = source a.expr.now end defs in
    let k = closing w a.store.now s a.place a.inner a.is_universal a.bound a.id a.at given h (s.binders - (length s.bound - a.bound)) refl c.in-Bool.ensures.sort in
    let made = closed-out w a.store.now s a.place a.inner a.is_universal a.bound a.id a.at given h (s.binders - (length s.bound - a.bound)) refl c.in-Bool.ensures.sort c.close_over.new.store c.close_over.ensures.grows (drop (length s.bound - a.bound) s.bound) refl c.close_over.result c.in_err-id.field-0.0 c.in_err-id.was (c.close_over.ensures.answers (variables-of w a.store.now s a.place a.inner a.is_universal a.bound a.id a.at given h) k) in
    let q = err_from_is_err_and c.from_residual.result c.from_residual.ensures.1 in
    out w c.close_over.new.store _ _ (a.at + 1) given c.close_over.result c.in_err-id.field-0.0 q.0 c.from_residual.result made c.in_err-id.was q.1 q.2

pub overflow_add-result : goal.overflow_add-result
overflow_add-result c =
    let a = c.args in
    let s = state_of a.self.now in
    let x = c.requires in
    let given = x.2 in
    let h = x.3.1 in
    let w = source a.expr.now x.1 x.0 in
    let lt = close-within w a.store.now s a.place a.inner a.is_universal a.bound a.id a.at given h in
    omega (arith, lt, a.expr.now.items.small, a.expr.now.items.ok.0, a.expr.now.items.ok.1)

pub returns-clause-next : goal.returns-clause-next
returns-clause-next c = λ defs end given i h.
    let a = c.args in
    let s = state_of a.self.now in
    let w = source a.expr.now end defs in
    let k = closing w a.store.now s a.place a.inner a.is_universal a.bound a.id a.at given h (s.binders - (length s.bound - a.bound)) refl c.in-Bool.ensures.sort in
    let own : Watched = record { id = c.in_ok-id.id; depth = 0 } in
    let made = closed-next w a.store.now s a.place a.inner a.is_universal a.bound a.id a.at given h (s.binders - (length s.bound - a.bound)) refl c.in-Bool.ensures.sort c.close_over.new.store c.close_over.ensures.grows c.truncate.new.self c.truncate.ensures c.push_reserved.new.self.items c.close_over.result c.in_ok-id.id c.in_ok-id.was (c.push_reserved.ensures.items ∙ ap (λ (ws : List Watched). ws ++ own ∷ []) c.reserve.ensures.items) (c.close_over.ensures.answers (variables-of w a.store.now s a.place a.inner a.is_universal a.bound a.id a.at given h) k) in
    subst (λ n. IsMade w c.close_over.new.store (record { stack = s.stack; done = s.done; bound = c.truncate.new.self; pending = s.pending; binders = s.binders - (n - a.bound); watched = c.push_reserved.new.self.items }) c.in_ok-id.id (a.at + 1) given) (sym c.len.ensures) made

pub returns-clause-fewer : goal.returns-clause-fewer
returns-clause-fewer c =
    let a = c.args in
    let s = state_of a.self.now in
    let x = c.requires in
    let given = x.2 in
    let h = x.3.1 in
    let w = source a.expr.now x.1 x.0 in
    let lt = close-within w a.store.now s a.place a.inner a.is_universal a.bound a.id a.at given h in
    omega (arith, lt)
