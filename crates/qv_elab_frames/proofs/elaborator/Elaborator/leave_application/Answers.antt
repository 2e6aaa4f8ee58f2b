use Rattle.std.proofs.Common.{◌≡◌, ◌<◌, ◌-◌, ◌+◌, ◌++◌, ◌∷◌, [], ℕ, List, length, take, drop, Some, slice_get, get_or, sym, ap, subst, ◌∙◌, arith, reverse}
use Rattle.std.specs.Prelude.{Result}
use Rattle.std.proofs.lemmas.Option.{slice_get-get_or}
use Rattle.std.proofs.lemmas.Result.{err_from_is_err_and}
use Rattle.qv_sexpr.specs.declared.items.Item.{Item}
use Rattle.qv_elab_defs.specs.declared.faults.ElabFault.{ElabFault}
use Rattle.qv_elab_frames.specs.declared.elaborator.Open.TheVariants as opened
use Rattle.qv_elab_macros.specs.Checked.{Sees}
use Rattle.qv_elab_defs.specs.Looking.{applied_looks}
use Rattle.qv_elab_defs.specs.OpenTrees.{Ends}
use Rattle.qv_elab_scope.specs.Ids.{AreAt}
use Rattle.qv_elab_frames.specs.Loop.{source, state_of}
use Rattle.qv_elab_frames.proofs.Departing.{Outcome, app, args, args-at, args-good, within, own-args, kept-done, another, made-of, reading-at, made-at, pushed, at-below, out}
use Rattle.qv_elab_frames.proofs.elaborator.Elaborator.leave_application.Goals as goal

-- the item that is read
item-at : (its : List Item) (at : ℕ) (x : Item) → at < length its → x ≡ get_or its at x → slice_get its at ≡ Some x
item-at its at x lt e = slice_get-get_or its at x lt ∙ ap Some (sym e)

pub returns-in_default-clause-next : goal.returns-in_default-clause-next
returns-in_default-clause-next c = λ defs end given i h.
    let a = c.args in
    let s = a.self.now in
    let w = source a.expr.now end defs in
    let lt = within w a.store.now (state_of s) a.place a.head a.head_at a.first a.id a.at given h in
    let there = item-at a.expr.now.items.items a.at c.index.result.now lt c.index.ensures in
    let done = c.push_reserved.ensures.items ∙ ap (λ ns. ns ++ a.id ∷ []) c.reserve.ensures.items in
    let o = opened.Application a.place a.head a.head_at a.first in
    let stack = pushed s.open.items c.push_reserved-in_default.new.self.items o (c.push_reserved-in_default.ensures.items ∙ ap (λ os. os ++ o ∷ []) c.reserve-in_default.ensures.items) in
    reading-at w a.store.now (o ∷ reverse s.open.items) (reverse c.push_reserved-in_default.new.self.items) (s.done.items ++ a.id ∷ []) c.push_reserved.new.self.items s.bound s.pending s.binders s.watched.items a.at given stack (sym done)
    (another w a.store.now (state_of s) a.place a.head a.head_at a.first a.id a.at given h c.index.result.now there c.in_default.not-Close)

pub returns-in_default-clause-fewer : goal.returns-in_default-clause-fewer
returns-in_default-clause-fewer c = omega arith

pub apply_watched-requires-clause-ids : goal.apply_watched-requires-clause-ids
apply_watched-requires-clause-ids c =
    let x = c.requires in
    let a = c.args in
    let s = state_of a.self.now in
    let w = source a.expr.now x.1 x.0 in
    let p = app w a.store.now s a.place a.head a.head_at a.first a.id a.at x.2 x.3.1 in
    let done = c.deref.ensures.value ∙ c.push_reserved.ensures.items ∙ ap (λ ns. ns ++ a.id ∷ []) c.reserve.ensures.items in
    let are = ap (λ ds. take (length ds - a.first) (drop a.first ds)) done ∙ own-args a.self.now.done.items p.before p.own a.id a.first p.done_are p.first_is in
    subst (λ (ns : List ℕ). (k d : ℕ) → k < length ns → get_or ns k d < length a.store.now) (sym are)
    (at-below a.store.now (p.own ++ a.id ∷ []) (args w a.store.now s a.place a.head a.head_at a.first a.id a.at x.2 x.3.1) (args-at w a.store.now s a.place a.head a.head_at a.first a.id a.at x.2 x.3.1))

pub apply_watched-requires-clause-applied : goal.apply_watched-requires-clause-applied
apply_watched-requires-clause-applied c =
    let x = c.requires in
    let a = c.args in
    let s = state_of a.self.now in
    let w = source a.expr.now x.1 x.0 in
    let h = x.3.1 in
    let p = app w a.store.now s a.place a.head a.head_at a.first a.id a.at x.2 h in
    let done = c.deref.ensures.value ∙ c.push_reserved.ensures.items ∙ ap (λ ns. ns ++ a.id ∷ []) c.reserve.ensures.items in
    let are = ap (λ ds. take (length ds - a.first) (drop a.first ds)) done ∙ own-args a.self.now.done.items p.before p.own a.id a.first p.done_are p.first_is in
    let ts = args w a.store.now s a.place a.head a.head_at a.first a.id a.at x.2 h in
    let at = subst (λ (ns : List ℕ). AreAt a.store.now ns ts) (sym are) (args-at w a.store.now s a.place a.head a.head_at a.first a.id a.at x.2 h) in
    let ends = subst (λ (b : ℕ). Ends h.M b) (sym h.around.binders_are) h.around.good.ends in
    (x.0, p.meant, ts, record { M = h.M; scope = x.3.0; is_head = p.is_head; are = at; good = args-good w a.store.now s a.place a.head a.head_at a.first a.id a.at x.2 h; ends = ends })

pub returns-in_err-id-clause-next : goal.returns-in_err-id-clause-next
returns-in_err-id-clause-next c = λ defs end given i h.
    let a = c.args in
    let s = state_of a.self.now in
    let w = source a.expr.now end defs in
    let p = app w a.store.now s a.place a.head a.head_at a.first a.id a.at given h in
    let there = item-at a.expr.now.items.items a.at c.index.result.now (within w a.store.now s a.place a.head a.head_at a.first a.id a.at given h) c.index.ensures in
    let done = c.deref.ensures.value ∙ c.push_reserved.ensures.items ∙ ap (λ ns. ns ++ a.id ∷ []) c.reserve.ensures.items in
    let are = ap (λ ds. take (length ds - a.first) (drop a.first ds)) done ∙ own-args a.self.now.done.items p.before p.own a.id a.first p.done_are p.first_is in
    let ts = args w a.store.now s a.place a.head a.head_at a.first a.id a.at given h in
    let at = subst (λ (ns : List ℕ). AreAt a.store.now ns ts) (sym are) (args-at w a.store.now s a.place a.head a.head_at a.first a.id a.at given h) in
    let ends = subst (λ (b : ℕ). Ends h.M b) (sym h.around.binders_are) h.around.good.ends in
    let answer = c.apply_watched.ensures.sees defs p.meant ts h.around.looks (record { M = h.M; scope = i; is_head = p.is_head; are = at; good = args-good w a.store.now s a.place a.head a.head_at a.first a.id a.at given h; ends = ends }) h.around.looked in
    let answer' = subst (λ (b : ℕ). Sees c.apply_watched.new.store c.apply_watched.new.watched.items (applied_looks a.place b p.meant ts h.around.looks) c.apply_watched.result) h.around.binders_are answer in
    let made = made-of w a.store.now s a.place a.head a.head_at a.first a.id a.at given h c.index.result.now there c.in-Close.is c.apply_watched.new.store c.apply_watched.new.watched.items c.apply_watched.ensures.grows c.apply_watched.result answer' in
    let q = err_from_is_err_and c.from_residual-in_err-id.result c.from_residual-in_err-id.ensures.1 in
    out w c.apply_watched.new.store (record s { done = p.before; watched = c.apply_watched.new.watched.items }) _ (a.at + 1) given c.apply_watched.result c.in_err-id.field-0.0 q.0 c.from_residual-in_err-id.result made c.in_err-id.was q.1 q.2

pub overflow_add-result : goal.overflow_add-result
overflow_add-result c =
    let x = c.requires in
    let lt = within (source c.args.expr.now x.1 x.0) c.args.store.now (state_of c.args.self.now) c.args.place c.args.head c.args.head_at c.args.first c.args.id c.args.at x.2 x.3.1 in
    omega (arith, lt, c.args.expr.now.items.small, c.args.expr.now.items.ok.0, c.args.expr.now.items.ok.1)

pub returns-clause-next : goal.returns-clause-next
returns-clause-next c = λ defs end given i h.
    let a = c.args in
    let s = state_of a.self.now in
    let w = source a.expr.now end defs in
    let p = app w a.store.now s a.place a.head a.head_at a.first a.id a.at given h in
    let there = item-at a.expr.now.items.items a.at c.index.result.now (within w a.store.now s a.place a.head a.head_at a.first a.id a.at given h) c.index.ensures in
    let pushed = c.push_reserved.ensures.items ∙ ap (λ ns. ns ++ a.id ∷ []) c.reserve.ensures.items in
    let are = ap (λ ds. take (length ds - a.first) (drop a.first ds)) (c.deref.ensures.value ∙ pushed) ∙ own-args a.self.now.done.items p.before p.own a.id a.first p.done_are p.first_is in
    let ts = args w a.store.now s a.place a.head a.head_at a.first a.id a.at given h in
    let at = subst (λ (ns : List ℕ). AreAt a.store.now ns ts) (sym are) (args-at w a.store.now s a.place a.head a.head_at a.first a.id a.at given h) in
    let ends = subst (λ (b : ℕ). Ends h.M b) (sym h.around.binders_are) h.around.good.ends in
    let answer = c.apply_watched.ensures.sees defs p.meant ts h.around.looks (record { M = h.M; scope = i; is_head = p.is_head; are = at; good = args-good w a.store.now s a.place a.head a.head_at a.first a.id a.at given h; ends = ends }) h.around.looked in
    let answer' = subst (λ (b : ℕ). Sees c.apply_watched.new.store c.apply_watched.new.watched.items (applied_looks a.place b p.meant ts h.around.looks) c.apply_watched.result) h.around.binders_are answer in
    let made = made-of w a.store.now s a.place a.head a.head_at a.first a.id a.at given h c.index.result.now there c.in-Close.is c.apply_watched.new.store c.apply_watched.new.watched.items c.apply_watched.ensures.grows c.apply_watched.result answer' in
    let ok = subst (λ (r : Result ℕ ElabFault). Outcome w c.apply_watched.new.store (record s { done = p.before; watched = c.apply_watched.new.watched.items }) (a.at + 1) given r) c.in_ok-id.was made in
    let kept = c.truncate.ensures.items ∙ ap (take a.first) pushed ∙ kept-done a.self.now.done.items p.before p.own a.id a.first p.done_are p.first_is in
    made-at w c.apply_watched.new.store s.stack p.before c.truncate.new.self.items s.bound s.pending s.binders c.apply_watched.new.watched.items c.in_ok-id.id (a.at + 1) given (sym kept) ok

pub returns-clause-fewer : goal.returns-clause-fewer
returns-clause-fewer c =
    let x = c.requires in
    let inside = within (source c.args.expr.now x.1 x.0) c.args.store.now (state_of c.args.self.now) c.args.place c.args.head c.args.head_at c.args.first c.args.id c.args.at x.2 x.3.1 in
    omega (arith, inside)
