use Rattle.std.proofs.Common.{◌≡◌, ◌<◌, ◌≤◌, ◌+◌, ◌++◌, ◌∷◌, [], ℕ, List, None, length, reverse, refl, sym, ap, subst, ◌∙◌, arith}
use Rattle.std.proofs.lemmas.Result.{err_from_is_err_and}
use Rattle.qv_sexpr.specs.declared.items.Item.{Item}
use Rattle.qv_sexpr.specs.Script.{Trees as Exprs}
use Rattle.qv_sexpr.specs.Items.{StandAll}
use Rattle.qv_sexpr.specs.Copying.{EndsBefore}
use Rattle.qv_elab_frames.specs.declared.elaborator.Open.TheVariants as opened
use Rattle.qv_elab_defs.specs.declared.faults.ElabKind.TheVariants.{Form}
use Rattle.qv_elab_defs.specs.Shapes.{Quantified}
use Rattle.qv_elab_items.specs.Inside.{binding_of, IsBoundBy}
use Rattle.qv_elab_scope.specs.Ids.{quantifier_of}
use Rattle.qv_elab_frames.specs.Loop.{source, state_of}
use Rattle.qv_elab_frames.proofs.Departing.{reading-at, pushed}
use Rattle.qv_elab_frames.proofs.Inside.{list-within, ends-first, is-second, refused}
use Rattle.qv_elab_defs.specs.Beginnings.{list_beginning}
use Rattle.qv_elab_defs.proofs.Beginning.{begins-anyhow}
use Rattle.qv_elab_frames.proofs.Begun.{quantifier-begins}
use Rattle.qv_elab_frames.proofs.Quantifiers.{quantifier-refused, pairs-are, quantifier-within, variables-out, body-place, into-body}
use Rattle.qv_elab_frames.proofs.elaborator.Elaborator.enter_quantifier.Goals as goal

-- the same of the same items
moved : (P : List Item → List ℕ → ℕ → Exprs → Type 0) (its its' : List Item) (text text' : List ℕ) (n n' close : ℕ) → its ≡ its' → text ≡ text' → n ≡ n' → ((r : Exprs) → StandAll its text n r close → P its text n r) → (r : Exprs) → StandAll its' text' n' r close → P its' text' n' r
moved P its its' text text' n n' close e f g h =
    subst (λ (m : ℕ). (r : Exprs) → StandAll its' text' m r close → P its' text' m r) g
    (subst (λ (t : List ℕ). (r : Exprs) → StandAll its' t n r close → P its' t n r) f
    (subst (λ (is : List Item). (r : Exprs) → StandAll is text n r close → P is text n r) e h))

pub overflow_add-at : goal.overflow_add-at
overflow_add-at c =
    let a = c.args in
    let x = c.requires.list in
    let given = x.2 in
    let h = x.3.1 in
    let w = source a.expr.now x.1 x.0 in
    let st = state_of a.self.now in
    let n = list-within w a.store.now st a.at a.close a.place (Quantified (quantifier_of a.is_universal)) given h in
    omega (arith, n.0, n.1, n.2, a.expr.now.items.small, a.expr.now.items.ok.0, a.expr.now.items.ok.1)

pub behind-second-requires : goal.behind-second-requires
behind-second-requires c =
    let a = c.args in
    let x = c.requires.list in
    let given = x.2 in
    let h = x.3.1 in
    let w = source a.expr.now x.1 x.0 in
    let st = state_of a.self.now in
    let n = list-within w a.store.now st a.at a.close a.place (Quantified (quantifier_of a.is_universal)) given h in
    let e = ends-first w a.store.now st a.at a.close a.place (Quantified (quantifier_of a.is_universal)) given h in
    subst (λ (its : List Item). (to : ℕ) × (to ≤ length its) × (a.at + 1 < to) × EndsBefore its (a.at + 1) to) (sym c.deref.ensures.value) (h.second, e.0, n.0, e.1)

pub binding-requires-clause-stand : goal.binding-requires-clause-stand
binding-requires-clause-stand c =
    let a = c.args in
    let x = c.requires.list in
    let given = x.2 in
    let h = x.3.1 in
    let w = source a.expr.now x.1 x.0 in
    let st = state_of a.self.now in
    let ends = subst (λ (its : List Item). EndsBefore its (a.at + 1) c.behind-second.result) c.deref.ensures.value c.behind-second.ensures in
    let is = is-second w a.store.now st a.at a.close a.place (Quantified (quantifier_of a.is_universal)) given h c.behind-second.result ends in
    let stand = subst (λ (m : ℕ). StandAll a.expr.now.items.items a.expr.now.text.items m h.rest a.close) (sym is) h.rest_stand in
    let stand = subst (λ (t : List ℕ). StandAll a.expr.now.items.items t c.behind-second.result h.rest a.close) (sym c.deref-2.ensures.value) stand in
    (h.rest, subst (λ (its : List Item). StandAll its c.deref-2.result.now c.behind-second.result h.rest a.close) (sym c.deref-3.ensures.value) stand)

pub binding-requires-clause-within : goal.binding-requires-clause-within
binding-requires-clause-within c =
    let a = c.args in
    let x = c.requires.list in
    let given = x.2 in
    let h = x.3.1 in
    let w = source a.expr.now x.1 x.0 in
    let st = state_of a.self.now in
    let n = list-within w a.store.now st a.at a.close a.place (Quantified (quantifier_of a.is_universal)) given h in
    let ends = subst (λ (its : List Item). EndsBefore its (a.at + 1) c.behind-second.result) c.deref.ensures.value c.behind-second.ensures in
    let is = is-second w a.store.now st a.at a.close a.place (Quantified (quantifier_of a.is_universal)) given h c.behind-second.result ends in
    (omega (arith, n.1, is), omega (arith, n.2, c.deref-3.ensures.len))

pub returns-in_default-clause-next : goal.returns-in_default-clause-next
returns-in_default-clause-next c = λ defs end given i h.
    let a = c.args in
    let w = source a.expr.now end defs in
    let st = state_of a.self.now in
    let ends = subst (λ (its : List Item). EndsBefore its (a.at + 1) c.behind-second.result) c.deref.ensures.value c.behind-second.ensures in
    let is = is-second w a.store.now st a.at a.close a.place (Quantified (quantifier_of a.is_universal)) given h c.behind-second.result ends in
    let none = moved (λ its text n r. binding_of r ≡ None) c.deref-3.result.now a.expr.now.items.items c.deref-2.result.now a.expr.now.text.items c.behind-second.result h.second a.close c.deref-3.ensures.value c.deref-2.ensures.value is c.in_default.ensures h.rest h.rest_stand in
    refused w a.store.now st a.at a.close a.place (Quantified (quantifier_of a.is_universal)) given h Form (quantifier-refused (quantifier_of a.is_universal) a.place h.first h.rest h.c h.around.looks none)

pub overflow_add-second : goal.overflow_add-second
overflow_add-second c =
    let a = c.args in
    let x = c.requires.list in
    let given = x.2 in
    let h = x.3.1 in
    let w = source a.expr.now x.1 x.0 in
    let st = state_of a.self.now in
    let n = list-within w a.store.now st a.at a.close a.place (Quantified (quantifier_of a.is_universal)) given h in
    let ends = subst (λ (its : List Item). EndsBefore its (a.at + 1) c.behind-second.result) c.deref.ensures.value c.behind-second.ensures in
    let is = is-second w a.store.now st a.at a.close a.place (Quantified (quantifier_of a.is_universal)) given h c.behind-second.result ends in
    omega (arith, n.0, n.1, n.2, is, a.expr.now.items.small, a.expr.now.items.ok.0, a.expr.now.items.ok.1)

pub bind_variables-requires-clause-scope : goal.bind_variables-requires-clause-scope
bind_variables-requires-clause-scope c = (c.requires.list.0, c.requires.list.3.0)

pub bind_variables-requires-clause-within : goal.bind_variables-requires-clause-within
bind_variables-requires-clause-within c =
    let a = c.args in
    let x = c.requires.list in
    let given = x.2 in
    let h = x.3.1 in
    let w = source a.expr.now x.1 x.0 in
    let st = state_of a.self.now in
    let ends = subst (λ (its : List Item). EndsBefore its (a.at + 1) c.behind-second.result) c.deref.ensures.value c.behind-second.ensures in
    let is = is-second w a.store.now st a.at a.close a.place (Quantified (quantifier_of a.is_universal)) given h c.behind-second.result ends in
    let b = moved (λ its text n r. IsBoundBy its text n r a.close c.in-Some.end) c.deref-3.result.now a.expr.now.items.items c.deref-2.result.now a.expr.now.text.items c.behind-second.result h.second a.close c.deref-3.ensures.value c.deref-2.ensures.value is c.in-Some.ensures h.rest h.rest_stand in
    let q = quantifier-within w a.store.now st a.at a.close a.place a.is_universal given h c.in-Some.end b in
    omega (arith, q.1)

pub bind_variables-requires-clause-pairs : goal.bind_variables-requires-clause-pairs
bind_variables-requires-clause-pairs c =
    let a = c.args in
    let x = c.requires.list in
    let given = x.2 in
    let h = x.3.1 in
    let w = source a.expr.now x.1 x.0 in
    let st = state_of a.self.now in
    let ends = subst (λ (its : List Item). EndsBefore its (a.at + 1) c.behind-second.result) c.deref.ensures.value c.behind-second.ensures in
    let is = is-second w a.store.now st a.at a.close a.place (Quantified (quantifier_of a.is_universal)) given h c.behind-second.result ends in
    let b = moved (λ its text n r. IsBoundBy its text n r a.close c.in-Some.end) c.deref-3.result.now a.expr.now.items.items c.deref-2.result.now a.expr.now.text.items c.behind-second.result h.second a.close c.deref-3.ensures.value c.deref-2.ensures.value is c.in-Some.ensures h.rest h.rest_stand in
    let stand = subst (λ m. StandAll a.expr.now.items.items a.expr.now.text.items (m + 1) b.pairs c.in-Some.end) (sym is) b.stand in
    (b.pairs, b.some, pairs-are w a.store.now st a.at a.close a.place a.is_universal given h c.in-Some.end b, stand)

pub returns-in_err-binders-clause-next : goal.returns-in_err-binders-clause-next
returns-in_err-binders-clause-next c = λ defs end given i h.
    let a = c.args in
    let w = source a.expr.now end defs in
    let st = state_of a.self.now in
    let ends = subst (λ (its : List Item). EndsBefore its (a.at + 1) c.behind-second.result) c.deref.ensures.value c.behind-second.ensures in
    let is = is-second w a.store.now st a.at a.close a.place (Quantified (quantifier_of a.is_universal)) given h c.behind-second.result ends in
    let b = moved (λ its text n r. IsBoundBy its text n r a.close c.in-Some.end) c.deref-3.result.now a.expr.now.items.items c.deref-2.result.now a.expr.now.text.items c.behind-second.result h.second a.close c.deref-3.ensures.value c.deref-2.ensures.value is c.in-Some.ensures h.rest h.rest_stand in
    let stand = subst (λ m. StandAll a.expr.now.items.items a.expr.now.text.items (m + 1) b.pairs c.in-Some.end) (sym is) b.stand in
    let binds = c.in_err-binders.ensures.binds defs b.pairs b.some i (pairs-are w a.store.now st a.at a.close a.place a.is_universal given h c.in-Some.end b) stand in
    let q = err_from_is_err_and c.from_residual.result c.from_residual.ensures.1 in
    variables-out w a.store.now st a.at a.close a.place a.is_universal given h c.in-Some.end b c.bind_variables.new.store _ a.self.now.binders a.self.now.bound c.bind_variables.new.bound c.in_err-binders.field-0.0 q.0 c.from_residual.result binds q.1 q.2

pub overflow_add-end : goal.overflow_add-end
overflow_add-end c =
    let a = c.args in
    let x = c.requires.list in
    let given = x.2 in
    let h = x.3.1 in
    let w = source a.expr.now x.1 x.0 in
    let st = state_of a.self.now in
    let n = list-within w a.store.now st a.at a.close a.place (Quantified (quantifier_of a.is_universal)) given h in
    let ends = subst (λ (its : List Item). EndsBefore its (a.at + 1) c.behind-second.result) c.deref.ensures.value c.behind-second.ensures in
    let is = is-second w a.store.now st a.at a.close a.place (Quantified (quantifier_of a.is_universal)) given h c.behind-second.result ends in
    let b = moved (λ its text n r. IsBoundBy its text n r a.close c.in-Some.end) c.deref-3.result.now a.expr.now.items.items c.deref-2.result.now a.expr.now.text.items c.behind-second.result h.second a.close c.deref-3.ensures.value c.deref-2.ensures.value is c.in-Some.ensures h.rest h.rest_stand in
    let q = quantifier-within w a.store.now st a.at a.close a.place a.is_universal given h c.in-Some.end b in
    omega (arith, n.2, q.1, q.2, a.expr.now.items.small, a.expr.now.items.ok.0, a.expr.now.items.ok.1)

pub index-requires : goal.index-requires
index-requires c =
    let a = c.args in
    let x = c.requires.list in
    let given = x.2 in
    let h = x.3.1 in
    let w = source a.expr.now x.1 x.0 in
    let st = state_of a.self.now in
    let n = list-within w a.store.now st a.at a.close a.place (Quantified (quantifier_of a.is_universal)) given h in
    let ends = subst (λ (its : List Item). EndsBefore its (a.at + 1) c.behind-second.result) c.deref.ensures.value c.behind-second.ensures in
    let is = is-second w a.store.now st a.at a.close a.place (Quantified (quantifier_of a.is_universal)) given h c.behind-second.result ends in
    let b = moved (λ its text n r. IsBoundBy its text n r a.close c.in-Some.end) c.deref-3.result.now a.expr.now.items.items c.deref-2.result.now a.expr.now.text.items c.behind-second.result h.second a.close c.deref-3.ensures.value c.deref-2.ensures.value is c.in-Some.ensures h.rest h.rest_stand in
    let q = quantifier-within w a.store.now st a.at a.close a.place a.is_universal given h c.in-Some.end b in
    omega (arith, n.2, q.2, a.expr.now.items.ok.0)

pub overflow_add-result : goal.overflow_add-result
overflow_add-result c =
    let a = c.args in
    let x = c.requires.list in
    let given = x.2 in
    let h = x.3.1 in
    let w = source a.expr.now x.1 x.0 in
    let st = state_of a.self.now in
    let n = list-within w a.store.now st a.at a.close a.place (Quantified (quantifier_of a.is_universal)) given h in
    let ends = subst (λ (its : List Item). EndsBefore its (a.at + 1) c.behind-second.result) c.deref.ensures.value c.behind-second.ensures in
    let is = is-second w a.store.now st a.at a.close a.place (Quantified (quantifier_of a.is_universal)) given h c.behind-second.result ends in
    let b = moved (λ its text n r. IsBoundBy its text n r a.close c.in-Some.end) c.deref-3.result.now a.expr.now.items.items c.deref-2.result.now a.expr.now.text.items c.behind-second.result h.second a.close c.deref-3.ensures.value c.deref-2.ensures.value is c.in-Some.ensures h.rest h.rest_stand in
    let q = quantifier-within w a.store.now st a.at a.close a.place a.is_universal given h c.in-Some.end b in
    omega (arith, n.2, q.1, q.2, a.expr.now.items.small, a.expr.now.items.ok.0, a.expr.now.items.ok.1)

pub returns-clause-next : goal.returns-clause-next
returns-clause-next c = λ defs end given i h.
    let a = c.args in
    let w = source a.expr.now end defs in
    let st = state_of a.self.now in
    let ends = subst (λ (its : List Item). EndsBefore its (a.at + 1) c.behind-second.result) c.deref.ensures.value c.behind-second.ensures in
    let is = is-second w a.store.now st a.at a.close a.place (Quantified (quantifier_of a.is_universal)) given h c.behind-second.result ends in
    let b = moved (λ its text n r. IsBoundBy its text n r a.close c.in-Some.end) c.deref-3.result.now a.expr.now.items.items c.deref-2.result.now a.expr.now.text.items c.behind-second.result h.second a.close c.deref-3.ensures.value c.deref-2.ensures.value is c.in-Some.ensures h.rest h.rest_stand in
    let stand = subst (λ m. StandAll a.expr.now.items.items a.expr.now.text.items (m + 1) b.pairs c.in-Some.end) (sym is) b.stand in
    let v = c.in_ok-binders.ensures.binds defs b.pairs b.some i (pairs-are w a.store.now st a.at a.close a.place a.is_universal given h c.in-Some.end b) stand in
    let inner = body-place w a.store.now st a.at a.close a.place a.is_universal given h c.in-Some.end b c.index.result.now c.index.ensures in
    let o = opened.Quantifier a.place c.index.result.now.place a.is_universal c.len-bound.result in
    let stack = pushed a.self.now.open.items c.push_reserved.new.self.items o (c.push_reserved.ensures.items ∙ ap (λ os. os ++ o ∷ []) c.reserve.ensures.items) in
    let body = into-body w a.store.now st a.at a.close a.place a.is_universal given h c.in-Some.end b c.bind_variables.new.store c.bind_variables.ensures.grows c.bind_variables.new.bound c.in_ok-binders.binders v c.index.result.now.place c.len-bound.result inner c.len-bound.ensures in
    reading-at w c.bind_variables.new.store (o ∷ reverse a.self.now.open.items) (reverse c.push_reserved.new.self.items) a.self.now.done.items a.self.now.done.items c.bind_variables.new.bound a.self.now.pending c.in_ok-binders.binders a.self.now.watched.items (c.in-Some.end + 1) given stack refl body

pub returns-clause-fewer : goal.returns-clause-fewer
returns-clause-fewer c =
    let a = c.args in
    let x = c.requires.list in
    let given = x.2 in
    let h = x.3.1 in
    let w = source a.expr.now x.1 x.0 in
    let st = state_of a.self.now in
    let n = list-within w a.store.now st a.at a.close a.place (Quantified (quantifier_of a.is_universal)) given h in
    let ends = subst (λ (its : List Item). EndsBefore its (a.at + 1) c.behind-second.result) c.deref.ensures.value c.behind-second.ensures in
    let is = is-second w a.store.now st a.at a.close a.place (Quantified (quantifier_of a.is_universal)) given h c.behind-second.result ends in
    let b = moved (λ its text n r. IsBoundBy its text n r a.close c.in-Some.end) c.deref-3.result.now a.expr.now.items.items c.deref-2.result.now a.expr.now.text.items c.behind-second.result h.second a.close c.deref-3.ensures.value c.deref-2.ensures.value is c.in-Some.ensures h.rest h.rest_stand in
    let q = quantifier-within w a.store.now st a.at a.close a.place a.is_universal given h c.in-Some.end b in
    omega (arith, n.0, n.2, is, q.0, q.1)

pub returns-in_err-binders-clause-begins : goal.returns-in_err-binders-clause-begins
returns-in_err-binders-clause-begins c = λ defs end given i h.
    let a = c.args in
    let w = source a.expr.now end defs in
    let st = state_of a.self.now in
    let ends = subst (λ (its : List Item). EndsBefore its (a.at + 1) c.behind-second.result) c.deref.ensures.value c.behind-second.ensures in
    let is = is-second w a.store.now st a.at a.close a.place (Quantified (quantifier_of a.is_universal)) given h c.behind-second.result ends in
    let b = moved (λ its text n r. IsBoundBy its text n r a.close c.in-Some.end) c.deref-3.result.now a.expr.now.items.items c.deref-2.result.now a.expr.now.text.items c.behind-second.result h.second a.close c.deref-3.ensures.value c.deref-2.ensures.value is c.in-Some.ensures h.rest h.rest_stand in
    begins-anyhow (list_beginning (Quantified (quantifier_of a.is_universal)) a.place h.first h.rest defs) c.from_residual.result
    (quantifier-begins a.place h.first h.rest defs a.expr.now.items.items a.expr.now.text.items h.second a.close c.in-Some.end b (quantifier_of a.is_universal))

pub returns-in_err-reserve-clause-begins : goal.returns-in_err-reserve-clause-begins
returns-in_err-reserve-clause-begins c = λ defs end given i h.
    let a = c.args in
    let w = source a.expr.now end defs in
    let st = state_of a.self.now in
    let ends = subst (λ (its : List Item). EndsBefore its (a.at + 1) c.behind-second.result) c.deref.ensures.value c.behind-second.ensures in
    let is = is-second w a.store.now st a.at a.close a.place (Quantified (quantifier_of a.is_universal)) given h c.behind-second.result ends in
    let b = moved (λ its text n r. IsBoundBy its text n r a.close c.in-Some.end) c.deref-3.result.now a.expr.now.items.items c.deref-2.result.now a.expr.now.text.items c.behind-second.result h.second a.close c.deref-3.ensures.value c.deref-2.ensures.value is c.in-Some.ensures h.rest h.rest_stand in
    begins-anyhow (list_beginning (Quantified (quantifier_of a.is_universal)) a.place h.first h.rest defs) c.from_residual-in_err-reserve.result
    (quantifier-begins a.place h.first h.rest defs a.expr.now.items.items a.expr.now.text.items h.second a.close c.in-Some.end b (quantifier_of a.is_universal))

pub returns-clause-begins : goal.returns-clause-begins
returns-clause-begins c = λ defs end given i h.
    let a = c.args in
    let w = source a.expr.now end defs in
    let st = state_of a.self.now in
    let ends = subst (λ (its : List Item). EndsBefore its (a.at + 1) c.behind-second.result) c.deref.ensures.value c.behind-second.ensures in
    let is = is-second w a.store.now st a.at a.close a.place (Quantified (quantifier_of a.is_universal)) given h c.behind-second.result ends in
    let b = moved (λ its text n r. IsBoundBy its text n r a.close c.in-Some.end) c.deref-3.result.now a.expr.now.items.items c.deref-2.result.now a.expr.now.text.items c.behind-second.result h.second a.close c.deref-3.ensures.value c.deref-2.ensures.value is c.in-Some.ensures h.rest h.rest_stand in
    quantifier-begins a.place h.first h.rest defs a.expr.now.items.items a.expr.now.text.items h.second a.close c.in-Some.end b (quantifier_of a.is_universal)
