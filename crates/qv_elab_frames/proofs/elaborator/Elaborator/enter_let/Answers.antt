use Rattle.std.proofs.Common.{◌≡◌, ◌<◌, ◌≤◌, ◌+◌, ℕ, List, None, length, sym, subst, arith}
use Rattle.std.proofs.lemmas.Result.{IfOk-weaker}
use Rattle.qv_sexpr.specs.declared.items.Item.{Item}
use Rattle.qv_sexpr.specs.Script.{Trees as Exprs}
use Rattle.qv_sexpr.specs.Items.{StandAll}
use Rattle.qv_sexpr.specs.Copying.{EndsBefore}
use Rattle.qv_elab_frames.specs.declared.elaborator.Next.{Next}
use Rattle.qv_elab_frames.specs.declared.elaborator.Next.TheVariants.{Read}
use Rattle.qv_elab_defs.specs.declared.faults.ElabKind.TheVariants.{Form}
use Rattle.qv_elab_defs.specs.Shapes.{Let}
use Rattle.qv_elab_items.specs.Inside.{binding_of, IsBoundBy}
use Rattle.qv_elab_frames.specs.Loop.{source, state_of, steps_left, IsAtPair}
use Rattle.qv_elab_frames.proofs.Inside.{list-within, ends-first, is-second, refused}
use Rattle.qv_elab_defs.specs.Beginnings.{list_beginning}
use Rattle.qv_elab_defs.proofs.Beginning.{begins-anyhow}
use Rattle.qv_elab_frames.proofs.Begun.{let-begins}
use Rattle.qv_elab_frames.proofs.Letting.{let-refused, into-first}
use Rattle.qv_elab_frames.proofs.elaborator.Elaborator.enter_let.Goals as goal

-- the same of the same items
moved : (P : List Item → List ℕ → ℕ → Exprs → Type 0) (its its' : List Item) (text text' : List ℕ) (n n' close : ℕ) → its ≡ its' → text ≡ text' → n ≡ n' → ((r : Exprs) → StandAll its text n r close → P its text n r) → (r : Exprs) → StandAll its' text' n' r close → P its' text' n' r
moved P its its' text text' n n' close e f g h =
    subst (λ (m : ℕ). (r : Exprs) → StandAll its' text' m r close → P its' text' m r) g
    (subst (λ (t : List ℕ). (r : Exprs) → StandAll its' t n r close → P its' t n r) f
    (subst (λ (is : List Item). (r : Exprs) → StandAll is text n r close → P is text n r) e h))

pub overflow_add-at : goal.overflow_add-at
overflow_add-at c =
    let x = c.requires.list in
    let n = list-within (source c.args.expr.now x.1 x.0) c.args.store.now (state_of c.args.self.now) c.args.at c.args.close c.args.place Let x.2 x.3.1 in
    omega (arith, n.0, n.1, n.2, c.args.expr.now.items.small, c.args.expr.now.items.ok.0, c.args.expr.now.items.ok.1)

pub behind-second-requires : goal.behind-second-requires
behind-second-requires c =
    let x = c.requires.list in
    let w = source c.args.expr.now x.1 x.0 in
    let n = list-within w c.args.store.now (state_of c.args.self.now) c.args.at c.args.close c.args.place Let x.2 x.3.1 in
    let e = ends-first w c.args.store.now (state_of c.args.self.now) c.args.at c.args.close c.args.place Let x.2 x.3.1 in
    subst (λ (its : List Item). (to : ℕ) × (to ≤ length its) × (c.args.at + 1 < to) × EndsBefore its (c.args.at + 1) to) (sym c.deref.ensures.value) (x.3.1.second, e.0, n.0, e.1)

pub binding-requires-clause-stand : goal.binding-requires-clause-stand
binding-requires-clause-stand c =
    let x = c.requires.list in
    let w = source c.args.expr.now x.1 x.0 in
    let h = x.3.1 in
    let ends = subst (λ (its : List Item). EndsBefore its (c.args.at + 1) c.behind-second.result) c.deref.ensures.value c.behind-second.ensures in
    let is = is-second w c.args.store.now (state_of c.args.self.now) c.args.at c.args.close c.args.place Let x.2 h c.behind-second.result ends in
    let stand = subst (λ (m : ℕ). StandAll c.args.expr.now.items.items c.args.expr.now.text.items m h.rest c.args.close) (sym is) h.rest_stand in
    let stand = subst (λ (t : List ℕ). StandAll c.args.expr.now.items.items t c.behind-second.result h.rest c.args.close) (sym c.deref-2.ensures.value) stand in
    (h.rest, subst (λ (its : List Item). StandAll its c.deref-2.result.now c.behind-second.result h.rest c.args.close) (sym c.deref-3.ensures.value) stand)

pub binding-requires-clause-within : goal.binding-requires-clause-within
binding-requires-clause-within c =
    let x = c.requires.list in
    let w = source c.args.expr.now x.1 x.0 in
    let n = list-within w c.args.store.now (state_of c.args.self.now) c.args.at c.args.close c.args.place Let x.2 x.3.1 in
    let ends = subst (λ (its : List Item). EndsBefore its (c.args.at + 1) c.behind-second.result) c.deref.ensures.value c.behind-second.ensures in
    let is = is-second w c.args.store.now (state_of c.args.self.now) c.args.at c.args.close c.args.place Let x.2 x.3.1 c.behind-second.result ends in
    (omega (arith, n.1, is), omega (arith, n.2, c.deref-3.ensures.len))

pub returns-in_default-clause-next : goal.returns-in_default-clause-next
returns-in_default-clause-next c = λ defs end given s h.
    let a = c.args in
    let w = source a.expr.now end defs in
    let ends = subst (λ (its : List Item). EndsBefore its (a.at + 1) c.behind-second.result) c.deref.ensures.value c.behind-second.ensures in
    let is = is-second w a.store.now (state_of a.self.now) a.at a.close a.place Let given h c.behind-second.result ends in
    let none = moved (λ its text n r. binding_of r ≡ None) c.deref-3.result.now a.expr.now.items.items c.deref-2.result.now a.expr.now.text.items c.behind-second.result h.second a.close c.deref-3.ensures.value c.deref-2.ensures.value is c.in_default.ensures h.rest h.rest_stand in
    refused w a.store.now (state_of a.self.now) a.at a.close a.place Let given h Form (let-refused a.place h.first h.rest h.c h.around.looks none)

pub overflow_add-second : goal.overflow_add-second
overflow_add-second c =
    let x = c.requires.list in
    let w = source c.args.expr.now x.1 x.0 in
    let n = list-within w c.args.store.now (state_of c.args.self.now) c.args.at c.args.close c.args.place Let x.2 x.3.1 in
    let ends = subst (λ (its : List Item). EndsBefore its (c.args.at + 1) c.behind-second.result) c.deref.ensures.value c.behind-second.ensures in
    let is = is-second w c.args.store.now (state_of c.args.self.now) c.args.at c.args.close c.args.place Let x.2 x.3.1 c.behind-second.result ends in
    omega (arith, n.0, n.1, n.2, is, c.args.expr.now.items.small, c.args.expr.now.items.ok.0, c.args.expr.now.items.ok.1)

pub enter_pair-requires : goal.enter_pair-requires
enter_pair-requires c =
    let x = c.requires.list in
    let a = c.args in
    let w = source a.expr.now x.1 x.0 in
    let h = x.3.1 in
    let ends = subst (λ (its : List Item). EndsBefore its (a.at + 1) c.behind-second.result) c.deref.ensures.value c.behind-second.ensures in
    let is = is-second w a.store.now (state_of a.self.now) a.at a.close a.place Let x.2 h c.behind-second.result ends in
    let b = moved (λ its text n r. IsBoundBy its text n r a.close c.in-Some.field-0) c.deref-3.result.now a.expr.now.items.items c.deref-2.result.now a.expr.now.text.items c.behind-second.result h.second a.close c.deref-3.ensures.value c.deref-2.ensures.value is c.in-Some.ensures h.rest h.rest_stand in
    let first = into-first w a.store.now (state_of a.self.now) a.at a.close a.place c.in-Some.field-0 x.2 h b in
    let first = subst (λ (m : ℕ). IsAtPair w a.store.now (state_of a.self.now) (m + 2) (length a.self.now.pending) x.2) (sym is) first in
    (a.store.now, (x.0, x.1, x.2, subst (λ (m : ℕ). IsAtPair w a.store.now (state_of a.self.now) (c.behind-second.result + 2) m x.2) (sym c.len-start.ensures) first))

pub returns-clause-next : goal.returns-clause-next
returns-clause-next c = λ defs end given s h.
    let a = c.args in
    let w = source a.expr.now end defs in
    let ends = subst (λ (its : List Item). EndsBefore its (a.at + 1) c.behind-second.result) c.deref.ensures.value c.behind-second.ensures in
    let is = is-second w a.store.now (state_of a.self.now) a.at a.close a.place Let given h c.behind-second.result ends in
    let b = moved (λ its text n r. IsBoundBy its text n r a.close c.in-Some.field-0) c.deref-3.result.now a.expr.now.items.items c.deref-2.result.now a.expr.now.text.items c.behind-second.result h.second a.close c.deref-3.ensures.value c.deref-2.ensures.value is c.in-Some.ensures h.rest h.rest_stand in
    let first = into-first w a.store.now (state_of a.self.now) a.at a.close a.place c.in-Some.field-0 given h b in
    let first = subst (λ (m : ℕ). IsAtPair w a.store.now (state_of a.self.now) (m + 2) (length a.self.now.pending) given) (sym is) first in
    c.enter_pair.ensures.next a.store.now defs end given (subst (λ (m : ℕ). IsAtPair w a.store.now (state_of a.self.now) (c.behind-second.result + 2) m given) (sym c.len-start.ensures) first)

pub returns-clause-fewer : goal.returns-clause-fewer
returns-clause-fewer c =
    let x = c.requires.list in
    let w = source c.args.expr.now x.1 x.0 in
    let n = list-within w c.args.store.now (state_of c.args.self.now) c.args.at c.args.close c.args.place Let x.2 x.3.1 in
    let ends = subst (λ (its : List Item). EndsBefore its (c.args.at + 1) c.behind-second.result) c.deref.ensures.value c.behind-second.ensures in
    let is = is-second w c.args.store.now (state_of c.args.self.now) c.args.at c.args.close c.args.place Let x.2 x.3.1 c.behind-second.result ends in
    IfOk-weaker c.enter_pair.result (λ (m : Next). steps_left c.args.expr.now m < steps_left c.args.expr.now (Read (c.behind-second.result + 2))) (λ (m : Next). steps_left c.args.expr.now m < steps_left c.args.expr.now (Read c.args.at)) (λ m k. omega (arith, n.0, is)) c.enter_pair.ensures.onward

pub returns-clause-begins : goal.returns-clause-begins
returns-clause-begins c = λ defs end given s h.
    let a = c.args in
    let w = source a.expr.now end defs in
    let ends = subst (λ (its : List Item). EndsBefore its (a.at + 1) c.behind-second.result) c.deref.ensures.value c.behind-second.ensures in
    let is = is-second w a.store.now (state_of a.self.now) a.at a.close a.place Let given h c.behind-second.result ends in
    let b = moved (λ its text n r. IsBoundBy its text n r a.close c.in-Some.field-0) c.deref-3.result.now a.expr.now.items.items c.deref-2.result.now a.expr.now.text.items c.behind-second.result h.second a.close c.deref-3.ensures.value c.deref-2.ensures.value is c.in-Some.ensures h.rest h.rest_stand in
    begins-anyhow (list_beginning Let a.place h.first h.rest defs) c.enter_pair.result
    (let-begins a.place h.first h.rest defs a.expr.now.items.items a.expr.now.text.items h.second a.close c.in-Some.field-0 b)
