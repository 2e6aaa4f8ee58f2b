use Rattle.std.proofs.Common.{◌<◌, ◌+◌, ℕ, Option, List, Bor, length, sym, subst, ◌∙◌}
use Rattle.std.specs.Prelude.{option_map}
use Rattle.qv_sexpr.specs.declared.items.Item.{Item}
use Rattle.qv_sexpr.specs.Script.{Trees as Writtens}
use Rattle.qv_sexpr.specs.Items.{StandAll}
use Rattle.qv_script_defs.specs.Parts.{asserted_of}
use Rattle.qv_script_parts.specs.Parted.{IsAsserted}
use Rattle.qv_script_parts.proofs.Parting.{part-list, the-list}
use Rattle.qv_script_parts.proofs.Attributes.{told-list}
use Rattle.qv_script_parts.proofs.annotated.asserted_at.Goals as goal

pub named_in-requires-clause-stand : goal.named_in-requires-clause-stand
named_in-requires-clause-stand c =
    let a = c.args in
    let l = the-list a.expr.now a.at c.in-Open.close c.index.result.now c.requires.expr c.requires.at c.index.ensures c.in-Open.is in
    subst (λ (its : List Item). (x : Writtens) × StandAll its c.deref.result.now (a.at + 1) x c.in-Open.close) (sym c.deref-2.ensures.value)
    (subst (λ (t : List ℕ). (x : Writtens) × StandAll a.expr.now.items.items t (a.at + 1) x c.in-Open.close) (sym c.deref.ensures.value) (l.0, l.2))

pub named_in-requires-clause-within : goal.named_in-requires-clause-within
named_in-requires-clause-within c =
    let a = c.args in
    let l = the-list a.expr.now a.at c.in-Open.close c.index.result.now c.requires.expr c.requires.at c.index.ensures c.in-Open.is in
    (l.3, subst (λ (its : List Item). c.in-Open.close < length its) (sym c.deref-2.ensures.value) l.4)

pub returns-in_err-term : goal.returns-in_err-term
returns-in_err-term c = λ e p.
    let a = c.args in
    let l = part-list a.expr.now a.at c.in-Open.close c.index.result.now c.requires.expr c.requires.at c.index.ensures c.in-Open.is e p.0 p.1 in
    let told = told-list a.expr.now.items.items c.deref-2.result.now a.expr.now.text.items c.deref.result.now (a.at + 1) c.in-Open.close (option_map (λ (x : ℕ × Bor (List ℕ)). (x.0, x.1.now)) c.named_in.result) c.deref-2.ensures.value c.deref.ensures.value c.named_in.ensures c.index.result.now.place l.0 l.1 e l.2 l.3 in
    subst (λ (o : Option (ℕ × Bor (List ℕ))). IsAsserted a.expr.now.items.items a.expr.now.text.items e (asserted_of e) (option_map (λ (x : ℕ × Bor (List ℕ)). (x.0, x.1.now)) o)) (c.in_err-term.was ∙ sym c.from_residual.ensures) told

pub returns : goal.returns
returns c = λ e p.
    let a = c.args in
    let l = part-list a.expr.now a.at c.in-Open.close c.index.result.now c.requires.expr c.requires.at c.index.ensures c.in-Open.is e p.0 p.1 in
    let told = told-list a.expr.now.items.items c.deref-2.result.now a.expr.now.text.items c.deref.result.now (a.at + 1) c.in-Open.close (option_map (λ (x : ℕ × Bor (List ℕ)). (x.0, x.1.now)) c.named_in.result) c.deref-2.ensures.value c.deref.ensures.value c.named_in.ensures c.index.result.now.place l.0 l.1 e l.2 l.3 in
    subst (λ (o : Option (ℕ × Bor (List ℕ))). IsAsserted a.expr.now.items.items a.expr.now.text.items e (asserted_of e) (option_map (λ (x : ℕ × Bor (List ℕ)). (x.0, x.1.now)) o)) c.in_ok-term.was told
