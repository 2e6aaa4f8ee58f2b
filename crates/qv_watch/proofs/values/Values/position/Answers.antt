use Rattle.std.proofs.Common.{◌≡◌, ℕ, ◌-◌, Some, sym, ◌∙◌, ap, subst, arith}
use Rattle.std.specs.Prelude.{IsSome, slice_get}
use Rattle.qv_watch.specs.Entries.{Entry, entry_at, value_of}
use Rattle.qv_watch.specs.Table.{entries_of}
use Rattle.qv_watch.proofs.Entering.{entry_at-valued}
use Rattle.qv_watch.proofs.Placing.{stands_where_placed, slice_get-within, slice_get-get_or}
use Rattle.qv_watch.proofs.values.Values.position.Goals as goal
use Rattle.qv_watch.proofs.values.Values.position.Goals.{After-place_of}

-- where the table says that the variable's entry stands
place : (c : After-place_of) → (e : Entry) × (k : ℕ) × (entry_at c.args.lit.variable c.args.self.now.entries ≡ Some e) × (slice_get c.args.self.now.entries k ≡ Some e) × (slice_get c.self.inside.positions.items c.place_of.result ≡ Some k)
place c =
    let old = c.self.inside in
    let inside = entries_of old.vars.items old.order.items in
    let is : inside ≡ c.args.self.now.entries = ap (λ v. v.entries) c.self.view_is in
    let there = entry_at-valued inside c.args.lit (subst (λ es. IsSome (value_of es c.args.lit)) (sym is) c.requires) in
    let stands = stands_where_placed old.vars.items old.order.items old.positions.items c.args.lit.variable there.0 c.self.invariant.placed there.1 in
    let at : c.place_of.result ≡ c.args.lit.variable - 1 = omega (arith, c.place_of.ensures.place) in
    (there.0, stands.0, ap (entry_at c.args.lit.variable) (sym is) ∙ there.1, ap (λ es. slice_get es stands.0) (sym is) ∙ stands.1, ap (slice_get old.positions.items) at ∙ stands.2)

pub index-requires : goal.index-requires
index-requires c =
    let p = place c in
    let low = slice_get-within c.self.inside.positions.items c.place_of.result p.1 p.4 in
    omega (arith, c.self.inside.positions.ok.0)

pub returns : goal.returns
returns c =
    let p = place (goal.at.returns c).After-place_of in
    let at : c.index.result.now ≡ p.1 = c.index.ensures ∙ slice_get-get_or c.self.inside.positions.items c.place_of.result p.1 c.index.result.now p.4 in
    rw at (p.3 ∙ sym p.2)
