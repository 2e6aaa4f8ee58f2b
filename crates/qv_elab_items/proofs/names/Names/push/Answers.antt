use Rattle.std.proofs.Common.{◌≡◌, sym, ap, ◌∙◌, subst, ◌∷◌, ◌++◌, List, [], Some, ℕ, length}
use Rattle.qv_elab_items.specs.declared.names.Bound.{Bound}
use Rattle.qv_elab_items.specs.Places.{place_in}
use Rattle.qv_elab_items.specs.Bindings.{names_of, AreKept}
use Rattle.qv_elab_items.proofs.NameTables.{Changes, names-push, kept-push, of-ok}
use Rattle.qv_elab_items.proofs.names.Names.push.Goals as goal

pub invariant_of-self-2 : goal.invariant_of-self-2
invariant_of-self-2 c =
    let b : Bound = record { name = c.in_ok-own.own; before = c.find-before.result } in
    let bs = c.self.inside.bound.items in
    let items : c.reserve.new.self.items ≡ bs = c.reserve.ensures.items in
    let before : c.find-before.result ≡ place_in c.in_ok-own.own.items (names_of bs) =
    c.find-before.ensures ∙ ap (λ ns. place_in c.args.name.now ns) (sym c.self.view_is) ∙ ap (λ n. place_in n (names_of bs)) (sym c.in_ok-own.ensures.items) in
    let change : Changes c.in_ok-key.key.items c.self.inside.newest c.insert.new.self (Some c.len-place.result) =
    of-ok c.insert.result (Changes c.in_ok-key.key.items c.self.inside.newest c.insert.new.self (Some c.len-place.result)) (sym c.is_err.ensures.value ∙ c.if-is_err.false) c.insert.ensures.updates in
    let key : c.in_ok-key.key.items ≡ c.in_ok-own.own.items = c.in_ok-key.ensures.items ∙ sym c.in_ok-own.ensures.items in
    let place : c.len-place.result ≡ length bs = c.len-place.ensures ∙ c.self.inside.bound.ok.0 in
    let changed = subst (λ (k : List ℕ). Changes k c.self.inside.newest c.insert.new.self (Some c.len-place.result)) key change in
    let placed = subst (λ (n : ℕ). Changes c.in_ok-own.own.items c.self.inside.newest c.insert.new.self (Some n)) place changed in
    subst (λ ks. AreKept c.insert.new.self ks) (sym c.push_reserved.ensures.items)
    (subst (λ ks. AreKept c.insert.new.self (ks ++ b ∷ [])) (sym items)
    (kept-push c.self.inside.newest c.insert.new.self bs b c.self.invariant before placed))

pub returns-clause-ok : goal.returns-clause-ok
returns-clause-ok c =
    let b : Bound = record { name = c.in_ok-own.own; before = c.find-before.result } in
    ap names_of c.push_reserved.ensures.items
    ∙ names-push c.reserve.new.self.items b
    ∙ ap (λ n. n ∷ names_of c.reserve.new.self.items) c.in_ok-own.ensures.items
    ∙ ap (λ bs. c.args.name.now ∷ names_of bs) c.reserve.ensures.items
    ∙ ap (λ ns. c.args.name.now ∷ ns) c.self.view_is
