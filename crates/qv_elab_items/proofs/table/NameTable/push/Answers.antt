use Rattle.std.proofs.Common.{◌≡◌, None, [], ◌∷◌, ◌++◌, ap, subst, sym, ◌∙◌}
use Rattle.qv_elab_items.specs.Places.{place_in}
use Rattle.qv_elab_items.specs.Tables.{names_in, HaveNoTwins}
use Rattle.qv_elab_items.proofs.TableNames.{table-push, twins-push, of-if_ok, keys-push}
use Rattle.qv_elab_items.proofs.table.NameTable.push.Goals as goal

all-keys : (c : goal.Else-is_err) → c.insert.new.self.keys ≡ c.self.inside.names.keys ++ c.in_ok-own.own ∷ []
all-keys c =
    let keys = of-if_ok c.insert.result (c.insert.new.self.keys ≡ _) (sym c.is_err.ensures.value ∙ c.if-is_err.false) c.insert.ensures.keys in
    keys-push c.self.inside.names.keys c.in_ok-own.own c.insert.new.self.keys c.args.self.now c.args.name.now keys c.in_ok-own.ensures.items c.self.view_is c.requires

pub invariant_of-self-2 : goal.invariant_of-self-2
invariant_of-self-2 c =
    let ks = c.self.inside.names.keys in
    let none : place_in c.in_ok-own.own.items (names_in ks) ≡ None = ap (λ n. place_in n (names_in ks)) c.in_ok-own.ensures.items ∙ ap (place_in c.args.name.now) c.self.view_is ∙ c.requires in
    subst (λ all. HaveNoTwins (names_in all)) (sym (all-keys c)) (twins-push ks c.in_ok-own.own c.self.invariant none)

pub returns-clause-ok : goal.returns-clause-ok
returns-clause-ok c =
    ap names_in (all-keys c)
    ∙ table-push c.self.inside.names.keys c.in_ok-own.own
    ∙ ap (λ n. n ∷ names_in c.self.inside.names.keys) c.in_ok-own.ensures.items
    ∙ ap (λ ns. c.args.name.now ∷ ns) c.self.view_is
