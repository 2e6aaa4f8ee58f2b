use Rattle.std.proofs.Common.{◌==◌, ℕ, Bool, ap, sym, ◌∙◌}
use Rattle.qv_rewrite_sums.specs.Held.{first_place}
use Rattle.qv_rewrite_xors.proofs.Standing.{toggled-found, toggled-last}
use Rattle.qv_rewrite_xors.proofs.chained.toggle.Goals as goal

pub returns-in-Some : goal.returns-in-Some
returns-in-Some c =
    let test : ℕ → Bool = λ other. other == c.args.id in
    c.remove.ensures.items
    ∙ toggled-found c.args.atoms.now.items c.args.id c.in-Some.place (ap (first_place test) (sym c.as_slice.ensures) ∙ sym c.place_of.ensures.place ∙ c.in-Some.is)

pub returns-in_ok-push-in-None : goal.returns-in_ok-push-in-None
returns-in_ok-push-in-None c =
    let test : ℕ → Bool = λ other. other == c.args.id in
    c.in_ok-push-in-None.ensures.ok
    ∙ toggled-last c.args.atoms.now.items c.args.id (ap (first_place test) (sym c.as_slice.ensures) ∙ sym c.place_of.ensures.place ∙ c.in-None.is)
