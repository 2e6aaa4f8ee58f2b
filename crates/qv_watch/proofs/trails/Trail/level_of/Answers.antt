use Rattle.std.proofs.Common.{◌≡◌, None, sym, ◌∙◌, ap, subst}
use Rattle.std.specs.Prelude.{IsSome}
use Rattle.qv_watch.specs.Entries.{value_of}
use Rattle.qv_watch.proofs.Entering.{value_of-none, entry_at-unassigned}
use Rattle.qv_watch.proofs.trails.Trail.level_of.Goals as goal

pub returns-in-None : goal.returns-in-None
returns-in-None c =
    let es = c.self.inside.values.entries in
    let none : value_of es c.args.lit ≡ None = value_of-none es c.args.lit (entry_at-unassigned c.args.lit.variable es c.in-None.ensures) in
    let same : value_of c.args.self.now.entries c.args.lit ≡ None = ap (λ t. value_of t.entries c.args.lit) (sym c.self.view_is) ∙ none in
    absurd (let h = subst IsSome same c.requires in cc)
