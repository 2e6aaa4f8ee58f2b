-- the sorts of the first parameters
use Rattle.std.proofs.Common.{◌≡◌, take, map}
use Rattle.qv_elab.specs.declared.bodies.Parameter.{Parameter}
use Rattle.qv_elab_cases.proofs.scopes.sorts_of.Given as goal

abbrev pub invariant-parameters : goal.invariant-parameters
invariant-parameters l = l.sorts.items ≡ map (λ (p : Parameter). p.sort) (take l.place l.parameters)
