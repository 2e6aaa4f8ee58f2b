use Rattle.std.proofs.Common.{◌≡◌, map, take}
use Rattle.qv_elab.specs.declared.bodies.Parameter.{Parameter}
use Rattle.qv_script_terms.proofs.defining.sorts_of.Given as goal

-- the sorts of the first parameters
abbrev pub invariant-sorts : goal.invariant-sorts
invariant-sorts l = l.sorts.items ≡ map (λ (p : Parameter). p.sort) (take l.parameter-index l.parameters)
