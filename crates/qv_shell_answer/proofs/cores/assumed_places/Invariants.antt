use Rattle.std.proofs.Common.{◌≡◌, map, take}
use Rattle.qv_script_defs.specs.State.{placed, places_of}
use Rattle.qv_script_stack.specs.Held.{terms_in}
use Rattle.qv_shell_answer.proofs.cores.assumed_places.Given as goal

abbrev pub invariant-assumed : goal.invariant-assumed
invariant-assumed l = l.places.items ≡ places_of (placed l.first (take l.i (map (λ t. t.items) (terms_in l.script.terms))))
