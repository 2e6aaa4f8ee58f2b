use Rattle.std.proofs.Common.{◌≡◌, take}
use Rattle.std.specs.Prelude.{option_map}
use Rattle.qv_elab_defs.specs.Scopes.{found}
use Rattle.qv_script_stack.specs.Held.{chosen_of}
use Rattle.qv_script_stack.proofs.telling.last_chosen.Given as goal

-- the value among the first options
abbrev pub invariant-options : goal.invariant-options
invariant-options l = option_map (λ v. v.now) l.value ≡ found l.key (chosen_of (take l.own-index l.options))
