use Rattle.std.proofs.Common.{◌≡◌, take}
use Rattle.qv_script_defs.specs.State.{places_of}
use Rattle.qv_script_stack.specs.Held.{named_of}
use Rattle.qv_shell_answer.proofs.cores.named_places.Given as goal

abbrev pub invariant-named : goal.invariant-named
invariant-named l = l.places.items ≡ places_of (named_of (take l.one-index l.named))
