use Rattle.std.proofs.Common.{◌≡◌, ◌-◌, ◌++◌, length, take, drop}
use Rattle.qv_elab_items.proofs.named.NamedIds.push_from.Given as goal

-- those of the places before are there
abbrev pub invariant-bindings : goal.invariant-bindings
invariant-bindings l = l.self ≡ drop (length l.others - l.place) (take (length l.others - l.from) l.others) ++ l.initial.self
