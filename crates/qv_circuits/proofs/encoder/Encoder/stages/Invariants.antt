use Rattle.std.proofs.Common.{◌≡◌, ◌^◌, ◌-◌, min, drop}
use Rattle.qv_words.specs.Routine.{stages}
use Rattle.qv_circuits.specs.Adding.{lit_of, lits_of}
use Rattle.qv_circuits.proofs.Running.{Continues}
use Rattle.qv_circuits.proofs.encoder.Encoder.stages.Given as goal

-- the whole is what is left
abbrev pub invariant-stages : goal.invariant-stages
invariant-stages l =
    Continues l.fn.self (stages l.left (lit_of l.fill) 1 (lits_of l.amount) (lits_of l.bits)) l.self
    (stages l.left (lit_of l.fill) (2 ^ l.bit-index) (drop l.bit-index (lits_of l.amount)) (lits_of l.present.items)) (λ r. r)
    × (l.places ≡ min (2 ^ l.bit-index) (2 ^ 64 - 1))
