-- A run that did nothing at all, and one that is whole.
use Rattle.std.proofs.Common.{ℕ, Option, List, inl, refl}
use Rattle.qv_io.proofs.SinkLemmas.{Appends-nothing}
use Rattle.qv_meter.specs.Records.{Limits, Record}
use Rattle.qv_script_transcript.proofs.Accepting.{accepted-certificates-check}
use Rattle.qv_shell_follow.specs.Solved.{IsSolved, AcceptsSolved}
use Rattle.qv_shell_follow.proofs.Solving.{nothing-solved as solved-nothing}

pub nothing-solved : (places : ℕ) {S : Type 0} (call : S → ℕ → Option (List ℕ) → S → Type 0) (limits : Limits) (left : Option (List ℕ)) (source : S) (out cert : Option (List ℕ)) (records : List Record) →
    IsSolved places call limits left source source out out cert cert records records 5
nothing-solved places {S} call limits left source out cert records =
    solved-nothing places S call limits source left out cert records cert 0 5 (Appends-nothing cert) (inl (refl, refl))

pub solved-accepted : (places : ℕ) (script kept : List ℕ) → AcceptsSolved places script kept
solved-accepted places script kept checks written status whole = accepted-certificates-check places script kept written checks status whole.accepted
