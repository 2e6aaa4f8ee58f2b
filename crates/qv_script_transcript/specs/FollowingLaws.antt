-- What pins transcripts down.
use Rattle.std.specs.Prelude.{◌≡◌, ◌<◌, ◌^◌, ℕ, List, [], ◌∷◌, map, length}
use Rattle.qv_sexpr.specs.Script.{Script, reads}
use Rattle.qv_script_defs.specs.declared.counts.Counts.{Counts}
use Rattle.qv_script_defs.specs.State.{State, Last, opening}
use Rattle.qv_script_defs.specs.Moves.{Effect, Core}
use Rattle.qv_script_transcript.specs.Following.{CheckSat, Piece, Says, Follows, stops, refuses, says, leaves, checks, exceeds}
use Rattle.qv_script_transcript.specs.Certificates.{Certified, AreCertified, checks_of}

-- an answer, and what was counted for it
abbrev pub answers : List CheckSat → List (Last × Counts)
answers given = map (λ c. (c.answer, c.counts)) given

-- the places that are kept where a core is printed, in front of others
abbrev pub kept_of : (now : State) (effect : Effect) (text : List ℕ) → Says now effect text → List (List ℕ) → List (List ℕ)
kept_of now (Core trees texts) text said others = said.0 ∷ others
kept_of now _ text said others = others

-- the places that are kept of each core that is printed, in their order
abbrev pub kept_in : {places : ℕ} {s : State} {script : Script} {given : List CheckSat} {pieces : List Piece} {last : List ℕ} {status : ℕ} → Follows places s script given pieces last status → List (List ℕ)
kept_in (stops s end) = []
kept_in (refuses s e rest fault is) = []
kept_in (says s now e rest effect text others pieces last status is said behind) = kept_of now effect text said (kept_in behind)
kept_in (leaves s now e rest is) = []
kept_in (checks s now e rest formulas answer counts others pieces last status is short lawful behind) = kept_in behind
kept_in (exceeds s now e rest formulas is far) = []

-- the answers, with what was counted for them, and what is kept of cores decide what is in force at
-- the checks, and what is printed
abbrev pub AnswersDecide : Type 0
AnswersDecide =
    (places : ℕ) (script : List ℕ) (given given' : List CheckSat) (pieces pieces' : List Piece) (last last' : List ℕ) (status status' : ℕ) →
    (one : Follows places opening (reads script) given pieces last status) (other : Follows places opening (reads script) given' pieces' last' status') → answers given ≡ answers given' → kept_in one ≡ kept_in other →
    (given ≡ given') × (pieces ≡ pieces') × (last ≡ last') × (status ≡ status')

-- each script has a transcript, and a certificate, whose lines number no more checks than their
-- grammar allows
abbrev pub SomeFollow : Type 0
SomeFollow =
    (places : ℕ) (script : List ℕ) →
    (cs : List Certified) × (pieces : List Piece) × (last : List ℕ) × (status : ℕ)
    × Follows places opening (reads script) (checks_of cs) pieces last status × (length cs < 2 ^ 62 → AreCertified 1 cs)
