-- How many answers of checks stand whole in the front of what a script prints.
use Rattle.std.specs.Prelude.{ℕ, suc, ◌-◌, nat_le, if◌then◌else◌, List, length}
use Rattle.qv_sexpr.specs.Script.{Script}
use Rattle.qv_script_defs.specs.State.{State}
use Rattle.qv_script_transcript.specs.Lawful.{answer_line}
use Rattle.qv_script_transcript.specs.Following.{CheckSat, Piece, Follows, stops, refuses, says, leaves, checks, exceeds}

-- in its first bytes, so many
unfoldable pub answers_within : {places : ℕ} {s : State} {script : Script} {given : List CheckSat} {pieces : List Piece} {last : List ℕ} {status : ℕ} → Follows places s script given pieces last status → (bytes : ℕ) → ℕ
answers_within (stops s end) bytes = 0
answers_within (refuses s e rest fault is) bytes = 0
answers_within (says s now e rest effect text others pieces last status is said behind) bytes =
    if nat_le (length text) bytes then answers_within behind (bytes - length text) else 0
answers_within (leaves s now e rest is) bytes = 0
answers_within (checks s now e rest formulas answer counts others pieces last status is short lawful behind) bytes =
    if nat_le (length (answer_line answer)) bytes then suc (answers_within behind (bytes - length (answer_line answer))) else 0
answers_within (exceeds s now e rest formulas is far) bytes = 0
