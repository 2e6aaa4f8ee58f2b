use Rattle.std.proofs.Common.{ℕ, List, ◌≡◌, ◌≤◌, ◌-◌, ◌^◌, option_map}
use Rattle.qv_sexpr.specs.Building.{Levels, Builds, resumes}
use Rattle.qv_sexpr.specs.Calls.{OnDemand}
use Rattle.qv_sexpr.specs.Reader.{behind, coming, FedGiven}
use Rattle.qv_sexpr.specs.Input.{Leaves, IsNear}
use Rattle.qv_sexpr.proofs.Along.{CommandAlong}
use Rattle.qv_sexpr.proofs.reader.read_command.Given as goal

-- what was read before is read on from the lists that are open
abbrev pub invariant-tokens : goal.invariant-tokens
invariant-tokens g l =
    let source = g.S.Source in
    let old = l.fn.input.lexer in
    let new = l.input.lexer in
    record {
      open_lists : Levels;
      builds : Builds l.builder open_lists;
      told : behind old (source.left l.fn.source) ≡ option_map (λ bytes. resumes open_lists (coming new bytes)) (source.left l.source);
      near : IsNear old → IsNear new;
      forward : old.place ≤ new.place;
      given : FedGiven (source.left l.fn.source) old (source.left l.source) new;
      leaves : Leaves source.left source.faults old l.fn.source new l.source;
      calls : OnDemand source.read_gives old l.fn.source new l.source;
      along : (bytes : List ℕ) × CommandAlong source.read_gives old l.fn.source bytes open_lists new l.source;
    }

abbrev pub decreases-tokens : goal.decreases-tokens
decreases-tokens g l = 2 ^ 62 - l.input.lexer.place
