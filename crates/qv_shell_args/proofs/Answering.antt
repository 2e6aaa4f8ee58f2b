-- What an answer says of what is read from it.
use Rattle.std.proofs.Common.{◌≡◌, ◌∙◌, ap, subst, sym, List, Option, Some}
use Rattle.std.specs.Prelude.{Result, Err, option_and_then}
use Rattle.clap.specs.Words.{App, Row, Text, found_of, rows_of}
use Rattle.clap.specs.declared.parser.matches.ArgMatches.{ArgMatches}
use Rattle.qv_shell_args.specs.Answers.{Answers}
use Rattle.qv_shell_args.specs.Commands.{matched}
use Rattle.qv_shell_args.specs.declared.calls.CallFault.{CallFault}
use Rattle.qv_shell_args.specs.declared.calls.CallFault.TheVariants.{Refused, NoMemory}

abbrev pub rows_in : ArgMatches → List Row
rows_in m = rows_of (found_of m)

fault-through : {U Y : Type 0} (n : U → Y) (f : List Row → Option Y) (there : Option (List Row)) (fault : CallFault)
    → Answers {T = ArgMatches} rows_in there (Err fault) → Answers n (option_and_then f there) (Err fault)
fault-through n f there Refused h = ap (option_and_then f) h
fault-through n f there NoMemory h = h

-- what the command's matches give, where there are none
pub fault-behind : {U Y : Type 0} (n : U → Y) (f : List Row → Option Y) (command other : App) (words : List Text) (fault : CallFault) → command ≡ other
    → Answers {T = ArgMatches} rows_in (matched command words) (Err fault) → Answers n (option_and_then f (matched other words)) (Err fault)
fault-behind n f command other words fault is h =
    subst (λ (a : App). Answers n (option_and_then f (matched a words)) (Err fault)) is (fault-through n f (matched command words) fault h)

-- and where there are some
pub answer-behind : {U Y : Type 0} (n : U → Y) (f : List Row → Option Y) (command other : App) (words : List Text) (m : ArgMatches) (r : Result U CallFault) → command ≡ other
    → matched command words ≡ Some (rows_in m) → Answers n (f (rows_in m)) r → Answers n (option_and_then f (matched other words)) r
answer-behind {Y = Y} n f command other words m r is found h =
    subst (λ (o : Option Y). Answers n o r) (sym (ap (λ (a : App). option_and_then f (matched a words)) (sym is) ∙ ap (option_and_then f) found)) h
