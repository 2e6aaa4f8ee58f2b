-- What a parse says of the words that a command takes.
use Rattle.std.proofs.Common.{◌≡◌, ap₂, sym, inl, inr, List, [], ◌∷◌, Some, None, refl, true}
use Rattle.std.proofs.lemmas.Bool.{and_parts}
use Rattle.clap.specs.Words.{App, HasKind, HasMatchesOf, Kinds, Row, Text, fault_of, found_of, is_simple_and_free, kind_of, matches_of, rows_of}
use Rattle.clap.specs.declared.error.Error.{Error}
use Rattle.clap.specs.declared.error.kind.ErrorKind.TheVariants.{OutOfMemory}
use Rattle.clap.specs.declared.parser.matches.ArgMatches.{ArgMatches}
use Rattle.qv_shell_args.specs.Commands.{if_taken, matched}

pub taken : (command : App) (words : List Text) (m : ArgMatches) → is_simple_and_free command ≡ true → fault_of command words ≡ [] → HasMatchesOf command words m
    → matched command words ≡ Some (rows_of (found_of m))
unfolding matched
taken command words m plain none has = ap₂ if_taken none (sym (has (and_parts _ _ plain).0).0)

no-rows : (kinds : Kinds) (rows : List Row) (e : Error) → HasKind kinds e → (kind_of e ≡ OutOfMemory → ⊥) → if_taken kinds rows ≡ None
no-rows [] rows e (inl memory) other = absurd (other memory)
no-rows [] rows e (inr among) other = absurd among
no-rows (k ∷ kinds) rows e has other = refl

pub refused : (command : App) (words : List Text) (e : Error) → HasKind (fault_of command words) e → (kind_of e ≡ OutOfMemory → ⊥) → matched command words ≡ None
unfolding matched
refused command words e has other = no-rows (fault_of command words) (matches_of command words) e has other
