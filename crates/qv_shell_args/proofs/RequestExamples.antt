-- What some command lines ask for, computed from the definition.
use Rattle.std.proofs.Common.{refl}
use Rattle.std.specs.Prelude.{◌≡◌, true, false, [], ◌∷◌, Some, None, codes}
use Rattle.clap.proofs.OnLiterals.{clap_on_literals}
use Rattle.qv_shell_args.specs.Call.{Solve, Check, Lrat, Trim, Clauses, QSolve, QCheck, Gen, Print, request_in, pair_in, checking_in, solving_in, trim_request, request_number, budgets_of, places_of}
use Rattle.qv_shell_args.specs.Commands.{matched}
use Rattle.qv_shell_args.specs.Number.{number_in}
use Rattle.qv_shell_args.specs.declared.calls.Budgets.{Budgets}
use Rattle.qv_shell_args.specs.declared.calls.Settings.{Settings}
use Rattle.qv_shell_args.specs.declared.calls.Page.TheVariants.{Help, Version}

abbrev default_budgets : Budgets
default_budgets = record { conflicts = 1000000; instances = 10000; variables = 4000000 }

-- with these budgets alone
abbrev within : Budgets → Settings
within budgets = record { budgets = budgets; places = 4096; check = false; verbose = false; stats = false }

abbrev defaults : Settings
defaults = within default_budgets

-- solve a b
plain-files : request_in (codes "solve" ∷ codes "a" ∷ codes "b" ∷ []) ≡ Some (Solve (codes "a") (codes "b") defaults)
unfolding clap_on_literals request_in solving_in matched budgets_of places_of number_in
plain-files = refl

-- solve a --conflicts 07 b --variables=3
options : request_in (codes "solve" ∷ codes "a" ∷ codes "--conflicts" ∷ codes "07" ∷ codes "b" ∷ codes "--variables=3" ∷ [])
    ≡ Some (Solve (codes "a") (codes "b") (within (record { conflicts = 7; instances = 10000; variables = 3 })))
unfolding clap_on_literals request_in solving_in matched budgets_of places_of number_in
options = refl

-- solve a b --conflicts 0
below-range : request_in (codes "solve" ∷ codes "a" ∷ codes "b" ∷ codes "--conflicts" ∷ codes "0" ∷ []) ≡ None
unfolding clap_on_literals request_in solving_in matched budgets_of places_of number_in
below-range = refl

-- solve a b --conflicts 5 --conflicts 5
repeated : request_in (codes "solve" ∷ codes "a" ∷ codes "b" ∷ codes "--conflicts" ∷ codes "5" ∷ codes "--conflicts" ∷ codes "5" ∷ []) ≡ None
unfolding clap_on_literals request_in solving_in matched budgets_of places_of number_in
repeated = refl

-- solve a --stats b
sums : request_in (codes "solve" ∷ codes "a" ∷ codes "--stats" ∷ codes "b" ∷ [])
    ≡ Some (Solve (codes "a") (codes "b") (record { budgets = default_budgets; places = 4096; check = false; verbose = false; stats = true }))
unfolding clap_on_literals request_in solving_in matched budgets_of places_of number_in
sums = refl

-- a --verbose --check
each-checked : request_in (codes "a" ∷ codes "--verbose" ∷ codes "--check" ∷ [])
    ≡ Some (Solve (codes "a") (codes "-") (record { budgets = default_budgets; places = 4096; check = true; verbose = true; stats = false }))
unfolding clap_on_literals request_in solving_in matched budgets_of places_of number_in
each-checked = refl

-- qsolve a b --check
no-formula-checked : request_in (codes "qsolve" ∷ codes "a" ∷ codes "b" ∷ codes "--check" ∷ []) ≡ None
unfolding clap_on_literals request_in solving_in matched budgets_of places_of number_in
no-formula-checked = refl

-- solve a b --places 1000000
most-places : request_in (codes "solve" ∷ codes "a" ∷ codes "b" ∷ codes "--places" ∷ codes "1000000" ∷ [])
    ≡ Some (Solve (codes "a") (codes "b") (record { budgets = default_budgets; places = 1000000; check = false; verbose = false; stats = false }))
unfolding clap_on_literals request_in solving_in matched budgets_of places_of number_in
most-places = refl

-- check a b --places=1
one-place : request_in (codes "check" ∷ codes "a" ∷ codes "b" ∷ codes "--places=1" ∷ []) ≡ Some (Check (codes "a") (codes "b") 1)
unfolding clap_on_literals request_in checking_in matched places_of number_in
one-place = refl

-- check a b --places 0, and 1000001
no-place : request_in (codes "check" ∷ codes "a" ∷ codes "b" ∷ codes "--places" ∷ codes "0" ∷ []) ≡ None
unfolding clap_on_literals request_in checking_in matched places_of number_in
no-place = refl

too-many-places : request_in (codes "check" ∷ codes "a" ∷ codes "b" ∷ codes "--places" ∷ codes "1000001" ∷ []) ≡ None
unfolding clap_on_literals request_in checking_in matched places_of number_in
too-many-places = refl

-- lrat a b --places 5
no-prefix : request_in (codes "lrat" ∷ codes "a" ∷ codes "b" ∷ codes "--places" ∷ codes "5" ∷ []) ≡ None
unfolding clap_on_literals request_in pair_in matched
no-prefix = refl

-- solve a b --stats=true
valued-flag : request_in (codes "solve" ∷ codes "a" ∷ codes "b" ∷ codes "--stats=true" ∷ []) ≡ None
unfolding clap_on_literals request_in solving_in matched budgets_of places_of number_in
valued-flag = refl

-- solve a b --stats --stats
repeated-flag : request_in (codes "solve" ∷ codes "a" ∷ codes "b" ∷ codes "--stats" ∷ codes "--stats" ∷ []) ≡ None
unfolding clap_on_literals request_in solving_in matched budgets_of places_of number_in
repeated-flag = refl

-- check a b --stats
no-sums : request_in (codes "check" ∷ codes "a" ∷ codes "b" ∷ codes "--stats" ∷ []) ≡ None
unfolding clap_on_literals request_in checking_in matched places_of
no-sums = refl

-- check - -- --help
behind-the-end : request_in (codes "check" ∷ codes "-" ∷ codes "--" ∷ codes "--help" ∷ []) ≡ Some (Check (codes "-") (codes "--help") 4096)
unfolding clap_on_literals request_in checking_in matched places_of
behind-the-end = refl

-- check a --help
no-help : request_in (codes "check" ∷ codes "a" ∷ codes "--help" ∷ []) ≡ None
unfolding clap_on_literals request_in checking_in matched places_of
no-help = refl

-- lrat a -
proof-words : request_in (codes "lrat" ∷ codes "a" ∷ codes "-" ∷ []) ≡ Some (Lrat (codes "a") (codes "-"))
unfolding clap_on_literals request_in pair_in matched
proof-words = refl

-- lrat a
no-proof : request_in (codes "lrat" ∷ codes "a" ∷ []) ≡ None
unfolding clap_on_literals request_in pair_in matched
no-proof = refl

-- trim a - b
trim-words : request_in (codes "trim" ∷ codes "a" ∷ codes "-" ∷ codes "b" ∷ []) ≡ Some (Trim (codes "a") (codes "-") (codes "b") 4096)
unfolding clap_on_literals request_in trim_request matched places_of
trim-words = refl

-- trim a b
not-anew : request_in (codes "trim" ∷ codes "a" ∷ codes "b" ∷ []) ≡ None
unfolding clap_on_literals request_in trim_request matched places_of
not-anew = refl

-- trim a b - , where the answers would stand
anew-among-answers : request_in (codes "trim" ∷ codes "a" ∷ codes "b" ∷ codes "-" ∷ []) ≡ None
unfolding clap_on_literals request_in trim_request matched places_of
anew-among-answers = refl

-- clauses a - --places 7
clauses-words : request_in (codes "clauses" ∷ codes "a" ∷ codes "-" ∷ codes "--places" ∷ codes "7" ∷ []) ≡ Some (Clauses (codes "a") (codes "-") 7)
unfolding clap_on_literals request_in checking_in matched places_of number_in
clauses-words = refl

-- clauses a
no-cert : request_in (codes "clauses" ∷ codes "a" ∷ []) ≡ None
unfolding clap_on_literals request_in checking_in matched places_of
no-cert = refl

-- qsolve a - --instances 7 --stats
formula-solved : request_in (codes "qsolve" ∷ codes "a" ∷ codes "-" ∷ codes "--instances" ∷ codes "7" ∷ codes "--stats" ∷ [])
    ≡ Some (QSolve (codes "a") (codes "-") (record { budgets = record { conflicts = 1000000; instances = 7; variables = 4000000 }; places = 4096; check = false; verbose = false; stats = true }))
unfolding clap_on_literals request_in solving_in matched budgets_of places_of number_in
formula-solved = refl

-- qsolve a
formula-without : request_in (codes "qsolve" ∷ codes "a" ∷ []) ≡ None
unfolding clap_on_literals request_in solving_in matched budgets_of places_of number_in
formula-without = refl

-- qcheck a b
formula-checked : request_in (codes "qcheck" ∷ codes "a" ∷ codes "b" ∷ []) ≡ Some (QCheck (codes "a") (codes "b") 4096)
unfolding clap_on_literals request_in checking_in matched places_of
formula-checked = refl

-- qcheck a b --conflicts 5
formula-within : request_in (codes "qcheck" ∷ codes "a" ∷ codes "b" ∷ codes "--conflicts" ∷ codes "5" ∷ []) ≡ None
unfolding clap_on_literals request_in checking_in matched places_of
formula-within = refl

-- gen 100000
greatest : request_in (codes "gen" ∷ codes "100000" ∷ []) ≡ Some (Gen 100000)
unfolding clap_on_literals request_in request_number matched number_in
greatest = refl

-- gen +5
signed : request_in (codes "gen" ∷ codes "+5" ∷ []) ≡ None
unfolding clap_on_literals request_in request_number matched number_in
signed = refl

-- bench 1001
too-great : request_in (codes "bench" ∷ codes "1001" ∷ []) ≡ None
unfolding clap_on_literals request_in request_number matched number_in
too-great = refl

-- without a word
no-word : request_in [] ≡ None
unfolding request_in
no-word = refl

-- a word that is no command's name is a script, of which no certificate is kept
script-alone : request_in (codes "a.smt2" ∷ []) ≡ Some (Solve (codes "a.smt2") (codes "-") defaults)
unfolding clap_on_literals request_in solving_in matched budgets_of places_of number_in
script-alone = refl

-- a.smt2 --variables 3
script-with-budgets : request_in (codes "a.smt2" ∷ codes "--variables" ∷ codes "3" ∷ [])
    ≡ Some (Solve (codes "a.smt2") (codes "-") (within (record { conflicts = 1000000; instances = 10000; variables = 3 })))
unfolding clap_on_literals request_in solving_in matched budgets_of places_of number_in
script-with-budgets = refl

-- run a: a script, and a word too many
two-scripts : request_in (codes "run" ∷ codes "a" ∷ []) ≡ None
unfolding clap_on_literals request_in solving_in matched budgets_of places_of number_in
two-scripts = refl

-- a --help
no-help-behind : request_in (codes "a" ∷ codes "--help" ∷ []) ≡ None
unfolding clap_on_literals request_in solving_in matched budgets_of places_of number_in
no-help-behind = refl

-- - , which begins with `-`
dash-first : request_in (codes "-" ∷ []) ≡ None
unfolding request_in
dash-first = refl

-- check: the command, whatever files there are
command-first : request_in (codes "check" ∷ []) ≡ None
unfolding clap_on_literals request_in checking_in matched places_of
command-first = refl

-- help and the version, whatever stands behind them
help-words : request_in (codes "help" ∷ []) ≡ Some (Print Help)
unfolding request_in
help-words = refl

help-beside : request_in (codes "--help" ∷ codes "solve" ∷ codes "--nothing" ∷ []) ≡ Some (Print Help)
unfolding request_in
help-beside = refl

help-short : request_in (codes "-h" ∷ codes "a" ∷ []) ≡ Some (Print Help)
unfolding request_in
help-short = refl

version-words : request_in (codes "--version" ∷ codes "--help" ∷ []) ≡ Some (Print Version)
unfolding request_in
version-words = refl

-- other words with `-` are none
other-flag : request_in (codes "-V" ∷ []) ≡ None
unfolding request_in
other-flag = refl
