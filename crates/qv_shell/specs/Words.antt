-- What is printed where the words are refused, or ask for help or the version.
use Rattle.std.specs.Prelude.{ℕ, List, ◌++◌, codes}
use Rattle.qv_shell_args.specs.declared.calls.Page.{Page}
use Rattle.qv_shell_args.specs.declared.calls.Page.TheVariants.{Help, Version}

-- the usage line
abbrev pub usage : List ℕ
usage = codes "usage: qbv solve SCRIPT CERT [--conflicts N] [--instances N] [--variables N] | qbv check SCRIPT CERT | qbv gen N | qbv bench N | qbv lrat CNF PROOF | qbv trim SCRIPT CERT NEW | qbv qsolve FILE CERT [--conflicts N] [--instances N] [--variables N] | qbv qcheck FILE CERT | qbv clauses SCRIPT CERT\n"

-- the page of help
abbrev pub help_page : List ℕ
help_page =
    codes "usage: qbv SCRIPT [OPTION..]             solve SCRIPT, and keep no certificate\n"
    ++ codes "       qbv solve SCRIPT CERT [OPTION..]  solve SCRIPT, and write the certificate of its answers into CERT\n"
    ++ codes "       qbv check SCRIPT CERT [OPTION]    check the certificate CERT beside SCRIPT\n"
    ++ codes "       qbv lrat CNF PROOF                check the LRAT proof PROOF of a SAT solver beside the clauses of CNF\n"
    ++ codes "       qbv trim SCRIPT CERT NEW [OPTION] check CERT beside SCRIPT, and write its lines that are needed into NEW\n"
    ++ codes "       qbv clauses SCRIPT CERT [OPTION]  check CERT beside SCRIPT, and print the clauses that its sections refute, in the DIMACS format\n"
    ++ codes "       qbv qsolve FILE CERT [OPTION..]   solve the quantified Boolean formula FILE in the QDIMACS format\n"
    ++ codes "       qbv qcheck FILE CERT [OPTION]     check the certificate CERT beside such a formula\n"
    ++ codes "       qbv gen N                         print a script of N blocks, of which the answers are known; N is at most 100000\n"
    ++ codes "       qbv bench N                       solve such a script and check its certificate in memory; N is at most 1000\n"
    ++ codes "       qbv -h, --help, help              print this page\n"
    ++ codes "       qbv --version                     print the version\n"
    ++ codes "\n"
    ++ codes "SCRIPT - is standard input. CERT - keeps nothing in solve, and in check, trim and clauses it is standard input where SCRIPT isn't.\n"
    ++ codes "CNF - or PROOF - is standard input, but not both. FILE - and CERT - are in qsolve as in solve, and in qcheck as in check.\n"
    ++ codes "NEW is the name of a file.\n"
    ++ codes "\n"
    ++ codes "options, for each check of a script, and for FILE:\n"
    ++ codes "  --conflicts N   learn at most N clauses (1000000)\n"
    ++ codes "  --instances N   take at most N instances of quantifiers (10000)\n"
    ++ codes "  --variables N   have at most N variables in a list of clauses (4000000)\n"
    ++ codes "  --places N      have at most N variables in the prefix of a problem, in check, trim, clauses and qcheck too (4096)\n"
    ++ codes "\n"
    ++ codes "options, for the whole run:\n"
    ++ codes "  --check         in solve, check each section before its answer is printed\n"
    ++ codes "  --verbose       in solve, say on standard error now and then how many checks were answered\n"
    ++ codes "  --stats         say on standard error at the end how many checks were answered, and what was spent on them\n"
    ++ codes "\n"
    ++ codes "status: 0 done; 1 a fault of the script, of CNF or of FILE was printed; 2 the words are refused; 3 what is to be read can't be read;\n"
    ++ codes "        4 the output, CERT or NEW can't be written; 5 out of memory; 6 the certificate or the proof is refused\n"
    ++ codes "\n"
    ++ codes "examples:\n"
    ++ codes "  qbv first.smt2\n"
    ++ codes "  qbv solve first.smt2 first.cert --conflicts 500000\n"
    ++ codes "  qbv check first.smt2 first.cert\n"
    ++ codes "  qbv trim first.smt2 first.cert small.cert\n"
    ++ codes "  qbv clauses first.smt2 first.cert\n"
    ++ codes "  qbv qsolve formula.qdimacs formula.cert\n"
    ++ codes "  qbv gen 3 | qbv solve - - --variables 100000\n"
    ++ codes "  qbv bench 20\n"

-- the version, and the line of the kit that the program was proved with
abbrev pub version_text : List ℕ
version_text = codes "qbv 1\nrattle-kit-13f logic dac8208d650f15bf\n"

abbrev pub page_text : Page → List ℕ
page_text Help = help_page
page_text Version = version_text
