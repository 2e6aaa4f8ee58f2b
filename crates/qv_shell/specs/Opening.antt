-- What the program has to open for its words.
use Rattle.std.specs.Prelude.{◌≡◌, Option, Some, None, List, string_bytes}
use Rattle.clap.specs.Words.{Text}
use Rattle.qv_shell_args.specs.Call.{Request, Solve, Check, Lrat, Trim, Clauses, QSolve, QCheck, request_in}
use Rattle.qv_shell.specs.declared.opening.Plan.{Plan}
use Rattle.qv_shell.specs.declared.opening.Plan.TheVariants as plan

-- a script or a formula is to be solved, and these words name the files
abbrev pub NamesSolve : Option Request → (script cert : Text) → Type 0
NamesSolve (Some (Solve s c settings)) script cert = (script ≡ s) × (cert ≡ c)
NamesSolve (Some (QSolve s c settings)) script cert = (script ≡ s) × (cert ≡ c)
NamesSolve _ script cert = ⊥

-- a certificate or a proof is to be checked, and these words name the files
abbrev pub NamesCheck : Option Request → (script cert : Text) → Type 0
NamesCheck (Some (Check s c p)) script cert = (script ≡ s) × (cert ≡ c)
NamesCheck (Some (Lrat s c)) script cert = (script ≡ s) × (cert ≡ c)
NamesCheck (Some (Clauses s c p)) script cert = (script ≡ s) × (cert ≡ c)
NamesCheck (Some (QCheck s c p)) script cert = (script ≡ s) × (cert ≡ c)
NamesCheck _ script cert = ⊥

-- a certificate is to be checked and written anew, and these words name the files
abbrev pub NamesTrim : Option Request → (script cert to : Text) → Type 0
NamesTrim (Some (Trim s c n p)) script cert to = (script ≡ s) × (cert ≡ c) × (to ≡ n)
NamesTrim _ script cert to = ⊥

-- the generator is asked, or a page is
abbrev pub NamesNothing : Option Request → Type 0
NamesNothing (Some (Solve s c settings)) = ⊥
NamesNothing (Some (Check s c p)) = ⊥
NamesNothing (Some (Lrat s c)) = ⊥
NamesNothing (Some (Trim s c n p)) = ⊥
NamesNothing (Some (Clauses s c p)) = ⊥
NamesNothing (Some (QSolve s c settings)) = ⊥
NamesNothing (Some (QCheck s c p)) = ⊥
NamesNothing (Some request) = Unit {0}
NamesNothing None = ⊥

-- a plan for a request
abbrev pub Opens : Option Request → Plan → Type 0
Opens request (plan.Solve script cert) = NamesSolve request (string_bytes script) (string_bytes cert)
Opens request (plan.Check script cert) = NamesCheck request (string_bytes script) (string_bytes cert)
Opens request (plan.Trim script cert to) = NamesTrim request (string_bytes script) (string_bytes cert) (string_bytes to)
Opens request plan.Alone = NamesNothing request
Opens request plan.Refused = request ≡ None
Opens request plan.NoMemory = Unit {0}

-- the files that the words of a command name, nothing for a call that names none, and a refusal for words
-- that are none, unless memory ran out
abbrev pub Plans : List Text → Plan → Type 0
Plans words p = Opens (request_in words) p
