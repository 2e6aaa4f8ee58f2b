-- What the end of a script makes of what is left of its certificate.
use Rattle.std.proofs.Common.{◌≡◌, ◌≢◌, ◌∙◌, ◌+◌, ◌<◌, ℕ, zero, suc, false, Option, Some, None, option_map, List, [], ◌∷◌, refl, sym, ap, subst, arith, codes}
use Rattle.std.specs.Prelude.{Ok, IfSome}
use Rattle.qv_cert.specs.declared.kind.RefusalKind.{RefusalKind}
use Rattle.qv_cert.specs.declared.kind.RefusalKind.TheVariants as kind
use Rattle.qv_cert.specs.Line.{CertLine}
use Rattle.qv_cert.specs.Grammar.{Reading, cert_line}
use Rattle.qv_cert.specs.Text.{Text, AtEnd, Faulty, line_behind, next_of}
use Rattle.qv_cert.specs.CertReader.{with_line, next_in}
use Rattle.qv_script_defs.specs.Texts.{line}
use Rattle.qv_check_lines.proofs.OwnFaults.{not-truncated}
use Rattle.qv_check_laws.specs.Verdict.{at_end, ended, kind_behind}
use Rattle.qv_check_script.specs.declared.turns.Turn.{Turn}
use Rattle.qv_check_defs.specs.Outcome.{Outcome, outcome_of, refused_line}
use Rattle.qv_check_script.specs.Turns.{Coming, Ends}
use Rattle.qv_check_lines.proofs.Judged.{no-end, reading-fault}

abbrev pub writes : List ℕ → ℕ → Outcome
writes text status = record { text = text; status = status }

abbrev pub comes : Outcome → ℕ → Coming
comes o n = record { outcome = o; last = n }

-- what comes where nothing more of the script does
abbrev pub closing : ℕ → Text → Outcome
closing given t = outcome_of (ended (at_end (given + 1) t.lines t.rest))

pub ends-so : (old : Option Text) (given : ℕ) (o : Outcome) (t : Turn) → IfSome old (λ x. closing given x ≡ o) → Ends o t → IfSome old (λ x. Ends (closing given x) t)
ends-so None given o t h e = tt
ends-so (Some x) given o t h e = subst (λ (p : Outcome). Ends p t) (sym h) e

nothing-left : (n given : ℕ) (lines : List (List ℕ)) (rest : List ℕ) → next_of given false lines rest ≡ AtEnd → outcome_of (ended (at_end n lines rest)) ≡ writes (line (codes "accepted")) 0
nothing-left n given [] [] h = refl
nothing-left n given [] (byte ∷ rest) h = absurd cc
nothing-left n given (l ∷ lines) rest h = absurd (no-end (line_behind given false l) h)

pub is-accepted : (given : ℕ) (old : Option Text) (text : List ℕ) → IfSome old (λ t. next_in given false t ≡ AtEnd) → text ≡ line (codes "accepted") → IfSome old (λ t. closing given t ≡ writes text 0)
is-accepted given None text h e = tt
is-accepted given (Some t) text h e = nothing-left (given + 1) given t.lines t.rest h ∙ ap (λ w. writes w 0) (sym e)

-- a line stands there
pub line-left : (given number : ℕ) (old new : Option Text) (text : List ℕ) (l : CertLine) (k : RefusalKind) → number ≡ suc given → 0 < given → old ≡ option_map (with_line text) new → line_behind given false text ≡ Ok l → k ≡ kind_behind (Ok l)
    → IfSome old (λ t. closing given t ≡ writes (refused_line number k) 6)
line-left zero number old new text l k count some e is found = absurd (omega (arith, some))
line-left (suc given) number old new text l k count some e is found = subst (λ (o : Option Text). IfSome o (λ t. closing (suc given) t ≡ writes (refused_line number k) 6)) (sym e) (go new)
  where
    here : suc given + 1 ≡ number
    here = omega arith

    go : (u : Option Text) → IfSome (option_map (with_line text) u) (λ t. closing (suc given) t ≡ writes (refused_line number k) 6)
    go None = tt
    go (Some u) =
        ap (λ (r : Reading). writes (refused_line (suc given + 1) (kind_behind r)) 6) is
        ∙ ap (λ (q : RefusalKind). writes (refused_line (suc given + 1) q) 6) (sym found)
        ∙ ap (λ n. writes (refused_line n k) 6) here

-- one with a fault of its own, or bytes without an LF
faults-there : (n given : ℕ) (lines : List (List ℕ)) (rest : List ℕ) (k found : RefusalKind) → next_of (suc given) false lines rest ≡ Faulty k → (k ≡ kind.Truncated → found ≡ kind.Truncated) → (k ≢ kind.Truncated → found ≡ kind.Form)
    → outcome_of (ended (at_end n lines rest)) ≡ writes (refused_line n found) 6
faults-there n given [] [] k found h cut other = absurd cc
faults-there n given [] (byte ∷ rest) k found h cut other = let same : k ≡ kind.Truncated = cc in ap (λ (q : RefusalKind). writes (refused_line n q) 6) (sym (cut same))
faults-there n given (l ∷ lines) rest k found h cut other =
    let fault = reading-fault (cert_line false l) k h in
    ap (λ (r : Reading). writes (refused_line n (kind_behind r)) 6) fault
    ∙ ap (λ (q : RefusalKind). writes (refused_line n q) 6) (sym (other (not-truncated false l k fault)))

pub fault-left : (given number : ℕ) (old : Option Text) (k found : RefusalKind) → number ≡ suc given → 0 < given → IfSome old (λ t. next_in given false t ≡ Faulty k) → (k ≡ kind.Truncated → found ≡ kind.Truncated) → (k ≢ kind.Truncated → found ≡ kind.Form)
    → IfSome old (λ t. closing given t ≡ writes (refused_line number found) 6)
fault-left zero number old k found count some h cut other = absurd (omega (arith, some))
fault-left (suc given) number None k found count some h cut other = tt
fault-left (suc given) number (Some t) k found count some h cut other =
    let here : suc given + 1 ≡ number = omega arith in
    faults-there (suc given + 1) given t.lines t.rest k found h cut other ∙ ap (λ n. writes (refused_line n found) 6) here
