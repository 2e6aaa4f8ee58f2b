-- What the first line of a certificate makes of it.
use Rattle.std.proofs.Common.{◌≡◌, ◌∙◌, ℕ, false, Option, Some, None, option_map, List, [], ◌∷◌, refl, sym, ap}
use Rattle.std.specs.Prelude.{Ok, Err, IfSome}
use Rattle.qv_cert.specs.declared.kind.RefusalKind.{RefusalKind}
use Rattle.qv_cert.specs.declared.kind.RefusalKind.TheVariants as kind
use Rattle.qv_cert.specs.Line.{CertLine, Header}
use Rattle.qv_cert.specs.Grammar.{Reading, cert_line}
use Rattle.qv_cert.specs.Text.{Text, AtEnd, Faulty, text_of, only_header, first_line, next_of}
use Rattle.qv_cert.specs.CertReader.{to_give, with_line, next_in, version_in}
use Rattle.qv_check_laws.specs.Verdict.{Script, IsRefused, ended, behind_header, verdict_on, verdict}
use Rattle.qv_check_defs.specs.Outcome.{refused_line}
use Rattle.qv_check_script.specs.Turns.{Heads}
use Rattle.qv_check_lines.proofs.Judged.{no-end, reading-fault}

-- a first line that is read is a header, and one that isn't has that fault
a-header : (r : Reading) (l : CertLine) → only_header r ≡ Ok l → only_header r ≡ Ok (Header (version_in l))
a-header (Ok (Header version)) l e = let same : Header version ≡ l = cc in ap (λ (q : CertLine). Ok (Header (version_in q))) same
a-header (Ok other) l e = absurd cc
a-header (Err k) l e = absurd cc

no-header : (r : Reading) (k : RefusalKind) → only_header r ≡ Err k → k ≡ kind.Header
no-header (Ok (Header version)) k e = absurd cc
no-header (Ok other) k e = cc
no-header (Err j) k e = cc

heads : (bytes text : List ℕ) (new : Option Text) (l : CertLine) (version : ℕ) → Some (text_of bytes) ≡ option_map (with_line text) new → first_line text ≡ Ok l → version ≡ version_in l → Heads None bytes version new
unfolding verdict
heads bytes text None l version e is named = absurd cc
heads bytes text (Some t) l version e is named = λ script.
    let whole : text_of bytes ≡ with_line text t = cc in
    ap (λ (u : Text). verdict_on script u.lines u.rest) whole
    ∙ ap (λ (r : Reading). behind_header r script t.lines t.rest) (a-header (cert_line false text) l is ∙ ap (λ v. Ok (Header v)) (sym named))

pub is-header : (left : Option (List ℕ)) (new : Option Text) (text : List ℕ) (l : CertLine) (version : ℕ) → to_give [] left ≡ option_map (with_line text) new → first_line text ≡ Ok l → version ≡ version_in l → IfSome left (λ bytes. Heads None bytes version new)
is-header None new text l version e is named = tt
is-header (Some bytes) new text l version e is named = heads bytes text new l version e is named

-- there is no first line
ends-there : (script : Script (List ℕ)) (lines : List (List ℕ)) (rest : List ℕ) → next_of 0 false lines rest ≡ AtEnd → verdict_on script lines rest ≡ ended (IsRefused 1 kind.Truncated)
ends-there script [] rest h = refl
ends-there script (line ∷ lines) rest h = absurd (no-end (first_line line) h)

pub no-line : (left : Option (List ℕ)) (new : Option Text) (line : List ℕ) (number version : ℕ) → number ≡ 1 → line ≡ refused_line number kind.Truncated → IfSome (to_give [] left) (λ t. next_in 0 false t ≡ AtEnd) → IfSome left (λ bytes. Heads (Some line) bytes version new)
unfolding verdict
no-line None new line number version count is h = tt
no-line (Some bytes) new line number version count is h = (
  kind.Truncated,
  is ∙ ap (λ n. refused_line n kind.Truncated) count,
  λ script. ends-there script (text_of bytes).lines (text_of bytes).rest h,
)

-- it has this fault
faults-there : (script : Script (List ℕ)) (lines : List (List ℕ)) (rest : List ℕ) (k : RefusalKind) → next_of 0 false lines rest ≡ Faulty k → verdict_on script lines rest ≡ ended (IsRefused 1 k)
faults-there script [] [] k h = absurd cc
faults-there script [] (byte ∷ rest) k h = let same : kind.Truncated ≡ k = cc in ap (λ (q : RefusalKind). ended (IsRefused 1 q)) same
faults-there script (line ∷ lines) rest k h =
    let fault = reading-fault (first_line line) k h in
    ap (λ (r : Reading). behind_header r script lines rest) fault
    ∙ ap (λ (q : RefusalKind). ended (IsRefused 1 q)) (sym (no-header (cert_line false line) k fault))

pub wrong-line : (left : Option (List ℕ)) (new : Option Text) (line : List ℕ) (number version : ℕ) (k : RefusalKind) → number ≡ 1 → line ≡ refused_line number k → IfSome (to_give [] left) (λ t. next_in 0 false t ≡ Faulty k) → IfSome left (λ bytes. Heads (Some line) bytes version new)
unfolding verdict
wrong-line None new line number version k count is h = tt
wrong-line (Some bytes) new line number version k count is h = (
  k,
  is ∙ ap (λ n. refused_line n k) count,
  λ script. faults-there script (text_of bytes).lines (text_of bytes).rest k h,
)
