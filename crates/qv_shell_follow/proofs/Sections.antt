-- Checks and their sections, one list behind another.
use Rattle.std.proofs.Common.{◌≡◌, ◌≤◌, ◌<◌, ◌+◌, ◌^◌, ℕ, suc, List, [], ◌∷◌, ◌++◌, length, take, drop, refl, sym, ap, subst, ◌∙◌, append_assoc, arith}
use Rattle.std.proofs.lemmas.Grind.{flat_map-append}
use Rattle.std.proofs.lemmas.List.{length-map, map-append, append-nil, take-append-drop}
use Rattle.qv_sexpr.specs.Script.{Tree as Expr}
use Rattle.qv_script_defs.specs.State.{State, Last, Sat, Unsat, Unknown}
use Rattle.qv_cert.specs.TextLaws.{bytes_of_lines}
use Rattle.qv_script_transcript.specs.Lawful.{answer_line}
use Rattle.qv_script_transcript.specs.Certificates.{Certified, checks_of, AreCertified, certificate, header_line, sections}
use Rattle.qv_script_transcript.specs.Following.{CheckSat}
use Rattle.qv_shell_command.specs.declared.tallies.Tally.{Tally}
use Rattle.qv_shell_command.specs.Tallies.{no_checks, counted, counted_all, tally_of, IsSmall}
use Rattle.qv_shell_command.specs.Calls.{IsFollowed, says, checks}
use Rattle.qv_shell_follow.specs.Solved.{IsFrontOf}

pub checks-append : (cs ds : List Certified) → checks_of (cs ++ ds) ≡ checks_of cs ++ checks_of ds
checks-append cs ds = map-append (λ (x : Certified). x.check) cs ds

pub certificate-append : (cs ds : List Certified) → certificate (cs ++ ds) ≡ certificate cs ++ bytes_of_lines (sections ds)
certificate-append cs ds =
    ap (λ (ls : List (List ℕ)). bytes_of_lines (header_line ∷ ls)) (flat_map-append (λ c. c.lines) cs ds)
    ∙ flat_map-append (λ line. line ++ 10 ∷ []) (header_line ∷ sections cs) (sections ds)

pub certified-append : (n : ℕ) (cs ds : List Certified) → AreCertified n cs → AreCertified (n + length cs) ds → AreCertified n (cs ++ ds)
certified-append n [] ds h k = let same : n + length {A = Certified} [] ≡ n = omega arith in subst (λ m. AreCertified m ds) same k
certified-append n (c ∷ cs) ds h k =
    let same : n + suc (length cs) ≡ suc n + length cs = omega arith in
    (h.0, certified-append (suc n) cs ds h.1 (subst (λ m. AreCertified m ds) same k))

-- ---- a certificate's front

pub sections-front : (cs ds : List Certified) → IsFrontOf (certificate cs) (certificate (cs ++ ds))
sections-front cs ds = (bytes_of_lines (sections ds), certificate-append cs ds)

pub whole-front : (bytes : List ℕ) → IsFrontOf bytes bytes
whole-front bytes = ([], sym (append-nil bytes))

-- the first line of it is cut
pub header-front : (k : ℕ) (cs : List Certified) → IsFrontOf (take k (certificate [])) (certificate cs)
header-front k cs =
    let behind = bytes_of_lines (sections cs) in (
      drop k (certificate []) ++ behind,
      certificate-append [] cs ∙ ap (λ (t : List ℕ). t ++ behind) (sym (take-append-drop k (certificate []))) ∙ append_assoc (take k (certificate [])) (drop k (certificate [])) behind,
    )

-- a section of it is cut
pub section-front : (cs ds es : List Certified) (k : ℕ) (section : List ℕ) → section ≡ bytes_of_lines (sections ds) → IsFrontOf (certificate cs ++ take k section) (certificate (cs ++ (ds ++ es)))
section-front cs ds es k section is =
    let first = certificate cs in
    let others = bytes_of_lines (sections es) in (
      drop k section ++ others,
      ap certificate (sym (append_assoc cs ds es))
          ∙ certificate-append (cs ++ ds) es
          ∙ ap (λ (t : List ℕ). t ++ others) (certificate-append cs ds)
          ∙ ap (λ (t : List ℕ). (first ++ t) ++ others) (sym is)
          ∙ ap (λ (t : List ℕ). (first ++ t) ++ others) (sym (take-append-drop k section))
          ∙ ap (λ (t : List ℕ). t ++ others) (sym (append_assoc first (take k section) (drop k section)))
          ∙ append_assoc (first ++ take k section) (drop k section) others,
    )

-- ---- tallies

count-one : (answer : Last) (t : Tally) → (counted answer t).checks ≡ t.checks + 1
count-one (Sat values) t = refl
count-one Unsat t = refl
count-one (Unknown spent) t = refl

pub counts-all : (cs : List CheckSat) (t : Tally) → (counted_all cs t).checks ≡ t.checks + length cs
counts-all [] t = omega arith
counts-all (c ∷ cs) t = let behind = counts-all cs (counted c.answer t) in let one = count-one c.answer t in omega (arith, behind, one)

-- the tally's count is that of the checks
tally-counts : (cs : List CheckSat) → (tally_of cs).checks ≡ length cs
tally-counts cs = let all = counts-all cs no_checks in omega (arith, all)

pub checks-counted : (cs : List Certified) (t : Tally) → t ≡ tally_of (checks_of cs) → t.checks ≡ length cs
checks-counted cs t same =
    let count = tally-counts (checks_of cs) in
    let long = length-map cs (λ (x : Certified). x.check) in
    let here : t.checks ≡ (tally_of (checks_of cs)).checks = ap (λ (u : Tally). u.checks) same in
    omega (arith, here, count, long)

pub counted-append : (cs ds : List CheckSat) (t : Tally) → counted_all (cs ++ ds) t ≡ counted_all ds (counted_all cs t)
counted-append [] ds t = refl
counted-append (c ∷ cs) ds t = counted-append cs ds (counted c.answer t)

sums-one : (answer : Last) (t : Tally) → t.sat + t.unsat + t.unknown ≡ t.checks → (counted answer t).sat + (counted answer t).unsat + (counted answer t).unknown ≡ (counted answer t).checks
sums-one (Sat values) t h = omega (arith, h)
sums-one Unsat t h = omega (arith, h)
sums-one (Unknown spent) t h = omega (arith, h)

sums-all : (cs : List CheckSat) (t : Tally) → t.sat + t.unsat + t.unknown ≡ t.checks → (counted_all cs t).sat + (counted_all cs t).unsat + (counted_all cs t).unknown ≡ (counted_all cs t).checks
sums-all [] t h = h
sums-all (c ∷ cs) t h = sums-all cs (counted c.answer t) (sums-one c.answer t h)

pub tally-small : (cs : List CheckSat) (t : Tally) → t ≡ tally_of cs → t.checks < 2 ^ 62 → IsSmall t
tally-small cs t same few = record { all = subst (λ (u : Tally). u.sat + u.unsat + u.unknown ≡ u.checks) (sym same) (sums-all cs no_checks refl); few = few }

-- ---- the checks of one command

pub followed-few : {places : ℕ} (s : State) (e : Expr) (cs : List CheckSat) (text : List ℕ) (t : State) → IsFollowed places s e cs text t → length cs ≤ 1
followed-few s e _ _ _ (says now effect text is said) = omega arith
followed-few s e _ _ _ (checks now formulas answer counts is short lawful) = omega arith
