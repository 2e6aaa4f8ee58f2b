-- Literals that fail, and fewer of them.
use Rattle.std.proofs.Common.{◌≡◌, ℕ, ◌+◌, ◌-◌, ◌≤◌, ◌^◌, ◌&&◌, Bool, true, List, [], ◌∷◌, refl, sym, ap, ◌∙◌, subst, inl, inr, arith}
use Rattle.std.specs.List.{list_all}
use Rattle.std.proofs.lemmas.Bool.{and_parts, or_cases}
use Rattle.qv_cnf.specs.Literal.{Literal}
use Rattle.qv_cnf.specs.Listing.{Numbered}
use Rattle.qv_cnf.specs.Refutation.{among, same_literal}
use Rattle.qv_meter.specs.Records.{Metering}
use Rattle.qv_meter.specs.BudgetLaws.{SameButConflicts-limit, conflicts_within}
use Rattle.qv_meter.specs.Charging.{SameButConflicts, conflict_count, conflict_limit}
use Rattle.qv_sat.specs.Answering.{IsFailed}
use Rattle.qv_watch.proofs.Entering.{same_literal-true}
use Rattle.qv_watch.proofs.Resting.{among_first, among_later}

-- literals are among themselves, and what is among some of others is among these
all-among-more : (x : Literal) (ls ms : List Literal) → list_all (among ls) ms ≡ true → list_all (among (x ∷ ls)) ms ≡ true
all-among-more x ls [] e = refl
all-among-more x ls (m ∷ ms) e =
    let parts = and_parts (among ls m) (list_all (among ls) ms) e in
    ap (λ (b : Bool). b && list_all (among (x ∷ ls)) ms) (among_later x ls m parts.0) ∙ all-among-more x ls ms parts.1

all-among : (ls : List Literal) → list_all (among ls) ls ≡ true
all-among [] = refl
all-among (l ∷ ls) = ap (λ (b : Bool). b && list_all (among (l ∷ ls)) ls) (among_first l ls) ∙ all-among-more l ls ls (all-among ls)

one-within : (whole part : List Literal) (l : Literal) → list_all (among whole) part ≡ true → among part l ≡ true → among whole l ≡ true
one-within whole [] l e f = absurd (cc)
one-within whole (p ∷ ps) l e f =
    let parts = and_parts (among whole p) (list_all (among whole) ps) e in
    elim (or_cases (same_literal l p) (among ps l) f) [
      | inl s ↦ subst (λ (x : Literal). among whole x ≡ true) (sym (same_literal-true l p s)) parts.0
      | inr r ↦ one-within whole ps l parts.1 r
    ]

all-within : (whole part ls : List Literal) → list_all (among whole) part ≡ true → list_all (among part) ls ≡ true → list_all (among whole) ls ≡ true
all-within whole part [] e f = refl
all-within whole part (l ∷ ls) e f =
    let parts = and_parts (among part l) (list_all (among part) ls) f in
    ap (λ (b : Bool). b && list_all (among whole) ls) (one-within whole part l e parts.0) ∙ all-within whole part ls e parts.1

-- what fails under assumptions fails under itself, and what of it fails does so under the
-- assumptions
pub failed-itself : (base : List Numbered) (assumptions core : List Literal) → IsFailed base assumptions core → IsFailed base core core
failed-itself base assumptions core h = record { among_assumptions = all-among core; no_model = h.no_model }

pub failed-fewer : (base : List Numbered) (assumptions core fewer : List Literal) → IsFailed base assumptions core → IsFailed base core fewer → IsFailed base assumptions fewer
failed-fewer base assumptions core fewer h k =
    record { among_assumptions = all-within assumptions core fewer h.among_assumptions k.among_assumptions; no_model = k.no_model }

-- conflicts that are charged are learnt, so both stay below a bound
pub still-few : (a b : Metering) (before after : ℕ) → SameButConflicts a b → conflict_count b + before ≡ conflict_count a + after → before + (conflict_limit a - conflict_count a) ≤ 2 ^ 60 → after + (conflict_limit b - conflict_count b) ≤ 2 ^ 60
still-few a b before after same count few =
    let limit = SameButConflicts-limit a b same in
    let within-a = conflicts_within a in
    let within-b = conflicts_within b in
    omega (arith, limit, within-a, within-b, count, few)
