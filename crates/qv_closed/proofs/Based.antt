-- Clauses that closure adds stand among those of a base.
use Rattle.std.proofs.Common.{◌≡◌, List, [], ◌∷◌, ◌++◌, inr, refl, sym, ap, subst}
use Rattle.qv_words.specs.Tree.{Tree}
use Rattle.qv_cnf.specs.Listing.{Numbered}
use Rattle.qv_cnf.specs.LratLine.{LratLine, Addition, Deletion}
use Rattle.qv_cnf.specs.Refutation.{IsRup, Standing, after_line, standing_at}
use Rattle.qv_cnf.proofs.Soundness.{rup_from_accepted}
use Rattle.qv_gates.specs.Closing.{Adds, added}
use Rattle.qv_meter.specs.Bases.{HaveClauses, IsBaseOf}
use Rattle.qv_meter.proofs.Bases.{base-with}
use Rattle.qv_sat.specs.CoreState.{CoreState}
use Rattle.qv_closed.specs.Cores.{IsLaid}

laid-clauses : (before : List Numbered) (s : Standing) (lines : List LratLine) → s.live ≡ before → Adds s lines → HaveClauses before (added lines) []
laid-clauses before s [] e a = refl
laid-clauses before s (Addition id lits hints ∷ lines) e a =
    let one : Numbered = record { id = id; lits = lits } in
    inr (
      (hints, subst (λ (b : List Numbered). IsRup b lits hints) e (rup_from_accepted s id lits hints a.0)),
      laid-clauses (before ++ one ∷ []) (after_line s (Addition id lits hints)) lines (ap (λ (xs : List Numbered). xs ++ one ∷ []) e) a.1,
    )
laid-clauses before s (Deletion id ids ∷ lines) e a = absurd a

pub base-laid : (base : List Numbered) (laid : List LratLine) (core : CoreState) (formulas : List Tree) → IsLaid core base laid → IsBaseOf base formulas → IsBaseOf core.base formulas
base-laid base laid core formulas k h =
    subst (λ (b : List Numbered). IsBaseOf b formulas) (sym k.fed.base_is) (base-with base (added laid) formulas h (laid-clauses base (standing_at base) laid refl k.adds))
