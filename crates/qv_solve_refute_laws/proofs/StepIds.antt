-- The ids and hints of a core's steps.
use Rattle.std.proofs.Common.{◌≡◌, ◌≢◌, ℕ, ◌+◌, ◌<◌, ◌≤◌, ◌^◌, ◌==◌, nat_lt, not, ℤ, pos, negsuc, true, List, [], ◌∷◌, filter, inl, inr, refl, sym, ◌∙◌, ap, subst, arith}
use Rattle.std.specs.Prelude.{All}
use Rattle.std.specs.List.{AllByRecursion, list_all, list_any}
use Rattle.std.proofs.lemmas.Bool.{and_parts, or_cases, eqb-true, false≢true}
use Rattle.std.proofs.lemmas.List.Elements.{All-filter, All-append, All-from_recursion, recursion_from_All}
use Rattle.qv_cnf.specs.Derivation.{DerivesFrom, Deriving, after_step, has_id, live_at, no_steps}
use Rattle.qv_cnf.specs.Listing.{Numbered}
use Rattle.qv_cnf.specs.LratLine.{LratLine, Addition, Deletion}
use Rattle.qv_lrat_text.specs.Grammar.{HasIds, IsHint, IsId}
use Rattle.qv_sat.specs.CoreState.{EachHinted, IsNumbered, names_live}
use Rattle.qv_solve_refute_laws.specs.StepLaws.{StepsHaveIds}

abbrev HasId : Numbered → Type 0
HasId c = IsId c.id

-- an id that names a clause is that clause's
named-id : (cs : List Numbered) (id : ℕ) → AllByRecursion HasId cs → has_id cs id ≡ true → IsId id
named-id (c ∷ cs) id h is = elim (or_cases (c.id == id) (has_id cs id) is) [
  | inl own ↦ subst IsId (eqb-true c.id id own) h.0
  | inr later ↦ named-id cs id h.1 later
]
named-id [] id h is = absurd (false≢true is)

named-ids : (cs : List Numbered) (ids : List ℕ) → AllByRecursion HasId cs → list_all (has_id cs) ids ≡ true → AllByRecursion IsId ids
named-ids cs [] h is = tt
named-ids cs (id ∷ ids) h is =
    let parts = and_parts (has_id cs id) (list_all (has_id cs) ids) is in
    (named-id cs id h parts.0, named-ids cs ids h parts.1)

named-hints : (cs : List Numbered) (hints : List ℤ) → AllByRecursion HasId cs → list_all (names_live cs) hints ≡ true → AllByRecursion IsHint hints
named-hints cs [] h is = tt
named-hints cs (pos id ∷ hints) h is =
    let parts = and_parts (has_id cs id) (list_all (names_live cs) hints) is in
    (named-id cs id h parts.0, named-hints cs hints h parts.1)
named-hints cs (negsuc n ∷ hints) h is = absurd (false≢true is)

-- what the additions so far are known to keep
record Fits (d : Deriving) (top : ℕ) : Type 0 where
  added : All HasId d.added
  came : d.added ≢ [] → 1 ≤ top

-- where an addition is deleted there is one
has-added : (cs : List Numbered) (ids : List ℕ) → list_all (has_id cs) ids ≡ true → ids ≢ [] → cs ≢ []
has-added cs [] live some = absurd (some refl)
has-added cs (id ∷ ids) live some = λ none. false≢true (sym (ap (λ (xs : List Numbered). has_id xs id) none) ∙ (and_parts (has_id cs id) (list_all (has_id cs) ids) live).0)

rises : (steps : List LratLine) (top last : ℕ) → IsNumbered top steps last → top ≤ last
rises [] top last h = omega (arith, h)
rises (Addition id lits hints ∷ steps) top last h =
    let next = rises steps id last h.1 in
    let is = h.0 in
    omega (arith, next, is)
rises (Deletion id ids ∷ steps) top last h = rises steps top last h.1

module _ (base : List Numbered) (based : All HasId base) where
  live : (d : Deriving) (id : ℕ) → All HasId d.added → AllByRecursion HasId (live_at base d id)
  live d id added = recursion_from_All HasId (live_at base d id) (All-append HasId (filter (λ c. nat_lt c.id id) base) d.added (All-filter (λ c. nat_lt c.id id) HasId base based) added)

  each : (steps : List LratLine) (d : Deriving) (top last : ℕ) → Fits d top → DerivesFrom base steps d → EachHinted base steps d → IsNumbered top steps last → last < 2 ^ 62 → AllByRecursion HasIds steps
  each [] d top last fits from hinted numbered less = tt
  each (Addition id lits hints ∷ steps) d top last fits from hinted numbered less =
      let is : id ≡ top + 1 = numbered.0 in
      let most = rises steps id last numbered.1 in
      let own : IsId id = (omega (arith, is), omega (arith, most, less)) in
      let after : Fits (after_step d (Addition id lits hints)) id = record {
        added = All-append HasId d.added (record { id = id; lits = lits } ∷ []) fits.added (All-from_recursion HasId (record { id = id; lits = lits } ∷ []) (own, tt));
        came = λ h. own.0;
      } in
      ((own, All-from_recursion IsHint hints (named-hints (live_at base d id) hints (live d id fits.added) hinted.0)), each steps (after_step d (Addition id lits hints)) id last after from.1 hinted.1 numbered.1 less)
  each (Deletion id ids ∷ steps) d top last fits from hinted numbered less =
      let is : id ≡ top = numbered.0 in
      let most = rises steps top last numbered.1 in
      let came : 1 ≤ top = fits.came (has-added d.added ids from.0.live from.0.some) in
      let own : IsId id = (omega (arith, is, came), omega (arith, is, most, less)) in
      let after : Fits (after_step d (Deletion id ids)) top = record {
        added = All-filter (λ c. not (list_any (λ i. c.id == i) ids)) HasId d.added fits.added;
        came = λ h. came;
      } in
      ((own, All-from_recursion IsId ids (named-ids d.added ids (recursion_from_All HasId d.added fits.added) from.0.live)), each steps (after_step d (Deletion id ids)) top last after from.1 hinted.1 numbered.1 less)

pub steps-have_ids : StepsHaveIds
steps-have_ids base steps top last based derivation hinted numbered less =
    let start : Fits no_steps top = record {
      added = All-from_recursion HasId [] tt;
      came = λ h. absurd (h refl);
    } in
    All-from_recursion HasIds steps (each base based steps no_steps top last start derivation hinted numbered less)
