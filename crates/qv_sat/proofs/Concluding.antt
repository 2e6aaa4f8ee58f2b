-- What the answers on a trail say of the clauses of a core.
use Rattle.std.proofs.Common.{◌≡◌, ◌≢◌, ℕ, ◌≤◌, Bool, true, false, List, [], ◌∷◌, ◌++◌, filter, length, All, Some, ltb, append_assoc, refl, sym, ◌∙◌, ap, subst, arith}
use Rattle.std.specs.Prelude.{Result, Ok, Err, IfOk}
use Rattle.std.specs.List.{list_any, AllByRecursion}
use Rattle.std.proofs.lemmas.Bool.{or_from, false≢true}
use Rattle.std.proofs.lemmas.List.Elements.{recursion_from_All, All-from_recursion, All-weaker}
use Rattle.qv_cnf.specs.Derivation.{Deriving, DerivesFrom, MayStep, after_step, live_at, no_steps}
use Rattle.qv_cnf.specs.Listing.{Listing, Numbered, clause_named, clauses_of}
use Rattle.qv_cnf.specs.Literal.{Literal}
use Rattle.qv_cnf.specs.LratLine.{LratLine, Addition, Deletion}
use Rattle.qv_cnf.specs.Refutation.{adds_none}
use Rattle.qv_cnf.specs.Truth.{IsModel}
use Rattle.qv_cnf.proofs.Soundness.{clause_value-rup, IsModel-filter}
use Rattle.qv_watch.specs.TrailState.{TrailState}
use Rattle.qv_sat.specs.Answering.{IsFailed, IsFound, OnFound, OnUnsat, assignment}
use Rattle.qv_sat.specs.CoreState.{CoreState, GoesOn, HasNoConflict, IsNumbered, after_steps, live_after}
use Rattle.qv_sat.specs.Deciding.{AnswersOn, IsFailedOn, IsFoundOn, IsWithin}
use Rattle.qv_sat.specs.Holding.{IsHeld}
use Rattle.qv_sat.specs.Naming.{AreAttached}
use Rattle.qv_sat.specs.declared.outcomes.SatFault.{SatFault}
use Rattle.qv_sat.specs.declared.outcomes.Outcome.{Outcome}
use Rattle.qv_sat.specs.declared.outcomes.Outcome.TheVariants.{Found, Unsat}
use Rattle.qv_sat.proofs.Alike.{judged_clause-same}
use Rattle.qv_sat.proofs.Naming.{attached_model, front_all, model_attached, model_from, model_parts}
use Rattle.qv_sat.proofs.Steps.{model_live, model_step}
use Rattle.qv_sat.specs.declared.aside.Aside.{Aside}

each_recursion : {X : Type 0} (P Q : X → Type 0) (xs : List X) → ((x : X) → P x → Q x) → AllByRecursion P xs → AllByRecursion Q xs
each_recursion P Q [] f p = tt
each_recursion P Q (x ∷ xs) f p = (f x p.0, each_recursion P Q xs f p.1)

pub IsFound-held : (base : Listing) (steps : List LratLine) (on : TrailState) (top variables : ℕ) (refuted : Bool) (aside : Aside) (assumptions : List Literal) (values : List Bool) → IsHeld base steps on top variables refuted aside → aside.ids.items ≡ [] → All (IsWithin variables) assumptions → IsFoundOn on.clauses assumptions variables values → IsFound base.live assumptions values
IsFound-held base steps on top variables refuted aside assumptions values h none within f =
    let live = live_after base.live steps in
    let added = (after_steps no_steps steps).added in
    let long = f.long in
    let attached : AreAttached [] live on.clauses = subst (λ (ids : List ℕ). AreAttached ids live on.clauses) none h.attached in
    let own = front_all (λ c. clause_named c.id live ≡ Some c.lits) base.live added (recursion_from_All (λ c. clause_named c.id live ≡ Some c.lits) live attached.own) in
    record {
      model = (model_parts (assignment values) base.live added (attached_model (assignment values) live on.clauses attached f.model)).0;
      assumed = f.assumed;
      valued = All-from_recursion (λ c. All (λ l. l.variable ≤ length values) c.lits) base.live
          (each_recursion (λ c. clause_named c.id live ≡ Some c.lits) (λ c. All (λ l. l.variable ≤ length values) c.lits) base.live
          (λ c named. All-weaker (IsWithin variables) (λ l. l.variable ≤ length values) (λ l w. omega (arith, w.1)) c.lits (h.literals c.id c.lits named)) own);
      valued_assumptions = All-weaker (IsWithin variables) (λ l. l.variable ≤ length values) (λ l w. omega (arith, w.1)) assumptions within;
    }

pub IsFailed-held : (base : Listing) (steps : List LratLine) (on : TrailState) (top variables : ℕ) (refuted : Bool) (aside : Aside) (assumptions core : List Literal) → IsHeld base steps on top variables refuted aside → IsFailedOn on.clauses assumptions core → IsFailed base.live assumptions core
IsFailed-held base steps on top variables refuted aside assumptions core h f = record {
  among_assumptions = f.among_assumptions;
  no_model = λ v m c. f.no_model v (model_attached v aside.ids.items (live_after base.live steps) on.clauses h.attached (model_live v base.live steps h.core.derivation m)) c;
}

-- where the clauses have a model, each addition has literals
adds_some : (v : ℕ → Bool) (base : List Numbered) (d : Deriving) (s : LratLine) → MayStep base d s → IsModel v (clauses_of base) → IsModel v (clauses_of d.added) → adds_none s ≡ false
adds_some v base d (Addition id [] hints) may mb ma =
    let live : IsModel v (clauses_of (live_at base d id)) = model_from v (filter (λ (c : Numbered). ltb c.id id) base) d.added (IsModel-filter v (λ (c : Numbered). ltb c.id id) base mb) ma in
    absurd (false≢true (clause_value-rup v (live_at base d id) [] hints may.follows live))
adds_some v base d (Addition id (l ∷ ls) hints) may mb ma = refl
adds_some v base d (Deletion id ids) may mb ma = refl

add_some : (v : ℕ → Bool) (base : List Numbered) (d : Deriving) (steps : List LratLine) → DerivesFrom base steps d → IsModel v (clauses_of base) → IsModel v (clauses_of d.added) → list_any adds_none steps ≡ false
add_some v base d [] h mb ma = refl
add_some v base d (s ∷ steps) h mb ma = or_from (adds_none s) (list_any adds_none steps) (adds_some v base d s h.0 mb ma) (add_some v base (after_step d s) steps h.1 mb (model_step v base d s h.0 mb ma))

-- a refuted core has no model
pub IsFailed-refuted : (base : Listing) (steps : List LratLine) (on : TrailState) (top variables : ℕ) (refuted : Bool) (aside : Aside) (assumptions : List Literal) → IsHeld base steps on top variables refuted aside → refuted ≡ true → IsFailed base.live assumptions []
IsFailed-refuted base steps on top variables refuted aside assumptions h now = record {
  among_assumptions = refl;
  no_model = λ v m c. false≢true (sym (add_some v base.live no_steps steps h.core.derivation m refl) ∙ h.refutes now);
}

-- an outcome
pub found_held : (base : Listing) (steps : List LratLine) (on : TrailState) (top variables : ℕ) (refuted : Bool) (aside : Aside) (assumptions : List Literal) (outcome : Outcome) → IsHeld base steps on top variables refuted aside → aside.ids.items ≡ [] → All (IsWithin variables) assumptions → AnswersOn on.clauses assumptions variables outcome → OnFound outcome (IsFound base.live assumptions)
found_held base steps on top variables refuted aside assumptions (Found values) h none within a = IsFound-held base steps on top variables refuted aside assumptions values.items h none within a
found_held base steps on top variables refuted aside assumptions (Unsat core) h none within a = tt

pub unsat_held : (base : Listing) (steps : List LratLine) (on : TrailState) (top variables : ℕ) (refuted : Bool) (aside : Aside) (assumptions : List Literal) (outcome : Outcome) → IsHeld base steps on top variables refuted aside → AnswersOn on.clauses assumptions variables outcome → OnUnsat outcome (IsFailed base.live assumptions)
unsat_held base steps on top variables refuted aside assumptions (Found values) h a = tt
unsat_held base steps on top variables refuted aside assumptions (Unsat core) h a = IsFailed-held base steps on top variables refuted aside assumptions core.items h a

-- alone the clauses have no conflict where an assumption failed
pub conflict_held : (base : Listing) (steps : List LratLine) (on : TrailState) (top variables : ℕ) (refuted : Bool) (aside : Aside) (assumptions : List Literal) (outcome : Outcome) → IsHeld base steps on top variables refuted aside → aside.ids.items ≡ [] → AnswersOn on.clauses assumptions variables outcome → OnUnsat outcome (λ core. core ≢ [] → HasNoConflict record { base = base.live; steps = steps; top = top })
conflict_held base steps on top variables refuted aside assumptions (Found values) h none a = tt
conflict_held base steps on top variables refuted aside assumptions (Unsat core) h none a =
    let attached : AreAttached [] (live_after base.live steps) on.clauses = subst (λ (ids : List ℕ). AreAttached ids (live_after base.live steps) on.clauses) none h.attached in
    λ some hints r. a.no_conflict hints (judged_clause-same on.clauses (live_after base.live steps) [] hints attached.named ∙ r)

-- steps behind steps
numbered-append : (top mid last : ℕ) (xs ys : List LratLine) → IsNumbered top xs mid → IsNumbered mid ys last → IsNumbered top (xs ++ ys) last
numbered-append top mid last [] ys h k = subst (λ n. IsNumbered n ys last) h k
numbered-append top mid last (Addition id lits hints ∷ xs) ys h k = (h.0, numbered-append id mid last xs ys h.1 k)
numbered-append top mid last (Deletion id ids ∷ xs) ys h k = (h.0, numbered-append top mid last xs ys h.1 k)

pub GoesOn-twice : (a b c : CoreState) → GoesOn a b → GoesOn b c → GoesOn a c
GoesOn-twice a b c g h = record {
  base = h.base ∙ g.base;
  more = g.more ++ h.more;
  steps = h.steps ∙ ap (λ (xs : List LratLine). xs ++ h.more) g.steps ∙ append_assoc a.steps g.more h.more;
  numbered = numbered-append a.top b.top c.top g.more h.more g.numbered h.numbered;
}

-- what follows from an empty core
pub refuted_map : (r : Result Outcome SatFault) (P Q : Type 0) → (P → Q) → IfOk r (λ o. OnUnsat o (λ core. core ≡ [] → P)) → IfOk r (λ o. OnUnsat o (λ core. core ≡ [] → Q))
refuted_map (Ok (Found values)) P Q f h = tt
refuted_map (Ok (Unsat core)) P Q f h = λ e. f (h e)
refuted_map (Err fault) P Q f h = tt
