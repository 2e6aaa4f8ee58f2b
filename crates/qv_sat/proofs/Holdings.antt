-- What the inside of a core keeps, through each change.
use Rattle.std.proofs.Common.{◌≡◌, ◌≢◌, ℕ, ◌+◌, ◌<◌, ◌≤◌, ◌^◌, Bool, true, false, List, [], ◌∷◌, ◌++◌, filter, None, Some, All, ltb, append_assoc, refl, sym, ◌∙◌, ap, subst, arith, inl, inr}
use Rattle.std.specs.List.{list_any, AllByRecursion}
use Rattle.std.proofs.lemmas.Bool.{cases_eq, le-ltb, lt-ltb}
use Rattle.std.proofs.lemmas.List.Elements.{recursion_from_All, All-weaker, filter-append}
use Rattle.std.proofs.lemmas.Option.{same_Some}
use Rattle.qv_cnf.specs.Derivation.{no_steps}
use Rattle.qv_cnf.specs.Listing.{Listing, Numbered, Rises, clause_named, cut_at, next_id, with_clause}
use Rattle.qv_cnf.specs.Literal.{Literal}
use Rattle.qv_cnf.specs.LratLine.{LratLine}
use Rattle.qv_cnf.specs.Refutation.{has_none}
use Rattle.qv_cnf.proofs.Living.{next_id-push}
use Rattle.qv_watch.specs.TrailState.{TrailState}
use Rattle.qv_sat.specs.CoreState.{IsCore, after_steps, live_after}
use Rattle.qv_sat.specs.Deciding.{AllWithin, IsWithin}
use Rattle.qv_sat.specs.Holding.{IsHeld}
use Rattle.qv_sat.specs.Aside.{AreAside, KeepsGuards, is_guard}
use Rattle.qv_sat.specs.Naming.{AllBelow, AreAttached}
use Rattle.qv_sat.specs.Ordering.{IsOrdered}
use Rattle.qv_sat.proofs.LeftAside.{attached_live, attached_none, aside_fresh, rising_apart, AreAside-back, AreAside-grows, AreAside-guards, AreAside-push, AreAttached-aside, AreAttached-back}
use Rattle.qv_sat.proofs.Naming.{All-insert, append_nil, filter_all, fresh_named, front_all, front_none, named-other, named-same, AreAttached-insert}
use Rattle.qv_sat.proofs.Alike.{clause_named-append, either}
use Rattle.qv_sat.proofs.Ordered.{IsOrdered-clause}
use Rattle.qv_sat.proofs.Steps.{DerivesFrom-base, EachHinted-base}
use Rattle.qv_sat.specs.declared.aside.Aside.{Aside}

-- more room
pub IsHeld-room : (base : Listing) (steps : List LratLine) (on on' : TrailState) (top variables variables' : ℕ) (refuted : Bool) (aside : Aside) → IsHeld base steps on top variables refuted aside → on'.room ≡ variables' → on'.clauses ≡ on.clauses → variables ≤ variables' → variables' ≤ 2 ^ 30 → IsHeld base steps on' top variables' refuted aside
IsHeld-room base steps on on' top variables variables' refuted aside h room clauses more most = record {
  ordered = h.ordered;
  room = room;
  most = most;
  core = h.core;
  next_base = h.next_base;
  next_step = h.next_step;
  few = h.few;
  below = h.below;
  attached = subst (AreAttached aside.ids.items (live_after base.live steps)) (sym clauses) h.attached;
  are_aside = h.are_aside;
  literals = λ id lits named. All-weaker (IsWithin variables) (IsWithin variables') (λ l w. (w.0, omega (arith, w.1))) lits (h.literals id lits named);
  filled = h.filled;
  refutes = h.refutes;
}

-- a trail with the same clauses and the same room
pub IsHeld-trail : (base : Listing) (steps : List LratLine) (on on' : TrailState) (top variables : ℕ) (refuted : Bool) (aside : Aside) → IsHeld base steps on top variables refuted aside → on'.room ≡ on.room → on'.clauses ≡ on.clauses → IsHeld base steps on' top variables refuted aside
IsHeld-trail base steps on on' top variables refuted aside h room clauses = IsHeld-room base steps on on' top variables variables refuted aside h (room ∙ h.room) clauses (omega arith) h.most

-- the clauses of each id, with one more
AllWithin-insert : (variables : ℕ) (xs ys : List Numbered) (c : Numbered) → clause_named c.id (xs ++ ys) ≡ None → AllWithin variables (xs ++ ys) → All (IsWithin variables) c.lits → AllWithin variables (xs ++ c ∷ ys)
AllWithin-insert variables xs ys c fresh all own id lits named =
    let front : clause_named c.id xs ≡ None = front_none c.id xs ys fresh in
    elim (cases_eq c.id id) [
      | inl same ↦ subst (All (IsWithin variables)) (same_Some c.lits lits (sym (named-same xs ys c id front same) ∙ named)) own
      | inr other ↦ all id lits (sym (named-other xs ys c id front other) ∙ named)
    ]

pub AllWithin-push : (variables : ℕ) (clauses : List Numbered) (c : Numbered) → clause_named c.id clauses ≡ None → AllWithin variables clauses → All (IsWithin variables) c.lits → AllWithin variables (clauses ++ c ∷ [])
AllWithin-push variables clauses c fresh all own =
    AllWithin-insert variables clauses [] c (ap (clause_named c.id) (append_nil clauses) ∙ fresh) (subst (AllWithin variables) (sym (append_nil clauses)) all) own

-- what is attached names no other variables
pub within_attached : (base : Listing) (steps : List LratLine) (on : TrailState) (top variables : ℕ) (refuted : Bool) (aside : Aside) → IsHeld base steps on top variables refuted aside → AllWithin variables on.clauses
within_attached base steps on top variables refuted aside h id lits named = h.literals id lits (attached_live aside.ids.items (live_after base.live steps) on.clauses id lits h.attached named)

-- an id above the greatest has no clause
pub fresh_live : (base : Listing) (steps : List LratLine) (on : TrailState) (top variables : ℕ) (refuted : Bool) (aside : Aside) (id : ℕ) → IsHeld base steps on top variables refuted aside → top < id → clause_named id (live_after base.live steps) ≡ None
fresh_live base steps on top variables refuted aside id h above = fresh_named (top + 1) id (live_after base.live steps) (recursion_from_All (λ c. c.id < top + 1) (live_after base.live steps) h.below) (omega arith)

pub fresh_attached : (base : Listing) (steps : List LratLine) (on : TrailState) (top variables : ℕ) (refuted : Bool) (aside : Aside) (id : ℕ) → IsHeld base steps on top variables refuted aside → top < id → clause_named id on.clauses ≡ None
fresh_attached base steps on top variables refuted aside id h above = attached_none aside.ids.items (live_after base.live steps) on.clauses id h.attached (fresh_live base steps on top variables refuted aside id h above)

-- one more clause of the base
pub IsHeld-add : (base base' : Listing) (steps : List LratLine) (on on' : TrailState) (top variables : ℕ) (refuted : Bool) (aside : Aside) (id : ℕ) (lits : List Literal) → IsHeld base steps on top variables refuted aside → top < id → id < 2 ^ 62 → has_none lits ≡ false → All (IsWithin variables) lits → base' ≡ with_clause base id lits → on'.room ≡ on.room → on'.clauses ≡ on.clauses ++ record { id = id; lits = lits } ∷ [] → IsHeld base' steps on' id variables refuted aside
IsHeld-add base base' steps on on' top variables refuted aside id lits h above few some within grown room clauses =
    let c : Numbered = record { id = id; lits = lits } in
    let added : List Numbered = (after_steps no_steps steps).added in
    let old : List Numbered = live_after base.live steps in
    let below = recursion_from_All (λ (x : Numbered). x.id < top + 1) old h.below in
    let fresh = fresh_live base steps on top variables refuted aside id h above in
    let live : live_after base'.live steps ≡ base.live ++ c ∷ added = ap (λ (l : Listing). l.live ++ added) grown ∙ append_assoc base.live (c ∷ []) added in
    let next : (after_steps no_steps steps).next ≤ id = let n = h.next_step in omega arith in
    record {
      ordered = subst (λ (l : Listing). IsOrdered l.live steps id) (sym grown) (IsOrdered-clause base.live steps top id lits h.ordered above);
      room = room ∙ h.room;
      most = h.most;
      core = subst (λ (l : Listing). IsCore record { base = l.live; steps = steps; top = id }) (sym grown) record {
        derivation = DerivesFrom-base base.live c no_steps steps h.core.derivation next;
        hinted = EachHinted-base base.live c no_steps steps h.core.hinted h.core.derivation next;
      };
      next_base = let e : next_id base'.given ≡ id + 1 = ap (λ (l : Listing). next_id l.given) grown ∙ next_id-push base.given id (let n = h.next_base in omega arith) in omega arith;
      next_step = omega arith;
      few = few;
      below = subst (AllBelow (id + 1)) (sym live) (All-insert (λ x. x.id < id + 1) base.live added c (All-weaker (λ x. x.id < top + 1) (λ x. x.id < id + 1) (λ x l. omega arith) old h.below) (omega arith));
      attached = subst (λ (cs : List Numbered). AreAttached aside.ids.items (live_after base'.live steps) cs) (sym clauses) (subst (λ (ls : List Numbered). AreAttached aside.ids.items ls (on.clauses ++ c ∷ [])) (sym live) (AreAttached-insert aside.ids.items base.live added on.clauses c (aside_fresh base.live aside id h.are_aside (front_none id base.live added fresh)) fresh h.attached));
      are_aside = subst (λ (l : Listing). AreAside l.live aside) (sym grown) (AreAside-grows base.live c aside h.are_aside);
      literals = subst (AllWithin variables) (sym live) (AllWithin-insert variables base.live added c fresh h.literals within);
      filled = λ going. subst (All (λ (x : Numbered). has_none x.lits ≡ false)) (sym live) (All-insert (λ x. has_none x.lits ≡ false) base.live added c (h.filled going) some);
      refutes = h.refutes;
    }

-- other guards
pub IsHeld-guards : (base : Listing) (steps : List LratLine) (on : TrailState) (top variables : ℕ) (refuted : Bool) (aside aside' : Aside) → IsHeld base steps on top variables refuted aside → aside'.ids.items ≡ aside.ids.items → KeepsGuards aside.guards.items aside'.guards.items → IsHeld base steps on top variables refuted aside'
IsHeld-guards base steps on top variables refuted aside aside' h ids keeps = record {
  ordered = h.ordered;
  room = h.room;
  most = h.most;
  core = h.core;
  next_base = h.next_base;
  next_step = h.next_step;
  few = h.few;
  below = h.below;
  attached = subst (λ (ks : List ℕ). AreAttached ks (live_after base.live steps) on.clauses) (sym ids) h.attached;
  are_aside = AreAside-guards base.live aside aside' ids keeps h.are_aside;
  literals = h.literals;
  filled = h.filled;
  refutes = h.refutes;
}

-- one more clause of the base, which is left aside
pub IsHeld-aside : (base base' : Listing) (steps : List LratLine) (on : TrailState) (top variables : ℕ) (refuted : Bool) (aside aside' : Aside) (id : ℕ) (lits : List Literal) → IsHeld base steps on top variables refuted aside → top < id → id < 2 ^ 62 → has_none lits ≡ false → All (IsWithin variables) lits → base' ≡ with_clause base id lits → aside'.ids.items ≡ aside.ids.items ++ id ∷ [] → KeepsGuards aside.guards.items aside'.guards.items → list_any (is_guard aside'.guards.items) lits ≡ true → IsHeld base' steps on id variables refuted aside'
IsHeld-aside base base' steps on top variables refuted aside aside' id lits h above few some within grown ids keeps guard =
    let c : Numbered = record { id = id; lits = lits } in
    let added : List Numbered = (after_steps no_steps steps).added in
    let old : List Numbered = live_after base.live steps in
    let fresh = fresh_live base steps on top variables refuted aside id h above in
    let live : live_after base'.live steps ≡ base.live ++ c ∷ added = ap (λ (l : Listing). l.live ++ added) grown ∙ append_assoc base.live (c ∷ []) added in
    let next : (after_steps no_steps steps).next ≤ id = let n = h.next_step in omega arith in
    let front : AllByRecursion (λ (x : Numbered). x.id < top + 1) base.live = front_all (λ (x : Numbered). x.id < top + 1) base.live added (recursion_from_All (λ (x : Numbered). x.id < top + 1) old h.below) in
    record {
      ordered = subst (λ (l : Listing). IsOrdered l.live steps id) (sym grown) (IsOrdered-clause base.live steps top id lits h.ordered above);
      room = h.room;
      most = h.most;
      core = subst (λ (l : Listing). IsCore record { base = l.live; steps = steps; top = id }) (sym grown) record {
        derivation = DerivesFrom-base base.live c no_steps steps h.core.derivation next;
        hinted = EachHinted-base base.live c no_steps steps h.core.hinted h.core.derivation next;
      };
      next_base = let e : next_id base'.given ≡ id + 1 = ap (λ (l : Listing). next_id l.given) grown ∙ next_id-push base.given id (let n = h.next_base in omega arith) in omega arith;
      next_step = omega arith;
      few = few;
      below = subst (AllBelow (id + 1)) (sym live) (All-insert (λ x. x.id < id + 1) base.live added c (All-weaker (λ x. x.id < top + 1) (λ x. x.id < id + 1) (λ x l. omega arith) old h.below) (omega arith));
      attached = subst (λ (ks : List ℕ). AreAttached ks (live_after base'.live steps) on.clauses) (sym ids) (subst (λ (ls : List Numbered). AreAttached (aside.ids.items ++ id ∷ []) ls on.clauses) (sym live) (AreAttached-aside aside.ids.items base.live added on.clauses c fresh h.attached));
      are_aside = subst (λ (l : Listing). AreAside l.live aside') (sym grown) (AreAside-push base.live c (top + 1) aside aside' h.are_aside front (omega arith) (front_none id base.live added fresh) ids keeps guard);
      literals = subst (AllWithin variables) (sym live) (AllWithin-insert variables base.live added c fresh h.literals within);
      filled = λ going. subst (All (λ (x : Numbered). has_none x.lits ≡ false)) (sym live) (All-insert (λ x. has_none x.lits ≡ false) base.live added c (h.filled going) some);
      refutes = h.refutes;
    }

-- the last that was left aside is live
pub aside_live : (base : Listing) (steps : List LratLine) (id : ℕ) (lits : List Literal) → clause_named id base.live ≡ Some lits → clause_named id (live_after base.live steps) ≡ Some lits
aside_live base steps id lits named =
    let added : List Numbered = (after_steps no_steps steps).added in
    clause_named-append id base.live added ∙ ap (λ o. either o (clause_named id added)) named

-- and is attached
pub IsHeld-back : (base : Listing) (steps : List LratLine) (on on' : TrailState) (top variables : ℕ) (refuted : Bool) (aside aside' : Aside) (front : List ℕ) (id : ℕ) (lits : List Literal) → IsHeld base steps on top variables refuted aside → aside.ids.items ≡ front ++ id ∷ [] → clause_named id base.live ≡ Some lits → on'.room ≡ on.room → on'.clauses ≡ on.clauses ++ record { id = id; lits = lits } ∷ [] → aside'.ids.items ≡ front → aside'.guards ≡ aside.guards → IsHeld base steps on' top variables refuted aside'
IsHeld-back base steps on on' top variables refuted aside aside' front id lits h is named room clauses now guards =
    let c : Numbered = record { id = id; lits = lits } in
    let live : List Numbered = live_after base.live steps in
    let apart = rising_apart 0 id front (subst (Rises 0) is h.are_aside.rises) in
    let attached : AreAttached front live (on.clauses ++ c ∷ []) = AreAttached-back front live on.clauses c apart (aside_live base steps id lits named) (subst (λ (ks : List ℕ). AreAttached ks live on.clauses) is h.attached) in
    record {
      ordered = h.ordered;
      room = room ∙ h.room;
      most = h.most;
      core = h.core;
      next_base = h.next_base;
      next_step = h.next_step;
      few = h.few;
      below = h.below;
      attached = subst (λ (cs : List Numbered). AreAttached aside'.ids.items live cs) (sym clauses) (subst (λ (ks : List ℕ). AreAttached ks live (on.clauses ++ c ∷ [])) (sym now) attached);
      are_aside = AreAside-back base.live aside aside' front id h.are_aside is now guards;
      literals = h.literals;
      filled = h.filled;
      refutes = h.refutes;
    }

-- what is taken back
given_below : (ids : List ℕ) (id : ℕ) → next_id ids ≤ id → AllByRecursion (λ g. ltb g id ≡ true) ids
given_below [] id h = tt
given_below (x ∷ xs) id h = (lt-ltb x id (omega arith), given_below xs id (omega arith))

live_below : (clauses : List Numbered) (bound id : ℕ) → AllByRecursion (λ c. c.id < bound) clauses → bound ≤ id → AllByRecursion (λ c. ltb c.id id ≡ true) clauses
live_below [] bound id h low = tt
live_below (c ∷ cs) bound id h low = (lt-ltb c.id id (let b = h.0 in omega arith), live_below cs bound id h.1 low)

-- a clause list after the last clause was cut away
pub cut_back : (base : Listing) (bound id : ℕ) (lits : List Literal) → AllByRecursion (λ c. c.id < bound) base.live → bound ≤ id → next_id base.given ≤ id → cut_at id (with_clause base id lits) ≡ base
cut_back base bound id lits below low next =
    let c : Numbered = record { id = id; lits = lits } in
    let live : filter (λ (x : Numbered). ltb x.id id) (base.live ++ c ∷ []) ≡ base.live =
    filter-append (λ (x : Numbered). ltb x.id id) base.live (c ∷ []) ∙ rw (le-ltb id id (omega arith)) (append_nil (filter (λ (x : Numbered). ltb x.id id) base.live) ∙ filter_all (λ (x : Numbered). ltb x.id id) base.live (live_below base.live bound id below low)) in
    let given : filter (λ g. ltb g id) (base.given ++ id ∷ []) ≡ base.given =
    filter-append (λ g. ltb g id) base.given (id ∷ []) ∙ rw (le-ltb id id (omega arith)) (append_nil (filter (λ g. ltb g id) base.given) ∙ filter_all (λ g. ltb g id) base.given (given_below base.given id next)) in
    let by_live : List Numbered → Listing = λ xs. record { live = xs; given = filter (λ g. ltb g id) (base.given ++ id ∷ []) } in
    let by_given : List ℕ → Listing = λ xs. record { live = base.live; given = xs } in
    ap by_live live ∙ ap by_given given

pub has_none-some : (lits : List Literal) → lits ≢ [] → has_none lits ≡ false
has_none-some [] h = absurd (h refl)
has_none-some (l ∷ ls) h = refl

-- the base's clauses are below the bound of all
pub base_below : (bound : ℕ) (base added : List Numbered) → AllBelow bound (base ++ added) → AllByRecursion (λ c. c.id < bound) base
base_below bound base added all = front_all (λ c. c.id < bound) base added (recursion_from_All (λ c. c.id < bound) (base ++ added) all)

-- a clause that was added and cut away
pub added_back : (base added : Listing) (steps : List LratLine) (on : TrailState) (top variables : ℕ) (refuted : Bool) (aside : Aside) (id : ℕ) (lits : List Literal) → IsHeld base steps on top variables refuted aside → top < id → added ≡ with_clause base id lits → cut_at id added ≡ base
added_back base added steps on top variables refuted aside id lits h above is =
    ap (cut_at id) is ∙ cut_back base (top + 1) id lits (base_below (top + 1) base.live (after_steps no_steps steps).added h.below) (omega arith) (let n = h.next_base in omega arith)
