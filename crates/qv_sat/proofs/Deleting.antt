-- Clauses that are taken away.
use Rattle.std.proofs.Common.{◌≡◌, ◌≢◌, ℕ, suc, ◌+◌, ◌-◌, ◌<◌, Bool, true, false, not, List, [], ◌∷◌, ◌++◌, length, take, get_or, Option, Some, None, All, eqb, refl, sym, ◌∙◌, ap, subst, arith, inl, inr}
use Rattle.std.specs.Prelude.{IsSome, if◌then◌else◌}
use Rattle.std.proofs.lemmas.List.{take_more}
use Rattle.std.specs.List.{list_any, slice_get, AllByRecursion}
use Rattle.std.proofs.lemmas.Bool.{cases_Bool, eq-eqb, eqb-true, ne_eqb, or_from, or_left, or_parts, or_right, false≢true}
use Rattle.std.proofs.lemmas.List.Elements.{All-from_recursion, All-weaker, filter-append, recursion_from_All}
use Rattle.std.proofs.lemmas.Option.{none-some, same_Some}
use Rattle.qv_cnf.specs.Derivation.{has_id}
use Rattle.qv_cnf.specs.Listing.{Numbered, Rises, clause_named, without}
use Rattle.qv_cnf.proofs.Rising.{Rises-lt, front_below}
use Rattle.qv_cnf.specs.declared.readings.Reading.TheVariants.{Forced}
use Rattle.qv_watch.specs.Entries.{Entry, reading_on, reason_of}
use Rattle.qv_watch.specs.TrailState.{Comes, IsTrail, TrailState}
use Rattle.qv_watch.specs.declared.propagation.Propagated.{Propagated}
use Rattle.qv_watch.proofs.Growing.{forced_literal, once_grown}
use Rattle.qv_cnf.specs.Literal.{Literal}
use Rattle.qv_sat.specs.Deciding.{AllWithin}
use Rattle.qv_sat.specs.Aside.{is_listed}
use Rattle.qv_sat.specs.Naming.{AreAttached}
use Rattle.qv_sat.proofs.Depending.{forcing_clause}
use Rattle.qv_sat.proofs.Entries.{reason_at}

-- one after the other
pub without-cons : (id : ℕ) (ids : List ℕ) (xs : List Numbered) → without (id ∷ ids) xs ≡ without ids (without (id ∷ []) xs)
without-cons id ids [] = refl
without-cons id ids (c ∷ cs) = elim (cases_Bool (eqb c.id id)) [
  | inl own ↦ rw own (without-cons id ids cs)
  | inr other ↦ elim (cases_Bool (list_any (λ k. eqb c.id k) ids)) [
    | inl gone ↦ rw (other, gone) (without-cons id ids cs)
    | inr stays ↦ rw (other, stays) (ap (λ (ys : List Numbered). c ∷ ys) (without-cons id ids cs))
  ]
]

pub without-none : (xs : List Numbered) → without [] xs ≡ xs
without-none [] = refl
without-none (c ∷ cs) = ap (λ (ys : List Numbered). c ∷ ys) (without-none cs)

pub without-push : (ids : List ℕ) (id : ℕ) (xs : List Numbered) → without (ids ++ id ∷ []) xs ≡ without (id ∷ []) (without ids xs)
without-push [] id xs = ap (without (id ∷ [])) (sym (without-none xs))
without-push (k ∷ ids) id xs = without-cons k (ids ++ id ∷ []) xs ∙ without-push ids id (without (k ∷ []) xs) ∙ ap (without (id ∷ [])) (sym (without-cons k ids xs))

-- an id that isn't there
absent_one : (id : ℕ) (xs : List Numbered) → has_id xs id ≡ false → without (id ∷ []) xs ≡ xs
absent_one id [] h = refl
absent_one id (c ∷ cs) h =
    let parts = or_parts (eqb c.id id) (has_id cs id) h in
    rw parts.0 (ap (λ (ys : List Numbered). c ∷ ys) (absent_one id cs parts.1))

pub absent_all : (ids : List ℕ) (xs : List Numbered) → AllByRecursion (λ id. has_id xs id ≡ false) ids → without ids xs ≡ xs
absent_all [] xs h = without-none xs
absent_all (id ∷ ids) xs h = without-cons id ids xs ∙ ap (without ids) (absent_one id xs h.0) ∙ absent_all ids xs h.1

pub without-append : (ids : List ℕ) (xs ys : List Numbered) → without ids (xs ++ ys) ≡ without ids xs ++ without ids ys
without-append ids xs ys = filter-append (λ c. not (list_any (λ id. eqb c.id id) ids)) xs ys

-- which clause has an id then
named_one : (id k : ℕ) (xs : List Numbered) → clause_named k (without (id ∷ []) xs) ≡ (if eqb k id then None else clause_named k xs)
named_one id k [] = elim (cases_Bool (eqb k id)) [ inl own ↦ rw own refl | inr other ↦ rw other refl ]
named_one id k (c ∷ cs) = elim (cases_Bool (eqb c.id id)) [
  | inl gone ↦ rw gone (named_one id k cs ∙ elim (cases_Bool (eqb k id)) [
    | inl own ↦ rw own refl
    | inr other ↦
        let apart : eqb c.id k ≡ false = ne_eqb c.id k (λ same. false≢true (sym other ∙ eq-eqb k id (sym same ∙ eqb-true c.id id gone))) in
        rw (other, apart) refl
  ])
  | inr stays ↦ rw stays (elim (cases_Bool (eqb c.id k)) [
    | inl named ↦
        let other : eqb k id ≡ false = ne_eqb k id (λ same. false≢true (sym stays ∙ eq-eqb c.id id (eqb-true c.id k named ∙ same))) in
        rw (named, other) refl
    | inr unnamed ↦ rw unnamed (named_one id k cs)
  ])
]

pub named_other : (id k : ℕ) (xs : List Numbered) → k ≢ id → clause_named k (without (id ∷ []) xs) ≡ clause_named k xs
named_other id k xs other = named_one id k xs ∙ rw (ne_eqb k id other) refl

pub named_kept : (ids : List ℕ) (k : ℕ) (xs : List Numbered) → AllByRecursion (λ id. k ≢ id) ids → clause_named k (without ids xs) ≡ clause_named k xs
named_kept [] k xs h = ap (clause_named k) (without-none xs)
named_kept (id ∷ ids) k xs h = ap (clause_named k) (without-cons id ids xs) ∙ named_kept ids k (without (id ∷ []) xs) h.1 ∙ named_other id k xs h.0

-- a clause that is there was there
pub named_before : (ids : List ℕ) (k : ℕ) (lits : List Literal) (xs : List Numbered) → clause_named k (without ids xs) ≡ Some lits → clause_named k xs ≡ Some lits
named_before [] k lits xs h = sym (ap (clause_named k) (without-none xs)) ∙ h
named_before (id ∷ ids) k lits xs h =
    let one = named_before ids k lits (without (id ∷ []) xs) (sym (ap (clause_named k) (without-cons id ids xs)) ∙ h) in
    elim (cases_Bool (eqb k id)) [
      | inl own ↦ absurd (none-some lits (let gone : clause_named k (without (id ∷ []) xs) ≡ None = named_one id k xs ∙ rw own refl in sym gone ∙ one))
      | inr other ↦ let same : clause_named k (without (id ∷ []) xs) ≡ clause_named k xs = named_one id k xs ∙ rw other refl in sym same ∙ one
    ]

pub AllWithin-without : (variables : ℕ) (ids : List ℕ) (xs : List Numbered) → AllWithin variables xs → AllWithin variables (without ids xs)
AllWithin-without variables ids xs all k lits named = all k lits (named_before ids k lits xs named)

-- the live clauses and the attached ones
own_one : (id : ℕ) (whole xs : List Numbered) → AllByRecursion (λ c. clause_named c.id whole ≡ Some c.lits) xs → AllByRecursion (λ c. clause_named c.id (without (id ∷ []) whole) ≡ Some c.lits) (without (id ∷ []) xs)
own_one id whole [] h = tt
own_one id whole (c ∷ cs) h = elim (cases_Bool (eqb c.id id)) [
  | inl gone ↦ rw gone (own_one id whole cs h.1)
  | inr stays ↦ rw stays ((named_one id c.id whole ∙ rw stays h.0), own_one id whole cs h.1)
]

both_none : (a b : Bool) (o : Option (List Literal)) → (if a then None else (if b then None else o)) ≡ (if b then None else (if a then None else o))
both_none true true o = refl
both_none true false o = refl
both_none false true o = refl
both_none false false o = refl

attached_one : (id : ℕ) (aside : List ℕ) (live attached : List Numbered) → AreAttached aside live attached → AreAttached aside (without (id ∷ []) live) (without (id ∷ []) attached)
attached_one id aside live attached a = record {
  named = λ k.
      named_one id k attached ∙ ap (λ (o : Option (List Literal)). if eqb k id then None else o) (a.named k)
      ∙ both_none (eqb k id) (is_listed k aside) (clause_named k live)
      ∙ ap (λ (o : Option (List Literal)). if is_listed k aside then None else o) (sym (named_one id k live));
  own = All-from_recursion (λ c. clause_named c.id (without (id ∷ []) live) ≡ Some c.lits) (without (id ∷ []) live) (own_one id live live (recursion_from_All (λ c. clause_named c.id live ≡ Some c.lits) live a.own));
}

pub AreAttached-without : (ids aside : List ℕ) (live attached : List Numbered) → AreAttached aside live attached → AreAttached aside (without ids live) (without ids attached)
AreAttached-without [] aside live attached a = subst (λ (xs : List Numbered). AreAttached aside xs (without [] attached)) (sym (without-none live)) (subst (AreAttached aside live) (sym (without-none attached)) a)
AreAttached-without (id ∷ ids) aside live attached a =
    subst (λ (xs : List Numbered). AreAttached aside xs (without (id ∷ ids) attached)) (sym (without-cons id ids live))
    (subst (AreAttached aside (without ids (without (id ∷ []) live))) (sym (without-cons id ids attached))
    (AreAttached-without ids aside (without (id ∷ []) live) (without (id ∷ []) attached) (attached_one id aside live attached a)))

-- an addition's clause is none of the base's
pub named_behind : (id : ℕ) (xs ys : List Numbered) → has_id xs id ≡ false → clause_named id (xs ++ ys) ≡ clause_named id ys
named_behind id [] ys h = refl
named_behind id (c ∷ cs) ys h = let parts = or_parts (eqb c.id id) (has_id cs id) h in rw parts.0 (named_behind id cs ys parts.1)

pub named_has : (id : ℕ) (xs : List Numbered) → IsSome (clause_named id xs) → has_id xs id ≡ true
named_has id [] h = absurd (false≢true h)
named_has id (c ∷ cs) h = elim (cases_Bool (eqb c.id id)) [
  | inl own ↦ or_left (eqb c.id id) (has_id cs id) own
  | inr other ↦ or_right (eqb c.id id) (has_id cs id) (named_has id cs (rw other at h))
]

pub none_has : (id : ℕ) (xs : List Numbered) → clause_named id xs ≡ None → has_id xs id ≡ false
none_has id [] h = refl
none_has id (c ∷ cs) h = elim (cases_Bool (eqb c.id id)) [
  | inl own ↦ absurd (none-some c.lits (let some : clause_named id (c ∷ cs) ≡ Some c.lits = rw own refl in sym h ∙ some))
  | inr other ↦ or_from (eqb c.id id) (has_id cs id) other (none_has id cs (rw other at h))
]

-- a clause whose literals came from others is no reason
each_entry : (P : Entry → Type 0) (es : List Entry) → ((k : ℕ) (e : Entry) → slice_get es k ≡ Some e → P e) → AllByRecursion P es
each_entry P [] h = tt
each_entry P (x ∷ xs) h = (h 0 x refl, each_entry P xs (λ k e there. h (suc k) e there))

pub idle_entries : (t : TrailState) (id : ℕ) (lits : List Literal) → IsTrail t → clause_named id t.clauses ≡ Some lits → All (λ l. reason_of t.entries l ≢ Some id) lits → All (λ e. e.reason ≢ Some id) t.entries
idle_entries t id lits is named none = All-from_recursion (λ e. e.reason ≢ Some id) t.entries (each_entry (λ e. e.reason ≢ Some id) t.entries (λ k e there came.
    let comes : Comes t.clauses (take k t.entries) e.lit e.level (Some id) = subst (Comes t.clauses (take k t.entries) e.lit e.level) came (is.grown k e there).comes in
    let f = forcing_clause t.clauses (take k t.entries) id e.lit comes.1 in
    let same : f.0 ≡ lits = same_Some f.0 lits (sym f.1 ∙ named) in
    let reads = subst (λ (ls : List Literal). reading_on (take k t.entries) ls ≡ Forced e.lit) same f.2 in
    let apart = (forced_literal (λ l. reason_of t.entries l ≢ Some id) (take k t.entries) lits e.lit none reads).0 in
    apart (reason_at t.entries k e (once_grown t.room t.clauses t.entries is.grown) there ∙ came)))

-- clauses are detached one after the other
abbrev made : ℕ → List Numbered → List Entry → ℕ → Option Propagated → TrailState
made room clauses entries level answer = record { room = room; clauses = clauses; entries = entries; level = level; answer = answer }

pub detached_none : (t : TrailState) → t ≡ record { room = t.room; clauses = without [] t.clauses; entries = t.entries; level = t.level; answer = t.answer }
detached_none t = ap (λ (cs : List Numbered). made t.room cs t.entries t.level t.answer) (sym (without-none t.clauses))

pub detached_next : (old now new : TrailState) (ids : List ℕ) (i : ℕ) (answer : Option Propagated) → i < length ids → now ≡ record { room = old.room; clauses = without (take i ids) old.clauses; entries = old.entries; level = old.level; answer = now.answer } → new ≡ record { room = now.room; clauses = without (get_or ids i 0 ∷ []) now.clauses; entries = now.entries; level = now.level; answer = answer } → new ≡ record { room = old.room; clauses = without (take (i + 1) ids) old.clauses; entries = old.entries; level = old.level; answer = new.answer }
detached_next old now new ids i answer within is next =
    let x : ℕ = get_or ids i 0 in
    let clauses : new.clauses ≡ without (take (i + 1) ids) old.clauses =
    ap (λ (t : TrailState). t.clauses) next ∙ ap (λ (t : TrailState). without (x ∷ []) t.clauses) is ∙ sym (without-push (take i ids) x old.clauses) ∙ ap (λ (ks : List ℕ). without ks old.clauses) (sym (take_more ids i 0 within)) in
    let room : new.room ≡ old.room = ap (λ (t : TrailState). t.room) next ∙ ap (λ (t : TrailState). t.room) is in
    let entries : new.entries ≡ old.entries = ap (λ (t : TrailState). t.entries) next ∙ ap (λ (t : TrailState). t.entries) is in
    let level : new.level ≡ old.level = ap (λ (t : TrailState). t.level) next ∙ ap (λ (t : TrailState). t.level) is in
    ap (λ (r : ℕ). made r new.clauses new.entries new.level new.answer) room
    ∙ ap (λ (cs : List Numbered). made old.room cs new.entries new.level new.answer) clauses
    ∙ ap (λ (es : List Entry). made old.room (without (take (i + 1) ids) old.clauses) es new.level new.answer) entries
    ∙ ap (λ (n : ℕ). made old.room (without (take (i + 1) ids) old.clauses) old.entries n new.answer) level

pub still_attached : (ids : List ℕ) (i : ℕ) (clauses : List Numbered) → Rises 0 ids → i < length ids → IsSome (clause_named (get_or ids i 0) clauses) → IsSome (clause_named (get_or ids i 0) (without (take i ids) clauses))
still_attached ids i clauses rises within some =
    let x : ℕ = get_or ids i 0 in
    let below = front_below ids i x rises (omega arith) (λ more. Rises-lt 0 ids (i - 1) i rises (omega arith) within) in
    let apart : AllByRecursion (λ k. x ≢ k) (take i ids) = recursion_from_All (λ k. x ≢ k) (take i ids) (All-weaker (λ k. k < x) (λ k. x ≢ k) (λ k less same. omega arith) (take i ids) below) in
    subst (λ (o : Option (List Literal)). IsSome o) (sym (named_kept (take i ids) x clauses apart)) some
