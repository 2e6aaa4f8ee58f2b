-- A trail grows by literals from unit clauses.
use Rattle.std.proofs.Common.{◌≡◌, ℕ, zero, suc, ◌+◌, ◌≤◌, false, not, ◌&&◌, List, [], ◌∷◌, ◌++◌, length, take, Some, None, All, eqb, refl, sym, ◌∙◌, ap, subst, arith, inl, inr, length-append}
use Rattle.std.specs.Prelude.{IsSome}
use Rattle.std.specs.List.{list_all, slice_get, AllByRecursion, fold}
use Rattle.std.proofs.lemmas.Bool.{cases_Bool, not-true, and_parts}
use Rattle.std.proofs.lemmas.List.{take_all, take-append-le, take_at, append-nil, append_assoc}
use Rattle.std.proofs.lemmas.List.Elements.{recursion_from_All, All-nil, All-push, All-append}
use Rattle.std.proofs.lemmas.Grind.{fold-append}
use Rattle.std.proofs.lemmas.Option.{none-some, same_Some, slice_get_within}
use Rattle.qv_cnf.specs.Listing.{Numbered, clause_named}
use Rattle.qv_cnf.specs.Literal.{Literal, negated}
use Rattle.qv_cnf.specs.Refutation.{among, same_literal, open_literals, reading_of, hint_reading}
use Rattle.qv_cnf.specs.declared.readings.Reading.TheVariants.{Forced, Useless}
use Rattle.qv_watch.specs.Attaching.{Stored, with_stored, attached_in, lits_in}
use Rattle.qv_watch.specs.Entries.{Entry, trues, value_of, last_level, reading_on, IsSettled}
use Rattle.qv_watch.specs.Table.{HasNoTwice}
use Rattle.qv_watch.specs.TrailState.{Continues, IsGrown, MayFollow}
use Rattle.qv_watch.proofs.Entering.{entry_at-fresh}
use Rattle.qv_watch.proofs.Tabling.{HasNoTwice-push}
use Rattle.qv_watch.proofs.Lists.{slice_get-append, slice_get-push, take_next, take_past}
use Rattle.qv_watch.proofs.Readings.{value_of-open}

-- the clause of an id stands at a place
pub place_of_named : (clauses : List Stored) (id : ℕ) (lits : List Literal) → clause_named id (attached_in clauses) ≡ Some lits → (k : ℕ) × (lits_in (slice_get clauses k) ≡ Some lits)
place_of_named [] id lits h = absurd (none-some lits h)
place_of_named (x ∷ xs) id lits h =
    let later : clause_named id (attached_in xs) ≡ Some lits → (k : ℕ) × (lits_in (slice_get (x ∷ xs) k) ≡ Some lits) =
    λ g. let rest = place_of_named xs id lits g in (suc rest.0, rest.1) in
    elim (x.lits) as (λ o. x.lits ≡ o → clause_named id (with_stored x.id o (attached_in xs)) ≡ Some lits → (k : ℕ) × (lits_in (slice_get (x ∷ xs) k) ≡ Some lits)) [
      | None ↦ λ _ g. later g
      | Some own ↦ λ live g. elim (cases_Bool (eqb x.id id)) [
        | inl t ↦ (0, live ∙ (rw t at g))
        | inr f ↦ later (rw f at g)
      ]
    ] refl h

-- where each clause at a place is at rest, no attached clause is unit or false
pub settled_by_places : (clauses : List Stored) (es : List Entry) → ((k : ℕ) (lits : List Literal) → lits_in (slice_get clauses k) ≡ Some lits → reading_on es lits ≡ Useless) → IsSettled (attached_in clauses) es
settled_by_places clauses es h id =
    elim (clause_named id (attached_in clauses)) as (λ o. clause_named id (attached_in clauses) ≡ o → hint_reading (trues es) o ≡ Useless) [
      | None ↦ λ _. refl
      | Some lits ↦ λ named. let there = place_of_named clauses id lits named in h there.0 lits there.1
    ] refl

-- the first open literal is one of the clause, and isn't false
open_first : (P : Literal → Type 0) (set lits : List Literal) (x : Literal) (xs : List Literal) → AllByRecursion P lits → open_literals set lits ≡ x ∷ xs → P x × (among set (negated x) ≡ false)
open_first P set [] x xs all h = cc
open_first P set (l ∷ ls) x xs all h = elim (cases_Bool (among set (negated l))) [
  | inl t ↦ open_first P set ls x xs all.1 (rw t at h)
  | inr f ↦ let g : l ∷ open_literals set ls ≡ x ∷ xs = rw f at h in let same : l ≡ x = cc in (subst P same all.0, rw (sym same) f)
]

by_reading : (set : List Literal) (opens : List Literal) (l : Literal) → reading_of set opens ≡ Forced l → (xs : List Literal) × (opens ≡ l ∷ xs) × (among set l ≡ false)
by_reading set [] l h = cc
by_reading set (x ∷ xs) l h = elim (cases_Bool (list_all (same_literal x) xs && not (among set x))) [
  | inl t ↦
      let parts = and_parts (list_all (same_literal x) xs) (not (among set x)) t in
      let g : Forced x ≡ Forced l = rw t at h in
      let same : x ≡ l = cc in
      (xs, ap (λ (y : Literal). y ∷ xs) same, rw same at (not-true (among set x) parts.1))
  | inr f ↦ absurd (let g : Useless ≡ Forced l = rw f at h in cc)
]

-- a literal that a clause forces is one of the clause, and has no value
pub forced_literal : (P : Literal → Type 0) (es : List Entry) (lits : List Literal) (l : Literal) → All P lits → reading_on es lits ≡ Forced l → P l × (value_of es l ≡ None)
forced_literal P es lits l all h =
    let parts = by_reading (trues es) (open_literals (trues es) lits) l h in
    let first = open_first P (trues es) lits l parts.0 (recursion_from_All P lits all) parts.1 in
    (first.0, value_of-open es l parts.2 first.1)

-- the variables of an attached clause have room
pub clause_room : (room : ℕ) (clauses : List Numbered) (id : ℕ) (lits : List Literal) → AllByRecursion (λ c. All (λ l. l.variable ≤ room) c.lits) clauses → clause_named id clauses ≡ Some lits → All (λ l. l.variable ≤ room) lits
clause_room room [] id lits all h = absurd (none-some lits h)
clause_room room (c ∷ cs) id lits all h = elim (cases_Bool (eqb c.id id)) [
  | inl t ↦ let same : c.lits ≡ lits = same_Some c.lits lits (rw t at h) in subst (λ (ls : List Literal). All (λ l. l.variable ≤ room) ls) same all.0
  | inr f ↦ clause_room room cs id lits all.1 (rw f at h)
]

-- one more entry
pub IsGrown-push : (room : ℕ) (clauses : List Numbered) (es : List Entry) (e : Entry) → IsGrown room clauses es → MayFollow room clauses es e → IsGrown room clauses (es ++ e ∷ [])
IsGrown-push room clauses es e g m k x h = elim (slice_get-push es e k x h) [
  | inl old ↦
      let within = slice_get_within es k x old in
      let same : take k (es ++ e ∷ []) ≡ take k es = take-append-le k es (e ∷ []) (omega arith) in
      subst (λ (before : List Entry). MayFollow room clauses before x) (sym same) (g k x old)
  | inr new ↦
      let same : take k (es ++ e ∷ []) ≡ es = take_at es (e ∷ []) k (sym new.0) in
      subst (λ (before : List Entry). MayFollow room clauses before x) (sym same) (subst (λ (y : Entry). MayFollow room clauses es y) new.1 m)
]

-- the older entries
pub IsGrown-front : (room : ℕ) (clauses : List Numbered) (es more : List Entry) → IsGrown room clauses (es ++ more) → IsGrown room clauses es
IsGrown-front room clauses es more g k x h =
    let within = slice_get_within es k x h in
    let same : take k (es ++ more) ≡ take k es = take-append-le k es more (omega arith) in
    subst (λ (before : List Entry). MayFollow room clauses before x) same (g k x (slice_get-append es more k x h))

-- no variable has two entries
once_up_to : (room : ℕ) (clauses : List Numbered) (es : List Entry) (n : ℕ) → IsGrown room clauses es → HasNoTwice (take n es)
once_up_to room clauses es zero g = tt
once_up_to room clauses es (suc n) g = elim (slice_get es n) as (λ o. slice_get es n ≡ o → HasNoTwice (take (suc n) es)) [
  | None ↦ λ none. rw (take_past es n none) (once_up_to room clauses es n g)
  | Some e ↦ λ there.
      let m = g n e there in
      rw (take_next es n e there) (HasNoTwice-push (take n es) e (once_up_to room clauses es n g) (entry_at-fresh (take n es) e.lit m.fresh))
] refl

pub once_grown : (room : ℕ) (clauses : List Numbered) (es : List Entry) → IsGrown room clauses es → HasNoTwice es
once_grown room clauses es g = subst HasNoTwice (take_all (length es) es (omega arith)) (once_up_to room clauses es (length es) g)

-- it goes on by one more entry
pub Continues-push : (level : ℕ) (old new : List Entry) (e : Entry) → Continues level old new → e.level ≡ level → IsSome e.reason → Continues level old (new ++ e ∷ [])
Continues-push level old new e c same some = record {
  more = c.more ++ e ∷ [];
  behind = ap (λ (xs : List Entry). xs ++ e ∷ []) c.behind ∙ append_assoc old c.more (e ∷ []);
  each = All-push (λ (x : Entry). (x.level ≡ level) × IsSome x.reason) c.more e c.each (same, some);
}

pub Continues-nothing : (level : ℕ) (es : List Entry) → Continues level es es
Continues-nothing level es = record { more = []; behind = sym (append-nil es); each = All-nil (λ (x : Entry). (x.level ≡ level) × IsSome x.reason) }

pub Continues-longer : (level : ℕ) (old new : List Entry) → Continues level old new → length old ≤ length new
Continues-longer level old new c = let n : length new ≡ length old + length c.more = ap length c.behind ∙ length-append old c.more in omega arith

-- it went on twice
pub Continues-twice : (level : ℕ) (old mid new : List Entry) → Continues level old mid → Continues level mid new → Continues level old new
Continues-twice level old mid new a b = record {
  more = a.more ++ b.more;
  behind = b.behind ∙ ap (λ (xs : List Entry). xs ++ b.more) a.behind ∙ append_assoc old a.more b.more;
  each = All-append (λ (x : Entry). (x.level ≡ level) × IsSome x.reason) a.more b.more a.each b.each;
}

stays_at : (level : ℕ) (more : List Entry) → AllByRecursion (λ x. (x.level ≡ level) × IsSome x.reason) more → fold (λ (_ : ℕ) (x : Entry). x.level) level more ≡ level
stays_at level [] all = refl
stays_at level (x ∷ xs) all = rw all.0.0 (stays_at level xs all.1)

-- the present level stays
pub Continues-level : (old new : List Entry) → Continues (last_level old) old new → last_level new ≡ last_level old
Continues-level old new c =
    ap last_level c.behind ∙ fold-append (λ (_ : ℕ) (x : Entry). x.level) 0 old c.more ∙ stays_at (last_level old) c.more (recursion_from_All (λ x. (x.level ≡ last_level old) × IsSome x.reason) c.more c.each)
