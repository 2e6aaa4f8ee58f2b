-- Clauses that are left aside.
use Rattle.std.proofs.Common.{◌≡◌, ◌≢◌, ℕ, ◌+◌, ◌-◌, ◌<◌, ◌≤◌, length, take, get_or, Bool, true, false, ◌||◌, List, [], ◌∷◌, ◌++◌, Option, Some, None, All, eqb, refl, sym, ◌∙◌, ap, subst, arith, inl, inr}
use Rattle.std.specs.Prelude.{IsSome, if◌then◌else◌}
use Rattle.std.specs.List.{list_any, AllByRecursion}
use Rattle.std.proofs.lemmas.Bool.{cases_Bool, cases_eq, cases_lt, eqb-true, eq-eqb, ne_eqb, or_cases, or_parts, or_from, or_left, or_right, false_from_ne_true, false≢true}
use Rattle.std.proofs.lemmas.List.Elements.{recursion_from_All, All-from_recursion, All-weaker, All-push}
use Rattle.std.proofs.lemmas.List.Folds.{list_any-append, Any-from_list_any, list_any-from_Any}
use Rattle.std.proofs.lemmas.Option.{none-some, same_Some}
use Rattle.qv_cnf.specs.Derivation.{is_within}
use Rattle.qv_cnf.specs.Listing.{Numbered, Rises, clause_named, next_id}
use Rattle.qv_cnf.specs.Literal.{Literal}
use Rattle.qv_cnf.specs.Refutation.{among}
use Rattle.qv_cnf.proofs.Rising.{Rises-push}
use Rattle.qv_learn.proofs.Clauses.{all_among}
use Rattle.qv_sat.specs.Aside.{AreAside, HasNoGuard, IsGuarded, KeepsGuards, is_guard, is_listed}
use Rattle.qv_sat.specs.Naming.{AreAttached}
use Rattle.qv_sat.specs.declared.aside.Aside.{Aside}
use Rattle.qv_sat.proofs.Alike.{clause_named-append, either}
use Rattle.qv_sat.proofs.Naming.{append_nil, fresh_named, front_all, front_none, named-other, named-same, All-insert}

-- what is attached is live
pub attached_live : (aside : List ℕ) (live attached : List Numbered) (id : ℕ) (lits : List Literal) → AreAttached aside live attached → clause_named id attached ≡ Some lits → clause_named id live ≡ Some lits
attached_live aside live attached id lits a named = elim (cases_Bool (is_listed id aside)) [
  | inl out ↦ absurd (none-some lits (let none : clause_named id attached ≡ None = a.named id ∙ rw out refl in sym none ∙ named))
  | inr inside ↦ let same : clause_named id attached ≡ clause_named id live = a.named id ∙ rw inside refl in sym same ∙ named
]

pub attached_same : (aside : List ℕ) (live attached : List Numbered) (id : ℕ) → AreAttached aside live attached → IsSome (clause_named id attached) → clause_named id attached ≡ clause_named id live
attached_same aside live attached id a some = elim (cases_Bool (is_listed id aside)) [
  | inl out ↦ let none : clause_named id attached ≡ None = a.named id ∙ rw out refl in absurd (false≢true (subst (λ (o : Option (List Literal)). IsSome o) none some))
  | inr inside ↦ a.named id ∙ rw inside refl
]

pub attached_none : (aside : List ℕ) (live attached : List Numbered) (id : ℕ) → AreAttached aside live attached → clause_named id live ≡ None → clause_named id attached ≡ None
attached_none aside live attached id a none = elim (cases_Bool (is_listed id aside)) [
  | inl out ↦ a.named id ∙ rw out refl
  | inr inside ↦ a.named id ∙ rw inside none
]

-- what isn't left aside is attached
pub live_attached : (aside : List ℕ) (live attached : List Numbered) (id : ℕ) → AreAttached aside live attached → is_listed id aside ≡ false → clause_named id attached ≡ clause_named id live
live_attached aside live attached id a inside = a.named id ∙ rw inside refl

-- one id more
listed_push : (id other : ℕ) (ids : List ℕ) → is_listed id (ids ++ other ∷ []) ≡ (is_listed id ids || (eqb id other || false))
listed_push id other ids = list_any-append (λ o. eqb id o) ids (other ∷ [])

listed_other : (id other : ℕ) (ids : List ℕ) → other ≢ id → is_listed id (ids ++ other ∷ []) ≡ is_listed id ids
listed_other id other ids apart = listed_push id other ids ∙ rw (ne_eqb id other (λ e. apart (sym e))) (elim (cases_Bool (is_listed id ids)) [
  | inl t ↦ rw t refl
  | inr f ↦ rw f refl
])

listed_same : (id other : ℕ) (ids : List ℕ) → other ≡ id → is_listed id (ids ++ other ∷ []) ≡ true
listed_same id other ids same = listed_push id other ids ∙ or_right (is_listed id ids) (eqb id other || false) (or_left (eqb id other) false (eq-eqb id other (sym same)))

-- a live clause more is left aside
pub AreAttached-aside : (aside : List ℕ) (xs ys attached : List Numbered) (c : Numbered) → clause_named c.id (xs ++ ys) ≡ None → AreAttached aside (xs ++ ys) attached → AreAttached (aside ++ c.id ∷ []) (xs ++ c ∷ ys) attached
AreAttached-aside aside xs ys attached c fresh a =
    let fresh_front : clause_named c.id xs ≡ None = front_none c.id xs ys fresh in
    record {
      named = λ id. elim (cases_eq c.id id) [
        | inl same ↦ ap (λ k. clause_named k attached) (sym same) ∙ attached_none aside (xs ++ ys) attached c.id a fresh ∙ rw (listed_same id c.id aside same) refl
        | inr other ↦ a.named id ∙ ap (λ (o : Option (List Literal)). if is_listed id aside then None else o) (sym (named-other xs ys c id fresh_front other)) ∙ rw (listed_other id c.id aside other) refl
      ];
      own = All-insert (λ d. clause_named d.id (xs ++ c ∷ ys) ≡ Some d.lits) xs ys c
          (All-weaker (λ d. clause_named d.id (xs ++ ys) ≡ Some d.lits) (λ d. clause_named d.id (xs ++ c ∷ ys) ≡ Some d.lits)
          (λ d h. named-other xs ys c d.id fresh_front (λ same. none-some d.lits (sym fresh ∙ ap (λ id. clause_named id (xs ++ ys)) same ∙ h)) ∙ h)
          (xs ++ ys) a.own)
          (named-same xs ys c c.id fresh_front refl);
    }

-- the last that was left aside is attached
pub AreAttached-back : (front : List ℕ) (live attached : List Numbered) (c : Numbered) → is_listed c.id front ≡ false → clause_named c.id live ≡ Some c.lits → AreAttached (front ++ c.id ∷ []) live attached → AreAttached front live (attached ++ c ∷ [])
AreAttached-back front live attached c apart named a =
    let none : clause_named c.id attached ≡ None = a.named c.id ∙ rw (listed_same c.id c.id front refl) refl in
    record {
      named = λ id. elim (cases_eq c.id id) [
        | inl same ↦
            let outside : is_listed id front ≡ false = ap (λ k. is_listed k front) (sym same) ∙ apart in
            let there : clause_named id live ≡ Some c.lits = ap (λ k. clause_named k live) (sym same) ∙ named in
            named-same attached [] c id none same ∙ rw outside (sym there)
        | inr other ↦ named-other attached [] c id none other ∙ ap (clause_named id) (append_nil attached) ∙ a.named id ∙ rw (listed_other id c.id front other) refl
      ];
      own = a.own;
    }

-- what holds of each holds of one that is listed
listed_all : (P : ℕ → Type 0) (ids : List ℕ) (id : ℕ) → AllByRecursion P ids → is_listed id ids ≡ true → P id
listed_all P [] id all h = absurd (false≢true h)
listed_all P (i ∷ is) id all h = elim (or_cases (eqb id i) (is_listed id is) h) [
  | inl same ↦ subst P (sym (eqb-true id i same)) all.0
  | inr later ↦ listed_all P is id all.1 later
]

-- an id without a clause isn't left aside
none_guarded : (guards : List Bool) (o : Option (List Literal)) → o ≡ None → IsGuarded guards o → ⊥
none_guarded guards None e g = g
none_guarded guards (Some lits) e g = cc

pub aside_fresh : (base : List Numbered) (aside : Aside) (id : ℕ) → AreAside base aside → clause_named id base ≡ None → is_listed id aside.ids.items ≡ false
aside_fresh base aside id a none = false_from_ne_true (is_listed id aside.ids.items) (λ listed.
    none_guarded aside.guards.items (clause_named id base) none
    (listed_all (λ i. IsGuarded aside.guards.items (clause_named i base)) aside.ids.items id (recursion_from_All (λ i. IsGuarded aside.guards.items (clause_named i base)) aside.ids.items a.guarded) listed))

-- a clause without a guard contains none that is guarded
none_any : {X : Type 0} (g : X → Bool) (xs : List X) → list_any g xs ≡ false → AllByRecursion (λ x. g x ≡ false) xs
none_any g [] h = tt
none_any g (x ∷ xs) h = let parts = or_parts (g x) (list_any g xs) h in (parts.0, none_any g xs parts.1)

within_apart : (g : Literal → Bool) (small large : List Literal) → list_any g small ≡ true → All (λ l. g l ≡ false) large → is_within small large ≡ false
within_apart g [] large some none = absurd (false≢true some)
within_apart g (l ∷ ls) large some none = elim (or_cases (g l) (list_any g ls) some) [
  | inl here ↦
      let outside : among large l ≡ false = false_from_ne_true (among large l) (λ there. false≢true (sym (all_among (λ m. g m ≡ false) large l none there) ∙ here)) in
      rw outside refl
  | inr later ↦ elim (cases_Bool (among large l)) [
    | inl t ↦ rw t (within_apart g ls large later none)
    | inr f ↦ rw f refl
  ]
]

guarded_some : (guards : List Bool) (lits : List Literal) (base added : Option (List Literal)) → IsGuarded guards base → either base added ≡ Some lits → list_any (is_guard guards) lits ≡ true
guarded_some guards lits None added g named = absurd g
guarded_some guards lits (Some own) added g named = subst (λ (ls : List Literal). list_any (is_guard guards) ls ≡ true) (same_Some own lits named) g

listed_some : (ids : List ℕ) (id : ℕ) → is_listed id ids ≡ true → ids ≢ []
listed_some ids id listed none = false≢true (ap (is_listed id) (sym none) ∙ listed)

pub aside_not_within : (base added : List Numbered) (aside : Aside) (id : ℕ) (small large : List Literal) → AreAside base aside → HasNoGuard aside large → is_listed id aside.ids.items ≡ true → clause_named id (base ++ added) ≡ Some small → is_within small large ≡ false
aside_not_within base added aside id small large a none listed named =
    let guards = aside.guards.items in
    let guarded : IsGuarded guards (clause_named id base) = listed_all (λ i. IsGuarded guards (clause_named i base)) aside.ids.items id (recursion_from_All (λ i. IsGuarded guards (clause_named i base)) aside.ids.items a.guarded) listed in
    let some : list_any (is_guard guards) small ≡ true = guarded_some guards small (clause_named id base) (clause_named id added) guarded (sym (clause_named-append id base added) ∙ named) in
    elim (cases_Bool (list_any (is_guard guards) large)) [
      | inl guard ↦ absurd (none (listed_some aside.ids.items id listed) (Any-from_list_any (is_guard guards) large guard))
      | inr off ↦ within_apart (is_guard guards) small large some (All-from_recursion (λ l. is_guard guards l ≡ false) large (none_any (is_guard guards) large off))
    ]

-- what is left aside stays so when the base grows
guarded_more : (old new : List Bool) (o other : Option (List Literal)) → KeepsGuards old new → IsGuarded old o → IsGuarded new (either o other)
guarded_more old new None other keeps g = absurd g
guarded_more old new (Some lits) other keeps g =
    let any = Any-from_list_any (is_guard old) lits g in
    list_any-from_Any (is_guard new) lits (any.0, any.1, any.2, any.3, keeps any.1 any.4)

grown_guarded : (base : List Numbered) (c : Numbered) (old new : List Bool) (ids : List ℕ) → KeepsGuards old new → All (λ id. IsGuarded old (clause_named id base)) ids → All (λ id. IsGuarded new (clause_named id (base ++ c ∷ []))) ids
grown_guarded base c old new ids keeps all =
    All-weaker (λ id. IsGuarded old (clause_named id base)) (λ id. IsGuarded new (clause_named id (base ++ c ∷ []))) (λ id g.
    subst (IsGuarded new) (sym (clause_named-append id base (c ∷ []))) (guarded_more old new (clause_named id base) (clause_named id (c ∷ [])) keeps g)) ids all

keeps_same : (guards : List Bool) → KeepsGuards guards guards
keeps_same guards l h = h

pub AreAside-grows : (base : List Numbered) (c : Numbered) (aside : Aside) → AreAside base aside → AreAside (base ++ c ∷ []) aside
AreAside-grows base c aside a = record {
  rises = a.rises;
  guarded = grown_guarded base c aside.guards.items aside.guards.items aside.ids.items (keeps_same aside.guards.items) a.guarded;
}

-- other guards
pub AreAside-guards : (base : List Numbered) (old new : Aside) → new.ids.items ≡ old.ids.items → KeepsGuards old.guards.items new.guards.items → AreAside base old → AreAside base new
AreAside-guards base old new ids keeps a = record {
  rises = subst (Rises 0) (sym ids) a.rises;
  guarded = subst (All (λ id. IsGuarded new.guards.items (clause_named id base))) (sym ids)
      (All-weaker (λ id. IsGuarded old.guards.items (clause_named id base)) (λ id. IsGuarded new.guards.items (clause_named id base)) (λ id g. kept (clause_named id base) g) old.ids.items a.guarded);
}
  where
    kept : (o : Option (List Literal)) → IsGuarded old.guards.items o → IsGuarded new.guards.items o
    kept None g = g
    kept (Some lits) g = let any = Any-from_list_any (is_guard old.guards.items) lits g in list_any-from_Any (is_guard new.guards.items) lits (any.0, any.1, any.2, any.3, keeps any.1 any.4)

-- one more is left aside
next_below : (bound : ℕ) (ids : List ℕ) → AllByRecursion (λ id. id < bound) ids → next_id ids ≤ bound
next_below bound [] h = omega arith
next_below bound (id ∷ ids) h = let b = h.0 in let n = next_below bound ids h.1 in omega arith

guarded_below : (guards : List Bool) (base : List Numbered) (bound : ℕ) (ids : List ℕ) → AllByRecursion (λ c. c.id < bound) base → AllByRecursion (λ id. IsGuarded guards (clause_named id base)) ids → AllByRecursion (λ id. id < bound) ids
guarded_below guards base bound [] below h = tt
guarded_below guards base bound (id ∷ ids) below h = (
  elim (cases_lt id bound) [
    | inl low ↦ low
    | inr high ↦ absurd (none_guarded guards (clause_named id base) (fresh_named bound id base below high) h.0)
  ],
  guarded_below guards base bound ids below h.1,
)

pub AreAside-push : (base : List Numbered) (c : Numbered) (bound : ℕ) (old new : Aside) → AreAside base old → AllByRecursion (λ (x : Numbered). x.id < bound) base → bound ≤ c.id → clause_named c.id base ≡ None → new.ids.items ≡ old.ids.items ++ c.id ∷ [] → KeepsGuards old.guards.items new.guards.items → list_any (is_guard new.guards.items) c.lits ≡ true → AreAside (base ++ c ∷ []) new
AreAside-push base c bound old new a below low fresh ids keeps guard =
    let front = recursion_from_All (λ id. IsGuarded old.guards.items (clause_named id base)) old.ids.items a.guarded in
    let next = next_below bound old.ids.items (guarded_below old.guards.items base bound old.ids.items below front) in
    let own : IsGuarded new.guards.items (clause_named c.id (base ++ c ∷ [])) = subst (IsGuarded new.guards.items) (sym (named-same base [] c c.id fresh refl)) guard in
    record {
      rises = subst (Rises 0) (sym ids) (Rises-push 0 old.ids.items c.id a.rises (omega arith) (omega arith));
      guarded = subst (All (λ id. IsGuarded new.guards.items (clause_named id (base ++ c ∷ [])))) (sym ids)
          (All-push (λ id. IsGuarded new.guards.items (clause_named id (base ++ c ∷ []))) old.ids.items c.id (grown_guarded base c old.guards.items new.guards.items old.ids.items keeps a.guarded) own);
    }

-- the last of them is taken away
rises_last : (low id : ℕ) (front : List ℕ) → Rises low (front ++ id ∷ []) → low ≤ id
rises_last low id [] h = h.0
rises_last low id (x ∷ xs) h = let l = rises_last (x + 1) id xs h.1 in let b = h.0 in omega arith

rises_front : (low id : ℕ) (front : List ℕ) → Rises low (front ++ id ∷ []) → Rises low front
rises_front low id [] h = tt
rises_front low id (x ∷ xs) h = (h.0, rises_front (x + 1) id xs h.1)

pub rising_apart : (low id : ℕ) (front : List ℕ) → Rises low (front ++ id ∷ []) → is_listed id front ≡ false
rising_apart low id [] h = refl
rising_apart low id (x ∷ xs) h = let l = rises_last (x + 1) id xs h.1 in or_from (eqb id x) (is_listed id xs) (ne_eqb id x (omega arith)) (rising_apart (x + 1) id xs h.1)

pub AreAside-back : (base : List Numbered) (old new : Aside) (front : List ℕ) (id : ℕ) → AreAside base old → old.ids.items ≡ front ++ id ∷ [] → new.ids.items ≡ front → new.guards ≡ old.guards → AreAside base new
AreAside-back base old new front id a is now guards =
    let P : ℕ → Type 0 = λ k. IsGuarded old.guards.items (clause_named k base) in
    let rises : Rises 0 front = rises_front 0 id front (subst (Rises 0) is a.rises) in
    let all : All P front = All-from_recursion P front (front_all P front (id ∷ []) (recursion_from_All P (front ++ id ∷ []) (subst (All P) is a.guarded))) in
    record {
      rises = subst (Rises 0) (sym now) rises;
      guarded = subst (All (λ k. IsGuarded new.guards.items (clause_named k base))) (sym now) (subst (λ gs. All (λ k. IsGuarded gs (clause_named k base)) front) (ap (λ v. v.items) (sym guards)) all);
    }

-- a list and its last element
last_of : (x : ℕ) (xs : List ℕ) (id : ℕ) → id ≡ get_or (x ∷ xs) (length xs) id → x ∷ xs ≡ take (length xs) (x ∷ xs) ++ id ∷ []
last_of x [] id e = ap (λ n. n ∷ []) (sym e)
last_of x (y ∷ ys) id e = ap (λ (ns : List ℕ). x ∷ ns) (last_of y ys id e)

pub split_last : (ids : List ℕ) (last id : ℕ) → ids ≢ [] → last ≡ length ids - 1 → id ≡ get_or ids last id → ids ≡ take last ids ++ id ∷ []
split_last [] last id some is e = absurd (some refl)
split_last (x ∷ xs) last id some is e =
    let p : last ≡ length xs = omega (arith, is) in
    subst (λ n. x ∷ xs ≡ take n (x ∷ xs) ++ id ∷ []) (sym p) (last_of x xs id (subst (λ n. id ≡ get_or (x ∷ xs) n id) p e))
