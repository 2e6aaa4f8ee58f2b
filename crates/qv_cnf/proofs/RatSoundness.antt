-- A clause that RAT hints show keeps satisfiability.
use Rattle.std.proofs.Common.{◌≡◌, ℕ, ◌+◌, ◌≤◌, ◌⊎◌, Bool, true, false, not, cond, ◌&&◌, ◌||◌, List, [], ◌∷◌, ◌++◌, map, ℤ, pos, negsuc, Option, Some, None, refl, sym, ◌∙◌, ap, subst, inl, inr, eqb, arith}
use Rattle.std.specs.List.{list_any, list_all}
use Rattle.std.proofs.lemmas.Bool.{and_from, and_parts, or_cases, or_parts, or_right, cases_Bool, eqb-true, eq-eqb}
use Rattle.std.proofs.lemmas.List.Folds.{list_all-append}
use Rattle.qv_cnf.specs.Literal.{Literal, negated}
use Rattle.qv_cnf.specs.Listing.{Numbered, Rises, clauses_of, clause_named}
use Rattle.qv_cnf.specs.Refutation.{same_literal, among, hint_reading, Judgement, Accepted, RatAt, FailsAt, LeftOpen, judged_by, judged_from}
use Rattle.qv_cnf.specs.Rat.{needs_group, others, group_set, opened, in_group, propagated, all_grouped, grouped, judged_groups, judged_rat, judged_along, RatKeepsModels, RupIsRat}
use Rattle.qv_cnf.specs.declared.readings.Reading.{Reading}
use Rattle.qv_cnf.specs.declared.readings.Reading.TheVariants.{Falsified, Forced, Useless}
use Rattle.qv_cnf.specs.Truth.{literal_value, clause_value, IsModel}
use Rattle.qv_cnf.proofs.Soundness.{value_of_same, value_of_among, Agrees, hint_agrees, negations_true}

-- ---- the pivot made true

abbrev flipped : (ℕ → Bool) → Literal → ℕ → Bool
flipped v p n = cond (eqb n p.variable) p.positive (v n)

own_sign : (b : Bool) → cond b b (not b) ≡ true
own_sign true = refl
own_sign false = refl

pivot_true : (v : ℕ → Bool) (p : Literal) → literal_value (flipped v p) p ≡ true
pivot_true v p = rw (eq-eqb p.variable p.variable refl) (own_sign p.positive)

-- of one variable and not its negation: the same sign
sign_kept : (p q : Bool) → cond (not p) q (not q) ≡ false → cond q p (not p) ≡ true
sign_kept true true h = refl
sign_kept true false h = cc
sign_kept false true h = cc
sign_kept false false h = refl

sign_of : (p l : Literal) → same_literal (negated p) l ≡ false → eqb l.variable p.variable ≡ true → cond (not p.positive) l.positive (not l.positive) ≡ false
sign_of p l other e = rw (eq-eqb p.variable l.variable (sym (eqb-true l.variable p.variable e))) at other

-- a true literal other than the negation of the pivot stays true
stays_true : (v : ℕ → Bool) (p l : Literal) → same_literal (negated p) l ≡ false → literal_value v l ≡ true → literal_value (flipped v p) l ≡ true
stays_true v p l other t =
    elim (cases_Bool (eqb l.variable p.variable)) [
      | inl e ↦ rw e (sign_kept p.positive l.positive (sign_of p l other e))
      | inr e ↦ rw e t
    ]

-- a clause with a true literal other than that is true
others_true : (v : ℕ → Bool) (p : Literal) (lits : List Literal) → clause_value v (others p lits) ≡ true → clause_value (flipped v p) lits ≡ true
others_true v p [] t = t
others_true v p (l ∷ ls) t =
    elim (cases_Bool (same_literal (negated p) l)) [
      | inl e ↦ or_right (literal_value (flipped v p) l) (clause_value (flipped v p) ls) (others_true v p ls (rw (ap not e) at t))
      | inr e ↦ elim (or_cases (literal_value v l) (clause_value v (others p ls)) (rw (ap not e) at t)) [
        | inl own ↦ ap (λ b. b || clause_value (flipped v p) ls) (stays_true v p l e own)
        | inr rest ↦ or_right (literal_value (flipped v p) l) (clause_value (flipped v p) ls) (others_true v p ls rest)
      ]
    ]

-- so is one that holds the pivot
holds_true : (w : ℕ → Bool) (p : Literal) (lits : List Literal) → literal_value w p ≡ true → among lits p ≡ true → clause_value w lits ≡ true
holds_true w p [] t h = cc
holds_true w p (l ∷ ls) t h =
    elim (or_cases (same_literal p l) (among ls p) h) [
      | inl e ↦ ap (λ b. b || clause_value w ls) (sym (value_of_same w p l e) ∙ t)
      | inr e ↦ or_right (literal_value w l) (clause_value w ls) (holds_true w p ls t e)
    ]

-- and a true one that doesn't hold its negation
all_others : (p : Literal) (lits : List Literal) → among lits (negated p) ≡ false → others p lits ≡ lits
all_others p [] h = refl
all_others p (l ∷ ls) h =
    let parts = or_parts (same_literal (negated p) l) (among ls (negated p)) h in
    rw (ap not parts.0) (ap (λ (xs : List Literal). l ∷ xs) (all_others p ls parts.1))

without_true : (v : ℕ → Bool) (p : Literal) (lits : List Literal) → among lits (negated p) ≡ false → clause_value v lits ≡ true → clause_value (flipped v p) lits ≡ true
without_true v p lits h t = others_true v p lits (ap (clause_value v) (all_others p lits h) ∙ t)

-- one of the literals is in a set of true ones
some_true : (v : ℕ → Bool) (kept lits : List Literal) → list_all (literal_value v) kept ≡ true → list_any (among kept) lits ≡ true → clause_value v lits ≡ true
some_true v kept [] k h = cc
some_true v kept (l ∷ ls) k h =
    elim (or_cases (among kept l) (list_any (among kept) ls) h) [
      | inl e ↦ ap (λ b. b || clause_value v ls) (value_of_among v kept l k e)
      | inr e ↦ or_right (literal_value v l) (clause_value v ls) (some_true v kept ls k e)
    ]

-- ---- groups

-- the clause of this id is true
abbrev Good : (ℕ → Bool) → List Numbered → ℕ → Type 0
Good w live id = (lits : List Literal) → clause_named id live ≡ Some lits → clause_value w lits ≡ true

abbrev AllGood : (ℕ → Bool) → List Numbered → List ℕ → Type 0
AllGood w live [] = Unit {0}
AllGood w live (id ∷ ids) = Good w live id × AllGood w live ids

-- the clauses of the groups are true; that of an open one is, or what is in its set is true under
-- the other assignment
abbrev Grouped : (ℕ → Bool) → (ℕ → Bool) → List Numbered → Option (List Literal) → List ℕ → Type 0
Grouped v w live None ids = AllGood w live ids
Grouped v w live (Some set) [] = ⊥
Grouped v w live (Some set) (id ∷ ids) = (Good w live id ⊎ (list_all (literal_value v) set ≡ true)) × AllGood w live ids

some_same : (a b : List Literal) → Some a ≡ Some b → a ≡ b
some_same a b h = cc

good_of : (w : ℕ → Bool) (live : List Numbered) (id : ℕ) (lits : List Literal) → clause_named id live ≡ Some lits → clause_value w lits ≡ true → Good w live id
good_of w live id lits is t other named = ap (clause_value w) (some_same other lits (sym named ∙ is)) ∙ t

-- a group opens
group_opens : (v : ℕ → Bool) (p : Literal) (live : List Numbered) (kept : List Literal) (ids : List ℕ) (id : ℕ) (lits : List Literal) → list_all (literal_value v) kept ≡ true
    → clause_named id live ≡ Some lits → AllGood (flipped v p) live ids → Grouped v (flipped v p) live (group_set p kept lits) (id ∷ ids)
group_opens v p live kept ids id lits k named good =
    elim (cases_Bool (among lits p || list_any (among kept) (others p lits))) [
      | inl e ↦ rw e (elim (or_cases (among lits p) (list_any (among kept) (others p lits)) e) [
        | inl holds ↦ (good_of (flipped v p) live id lits named (holds_true (flipped v p) p lits (pivot_true v p) holds), good)
        | inr some ↦ (good_of (flipped v p) live id lits named (others_true v p lits (some_true v kept (others p lits) k some)), good)
      ])
      | inr e ↦ rw e (elim (cases_Bool (clause_value v (others p lits))) [
        | inl t ↦ (inl (good_of (flipped v p) live id lits named (others_true v p lits t)), good)
        | inr f ↦ (inr (list_all-append (literal_value v) (map negated (others p lits)) kept ∙ and_from (list_all (literal_value v) (map negated (others p lits))) (list_all (literal_value v) kept) (negations_true v (others p lits) f) k), good)
      ])
    ]

-- a hint is looked at in an open group whose set is true
in_group_goes : (v w : ℕ → Bool) (live : List Numbered) (set : List Literal) (id : ℕ) (ids : List ℕ) (r : Reading) (position : ℕ) (goes_on : Option (List Literal) → Judgement)
    → Agrees v r → list_all (literal_value v) set ≡ true → AllGood w live ids → in_group r set (FailsAt position) goes_on ≡ Accepted
    → (now : Option (List Literal)) × Grouped v w live now (id ∷ ids) × (goes_on now ≡ Accepted)
in_group_goes v w live set id ids Falsified position goes_on agrees true_set good a = absurd agrees
in_group_goes v w live set id ids (Forced l) position goes_on agrees true_set good a =
    (Some (l ∷ set), (inr (and_from (literal_value v l) (list_all (literal_value v) set) agrees true_set), good), a)
in_group_goes v w live set id ids Useless position goes_on agrees true_set good a = cc

-- and in one whose clause is true already
in_group_good : (v w : ℕ → Bool) (live : List Numbered) (set : List Literal) (id : ℕ) (ids : List ℕ) (r : Reading) (position : ℕ) (goes_on : Option (List Literal) → Judgement)
    → Good w live id → AllGood w live ids → in_group r set (FailsAt position) goes_on ≡ Accepted
    → (now : Option (List Literal)) × Grouped v w live now (id ∷ ids) × (goes_on now ≡ Accepted)
in_group_good v w live set id ids Falsified position goes_on own good a = (None, (own, good), a)
in_group_good v w live set id ids (Forced l) position goes_on own good a = (Some (l ∷ set), (inl own, good), a)
in_group_good v w live set id ids Useless position goes_on own good a = cc

hint_goes : (v w : ℕ → Bool) (live : List Numbered) (group : Option (List Literal)) (ids : List ℕ) (id position : ℕ) (goes_on : Option (List Literal) → Judgement) → IsModel v (clauses_of live)
    → Grouped v w live group ids → propagated live group id (FailsAt position) goes_on ≡ Accepted → (now : Option (List Literal)) × Grouped v w live now ids × (goes_on now ≡ Accepted)
hint_goes v w live None ids id position goes_on m g a = (None, g, a)
hint_goes v w live (Some set) [] id position goes_on m g a = absurd g
hint_goes v w live (Some set) (own ∷ ids) id position goes_on m (inl good, rest) a = in_group_good v w live set own ids (hint_reading set (clause_named id live)) position goes_on good rest a
hint_goes v w live (Some set) (own ∷ ids) id position goes_on m (inr true_set, rest) a =
    in_group_goes v w live set own ids (hint_reading set (clause_named id live)) position goes_on (hint_agrees v set live id true_set m) true_set rest a

-- ---- all clauses are true in the end

-- each of these is the clause of its id
abbrev pub AreNamed : List Numbered → List Numbered → Type 0
AreNamed live [] = Unit {0}
AreNamed live (c ∷ cs) = (clause_named c.id live ≡ Some c.lits) × AreNamed live cs

differ : (a b : ℕ) → a + 1 ≤ b → eqb a b ≡ false
differ a b less =
    elim (cases_Bool (eqb a b)) [
      | inl e ↦ absurd (omega (arith, eqb-true a b e))
      | inr e ↦ e
    ]

named_behind : (first : Numbered) (live cs : List Numbered) (low : ℕ) → first.id + 1 ≤ low → Rises low (map (λ c. c.id) cs) → AreNamed live cs → AreNamed (first ∷ live) cs
named_behind first live [] low above rises h = tt
named_behind first live (c ∷ cs) low above rises h = (
  rw (differ first.id c.id (omega (arith, above, rises.0))) h.0,
  named_behind first live cs (c.id + 1) (omega (arith, above, rises.0)) rises.1 h.1,
)

pub all_named : (live : List Numbered) (low : ℕ) → Rises low (map (λ c. c.id) live) → AreNamed live live
all_named [] low rises = tt
all_named (c ∷ cs) low rises = (
  rw (eq-eqb c.id c.id refl) refl,
  named_behind c cs cs (c.id + 1) (omega arith) rises.1 (all_named cs (c.id + 1) rises.1),
)

good_among : (w : ℕ → Bool) (live : List Numbered) (ids : List ℕ) (id : ℕ) → AllGood w live ids → list_any (λ g. eqb g id) ids ≡ true → Good w live id
good_among w live [] id good h = cc
good_among w live (g ∷ ids) id good h =
    elim (or_cases (eqb g id) (list_any (λ g. eqb g id) ids) h) [
      | inl e ↦ subst (λ (n : ℕ). Good w live n) (eqb-true g id e) good.0
      | inr e ↦ good_among w live ids id good.1 e
    ]

clause_true : (v : ℕ → Bool) (p : Literal) (live : List Numbered) (ids : List ℕ) (c : Numbered) → clause_named c.id live ≡ Some c.lits → AllGood (flipped v p) live ids
    → (not (needs_group p c.lits) || list_any (λ id. eqb id c.id) ids) ≡ true → clause_value v c.lits ≡ true → clause_value (flipped v p) c.lits ≡ true
clause_true v p live ids c named good has t =
    elim (cases_Bool (among c.lits p)) [
      | inl holds ↦ holds_true (flipped v p) p c.lits (pivot_true v p) holds
      | inr lacks ↦ elim (cases_Bool (among c.lits (negated p))) [
        | inr free ↦ without_true v p c.lits free t
        | inl needs ↦ elim (or_cases (not (needs_group p c.lits)) (list_any (λ id. eqb id c.id) ids) has) [
          | inl spared ↦ absurd (let k : not (true && not false) ≡ true = rw (needs, lacks) at spared in cc)
          | inr some ↦ good_among (flipped v p) live ids c.id good some c.lits named
        ]
      ]
    ]

all_true : (v : ℕ → Bool) (p : Literal) (live cs : List Numbered) (ids : List ℕ) → AreNamed live cs → AllGood (flipped v p) live ids → all_grouped p ids cs ≡ true
    → IsModel v (clauses_of cs) → IsModel (flipped v p) (clauses_of cs)
all_true v p live [] ids named good g m = refl
all_true v p live (c ∷ cs) ids named good g m =
    let parts = and_parts (clause_value v c.lits) (list_all (clause_value v) (clauses_of cs)) m in
    let each = and_parts (not (needs_group p c.lits) || list_any (λ id. eqb id c.id) ids) (all_grouped p ids cs) g in
    and_from (clause_value (flipped v p) c.lits) (list_all (clause_value (flipped v p)) (clauses_of cs))
    (clause_true v p live ids c named.0 good each.0 parts.0)
    (all_true v p live cs ids named.1 good each.1 parts.1)

ends_true : (v : ℕ → Bool) (p : Literal) (live : List Numbered) (group : Option (List Literal)) (ids : List ℕ) → AreNamed live live → IsModel v (clauses_of live) → Grouped v (flipped v p) live group ids
    → grouped p group ids live ≡ Accepted → IsModel (flipped v p) (clauses_of live)
ends_true v p live (Some set) ids named m g a = cc
ends_true v p live None ids named m g a =
    elim (cases_Bool (all_grouped p ids live)) [
      | inl e ↦ all_true v p live live ids named g e m
      | inr e ↦ absurd (let k : LeftOpen ≡ Accepted = rw e at a in cc)
    ]

opens_good : (v : ℕ → Bool) (p : Literal) (live : List Numbered) (kept : List Literal) (group : Option (List Literal)) (ids : List ℕ) (id : ℕ) (named : Option (List Literal)) (position : ℕ) (goes_on : List Literal → Judgement)
    → list_all (literal_value v) kept ≡ true → Grouped v (flipped v p) live group ids → named ≡ clause_named id live → opened p group named (RatAt position) goes_on ≡ Accepted
    → (lits : List Literal) × Grouped v (flipped v p) live (group_set p kept lits) (id ∷ ids) × (goes_on lits ≡ Accepted)
opens_good v p live kept (Some set) ids id named position goes_on k g is a = cc
opens_good v p live kept None ids id None position goes_on k g is a = cc
opens_good v p live kept None ids id (Some lits) position goes_on k g is a =
    elim (cases_Bool (among lits (negated p))) [
      | inl e ↦ (lits, group_opens v p live kept ids id lits k (sym is) g, rw e at a)
      | inr e ↦ absurd (let f : RatAt position ≡ Accepted = rw e at a in cc)
    ]

groups_true : (v : ℕ → Bool) (p : Literal) (live : List Numbered) (kept : List Literal) (group : Option (List Literal)) (ids : List ℕ) (hints : List ℤ) (position : ℕ) → AreNamed live live → IsModel v (clauses_of live)
    → list_all (literal_value v) kept ≡ true → Grouped v (flipped v p) live group ids → judged_groups live p kept group ids hints position ≡ Accepted → IsModel (flipped v p) (clauses_of live)
groups_true v p live kept group ids [] position named m k g a = ends_true v p live group ids named m g a
groups_true v p live kept group ids (negsuc n ∷ hints) position named m k g a =
    let next = opens_good v p live kept group ids (n + 1) (clause_named (n + 1) live) position (λ lits. judged_groups live p kept (group_set p kept lits) ((n + 1) ∷ ids) hints (position + 1)) k g refl a in
    groups_true v p live kept (group_set p kept next.0) ((n + 1) ∷ ids) hints (position + 1) named m k next.1 next.2
groups_true v p live kept group ids (pos id ∷ hints) position named m k g a =
    let next = hint_goes v (flipped v p) live group ids id position (λ now. judged_groups live p kept now ids hints (position + 1)) m g a in
    groups_true v p live kept next.0 ids hints (position + 1) named m k next.1 next.2

-- ---- the whole line

-- a model of the live clauses and of the clause
abbrev HasModel : List Numbered → List Literal → Type 0
HasModel live lits = (w : ℕ → Bool) × IsModel w (clauses_of live) × (clause_value w lits ≡ true)

rat_model : (v : ℕ → Bool) (live : List Numbered) (lits set : List Literal) (hints : List ℤ) (position : ℕ) → AreNamed live live → IsModel v (clauses_of live) → list_all (literal_value v) set ≡ true
    → judged_rat live lits set hints position ≡ Accepted → HasModel live lits
rat_model v live [] set [] position named m h a = cc
rat_model v live [] set (hint ∷ hints) position named m h a = cc
rat_model v live (p ∷ lits) set hints position named m h a = (
  flipped v p,
  groups_true v p live set None [] hints position named m h tt a,
  ap (λ b. b || clause_value (flipped v p) lits) (pivot_true v p),
)

by_first : (v : ℕ → Bool) (live : List Numbered) (lits : List Literal) (r : Reading) (position : ℕ) (goes_on : Literal → Judgement) → Agrees v r → ((l : Literal) → literal_value v l ≡ true → goes_on l ≡ Accepted → HasModel live lits)
    → judged_by r (FailsAt position) goes_on ≡ Accepted → HasModel live lits
by_first v live lits Falsified position goes_on agrees again a = absurd agrees
by_first v live lits (Forced l) position goes_on agrees again a = again l agrees a
by_first v live lits Useless position goes_on agrees again a = cc

along_model : (v : ℕ → Bool) (live : List Numbered) (lits : List Literal) (hints : List ℤ) (position : ℕ) (set : List Literal) → AreNamed live live → IsModel v (clauses_of live) → list_all (literal_value v) set ≡ true
    → judged_along live lits hints position set ≡ Accepted → HasModel live lits
along_model v live lits [] position set named m h a = rat_model v live lits set [] position named m h a
along_model v live lits (negsuc n ∷ hints) position set named m h a = rat_model v live lits set (negsuc n ∷ hints) position named m h a
along_model v live lits (pos id ∷ hints) position set named m h a =
    by_first v live lits (hint_reading set (clause_named id live)) position (λ l. judged_along live lits hints (position + 1) (l ∷ set)) (hint_agrees v set live id h m)
    (λ l t. along_model v live lits hints (position + 1) (l ∷ set) named m (and_from (literal_value v l) (list_all (literal_value v) set) t h)) a

model_of_both : (w : ℕ → Bool) (live : List Numbered) (lits : List Literal) → IsModel w (clauses_of live) → clause_value w lits ≡ true → IsModel w (clauses_of live ++ lits ∷ [])
model_of_both w live lits m t =
    list_all-append (clause_value w) (clauses_of live) (lits ∷ []) ∙ and_from (list_all (clause_value w) (clauses_of live)) (clause_value w lits && true) m (and_from (clause_value w lits) true t refl)

pub rat_keeps_models : RatKeepsModels
rat_keeps_models live lits hints rises rat v m =
    elim (cases_Bool (clause_value v lits)) [
      | inl t ↦ (v, model_of_both v live lits m t)
      | inr f ↦
          let found = along_model v live lits hints 1 (map negated lits) (all_named live 0 rises) m (negations_true v lits f) rat in
          (found.0, model_of_both found.0 live lits found.1 found.2)
    ]

-- ---- positive hints alone

by_both : (r : Reading) (position : ℕ) (goes_on on : Literal → Judgement) → ((l : Literal) → goes_on l ≡ Accepted → on l ≡ Accepted) → judged_by r (FailsAt position) goes_on ≡ Accepted → judged_by r (FailsAt position) on ≡ Accepted
by_both Falsified position goes_on on same a = refl
by_both (Forced l) position goes_on on same a = same l a
by_both Useless position goes_on on same a = cc

rup_along : (live : List Numbered) (lits : List Literal) (hints : List ℤ) (position : ℕ) (set : List Literal) → judged_from live hints position set ≡ Accepted → judged_along live lits hints position set ≡ Accepted
rup_along live lits [] position set a = cc
rup_along live lits (negsuc n ∷ hints) position set a = cc
rup_along live lits (pos id ∷ hints) position set a =
    by_both (hint_reading set (clause_named id live)) position (λ l. judged_from live hints (position + 1) (l ∷ set)) (λ l. judged_along live lits hints (position + 1) (l ∷ set))
    (λ l k. rup_along live lits hints (position + 1) (l ∷ set) k) a

pub rup_is_rat : RupIsRat
rup_is_rat live lits hints a = rup_along live lits hints 1 (map negated lits) a
