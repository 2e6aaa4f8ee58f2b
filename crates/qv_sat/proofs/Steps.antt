-- Derivations that go on, and over bases that grow.
use Rattle.std.proofs.Common.{◌≡◌, ℕ, ◌+◌, ◌≤◌, ℤ, pos, negsuc, Bool, true, false, not, ◌||◌, List, [], ◌∷◌, ◌++◌, filter, map, Option, eqb, ltb, refl, sym, ◌∙◌, ap, subst, arith}
use Rattle.std.specs.List.{list_all, list_any, AllByRecursion}
use Rattle.std.proofs.lemmas.Bool.{le-ltb, ne_eqb, or_from, and_from}
use Rattle.std.proofs.lemmas.List.Elements.{filter-append}
use Rattle.std.proofs.lemmas.List.Folds.{list_any-append}
use Rattle.qv_cnf.specs.Derivation.{Deriving, DerivesFrom, MayStep, after_step, has_id, is_within, live_at, no_steps, one_fewer, spares_hint, spares_literal, IsDerivation}
use Rattle.qv_cnf.specs.Listing.{Numbered, clause_named, clauses_of}
use Rattle.qv_cnf.specs.Literal.{Literal, negated}
use Rattle.qv_cnf.specs.LratLine.{LratLine, Addition, Deletion}
use Rattle.qv_cnf.specs.Refutation.{Judgement, FailsAt, accepts, hint_reading, judged_by, judged_clause, judged_from, IsRup}
use Rattle.qv_cnf.specs.declared.readings.Reading.{Reading}
use Rattle.qv_cnf.specs.declared.readings.Reading.TheVariants.{Falsified, Forced, Useless}
use Rattle.qv_cnf.specs.Truth.{IsModel, clause_value}
use Rattle.qv_cnf.proofs.Soundness.{clause_value-rup, IsModel-filter}
use Rattle.qv_sat.specs.CoreState.{after_steps, live_after, names_live, HintsName, EachHinted}
use Rattle.qv_sat.proofs.Naming.{append_nil, model_from}

pub after_steps-push : (d : Deriving) (steps : List LratLine) (s : LratLine) → after_steps d (steps ++ s ∷ []) ≡ after_step (after_steps d steps) s
after_steps-push d [] s = refl
after_steps-push d (x ∷ xs) s = after_steps-push (after_step d x) xs s

pub DerivesFrom-push : (base : List Numbered) (d : Deriving) (steps : List LratLine) (s : LratLine) → DerivesFrom base steps d → MayStep base (after_steps d steps) s → DerivesFrom base (steps ++ s ∷ []) d
DerivesFrom-push base d [] s h may = (may, tt)
DerivesFrom-push base d (x ∷ xs) s h may = (h.0, DerivesFrom-push base (after_step d x) xs s h.1 may)

pub EachHinted-push : (base : List Numbered) (d : Deriving) (steps : List LratLine) (s : LratLine) → EachHinted base steps d → HintsName base (after_steps d steps) s → EachHinted base (steps ++ s ∷ []) d
EachHinted-push base d [] s h hints = (hints, tt)
EachHinted-push base d (x ∷ xs) s h hints = (h.0, EachHinted-push base (after_step d x) xs s h.1 hints)

-- the least id that may come never falls
next_step : (base : List Numbered) (d : Deriving) (s : LratLine) → MayStep base d s → d.next ≤ (after_step d s).next
next_step base d (Addition id lits hints) may = let r = may.rises in omega arith
next_step base d (Deletion id ids) may = omega arith

pub next_steps : (base : List Numbered) (d : Deriving) (steps : List LratLine) → DerivesFrom base steps d → d.next ≤ (after_steps d steps).next
next_steps base d [] h = omega arith
next_steps base d (x ∷ xs) h = let a = next_step base d x h.0 in let b = next_steps base (after_step d x) xs h.1 in omega arith

-- what is live where an addition comes stays, where the base grows by a greater id
live_at-base : (base : List Numbered) (c : Numbered) (d : Deriving) (id : ℕ) → id ≤ c.id → live_at (base ++ c ∷ []) d id ≡ live_at base d id
live_at-base base c d id h =
    ap (λ (xs : List Numbered). xs ++ d.added) (filter-append (λ (x : Numbered). ltb x.id id) base (c ∷ []) ∙ rw (le-ltb c.id id h) (append_nil (filter (λ (x : Numbered). ltb x.id id) base)))

step-base : (base : List Numbered) (c : Numbered) (d : Deriving) (s : LratLine) → MayStep base d s → (after_step d s).next ≤ c.id → MayStep (base ++ c ∷ []) d s
step-base base c d (Addition id lits hints) may above =
    let same = live_at-base base c d id (omega arith) in
    record {
      rises = may.rises;
      fresh = list_any-append (λ (x : Numbered). eqb x.id id) base (c ∷ []) ∙ or_from (has_id base id) (eqb c.id id || false) may.fresh (or_from (eqb c.id id) false (ne_eqb c.id id (omega arith)) refl);
      follows = subst (λ (live : List Numbered). IsRup live lits hints) (sym same) may.follows;
      literals_needed = subst (λ (live : List Numbered). spares_literal live lits hints ≡ false) (sym same) may.literals_needed;
      hints_needed = subst (λ (live : List Numbered). spares_hint live lits hints ≡ false) (sym same) may.hints_needed;
      not_opposite = may.not_opposite;
      not_contained = subst (λ (live : List Numbered). list_any (λ x. is_within x.lits lits) live ≡ false) (sym same) may.not_contained;
    }
step-base base c d (Deletion id ids) may above = may

pub DerivesFrom-base : (base : List Numbered) (c : Numbered) (d : Deriving) (steps : List LratLine) → DerivesFrom base steps d → (after_steps d steps).next ≤ c.id → DerivesFrom (base ++ c ∷ []) steps d
DerivesFrom-base base c d [] h above = tt
DerivesFrom-base base c d (x ∷ xs) h above =
    let grows = next_steps base (after_step d x) xs h.1 in
    (step-base base c d x h.0 (omega arith), DerivesFrom-base base c (after_step d x) xs h.1 above)

hints-base : (base : List Numbered) (c : Numbered) (d : Deriving) (s : LratLine) → HintsName base d s → (after_step d s).next ≤ c.id → HintsName (base ++ c ∷ []) d s
hints-base base c d (Addition id lits hints) h above = subst (λ (live : List Numbered). list_all (names_live live) hints ≡ true) (sym (live_at-base base c d id (omega arith))) h
hints-base base c d (Deletion id ids) h above = tt

pub EachHinted-base : (base : List Numbered) (c : Numbered) (d : Deriving) (steps : List LratLine) → EachHinted base steps d → DerivesFrom base steps d → (after_steps d steps).next ≤ c.id → EachHinted (base ++ c ∷ []) steps d
EachHinted-base base c d [] h derives above = tt
EachHinted-base base c d (x ∷ xs) h derives above =
    let grows = next_steps base (after_step d x) xs derives.1 in
    (hints-base base c d x h.0 (omega arith), EachHinted-base base c (after_step d x) xs h.1 derives.1 above)

-- a clause is judged by what its hints name
by_reading : (r : Reading) (fails : Judgement) (f g : Literal → Judgement) → ((l : Literal) → f l ≡ g l) → judged_by r fails f ≡ judged_by r fails g
by_reading Falsified fails f g h = refl
by_reading (Forced l) fails f g h = h l
by_reading Useless fails f g h = refl

abbrev pub NamesSame : List Numbered → List Numbered → ℤ → Type 0
NamesSame a b (pos id) = clause_named id a ≡ clause_named id b
NamesSame a b (negsuc n) = Unit {0}

pub each_same : (a b : List Numbered) → ((id : ℕ) → clause_named id a ≡ clause_named id b) → (hints : List ℤ) → AllByRecursion (NamesSame a b) hints
each_same a b same [] = tt
each_same a b same (pos id ∷ hints) = (same id, each_same a b same hints)
each_same a b same (negsuc n ∷ hints) = (tt, each_same a b same hints)

pub judged_named : (a b : List Numbered) (hints : List ℤ) → AllByRecursion (NamesSame a b) hints → (position : ℕ) (set : List Literal) → judged_from a hints position set ≡ judged_from b hints position set
judged_named a b [] same position set = refl
judged_named a b (negsuc n ∷ hints) same position set = refl
judged_named a b (pos id ∷ hints) same position set =
    ap (λ (o : Option (List Literal)). judged_by (hint_reading set o) (FailsAt position) (λ l. judged_from a hints (position + 1) (l ∷ set))) same.0
    ∙ by_reading (hint_reading set (clause_named id b)) (FailsAt position) (λ l. judged_from a hints (position + 1) (l ∷ set)) (λ l. judged_from b hints (position + 1) (l ∷ set)) (λ l. judged_named a b hints same.1 (position + 1) (l ∷ set))

any_same : {X : Type 0} (f g : X → Bool) (xs : List X) → AllByRecursion (λ x. f x ≡ g x) xs → list_any f xs ≡ list_any g xs
any_same f g [] h = refl
any_same f g (x ∷ xs) h = ap (λ (b : Bool). b || list_any f xs) h.0 ∙ ap (λ (b : Bool). g x || b) (any_same f g xs h.1)

each_of : {X : Type 0} (P : X → Type 0) (xs : List X) → ((x : X) → P x) → AllByRecursion P xs
each_of P [] h = tt
each_of P (x ∷ xs) h = (h x, each_of P xs h)

each_weaker : {X : Type 0} (P Q : X → Type 0) (xs : List X) → ((x : X) → P x → Q x) → AllByRecursion P xs → AllByRecursion Q xs
each_weaker P Q [] f h = tt
each_weaker P Q (x ∷ xs) f h = (f x h.0, each_weaker P Q xs f h.1)

-- what holds of each element holds of each in a list that has one fewer
with_first : {X : Type 0} (P : X → Type 0) (x : X) (lists : List (List X)) → P x → AllByRecursion (AllByRecursion P) lists → AllByRecursion (AllByRecursion P) (map (λ fewer. x ∷ fewer) lists)
with_first P x [] own h = tt
with_first P x (ys ∷ lists) own h = ((own, h.0), with_first P x lists own h.1)

each_fewer : {X : Type 0} (P : X → Type 0) (xs : List X) → AllByRecursion P xs → AllByRecursion (AllByRecursion P) (one_fewer xs)
each_fewer P [] h = tt
each_fewer P (x ∷ xs) h = (h.1, with_first P x (one_fewer xs) h.0 (each_fewer P xs h.1))

-- and so is what it can do without
pub spares_literal-named : (a b : List Numbered) (lits : List Literal) (hints : List ℤ) → AllByRecursion (NamesSame a b) hints → spares_literal a lits hints ≡ spares_literal b lits hints
spares_literal-named a b lits hints same =
    let f : List Literal → Bool = λ fewer. accepts (judged_clause a fewer hints) in
    let g : List Literal → Bool = λ fewer. accepts (judged_clause b fewer hints) in
    any_same f g (one_fewer lits) (each_of (λ fewer. f fewer ≡ g fewer) (one_fewer lits) (λ fewer. ap accepts (judged_named a b hints same 1 (map negated fewer))))

pub spares_hint-named : (a b : List Numbered) (lits : List Literal) (hints : List ℤ) → AllByRecursion (NamesSame a b) hints → spares_hint a lits hints ≡ spares_hint b lits hints
spares_hint-named a b lits hints same =
    let f : List ℤ → Bool = λ fewer. accepts (judged_clause a lits fewer) in
    let g : List ℤ → Bool = λ fewer. accepts (judged_clause b lits fewer) in
    any_same f g (one_fewer hints) (each_weaker (AllByRecursion (NamesSame a b)) (λ fewer. f fewer ≡ g fewer) (one_fewer hints) (λ fewer each. ap accepts (judged_named a b fewer each 1 (map negated lits))) (each_fewer (NamesSame a b) hints same))

-- a model of the base makes the additions true
pub model_step : (v : ℕ → Bool) (base : List Numbered) (d : Deriving) (s : LratLine) → MayStep base d s → IsModel v (clauses_of base) → IsModel v (clauses_of d.added) → IsModel v (clauses_of (after_step d s).added)
model_step v base d (Addition id lits hints) may mb ma =
    let live : IsModel v (clauses_of (live_at base d id)) = model_from v (filter (λ (c : Numbered). ltb c.id id) base) d.added (IsModel-filter v (λ (c : Numbered). ltb c.id id) base mb) ma in
    let own : clause_value v lits ≡ true = clause_value-rup v (live_at base d id) lits hints may.follows live in
    model_from v d.added (record { id = id; lits = lits } ∷ []) ma (and_from (clause_value v lits) true own refl)
model_step v base d (Deletion id ids) may mb ma = IsModel-filter v (λ (c : Numbered). not (list_any (λ n. eqb c.id n) ids)) d.added ma

pub model_steps : (v : ℕ → Bool) (base : List Numbered) (d : Deriving) (steps : List LratLine) → DerivesFrom base steps d → IsModel v (clauses_of base) → IsModel v (clauses_of d.added) → IsModel v (clauses_of (after_steps d steps).added)
model_steps v base d [] h mb ma = ma
model_steps v base d (x ∷ xs) h mb ma = model_steps v base (after_step d x) xs h.1 mb (model_step v base d x h.0 mb ma)

pub model_live : (v : ℕ → Bool) (base : List Numbered) (steps : List LratLine) → IsDerivation base steps → IsModel v (clauses_of base) → IsModel v (clauses_of (live_after base steps))
model_live v base steps h m = model_from v base (after_steps no_steps steps).added m (model_steps v base no_steps steps h m refl)
