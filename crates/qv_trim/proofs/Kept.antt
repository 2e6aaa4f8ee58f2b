-- What is kept of a refutation refutes the same clauses, and there is one way to keep it.
use Rattle.std.proofs.Common.{◌≡◌, ◌≢◌, ℕ, suc, ◌+◌, ◌≤◌, ◌⊎◌, Bool, true, false, not, cond, ◌&&◌, ◌||◌, List, [], ◌∷◌, ◌++◌, map, ℤ, pos, negsuc, Option, Some, None, refl, sym, ◌∙◌, ap, subst, inl, inr, eqb, add-one, arith}
use Rattle.std.specs.Prelude.{unsigned_abs, Contains}
use Rattle.std.specs.List.{list_any, list_all}
use Rattle.std.proofs.lemmas.Bool.{and_from, and_parts, cases_Bool, eqb-true, ne_eqb, le-ltb}
use Rattle.std.proofs.lemmas.List.Folds.{list_all-append}
use Rattle.qv_cnf.specs.Literal.{Literal, negated}
use Rattle.qv_cnf.specs.Listing.{Numbered, clause_named, without}
use Rattle.qv_cnf.specs.LratLine.{LratLine, Addition, Deletion}
use Rattle.qv_cnf.specs.Refutation.{Standing, Judgement, Accepted, RatAt, FailsAt, LeftOpen, among, hint_reading, judged_by, judged_line, after_line, accepts, refutes_from, standing_at}
use Rattle.qv_cnf.specs.Rat.{needs_group, group_set, opened, in_group, propagated, all_grouped, grouped, judged_groups, judged_rat, judged_along, IsRat}
use Rattle.qv_cnf.specs.declared.readings.Reading.{Reading}
use Rattle.qv_cnf.specs.declared.readings.Reading.TheVariants.{Falsified, Forced, Useless}
use Rattle.qv_cnf.proofs.Ordered.{next-from_accepted}
use Rattle.qv_cnf.proofs.Refuted.{rat_from_accepted}
use Rattle.qv_cnf.proofs.Soundness.{Accepted-from_accepts}
use Rattle.qv_trim.specs.Needed.{up_to_empty, IsNeeded, empty, named, KeepsNeeded, nothing, keeps, drops, deletes}
use Rattle.qv_trim.specs.TrimLaws.{KeptLinesRefute, TrimmedAreOne}

-- ---- the clause of an id, after each change

abbrev behind : Option (List Literal) → Option (List Literal) → Option (List Literal)
behind None other = other
behind (Some lits) other = Some lits

named-append : (id : ℕ) (live : List Numbered) (c : Numbered) → clause_named id (live ++ c ∷ []) ≡ behind (clause_named id live) (clause_named id (c ∷ []))
named-append id [] c = refl
named-append id (x ∷ xs) c =
    elim (cases_Bool (eqb x.id id)) [
      | inl e ↦ rw e refl
      | inr e ↦ rw e (named-append id xs c)
    ]

named-push : (id : ℕ) (live live' : List Numbered) (c : Numbered) → clause_named id live ≡ clause_named id live' → clause_named id (live ++ c ∷ []) ≡ clause_named id (live' ++ c ∷ [])
named-push id live live' c e =
    named-append id live c ∙ (ap (λ (o : Option (List Literal)). behind o (clause_named id (c ∷ []))) e ∙ sym (named-append id live' c))

behind-none : (o : Option (List Literal)) → behind o None ≡ o
behind-none None = refl
behind-none (Some lits) = refl

named-push_other : (id : ℕ) (live : List Numbered) (c : Numbered) → c.id ≢ id → clause_named id (live ++ c ∷ []) ≡ clause_named id live
named-push_other id live c other =
    let none : clause_named id (c ∷ []) ≡ None = rw (ne_eqb c.id id other) refl in
    named-append id live c ∙ (ap (λ (o : Option (List Literal)). behind (clause_named id live) o) none ∙ behind-none (clause_named id live))

abbrev among_ids : List ℕ → ℕ → Bool
among_ids ids id = list_any (λ other. eqb id other) ids

named-without : (id : ℕ) (ids : List ℕ) (live : List Numbered) → clause_named id (without ids live) ≡ cond (among_ids ids id) None (clause_named id live)
named-without id ids [] = elim (cases_Bool (among_ids ids id)) [
  | inl e ↦ rw e refl
  | inr e ↦ rw e refl
]
named-without id ids (x ∷ xs) =
    elim (cases_Bool (eqb x.id id)) [
      | inl e ↦
          let same : x.id ≡ id = eqb-true x.id id e in
          elim (cases_Bool (among_ids ids id)) [
            | inl gone ↦
                let own : among_ids ids x.id ≡ true = ap (among_ids ids) same ∙ gone in
                rw (own, gone) (named-without id ids xs ∙ rw gone refl)
            | inr stays ↦
                let own : among_ids ids x.id ≡ false = ap (among_ids ids) same ∙ stays in
                rw (own, stays, e) refl
          ]
      | inr e ↦ elim (cases_Bool (among_ids ids x.id)) [
        | inl gone ↦ rw (gone, e) (named-without id ids xs)
        | inr stays ↦ rw (stays, e) (named-without id ids xs)
      ]
    ]

-- ---- what all clauses have, after each change

all-without : (p : Numbered → Bool) (ids : List ℕ) (live : List Numbered) → list_all p (without ids live) ≡ list_all (λ c. among_ids ids c.id || p c) live
all-without p ids [] = refl
all-without p ids (x ∷ xs) =
    elim (cases_Bool (among_ids ids x.id)) [
      | inl e ↦ rw e (all-without p ids xs)
      | inr e ↦ rw e (ap (λ b. p x && b) (all-without p ids xs))
    ]

abbrev HasFewer : (more fewer : List Numbered) → Type 0
HasFewer more fewer = (p : Numbered → Bool) → list_all p more ≡ true → list_all p fewer ≡ true

fewer-push : (more fewer : List Numbered) (c : Numbered) → HasFewer more fewer → HasFewer (more ++ c ∷ []) (fewer ++ c ∷ [])
fewer-push more fewer c h p e =
    let parts = and_parts (list_all p more) (list_all p (c ∷ [])) (sym (list_all-append p more (c ∷ [])) ∙ e) in
    list_all-append p fewer (c ∷ []) ∙ and_from (list_all p fewer) (list_all p (c ∷ [])) (h p parts.0) parts.1

fewer-push_one : (more fewer : List Numbered) (c : Numbered) → HasFewer more fewer → HasFewer (more ++ c ∷ []) fewer
fewer-push_one more fewer c h p e =
    let parts = and_parts (list_all p more) (list_all p (c ∷ [])) (sym (list_all-append p more (c ∷ [])) ∙ e) in
    h p parts.0

fewer-without : (ids : List ℕ) (more fewer : List Numbered) → HasFewer more fewer → HasFewer (without ids more) (without ids fewer)
fewer-without ids more fewer h p e =
    all-without p ids fewer ∙ h (λ c. among_ids ids c.id || p c) (sym (all-without p ids more) ∙ e)

-- ---- a clause that is accepted stays so where the clauses that its hints name are the same, and the others are fewer

abbrev Agree : (more fewer : List Numbered) → List ℤ → Type 0
Agree more fewer [] = Unit {0}
Agree more fewer (pos id ∷ hints) = (clause_named id fewer ≡ clause_named id more) × Agree more fewer hints
Agree more fewer (negsuc n ∷ hints) = (clause_named (n + 1) fewer ≡ clause_named (n + 1) more) × Agree more fewer hints

opened-on : (pivot : Literal) (group found : Option (List Literal)) (fails : Judgement) (f g : List Literal → Judgement) → ((lits : List Literal) → f lits ≡ Accepted → g lits ≡ Accepted)
    → opened pivot group found fails f ≡ Accepted → opened pivot group found fails g ≡ Accepted
opened-on pivot (Some set) found fails f g on h = h
opened-on pivot None None fails f g on h = h
opened-on pivot None (Some lits) fails f g on h =
    elim (cases_Bool (among lits (negated pivot))) [
      | inl e ↦ rw e (on lits (rw e at h))
      | inr e ↦ rw e (rw e at h)
    ]

in_group-on : (r : Reading) (set : List Literal) (fails : Judgement) (f g : Option (List Literal) → Judgement) → ((now : Option (List Literal)) → f now ≡ Accepted → g now ≡ Accepted)
    → in_group r set fails f ≡ Accepted → in_group r set fails g ≡ Accepted
in_group-on Falsified set fails f g on h = on None h
in_group-on (Forced l) set fails f g on h = on (Some (l ∷ set)) h
in_group-on Useless set fails f g on h = h

by-on : (r : Reading) (fails : Judgement) (f g : Literal → Judgement) → ((l : Literal) → f l ≡ Accepted → g l ≡ Accepted) → judged_by r fails f ≡ Accepted → judged_by r fails g ≡ Accepted
by-on Falsified fails f g on h = h
by-on (Forced l) fails f g on h = on l h
by-on Useless fails f g on h = h

propagated-on : (more fewer : List Numbered) (group : Option (List Literal)) (id : ℕ) (fails : Judgement) (f g : Option (List Literal) → Judgement) → clause_named id fewer ≡ clause_named id more
    → ((now : Option (List Literal)) → f now ≡ Accepted → g now ≡ Accepted) → propagated more group id fails f ≡ Accepted → propagated fewer group id fails g ≡ Accepted
propagated-on more fewer None id fails f g same on h = on None h
propagated-on more fewer (Some set) id fails f g same on h =
    rw same (in_group-on (hint_reading set (clause_named id more)) set fails f g on h)

module _ (more fewer : List Numbered) (has : HasFewer more fewer) where
  grouped-on : (pivot : Literal) (group : Option (List Literal)) (groups : List ℕ) → grouped pivot group groups more ≡ Accepted → grouped pivot group groups fewer ≡ Accepted
  grouped-on pivot (Some set) groups h = h
  grouped-on pivot None groups h =
      elim (cases_Bool (all_grouped pivot groups more)) [
        | inl e ↦ rw (has (λ c. not (needs_group pivot c.lits) || list_any (λ id. eqb id c.id) groups) e) refl
        | inr e ↦ absurd (let no : LeftOpen ≡ Accepted = rw e at h in cc)
      ]

  groups-on : (pivot : Literal) (kept : List Literal) (group : Option (List Literal)) (groups : List ℕ) (hints : List ℤ) (position : ℕ) → Agree more fewer hints
      → judged_groups more pivot kept group groups hints position ≡ Accepted → judged_groups fewer pivot kept group groups hints position ≡ Accepted
  groups-on pivot kept group groups [] position a h = grouped-on pivot group groups h
  groups-on pivot kept group groups (negsuc n ∷ hints) position a h =
      rw a.0
      (opened-on pivot group (clause_named (n + 1) more) (RatAt position) (λ lits. judged_groups more pivot kept (group_set pivot kept lits) ((n + 1) ∷ groups) hints (position + 1))
      (λ lits. judged_groups fewer pivot kept (group_set pivot kept lits) ((n + 1) ∷ groups) hints (position + 1))
      (λ lits. groups-on pivot kept (group_set pivot kept lits) ((n + 1) ∷ groups) hints (position + 1) a.1) h)
  groups-on pivot kept group groups (pos id ∷ hints) position a h =
      propagated-on more fewer group id (FailsAt position) (λ now. judged_groups more pivot kept now groups hints (position + 1)) (λ now. judged_groups fewer pivot kept now groups hints (position + 1)) a.0
      (λ now. groups-on pivot kept now groups hints (position + 1) a.1) h

  rat-on : (lits kept : List Literal) (hints : List ℤ) (position : ℕ) → Agree more fewer hints → judged_rat more lits kept hints position ≡ Accepted → judged_rat fewer lits kept hints position ≡ Accepted
  rat-on [] kept [] position a h = h
  rat-on [] kept (hint ∷ hints) position a h = h
  rat-on (pivot ∷ lits) kept hints position a h = groups-on pivot kept None [] hints position a h

  along-on : (lits : List Literal) (hints : List ℤ) (position : ℕ) (set : List Literal) → Agree more fewer hints → judged_along more lits hints position set ≡ Accepted → judged_along fewer lits hints position set ≡ Accepted
  along-on lits [] position set a h = rat-on lits set [] position a h
  along-on lits (negsuc n ∷ hints) position set a h = rat-on lits set (negsuc n ∷ hints) position a h
  along-on lits (pos id ∷ hints) position set a h =
      rw a.0
      (by-on (hint_reading set (clause_named id more)) (FailsAt position) (λ l. judged_along more lits hints (position + 1) (l ∷ set)) (λ l. judged_along fewer lits hints (position + 1) (l ∷ set))
      (λ l. along-on lits hints (position + 1) (l ∷ set) a.1) h)

-- ---- the run over what is kept stands behind the run over all lines

record StandsBehind (needed : ℕ → Type 0) (whole trimmed : Standing) : Type 0 where
  same : (id : ℕ) → needed id → clause_named id trimmed.live ≡ clause_named id whole.live
  has : HasFewer whole.live trimmed.live
  next : trimmed.next ≤ whole.next

pub Contains-head : {X : Type 0} (x : X) (xs : List X) → Contains (x ∷ xs) x
Contains-head x xs = (0, omega arith, refl)

pub Contains-tail : {X : Type 0} (x y : X) (xs : List X) → Contains xs y → Contains (x ∷ xs) y
Contains-tail x y xs (k, below, at) = (suc k, omega (arith, below), at)

agree-hints : (more fewer : List Numbered) (hints : List ℤ) → ((id : ℕ) → Contains (map unsigned_abs hints) id → clause_named id fewer ≡ clause_named id more) → Agree more fewer hints
agree-hints more fewer [] h = tt
agree-hints more fewer (pos id ∷ hints) h =
    (h id (Contains-head id (map unsigned_abs hints)), agree-hints more fewer hints (λ other there. h other (Contains-tail id other (map unsigned_abs hints) there)))
agree-hints more fewer (negsuc n ∷ hints) h =
    let named_it : (id : ℕ) → Contains (suc n ∷ map unsigned_abs hints) id → clause_named id fewer ≡ clause_named id more = h in
    (rw add-one (named_it (suc n) (Contains-head (suc n) (map unsigned_abs hints))), agree-hints more fewer hints (λ other there. named_it other (Contains-tail (suc n) other (map unsigned_abs hints) there)))

addition-accepted : (s : Standing) (id : ℕ) (lits : List Literal) (hints : List ℤ) → s.next ≤ id → IsRat s.live lits hints → accepts (judged_line s (Addition id lits hints)) ≡ true
addition-accepted s id lits hints h rat = rw (le-ltb id s.next h) (rw rat refl)

-- a needed line is accepted there too
needed-accepted : (all : List LratLine) (s t : Standing) (id : ℕ) (lits : List Literal) (hints : List ℤ) → StandsBehind (IsNeeded all) s t → IsNeeded all id → Contains all (Addition id lits hints)
    → accepts (judged_line s (Addition id lits hints)) ≡ true → accepts (judged_line t (Addition id lits hints)) ≡ true
needed-accepted all s t id lits hints b needed there h =
    let accepted : judged_line s (Addition id lits hints) ≡ Accepted = Accepted-from_accepts (judged_line s (Addition id lits hints)) h in
    let high : s.next ≤ id = next-from_accepted s id lits hints accepted in
    let agree : Agree s.live t.live hints = agree-hints s.live t.live hints (λ other names. b.same other (named id other lits hints needed there names)) in
    addition-accepted t id lits hints (omega (arith, high, b.next)) (along-on s.live t.live b.has lits hints 1 (map negated lits) agree (rat_from_accepted s id lits hints accepted))

behind-kept : (needed : ℕ → Type 0) (s t : Standing) (id : ℕ) (lits : List Literal) (hints : List ℤ) → StandsBehind needed s t → StandsBehind needed (after_line s (Addition id lits hints)) (after_line t (Addition id lits hints))
behind-kept needed s t id lits hints b =
    let c : Numbered = record { id = id; lits = lits } in
    record {
      same = λ other is. named-push other t.live s.live c (b.same other is);
      has = fewer-push s.live t.live c b.has;
      next = omega arith;
    }

behind-dropped : (needed : ℕ → Type 0) (s t : Standing) (id : ℕ) (lits : List Literal) (hints : List ℤ) → StandsBehind needed s t → (needed id → ⊥) → s.next ≤ id → StandsBehind needed (after_line s (Addition id lits hints)) t
behind-dropped needed s t id lits hints b spared high =
    let c : Numbered = record { id = id; lits = lits } in
    record {
      same = λ other is. b.same other is ∙ sym (named-push_other other s.live c (λ e. spared (subst needed (sym e) is)));
      has = fewer-push_one s.live t.live c b.has;
      next = omega (arith, b.next, high);
    }

behind-deleted : (needed : ℕ → Type 0) (s t : Standing) (id : ℕ) (ids : List ℕ) → StandsBehind needed s t → StandsBehind needed (after_line s (Deletion id ids)) (after_line t (Deletion id ids))
behind-deleted needed s t id ids b =
    record {
      same = λ other is. named-without other ids t.live ∙ (ap (cond (among_ids ids other) None) (b.same other is) ∙ sym (named-without other ids s.live));
      has = fewer-without ids s.live t.live b.has;
      next = b.next;
    }

-- ---- what is kept of lines that begin so

kept-deletion : (needed : ℕ → Type 0) (id : ℕ) (ids : List ℕ) (lines kept : List LratLine) → KeepsNeeded needed (Deletion id ids ∷ lines) kept → (rest : List LratLine) × (kept ≡ Deletion id ids ∷ rest) × KeepsNeeded needed lines rest
kept-deletion needed id ids lines kept (deletes _ _ _ rest k) = (rest, refl, k)

abbrev KeepsAddition : (ℕ → Type 0) → ℕ → List Literal → List ℤ → (lines kept : List LratLine) → Type 0
KeepsAddition needed id lits hints lines kept =
    (needed id × ((rest : List LratLine) × (kept ≡ Addition id lits hints ∷ rest) × KeepsNeeded needed lines rest)) ⊎ ((needed id → ⊥) × KeepsNeeded needed lines kept)

kept-addition : (needed : ℕ → Type 0) (id : ℕ) (lits : List Literal) (hints : List ℤ) (lines kept : List LratLine) → KeepsNeeded needed (Addition id lits hints ∷ lines) kept → KeepsAddition needed id lits hints lines kept
kept-addition needed id lits hints lines kept (keeps _ _ _ _ rest is k) = inl (is, (rest, refl, k))
kept-addition needed id lits hints lines kept (drops _ _ _ _ _ not_so k) = inr (not_so, k)

kept-none : (needed : ℕ → Type 0) (kept : List LratLine) → KeepsNeeded needed [] kept → kept ≡ []
kept-none needed kept nothing = refl

-- ---- the law

module _ (all : List LratLine) where
  kept-refute : (s t : Standing) (lines kept : List LratLine) → ((line : LratLine) → Contains (up_to_empty lines) line → Contains all line) → StandsBehind (IsNeeded all) s t → refutes_from s lines ≡ true
      → KeepsNeeded (IsNeeded all) (up_to_empty lines) kept → refutes_from t kept ≡ true
  kept-refute s t [] kept in_all b h k = absurd cc
  kept-refute s t (Deletion id ids ∷ lines) kept in_all b h k =
      let split = kept-deletion (IsNeeded all) id ids (up_to_empty lines) kept k in
      rw split.1
      (kept-refute (after_line s (Deletion id ids)) (after_line t (Deletion id ids)) lines split.0 (λ line there. in_all line (Contains-tail (Deletion id ids) line (up_to_empty lines) there))
      (behind-deleted (IsNeeded all) s t id ids b) h split.2)
  kept-refute s t (Addition id [] hints ∷ lines) kept in_all b h k =
      let parts = and_parts (accepts (judged_line s (Addition id [] hints))) true h in
      let there : Contains all (Addition id [] hints) = in_all (Addition id [] hints) (Contains-head (Addition id [] hints) []) in
      elim (kept-addition (IsNeeded all) id [] hints [] kept k) [
        | inl (is, (rest, kept_is, more)) ↦
            rw kept_is (and_from (accepts (judged_line t (Addition id [] hints))) true (needed-accepted all s t id [] hints b is there parts.0) refl)
        | inr (spared, more) ↦ absurd (spared (empty id hints there))
      ]
  kept-refute s t (Addition id (l ∷ ls) hints ∷ lines) kept in_all b h k =
      let line : LratLine = Addition id (l ∷ ls) hints in
      let parts = and_parts (accepts (judged_line s line)) (refutes_from (after_line s line) lines) h in
      let there : Contains all line = in_all line (Contains-head line (up_to_empty lines)) in
      let later = λ (other : LratLine) (is : Contains (up_to_empty lines) other). in_all other (Contains-tail line other (up_to_empty lines) is) in
      elim (kept-addition (IsNeeded all) id (l ∷ ls) hints (up_to_empty lines) kept k) [
        | inl (is, (rest, kept_is, more)) ↦
            rw kept_is
            (and_from (accepts (judged_line t line)) (refutes_from (after_line t line) rest) (needed-accepted all s t id (l ∷ ls) hints b is there parts.0)
            (kept-refute (after_line s line) (after_line t line) lines rest later (behind-kept (IsNeeded all) s t id (l ∷ ls) hints b) parts.1 more))
        | inr (spared, more) ↦
            let accepted : judged_line s line ≡ Accepted = Accepted-from_accepts (judged_line s line) parts.0 in
            kept-refute (after_line s line) t lines kept later (behind-dropped (IsNeeded all) s t id (l ∷ ls) hints b spared (next-from_accepted s id (l ∷ ls) hints accepted)) parts.1 more
      ]

stands-behind-itself : (needed : ℕ → Type 0) (s : Standing) → StandsBehind needed s s
stands-behind-itself needed s = record { same = λ id is. refl; has = λ p h. h; next = omega arith }

pub kept_refute : KeptLinesRefute
kept_refute live lines kept h k =
    kept-refute (up_to_empty lines) (standing_at live) (standing_at live) lines kept (λ line there. there) (stands-behind-itself (IsNeeded (up_to_empty lines)) (standing_at live)) h k

-- ---- one way to keep

kept-one : (needed : ℕ → Type 0) (lines one other : List LratLine) → KeepsNeeded needed lines one → KeepsNeeded needed lines other → one ≡ other
kept-one needed [] one other a b = kept-none needed one a ∙ sym (kept-none needed other b)
kept-one needed (Deletion id ids ∷ lines) one other a b =
    let x = kept-deletion needed id ids lines one a in
    let y = kept-deletion needed id ids lines other b in
    x.1 ∙ (ap (λ (rest : List LratLine). Deletion id ids ∷ rest) (kept-one needed lines x.0 y.0 x.2 y.2) ∙ sym y.1)
kept-one needed (Addition id lits hints ∷ lines) one other a b =
    elim (kept-addition needed id lits hints lines one a) [
      | inl (is, (rest, one_is, k)) ↦ elim (kept-addition needed id lits hints lines other b) [
        | inl (is', (rest', other_is, k')) ↦ one_is ∙ (ap (λ (r : List LratLine). Addition id lits hints ∷ r) (kept-one needed lines rest rest' k k') ∙ sym other_is)
        | inr (spared, k') ↦ absurd (spared is)
      ]
      | inr (spared, k) ↦ elim (kept-addition needed id lits hints lines other b) [
        | inl (is', (rest', other_is, k')) ↦ absurd (spared is')
        | inr (spared', k') ↦ kept-one needed lines one other k k'
      ]
    ]

pub trimmed_are_one : TrimmedAreOne
trimmed_are_one lines one other a b = kept-one (IsNeeded (up_to_empty lines)) (up_to_empty lines) one other a b
