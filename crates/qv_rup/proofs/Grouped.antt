-- Single hints of a line with groups.
use Rattle.std.proofs.Common.{◌≡◌, ℕ, suc, ◌+◌, ◌-◌, ◌<◌, ◌≤◌, Bool, true, false, not, cond, ◌&&◌, ◌||◌, List, [], ◌∷◌, ◌++◌, map, length, drop, get_or, ℤ, pos, negsuc, unsigned_abs, Option, Some, None, Err, eqb, nat_eq, refl, sym, ◌∙◌, ap, subst, inl, inr, arith, length-append, length-drop}
use Rattle.std.specs.HashSet.{contains}
use Rattle.std.specs.Int.{is_negative}
use Rattle.std.specs.List.{list_any}
use Rattle.std.proofs.lemmas.Bool.{cases_Bool, eqb-true, ltb-true}
use Rattle.std.proofs.lemmas.List.{append_assoc, at_drop_all, drop_at, drop_more, map-append}
use Rattle.std.proofs.lemmas.List.Elements.{filter-append}
use Rattle.qv_cnf.specs.Literal.{Literal, negated}
use Rattle.qv_cnf.specs.Listing.{Numbered, clause_named}
use Rattle.qv_cnf.specs.Rat.{all_grouped, group_set, grouped, judged_groups, opened, others}
use Rattle.qv_cnf.specs.Refutation.{Accepted, FailsAt, Judgement, LeftOpen, RatAt, among, hint_reading, same_literal}
use Rattle.qv_cnf.specs.declared.readings.Reading.TheVariants.{Falsified, Forced, Useless}
use Rattle.qv_rup.specs.Grouping.{AreGroups, Ids, IsBehind, IsGrouped, JudgesHint, KeepsGroups, group_of, holding, kept_of, with_group}
use Rattle.qv_rup.specs.Judged.{IsJudged}
use Rattle.qv_rup.specs.declared.faults.StepFault.{StepFault}

-- ---- signs

not_negative : (n : ℕ) → is_negative (pos n) ≡ true → ⊥
not_negative n h = omega (arith, ltb-true n 0 h)

-- ---- the literals that are kept

pub kept-all : (size : ℕ) (set : List Literal) → size ≡ length set → kept_of size set ≡ set
kept-all size set h = let none : length set - size ≡ 0 = omega arith in ap (λ (n : ℕ). drop n set) none

pub kept-more : (size : ℕ) (l : Literal) (set : List Literal) → size ≤ length set → kept_of size (l ∷ set) ≡ kept_of size set
kept-more size l set h = let one : suc (length set) - size ≡ suc (length set - size) = omega arith in ap (λ (n : ℕ). drop n (l ∷ set)) one

length-kept : (size : ℕ) (set : List Literal) → size ≤ length set → length (kept_of size set) ≡ size
length-kept size set h = let gone = length-drop (length set - size) set in omega (arith, gone)

kept-behind : (size : ℕ) (kept set : List Literal) → length kept ≡ size → IsBehind kept set → kept_of size set ≡ kept
kept-behind size kept set h behind =
    let long : length set ≡ length behind.0 + length kept = ap length behind.1 ∙ length-append behind.0 kept in
    let more : length set - size ≡ length behind.0 = omega (arith, long, h) in
    ap (λ (n : ℕ). drop n set) more ∙ ap (λ (xs : List Literal). drop (length behind.0) xs) behind.1 ∙ drop_at behind.0 kept (length behind.0) refl

-- ---- a hint that opens a group

some_same : (a b : List Literal) → Some a ≡ Some b → a ≡ b
some_same a b h = cc

opened-holding : (pivot : Literal) (named : Option (List Literal)) (fails : Judgement) (goes_on : List Literal → Judgement) (lits : List Literal) → holding (negated pivot) named ≡ Some lits → opened pivot None named fails goes_on ≡ goes_on lits
opened-holding pivot None fails goes_on lits h = cc
opened-holding pivot (Some xs) fails goes_on lits h =
    elim (cases_Bool (among xs (negated pivot))) [
      | inl e ↦ let k : Some xs ≡ Some lits = rw e at h in rw e (ap goes_on (some_same xs lits k))
      | inr e ↦ absurd (let k : None ≡ Some lits = rw e at h in cc)
    ]

opened-none : (pivot : Literal) (named : Option (List Literal)) (fails : Judgement) (goes_on : List Literal → Judgement) → holding (negated pivot) named ≡ None → opened pivot None named fails goes_on ≡ fails
opened-none pivot None fails goes_on h = refl
opened-none pivot (Some xs) fails goes_on h =
    elim (cases_Bool (among xs (negated pivot))) [
      | inl e ↦ absurd (let k : Some xs ≡ None = rw e at h in cc)
      | inr e ↦ rw e
    ]

-- it can't, since another is open
rat-open : (live : List Numbered) (pivot : Literal) (kept set : List Literal) (groups : List ℕ) (hint : ℤ) (hints : List ℤ) (position : ℕ) → is_negative hint ≡ true → judged_groups live pivot kept (Some set) groups (hint ∷ hints) position ≡ RatAt position
rat-open live pivot kept set groups (pos n) hints position h = absurd (not_negative n h)
rat-open live pivot kept set groups (negsuc n) hints position h = refl

pub rat-stays : (live : List Numbered) (pivot : Literal) (kept old : List Literal) (was : Bool) (groups : List ℕ) (hint : ℤ) (hints : List ℤ) (position : ℕ) → is_negative hint ≡ true → was ≡ true
    → judged_groups live pivot kept (group_of was old) groups (hint ∷ hints) position ≡ RatAt position
rat-stays live pivot kept old was groups hint hints position h e =
    ap (λ (b : Bool). judged_groups live pivot kept (group_of b old) groups (hint ∷ hints) position) e ∙ rat-open live pivot kept old groups hint hints position h

-- or no live clause of that id holds the negation of the first literal
rat-absent : (live : List Numbered) (pivot : Literal) (kept : List Literal) (groups : List ℕ) (hint : ℤ) (hints : List ℤ) (position id : ℕ) → is_negative hint ≡ true → id ≡ unsigned_abs hint → holding (negated pivot) (clause_named id live) ≡ None
    → judged_groups live pivot kept None groups (hint ∷ hints) position ≡ RatAt position
rat-absent live pivot kept groups (pos n) hints position id h is none = absurd (not_negative n h)
rat-absent live pivot kept groups (negsuc n) hints position id h is none =
    let at : n + 1 ≡ id = omega (arith, is) in
    opened-none pivot (clause_named (n + 1) live) (RatAt position) (λ lits. judged_groups live pivot kept (group_set pivot kept lits) ((n + 1) ∷ groups) hints (position + 1))
    (ap (λ (m : ℕ). holding (negated pivot) (clause_named m live)) at ∙ none)

pub rat-refused : (live : List Numbered) (pivot : Literal) (kept old : List Literal) (was : Bool) (groups : List ℕ) (hint : ℤ) (hints : List ℤ) (position id : ℕ) → is_negative hint ≡ true → was ≡ false → id ≡ unsigned_abs hint → holding (negated pivot) (clause_named id live) ≡ None
    → judged_groups live pivot kept (group_of was old) groups (hint ∷ hints) position ≡ RatAt position
rat-refused live pivot kept old was groups hint hints position id h e is none =
    ap (λ (b : Bool). judged_groups live pivot kept (group_of b old) groups (hint ∷ hints) position) e ∙ rat-absent live pivot kept groups hint hints position id h is none

rat-group : (live : List Numbered) (pivot : Literal) (kept : List Literal) (groups : List ℕ) (hint : ℤ) (hints : List ℤ) (position id : ℕ) (lits : List Literal) → is_negative hint ≡ true → id ≡ unsigned_abs hint → holding (negated pivot) (clause_named id live) ≡ Some lits
    → judged_groups live pivot kept None groups (hint ∷ hints) position ≡ judged_groups live pivot kept (group_set pivot kept lits) (with_group hint groups) hints (position + 1)
rat-group live pivot kept groups (pos n) hints position id lits h is some = absurd (not_negative n h)
rat-group live pivot kept groups (negsuc n) hints position id lits h is some =
    let at : n + 1 ≡ id = omega (arith, is) in
    opened-holding pivot (clause_named (n + 1) live) (RatAt position) (λ ls. judged_groups live pivot kept (group_set pivot kept ls) ((n + 1) ∷ groups) hints (position + 1)) lits
    (ap (λ (m : ℕ). holding (negated pivot) (clause_named m live)) at ∙ some)

-- or it does
pub rat-opens : (live : List Numbered) (pivot : Literal) (kept old new : List Literal) (was is_open : Bool) (groups : List ℕ) (hint : ℤ) (hints : List ℤ) (position id : ℕ) (lits : List Literal) → is_negative hint ≡ true → was ≡ false → id ≡ unsigned_abs hint → holding (negated pivot) (clause_named id live) ≡ Some lits
    → group_of is_open new ≡ group_set pivot kept lits
    → judged_groups live pivot kept (group_of was old) groups (hint ∷ hints) position ≡ judged_groups live pivot kept (group_of is_open new) (with_group hint groups) hints (position + 1)
rat-opens live pivot kept old new was is_open groups hint hints position id lits h e is some set =
    ap (λ (b : Bool). judged_groups live pivot kept (group_of b old) groups (hint ∷ hints) position) e
    ∙ rat-group live pivot kept groups hint hints position id lits h is some
    ∙ ap (λ (o : Option (List Literal)). judged_groups live pivot kept o (with_group hint groups) hints (position + 1)) (sym set)

-- what was kept is kept, and there is a group more
pub keeps-opened : (hint : ℤ) (size id : ℕ) (old new : List Literal) (ids ids' : Ids) → is_negative hint ≡ true → id ≡ unsigned_abs hint → size ≤ length old → IsBehind (kept_of size old) new → ((groups : List ℕ) → AreGroups ids groups → AreGroups ids' (id ∷ groups)) → KeepsGroups hint size old new ids ids'
keeps-opened (pos n) size id old new ids ids' h is few behind noted = absurd (not_negative n h)
keeps-opened (negsuc n) size id old new ids ids' h is few behind noted =
    let long : length new ≡ length behind.0 + length (kept_of size old) = ap length behind.1 ∙ length-append behind.0 (kept_of size old) in
    let same : id ≡ n + 1 = omega (arith, is) in
    record {
      kept = kept-behind size (kept_of size old) new (length-kept size old few) behind;
      enough = omega (arith, long, length-kept size old few);
      are = λ groups a. subst (λ (m : ℕ). AreGroups ids' (m ∷ groups)) same (noted groups a);
    }

-- ---- a hint that is looked at

-- where no group is open, it isn't
pub hint-passed : (live : List Numbered) (pivot : Literal) (kept old : List Literal) (was : Bool) (groups : List ℕ) (hint : ℤ) (hints : List ℤ) (position : ℕ) → is_negative hint ≡ false → was ≡ false
    → judged_groups live pivot kept (group_of was old) groups (hint ∷ hints) position ≡ judged_groups live pivot kept (group_of was old) (with_group hint groups) hints (position + 1)
hint-passed live pivot kept old was groups (pos n) hints position h e =
    ap (λ (b : Bool). judged_groups live pivot kept (group_of b old) groups (pos n ∷ hints) position) e
    ∙ ap (λ (b : Bool). judged_groups live pivot kept (group_of b old) groups hints (position + 1)) (sym e)
hint-passed live pivot kept old was groups (negsuc n) hints position h e = absurd (let k : true ≡ false = h in cc)

-- its clause is false
pub hint-closes : (live : List Numbered) (pivot : Literal) (kept old : List Literal) (was : Bool) (groups : List ℕ) (hint : ℤ) (hints : List ℤ) (position id : ℕ) → is_negative hint ≡ false → was ≡ true → id ≡ unsigned_abs hint → hint_reading old (clause_named id live) ≡ Falsified
    → judged_groups live pivot kept (group_of was old) groups (hint ∷ hints) position ≡ judged_groups live pivot kept None (with_group hint groups) hints (position + 1)
hint-closes live pivot kept old was groups (pos n) hints position id h e is reads =
    let read : hint_reading old (clause_named n live) ≡ Falsified = ap (λ (m : ℕ). hint_reading old (clause_named m live)) (sym is) ∙ reads in
    let goes : judged_groups live pivot kept (Some old) groups (pos n ∷ hints) position ≡ judged_groups live pivot kept None groups hints (position + 1) = rw read in
    ap (λ (b : Bool). judged_groups live pivot kept (group_of b old) groups (pos n ∷ hints) position) e ∙ goes
hint-closes live pivot kept old was groups (negsuc n) hints position id h e is reads = absurd (let k : true ≡ false = h in cc)

-- it forces a literal
pub hint-forces : (live : List Numbered) (pivot : Literal) (kept old : List Literal) (was : Bool) (groups : List ℕ) (hint : ℤ) (hints : List ℤ) (position id : ℕ) (l : Literal) → is_negative hint ≡ false → was ≡ true → id ≡ unsigned_abs hint → hint_reading old (clause_named id live) ≡ Forced l
    → judged_groups live pivot kept (group_of was old) groups (hint ∷ hints) position ≡ judged_groups live pivot kept (group_of was (l ∷ old)) (with_group hint groups) hints (position + 1)
hint-forces live pivot kept old was groups (pos n) hints position id l h e is reads =
    let read : hint_reading old (clause_named n live) ≡ Forced l = ap (λ (m : ℕ). hint_reading old (clause_named m live)) (sym is) ∙ reads in
    let goes : judged_groups live pivot kept (Some old) groups (pos n ∷ hints) position ≡ judged_groups live pivot kept (Some (l ∷ old)) groups hints (position + 1) = rw read in
    ap (λ (b : Bool). judged_groups live pivot kept (group_of b old) groups (pos n ∷ hints) position) e ∙ goes
    ∙ ap (λ (b : Bool). judged_groups live pivot kept (group_of b (l ∷ old)) groups hints (position + 1)) (sym e)
hint-forces live pivot kept old was groups (negsuc n) hints position id l h e is reads = absurd (let k : true ≡ false = h in cc)

-- it fails
pub hint-fails : (live : List Numbered) (pivot : Literal) (kept old : List Literal) (was : Bool) (groups : List ℕ) (hint : ℤ) (hints : List ℤ) (position id : ℕ) → is_negative hint ≡ false → was ≡ true → id ≡ unsigned_abs hint → hint_reading old (clause_named id live) ≡ Useless
    → judged_groups live pivot kept (group_of was old) groups (hint ∷ hints) position ≡ FailsAt position
hint-fails live pivot kept old was groups (pos n) hints position id h e is reads =
    let read : hint_reading old (clause_named n live) ≡ Useless = ap (λ (m : ℕ). hint_reading old (clause_named m live)) (sym is) ∙ reads in
    let goes : judged_groups live pivot kept (Some old) groups (pos n ∷ hints) position ≡ FailsAt position = rw read in
    ap (λ (b : Bool). judged_groups live pivot kept (group_of b old) groups (pos n ∷ hints) position) e ∙ goes
hint-fails live pivot kept old was groups (negsuc n) hints position id h e is reads = absurd (let k : true ≡ false = h in cc)

pub keeps-same : (hint : ℤ) (size : ℕ) (set : List Literal) (ids : Ids) → is_negative hint ≡ false → size ≤ length set → KeepsGroups hint size set set ids ids
keeps-same (pos n) size set ids h few = record { kept = refl; enough = few; are = λ groups a. a }
keeps-same (negsuc n) size set ids h few = absurd (let k : true ≡ false = h in cc)

pub keeps-forced : (hint : ℤ) (size : ℕ) (l : Literal) (set : List Literal) (ids : Ids) → is_negative hint ≡ false → size ≤ length set → KeepsGroups hint size set (l ∷ set) ids ids
keeps-forced (pos n) size l set ids h few = record { kept = kept-more size l set few; enough = omega arith; are = λ groups a. a }
keeps-forced (negsuc n) size l set ids h few = absurd (let k : true ≡ false = h in cc)

-- ---- ids of groups

pub groups-more : (ids ids' : Ids) (id : ℕ) (groups : List ℕ) → contains nat_eq ids' id ≡ true → ((q : ℕ) → nat_eq id q ≡ false → contains nat_eq ids' q ≡ contains nat_eq ids q) → AreGroups ids groups → AreGroups ids' (id ∷ groups)
groups-more ids ids' id groups own others are q =
    elim (cases_Bool (eqb id q)) [
      | inl e ↦ ap (contains nat_eq ids') (sym (eqb-true id q e)) ∙ own ∙ sym (ap (λ (b : Bool). b || list_any (λ g. eqb g q) groups) e)
      | inr e ↦ others q e ∙ are q ∙ sym (ap (λ (b : Bool). b || list_any (λ g. eqb g q) groups) e)
    ]

-- ---- a clause literal by literal

-- the next element of a list
pub next-of : {A : Type 0} (xs : List A) (i : ℕ) (x : A) → i < length xs → x ≡ get_or xs i x → drop i xs ≡ x ∷ drop (i + 1) xs
next-of xs i x h is = drop_more xs i x h ∙ ap (λ y. y ∷ drop (i + 1) xs) (sym is)

-- whether a group closes at once, in one walk over its literals
abbrev pub closing : List Literal → Literal → List Literal → Bool
closing set p [] = false
closing set p (l ∷ ls) = (same_literal p l || (not (same_literal (negated p) l) && among set l)) || closing set p ls

or-swap : (a b c d : Bool) → ((a || b) || (c || d)) ≡ ((a || c) || (b || d))
or-swap true b c d = refl
or-swap false true true d = refl
or-swap false true false d = refl
or-swap false false c d = refl

pub closing-all : (set : List Literal) (p : Literal) (lits : List Literal) → closing set p lits ≡ (among lits p || list_any (among set) (others p lits))
closing-all set p [] = refl
closing-all set p (l ∷ ls) =
    elim (cases_Bool (same_literal (negated p) l)) [
      | inl e ↦ rw e (ap (λ (b : Bool). (same_literal p l || false) || b) (closing-all set p ls) ∙ or-swap (same_literal p l) false (among ls p) (list_any (among set) (others p ls)))
      | inr e ↦ rw e (ap (λ (b : Bool). (same_literal p l || among set l) || b) (closing-all set p ls) ∙ or-swap (same_literal p l) (among set l) (among ls p) (list_any (among set) (others p ls)))
    ]

-- one literal, then those behind it
pub others-step : (p : Literal) (lits : List Literal) (i : ℕ) (x : Literal) (old new start : List Literal) → i < length lits → x ≡ get_or lits i x → new ≡ map negated (others p (x ∷ [])) ++ old → old ≡ map negated (others p (drop (i + 1) lits)) ++ start
    → new ≡ map negated (others p (drop i lits)) ++ start
others-step p lits i x old new start h is one rest =
    let split : others p (drop i lits) ≡ others p (x ∷ []) ++ others p (drop (i + 1) lits) =
    ap (others p) (next-of lits i x h is) ∙ filter-append (λ l. not (same_literal (negated p) l)) (x ∷ []) (drop (i + 1) lits) in
    one ∙ ap (λ (xs : List Literal). map negated (others p (x ∷ [])) ++ xs) rest
    ∙ sym (append_assoc (map negated (others p (x ∷ []))) (map negated (others p (drop (i + 1) lits))) start)
    ∙ ap (λ (xs : List Literal). xs ++ start) (sym (ap (map negated) split ∙ map-append negated (others p (x ∷ [])) (others p (drop (i + 1) lits))))

-- ---- along the hints

-- how far a line with groups has come: before this place, with these sets and groups
pub record Going (live : List Numbered) (pivot : Literal) (kept : List Literal) (hints : List ℤ) (from place size : ℕ) (is_open : Bool) (set : List Literal) (ids : Ids) : Type 0 where
  pub is_kept : kept_of size set ≡ kept
  pub enough : size ≤ length set
  pub groups : List ℕ
  pub are : AreGroups ids groups
  pub judged : judged_groups live pivot kept (group_of is_open set) groups (drop place hints) (place + 1) ≡ judged_groups live pivot kept None [] (drop from hints) (from + 1)

pub going-start : (live : List Numbered) (pivot : Literal) (kept : List Literal) (hints : List ℤ) (from size : ℕ) (is_open : Bool) (ids : Ids) → size ≡ length kept → is_open ≡ false → AreGroups ids [] → Going live pivot kept hints from from size is_open kept ids
going-start live pivot kept hints from size is_open ids long closed none = record {
  is_kept = kept-all size kept long;
  enough = omega arith;
  groups = [];
  are = none;
  judged = ap (λ (b : Bool). judged_groups live pivot kept (group_of b kept) [] (drop from hints) (from + 1)) closed;
}

pub going-next : (live : List Numbered) (pivot : Literal) (kept : List Literal) (hints : List ℤ) (from place size : ℕ) (hint : ℤ) (was is_open : Bool) (old new : List Literal) (ids ids' : Ids) → place < length hints → hint ≡ get_or hints place hint
    → JudgesHint live pivot size hint (place + 1) was is_open old new (λ j next. j ≡ next) → KeepsGroups hint size old new ids ids' → Going live pivot kept hints from place size was old ids → Going live pivot kept hints from (place + 1) size is_open new ids'
going-next live pivot kept hints from place size hint was is_open old new ids ids' h is judges keeps g =
    let rest : List ℤ = drop (place + 1) hints in
    let here : drop place hints ≡ hint ∷ rest = next-of hints place hint h is in
    let goes : judged_groups live pivot kept (group_of was old) g.groups (hint ∷ rest) (place + 1) ≡ judged_groups live pivot kept (group_of is_open new) (with_group hint g.groups) rest (place + 1 + 1) =
    subst (λ (ks : List Literal). judged_groups live pivot ks (group_of was old) g.groups (hint ∷ rest) (place + 1) ≡ judged_groups live pivot ks (group_of is_open new) (with_group hint g.groups) rest (place + 1 + 1)) g.is_kept (judges g.groups rest) in
    record {
      is_kept = keeps.kept ∙ g.is_kept;
      enough = keeps.enough;
      groups = with_group hint g.groups;
      are = keeps.are g.groups g.are;
      judged = sym goes ∙ ap (λ (hs : List ℤ). judged_groups live pivot kept (group_of was old) g.groups hs (place + 1)) (sym here) ∙ g.judged;
    }

-- a hint fails
pub going-fails : (live : List Numbered) (pivot : Literal) (kept : List Literal) (hints : List ℤ) (from place size : ℕ) (hint : ℤ) (was is_open : Bool) (old new : List Literal) (ids : Ids) (fault : StepFault) → place < length hints → hint ≡ get_or hints place hint
    → JudgesHint live pivot size hint (place + 1) was is_open old new (λ j next. IsJudged (Err fault) j) → Going live pivot kept hints from place size was old ids → IsJudged (Err fault) (judged_groups live pivot kept None [] (drop from hints) (from + 1))
going-fails live pivot kept hints from place size hint was is_open old new ids fault h is judges g =
    let rest : List ℤ = drop (place + 1) hints in
    let here : drop place hints ≡ hint ∷ rest = next-of hints place hint h is in
    subst (λ (j : Judgement). IsJudged (Err fault) j)
    (ap (λ (ks : List Literal). judged_groups live pivot ks (group_of was old) g.groups (hint ∷ rest) (place + 1)) g.is_kept
    ∙ ap (λ (hs : List ℤ). judged_groups live pivot kept (group_of was old) g.groups hs (place + 1)) (sym here) ∙ g.judged)
    (judges g.groups rest)

pub going-end : (live : List Numbered) (pivot : Literal) (kept : List Literal) (hints : List ℤ) (from place size : ℕ) (is_open : Bool) (set : List Literal) (ids : Ids) → length hints ≤ place → Going live pivot kept hints from place size is_open set ids
    → IsGrouped live pivot set ids is_open (judged_groups live pivot kept None [] (drop from hints) (from + 1))
going-end live pivot kept hints from place size is_open set ids h g = record {
  groups = g.groups;
  are = g.are;
  judged = sym g.judged ∙ at_drop_all (λ (hs : List ℤ). judged_groups live pivot kept (group_of is_open set) g.groups hs (place + 1)) hints place h;
}

-- ---- behind the last hint

pub ends-open : (live : List Numbered) (pivot : Literal) (groups : List ℕ) (set : List Literal) (is_open : Bool) → is_open ≡ true → grouped pivot (group_of is_open set) groups live ≡ LeftOpen
ends-open live pivot groups set is_open e = ap (λ (b : Bool). grouped pivot (group_of b set) groups live) e

pub ends-whole : (live : List Numbered) (pivot : Literal) (groups : List ℕ) (set : List Literal) (is_open : Bool) → is_open ≡ false → all_grouped pivot groups live ≡ true → grouped pivot (group_of is_open set) groups live ≡ Accepted
ends-whole live pivot groups set is_open e all = ap (λ (b : Bool). grouped pivot (group_of b set) groups live) e ∙ ap (λ (b : Bool). cond b Accepted LeftOpen) all

pub ends-lacking : (live : List Numbered) (pivot : Literal) (groups : List ℕ) (set : List Literal) (is_open : Bool) → is_open ≡ false → all_grouped pivot groups live ≡ false → grouped pivot (group_of is_open set) groups live ≡ LeftOpen
ends-lacking live pivot groups set is_open e all = ap (λ (b : Bool). grouped pivot (group_of b set) groups live) e ∙ ap (λ (b : Bool). cond b Accepted LeftOpen) all
