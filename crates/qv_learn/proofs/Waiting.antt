-- What a search's tasks wait for, and where its hints lead.
use Rattle.std.proofs.Common.{◌≡◌, ◌≢◌, ℕ, ◌+◌, true, false, List, [], ◌∷◌, ◌++◌, map, Some, pos, refl, sym, ◌∙◌, ap, subst, arith, inl, inr, ◌⊎◌}
use Rattle.std.proofs.lemmas.Bool.{false_from_ne_true, false≢true, or_cases, or_left, or_right}
use Rattle.std.proofs.lemmas.List.{append_assoc}
use Rattle.std.proofs.lemmas.List.Folds.{list_any-append}
use Rattle.qv_cnf.specs.Listing.{Numbered, clause_named}
use Rattle.qv_cnf.specs.Literal.{Literal, negated}
use Rattle.qv_cnf.specs.Refutation.{Accepted, FailsAt, among, hint_reading, judged_by, judged_from, same_literal}
use Rattle.qv_cnf.specs.declared.readings.Reading.{Reading}
use Rattle.qv_cnf.specs.declared.readings.Reading.TheVariants.{Forced}
use Rattle.qv_learn.proofs.Reasons.{forces_alone}
use Rattle.qv_learn.proofs.Stacks.{times-cons, times-own, times_none}
use Rattle.qv_learn.specs.Refuting.{Leads, MayCome, Waits, times}
use Rattle.qv_learn.specs.declared.search.Task.{Task}
use Rattle.qv_learn.specs.declared.search.Task.TheVariants.{Visit, Leave}
use Rattle.qv_watch.specs.TrailState.{TrailState}
use Rattle.qv_watch.proofs.Resting.{among_cases, among_first, among_later}

-- a literal of two lists together
pub among-append_left : (xs ys : List Literal) (l : Literal) → among xs l ≡ true → among (xs ++ ys) l ≡ true
among-append_left xs ys l h = list_any-append (same_literal l) xs ys ∙ or_left (among xs l) (among ys l) h

pub among-append_right : (xs ys : List Literal) (l : Literal) → among ys l ≡ true → among (xs ++ ys) l ≡ true
among-append_right xs ys l h = list_any-append (same_literal l) xs ys ∙ or_right (among xs l) (among ys l) h

pub among-append_cases : (xs ys : List Literal) (l : Literal) → among (xs ++ ys) l ≡ true → (among xs l ≡ true) ⊎ (among ys l ≡ true)
among-append_cases xs ys l h = or_cases (among xs l) (among ys l) (sym (list_any-append (same_literal l) xs ys) ∙ h)

-- each literal of one list is in the other
abbrev pub AreIn : List Literal → List Literal → Type 0
AreIn xs ys = (l : Literal) → among xs l ≡ true → among ys l ≡ true

pub in_with_first : (x : Literal) (xs ys : List Literal) → AreIn xs ys → AreIn (x ∷ xs) (x ∷ ys)
in_with_first x xs ys h l there = elim (among_cases x xs l there) [
  | inl same ↦ subst (λ (y : Literal). among (x ∷ ys) y ≡ true) (sym same) (among_first x ys)
  | inr rest ↦ among_later x ys l (h l rest)
]

-- one that is there goes on top
pub in_with_own : (x : Literal) (xs ys : List Literal) → among ys x ≡ true → AreIn xs ys → AreIn (x ∷ xs) ys
in_with_own x xs ys own h l there = elim (among_cases x xs l there) [
  | inl same ↦ subst (λ (y : Literal). among ys y ≡ true) (sym same) own
  | inr rest ↦ h l rest
]

-- where more literals were met before, the tasks wait for no more
pub waits_more : (t : TrailState) (conflict : ℕ) (met more : List Literal) (tasks : List Task) → AreIn met more → Waits t conflict met tasks → Waits t conflict more tasks
waits_more t conflict met more [] h waits = λ m stands. h (negated m) (waits m stands)
waits_more t conflict met more (Visit l ∷ tasks) h waits = waits_more t conflict (l ∷ met) (l ∷ more) tasks (in_with_first l met more h) waits
waits_more t conflict met more (Leave l ∷ tasks) h waits = (
  λ id m came stands differ. h (negated m) (waits.0 id m came stands differ),
  waits_more t conflict (l ∷ met) (l ∷ more) tasks (in_with_first l met more h) waits.1,
)

-- tasks behind visits, whose literals are met before
pub waits_visits : (t : TrailState) (conflict : ℕ) (ls met : List Literal) (tasks : List Task) → Waits t conflict (ls ++ met) tasks → Waits t conflict met (map Visit ls ++ tasks)
waits_visits t conflict [] met tasks waits = waits
waits_visits t conflict (x ∷ xs) met tasks waits =
    waits_visits t conflict xs (x ∷ met) tasks (waits_more t conflict (x ∷ (xs ++ met)) (xs ++ x ∷ met) tasks
    (in_with_own x (xs ++ met) (xs ++ x ∷ met) (among-append_right xs (x ∷ met) x (among_first x met)) (λ l there. elim (among-append_cases xs met l there) [
      | inl one ↦ among-append_left xs (x ∷ met) l one
      | inr other ↦ among-append_right xs (x ∷ met) l (among_later x met l other)
    ]))
    waits)

-- before any hint
pub leads_start : (clauses : List Numbered) (kept : List Literal) → Leads clauses [] kept []
leads_start clauses kept = λ set more come goes. goes

-- where more literals are kept, fewer sets may come
pub leads_more : (clauses : List Numbered) (left kept kept' : List Literal) (hints : List ℕ) → AreIn kept kept' → Leads clauses left kept hints → Leads clauses left kept' hints
leads_more clauses left kept kept' hints h leads = λ set more come goes. leads set more (record { has = λ l there. come.has l (h l there); apart = come.apart }) goes

-- one more hint: the clause forces the literal that is left
module _ (clauses : List Numbered) (left kept : List Literal) (hints : List ℕ) (x : Literal) (id : ℕ) (clause : List Literal) (named : clause_named id clauses ≡ Some clause) (own : among clause x ≡ true) (others : (m : Literal) → among clause m ≡ true → m ≢ x → among (left ++ kept) (negated m) ≡ true) (apart : times x.variable left ≡ 0) where
  unset : (set : List Literal) → MayCome (x ∷ left) kept set → (l : Literal) → l.variable ≡ x.variable → among (left ++ set) l ≡ false
  unset set come l same = false_from_ne_true (among (left ++ set) l) (λ there. elim (among-append_cases left set l there) [
    | inl old ↦ absurd (false≢true (sym (times_none left l (ap (λ v. times v left) same ∙ apart)) ∙ old))
    | inr new ↦ absurd (let none = come.apart l new in let one = times-own l.variable x left (sym same) in omega arith)
  ])

  forces : (set : List Literal) → MayCome (x ∷ left) kept set → hint_reading (left ++ set) (clause_named id clauses) ≡ Forced x
  forces set come =
      ap (hint_reading (left ++ set)) named
      ∙ forces_alone (left ++ set) clause x own (unset set come x refl) (unset set come (negated x) refl) (λ m there differ. elim (among-append_cases left kept (negated m) (others m there differ)) [
        | inl old ↦ among-append_left left set (negated m) old
        | inr one ↦ among-append_right left set (negated m) (come.has (negated m) one)
      ])

  pub leads_hint : Leads clauses left kept hints → Leads clauses (x ∷ left) kept (hints ++ id ∷ [])
  leads_hint leads = λ set more come goes position.
      let before : MayCome left kept set = record {
        has = come.has;
        apart = λ l there. let none = come.apart l there in omega (arith, times-cons l.variable x left);
      } in
      let on : (p : ℕ) → judged_from clauses (map pos (id ∷ more)) p (left ++ set) ≡ Accepted =
      λ p. ap (λ (r : Reading). judged_by r (FailsAt p) (λ l. judged_from clauses (map pos more) (p + 1) (l ∷ (left ++ set)))) (forces set come) ∙ goes (p + 1) in
      subst (λ (hs : List ℕ). judged_from clauses (map pos hs) position set ≡ Accepted) (sym (append_assoc hints (id ∷ []) more)) (leads set (id ∷ more) before on position)
