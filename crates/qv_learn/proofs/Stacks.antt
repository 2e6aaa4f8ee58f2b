-- The tasks of a search, and the literals of a variable.
use Rattle.std.proofs.Common.{◌≡◌, ◌≢◌, ℕ, zero, suc, ◌+◌, ◌<◌, ◌≤◌, Bool, true, false, cond, ◌||◌, List, [], ◌∷◌, ◌++◌, length, map, eqb, get_or, refl, sym, ◌∙◌, ap, subst, arith, inl, inr}
use Rattle.std.specs.Prelude.{All, Contains}
use Rattle.std.proofs.lemmas.Bool.{cases_eq, eq-eqb, eqb-true, ne_eqb, false_from_ne_true, false≢true}
use Rattle.std.proofs.lemmas.List.Elements.{All-cons, All-head, All-tail}
use Rattle.std.proofs.lemmas.List.Sums.{sum_by-append, sum_by-cons}
use Rattle.qv_cnf.specs.Literal.{Literal, negated}
use Rattle.qv_cnf.specs.Refutation.{among}
use Rattle.qv_learn.specs.Learning.{position_of}
use Rattle.qv_learn.specs.Refuting.{IsStacked, opened, times}
use Rattle.qv_learn.specs.Marking.{MarksOne, marked}
use Rattle.qv_learn.specs.Searching.{AreVisits}
use Rattle.qv_learn.specs.declared.search.Task.{Task}
use Rattle.qv_learn.specs.declared.search.Task.TheVariants.{Visit}
use Rattle.qv_watch.specs.Entries.{Entry}
use Rattle.qv_watch.proofs.Resting.{among_cases, among_first, among_later, twice_negated}

-- the literals of a variable, counted
pub times-cons : (v : ℕ) (x : Literal) (xs : List Literal) → times v (x ∷ xs) ≡ cond (eqb x.variable v) 1 0 + times v xs
times-cons v x xs = sum_by-cons (λ (l : Literal). cond (eqb l.variable v) 1 0) x xs

pub times-append : (v : ℕ) (xs ys : List Literal) → times v (xs ++ ys) ≡ times v xs + times v ys
times-append v xs ys = sum_by-append (λ (l : Literal). cond (eqb l.variable v) 1 0) xs ys

pub times-own : (v : ℕ) (x : Literal) (xs : List Literal) → x.variable ≡ v → times v (x ∷ xs) ≡ 1 + times v xs
times-own v x xs same = times-cons v x xs ∙ rw (eq-eqb x.variable v same) refl

pub times-other : (v : ℕ) (x : Literal) (xs : List Literal) → x.variable ≢ v → times v (x ∷ xs) ≡ times v xs
times-other v x xs other = times-cons v x xs ∙ rw (ne_eqb x.variable v other) (omega arith)

pub times_there : (ls : List Literal) (l : Literal) → among ls l ≡ true → 1 ≤ times l.variable ls
times_there [] l h = absurd (false≢true h)
times_there (x ∷ xs) l h = elim (among_cases x xs l h) [
  | inl same ↦ let one = times-own l.variable x xs (ap (λ (y : Literal). y.variable) (sym same)) in omega arith
  | inr rest ↦ let more = times_there xs l rest in omega (arith, times-cons l.variable x xs)
]

pub times_found : (v : ℕ) (ls : List Literal) → 1 ≤ times v ls → (m : Literal) × (among ls m ≡ true) × (m.variable ≡ v)
times_found v [] h = absurd (omega arith)
times_found v (x ∷ xs) h = elim (cases_eq x.variable v) [
  | inl same ↦ (x, among_first x xs, same)
  | inr other ↦
      let rest = times_found v xs (let none = times-other v x xs other in omega arith) in
      (rest.0, among_later x xs rest.0 rest.1, rest.2)
]

pub times_none : (ls : List Literal) (l : Literal) → times l.variable ls ≡ 0 → among ls l ≡ false
times_none ls l none = false_from_ne_true (among ls l) (λ there. let some = times_there ls l there in absurd (omega arith))

-- one more variable counts as met
one_more : (a b : Bool) → (b ≡ true → a ≡ false) → cond (a || b) 1 0 ≡ cond a 1 0 + cond b 1 0
one_more true true h = absurd (false≢true (sym (h refl)))
one_more true false h = refl
one_more false true h = refl
one_more false false h = refl

pub marks_more : (old new : List ℕ) (v w : ℕ) → MarksOne old v new → marked old v ≡ false → cond (marked new w) 1 0 ≡ cond (marked old w) 1 0 + cond (eqb v w) 1 0
marks_more old new v w one unmet =
    ap (λ (b : Bool). cond b 1 0) (one w) ∙ one_more (marked old w) (eqb v w) (λ same. ap (marked old) (sym (eqb-true v w same)) ∙ unmet)

-- the literals that are visited
pub record AreVisited (v : ℕ) (lits : List Literal) (tasks : List Task) : Type 0 where
  pub list : List Literal
  pub is : tasks ≡ map Visit list
  pub each : (l : Literal) → among list l ≡ true → (among lits (negated l) ≡ true) × (l.variable ≢ v)
  pub whole : (m : Literal) → among lits m ≡ true → m.variable ≢ v → among list (negated m) ≡ true

listed : (v : ℕ) (lits : List Literal) (tasks : List Task) → All (λ task. (m : Literal) × (task ≡ Visit (negated m)) × (among lits m ≡ true) × (m.variable ≢ v)) tasks → (list : List Literal) × (tasks ≡ map Visit list) × ((l : Literal) → among list l ≡ true → (among lits (negated l) ≡ true) × (l.variable ≢ v))
listed v lits [] all = ([], refl, λ l h. absurd (false≢true h))
listed v lits (task ∷ tasks) all =
    let first = All-head (λ task. (m : Literal) × (task ≡ Visit (negated m)) × (among lits m ≡ true) × (m.variable ≢ v)) task tasks all in
    let rest = listed v lits tasks (All-tail (λ task. (m : Literal) × (task ≡ Visit (negated m)) × (among lits m ≡ true) × (m.variable ≢ v)) task tasks all) in (
      negated first.0 ∷ rest.0,
      ap (λ (x : Task). x ∷ tasks) first.1 ∙ ap (λ (xs : List Task). Visit (negated first.0) ∷ xs) rest.1,
      λ l h. elim (among_cases (negated first.0) rest.0 l h) [
        | inl same ↦ (subst (λ (x : Literal). among lits x ≡ true) (sym (ap negated same ∙ twice_negated first.0)) first.2, λ own. first.3 (sym (ap (λ (x : Literal). x.variable) same) ∙ own))
        | inr old ↦ rest.2 l old
      ],
    )

visit_there : (ls : List Literal) (l : Literal) (k : ℕ) → k < length (map Visit ls) → get_or (map Visit ls) k (Visit l) ≡ Visit l → among ls l ≡ true
visit_there [] l k within h = absurd (omega arith)
visit_there (x ∷ xs) l zero within h = let same : x ≡ l = cc in subst (λ (y : Literal). among (x ∷ xs) y ≡ true) same (among_first x xs)
visit_there (x ∷ xs) l (suc k) within h = among_later x xs l (visit_there xs l k (omega arith) h)

pub are_visited : (v : ℕ) (lits : List Literal) (tasks : List Task) → AreVisits v lits tasks → AreVisited v lits tasks
are_visited v lits tasks a =
    let l = listed v lits tasks a.each in
    record {
      list = l.0;
      is = l.1;
      each = l.2;
      whole = λ m there other. let c = subst (λ (xs : List Task). Contains xs (Visit (negated m))) l.1 (a.whole m there other) in visit_there l.0 (negated m) c.0 c.1 c.2;
    }

-- tasks with visits before them
pub opened_visits : (ls : List Literal) (tasks : List Task) → opened (map Visit ls ++ tasks) ≡ opened tasks
opened_visits [] tasks = refl
opened_visits (x ∷ xs) tasks = opened_visits xs tasks

pub all_visits : (P : Task → Type 0) (ls : List Literal) (tasks : List Task) → All P tasks → ((l : Literal) → among ls l ≡ true → P (Visit l)) → All P (map Visit ls ++ tasks)
all_visits P [] tasks all h = all
all_visits P (x ∷ xs) tasks all h =
    All-cons P (Visit x) (map Visit xs ++ tasks) (h x (among_first x xs)) (all_visits P xs tasks all (λ l there. h l (among_later x xs l there)))

pub stacked_visits : (es : List Entry) (ls : List Literal) (tasks : List Task) → IsStacked es tasks → ((l : Literal) → among ls l ≡ true → All (λ x. position_of es l.variable < position_of es x.variable) (opened tasks)) → IsStacked es (map Visit ls ++ tasks)
stacked_visits es [] tasks stacked h = stacked
stacked_visits es (x ∷ xs) tasks stacked h = (
  subst (λ (os : List Literal). All (λ y. position_of es x.variable < position_of es y.variable) os) (sym (opened_visits xs tasks)) (h x (among_first x xs)),
  stacked_visits es xs tasks stacked (λ l there. h l (among_later x xs l there)),
)

-- a literal that came before others isn't of their variables
pub none_opened : (es : List Entry) (v : ℕ) (ls : List Literal) → All (λ x. position_of es v < position_of es x.variable) ls → times v ls ≡ 0
none_opened es v [] all = refl
none_opened es v (x ∷ xs) all =
    let first = All-head (λ x. position_of es v < position_of es x.variable) x xs all in
    let other : x.variable ≢ v = λ same. let is = ap (position_of es) same in absurd (omega arith) in
    times-other v x xs other ∙ none_opened es v xs (All-tail (λ x. position_of es v < position_of es x.variable) x xs all)
