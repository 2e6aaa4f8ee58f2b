-- The reasons of true literals, and the clause of a conflict.
use Rattle.std.proofs.Common.{◌≡◌, ◌≢◌, ℕ, ◌<◌, ◌≤◌, true, false, not, ◌&&◌, List, [], ◌∷◌, take, Some, refl, sym, ◌∙◌, ap, subst, inl, inr}
use Rattle.std.specs.List.{list_all}
use Rattle.std.proofs.lemmas.Bool.{cases_Bool, false≢true, and_from}
use Rattle.qv_cnf.specs.Listing.{clause_named}
use Rattle.qv_cnf.specs.Literal.{Literal, negated}
use Rattle.qv_cnf.specs.Refutation.{among, same_literal, open_literals, reading_of}
use Rattle.qv_cnf.specs.declared.readings.Reading.TheVariants.{Falsified, Forced, Useless}
use Rattle.qv_learn.proofs.Clauses.{false_named, opens_among}
use Rattle.qv_learn.proofs.Trails.{true_entry}
use Rattle.qv_learn.proofs.Positions.{follows, position_there}
use Rattle.qv_learn.specs.Learning.{position_of}
use Rattle.qv_watch.specs.Entries.{reading_on, reason_of, trues}
use Rattle.qv_watch.specs.TrailState.{Holds, IsTrail, TrailState}
use Rattle.qv_watch.specs.declared.propagation.Propagated.TheVariants.{Conflict}
use Rattle.qv_watch.proofs.Entering.{same_literal-itself, same_literal-true}
use Rattle.qv_watch.proofs.Growing.{once_grown}
use Rattle.qv_watch.proofs.Readings.{value_of-true}
use Rattle.qv_watch.proofs.Resting.{among_cases, among_first, among_later, open_among, value-true}

-- a true literal's variable isn't 0
pub true_variable : (t : TrailState) (l : Literal) → IsTrail t → among (trues t.entries) l ≡ true → 1 ≤ l.variable
true_variable t l trail h =
    let x = true_entry t.entries l (once_grown t.room t.clauses t.entries trail.grown) h in
    let m = trail.grown (position_of t.entries l.variable) x.0 (position_there t.entries l.variable x.0 x.1) in
    subst (λ (y : Literal). 1 ≤ y.variable) (sym x.2) m.literal.0

-- the literal that a clause forces is one of its own
pub forced_open : (set opens : List Literal) (x : Literal) → reading_of set opens ≡ Forced x → among opens x ≡ true
forced_open set [] x h = absurd (let e : Falsified ≡ Forced x = h in cc)
forced_open set (y ∷ ys) x h = elim (cases_Bool (list_all (same_literal y) ys && not (among set y))) [
  | inl t ↦ let g : Forced y ≡ Forced x = rw t at h in let is : y ≡ x = cc in subst (λ (l : Literal). among (y ∷ ys) l ≡ true) is (among_first y ys)
  | inr f ↦ absurd (let g : Useless ≡ Forced x = rw f at h in cc)
]

pub forced_own : (set lits : List Literal) (x : Literal) → reading_of set (open_literals set lits) ≡ Forced x → among lits x ≡ true
forced_own set lits x h = opens_among set lits x (forced_open set (open_literals set lits) x h)

all_alike : (x : Literal) (ys : List Literal) → ((l : Literal) → among ys l ≡ true → l ≡ x) → list_all (same_literal x) ys ≡ true
all_alike x [] h = refl
all_alike x (y ∷ ys) h =
    and_from (same_literal x y) (list_all (same_literal x) ys)
    (subst (λ (l : Literal). same_literal x l ≡ true) (sym (h y (among_first y ys))) (same_literal-itself x))
    (all_alike x ys (λ l there. h l (among_later y ys l there)))

alone_open : (set opens : List Literal) (x : Literal) → among set x ≡ false → among opens x ≡ true → ((l : Literal) → among opens l ≡ true → l ≡ x) → reading_of set opens ≡ Forced x
alone_open set [] x unset there h = absurd (false≢true there)
alone_open set (y ∷ ys) x unset there h =
    let is : y ≡ x = h y (among_first y ys) in
    let all : list_all (same_literal y) ys ≡ true = subst (λ (l : Literal). list_all (same_literal l) ys ≡ true) (sym is) (all_alike x ys (λ l t. h l (among_later y ys l t))) in
    let free : among set y ≡ false = ap (among set) is ∙ unset in
    rw (all, free) (ap Forced is)

-- an open literal isn't false
pub opens_unfalse : (set lits : List Literal) (l : Literal) → among (open_literals set lits) l ≡ true → among set (negated l) ≡ false
opens_unfalse set [] l h = absurd (false≢true h)
opens_unfalse set (x ∷ xs) l h = elim (cases_Bool (among set (negated x))) [
  | inl t ↦ opens_unfalse set xs l (rw t at h)
  | inr f ↦ elim (among_cases x (open_literals set xs) l (rw f at h)) [
    | inl same ↦ subst (λ (y : Literal). among set (negated y) ≡ false) (sym same) f
    | inr rest ↦ opens_unfalse set xs l rest
  ]
]

differ_from : (l x : Literal) → same_literal l x ≡ false → l ≢ x
differ_from l x differ same = false≢true (sym differ ∙ subst (λ (y : Literal). same_literal l y ≡ true) same (same_literal-itself l))

-- a clause forces a literal of its own where the others are false, and its variable isn't in the set
pub forces_alone : (set lits : List Literal) (x : Literal) → among lits x ≡ true → among set x ≡ false → among set (negated x) ≡ false → ((m : Literal) → among lits m ≡ true → m ≢ x → among set (negated m) ≡ true) → reading_of set (open_literals set lits) ≡ Forced x
forces_alone set lits x there unset unfalse others =
    alone_open set (open_literals set lits) x unset (open_among set lits x there unfalse) (λ l t. elim (cases_Bool (same_literal l x)) [
      | inl same ↦ same_literal-true l x same
      | inr differ ↦ absurd (false≢true (sym (opens_unfalse set lits l t) ∙ others l (opens_among set lits l t) (differ_from l x differ)))
    ])

-- the reason of a true literal: its clause has the literal, and the others were false when it came
pub record IsReason (t : TrailState) (l : Literal) (id : ℕ) : Type 0 where
  pub lits : List Literal
  pub named : clause_named id t.clauses ≡ Some lits
  pub own : among lits l ≡ true
  pub others : (m : Literal) → among lits m ≡ true → m ≢ l → (among (trues t.entries) (negated m) ≡ true) × (position_of t.entries m.variable < position_of t.entries l.variable)

pub is_reason : (t : TrailState) (l : Literal) (id : ℕ) → IsTrail t → among (trues t.entries) l ≡ true → reason_of t.entries l ≡ Some id → IsReason t l id
is_reason t l id trail true_here came =
    let f = follows t l id trail (value_of-true t.entries l true_here) came in
    record {
      lits = f.lits;
      named = f.named;
      own = forced_own (trues (take (position_of t.entries l.variable) t.entries)) f.lits l f.reads;
      others = λ m there differ. elim (f.others m there) [
        | inl same ↦ absurd (differ same)
        | inr o ↦ (value-true t.entries (negated m) o.0, o.1)
      ];
    }

-- the conflict's clause is attached and false
pub conflict_clause : (t : TrailState) (conflict : ℕ) → IsTrail t → t.answer ≡ Some (Conflict conflict) → (lits : List Literal) × (clause_named conflict t.clauses ≡ Some lits) × (reading_on t.entries lits ≡ Falsified)
conflict_clause t conflict trail answer = false_named (trues t.entries) t.clauses conflict (subst (Holds t.clauses t.entries) answer trail.answer)
