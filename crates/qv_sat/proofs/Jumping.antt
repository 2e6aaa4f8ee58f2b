-- A learnt clause at the level to which the trail goes back.
use Rattle.std.proofs.Common.{◌≡◌, ◌≢◌, ◌⊎◌, ℕ, ◌<◌, ◌≤◌, true, false, not, ◌&&◌, ◌||◌, List, [], ◌∷◌, Some, None, All, leb, refl, sym, ◌∙◌, ap, subst, arith, inl, inr}
use Rattle.std.specs.List.{list_all, AllByRecursion}
use Rattle.std.proofs.lemmas.Bool.{cases_Bool, cases_lt, eq-eqb, ne_eqb, and_parts, and_from, and_left, or_cases, or_left, or_right, false≢true, le-leb, leb-true, false_from_ne_true}
use Rattle.std.proofs.lemmas.List.Elements.{recursion_from_All}
use Rattle.qv_cnf.specs.Derivation.{is_within}
use Rattle.qv_cnf.specs.Listing.{clause_named}
use Rattle.qv_cnf.specs.Literal.{Literal, negated}
use Rattle.qv_cnf.specs.Refutation.{among, has_none, hint_reading, open_literals, reading_of, same_literal}
use Rattle.qv_cnf.specs.declared.readings.Reading.TheVariants.{Forced, Useless}
use Rattle.qv_watch.specs.Entries.{Entry, entry_at, trues, up_to, value_of, IsAtRest}
use Rattle.qv_watch.specs.Table.{HasNoTwice}
use Rattle.qv_watch.specs.TrailState.{TrailState, IsTrail}
use Rattle.qv_watch.proofs.Entering.{among-none, same_literal-true, same_literal-itself}
use Rattle.qv_watch.proofs.Growing.{once_grown}
use Rattle.qv_watch.proofs.Keeping.{up_to-up_to}
use Rattle.qv_learn.specs.Learning.{Asserts, greatest_level, level_at, level_in}
use Rattle.qv_sat.proofs.Decisions.{among_all}
use Rattle.qv_watch.proofs.Resting.{value-false, open_among}

-- the level of a true literal's variable is that of its entry
level_at-first : (x : Entry) (xs : List Entry) (l : Literal) → x.lit.variable ≡ l.variable → level_at (x ∷ xs) l ≡ x.level
level_at-first x xs l same = ap level_in (let s : entry_at l.variable (x ∷ xs) ≡ Some x = rw (eq-eqb x.lit.variable l.variable same) in s)

level_at-later : (x : Entry) (xs : List Entry) (l : Literal) → x.lit.variable ≢ l.variable → level_at (x ∷ xs) l ≡ level_at xs l
level_at-later x xs l other = ap level_in (let s : entry_at l.variable (x ∷ xs) ≡ entry_at l.variable xs = rw (ne_eqb x.lit.variable l.variable other) in s)

-- a literal that is true behind an entry is of another variable
apart : (x : Entry) (xs : List Entry) (l : Literal) → entry_at x.lit.variable xs ≡ None → among (trues xs) l ≡ true → x.lit.variable ≢ l.variable
apart x xs l fresh t same = false≢true (sym (among-none xs l (ap (λ v. entry_at v xs) (sym same) ∙ fresh)) ∙ t)

-- a literal that came at a level up to this one is true there
pub among-up_to : (n : ℕ) (es : List Entry) (l : Literal) → HasNoTwice es → among (trues es) l ≡ true → level_at es l ≤ n → among (trues (up_to n es)) l ≡ true
among-up_to n [] l once t low = absurd (false≢true t)
among-up_to n (x ∷ xs) l once t low = elim (or_cases (same_literal l x.lit) (among (trues xs) l) t) [
  | inl s ↦
      let is : x.lit.variable ≡ l.variable = ap (λ (y : Literal). y.variable) (sym (same_literal-true l x.lit s)) in
      let level = level_at-first x xs l is in
      rw (le-leb x.level n (omega arith)) (or_left (same_literal l x.lit) (among (trues (up_to n xs)) l) s)
  | inr r ↦
      let level = level_at-later x xs l (apart x xs l once.0 r) in
      let rest : among (trues (up_to n xs)) l ≡ true = among-up_to n xs l once.1 r (omega arith) in
      elim (cases_Bool (leb x.level n)) [
        | inl k ↦ rw k (or_right (same_literal l x.lit) (among (trues (up_to n xs)) l) rest)
        | inr k ↦ rw k rest
      ]
]

-- and the other way
pub up_to-among : (n : ℕ) (es : List Entry) (l : Literal) → HasNoTwice es → among (trues (up_to n es)) l ≡ true → (among (trues es) l ≡ true) × (level_at es l ≤ n)
up_to-among n [] l once t = absurd (false≢true t)
up_to-among n (x ∷ xs) l once t =
    let later : among (trues (up_to n xs)) l ≡ true → (among (trues (x ∷ xs)) l ≡ true) × (level_at (x ∷ xs) l ≤ n) =
    λ r. let p = up_to-among n xs l once.1 r in
    let level = level_at-later x xs l (apart x xs l once.0 p.0) in
    (or_right (same_literal l x.lit) (among (trues xs) l) p.0, omega (arith, p.1)) in
    elim (cases_Bool (leb x.level n)) [
      | inl k ↦
          let h : (same_literal l x.lit || among (trues (up_to n xs)) l) ≡ true = rw k at t in
          elim (or_cases (same_literal l x.lit) (among (trues (up_to n xs)) l) h) [
            | inl s ↦
                let is : x.lit.variable ≡ l.variable = ap (λ (y : Literal). y.variable) (sym (same_literal-true l x.lit s)) in
                let level = level_at-first x xs l is in
                let below = leb-true x.level n k in
                (or_left (same_literal l x.lit) (among (trues xs) l) s, omega arith)
            | inr r ↦ later r
          ]
      | inr k ↦ later (rw k at t)
    ]

all_same : (z : Literal) (zs : List Literal) (l : Literal) → list_all (same_literal z) zs ≡ true → among (z ∷ zs) l ≡ true → z ≡ l
all_same z zs l all t = elim (or_cases (same_literal l z) (among zs l) t) [
  | inl s ↦ sym (same_literal-true l z s)
  | inr r ↦ in_rest zs all r
]
  where
    in_rest : (zs : List Literal) → list_all (same_literal z) zs ≡ true → among zs l ≡ true → z ≡ l
    in_rest [] all r = cc
    in_rest (y ∷ ys) all r =
        let parts = and_parts (same_literal z y) (list_all (same_literal z) ys) all in
        elim (or_cases (same_literal l y) (among ys l) r) [
          | inl s ↦ same_literal-true z y parts.0 ∙ sym (same_literal-true l y s)
          | inr q ↦ in_rest ys parts.1 q
        ]

two_differ : (set zs : List Literal) (a b : Literal) → a ≢ b → among zs a ≡ true → among zs b ≡ true → reading_of set zs ≡ Useless
two_differ set [] a b differ ta tb = cc
two_differ set (z ∷ zs) a b differ ta tb = elim (cases_Bool (list_all (same_literal z) zs)) [
  | inl all ↦ absurd (differ (sym (all_same z zs a all ta) ∙ all_same z zs b all tb))
  | inr some ↦ rw (and_left (list_all (same_literal z) zs) (not (among set z)) some) refl
]

pub two_open : (set lits : List Literal) (a b : Literal) → a ≢ b → among lits a ≡ true → among lits b ≡ true → among set (negated a) ≡ false → among set (negated b) ≡ false → reading_of set (open_literals set lits) ≡ Useless
two_open set lits a b differ ta tb oa ob = two_differ set (open_literals set lits) a b differ (open_among set lits a ta oa) (open_among set lits b tb ob)

-- a literal of the greatest level
at_greatest : (es : List Entry) (lits : List Literal) → 1 ≤ greatest_level es lits → (q : Literal) × (among lits q ≡ true) × (level_at es q ≡ greatest_level es lits)
at_greatest es [] h = absurd (omega arith)
at_greatest es (x ∷ xs) h = elim (cases_lt (level_at es x) (greatest_level es xs)) [
  | inl below ↦ let r = at_greatest es xs (omega arith) in (r.0, or_right (same_literal r.0 x) (among xs r.0) r.1, r.2 ∙ omega arith)
  | inr above ↦ (x, or_left (same_literal x x) (among xs x) (same_literal-itself x), omega arith)
]

-- no other literal has a greater level
within_greatest : (es : List Entry) (lits : List Literal) → AllByRecursion (λ l. level_at es l ≤ greatest_level es lits) lits
within_greatest es lits = go es lits (greatest_level es lits) (omega arith)
  where
    go : (es : List Entry) (lits : List Literal) (n : ℕ) → greatest_level es lits ≤ n → AllByRecursion (λ l. level_at es l ≤ n) lits
    go es [] n h = tt
    go es (x ∷ xs) n h = (omega arith, go es xs n (omega arith))

-- the level to go back to is below the present one
pub level_below : (t : TrailState) (lits : List Literal) (level : ℕ) → 1 ≤ t.level → Asserts t lits level → level < t.level
level_below t lits level above a = let b = go a.others a.below in omega (arith, a.greatest)
  where
    go : (ls : List Literal) → All (λ l. level_at t.entries l < t.level) ls → greatest_level t.entries ls < t.level
    go ls all = rec ls (recursion_from_All (λ l. level_at t.entries l < t.level) ls all)
      where
        rec : (ls : List Literal) → AllByRecursion (λ l. level_at t.entries l < t.level) ls → greatest_level t.entries ls < t.level
        rec [] h = omega arith
        rec (x ∷ xs) h = let r = rec xs h.1 in let b = h.0 in omega arith

-- a literal that came above a level isn't false there
open_above : (es : List Entry) (k : ℕ) (l : Literal) → HasNoTwice es → k < level_at es l → among (trues (up_to k es)) (negated l) ≡ false
open_above es k l once above = false_from_ne_true (among (trues (up_to k es)) (negated l)) (λ t. let p = up_to-among k es (negated l) once t in let low : level_at es l ≤ k = p.1 in omega arith)

-- the clause may be attached after the trail went back
pub IsAtRestBelow-learnt : (t : TrailState) (lits : List Literal) (level : ℕ) → IsTrail t → 1 ≤ t.level → Asserts t lits level → (k : ℕ) → k < level → IsAtRest (up_to k (up_to level t.entries)) lits
IsAtRestBelow-learnt t lits level is above a k below =
    let es = t.entries in
    let once = once_grown t.room t.clauses es is.grown in
    let under = level_below t lits level above a in
    let q = at_greatest es a.others (omega (arith, a.greatest)) in
    let level_q : level_at es q.0 ≡ level = q.2 ∙ sym a.greatest in
    let differ : a.first ≢ q.0 = λ same. let e : t.level ≡ level = sym a.present ∙ ap (level_at es) same ∙ level_q in omega arith in
    let first_in : among lits a.first ≡ true = ap (λ (ls : List Literal). among ls a.first) a.is ∙ or_left (same_literal a.first a.first) (among a.others a.first) (same_literal-itself a.first) in
    let q_in : among lits q.0 ≡ true = ap (λ (ls : List Literal). among ls q.0) a.is ∙ or_right (same_literal q.0 a.first) (among a.others q.0) q.1 in
    subst (λ (ys : List Entry). IsAtRest ys lits) (sym (up_to-up_to k level es (omega arith)))
    (two_open (trues (up_to k es)) lits a.first q.0 differ first_in q_in (open_above es k a.first once (omega (arith, a.present))) (open_above es k q.0 once (omega (arith, level_q))))

-- a clause of which one literal alone isn't false, and that isn't true, is unit or false
opens_are : (set : List Literal) (first : Literal) (lits : List Literal) → AllByRecursion (λ x. (x ≡ first) ⊎ (among set (negated x) ≡ true)) lits → AllByRecursion (λ x. x ≡ first) (open_literals set lits)
opens_are set first [] h = tt
opens_are set first (x ∷ xs) h = elim (cases_Bool (among set (negated x))) [
  | inl m ↦ rw (ap not m) (opens_are set first xs h.1)
  | inr m ↦ rw (ap not m) (elim h.0 [ inl e ↦ e | inr n ↦ absurd (false≢true (sym m ∙ n)) ], opens_are set first xs h.1)
]

all_first : (first z : Literal) (zs : List Literal) → z ≡ first → AllByRecursion (λ x. x ≡ first) zs → list_all (same_literal z) zs ≡ true
all_first first z [] is h = refl
all_first first z (y ∷ ys) is h = and_from (same_literal z y) (list_all (same_literal z) ys) (ap (same_literal z) (h.0 ∙ sym is) ∙ same_literal-itself z) (all_first first z ys is h.1)

not_useless : (set : List Literal) (first : Literal) (zs : List Literal) → AllByRecursion (λ x. x ≡ first) zs → among set first ≡ false → reading_of set zs ≡ Useless → ⊥
not_useless set first [] h f r = cc
not_useless set first (z ∷ zs) h f r =
    let t : (list_all (same_literal z) zs && not (among set z)) ≡ true = and_from (list_all (same_literal z) zs) (not (among set z)) (all_first first z zs h.0 h.1) (ap not (ap (among set) h.0 ∙ f)) in
    let is : reading_of set (z ∷ zs) ≡ Forced z = rw t in
    let no : Forced z ≡ Useless = sym is ∙ r in cc

-- each literal of a contained clause is the first, or one of the others
contained_each : (P : Literal → Type 0) (first : Literal) (others small : List Literal) → AllByRecursion P others → is_within small (first ∷ others) ≡ true → AllByRecursion (λ x. (x ≡ first) ⊎ P x) small
contained_each P first others [] all h = tt
contained_each P first others (x ∷ xs) all h =
    let parts = and_parts (among (first ∷ others) x) (list_all (among (first ∷ others)) xs) h in (
      elim (or_cases (same_literal x first) (among others x) parts.0) [
        | inl s ↦ inl (same_literal-true x first s)
        | inr r ↦ inr (among_all P others x all r)
      ],
      contained_each P first others xs all parts.1,
    )

-- no clause that was settled below the present level is contained in what is learnt there
pub not_within : (t : TrailState) (lits : List Literal) (level : ℕ) → IsTrail t → 1 ≤ t.level → Asserts t lits level → All (λ l. value_of t.entries l ≡ Some false) lits → (id : ℕ) (small : List Literal) → clause_named id t.clauses ≡ Some small → is_within small lits ≡ false
not_within t lits level is above a falsified id small named =
    false_from_ne_true (is_within small lits) (λ contained.
    let es = t.entries in
    let once = once_grown t.room t.clauses es is.grown in
    let set = trues (up_to level es) in
    let under = level_below t lits level above a in
    let all = subst (AllByRecursion (λ l. value_of es l ≡ Some false)) a.is (recursion_from_All (λ l. value_of es l ≡ Some false) lits falsified) in
    let low : AllByRecursion (λ l. level_at es l ≤ level) a.others = subst (λ (n : ℕ). AllByRecursion (λ l. level_at es l ≤ n) a.others) (sym a.greatest) (within_greatest es a.others) in
    let others_false : AllByRecursion (λ l. among set (negated l) ≡ true) a.others = both es level once a.others all.1 low in
    let each = contained_each (λ l. among set (negated l) ≡ true) a.first a.others small others_false (subst (λ (ls : List Literal). is_within small ls ≡ true) a.is contained) in
    let open_first : among set a.first ≡ false = false_from_ne_true (among set a.first) (λ t1.
    let p = up_to-among level es a.first once t1 in
    let low1 : level_at es a.first ≤ level = p.1 in
    let at = a.present in absurd (omega arith)) in
    let settled : reading_of set (open_literals set small) ≡ Useless = sym (ap (hint_reading set) named) ∙ is.settled level under id in
    not_useless set a.first (open_literals set small) (opens_are set a.first small each) open_first settled)
  where
    both : (es : List Entry) (level : ℕ) → HasNoTwice es → (ls : List Literal) → AllByRecursion (λ l. value_of es l ≡ Some false) ls → AllByRecursion (λ l. level_at es l ≤ level) ls → AllByRecursion (λ l. among (trues (up_to level es)) (negated l) ≡ true) ls
    both es level once [] f low = tt
    both es level once (x ∷ xs) f low = (among-up_to level es (negated x) once (value-false es x f.0) low.0, both es level once xs f.1 low.1)

-- at level 0
pub none_within_none : (small : List Literal) → has_none small ≡ false → is_within small [] ≡ false
none_within_none [] h = cc
none_within_none (x ∷ xs) h = refl
