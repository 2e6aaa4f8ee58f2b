-- Where each literal that hints force is looked at by a later one, no literal and no hint can be left
-- out.
use Rattle.std.proofs.Common.{◌≡◌, ◌≢◌, ℕ, suc, ◌+◌, ℤ, Bool, true, false, not, ◌&&◌, ◌||◌, List, [], ◌∷◌, ◌++◌, map, Some, pos, refl, sym, ◌∙◌, ap, subst, arith, inl, inr}
use Rattle.std.specs.List.{list_all, list_any}
use Rattle.std.specs.Prelude.{All, AllPairs, Contains}
use Rattle.std.proofs.lemmas.Bool.{and_parts, cases_Bool, false_from_ne_true, false≢true, or_from}
use Rattle.std.proofs.lemmas.List.{map-append}
use Rattle.std.proofs.lemmas.List.Folds.{list_any-append}
use Rattle.std.proofs.lemmas.Option.{same_Some}
use Rattle.qv_cnf.specs.Derivation.{one_fewer, spares_hint, spares_literal}
use Rattle.qv_cnf.specs.Listing.{Numbered, clause_named}
use Rattle.qv_cnf.specs.Literal.{Literal, negated}
use Rattle.qv_cnf.specs.Refutation.{Judgement, FailsAt, LeftOpen, accepts, among, hint_reading, judged_by, judged_clause, judged_from, open_literals, reading_of, same_literal}
use Rattle.qv_cnf.specs.declared.readings.Reading.{Reading}
use Rattle.qv_cnf.specs.declared.readings.Reading.TheVariants.{Falsified, Forced, Useless}
use Rattle.qv_learn.proofs.Clauses.{all_among, forced_others, forces_named, opens_falsified, opens_forced}
use Rattle.qv_learn.proofs.Contained.{Contains-cons_cases}
use Rattle.qv_learn.proofs.Reasons.{forced_open, forced_own, forces_alone, opens_unfalse}
use Rattle.qv_learn.proofs.Waiting.{among-append_right}
use Rattle.qv_learn.specs.Learning.{StandsIn}
use Rattle.qv_watch.proofs.Entering.{same_literal-true}
use Rattle.qv_watch.proofs.Resting.{among_cases, among_first, among_later, open_among, twice_negated}

-- a test of the lists that have one element fewer
any_map : {X Y : Type 0} (f : Y → Bool) (g : X → Y) (xs : List X) → list_any f (map g xs) ≡ list_any (λ x. f (g x)) xs
any_map f g [] = refl
any_map f g (x ∷ xs) = ap (λ (b : Bool). f (g x) || b) (any_map f g xs)

any_same : {X : Type 0} (f g : X → Bool) (xs : List X) → ((x : X) → f x ≡ g x) → list_any f xs ≡ list_any g xs
any_same f g [] h = refl
any_same f g (x ∷ xs) h = ap (λ (b : Bool). b || list_any f xs) (h x) ∙ ap (λ (b : Bool). g x || b) (any_same f g xs h)

fewer_none : {X : Type 0} (f : List X → Bool) (xs : List X) → ((a b : List X) (x : X) → xs ≡ a ++ x ∷ b → f (a ++ b) ≡ false) → list_any f (one_fewer xs) ≡ false
fewer_none f [] h = refl
fewer_none {X} f (x ∷ xs) h =
    or_from (f xs) (list_any f (map (λ (fewer : List X). x ∷ fewer) (one_fewer xs))) (h [] xs x refl)
    (any_map f (λ (fewer : List X). x ∷ fewer) (one_fewer xs) ∙ fewer_none (λ (fewer : List X). f (x ∷ fewer)) xs (λ a b y e. h (x ∷ a) b y (ap (λ (ys : List X). x ∷ ys) e)))

-- the small set is the big one without a literal
record Lacks (p : Literal) (big small : List Literal) : Type 0 where
  out : among small p ≡ false
  other : (l : Literal) → l ≢ p → among small l ≡ among big l
  there : among big p ≡ true

same_not : (a b : Literal) → a ≢ b → same_literal a b ≡ false
same_not a b h = false_from_ne_true (same_literal a b) (λ t. h (same_literal-true a b t))

lacks_more : (p x : Literal) (big small : List Literal) → x ≢ p → Lacks p big small → Lacks p (x ∷ big) (x ∷ small)
lacks_more p x big small h k = record {
  out = or_from (same_literal p x) (among small p) (same_not p x (λ same. h (sym same))) k.out;
  other = λ l differ. ap (λ (b : Bool). same_literal l x || b) (k.other l differ);
  there = among_later x big p k.there;
}

lacks_own : (p : Literal) (set : List Literal) → among set p ≡ false → Lacks p (p ∷ set) set
lacks_own p set off = record {
  out = off;
  other = λ l differ. sym (ap (λ (b : Bool). b || among set l) (same_not l p differ));
  there = among_first p set;
}

-- the literal that a clause forces isn't in the set
forced_unset : (set opens : List Literal) (x : Literal) → reading_of set opens ≡ Forced x → among set x ≡ false
forced_unset set [] x h = absurd (let e : Falsified ≡ Forced x = h in cc)
forced_unset set (y ∷ ys) x h = elim (cases_Bool (list_all (same_literal y) ys && not (among set y))) [
  | inl t ↦
      let g : Forced y ≡ Forced x = rw t at h in
      let is : y ≡ x = cc in
      false_from_ne_true (among set x) (λ on. false≢true (sym (ap not (ap (among set) is ∙ on)) ∙ (and_parts (list_all (same_literal y) ys) (not (among set y)) t).1))
  | inr f ↦ absurd (let g : Useless ≡ Forced x = rw f at h in cc)
]

pub not_falsified : (set lits : List Literal) (l : Literal) → among lits l ≡ true → among set (negated l) ≡ false → reading_of set (open_literals set lits) ≡ Falsified → ⊥
not_falsified set lits l there off h = opens_falsified set (open_literals set lits) l h (open_among set lits l there off)

useless : (r : Reading) → (r ≡ Falsified → ⊥) → ((x : Literal) → r ≡ Forced x → ⊥) → r ≡ Useless
useless Falsified h k = absurd (h refl)
useless (Forced x) h k = absurd (k x refl)
useless Useless h k = refl

ends_open : (r : Reading) (position : ℕ) → (r ≡ Falsified → ⊥) → accepts (judged_by r (FailsAt position) (λ l. LeftOpen)) ≡ false
ends_open Falsified position h = absurd (h refl)
ends_open (Forced x) position h = refl
ends_open Useless position h = refl

-- a hint's clause has the literal's negation
abbrev pub IsLookedAt : List Numbered → List ℕ → Literal → Type 0
IsLookedAt clauses ids p = (k : ℕ) × Contains ids k × StandsIn clauses k (negated p)

-- each hint but the last forces a literal that a later one looks at, and then the last is false
abbrev pub Chains : List Numbered → List Literal → List ℕ → ℕ → Type 0
Chains clauses set [] last = hint_reading set (clause_named last clauses) ≡ Falsified
Chains clauses set (id ∷ ids) last =
    (x : Literal) × (hint_reading set (clause_named id clauses) ≡ Forced x) × IsLookedAt clauses (ids ++ last ∷ []) x × Chains clauses (x ∷ set) ids last

module _ (clauses : List Numbered) where
  abbrev judged : List ℕ → ℕ → List Literal → Judgement
  judged ids position set = judged_from clauses (map pos ids) position set

  -- from a set without a literal that is looked at, they don't refute
  lacking : (ids : List ℕ) (last : ℕ) (p : Literal) (big small : List Literal) (position : ℕ) → Chains clauses big ids last → Lacks p big small → IsLookedAt clauses (ids ++ last ∷ []) p → accepts (judged (ids ++ last ∷ []) position small) ≡ false
  lacking [] last p big small position falsified k looked =
      let own : last ≡ looked.0 = elim (Contains-cons_cases last [] looked.0 looked.1) [ inl same ↦ same | inr none ↦ absurd (omega (arith, none.1)) ] in
      let stands : StandsIn clauses last (negated p) = subst (λ (id : ℕ). StandsIn clauses id (negated p)) (sym own) looked.2 in
      ends_open (hint_reading small (clause_named last clauses)) position (λ h.
      not_falsified small stands.0 (negated p) stands.2 (ap (among small) (twice_negated p) ∙ k.out) (sym (ap (hint_reading small) stands.1) ∙ h))
  lacking (id ∷ ids) last p big small position chains k looked =
      let x = chains.0 in
      let f = forces_named big clauses id x chains.1 in
      let own = forced_own big f.0 x f.2 in
      let unset = forced_unset big (open_literals big f.0) x f.2 in
      let unfalse = opens_unfalse big f.0 x (forced_open big (open_literals big f.0) x f.2) in
      let apart : x ≢ p = λ same. false≢true (sym unset ∙ ap (among big) same ∙ k.there) in
      let reads : hint_reading small (clause_named id clauses) ≡ reading_of small (open_literals small f.0) = ap (hint_reading small) f.1 in
      let goes_on : Reading → Judgement = λ r. judged_by r (FailsAt position) (λ l. judged (ids ++ last ∷ []) (position + 1) (l ∷ small)) in
      elim (cases_Bool (among f.0 (negated p))) [
        | inl there ↦
            let differ : negated x ≢ p = λ same. false≢true (sym unfalse ∙ ap (among big) same ∙ k.there) in
            let off : among small (negated x) ≡ false = k.other (negated x) differ ∙ unfalse in
            let open_p : among small (negated (negated p)) ≡ false = ap (among small) (twice_negated p) ∙ k.out in
            let none = useless (reading_of small (open_literals small f.0)) (not_falsified small f.0 x own off) (λ y h.
            let one = opens_forced small (open_literals small f.0) y x h (open_among small f.0 x own off) in
            let two = opens_forced small (open_literals small f.0) y (negated p) h (open_among small f.0 (negated p) there open_p) in
            differ (ap negated (one ∙ sym two) ∙ twice_negated p)) in
            ap (λ (r : Reading). accepts (goes_on r)) (reads ∙ none)
        | inr gone ↦
            let not_there : (m : Literal) → among f.0 m ≡ true → negated m ≢ p = λ m there same. false≢true (sym gone ∙ ap (among f.0) (sym (ap negated same) ∙ twice_negated m) ∙ there) in
            let forced = forces_alone small f.0 x own (k.other x apart ∙ unset) (k.other (negated x) (not_there x own) ∙ unfalse) (λ m there differ. elim (forced_others big f.0 x f.2 m there) [
              | inl same ↦ absurd (differ same)
              | inr on ↦ k.other (negated m) (not_there m there) ∙ on
            ]) in
            let later : IsLookedAt clauses (ids ++ last ∷ []) p = elim (Contains-cons_cases id (ids ++ last ∷ []) looked.0 looked.1) [
              | inl same ↦
                  let is : Some f.0 ≡ Some looked.2.0 = sym f.1 ∙ ap (λ (i : ℕ). clause_named i clauses) same ∙ looked.2.1 in
                  let lits : f.0 ≡ looked.2.0 = same_Some f.0 looked.2.0 is in
                  absurd (false≢true (sym gone ∙ ap (λ (ls : List Literal). among ls (negated p)) lits ∙ looked.2.2))
              | inr rest ↦ (looked.0, rest, looked.2)
            ] in
            ap (λ (r : Reading). accepts (goes_on r)) (reads ∙ forced) ∙ lacking ids last p (x ∷ big) (x ∷ small) (position + 1) chains.3 (lacks_more p x big small apart k) later
      ]

  -- no hint can be left out
  hints_here : (ids : List ℕ) (last : ℕ) (set : List Literal) (position : ℕ) → Chains clauses set ids last → list_any (λ fewer. accepts (judged_from clauses fewer position set)) (one_fewer (map pos (ids ++ last ∷ []))) ≡ false
  hints_here [] last set position chains = refl
  hints_here (id ∷ ids) last set position chains =
      let x = chains.0 in
      let hs : List ℤ = map pos (ids ++ last ∷ []) in
      let f = forces_named set clauses id x chains.1 in
      let unset = forced_unset set (open_literals set f.0) x f.2 in
      let by : List ℤ → Bool = λ fewer. accepts (judged_from clauses fewer position set) in
      let longer : List ℤ → Bool = λ fewer. by (pos id ∷ fewer) in
      let after : List ℤ → Bool = λ fewer. accepts (judged_from clauses fewer (position + 1) (x ∷ set)) in
      let goes_on : List ℤ → Reading → Judgement = λ fewer r. judged_by r (FailsAt position) (λ l. judged_from clauses fewer (position + 1) (l ∷ set)) in
      or_from (by hs) (list_any by (map (λ (fewer : List ℤ). pos id ∷ fewer) (one_fewer hs)))
      (lacking ids last x (x ∷ set) set position chains.3 (lacks_own x set unset) chains.2)
      (any_map by (λ (fewer : List ℤ). pos id ∷ fewer) (one_fewer hs)
      ∙ any_same longer after (one_fewer hs) (λ fewer. ap (λ (r : Reading). accepts (goes_on fewer r)) chains.1)
      ∙ hints_here ids last (x ∷ set) (position + 1) chains.3)

  pub hints_needed : (lits : List Literal) (ids : List ℕ) (last : ℕ) → Chains clauses (map negated lits) ids last → spares_hint clauses lits (map pos (ids ++ last ∷ [])) ≡ false
  hints_needed lits ids last chains = hints_here ids last (map negated lits) 1 chains

-- a list with a literal of another variable than all others
AllPairs-rest : {X : Type 0} (R : X → X → Type 0) (x : X) (xs : List X) → AllPairs R (x ∷ xs) → AllPairs R xs
AllPairs-rest R x xs h = λ i j d less within. h (suc i) (suc j) d (omega arith) (omega arith)

AllPairs-first : {X : Type 0} (R : X → X → Type 0) (x : X) (xs : List X) → AllPairs R (x ∷ xs) → All (R x) xs
AllPairs-first R x xs h = λ k d within. h 0 (suc k) d (omega arith) (omega arith)

abbrev Differ : Literal → Literal → Type 0
Differ l m = l.variable ≢ m.variable

apart_out : (a b : List Literal) (l m : Literal) → AllPairs Differ (a ++ l ∷ b) → among (a ++ b) m ≡ true → m.variable ≢ l.variable
apart_out [] b l m h there = λ same. all_among (λ x. l.variable ≢ x.variable) b m (AllPairs-first Differ l b h) there (sym same)
apart_out (x ∷ a) b l m h there = elim (among_cases x (a ++ b) m there) [
  | inl same ↦ subst (λ (y : Literal). y.variable ≢ l.variable) (sym same) (all_among (λ y. x.variable ≢ y.variable) (a ++ l ∷ b) l (AllPairs-first Differ x (a ++ l ∷ b) h) (among-append_right a (l ∷ b) l (among_first l b)))
  | inr rest ↦ apart_out a b l m (AllPairs-rest Differ x (a ++ l ∷ b) h) rest
]

negated_in : (ls : List Literal) (m : Literal) → among (map negated ls) m ≡ true → among ls (negated m) ≡ true
negated_in [] m h = h
negated_in (x ∷ xs) m h = elim (among_cases (negated x) (map negated xs) m h) [
  | inl same ↦ subst (λ (y : Literal). among (x ∷ xs) y ≡ true) (sym (ap negated same ∙ twice_negated x)) (among_first x xs)
  | inr rest ↦ among_later x xs (negated m) (negated_in xs m rest)
]

-- the negations of the others lack that of the one
lacks_negated : (a b : List Literal) (l : Literal) → AllPairs Differ (a ++ l ∷ b) → Lacks (negated l) (map negated (a ++ l ∷ b)) (map negated (a ++ b))
lacks_negated a b l h =
    let front : List Literal = map negated a in
    let back : List Literal = map negated b in
    let small : map negated (a ++ b) ≡ front ++ back = map-append negated a b in
    let big : map negated (a ++ l ∷ b) ≡ front ++ negated l ∷ back = map-append negated a (l ∷ b) in
    record {
      out = false_from_ne_true (among (map negated (a ++ b)) (negated l)) (λ there.
          let here = subst (λ (m : Literal). among (a ++ b) m ≡ true) (twice_negated l) (negated_in (a ++ b) (negated l) there) in
          apart_out a b l l h here refl);
      other = λ m differ.
          ap (λ (ls : List Literal). among ls m) small ∙ list_any-append (same_literal m) front back
          ∙ ap (λ (x : Bool). among front m || (x || among back m)) (sym (same_not m (negated l) differ))
          ∙ sym (ap (λ (ls : List Literal). among ls m) big ∙ list_any-append (same_literal m) front (negated l ∷ back));
      there = ap (λ (ls : List Literal). among ls (negated l)) big ∙ among-append_right front (negated l ∷ back) (negated l) (among_first (negated l) back);
    }

-- no literal can be left out that is looked at
pub literals_needed : (clauses : List Numbered) (lits : List Literal) (ids : List ℕ) (last : ℕ) → AllPairs Differ lits → Chains clauses (map negated lits) ids last → ((l : Literal) → among lits l ≡ true → IsLookedAt clauses (ids ++ last ∷ []) (negated l)) → spares_literal clauses lits (map pos (ids ++ last ∷ [])) ≡ false
literals_needed clauses lits ids last apart chains looked =
    fewer_none (λ fewer. accepts (judged_clause clauses fewer (map pos (ids ++ last ∷ [])))) lits (λ a b l is.
    let lacks = subst (λ (ls : List Literal). Lacks (negated l) (map negated ls) (map negated (a ++ b))) (sym is) (lacks_negated a b l (subst (AllPairs Differ) is apart)) in
    let there : among lits l ≡ true = ap (λ (ls : List Literal). among ls l) is ∙ among-append_right a (l ∷ b) l (among_first l b) in
    lacking clauses ids last (negated l) (map negated lits) (map negated (a ++ b)) 1 chains lacks (looked l there))
