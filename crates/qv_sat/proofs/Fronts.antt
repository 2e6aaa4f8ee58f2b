-- The first assumptions are true.
use Rattle.std.proofs.Common.{◌≡◌, ◌≢◌, ℕ, zero, suc, ◌+◌, ◌<◌, ◌≤◌, Bool, true, false, List, [], ◌∷◌, ◌++◌, length, take, get_or, min, Some, None, refl, sym, ◌∙◌, ap, subst, arith, inl, inr}
use Rattle.std.specs.List.{slice_get, list_all}
use Rattle.std.specs.Prelude.{IfSome}
use Rattle.std.proofs.lemmas.Bool.{and_from, and_parts, cases_Bool, cases_lt, or_cases, or_left, or_right, false≢true}
use Rattle.std.proofs.lemmas.List.Folds.{list_all-append}
use Rattle.std.proofs.lemmas.List.{take_all, take_more}
use Rattle.std.proofs.lemmas.Option.{none-some}
use Rattle.qv_cnf.specs.Listing.{Numbered}
use Rattle.qv_cnf.specs.Literal.{Literal}
use Rattle.qv_cnf.specs.Refutation.{among, same_literal}
use Rattle.qv_watch.specs.Entries.{Entry, last_level, trues, value_of}
use Rattle.qv_watch.specs.TrailState.{Comes, Continues, IsGrown, IsTrail, TrailState}
use Rattle.qv_watch.proofs.Entering.{last_level-push, same_literal-itself, same_literal-true}
use Rattle.qv_watch.proofs.Lists.{take_next, take_past}
use Rattle.qv_sat.specs.Deciding.{AreOpened, AssumedFirst, IsDue}

-- what passes one test passes another
list_all-weaker : {X : Type 0} (p q : X → Bool) (xs : List X) → ((x : X) → p x ≡ true → q x ≡ true) → list_all p xs ≡ true → list_all q xs ≡ true
list_all-weaker p q [] more h = refl
list_all-weaker p q (x ∷ xs) more h =
    let parts = and_parts (p x) (list_all p xs) h in
    and_from (q x) (list_all q xs) (more x parts.0) (list_all-weaker p q xs more parts.1)

list_all-take : {X : Type 0} (p : X → Bool) (n : ℕ) (xs : List X) → list_all p xs ≡ true → list_all p (take n xs) ≡ true
list_all-take p zero xs h = refl
list_all-take p (suc n) [] h = refl
list_all-take p (suc n) (x ∷ xs) h =
    let parts = and_parts (p x) (list_all p xs) h in
    and_from (p x) (list_all p (take n xs)) parts.0 (list_all-take p n xs parts.1)

-- a front of more
list_all-less : {X : Type 0} (p : X → Bool) (m n : ℕ) (xs : List X) → m ≤ n → list_all p (take n xs) ≡ true → list_all p (take m xs) ≡ true
list_all-less p zero n xs low h = refl
list_all-less p (suc m) zero xs low h = absurd (omega arith)
list_all-less p (suc m) (suc n) [] low h = refl
list_all-less p (suc m) (suc n) (x ∷ xs) low h =
    let parts = and_parts (p x) (list_all p (take n xs)) h in
    and_from (p x) (list_all p (take m xs)) parts.0 (list_all-less p m n xs (omega arith) parts.1)

-- what is true on a front is true
true_later : (n : ℕ) (es : List Entry) (l : Literal) → among (trues (take n es)) l ≡ true → among (trues es) l ≡ true
true_later zero es l h = cc
true_later (suc n) [] l h = cc
true_later (suc n) (x ∷ xs) l h = elim (or_cases (same_literal l x.lit) (among (trues (take n xs)) l) h) [
  | inl s ↦ or_left (same_literal l x.lit) (among (trues xs) l) s
  | inr r ↦ or_right (same_literal l x.lit) (among (trues xs) l) (true_later n xs l r)
]

-- and with more entries behind it
true_more : (es more : List Entry) (l : Literal) → among (trues es) l ≡ true → among (trues (es ++ more)) l ≡ true
true_more [] more l h = absurd (false≢true h)
true_more (x ∷ xs) more l h = elim (or_cases (same_literal l x.lit) (among (trues xs) l) h) [
  | inl s ↦ or_left (same_literal l x.lit) (among (trues (xs ++ more)) l) s
  | inr r ↦ or_right (same_literal l x.lit) (among (trues (xs ++ more)) l) (true_more xs more l r)
]

entry_true : (es : List Entry) (k : ℕ) (e : Entry) → slice_get es k ≡ Some e → among (trues es) e.lit ≡ true
entry_true [] k e h = absurd (none-some e h)
entry_true (x ∷ xs) zero e h = let is : x ≡ e = cc in subst (λ (y : Entry). among (trues (x ∷ xs)) y.lit ≡ true) is (or_left (same_literal x.lit x.lit) (among (trues xs) x.lit) (same_literal-itself x.lit))
entry_true (x ∷ xs) (suc k) e h = or_right (same_literal e.lit x.lit) (among (trues xs) e.lit) (entry_true xs k e h)

true_there : (es : List Entry) (k : ℕ) (e : Entry) (l : Literal) → slice_get es k ≡ Some e → among (e.lit ∷ trues (take k es)) l ≡ true → among (trues es) l ≡ true
true_there es k e l there h = elim (or_cases (same_literal l e.lit) (among (trues (take k es)) l) h) [
  | inl s ↦ subst (λ (x : Literal). among (trues es) x ≡ true) (sym (same_literal-true l e.lit s)) (entry_true es k e there)
  | inr before ↦ true_later k es l before
]

-- the literal that opened the last level
opening : (room : ℕ) (clauses : List Numbered) (es : List Entry) → IsGrown room clauses es → (n : ℕ) → 1 ≤ last_level (take n es) → (k : ℕ) × (e : Entry) × (slice_get es k ≡ Some e) × (e.reason ≡ None) × (e.level ≡ last_level (take n es))
opening room clauses es g zero above = absurd (omega arith)
opening room clauses es g (suc n) above =
    elim (slice_get es n) as (λ o. slice_get es n ≡ o → (k : ℕ) × (e : Entry) × (slice_get es k ≡ Some e) × (e.reason ≡ None) × (e.level ≡ last_level (take (suc n) es))) [
      | None ↦ λ none.
          let same : last_level (take (suc n) es) ≡ last_level (take n es) = ap last_level (take_past es n none) in
          let r = opening room clauses es g n (omega arith) in
          (r.0, r.1, r.2, r.3, r.4 ∙ sym same)
      | Some e ↦ λ there.
          let last : last_level (take (suc n) es) ≡ e.level = ap last_level (take_next es n e there) ∙ last_level-push (take n es) e in
          elim e.reason as (λ r. e.reason ≡ r → (k : ℕ) × (x : Entry) × (slice_get es k ≡ Some x) × (x.reason ≡ None) × (x.level ≡ last_level (take (suc n) es))) [
            | None ↦ λ none. (n, e, there, none, sym last)
            | Some id ↦ λ came.
                let comes : Comes clauses (take n es) e.lit e.level (Some id) = subst (Comes clauses (take n es) e.lit e.level) came (g n e there).comes in
                let r = opening room clauses es g n (omega (arith, comes.0)) in
                (r.0, r.1, r.2, r.3, r.4 ∙ sym comes.0 ∙ sym last)
          ] refl
    ] refl

-- as many of the first assumptions are true as levels are open
front_open : (assumptions : List Literal) (t : TrailState) → IsTrail t → AssumedFirst assumptions t.entries → list_all (among (trues t.entries)) (take t.level assumptions) ≡ true
front_open assumptions t is first = elim (cases_lt 0 t.level) [
  | inl above ↦
      let all : take (length t.entries) t.entries ≡ t.entries = take_all (length t.entries) t.entries (omega arith) in
      let level : last_level (take (length t.entries) t.entries) ≡ t.level = ap last_level all ∙ sym is.level in
      let r = opening t.room t.clauses t.entries is.grown (length t.entries) (omega arith) in
      let at : r.1.level ≡ t.level = r.4 ∙ level in
      elim (first r.0 r.1 r.2 r.3) [
        | inl own ↦ subst (λ (n : ℕ). list_all (among (trues t.entries)) (take n assumptions) ≡ true) at (list_all-weaker (among (r.1.lit ∷ trues (take r.0 t.entries))) (among (trues t.entries)) (take r.1.level assumptions) (λ l h. true_there t.entries r.0 r.1 l r.2 h) own.1)
        | inr every ↦ list_all-take (among (trues t.entries)) t.level assumptions (list_all-weaker (among (trues (take r.0 t.entries))) (among (trues t.entries)) assumptions (λ l h. true_later r.0 t.entries l h) every)
      ]
  | inr low ↦ list_all-less (among (trues t.entries)) t.level 0 assumptions low refl
]

-- at the start of a descent
pub AreOpened-start : (assumptions : List Literal) (t : TrailState) → IsTrail t → AssumedFirst assumptions t.entries → AreOpened t assumptions (min (length assumptions) t.level)
AreOpened-start assumptions t is first = record {
  long = omega arith;
  front = list_all-less (among (trues t.entries)) (min (length assumptions) t.level) t.level assumptions (omega arith) (front_open assumptions t is first);
  enough = omega arith;
}

-- after propagation
pub AreOpened-derived : (assumptions : List Literal) (old new : TrailState) (opened : ℕ) → Continues old.level old.entries new.entries → new.level ≡ old.level → AreOpened old assumptions opened → AreOpened new assumptions opened
AreOpened-derived assumptions old new opened c level o = record {
  long = o.long;
  front = list_all-weaker (among (trues old.entries)) (among (trues new.entries)) (take opened assumptions) (λ l h. subst (λ (es : List Entry). among (trues es) l ≡ true) (sym c.behind) (true_more old.entries c.more l h)) o.front;
  enough = omega (arith, o.enough, level);
}

-- the next assumption
next_front : (assumptions : List Literal) (opened : ℕ) (lit : Literal) → opened < length assumptions → lit ≡ get_or assumptions opened lit → take (opened + 1) assumptions ≡ take opened assumptions ++ lit ∷ []
next_front assumptions opened lit within is = take_more assumptions opened lit within ∙ ap (λ (x : Literal). take opened assumptions ++ x ∷ []) (sym is)

front_next : (p : Literal → Bool) (assumptions : List Literal) (opened : ℕ) (lit : Literal) → opened < length assumptions → lit ≡ get_or assumptions opened lit → list_all p (take opened assumptions) ≡ true → p lit ≡ true → list_all p (take (opened + 1) assumptions) ≡ true
front_next p assumptions opened lit within is front own =
    ap (list_all p) (next_front assumptions opened lit within is) ∙ list_all-append p (take opened assumptions) (lit ∷ []) ∙ and_from (list_all p (take opened assumptions)) (list_all p (lit ∷ [])) front (and_from (p lit) true own refl)

-- one more that is true
pub AreOpened-true : (assumptions : List Literal) (t : TrailState) (opened : ℕ) (lit : Literal) → AreOpened t assumptions opened → opened < length assumptions → lit ≡ get_or assumptions opened lit → among (trues t.entries) lit ≡ true → AreOpened t assumptions (opened + 1)
AreOpened-true assumptions t opened lit o within is own = record {
  long = omega arith;
  front = front_next (among (trues t.entries)) assumptions opened lit within is o.front own;
  enough = omega (arith, o.enough);
}

own_first : (ls : List Literal) (l : Literal) → among (l ∷ ls) l ≡ true
own_first ls l = or_left (same_literal l l) (among ls l) (same_literal-itself l)

with_first : (ls : List Literal) (l m : Literal) → among ls m ≡ true → among (l ∷ ls) m ≡ true
with_first ls l m h = or_right (same_literal m l) (among ls m) h

-- it may be assumed
pub IsDue-next : (assumptions : List Literal) (t : TrailState) (opened : ℕ) (lit : Literal) → AreOpened t assumptions opened → opened < length assumptions → lit ≡ get_or assumptions opened lit → among assumptions lit ≡ true → IsDue assumptions t.entries record { lit = lit; level = t.level + 1; reason = None }
IsDue-next assumptions t opened lit o within is there =
    let p = among (lit ∷ trues t.entries) in
    let front = list_all-weaker (among (trues t.entries)) p (take opened assumptions) (λ m h. with_first (trues t.entries) lit m h) o.front in
    inl (there, list_all-less p (t.level + 1) (opened + 1) assumptions (omega (arith, o.enough)) (front_next p assumptions opened lit within is front (own_first (trues t.entries) lit)))

-- or all are true
pub opened_all : (assumptions : List Literal) (t : TrailState) (opened : ℕ) → AreOpened t assumptions opened → length assumptions ≤ opened → list_all (among (trues t.entries)) assumptions ≡ true
opened_all assumptions t opened o over = subst (λ (xs : List Literal). list_all (among (trues t.entries)) xs ≡ true) (take_all opened assumptions over) o.front

-- after a decision
last_true : (es : List Entry) (e : Entry) → among (trues (es ++ e ∷ [])) e.lit ≡ true
last_true [] e = own_first [] e.lit
last_true (x ∷ xs) e = or_right (same_literal e.lit x.lit) (among (trues (xs ++ e ∷ [])) e.lit) (last_true xs e)

pub AreOpened-own : (assumptions : List Literal) (old new : TrailState) (opened : ℕ) (lit : Literal) → AreOpened old assumptions opened → opened < length assumptions → lit ≡ get_or assumptions opened lit → new.entries ≡ old.entries ++ record { lit = lit; level = old.level + 1; reason = None } ∷ [] → new.level ≡ old.level + 1 → AreOpened new assumptions (min (opened + 1) (length assumptions))
AreOpened-own assumptions old new opened lit o within is entries level =
    let e : Entry = record { lit = lit; level = old.level + 1; reason = None } in
    let least : min (opened + 1) (length assumptions) ≡ opened + 1 = omega arith in
    let p = among (trues new.entries) in
    let own : among (trues new.entries) lit ≡ true = subst (λ (es : List Entry). among (trues es) lit ≡ true) (sym entries) (last_true old.entries e) in
    let front = list_all-weaker (among (trues old.entries)) p (take opened assumptions) (λ m h. subst (λ (es : List Entry). among (trues es) m ≡ true) (sym entries) (true_more old.entries (e ∷ []) m h)) o.front in
    subst (AreOpened new assumptions) (sym least) record {
      long = omega arith;
      front = front_next p assumptions opened lit within is front own;
      enough = omega (arith, o.enough, level);
    }

pub AreOpened-free : (assumptions : List Literal) (old new : TrailState) (opened : ℕ) (e : Entry) → AreOpened old assumptions opened → length assumptions ≤ opened → new.entries ≡ old.entries ++ e ∷ [] → AreOpened new assumptions (min (opened + 1) (length assumptions))
AreOpened-free assumptions old new opened e o over entries =
    let least : min (opened + 1) (length assumptions) ≡ length assumptions = omega arith in
    let p = among (trues new.entries) in
    subst (AreOpened new assumptions) (sym least) record {
      long = omega arith;
      front = list_all-weaker (among (trues old.entries)) p (take (length assumptions) assumptions) (λ m h. subst (λ (es : List Entry). among (trues es) m ≡ true) (sym entries) (true_more old.entries (e ∷ []) m h)) (list_all-less (among (trues old.entries)) (length assumptions) opened assumptions over o.front);
      enough = omega arith;
    }

-- a property of the assumption at a place
pub at_place : (P : Literal → Type 0) (ls : List Literal) (i : ℕ) (l : Literal) → i < length ls → l ≡ get_or ls i l → IfSome (slice_get ls i) P → P l
at_place P [] i l within is h = absurd (omega arith)
at_place P (x ∷ xs) zero l within is h = subst P (sym is) h
at_place P (x ∷ xs) (suc i) l within is h = at_place P xs i l (omega arith) is h

-- a literal without one of the two values has none
pub value_none : (es : List Entry) (l : Literal) → value_of es l ≢ Some true → value_of es l ≢ Some false → value_of es l ≡ None
value_none es l no_true no_false = elim (value_of es l) as (λ o. o ≢ Some true → o ≢ Some false → o ≡ None) [
  | None ↦ λ _ _. refl
  | Some b ↦ λ t f. absurd (elim (cases_Bool b) [ inl on ↦ t (ap Some on) | inr off ↦ f (ap Some off) ])
] no_true no_false
