-- Clauses whose watches are covered, through each change of the trail.
use Rattle.std.proofs.Common.{◌≡◌, ℕ, zero, suc, ◌<◌, ◌≤◌, true, false, List, [], ◌∷◌, ◌++◌, length, take, Some, leb, ◌⊎◌, refl, sym, ◌∙◌, ap, subst, arith, inl, inr}
use Rattle.std.specs.List.{slice_get}
use Rattle.std.proofs.lemmas.Bool.{cases_Bool, cases_lt, le-leb, lt-leb, false≢true}
use Rattle.std.proofs.lemmas.Option.{none-some, same_Some, slice_get_within}
use Rattle.qv_cnf.specs.Literal.{Literal, negated}
use Rattle.qv_cnf.specs.Refutation.{among}
use Rattle.qv_cnf.specs.declared.readings.Reading.TheVariants.{Useless}
use Rattle.qv_watch.specs.Attaching.{Stored, attached_in}
use Rattle.qv_watch.specs.Entries.{Entry, trues, last_level, up_to, reading_on, IsSettled}
use Rattle.qv_watch.specs.Table.{HasNoTwice, IsStepped}
use Rattle.qv_watch.specs.Watching.{HasTrue, IsCovered, IsWatch, IsMinded, IsWatchingAt}
use Rattle.qv_watch.specs.declared.watches.Watch.{Watch}
use Rattle.qv_watch.specs.declared.watches.Pair.{Pair}
use Rattle.qv_watch.proofs.Entering.{last_from, last_from-low}
use Rattle.qv_watch.proofs.Growing.{settled_by_places}
use Rattle.qv_watch.proofs.Lists.{slice_get-append}
use Rattle.qv_watch.proofs.Placing.{slice_get-take}
use Rattle.qv_watch.proofs.Resting.{rests-true, rests-two, among_cases, among_later, among_first}

-- a true literal has an entry
pub true_entry : (es : List Entry) (l : Literal) → among (trues es) l ≡ true → (e : Entry) × (j : ℕ) × (slice_get es j ≡ Some e) × (e.lit ≡ l)
true_entry [] l h = absurd (false≢true h)
true_entry (x ∷ xs) l h = elim (among_cases x.lit (trues xs) l h) [
  | inl same ↦ (x, 0, refl, sym same)
  | inr later ↦ let rest = true_entry xs l later in (rest.0, suc rest.1, rest.2, rest.3)
]

pub entry_true : (es : List Entry) (e : Entry) (j : ℕ) → slice_get es j ≡ Some e → among (trues es) e.lit ≡ true
entry_true [] e j h = absurd (none-some e h)
entry_true (x ∷ xs) e zero h = subst (λ (y : Entry). among (trues (x ∷ xs)) y.lit ≡ true) (same_Some x e h) (among_first x.lit (trues xs))
entry_true (x ∷ xs) e (suc j) h = among_later x.lit (trues xs) e.lit (entry_true xs e j h)

-- no entry is of a level above the last
level_most : (level : ℕ) (es : List Entry) (j : ℕ) (e : Entry) → IsStepped level es → slice_get es j ≡ Some e → e.level ≤ last_from level es
level_most level [] j e s h = absurd (none-some e h)
level_most level (x ∷ xs) zero e s h =
    let low = last_from-low x.level xs s.2 in
    let same : x.level ≡ e.level = ap (λ (y : Entry). y.level) (same_Some x e h) in
    omega arith
level_most level (x ∷ xs) (suc j) e s h = level_most x.level xs j e s.2 h

pub level_within : (es : List Entry) (j : ℕ) (e : Entry) → IsStepped 0 es → slice_get es j ≡ Some e → e.level ≤ last_level es
level_within es j e s h = level_most 0 es j e s h

-- a literal of the clause is true now
pub HasTrue-now : (es : List Entry) (lits : List Literal) (l : Literal) → IsStepped 0 es → among lits l ≡ true → among (trues es) l ≡ true → HasTrue (last_level es) es lits
HasTrue-now es lits l s own t =
    let there = true_entry es l t in
    record {
      entry = there.0;
      place = there.1;
      at = there.2;
      low = level_within es there.1 there.0 s there.2;
      own = ap (among lits) there.3 ∙ own;
    }

pub HasTrue-weaker : (n m : ℕ) (es : List Entry) (lits : List Literal) → n ≤ m → HasTrue n es lits → HasTrue m es lits
HasTrue-weaker n m es lits le h = record { entry = h.entry; place = h.place; at = h.at; low = let low = h.low in omega arith; own = h.own }

pub HasTrue-append : (n : ℕ) (es more : List Entry) (lits : List Literal) → HasTrue n es lits → HasTrue n (es ++ more) lits
HasTrue-append n es more lits h = record { entry = h.entry; place = h.place; at = slice_get-append es more h.place h.entry h.at; low = h.low; own = h.own }

pub HasTrue-rests : (n : ℕ) (es : List Entry) (lits : List Literal) → HasNoTwice es → HasTrue n es lits → reading_on es lits ≡ Useless
HasTrue-rests n es lits once h = rests-true es lits h.entry.lit once h.own (entry_true es h.entry h.place h.at)

-- an entry of a level that stays, stays
pub kept_entry : (n : ℕ) (es : List Entry) (j : ℕ) (e : Entry) → slice_get es j ≡ Some e → e.level ≤ n → (i : ℕ) × (slice_get (up_to n es) i ≡ Some e)
kept_entry n [] j e h low = absurd (none-some e h)
kept_entry n (x ∷ xs) zero e h low =
    let same : x ≡ e = same_Some x e h in
    let first : leb x.level n ≡ true = le-leb x.level n (let l : x.level ≡ e.level = ap (λ (y : Entry). y.level) same in omega arith) in
    (0, rw first (ap Some same))
kept_entry n (x ∷ xs) (suc j) e h low =
    let rest = kept_entry n xs j e h low in
    elim (cases_Bool (leb x.level n)) [
      | inl t ↦ (suc rest.0, rw t rest.1)
      | inr f ↦ (rest.0, rw f rest.1)
    ]

pub HasTrue-cut : (m n : ℕ) (es : List Entry) (lits : List Literal) → m ≤ n → HasTrue m es lits → HasTrue m (up_to n es) lits
HasTrue-cut m n es lits le h =
    let there = kept_entry n es h.place h.entry h.at (let low = h.low in omega arith) in
    record { entry = h.entry; place = there.0; at = there.1; low = h.low; own = h.own }

kept_first : (n : ℕ) (x : Entry) (rest : List Entry) (i : ℕ) (e : Entry) → x.level ≤ n → ((j : ℕ) → slice_get rest j ≡ Some e → e.level ≤ n) → slice_get (x ∷ rest) i ≡ Some e → e.level ≤ n
kept_first n x rest zero e low later h = let same : x.level ≡ e.level = ap (λ (y : Entry). y.level) (same_Some x e h) in omega arith
kept_first n x rest (suc i) e low later h = later i h

pub kept_low : (n : ℕ) (es : List Entry) (i : ℕ) (e : Entry) → slice_get (up_to n es) i ≡ Some e → e.level ≤ n
kept_low n [] i e h = absurd (none-some e h)
kept_low n (x ∷ xs) i e h = elim (cases_lt n x.level) [
  | inl above ↦ kept_low n xs i e (rw (lt-leb x.level n above) at h)
  | inr low ↦ kept_first n x (up_to n xs) i e low (λ j g. kept_low n xs j e g) (rw (le-leb x.level n low) at h)
]

old_entry : (es more : List Entry) (i : ℕ) (e : Entry) → i < length es → slice_get (es ++ more) i ≡ Some e → slice_get es i ≡ Some e
old_entry [] more i e low h = absurd (omega arith)
old_entry (x ∷ xs) more zero e low h = h
old_entry (x ∷ xs) more (suc i) e low h = old_entry xs more i e (omega arith) h

-- a watch stays covered where entries come
pub IsCovered-append : (head : ℕ) (es more : List Entry) (lits : List Literal) (w : Literal) → head ≤ length es → IsCovered head es lits w → IsCovered head (es ++ more) lits w
IsCovered-append head es more lits w within c i e low here denied =
    HasTrue-append e.level es more lits (c i e low (old_entry es more i e (omega arith) here) denied)

-- and where levels go
pub IsCovered-cut : (head head' n k : ℕ) (es : List Entry) (lits : List Literal) (w : Literal) → head' ≤ head → up_to n es ≡ take k es → IsCovered head es lits w → IsCovered head' (up_to n es) lits w
IsCovered-cut head head' n k es lits w fewer front c i e low here denied =
    let old : slice_get es i ≡ Some e = slice_get-take es k i e (ap (λ (xs : List Entry). slice_get xs i) (sym front) ∙ here) in
    HasTrue-cut e.level n es lits (kept_low n es i e here) (c i e (omega arith) old denied)

-- a watch that isn't false is covered
pub IsCovered-open : (head : ℕ) (es : List Entry) (lits : List Literal) (w : Literal) → among (trues es) (negated w) ≡ false → IsCovered head es lits w
IsCovered-open head es lits w f i e low here denied = absurd (false≢true (sym f ∙ ap (among (trues es)) (sym denied) ∙ entry_true es e i here))

-- what holds of the watches holds of the clause
pub IsMinded-through : (queue : List ℕ) (head head' : ℕ) (es es' : List Entry) (pairs pairs' : List Pair) (k : ℕ) (lits : List Literal) (P Q : Literal → Type 0) → ((p : Pair) → slice_get pairs k ≡ Some p → slice_get pairs' k ≡ Some p) → (HasTrue 0 es lits → HasTrue 0 es' lits) → ((w : Literal) → IsWatch head es lits P w → IsWatch head' es' lits Q w) → IsMinded queue head es pairs k lits P → IsMinded queue head' es' pairs' k lits Q
IsMinded-through queue head head' es es' pairs pairs' k lits P Q stays held each m = elim m [
  | inl new ↦ inl new
  | inr old ↦ inr (elim old [
    | inl settled ↦ inl (held settled)
    | inr w ↦ inr record { pair = w.pair; at = stays w.pair w.at; apart = w.apart; first = each w.pair.first w.first; second = each w.pair.second w.second; third = w.third; fourth = w.fourth }
  ])
]

-- where no clause is new and each true literal was followed, each is at rest
all_covered : (es : List Entry) (lits : List Literal) (P : Literal → Type 0) (head : ℕ) (w : Literal) → length es ≤ head → IsWatch head es lits P w → (HasTrue (last_level es) es lits ⊎ (among (trues es) (negated w) ≡ false)) ⊎ ((n : ℕ) × HasTrue n es lits)
all_covered es lits P head w all h = elim (cases_Bool (among (trues es) (negated w))) [
  | inl t ↦
      let there = true_entry es (negated w) t in
      let low = slice_get_within es there.1 there.0 there.2 in
      inr (there.0.level, h.covered there.1 there.0 (omega arith) there.2 there.3)
  | inr f ↦ inl (inr f)
]

pub watched_rests : (es : List Entry) (pairs : List Pair) (k : ℕ) (lits : List Literal) (P : Literal → Type 0) (head : ℕ) → HasNoTwice es → length es ≤ head → IsMinded [] head es pairs k lits P → reading_on es lits ≡ Useless
watched_rests es pairs k lits P head once all m = elim m [
  | inl new ↦ absurd (none-some k new.1)
  | inr old ↦ elim old [
    | inl settled ↦ HasTrue-rests 0 es lits once settled
    | inr w ↦ elim (all_covered es lits P head w.pair.first all w.first) [
      | inr held ↦ HasTrue-rests held.0 es lits once held.1
      | inl one ↦ elim one [
        | inl held ↦ HasTrue-rests (last_level es) es lits once held
        | inr f ↦ elim (all_covered es lits P head w.pair.second all w.second) [
          | inr held ↦ HasTrue-rests held.0 es lits once held.1
          | inl two ↦ elim two [
            | inl held ↦ HasTrue-rests (last_level es) es lits once held
            | inr g ↦ rests-two es lits w.pair.first w.pair.second w.first.own w.second.own w.apart f g
          ]
        ]
      ]
    ]
  ]
]

pub watching_settled : (clauses : List Stored) (es : List Entry) (queue : List ℕ) (head : ℕ) (pairs : List Pair) (lists : List (List Watch)) → HasNoTwice es → queue ≡ [] → length es ≤ head → IsWatchingAt clauses es queue head pairs lists → IsSettled (attached_in clauses) es
watching_settled clauses es queue head pairs lists once empty all h =
    settled_by_places clauses es (λ k lits here. watched_rests es pairs k lits _ head once all (rw empty at (h.each k lits here)))
