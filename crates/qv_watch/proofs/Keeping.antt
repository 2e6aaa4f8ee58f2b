-- What every trail keeps, through each change.
use Rattle.std.proofs.Common.{◌≡◌, ◌≢◌, ℕ, zero, suc, ◌+◌, ◌<◌, ◌≤◌, not, List, [], ◌∷◌, ◌++◌, length, take, drop, max, Option, Some, None, All, eqb, leb, refl, sym, ◌∙◌, ap, subst, arith, inl, inr}
use Rattle.std.specs.Prelude.{IsSome}
use Rattle.std.specs.List.{slice_get, list_any, AllByRecursion}
use Rattle.std.proofs.lemmas.Bool.{cases_Bool, cases_eq, cases_lt, ne_eqb, eq-eqb, le-leb, lt-leb}
use Rattle.std.proofs.lemmas.List.{take-append-drop, take_all}
use Rattle.std.proofs.lemmas.List.Elements.{recursion_from_All, All-push, All-weaker, All-filter}
use Rattle.std.proofs.lemmas.Option.{none-some, same_Some}
use Rattle.qv_cnf.specs.Listing.{Numbered, clause_named, without}
use Rattle.qv_cnf.specs.Literal.{Literal, IsLiteral}
use Rattle.qv_cnf.specs.Refutation.{hint_reading}
use Rattle.qv_cnf.specs.declared.readings.Reading.TheVariants.{Forced, Useless}
use Rattle.qv_watch.specs.Entries.{Entry, trues, value_of, last_level, up_to, says, IsAtRest, IsSettled}
use Rattle.qv_watch.specs.Scanning.{IsSettledBelow}
use Rattle.qv_watch.specs.Table.{Entered, IsStepped}
use Rattle.qv_watch.specs.TrailState.{Comes, Continues, Holds, IsAtRestBelow, IsGrown, IsTrail, TrailState, without_conflict}
use Rattle.qv_watch.specs.Viewed.{state_of}
use Rattle.qv_watch.specs.declared.propagation.Propagated.{Propagated}
use Rattle.qv_watch.specs.declared.propagation.Propagated.TheVariants.{Quiet, Conflict}
use Rattle.qv_watch.proofs.Entering.{last_level-push, IsStepped-push}
use Rattle.qv_watch.proofs.Growing.{Continues-level, IsGrown-front, IsGrown-push}
use Rattle.qv_watch.proofs.Lists.{take_next, take_past}
use Rattle.qv_watch.proofs.Valuing.{cut_end, up_to-above}

useless_forces : (l : Literal) → Useless ≡ Forced l → ⊥
useless_forces l h = cc

-- a clause keeps its id where others come behind
named-append : (clauses more : List Numbered) (id : ℕ) (lits : List Literal) → clause_named id clauses ≡ Some lits → clause_named id (clauses ++ more) ≡ Some lits
named-append [] more id lits h = absurd (none-some lits h)
named-append (c ∷ cs) more id lits h = elim (cases_Bool (eqb c.id id)) [
  | inl t ↦ let g : Some c.lits ≡ Some lits = rw t at h in rw t g
  | inr f ↦ rw f (named-append cs more id lits (rw f at h))
]

named-append_none : (clauses more : List Numbered) (id : ℕ) → clause_named id clauses ≡ None → clause_named id (clauses ++ more) ≡ clause_named id more
named-append_none [] more id h = refl
named-append_none (c ∷ cs) more id h = elim (cases_Bool (eqb c.id id)) [
  | inl t ↦ absurd (none-some c.lits (sym (rw t at h)))
  | inr f ↦ rw f (named-append_none cs more id (rw f at h))
]

named-without_same : (clauses : List Numbered) (id : ℕ) → clause_named id (without (id ∷ []) clauses) ≡ None
named-without_same [] id = refl
named-without_same (c ∷ cs) id = elim (cases_Bool (eqb c.id id)) [
  | inl t ↦ rw t (named-without_same cs id)
  | inr f ↦ rw (f, f) (named-without_same cs id)
]

named-without_other : (clauses : List Numbered) (id other : ℕ) → other ≢ id → clause_named other (without (id ∷ []) clauses) ≡ clause_named other clauses
named-without_other [] id other h = refl
named-without_other (c ∷ cs) id other h = elim (cases_eq c.id id) [
  | inl same ↦ rw (eq-eqb c.id id same, ne_eqb c.id other (λ e. h (sym e ∙ same))) (named-without_other cs id other h)
  | inr apart ↦ rw (ne_eqb c.id id apart) (elim (cases_Bool (eqb c.id other)) [
    | inl t ↦ rw t refl
    | inr f ↦ rw f (named-without_other cs id other h)
  ])
]

-- each entry may stand there in another trail where it may in this one
grown_like : (room room' : ℕ) (clauses clauses' : List Numbered) (es : List Entry) → room ≤ room' → IsGrown room clauses es → ((k id : ℕ) (e : Entry) → slice_get es k ≡ Some e → e.reason ≡ Some id → says clauses (take k es) id ≡ Forced e.lit → says clauses' (take k es) id ≡ Forced e.lit) → IsGrown room' clauses' es
grown_like room room' clauses clauses' es more g same k e there =
    let m = g k e there in
    record {
      literal = m.literal;
      has_room = let r = m.has_room in omega arith;
      fresh = m.fresh;
      comes = elim e.reason as (λ r. e.reason ≡ r → Comes clauses (take k es) e.lit e.level r → Comes clauses' (take k es) e.lit e.level r) [
        | None ↦ λ _ c. c
        | Some id ↦ λ is c. (c.0, same k id e there is c.1)
      ] refl m.comes;
    }

-- more room
pub IsTrail-room : (clauses : List Numbered) (values : Entered) (answer : Option Propagated) (n : ℕ) → IsTrail (state_of clauses values answer) → IsTrail (state_of clauses record { room = max values.room n; entries = values.entries } answer)
IsTrail-room clauses values answer n t = record {
  grown = grown_like values.room (max values.room n) clauses clauses values.entries (omega arith) t.grown (λ k id e there is forces. forces);
  level = refl;
  settled = t.settled;
  answer = t.answer;
  has_room = All-weaker (λ c. All (λ l. l.variable ≤ values.room) c.lits) (λ c. All (λ l. l.variable ≤ max values.room n) c.lits) (λ c all. All-weaker (λ l. l.variable ≤ values.room) (λ l. l.variable ≤ max values.room n) (λ l h. omega arith) c.lits all) clauses t.has_room;
}

-- one more clause
says-append : (clauses more : List Numbered) (es : List Entry) (id : ℕ) (l : Literal) → says clauses es id ≡ Forced l → says (clauses ++ more) es id ≡ Forced l
says-append clauses more es id l h =
    elim (clause_named id clauses) as (λ o. clause_named id clauses ≡ o → hint_reading (trues es) o ≡ Forced l → says (clauses ++ more) es id ≡ Forced l) [
      | None ↦ λ _ g. absurd (useless_forces l g)
      | Some lits ↦ λ named g. ap (hint_reading (trues es)) (named-append clauses more id lits named) ∙ g
    ] refl h

IsSettled-push : (clauses : List Numbered) (es : List Entry) (id : ℕ) (lits : List Literal) → IsSettled clauses es → IsAtRest es lits → IsSettled (clauses ++ record { id = id; lits = lits } ∷ []) es
IsSettled-push clauses es id lits s rests other =
    let new : Numbered = record { id = id; lits = lits } in
    elim (clause_named other clauses) as (λ o. clause_named other clauses ≡ o → hint_reading (trues es) o ≡ Useless → says (clauses ++ new ∷ []) es other ≡ Useless) [
      | None ↦ λ none g. ap (hint_reading (trues es)) (named-append_none clauses (new ∷ []) other none) ∙ elim (cases_Bool (eqb id other)) [
        | inl t ↦ rw t rests
        | inr f ↦ rw f refl
      ]
      | Some old ↦ λ named g. ap (hint_reading (trues es)) (named-append clauses (new ∷ []) other old named) ∙ g
    ] refl (s other)

pub IsTrail-attach : (clauses : List Numbered) (values : Entered) (answer : Option Propagated) (id : ℕ) (lits : List Literal) → IsTrail (state_of clauses values answer) → All (λ l. l.variable ≤ values.room) lits → IsAtRestBelow (state_of clauses values answer) lits → IsTrail (state_of (clauses ++ record { id = id; lits = lits } ∷ []) values None)
IsTrail-attach clauses values answer id lits t rooms rests =
    let new : Numbered = record { id = id; lits = lits } in
    record {
      grown = grown_like values.room values.room clauses (clauses ++ new ∷ []) values.entries (omega arith) t.grown (λ k other e there is forces. says-append clauses (new ∷ []) (take k values.entries) other e.lit forces);
      level = refl;
      settled = λ k below. IsSettled-push clauses (up_to k values.entries) id lits (t.settled k below) (rests k below);
      answer = tt;
      has_room = All-push (λ c. All (λ l. l.variable ≤ values.room) c.lits) clauses new t.has_room rooms;
    }

-- one clause less
IsSettled-without : (clauses : List Numbered) (es : List Entry) (id : ℕ) → IsSettled clauses es → IsSettled (without (id ∷ []) clauses) es
IsSettled-without clauses es id s other = elim (cases_eq other id) [
  | inl same ↦ ap (hint_reading (trues es)) (ap (λ n. clause_named n (without (id ∷ []) clauses)) same ∙ named-without_same clauses id)
  | inr apart ↦ ap (hint_reading (trues es)) (named-without_other clauses id other apart) ∙ s other
]

Holds-without : (clauses : List Numbered) (es : List Entry) (answer : Option Propagated) (id : ℕ) → Holds clauses es answer → Holds (without (id ∷ []) clauses) es (without_conflict answer)
Holds-without clauses es None id h = tt
Holds-without clauses es (Some Quiet) id h = IsSettled-without clauses es id h
Holds-without clauses es (Some (Conflict other)) id h = tt

reason_at : (es : List Entry) (k id : ℕ) (e : Entry) → AllByRecursion (λ x. x.reason ≢ Some id) es → slice_get es k ≡ Some e → e.reason ≢ Some id
reason_at [] k id e all h = absurd (none-some e h)
reason_at (x ∷ xs) zero id e all h = let same : x ≡ e = same_Some x e h in subst (λ (y : Entry). y.reason ≢ Some id) same all.0
reason_at (x ∷ xs) (suc k) id e all h = reason_at xs k id e all.1 h

pub IsTrail-detach : (clauses : List Numbered) (values : Entered) (answer : Option Propagated) (id : ℕ) → IsTrail (state_of clauses values answer) → All (λ e. e.reason ≢ Some id) values.entries → IsTrail (state_of (without (id ∷ []) clauses) values (without_conflict answer))
IsTrail-detach clauses values answer id t unused = record {
  grown = grown_like values.room values.room clauses (without (id ∷ []) clauses) values.entries (omega arith) t.grown (λ k other e there is forces.
      let apart : other ≢ id = λ same. reason_at values.entries k id e (recursion_from_All (λ x. x.reason ≢ Some id) values.entries unused) there (is ∙ ap Some same) in
      ap (hint_reading (trues (take k values.entries))) (named-without_other clauses id other apart) ∙ forces);
  level = refl;
  settled = λ k below. IsSettled-without clauses (up_to k values.entries) id (t.settled k below);
  answer = Holds-without clauses values.entries answer id t.answer;
  has_room = All-filter (λ c. not (list_any (λ n. eqb c.id n) (id ∷ []))) (λ c. All (λ l. l.variable ≤ values.room) c.lits) clauses t.has_room;
}

-- levels rise by steps of one
stepped_up_to : (room : ℕ) (clauses : List Numbered) (es : List Entry) (n : ℕ) → IsGrown room clauses es → IsStepped 0 (take n es)
stepped_up_to room clauses es zero g = tt
stepped_up_to room clauses es (suc n) g = elim (slice_get es n) as (λ o. slice_get es n ≡ o → IsStepped 0 (take (suc n) es)) [
  | None ↦ λ none. rw (take_past es n none) (stepped_up_to room clauses es n g)
  | Some e ↦ λ there.
      let m = g n e there in
      let bounds : (last_level (take n es) ≤ e.level) × (e.level ≤ last_level (take n es) + 1) = elim e.reason as (λ r. Comes clauses (take n es) e.lit e.level r → (last_level (take n es) ≤ e.level) × (e.level ≤ last_level (take n es) + 1)) [
        | None ↦ λ c. (omega arith, omega arith)
        | Some id ↦ λ c. (omega (arith, c.0), omega (arith, c.0))
      ] m.comes in
      rw (take_next es n e there) (IsStepped-push (take n es) e (stepped_up_to room clauses es n g) bounds.0 bounds.1)
] refl

pub stepped_grown : (room : ℕ) (clauses : List Numbered) (es : List Entry) → IsGrown room clauses es → IsStepped 0 es
stepped_grown room clauses es g = subst (IsStepped 0) (take_all (length es) es (omega arith)) (stepped_up_to room clauses es (length es) g)

-- a literal is assumed where no clause is unit or false
pub IsTrail-assume : (clauses : List Numbered) (values : Entered) (lit : Literal) → IsTrail (state_of clauses values (Some Quiet)) → IsLiteral lit → lit.variable ≤ values.room → value_of values.entries lit ≡ None → IsTrail (state_of clauses record { room = values.room; entries = values.entries ++ record { lit = lit; level = last_level values.entries + 1; reason = None } ∷ [] } None)
IsTrail-assume clauses values lit t literal room fresh =
    let es = values.entries in
    let e : Entry = record { lit = lit; level = last_level es + 1; reason = None } in
    let level : last_level (es ++ e ∷ []) ≡ last_level es + 1 = last_level-push es e in
    record {
      grown = IsGrown-push values.room clauses es e t.grown record { literal = literal; has_room = room; fresh = fresh; comes = refl };
      level = refl;
      settled = λ k below.
          let under : k ≤ last_level es = omega (arith, level) in
          subst (IsSettled clauses) (sym (up_to-above k es e (omega arith))) (elim (cases_lt k (last_level es)) [
            | inl lower ↦ t.settled k lower
            | inr top ↦ subst (IsSettled clauses) (sym (cut_end k es (stepped_grown values.room clauses es t.grown) top)) t.answer
          ]);
      answer = tt;
      has_room = t.has_room;
    }

-- entries of a level don't stand below it
up_to-more : (level k : ℕ) (old more : List Entry) → k < level → AllByRecursion (λ x. (x.level ≡ level) × IsSome x.reason) more → up_to k (old ++ more) ≡ up_to k old
up_to-more level k [] [] below all = refl
up_to-more level k [] (x ∷ xs) below all = rw (lt-leb x.level k (omega (arith, all.0.0))) (up_to-more level k [] xs below all.1)
up_to-more level k (x ∷ xs) more below all = elim (cases_Bool (leb x.level k)) [
  | inl t ↦ rw t (ap (λ (rest : List Entry). x ∷ rest) (up_to-more level k xs more below all))
  | inr f ↦ rw f (up_to-more level k xs more below all)
]

-- where the trail goes on at its level, the levels below stay as they were
pub settled-on : (clauses : List Numbered) (old new : List Entry) → Continues (last_level old) old new → IsSettledBelow clauses old → IsSettledBelow clauses new
settled-on clauses old new c settled k below =
    let under : k < last_level old = rw (Continues-level old new c) at below in
    let all = recursion_from_All (λ x. (x.level ≡ last_level old) × IsSome x.reason) c.more c.each in
    let same : up_to k new ≡ up_to k old = ap (up_to k) c.behind ∙ up_to-more (last_level old) k old c.more under all in
    subst (IsSettled clauses) (sym same) (settled k under)

-- unit propagation
pub IsTrail-propagate : (clauses : List Numbered) (values values' : Entered) (answer : Option Propagated) (result : Propagated) → IsTrail (state_of clauses values answer) → values'.room ≡ values.room → IsGrown values'.room clauses values'.entries → Continues (last_level values.entries) values.entries values'.entries → Holds clauses values'.entries (Some result) → IsTrail (state_of clauses values' (Some result))
IsTrail-propagate clauses values values' answer result t room g c h = record {
  grown = g;
  level = refl;
  settled = settled-on clauses values.entries values'.entries c t.settled;
  answer = h;
  has_room = rw room t.has_room;
}

pub up_to-up_to : (k n : ℕ) (es : List Entry) → k ≤ n → up_to k (up_to n es) ≡ up_to k es
up_to-up_to k n [] h = refl
up_to-up_to k n (x ∷ xs) h = elim (cases_lt k x.level) [
  | inl above ↦ rw (lt-leb x.level k above) (elim (cases_Bool (leb x.level n)) [
    | inl t ↦ rw (t, lt-leb x.level k above) (up_to-up_to k n xs h)
    | inr f ↦ rw f (up_to-up_to k n xs h)
  ])
  | inr low ↦ rw (le-leb x.level n (omega arith), le-leb x.level k low) (ap (λ (rest : List Entry). x ∷ rest) (up_to-up_to k n xs h))
]

-- back to a level
pub IsTrail-back : (clauses : List Numbered) (values : Entered) (answer : Option Propagated) (n m : ℕ) → IsTrail (state_of clauses values answer) → n ≤ last_level values.entries → last_level (up_to n values.entries) ≡ n → up_to n values.entries ≡ take m values.entries → IsTrail (state_of clauses record { room = values.room; entries = up_to n values.entries } None)
IsTrail-back clauses values answer n m t within level front =
    let es = values.entries in
    let whole : IsGrown values.room clauses (take m es ++ drop m es) = subst (IsGrown values.room clauses) (sym (take-append-drop m es)) t.grown in
    record {
      grown = subst (IsGrown values.room clauses) (sym front) (IsGrown-front values.room clauses (take m es) (drop m es) whole);
      level = refl;
      settled = λ k below.
          let under : k < n = rw level at below in
          subst (IsSettled clauses) (sym (up_to-up_to k n es (omega arith))) (t.settled k (omega arith));
      answer = tt;
      has_room = t.has_room;
    }

-- states with the same parts
pub same_state : {a b i j : ℕ} {x y : List Numbered} (es : List Entry) (answer : Option Propagated) → a ≡ b → x ≡ y → i ≡ j → ◌≡◌ {A = TrailState} record { room = a; clauses = x; entries = es; level = i; answer = answer } record { room = b; clauses = y; entries = es; level = j; answer = answer }
same_state {b = b} {i = i} {x = x} {y = y} es answer room clauses level =
    let by_room : ℕ → TrailState = λ n. record { room = n; clauses = x; entries = es; level = i; answer = answer } in
    let by_clauses : List Numbered → TrailState = λ cs. record { room = b; clauses = cs; entries = es; level = i; answer = answer } in
    let by_level : ℕ → TrailState = λ n. record { room = b; clauses = y; entries = es; level = n; answer = answer } in
    ap by_room room ∙ ap by_clauses clauses ∙ ap by_level level
