-- The table of values, where a literal comes and where the last one goes.
use Rattle.std.proofs.Common.{◌≡◌, ◌≢◌, ℕ, zero, suc, ◌+◌, ◌-◌, ◌<◌, ◌≤◌, List, [], ◌∷◌, ◌++◌, length, take, set, get_or, Option, Some, None, refl, sym, ◌∙◌, ap, arith, inl, inr, length-set, length-append, replicate}
use Rattle.std.specs.List.{AllByRecursion, All}
use Rattle.std.specs.Option.{option_map}
use Rattle.std.proofs.lemmas.Bool.{ne_eqb, eq-eqb, cases_eq, cases_lt}
use Rattle.std.proofs.lemmas.List.{map-append, get_or-set_same, get_or-set_other, get_or_past, length_push, take_at, get_or_append_left, get_or-append_right}
use Rattle.std.proofs.lemmas.List.Elements.{recursion_from_All, All-push, All-pop, All-weaker}
use Rattle.qv_cnf.specs.Literal.{Literal}
use Rattle.qv_watch.specs.Entries.{Entry, trues, entry_at}
use Rattle.qv_watch.specs.Table.{entered_by, assigned_to, entries_of, assignment_of, HasNoTwice, IsTable, filled}
use Rattle.qv_watch.specs.declared.values.Assigned.{Assigned}
use Rattle.qv_watch.proofs.Entering.{entry_at-tail, entry_at-append_none, entry_at-append_some}

pub trues-entries_of : (vars : List (Option Assigned)) (order : List Literal) → trues (entries_of vars order) ≡ order
trues-entries_of vars [] = refl
trues-entries_of vars (l ∷ ls) = ap (λ (rest : List Literal). l ∷ rest) (trues-entries_of vars ls)

pub length-entries_of : (vars : List (Option Assigned)) (order : List Literal) → length (entries_of vars order) ≡ length order
length-entries_of vars [] = refl
length-entries_of vars (l ∷ ls) = ap suc (length-entries_of vars ls)

-- a new entry of another variable
pub HasNoTwice-push : (xs : List Entry) (e : Entry) → HasNoTwice xs → entry_at e.lit.variable xs ≡ None → HasNoTwice (xs ++ e ∷ [])
HasNoTwice-push [] e h n = (refl, tt)
HasNoTwice-push (x ∷ xs) e h n =
    let parts = entry_at-tail e.lit.variable x xs n in
    let other : e.lit.variable ≢ x.lit.variable = λ same. parts.0 (sym same) in
    let last : entry_at x.lit.variable (e ∷ []) ≡ None = rw (ne_eqb e.lit.variable x.lit.variable other) in
    (entry_at-append_none x.lit.variable xs (e ∷ []) h.0 ∙ last, HasNoTwice-push xs e h.1 parts.1)

-- the last entry's variable has no other
pub HasNoTwice-front : (xs : List Entry) (e : Entry) → HasNoTwice (xs ++ e ∷ []) → HasNoTwice xs × (entry_at e.lit.variable xs ≡ None)
HasNoTwice-front [] e h = (tt, refl)
HasNoTwice-front (x ∷ xs) e h =
    let rest = HasNoTwice-front xs e h.1 in
    elim (cases_eq x.lit.variable e.lit.variable) [
      | inl same ↦
          let here : entry_at x.lit.variable (e ∷ []) ≡ Some e = rw (eq-eqb e.lit.variable x.lit.variable (sym same)) in
          let gone : entry_at x.lit.variable xs ≡ None = rw (sym same) at rest.1 in
          absurd (let t = entry_at-append_none x.lit.variable xs (e ∷ []) gone in cc (t, here, h.0))
      | inr other ↦
          let gone : entry_at x.lit.variable xs ≡ None = elim (entry_at x.lit.variable xs) as (λ o. entry_at x.lit.variable xs ≡ o → o ≡ None) [
            | None ↦ λ _. refl
            | Some f ↦ λ found. absurd (let t = entry_at-append_some x.lit.variable xs (e ∷ []) f found in cc (t, h.0))
          ] refl in
          ((gone, rest.0), rw (ne_eqb x.lit.variable e.lit.variable other) rest.1)
    ]

-- a variable's place is written, and the entries of the others stay
entries_of-set : (vars : List (Option Assigned)) (order : List Literal) (v : ℕ) (a : Option Assigned) → 1 ≤ v → AllByRecursion (λ l. (1 ≤ l.variable) × (l.variable ≤ length vars)) order → entry_at v (entries_of vars order) ≡ None → entries_of (set vars (v - 1) a) order ≡ entries_of vars order
entries_of-set vars [] v a one w n = refl
entries_of-set vars (l ∷ ls) v a one w n =
    let parts = entry_at-tail v (entered_by l (assigned_to vars l.variable)) (entries_of vars ls) n in
    let apart : l.variable - 1 ≢ v - 1 = λ e. parts.0 (omega (arith, w.0.0)) in
    let same : assigned_to (set vars (v - 1) a) l.variable ≡ assigned_to vars l.variable = get_or-set_other vars (v - 1) (l.variable - 1) a None apart in
    let first : entered_by l (assigned_to (set vars (v - 1) a) l.variable) ≡ entered_by l (assigned_to vars l.variable) = ap (entered_by l) same in
    let rest : entries_of (set vars (v - 1) a) ls ≡ entries_of vars ls = entries_of-set vars ls v a one w.1 parts.1 in
    cc

-- one more variable has a value
filled-set_some : (vars : List (Option Assigned)) (i : ℕ) (a : Assigned) → i < length vars → get_or vars i None ≡ None → filled (set vars i (Some a)) ≡ filled vars + 1
filled-set_some [] i a h n = absurd (omega arith)
filled-set_some (None ∷ xs) zero a h n = omega arith
filled-set_some (Some x ∷ xs) zero a h n = cc
filled-set_some (None ∷ xs) (suc i) a h n = let t = filled-set_some xs i a (omega arith) n in omega arith
filled-set_some (Some x ∷ xs) (suc i) a h n = let t = filled-set_some xs i a (omega arith) n in omega arith

-- one variable fewer has a value
filled-set_none : (vars : List (Option Assigned)) (i : ℕ) (a : Assigned) → i < length vars → get_or vars i None ≡ Some a → filled (set vars i None) + 1 ≡ filled vars
filled-set_none [] i a h n = absurd (omega arith)
filled-set_none (None ∷ xs) zero a h n = cc
filled-set_none (Some x ∷ xs) zero a h n = omega arith
filled-set_none (None ∷ xs) (suc i) a h n = let t = filled-set_none xs i a (omega arith) n in omega arith
filled-set_none (Some x ∷ xs) (suc i) a h n = let t = filled-set_none xs i a (omega arith) n in omega arith

pub filled-within : (vars : List (Option Assigned)) → filled vars ≤ length vars
filled-within [] = omega arith
filled-within (None ∷ xs) = let t = filled-within xs in omega arith
filled-within (Some x ∷ xs) = let t = filled-within xs in omega arith

-- a place without a value is one more than those with one
pub filled-below : (vars : List (Option Assigned)) (i : ℕ) → i < length vars → get_or vars i None ≡ None → filled vars < length vars
filled-below [] i h n = absurd (omega arith)
filled-below (None ∷ xs) zero h n = let t = filled-within xs in omega arith
filled-below (Some x ∷ xs) zero h n = cc
filled-below (None ∷ xs) (suc i) h n = let t = filled-below xs i (omega arith) n in omega arith
filled-below (Some x ∷ xs) (suc i) h n = let t = filled-below xs i (omega arith) n in omega arith

-- no entry is of a variable without a place
pub none_beyond : (vars : List (Option Assigned)) (order : List Literal) (v : ℕ) → AllByRecursion (λ l. (1 ≤ l.variable) × (l.variable ≤ length vars)) order → length vars < v → entry_at v (entries_of vars order) ≡ None
none_beyond vars [] v w h = refl
none_beyond vars (l ∷ ls) v w h =
    let apart : l.variable ≢ v = λ same. omega (arith, w.0.1) in
    rw (ne_eqb l.variable v apart) (none_beyond vars ls v w.1 h)

-- what the table has of a variable is what its entry says
pub looked_up : (vars : List (Option Assigned)) (order : List Literal) (v : ℕ) → IsTable vars order → 1 ≤ v → option_map assignment_of (entry_at v (entries_of vars order)) ≡ assigned_to vars v
looked_up vars order v t one = elim (cases_lt (length vars) v) [
  | inl beyond ↦
      let gone = none_beyond vars order v (recursion_from_All (λ l. (1 ≤ l.variable) × (l.variable ≤ length vars)) order t.within) beyond in
      let past : assigned_to vars v ≡ None = get_or_past vars (v - 1) None (omega arith) in
      ap (option_map assignment_of) gone ∙ sym past
  | inr h ↦ sym (t.each v one h)
]

-- an entry at the end is found where there was none, and the others as before
pub entry_at-push : (es : List Entry) (e : Entry) (v : ℕ) → e.lit.variable ≢ v → entry_at v (es ++ e ∷ []) ≡ entry_at v es
entry_at-push es e v apart =
    elim (entry_at v es) as (λ o. entry_at v es ≡ o → entry_at v (es ++ e ∷ []) ≡ o) [
      | None ↦ λ gone. entry_at-append_none v es (e ∷ []) gone ∙ (rw (ne_eqb e.lit.variable v apart))
      | Some f ↦ λ found. entry_at-append_some v es (e ∷ []) f found
    ] refl

-- a literal comes
module _ (vars : List (Option Assigned)) (order : List Literal) (l : Literal) (level : ℕ) (reason : Option ℕ) (t : IsTable vars order) (one : 1 ≤ l.variable) (room : l.variable ≤ length vars) (fresh : entry_at l.variable (entries_of vars order) ≡ None) where
  abbrev with_value : List (Option Assigned)
  with_value = set vars (l.variable - 1) (Some record { positive = l.positive; level = level; reason = reason })

  within_before : AllByRecursion (λ m. (1 ≤ m.variable) × (m.variable ≤ length vars)) order
  within_before = recursion_from_All (λ m. (1 ≤ m.variable) × (m.variable ≤ length vars)) order t.within

  pub entries_of-put : entries_of with_value (order ++ l ∷ []) ≡ entries_of vars order ++ record { lit = l; level = level; reason = reason } ∷ []
  entries_of-put =
      let had : entries_of with_value order ≡ entries_of vars order = entries_of-set vars order l.variable (Some record { positive = l.positive; level = level; reason = reason }) one within_before fresh in
      let own : assigned_to with_value l.variable ≡ Some record { positive = l.positive; level = level; reason = reason } = get_or-set_same vars (l.variable - 1) (Some record { positive = l.positive; level = level; reason = reason }) None (omega arith) in
      let last : entered_by l (assigned_to with_value l.variable) ≡ record { lit = l; level = level; reason = reason } = ap (entered_by l) own in
      map-append (λ m. entered_by m (assigned_to with_value m.variable)) order (l ∷ []) ∙ (rw (had, last) refl)

  empty_place : get_or vars (l.variable - 1) None ≡ None
  empty_place = t.each l.variable one room ∙ ap (option_map assignment_of) fresh

  pub put_has_place : filled vars < length vars
  put_has_place = filled-below vars (l.variable - 1) (omega arith) empty_place

  each_after : (v : ℕ) → 1 ≤ v → v ≤ length with_value → assigned_to with_value v ≡ option_map assignment_of (entry_at v (entries_of vars order ++ record { lit = l; level = level; reason = reason } ∷ []))
  each_after v from to =
      let last : Entry = record { lit = l; level = level; reason = reason } in
      let there : v ≤ length vars = rw (length-set vars (l.variable - 1) (Some record { positive = l.positive; level = level; reason = reason })) at to in
      elim (cases_eq l.variable v) [
        | inl same ↦
            let own : assigned_to with_value l.variable ≡ Some record { positive = l.positive; level = level; reason = reason } = get_or-set_same vars (l.variable - 1) (Some record { positive = l.positive; level = level; reason = reason }) None (omega arith) in
            let here : entry_at l.variable (last ∷ []) ≡ Some last = rw (eq-eqb l.variable l.variable refl) in
            let found : entry_at l.variable (entries_of vars order ++ last ∷ []) ≡ Some last = entry_at-append_none l.variable (entries_of vars order) (last ∷ []) fresh ∙ here in
            rw (sym same) (own ∙ sym (ap (option_map assignment_of) found))
        | inr apart ↦
            let kept : assigned_to with_value v ≡ assigned_to vars v = get_or-set_other vars (l.variable - 1) (v - 1) (Some record { positive = l.positive; level = level; reason = reason }) None (λ e. apart (omega arith)) in
            kept ∙ t.each v from there ∙ sym (ap (option_map assignment_of) (entry_at-push (entries_of vars order) last v apart))
      ]

  pub IsTable-put : IsTable with_value (order ++ l ∷ [])
  IsTable-put =
      let same_length : length with_value ≡ length vars = length-set vars (l.variable - 1) (Some record { positive = l.positive; level = level; reason = reason }) in
      record {
        within = rw same_length (All-push (λ m. (1 ≤ m.variable) × (m.variable ≤ length vars)) order l t.within (one, room));
        once = rw entries_of-put (HasNoTwice-push (entries_of vars order) record { lit = l; level = level; reason = reason } t.once fresh);
        each = rw entries_of-put each_after;
        counted = filled-set_some vars (l.variable - 1) record { positive = l.positive; level = level; reason = reason } (omega arith) empty_place ∙ (let n : length (order ++ l ∷ []) ≡ length order + 1 = length_push order l in omega (arith, t.counted));
      }

-- the last literal goes
module _ (vars : List (Option Assigned)) (order : List Literal) (l : Literal) (t : IsTable vars (order ++ l ∷ [])) where
  abbrev without_value : List (Option Assigned)
  without_value = set vars (l.variable - 1) None

  pub split : entries_of vars (order ++ l ∷ []) ≡ entries_of vars order ++ entered_by l (assigned_to vars l.variable) ∷ []
  split = map-append (λ m. entered_by m (assigned_to vars m.variable)) order (l ∷ [])

  pub front : HasNoTwice (entries_of vars order) × (entry_at l.variable (entries_of vars order) ≡ None)
  front = HasNoTwice-front (entries_of vars order) (entered_by l (assigned_to vars l.variable)) (rw split at t.once)

  within_rest : All (λ m. (1 ≤ m.variable) × (m.variable ≤ length vars)) order
  within_rest = (All-pop (λ m. (1 ≤ m.variable) × (m.variable ≤ length vars)) (order ++ l ∷ []) order (Some l) refl t.within).0

  pub last_within : (1 ≤ l.variable) × (l.variable ≤ length vars)
  last_within = (All-pop (λ m. (1 ≤ m.variable) × (m.variable ≤ length vars)) (order ++ l ∷ []) order (Some l) refl t.within).1

  pub entries_of-take_back : entries_of without_value order ≡ entries_of vars order
  entries_of-take_back =
      entries_of-set vars order l.variable None last_within.0 (recursion_from_All (λ m. (1 ≤ m.variable) × (m.variable ≤ length vars)) order within_rest) front.1

  pub front_is_taken : entries_of without_value order ≡ take (length (order ++ l ∷ []) - 1) (entries_of vars (order ++ l ∷ []))
  front_is_taken =
      let n : length (entries_of vars order) ≡ length (order ++ l ∷ []) - 1 = let e = length_push order l in let f = length-entries_of vars order in omega arith in
      entries_of-take_back ∙ sym (ap (take (length (order ++ l ∷ []) - 1)) split ∙ take_at (entries_of vars order) (entered_by l (assigned_to vars l.variable) ∷ []) (length (order ++ l ∷ []) - 1) n)

  each_rest : (v : ℕ) → 1 ≤ v → v ≤ length without_value → assigned_to without_value v ≡ option_map assignment_of (entry_at v (entries_of vars order))
  each_rest v from to =
      let there : v ≤ length vars = rw (length-set vars (l.variable - 1) None) at to in
      elim (cases_eq l.variable v) [
        | inl same ↦
            let own : assigned_to without_value l.variable ≡ None = get_or-set_same vars (l.variable - 1) None None (omega (arith, last_within.0, last_within.1)) in
            rw (sym same) (own ∙ sym (ap (option_map assignment_of) front.1))
        | inr apart ↦
            let kept : assigned_to without_value v ≡ assigned_to vars v = get_or-set_other vars (l.variable - 1) (v - 1) None None (λ e. apart (omega (arith, last_within.0))) in
            kept ∙ t.each v from there ∙ ap (option_map assignment_of) (ap (entry_at v) split ∙ entry_at-push (entries_of vars order) (entered_by l (assigned_to vars l.variable)) v apart)
      ]

  had_value : (a : Assigned) × (get_or vars (l.variable - 1) None ≡ Some a)
  had_value =
      let e : Entry = entered_by l (assigned_to vars l.variable) in
      let here : entry_at l.variable (e ∷ []) ≡ Some e = rw (eq-eqb l.variable l.variable refl) in
      let found : entry_at l.variable (entries_of vars (order ++ l ∷ [])) ≡ Some e = ap (entry_at l.variable) split ∙ entry_at-append_none l.variable (entries_of vars order) (e ∷ []) front.1 ∙ here in
      (assignment_of e, t.each l.variable last_within.0 last_within.1 ∙ ap (option_map assignment_of) found)

  pub IsTable-take_back : IsTable without_value order
  IsTable-take_back =
      let same_length : length without_value ≡ length vars = length-set vars (l.variable - 1) None in
      record {
        within = rw same_length within_rest;
        once = rw entries_of-take_back front.0;
        each = rw entries_of-take_back each_rest;
        counted =
            let less = filled-set_none vars (l.variable - 1) had_value.0 (omega (arith, last_within.0, last_within.1)) had_value.1 in
            let n : length (order ++ l ∷ []) ≡ length order + 1 = length_push order l in
            omega (arith, t.counted);
      }

-- room for more variables
entries_of-room : (vars more : List (Option Assigned)) (order : List Literal) → AllByRecursion (λ l. (1 ≤ l.variable) × (l.variable ≤ length vars)) order → entries_of (vars ++ more) order ≡ entries_of vars order
entries_of-room vars more [] w = refl
entries_of-room vars more (l ∷ ls) w =
    let same : assigned_to (vars ++ more) l.variable ≡ assigned_to vars l.variable = get_or_append_left vars more None (l.variable - 1) (omega (arith, w.0.0, w.0.1)) in
    let first : entered_by l (assigned_to (vars ++ more) l.variable) ≡ entered_by l (assigned_to vars l.variable) = ap (entered_by l) same in
    let rest : entries_of (vars ++ more) ls ≡ entries_of vars ls = entries_of-room vars more ls w.1 in
    cc

filled-room : (vars : List (Option Assigned)) (n : ℕ) → filled (vars ++ replicate n None) ≡ filled vars
filled-room [] zero = refl
filled-room [] (suc n) = filled-room [] n
filled-room (None ∷ xs) n = filled-room xs n
filled-room (Some a ∷ xs) n = ap (λ k. k + 1) (filled-room xs n)

none_in_room : (n i : ℕ) → get_or (replicate {A = Option Assigned} n None) i None ≡ None
none_in_room zero i = refl
none_in_room (suc n) zero = refl
none_in_room (suc n) (suc i) = none_in_room n i

module _ (vars : List (Option Assigned)) (order : List Literal) (n : ℕ) (t : IsTable vars order) where
  room_within : AllByRecursion (λ m. (1 ≤ m.variable) × (m.variable ≤ length vars)) order
  room_within = recursion_from_All (λ m. (1 ≤ m.variable) × (m.variable ≤ length vars)) order t.within

  pub entries_of-more : entries_of (vars ++ replicate n None) order ≡ entries_of vars order
  entries_of-more = entries_of-room vars (replicate n None) order room_within

  pub IsTable-more : IsTable (vars ++ replicate n None) order
  IsTable-more =
      let longer : length (vars ++ replicate {A = Option Assigned} n None) ≡ length vars + length (replicate {A = Option Assigned} n None) = length-append vars (replicate n None) in
      record {
        within = All-weaker (λ m. (1 ≤ m.variable) × (m.variable ≤ length vars)) (λ m. (1 ≤ m.variable) × (m.variable ≤ length (vars ++ replicate {A = Option Assigned} n None))) (λ m w. (w.0, omega (arith, w.1))) order t.within;
        once = rw entries_of-more t.once;
        each = λ v from to. rw entries_of-more (elim (cases_lt (length vars) v) [
          | inl beyond ↦
              let gone = none_beyond vars order v room_within beyond in
              let new : assigned_to (vars ++ replicate n None) v ≡ None = get_or-append_right vars (replicate n None) (length vars) (v - 1) None refl (omega arith) ∙ none_in_room n (v - 1 - length vars) in
              new ∙ sym (ap (option_map assignment_of) gone)
          | inr there ↦
              let old : assigned_to (vars ++ replicate n None) v ≡ assigned_to vars v = get_or_append_left vars (replicate n None) None (v - 1) (omega arith) in
              old ∙ t.each v from there
        ]);
        counted = filled-room vars n ∙ t.counted;
      }
