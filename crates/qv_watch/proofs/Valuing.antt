-- The values of a trail, after each change.
use Rattle.std.proofs.Common.{◌≡◌, ℕ, ◌+◌, ◌<◌, ◌≤◌, ◌-◌, ◌^◌, ◌*◌, leb, get_or, inl, inr, refl, List, [], ◌∷◌, ◌++◌, length, take, drop, replicate, Bool, Option, None, Some, length-append, subst, sym, ◌∙◌, ap, arith}
use Rattle.std.proofs.lemmas.List.{take_at, take_all, take_more, length-replicate, length-take-le, take-take}
use Rattle.std.proofs.lemmas.Bool.{cases_Bool, lt-leb, le-leb}
use Rattle.qv_cnf.specs.Literal.{Literal}
use Rattle.qv_watch.specs.Entries.{Entry, last_level, up_to}
use Rattle.qv_watch.specs.Table.{Entered, entries_of, filled, level_after, ArePlaced, ArePlacesFor, IsTable, IsTold, IsStepped}
use Rattle.qv_watch.specs.Valued.{IsValued}
use Rattle.qv_watch.specs.declared.values.Assigned.{Assigned}
use Rattle.qv_watch.proofs.Entering.{last_level-le, last_level-push, IsStepped-push, IsStepped-take, IsStepped-front_from, last_from, last_from-low}
use Rattle.qv_watch.proofs.Tabling.{length-entries_of, filled-within, IsTable-more, entries_of-more}
use Rattle.qv_watch.proofs.Placing.{ArePlaced-take, front_of_order}

-- a slice that was written whole
pub written : {X : Type 0} (new old : List X) (n : ℕ) → length new ≡ n → take n (new ++ drop (length new) old) ≡ new
written new old n h = take_at new (drop (length new) old) n h

-- the level is below the number of variables where one has no value
pub level_below : (truths : List (Option Bool)) (vars : List (Option Assigned)) (order : List Literal) (positions : List ℕ) (capacity level : ℕ) → IsValued truths vars order positions capacity level → filled vars < length vars → level < length vars
level_below truths vars order positions capacity level v less =
    let long = last_level-le (entries_of vars order) v.stepped in
    let same = length-entries_of vars order in
    omega (arith, v.table.counted, v.present)

-- there are no more entries than variables
pub entries_within : (vars : List (Option Assigned)) (order : List Literal) → IsTable vars order → length (entries_of vars order) ≤ length vars
entries_within vars order t =
    let same = length-entries_of vars order in
    let most = filled-within vars in
    omega (arith, t.counted)

-- one more entry
pub IsValued-push : (truths truths' : List (Option Bool)) (vars vars' : List (Option Assigned)) (order order' : List Literal) (positions positions' : List ℕ) (capacity capacity' level : ℕ) (e : Entry) → IsValued truths vars order positions capacity level → length truths' ≡ length truths → IsTold truths' (entries_of vars' order') → IsTable vars' order' → ArePlaced positions' order' → length positions' ≡ length positions → entries_of vars' order' ≡ entries_of vars order ++ e ∷ [] → capacity' ≡ capacity → length vars' ≡ length vars → level ≤ e.level → e.level ≤ level + 1 → IsValued truths' vars' order' positions' capacity' e.level
IsValued-push truths truths' vars vars' order order' positions positions' capacity capacity' level e v size told t placed wide more room same low high = record {
  told = told;
  places = rw (size, same) v.places;
  table = t;
  placed = placed;
  wide = omega (arith, v.wide);
  enough = omega (arith, v.enough);
  few = omega (arith, v.few);
  present = sym (ap last_level more ∙ last_level-push (entries_of vars order) e);
  stepped = rw more (IsStepped-push (entries_of vars order) e v.stepped (omega (arith, v.present)) (omega (arith, v.present)));
}

-- a level after this one
pub level_after-steps : (level : ℕ) (reason : Option ℕ) → (level ≤ level_after level reason) × (level_after level reason ≤ level + 1)
level_after-steps level None = (omega arith, omega arith)
level_after-steps level (Some id) = (omega arith, omega arith)

-- wider tables for the same variables
pub IsValued-wider : (truths truths' : List (Option Bool)) (vars : List (Option Assigned)) (order : List Literal) (positions positions' : List ℕ) (capacity capacity' level : ℕ) → IsValued truths vars order positions capacity level → IsTold truths' (entries_of vars order) → ArePlacesFor (length vars) (length truths') → ArePlaced positions' order → length vars ≤ length positions' → capacity ≤ capacity' → IsValued truths' vars order positions' capacity' level
IsValued-wider truths truths' vars order positions positions' capacity capacity' level v told places placed wide room = record {
  told = told;
  places = places;
  table = v.table;
  placed = placed;
  wide = wide;
  enough = omega (arith, v.enough);
  few = v.few;
  present = v.present;
  stepped = v.stepped;
}

-- room for more variables
pub IsValued-room : (truths truths' : List (Option Bool)) (vars : List (Option Assigned)) (order : List Literal) (positions positions' : List ℕ) (capacity capacity' level n : ℕ) → IsValued truths vars order positions capacity level → IsTold truths' (entries_of vars order) → 2 * (length vars + n) + 2 ≤ length truths' → ArePlaced positions' order → length vars + n ≤ length positions' → length vars + n ≤ capacity' → length vars + n < 2 ^ 32 → IsValued truths' (vars ++ replicate n None) order positions' capacity' level
IsValued-room truths truths' vars order positions positions' capacity capacity' level n v told size placed wide room few =
    let longer : length (vars ++ replicate {A = Option Assigned} n None) ≡ length vars + n = length-append vars (replicate n None) ∙ ap (λ k. length vars + k) (length-replicate n None) in
    record {
      told = rw (entries_of-more vars order n v.table) told;
      places = λ w from to. omega (arith, longer);
      table = IsTable-more vars order n v.table;
      placed = placed;
      wide = omega (arith, longer);
      enough = omega (arith, longer);
      few = omega (arith, longer);
      present = v.present ∙ sym (ap last_level (entries_of-more vars order n v.table));
      stepped = rw (entries_of-more vars order n v.table) v.stepped;
    }

-- one entry less
pub IsValued-pop : (truths truths' : List (Option Bool)) (vars vars' : List (Option Assigned)) (order order' : List Literal) (positions : List ℕ) (capacity capacity' level level' : ℕ) → IsValued truths vars order positions capacity level → length truths' ≡ length truths → IsTold truths' (entries_of vars' order') → IsTable vars' order' → entries_of vars' order' ≡ take (length order - 1) (entries_of vars order) → capacity' ≡ capacity → length vars' ≡ length vars → level' ≡ last_level (entries_of vars' order') → IsValued truths' vars' order' positions capacity' level'
IsValued-pop truths truths' vars vars' order order' positions capacity capacity' level level' v size told t less room same now = record {
  told = told;
  places = rw (size, same) v.places;
  table = t;
  placed = rw (front_of_order vars vars' order order' (length order - 1) less) (ArePlaced-take positions order (length order - 1) v.placed);
  wide = omega (arith, v.wide);
  enough = omega (arith, v.enough);
  few = omega (arith, v.few);
  present = now;
  stepped = rw less (IsStepped-take 0 (length order - 1) (entries_of vars order) v.stepped);
}

pub same_entered : (a b : ℕ) (x y : List Entry) → a ≡ b → x ≡ y → ◌≡◌ {A = Entered} record { room = a; entries = x } record { room = b; entries = y }
same_entered a b x y e f = ap (λ (n : ℕ). let r : Entered = record { room = n; entries = x } in r) e ∙ ap (λ (z : List Entry). let r : Entered = record { room = b; entries = z } in r) f

-- where a level's last entries go
pub up_to-above : (n : ℕ) (es : List Entry) (e : Entry) → n < e.level → up_to n (es ++ e ∷ []) ≡ up_to n es
up_to-above n [] e h = rw (lt-leb e.level n h)
up_to-above n (x ∷ xs) e h = elim (cases_Bool (leb x.level n)) [
  | inl t ↦ rw t (ap (λ (rest : List Entry). x ∷ rest) (up_to-above n xs e h))
  | inr f ↦ rw f (up_to-above n xs e h)
]

-- entries of lower levels stay
up_to-below : (level n : ℕ) (es : List Entry) → IsStepped level es → last_from level es ≤ n → up_to n es ≡ es
up_to-below level n [] h low = refl
up_to-below level n (x ∷ xs) h low =
    let first : x.level ≤ n = let t = last_from-low x.level xs h.2 in omega arith in
    rw (le-leb x.level n first) (ap (λ (rest : List Entry). x ∷ rest) (up_to-below x.level n xs h.2 low))

-- one turn of taking back: the last entry is of a greater level
pub cut_turn : (n : ℕ) (es : List Entry) → IsStepped 0 es → n < last_level es → (up_to n (take (length es - 1) es) ≡ up_to n es) × (n ≤ last_level (take (length es - 1) es)) × (0 < length es)
cut_turn n [] h above = absurd (omega arith)
cut_turn n (x ∷ xs) h above =
    let es : List Entry = x ∷ xs in
    let front : List Entry = take (length es - 1) es in
    let last : Entry = get_or es (length es - 1) x in
    let e : es ≡ front ++ last ∷ [] = sym (take_all (length es - 1 + 1) es (omega arith)) ∙ take_more es (length es - 1) x (omega arith) in
    let parts = IsStepped-front_from 0 front last (subst (λ (z : List Entry). IsStepped 0 z) e h) in
    let level : last_level es ≡ last.level = ap last_level e ∙ last_level-push front last in
    (sym (ap (up_to n) e ∙ up_to-above n front last (omega (arith, level))), omega (arith, level, parts.2), omega arith)

-- at the end: all levels are this one or lower
pub cut_end : (n : ℕ) (es : List Entry) → IsStepped 0 es → last_level es ≤ n → up_to n es ≡ es
cut_end n es h low = up_to-below 0 n es h low

-- a shorter front is a front
pub shorter_front : (es old : List Entry) → es ≡ take (length es) old → take (length es - 1) es ≡ take (length (take (length es - 1) es)) old
shorter_front es old h =
    let n : length (take (length es - 1) es) ≡ length es - 1 = length-take-le (length es - 1) es (omega arith) in
    let shorter : take (length es - 1) es ≡ take (length es - 1) old = ap (take (length es - 1)) h ∙ take-take (length es - 1) (length es) old (omega arith) in
    shorter ∙ ap (λ k. take k old) (sym n)
