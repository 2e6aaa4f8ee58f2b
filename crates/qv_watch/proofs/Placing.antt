-- Where the literals of the order stand.
use Rattle.std.proofs.Common.{◌≡◌, ◌≢◌, ℕ, zero, suc, ◌-◌, ◌<◌, ◌≤◌, List, [], ◌∷◌, ◌++◌, length, take, set, get_or, Option, Some, None, refl, sym, ◌∙◌, ap, arith, inl, inr}
use Rattle.std.specs.List.{slice_get, AllByRecursion}
use Rattle.std.proofs.lemmas.Bool.{ne_eqb, eq-eqb, cases_eq}
use Rattle.std.proofs.lemmas.Option.{none-some, same_Some}
use Rattle.std.proofs.lemmas.List.Elements.{recursion_from_All}
use Rattle.qv_cnf.specs.Literal.{Literal}
use Rattle.qv_watch.specs.Entries.{Entry, trues, entry_at}
use Rattle.qv_watch.specs.Table.{entered_by, assigned_to, entries_of, ArePlaced, IsTable}
use Rattle.qv_watch.specs.declared.values.Assigned.{Assigned}
use Rattle.qv_watch.proofs.Entering.{entry_at-tail, entry_at-variable}
use Rattle.qv_watch.proofs.Lists.{slice_get-append, slice_get-push, slice_get-set_other}
use Rattle.qv_watch.proofs.Tabling.{trues-entries_of}

pub slice_get-take : {X : Type 0} (xs : List X) (n k : ℕ) (x : X) → slice_get (take n xs) k ≡ Some x → slice_get xs k ≡ Some x
slice_get-take xs zero k x h = absurd (none-some x h)
slice_get-take [] (suc n) k x h = absurd (none-some x h)
slice_get-take (y ∷ xs) (suc n) zero x h = h
slice_get-take (y ∷ xs) (suc n) (suc k) x h = slice_get-take xs n k x h

pub slice_get-within_take : {X : Type 0} (xs : List X) (n k : ℕ) (x : X) → k < n → slice_get xs k ≡ Some x → slice_get (take n xs) k ≡ Some x
slice_get-within_take xs zero k x low h = absurd (omega arith)
slice_get-within_take [] (suc n) k x low h = absurd (none-some x h)
slice_get-within_take (y ∷ xs) (suc n) zero x low h = h
slice_get-within_take (y ∷ xs) (suc n) (suc k) x low h = slice_get-within_take xs n k x (omega arith) h

pub slice_get-set_here : {X : Type 0} (xs : List X) (i : ℕ) (y : X) → i < length xs → slice_get (set xs i y) i ≡ Some y
slice_get-set_here [] i y h = absurd (omega arith)
slice_get-set_here (x ∷ xs) zero y h = refl
slice_get-set_here (x ∷ xs) (suc i) y h = slice_get-set_here xs i y (omega arith)

-- an element that is there stands within the list
pub slice_get-within : {X : Type 0} (xs : List X) (k : ℕ) (x : X) → slice_get xs k ≡ Some x → k < length xs
slice_get-within [] k x h = absurd (none-some x h)
slice_get-within (y ∷ xs) zero x h = omega arith
slice_get-within (y ∷ xs) (suc k) x h = let t = slice_get-within xs k x h in omega arith

pub slice_get-get_or : {X : Type 0} (xs : List X) (k : ℕ) (x d : X) → slice_get xs k ≡ Some x → get_or xs k d ≡ x
slice_get-get_or [] k x d h = absurd (none-some x h)
slice_get-get_or (y ∷ xs) zero x d h = same_Some y x h
slice_get-get_or (y ∷ xs) (suc k) x d h = slice_get-get_or xs k x d h

trues-take : (n : ℕ) (es : List Entry) → trues (take n es) ≡ take n (trues es)
trues-take zero es = refl
trues-take (suc n) [] = refl
trues-take (suc n) (e ∷ es) = ap (λ (ls : List Literal). e.lit ∷ ls) (trues-take n es)

-- the order of the first entries is the front of the order
pub front_of_order : (vars vars' : List (Option Assigned)) (order order' : List Literal) (n : ℕ) → entries_of vars' order' ≡ take n (entries_of vars order) → order' ≡ take n order
front_of_order vars vars' order order' n h =
    sym (trues-entries_of vars' order') ∙ ap trues h ∙ trues-take n (entries_of vars order) ∙ ap (take n) (trues-entries_of vars order)

pub ArePlaced-take : (positions : List ℕ) (order : List Literal) (n : ℕ) → ArePlaced positions order → ArePlaced positions (take n order)
ArePlaced-take positions order n p k l h = p k l (slice_get-take order n k l h)

-- literals of other variables have other places
other_place : (vars : List (Option Assigned)) (order : List Literal) (v : ℕ) → 1 ≤ v → AllByRecursion (λ l. (1 ≤ l.variable) × (l.variable ≤ length vars)) order → entry_at v (entries_of vars order) ≡ None → (k : ℕ) (m : Literal) → slice_get order k ≡ Some m → m.variable - 1 ≢ v - 1
other_place vars [] v one w none k m h = absurd (none-some m h)
other_place vars (l ∷ ls) v one w none zero m h =
    let parts = entry_at-tail v (entered_by l (assigned_to vars l.variable)) (entries_of vars ls) none in
    let same : l ≡ m = same_Some l m h in
    rw (sym same) (λ e. parts.0 (omega (arith, w.0.0)))
other_place vars (l ∷ ls) v one w none (suc k) m h =
    let parts = entry_at-tail v (entered_by l (assigned_to vars l.variable)) (entries_of vars ls) none in
    other_place vars ls v one w.1 parts.1 k m h

-- a literal comes
pub ArePlaced-put : (vars : List (Option Assigned)) (order : List Literal) (positions : List ℕ) (l : Literal) → IsTable vars order → ArePlaced positions order → 1 ≤ l.variable → l.variable ≤ length positions → entry_at l.variable (entries_of vars order) ≡ None → ArePlaced (set positions (l.variable - 1) (length order)) (order ++ l ∷ [])
ArePlaced-put vars order positions l t p one room fresh k m h = elim (slice_get-push order l k m h) [
  | inl old ↦
      let apart = other_place vars order l.variable one (recursion_from_All (λ m. (1 ≤ m.variable) × (m.variable ≤ length vars)) order t.within) fresh k m old in
      slice_get-set_other positions (l.variable - 1) (length order) (m.variable - 1) apart ∙ p k m old
  | inr new ↦
      let here : slice_get (set positions (l.variable - 1) (length order)) (l.variable - 1) ≡ Some (length order) = slice_get-set_here positions (l.variable - 1) (length order) (omega arith) in
      rw (sym new.1, new.0) here
]

placed_in_room : (vars : List (Option Assigned)) (order : List Literal) (n : ℕ) → length vars ≤ n → AllByRecursion (λ l. (1 ≤ l.variable) × (l.variable ≤ length vars)) order → (k : ℕ) (m : Literal) → slice_get order k ≡ Some m → m.variable - 1 < n
placed_in_room vars [] n few w k m h = absurd (none-some m h)
placed_in_room vars (l ∷ ls) n few w zero m h =
    let same : l ≡ m = same_Some l m h in
    rw (sym same) (omega (arith, w.0.0, w.0.1))
placed_in_room vars (l ∷ ls) n few w (suc k) m h = placed_in_room vars ls n few w.1 k m h

-- the table of the places grows
pub ArePlaced-room : (vars : List (Option Assigned)) (order : List Literal) (positions more : List ℕ) (n : ℕ) → IsTable vars order → ArePlaced positions order → length vars ≤ n → ArePlaced (take n positions ++ more) order
ArePlaced-room vars order positions more n t p few k m h =
    let low = placed_in_room vars order n few (recursion_from_All (λ m. (1 ≤ m.variable) × (m.variable ≤ length vars)) order t.within) k m h in
    slice_get-append (take n positions) more (m.variable - 1) k (slice_get-within_take positions n (m.variable - 1) k low (p k m h))

pub entry_at-stands : (v : ℕ) (es : List Entry) (e : Entry) → entry_at v es ≡ Some e → (k : ℕ) × (slice_get es k ≡ Some e)
entry_at-stands v [] e h = absurd (none-some e h)
entry_at-stands v (x ∷ xs) e h = elim (cases_eq x.lit.variable v) [
  | inl same ↦ let s : entry_at v (x ∷ xs) ≡ Some x = rw (eq-eqb x.lit.variable v same) in (0, sym s ∙ h)
  | inr other ↦
      let s : entry_at v (x ∷ xs) ≡ entry_at v xs = rw (ne_eqb x.lit.variable v other) in
      let rest = entry_at-stands v xs e (sym s ∙ h) in
      (suc rest.0, rest.1)
]

literal_at_place : (vars : List (Option Assigned)) (order : List Literal) (k : ℕ) (e : Entry) → slice_get (entries_of vars order) k ≡ Some e → slice_get order k ≡ Some e.lit
literal_at_place vars [] k e h = absurd (none-some e h)
literal_at_place vars (l ∷ ls) zero e h =
    let same : entered_by l (assigned_to vars l.variable) ≡ e = same_Some (entered_by l (assigned_to vars l.variable)) e h in
    ap (λ (x : Entry). Some x.lit) same
literal_at_place vars (l ∷ ls) (suc k) e h = literal_at_place vars ls k e h

-- the entry of a variable stands where the table says
pub stands_where_placed : (vars : List (Option Assigned)) (order : List Literal) (positions : List ℕ) (v : ℕ) (e : Entry) → ArePlaced positions order → entry_at v (entries_of vars order) ≡ Some e → (k : ℕ) × (slice_get (entries_of vars order) k ≡ Some e) × (slice_get positions (v - 1) ≡ Some k)
stands_where_placed vars order positions v e p h =
    let there = entry_at-stands v (entries_of vars order) e h in
    let own : slice_get positions (e.lit.variable - 1) ≡ Some there.0 = p there.0 e.lit (literal_at_place vars order there.0 e there.1) in
    (there.0, there.1, ap (λ (n : ℕ). slice_get positions (n - 1)) (sym (entry_at-variable v (entries_of vars order) e h)) ∙ own)
