-- Which variables a decision may be taken from, through each change.
use Rattle.std.proofs.Common.{◌≡◌, ◌≢◌, ℕ, zero, suc, ◌+◌, ◌-◌, ◌<◌, ◌≤◌, Bool, true, false, List, [], ◌∷◌, ◌++◌, length, get_or, set, Option, Some, None, All, eqb, leb, refl, sym, ◌∙◌, ap, subst, arith, inl, inr}
use Rattle.std.specs.Option.{is_none, option_map}
use Rattle.std.specs.Prelude.{IsSome}
use Rattle.std.specs.List.{slice_get, AllByRecursion}
use Rattle.std.proofs.lemmas.Bool.{cases_Bool, cases_eq, cases_lt, eq-eqb, le-leb, ne_eqb, false≢true}
use Rattle.std.proofs.lemmas.List.{get_or-set_other, get_or-set_same, get_or_past, length-set}
use Rattle.std.proofs.lemmas.List.Elements.{All-filter, All-from_recursion, All-push, All-weaker, recursion_from_All}
use Rattle.std.proofs.lemmas.Option.{none-some, same_Some}
use Rattle.qv_cnf.specs.Literal.{Literal}
use Rattle.qv_sat_order.specs.Ranking.{HoldsNone, Ranking, is_held, with_held}
use Rattle.qv_watch.specs.Entries.{Entry, entry_at, trues, up_to, value_of}
use Rattle.qv_watch.specs.Table.{HasNoTwice, IsStepped}
use Rattle.qv_watch.specs.TrailState.{Continues, IsTrail, TrailState}
use Rattle.qv_watch.proofs.Entering.{entry_at-append_some, entry_at-tail, entry_at-valued, entry_at-variable}
use Rattle.qv_sat.specs.Choosing.{AllValued, Covers, CoversBut, Releases, held_in}
use Rattle.qv_watch.proofs.Growing.{once_grown}
use Rattle.qv_watch.proofs.Keeping.{stepped_grown}
use Rattle.qv_sat.proofs.Decisions.{get_all}
use Rattle.qv_sat.proofs.Entries.{entry_at-none_all, entry_there}
use Rattle.qv_watch.proofs.Placing.{entry_at-stands as entry_place}

-- a variable is held from now on, or isn't
pub held-other : (held : List Bool) (v w : ℕ) (b : Bool) → 1 ≤ v → 1 ≤ w → w ≢ v → is_held (set held (v - 1) b) w ≡ is_held held w
held-other held v w b from above other = get_or-set_other held (v - 1) (w - 1) b false (λ same. other (omega arith))

pub held_more : (held : List Bool) (k w : ℕ) → is_held held w ≡ true → is_held (set held k true) w ≡ true
held_more held k w on = elim (cases_eq (w - 1) k) [
  | inl own ↦ elim (cases_lt k (length held)) [
    | inl inside ↦ ap (λ i. get_or (set held k true) i false) own ∙ get_or-set_same held k true false inside
    | inr past ↦ absurd (false≢true (sym (ap (λ i. get_or held i false) own ∙ get_or_past held k false past) ∙ on))
  ]
  | inr other ↦ get_or-set_other held k (w - 1) true false other ∙ on
]

pub held_own : (held : List Bool) (v : ℕ) → 1 ≤ v → v ≤ length held → is_held (set held (v - 1) true) v ≡ true
held_own held v from to = get_or-set_same held (v - 1) true false (omega arith)

held_in-set : (held : List Bool) (k : ℕ) → get_or held k false ≡ true → held_in (set held k false) + 1 ≡ held_in held
held_in-set [] k on = absurd (false≢true on)
held_in-set (true ∷ held) zero on = refl
held_in-set (false ∷ held) zero on = absurd (false≢true on)
held_in-set (true ∷ held) (suc k) on = let rest = held_in-set held k on in omega arith
held_in-set (false ∷ held) (suc k) on = held_in-set held k on

pub fewer_held : (held : List Bool) (v : ℕ) → is_held held v ≡ true → held_in (set held (v - 1) false) < held_in held
fewer_held held v on = let one = held_in-set held (v - 1) on in omega arith

-- one with a value isn't needed
pub Covers-valued : (held : List Bool) (entries : List Entry) (l : Literal) → 1 ≤ l.variable → IsSome (value_of entries l) → Covers held entries → Covers (set held (l.variable - 1) false) entries
Covers-valued held entries l from valued c = record {
  each = λ w above within none.
      let other : w ≢ l.variable = λ same. let e = entry_at-valued entries l valued in none-some e.0 (sym (ap (λ v. entry_at v entries) (sym same) ∙ none) ∙ sym (sym e.1)) in
      held-other held l.variable w false from above other ∙ c.each w above (omega (arith, length-set held (l.variable - 1) false)) none;
  within = All-weaker (λ (e : Entry). e.lit.variable ≤ length held) (λ (e : Entry). e.lit.variable ≤ length (set held (l.variable - 1) false)) (λ e low. omega (arith, length-set held (l.variable - 1) false)) entries c.within;
}

pub Covers-taken : (held : List Bool) (entries : List Entry) (v : ℕ) → 1 ≤ v → Covers held entries → CoversBut v (set held (v - 1) false) entries
Covers-taken held entries v from c w above within other none = held-other held v w false from above other ∙ c.each w above (omega (arith, length-set held (v - 1) false)) none

pub AllValued-none : (r : Ranking) (entries : List Entry) → HoldsNone r → Covers r.held entries → AllValued r.held entries
AllValued-none r entries none c v from to off = false≢true (sym (none v from) ∙ c.each v from to off)

pub Covers-all : (held : List Bool) (entries : List Entry) → AllValued held entries → All (λ e. e.lit.variable ≤ length held) entries → Covers held entries
Covers-all held entries all within = record { each = λ v from to none. absurd (all v from to none); within = within }

-- more entries
none_front : (v : ℕ) (es more : List Entry) → entry_at v (es ++ more) ≡ None → entry_at v es ≡ None
none_front v es more none = elim (entry_at v es) as (λ o. entry_at v es ≡ o → o ≡ None) [
  | None ↦ λ _. refl
  | Some e ↦ λ is. absurd (none-some e (sym none ∙ entry_at-append_some v es more e is))
] refl

each_entry : (P : Entry → Type 0) (es : List Entry) → ((k : ℕ) (e : Entry) → slice_get es k ≡ Some e → P e) → AllByRecursion P es
each_entry P [] h = tt
each_entry P (x ∷ xs) h = (h 0 x refl, each_entry P xs (λ k e there. h (suc k) e there))

pub grown_within : (t : TrailState) (most : ℕ) → IsTrail t → t.room ≤ most → All (λ e. e.lit.variable ≤ most) t.entries
grown_within t most is low = All-from_recursion (λ e. e.lit.variable ≤ most) t.entries (each_entry (λ e. e.lit.variable ≤ most) t.entries (λ k e there. let m = is.grown k e there in omega (arith, m.has_room)))

pub Covers-derived : (held : List Bool) (old new : TrailState) → IsTrail new → new.room ≤ length held → Continues old.level old.entries new.entries → Covers held old.entries → Covers held new.entries
Covers-derived held old new is low c covers = record {
  each = λ v from to none. covers.each v from to (none_front v old.entries c.more (sym (ap (entry_at v) c.behind) ∙ none));
  within = grown_within new (length held) is low;
}

last_own : (es : List Entry) (e : Entry) → entry_at e.lit.variable (es ++ e ∷ []) ≡ None → ⊥
last_own [] e none = let own : entry_at e.lit.variable (e ∷ []) ≡ Some e = rw (eq-eqb e.lit.variable e.lit.variable refl) refl in none-some e (sym none ∙ own)
last_own (x ∷ xs) e none = last_own xs e (entry_at-tail e.lit.variable x (xs ++ e ∷ []) none).1

pub Covers-push : (held : List Bool) (es : List Entry) (e : Entry) → e.lit.variable ≤ length held → All (λ x. x.lit.variable ≤ length held) es → CoversBut e.lit.variable held es → Covers held (es ++ e ∷ [])
Covers-push held es e low within but = record {
  each = λ v from to none. but v from to (λ same. last_own es e (ap (λ w. entry_at w (es ++ e ∷ [])) (sym same) ∙ none)) (none_front v es (e ∷ []) none);
  within = All-push (λ x. x.lit.variable ≤ length held) es e within low;
}

pub CoversBut-all : (held : List Bool) (es : List Entry) (u : ℕ) → Covers held es → CoversBut u held es
CoversBut-all held es u c v from to other none = c.each v from to none

-- fewer entries
entry_below : (n v : ℕ) (es : List Entry) (e : Entry) → entry_at v es ≡ Some e → e.level ≤ n → entry_at v (up_to n es) ≡ None → ⊥
entry_below n v [] e h low none = none-some e h
entry_below n v (x ∷ xs) e h low none = elim (cases_Bool (eqb x.lit.variable v)) [
  | inl own ↦
      let is : x ≡ e = same_Some x e (rw own at h) in
      let keeps : leb x.level n ≡ true = le-leb x.level n (let at = ap (λ (y : Entry). y.level) is in omega arith) in
      let there : entry_at v (up_to n (x ∷ xs)) ≡ Some x = rw (keeps, own) refl in
      none-some x (sym none ∙ there)
  | inr other ↦ elim (cases_Bool (leb x.level n)) [
    | inl keeps ↦
        let same : entry_at v (up_to n (x ∷ xs)) ≡ entry_at v (up_to n xs) = rw (keeps, other) refl in
        entry_below n v xs e (rw other at h) low (sym same ∙ none)
    | inr goes ↦
        let same : entry_at v (up_to n (x ∷ xs)) ≡ entry_at v (up_to n xs) = rw goes refl in
        entry_below n v xs e (rw other at h) low (sym same ∙ none)
  ]
]

pub Covers-back : (level : ℕ) (entries : List Entry) (old new : List Bool) → Releases level entries old new → Covers old entries → Covers new (up_to level entries)
Covers-back level entries old new r c = record {
  each = λ v from to none.
      elim (entry_at v entries) as (λ o. entry_at v entries ≡ o → is_held new v ≡ true) [
        | None ↦ λ off. r.kept v (c.each v from (omega (arith, r.long)) off)
        | Some e ↦ λ is. elim (cases_lt level e.level) [
          | inl above ↦ let place = entry_place v entries e is in subst (λ (w : ℕ). is_held new w ≡ true) (entry_at-variable v entries e is) (r.released place.0 e place.1 above)
          | inr low ↦ absurd (entry_below level v entries e is low none)
        ]
      ] refl;
  within = All-filter (λ (e : Entry). leb e.level level) (λ e. e.lit.variable ≤ length new) entries (All-weaker (λ (e : Entry). e.lit.variable ≤ length old) (λ (e : Entry). e.lit.variable ≤ length new) (λ e low. omega (arith, r.long)) entries c.within);
}

-- levels rise
stepped_from : (level : ℕ) (es : List Entry) (k : ℕ) (e : Entry) → IsStepped level es → slice_get es k ≡ Some e → level ≤ e.level
stepped_from level [] k e s h = absurd (none-some e h)
stepped_from level (x ∷ xs) zero e s h = let is = ap (λ (y : Entry). y.level) (same_Some x e h) in omega (arith, s.0)
stepped_from level (x ∷ xs) (suc k) e s h = let rest = stepped_from x.level xs k e s.2 h in omega (arith, s.0)

pub stepped_order : (level : ℕ) (es : List Entry) (i j : ℕ) (a b : Entry) → IsStepped level es → slice_get es i ≡ Some a → slice_get es j ≡ Some b → i ≤ j → a.level ≤ b.level
stepped_order level [] i j a b s h g low = absurd (none-some a h)
stepped_order level (x ∷ xs) zero zero a b s h g low = let is = ap (λ (y : Entry). y.level) (same_Some a b (sym h ∙ g)) in omega arith
stepped_order level (x ∷ xs) zero (suc j) a b s h g low = let is = ap (λ (y : Entry). y.level) (same_Some x a h) in let rest = stepped_from x.level xs j b s.2 g in omega arith
stepped_order level (x ∷ xs) (suc i) zero a b s h g low = absurd (omega arith)
stepped_order level (x ∷ xs) (suc i) (suc j) a b s h g low = stepped_order x.level xs i j a b s.2 h g (omega arith)

-- the entry of a place
pub entry_own : (es : List Entry) (k : ℕ) (e : Entry) → HasNoTwice es → slice_get es k ≡ Some e → entry_at e.lit.variable es ≡ Some e
entry_own [] k e once h = absurd (none-some e h)
entry_own (x ∷ xs) zero e once h = let is = same_Some x e h in subst (λ (y : Entry). entry_at e.lit.variable (y ∷ xs) ≡ Some e) (sym is) (rw (eq-eqb e.lit.variable e.lit.variable refl) refl)
entry_own (x ∷ xs) (suc k) e once h =
    let other : e.lit.variable ≢ x.lit.variable = entry_at-none_all x.lit.variable xs k e once.0 h in
    rw (ne_eqb x.lit.variable e.lit.variable (λ same. other (sym same))) (entry_own xs k e once.1 h)

pub some_value : (o : Option Bool) (b : Bool) → b ≡ is_none o → b ≡ false → IsSome o
some_value None b is off = absurd (false≢true (sym off ∙ is))
some_value (Some x) b is off = refl

-- the literal at a place of the order
pub order_within : (es : List Entry) (order : List Literal) (k most : ℕ) (l : Literal) → order ≡ trues es → k < length order → l ≡ get_or order k l → All (λ e. e.lit.variable ≤ most) es → l.variable ≤ most
order_within es order k most l is inside at within =
    let there = entry_there es k l (subst (λ (ls : List Literal). k < length ls) is inside) (at ∙ ap (λ (ls : List Literal). get_or ls k l) is) in
    subst (λ (x : Literal). x.variable ≤ most) there.2 (get_all (λ e. e.lit.variable ≤ most) es k there.0 (recursion_from_All (λ e. e.lit.variable ≤ most) es within) there.1)

-- one more is released
pub released_more : (es : List Entry) (order : List Literal) (left : ℕ) (l : Literal) (old new : Ranking) → order ≡ trues es → 0 < left → left ≤ length order → l ≡ get_or order (left - 1) l → 1 ≤ l.variable → l.variable ≤ length old.held → new ≡ with_held old l.variable true → ((k : ℕ) (e : Entry) → left ≤ k → slice_get es k ≡ Some e → is_held old.held e.lit.variable ≡ true) → (k : ℕ) (e : Entry) → left - 1 ≤ k → slice_get es k ≡ Some e → is_held new.held e.lit.variable ≡ true
released_more es order left l old new is some low at from to same before k e least there =
    let there_is = entry_there es (left - 1) l (subst (λ (ls : List Literal). left - 1 < length ls) is (omega arith)) (at ∙ ap (λ (ls : List Literal). get_or ls (left - 1) l) is) in
    subst (λ (r : Ranking). is_held r.held e.lit.variable ≡ true) (sym same) (elim (cases_eq k (left - 1)) [
      | inl own ↦
          let own_e : there_is.0 ≡ e = same_Some there_is.0 e (sym there_is.1 ∙ ap (slice_get es) (sym own) ∙ there) in
          let own_l : l ≡ e.lit = sym there_is.2 ∙ ap (λ (x : Entry). x.lit) own_e in
          subst (λ (x : Literal). is_held (set old.held (l.variable - 1) true) x.variable ≡ true) own_l (held_own old.held l.variable from to)
      | inr other ↦ held_more old.held (l.variable - 1) e.lit.variable (before k e (omega arith) there)
    ])

-- at the end
pub released_all : (t : TrailState) (order : List Literal) (left level read : ℕ) (l : Literal) (held : List Bool) → IsTrail t → order ≡ trues t.entries → 0 < left → left ≤ length order → l ≡ get_or order (left - 1) l → option_map (λ (e : Entry). e.level) (entry_at l.variable t.entries) ≡ Some read → read ≤ level → ((k : ℕ) (e : Entry) → left ≤ k → slice_get t.entries k ≡ Some e → is_held held e.lit.variable ≡ true) → (k : ℕ) (e : Entry) → slice_get t.entries k ≡ Some e → level < e.level → is_held held e.lit.variable ≡ true
released_all t order left level read l held trail is some low at reads stops before k e there above =
    let x = entry_there t.entries (left - 1) l (subst (λ (ls : List Literal). left - 1 < length ls) is (omega arith)) (at ∙ ap (λ (ls : List Literal). get_or ls (left - 1) l) is) in
    elim (cases_lt k left) [
      | inl front ↦
          let own : entry_at l.variable t.entries ≡ Some x.0 = ap (λ (y : Literal). entry_at y.variable t.entries) (sym x.2) ∙ entry_own t.entries (left - 1) x.0 (once_grown t.room t.clauses t.entries trail.grown) x.1 in
          let level_is : x.0.level ≡ read = same_Some x.0.level read (sym (ap (option_map (λ (y : Entry). y.level)) own) ∙ reads) in
          let order_is = stepped_order 0 t.entries k (left - 1) e x.0 (stepped_grown t.room t.clauses t.entries trail.grown) there x.1 (omega arith) in
          absurd (omega arith)
      | inr behind ↦ before k e behind there
    ]

-- a variable with a value
pub valued_within : (t : TrailState) (v most : ℕ) → IsTrail t → t.room ≤ most → IsSome (entry_at v t.entries) → (1 ≤ v) × (v ≤ most)
valued_within t v most is low some = elim (entry_at v t.entries) as (λ o. entry_at v t.entries ≡ o → IsSome o → (1 ≤ v) × (v ≤ most)) [
  | None ↦ λ _ h. absurd (false≢true h)
  | Some e ↦ λ there _.
      let place = entry_place v t.entries e there in
      let m = is.grown place.0 e place.1 in
      let own : e.lit.variable ≡ v = entry_at-variable v t.entries e there in
      (omega (arith, m.literal.0), omega (arith, m.has_room))
] refl some

pub met_within : (t : TrailState) (met : List ℕ) (most : ℕ) → IsTrail t → t.room ≤ most → All (λ v. IsSome (entry_at v t.entries)) met → All (λ v. (1 ≤ v) × (v ≤ most)) met
met_within t met most is low valued = All-weaker (λ v. IsSome (entry_at v t.entries)) (λ v. (1 ≤ v) × (v ≤ most)) (λ v some. valued_within t v most is low some) met valued

pub within_long : (most more : ℕ) (entries : List Entry) → more ≡ most → All (λ e. e.lit.variable ≤ most) entries → All (λ e. e.lit.variable ≤ more) entries
within_long most more entries same within = subst (λ (n : ℕ). All (λ (e : Entry). e.lit.variable ≤ n) entries) (sym same) within
