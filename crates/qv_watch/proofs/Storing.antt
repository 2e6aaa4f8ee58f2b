-- Clauses in one list, as slots say.
use Rattle.std.proofs.Common.{◌≡◌, ◌≢◌, ℕ, zero, suc, ◌+◌, ◌-◌, ◌≤◌, true, false, List, [], ◌∷◌, ◌++◌, length, drop, set, Option, Some, None, eqb, nat_eq, refl, sym, ◌∙◌, ap, subst, arith, inl, inr, ◌⊎◌}
use Rattle.std.specs.Prelude.{if◌then◌else◌, IsSomeAnd}
use Rattle.std.specs.List.{slice_get, slice_range, All, AllByRecursion}
use Rattle.std.specs.Option.{option_map}
use Rattle.std.specs.HashMap.{get, HashMap}
use Rattle.std.specs.declared.hash.FoldHasher.{FoldHasher}
use Rattle.std.specs.declared.hash.BuildHasherDefault.{BuildHasherDefault}
use Rattle.std.proofs.lemmas.Bool.{ne_eqb, eq-eqb, cases_eq, cases_Bool, eqb-true, false≢true, leb-true, le-leb}
use Rattle.std.proofs.lemmas.List.{length-append, map-append, take_all, drop_at}
use Rattle.std.proofs.lemmas.List.Elements.{recursion_from_All, All-push, All-set, All-weaker}
use Rattle.std.proofs.lemmas.Option.{none-some, same_Some, slice_get-map}
use Rattle.qv_cnf.specs.Listing.{clause_named}
use Rattle.qv_cnf.specs.Literal.{Literal}
use Rattle.qv_watch.specs.Attaching.{Stored, attached_in, let_go, lits_in, IsNamed}
use Rattle.qv_watch.specs.Storing.{is_live, stored_in, stored_at, first_or, AreFound, HoldsId, LacksId, IsStored}
use Rattle.qv_watch.specs.declared.clauses.Slot.{Slot}
use Rattle.qv_watch.proofs.Finding.{are_named, clause_named-absent, IsOnce}
use Rattle.qv_watch.proofs.Lists.{slice_get-push, slice_get-set_other, slice_get-set_same}
use Rattle.qv_cnf.proofs.Packing.{slice_range-append}

abbrev Places : Type 0
Places = HashMap ℕ ℕ (BuildHasherDefault FoldHasher)

-- more literals change no clause
stored_in-more : (all more : List Literal) (s : Slot) → s.end ≤ length all → stored_in (all ++ more) s ≡ stored_in all s
stored_in-more all more s b = elim (cases_Bool (is_live s)) [
  | inl t ↦ ap (λ (ls : List Literal). let r : Stored = record { id = s.id; lits = if is_live s then Some ls else None } in r) (slice_range-append all more s.start s.end (leb-true s.start s.end t) b)
  | inr f ↦ rw f refl
]

stored_at-more_each : (all more : List Literal) (slots : List Slot) → AllByRecursion (λ s. s.end ≤ length all) slots → stored_at (all ++ more) slots ≡ stored_at all slots
stored_at-more_each all more [] h = refl
stored_at-more_each all more (s ∷ ss) h =
    let first = stored_in-more all more s h.0 in
    let rest = stored_at-more_each all more ss h.1 in
    cc

pub stored_at-more : (all more : List Literal) (slots : List Slot) (places : Places) → IsStored all slots places → stored_at (all ++ more) slots ≡ stored_at all slots
stored_at-more all more slots places st = stored_at-more_each all more slots (recursion_from_All (λ s. s.end ≤ length all) slots st.inside)

inside_more : (all more : List Literal) (slots : List Slot) → All (λ s. s.end ≤ length all) slots → All (λ s. s.end ≤ length (all ++ more)) slots
inside_more all more slots h =
    let longer = length-append all more in
    All-weaker (λ (s : Slot). s.end ≤ length all) (λ s. s.end ≤ length (all ++ more)) (λ s w. omega (arith, w)) slots h

-- where there was no memory for one more
pub IsStored-more : (all more : List Literal) (slots : List Slot) (places places' : Places) → IsStored all slots places → ((q : ℕ) → get nat_eq places' q ≡ get nat_eq places q) → IsStored (all ++ more) slots places'
IsStored-more all more slots places places' st same = record {
  inside = inside_more all more slots st.inside;
  found = λ k s here live. elim (st.found k s here live) [ inl direct ↦ inl direct | inr kept ↦ inr (same s.id ∙ kept) ];
  once = st.once;
}

stored_live : (all : List Literal) (s : Slot) → is_live s ≡ true → (stored_in all s).lits ≡ Some (slice_range all s.start s.end)
stored_live all s live = rw live refl

live_stored : (all : List Literal) (s : Slot) (ls : List Literal) → (stored_in all s).lits ≡ Some ls → is_live s ≡ true
live_stored all s ls h = elim (cases_Bool (is_live s)) [ inl t ↦ t | inr f ↦ absurd (none-some ls (rw f at h)) ]

slot_of : (all : List Literal) (slots : List Slot) (k : ℕ) (t : Stored) → slice_get (stored_at all slots) k ≡ Some t → (s : Slot) × (slice_get slots k ≡ Some s) × (stored_in all s ≡ t)
slot_of all [] k t h = absurd (none-some t h)
slot_of all (s ∷ ss) zero t h = (s, refl, same_Some (stored_in all s) t h)
slot_of all (s ∷ ss) (suc k) t h = slot_of all ss k t h

pub stored_of : (all : List Literal) (slots : List Slot) (k : ℕ) (s : Slot) → slice_get slots k ≡ Some s → slice_get (stored_at all slots) k ≡ Some (stored_in all s)
stored_of all slots k s h = slice_get-map (stored_in all) slots k ∙ ap (option_map (stored_in all)) h

pub once_stored : (all : List Literal) (slots : List Slot) (places : Places) → IsStored all slots places → IsOnce (stored_at all slots)
once_stored all slots places st j k s t ls ms here there live also same =
    let a = slot_of all slots j s here in
    let b = slot_of all slots k t there in
    st.once j k a.0 b.0 a.1 b.1 (live_stored all a.0 ls (ap (λ (x : Stored). x.lits) a.2 ∙ live)) (live_stored all b.0 ms (ap (λ (x : Stored). x.lits) b.2 ∙ also)) (ap (λ (x : Stored). x.id) a.2 ∙ same ∙ ap (λ (x : Stored). x.id) (sym b.2))

pub named_stored : (all : List Literal) (slots : List Slot) (places : Places) → IsStored all slots places → IsNamed (stored_at all slots)
named_stored all slots places st = are_named (stored_at all slots) (once_stored all slots places st)

-- the clause of the id that a place has
pub named_at_place : (all : List Literal) (slots : List Slot) (places : Places) (id k : ℕ) (s : Slot) → IsStored all slots places → slice_get slots k ≡ Some s → is_live s ≡ true → s.id ≡ id → clause_named id (attached_in (stored_at all slots)) ≡ Some (slice_range all s.start s.end)
named_at_place all slots places id k s st here live same =
    ap (λ n. clause_named n (attached_in (stored_at all slots))) (sym same) ∙ named_stored all slots places st k (stored_in all s) (slice_range all s.start s.end) (stored_of all slots k s here) (stored_live all s live)

pub named-holding : (all : List Literal) (slots : List Slot) (places : Places) (id k : ℕ) → IsStored all slots places → HoldsId slots id k → clause_named id (attached_in (stored_at all slots)) ≡ lits_in (slice_get (stored_at all slots) k)
named-holding all slots places id k st h =
    named_at_place all slots places id k h.0 st h.1 h.2 h.3 ∙ sym (ap lits_in (stored_of all slots k h.0 h.1) ∙ stored_live all h.0 h.2)

pub named-lacking : (all : List Literal) (slots : List Slot) (id : ℕ) → LacksId slots id → clause_named id (attached_in (stored_at all slots)) ≡ None
named-lacking all slots id h = clause_named-absent id (stored_at all slots) (λ k t ls here live same.
    let a = slot_of all slots k t here in
    h k a.0 a.1 (live_stored all a.0 ls (ap (λ (x : Stored). x.lits) a.2 ∙ live)) (ap (λ (x : Stored). x.id) a.2 ∙ same))

-- no live slot has an id that is new
pub lacking-new : (all : List Literal) (slots : List Slot) (places : Places) (id : ℕ) → IsStored all slots places → clause_named id (attached_in (stored_at all slots)) ≡ None → LacksId slots id
lacking-new all slots places id st none k s here live same = none-some (slice_range all s.start s.end) (sym none ∙ named_at_place all slots places id k s st here live same)

first_or-old : (slots : List Slot) (s t : Slot) (k id : ℕ) → slice_get slots k ≡ Some t → first_or (slots ++ s ∷ []) id ≡ first_or slots id
first_or-old [] s t k id h = absurd (none-some t h)
first_or-old (x ∷ xs) s t k id h = refl

first_or-own : (slots : List Slot) (s : Slot) → first_or (slots ++ s ∷ []) s.id ≡ first_or slots s.id
first_or-own [] s = refl
first_or-own (x ∷ xs) s = refl

-- one more clause
module _ (all more : List Literal) (slots : List Slot) (places places' : Places) (s : Slot) (st : IsStored all slots places) (from : s.start ≡ length all) (to : s.end ≡ length (all ++ more)) (live : is_live s ≡ true) where
  pub stored_at-push : stored_at (all ++ more) (slots ++ s ∷ []) ≡ stored_at all slots ++ record { id = s.id; lits = Some more } ∷ []
  stored_at-push =
      let long : length (all ++ more) ≡ length all + length more = length-append all more in
      let rest : drop (length all) (all ++ more) ≡ more = drop_at all more (length all) refl in
      let size : length (all ++ more) - length all ≡ length more = omega arith in
      let last : slice_range (all ++ more) s.start s.end ≡ more = rw (from, to, rest, size) (take_all (length more) more (omega arith)) in
      let own : stored_in (all ++ more) s ≡ record { id = s.id; lits = Some more } = rw (live, last) refl in
      map-append (stored_in (all ++ more)) slots (s ∷ []) ∙ (rw (stored_at-more all more slots places st, own) refl)

  pub IsStored-push : LacksId slots s.id → (s.id ≡ first_or slots s.id + length slots) ⊎ (get nat_eq places' s.id ≡ Some (length slots)) → ((q : ℕ) → s.id ≢ q → get nat_eq places' q ≡ get nat_eq places q) → IsStored (all ++ more) (slots ++ s ∷ []) places'
  IsStored-push fresh own rest = record {
    inside = All-push (λ t. t.end ≤ length (all ++ more)) slots s (inside_more all more slots st.inside) (omega (arith, to));
    found = λ k t here there. elim (slice_get-push slots s k t here) [
      | inl old ↦ elim (st.found k t old there) [
        | inl direct ↦ inl (direct ∙ ap (λ n. n + k) (sym (first_or-old slots s t k t.id old)))
        | inr kept ↦ inr (rest t.id (λ same. fresh k t old there (sym same)) ∙ kept)
      ]
      | inr new ↦ subst (λ (x : Slot). (x.id ≡ first_or (slots ++ s ∷ []) x.id + k) ⊎ (get nat_eq places' x.id ≡ Some k)) new.1 (elim own [
        | inl direct ↦ inl (let e = first_or-own slots s in let n = new.0 in omega arith)
        | inr kept ↦ inr (kept ∙ ap Some (sym new.0))
      ])
    ];
    once = λ j k t u here there one two same. elim (slice_get-push slots s j t here) [
      | inl old ↦ elim (slice_get-push slots s k u there) [
        | inl also ↦ st.once j k t u old also one two same
        | inr new ↦ absurd (fresh j t old one (same ∙ ap (λ (x : Slot). x.id) (sym new.1)))
      ]
      | inr last ↦ elim (slice_get-push slots s k u there) [
        | inl old ↦ absurd (fresh k u old two (sym same ∙ ap (λ (x : Slot). x.id) (sym last.1)))
        | inr new ↦ last.0 ∙ sym new.0
      ]
    ];
  }

-- a live slot is found at one place or the other
pub found_missed : (slots : List Slot) (places : Places) (id k : ℕ) (s : Slot) (direct kept : Option ℕ) → AreFound slots places → slice_get slots k ≡ Some s → is_live s ≡ true → s.id ≡ id → ((j : ℕ) → id ≡ first_or slots id + j → direct ≡ Some j) → kept ≡ get nat_eq places id → (IsSomeAnd direct (HoldsId slots id) → ⊥) → (IsSomeAnd kept (HoldsId slots id) → ⊥) → ⊥
found_missed slots places id k s direct kept found here live same at is first second =
    let holds : HoldsId slots id k = (s, here, live, same) in
    elim (found k s here live) [
      | inl straight ↦
          let e : direct ≡ Some k = at k (sym same ∙ straight ∙ ap (λ n. first_or slots n + k) same) in
          first (subst (λ (o : Option ℕ). IsSomeAnd o (HoldsId slots id)) (sym e) holds)
      | inr by_map ↦
          let e : kept ≡ Some k = is ∙ ap (get nat_eq places) (sym same) ∙ by_map in
          second (subst (λ (o : Option ℕ). IsSomeAnd o (HoldsId slots id)) (sym e) holds)
    ]

-- a clause goes
let_go-lacking : (all : List Literal) (slots : List Slot) (id : ℕ) → LacksId slots id → let_go id (stored_at all slots) ≡ stored_at all slots
let_go-lacking all [] id h = refl
let_go-lacking all (s ∷ ss) id h =
    let rest : let_go id (stored_at all ss) ≡ stored_at all ss = let_go-lacking all ss id (λ k t here live. h (suc k) t here live) in
    elim (cases_Bool (is_live s)) [
      | inl t ↦ rw (ne_eqb s.id id (h 0 s refl t)) (ap (λ (rest : List Stored). stored_in all s ∷ rest) rest)
      | inr f ↦ elim (cases_Bool (eqb s.id id)) [
        | inl same ↦ rw (same, f) (ap (λ (rest : List Stored). let x : Stored = record { id = s.id; lits = None } in x ∷ rest) rest)
        | inr apart ↦ rw apart (ap (λ (rest : List Stored). stored_in all s ∷ rest) rest)
      ]
    ]

pub let_go-none : (all : List Literal) (slots : List Slot) (id : ℕ) → LacksId slots id → stored_at all slots ≡ let_go id (stored_at all slots)
let_go-none all slots id h = sym (let_go-lacking all slots id h)

pub let_go-at : (all : List Literal) (slots : List Slot) (id k : ℕ) (s t : Slot) → ((j i : ℕ) (x y : Slot) → slice_get slots j ≡ Some x → slice_get slots i ≡ Some y → is_live x ≡ true → is_live y ≡ true → x.id ≡ y.id → j ≡ i) → slice_get slots k ≡ Some s → is_live s ≡ true → s.id ≡ id → t.id ≡ id → is_live t ≡ false → stored_at all (set slots k t) ≡ let_go id (stored_at all slots)
let_go-at all [] id k s t once here live same own dead = absurd (none-some s here)
let_go-at all (x ∷ xs) id zero s t once here live same own dead =
    let is : x ≡ s = same_Some x s here in
    let first : x.id ≡ id = ap (λ (y : Slot). y.id) is ∙ same in
    let alive : is_live x ≡ true = ap (λ (y : Slot). is_live y) is ∙ live in
    let rest : let_go id (stored_at all xs) ≡ stored_at all xs = let_go-lacking all xs id (λ k y there also e. let n : 0 ≡ suc k = once 0 (suc k) x y refl there alive also (first ∙ sym e) in cc) in
    rw (dead, eq-eqb x.id id first, rest, own, first) refl
let_go-at all (x ∷ xs) id (suc k) s t once here live same own dead =
    let rest : stored_at all (set xs k t) ≡ let_go id (stored_at all xs) = let_go-at all xs id k s t (λ j i a b p q l m e. let n : suc j ≡ suc i = once (suc j) (suc i) a b p q l m e in cc) here live same own dead in
    elim (cases_Bool (eqb x.id id)) [
      | inl e ↦ elim (cases_Bool (is_live x)) [
        | inl l ↦ absurd (let n : 0 ≡ suc k = once 0 (suc k) x s refl here l live (eqb-true x.id id e ∙ sym same) in cc)
        | inr f ↦ rw (e, f) (ap (λ (rest : List Stored). let y : Stored = record { id = x.id; lits = None } in y ∷ rest) rest)
      ]
      | inr a ↦ rw a (ap (λ (rest : List Stored). stored_in all x ∷ rest) rest)
    ]

first_or-set : (slots : List Slot) (k : ℕ) (s t : Slot) (id : ℕ) → slice_get slots k ≡ Some s → t.id ≡ s.id → first_or (set slots k t) id ≡ first_or slots id
first_or-set [] k s t id h e = absurd (none-some s h)
first_or-set (x ∷ xs) zero s t id h e = let is : x ≡ s = same_Some x s h in e ∙ ap (λ (y : Slot). y.id) (sym is)
first_or-set (x ∷ xs) (suc k) s t id h e = refl

pub IsStored-let_go : (all : List Literal) (slots : List Slot) (places : Places) (k : ℕ) (s t : Slot) → IsStored all slots places → slice_get slots k ≡ Some s → t.id ≡ s.id → t.end ≡ 0 → is_live t ≡ false → IsStored all (set slots k t) places
IsStored-let_go all slots places k s t st here own end dead =
    let back : (j : ℕ) (x : Slot) → slice_get (set slots k t) j ≡ Some x → is_live x ≡ true → slice_get slots j ≡ Some x =
    λ j x there live. elim (cases_eq j k) [
      | inl same ↦
          let is : t ≡ x = slice_get-set_same slots k t x (rw same at there) in
          absurd (false≢true (sym dead ∙ ap (λ (y : Slot). is_live y) is ∙ live))
      | inr apart ↦ sym (slice_get-set_other slots k t j apart) ∙ there
    ] in
    record {
      inside = All-set (λ x. x.end ≤ length all) slots k t (omega (arith, end)) st.inside;
      found = λ j x there live. elim (st.found j x (back j x there live) live) [
        | inl direct ↦ inl (direct ∙ ap (λ n. n + j) (sym (first_or-set slots k s t x.id here own)))
        | inr kept ↦ inr kept
      ];
      once = λ j i x y p q l m e. st.once j i x y (back j x p l) (back i y q m) l m e;
    }
