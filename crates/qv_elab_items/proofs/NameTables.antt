-- Names as they are bound and let go.
use Rattle.std.proofs.Common.{◌≡◌, ◌≤◌, ◌<◌, ◌+◌, ◌-◌, ℕ, zero, suc, ◌⊎◌, inl, inr, Bool, true, false, cond, Option, Some, None, List, [], ◌∷◌, ◌++◌, length, take, drop, slice_get, refl, sym, ap, subst, ◌∙◌, arith}
use Rattle.std.specs.Prelude.{Vec, IsSome, Result, Ok, Err, OnOk, is_err, nat_eq}
use Rattle.std.specs.Str.{bytes_eq}
use Rattle.std.specs.HashMap.{HashMap, get_by, UpdatesBy}
use Rattle.std.specs.Map.{KeepsOthers, lookup}
use Rattle.std.specs.Cmp.Lexicographic.{pointwise, bytes_decides, nat_list_eq_equiv}
use Rattle.std.specs.declared.alloc.Global.{Global}
use Rattle.std.specs.declared.hash.DefaultHasher.{DefaultHasher}
use Rattle.std.specs.declared.hash.BuildHasherDefault.{BuildHasherDefault}
use Rattle.std.proofs.Math.Nat.{zero-add}
use Rattle.qv_words.proofs.Elements.{pushed-cases, pushed-last}
use Rattle.qv_elab_items.specs.declared.names.Bound.{Bound}
use Rattle.qv_elab_items.specs.Places.{place_in}
use Rattle.qv_elab_items.specs.Bindings.{names_onto, names_of, AreKept}

names-onto : (bs : List Bound) (b : Bound) (names : List (List ℕ)) → names_onto (bs ++ b ∷ []) names ≡ b.name.items ∷ names_onto bs names
names-onto [] b names = refl
names-onto (x ∷ bs) b names = names-onto bs b (x.name.items ∷ names)

pub names-push : (bs : List Bound) (b : Bound) → names_of (bs ++ b ∷ []) ≡ b.name.items ∷ names_of bs
unfolding names_of
names-push bs b = names-onto bs b []

onto-length : (bs : List Bound) (names : List (List ℕ)) → length (names_onto bs names) ≡ length bs + length names
onto-length [] names = sym (zero-add (length names))
onto-length (b ∷ bs) names = onto-length bs (b.name.items ∷ names) ∙ omega arith

pub names-length : (bs : List Bound) → length (names_of bs) ≡ length bs
unfolding names_of
names-length bs = onto-length bs [] ∙ omega arith

pub names-none : names_of [] ≡ []
unfolding names_of
names-none = refl

pub names-empty : (bs : List Bound) → length bs ≡ 0 → names_of bs ≡ []
names-empty [] e = names-none
names-empty (b ∷ bs) e = absurd (omega arith)

-- the name of a place
onto-behind : (bs : List Bound) (names : List (List ℕ)) (j : ℕ) → slice_get (names_onto bs names) (length bs + j) ≡ slice_get names j
onto-behind [] names j = ap (λ n. slice_get names n) (zero-add j)
onto-behind (b ∷ bs) names j =
    let at : suc (length bs) + j ≡ length bs + suc j = omega arith in
    ap (λ n. slice_get (names_onto bs (b.name.items ∷ names)) n) at ∙ onto-behind bs (b.name.items ∷ names) (suc j)

onto-at : (bs : List Bound) (names : List (List ℕ)) (p : ℕ) (b : Bound) → p < length bs → slice_get bs p ≡ Some b → slice_get (names_onto bs names) (length bs - 1 - p) ≡ Some b.name.items
onto-at [] names p b lt e = absurd (omega arith)
onto-at (x ∷ bs) names zero b lt e =
    let same : x ≡ b = cc in
    let at : suc (length bs) - 1 - 0 ≡ length bs + 0 = omega arith in
    ap (λ n. slice_get (names_onto bs (x.name.items ∷ names)) n) at ∙ onto-behind bs (x.name.items ∷ names) 0 ∙ ap (λ (y : Bound). Some y.name.items) same
onto-at (x ∷ bs) names (suc p) b lt e =
    let at : suc (length bs) - 1 - suc p ≡ length bs - 1 - p = omega arith in
    ap (λ n. slice_get (names_onto bs (x.name.items ∷ names)) n) at ∙ onto-at bs (x.name.items ∷ names) p b (omega arith) e

pub names-at : (bs : List Bound) (p : ℕ) (b : Bound) → p < length bs → slice_get bs p ≡ Some b → slice_get (names_of bs) (length bs - 1 - p) ≡ Some b.name.items
unfolding names_of
names-at bs p b lt e = onto-at bs [] p b lt e

pub of-ok : {T E : Type 0} (r : Result T E) (P : Type 0) → is_err r ≡ false → OnOk r P → P
of-ok (Ok v) P e h = h
of-ok (Err f) P e h = absurd (cc)

pub not-none : (o : Option ℕ) → IsSome o → None ≡ o → ⊥
not-none None h e = absurd (cc)
not-none (Some x) h e = absurd (cc)

abbrev pub Map : Type 0
Map = HashMap (Vec ℕ Global) ℕ (BuildHasherDefault DefaultHasher)

-- a change at some bytes, in the test of the bytes
abbrev pub Changes : List ℕ → Map → Map → Option ℕ → Type 0
Changes bs m n w = UpdatesBy (λ x y. pointwise nat_eq x.items y.items) (λ k. pointwise nat_eq bs k.items) m n w

others : (bs : List ℕ) (m n : Map) (w : Option ℕ) → Changes bs m n w → (cs : List ℕ) → bytes_eq bs cs ≡ false → get_by (λ k. bytes_eq cs k.items) n ≡ get_by (λ k. bytes_eq cs k.items) m
unfolding KeepsOthers
others bs m n w h cs e = h.3 (λ k. bytes_eq cs k.items) (λ x y t. nat_list_eq_equiv.congr cs x.items y.items t) (λ k t. nat_list_eq_equiv.symm cs k.items ∙ sym (nat_list_eq_equiv.congr bs k.items cs t) ∙ e)

updated : (bs : List ℕ) (m n : Map) (w : Option ℕ) → Changes bs m n w → (cs : List ℕ) → get_by (λ k. bytes_eq cs k.items) n ≡ cond (bytes_eq bs cs) w (get_by (λ k. bytes_eq cs k.items) m)
updated bs m n w h cs = go (bytes_eq bs cs) refl
  where
    go : (b : Bool) → bytes_eq bs cs ≡ b → get_by (λ k. bytes_eq cs k.items) n ≡ cond b w (get_by (λ k. bytes_eq cs k.items) m)
    go true e = subst (λ l. get_by (λ k. bytes_eq l k.items) n ≡ w) ((bytes_decides bs cs).0 e) h.1
    go false e = others bs m n w h cs e

taken : (bs : List Bound) (b : Bound) (i : ℕ) → i ≤ length bs → take i (bs ++ b ∷ []) ≡ take i bs
taken bs b zero le = refl
taken [] b (suc i) le = absurd (omega (arith, le))
taken (x ∷ bs) b (suc i) le = ap (λ xs. x ∷ xs) (taken bs b i (omega (arith, le)))

taken-all : (bs : List Bound) → take (length bs) bs ≡ bs
taken-all [] = refl
taken-all (x ∷ bs) = ap (λ xs. x ∷ xs) (taken-all bs)

within : (bs : List Bound) (i : ℕ) (x : Bound) → slice_get bs i ≡ Some x → i < length bs
within [] i x e = absurd (cc)
within (b ∷ bs) zero x e = omega arith
within (b ∷ bs) (suc i) x e = let k = within bs i x e in omega arith

pushed-front : (bs : List Bound) (b : Bound) (i : ℕ) (x : Bound) → slice_get bs i ≡ Some x → slice_get (bs ++ b ∷ []) i ≡ Some x
pushed-front [] b i x e = absurd (cc)
pushed-front (y ∷ bs) b zero x e = e
pushed-front (y ∷ bs) b (suc i) x e = pushed-front bs b i x e

pub kept-push : (m n : Map) (bs : List Bound) (b : Bound) → AreKept m bs → b.before ≡ place_in b.name.items (names_of bs) → Changes b.name.items m n (Some (length bs)) → AreKept n (bs ++ b ∷ [])
kept-push m n bs b h before change = record {
  found = λ name.
      updated b.name.items m n (Some (length bs)) change name
      ∙ ap (λ o. cond (bytes_eq b.name.items name) (Some (length bs)) o) (h.found name)
      ∙ ap (λ l. cond (bytes_eq b.name.items name) (Some l) (place_in name (names_of bs))) (sym (names-length bs))
      ∙ ap (λ ns. place_in name ns) (sym (names-push bs b));
  before = λ i x e. go i x (pushed-cases bs b i x e);
}
  where
    go : (i : ℕ) (x : Bound) → (slice_get bs i ≡ Some x) ⊎ ((i ≡ length bs) × (b ≡ x)) → x.before ≡ place_in x.name.items (names_of (take i (bs ++ b ∷ [])))
    go i x (inl e) =
        let lt = within bs i x e in
        h.before i x e ∙ ap (λ xs. place_in x.name.items (names_of xs)) (sym (taken bs b i (omega arith)))
    go i x (inr e) =
        let le : i ≤ length bs = omega (arith, e.0) in
        let all : take i (bs ++ b ∷ []) ≡ bs = taken bs b i le ∙ ap (λ j. take j bs) e.0 ∙ taken-all bs in
        subst (λ (y : Bound). y.before ≡ place_in y.name.items (names_of (take i (bs ++ b ∷ [])))) e.1 (before ∙ ap (λ xs. place_in b.name.items (names_of xs)) (sym all))

-- the binding before the newest
pub before-last : (m : Map) (bs : List Bound) (b : Bound) → AreKept m (bs ++ b ∷ []) → b.before ≡ place_in b.name.items (names_of bs)
before-last m bs b h =
    let all : take (length bs) (bs ++ b ∷ []) ≡ bs = taken bs b (length bs) (omega arith) ∙ taken-all bs in
    h.before (length bs) b (pushed-last bs b) ∙ ap (λ xs. place_in b.name.items (names_of xs)) all

-- the newest is found
pub found-last : (m : Map) (bs : List Bound) (b : Bound) → AreKept m (bs ++ b ∷ []) → get_by (λ k. bytes_eq b.name.items k.items) m ≡ Some (length bs)
found-last m bs b h =
    h.found b.name.items
    ∙ ap (λ ns. place_in b.name.items ns) (names-push bs b)
    ∙ ap (λ t. cond t (Some (length (names_of bs))) (place_in b.name.items (names_of bs))) (nat_list_eq_equiv.refl b.name.items)
    ∙ ap Some (names-length bs)

pub kept-none : (m : Map) → m.entries ≡ [] → AreKept m []
kept-none m e = record {
  found = λ name. ap (λ es. lookup (λ k. bytes_eq name k.items) es) e ∙ ap (λ ns. place_in name ns) (sym names-none);
  before = λ i b k. absurd (cc);
}

pub kept-pop : (m n : Map) (bs : List Bound) (b : Bound) → AreKept m (bs ++ b ∷ []) → Changes b.name.items m n b.before → AreKept n bs
kept-pop m n bs b h change = record {
  found = λ name. updated b.name.items m n b.before change name ∙ go name (bytes_eq b.name.items name) refl;
  before = λ i x e.
      let lt = within bs i x e in
      h.before i x (front i x e) ∙ ap (λ xs. place_in x.name.items (names_of xs)) (taken bs b i (omega arith));
}
  where
    front : (i : ℕ) (x : Bound) → slice_get bs i ≡ Some x → slice_get (bs ++ b ∷ []) i ≡ Some x
    front i x e = pushed-front bs b i x e

    go : (name : List ℕ) (t : Bool) → bytes_eq b.name.items name ≡ t → cond t b.before (get_by (λ k. bytes_eq name k.items) m) ≡ place_in name (names_of bs)
    go name true e = before-last m bs b h ∙ ap (λ l. place_in l (names_of bs)) ((bytes_decides b.name.items name).0 e)
    go name false e =
        h.found name ∙ ap (λ ns. place_in name ns) (names-push bs b)
        ∙ ap (λ t. cond t (Some (length (names_of bs))) (place_in name (names_of bs))) e

-- fewer names
pub fewer : {A : Type 0} (xs : List A) (left : ℕ) → left < length xs → length (drop 1 xs) < length xs
fewer [] left h = absurd (omega (arith, h))
fewer (x ∷ xs) left h = omega arith

pub same-left : {A : Type 0} (xs : List A) (left : ℕ) → left < length xs → drop (length (drop 1 xs) - left) (drop 1 xs) ≡ drop (length xs - left) xs
same-left [] left h = absurd (omega (arith, h))
same-left (x ∷ xs) left h =
    let one : suc (length xs) - left ≡ suc (length xs - left) = omega (arith, h) in
    sym (ap (λ n. drop n (x ∷ xs)) one)

pub all-left : {A : Type 0} (xs : List A) (left : ℕ) → length xs ≤ left → drop (length xs - left) xs ≡ xs
all-left xs left h = let none : length xs - left ≡ 0 = omega arith in ap (λ n. drop n xs) none
