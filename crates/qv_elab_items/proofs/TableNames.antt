-- Names of which no two are the same.
use Rattle.std.proofs.Common.{◌≡◌, ℕ, zero, suc, ◌+◌, ◌-◌, ◌||◌, Bool, true, false, cond, Some, None, List, [], ◌∷◌, ◌++◌, length, take, drop, refl, sym, ap, subst, ◌∙◌, arith}
use Rattle.std.specs.Prelude.{Vec, Result, Ok, Err, IfOk, is_err}
use Rattle.std.specs.List.{list_any, position_from}
use Rattle.std.specs.Str.{bytes_eq}
use Rattle.std.specs.Cmp.Lexicographic.{bytes_decides, nat_list_eq_equiv}
use Rattle.std.specs.declared.alloc.Global.{Global}
use Rattle.std.proofs.Math.Nat.{zero-add}
use Rattle.qv_elab_items.specs.Places.{place_in}
use Rattle.qv_elab_items.specs.Tables.{keys_onto, names_in, HaveNoTwins}

abbrev Key : Type 0
Key = Vec ℕ Global

-- none
pub table-none : (ks : List Key) → ks ≡ [] → names_in ks ≡ []
unfolding names_in
table-none ks e = ap (λ xs. keys_onto xs []) e

pub twins-none : (ks : List Key) → ks ≡ [] → HaveNoTwins (names_in ks)
twins-none ks e = subst HaveNoTwins (sym (table-none ks e)) tt

-- how many
onto-length : (ks : List Key) (names : List (List ℕ)) → length (keys_onto ks names) ≡ length ks + length names
onto-length [] names = sym (zero-add (length names))
onto-length (k ∷ ks) names = onto-length ks (k.items ∷ names) ∙ omega arith

pub table-length : (ks : List Key) → length (names_in ks) ≡ length ks
unfolding names_in
table-length ks = onto-length ks [] ∙ omega arith

-- what is behind others
twins-behind : (ks : List Key) (names : List (List ℕ)) → HaveNoTwins (keys_onto ks names) → HaveNoTwins names
twins-behind [] names h = h
twins-behind (k ∷ ks) names h = (twins-behind ks (k.items ∷ names) h).1

other-name : (k : Key) (name : List ℕ) → bytes_eq name k.items ≡ false → bytes_eq k.items name ≡ false
other-name k name e = go (bytes_eq k.items name) refl
  where
    go : (b : Bool) → bytes_eq k.items name ≡ b → bytes_eq k.items name ≡ false
    go false f = f
    go true f =
        let same : k.items ≡ name = (bytes_decides k.items name).0 f in
        let own : bytes_eq name k.items ≡ true = ap (λ n. bytes_eq name n) same ∙ nat_list_eq_equiv.refl name in
        let wrong : true ≡ false = sym own ∙ e in
        absurd cc

-- a name that is there is found at its own place, whatever is in front
stays : (name : List ℕ) (ks : List Key) (names : List (List ℕ)) (p : ℕ) → HaveNoTwins (keys_onto ks names) → place_in name names ≡ Some p → place_in name (keys_onto ks names) ≡ Some p
stays name [] names p h e = e
stays name (k ∷ ks) names p h e = stays name ks (k.items ∷ names) p h (go (bytes_eq k.items name) refl)
  where
    go : (b : Bool) → bytes_eq k.items name ≡ b → cond b (Some (length names)) (place_in name names) ≡ Some p
    go false f = e
    go true f =
        let same : k.items ≡ name = (bytes_decides k.items name).0 f in
        let none : place_in k.items names ≡ None = (twins-behind ks (k.items ∷ names) h).0 in
        let wrong : None ≡ Some p = sym none ∙ ap (λ n. place_in n names) same ∙ e in
        absurd cc

found-onto : (name : List ℕ) (ks : List Key) (names : List (List ℕ)) → HaveNoTwins (keys_onto ks names) → place_in name names ≡ None → position_from (λ k. bytes_eq name k.items) (length names) ks ≡ place_in name (keys_onto ks names)
found-onto name [] names h e = sym e
found-onto name (k ∷ ks) names h e = go (bytes_eq name k.items) refl (λ f. found-onto name ks (k.items ∷ names) h f)
  where
    go : (b : Bool) → bytes_eq name k.items ≡ b → (place_in name (k.items ∷ names) ≡ None → position_from (λ x. bytes_eq name x.items) (suc (length names)) ks ≡ place_in name (keys_onto ks (k.items ∷ names))) →
        cond b (Some (length names)) (position_from (λ x. bytes_eq name x.items) (length names + 1) ks) ≡ place_in name (keys_onto ks (k.items ∷ names))
    go true f again =
        let same : name ≡ k.items = (bytes_decides name k.items).0 f in
        let own : bytes_eq k.items name ≡ true = ap (λ n. bytes_eq k.items n) same ∙ nat_list_eq_equiv.refl k.items in
        sym (stays name ks (k.items ∷ names) (length names) h (ap (λ b. cond b (Some (length names)) (place_in name names)) own))
    go false f again =
        let next : length names + 1 ≡ suc (length names) = omega arith in
        ap (λ n. position_from (λ x. bytes_eq name x.items) n ks) next
        ∙ again (ap (λ b. cond b (Some (length names)) (place_in name names)) (other-name k name f) ∙ e)

-- a name is found at the place at which it stands
pub table-found : (name : List ℕ) (ks : List Key) → HaveNoTwins (names_in ks) → position_from (λ k. bytes_eq name k.items) 0 ks ≡ place_in name (names_in ks)
unfolding names_in
table-found name ks h = found-onto name ks [] h refl

-- a name that is nowhere
none-behind : (name : List ℕ) (ks : List Key) (names : List (List ℕ)) → place_in name (keys_onto ks names) ≡ None → place_in name names ≡ None
none-behind name [] names e = e
none-behind name (k ∷ ks) names e = go (bytes_eq k.items name) (none-behind name ks (k.items ∷ names) e)
  where
    go : (b : Bool) → cond b (Some (length names)) (place_in name names) ≡ None → place_in name names ≡ None
    go true f = absurd cc
    go false f = f

absent-onto : (name : List ℕ) (ks : List Key) (names : List (List ℕ)) → place_in name (keys_onto ks names) ≡ None → list_any (λ k. bytes_eq name k.items) ks ≡ false
absent-onto name [] names e = refl
absent-onto name (k ∷ ks) names e = go (bytes_eq name k.items) refl (absent-onto name ks (k.items ∷ names) e)
  where
    go : (b : Bool) → bytes_eq name k.items ≡ b → list_any (λ x. bytes_eq name x.items) ks ≡ false → (b || list_any (λ x. bytes_eq name x.items) ks) ≡ false
    go false f rest = rest
    go true f rest =
        let same : name ≡ k.items = (bytes_decides name k.items).0 f in
        let own : bytes_eq k.items name ≡ true = ap (λ n. bytes_eq k.items n) same ∙ nat_list_eq_equiv.refl k.items in
        let there : place_in name (k.items ∷ names) ≡ Some (length names) = ap (λ b. cond b (Some (length names)) (place_in name names)) own in
        let wrong : Some (length names) ≡ None = sym there ∙ none-behind name ks (k.items ∷ names) e in
        absurd cc

pub table-absent : (name : List ℕ) (ks : List Key) → place_in name (names_in ks) ≡ None → list_any (λ k. bytes_eq name k.items) ks ≡ false
unfolding names_in
table-absent name ks e = absent-onto name ks [] e

-- one more
onto-push : (ks : List Key) (k : Key) (names : List (List ℕ)) → keys_onto (ks ++ k ∷ []) names ≡ k.items ∷ keys_onto ks names
onto-push [] k names = refl
onto-push (x ∷ ks) k names = onto-push ks k (x.items ∷ names)

pub table-push : (ks : List Key) (k : Key) → names_in (ks ++ k ∷ []) ≡ k.items ∷ names_in ks
unfolding names_in
table-push ks k = onto-push ks k []

pub twins-push : (ks : List Key) (k : Key) → HaveNoTwins (names_in ks) → place_in k.items (names_in ks) ≡ None → HaveNoTwins (names_in (ks ++ k ∷ []))
twins-push ks k h e = subst HaveNoTwins (sym (table-push ks k)) (e, h)

-- a name that was put behind others, or not
pub of-if_ok : {T E : Type 0} (r : Result T E) (P : Type 0) → is_err r ≡ false → IfOk r (λ _. P) → P
of-if_ok (Ok v) P e h = h
of-if_ok (Err f) P e h = absurd (cc)

pub keys-push : (ks : List Key) (k : Key) (all : List Key) (ns : List (List ℕ)) (name : List ℕ) → all ≡ cond (list_any (λ x. bytes_eq k.items x.items) ks) ks (ks ++ k ∷ []) → k.items ≡ name → names_in ks ≡ ns → place_in name ns ≡ None → all ≡ ks ++ k ∷ []
keys-push ks k all ns name is same view none =
    let own : place_in k.items (names_in ks) ≡ None = ap (λ n. place_in n (names_in ks)) same ∙ ap (place_in name) view ∙ none in
    is ∙ ap (λ b. cond b ks (ks ++ k ∷ [])) (table-absent k.items ks own)

-- fewer
dropped-onto : (ks : List Key) (names : List (List ℕ)) → drop (length ks) (keys_onto ks names) ≡ names
dropped-onto [] names = refl
dropped-onto (k ∷ ks) names = sym (one (length ks) (keys_onto ks (k.items ∷ names))) ∙ ap (drop 1) (dropped-onto ks (k.items ∷ names))
  where
    one : (n : ℕ) (xs : List (List ℕ)) → drop 1 (drop n xs) ≡ drop (suc n) xs
    one zero [] = refl
    one zero (x ∷ xs) = refl
    one (suc n) [] = refl
    one (suc n) (x ∷ xs) = one n xs

onto-take : (left : ℕ) (ks : List Key) (names : List (List ℕ)) → keys_onto (take left ks) names ≡ drop (length ks - left) (keys_onto ks names)
onto-take zero [] names = refl
onto-take zero (k ∷ ks) names =
    let all : suc (length ks) - 0 ≡ suc (length ks) = omega arith in
    sym (ap (λ n. drop n (keys_onto ks (k.items ∷ names))) all ∙ dropped-onto (k ∷ ks) names)
onto-take (suc left) [] names = let none : 0 - suc left ≡ 0 = omega arith in sym (ap (λ n. drop n names) none)
onto-take (suc left) (k ∷ ks) names =
    let fewer : suc (length ks) - suc left ≡ length ks - left = omega arith in
    onto-take left ks (k.items ∷ names) ∙ ap (λ n. drop n (keys_onto ks (k.items ∷ names))) (sym fewer)

pub table-take : (left : ℕ) (ks : List Key) → names_in (take left ks) ≡ drop (length (names_in ks) - left) (names_in ks)
unfolding names_in
table-take left ks = onto-take left ks [] ∙ ap (λ n. drop (n - left) (keys_onto ks [])) (sym (onto-length ks [] ∙ omega arith))

twins-drop : (n : ℕ) (names : List (List ℕ)) → HaveNoTwins names → HaveNoTwins (drop n names)
twins-drop zero names h = h
twins-drop (suc n) [] h = tt
twins-drop (suc n) (x ∷ names) h = twins-drop n names h.1

pub twins-take : (left : ℕ) (ks : List Key) → HaveNoTwins (names_in ks) → HaveNoTwins (names_in (take left ks))
twins-take left ks h = subst HaveNoTwins (sym (table-take left ks)) (twins-drop (length (names_in ks) - left) (names_in ks) h)
