-- Numerals where numbers are wanted.
use Rattle.std.proofs.Common.{◌≡◌, ◌^◌, ℕ, suc, not, Bool, true, false, cond, Option, Some, None, List, [], ◌∷◌, map, length, refl, sym, ap, subst, ◌∙◌, Ok}
use Rattle.std.specs.Prelude.{Result, option_map, option_and_then, find, nat_lt, codes}
use Rattle.std.specs.Str.{bytes_eq}
use Rattle.qv_sexpr.specs.declared.items.Item.{Item}
use Rattle.qv_elab_defs.specs.declared.faults.ElabKind.TheVariants.{Literal, Index, UnknownName}
use Rattle.qv_elab_defs.specs.Faults.{Fault, refuse, ◌>>=◌}
use Rattle.qv_elab_defs.specs.Tokens.{Number, number_of, all_wanted}
use Rattle.qv_elab_defs.specs.Sorts.{bits_of_indices, indexed_sort}
use Rattle.qv_elab_items.specs.Flat.{numeral_in, number_at, numbers_in, indexed_in, is_large_number, is_large, bits_with, no_indices}

some-list : (a b : List Number) → ◌≡◌ {A = Option (List Number)} (Some a) (Some b) → a ≡ b
some-list a b h = cc

-- the parts of some numerals
pub first-number : (text : List ℕ) (x : Item) (xs : List Item) (ns : List Number) → numbers_in text (x ∷ xs) ≡ Some ns → (ds : List ℕ) × (ms : List Number) × (numeral_in text x ≡ Some ds) × (numbers_in text xs ≡ Some ms) × (ns ≡ number_at x.place ds ∷ ms)
first-number text x xs ns e = go (numeral_in text x) refl (numbers_in text xs) refl e
  where
    go : (o : Option (List ℕ)) → numeral_in text x ≡ o → (r : Option (List Number)) → numbers_in text xs ≡ r → option_and_then (λ n. option_map (λ ms. n ∷ ms) r) (option_map (number_at x.place) o) ≡ Some ns → (ds : List ℕ) × (ms : List Number) × (numeral_in text x ≡ Some ds) × (numbers_in text xs ≡ Some ms) × (ns ≡ number_at x.place ds ∷ ms)
    go None f r g h = absurd (cc)
    go (Some ds) f None g h = absurd (cc)
    go (Some ds) f (Some ms) g h = (ds, ms, f, g, sym (some-list (number_at x.place ds ∷ ms) ns h))

abbrev pub place_of_large : List ℕ → List Item → Option ℕ
place_of_large text xs = option_map (λ item. item.place) (find (λ item. is_large text item) xs)

-- one numeral and others
large-one : (text : List ℕ) (x : Item) (xs : List Item) (p : ℕ) (n : ℕ) (ms : List Number) (b : Bool) → (all : Result (List ℕ) Fault) → option_map (λ (item : Item). item.place) (cond (not b) (Some x) (find (λ item. is_large text item) xs)) ≡ Some p → (place_of_large text xs ≡ Some p → all ≡ refuse p Literal) → (cond b (Ok n) (refuse x.place Literal) >>= λ v. all >>= λ vs. Ok (v ∷ vs)) ≡ refuse p Literal
large-one text x xs p n ms true all k rest = ap (λ r. r >>= λ vs. Ok (n ∷ vs)) (rest k)
large-one text x xs p n ms false all k rest = ap (λ q. refuse q Literal) (some-is x.place p k)
  where
    some-is : (a b : ℕ) → ◌≡◌ {A = Option ℕ} (Some a) (Some b) → a ≡ b
    some-is a b h = cc

pub large-first : (text : List ℕ) (xs : List Item) (ns : List Number) (p : ℕ) → numbers_in text xs ≡ Some ns → place_of_large text xs ≡ Some p → all_wanted ns ≡ refuse p Literal
large-first text [] ns p e f = absurd (cc)
large-first text (x ∷ xs) ns p e f =
    let parts = first-number text x xs ns e in
    let found = subst (λ (o : Option (List ℕ)). option_map (λ item. item.place) (cond (is_large_number o) (Some x) (find (λ item. is_large text item) xs)) ≡ Some p) parts.2 f in
    subst (λ (ms : List Number). all_wanted ms ≡ refuse p Literal) (sym parts.4)
    (large-one text x xs p (number_of 10 parts.0) parts.1 (nat_lt (number_of 10 parts.0) (2 ^ 128)) (all_wanted parts.1) found (λ k. large-first text xs parts.1 p parts.3 k))

-- none is too large
small-one : (text : List ℕ) (x : Item) (xs : List Item) (n : ℕ) (ms : List Number) (b : Bool) → option_map (λ (item : Item). item.place) (cond (not b) (Some x) (find (λ item. is_large text item) xs)) ≡ None → (place_of_large text xs ≡ None → all_wanted ms ≡ Ok (map (λ m. m.value) ms)) → (cond b (Ok n) (refuse x.place Literal) >>= λ v. all_wanted ms >>= λ vs. Ok (v ∷ vs)) ≡ Ok (n ∷ map (λ m. m.value) ms)
small-one text x xs n ms true k rest = ap (λ r. r >>= λ vs. Ok (n ∷ vs)) (rest k)
small-one text x xs n ms false k rest = absurd (cc)

pub none-large : (text : List ℕ) (xs : List Item) (ns : List Number) → numbers_in text xs ≡ Some ns → place_of_large text xs ≡ None → all_wanted ns ≡ Ok (map (λ m. m.value) ns)
none-large text [] ns e f = let same : [] ≡ ns = some-is [] ns e in subst (λ (ms : List Number). all_wanted ms ≡ Ok (map (λ m. m.value) ms)) same refl
  where
    some-is : (a b : List Number) → ◌≡◌ {A = Option (List Number)} (Some a) (Some b) → a ≡ b
    some-is a b h = cc
none-large text (x ∷ xs) ns e f =
    let parts = first-number text x xs ns e in
    let found = subst (λ (o : Option (List ℕ)). option_map (λ item. item.place) (cond (is_large_number o) (Some x) (find (λ item. is_large text item) xs)) ≡ None) parts.2 f in
    subst (λ (ms : List Number). all_wanted ms ≡ Ok (map (λ m. m.value) ms)) (sym parts.4)
    (small-one text x xs (number_of 10 parts.0) parts.1 (nat_lt (number_of 10 parts.0) (2 ^ 128)) found (λ k. none-large text xs parts.1 parts.3 k))

-- as many numbers as items
pub numbers-length : (text : List ℕ) (xs : List Item) (ns : List Number) → numbers_in text xs ≡ Some ns → length ns ≡ length xs
numbers-length text [] ns e = let same : [] ≡ ns = some-is [] ns e in ap length (sym same)
  where
    some-is : (a b : List Number) → ◌≡◌ {A = Option (List Number)} (Some a) (Some b) → a ≡ b
    some-is a b h = cc
numbers-length text (x ∷ xs) ns e =
    let parts = first-number text x xs ns e in
    ap length parts.4 ∙ ap suc (numbers-length text xs parts.1 parts.3)

-- the two uses
pub large-bits : (text : List ℕ) (xs : List Item) (ns : List Number) (place p : ℕ) → numbers_in text xs ≡ Some ns → place_of_large text xs ≡ Some p → bits_with place ns ≡ refuse p Literal
large-bits text xs ns place p e f = ap (λ r. r >>= bits_of_indices place) (large-first text xs ns p e f)

pub large-none : (text : List ℕ) (xs : List Item) (ns : List Number) (place p : ℕ) → numbers_in text xs ≡ Some ns → place_of_large text xs ≡ Some p → no_indices place ns ≡ refuse p Literal
large-none text xs ns place p e f = ap (λ r. r >>= λ _. refuse place Index) (large-first text xs ns p e f)

pub small-none : (text : List ℕ) (xs : List Item) (ns : List Number) (place : ℕ) → numbers_in text xs ≡ Some ns → place_of_large text xs ≡ None → no_indices place ns ≡ refuse place Index
small-none text xs ns place e f = ap (λ r. r >>= λ _. refuse place Index) (none-large text xs ns e f)

pub other-count : (text : List ℕ) (xs : List Item) (ns : List Number) (place : ℕ) → numbers_in text xs ≡ Some ns → place_of_large text xs ≡ None → (length xs ≡ 1 → ⊥) → bits_with place ns ≡ refuse place Index
other-count text xs ns place e f other =
    ap (λ r. r >>= bits_of_indices place) (none-large text xs ns e f)
    ∙ go ns (λ one. other (sym (numbers-length text xs ns e) ∙ one))
  where
    go : (ms : List Number) → (length ms ≡ 1 → ⊥) → bits_of_indices place (map (λ m. m.value) ms) ≡ refuse place Index
    go [] k = refl
    go (m ∷ []) k = absurd (k refl)
    go (m ∷ l ∷ ms) k = refl

pub one-count : (text : List ℕ) (x : Item) (ns : List Number) (place : ℕ) → numbers_in text (x ∷ []) ≡ Some ns → place_of_large text (x ∷ []) ≡ None → (ds : List ℕ) × (numeral_in text x ≡ Some ds) × (bits_with place ns ≡ bits_of_indices place (number_of 10 ds ∷ []))
one-count text x ns place e f =
    let parts = first-number text x [] ns e in
    let none : [] ≡ parts.1 = some-is [] parts.1 parts.3 in
    let all : ns ≡ number_at x.place parts.0 ∷ [] = parts.4 ∙ ap (λ ms. number_at x.place parts.0 ∷ ms) (sym none) in
    (parts.0, parts.2, ap (λ r. r >>= bits_of_indices place) (none-large text (x ∷ []) ns e f) ∙ ap (λ ms. bits_of_indices place (map (λ m. m.value) ms)) all)
  where
    some-is : (a b : List Number) → ◌≡◌ {A = Option (List Number)} (Some a) (Some b) → a ≡ b
    some-is a b h = cc

-- sorts by their names
pub is-bits : (text : List ℕ) (items : List Item) (place p : ℕ) (name : List ℕ) (n : Number) (ns : List Number) → indexed_in text items ≡ Some (record { place = p; name = name; first = n; others = ns }) → bytes_eq name (codes "BitVec") ≡ true → indexed_sort place (indexed_in text items) ≡ bits_with place (n ∷ ns)
is-bits text items place p name n ns e h =
    ap (indexed_sort place) e
    ∙ ap (λ b. cond b (bits_with place (n ∷ ns)) (cond (bytes_eq name (codes "Bool")) (no_indices place (n ∷ ns)) (refuse p UnknownName))) h

pub is-bool : (text : List ℕ) (items : List Item) (place p : ℕ) (name : List ℕ) (n : Number) (ns : List Number) → indexed_in text items ≡ Some (record { place = p; name = name; first = n; others = ns }) → bytes_eq name (codes "BitVec") ≡ false → bytes_eq name (codes "Bool") ≡ true → indexed_sort place (indexed_in text items) ≡ no_indices place (n ∷ ns)
is-bool text items place p name n ns e h k =
    ap (indexed_sort place) e
    ∙ ap (λ b. cond b (bits_with place (n ∷ ns)) (cond (bytes_eq name (codes "Bool")) (no_indices place (n ∷ ns)) (refuse p UnknownName))) h
    ∙ ap (λ b. cond b (no_indices place (n ∷ ns)) (refuse p UnknownName)) k

pub is-unknown : (text : List ℕ) (items : List Item) (place p : ℕ) (name : List ℕ) (n : Number) (ns : List Number) → indexed_in text items ≡ Some (record { place = p; name = name; first = n; others = ns }) → bytes_eq name (codes "BitVec") ≡ false → bytes_eq name (codes "Bool") ≡ false → indexed_sort place (indexed_in text items) ≡ refuse p UnknownName
is-unknown text items place p name n ns e h k =
    ap (indexed_sort place) e
    ∙ ap (λ b. cond b (bits_with place (n ∷ ns)) (cond (bytes_eq name (codes "Bool")) (no_indices place (n ∷ ns)) (refuse p UnknownName))) h
    ∙ ap (λ b. cond b (no_indices place (n ∷ ns)) (refuse p UnknownName)) k
