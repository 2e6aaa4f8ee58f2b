-- Names with indices by their items.
use Rattle.std.proofs.Common.{◌≡◌, ◌&&◌, ◌==◌, ℕ, suc, Bool, true, false, Option, Some, None, List, [], ◌∷◌, length, refl, sym, ap, subst, ◌∙◌, arith}
use Rattle.std.specs.Prelude.{option_map, option_and_then, is_some}
use Rattle.std.specs.List.{list_all}
use Rattle.qv_words.proofs.Equals.{eq-from_test}
use Rattle.qv_sexpr.specs.declared.items.Item.{Item}
use Rattle.qv_elab_defs.specs.Tokens.{Number}
use Rattle.qv_elab_defs.specs.Shapes.{indexed_with}
use Rattle.qv_elab_items.specs.Flat.{name_in, numeral_in, number_at, numbers_in}
use Rattle.qv_elab_items.specs.Listed.{IsIndexed}

abbrev are_numerals : List ℕ → List Item → Bool
are_numerals text xs = list_all (λ x. is_some (numeral_in text x)) xs

numbers-there : (text : List ℕ) (xs : List Item) → are_numerals text xs ≡ true → (ns : List Number) × (numbers_in text xs ≡ Some ns) × (length ns ≡ length xs)
numbers-there text [] h = ([], refl, refl)
numbers-there text (x ∷ xs) h = go (numeral_in text x) refl h (λ k. numbers-there text xs k)
  where
    go : (o : Option (List ℕ)) → numeral_in text x ≡ o → (is_some o && are_numerals text xs) ≡ true → (are_numerals text xs ≡ true → (ns : List Number) × (numbers_in text xs ≡ Some ns) × (length ns ≡ length xs)) → (ns : List Number) × (option_and_then (λ n. option_map (λ ns. n ∷ ns) (numbers_in text xs)) (option_map (number_at x.place) (numeral_in text x)) ≡ Some ns) × (length ns ≡ suc (length xs))
    go None e k rest = absurd (cc)
    go (Some ds) e k rest =
        let more = rest k in (
          number_at x.place ds ∷ more.0,
          ap (λ o. option_and_then (λ n. option_map (λ ns. n ∷ ns) (numbers_in text xs)) (option_map (number_at x.place) o)) e ∙ ap (λ o. option_map (λ ns. number_at x.place ds ∷ ns) o) more.1,
          ap suc more.2,
        )

numbers-not : (text : List ℕ) (xs : List Item) → are_numerals text xs ≡ false → numbers_in text xs ≡ None
numbers-not text [] h = absurd (cc)
numbers-not text (x ∷ xs) h = go (numeral_in text x) refl h (λ k. numbers-not text xs k)
  where
    go : (o : Option (List ℕ)) → numeral_in text x ≡ o → (is_some o && are_numerals text xs) ≡ false → (are_numerals text xs ≡ false → numbers_in text xs ≡ None) → option_and_then (λ n. option_map (λ ns. n ∷ ns) (numbers_in text xs)) (option_map (number_at x.place) (numeral_in text x)) ≡ None
    go None e k rest = ap (λ o. option_and_then (λ n. option_map (λ ns. n ∷ ns) (numbers_in text xs)) (option_map (number_at x.place) o)) e
    go (Some ds) e k rest =
        ap (λ o. option_and_then (λ n. option_map (λ ns. n ∷ ns) (numbers_in text xs)) (option_map (number_at x.place) o)) e ∙ ap (λ o. option_map (λ ns. number_at x.place ds ∷ ns) o) (rest k)

not-empty : (n : ℕ) → n ≡ 0 → (n == 0) ≡ false → ⊥
not-empty n e h = let k = ap (λ m. m == 0) e in absurd (cc)

empty : (xs : List Item) → (length xs == 0) ≡ true → xs ≡ []
empty [] h = refl
empty (x ∷ xs) h = let e : suc (length xs) ≡ 0 = eq-from_test (suc (length xs)) 0 h in absurd (omega (arith, e))

pub indexed-name : (text : List ℕ) (x : Item) (xs all : List Item) (name : List ℕ) → all ≡ x ∷ xs → name_in text x ≡ Some name → (length xs == 0) ≡ false → are_numerals text xs ≡ true → IsIndexed text all (Some (x.place, name, xs))
indexed-name text x xs all name e is some h =
    subst (λ (ys : List Item). IsIndexed text ys (Some (x.place, name, xs))) (sym e) (go (numbers-there text xs h).0 (numbers-there text xs h).1 (numbers-there text xs h).2)
  where
    go : (ns : List Number) → numbers_in text xs ≡ Some ns → length ns ≡ length xs → IsIndexed text (x ∷ xs) (Some (x.place, name, xs))
    go [] k l = absurd (not-empty (length xs) (sym l) some)
    go (n ∷ ns) k l = (n, ns, ap (option_and_then (λ name. indexed_with x.place name (numbers_in text xs))) is ∙ ap (indexed_with x.place name) k, k)

pub indexed-none : (text : List ℕ) (x : Item) (xs all : List Item) (name : List ℕ) → all ≡ x ∷ xs → name_in text x ≡ Some name → (length xs == 0) ≡ true → IsIndexed text all None
indexed-none text x xs all name e is none =
    subst (λ (ys : List Item). IsIndexed text ys None) (sym e)
    (ap (option_and_then (λ name. indexed_with x.place name (numbers_in text xs))) is ∙ ap (λ ys. indexed_with x.place name (numbers_in text ys)) (empty xs none))

pub indexed-not : (text : List ℕ) (x : Item) (xs all : List Item) (name : List ℕ) → all ≡ x ∷ xs → name_in text x ≡ Some name → are_numerals text xs ≡ false → IsIndexed text all None
indexed-not text x xs all name e is h =
    subst (λ (ys : List Item). IsIndexed text ys None) (sym e)
    (ap (option_and_then (λ name. indexed_with x.place name (numbers_in text xs))) is ∙ ap (indexed_with x.place name) (numbers-not text xs h))
