-- Literals by their digits.
use Rattle.std.proofs.Common.{◌≡◌, ◌≤◌, ◌<◌, ◌*◌, ◌^◌, ◌==◌, ◌&&◌, not, ℕ, suc, Bool, true, false, cond, Option, Some, None, List, [], ◌∷◌, length, take, drop, get_or, ◌%◌, refl, sym, ap, ◌∙◌, Ok, arith}
use Rattle.std.specs.Prelude.{Result, IfOk, nat_le, nat_lt, codes, option_and_then}
use Rattle.std.specs.Str.{bytes_eq}
use Rattle.std.proofs.lemmas.Bool.Decides.{nat_tests}
use Rattle.qv_words.proofs.Powers.{pow_le}
use Rattle.qv_sexpr.specs.declared.items.Item.{Item}
use Rattle.qv_words.specs.declared.sort.Sort.TheVariants.{Bits}
use Rattle.qv_words.specs.Sorted.{IsSorted}
use Rattle.qv_words.specs.Tree.{Tree, Literal}
use Rattle.qv_elab_defs.specs.declared.faults.ElabKind.TheVariants.{Form, Width}
use Rattle.qv_elab_defs.specs.declared.faults.ElabKind.TheVariants.{Literal as TooLarge}
use Rattle.qv_elab_defs.specs.Faults.{Fault, refuse, ◌>>=◌}
use Rattle.qv_elab_defs.specs.Tokens.{Number, number_of, small_number_of, wanted}
use Rattle.qv_elab_defs.specs.Shapes.{IndexedName}
use Rattle.qv_elab_items.specs.Flat.{numeral_in, number_at, numbers_in, indexed_in}
use Rattle.qv_elab_defs.specs.Leaves.{digits_literal, is_decimal, value_literal, indexed_literal}
use Rattle.qv_elab_items.proofs.Wanting.{first-number, numbers-length}

-- what is no number below the limit is large
large-number : (n : ℕ) → None ≡ cond (nat_lt n (2 ^ 128)) (Some n) None → 2 ^ 128 ≤ n
large-number n e = go (nat_lt n (2 ^ 128)) refl e
  where
    go : (b : Bool) → nat_lt n (2 ^ 128) ≡ b → None ≡ cond b (Some n) None → 2 ^ 128 ≤ n
    go true f g = absurd (cc)
    go false f g = grind (arith, nat_tests)

within-limit : (w : ℕ) → w ≤ 128 → 2 ^ w ≤ 2 ^ 128
within-limit w le = pow_le w 128 le

pub digits-large : (place bits : ℕ) (digits : List ℕ) → IfOk (digits_literal place bits digits) IsSorted → None ≡ cond (nat_lt (number_of (2 ^ bits) digits) (2 ^ 128)) (Some (number_of (2 ^ bits) digits)) None → digits_literal place bits digits ≡ refuse place Width
digits-large place bits digits s e = go (nat_le (bits * length digits) 128) refl s (large-number (number_of (2 ^ bits) digits) e)
  where
    go : (b : Bool) → nat_le (bits * length digits) 128 ≡ b → IfOk (cond b (Ok (Literal (Bits (bits * length digits)) (number_of (2 ^ bits) digits))) (refuse place Width)) IsSorted → 2 ^ 128 ≤ number_of (2 ^ bits) digits → ◌≡◌ {A = Result Tree Fault} (cond b (Ok (Literal (Bits (bits * length digits)) (number_of (2 ^ bits) digits))) (refuse place Width)) (refuse place Width)
    go false f s h = refl
    go true f s h =
        let le : bits * length digits ≤ 128 = grind (arith, nat_tests) in
        let up = within-limit (bits * length digits) le in
        let small = s.1 in
        absurd (omega (arith, up, small, h))

pub value-large : (place w : ℕ) (digits : List ℕ) → 1 ≤ w → w ≤ 128 → None ≡ small_number_of digits → value_literal place (number_of 10 digits) w ≡ refuse place TooLarge
value-large place w digits one le e =
    let lawful : (nat_le 1 w && nat_le w 128) ≡ true = grind (arith, nat_tests) in
    let up = within-limit w le in
    let large = large-number (number_of 10 digits) e in
    let not-small = at (number_of 10 digits) (2 ^ w) (omega (arith, up, large)) in
    ap (λ b. cond (not b) (refuse place Width) (cond (nat_lt (number_of 10 digits) (2 ^ w)) (Ok (Literal (Bits w) (number_of 10 digits))) (refuse place TooLarge))) lawful
    ∙ ap (λ b. cond b (Ok (Literal (Bits w) (number_of 10 digits))) (refuse place TooLarge)) not-small
  where
    at : (n m : ℕ) → m ≤ n → nat_lt n m ≡ false
    at n m h = grind (arith, nat_tests)

module _ (place : ℕ) (i : IndexedName) where
  abbrev test : Bool
  test = bytes_eq (take 2 i.name) (codes "bv") && is_decimal (drop 2 i.name) && length i.others == 0

  abbrev answer : Bool → Result Tree Fault
  answer b = cond b (wanted i.first >>= λ w. value_literal place (number_of 10 (drop 2 i.name)) w) (refuse place Form)

  pub others-left : 1 ≤ length i.others → indexed_literal place (Some i) ≡ refuse place Form
  others-left le =
      let more : (length i.others == 0) ≡ false = grind (arith, nat_tests) in
      go (bytes_eq (take 2 i.name) (codes "bv")) (is_decimal (drop 2 i.name)) (length i.others == 0) more
    where
      go : (a b d : Bool) → d ≡ false → answer (a && b && d) ≡ refuse place Form
      go false b d e = refl
      go true false d e = refl
      go true true d e = ap answer e

  pub a-literal : bytes_eq (take 2 i.name) (codes "bv") ≡ true → is_decimal (drop 2 i.name) ≡ true → i.others ≡ [] → indexed_literal place (Some i) ≡ (wanted i.first >>= λ w. value_literal place (number_of 10 (drop 2 i.name)) w)
  a-literal e f g = go (bytes_eq (take 2 i.name) (codes "bv")) (is_decimal (drop 2 i.name)) (length i.others == 0) e f (ap (λ xs. length xs == 0) g)
    where
      go : (a b d : Bool) → a ≡ true → b ≡ true → d ≡ true → answer (a && b && d) ≡ answer true
      go true true true e f g = refl
      go false b d e f g = absurd (cc)
      go true false d e f g = absurd (cc)
      go true true false e f g = absurd (cc)

-- numerals of which there are not one
pub more-numerals : (text : List ℕ) (numerals : List Item) (n : Number) (ns : List Number) → numbers_in text numerals ≡ Some (n ∷ ns) → 2 ≤ length numerals → 1 ≤ length ns
more-numerals text numerals n ns e le = let same : suc (length ns) ≡ length numerals = numbers-length text numerals (n ∷ ns) e in omega arith

-- the only numeral
pub one-numeral : (text : List ℕ) (x : Item) (n : Number) (ns : List Number) → numbers_in text (x ∷ []) ≡ Some (n ∷ ns) → (ds : List ℕ) × (numeral_in text x ≡ Some ds) × (n ≡ number_at x.place ds) × (ns ≡ [])
one-numeral text x n ns e =
    let parts = first-number text x [] (n ∷ ns) e in
    let none : [] ≡ parts.1 = some-is [] parts.1 parts.3 in
    let whole : n ∷ ns ≡ number_at x.place parts.0 ∷ [] = parts.4 ∙ ap (λ ms. number_at x.place parts.0 ∷ ms) (sym none) in
    (parts.0, parts.2, heads n (number_at x.place parts.0) ns [] whole, tails n (number_at x.place parts.0) ns [] whole)
  where
    some-is : (a b : List Number) → ◌≡◌ {A = Option (List Number)} (Some a) (Some b) → a ≡ b
    some-is a b h = cc

    heads : (a b : Number) (xs ys : List Number) → a ∷ xs ≡ b ∷ ys → a ≡ b
    heads a b xs ys h = cc

    tails : (a b : Number) (xs ys : List Number) → a ∷ xs ≡ b ∷ ys → xs ≡ ys
    tails a b xs ys h = cc

pub wanted-small : (place : ℕ) (ds : List ℕ) (w : ℕ) → Some w ≡ small_number_of ds → wanted (number_at place ds) ≡ Ok w
wanted-small place ds w e = go (nat_lt (number_of 10 ds) (2 ^ 128)) e
  where
    some-is : (a b : ℕ) → ◌≡◌ {A = Option ℕ} (Some a) (Some b) → a ≡ b
    some-is a b h = cc

    go : (b : Bool) → Some w ≡ cond b (Some (number_of 10 ds)) None → ◌≡◌ {A = Result ℕ Fault} (cond b (Ok (number_of 10 ds)) (refuse place TooLarge)) (Ok w)
    go true e = ap Ok (sym (some-is w (number_of 10 ds) e))
    go false e = absurd (cc)

pub wanted-large : (place : ℕ) (ds : List ℕ) → None ≡ small_number_of ds → wanted (number_at place ds) ≡ refuse place TooLarge
wanted-large place ds e = go (nat_lt (number_of 10 ds) (2 ^ 128)) e
  where
    go : (b : Bool) → None ≡ cond b (Some (number_of 10 ds)) None → ◌≡◌ {A = Result ℕ Fault} (cond b (Ok (number_of 10 ds)) (refuse place TooLarge)) (refuse place TooLarge)
    go true e = absurd (cc)
    go false e = refl

-- a base as it is shifted
pub shifted : (bits : ℕ) → bits ≤ 4 → (1 * 2 ^ bits) % 256 ≡ 2 ^ bits
shifted bits le = let up = pow_le bits 4 le in omega (arith, up)

-- (_ bvN w) with one small numeral
pub indexed-small : (place p w : ℕ) (text name : List ℕ) (its numerals : List Item) (n : Number) (ns : List Number) (d : Item) → indexed_in text its ≡ Some (record { place = p; name = name; first = n; others = ns }) → numbers_in text numerals ≡ Some (n ∷ ns) → 1 ≤ length numerals → length numerals < 2 → bytes_eq (take 2 name) (codes "bv") ≡ true → is_decimal (drop 2 name) ≡ true → Some w ≡ option_and_then small_number_of (numeral_in text (get_or numerals 0 d)) → indexed_literal place (indexed_in text its) ≡ value_literal place (number_of 10 (drop 2 name)) w
indexed-small place p w text name its [] n ns d e f le lt g h s = absurd (omega (arith, le))
indexed-small place p w text name its (x ∷ y ∷ xs) n ns d e f le lt g h s = absurd (omega (arith, lt))
indexed-small place p w text name its (x ∷ []) n ns d e f le lt g h s =
    let one = one-numeral text x n ns f in
    let i : IndexedName = record { place = p; name = name; first = n; others = ns } in
    let number : Some w ≡ small_number_of one.0 = s ∙ ap (option_and_then small_number_of) one.1 in
    ap (indexed_literal place) e
    ∙ a-literal place i g h one.3
    ∙ ap (λ (m : Number). wanted m >>= λ v. value_literal place (number_of 10 (drop 2 name)) v) one.2
    ∙ ap (λ (r : Result ℕ Fault). r >>= λ v. value_literal place (number_of 10 (drop 2 name)) v) (wanted-small x.place one.0 w number)
