-- What is read is in its range.
use Rattle.std.proofs.Common.{◌≡◌, ℕ, zero, suc, ◌-◌, ◌^◌, ◌≤◌, Bool, true, false, cond, leb, List, [], ◌∷◌, Option, Some, None, refl, ap, subst, ◌∙◌, ℤ, pos, negsuc, neg_ℤ, arith}
use Rattle.std.specs.Prelude.{Result, Ok, Err, IfOk, ◌&&◌, ◌==◌, unsigned_abs, All, slice_index, drop}
use Rattle.std.specs.Option.{option_map}
use Rattle.std.specs.Str.{all_ascii_digits}
use Rattle.std.specs.Str.Parse.{digits_value}
use Rattle.std.proofs.lemmas.Bool.{and_parts, leb-true}
use Rattle.std.proofs.lemmas.List.Elements.{All-nil, All-cons}
use Rattle.qv_cnf.specs.Literal.{Literal, IsLiteral, literal_of}
use Rattle.qv_cnf.specs.LratLine.{LratLine, Addition, Deletion, line_of}
use Rattle.qv_cnf.specs.declared.steps.Step.{Step}
use Rattle.qv_lrat_text.specs.declared.fault.LineFault.{LineFault}
use Rattle.qv_lrat_text.specs.Reading.{Gives}
use Rattle.qv_lrat_text.specs.Words.{is_byte_word}
use Rattle.qv_lrat_text.specs.Decimal.{in_range, number_from, signed_number}
use Rattle.qv_lrat_text.specs.Grammar.{◌>>=◌, id_of, hint_of, literal_in, numbers_to_zero, ended, addition, deletion, behind_id, line_of_words, IsId, IsHint, IsLine}

-- a test that lets a value through
passed : {A : Type 0} (b : Bool) (o : Option A) (y : A) → cond b o None ≡ Some y → (b ≡ true) × (o ≡ Some y)
passed true o y e = (refl, e)
passed false o y e = absurd cc

-- the value of a step that gave one
pub bind_some : {A B : Type 0} (o : Option A) (f : A → Option B) (y : B) → (o >>= f) ≡ Some y → (x : A) × (o ≡ Some x) × (f x ≡ Some y)
bind_some None f y e = absurd cc
bind_some (Some x) f y e = (x, refl, e)

pub map_some : {A B : Type 0} (f : A → B) (o : Option A) (y : B) → option_map f o ≡ Some y → (x : A) × (o ≡ Some x) × (y ≡ f x)
map_some f None y e = absurd cc
map_some f (Some x) y e = (x, refl, cc)

in_range-is : (least most v n : ℕ) → in_range least most v ≡ Some n → (least ≤ n) × (n ≤ most)
in_range-is least most v n e =
    let p = passed (leb least v && leb v most) (Some v) n e in
    let q = and_parts (leb least v) (leb v most) p.0 in
    let same : v ≡ n = cc in
    (omega (arith, leb-true least v q.0), omega (arith, leb-true v most q.1))

pub number_from-range : (least most : ℕ) (word : List ℕ) (n : ℕ) → number_from least most word ≡ Some n → (least ≤ n) × (n ≤ most)
unfolding number_from
number_from-range least most [] n e = absurd cc
number_from-range least most (c ∷ cs) n e = in_range-is least most (digits_value 10 (c ∷ cs)) n (passed (all_ascii_digits (c ∷ cs)) (in_range least most (digits_value 10 (c ∷ cs))) n e).1

magnitude_negative : (n : ℕ) → unsigned_abs (neg_ℤ (pos n)) ≡ n
magnitude_negative zero = refl
magnitude_negative (suc n) = refl

pub signed_number-range : (most : ℕ) (word : List ℕ) (z : ℤ) → signed_number most word ≡ Some z → (1 ≤ unsigned_abs z) × (unsigned_abs z ≤ most)
unfolding signed_number
signed_number-range most word z e = go (slice_index word 0 == 45) e
  where
    go : (minus : Bool) → cond minus (option_map (λ n. neg_ℤ (pos n)) (number_from 1 most (drop 1 word))) (option_map pos (number_from 1 most word)) ≡ Some z → (1 ≤ unsigned_abs z) × (unsigned_abs z ≤ most)
    go true e =
        let m = map_some (λ n. neg_ℤ (pos n)) (number_from 1 most (drop 1 word)) z e in
        let r = number_from-range 1 most (drop 1 word) m.0 m.1 in
        let a : unsigned_abs z ≡ m.0 = ap unsigned_abs m.2 ∙ magnitude_negative m.0 in
        (omega arith, omega arith)
    go false e =
        let m = map_some pos (number_from 1 most word) z e in
        let r = number_from-range 1 most word m.0 m.1 in
        let a : unsigned_abs z ≡ m.0 = ap unsigned_abs m.2 in
        (omega arith, omega arith)

literal_of-range : (z : ℤ) → 1 ≤ unsigned_abs z → unsigned_abs z ≤ 2 ^ 30 → IsLiteral (literal_of z)
literal_of-range (pos n) low high = (low, high)
literal_of-range (negsuc n) low high = (omega arith, omega arith)

literal_in-range : (word : List ℕ) (l : Literal) → literal_in word ≡ Some l → IsLiteral l
unfolding literal_in
literal_in-range word l e =
    let m = map_some literal_of (signed_number (2 ^ 30) word) l e in
    let r = signed_number-range (2 ^ 30) word m.0 m.1 in
    rw m.2 (literal_of-range m.0 r.0 r.1)

id_of-range : (word : List ℕ) (n : ℕ) → id_of word ≡ Some n → IsId n
id_of-range word n e = let r = number_from-range 1 (2 ^ 62 - 1) word n e in (r.0, omega arith)

hint_of-range : (word : List ℕ) (z : ℤ) → hint_of word ≡ Some z → IsHint z
hint_of-range word z e = let r = signed_number-range (2 ^ 62 - 1) word z e in (r.0, omega arith)

pub some_is : {A : Type 0} (o : Option A) (x y : A) → o ≡ Some x → o ≡ Some y → x ≡ y
some_is o x y e f = cc

numbers_after-range : {A : Type 0} (P : A → Type 0) (zero : Bool) (first : Option A) (words : List (List ℕ)) (others : Option (List A × List (List ℕ))) (x : List A × List (List ℕ))
    → ((n : A) → first ≡ Some n → P n) → ((y : List A × List (List ℕ)) → others ≡ Some y → All P y.0)
    → cond zero (Some ([], words)) (first >>= λ n. others >>= λ after. Some (n ∷ after.0, after.1)) ≡ Some x → All P x.0
numbers_after-range {A} P true first words others x each rest e =
    let nothing : List A × List (List ℕ) = ([], words) in
    subst (λ (y : List A × List (List ℕ)). All P y.0) (some_is (Some nothing) nothing x refl e) (All-nil P)
numbers_after-range {A} P false first words others x each rest e =
    let b = bind_some first (λ n. others >>= λ after. Some (n ∷ after.0, after.1)) x e in
    let c = bind_some others (λ after. Some (b.0 ∷ after.0, after.1)) x b.2 in
    let made : List A × List (List ℕ) = (b.0 ∷ c.0.0, c.0.1) in
    subst (λ (y : List A × List (List ℕ)). All P y.0) (some_is (Some made) made x refl c.2)
    (All-cons P b.0 c.0.0 (each b.0 b.1) (rest c.0 c.1))

numbers_to_zero-range : {A : Type 0} (P : A → Type 0) (read : List ℕ → Option A) → ((word : List ℕ) (n : A) → read word ≡ Some n → P n)
    → (words : List (List ℕ)) (x : List A × List (List ℕ)) → numbers_to_zero read words ≡ Some x → All P x.0
unfolding numbers_to_zero
numbers_to_zero-range P read each [] x e = absurd cc
numbers_to_zero-range P read each (word ∷ words) x e =
    numbers_after-range P (is_byte_word 48 word) (read word) words (numbers_to_zero read words) x (each word) (numbers_to_zero-range P read each words) e

pub ended-is : (words : List (List ℕ)) (line other : LratLine) → ended words line ≡ Some other → line ≡ other
ended-is [] line other e = cc
ended-is (word ∷ words) line other e = absurd cc

addition-range : (id : ℕ) (words : List (List ℕ)) (line : LratLine) → IsId id → addition id words ≡ Some line → IsLine line
addition-range id words line id_in e =
    let a = bind_some (numbers_to_zero literal_in words) (λ lits. numbers_to_zero hint_of lits.1 >>= λ hints. ended hints.1 (Addition id lits.0 hints.0)) line e in
    let b = bind_some (numbers_to_zero hint_of a.0.1) (λ hints. ended hints.1 (Addition id a.0.0 hints.0)) line a.2 in
    subst IsLine (ended-is b.0.1 (Addition id a.0.0 b.0.0) line b.2)
    ((id_in, numbers_to_zero-range IsHint hint_of hint_of-range a.0.1 b.0 b.1), numbers_to_zero-range IsLiteral literal_in literal_in-range words a.0 a.1)

deletion-range : (id : ℕ) (words : List (List ℕ)) (line : LratLine) → IsId id → deletion id words ≡ Some line → IsLine line
deletion-range id words line id_in e =
    let a = bind_some (numbers_to_zero id_of words) (λ ids. ended ids.1 (Deletion id ids.0)) line e in
    subst IsLine (ended-is a.0.1 (Deletion id a.0.0) line a.2) ((id_in, numbers_to_zero-range IsId id_of id_of-range words a.0 a.1), tt)

behind_id-range : (id : ℕ) (words : List (List ℕ)) (line : LratLine) → IsId id → behind_id id words ≡ Some line → IsLine line
behind_id-range id [] line id_in e = absurd cc
behind_id-range id (word ∷ words) line id_in e = go (is_byte_word 100 word) e
  where
    go : (deletes : Bool) → cond deletes (deletion id words) (addition id (word ∷ words)) ≡ Some line → IsLine line
    go true e = deletion-range id words line id_in e
    go false e = addition-range id (word ∷ words) line id_in e

pub line_of_words-range : (words : List (List ℕ)) (line : LratLine) → line_of_words words ≡ Some line → IsLine line
line_of_words-range [] line e = absurd cc
line_of_words-range (word ∷ words) line e =
    let a = bind_some (id_of word) (λ id. behind_id id words) line e in
    behind_id-range a.0 words line (id_of-range word a.0 a.1) a.2

-- the clause on what a line holds
pub Gives-range : (r : Result Step LineFault) (words : List (List ℕ)) → Gives line_of r (line_of_words words) → IfOk r (λ step. IsLine (line_of step))
Gives-range (Ok step) words h = line_of_words-range words (line_of step) h
Gives-range (Err fault) words h = tt
