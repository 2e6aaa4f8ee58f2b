-- Lists of literals that are made of others.
use Rattle.std.proofs.Common.{◌≡◌, ℕ, zero, suc, ◌+◌, ◌-◌, ◌<◌, ◌≤◌, min, drop, Bool, true, false, inl, inr, subst, append-nil, List, [], ◌∷◌, ◌++◌, map, length, get_or, take, replicate, refl, sym, ap, ◌∙◌, arith}
use Rattle.std.proofs.lemmas.List.{drop-map, length-drop, length-map, length-replicate, map-append, reverse-append, take-append-le, take-replicate, take_all, take_min, take_more}
use Rattle.std.proofs.Math.Seq.{drop-cons, drop-length, take-append-add}
use Rattle.std.proofs.lemmas.Bool.{cases_lt}
use Rattle.std.proofs.Math.ListN.{drop_of_length-le}
use Rattle.std.specs.Prelude.{reverse}
use Rattle.qv_words.specs.Gate.{Lit, neg}
use Rattle.qv_words.specs.Routine.{moved, moved_left, moved_right, negs, top, turned}
use Rattle.qv_cnf.specs.Literal.{Literal, negated}
use Rattle.qv_circuits.specs.Adding.{lit_of, lits_of}

pub negs-lits : (ls : List Literal) → lits_of (map negated ls) ≡ negs (lits_of ls)
negs-lits [] = refl
negs-lits (l ∷ ls) = ap (λ (r : List Lit). neg (lit_of l) ∷ r) (negs-lits ls)

pub take-lits : (n : ℕ) (ls : List Literal) → lits_of (take n ls) ≡ take n (lits_of ls)
take-lits zero ls = refl
take-lits (suc n) [] = refl
take-lits (suc n) (l ∷ ls) = ap (λ (r : List Lit). lit_of l ∷ r) (take-lits n ls)

pub replicate-behind : {A : Type 0} (n : ℕ) (x : A) → replicate n x ++ x ∷ [] ≡ replicate (suc n) x
replicate-behind zero x = refl
replicate-behind (suc n) x = ap (λ r. x ∷ r) (replicate-behind n x)

pub turned-lits : (ls : List Literal) (l : Literal) → 0 < length ls → lit_of l ≡ neg (top (lits_of ls)) → lits_of (take (length ls - 1) ls) ++ lits_of (l ∷ []) ≡ turned (lits_of ls)
turned-lits [] l h e = absurd (omega (arith, h))
turned-lits (x ∷ xs) l h e =
    let short : suc (length xs) - 1 ≡ length xs = omega arith in
    rw (short, take-lits (length xs) (x ∷ xs), e, length-map xs lit_of) refl

-- one more negation
pub negs-turn : (ls done : List Literal) (i : ℕ) (l : Literal) → i < length ls → l ≡ get_or ls i l → lits_of done ≡ negs (lits_of (take i ls)) → lits_of (done ++ negated l ∷ []) ≡ negs (lits_of (take (i + 1) ls))
negs-turn ls done i l h e g =
    let more : take (i + 1) ls ≡ take i ls ++ l ∷ [] = take_more ls i l h ∙ ap (λ (x : Literal). take i ls ++ x ∷ []) (sym e) in
    rw (more, map-append lit_of done (negated l ∷ []), map-append lit_of (take i ls) (l ∷ []), map-append neg (lits_of (take i ls)) (lit_of l ∷ []), g) refl

-- bits at the front, and those behind
pub front-lits : (n : ℕ) (ls : List Literal) → lits_of (take (min n (length ls)) ls) ≡ take n (lits_of ls)
front-lits n ls = rw (take_min n ls) (take-lits n ls)

drop-min : {A : Type 0} (n : ℕ) (xs : List A) → drop (min n (length xs)) xs ≡ drop n xs
drop-min {A} n xs =
    elim (cases_lt n (length xs)) [
      | inl h ↦ let least : min n (length xs) ≡ n = omega (arith, h) in ap (λ k. drop k xs) least
      | inr h ↦
          let least : min n (length xs) ≡ length xs = omega (arith, h) in
          ap (λ k. drop k xs) least ∙ drop-length xs ∙ sym (drop_of_length-le xs h)
    ]

pub behind-lits : (n : ℕ) (ls : List Literal) → lits_of (take (length ls - min n (length ls)) (drop (min n (length ls)) ls)) ≡ drop n (lits_of ls)
behind-lits n ls =
    let rest : List Literal = drop (min n (length ls)) ls in
    let all : take (length ls - min n (length ls)) rest ≡ rest = take_all (length ls - min n (length ls)) rest (rw (length-drop (min n (length ls)) ls) (omega arith)) in
    rw (all, drop-min n ls) (sym (drop-map lit_of n ls))

-- bits moved by n places
pub moved-to-left : (n : ℕ) (x : Lit) (bits : List Lit) → replicate (min n (length bits)) x ++ take (length bits - min n (length bits)) bits ≡ moved_left n x bits
moved-to-left n x bits =
    let w : ℕ = length bits in
    elim (cases_lt n w) [
      | inl h ↦
          let least : min n w ≡ n = omega (arith, h) in
          let whole : length (replicate n x) + (w - n) ≡ w = omega (arith, h, length-replicate n x) in
          let P : ℕ → Type 0 = λ k. take k (replicate n x ++ bits) ≡ replicate n x ++ take (w - n) bits in
          rw least (sym (subst P whole (take-append-add (replicate n x) bits (w - n))))
      | inr h ↦
          let least : min n w ≡ w = omega (arith, h) in
          let nothing : w - w ≡ 0 = omega arith in
          let room : w ≤ length (replicate n x) = omega (arith, h, length-replicate n x) in
          let all : take w (replicate n x ++ bits) ≡ replicate w x = take-append-le w (replicate n x) bits room ∙ take-replicate w n x h in
          rw (least, nothing, append-nil (replicate w x)) (sym all)
    ]

taken-fill : (n w : ℕ) (x : Lit) → take w (replicate n x) ≡ replicate (min n w) x
taken-fill n w x =
    elim (cases_lt n w) [
      | inl h ↦
          let least : min n w ≡ n = omega (arith, h) in
          rw least (take_all w (replicate n x) (omega (arith, h, length-replicate n x)))
      | inr h ↦
          let least : min n w ≡ w = omega (arith, h) in
          rw least (take-replicate w n x h)
    ]

pub moved-to-right : (n : ℕ) (x : Lit) (bits : List Lit) → drop (min n (length bits)) bits ++ replicate (min n (length bits)) x ≡ moved_right n x bits
moved-to-right n x bits = rw (drop-min n bits, taken-fill n (length bits) x) refl

-- as far as they matter
pub moved-alike : (left : Bool) (m n : ℕ) (x : Lit) (bits : List Lit) → min m (length bits) ≡ min n (length bits) → moved left m x bits ≡ moved left n x bits
moved-alike true m n x bits e = sym (moved-to-left m x bits) ∙ ap (λ k. replicate k x ++ take (length bits - k) bits) e ∙ moved-to-left n x bits
moved-alike false m n x bits e = sym (moved-to-right m x bits) ∙ ap (λ k. drop k bits ++ replicate k x) e ∙ moved-to-right n x bits

-- the other way round
pub lits-reverse : (ls : List Literal) → lits_of (reverse ls) ≡ reverse (lits_of ls)
lits-reverse [] = refl
lits-reverse (l ∷ ls) = rw (reverse-append (l ∷ []) ls, reverse-append (lit_of l ∷ []) (lits_of ls), map-append lit_of (reverse ls) (l ∷ []), lits-reverse ls) refl

-- one more of the last
pub reverse-turn : (ls done : List Literal) (i : ℕ) (l : Literal) → i < length ls → l ≡ get_or ls (length ls - 1 - i) l → done ≡ reverse (drop (length ls - i) ls) → done ++ l ∷ [] ≡ reverse (drop (length ls - (i + 1)) ls)
reverse-turn ls done i l h e g =
    let j : ℕ = length ls - 1 - i in
    let at : length ls - (i + 1) ≡ j = omega arith in
    let next : length ls - i ≡ suc j = omega (arith, h) in
    let here : drop j ls ≡ get_or ls j l ∷ drop (suc j) ls = drop-cons ls j l (omega (arith, h)) in
    let first : drop j ls ≡ l ∷ drop (suc j) ls = here ∙ ap (λ (x : Literal). x ∷ drop (suc j) ls) (sym e) in
    rw (at, first, g, next, reverse-append (l ∷ []) (drop (suc j) ls)) refl
