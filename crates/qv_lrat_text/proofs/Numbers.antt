-- Reading the numbers of a line one after the other, as a loop does.
use Rattle.std.proofs.Common.{◌≡◌, true, false, ℕ, List, [], ◌∷◌, ◌++◌, Option, Some, None, refl, sym, ap, ◌∙◌, append_assoc}
use Rattle.std.proofs.lemmas.List.{append-nil}
use Rattle.qv_lrat_text.specs.Words.{is_byte_word}
use Rattle.qv_lrat_text.specs.Grammar.{◌>>=◌, numbers_to_zero}

-- what was read before, and what is still read
abbrev pub with_front : {A : Type 0} → List A → Option (List A × List (List ℕ)) → Option (List A × List (List ℕ))
with_front front read = read >>= λ x. Some (front ++ x.0, x.1)

regroup : {A : Type 0} (front : List A) (n : A) (read : Option (List A × List (List ℕ)))
    → with_front front (read >>= λ x. Some (n ∷ x.0, x.1)) ≡ with_front (front ++ n ∷ []) read
regroup front n None = refl
regroup {A} front n (Some x) = ap (λ (ns : List A). Some (ns, x.1)) (simp append_assoc)

pub goes_on : {A : Type 0} (read : List ℕ → Option A) (front : List A) (words : List (List ℕ)) (word : List ℕ) (after : List (List ℕ)) (n : A) (total : Option (List A × List (List ℕ)))
    → words ≡ word ∷ after → is_byte_word 48 word ≡ false → read word ≡ Some n
    → with_front front (numbers_to_zero read words) ≡ total → with_front (front ++ n ∷ []) (numbers_to_zero read after) ≡ total
unfolding numbers_to_zero
goes_on read front words word after n total split more known so_far =
    let one : with_front front (numbers_to_zero read words) ≡ with_front (front ++ n ∷ []) (numbers_to_zero read after) =
    rw (split, more, known) (regroup front n (numbers_to_zero read after)) in
    sym one ∙ so_far

pub ends : {A : Type 0} (read : List ℕ → Option A) (front : List A) (words : List (List ℕ)) (word : List ℕ) (after : List (List ℕ)) (total : Option (List A × List (List ℕ)))
    → words ≡ word ∷ after → is_byte_word 48 word ≡ true
    → with_front front (numbers_to_zero read words) ≡ total → total ≡ Some (front, after)
unfolding numbers_to_zero
ends {A} read front words word after total split zero so_far =
    let one : with_front front (numbers_to_zero read words) ≡ Some (front, after) = rw (split, zero) (ap (λ (ns : List A). Some (ns, after)) (append-nil front)) in
    sym so_far ∙ one

pub refuses : {A : Type 0} (read : List ℕ → Option A) (front : List A) (words : List (List ℕ)) (word : List ℕ) (after : List (List ℕ)) (total : Option (List A × List (List ℕ)))
    → words ≡ word ∷ after → is_byte_word 48 word ≡ false → read word ≡ None
    → with_front front (numbers_to_zero read words) ≡ total → total ≡ None
unfolding numbers_to_zero
refuses read front words word after total split more unknown so_far =
    let one : with_front front (numbers_to_zero read words) ≡ None = rw (split, more, unknown) refl in
    sym so_far ∙ one

pub runs_out : {A : Type 0} (read : List ℕ → Option A) (front : List A) (words : List (List ℕ)) (total : Option (List A × List (List ℕ)))
    → words ≡ [] → with_front front (numbers_to_zero read words) ≡ total → total ≡ None
unfolding numbers_to_zero
runs_out read front words total nothing so_far =
    let one : with_front front (numbers_to_zero read words) ≡ None = rw nothing refl in
    sym so_far ∙ one
