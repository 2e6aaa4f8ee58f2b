-- Lists in blocks.
use Rattle.std.proofs.Common.{◌≡◌, ℕ, zero, suc, ◌+◌, ◌*◌, ◌<◌, ◌≤◌, List, [], ◌∷◌, ◌++◌, length, take, get_or, refl, sym, ◌∙◌, ap, arith, append_assoc, length-append}
use Rattle.std.specs.List.{slice_get}
use Rattle.std.proofs.Math.Seq.{take-append-add}
use Rattle.std.proofs.lemmas.List.{append-nil, take-append-le}
use Rattle.qv_cnf.specs.Literal.{Literal}
use Rattle.qv_cnf.specs.Blocks.{lists_of, AreFull}

-- one more block
pub lists_of-push : (bs : List (List (List Literal))) (b : List (List Literal)) → lists_of (bs ++ b ∷ []) ≡ lists_of bs ++ b
lists_of-push [] b = append-nil b
lists_of-push (x ∷ xs) b = ap (λ (rest : List (List Literal)). x ++ rest) (lists_of-push xs b) ∙ sym (append_assoc x (lists_of xs) b)

pub AreFull-push : (bs : List (List (List Literal))) (b : List (List Literal)) → AreFull bs → length b ≡ 1024 → AreFull (bs ++ b ∷ [])
AreFull-push [] b f e = (e, tt)
AreFull-push (x ∷ xs) b f e = (f.0, AreFull-push xs b f.1 e)

pub AreFull-take : (bs : List (List (List Literal))) (n : ℕ) → AreFull bs → AreFull (take n bs)
AreFull-take bs zero f = tt
AreFull-take [] (suc n) f = tt
AreFull-take (x ∷ xs) (suc n) f = (f.0, AreFull-take xs n f.1)

pub length-lists_of : (bs : List (List (List Literal))) → AreFull bs → length (lists_of bs) ≡ length bs * 1024
length-lists_of [] f = refl
length-lists_of (x ∷ xs) f = omega (arith, f.0, length-lists_of xs f.1, length-append x (lists_of xs))

get-left : (xs ys : List (List Literal)) (k : ℕ) → k < length xs → slice_get (xs ++ ys) k ≡ slice_get xs k
get-left [] ys k h = absurd (omega arith)
get-left (x ∷ xs) ys zero h = refl
get-left (x ∷ xs) ys (suc k) h = get-left xs ys k (omega arith)

get-right : (xs ys : List (List Literal)) (k n : ℕ) → n ≡ length xs + k → slice_get (xs ++ ys) n ≡ slice_get ys k
get-right [] ys k n e = let same : n ≡ k = omega arith in rw same
get-right (x ∷ xs) ys k zero e = absurd (omega arith)
get-right (x ∷ xs) ys k (suc n) e = get-right xs ys k n (omega arith)

-- a list of a full block
pub get-in : (bs : List (List (List Literal))) (rest d : List (List Literal)) (i j n : ℕ) → AreFull bs → i < length bs → j < 1024 → n ≡ i * 1024 + j → slice_get (lists_of bs ++ rest) n ≡ slice_get (get_or bs i d) j
get-in [] rest d i j n f h k e = absurd (omega arith)
get-in (x ∷ xs) rest d zero j n f h k e =
    let same : n ≡ j = omega arith in
    let within : j < length x = omega (arith, f.0) in
    rw (same, append_assoc x (lists_of xs) rest) (get-left x (lists_of xs ++ rest) j within)
get-in (x ∷ xs) rest d (suc i) j n f h k e =
    rw (append_assoc x (lists_of xs) rest) (get-right x (lists_of xs ++ rest) (i * 1024 + j) n (omega (arith, f.0)) ∙ get-in xs rest d i j (i * 1024 + j) f.1 (omega arith) k refl)

-- a list of the last block
pub get-behind : (bs : List (List (List Literal))) (rest : List (List Literal)) (j n : ℕ) → AreFull bs → n ≡ length bs * 1024 + j → slice_get (lists_of bs ++ rest) n ≡ slice_get rest j
get-behind bs rest j n f e = get-right (lists_of bs) rest j n (omega (arith, length-lists_of bs f))

-- the lists before a place in a full block
pub take-in : (bs : List (List (List Literal))) (rest d : List (List Literal)) (i j n : ℕ) → AreFull bs → i < length bs → j < 1024 → n ≡ i * 1024 + j → take n (lists_of bs ++ rest) ≡ lists_of (take i bs) ++ take j (get_or bs i d)
take-in [] rest d i j n f h k e = absurd (omega arith)
take-in (x ∷ xs) rest d zero j n f h k e =
    let same : n ≡ j = omega arith in
    let within : j ≤ length x = omega (arith, f.0) in
    rw (same, append_assoc x (lists_of xs) rest) (take-append-le j x (lists_of xs ++ rest) within)
take-in (x ∷ xs) rest d (suc i) j n f h k e =
    let size : n ≡ length x + (i * 1024 + j) = omega (arith, f.0) in
    rw (append_assoc x (lists_of xs) rest, size, append_assoc x (lists_of (take i xs)) (take j (get_or xs i d)))
    (take-append-add x (lists_of xs ++ rest) (i * 1024 + j) ∙ ap (λ (l : List (List Literal)). x ++ l) (take-in xs rest d i j (i * 1024 + j) f.1 (omega arith) k refl))

-- and before one in the last
pub take-behind : (bs : List (List (List Literal))) (rest : List (List Literal)) (j n : ℕ) → AreFull bs → n ≡ length bs * 1024 + j → take n (lists_of bs ++ rest) ≡ lists_of bs ++ take j rest
take-behind bs rest j n f e =
    let size : n ≡ length (lists_of bs) + j = omega (arith, length-lists_of bs f) in
    rw size (take-append-add (lists_of bs) rest j)

-- a full block's length
pub length-of_block : (bs : List (List (List Literal))) (d : List (List Literal)) (i : ℕ) → AreFull bs → i < length bs → length (get_or bs i d) ≡ 1024
length-of_block [] d i f h = absurd (omega arith)
length-of_block (x ∷ xs) d zero f h = f.0
length-of_block (x ∷ xs) d (suc i) f h = length-of_block xs d i f.1 (omega arith)
