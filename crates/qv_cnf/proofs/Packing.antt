-- Lists that stand one behind the other.
use Rattle.std.proofs.Common.{◌≡◌, ℕ, zero, suc, ◌+◌, ◌-◌, ◌<◌, ◌≤◌, List, [], ◌∷◌, ◌++◌, length, take, drop, get_or, Some, refl, sym, ◌∙◌, ap, arith}
use Rattle.std.specs.List.{slice_get, slice_range}
use Rattle.std.proofs.lemmas.List.{drop-append-le, take-append-le, take-append-drop, length-append, length-drop, length-take, take_all, drop_at}
use Rattle.qv_cnf.specs.Literal.{Literal}
use Rattle.qv_cnf.specs.Spans.{lists_from, Packs, start_at}

-- a part of a list is a part of a longer one
pub slice_range-append : (xs ys : List Literal) (a b : ℕ) → a ≤ b → b ≤ length xs → slice_range (xs ++ ys) a b ≡ slice_range xs a b
slice_range-append xs ys a b h k =
    let front : a ≤ length xs = omega arith in
    let room : b - a ≤ length (drop a xs) = omega (arith, length-drop a xs) in
    rw (drop-append-le a xs ys front, take-append-le (b - a) (drop a xs) ys room)

-- and of a shorter one
slice_range-take : (xs : List Literal) (n a b : ℕ) → a ≤ b → b ≤ n → b ≤ length xs → slice_range (take n xs) a b ≡ slice_range xs a b
slice_range-take xs n a b h k l =
    let room : b ≤ length (take n xs) = omega (arith, length-take n xs) in
    sym (slice_range-append (take n xs) (drop n xs) a b h room) ∙ ap (λ (zs : List Literal). slice_range zs a b) (take-append-drop n xs)

-- each list ends within the whole
pub packs-within : (start : ℕ) (lits : List Literal) (ends : List ℕ) → Packs start lits ends → start ≤ length lits
packs-within start lits [] p = omega (arith, p)
packs-within start lits (e ∷ es) p = let rest = packs-within e lits es p.1 in omega (arith, rest, p.0)

-- one more list
pub packs-push : (start : ℕ) (lits more : List Literal) (ends : List ℕ) (n : ℕ) → Packs start lits ends → n ≡ length (lits ++ more) → Packs start (lits ++ more) (ends ++ n ∷ [])
packs-push start lits more [] n p e = (omega (arith, p, e, length-append lits more), e)
packs-push start lits more (x ∷ xs) n p e = (p.0, packs-push x lits more xs n p.1 e)

pub lists-push : (start : ℕ) (lits more : List Literal) (ends : List ℕ) (n : ℕ) → Packs start lits ends → n ≡ length (lits ++ more) → lists_from start (lits ++ more) (ends ++ n ∷ []) ≡ lists_from start lits ends ++ more ∷ []
lists-push start lits more [] n p e =
    let long : length (lits ++ more) ≡ length lits + length more = length-append lits more in
    let rest : drop (length lits) (lits ++ more) ≡ more = drop_at lits more (length lits) refl in
    let size : length (lits ++ more) - length lits ≡ length more = omega arith in
    let last : slice_range (lits ++ more) start n ≡ more = rw (p, e, rest, size) (take_all (length more) more (omega arith)) in
    ap (λ (l : List Literal). l ∷ []) last
lists-push start lits more (x ∷ xs) n p e =
    let first : slice_range (lits ++ more) start x ≡ slice_range lits start x = slice_range-append lits more start x p.0 (packs-within x lits xs p.1) in
    rw first (ap (λ (r : List (List Literal)). slice_range lits start x ∷ r) (lists-push x lits more xs n p.1 e))

-- where the list at a place begins, counted from any start
abbrev begin_at : ℕ → List ℕ → ℕ → ℕ
begin_at start ends zero = start
begin_at start ends (suc k) = get_or ends k 0

begin-next : (start e : ℕ) (es : List ℕ) (k : ℕ) → begin_at start (e ∷ es) (suc k) ≡ begin_at e es k
begin-next start e es zero = refl
begin-next start e es (suc k) = refl

pub begin-is : (ends : List ℕ) (at : ℕ) → begin_at 0 ends at ≡ start_at ends at
begin-is ends zero = refl
begin-is ends (suc k) = refl

-- a list lies between where it begins and its end
pub record Lies (start : ℕ) (lits : List Literal) (ends : List ℕ) (k : ℕ) : Type 0 where
  pub up : begin_at start ends k ≤ get_or ends k 0
  pub within : get_or ends k 0 ≤ length lits
  pub is : slice_get (lists_from start lits ends) k ≡ Some (slice_range lits (begin_at start ends k) (get_or ends k 0))

pub lies : (start : ℕ) (lits : List Literal) (ends : List ℕ) (k : ℕ) → Packs start lits ends → k < length ends → Lies start lits ends k
lies start lits [] k p h = absurd (omega (arith, h))
lies start lits (e ∷ es) zero p h = record { up = p.0; within = packs-within e lits es p.1; is = refl }
lies start lits (e ∷ es) (suc k) p h =
    let rest = lies e lits es k p.1 (omega (arith, h)) in
    let same = begin-next start e es k in
    record { up = rw same rest.up; within = rest.within; is = rw same rest.is }

pub lists-length : (start : ℕ) (lits : List Literal) (ends : List ℕ) → length (lists_from start lits ends) ≡ length ends
lists-length start lits [] = refl
lists-length start lits (e ∷ es) = ap suc (lists-length e lits es)

-- the lists before a place
begin-within : (start : ℕ) (lits : List Literal) (ends : List ℕ) (n : ℕ) → Packs start lits ends → n ≤ length ends → (start ≤ begin_at start ends n) × (begin_at start ends n ≤ length lits)
begin-within start lits ends zero p h = (omega arith, packs-within start lits ends p)
begin-within start lits [] (suc n) p h = absurd (omega (arith, h))
begin-within start lits (e ∷ es) (suc n) p h =
    let rest = begin-within e lits es n p.1 (omega (arith, h)) in
    let same = begin-next start e es n in
    rw same (omega (arith, rest.0, p.0), rest.1)

pub packs-take : (start : ℕ) (lits : List Literal) (ends : List ℕ) (n : ℕ) → Packs start lits ends → n ≤ length ends → Packs start (take (begin_at start ends n) lits) (take n ends)
packs-take start lits ends zero p h = let low = packs-within start lits ends p in omega (arith, low, length-take start lits)
packs-take start lits [] (suc n) p h = absurd (omega (arith, h))
packs-take start lits (e ∷ es) (suc n) p h = rw (begin-next start e es n) (p.0, packs-take e lits es n p.1 (omega (arith, h)))

lists-within : (start n : ℕ) (lits : List Literal) (ends : List ℕ) → Packs start (take n lits) ends → n ≤ length lits → lists_from start (take n lits) ends ≡ lists_from start lits ends
lists-within start n lits [] p h = refl
lists-within start n lits (e ∷ es) p h =
    let low = packs-within e (take n lits) es p.1 in
    let size : length (take n lits) ≡ n = omega (arith, length-take n lits, h) in
    let first : slice_range (take n lits) start e ≡ slice_range lits start e = slice_range-take lits n start e p.0 (omega (arith, low, size)) (omega (arith, low, size, h)) in
    rw first (ap (λ (r : List (List Literal)). slice_range lits start e ∷ r) (lists-within e n lits es p.1 h))

lists-front : (start : ℕ) (lits : List Literal) (ends : List ℕ) (n : ℕ) → lists_from start lits (take n ends) ≡ take n (lists_from start lits ends)
lists-front start lits ends zero = refl
lists-front start lits [] (suc n) = refl
lists-front start lits (e ∷ es) (suc n) = ap (λ (r : List (List Literal)). slice_range lits start e ∷ r) (lists-front e lits es n)

pub lists-take : (start : ℕ) (lits : List Literal) (ends : List ℕ) (n : ℕ) → Packs start lits ends → n ≤ length ends → lists_from start (take (begin_at start ends n) lits) (take n ends) ≡ take n (lists_from start lits ends)
lists-take start lits ends n p h =
    lists-within start (begin_at start ends n) lits (take n ends) (packs-take start lits ends n p h) (begin-within start lits ends n p h).1
    ∙ lists-front start lits ends n
