-- Steps that are tried on a checker's clauses, one after the other.
use Rattle.std.proofs.Common.{◌≡◌, ℕ, zero, suc, ◌≤◌, ◌==◌, Bool, true, false, ◌&&◌, ◌||◌, Some, List, [], ◌∷◌, ◌++◌, length, take, drop, slice_get, refl, sym, ap, subst, ◌∙◌, append_assoc, arith}
use Rattle.std.specs.Prelude.{◌↔◌, All, Err, IfOk, IsTrue, Ok, Result}
use Rattle.std.specs.List.{AllByRecursion}
use Rattle.std.proofs.lemmas.Bool.{eqb-true}
use Rattle.std.proofs.lemmas.List.Elements.{All-from_recursion, recursion_from_All}
use Rattle.qv_words.proofs.Elements.{dropped-at, get-map, take-one}
use Rattle.qv_words.proofs.NewNodes.{nil-behind}
use Rattle.qv_cnf.specs.declared.steps.Step.{Step}
use Rattle.qv_cnf.specs.LratLine.{LratLine, line_of, lines_of}
use Rattle.qv_cnf.specs.Listing.{Numbered}
use Rattle.qv_cnf.specs.Refutation.{Refutes, Standing, refutes_from, standing_at}
use Rattle.qv_lrat_text.specs.Grammar.{HasIds}

-- the first steps went, and what refutes the clauses with the others refutes what they have left
abbrev pub IsTrying : Standing → List Step → ℕ → Standing → Type 0
IsTrying start steps n now = (rest : List LratLine) → refutes_from start (take n (lines_of steps) ++ rest) ≡ (now.refuted || refutes_from now rest)

pub trying-next : (start : Standing) (steps : List Step) (n m : ℕ) (step : Step) (old new : Standing) (goes : Bool) → slice_get steps n ≡ Some step → m ≡ suc n → IsTrying start steps n old → goes ≡ true
    → ((rest : List LratLine) → (old.refuted || refutes_from old (line_of step ∷ rest)) ≡ (goes && (new.refuted || refutes_from new rest))) → IsTrying start steps m new
trying-next start steps n m step old new goes at count h goes_on one rest =
    let lines = lines_of steps in
    let line = line_of step in
    let longer : take m lines ++ rest ≡ take n lines ++ (line ∷ rest) =
    ap (λ k. take k lines ++ rest) count ∙ ap (λ (xs : List LratLine). xs ++ rest) (take-one lines n line (get-map line_of steps n step at)) ∙ append_assoc (take n lines) (line ∷ []) rest in
    ap (refutes_from start) longer ∙ h (line ∷ rest) ∙ one rest ∙ ap (λ b. b && (new.refuted || refutes_from new rest)) goes_on

pub trying-stops : (start : Standing) (steps : List Step) (n : ℕ) (step : Step) (old new : Standing) (goes : Bool) → slice_get steps n ≡ Some step → IsTrying start steps n old → goes ≡ false
    → ((rest : List LratLine) → (old.refuted || refutes_from old (line_of step ∷ rest)) ≡ (goes && (new.refuted || refutes_from new rest))) → refutes_from start (lines_of steps) ≡ false
trying-stops start steps n step old new goes at h stops one =
    let lines = lines_of steps in
    let line = line_of step in
    let rest = drop (suc n) lines in
    let whole : lines ≡ take n lines ++ (line ∷ rest) = sym (parts lines n) ∙ ap (λ (xs : List LratLine). take n lines ++ xs) (dropped-at lines n line (get-map line_of steps n step at)) in
    ap (refutes_from start) whole ∙ h (line ∷ rest) ∙ one rest ∙ ap (λ b. b && (new.refuted || refutes_from new rest)) stops
  where
    parts : {A : Type 0} (xs : List A) (n : ℕ) → take n xs ++ drop n xs ≡ xs
    parts xs zero = refl
    parts [] (suc n) = refl
    parts (x ∷ xs) (suc n) = ap (λ ys. x ∷ ys) (parts xs n)

pub trying-all : (start : Standing) (steps : List Step) (n : ℕ) (now : Standing) → length steps ≤ n → IsTrying start steps n now → refutes_from start (lines_of steps) ≡ now.refuted
trying-all start steps n now end h =
    ap (refutes_from start) (sym (all steps n end) ∙ nil-behind (take n (lines_of steps))) ∙ h [] ∙ or-false now.refuted
  where
    all : (xs : List Step) (n : ℕ) → length xs ≤ n → take n (lines_of xs) ≡ lines_of xs
    all [] zero h = refl
    all [] (suc n) h = refl
    all (x ∷ xs) zero h = absurd (omega (arith, h))
    all (x ∷ xs) (suc n) h = ap (λ (ls : List LratLine). line_of x ∷ ls) (all xs n (omega (arith, h)))

    or-false : (b : Bool) → (b || false) ≡ b
    or-false true = refl
    or-false false = refl

-- ---- their ids

pub lines-have_ids : (steps : List Step) → All (λ s. HasIds (line_of s)) steps → All HasIds (lines_of steps)
lines-have_ids steps h = All-from_recursion HasIds (lines_of steps) (go steps (recursion_from_All (λ s. HasIds (line_of s)) steps h))
  where
    go : (xs : List Step) → AllByRecursion (λ s. HasIds (line_of s)) xs → AllByRecursion HasIds (lines_of xs)
    go [] k = tt
    go (x ∷ xs) k = (k.0, go xs k.1)

pub steps-have_ids : (steps : List Step) → All HasIds (lines_of steps) → All (λ s. HasIds (line_of s)) steps
steps-have_ids steps h = All-from_recursion (λ s. HasIds (line_of s)) steps (go steps (recursion_from_All HasIds (lines_of steps) h))
  where
    go : (xs : List Step) → AllByRecursion HasIds (lines_of xs) → AllByRecursion (λ s. HasIds (line_of s)) xs
    go [] k = tt
    go (x ∷ xs) k = (k.0, go xs k.1)

-- ---- what is answered

pub no-steps : (steps : List Step) (b : Bool) → b ≡ (length steps == 0) → b ≡ true → steps ≡ []
no-steps [] b is y = refl
no-steps (x ∷ xs) b is y = let none : length (x ∷ xs) ≡ 0 = eqb-true (length (x ∷ xs)) 0 (sym is ∙ y) in absurd (omega (arith, none))

-- there are none
pub none-refute : {P : Type 0} (live : List Numbered) (steps : List Step) → steps ≡ [] → IsTrue false ↔ (Refutes live (lines_of steps) × P)
none-refute live steps none = ((λ e. absurd (differ e)), (λ h. subst (λ (xs : List Step). IsTrue (refutes_from (standing_at live) (lines_of xs))) none h.0))
  where
    differ : false ≡ true → ⊥
    differ e = absurd cc

-- some id can't be written
pub some-wrong : {P : Type 0} (steps : List Step) (b : Bool) → b ≡ false → (All (λ s. HasIds (line_of s)) steps → IsTrue b) → IsTrue false ↔ (P × All HasIds (lines_of steps))
some-wrong steps b e h = ((λ t. absurd (differ t)), (λ k. sym e ∙ h (steps-have_ids steps k.1)))
  where
    differ : false ≡ true → ⊥
    differ t = absurd cc

pub all-tried : {E : Type 0} (r : Result Bool E) (s : Standing) (live : List Numbered) (steps : List Step) → s ≡ standing_at live → All (λ s. HasIds (line_of s)) steps → IfOk r (λ b. b ≡ refutes_from s (lines_of steps))
    → IfOk r (λ b. IsTrue b ↔ (Refutes live (lines_of steps) × All HasIds (lines_of steps)))
all-tried (Ok b) s live steps e ids h =
    let is : b ≡ refutes_from (standing_at live) (lines_of steps) = h ∙ ap (λ (x : Standing). refutes_from x (lines_of steps)) e in
    ((λ t. (sym is ∙ t, lines-have_ids steps ids)), (λ k. is ∙ k.0))
all-tried (Err f) s live steps e ids h = tt
