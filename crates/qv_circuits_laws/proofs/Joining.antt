-- Routines at lists behind one another.
use Rattle.std.proofs.Common.{◌≡◌, ℕ, suc, ◌+◌, ◌*◌, ◌^◌, List, [], ◌∷◌, ◌++◌, length, take, drop, replicate, refl, sym, ap, ◌∙◌, arith, append_assoc}
use Rattle.std.proofs.lemmas.List.{length-append}
use Rattle.qv_words.specs.Gate.{Lit, Circuit, done, ◌>>=◌, neg, no, and, or, xor, mux, maj}
use Rattle.qv_words.specs.Routine.{add, sum_of, sub, sel, each, and_all, or_all, carry, moved, stages, rows, divided}
use Rattle.qv_circuits_laws.specs.RoutineLaws.{SumsGoOn, ChoicesGoOn, EachGoesOn, CarriesGoOn, ConjunctionsGoOn, DisjunctionsGoOn, StagesGoOn, RowsGoOn, DivisionsGoOn, RoutinesGoOn}
use Rattle.qv_circuits_laws.proofs.Adding.{double}
use Rattle.qv_words.proofs.NewNodes.{nil-behind}

-- circuits one after the other
pub then-assoc : {A B C : Type 0} (m : Circuit A) (f : A → Circuit B) (g : B → Circuit C) → ((m >>= f) >>= g) ≡ (m >>= λ x. f x >>= g)
unfolding ◌>>=◌
then-assoc {A} {B} {C} m f g = λ i n. at n i
  where
    at : (n : ℕ) → ((m >>= f) >>= g) n ≡ (m >>= λ x. f x >>= g) n
    at n =
        let M = (m n).gates in
        let x = (m n).result in
        let F = (f x (n + length M)).gates in
        let y = (f x (n + length M)).result in
        let same : n + length (M ++ F) ≡ n + length M + length F = omega (arith, length-append M F) in
        ap (λ k. record { gates = M ++ F ++ (g y k).gates; result = (g y k).result }) same
        ∙ ap (λ gs. record { gates = gs; result = (g y (n + length M + length F)).result }) (append_assoc M F (g y (n + length M + length F)).gates)

pub done-then : {A B : Type 0} (x : A) (f : A → Circuit B) → (done x >>= f) ≡ f x
unfolding ◌>>=◌
done-then x f = λ i n. ap (λ k. f x k) (let same : n + 0 ≡ n = omega arith in same) i

pub then-done : {A : Type 0} (m : Circuit A) → (m >>= λ x. done x) ≡ m
unfolding ◌>>=◌
then-done m = λ i n. record { gates = sym (nil-behind (m n).gates) i; result = (m n).result }

pub then-same : {A B : Type 0} (m : Circuit A) (f g : A → Circuit B) → ((x : A) → f x ≡ g x) → (m >>= f) ≡ (m >>= g)
then-same m f g h = ap (λ k. m >>= k) (λ i x. h x i)

-- what is put before a result, before and after a circuit goes on
put-before : {A B C D : Type 0} (m : Circuit A) (f : A → Circuit B) (g : C → Circuit D) (h : A → C) (k : B → D) → ((x : A) → (f x >>= λ t. done (k t)) ≡ g (h x)) → ((m >>= f) >>= λ t. done (k t)) ≡ ((m >>= λ r. done (h r)) >>= g)
put-before m f g h k same =
    then-assoc m f (λ t. done (k t))
    ∙ then-same m (λ x. f x >>= λ t. done (k t)) (λ x. done (h x) >>= g) (λ x. same x ∙ sym (done-then (h x) g))
    ∙ sym (then-assoc m (λ r. done (h r)) g)

-- a result behind a list, with one more in front
put-behind : {A B C : Type 0} (m : Circuit A) (h : A → B) (k : B → C) → ((m >>= λ s. done (h s)) >>= λ t. done (k t)) ≡ (m >>= λ s. done (k (h s)))
put-behind m h k = then-assoc m (λ s. done (h s)) (λ t. done (k t)) ∙ then-same m _ _ (λ s. done-then (h s) (λ t. done (k t)))

-- lists, bit by bit
abbrev Behind : Circuit (List Lit) → List Lit → Circuit (List Lit)
Behind m s = m >>= λ t. done (s ++ t)

one-bit : (first : Circuit Lit) (m rest : Circuit (List Lit)) → (first >>= λ g. (m >>= Behind rest) >>= λ t. done (g ∷ t)) ≡ ((first >>= λ g. m >>= λ t. done (g ∷ t)) >>= Behind rest)
one-bit first m rest =
    then-same first _ _ (λ g. put-before m (Behind rest) (Behind rest) (λ r. g ∷ r) (λ t. g ∷ t) (λ s. put-behind rest (λ t. s ++ t) (λ t. g ∷ t)))
    ∙ sym (then-assoc first (λ g. m >>= λ t. done (g ∷ t)) (Behind rest))

no-bit : (rest : Circuit (List Lit)) → rest ≡ (done [] >>= Behind rest)
no-bit rest = sym (done-then [] (Behind rest) ∙ then-done rest)

each-goes_on : EachGoesOn
unfolding each
each-goes_on op [] [] more others h = no-bit (each op more others)
each-goes_on op [] (b ∷ bs) more others h = absurd (omega (arith, h))
each-goes_on op (a ∷ as') [] more others h = absurd (omega (arith, h))
each-goes_on op (a ∷ as') (b ∷ bs) more others h =
    then-same (op a b) _ _ (λ g. ap (λ m. m >>= λ t. done (g ∷ t)) (each-goes_on op as' bs more others (omega (arith, h))))
    ∙ one-bit (op a b) (each op as' bs) (each op more others)

choices-go_on : ChoicesGoOn
unfolding sel
choices-go_on c [] [] more others h = no-bit (sel c more others)
choices-go_on c [] (b ∷ bs) more others h = absurd (omega (arith, h))
choices-go_on c (a ∷ as') [] more others h = absurd (omega (arith, h))
choices-go_on c (a ∷ as') (b ∷ bs) more others h =
    then-same (mux c a b) _ _ (λ g. ap (λ m. m >>= λ t. done (g ∷ t)) (choices-go_on c as' bs more others (omega (arith, h))))
    ∙ one-bit (mux c a b) (sel c as' bs) (sel c more others)

-- sums
abbrev Further : List Lit → List Lit → List Lit × Lit → Circuit (List Lit × Lit)
Further more others s = add more others s.1 >>= λ t. done (s.0 ++ t.0, t.1)

sums-go_on : SumsGoOn
unfolding add
sums-go_on [] [] more others c h = sym (done-then ([], c) (Further more others) ∙ then-done (add more others c))
sums-go_on [] (b ∷ bs) more others c h = absurd (omega (arith, h))
sums-go_on (a ∷ as') [] more others c h = absurd (omega (arith, h))
sums-go_on (a ∷ as') (b ∷ bs) more others c h =
    then-same (xor a b) _ _ (λ x. then-same (xor x c) _ _ (λ s. then-same (maj a b c) _ _ (λ k.
    ap (λ m. m >>= λ t. done (s ∷ t.0, t.1)) (sums-go_on as' bs more others k (omega (arith, h)))
    ∙ put-before (add as' bs k) (Further more others) (Further more others) (λ r. (s ∷ r.0, r.1)) (λ t. (s ∷ t.0, t.1)) (λ r. put-behind (add more others r.1) (λ t. (r.0 ++ t.0, t.1)) (λ t. (s ∷ t.0, t.1))))
    ∙ sym (then-assoc (maj a b c) (λ k. add as' bs k >>= λ t. done (s ∷ t.0, t.1)) (Further more others)))
    ∙ sym (then-assoc (xor x c) _ (Further more others)))
    ∙ sym (then-assoc (xor a b) _ (Further more others))

-- one literal for the next
carries-go_on : CarriesGoOn
unfolding carry
carries-go_on [] [] more others c h = sym (done-then c (λ k. carry more others k))
carries-go_on [] (b ∷ bs) more others c h = absurd (omega (arith, h))
carries-go_on (a ∷ as') [] more others c h = absurd (omega (arith, h))
carries-go_on (a ∷ as') (b ∷ bs) more others c h =
    then-same (maj a (neg b) c) _ _ (λ k. carries-go_on as' bs more others k (omega (arith, h)))
    ∙ sym (then-assoc (maj a (neg b) c) (λ k. carry as' bs k) (λ k. carry more others k))

conjunctions-go_on : ConjunctionsGoOn
unfolding and_all
conjunctions-go_on r [] more = sym (done-then r (λ g. and_all g more))
conjunctions-go_on r (l ∷ ls) more =
    then-same (and r l) _ _ (λ g. conjunctions-go_on g ls more) ∙ sym (then-assoc (and r l) (λ g. and_all g ls) (λ g. and_all g more))

disjunctions-go_on : DisjunctionsGoOn
unfolding or_all
disjunctions-go_on r [] more = sym (done-then r (λ g. or_all g more))
disjunctions-go_on r (l ∷ ls) more =
    then-same (or r l) _ _ (λ g. disjunctions-go_on g ls more) ∙ sym (then-assoc (or r l) (λ g. or_all g ls) (λ g. or_all g more))

-- stages, rows and quotient bits
twice : (n p q : ℕ) → q ≡ 2 * p → (n + n) * p ≡ n * q
twice n p q e = rw e (omega arith)

stages-go_on : StagesGoOn
unfolding stages
stages-go_on left fill n [] more bits =
    let same : n ≡ n * 2 ^ 0 = omega arith in
    sym (done-then bits (λ next. stages left fill (n * 2 ^ 0) more next) ∙ ap (λ k. stages left fill k more bits) (sym same))
stages-go_on left fill n (b ∷ bs) more bits =
    let far = n * 2 ^ length (b ∷ bs) in
    let same : (n + n) * 2 ^ length bs ≡ far = twice n (2 ^ length bs) (2 ^ suc (length bs)) (double (length bs)) in
    let first = sel b (moved left n fill bits) bits in
    then-same first _ _ (λ next.
    stages-go_on left fill (n + n) bs more next
    ∙ ap (λ k. stages left fill (n + n) bs next >>= λ x. stages left fill k more x) same)
    ∙ sym (then-assoc first (λ next. stages left fill (n + n) bs next) (λ x. stages left fill far more x))

abbrev Over : List Lit → List Lit → ℕ → List Lit → Circuit (List Lit)
Over a more n r = rows a (drop n r) more >>= λ s. done (take n r ++ s)

rows-go_on : RowsGoOn
unfolding rows
rows-go_on a acc [] more = sym (done-then acc (Over a more 0) ∙ then-done (rows a acc more))
rows-go_on a [] (b ∷ bs) more = sym (done-then [] (Over a more (suc (length bs))) ∙ then-done (rows a [] more) ∙ no-rows more)
  where
    no-rows : (xs : List Lit) → rows a [] xs ≡ done []
    no-rows [] = refl
    no-rows (x ∷ xs) = refl
rows-go_on a (low ∷ high) (b ∷ bs) more =
    let row = each and (take (length high) a) (replicate (length high) b) in
    then-same row _ _ (λ x. then-same (sum_of high x no) _ _ (λ s.
    ap (λ m. m >>= λ t. done (low ∷ t)) (rows-go_on a s bs more)
    ∙ put-before (rows a s bs) (Over a more (length bs)) (Over a more (suc (length bs))) (λ r. low ∷ r) (λ t. low ∷ t) (λ r. put-behind (rows a (drop (length bs) r) more) (λ t. take (length bs) r ++ t) (λ t. low ∷ t)))
    ∙ sym (then-assoc (sum_of high x no) (λ s. rows a s bs >>= λ t. done (low ∷ t)) (Over a more (suc (length bs)))))
    ∙ sym (then-assoc row _ (Over a more (suc (length bs))))

divisions-go_on : DivisionsGoOn
unfolding divided
divisions-go_on b [] more q r = sym (done-then (q, r) (λ d. divided b more d.0 d.1))
divisions-go_on b (a ∷ as') more q r =
    let first = sub (a ∷ r) (b ++ no ∷ []) in
    let chosen = λ (d : List Lit × Lit). sel d.1 (take (length b) d.0) (take (length b) (a ∷ r)) in
    let rest = λ (d : List Lit × List Lit). divided b more d.0 d.1 in
    then-same first _ _ (λ d.
    then-same (chosen d) _ _ (λ next. divisions-go_on b as' more (d.1 ∷ q) next)
    ∙ sym (then-assoc (chosen d) (λ next. divided b as' (d.1 ∷ q) next) rest))
    ∙ sym (then-assoc first (λ d. chosen d >>= λ next. divided b as' (d.1 ∷ q) next) rest)

pub routines-go_on : RoutinesGoOn
routines-go_on = record {
  sums = sums-go_on;
  choices = choices-go_on;
  bit_by_bit = each-goes_on;
  comparisons = carries-go_on;
  conjunctions = conjunctions-go_on;
  disjunctions = disjunctions-go_on;
  stages = stages-go_on;
  rows = rows-go_on;
  divisions = divisions-go_on;
}
