-- Where a problem holds, some values of the eigenvariables make all leaves of an expansion list true.
use Rattle.std.proofs.Common.{◌≡◌, ℕ, zero, suc, ◌<◌, ◌≤◌, ◌==◌, Bool, true, false, cond, Option, Some, List, [], ◌∷◌, ◌++◌, length, drop, slice_get, filter, map, refl, sym, ap, ◌∙◌, inl, inr, subst, arith}
use Rattle.std.specs.Prelude.{IsSomeAnd}
use Rattle.std.specs.List.{AllByRecursion}
use Rattle.std.proofs.lemmas.Bool.{cases_eq}
use Rattle.std.proofs.lemmas.Option.{slice_get_within}
use Rattle.std.proofs.lemmas.Bool.Decides.{nat_tests}
use Rattle.std.proofs.lemmas.List.Elements.{All-from_recursion, recursion_from_All}
use Rattle.qv_words.specs.declared.sort.Sort.{Sort}
use Rattle.qv_words.specs.declared.sort.Sort.TheVariants.{Bool as BoolSort}
use Rattle.qv_words.specs.Sort.{IsLawful, IsValueOf, size_of}
use Rattle.qv_words.specs.Tree.{Tree, Variable}
use Rattle.qv_words.specs.Sorted.{HasValues, with_level, no_levels, constants_of, free_levels}
use Rattle.qv_words.specs.Meaning.{Means}
use Rattle.qv_words.specs.Replacement.{replaced}
use Rattle.qv_words.specs.Problem.{Problem, Place, Quantifier, Existential, Universal, quantified, closed_from, Holds}
use Rattle.qv_words.specs.Skolem.{IsTermOf}
use Rattle.qv_words.specs.Expansion.{ExpansionLine, Instance, Eigen, Grown, root, line_numbered, path_of, sort_at, grow, grown_behind, IsEarlierEigen, StandsAt, IsLine, AreLines, full}
use Rattle.qv_words.specs.Linked.{IsPlaceBelow}
use Rattle.qv_words.specs.GameLaws.{IsProblem, MakesAllTrue}
use Rattle.qv_cert_section_laws.specs.SectionLaws.{ExpansionSoundness}
use Rattle.qv_words.proofs.Equals.{eq-from_test}
use Rattle.qv_words.proofs.Leaves.{HasValue, Agree, at_level, past_level}
use Rattle.qv_words.proofs.Agreeing.{SameConstant, same_meaning}
use Rattle.qv_words.proofs.Existing.{HasConstant, some_meaning}
use Rattle.qv_words.proofs.Elements.{some-and, of-some, to-some, all-of, all-weaker, all-both_weaker, all-none, all-at, found-at, in-front, pushed-last, pushed-other, pushed-cases, length-pushed, dropped-at, dropped-none}
use Rattle.qv_cert_section_laws.proofs.PutIn.{IsFit, IsWhole, fit-put, whole, whole-values}
use Rattle.qv_words.proofs.Winning.{under-same}

-- the variables of a term are of the first m lines
abbrev IsUpTo : ℕ → ℕ × Sort → Type 0
IsUpTo m leaf = leaf.0 ≤ m

-- a term on a path, for the place i: its variables have values under e, and it means the point's value
record IsStep (p : Problem) (m : ℕ) (e : ℕ → Option ℕ) (point : List ℕ) (i : ℕ) (t : Tree) : Type 0 where
  place : Place
  at : slice_get p.prefix i ≡ Some place
  term : IsTermOf t place.sort
  value : ℕ
  has : slice_get point i ≡ Some value
  means : Means [] e t value
  known : AllByRecursion (IsUpTo m) (free_levels t)
  values : AllByRecursion (HasValue e) (free_levels t)

-- from the values of a line's path, its existential player wins
abbrev WinsHere : Problem → List ℕ → Type 0
WinsHere p point = Means [] (slice_get point) (closed_from (length point) (drop (length point) p.prefix) p.matrix) 1

record Stands (p : Problem) (m : ℕ) (e : ℕ → Option ℕ) (path : List Tree) : Type 0 where
  point : List ℕ
  as_long : length point ≡ length path
  steps : (i : ℕ) (t : Tree) → slice_get path i ≡ Some t → IsStep p m e point i t
  wins : WinsHere p point

-- it does from each line, where e has values of the eigenvariables
record Standing (p : Problem) (grown : List Grown) (e : ℕ → Option ℕ) : Type 0 where
  eigens : (n : ℕ) (g : Grown) (s : Sort) → slice_get grown n ≡ Some g → g.eigen ≡ Some s → IsSomeAnd (e (suc n)) (λ v. IsValueOf v s)
  lines : (n : ℕ) (g : Grown) → line_numbered grown n ≡ Some g → Stands p (length grown) e g.path

-- maps that agree everywhere, or on the variables, give one meaning
same-up_to : (t : Tree) (m : ℕ) (e f : ℕ → Option ℕ) (v : ℕ) → ((k : ℕ) → k ≤ m → e k ≡ f k) → AllByRecursion (IsUpTo m) (free_levels t) → Means [] e t v → Means [] f t v
same-up_to t m e f v same known h =
    same_meaning t [] [] e f v (all-of (SameConstant [] []) (constants_of t) (λ leaf. refl)) (all-weaker (IsUpTo m) (Agree e f) (free_levels t) (λ leaf k. same leaf.0 k) known) h

-- what stands keeps standing where later variables get values
step-kept : (p : Problem) (m : ℕ) (e f : ℕ → Option ℕ) (point : List ℕ) (i : ℕ) (t : Tree) → ((k : ℕ) → k ≤ m → e k ≡ f k) → IsStep p m e point i t → IsStep p (suc m) f point i t
step-kept p m e f point i t same h = record {
  place = h.place;
  at = h.at;
  term = h.term;
  value = h.value;
  has = h.has;
  means = same-up_to t m e f h.value same h.known h.means;
  known = all-weaker (IsUpTo m) (IsUpTo (suc m)) (free_levels t) (λ leaf k. omega (arith, k)) h.known;
  values = all-both_weaker (IsUpTo m) (HasValue e) (HasValue f) (free_levels t) (λ leaf k has. subst (λ (o : Option ℕ). IsSomeAnd o (λ v. IsValueOf v leaf.1)) (same leaf.0 k) has) h.known h.values;
}

abbrev stands-kept : (p : Problem) (m : ℕ) (e f : ℕ → Option ℕ) (path : List Tree) → ((k : ℕ) → k ≤ m → e k ≡ f k) → Stands p m e path → Stands p (suc m) f path
stands-kept p m e f path same h = record {
  point = h.point;
  as_long = h.as_long;
  steps = λ i t at. step-kept p m e f h.point i t same (h.steps i t at);
  wins = h.wins;
}

-- the map of a point by one more value
point-more : (point : List ℕ) (v k : ℕ) → with_level (slice_get point) (length point) v k ≡ slice_get (point ++ v ∷ []) k
point-more point v k = elim (cases_eq k (length point)) [ inl same ↦ at same | inr other ↦ past other ]
  where
    at : k ≡ length point → with_level (slice_get point) (length point) v k ≡ slice_get (point ++ v ∷ []) k
    at same = at_level (slice_get point) (length point) v k (grind (arith, nat_tests)) ∙ sym (ap (slice_get (point ++ v ∷ [])) same ∙ pushed-last point v)

    past : (k ≡ length point → ⊥) → with_level (slice_get point) (length point) v k ≡ slice_get (point ++ v ∷ []) k
    past other = past_level (slice_get point) (length point) v k (grind (arith, nat_tests)) ∙ sym (pushed-other point v k other)

-- one more value wins from the next point
wins-more : (p : Problem) (point : List ℕ) (v : ℕ) → Means [] (with_level (slice_get point) (length point) v) (closed_from (suc (length point)) (drop (suc (length point)) p.prefix) p.matrix) 1 → WinsHere p (point ++ v ∷ [])
wins-more p point v h =
    let moved = under-same (closed_from (suc (length point)) (drop (suc (length point)) p.prefix) p.matrix) (with_level (slice_get point) (length point) v) (slice_get (point ++ v ∷ [])) 1 (point-more point v) h in
    subst (λ (n : ℕ). Means [] (slice_get (point ++ v ∷ [])) (closed_from n (drop n p.prefix) p.matrix) 1) (sym (length-pushed point v)) moved

-- a path by one more term
stands-more : (p : Problem) (m : ℕ) (e : ℕ → Option ℕ) (path : List Tree) (place : Place) (t : Tree) (v : ℕ) → (h : Stands p m e path) → slice_get p.prefix (length path) ≡ Some place → IsTermOf t place.sort → Means [] e t v → AllByRecursion (IsUpTo m) (free_levels t) → AllByRecursion (HasValue e) (free_levels t) →
    Means [] (with_level (slice_get h.point) (length h.point) v) (closed_from (suc (length h.point)) (drop (suc (length h.point)) p.prefix) p.matrix) 1 → Stands p m e (path ++ t ∷ [])
stands-more p m e path place t v h at term means known values next = record {
  point = h.point ++ v ∷ [];
  as_long = length-pushed h.point v ∙ ap suc h.as_long ∙ sym (length-pushed path t);
  steps = λ i x is. step i x is;
  wins = wins-more p h.point v next;
}
  where
    step : (i : ℕ) (x : Tree) → slice_get (path ++ t ∷ []) i ≡ Some x → IsStep p m e (h.point ++ v ∷ []) i x
    step i x is = elim (pushed-cases path t i x is) [ inl old ↦ earlier (h.steps i x old) | inr new ↦ subst (IsStep p m e (h.point ++ v ∷ []) i) new.1 (last new.0) ]
      where
        earlier : IsStep p m e h.point i x → IsStep p m e (h.point ++ v ∷ []) i x
        earlier s = record {
          place = s.place;
          at = s.at;
          term = s.term;
          value = s.value;
          has = in-front h.point (v ∷ []) i s.value s.has;
          means = s.means;
          known = s.known;
          values = s.values;
        }

        last : i ≡ length path → IsStep p m e (h.point ++ v ∷ []) i t
        last here = record {
          place = place;
          at = ap (slice_get p.prefix) here ∙ at;
          term = term;
          value = v;
          has = ap (slice_get (h.point ++ v ∷ [])) (here ∙ sym h.as_long) ∙ pushed-last h.point v;
          means = means;
          known = known;
          values = values;
        }

-- a list by one more line
standing-more : (p : Problem) (grown : List Grown) (e f : ℕ → Option ℕ) (g : Grown) → Standing p grown e → ((k : ℕ) → k ≤ length grown → e k ≡ f k) → Stands p (suc (length grown)) f g.path → ((s : Sort) → g.eigen ≡ Some s → IsSomeAnd (f (suc (length grown))) (λ v. IsValueOf v s)) → Standing p (grown ++ g ∷ []) f
standing-more p grown e f g h same new own = record { eigens = λ n x s is eigen. eigens n x s is eigen; lines = λ n x is. subst (λ (m : ℕ). Stands p m f x.path) (sym (length-pushed grown g)) (lines n x is) }
  where
    eigens : (n : ℕ) (x : Grown) (s : Sort) → slice_get (grown ++ g ∷ []) n ≡ Some x → x.eigen ≡ Some s → IsSomeAnd (f (suc n)) (λ v. IsValueOf v s)
    eigens n x s is eigen =
        elim (pushed-cases grown g n x is) [
          | inl old ↦ subst (λ (o : Option ℕ). IsSomeAnd o (λ v. IsValueOf v s)) (same (suc n) (slice_get_within grown n x old)) (h.eigens n x s old eigen)
          | inr last ↦ subst (λ (k : ℕ). IsSomeAnd (f (suc k)) (λ v. IsValueOf v s)) (sym last.0) (own s (ap (λ (y : Grown). y.eigen) last.1 ∙ eigen))
        ]

    lines : (n : ℕ) (x : Grown) → line_numbered (grown ++ g ∷ []) n ≡ Some x → Stands p (suc (length grown)) f x.path
    lines zero x is = stands-kept p (length grown) e f x.path same (h.lines 0 x is)
    lines (suc n) x is =
        elim (pushed-cases grown g n x is) [
          | inl old ↦ stands-kept p (length grown) e f x.path same (h.lines (suc n) x old)
          | inr last ↦ subst (λ (y : Grown). Stands p (suc (length grown)) f y.path) last.1 new
        ]

-- what a true formula gives for the value of its first place
universal-next : (q : Quantifier) (f : ℕ → Option ℕ) (n : ℕ) (s : Sort) (body : Tree) (u : ℕ) → q ≡ Universal → u < size_of s → Means [] f (quantified q n s body) 1 → Means [] (with_level f n u) body 1
universal-next Universal f n s body u is fits (inl m) = m.1 u fits
universal-next Universal f n s body u is fits (inr m) = absurd (let wrong : 1 ≡ 0 = m.0 in cc)
universal-next Existential f n s body u is fits m = absurd (cc)

existential-next : (q : Quantifier) (f : ℕ → Option ℕ) (n : ℕ) (s : Sort) (body : Tree) → q ≡ Existential → Means [] f (quantified q n s body) 1 → (u : ℕ) × (u < size_of s) × Means [] (with_level f n u) body 1
existential-next Existential f n s body is (inl m) = m.1
existential-next Existential f n s body is (inr m) = absurd (let wrong : 1 ≡ 0 = m.0 in cc)
existential-next Universal f n s body is m = absurd (cc)

-- the formula of a line, by the place that its path has come to
opened : (p : Problem) (point : List ℕ) (place : Place) → slice_get p.prefix (length point) ≡ Some place → WinsHere p point → Means [] (slice_get point) (quantified place.quantifier (length point) place.sort (closed_from (suc (length point)) (drop (suc (length point)) p.prefix) p.matrix)) 1
opened p point place at h =
    subst (λ (places : List Place). Means [] (slice_get point) (closed_from (length point) places p.matrix) 1) (dropped-at p.prefix (length point) place at) h

-- the variables of an instance's term are of earlier lines, and have values
instance-leaf : (p : Problem) (grown : List Grown) (e : ℕ → Option ℕ) (leaf : ℕ × Sort) → Standing p grown e → IsEarlierEigen grown leaf → IsUpTo (length grown) leaf × HasValue e leaf
instance-leaf p grown e leaf h (some, known) = go leaf.0 leaf.1 some known
  where
    go : (k : ℕ) (s : Sort) → 0 < k → IsSomeAnd (line_numbered grown k) (λ g. g.eigen ≡ Some s) → (k ≤ length grown) × IsSomeAnd (e k) (λ v. IsValueOf v s)
    go zero s some known = absurd (omega (arith, some))
    go (suc n) s some known =
        let found = some-and (slice_get grown n) (λ g. g.eigen ≡ Some s) known in
        (slice_get_within grown n found.0 found.1, h.eigens n found.0 s found.1 found.2)

-- the next line keeps all true
next-instance : (p : Problem) (grown : List Grown) (e : ℕ → Option ℕ) (parent : ℕ) (term : Tree) → Standing p grown e → IsLine p grown (Instance parent term) → Standing p (grown ++ grow p grown (Instance parent term) ∷ []) e
next-instance p grown e parent term h line =
    standing-more p grown e e (grow p grown (Instance parent term)) h (λ k less. refl)
    (subst (λ (o : Option Grown). Stands p (suc (length grown)) e (path_of o ++ term ∷ [])) (sym found.1) (stands-kept p (length grown) e e (found.0.path ++ term ∷ []) (λ k less. refl) here))
    (λ s is. absurd (cc))
  where
    found : (g : Grown) × (line_numbered grown parent ≡ Some g) × StandsAt p Universal g.path (IsTermOf term)
    found = some-and (line_numbered grown parent) (λ g. StandsAt p Universal g.path (IsTermOf term)) line.0

    place : (q : Place) × (slice_get p.prefix (length found.0.path) ≡ Some q) × (q.quantifier ≡ Universal) × IsTermOf term q.sort
    place =
        let is = some-and (slice_get p.prefix (length found.0.path)) (λ q. (q.quantifier ≡ Universal) × IsTermOf term q.sort) found.2 in
        (is.0, is.1, is.2.0, is.2.1)

    leaves : AllByRecursion (IsEarlierEigen grown) (free_levels term)
    leaves = recursion_from_All (IsEarlierEigen grown) (free_levels term) line.1

    known : AllByRecursion (IsUpTo (length grown)) (free_levels term)
    known = all-weaker (IsEarlierEigen grown) (IsUpTo (length grown)) (free_levels term) (λ leaf is. (instance-leaf p grown e leaf h is).0) leaves

    values : AllByRecursion (HasValue e) (free_levels term)
    values = all-weaker (IsEarlierEigen grown) (HasValue e) (free_levels term) (λ leaf is. (instance-leaf p grown e leaf h is).1) leaves

    value : (v : ℕ) × IsValueOf v place.0.sort × Means [] e term v
    value = some_meaning term no_levels [] e place.0.sort place.3.sorted (all-none (HasConstant []) (constants_of term) place.3.constant_free) values place.3.sort

    from : Stands p (length grown) e found.0.path
    from = h.lines parent found.0 found.1

    here : Stands p (length grown) e (found.0.path ++ term ∷ [])
    here =
        let at = ap (slice_get p.prefix) from.as_long ∙ place.1 in
        stands-more p (length grown) e found.0.path place.0 term value.0 from place.1 place.3 value.2 known values
        (universal-next place.0.quantifier (slice_get from.point) (length from.point) place.0.sort (closed_from (suc (length from.point)) (drop (suc (length from.point)) p.prefix) p.matrix) value.0 place.2 value.1 (opened p from.point place.0 at from.wins))

pub sort-there : (p : Problem) (j : ℕ) (place : Place) → slice_get p.prefix j ≡ Some place → sort_at p j ≡ place.sort
sort-there p j place at = rw at refl

next-eigen : (p : Problem) (grown : List Grown) (e : ℕ → Option ℕ) (parent : ℕ) → IsProblem p → Standing p grown e → IsLine p grown (Eigen parent) → (f : ℕ → Option ℕ) × Standing p (grown ++ grow p grown (Eigen parent) ∷ []) f
next-eigen p grown e parent problem h line = (
  f,
  standing-more p grown e f (grow p grown (Eigen parent)) h same
      (subst (λ (o : Option Grown). Stands p (suc m) f (path_of o ++ Variable (suc m) (sort_at p (length (path_of o))) ∷ [])) (sym found.1)
      (subst (λ (s : Sort). Stands p (suc m) f (found.0.path ++ Variable (suc m) s ∷ [])) (sym (sort-there p (length found.0.path) place.0 place.1)) here))
      own,
)
  where
    m : ℕ
    m = length grown

    found : (g : Grown) × (line_numbered grown parent ≡ Some g) × StandsAt p Existential g.path (λ s. Unit {0})
    found = some-and (line_numbered grown parent) (λ g. StandsAt p Existential g.path (λ s. Unit {0})) line

    place : (q : Place) × (slice_get p.prefix (length found.0.path) ≡ Some q) × (q.quantifier ≡ Existential)
    place =
        let is = some-and (slice_get p.prefix (length found.0.path)) (λ q. (q.quantifier ≡ Existential) × Unit {0}) found.2 in
        (is.0, is.1, is.2.0)

    from : Stands p (length grown) e found.0.path
    from = h.lines parent found.0 found.1

    won : (u : ℕ) × (u < size_of place.0.sort) × Means [] (with_level (slice_get from.point) (length from.point) u) (closed_from (suc (length from.point)) (drop (suc (length from.point)) p.prefix) p.matrix) 1
    won =
        existential-next place.0.quantifier (slice_get from.point) (length from.point) place.0.sort (closed_from (suc (length from.point)) (drop (suc (length from.point)) p.prefix) p.matrix) place.2
        (opened p from.point place.0 (ap (slice_get p.prefix) from.as_long ∙ place.1) from.wins)

    f : ℕ → Option ℕ
    f = with_level e (suc (length grown)) won.0

    same : (k : ℕ) → k ≤ length grown → e k ≡ f k
    same k less =
        let apart : (k == suc (length grown)) ≡ false = grind (arith, nat_tests) in
        sym (past_level e (suc (length grown)) won.0 k apart)

    there-now : f (suc (length grown)) ≡ Some won.0
    there-now = at_level e (suc (length grown)) won.0 (suc (length grown)) (grind (arith, nat_tests))

    value : IsSomeAnd (f (suc (length grown))) (λ v. IsValueOf v place.0.sort)
    value = to-some (f (suc (length grown))) (λ v. IsValueOf v place.0.sort) won.0 there-now won.1

    term : IsTermOf (Variable (suc (length grown)) place.0.sort) place.0.sort
    term =
        let lawful = all-at (λ q. IsLawful q.sort) p.prefix (length found.0.path) place.0 (recursion_from_All (λ q. IsLawful q.sort) p.prefix problem.sorts) place.1 in
        record {
          sorted = (lawful, tt);
          sort = refl;
          quantifier_free = tt;
          constant_free = refl;
        }

    here : Stands p (suc (length grown)) f (found.0.path ++ Variable (suc (length grown)) place.0.sort ∷ [])
    here =
        stands-more p (suc (length grown)) f found.0.path place.0 (Variable (suc (length grown)) place.0.sort) won.0 (stands-kept p (length grown) e f found.0.path same from) place.1 term there-now (omega arith, tt) (value, tt) won.2

    own : (s : Sort) → Some (sort_at p (length (path_of (line_numbered grown parent)))) ≡ Some s → IsSomeAnd (f (suc (length grown))) (λ v. IsValueOf v s)
    own s is =
        let first : sort_at p (length (path_of (line_numbered grown parent))) ≡ s = cc in
        let other : sort_at p (length (path_of (line_numbered grown parent))) ≡ place.0.sort =
        ap (λ (o : Option Grown). sort_at p (length (path_of o))) found.1 ∙ sort-there p (length found.0.path) place.0 place.1 in
        subst (λ (r : Sort). IsSomeAnd (f (suc (length grown))) (λ v. IsValueOf v r)) (sym other ∙ first) value

next : (p : Problem) (grown : List Grown) (e : ℕ → Option ℕ) (line : ExpansionLine) → IsProblem p → Standing p grown e → IsLine p grown line → (f : ℕ → Option ℕ) × Standing p (grown ++ grow p grown line ∷ []) f
next p grown e (Instance parent term) problem h is = (e, next-instance p grown e parent term h is)
next p grown e (Eigen parent) problem h is = next-eigen p grown e parent problem h is

-- some values keep all true to the last line
through : (p : Problem) (lines : List ExpansionLine) (grown : List Grown) (e : ℕ → Option ℕ) → IsProblem p → Standing p grown e → AreLines p grown lines → (f : ℕ → Option ℕ) × Standing p (grown_behind p grown lines) f
through p [] grown e problem h are = (e, h)
through p (line ∷ lines) grown e problem h are =
    let one = next p grown e line problem h are.0 in
    through p lines (grown ++ grow p grown line ∷ []) one.0 problem one.1 are.1

at-first : (p : Problem) → Holds p → Standing p [] no_levels
at-first p holds = record { eigens = λ n g s is eigen. absurd (cc); lines = lines }
  where
    lines : (n : ℕ) (g : Grown) → line_numbered [] n ≡ Some g → Stands p 0 no_levels g.path
    lines zero g is =
        let same : root ≡ g = cc in
        subst (λ (x : Grown). Stands p 0 no_levels x.path) same (record {
          point = [];
          as_long = refl;
          steps = λ i t at. absurd (cc);
          wins = under-same (closed_from 0 p.prefix p.matrix) no_levels (slice_get []) 1 (λ k. refl) holds;
        })
    lines (suc n) g is = absurd (cc)

-- at the end of a path the matrix with its terms put in is true
leaf-true : (p : Problem) (m : ℕ) (e : ℕ → Option ℕ) (path : List Tree) → IsProblem p → Stands p m e path → length path ≡ length p.prefix → HasValues [] e (replaced (slice_get path) p.matrix) × Means [] e (replaced (slice_get path) p.matrix) 1
leaf-true p m e path problem h end = (whole-values (slice_get path) e (slice_get h.point) p.matrix BoolSort all, all.there 1 won)
  where
    fits : (leaf : ℕ × Sort) → IsPlaceBelow p (length p.prefix) leaf → IsFit (slice_get path) e (slice_get h.point) leaf
    fits leaf below =
        let put = found-at path leaf.0 (omega (arith, below.0, end)) in
        let step = h.steps leaf.0 put.0 put.1 in
        let own = of-some (slice_get p.prefix leaf.0) (λ place. place.sort ≡ leaf.1) step.place step.at below.1 in
        fit-put (slice_get path) e (slice_get h.point) leaf put.0 step.value put.1 (subst (IsTermOf put.0) own step.term) step.has step.means step.values

    all : IsWhole (slice_get path) e (slice_get h.point) p.matrix BoolSort
    all =
        whole (slice_get path) e (slice_get h.point) p.matrix BoolSort problem.matrix
        (all-weaker (IsPlaceBelow p (length p.prefix)) (IsFit (slice_get path) e (slice_get h.point)) (free_levels p.matrix) fits
        (recursion_from_All (IsPlaceBelow p (length p.prefix)) (free_levels p.matrix) problem.variables))

    won : Means [] (slice_get h.point) p.matrix 1
    won =
        let none = dropped-none p.prefix (length h.point) (omega (arith, end, h.as_long)) in
        subst (λ (places : List Place). Means [] (slice_get h.point) (closed_from (length h.point) places p.matrix) 1) none h.wins

-- what holds at the elements that a test keeps holds of their images
pub kept-images : {X Y : Type 0} (P : Y → Type 0) (f : X → Y) (test : X → Bool) (xs : List X) → ((n : ℕ) (x : X) → slice_get xs n ≡ Some x → test x ≡ true → P (f x)) → AllByRecursion P (map f (filter test xs))
kept-images P f test [] h = tt
kept-images P f test (x ∷ xs) h = go (test x) refl (kept-images P f test xs (λ n y is. h (suc n) y is))
  where
    go : (b : Bool) → test x ≡ b → AllByRecursion P (map f (filter test xs)) → AllByRecursion P (map f (cond b (x ∷ filter test xs) (filter test xs)))
    go true is rest = (h 0 x refl is, rest)
    go false is rest = rest

-- a line of the list with the root in front
pub with-root : (grown : List Grown) (n : ℕ) (g : Grown) → slice_get (root ∷ grown) n ≡ Some g → line_numbered grown n ≡ Some g
with-root grown zero g is = is
with-root grown (suc n) g is = is

leaves-true : (p : Problem) (grown : List Grown) (e : ℕ → Option ℕ) → IsProblem p → Standing p grown e → MakesAllTrue e (map (λ g. replaced (slice_get g.path) p.matrix) (full p (root ∷ grown)))
leaves-true p grown e problem h =
    All-from_recursion (λ t. HasValues [] e t × Means [] e t 1) (map (λ g. replaced (slice_get g.path) p.matrix) (full p (root ∷ grown)))
    (kept-images (λ t. HasValues [] e t × Means [] e t 1) (λ (g : Grown). replaced (slice_get g.path) p.matrix) (λ (g : Grown). length g.path == length p.prefix) (root ∷ grown)
    (λ n g is end. leaf-true p (length grown) e g.path problem (h.lines n g (with-root grown n g is)) (eq-from_test (length g.path) (length p.prefix) end)))

pub expansion-soundness : ExpansionSoundness
expansion-soundness p lines problem is never holds =
    let end = through p lines [] no_levels problem (at-first p holds) is in
    never end.0 (leaves-true p (grown_behind p [] lines) end.0 problem end.1)
