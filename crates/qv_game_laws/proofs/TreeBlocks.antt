-- The lines of one block: eigenvariables for values, or the terms of an entry with the path put in.
use Rattle.std.proofs.Common.{◌≡◌, ℕ, suc, ◌+◌, ◌≤◌, Some, None, Option, List, [], ◌∷◌, ◌++◌, refl, sym, ap, ◌∙◌, subst, append_assoc, slice_get, length, arith}
use Rattle.std.proofs.lemmas.List.{append-nil, length-append}
use Rattle.std.specs.Prelude.{IsSomeAnd}
use Rattle.std.specs.List.{AllZip}
use Rattle.std.proofs.lemmas.List.Elements.{recursion_from_All, All-from_recursion}
use Rattle.qv_words.specs.declared.sort.Sort.{Sort}
use Rattle.qv_words.specs.Sort.{IsLawful, IsValueOf}
use Rattle.qv_words.specs.Tree.{Tree, Variable}
use Rattle.qv_words.specs.Sorted.{free_levels}
use Rattle.qv_words.specs.Meaning.{Means}
use Rattle.qv_words.specs.Problem.{Problem, Place, Quantifier, Existential, Universal}
use Rattle.qv_words.specs.Skolem.{IsTermOf}
use Rattle.qv_words.specs.Expansion.{Instance, Eigen, Grown, line_numbered, path_of, sort_at, grow, IsEarlierEigen, StandsAt}
use Rattle.qv_words.specs.Linked.{Drawn, with_line, with_eigens, on_path, with_instances}
use Rattle.qv_words.specs.GameLaws.{IsProblem}
use Rattle.qv_words.proofs.Existing.{MeansSome}
use Rattle.qv_game_laws.proofs.Terms.{IsOf, over-more, over-leaves, over-agree, over-means, put-of, put-means, term-from_over}
use Rattle.qv_game_laws.proofs.Steps.{Before}
use Rattle.qv_game_laws.proofs.StepLaws.{AreTermsBefore, Meanings}
use Rattle.qv_game_laws.proofs.ExpansionLines.{known, known-length, Extends, extends-itself, extends-on, extends-more, Eigens, eigens-on, IsDrawing, line-more, last-line, AreEigenValues, values-before, AtPath, puts-path, takes-path}
use Rattle.qv_words.proofs.Elements.{get-before, zip-length, zip-append, all-at}

-- the line that is the parent has the path
parent-path : (p : Problem) (d : Drawn) → IsDrawing p d → path_of (line_numbered (known p d.lines) d.parent) ≡ d.path
parent-path p d h = go (line_numbered (known p d.lines) d.parent) h.parent
  where
    go : (o : Option Grown) → IsSomeAnd o (λ g. g.path ≡ d.path) → path_of o ≡ d.path
    go None k = absurd k
    go (Some g) k = k

parent-stands : (p : Problem) (d : Drawn) (q : Quantifier) (s : Sort) (P : Sort → Type 0) → IsDrawing p d → slice_get p.prefix (length d.path) ≡ Some (record { quantifier = q; sort = s }) → P s → IsSomeAnd (line_numbered (known p d.lines) d.parent) (λ g. StandsAt p q g.path P)
parent-stands p d q s P h here k = go (line_numbered (known p d.lines) d.parent) h.parent
  where
    go : (o : Option Grown) → IsSomeAnd o (λ g. g.path ≡ d.path) → IsSomeAnd o (λ g. StandsAt p q g.path P)
    go None at = absurd at
    go (Some g) at = subst (λ (path : List Tree). StandsAt p q path P) (sym at) (subst (λ (o : Option Place). IsSomeAnd o (λ place. (place.quantifier ≡ q) × P place.sort)) (sym here) (refl, k))

sort-here : (p : Problem) (n : ℕ) (q : Quantifier) (s : Sort) → slice_get p.prefix n ≡ Some (record { quantifier = q; sort = s }) → sort_at p n ≡ s
sort-here p n q s here = rw here refl

-- one more line of an eigenvariable
eigen-path : (p : Problem) (d : Drawn) (q : Quantifier) (s : Sort) → IsDrawing p d → slice_get p.prefix (length d.path) ≡ Some (record { quantifier = q; sort = s }) → (grow p (known p d.lines) (Eigen d.parent)).path ≡ d.path ++ Variable (suc (length d.lines)) s ∷ []
eigen-path p d q s h here =
    ap (λ path. path ++ Variable (suc (length (known p d.lines))) (sort_at p (length path)) ∷ []) (parent-path p d h)
    ∙ ap (λ n. d.path ++ Variable (suc n) (sort_at p (length d.path)) ∷ []) (known-length p d.lines)
    ∙ ap (λ r. d.path ++ Variable (suc (length d.lines)) r ∷ []) (sort-here p (length d.path) q s here)

eigen-sort : (p : Problem) (d : Drawn) (q : Quantifier) (s : Sort) → IsDrawing p d → slice_get p.prefix (length d.path) ≡ Some (record { quantifier = q; sort = s }) → (grow p (known p d.lines) (Eigen d.parent)).eigen ≡ Some s
eigen-sort p d q s h here = ap (λ path. Some (sort_at p (length path))) (parent-path p d h) ∙ ap (λ r. Some r) (sort-here p (length d.path) q s here)

eigen-of : (p : Problem) (d : Drawn) (q : Quantifier) (s : Sort) → IsProblem p → IsDrawing p d → slice_get p.prefix (length d.path) ≡ Some (record { quantifier = q; sort = s }) → IsOf (Eigens (known p (d.lines ++ Eigen d.parent ∷ []))) s (Variable (suc (length d.lines)) s)
eigen-of p d q s hp h here = (
  (
    all-at (λ place. IsLawful place.sort) p.prefix (length d.path) (record { quantifier = q; sort = s }) (recursion_from_All (λ place. IsLawful place.sort) p.prefix hp.sorts) here,
    (omega arith, subst (λ (o : Option Grown). IsSomeAnd o (λ g. g.eigen ≡ Some s)) (sym (last-line p d.lines (Eigen d.parent))) (eigen-sort p d q s h here)),
  ),
  refl,
)

eigen-line : (p : Problem) (k : ℕ) (d : Drawn) (s : Sort) → IsProblem p → IsDrawing p d → slice_get p.prefix (length d.path) ≡ Some (record { quantifier = Existential; sort = s }) → IsDrawing p (with_line k d (Eigen d.parent) (Variable (suc (length d.lines)) s))
eigen-line p k d s hp h here =
    line-more p k d (Eigen d.parent) (Variable (suc (length d.lines)) s) (record { quantifier = Existential; sort = s }) h
    (parent-stands p d Existential s (λ s. Unit {0}) h here tt) (eigen-path p d Existential s h here) here (eigen-of p d Existential s hp h here)

-- one more line of a term
instance-line : (p : Problem) (k : ℕ) (d : Drawn) (u : Tree) (s : Sort) → IsDrawing p d → slice_get p.prefix (length d.path) ≡ Some (record { quantifier = Universal; sort = s }) → IsOf (Eigens (known p d.lines)) s u → IsDrawing p (with_line k d (Instance d.parent u) u)
instance-line p k d u s h here of =
    line-more p k d (Instance d.parent u) u (record { quantifier = Universal; sort = s }) h
    (parent-stands p d Universal s (IsTermOf u) h here (term-from_over (Eigens (known p d.lines)) s u of), All-from_recursion (IsEarlierEigen (known p d.lines)) (free_levels u) (over-leaves (Eigens (known p d.lines)) u of.0))
    (ap (λ path. path ++ u ∷ []) (parent-path p d h)) here
    (over-more (Eigens (known p d.lines)) (Eigens (known p (d.lines ++ Instance d.parent u ∷ []))) (eigens-on (known p d.lines) (known p (d.lines ++ Instance d.parent u ∷ [])) (extends-more p d.lines (Instance d.parent u))) u of.0, of.1)

-- the places of a block from a place on
abbrev pub ArePlaces : Problem → Quantifier → ℕ → List Sort → Type 0
ArePlaces p q m sorts = (k i : ℕ) (s : Sort) → i ≡ m + k → slice_get sorts k ≡ Some s → slice_get p.prefix i ≡ Some (record { quantifier = q; sort = s })

-- the lines of a block of eigenvariables
pub record IsEigenBlock (p : Problem) (d more : Drawn) (sorts : List Sort) : Type 0 where
  pub drawing : IsDrawing p more
  pub extends : Extends (known p d.lines) (known p more.lines)
  pub size : length more.path ≡ length d.path + length sorts
  pub means : (w : ℕ → Option ℕ) (point : List ℕ) → AreEigenValues (known p more.lines) w → AtPath w d.path point → (values : List ℕ) × AllZip IsValueOf values sorts × AtPath w more.path (point ++ values)

-- a value, and then those of the other places
first-then : (w : ℕ → Option ℕ) (path start : List Tree) (t : Tree) (s : Sort) (sorts : List Sort) (point : List ℕ) → MeansSome [] w t s → AtPath w start point → ((v : ℕ) → AtPath w (start ++ t ∷ []) (point ++ v ∷ []) → (values : List ℕ) × AllZip IsValueOf values sorts × AtPath w path ((point ++ v ∷ []) ++ values)) → (values : List ℕ) × AllZip IsValueOf values (s ∷ sorts) × AtPath w path (point ++ values)
first-then w path start t s sorts point first at rest = join (rest first.0 (zip-append (λ v t. Means [] w t v) point (first.0 ∷ []) start (t ∷ []) at (first.2, tt)))
  where
    join : (values : List ℕ) × AllZip IsValueOf values sorts × AtPath w path ((point ++ first.0 ∷ []) ++ values) → (values : List ℕ) × AllZip IsValueOf values (s ∷ sorts) × AtPath w path (point ++ values)
    join others = (first.0 ∷ others.0, (first.1, others.1), subst (AtPath w path) (append_assoc point (first.0 ∷ []) others.0) others.2)

pub eigens : (p : Problem) (k : ℕ) (sorts : List Sort) (d : Drawn) → IsProblem p → ArePlaces p Existential (length d.path) sorts → IsDrawing p d → IsEigenBlock p d (with_eigens k d sorts) sorts
eigens p k [] d hp places h = record {
  drawing = h;
  extends = extends-itself (known p d.lines);
  size = omega arith;
  means = λ w point values at. ([], tt, subst (AtPath w d.path) (sym (append-nil point)) at);
}
eigens p k (s ∷ sorts) d hp places h =
    let here = places 0 (length d.path) s (omega arith) refl in
    let one = eigen-line p k d s hp h here in
    let t = Variable (suc (length d.lines)) s in
    let of = eigen-of p d Existential s hp h here in
    let longer : length (d.path ++ t ∷ []) ≡ length d.path + 1 = length-append d.path (t ∷ []) in
    let rest = eigens p k sorts (with_line k d (Eigen d.parent) t) hp (λ i m q e at. places (suc i) m q (omega (arith, e, longer)) at) one in
    let size = rest.size in
    record {
      drawing = rest.drawing;
      extends = extends-on (known p d.lines) (known p (d.lines ++ Eigen d.parent ∷ [])) (known p (with_eigens k (with_line k d (Eigen d.parent) t) sorts).lines) (extends-more p d.lines (Eigen d.parent)) rest.extends;
      size = omega (arith, size, longer);
      means = λ w point values at.
          first-then w (with_eigens k (with_line k d (Eigen d.parent) t) sorts).path d.path t s sorts point
          (over-means (Eigens (known p (d.lines ++ Eigen d.parent ∷ []))) s t w of (values-before (known p (d.lines ++ Eigen d.parent ∷ [])) (known p (with_eigens k (with_line k d (Eigen d.parent) t) sorts).lines) w rest.extends values))
          at (λ v next. rest.means w (point ++ v ∷ []) values next);
    }

-- the lines of a block of terms
pub record IsTermBlock (p : Problem) (d more : Drawn) (terms : List Tree) : Type 0 where
  pub drawing : IsDrawing p more
  pub extends : Extends (known p d.lines) (known p more.lines)
  pub size : length more.path ≡ length d.path + length terms
  pub means : (w : ℕ → Option ℕ) (point values : List ℕ) → AreEigenValues (known p more.lines) w → AtPath w d.path point → Meanings point values terms → AtPath w more.path (point ++ values)

meanings-longer : (p : Problem) (n : ℕ) (point more values : List ℕ) (terms : List Tree) (sorts : List Sort) → n ≤ length point → AreTermsBefore p n terms sorts → Meanings point values terms → Meanings (point ++ more) values terms
meanings-longer p n point more [] [] [] le h m = tt
meanings-longer p n point more (v ∷ values) (t ∷ terms) (s ∷ sorts) le h m = (
  over-agree (Before p n) t (slice_get point) (slice_get (point ++ more)) v h.0.0 (λ l r k. let less = k.0 in sym (get-before point more l (omega (arith, less, le)))) m.0,
  meanings-longer p n point more values terms sorts le h.1 m.1,
)
meanings-longer p n point more values [] (s ∷ sorts) le h m = absurd h
meanings-longer p n point more values (t ∷ terms) [] le h m = absurd h
meanings-longer p n point more (v ∷ values) [] [] le h m = absurd m
meanings-longer p n point more [] (t ∷ terms) (s ∷ sorts) le h m = absurd m

pub instances : (p : Problem) (k n : ℕ) (terms : List Tree) (sorts : List Sort) (d : Drawn) → n ≤ length d.path → AreTermsBefore p n terms sorts → ArePlaces p Universal (length d.path) sorts → IsDrawing p d → IsTermBlock p d (with_instances k d terms) terms
instances p k n [] [] d le each places h = record {
  drawing = h;
  extends = extends-itself (known p d.lines);
  size = omega arith;
  means = λ w point values eigen at m. subst (AtPath w d.path) (sym (none point values m)) at;
}
  where
    none : (point values : List ℕ) → Meanings point values [] → point ++ values ≡ point
    none point [] m = append-nil point
    none point (v ∷ values) m = absurd m
instances p k n (t ∷ terms) (s ∷ sorts) d le each places h =
    let here = places 0 (length d.path) s (omega arith) refl in
    let u = on_path d.path t in
    let of = put-of (Before p n) (Eigens (known p d.lines)) (slice_get d.path) s t (puts-path p (known p d.lines) d.path n h.path le) each.0 in
    let one = instance-line p k d u s h here of in
    let longer : length (d.path ++ u ∷ []) ≡ length d.path + 1 = length-append d.path (u ∷ []) in
    let rest = instances p k n terms sorts (with_line k d (Instance d.parent u) u) (omega (arith, le, longer)) each.1 (λ i m q e at. places (suc i) m q (omega (arith, e, longer)) at) one in
    let size = rest.size in
    let last : List Grown = known p (with_instances k (with_line k d (Instance d.parent u) u) terms).lines in
    let extends = extends-on (known p d.lines) (known p (d.lines ++ Instance d.parent u ∷ [])) last (extends-more p d.lines (Instance d.parent u)) rest.extends in
    record {
      drawing = rest.drawing;
      extends = extends;
      size = omega (arith, size, longer);
      means = λ w point values eigen at m. go w point values at m rest.means eigen;
    }
  where
    go : (w : ℕ → Option ℕ) (point values : List ℕ) → AtPath w d.path point → Meanings point values (t ∷ terms) → ((w : ℕ → Option ℕ) (point values : List ℕ) → AreEigenValues (known p (with_instances k (with_line k d (Instance d.parent (on_path d.path t)) (on_path d.path t)) terms).lines) w → AtPath w (d.path ++ on_path d.path t ∷ []) point → Meanings point values terms → AtPath w (with_instances k (with_line k d (Instance d.parent (on_path d.path t)) (on_path d.path t)) terms).path (point ++ values)) → AreEigenValues (known p (with_instances k (with_line k d (Instance d.parent (on_path d.path t)) (on_path d.path t)) terms).lines) w → AtPath w (with_instances k (with_line k d (Instance d.parent (on_path d.path t)) (on_path d.path t)) terms).path (point ++ values)
    go w point [] at m rest eigen = absurd m
    go w point (v ∷ values) at m rest eigen =
        let size = zip-length (λ v t. Means [] w t v) point d.path at in
        let first = put-means (Before p n) (slice_get d.path) w (slice_get point) t v each.0.0 (takes-path p (known p d.lines) w d.path point n h.path at le) m.0 in
        subst (AtPath w (with_instances k (with_line k d (Instance d.parent (on_path d.path t)) (on_path d.path t)) terms).path) (append_assoc point (v ∷ []) values)
        (rest w (point ++ v ∷ []) values eigen (zip-append (λ v t. Means [] w t v) point (v ∷ []) d.path (on_path d.path t ∷ []) at (first, tt)) (meanings-longer p n point (v ∷ []) values terms sorts (omega (arith, le, size)) each.1 m.1))
instances p k n [] (s ∷ sorts) d le each places h = absurd each
instances p k n (t ∷ terms) [] d le each places h = absurd each
