-- Lists of lines that grow at the end, and a path to the line below which the next one comes.
use Rattle.std.proofs.Common.{◌≡◌, ℕ, zero, suc, ◌+◌, ◌≤◌, Some, Option, List, [], ◌∷◌, ◌++◌, sym, ap, ◌∙◌, subst, append_assoc, slice_get, take, length, arith}
use Rattle.std.proofs.lemmas.List.{append-nil, length-append}
use Rattle.std.specs.Prelude.{IsSomeAnd, MatchOption}
use Rattle.std.specs.List.{AllZip}
use Rattle.qv_words.specs.declared.sort.Sort.{Sort}
use Rattle.qv_words.specs.Sort.{IsValueOf}
use Rattle.qv_words.specs.Tree.{Tree, tree_sort}
use Rattle.qv_words.specs.Meaning.{Means}
use Rattle.qv_words.specs.Problem.{Problem, Place}
use Rattle.qv_words.specs.Expansion.{ExpansionLine, Grown, line_numbered, grow, grown_behind, IsEarlierEigen, IsLine, AreLines}
use Rattle.qv_words.specs.Linked.{Drawn, with_line}
use Rattle.qv_words.proofs.Unique.{one_meaning}
use Rattle.qv_game_laws.proofs.Terms.{OfVariable, IsOf, Puts, Takes, over-means, over-more}
use Rattle.qv_game_laws.proofs.Points.{IsAtPlace, IsPoint}
use Rattle.qv_game_laws.proofs.Steps.{Before}
use Rattle.qv_words.proofs.Elements.{get-behind, zip-append, zip-at, get-take, some-and, zip-more, in-front, take-one}
use Rattle.qv_words.proofs.Shorter.{lines-longer, grown-longer}

-- one more line at the end
grown-length : (p : Problem) (grown : List Grown) (lines : List ExpansionLine) → length (grown_behind p grown lines) ≡ length grown + length lines
grown-length p grown [] = omega arith
grown-length p grown (l ∷ lines) =
    let more = grown-length p (grown ++ grow p grown l ∷ []) lines in
    let one = length-append grown (grow p grown l ∷ []) in
    omega (arith, more, one)

-- what is known of the lines
abbrev pub known : Problem → List ExpansionLine → List Grown
known p lines = grown_behind p [] lines

pub known-length : (p : Problem) (lines : List ExpansionLine) → length (known p lines) ≡ length lines
known-length p lines = let k = grown-length p [] lines in omega (arith, k)

-- one list begins with another
abbrev pub Extends : List Grown → List Grown → Type 0
Extends G H = (rest : List Grown) × (H ≡ G ++ rest)

pub extends-itself : (G : List Grown) → Extends G G
extends-itself G = ([], sym (append-nil G))

pub extends-on : (G H K : List Grown) → Extends G H → Extends H K → Extends G K
extends-on G H K g h = (g.0 ++ h.0, h.1 ∙ ap (λ xs. xs ++ h.0) g.1 ∙ append_assoc G g.0 h.0)

pub extends-more : (p : Problem) (lines : List ExpansionLine) (line : ExpansionLine) → Extends (known p lines) (known p (lines ++ line ∷ []))
extends-more p lines line = (grow p (known p lines) line ∷ [], grown-longer p [] lines line)

pub numbered-on : (G H : List Grown) (k : ℕ) (g : Grown) → Extends G H → line_numbered G k ≡ Some g → line_numbered H k ≡ Some g
numbered-on G H zero g ext h = h
numbered-on G H (suc k) g ext h = ap (λ xs. slice_get xs k) ext.1 ∙ in-front G ext.0 k g h

-- a variable is the eigenvariable of a line, of its sort
abbrev pub Eigens : List Grown → OfVariable
Eigens G l s = IsEarlierEigen G (l, s)

pub eigens-on : (G H : List Grown) → Extends G H → (l : ℕ) (s : Sort) → Eigens G l s → Eigens H l s
eigens-on G H ext l s h =
    let there = some-and (line_numbered G l) (λ g. g.eigen ≡ Some s) h.1 in
    (h.0, subst (λ (o : Option Grown). IsSomeAnd o (λ g. g.eigen ≡ Some s)) (sym (numbered-on G H l there.0 ext there.1)) there.2)

-- a path has a term for each of the first places
abbrev pub IsPath : Problem → List Grown → List Tree → Type 0
IsPath p G path = AllZip (λ t place. IsOf (Eigens G) place.sort t) path (take (length path) p.prefix)

pub path-on : (p : Problem) (G H : List Grown) (path : List Tree) → Extends G H → IsPath p G path → IsPath p H path
path-on p G H path ext h =
    zip-more (λ t place. IsOf (Eigens G) place.sort t) (λ t place. IsOf (Eigens H) place.sort t)
    (λ t place k. (over-more (Eigens G) (Eigens H) (eigens-on G H ext) t k.0, k.1)) path (take (length path) p.prefix) h

-- where the next line comes
pub record IsDrawing (p : Problem) (d : Drawn) : Type 0 where
  pub lines : AreLines p [] d.lines
  pub parent : IsSomeAnd (line_numbered (known p d.lines) d.parent) (λ g. g.path ≡ d.path)
  pub path : IsPath p (known p d.lines) d.path

pub line-more : (p : Problem) (k : ℕ) (d : Drawn) (line : ExpansionLine) (t : Tree) (place : Place) → IsDrawing p d → IsLine p (known p d.lines) line → (grow p (known p d.lines) line).path ≡ d.path ++ t ∷ [] → slice_get p.prefix (length d.path) ≡ Some place → IsOf (Eigens (known p (d.lines ++ line ∷ []))) place.sort t → IsDrawing p (with_line k d line t)
line-more p k d line t place h is path here of = record {
  lines = lines-longer p [] d.lines line h.lines is;
  parent = subst (λ (o : Option Grown). IsSomeAnd o (λ g. g.path ≡ d.path ++ t ∷ [])) (sym last) path;
  path = subst (AllZip (λ t place. IsOf (Eigens (known p (d.lines ++ line ∷ []))) place.sort t) (d.path ++ t ∷ [])) (sym places)
      (zip-append (λ t place. IsOf (Eigens (known p (d.lines ++ line ∷ []))) place.sort t) d.path (t ∷ []) (take (length d.path) p.prefix) (place ∷ [])
      (path-on p (known p d.lines) (known p (d.lines ++ line ∷ [])) d.path (extends-more p d.lines line) h.path) (of, tt));
}
  where
    last : slice_get (known p (d.lines ++ line ∷ [])) (length d.lines) ≡ Some (grow p (known p d.lines) line)
    last =
        let size = known-length p d.lines in
        ap (λ xs. slice_get xs (length d.lines)) (grown-longer p [] d.lines line)
        ∙ get-behind (known p d.lines) (grow p (known p d.lines) line ∷ []) 0 (length d.lines) (omega (arith, size))

    places : take (length (d.path ++ t ∷ [])) p.prefix ≡ take (length d.path) p.prefix ++ place ∷ []
    places =
        let longer : length (d.path ++ t ∷ []) ≡ suc (length d.path) = length-append d.path (t ∷ []) ∙ omega arith in
        ap (λ n. take n p.prefix) longer ∙ take-one p.prefix (length d.path) place here

pub last-line : (p : Problem) (lines : List ExpansionLine) (line : ExpansionLine) → line_numbered (known p (lines ++ line ∷ [])) (suc (length lines)) ≡ Some (grow p (known p lines) line)
last-line p lines line =
    let size = known-length p lines in
    ap (λ xs. slice_get xs (length lines)) (grown-longer p [] lines line)
    ∙ get-behind (known p lines) (grow p (known p lines) line ∷ []) 0 (length lines) (omega (arith, size))

-- values for the eigenvariables, and those of a path
abbrev pub AreEigenValues : List Grown → (ℕ → Option ℕ) → Type 0
AreEigenValues G w = (l : ℕ) (s : Sort) → Eigens G l s → IsSomeAnd (w l) (λ v. IsValueOf v s)

pub values-before : (G H : List Grown) (w : ℕ → Option ℕ) → Extends G H → AreEigenValues H w → AreEigenValues G w
values-before G H w ext h l s k = h l s (eigens-on G H ext l s k)

abbrev pub AtPath : (ℕ → Option ℕ) → List Tree → List ℕ → Type 0
AtPath w path point = AllZip (λ v t. Means [] w t v) point path

-- the point of a path has values of the places' sorts
pub path-typed : (p : Problem) (G : List Grown) (w : ℕ → Option ℕ) (path : List Tree) (point : List ℕ) → AreEigenValues G w → IsPath p G path → AtPath w path point → IsPoint p.prefix (length path) point
path-typed p G w path point values h at = go path (take (length path) p.prefix) point h at
  where
    go : (path : List Tree) (places : List Place) (point : List ℕ) → AllZip (λ t place. IsOf (Eigens G) place.sort t) path places → AtPath w path point → AllZip IsAtPlace point places
    go [] [] [] h at = tt
    go (t ∷ path) (place ∷ places) (v ∷ point) h at =
        let some = over-means (Eigens G) place.sort t w h.0 values in
        let same : some.0 ≡ v = one_meaning t [] w some.0 v some.2 at.0 in
        (subst (λ (x : ℕ). IsValueOf x place.sort) same some.1, go path places point h.1 at.1)
    go [] (place ∷ places) point h at = absurd h
    go (t ∷ path) [] point h at = absurd h
    go [] [] (v ∷ point) h at = absurd at
    go (t ∷ path) (place ∷ places) [] h at = absurd at

-- the term on a path at a place before its end
pub path-at : (p : Problem) (G : List Grown) (path : List Tree) (n l : ℕ) (s : Sort) → IsPath p G path → n ≤ length path → Before p n l s → (t : Tree) × (slice_get path l ≡ Some t) × IsOf (Eigens G) s t
path-at p G path n l s h le k =
    let there = some-and (slice_get p.prefix l) (λ place. place.sort ≡ s) k.1 in
    let less = k.0 in
    let term = zip-at (λ t place. IsOf (Eigens G) place.sort t) path (take (length path) p.prefix) l there.0 h (get-take p.prefix (length path) l there.0 (omega (arith, less, le)) there.1) in
    (term.0, term.1, subst (λ (q : Sort). IsOf (Eigens G) q term.0) there.2 term.2)

pub puts-path : (p : Problem) (G : List Grown) (path : List Tree) (n : ℕ) → IsPath p G path → n ≤ length path → (l : ℕ) (s : Sort) → Before p n l s → Puts (Eigens G) (slice_get path) l s
puts-path p G path n h le l s k =
    let term = path-at p G path n l s h le k in
    subst (λ (o : Option Tree). MatchOption o (Eigens G l s) (IsOf (Eigens G) s)) (sym term.1) term.2

pub takes-path : (p : Problem) (G : List Grown) (w : ℕ → Option ℕ) (path : List Tree) (point : List ℕ) (n : ℕ) → IsPath p G path → AtPath w path point → n ≤ length path → (l : ℕ) (s : Sort) → Before p n l s → Takes (slice_get path) w (slice_get point) l s
takes-path p G w path point n h at le l s k =
    let term = path-at p G path n l s h le k in
    let value = zip-at (λ v t. Means [] w t v) point path l term.0 at term.1 in
    subst (λ (o : Option Tree). MatchOption o (slice_get point l ≡ w l) (λ put. (tree_sort put ≡ Some s) × IsSomeAnd (slice_get point l) (λ v. Means [] w put v))) (sym term.1)
    (term.2.1, subst (λ (o : Option ℕ). IsSomeAnd o (λ v. Means [] w term.0 v)) (sym value.1) value.2)
