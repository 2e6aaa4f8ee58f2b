-- Each line that is drawn has a path, which is its parent's and the number of one more entry.
use Rattle.std.proofs.Common.{◌≡◌, ℕ, zero, suc, ◌<◌, ◌≤◌, inl, inr, Bool, true, false, cond, Some, None, Option, List, [], ◌∷◌, ◌++◌, refl, sym, ap, ◌∙◌, subst, append_assoc, slice_get, length, arith}
use Rattle.std.specs.Prelude.{IsSome, unwrap_or}
use Rattle.std.proofs.lemmas.Bool.{cases_lt}
use Rattle.std.proofs.lemmas.List.{append-nil, length-append}
use Rattle.qv_words.specs.declared.sort.Sort.{Sort}
use Rattle.qv_words.specs.Tree.{Tree, Variable}
use Rattle.qv_words.specs.Problem.{Existential}
use Rattle.qv_words.specs.Expansion.{ExpansionLine, Instance, Eigen}
use Rattle.qv_words.specs.Linked.{Block, Entry, Drawn, with_line, with_eigens, with_instances, on_path, below_each, with_block, with_links, drawn, first_universal, no_lines, tree_lines, tree_of, paths_of, blocks_of, block_numbered, same_quantifier}
use Rattle.qv_game_laws.specs.PathLaws.{PathsPerLine, ParentsPathIsFront, IsLongerTree, DrawnIsLonger, PathsStay, NextLinesPath, parent_of, path_numbered}
use Rattle.qv_words.proofs.Elements.{get-before, get-behind, in-front}

-- paths by number in a longer list
path-longer : (paths more : List (List ℕ)) (n : ℕ) → n ≤ length paths → path_numbered (paths ++ more) n ≡ path_numbered paths n
path-longer paths more zero h = refl
path-longer paths more (suc n) h = ap (λ o. unwrap_or o []) (get-before paths more n (omega (arith, h)))

pub last-only : {A : Type 0} (xs : List A) (x : A) (i : ℕ) (y : A) → length xs ≤ i → slice_get (xs ++ x ∷ []) i ≡ Some y → (i ≡ length xs) × (x ≡ y)
last-only [] x zero y h e = let same : x ≡ y = cc in (refl, same)
last-only [] x (suc i) y h e = absurd cc
last-only (z ∷ xs) x zero y h e = absurd (omega (arith, h))
last-only (z ∷ xs) x (suc i) y h e = let k = last-only xs x i y (omega (arith, h)) e in let m = k.0 in (omega (arith, m), k.1)

-- longer trees
pub longer-itself : (d : Drawn) → IsLongerTree d d
longer-itself d = record { lines = []; numbers = []; alike = refl; has_lines = sym (append-nil d.lines); has_numbers = sym (append-nil d.numbers) }

pub longer-trans : (d f g : Drawn) → IsLongerTree d f → IsLongerTree f g → IsLongerTree d g
longer-trans d f g h k = record {
  lines = h.lines ++ k.lines;
  numbers = h.numbers ++ k.numbers;
  alike =
      let a = h.alike in
      let b = k.alike in
      let c = length-append h.lines k.lines in
      let e = length-append h.numbers k.numbers in
      omega (arith, a, b, c, e);
  has_lines = k.has_lines ∙ ap (λ xs. xs ++ k.lines) h.has_lines ∙ append_assoc d.lines h.lines k.lines;
  has_numbers = k.has_numbers ∙ ap (λ xs. xs ++ k.numbers) h.has_numbers ∙ append_assoc d.numbers h.numbers k.numbers;
}

pub line-longer : (n : ℕ) (d : Drawn) (line : ExpansionLine) (t : Tree) → IsLongerTree d (with_line n d line t)
line-longer n d line t = record { lines = line ∷ []; numbers = (d.under ++ n ∷ []) ∷ []; alike = refl; has_lines = refl; has_numbers = refl }

longer-length : (d f : Drawn) → IsLongerTree d f → length d.lines ≤ length f.lines
longer-length d f h =
    let a = ap length (h.has_lines) in
    let b = length-append d.lines h.lines in
    omega (arith, a, b)

pub paths-stay : PathsStay
paths-stay d f n h low = ap (λ paths. path_numbered paths n) h.has_numbers ∙ path-longer d.numbers h.numbers n low

-- a line's path
abbrev HasPath : List Entry → List (List ℕ) → ℕ → ExpansionLine → Type 0
HasPath entries numbers n line =
    (parent_of line ≤ n) × ((k : ℕ) × IsSome (slice_get entries k) × (slice_get numbers n ≡ Some (path_numbered numbers (parent_of line) ++ k ∷ [])))

has-longer : (entries : List Entry) (numbers more : List (List ℕ)) (n : ℕ) (line : ExpansionLine) → n < length numbers → HasPath entries numbers n line → HasPath entries (numbers ++ more) n line
has-longer entries numbers more n line inside h =
    let low = h.0 in
    let same = path-longer numbers more (parent_of line) (omega (arith, low, inside)) in
    (h.0, (h.1.0, h.1.1, in-front numbers more n (path_numbered numbers (parent_of line) ++ h.1.0 ∷ []) h.1.2 ∙ ap (λ path. Some (path ++ h.1.0 ∷ [])) (sym same)))

-- what has been drawn: each line has its path, and so has the one below which the next one comes
record IsWell (entries : List Entry) (d : Drawn) : Type 0 where
  count : length d.numbers ≡ length d.lines
  parent : d.parent ≤ length d.lines
  under : d.under ≡ path_numbered d.numbers d.parent
  each : (n : ℕ) (line : ExpansionLine) → slice_get d.lines n ≡ Some line → HasPath entries d.numbers n line

line-well : (entries : List Entry) (n : ℕ) (d : Drawn) (line : ExpansionLine) (t : Tree) → IsSome (slice_get entries n) → parent_of line ≡ d.parent → IsWell entries d → IsWell entries (with_line n d line t)
line-well entries n d line t there below h =
    let path = d.under ++ n ∷ [] in
    let count = h.count in
    let a = length-append d.lines (line ∷ []) in
    let b = length-append d.numbers (path ∷ []) in
    let last : (i : ℕ) → i ≡ length d.lines → slice_get (d.numbers ++ path ∷ []) i ≡ Some path = λ i e. get-behind d.numbers (path ∷ []) 0 i (omega (arith, e, count)) in
    record {
      count = omega (arith, count, a, b);
      parent = omega (arith, a);
      under = sym (ap (λ o. unwrap_or o []) (last (length d.lines) refl));
      each = λ i l at. elim (cases_lt i (length d.lines)) [
        | inl less ↦ has-longer entries d.numbers (path ∷ []) i l (omega (arith, less, count)) (h.each i l (sym (get-before d.lines (line ∷ []) i less) ∙ at))
        | inr more ↦ (
            let same = last-only d.lines line i l more at in
            let index = same.0 in
            let up : parent_of l ≡ d.parent = ap parent_of (sym same.1) ∙ below in
            let low = h.parent in
            let front : d.under ≡ path_numbered (d.numbers ++ path ∷ []) (parent_of l) =
            h.under ∙ sym (path-longer d.numbers (path ∷ []) d.parent (omega (arith, low, count))) ∙ ap (path_numbered (d.numbers ++ path ∷ [])) (sym up) in
            (omega (arith, up, low, index), (n, there, last i index ∙ ap (λ us. Some (us ++ n ∷ [])) front))
            )
      ];
    }

-- each part of a tree is drawn behind what is there
pub eigens-longer : (n : ℕ) (d : Drawn) (sorts : List Sort) → IsLongerTree d (with_eigens n d sorts)
eigens-longer n d [] = longer-itself d
eigens-longer n d (s ∷ sorts) =
    let line = Eigen d.parent in
    let t = Variable (suc (length d.lines)) s in
    let f = with_line n d line t in
    longer-trans d f (with_eigens n f sorts) (line-longer n d line t) (eigens-longer n f sorts)

pub instances-longer : (n : ℕ) (d : Drawn) (terms : List Tree) → IsLongerTree d (with_instances n d terms)
instances-longer n d [] = longer-itself d
instances-longer n d (t ∷ terms) =
    let line = Instance d.parent (on_path d.path t) in
    let f = with_line n d line (on_path d.path t) in
    longer-trans d f (with_instances n f terms) (line-longer n d line (on_path d.path t)) (instances-longer n f terms)

block-longer : (n : ℕ) (d : Drawn) (e : Entry) (o : Option Block) → IsLongerTree d (with_block n d e o)
block-longer n d e None = longer-itself d
block-longer n d e (Some b) = go (same_quantifier b.owner Existential)
  where
    go : (k : Bool) → IsLongerTree d (cond k (with_eigens n d b.sorts) (with_instances n d e.terms))
    go true = eigens-longer n d b.sorts
    go false = instances-longer n d e.terms

-- back below the line from which a part was drawn
abbrev back-to : Drawn → Drawn → Drawn
back-to d below = record { lines = below.lines; numbers = below.numbers; parent = d.parent; path = d.path; under = d.under }

back-longer : (d below : Drawn) → IsLongerTree d below → IsLongerTree d (back-to d below)
back-longer d below h = record { lines = h.lines; numbers = h.numbers; alike = h.alike; has_lines = h.has_lines; has_numbers = h.has_numbers }

abbrev Lengthens : (Drawn → ℕ → Drawn) → Type 0
Lengthens part = (d : Drawn) (link : ℕ) → IsLongerTree d (part d link)

each-longer : (part : Drawn → ℕ → Drawn) → Lengthens part → (d : Drawn) (links : List ℕ) → IsLongerTree d (below_each part d links)
each-longer part longer d [] = longer-itself d
each-longer part longer d (link ∷ links) =
    let back = back-to d (part d link) in
    longer-trans d back (below_each part back links) (back-longer d (part d link) (longer d link)) (each-longer part longer back links)

links-longer : (blocks : List Block) (part : Drawn → ℕ → Drawn) → Lengthens part → (n : ℕ) (d : Drawn) (o : Option Entry) → IsLongerTree d (with_links part n d o blocks)
links-longer blocks part longer n d None = longer-itself d
links-longer blocks part longer n d (Some e) =
    let f = with_block n d e (block_numbered blocks e.level) in
    longer-trans d f (below_each part f e.links) (block-longer n d e (block_numbered blocks e.level)) (each-longer part longer f e.links)

pub drawn-is_longer : DrawnIsLonger
unfolding drawn
drawn-is_longer zero blocks entries d n = longer-itself d
drawn-is_longer (suc levels) blocks entries d n =
    links-longer blocks (λ below link. drawn levels blocks entries below link) (drawn-is_longer levels blocks entries) n d (slice_get entries n)

-- and each line of it has its path
eigens-well : (entries : List Entry) (n : ℕ) (d : Drawn) (sorts : List Sort) → IsSome (slice_get entries n) → IsWell entries d → IsWell entries (with_eigens n d sorts)
eigens-well entries n d [] there h = h
eigens-well entries n d (s ∷ sorts) there h =
    let line = Eigen d.parent in
    let t = Variable (suc (length d.lines)) s in
    eigens-well entries n (with_line n d line t) sorts there (line-well entries n d line t there refl h)

instances-well : (entries : List Entry) (n : ℕ) (d : Drawn) (terms : List Tree) → IsSome (slice_get entries n) → IsWell entries d → IsWell entries (with_instances n d terms)
instances-well entries n d [] there h = h
instances-well entries n d (t ∷ terms) there h =
    let line = Instance d.parent (on_path d.path t) in
    instances-well entries n (with_line n d line (on_path d.path t)) terms there (line-well entries n d line (on_path d.path t) there refl h)

block-well : (entries : List Entry) (n : ℕ) (d : Drawn) (e : Entry) (o : Option Block) → IsSome (slice_get entries n) → IsWell entries d → IsWell entries (with_block n d e o)
block-well entries n d e None there h = h
block-well entries n d e (Some b) there h = go (same_quantifier b.owner Existential)
  where
    go : (k : Bool) → IsWell entries (cond k (with_eigens n d b.sorts) (with_instances n d e.terms))
    go true = eigens-well entries n d b.sorts there h
    go false = instances-well entries n d e.terms there h

back-well : (entries : List Entry) (d below : Drawn) → IsWell entries d → IsLongerTree d below → IsWell entries below → IsWell entries (back-to d below)
back-well entries d below h longer k =
    let low = h.parent in
    let long = longer-length d below longer in
    let count = h.count in
    record {
      count = k.count;
      parent = omega (arith, low, long);
      under = h.under ∙ sym (paths-stay d below d.parent longer (omega (arith, low, count)));
      each = k.each;
    }

abbrev Draws : List Entry → (Drawn → ℕ → Drawn) → Type 0
Draws entries part = (d : Drawn) (link : ℕ) → IsWell entries d → IsWell entries (part d link)

each-well : (entries : List Entry) (part : Drawn → ℕ → Drawn) → Lengthens part → Draws entries part → (d : Drawn) (links : List ℕ) → IsWell entries d → IsWell entries (below_each part d links)
each-well entries part longer draws d [] h = h
each-well entries part longer draws d (link ∷ links) h =
    each-well entries part longer draws (back-to d (part d link)) links (back-well entries d (part d link) h (longer d link) (draws d link h))

links-well : (entries : List Entry) (blocks : List Block) (part : Drawn → ℕ → Drawn) → Lengthens part → Draws entries part → (n : ℕ) (d : Drawn) (o : Option Entry) → slice_get entries n ≡ o → IsWell entries d → IsWell entries (with_links part n d o blocks)
links-well entries blocks part longer draws n d None at h = h
links-well entries blocks part longer draws n d (Some e) at h =
    let f = with_block n d e (block_numbered blocks e.level) in
    each-well entries part longer draws f e.links (block-well entries n d e (block_numbered blocks e.level) (subst IsSome (sym at) refl) h)

drawn-well : (levels : ℕ) (blocks : List Block) (entries : List Entry) → Draws entries (λ d n. drawn levels blocks entries d n)
unfolding drawn
drawn-well zero blocks entries d n h = h
drawn-well (suc levels) blocks entries d n h =
    links-well entries blocks (λ below link. drawn levels blocks entries below link) (drawn-is_longer levels blocks entries) (drawn-well levels blocks entries) n d (slice_get entries n) refl h

nothing-well : (entries : List Entry) → IsWell entries no_lines
nothing-well entries = record { count = refl; parent = omega arith; under = refl; each = λ n line at. absurd cc }

tree-well : (blocks : List Block) (entries : List Entry) (o : Option ℕ) → IsWell entries (tree_lines blocks entries o)
tree-well blocks entries None = nothing-well entries
tree-well blocks entries (Some n) = drawn-well (length blocks) blocks entries no_lines n (nothing-well entries)

pub paths-per_line : PathsPerLine
unfolding tree_of paths_of
paths-per_line p entries = (tree-well (blocks_of p.prefix) entries (first_universal 0 entries)).count

pub parents-path_is_front : ParentsPathIsFront
unfolding tree_of paths_of
parents-path_is_front p entries n line at = (tree-well (blocks_of p.prefix) entries (first_universal 0 entries)).each n line at

pub next-lines_path : NextLinesPath
next-lines_path d f n line t count h =
    let path = d.under ++ n ∷ [] in (
      ap (λ xs. slice_get xs (length d.lines)) h.has_lines ∙ in-front (d.lines ++ line ∷ []) h.lines (length d.lines) line (get-behind d.lines (line ∷ []) 0 (length d.lines) (omega arith)),
      ap (λ xs. slice_get xs (length d.lines)) h.has_numbers ∙ in-front (d.numbers ++ path ∷ []) h.numbers (length d.lines) path (get-behind d.numbers (path ∷ []) 0 (length d.lines) (omega (arith, count))),
    )
