-- Parts of a tree that are still to be drawn, the next one first.
use Rattle.std.proofs.Common.{◌≡◌, ℕ, zero, suc, ◌+◌, ◌-◌, ◌≤◌, Some, None, Option, List, [], ◌∷◌, ◌++◌, map, refl, sym, ap, ◌∙◌, subst, append_assoc, length, take, drop, slice_get, arith}
use Rattle.std.specs.Prelude.{All, IsSomeAnd}
use Rattle.std.specs.List.{AllByRecursion}
use Rattle.std.proofs.lemmas.List.{append-nil, length-append, length-map, map-append, take_all}
use Rattle.std.proofs.lemmas.List.Elements.{recursion_from_All}
use Rattle.qv_words.specs.declared.sort.Sort.{Sort}
use Rattle.qv_words.specs.Tree.{Tree, Variable}
use Rattle.qv_words.specs.Sorted.{free_levels}
use Rattle.qv_words.specs.Skolem.{IsTermOf}
use Rattle.qv_words.specs.Problem.{Problem, Place, Quantifier, Existential, Universal}
use Rattle.qv_words.specs.Expansion.{ExpansionLine, Instance, Eigen}
use Rattle.qv_words.specs.Linked.{Block, Drawn, Entry, IsLink, IsLinked, IsPlaceBelow, below_each, block_numbered, blocks_of, drawn, on_path, places_below, with_block, with_eigens, with_instances, with_line, with_links}
use Rattle.qv_words.specs.GameLaws.{IsProblem}
use Rattle.qv_words.proofs.Elements.{found-at, get-taken, some-and, take-front, take-length as taken-length, zip-length}
use Rattle.qv_game_laws.specs.PathLaws.{IsLongerTree}
use Rattle.qv_game_laws.proofs.Each.{each-entry}
use Rattle.qv_game_laws.proofs.GameSteps.{owned-terms}
use Rattle.qv_game_laws.proofs.Paths.{drawn-is_longer, longer-itself, longer-trans}
use Rattle.qv_game_laws.proofs.Points.{below-is, below-next}
use Rattle.qv_skolem.specs.Blocks.{run_length, sorts_of}
use Rattle.qv_expand.specs.declared.tasks.Task.{Task}
use Rattle.qv_expand.specs.Tasks.{task_below}
use Rattle.qv_expand.specs.Growth.{with_entry, with_lines_of, IsNext}
use Rattle.qv_expand.proofs.BlockPlaces.{block-next, place-there, with-eigens_of, with-instances_of}
use Rattle.qv_expand.proofs.Longer.{each-longer, longer-same}

-- a part with the path to the line below which it stands
pub record Part : Type 0 where
  pub levels : ℕ
  pub entry : ℕ
  pub parent : ℕ
  pub path : List Tree
  pub under : List ℕ

abbrev pub levels_of : List Block → Option Entry → ℕ
levels_of blocks None = 0
levels_of blocks (Some e) = suc (length blocks) - e.level

abbrev pub part_of : List Block → List Entry → List Tree → List ℕ → Task → Part
part_of blocks entries path under t = record {
  levels = levels_of blocks (slice_get entries t.entry);
  entry = t.entry;
  parent = t.parent;
  path = take t.depth path;
  under = take t.depth under;
}

-- where a part begins
abbrev pub at_part : Part → Drawn → Drawn
at_part t d = record { lines = d.lines; numbers = d.numbers; parent = t.parent; path = t.path; under = t.under }

abbrev pub finish : List Block → List Entry → List Part → Drawn → Drawn
finish blocks entries [] d = d
finish blocks entries (t ∷ ts) d = finish blocks entries ts (drawn t.levels blocks entries (at_part t d) t.entry)

abbrev pub HaveSameLines : Drawn → Drawn → Type 0
HaveSameLines a b = (a.lines ≡ b.lines) × (a.numbers ≡ b.numbers)

module _ (blocks : List Block) (entries : List Entry) where
  finish-same : (ts : List Part) (a b : Drawn) → HaveSameLines a b → HaveSameLines (finish blocks entries ts a) (finish blocks entries ts b)
  finish-same [] a b h = h
  finish-same (t ∷ ts) a b h =
      let made : List ExpansionLine → List (List ℕ) → Drawn = λ l n. finish blocks entries ts (drawn t.levels blocks entries (record { lines = l; numbers = n; parent = t.parent; path = t.path; under = t.under }) t.entry) in
      let same : made a.lines a.numbers ≡ made b.lines b.numbers = ap (λ (l : List ExpansionLine). made l a.numbers) h.0 ∙ ap (λ (n : List (List ℕ)). made b.lines n) h.1 in
      (ap (λ (d : Drawn). d.lines) same, ap (λ (d : Drawn). d.numbers) same)

  finish-longer : (ts : List Part) (d : Drawn) → IsLongerTree d (finish blocks entries ts d)
  finish-longer [] d = longer-itself d
  finish-longer (t ∷ ts) d =
      let next = drawn t.levels blocks entries (at_part t d) t.entry in
      let k = drawn-is_longer t.levels blocks entries (at_part t d) t.entry in
      longer-trans d next (finish blocks entries ts next) (record { lines = k.lines; numbers = k.numbers; alike = k.alike; has_lines = k.has_lines; has_numbers = k.has_numbers }) (finish-longer ts next)

  part-at : ℕ → ℕ → List Tree → List ℕ → ℕ → Part
  part-at levels parent path under entry = record { levels = levels; entry = entry; parent = parent; path = path; under = under }

  finish-links : (levels parent : ℕ) (path : List Tree) (under : List ℕ) (links : List ℕ) (ts : List Part) (d : Drawn) →
      HaveSameLines (finish blocks entries (map (part-at levels parent path under) links ++ ts) d) (finish blocks entries ts (below_each (λ below link. drawn levels blocks entries below link) (record { lines = d.lines; numbers = d.numbers; parent = parent; path = path; under = under }) links))
  unfolding part-at
  finish-links levels parent path under [] ts d = finish-same ts d (record { lines = d.lines; numbers = d.numbers; parent = parent; path = path; under = under }) (refl, refl)
  finish-links levels parent path under (link ∷ links) ts d = finish-links levels parent path under links ts (drawn levels blocks entries (record { lines = d.lines; numbers = d.numbers; parent = parent; path = path; under = under }) link)

  -- an entry's part
  drawn-at : (levels n : ℕ) (d : Drawn) (e : Entry) → slice_get entries n ≡ Some e → drawn (suc levels) blocks entries d n ≡ below_each (λ below link. drawn levels blocks entries below link) (with_block n d e (block_numbered blocks e.level)) e.links
  unfolding drawn
  drawn-at levels n d e here = ap (λ (o : Option Entry). with_links (λ below link. drawn levels blocks entries below link) n d o blocks) here

-- tasks that may come, each no deeper than the one before
abbrev pub AreTasks : Problem → List Entry → ℕ → List Task → Type 0
AreTasks p entries depth [] = Unit {0}
AreTasks p entries depth (t ∷ ts) = (t.depth ≤ depth) × IsNext p entries t.depth t.entry × AreTasks p entries t.depth ts

tasks-deeper : (p : Problem) (entries : List Entry) (j k : ℕ) (ts : List Task) → j ≤ k → AreTasks p entries j ts → AreTasks p entries k ts
tasks-deeper p entries j k [] le h = tt
tasks-deeper p entries j k (t ∷ ts) le h = let a = h.0 in (omega (arith, a, le), h.1, h.2)

take-take : {X : Type 0} (j k : ℕ) (xs : List X) → j ≤ k → take j (take k xs) ≡ take j xs
take-take zero k xs h = refl
take-take (suc j) zero xs h = absurd (omega (arith, h))
take-take (suc j) (suc k) [] h = refl
take-take (suc j) (suc k) (x ∷ xs) h = ap (λ ys. x ∷ ys) (take-take j k xs (omega (arith, h)))

take-shorter : {X : Type 0} (j k : ℕ) (xs ys : List X) → j ≤ k → take k xs ≡ take k ys → take j xs ≡ take j ys
take-shorter j k xs ys h same = sym (take-take j k xs h) ∙ ap (take j) same ∙ take-take j k ys h

parts-same : (p : Problem) (entries : List Entry) (depth : ℕ) (ts : List Task) (path other : List Tree) (under beside : List ℕ) → AreTasks p entries depth ts → take depth path ≡ take depth other → take depth under ≡ take depth beside →
    map (part_of (blocks_of p.prefix) entries path under) ts ≡ map (part_of (blocks_of p.prefix) entries other beside) ts
parts-same p entries depth [] path other under beside h a b = refl
parts-same p entries depth (t ∷ ts) path other under beside h a b =
    let one = take-shorter t.depth depth path other h.0 a in
    let two = take-shorter t.depth depth under beside h.0 b in
    let made : List Tree → List ℕ → Part = λ x y. record { levels = levels_of (blocks_of p.prefix) (slice_get entries t.entry); entry = t.entry; parent = t.parent; path = x; under = y } in
    ap (λ (x : List Tree). made x (take t.depth under) ∷ map (part_of (blocks_of p.prefix) entries path under) ts) one
    ∙ ap (λ (y : List ℕ). made (take t.depth other) y ∷ map (part_of (blocks_of p.prefix) entries path under) ts) two
    ∙ ap (λ (xs : List Part). made (take t.depth other) (take t.depth beside) ∷ xs) (parts-same p entries t.depth ts path other under beside h.2 one two)

-- so many lines more, and so many places more on the path
pub record IsDeeper (d f : Drawn) (count : ℕ) : Type 0 where
  pub path : List Tree
  pub under : List ℕ
  pub has_path : f.path ≡ d.path ++ path
  pub has_under : f.under ≡ d.under ++ under
  pub many : length path ≡ count
  pub alike : length under ≡ count
  pub lines : length f.lines ≡ length d.lines + count

deeper-itself : (d : Drawn) → IsDeeper d d 0
deeper-itself d = record { path = []; under = []; has_path = sym (append-nil d.path); has_under = sym (append-nil d.under); many = refl; alike = refl; lines = omega arith }

deeper-line : (n : ℕ) (d : Drawn) (line : ExpansionLine) (t : Tree) (f : Drawn) (count : ℕ) → IsDeeper (with_line n d line t) f count → IsDeeper d f (suc count)
deeper-line n d line t f count h =
    let many = h.many in
    let alike = h.alike in
    let lines = h.lines in
    let size = length-append d.lines (line ∷ []) in
    record {
      path = t ∷ h.path;
      under = n ∷ h.under;
      has_path = h.has_path ∙ append_assoc d.path (t ∷ []) h.path;
      has_under = h.has_under ∙ append_assoc d.under (n ∷ []) h.under;
      many = omega (arith, many);
      alike = omega (arith, alike);
      lines = omega (arith, lines, size);
    }

eigens-deeper : (n : ℕ) (d : Drawn) (sorts : List Sort) → IsDeeper d (with_eigens n d sorts) (length sorts)
eigens-deeper n d [] = deeper-itself d
eigens-deeper n d (s ∷ sorts) =
    let line = Eigen d.parent in
    let t = Variable (suc (length d.lines)) s in
    deeper-line n d line t (with_eigens n (with_line n d line t) sorts) (length sorts) (eigens-deeper n (with_line n d line t) sorts)

instances-deeper : (n : ℕ) (d : Drawn) (terms : List Tree) → IsDeeper d (with_instances n d terms) (length terms)
instances-deeper n d [] = deeper-itself d
instances-deeper n d (t ∷ terms) =
    let line = Instance d.parent (on_path d.path t) in
    let u = on_path d.path t in
    deeper-line n d line u (with_instances n (with_line n d line u) terms) (length terms) (instances-deeper n (with_line n d line u) terms)

-- an entry's block
pub record IsBlockDeep (p : Problem) (entries : List Entry) (depth n : ℕ) (d : Drawn) (e : Entry) : Type 0 where
  pub count : ℕ
  pub some : 1 ≤ count
  pub deeper : IsDeeper d (with_entry p entries d n) count
  pub next : depth + count ≡ places_below (blocks_of p.prefix) (e.level + 1)

next-below : (p : Problem) (level depth : ℕ) (b : Block) → block_numbered (blocks_of p.prefix) level ≡ Some b → depth ≡ places_below (blocks_of p.prefix) level → depth + length b.sorts ≡ places_below (blocks_of p.prefix) (level + 1)
next-below p zero depth b at is = absurd cc
next-below p (suc j) depth b at is =
    let here = below-is (blocks_of p.prefix) (suc j) j refl in
    let more = below-next (blocks_of p.prefix) j b at in
    let after = below-is (blocks_of p.prefix) (suc j + 1) (suc j) (omega arith) in
    omega (arith, is, here, more, after)

block-deep : (p : Problem) (entries : List Entry) (depth n : ℕ) (d : Drawn) (is : IsNext p entries depth n) → IsProblem p → IsLinked p entries → IsBlockDeep p entries depth n d is.entry
block-deep p entries depth n d is hp linked =
    let low = place-there p entries depth n linked is in
    let place = found-at p.prefix depth low in
    by place.0.quantifier (subst (λ (o : Option Place). IsSomeAnd o (λ q. q.quantifier ≡ place.0.quantifier)) (sym place.1) refl)
  where
    by : (q : Quantifier) → IsSomeAnd (slice_get p.prefix depth) (λ place. place.quantifier ≡ q) → IsBlockDeep p entries depth n d is.entry
    by Existential stands =
        let h = block-next p entries depth n Existential linked is stands in
        let run : List Place = take (run_length Existential (drop depth p.prefix)) (drop depth p.prefix) in
        let size : length (sorts_of run) ≡ run_length Existential (drop depth p.prefix) = length-map run (λ (x : Place). x.sort) ∙ taken-length (drop depth p.prefix) (run_length Existential (drop depth p.prefix)) h.run.within in
        let some = h.run.some in
        record {
          count = length (sorts_of run);
          some = omega (arith, size, some);
          deeper = subst (λ (f : Drawn). IsDeeper d f (length (sorts_of run))) (sym (with-eigens_of p entries d depth n is h)) (eigens-deeper n d (sorts_of run));
          next = next-below p is.entry.level depth (record { owner = Existential; sorts = sorts_of run }) h.numbered is.below;
        }
    by Universal stands =
        let h = block-next p entries depth n Universal linked is stands in
        let run : List Place = take (run_length Universal (drop depth p.prefix)) (drop depth p.prefix) in
        let b : Block = record { owner = Universal; sorts = sorts_of run } in
        let size : length (sorts_of run) ≡ run_length Universal (drop depth p.prefix) = length-map run (λ (x : Place). x.sort) ∙ taken-length (drop depth p.prefix) (run_length Universal (drop depth p.prefix)) h.run.within in
        let some = h.run.some in
        let own = owned-terms p entries n is.entry b (record { problem = hp; linked = linked; here = is.here; at_level = h.numbered }) is.winner in
        let many = zip-length (λ t s. IsTermOf t s × All (IsPlaceBelow p (places_below (blocks_of p.prefix) is.entry.level)) (free_levels t)) is.entry.terms (sorts_of run) own in
        let after = next-below p is.entry.level depth b h.numbered is.below in
        record {
          count = length is.entry.terms;
          some = omega (arith, size, some, many);
          deeper = subst (λ (f : Drawn). IsDeeper d f (length is.entry.terms)) (sym (with-instances_of p entries d depth n is h)) (instances-deeper n d is.entry.terms);
          next = omega (arith, after, many);
        }

-- the next part is drawn as far as its block
module _ (p : Problem) (entries : List Entry) (hp : IsProblem p) (linked : IsLinked p entries) (d : Drawn) (t : Task) (ts : List Task) (whole : Drawn) (low : t.depth ≤ length d.path) (alike : length d.under ≡ length d.path) (is : IsNext p entries t.depth t.entry) (rest : AreTasks p entries t.depth ts)
    (goes_on : HaveSameLines (finish (blocks_of p.prefix) entries (map (part_of (blocks_of p.prefix) entries d.path d.under) (t ∷ ts)) d) whole) where
  abbrev back : Drawn
  back = record { lines = d.lines; numbers = d.numbers; parent = t.parent; path = take t.depth d.path; under = take t.depth d.under }

  levels : ℕ
  levels = length (blocks_of p.prefix) - is.entry.level

  one-more : levels_of (blocks_of p.prefix) (slice_get entries t.entry) ≡ suc levels
  unfolding levels
  one-more =
      let links = (each-entry p entries t.entry is.entry linked is.here).links in
      let high = links.high in
      ap (levels_of (blocks_of p.prefix)) is.here ∙ (let sum : suc (length (blocks_of p.prefix)) - is.entry.level ≡ suc (length (blocks_of p.prefix) - is.entry.level) = omega (arith, high) in sum)

  parts : List Part
  parts = map (part_of (blocks_of p.prefix) entries d.path d.under) ts

  -- what follows of the entry's links
  links-drawn : drawn (levels_of (blocks_of p.prefix) (slice_get entries t.entry)) (blocks_of p.prefix) entries back t.entry ≡ below_each (λ below link. drawn levels (blocks_of p.prefix) entries below link) (with_entry p entries back t.entry) is.entry.links
  links-drawn =
      ap (λ (k : ℕ). drawn k (blocks_of p.prefix) entries back t.entry) one-more
      ∙ drawn-at (blocks_of p.prefix) entries levels t.entry back is.entry is.here
      ∙ ap (λ (o : Option Entry). below_each (λ below link. drawn levels (blocks_of p.prefix) entries below link) (with_lines_of p back t.entry o) is.entry.links) (sym is.here)

  goes-on : HaveSameLines (finish (blocks_of p.prefix) entries parts (below_each (λ below link. drawn levels (blocks_of p.prefix) entries below link) (with_entry p entries back t.entry) is.entry.links)) whole
  unfolding parts
  goes-on = subst (λ (f : Drawn). HaveSameLines (finish (blocks_of p.prefix) entries (map (part_of (blocks_of p.prefix) entries d.path d.under) ts) f) whole) links-drawn goes_on

  pub part-longer : IsLongerTree (with_entry p entries back t.entry) whole
  part-longer =
      let next = with_entry p entries back t.entry in
      let each = below_each (λ below link. drawn levels (blocks_of p.prefix) entries below link) next is.entry.links in
      longer-same next (finish (blocks_of p.prefix) entries parts each) whole goes-on.0 goes-on.1
      (longer-trans next each (finish (blocks_of p.prefix) entries parts each) (each-longer levels (blocks_of p.prefix) entries next is.entry.links) (finish-longer (blocks_of p.prefix) entries parts each))

  pub deep : IsBlockDeep p entries t.depth t.entry back is.entry
  deep = block-deep p entries t.depth t.entry back is hp linked

  -- with the block's lines and the tasks for the links
  next-depth : length (with_entry p entries back t.entry).path ≡ t.depth + deep.count
  next-depth =
      let a = ap length deep.deeper.has_path in
      let b = length-append (take t.depth d.path) deep.deeper.path in
      let e = taken-length d.path t.depth low in
      let f = deep.deeper.many in
      omega (arith, a, b, e, f)

  next-under : length (with_entry p entries back t.entry).under ≡ t.depth + deep.count
  next-under =
      let a = ap length deep.deeper.has_under in
      let b = length-append (take t.depth d.under) deep.deeper.under in
      let e = taken-length d.under t.depth (omega (arith, low, alike)) in
      let f = deep.deeper.alike in
      omega (arith, a, b, e, f)

  front-path : take t.depth (with_entry p entries back t.entry).path ≡ take t.depth d.path
  front-path =
      ap (take t.depth) deep.deeper.has_path ∙ take-front (take t.depth d.path) deep.deeper.path 0 t.depth (let e = taken-length d.path t.depth low in omega (arith, e)) ∙ append-nil (take t.depth d.path)

  front-under : take t.depth (with_entry p entries back t.entry).under ≡ take t.depth d.under
  front-under =
      ap (take t.depth) deep.deeper.has_under ∙ take-front (take t.depth d.under) deep.deeper.under 0 t.depth (let e = taken-length d.under t.depth (omega (arith, low, alike)) in omega (arith, e)) ∙ append-nil (take t.depth d.under)

  link-next : (k : ℕ) → IsLink (take t.entry entries) is.entry k → IsNext p entries (length (with_entry p entries back t.entry).path) k × (levels_of (blocks_of p.prefix) (slice_get entries k) ≡ levels)
  unfolding levels
  link-next k link =
      let l = some-and (slice_get (take t.entry entries) k) (λ (x : Entry). (x.winner ≡ is.entry.winner) × (x.level ≡ is.entry.level + 1)) link in
      let here = get-taken entries t.entry k l.0 l.1 in
      let level = l.2.1 in
      let next = deep.next in
      let size = next-depth in (
        record {
          entry = l.0;
          here = here;
          winner = l.2.0 ∙ is.winner;
          below = size ∙ next ∙ ap (places_below (blocks_of p.prefix)) (sym level);
        },
        ap (levels_of (blocks_of p.prefix)) here ∙ (let sum : suc (length (blocks_of p.prefix)) - l.0.level ≡ length (blocks_of p.prefix) - is.entry.level = omega (arith, level) in sum),
      )

  link-tasks : (links : List ℕ) → AllByRecursion (IsLink (take t.entry entries) is.entry) links → (parent : ℕ) → AreTasks p entries (length (with_entry p entries back t.entry).path) (map (task_below parent (length (with_entry p entries back t.entry).path)) links ++ ts)
  link-tasks [] each parent = let size = next-depth in tasks-deeper p entries t.depth (length (with_entry p entries back t.entry).path) ts (omega (arith, size)) rest
  link-tasks (k ∷ links) each parent = (omega arith, (link-next k each.0).0, link-tasks links each.1 parent)

  link-parts : (links : List ℕ) → AllByRecursion (IsLink (take t.entry entries) is.entry) links → (parent : ℕ) → map (part_of (blocks_of p.prefix) entries (with_entry p entries back t.entry).path (with_entry p entries back t.entry).under) (map (task_below parent (length (with_entry p entries back t.entry).path)) links)
      ≡ map (part-at (blocks_of p.prefix) entries levels parent (with_entry p entries back t.entry).path (with_entry p entries back t.entry).under) links
  unfolding part-at
  link-parts [] each parent = refl
  link-parts (k ∷ links) each parent =
      let next = with_entry p entries back t.entry in
      let size = next-depth in
      let beside = next-under in
      let path : take (length next.path) next.path ≡ next.path = take_all (length next.path) next.path (omega arith) in
      let under : take (length next.path) next.under ≡ next.under = take_all (length next.path) next.under (omega (arith, size, beside)) in
      let made : ℕ → List Tree → List ℕ → Part = λ x y z. record { levels = x; entry = k; parent = parent; path = y; under = z } in
      let others : List Part = map (part_of (blocks_of p.prefix) entries next.path next.under) (map (task_below parent (length next.path)) links) in
      ap (λ (x : ℕ). made x (take (length next.path) next.path) (take (length next.path) next.under) ∷ others) (link-next k each.0).1
      ∙ ap (λ (x : List Tree). made levels x (take (length next.path) next.under) ∷ others) path
      ∙ ap (λ (x : List ℕ). made levels next.path x ∷ others) under
      ∙ ap (λ (xs : List Part). made levels next.path next.under ∷ xs) (link-parts links each.1 parent)

  all-links : AllByRecursion (IsLink (take t.entry entries) is.entry) is.entry.links
  all-links = recursion_from_All (IsLink (take t.entry entries) is.entry) is.entry.links (each-entry p entries t.entry is.entry linked is.here).links.each

  pub next-tasks : AreTasks p entries (length (with_entry p entries back t.entry).path) (map (task_below (with_entry p entries back t.entry).parent (length (with_entry p entries back t.entry).path)) is.entry.links ++ ts)
  next-tasks = link-tasks is.entry.links all-links (with_entry p entries back t.entry).parent

  pub next-goes_on : HaveSameLines (finish (blocks_of p.prefix) entries (map (part_of (blocks_of p.prefix) entries (with_entry p entries back t.entry).path (with_entry p entries back t.entry).under) (map (task_below (with_entry p entries back t.entry).parent (length (with_entry p entries back t.entry).path)) is.entry.links ++ ts)) (with_entry p entries back t.entry)) whole
  unfolding parts
  next-goes_on =
      let next = with_entry p entries back t.entry in
      let own = part_of (blocks_of p.prefix) entries next.path next.under in
      let tasks = map (task_below next.parent (length next.path)) is.entry.links in
      let same : map own (tasks ++ ts) ≡ map (part-at (blocks_of p.prefix) entries levels next.parent next.path next.under) is.entry.links ++ map (part_of (blocks_of p.prefix) entries d.path d.under) ts =
      map-append own tasks ts ∙ ap (λ (xs : List Part). xs ++ map own ts) (link-parts is.entry.links all-links next.parent)
      ∙ ap (λ (xs : List Part). map (part-at (blocks_of p.prefix) entries levels next.parent next.path next.under) is.entry.links ++ xs) (parts-same p entries t.depth ts next.path d.path next.under d.under rest front-path front-under) in
      let each = finish-links (blocks_of p.prefix) entries levels next.parent next.path next.under is.entry.links (map (part_of (blocks_of p.prefix) entries d.path d.under) ts) next in
      subst (λ (xs : List Part). HaveSameLines (finish (blocks_of p.prefix) entries xs next) whole) (sym same) (each.0 ∙ goes-on.0, each.1 ∙ goes-on.1)
