-- The places of the block at which a path ends.
use Rattle.std.proofs.Common.{◌≡◌, ℕ, zero, suc, ◌+◌, ◌-◌, ◌<◌, ◌≤◌, inl, inr, Some, Option, List, [], ◌∷◌, ◌++◌, map, refl, sym, ap, ◌∙◌, subst, length, take, drop, slice_get, get_or, arith}
use Rattle.std.specs.Prelude.{IsSomeAnd}
use Rattle.std.proofs.lemmas.List.{drop-map, length-drop, length-map, take-append-drop, take-map, take_all}
use Rattle.std.proofs.lemmas.Bool.{cases_lt}
use Rattle.std.proofs.lemmas.Option.{slice_get-get_or}
use Rattle.qv_words.specs.declared.sort.Sort.{Sort}
use Rattle.qv_words.specs.Tree.{Tree, Variable}
use Rattle.qv_words.specs.Problem.{Problem, Place, Quantifier, Existential, Universal}
use Rattle.qv_words.specs.Expansion.{Instance, Eigen}
use Rattle.qv_words.specs.Linked.{Block, Drawn, Entry, IsLinked, blocks_of, block_numbered, on_path, with_block, with_eigens, with_instances, with_line}
use Rattle.qv_words.proofs.Elements.{dropped-at, dropped-first, dropped-none, found-at, get-map, get-taken, some-and, take-length as taken-length, take-one, to-some}
use Rattle.qv_game_laws.specs.PathLaws.{IsLongerTree}
use Rattle.qv_game_laws.proofs.Each.{each-entry}
use Rattle.qv_game_laws.proofs.Points.{below, below-is}
use Rattle.qv_store.specs.declared.problem.Place.{Place as Kept}
use Rattle.qv_store.specs.Problems.{place_of, quantifier_of}
use Rattle.qv_skolem.specs.Blocks.{run_length, sorts_of}
use Rattle.qv_skolem.proofs.FirstBlocks.{first-block, first-run, run-within, IsFirstRun}
use Rattle.qv_skolem.proofs.Rounds.{drop-drop}
use Rattle.qv_expand.specs.Growth.{with_entry, with_lines_of, IsNext}
use Rattle.qv_expand.proofs.Longer.{eigens-append, instances-append}
use Rattle.qv_game_laws.proofs.Paths.{eigens-longer, instances-longer, longer-trans}

-- the blocks of the places behind some blocks
blocks-from : (j : ℕ) (ps : List Place) → blocks_of (drop (below (blocks_of ps) j) ps) ≡ drop j (blocks_of ps)
blocks-from zero ps = refl
blocks-from (suc j) [] = refl
blocks-from (suc j) (p ∷ ps) =
    let r = run_length p.quantifier ps in
    let rest : List Block = blocks_of (drop r ps) in
    let first = first-block p ps in
    let within : r ≤ length ps = run-within p.quantifier ps in
    let long : length (sorts_of (take r ps)) ≡ r = length-map (take r ps) (λ (x : Place). x.sort) ∙ taken-length ps r within in
    let count : below (blocks_of (p ∷ ps)) (suc j) ≡ suc (r + below rest j) = ap (λ (bs : List Block). below bs (suc j)) first ∙ (let sum : suc (length (sorts_of (take r ps))) + below rest j ≡ suc (r + below rest j) = omega (arith, long) in sum) in
    ap (λ (k : ℕ). blocks_of (drop k (p ∷ ps))) count ∙ ap (λ (qs : List Place). blocks_of qs) (sym (drop-drop r (below rest j) ps)) ∙ blocks-from j (drop r ps) ∙ sym (ap (λ (bs : List Block). drop (suc j) bs) first)

-- the block of an entry whose lines come next
pub record IsBlockNext (p : Problem) (entries : List Entry) (depth n : ℕ) (q : Quantifier) (is : IsNext p entries depth n) : Type 0 where
  pub numbered : block_numbered (blocks_of p.prefix) is.entry.level ≡ Some (record { owner = q; sorts = sorts_of (take (run_length q (drop depth p.prefix)) (drop depth p.prefix)) })
  pub run : IsFirstRun q (drop depth p.prefix)

level-from : (level : ℕ) → 1 ≤ level → (j : ℕ) × (level ≡ suc j)
level-from zero h = absurd (omega (arith, h))
level-from (suc j) h = (j, refl)

-- what is behind the places before an entry's block
behind-is : (p : Problem) (entries : List Entry) (depth n : ℕ) → IsLinked p entries → (is : IsNext p entries depth n) → (j : ℕ) × (is.entry.level ≡ suc j) × (j < length (blocks_of p.prefix)) × (blocks_of (drop depth p.prefix) ≡ drop j (blocks_of p.prefix))
behind-is p entries depth n linked is =
    let links = (each-entry p entries n is.entry linked is.here).links in
    let j = level-from is.entry.level links.low in
    let high = links.high in
    let step = j.1 in
    let places : depth ≡ below (blocks_of p.prefix) j.0 = is.below ∙ below-is (blocks_of p.prefix) is.entry.level j.0 j.1 in
    (j.0, j.1, omega (arith, high, step), ap (λ (k : ℕ). blocks_of (drop k p.prefix)) places ∙ blocks-from j.0 p.prefix)

pub place-there : (p : Problem) (entries : List Entry) (depth n : ℕ) → IsLinked p entries → IsNext p entries depth n → depth < length p.prefix
place-there p entries depth n linked is =
    let k = behind-is p entries depth n linked is in
    let b = found-at (blocks_of p.prefix) k.0 k.2 in
    elim (cases_lt depth (length p.prefix)) [
      | inl less ↦ less
      | inr more ↦ (
          let none : blocks_of (drop depth p.prefix) ≡ [] = ap (λ (ps : List Place). blocks_of ps) (dropped-none p.prefix depth more) in
          let some : drop k.0 (blocks_of p.prefix) ≡ b.0 ∷ drop (suc k.0) (blocks_of p.prefix) = dropped-at (blocks_of p.prefix) k.0 b.0 b.1 in
          let last = k.3 in
          absurd (cc)
          )
    ]

pub block-next : (p : Problem) (entries : List Entry) (depth n : ℕ) (q : Quantifier) → IsLinked p entries → (is : IsNext p entries depth n) → IsSomeAnd (slice_get p.prefix depth) (λ place. place.quantifier ≡ q) → IsBlockNext p entries depth n q is
block-next p entries depth n q linked is stands =
    let k = behind-is p entries depth n linked is in
    let place = some-and (slice_get p.prefix depth) (λ (x : Place). x.quantifier ≡ q) stands in
    let head : slice_get (drop depth p.prefix) 0 ≡ Some place.0 = ap (λ (ps : List Place). slice_get ps 0) (dropped-at p.prefix depth place.0 place.1) in
    let run = first-run q place.0 (drop depth p.prefix) head place.2 in
    let b : Block = record { owner = q; sorts = sorts_of (take (run_length q (drop depth p.prefix)) (drop depth p.prefix)) } in
    let at = dropped-first (blocks_of p.prefix) k.0 b (blocks_of (drop (run_length q (drop depth p.prefix)) (drop depth p.prefix))) (sym k.3 ∙ run.blocks) in
    record {
      numbered = ap (block_numbered (blocks_of p.prefix)) k.1 ∙ at.0;
      run = run;
    }

-- what comes next
with-of : (p : Problem) (entries : List Entry) (d : Drawn) (n : ℕ) (e : Entry) (b : Block) → slice_get entries n ≡ Some e → block_numbered (blocks_of p.prefix) e.level ≡ Some b → with_entry p entries d n ≡ with_block n d e (Some b)
with-of p entries d n e b here at = ap (λ (o : Option Entry). with_lines_of p d n o) here ∙ ap (λ (o : Option Block). with_block n d e o) at

pub with-eigens_of : (p : Problem) (entries : List Entry) (d : Drawn) (depth n : ℕ) → (is : IsNext p entries depth n) → IsBlockNext p entries depth n Existential is → with_entry p entries d n ≡ with_eigens n d (sorts_of (take (run_length Existential (drop depth p.prefix)) (drop depth p.prefix)))
with-eigens_of p entries d depth n is h = with-of p entries d n is.entry _ is.here h.numbered

pub with-instances_of : (p : Problem) (entries : List Entry) (d : Drawn) (depth n : ℕ) → (is : IsNext p entries depth n) → IsBlockNext p entries depth n Universal is → with_entry p entries d n ≡ with_instances n d is.entry.terms
with-instances_of p entries d depth n is h = with-of p entries d n is.entry _ is.here h.numbered

-- one line of a block after the other
eigen-one : (n : ℕ) (d : Drawn) (sorts : List Sort) (i : ℕ) (s : Sort) → slice_get sorts i ≡ Some s → with_eigens n d (take (suc i) sorts) ≡ with_line n (with_eigens n d (take i sorts)) (Eigen (with_eigens n d (take i sorts)).parent) (Variable (suc (length (with_eigens n d (take i sorts)).lines)) s)
eigen-one n d sorts i s at = ap (with_eigens n d) (take-one sorts i s at) ∙ eigens-append n d (take i sorts) (s ∷ [])

instance-one : (n : ℕ) (d : Drawn) (terms : List Tree) (i : ℕ) (t : Tree) → slice_get terms i ≡ Some t → with_instances n d (take (suc i) terms) ≡ with_line n (with_instances n d (take i terms)) (Instance (with_instances n d (take i terms)).parent (on_path (with_instances n d (take i terms)).path t)) (on_path (with_instances n d (take i terms)).path t)
instance-one n d terms i t at = ap (with_instances n d) (take-one terms i t at) ∙ instances-append n d (take i terms) (t ∷ [])

take-drop : {X : Type 0} (i : ℕ) (xs : List X) → take i xs ++ drop i xs ≡ xs
take-drop i xs = take-append-drop i xs

pub eigen-next : (n : ℕ) (d f : Drawn) (sorts : List Sort) (i : ℕ) (s : Sort) → slice_get sorts i ≡ Some s → IsLongerTree (with_eigens n d sorts) f →
    (with_eigens n d (take (suc i) sorts) ≡ with_line n (with_eigens n d (take i sorts)) (Eigen (with_eigens n d (take i sorts)).parent) (Variable (suc (length (with_eigens n d (take i sorts)).lines)) s))
    × IsLongerTree (with_line n (with_eigens n d (take i sorts)) (Eigen (with_eigens n d (take i sorts)).parent) (Variable (suc (length (with_eigens n d (take i sorts)).lines)) s)) f
eigen-next n d f sorts i s at longer =
    let one = eigen-one n d sorts i s at in
    let whole : with_eigens n (with_eigens n d (take (suc i) sorts)) (drop (suc i) sorts) ≡ with_eigens n d sorts = sym (eigens-append n d (take (suc i) sorts) (drop (suc i) sorts)) ∙ ap (with_eigens n d) (take-drop (suc i) sorts) in (
      one,
      subst (λ (g : Drawn). IsLongerTree g f) one
          (longer-trans (with_eigens n d (take (suc i) sorts)) (with_eigens n d sorts) f (subst (IsLongerTree (with_eigens n d (take (suc i) sorts))) whole (eigens-longer n (with_eigens n d (take (suc i) sorts)) (drop (suc i) sorts))) longer),
    )

pub instance-next : (n : ℕ) (d f : Drawn) (terms : List Tree) (i : ℕ) (t : Tree) → slice_get terms i ≡ Some t → IsLongerTree (with_instances n d terms) f →
    (with_instances n d (take (suc i) terms) ≡ with_line n (with_instances n d (take i terms)) (Instance (with_instances n d (take i terms)).parent (on_path (with_instances n d (take i terms)).path t)) (on_path (with_instances n d (take i terms)).path t))
    × IsLongerTree (with_line n (with_instances n d (take i terms)) (Instance (with_instances n d (take i terms)).parent (on_path (with_instances n d (take i terms)).path t)) (on_path (with_instances n d (take i terms)).path t)) f
instance-next n d f terms i t at longer =
    let one = instance-one n d terms i t at in
    let whole : with_instances n (with_instances n d (take (suc i) terms)) (drop (suc i) terms) ≡ with_instances n d terms = sym (instances-append n d (take (suc i) terms) (drop (suc i) terms)) ∙ ap (with_instances n d) (take-drop (suc i) terms) in (
      one,
      subst (λ (g : Drawn). IsLongerTree g f) one
          (longer-trans (with_instances n d (take (suc i) terms)) (with_instances n d terms) f (subst (IsLongerTree (with_instances n d (take (suc i) terms))) whole (instances-longer n (with_instances n d (take (suc i) terms)) (drop (suc i) terms))) longer),
    )

-- the places of a block as they are read
pub behind-read : (items read : List Kept) (f first : ℕ) → read ≡ items → f ≡ first → take (length read - f) (drop f read) ≡ drop first items
behind-read items read f first same at =
    let left : length (drop first items) ≡ length items - first = length-drop first items in
    ap (λ (xs : List Kept). take (length xs - f) (drop f xs)) same ∙ ap (λ (k : ℕ). take (length items - k) (drop k items)) at ∙ take_all (length items - first) (drop first items) (omega (arith, left))

pub places-read : (items : List Kept) (first n : ℕ) → map place_of (take n (drop first items)) ≡ take n (drop first (map place_of items))
places-read items first n = sym (take-map place_of n (drop first items)) ∙ ap (λ (ps : List Place). take n ps) (sym (drop-map place_of first items))

pub get-drop : {X : Type 0} (n : ℕ) (xs : List X) (k : ℕ) → slice_get (drop n xs) k ≡ slice_get xs (n + k)
get-drop zero xs k = let same : k ≡ 0 + k = omega arith in ap (slice_get xs) same
get-drop (suc n) [] k = refl
get-drop (suc n) (x ∷ xs) k = let same : suc (n + k) ≡ suc n + k = omega arith in get-drop n xs k ∙ ap (slice_get (x ∷ xs)) same

pub place-read : (items : List Kept) (first n i : ℕ) (x : Kept) → slice_get (take n (drop first items)) i ≡ Some x → slice_get (map place_of items) (first + i) ≡ Some (place_of x)
place-read items first n i x at =
    get-map place_of items (first + i) x (sym (get-drop first items i) ∙ get-taken (drop first items) n i x at)

pub block-read : (items read : List Kept) (f first n : ℕ) → read ≡ items → f ≡ first → n ≡ run_length Existential (map place_of (take (length read - f) (drop f read))) →
    (map place_of (take n (take (length read - f) (drop f read))) ≡ take (run_length Existential (drop first (map place_of items))) (drop first (map place_of items)))
    × ((i : ℕ) (x : Kept) → slice_get (take n (take (length read - f) (drop f read))) i ≡ Some x → slice_get (map place_of items) (first + i) ≡ Some (place_of x))
block-read items read f first n same at many =
    let behind = behind-read items read f first same at in
    let count : n ≡ run_length Existential (drop first (map place_of items)) = many ∙ ap (λ (xs : List Kept). run_length Existential (map place_of xs)) behind ∙ ap (run_length Existential) (sym (drop-map place_of first items)) in (
      ap (λ (xs : List Kept). map place_of (take n xs)) behind ∙ places-read items first n ∙ ap (λ (k : ℕ). take k (drop first (map place_of items))) count,
      λ i x here. place-read items first n i x (ap (λ (xs : List Kept). slice_get (take n xs) i) (sym behind) ∙ here),
    )

-- the place that is read
pub stands-before : (items : List Kept) (k depth : ℕ) (x : Kept) (q : Quantifier) → k ≡ depth → depth < length items → x ≡ get_or items k x → quantifier_of x.quant ≡ q → IsSomeAnd (slice_get (map place_of items) depth) (λ place. place.quantifier ≡ q)
stands-before items k depth x q at low own is =
    let here : slice_get items depth ≡ Some x = slice_get-get_or items depth x low ∙ ap (λ (j : ℕ). Some (get_or items j x)) (sym at) ∙ ap (λ (y : Kept). Some y) (sym own) in
    to-some (slice_get (map place_of items) depth) (λ place. place.quantifier ≡ q) (place_of x) (get-map place_of items depth x here) is
