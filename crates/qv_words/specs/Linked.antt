-- Linked lists of entries: what play of the level game leaves behind.
use Rattle.std.specs.Prelude.{◌≡◌, ◌≢◌, ℕ, zero, suc, ◌+◌, ◌-◌, ◌/◌, ◌%◌, ◌^◌, ◌<◌, ◌≤◌, ◌==◌, nat_lt, Bool, true, false, ◌&&◌, ◌⊎◌, if◌then◌else◌, Option, Some, None, option_map, unwrap_or, IsSome, IsSomeAnd, MatchBool, List, [], ◌∷◌, ◌++◌, map, filter, length, take, sum, slice_get, All, AllPairs}
use Rattle.std.specs.List.{AllZip}
use Rattle.qv_words.specs.declared.sort.Sort.{Sort}
use Rattle.qv_words.specs.declared.sort.Sort.TheVariants.{Bits}
use Rattle.qv_words.specs.declared.sort.Sort.TheVariants.{Bool as BoolSort}
use Rattle.qv_words.specs.declared.op.Op.TheVariants.{Equal, Extract}
use Rattle.qv_words.specs.Sort.{IsValueOf, width_of}
use Rattle.qv_words.specs.Tree.{Tree, Variable, Literal, Apply, Nil, Cons}
use Rattle.qv_words.specs.Sorted.{HasValues, free_levels}
use Rattle.qv_words.specs.Meaning.{Means}
use Rattle.qv_words.specs.Replacement.{replaced}
use Rattle.qv_words.specs.Prenex.{negation, binary, ite}
use Rattle.qv_words.specs.Problem.{Problem, Place, Quantifier, Existential, Universal, conjunction, other}
use Rattle.qv_words.specs.Clauses.{nodes}
use Rattle.qv_words.specs.Passes.{IsSimple}
use Rattle.qv_words.specs.Choice.{AreChosen, IsTrueAt, is_in}
use Rattle.qv_words.specs.Skolem.{IsTermOf, SkolemTerm, term_of}
use Rattle.qv_words.specs.Expansion.{ExpansionLine, Instance, Eigen}

-- a maximal run of places of one quantifier
pub record Block : Type 0 where
  pub owner : Quantifier
  pub sorts : List Sort

abbrev pub same_quantifier : Quantifier → Quantifier → Bool
same_quantifier Existential Existential = true
same_quantifier Universal Universal = true
same_quantifier _ _ = false

-- a place before some blocks
abbrev pub with_place : Place → List Block → List Block
with_place p [] = record { owner = p.quantifier; sorts = p.sort ∷ [] } ∷ []
with_place p (b ∷ bs) =
    if same_quantifier p.quantifier b.owner then record { owner = b.owner; sorts = p.sort ∷ b.sorts } ∷ bs
    else record { owner = p.quantifier; sorts = p.sort ∷ [] } ∷ b ∷ bs

abbrev pub blocks_of : List Place → List Block
blocks_of [] = []
blocks_of (p ∷ ps) = with_place p (blocks_of ps)

-- how many places stand in the blocks before block k; the blocks are numbered from 1
abbrev pub places_below : List Block → ℕ → ℕ
places_below blocks k = sum (map (λ b. length b.sorts) (take (k - 1) blocks))

-- block k
abbrev pub block_numbered : List Block → ℕ → Option Block
block_numbered blocks zero = None
block_numbered blocks (suc k) = slice_get blocks k

-- an entry: its winner wins the rest of the game from every point of its region
pub record Entry : Type 0 where
  pub level : ℕ
  pub winner : Quantifier
  pub region : Tree
  pub point : List ℕ
  pub terms : List Tree
  pub links : List ℕ

-- the winner's region behind the last block: the matrix, or its negation
abbrev pub last_region : Problem → Quantifier → Tree
last_region p Existential = p.matrix
last_region p Universal = negation p.matrix

-- the entries of these numbers
abbrev pub entries_named : List Entry → List ℕ → List Entry
entries_named earlier [] = []
entries_named earlier (n ∷ ns) = entry_first (slice_get earlier n) (entries_named earlier ns)
  where
    entry_first : Option Entry → List Entry → List Entry
    entry_first None rest = rest
    entry_first (Some e) rest = e ∷ rest

-- the regions that an entry is linked to
abbrev pub linked_regions : Problem → List Entry → Entry → List Tree
linked_regions p earlier e =
    if e.level == length (blocks_of p.prefix) then last_region p e.winner ∷ []
    else map (λ l. l.region) (entries_named earlier e.links)

-- each link names an earlier entry of the same winner at the next level; at the last level there is
-- none
abbrev pub IsLink : List Entry → Entry → ℕ → Type 0
IsLink earlier e n = IsSomeAnd (slice_get earlier n) (λ l. (l.winner ≡ e.winner) × (l.level ≡ e.level + 1))

pub record AreLinks (p : Problem) (earlier : List Entry) (e : Entry) : Type 0 where
  pub low : 1 ≤ e.level
  pub high : e.level ≤ length (blocks_of p.prefix)
  pub each : All (IsLink earlier e) e.links
  pub last : e.level ≡ length (blocks_of p.prefix) → e.links ≡ []

-- a variable of a region: a place of the blocks before, of its sort
abbrev pub IsPlaceBelow : Problem → ℕ → ℕ × Sort → Type 0
IsPlaceBelow p end leaf = (leaf.0 < end) × IsSomeAnd (slice_get p.prefix leaf.0) (λ place. place.sort ≡ leaf.1)

-- a region over the places of the blocks before, and a point of it
pub record IsRegion (p : Problem) (e : Entry) : Type 0 where
  pub formula : IsTermOf e.region BoolSort
  pub variables : All (IsPlaceBelow p (places_below (blocks_of p.prefix) e.level)) (free_levels e.region)
  pub point : AllZip (λ v place. IsValueOf v place.sort) e.point (take (places_below (blocks_of p.prefix) e.level) p.prefix)
  pub holds : IsTrueAt e.point e.region

-- values for the places of a block
abbrev pub AreValues : List ℕ → List Sort → Type 0
AreValues values sorts = AllZip IsValueOf values sorts

-- the terms of a block, each at its place, the first of which has this number
abbrev pub terms_from : ℕ → List Tree → ℕ → Option Tree
terms_from first terms l = if nat_lt l first then None else slice_get terms (l - first)

-- a region with the terms of the block put in
abbrev pub with_terms : ℕ → List Tree → Tree → Tree
with_terms first terms region = replaced (terms_from first terms) region

-- two formulas have the same value under all values
abbrev pub HaveOneValue : Tree → Tree → Type 0
HaveOneValue a b = (e : ℕ → Option ℕ) → HasValues [] e a → HasValues [] e b → (v : ℕ) → (Means [] e a v → Means [] e b v) × (Means [] e b v → Means [] e a v)

-- the winner owns the block: terms that the choice gives for a later region, from some point of it
pub record IsOwned (p : Problem) (e : Entry) (block : Block) (later : Tree) : Type 0 where
  pub values : List ℕ
  pub of_block : AreValues values block.sorts
  pub leads : IsTrueAt (e.point ++ values) later
  pub chosen : AreChosen (places_below (blocks_of p.prefix) e.level) (places_below (blocks_of p.prefix) e.level + length block.sorts) (e.point ++ values) later (places_below (blocks_of p.prefix) e.level) block.sorts e.terms
  pub same : HaveOneValue e.region (with_terms (places_below (blocks_of p.prefix) e.level) e.terms later)
  pub small : length (nodes (e.region ∷ [])) ≤ length (nodes (with_terms (places_below (blocks_of p.prefix) e.level) e.terms later ∷ []))
  pub simple : IsSimple e.region

-- a run of adjacent bits of a place
pub record Run : Type 0 where
  pub place : ℕ
  pub high : ℕ
  pub low : ℕ

-- the equation that fixes a run of a place's bits to those of a value
abbrev pub fixed_bits : ℕ → Run → Tree → Tree
fixed_bits n r x = binary Equal (Apply (Extract r.high r.low) (Cons x Nil)) (Literal (Bits (r.high - r.low + 1)) (n / 2 ^ r.low % 2 ^ (r.high - r.low + 1)))

abbrev pub fixing : Sort → ℕ → Run → Tree
fixing BoolSort n r = binary Equal (Variable r.place BoolSort) (Literal BoolSort n)
fixing (Bits w) n r = fixed_bits n r (Variable r.place (Bits w))

abbrev pub equation_of : Problem → List ℕ → Run → Tree
equation_of p point r = fixing (unwrap_or (option_map (λ place. place.sort) (slice_get p.prefix r.place)) BoolSort) (unwrap_or (slice_get point r.place) 0) r

-- a run within its place's bits, of a place before the block; two runs have no bit in common
pub record IsRun (p : Problem) (e : Entry) (regions : List Tree) (r : Run) : Type 0 where
  pub below : r.place < places_below (blocks_of p.prefix) e.level
  pub ordered : r.low ≤ r.high
  pub within : IsSomeAnd (slice_get p.prefix r.place) (λ place. r.high < width_of place.sort)
  pub occurs : (t : Tree) × (k : ℕ) × (slice_get regions k ≡ Some t) × (is_in r.place t ≡ true)

abbrev pub AreApart : Run → Run → Type 0
AreApart r s = (r.place ≡ s.place) → (r.high < s.low) ⊎ (s.high < r.low)

-- a region that fixes runs of bits as they are at the entry's point
pub record IsCube (p : Problem) (e : Entry) (regions : List Tree) : Type 0 where
  pub runs : List Run
  pub each : All (IsRun p e regions) runs
  pub apart : AllPairs AreApart runs
  pub region : e.region ≡ conjunction (map (equation_of p e.point) runs)

-- an earlier entry of the other player at the same level
abbrev pub IsRival : List Entry → Entry → ℕ → Type 0
IsRival earlier e n = IsSomeAnd (slice_get earlier n) (λ f. (f.winner ≡ other e.winner) × (f.level ≡ e.level))

-- what lies outside the regions of the entries of these numbers
abbrev pub outside_of : List Entry → List ℕ → Tree
outside_of earlier numbers = conjunction (map (λ f. negation f.region) (entries_named earlier numbers))

-- a region that is what lies outside some regions of the other player at the same level
pub record IsComplement (earlier : List Entry) (e : Entry) : Type 0 where
  pub numbers : List ℕ
  pub some : numbers ≢ []
  pub each : All (IsRival earlier e) numbers
  pub region : e.region ≡ outside_of earlier numbers

-- where the winner doesn't own the block: the region fixes bits of the point or is what lies outside
-- the owner's regions, and from none of its points does any value of the block lead out of all
-- linked regions
pub record IsForced (p : Problem) (earlier : List Entry) (e : Entry) (block : Block) (regions : List Tree) : Type 0 where
  pub no_terms : e.terms ≡ []
  pub form : IsCube p e regions ⊎ IsComplement earlier e
  pub closed : (point values : List ℕ) → AllZip (λ v place. IsValueOf v place.sort) point (take (places_below (blocks_of p.prefix) e.level) p.prefix) → AreValues values block.sorts → IsTrueAt point e.region → (k : ℕ) × IsSomeAnd (slice_get regions k) (λ t. IsTrueAt (point ++ values) t)

-- the one region that an owner's entry is linked to
abbrev pub LinksToOne : List Tree → (Tree → Type 0) → Type 0
LinksToOne (t ∷ []) P = P t
LinksToOne _ P = ⊥

-- an entry by who owns its block
abbrev pub MeetsBlock : Problem → List Entry → Entry → Block → Type 0
MeetsBlock p earlier e block =
    MatchBool (same_quantifier e.winner block.owner)
    (LinksToOne (linked_regions p earlier e) (IsOwned p e block))
    (IsForced p earlier e block (linked_regions p earlier e))

-- an entry that may come behind earlier ones
pub record IsEntry (p : Problem) (earlier : List Entry) (e : Entry) : Type 0 where
  pub links : AreLinks p earlier e
  pub region : IsRegion p e
  pub block : IsSomeAnd (block_numbered (blocks_of p.prefix) e.level) (MeetsBlock p earlier e)

-- each entry may come where it does
abbrev pub AreEntries : Problem → List Entry → List Entry → Type 0
AreEntries p earlier [] = Unit {0}
AreEntries p earlier (e ∷ es) = IsEntry p earlier e × AreEntries p (earlier ++ e ∷ []) es

abbrev pub IsLinked : Problem → List Entry → Type 0
IsLinked p entries = AreEntries p [] entries

-- whether an entry is of this level and winner
abbrev pub is_of : ℕ → Quantifier → Entry → Bool
is_of level winner e = e.level == level && same_quantifier e.winner winner

abbrev pub entries_of : ℕ → Quantifier → List Entry → List Entry
entries_of level winner entries = filter (is_of level winner) entries

-- the winner has an entry at level 1
abbrev pub HoldsFirst : Quantifier → List Entry → Type 0
HoldsFirst winner entries = IsSome (slice_get (entries_of 1 winner entries) 0)

-- the Skolem terms of a place: by the first region of the level that holds, the term of its entry;
-- the last entry's term at the end
abbrev pub term_at : ℕ → Entry → Tree
term_at i e = unwrap_or (slice_get e.terms i) (Literal BoolSort 0)

unfoldable pub chain_of : ℕ → List Entry → Tree
chain_of i [] = Literal BoolSort 0
chain_of i (e ∷ []) = term_at i e
chain_of i (e ∷ f ∷ es) = ite e.region (term_at i e) (chain_of i (f ∷ es))

-- the terms of the places of a block, the first of which has this number, with earlier existential
-- places replaced by their own terms
abbrev pub block_terms : (ℕ → Option Tree) → List Entry → (first i : ℕ) → List Sort → List SkolemTerm
block_terms earlier entries first i [] = []
block_terms earlier entries first i (s ∷ sorts) =
    record { place = first + i; term = replaced earlier (chain_of i entries) } ∷ block_terms earlier entries first (suc i) sorts

-- block by block, from this level on, whose first place has this number
abbrev pub chain_from : List Entry → ℕ → ℕ → List SkolemTerm → List Block → List SkolemTerm
chain_from entries level first done [] = done
chain_from entries level first done (b ∷ bs) =
    if same_quantifier b.owner Existential
    then chain_from entries (suc level) (first + length b.sorts) (done ++ block_terms (term_of done) (entries_of level Existential entries) first 0 b.sorts) bs
    else chain_from entries (suc level) (first + length b.sorts) done bs

-- the Skolem terms that are drawn from a list in which the existential player holds level 1
unfoldable pub chain : Problem → List Entry → List SkolemTerm
chain p entries = chain_from entries 1 0 [] (blocks_of p.prefix)

-- a tree of lines so far: the lines with the numbers of the entries under which the places on the
-- path of each stand; the line below which the next one comes, what stands for the places on the
-- path to it, and the numbers of their entries
pub record Drawn : Type 0 where
  pub lines : List ExpansionLine
  pub numbers : List (List ℕ)
  pub parent : ℕ
  pub path : List Tree
  pub under : List ℕ

-- one more line below the last one, under entry n, and what stands for its place
abbrev pub with_line : ℕ → Drawn → ExpansionLine → Tree → Drawn
with_line n d line t = record {
  lines = d.lines ++ line ∷ [];
  numbers = d.numbers ++ (d.under ++ n ∷ []) ∷ [];
  parent = suc (length d.lines);
  path = d.path ++ t ∷ [];
  under = d.under ++ n ∷ [];
}

-- a line for each place of an existential block, and of a universal one with the entry's terms
abbrev pub with_eigens : ℕ → Drawn → List Sort → Drawn
with_eigens n d [] = d
with_eigens n d (s ∷ sorts) = with_eigens n (with_line n d (Eigen d.parent) (Variable (suc (length d.lines)) s)) sorts

-- a term of an entry with the path put in
abbrev pub on_path : List Tree → Tree → Tree
on_path path t = replaced (slice_get path) t

abbrev pub with_instances : ℕ → Drawn → List Tree → Drawn
with_instances n d [] = d
with_instances n d (t ∷ ts) = with_instances n (with_line n d (Instance d.parent (on_path d.path t)) (on_path d.path t)) ts

-- the part below a line for one entry, depth first; n levels are left at most
abbrev pub below_each : (Drawn → ℕ → Drawn) → Drawn → List ℕ → Drawn
below_each part d [] = d
below_each part d (link ∷ links) =
    let below = part d link in
    below_each part (record { lines = below.lines; numbers = below.numbers; parent = d.parent; path = d.path; under = d.under }) links

abbrev pub with_block : ℕ → Drawn → Entry → Option Block → Drawn
with_block n d e None = d
with_block n d e (Some b) = if same_quantifier b.owner Existential then with_eigens n d b.sorts else with_instances n d e.terms

abbrev pub with_links : (Drawn → ℕ → Drawn) → ℕ → Drawn → Option Entry → List Block → Drawn
with_links part n d None blocks = d
with_links part n d (Some e) blocks = below_each part (with_block n d e (block_numbered blocks e.level)) e.links

unfoldable pub drawn : ℕ → List Block → List Entry → Drawn → ℕ → Drawn
drawn zero blocks entries d n = d
drawn (suc levels) blocks entries d n =
    with_links (λ below link. drawn levels blocks entries below link) n d (slice_get entries n) blocks

-- the number of the first entry of the universal player at level 1
abbrev pub first_universal : ℕ → List Entry → Option ℕ
first_universal n [] = None
first_universal n (e ∷ es) = if is_of 1 Universal e then Some n else first_universal (suc n) es

abbrev pub no_lines : Drawn
no_lines = record { lines = []; numbers = []; parent = 0; path = []; under = [] }

abbrev pub tree_lines : List Block → List Entry → Option ℕ → Drawn
tree_lines blocks entries None = no_lines
tree_lines blocks entries (Some n) = drawn (length blocks) blocks entries no_lines n

-- the lines that are drawn from a list in which the universal player holds level 1, and their paths
unfoldable pub tree_of : Problem → List Entry → List ExpansionLine
tree_of p entries = (tree_lines (blocks_of p.prefix) entries (first_universal 0 entries)).lines

unfoldable pub paths_of : Problem → List Entry → List (List ℕ)
paths_of p entries = (tree_lines (blocks_of p.prefix) entries (first_universal 0 entries)).numbers
