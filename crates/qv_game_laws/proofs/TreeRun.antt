-- The lines that are drawn below an entry: where its region is true, some leaf among them fails.
use Rattle.std.proofs.Common.{◌≡◌, ℕ, zero, suc, ◌+◌, inl, inr, Bool, true, false, cond, Some, Option, List, [], ◌∷◌, ◌++◌, refl, sym, ap, ◌∙◌, subst, slice_get, take, length, arith}
use Rattle.std.specs.Prelude.{IsSomeAnd}
use Rattle.std.specs.List.{AllByRecursion}
use Rattle.std.proofs.lemmas.List.Elements.{recursion_from_All}
use Rattle.qv_words.specs.declared.sort.Sort.TheVariants.{Bool as BoolSort}
use Rattle.qv_words.specs.Tree.{Tree}
use Rattle.qv_words.specs.Meaning.{Means}
use Rattle.qv_words.specs.Replacement.{replaced}
use Rattle.qv_words.specs.Problem.{Problem, Quantifier, Existential, Universal}
use Rattle.qv_words.specs.Choice.{IsTrueAt}
use Rattle.qv_words.specs.Expansion.{Grown, line_numbered, AreLines}
use Rattle.qv_words.specs.Linked.{Block, Entry, Drawn, blocks_of, block_numbered, same_quantifier, last_region, IsLink, with_eigens, with_instances, with_block, below_each, with_links, drawn, IsLinked}
use Rattle.qv_words.specs.GameLaws.{IsProblem}
use Rattle.qv_game_laws.proofs.Terms.{IsOver, IsOf, over-more, put-of, put-means}
use Rattle.qv_game_laws.proofs.Each.{each-entry, same-quantifier}
use Rattle.qv_game_laws.proofs.Points.{IsPoint, below-next}
use Rattle.qv_game_laws.proofs.Steps.{before, Before, LeadsTo, IsIn, place-at, before-last, matrix-of}
use Rattle.qv_game_laws.proofs.StepLaws.{some-meanings, owner-at, forced-at, entry-steps}
use Rattle.qv_game_laws.proofs.RegionTheorem.{last-means}
use Rattle.qv_game_laws.proofs.ExpansionLines.{known, Extends, extends-itself, extends-on, numbered-on, Eigens, eigens-on, path-on, IsDrawing, AreEigenValues, values-before, AtPath, path-typed, puts-path, takes-path}
use Rattle.qv_game_laws.proofs.TreeBlocks.{ArePlaces, eigens, instances}
use Rattle.qv_words.proofs.Elements.{zip-length, some-and, get-taken}

-- a later region that holds at the end of a longer path
pub record IsLed (p : Problem) (entries : List Entry) (e : Entry) (w : ℕ → Option ℕ) (path : List Tree) : Type 0 where
  pub later : Tree
  pub longer : List ℕ
  pub leads : LeadsTo p entries e later
  pub at : AtPath w path longer
  pub holds : IsTrueAt longer later

-- the lines of an entry's block
pub record IsStepBlock (p : Problem) (entries : List Entry) (e : Entry) (d more : Drawn) (j : ℕ) : Type 0 where
  pub drawing : IsDrawing p more
  pub extends : Extends (known p d.lines) (known p more.lines)
  pub size : length more.path ≡ before p (suc j)
  pub led : (w : ℕ → Option ℕ) (point : List ℕ) → AreEigenValues (known p more.lines) w → AtPath w d.path point → IsTrueAt point e.region → IsLed p entries e w more.path

block-places : (p : Problem) (j : ℕ) (b : Block) (q : Quantifier) (d : Drawn) → slice_get (blocks_of p.prefix) j ≡ Some b → b.owner ≡ q → length d.path ≡ before p j → ArePlaces p q (length d.path) b.sorts
block-places p j b q d at owner size k i s e sort =
    ap (slice_get p.prefix) (let whole : i ≡ before p j + k = omega (arith, e, size) in whole) ∙ place-at p j b k s at sort
    ∙ ap (λ r. Some (record { quantifier = r; sort = s })) owner

step-block : (p : Problem) (entries : List Entry) (n : ℕ) (e : Entry) (j : ℕ) (b : Block) (k : ℕ) (d : Drawn) → IsProblem p → IsLinked p entries → slice_get entries n ≡ Some e → e.level ≡ suc j → e.winner ≡ Universal → slice_get (blocks_of p.prefix) j ≡ Some b → IsDrawing p d → length d.path ≡ before p j → IsStepBlock p entries e d (with_block k d e (Some b)) j
step-block p entries n e j b k d hp linked here level winner at drawing size = go (same_quantifier b.owner Existential) refl
  where
    next : before p (suc j) ≡ before p j + length b.sorts
    next = below-next (blocks_of p.prefix) j b at

    other-owner : (q : Quantifier) → same_quantifier q Existential ≡ false → q ≡ Universal
    other-owner Existential e = absurd cc
    other-owner Universal e = refl

    typed : (w : ℕ → Option ℕ) (point : List ℕ) → AreEigenValues (known p d.lines) w → AtPath w d.path point → IsPoint p.prefix (before p j) point
    typed w point values path = subst (λ (m : ℕ). IsPoint p.prefix m point) size (path-typed p (known p d.lines) w d.path point values drawing.path path)

    go : (own : Bool) → same_quantifier b.owner Existential ≡ own → IsStepBlock p entries e d (cond own (with_eigens k d b.sorts) (with_instances k d e.terms)) j
    go true is =
        let owner = same-quantifier b.owner Existential is in
        let lines = eigens p k b.sorts d hp (block-places p j b Existential d at owner size) drawing in
        let forced = forced-at p entries n e j b Universal hp linked here level at winner owner in
        let more = lines.size in
        record {
          drawing = lines.drawing;
          extends = lines.extends;
          size = omega (arith, more, next, size);
          led = λ w point values path holds.
              let chosen = lines.means w point values path in
              let out = forced.law point chosen.0 (typed w point (values-before (known p d.lines) (known p (with_eigens k d b.sorts).lines) w lines.extends values) path) chosen.1 holds in
              record { later = out.0; longer = point ++ chosen.0; leads = out.1; at = chosen.2; holds = out.2 };
        }
    go false is =
        let owner = other-owner b.owner is in
        let owned = owner-at p entries n e j b Universal hp linked here level at winner owner in
        let lines = instances p k (before p j) e.terms b.sorts d (omega (arith, size)) owned.terms (block-places p j b Universal d at owner size) drawing in
        let more = lines.size in
        let count = zip-length (λ t s. IsOf (Before p (before p j)) s t) e.terms b.sorts owned.terms in
        record {
          drawing = lines.drawing;
          extends = lines.extends;
          size = omega (arith, more, next, size, count);
          led = λ w point values path holds.
              let point-typed = typed w point (values-before (known p d.lines) (known p (with_instances k d e.terms).lines) w lines.extends values) path in
              let chosen = some-meanings p (before p j) point e.terms b.sorts point-typed owned.terms in
              record { later = owned.later; longer = point ++ chosen.0; leads = owned.leads; at = lines.means w point chosen.0 values path chosen.2; holds = owned.law point chosen.0 point-typed holds chosen.2 };
        }

-- a leaf at which the matrix is false
pub record Fails (p : Problem) (w : ℕ → Option ℕ) (G : List Grown) : Type 0 where
  pub number : ℕ
  pub line : Grown
  pub here : line_numbered G number ≡ Some line
  pub whole : length line.path ≡ length p.prefix
  pub over : IsOver (Eigens G) (replaced (slice_get line.path) p.matrix)
  pub means : Means [] w (replaced (slice_get line.path) p.matrix) 0

fails-on : (p : Problem) (w : ℕ → Option ℕ) (G H : List Grown) → Extends G H → Fails p w G → Fails p w H
fails-on p w G H ext h = record {
  number = h.number;
  line = h.line;
  here = numbered-on G H h.number h.line ext h.here;
  whole = h.whole;
  over = over-more (Eigens G) (Eigens H) (eigens-on G H ext) (replaced (slice_get h.line.path) p.matrix) h.over;
  means = h.means;
}

-- the path has all places, and the negated matrix holds at its end
fails-at : (p : Problem) (w : ℕ → Option ℕ) (d : Drawn) (point : List ℕ) → IsProblem p → IsDrawing p d → length d.path ≡ length p.prefix → AtPath w d.path point → IsTrueAt point (last_region p Universal) → Fails p w (known p d.lines)
fails-at p w d point hp drawing size at holds =
    let there = some-and (line_numbered (known p d.lines) d.parent) (λ g. g.path ≡ d.path) drawing.parent in
    let matrix = matrix-of p hp in
    let put = put-of (Before p (length p.prefix)) (Eigens (known p d.lines)) (slice_get d.path) BoolSort p.matrix (puts-path p (known p d.lines) d.path (length p.prefix) drawing.path (omega (arith, size))) matrix in
    let none = put-means (Before p (length p.prefix)) (slice_get d.path) w (slice_get point) p.matrix 0 matrix.0 (takes-path p (known p d.lines) w d.path point (length p.prefix) drawing.path at (omega (arith, size))) (last-means p Universal (slice_get point) holds) in
    record {
      number = d.parent;
      line = there.0;
      here = there.1;
      whole = ap length there.2 ∙ size;
      over = subst (λ (path : List Tree). IsOver (Eigens (known p d.lines)) (replaced (slice_get path) p.matrix)) (sym there.2) put.0;
      means = subst (λ (path : List Tree). Means [] w (replaced (slice_get path) p.matrix) 0) (sym there.2) none;
    }

-- the entry of a number has a region that is true at the point
abbrev pub IsTrueIn : List Entry → ℕ → List ℕ → Type 0
IsTrueIn entries m point = IsSomeAnd (slice_get entries m) (λ l. IsTrueAt point l.region)

-- the part below a line for one entry, and for the entries that it is linked to
pub record IsPart (p : Problem) (entries : List Entry) (d more : Drawn) (m : ℕ) : Type 0 where
  pub lines : AreLines p [] more.lines
  pub extends : Extends (known p d.lines) (known p more.lines)
  pub fails : (w : ℕ → Option ℕ) (point : List ℕ) → AreEigenValues (known p more.lines) w → AtPath w d.path point → IsTrueIn entries m point → Fails p w (known p more.lines)

pub record AreParts (p : Problem) (entries : List Entry) (d more : Drawn) (links : List ℕ) : Type 0 where
  pub lines : AreLines p [] more.lines
  pub extends : Extends (known p d.lines) (known p more.lines)
  pub fails : (m : ℕ) → IsIn m links → (w : ℕ → Option ℕ) (point : List ℕ) → AreEigenValues (known p more.lines) w → AtPath w d.path point → IsTrueIn entries m point → Fails p w (known p more.lines)

each-part : (p : Problem) (entries : List Entry) (part : Drawn → ℕ → Drawn) (d : Drawn) (links : List ℕ) → IsDrawing p d → ((m : ℕ) → IsIn m links → (c : Drawn) → IsDrawing p c → c.path ≡ d.path → IsPart p entries c (part c m) m) → AreParts p entries d (below_each part d links) links
each-part p entries part d [] drawing each = record { lines = drawing.lines; extends = extends-itself (known p d.lines); fails = λ m is. absurd is }
each-part p entries part d (link ∷ links) drawing each =
    let first = each link (inl refl) d drawing refl in
    let below : Drawn = part d link in
    let back : Drawn = record { lines = below.lines; numbers = below.numbers; parent = d.parent; path = d.path; under = d.under } in
    let there = some-and (line_numbered (known p d.lines) d.parent) (λ g. g.path ≡ d.path) drawing.parent in
    let again : IsDrawing p back = record {
      lines = first.lines;
      parent = subst (λ (o : Option Grown). IsSomeAnd o (λ g. g.path ≡ d.path)) (sym (numbered-on (known p d.lines) (known p below.lines) d.parent there.0 first.extends there.1)) there.2;
      path = path-on p (known p d.lines) (known p below.lines) d.path first.extends drawing.path;
    } in
    let rest = each-part p entries part back links again (λ m is c h same. each m (inr is) c h same) in
    join (part d link) first (below_each part back links) rest
  where
    join : (below : Drawn) → IsPart p entries d below link → (more : Drawn) → AreParts p entries (record { lines = below.lines; numbers = below.numbers; parent = d.parent; path = d.path; under = d.under }) more links → AreParts p entries d more (link ∷ links)
    join below first more rest = record {
      lines = rest.lines;
      extends = extends-on (known p d.lines) (known p below.lines) (known p more.lines) first.extends rest.extends;
      fails = λ m is w point values at holds. go m is w point values at holds;
    }
      where
        go : (m : ℕ) → IsIn m (link ∷ links) → (w : ℕ → Option ℕ) (point : List ℕ) → AreEigenValues (known p more.lines) w → AtPath w d.path point → IsTrueIn entries m point → Fails p w (known p more.lines)
        go m (inl same) w point values at holds =
            fails-on p w (known p below.lines) (known p more.lines) rest.extends
            (first.fails w point (values-before (known p below.lines) (known p more.lines) w rest.extends values) at (subst (λ (i : ℕ). IsTrueIn entries i point) same holds))
        go m (inr is) w point values at holds = rest.fails m is w point values at holds

-- a link that is an element
link-at : (P : ℕ → Type 0) (links : List ℕ) (m : ℕ) → AllByRecursion P links → IsIn m links → P m
link-at P [] m h is = absurd is
link-at P (l ∷ links) m h (inl same) = subst P (sym same) h.0
link-at P (l ∷ links) m h (inr is) = link-at P links m h.1 is

-- an entry's lines
entry-part : (p : Problem) (entries : List Entry) (n : ℕ) (e : Entry) (j : ℕ) (part : Drawn → ℕ → Drawn) (d more : Drawn) → IsProblem p → e.level ≡ suc j → e.winner ≡ Universal → slice_get entries n ≡ Some e → IsStepBlock p entries e d more j → AreParts p entries more (below_each part more e.links) e.links → IsPart p entries d (below_each part more e.links) n
entry-part p entries n e j part d more hp level winner here block parts = record {
  lines = parts.lines;
  extends = extends-on (known p d.lines) (known p more.lines) (known p (below_each part more e.links).lines) block.extends parts.extends;
  fails = λ w point values at holds. go (below_each part more e.links) parts w point values at holds;
}
  where
    go : (last : Drawn) → AreParts p entries more last e.links → (w : ℕ → Option ℕ) (point : List ℕ) → AreEigenValues (known p last.lines) w → AtPath w d.path point → IsTrueIn entries n point → Fails p w (known p last.lines)
    go last parts w point values at holds =
        by-led (block.led w point (values-before (known p more.lines) (known p last.lines) w parts.extends values) at (subst (λ (o : Option Entry). IsSomeAnd o (λ l. IsTrueAt point l.region)) here holds))
      where
        by-lead : (later : Tree) (longer : List ℕ) → LeadsTo p entries e later → AtPath w more.path longer → IsTrueAt longer later → Fails p w (known p last.lines)
        by-lead later longer (inl end) path holds =
            let last-level : suc j ≡ length (blocks_of p.prefix) = sym level ∙ end.at in
            let size : length more.path ≡ length p.prefix = block.size ∙ ap (before p) last-level ∙ before-last p in
            let region : IsTrueAt longer (last_region p Universal) = subst (λ (q : Quantifier). IsTrueAt longer (last_region p q)) winner (subst (IsTrueAt longer) end.is holds) in
            fails-on p w (known p more.lines) (known p last.lines) parts.extends (fails-at p w more longer hp block.drawing size path region)
        by-lead later longer (inr to) path holds =
            parts.fails to.number to.link w longer values path (subst (λ (o : Option Entry). IsSomeAnd o (λ l. IsTrueAt longer l.region)) (sym to.at) (subst (IsTrueAt longer) to.is holds))

        by-led : IsLed p entries e w more.path → Fails p w (known p last.lines)
        by-led led = by-lead led.later led.longer led.leads led.at led.holds

-- with so many levels from block j on
pub parts : (p : Problem) (entries : List Entry) → IsProblem p → IsLinked p entries → (levels : ℕ) (d : Drawn) (n : ℕ) (e : Entry) (j : ℕ) → levels + j ≡ length (blocks_of p.prefix) → slice_get entries n ≡ Some e → e.level ≡ suc j → e.winner ≡ Universal → IsDrawing p d → length d.path ≡ before p j → IsPart p entries d (drawn levels (blocks_of p.prefix) entries d n) n
unfolding drawn
parts p entries hp linked zero d n e j left here level winner drawing size =
    let high = (each-entry p entries n e linked here).links.high in
    absurd (omega (arith, high, level, left))
parts p entries hp linked (suc levels) d n e j left here level winner drawing size =
    let steps = entry-steps p entries n e hp linked here in
    let index : steps.index ≡ j = let k = steps.level in omega (arith, k, level) in
    let at : slice_get (blocks_of p.prefix) j ≡ Some steps.block = ap (slice_get (blocks_of p.prefix)) (sym index) ∙ steps.at in
    let numbered : block_numbered (blocks_of p.prefix) e.level ≡ Some steps.block = ap (block_numbered (blocks_of p.prefix)) level ∙ at in
    let block = step-block p entries n e j steps.block n d hp linked here level winner at drawing size in
    let part : Drawn → ℕ → Drawn = λ below link. drawn levels (blocks_of p.prefix) entries below link in
    let links = recursion_from_All (IsLink (take n entries) e) e.links (each-entry p entries n e linked here).links.each in
    let each = each-part p entries part (with_block n d e (Some steps.block)) e.links block.drawing (λ m is c h same.
    let link = some-and (slice_get (take n entries) m) (λ l. (l.winner ≡ e.winner) × (l.level ≡ e.level + 1)) (link-at (IsLink (take n entries) e) e.links m links is) in
    let step = link.2.1 in
    parts p entries hp linked levels c m link.0 (suc j) (omega (arith, left)) (get-taken entries n m link.0 link.1) (omega (arith, step, level)) (link.2.0 ∙ winner) h (ap length same ∙ block.size)) in
    subst (λ (o : Option Entry). IsPart p entries d (with_links part n d o (blocks_of p.prefix)) n) (sym here)
    (subst (λ (o : Option Block). IsPart p entries d (below_each part (with_block n d e o) e.links) n) (sym numbered)
    (entry-part p entries n e j part d (with_block n d e (Some steps.block)) hp level winner here block each))
