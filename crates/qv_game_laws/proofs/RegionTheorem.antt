-- An entry's winner wins from every point of the entry's region.
use Rattle.std.proofs.Common.{◌≡◌, ℕ, zero, suc, ◌+◌, ◌-◌, inl, inr, Bool, true, false, Some, Option, List, [], ◌∷◌, ◌++◌, map, refl, sym, ap, ◌∙◌, subst, slice_get, drop, length, arith}
use Rattle.std.proofs.lemmas.List.{drop_all}
use Rattle.std.specs.Prelude.{slice_index}
use Rattle.qv_words.specs.Tree.{Tree}
use Rattle.qv_words.specs.Meaning.{Means}
use Rattle.qv_words.specs.Prenex.{negation}
use Rattle.qv_words.specs.Problem.{Problem, Place, Quantifier, Existential, Universal, other}
use Rattle.qv_words.specs.Choice.{IsTrueAt}
use Rattle.qv_words.specs.Linked.{Block, Entry, blocks_of, same_quantifier, last_region, IsLinked}
use Rattle.qv_words.specs.GameLaws.{IsProblem, WinsFrom, winning_value}
use Rattle.qv_game_laws.specs.WinningLaws.{RegionTheorem}
use Rattle.qv_game_laws.proofs.Each.{places_in, flat-blocks, each-entry, same-quantifier}
use Rattle.qv_game_laws.proofs.Points.{below-is, drop-block, IsPoint}
use Rattle.qv_game_laws.proofs.Steps.{before, longer, typed-length, before-last, LeadsTo}
use Rattle.qv_game_laws.proofs.StepLaws.{StepOf, Steps, some-meanings, entry-steps}
use Rattle.qv_game_laws.proofs.WinningBlocks.{ClosedAt, wins-by, wins-against}

pub other-quantifier : (q r : Quantifier) → same_quantifier q r ≡ false → other q ≡ r
other-quantifier Existential Existential h = absurd cc
other-quantifier Universal Universal h = absurd cc
other-quantifier Existential Universal h = refl
other-quantifier Universal Existential h = refl

-- what a negation that is true negates is false, and the other way round
pub negation-false : (e : ℕ → Option ℕ) (t : Tree) → Means [] e (negation t) 1 → Means [] e t 0
negation-false e t m =
    let first : m.3.0 ≡ 0 = zero-of m.3.0 m.3.1 m.3.4 m.4 in
    subst (Means [] e t) first m.3.2
  where
    zero-of : (v : ℕ) (rest : List ℕ) → m.1 ≡ v ∷ rest → 1 ≡ 1 - slice_index m.1 0 → v ≡ 0
    zero-of v rest is value =
        let k : 1 ≡ 1 - v = subst (λ (vs : List ℕ). 1 ≡ 1 - slice_index vs 0) is value in
        omega (arith, k)

pub last-means : (p : Problem) (q : Quantifier) (e : ℕ → Option ℕ) → Means [] e (last_region p q) 1 → Means [] e p.matrix (winning_value q)
last-means p Existential e m = m
last-means p Universal e m = negation-false e p.matrix m

-- from block j on
pub drop-prefix : (p : Problem) (j : ℕ) (b : Block) → slice_get (blocks_of p.prefix) j ≡ Some b → drop (before p j) p.prefix ≡ places_in b ++ drop (before p (suc j)) p.prefix
drop-prefix p j b at = subst (λ (ps : List Place). drop (before p j) ps ≡ places_in b ++ drop (before p (suc j)) ps) (flat-blocks p.prefix) (drop-block (blocks_of p.prefix) j b at)

-- a win, at another place and rest that are equal
win-at : (p : Problem) (q : Quantifier) (point : List ℕ) (n : ℕ) (rest : List Place) → length point ≡ n → drop n p.prefix ≡ rest → ClosedAt point rest p.matrix (winning_value q) → WinsFrom p q point
win-at p q point n rest size is h =
    subst (λ (ps : List Place). ClosedAt point ps p.matrix (winning_value q)) (sym (ap (λ k. drop k p.prefix) size ∙ is)) h

at-win : (p : Problem) (q : Quantifier) (point : List ℕ) (n : ℕ) → length point ≡ n → WinsFrom p q point → ClosedAt point (drop n p.prefix) p.matrix (winning_value q)
at-win p q point n size h = subst (λ (k : ℕ). ClosedAt point (drop k p.prefix) p.matrix (winning_value q)) size h

-- at the end there are no more places
wins-last : (p : Problem) (q : Quantifier) (j : ℕ) (point : List ℕ) → suc j ≡ length (blocks_of p.prefix) → IsPoint p.prefix (before p (suc j)) point → IsTrueAt point (last_region p q) → WinsFrom p q point
wins-last p q j point last typed holds =
    let whole : before p (suc j) ≡ length p.prefix = ap (before p) last ∙ before-last p in
    win-at p q point (before p (suc j)) [] (typed-length p (suc j) point typed) (drop_all (before p (suc j)) p.prefix (omega (arith, whole))) (last-means p q (slice_get point) holds)

-- the later region wins for the entry's winner
abbrev WinsLater : Problem → List Entry → Entry → ℕ → Type 0
WinsLater p entries e j = (t : Tree) (longer : List ℕ) → LeadsTo p entries e t → IsPoint p.prefix (before p (suc j)) longer → IsTrueAt longer t → WinsFrom p e.winner longer

by-step : (p : Problem) (entries : List Entry) (e : Entry) (j : ℕ) (point : List ℕ) → e.level ≡ suc j → IsPoint p.prefix (before p j) point → IsTrueAt point e.region → Steps p entries e → WinsLater p entries e j → WinsFrom p e.winner point
by-step p entries e j point level typed holds steps rest = go (same_quantifier e.winner steps.block.owner) refl (subst (λ (i : ℕ). StepOf p entries e steps.block i (same_quantifier e.winner steps.block.owner)) index steps.step)
  where
    index : steps.index ≡ j
    index = let k = steps.level in omega (arith, k, level)

    at : slice_get (blocks_of p.prefix) j ≡ Some steps.block
    at = ap (slice_get (blocks_of p.prefix)) (sym index) ∙ steps.at

    go : (k : Bool) → same_quantifier e.winner steps.block.owner ≡ k → StepOf p entries e steps.block j k → WinsFrom p e.winner point
    go true is law =
        let values = some-meanings p (before p j) point e.terms steps.block.sorts typed law.terms in
        let more = longer p j steps.block point values.0 at typed values.1 in
        let win = at-win p e.winner (point ++ values.0) (before p (suc j)) (typed-length p (suc j) (point ++ values.0) more) (rest law.later (point ++ values.0) law.leads more (law.law point values.0 typed holds values.2)) in
        win-at p e.winner point (before p j) (places_in steps.block ++ drop (before p (suc j)) p.prefix) (typed-length p j point typed) (drop-prefix p j steps.block at)
        (subst (λ (q : Quantifier). ClosedAt point (map (λ s. record { quantifier = q; sort = s }) steps.block.sorts ++ drop (before p (suc j)) p.prefix) p.matrix (winning_value e.winner)) (same-quantifier e.winner steps.block.owner is)
        (wins-by e.winner steps.block.sorts values.0 point (drop (before p (suc j)) p.prefix) p.matrix values.1 win))
    go false is law =
        win-at p e.winner point (before p j) (places_in steps.block ++ drop (before p (suc j)) p.prefix) (typed-length p j point typed) (drop-prefix p j steps.block at)
        (subst (λ (q : Quantifier). ClosedAt point (map (λ s. record { quantifier = q; sort = s }) steps.block.sorts ++ drop (before p (suc j)) p.prefix) p.matrix (winning_value e.winner)) (other-quantifier e.winner steps.block.owner is)
        (wins-against e.winner steps.block.sorts point (drop (before p (suc j)) p.prefix) p.matrix (λ values each.
        let more = longer p j steps.block point values at typed each in
        let out = law.law point values typed each holds in
        at-win p e.winner (point ++ values) (before p (suc j)) (typed-length p (suc j) (point ++ values) more) (rest out.0 (point ++ values) out.1 more out.2))))

-- with d levels behind an entry's level
wins : (p : Problem) (entries : List Entry) → IsProblem p → IsLinked p entries → (d n : ℕ) (e : Entry) (j : ℕ) (point : List ℕ) → d + suc j ≡ length (blocks_of p.prefix) → slice_get entries n ≡ Some e → e.level ≡ suc j → IsPoint p.prefix (before p j) point → IsTrueAt point e.region → WinsFrom p e.winner point
wins p entries hp linked zero n e j point left here level typed holds = by-step p entries e j point level typed holds (entry-steps p entries n e hp linked here) later
  where
    later : WinsLater p entries e j
    later t longer (inl end) typed holds = wins-last p e.winner j longer (sym level ∙ end.at) typed (subst (IsTrueAt longer) end.is holds)
    later t longer (inr to) typed holds =
        let high = (each-entry p entries to.number to.entry linked to.at).links.high in
        let next = to.level in
        absurd (omega (arith, high, next, level, left))
wins p entries hp linked (suc d) n e j point left here level typed holds =
    by-step p entries e j point level typed holds (entry-steps p entries n e hp linked here) (later (λ m f q next at is. wins p entries hp linked d m f (suc j) q next at is))
  where
    later : ((m : ℕ) (f : Entry) (q : List ℕ) → d + suc (suc j) ≡ length (blocks_of p.prefix) → slice_get entries m ≡ Some f → f.level ≡ suc (suc j) → IsPoint p.prefix (before p (suc j)) q → IsTrueAt q f.region → WinsFrom p f.winner q) → WinsLater p entries e j
    later next t longer (inl end) typed holds = wins-last p e.winner j longer (sym level ∙ end.at) typed (subst (IsTrueAt longer) end.is holds)
    later next t longer (inr to) typed holds =
        let step = to.level in
        subst (λ (q : Quantifier). WinsFrom p q longer) to.winner (next to.number to.entry longer (omega (arith, left)) to.at (omega (arith, step, level)) typed (subst (IsTrueAt longer) to.is holds))

pub region-theorem : RegionTheorem
region-theorem p entries n e point hp linked here typed holds =
    let steps = entry-steps p entries n e hp linked here in
    let level : e.level ≡ suc steps.index = steps.level in
    let entry = each-entry p entries n e linked here in
    let high = entry.links.high in
    let first = below-is (blocks_of p.prefix) e.level steps.index level in
    wins p entries hp linked (length (blocks_of p.prefix) - suc steps.index) n e steps.index point (omega (arith, high, level)) here level (subst (λ (k : ℕ). IsPoint p.prefix k point) first typed) holds
