-- The chain's terms win: a point whose existential places have their meanings goes through true regions to the matrix.
use Rattle.std.proofs.Common.{◌≡◌, ℕ, zero, suc, ◌+◌, ◌<◌, ◌≤◌, ◌⊎◌, inl, inr, Bool, true, false, cond, Some, None, Option, List, [], ◌∷◌, ◌++◌, refl, sym, ap, ◌∙◌, subst, slice_get, drop, length, arith}
use Rattle.std.specs.Prelude.{IsSomeAnd, MatchOption, unwrap_or}
use Rattle.std.specs.List.{AllByRecursion, AllZip}
use Rattle.std.proofs.lemmas.Bool.{cases_lt}
use Rattle.std.proofs.lemmas.Option.{slice_get_past, same_Some, slice_get_within}
use Rattle.qv_words.specs.declared.sort.Sort.{Sort}
use Rattle.qv_words.specs.declared.sort.Sort.TheVariants.{Bool as BoolSort}
use Rattle.qv_words.specs.Sort.{IsValueOf}
use Rattle.qv_words.specs.Tree.{Tree, Literal, tree_sort}
use Rattle.qv_words.specs.Meaning.{Means}
use Rattle.qv_words.specs.Replacement.{replaced}
use Rattle.qv_words.specs.Problem.{Problem, Place, Quantifier, Existential, Universal}
use Rattle.qv_words.specs.Choice.{IsTrueAt}
use Rattle.qv_words.specs.Skolem.{SkolemTerm, term_of}
use Rattle.qv_words.specs.Linked.{Block, Entry, blocks_of, same_quantifier, last_region, entries_of, term_at, chain_of, block_terms, chain_from, IsLinked}
use Rattle.qv_words.specs.GameLaws.{IsProblem}
use Rattle.qv_game_laws.proofs.Terms.{IsOf, Takes, put-of, put-means}
use Rattle.qv_game_laws.proofs.Each.{each-entry, same-quantifier}
use Rattle.qv_game_laws.proofs.Points.{IsPoint, below-next}
use Rattle.qv_game_laws.proofs.Steps.{before, Before, LeadsTo, longer, typed-length, place-at, covered, covered-sort}
use Rattle.qv_game_laws.proofs.StepLaws.{Meanings, some-meanings, forced-at}
use Rattle.qv_game_laws.proofs.ChainTerms.{IsAmong, among-kept, numbered, IsStage, stages, Leads, chain-is, leading}
use Rattle.qv_game_laws.proofs.ChainSections.{Universals, IsDrawn, AreSections, term-behind, term-before, append-some, append-none, puts-sections, new-at, new-bounds, sections-more}
use Rattle.qv_words.proofs.Elements.{get-behind, get-before, zip-at, all-weaker, dropped-first, dropped-all}

-- before a block the point is in an entry's region, and at the end the player's last region holds
pub record IsInEntry (p : Problem) (entries : List Entry) (q : Quantifier) (j : ℕ) (point : List ℕ) : Type 0 where
  pub number : ℕ
  pub entry : Entry
  pub here : slice_get entries number ≡ Some entry
  pub winner : entry.winner ≡ q
  pub level : entry.level ≡ suc j
  pub holds : IsTrueAt point entry.region

abbrev pub Stands : Problem → List Entry → Quantifier → ℕ → List ℕ → Type 0
Stands p entries q j point = IsInEntry p entries q j point ⊎ ((j ≡ length (blocks_of p.prefix)) × IsTrueAt point (last_region p q))

pub next-stands : (p : Problem) (entries : List Entry) (e : Entry) (q : Quantifier) (j : ℕ) (t : Tree) (point : List ℕ) → e.level ≡ suc j → e.winner ≡ q → LeadsTo p entries e t → IsTrueAt point t → Stands p entries q (suc j) point
next-stands p entries e q j t point level winner (inl end) holds = inr (sym level ∙ end.at, subst (λ (r : Quantifier). IsTrueAt point (last_region p r)) winner (subst (IsTrueAt point) end.is holds))
next-stands p entries e q j t point level winner (inr to) holds =
    let step = to.level in
    inl (record { number = to.number; entry = to.entry; here = to.at; winner = to.winner ∙ winner; level = omega (arith, step, level); holds = subst (IsTrueAt point) to.is holds })

-- values for all places, and the play under them through the first j blocks
abbrev pub AreValuesOf : Problem → (ℕ → Option ℕ) → Type 0
AreValuesOf p w = (l : ℕ) (s : Sort) → Before p (length p.prefix) l s → IsSomeAnd (w l) (λ v. IsValueOf v s)

pub record Played (p : Problem) (entries : List Entry) (w : ℕ → Option ℕ) (j : ℕ) (ts : List SkolemTerm) : Type 0 where
  pub sections : AreSections p (before p j) ts
  pub point : List ℕ
  pub typed : IsPoint p.prefix (before p j) point
  pub agrees : (l : ℕ) (s : Sort) → Before p (before p j) l s → Takes (term_of ts) w (slice_get point) l s
  pub stands : Stands p entries Existential j point

-- what a map takes at a variable
abbrev TakesAs : (ℕ → Option ℕ) → ℕ → Sort → Option Tree → Option ℕ → Type 0
TakesAs w l s o x = MatchOption o (x ≡ w l) (λ put. (tree_sort put ≡ Some s) × IsSomeAnd x (λ v. Means [] w put v))

takes-as : (w : ℕ → Option ℕ) (l : ℕ) (s : Sort) (o q : Option Tree) (x y : Option ℕ) → o ≡ q → x ≡ y → TakesAs w l s q y → TakesAs w l s o x
takes-as w l s o q x y e f h = subst (λ (r : Option Tree). TakesAs w l s r x) (sym e) (subst (TakesAs w l s q) (sym f) h)

-- the values of a universal block
values-from : (w : ℕ → Option ℕ) (x : ℕ) (sorts : List Sort) → ((k m : ℕ) (s : Sort) → m ≡ x + k → slice_get sorts k ≡ Some s → IsSomeAnd (w m) (λ v. IsValueOf v s)) → (values : List ℕ) × AllZip IsValueOf values sorts × ((k m : ℕ) (s : Sort) → m ≡ x + k → slice_get sorts k ≡ Some s → slice_get values k ≡ w m)
values-from w x [] h = ([], tt, λ k m s e at. absurd cc)
values-from w x (s ∷ sorts) h =
    let first = some-value (w x) s (h 0 x s (omega arith) refl) in
    let others = values-from w (suc x) sorts (λ k m q e at. h (suc k) m q (omega (arith, e)) at) in
    (first.0 ∷ others.0, (first.2, others.1), index first.0 first.1 others.0 others.2)
  where
    some-value : (o : Option ℕ) (s : Sort) → IsSomeAnd o (λ v. IsValueOf v s) → (v : ℕ) × (o ≡ Some v) × IsValueOf v s
    some-value None s k = absurd k
    some-value (Some v) s k = (v, refl, k)

    index : (v : ℕ) → w x ≡ Some v → (vs : List ℕ) → ((k m : ℕ) (q : Sort) → m ≡ suc x + k → slice_get sorts k ≡ Some q → slice_get vs k ≡ w m) → (k m : ℕ) (q : Sort) → m ≡ x + k → slice_get (s ∷ sorts) k ≡ Some q → slice_get (v ∷ vs) k ≡ w m
    index v is vs rest zero m q e at = let same : x ≡ m = omega (arith, e) in sym is ∙ ap w same
    index v is vs rest (suc k) m q e at = rest k m q (omega (arith, e)) at

within-prefix : (p : Problem) (l : ℕ) (place : Place) → slice_get p.prefix l ≡ Some place → Before p (length p.prefix) l place.sort
within-prefix p l place at = (slice_get_within p.prefix l place at, subst (λ (o : Option Place). IsSomeAnd o (λ q. q.sort ≡ place.sort)) (sym at) refl)

-- a universal block
universal-step : (p : Problem) (entries : List Entry) (w : ℕ → Option ℕ) (j : ℕ) (b : Block) (ts : List SkolemTerm) → IsProblem p → IsLinked p entries → AreValuesOf p w → slice_get (blocks_of p.prefix) j ≡ Some b → b.owner ≡ Universal → (h : Played p entries w j ts) → IsInEntry p entries Existential j h.point → Played p entries w (suc j) ts
universal-step p entries w j b ts hp linked values at owner h x =
    let next = below-next (blocks_of p.prefix) j b at in
    let forced = forced-at p entries x.number x.entry j b Existential hp linked x.here x.level at x.winner owner in
    let chosen = values-from w (before p j) b.sorts (λ k m s e sort. values m s (within-prefix p m (record { quantifier = b.owner; sort = s }) (ap (slice_get p.prefix) e ∙ place-at p j b k s at sort))) in
    let out = forced.law h.point chosen.0 h.typed chosen.1 x.holds in
    let size = typed-length p j h.point h.typed in
    record {
      sections = record {
        each = h.sections.each;
        low = all-weaker (λ s. s.place < before p j) (λ s. s.place < before p (suc j)) ts (λ s k. omega (arith, k, next)) h.sections.low;
        spread = h.sections.spread;
        all = λ l place here less existential. elim (cases_lt l (before p j)) [
          | inl low ↦ h.sections.all l place here low existential
          | inr high ↦ absurd (universal l place here high less existential)
        ];
      };
      point = h.point ++ chosen.0;
      typed = longer p j b h.point chosen.0 at h.typed chosen.1;
      agrees = λ l s k. elim (cases_lt l (before p j)) [
        | inl low ↦ takes-as w l s (term_of ts l) (term_of ts l) (slice_get (h.point ++ chosen.0) l) (slice_get h.point l) refl (get-before h.point chosen.0 l (omega (arith, low, size))) (h.agrees l s (low, k.1))
        | inr high ↦ (
            let c = covered p j b at l high k.0 in
            let level = c.2 in
            takes-as w l s (term_of ts l) None (slice_get (h.point ++ chosen.0) l) (slice_get chosen.0 c.0) (term-behind ts (before p j) l h.sections.low high) (get-behind h.point chosen.0 c.0 l (omega (arith, level, size))) (chosen.2 c.0 l c.1 level c.3)
            )
      ];
      stands = next-stands p entries x.entry Existential j out.0 (h.point ++ chosen.0) x.level x.winner out.1 out.2;
    }
  where
    universal : (l : ℕ) (place : Place) → slice_get p.prefix l ≡ Some place → before p j ≤ l → l < before p (suc j) → place.quantifier ≡ Existential → ⊥
    universal l place here high less existential =
        let c = covered p j b at l high less in
        let same : record { quantifier = b.owner; sort = c.1 } ≡ place = same_Some _ _ (sym (place-at p j b c.0 c.1 at c.3) ∙ ap (slice_get p.prefix) (sym c.2) ∙ here) in
        never (sym owner ∙ ap (λ (q : Place). q.quantifier) same ∙ existential)
      where
        never : Universal ≡ Existential → ⊥
        never e = cc

-- an existential block: the chain of each of its places
chain-among : (p : Problem) (entries : List Entry) (j : ℕ) (b : Block) (e : Entry) (fs : List Entry) (i : ℕ) (s : Sort) → IsAmong e fs → AllByRecursion (IsStage p entries j b) fs → slice_get b.sorts i ≡ Some s → IsOf (Before p (before p j)) s (chain_of i fs)
chain-among p entries j b e [] i s among each at = absurd among
chain-among p entries j b e (f ∷ fs) i s among each at = chain-is p entries j b f fs i s each at

append-before : (ts new : List SkolemTerm) (n l : ℕ) → AllByRecursion (λ s. n ≤ s.place) new → l < n → term_of (ts ++ new) l ≡ term_of ts l
append-before ts new n l high less = go (term_of ts l) refl
  where
    go : (o : Option Tree) → term_of ts l ≡ o → term_of (ts ++ new) l ≡ o
    go (Some t) is = append-some ts new l t is
    go None is = append-none ts new l is ∙ term-before new n l high less

-- what stands at a place of the block
own-place : (p : Problem) (entries : List Entry) (w : ℕ → Option ℕ) (j : ℕ) (b : Block) (ts : List SkolemTerm) (fs : List Entry) (e : Entry) → slice_get (blocks_of p.prefix) j ≡ Some b → (h : Played p entries w j ts) → AllByRecursion (IsStage p entries j b) fs → IsAmong e fs → (lead : Leads p entries j b h.point fs) (values : List ℕ) → Meanings h.point values lead.entry.terms → (l : ℕ) (s : Sort) → before p j ≤ l → Before p (before p (suc j)) l s → Takes (term_of (ts ++ block_terms (term_of ts) fs (before p j) 0 b.sorts)) w (slice_get (h.point ++ values)) l s
own-place p entries w j b ts fs e at h each among lead values means l s high k =
    let c = covered p j b at l high k.0 in
    let level = c.2 in
    let size = typed-length p j h.point h.typed in
    let sort : c.1 ≡ s = covered-sort p j b l c.0 c.1 s at k level c.3 in
    let chain = chain-among p entries j b e fs c.0 c.1 among each c.3 in
    let put = put-of (Before p (before p j)) (Universals p (before p j + c.0)) (term_of ts) c.1 (chain_of c.0 fs) (puts-sections p (before p j) (before p j + c.0) ts h.sections (omega arith)) chain in
    let found : term_of (ts ++ block_terms (term_of ts) fs (before p j) 0 b.sorts) l ≡ Some (replaced (term_of ts) (chain_of c.0 fs)) =
    append-none ts (block_terms (term_of ts) fs (before p j) 0 b.sorts) l (term-behind ts (before p j) l h.sections.low high)
    ∙ ap (term_of (block_terms (term_of ts) fs (before p j) 0 b.sorts)) level
    ∙ new-at (term_of ts) fs (before p j) 0 b.sorts c.0 c.0 c.1 (omega arith) c.3 in
    let term = zip-at (λ t q. IsOf (Before p (before p j)) q t) lead.entry.terms b.sorts c.0 c.1 lead.stage.owner.terms c.3 in
    let value = zip-at (λ v t. Means [] (slice_get h.point) t v) values lead.entry.terms c.0 term.0 means term.1 in
    let own : Means [] (slice_get h.point) (term_at c.0 lead.entry) value.0 = subst (λ (o : Option Tree). Means [] (slice_get h.point) (unwrap_or o (Literal BoolSort 0)) value.0) (sym term.1) value.2 in
    let meaning = put-means (Before p (before p j)) (term_of ts) w (slice_get h.point) (chain_of c.0 fs) value.0 chain.0 h.agrees (lead.means c.0 c.1 value.0 c.3 own) in
    takes-as w l s (term_of (ts ++ block_terms (term_of ts) fs (before p j) 0 b.sorts) l) (Some (replaced (term_of ts) (chain_of c.0 fs))) (slice_get (h.point ++ values) l) (Some value.0) found
    (get-behind h.point values c.0 l (omega (arith, level, size)) ∙ value.1)
    (put.1 ∙ ap (λ q. Some q) sort, meaning)

stage-step : (p : Problem) (entries : List Entry) (w : ℕ → Option ℕ) (j : ℕ) (b : Block) (ts : List SkolemTerm) (fs : List Entry) (e : Entry) → slice_get (blocks_of p.prefix) j ≡ Some b → b.owner ≡ Existential → (h : Played p entries w j ts) → AllByRecursion (IsStage p entries j b) fs → IsAmong e fs → Leads p entries j b h.point fs → Played p entries w (suc j) (ts ++ block_terms (term_of ts) fs (before p j) 0 b.sorts)
stage-step p entries w j b ts fs e at owner h each among lead =
    let new : List SkolemTerm = block_terms (term_of ts) fs (before p j) 0 b.sorts in
    let own = lead.stage.owner in
    let size = typed-length p j h.point h.typed in
    let values = some-meanings p (before p j) h.point lead.entry.terms b.sorts h.typed own.terms in
    let holds = own.law h.point values.0 h.typed lead.holds values.2 in
    let high : AllByRecursion (λ s. before p j ≤ s.place) new = all-weaker (λ s. (before p j + 0 ≤ s.place) × (s.place < before p j + (0 + length b.sorts))) (λ s. before p j ≤ s.place) new (λ s k. let a = k.0 in omega (arith, a)) (new-bounds (term_of ts) fs (before p j) 0 b.sorts) in
    record {
      sections = sections-more p (before p j) (before p (suc j)) b.sorts fs ts h.sections (below-next (blocks_of p.prefix) j b at) (covered p j b at) drawn;
      point = h.point ++ values.0;
      typed = longer p j b h.point values.0 at h.typed values.1;
      agrees = λ l s k. elim (cases_lt l (before p j)) [
        | inl low ↦ takes-as w l s (term_of (ts ++ new) l) (term_of ts l) (slice_get (h.point ++ values.0) l) (slice_get h.point l) (append-before ts new (before p j) l high low) (get-before h.point values.0 l (omega (arith, low, size))) (h.agrees l s (low, k.1))
        | inr from ↦ own-place p entries w j b ts fs e at h each among lead values.0 values.2 l s from k
      ];
      stands = next-stands p entries lead.entry Existential j own.later (h.point ++ values.0) lead.stage.level lead.stage.winner own.leads holds;
    }
  where
    drawn : (k : ℕ) (s : Sort) → slice_get b.sorts k ≡ Some s → IsDrawn p (record { place = before p j + k; term = replaced (term_of ts) (chain_of k fs) })
    drawn k s sort = record {
      stands = record { quantifier = b.owner; sort = s };
      here = place-at p j b k s at sort;
      owner = owner;
      term = put-of (Before p (before p j)) (Universals p (before p j + k)) (term_of ts) s (chain_of k fs) (puts-sections p (before p j) (before p j + k) ts h.sections (omega arith)) (chain-among p entries j b e fs k s among each sort);
    }

existential-step : (p : Problem) (entries : List Entry) (w : ℕ → Option ℕ) (j : ℕ) (b : Block) (ts : List SkolemTerm) → IsProblem p → IsLinked p entries → slice_get (blocks_of p.prefix) j ≡ Some b → b.owner ≡ Existential → (h : Played p entries w j ts) → IsInEntry p entries Existential j h.point → Played p entries w (suc j) (ts ++ block_terms (term_of ts) (entries_of (suc j) Existential entries) (before p j) 0 b.sorts)
existential-step p entries w j b ts hp linked at owner h x =
    let each = stages p entries j b hp linked at owner (entries_of (suc j) Existential entries) (numbered entries (suc j) Existential) in
    let among = among-kept (suc j) Existential entries x.number x.entry x.here x.level x.winner in
    stage-step p entries w j b ts (entries_of (suc j) Existential entries) x.entry at owner h each among
    (leading p entries j b h.point (entries_of (suc j) Existential entries) x.entry h.typed each among x.holds)

-- through all blocks
pub run : (p : Problem) (entries : List Entry) (w : ℕ → Option ℕ) → IsProblem p → IsLinked p entries → AreValuesOf p w → (bs : List Block) (j first : ℕ) (ts : List SkolemTerm) → drop j (blocks_of p.prefix) ≡ bs → before p j ≡ first → Played p entries w j ts → Played p entries w (length (blocks_of p.prefix)) (chain_from entries (suc j) first ts bs)
run p entries w hp linked values [] j first ts rest start h = go h.stands
  where
    go : Stands p entries Existential j h.point → Played p entries w (length (blocks_of p.prefix)) ts
    go (inr end) = subst (λ (k : ℕ). Played p entries w k ts) end.0 h
    go (inl x) =
        let high = (each-entry p entries x.number x.entry linked x.here).links.high in
        let level = x.level in
        let past = dropped-all (blocks_of p.prefix) j rest in
        absurd (omega (arith, high, level, past))
run p entries w hp linked values (b ∷ bs) j first ts rest start h =
    let parts = dropped-first (blocks_of p.prefix) j b bs rest in
    let next : before p (suc j) ≡ first + length b.sorts = below-next (blocks_of p.prefix) j b parts.0 ∙ ap (λ n. n + length b.sorts) start in
    go (same_quantifier b.owner Existential) refl h.stands parts.0
    (λ us k. run p entries w hp linked values bs (suc j) (first + length b.sorts) us parts.1 next k)
  where
    go : (k : Bool) → same_quantifier b.owner Existential ≡ k → Stands p entries Existential j h.point → slice_get (blocks_of p.prefix) j ≡ Some b → ((us : List SkolemTerm) → Played p entries w (suc j) us → Played p entries w (length (blocks_of p.prefix)) (chain_from entries (suc (suc j)) (first + length b.sorts) us bs)) → Played p entries w (length (blocks_of p.prefix)) (cond k (chain_from entries (suc (suc j)) (first + length b.sorts) (ts ++ block_terms (term_of ts) (entries_of (suc j) Existential entries) first 0 b.sorts) bs) (chain_from entries (suc (suc j)) (first + length b.sorts) ts bs))
    go k is (inr end) at more =
        let past : slice_get (blocks_of p.prefix) j ≡ None = slice_get_past (blocks_of p.prefix) j (let e = end.0 in omega (arith, e)) in
        absurd (never (sym past ∙ at))
      where
        never : ◌≡◌ {A = Option Block} None (Some b) → ⊥
        never e = cc
    go true is (inl x) at more =
        more (ts ++ block_terms (term_of ts) (entries_of (suc j) Existential entries) first 0 b.sorts)
        (subst (λ (n : ℕ). Played p entries w (suc j) (ts ++ block_terms (term_of ts) (entries_of (suc j) Existential entries) n 0 b.sorts)) start
        (existential-step p entries w j b ts hp linked at (same-quantifier b.owner Existential is) h x))
    go false is (inl x) at more = more ts (universal-step p entries w j b ts hp linked values at (other-owner b.owner is) h x)
      where
        other-owner : (q : Quantifier) → same_quantifier q Existential ≡ false → q ≡ Universal
        other-owner Existential e = absurd cc
        other-owner Universal e = refl
