-- A blaster beside a store that has grown, and beside formulas.
use Rattle.std.proofs.Common.{◌≡◌, ℕ, ◌<◌, List, [], ◌∷◌, ◌++◌, map, length, get_or, refl, sym, ap, ◌∙◌, subst, arith}
use Rattle.std.proofs.lemmas.List.{length-append}
use Rattle.std.specs.List.{AllByRecursion}
use Rattle.std.proofs.lemmas.List.Elements.{recursion_from_All}
use Rattle.qv_words.specs.Tree.{Tree, IsQuantifierFree}
use Rattle.qv_words.specs.Clauses.{Blasted, Blasting, bits_of, cnf, first_blasting, with_formula}
use Rattle.qv_cnf.specs.Listing.{clauses_of}
use Rattle.qv_cnf.specs.Literal.{Literal}
use Rattle.qv_cnf_bridge_laws.specs.Bridge.{clauses_for, literal_for}
use Rattle.qv_circuits.specs.Adding.{lits_of}
use Rattle.qv_circuits_laws.specs.ClauseLaws.{blasted, standing}
use Rattle.qv_circuits_laws.proofs.Listing.{formulas-append}
use Rattle.qv_circuits_laws.specs.Standing.{Stands}
use Rattle.qv_store.specs.Nodes.{tree_at}
use Rattle.qv_store.specs.Stores.{AreShared, Grows}
use Rattle.qv_store.specs.Walks.{named, IsWalk}
use Rattle.qv_store.proofs.Standing.{tree_at-before}
use Rattle.qv_blast.specs.declared.blaster.Blaster.{Blaster}
use Rattle.qv_blast.specs.Blasters.{blasted_at, blasting_of, clauses_in, from_one, IsListed, IsReady, Listed}
use Rattle.qv_blast.specs.States.{blasting_at, HasFormulas, IsBlaster}

-- the trees of numbers that were there, with their bits
named-stay : (old more : List Tree) (ids : List ℕ) → AllByRecursion (λ n. n < length old) ids → named (old ++ more) ids ≡ named old ids
named-stay old more [] h = refl
named-stay old more (n ∷ ns) h = rw (tree_at-before old more n h.0) (ap (λ (r : List Tree). tree_at old n ∷ r) (named-stay old more ns h.1))

blasted-stay : (old more : List Tree) (ids : List ℕ) (bits : List (List Literal)) → AllByRecursion (λ n. n < length old) ids → blasted_at (old ++ more) ids bits ≡ blasted_at old ids bits
blasted-stay old more [] bits h = refl
blasted-stay old more (n ∷ ns) [] h = refl
blasted-stay old more (n ∷ ns) (b ∷ bs) h =
    rw (tree_at-before old more n h.0) (ap (λ (r : List Blasted). record { tree = tree_at old n; bits = lits_of b } ∷ r) (blasted-stay old more ns bs h.1))

module _ (old more : List Tree) (ids : List ℕ) (bits : List (List Literal)) (s : Listed) (walk : IsWalk old ids) where
  blasting-stays : blasting_of (old ++ more) ids bits s ≡ blasting_of old ids bits s
  blasting-stays = ap (λ (k : List Blasted). let b : Blasting = record { next = s.next; known = k; clauses = clauses_in s.list } in b) (blasted-stay old more ids bits (recursion_from_All (λ n. n < length old) ids walk.within))

  walk-stays : IsWalk (old ++ more) ids
  walk-stays = record {
    within = λ k d h. let low = walk.within k d h in let long = length-append old more in omega (arith, low, long);
    shared = subst AreShared (sym (named-stay old more ids (recursion_from_All (λ n. n < length old) ids walk.within))) walk.shared;
  }

  ready-stays : IsReady old ids bits s → IsReady (old ++ more) ids bits s
  ready-stays r = record {
    walk = walk-stays;
    few = r.few;
    stands = subst Stands (sym blasting-stays) r.stands;
    free = λ i h.
        let low : get_or ids i 0 < length old = walk.within i 0 h in
        subst IsQuantifierFree (sym (tree_at-before old more (get_or ids i 0) low)) (r.free i h);
  }

-- a blaster
pub blaster-stays : (old new : List Tree) (b : Blaster) → Grows old new → IsBlaster old b → IsBlaster new b
blaster-stays old new b g h =
    subst (λ (ts : List Tree). IsBlaster ts b) (sym g.behind) (record { ready = ready-stays old g.more b.terms b.bits b.lists h.ready.walk h.ready; all = h.all })

pub stands-stays : (old new : List Tree) (b : Blaster) → Grows old new → IsBlaster old b → blasting_at new b ≡ blasting_at old b
stands-stays old new b g h =
    ap (λ (ts : List Tree). blasting_at ts b) g.behind ∙ blasting-stays old g.more b.terms b.bits b.lists h.ready.walk

pub formulas-stay : (old new formulas : List Tree) (b : Blaster) → Grows old new → HasFormulas old formulas b → HasFormulas new formulas b
formulas-stay old new formulas b g h = record { blaster = blaster-stays old new b g h.blaster; stands = stands-stays old new b g h.blaster ∙ h.stands }

-- one more formula
pub one-more : (formulas : List Tree) (t : Tree) → with_formula (standing formulas) t ≡ standing (formulas ++ t ∷ [])
one-more formulas t = sym (formulas-append first_blasting formulas (t ∷ []))

-- the literals of a list, as circuits have them and back
lits-forth : (ls : List Literal) → map literal_for (lits_of ls) ≡ ls
lits-forth [] = refl
lits-forth (l ∷ ls) = ap (λ (r : List Literal). l ∷ r) (lits-forth ls)

pub clauses-forth : (cs : List (List Literal)) → clauses_for (map lits_of cs) ≡ cs
clauses-forth [] = refl
clauses-forth (c ∷ cs) = rw (lits-forth c) (ap (λ (r : List (List Literal)). c ∷ r) (clauses-forth cs))

cnf-is : (formulas : List Tree) → cnf formulas ≡ (standing formulas).clauses
unfolding cnf
cnf-is formulas = refl

-- a list that has the clauses of formulas under ids from 1 on
pub listed-cnf : (trees formulas : List Tree) (b : Blaster) → HasFormulas trees formulas b → IsListed b.lists → b.lists.list ≡ from_one (clauses_for (cnf formulas))
listed-cnf trees formulas b h listed =
    let same : clauses_in b.lists.list ≡ cnf formulas = ap (λ (d : Blasting). d.clauses) h.stands ∙ sym (cnf-is formulas) in
    let clauses : clauses_of b.lists.list.live ≡ clauses_for (cnf formulas) = sym (clauses-forth (clauses_of b.lists.list.live)) ∙ ap clauses_for same in
    listed.list ∙ ap from_one clauses

-- and the bits of the definition's list
pub known-blasted : (trees formulas : List Tree) (b : Blaster) (t : Tree) → HasFormulas trees formulas b → bits_of (blasting_at trees b).known t ≡ bits_of (blasted formulas) t
known-blasted trees formulas b t h = ap (λ (d : Blasting). bits_of d.known t) h.stands
