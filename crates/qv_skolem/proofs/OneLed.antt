-- One chain after the other gets an entry in front.
use Rattle.std.proofs.Common.{◌≡◌, ℕ, ◌+◌, ◌<◌, Bool, true, false, Option, Some, None, List, length, set, get_or, slice_get, refl, sym, ap, ◌∙◌, subst, arith}
use Rattle.std.specs.Prelude.{IfSome, option_map, unwrap_or, slice_index}
use Rattle.std.proofs.lemmas.List.{length-map}
use Rattle.std.proofs.lemmas.List.Elements.{recursion_from_All}
use Rattle.std.proofs.lemmas.Option.{slice_get-get_or, unwrap_or-slice_get}
use Rattle.qv_words.specs.declared.sort.Sort.{Sort}
use Rattle.qv_words.specs.declared.sort.Sort.TheVariants.{Bool as BoolSort}
use Rattle.qv_words.specs.Tree.{Tree, Literal, tree_sort}
use Rattle.qv_words.specs.Replacement.{replaced}
use Rattle.qv_words.specs.Linked.{Entry, term_at}
use Rattle.qv_words.proofs.Elements.{all-at, found-at, get-map, zip-length}
use Rattle.qv_store.specs.Nodes.{tree_at}
use Rattle.qv_store.specs.Stores.{Grows, StandsAt}
use Rattle.qv_store.specs.Walks.{named}
use Rattle.qv_store.specs.Replacing.{AreTermsOf, IsReplaceable, put_by_level}
use Rattle.qv_store.proofs.Replacement.{grown-put, grown-tree, grown-within, grows-more}
use Rattle.qv_entries.specs.Rows.{Row, entry_in, IsRowIn}
use Rattle.qv_skolem.specs.Chains.{headed, led_by, IsPuttable, MayLead}
use Rattle.qv_skolem.proofs.Leading.{AreLedTo, led-more, put-sort, term-there}

-- a term of an entry's row at a place
pub record IsTermAt (trees : List Tree) (put : ℕ → Option Tree) (sorts : List Sort) (i : ℕ) (e : Entry) (n : ℕ) : Type 0 where
  pub below : n < length trees
  pub tree : tree_at trees n ≡ term_at i e
  pub ready : IsReplaceable put (tree_at trees n)
  pub sort : Sort
  pub here : slice_get sorts i ≡ Some sort
  pub is : tree_sort (tree_at trees n) ≡ Some sort

pub many-terms : (trees : List Tree) (put : ℕ → Option Tree) (sorts : List Sort) (row : Row) → IsPuttable put sorts (entry_in trees row) → length row.terms ≡ length sorts
many-terms trees put sorts row h =
    let zipped = zip-length (λ t s. IsReplaceable put t × (tree_sort t ≡ Some s)) (named trees row.terms) sorts h.terms in
    sym (length-map row.terms (tree_at trees)) ∙ zipped

pub entry-term : (trees : List Tree) (put : ℕ → Option Tree) (sorts : List Sort) (row : Row) (i n : ℕ) → IsRowIn trees row → IsPuttable put sorts (entry_in trees row) → i < length sorts → n ≡ get_or row.terms i n → IsTermAt trees put sorts i (entry_in trees row) n
entry-term trees put sorts row i n within h low own =
    let many = many-terms trees put sorts row h in
    let at : slice_get row.terms i ≡ Some n = slice_get-get_or row.terms i n (omega (arith, low, many)) ∙ ap (λ (k : ℕ). Some k) (sym own) in
    let tree : tree_at trees n ≡ term_at i (entry_in trees row) = sym (ap (λ (o : Option Tree). unwrap_or o (Literal BoolSort 0)) (get-map (tree_at trees) row.terms i n at)) in
    let s = found-at sorts i low in
    let there = term-there put sorts (entry_in trees row) i s.0 h s.1 in
    record {
      below = all-at (λ k. k < length trees) row.terms i n (recursion_from_All (λ k. k < length trees) row.terms within.terms) at;
      tree = tree;
      ready = subst (IsReplaceable put) (sym tree) there.0;
      sort = s.0;
      here = s.1;
      is = ap (λ (t : Tree). tree_sort t) tree ∙ there.1;
    }

-- a term into which terms may be put, in a greater store
pub ready-grown : (old mid : List Tree) (slots : List (Option ℕ)) (n : ℕ) → Grows old mid → AreTermsOf old slots → n < length old → IsReplaceable (put_by_level old slots) (tree_at old n) → IsReplaceable (put_by_level mid slots) (tree_at mid n)
ready-grown old mid slots n grows there low ready =
    subst (IsReplaceable (put_by_level mid slots)) (sym (grown-tree old mid grows n low))
    (subst (λ (put : ℕ → Option Tree). IsReplaceable put (tree_at old n)) (sym (grown-put old mid grows slots there)) ready)

pub put-grown : (old mid : List Tree) (slots : List (Option ℕ)) (n : ℕ) → Grows old mid → AreTermsOf old slots → n < length old → replaced (put_by_level mid slots) (tree_at mid n) ≡ replaced (put_by_level old slots) (tree_at old n)
put-grown old mid slots n grows there low =
    ap (λ (put : ℕ → Option Tree). replaced put (tree_at mid n)) (grown-put old mid grows slots there) ∙ ap (λ (t : Tree). replaced (put_by_level old slots) t) (grown-tree old mid grows n low)

pub there-grown : (old mid : List Tree) (slots : List (Option ℕ)) → Grows old mid → AreTermsOf old slots → AreTermsOf mid slots
there-grown old mid slots grows there l n at = grown-within old mid grows n (there l n at)

-- what chooses
led-region : (trees : List Tree) (put : ℕ → Option Tree) (behind : Bool) (e : Entry) (region : Option ℕ) (r : ℕ) → option_map (tree_at trees) region ≡ led_by put behind e → region ≡ Some r → (behind ≡ true) × (tree_at trees r ≡ replaced put e.region)
led-region trees put true e region r is at =
    let both : Some (tree_at trees r) ≡ Some (replaced put e.region) = sym (ap (λ (o : Option ℕ). option_map (tree_at trees) o) at) ∙ is in
    (refl, cc)
led-region trees put false e region r is at =
    let both : Some (tree_at trees r) ≡ None = sym (ap (λ (o : Option ℕ). option_map (tree_at trees) o) at) ∙ is in
    absurd cc

region-grown : (old new : List Tree) → Grows old new → (region : Option ℕ) → IfSome region (λ r. r < length old) → (option_map (tree_at new) region ≡ option_map (tree_at old) region) × IfSome region (λ r. r < length new)
region-grown old new grows None h = (refl, tt)
region-grown old new grows (Some r) h = (ap (λ (t : Tree). Some t) (grown-tree old new grows r h), grown-within old new grows r h)

-- a step of the loop over the places
module _ (old mid : List Tree) (slots : List (Option ℕ)) (row : Row) (behind : Bool) (region : Option ℕ) (before after : List ℕ) (k : ℕ) (grows : Grows old mid) (there : AreTermsOf old slots) (within : IsRowIn old row)
    (may : MayLead old (put_by_level old slots) behind (entry_in old row) before) (low : k < length before)
    (chosen : option_map (tree_at mid) region ≡ led_by (put_by_level old slots) behind (entry_in old row)) (below : IfSome region (λ r. r < length mid))
    (led : AreLedTo old mid (put_by_level old slots) (led_by (put_by_level old slots) behind (entry_in old row)) (entry_in old row) before after k) where
  in-sorts : k < length may.sorts
  in-sorts =
      let many = may.many in
      omega (arith, low, many)

  in-after : k < length after
  in-after =
      let many = led.many in
      omega (arith, low, many)

  pub in-terms : k < length row.terms
  in-terms =
      let many = many-terms old (put_by_level old slots) may.sorts row may.entry in
      let sorts = in-sorts in
      omega (arith, many, sorts)

  term-at : (n : ℕ) → n ≡ get_or row.terms k n → IsTermAt old (put_by_level old slots) may.sorts k (entry_in old row) n
  term-at n own = entry-term old (put_by_level old slots) may.sorts row k n within may.entry in-sorts own

  pub term-below : (n : ℕ) → n ≡ get_or row.terms k n → n < length mid
  term-below n own = grown-within old mid grows n (term-at n own).below

  pub term-ready : (n : ℕ) → n ≡ get_or row.terms k n → IsReplaceable (put_by_level mid slots) (tree_at mid n)
  term-ready n own = ready-grown old mid slots n grows there (term-at n own).below (term-at n own).ready

  term-put : (n : ℕ) → n ≡ get_or row.terms k n → replaced (put_by_level mid slots) (tree_at mid n) ≡ replaced (put_by_level old slots) (term_at k (entry_in old row))
  term-put n own = put-grown old mid slots n grows there (term-at n own).below ∙ ap (λ (t : Tree). replaced (put_by_level old slots) t) (term-at n own).tree

  rest-at : (rest : ℕ) → rest ≡ get_or after k rest → slice_get before k ≡ Some rest
  rest-at rest own = sym (led.left k (omega arith)) ∙ slice_get-get_or after k rest in-after ∙ ap (λ (j : ℕ). Some j) (sym own)

  pub rest-below : (new : List Tree) → Grows mid new → (rest : ℕ) → rest ≡ get_or after k rest → rest < length new
  rest-below new more rest own = grown-within mid new more rest (grown-within old mid grows rest (may.below k rest (rest-at rest own)))

  pub region-may : (new : List Tree) → Grows mid new → (n term rest : ℕ) → n ≡ get_or row.terms k n → StandsAt new term (replaced (put_by_level mid slots) (tree_at mid n)) → rest ≡ get_or after k rest →
      IfSome region (λ r. (r < length new) × (tree_sort (tree_at new r) ≡ Some BoolSort) × (tree_sort (tree_at new term) ≡ tree_sort (tree_at new rest)))
  region-may new more n term rest own stands last = to-if region (λ r at. go r at)
    where
      to-if : (o : Option ℕ) → ((r : ℕ) → o ≡ Some r → (r < length new) × (tree_sort (tree_at new r) ≡ Some BoolSort) × (tree_sort (tree_at new term) ≡ tree_sort (tree_at new rest))) →
          IfSome o (λ r. (r < length new) × (tree_sort (tree_at new r) ≡ Some BoolSort) × (tree_sort (tree_at new term) ≡ tree_sort (tree_at new rest)))
      to-if None h = tt
      to-if (Some r) h = h r refl

      go : (r : ℕ) → region ≡ Some r → (r < length new) × (tree_sort (tree_at new r) ≡ Some BoolSort) × (tree_sort (tree_at new term) ≡ tree_sort (tree_at new rest))
      go r at =
          let inside : r < length mid = subst (λ (o : Option ℕ). IfSome o (λ r. r < length mid)) at below in
          let choice = led-region mid (put_by_level old slots) behind (entry_in old row) region r chosen at in
          let own-term = term-at n own in
          let before-at = rest-at rest last in
          let outside = may.below k rest before-at in
          let first : tree_sort (tree_at new term) ≡ Some own-term.sort =
          ap (λ (t : Tree). tree_sort t) (stands.tree ∙ term-put n own ∙ ap (λ (t : Tree). replaced (put_by_level old slots) t) (sym own-term.tree)) ∙ put-sort (put_by_level old slots) (tree_at old n) own-term.ready ∙ own-term.is in
          let other : tree_sort (tree_at new rest) ≡ Some own-term.sort =
          ap (λ (t : Tree). tree_sort t) (grown-tree mid new more rest (grown-within old mid grows rest outside) ∙ grown-tree old mid grows rest outside) ∙ may.alike choice.0 k rest own-term.sort before-at own-term.here in (
            grown-within mid new more r inside,
            ap (λ (t : Tree). tree_sort t) (grown-tree mid new more r inside ∙ choice.1) ∙ put-sort (put_by_level old slots) (entry_in old row).region may.entry.region ∙ may.entry.bool,
            first ∙ sym other,
          )

  pub place-led : (new last : List Tree) → Grows mid new → Grows new last → (n term rest id : ℕ) → n ≡ get_or row.terms k n → StandsAt new term (replaced (put_by_level mid slots) (tree_at mid n)) → rest ≡ get_or after k rest →
      StandsAt last id (headed (option_map (tree_at new) region) (tree_at new term) (tree_at new rest)) →
      (option_map (tree_at last) region ≡ led_by (put_by_level old slots) behind (entry_in old row)) × IfSome region (λ r. r < length last)
      × AreLedTo old last (put_by_level old slots) (led_by (put_by_level old slots) behind (entry_in old row)) (entry_in old row) before (set after k id) (k + 1)
  place-led new last more most n term rest id own stands rest-own made =
      let once = region-grown mid new more region below in
      let twice = region-grown new last most region once.1 in
      let before-at = rest-at rest rest-own in
      let outside = may.below k rest before-at in
      let old-rest : tree_at new rest ≡ tree_at old (slice_index before k) =
      grown-tree mid new more rest (grown-within old mid grows rest outside) ∙ grown-tree old mid grows rest outside ∙ ap (λ (o : Option ℕ). tree_at old (unwrap_or o 0)) (sym before-at) ∙ ap (tree_at old) (index-is before k) in
      let is : headed (option_map (tree_at new) region) (tree_at new term) (tree_at new rest) ≡ headed (led_by (put_by_level old slots) behind (entry_in old row)) (replaced (put_by_level old slots) (term_at k (entry_in old row))) (tree_at old (slice_index before k)) =
      ap (λ (o : Option Tree). headed o (tree_at new term) (tree_at new rest)) (once.0 ∙ chosen)
      ∙ ap (λ (t : Tree). headed (led_by (put_by_level old slots) behind (entry_in old row)) t (tree_at new rest)) (stands.tree ∙ term-put n own)
      ∙ ap (λ (t : Tree). headed (led_by (put_by_level old slots) behind (entry_in old row)) (replaced (put_by_level old slots) (term_at k (entry_in old row))) t) old-rest in (
        twice.0 ∙ once.0 ∙ chosen,
        twice.1,
        led-more old mid last (put_by_level old slots) (led_by (put_by_level old slots) behind (entry_in old row)) (entry_in old row) before after k id (grows-more mid new last more most) led in-after (record { below = made.below; tree = made.tree ∙ is }),
      )
    where
      index-is : (xs : List ℕ) (i : ℕ) → unwrap_or (slice_get xs i) 0 ≡ slice_index xs i
      index-is xs i = unwrap_or-slice_get xs i 0
