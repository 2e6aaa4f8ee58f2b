-- All entries of a level lead the chains of its block, from the last to the first.
use Rattle.std.proofs.Common.{◌≡◌, ℕ, zero, suc, ◌-◌, ◌<◌, Bool, true, false, cond, Some, Option, List, [], ◌∷◌, ◌++◌, length, take, drop, replicate, slice_get, sym, ap, ◌∙◌, subst, arith}
use Rattle.std.specs.Prelude.{All}
use Rattle.std.specs.List.{AllByRecursion}
use Rattle.std.proofs.lemmas.List.{append-nil, length-replicate, take_all}
use Rattle.std.proofs.lemmas.List.Elements.{recursion_from_All}
use Rattle.qv_words.specs.declared.sort.Sort.{Sort}
use Rattle.qv_words.specs.declared.sort.Sort.TheVariants.{Bool as BoolSort}
use Rattle.qv_words.specs.Tree.{Tree, Literal}
use Rattle.qv_words.specs.Replacement.{replaced}
use Rattle.qv_words.specs.Problem.{Quantifier, Existential}
use Rattle.qv_words.specs.Linked.{Entry, chain_of, entries_of, is_of}
use Rattle.qv_words.proofs.Elements.{all-at, dropped-none, get-map}
use Rattle.qv_store.specs.Stores.{Grows, StandsAt}
use Rattle.qv_store.specs.Replacing.{AreTermsOf, put_by_level}
use Rattle.qv_store.proofs.Replacement.{grown-put}
use Rattle.qv_entries.specs.Rows.{Row, entries_in, entry_in, is_row_of, IsRowIn}
use Rattle.qv_skolem.specs.Chains.{AreChains, AreLed, IsPuttable, MayLead}
use Rattle.qv_skolem.proofs.Leading.{chains-led, chains-may, level-more, level-other, some_entries}
use Rattle.qv_skolem.proofs.GrownEntries.{entry-grown}

-- what holds of a level's entries holds of those from a number on
level-from : (P : Entry → Type 0) (level : ℕ) (w : Quantifier) (es : List Entry) (n : ℕ) → AllByRecursion P (entries_of level w es) → AllByRecursion P (entries_of level w (drop n es))
level-from P level w es zero h = h
level-from P level w [] (suc n) h = tt
level-from P level w (e ∷ es) (suc n) h = level-from P level w es n (go (is_of level w e) h)
  where
    go : (b : Bool) → AllByRecursion P (cond b (e ∷ entries_of level w es) (entries_of level w es)) → AllByRecursion P (entries_of level w es)
    go true k = k.1
    go false k = k

-- before the last entry
pub no-entries : (level : ℕ) (w : Quantifier) (es : List Entry) (n : ℕ) → n ≡ length es → entries_of level w (drop n es) ≡ []
no-entries level w es n all = ap (entries_of level w) (dropped-none es n (omega (arith, all)))

each-alike : (trees : List Tree) (id count : ℕ) (t : Tree) → StandsAt trees id t → (i n : ℕ) → slice_get (replicate count id) i ≡ Some n → StandsAt trees n t
each-alike trees id zero t h i n at = absurd cc
each-alike trees id (suc count) t h zero n at = let same : id ≡ n = cc in subst (λ (k : ℕ). StandsAt trees k t) same h
each-alike trees id (suc count) t h (suc i) n at = each-alike trees id count t h i n at

pub chains-none : (trees : List Tree) (put : ℕ → Option Tree) (id count : ℕ) (es : List Entry) (chains : List ℕ) → es ≡ [] → StandsAt trees id (Literal BoolSort 0) → chains ≡ replicate count id → AreChains trees put es count chains
unfolding chain_of
chains-none trees put id count es chains none stands are = record {
  many = ap length are ∙ length-replicate count id;
  each = λ i n at.
      subst (λ (fs : List Entry). StandsAt trees n (replaced put (chain_of i fs))) (sym none)
      (each-alike trees id count (Literal BoolSort 0) stands i n (ap (λ (xs : List ℕ). slice_get xs i) (sym are) ∙ at));
}

-- what a slice that was lent leaves in its place
pub written : (before after : List ℕ) (n : ℕ) → length after ≡ length before → n ≡ length before → take n (after ++ drop (length after) before) ≡ after
written before after n same all =
    ap (λ (xs : List ℕ). take n (after ++ xs)) (dropped-none before (length after) (omega (arith, same))) ∙ ap (take n) (append-nil after)
    ∙ take_all n after (omega (arith, same, all))

module _ (old mid : List Tree) (slots : List (Option ℕ)) (rows : List Row) (level n count : ℕ) (row : Row) (behind : Bool) (before : List ℕ) (sorts : List Sort) (grows : Grows old mid) (within : All (IsRowIn old) rows)
    (there : AreTermsOf old slots) (each : All (IsPuttable (put_by_level old slots) sorts) (entries_of level Existential (entries_in old rows))) (many : count ≡ length sorts) (some : 0 < n) (at : slice_get rows (n - 1) ≡ Some row)
    (chains : AreChains mid (put_by_level old slots) (entries_of level Existential (drop n (entries_in old rows))) count before) (so : behind ≡ some_entries (entries_of level Existential (drop n (entries_in old rows)))) where
  here : slice_get (entries_in old rows) (n - 1) ≡ Some (entry_in old row)
  here = get-map (entry_in old) rows (n - 1) row at

  next : suc (n - 1) ≡ n
  next = omega (arith, some)

  in-old : IsRowIn old row
  in-old = all-at (IsRowIn old) rows (n - 1) row (recursion_from_All (IsRowIn old) rows within) at

  pub other-chains : is_row_of level Existential row ≡ false → entries_of level Existential (drop (n - 1) (entries_in old rows)) ≡ entries_of level Existential (drop n (entries_in old rows))
  other-chains no_match =
      level-other level Existential (entries_in old rows) (n - 1) (entry_in old row) here no_match ∙ ap (λ (k : ℕ). entries_of level Existential (drop k (entries_in old rows))) next

  own-chains : is_row_of level Existential row ≡ true → entries_of level Existential (drop (n - 1) (entries_in old rows)) ≡ entry_in old row ∷ entries_of level Existential (drop n (entries_in old rows))
  own-chains match =
      level-more level Existential (entries_in old rows) (n - 1) (entry_in old row) here match ∙ ap (λ (k : ℕ). entry_in old row ∷ entries_of level Existential (drop k (entries_in old rows))) next

  pub may-lead : is_row_of level Existential row ≡ true → MayLead mid (put_by_level mid slots) behind (entry_in mid row) before
  may-lead match =
      let put = put_by_level old slots in
      let all : AllByRecursion (IsPuttable put sorts) (entries_of level Existential (drop (n - 1) (entries_in old rows))) =
      level-from (IsPuttable put sorts) level Existential (entries_in old rows) (n - 1) (recursion_from_All (IsPuttable put sorts) (entries_of level Existential (entries_in old rows)) each) in
      let may = chains-may mid put behind sorts (entry_in old row) (entries_of level Existential (drop n (entries_in old rows))) before so
      (subst (AllByRecursion (IsPuttable put sorts)) (own-chains match) all) (subst (λ (k : ℕ). AreChains mid put (entries_of level Existential (drop n (entries_in old rows))) k before) many chains) in
      subst (λ (f : ℕ → Option Tree). MayLead mid f behind (entry_in mid row) before) (sym (grown-put old mid grows slots there))
      (subst (λ (e : Entry). MayLead mid put behind e before) (sym (entry-grown old mid grows row in-old)) may)

  pub more-chains : (new : List Tree) (after : List ℕ) → is_row_of level Existential row ≡ true → AreLed mid new (put_by_level mid slots) behind (entry_in mid row) before after →
      AreChains new (put_by_level old slots) (entries_of level Existential (drop (n - 1) (entries_in old rows))) count after
      × (true ≡ some_entries (entries_of level Existential (drop (n - 1) (entries_in old rows))))
  more-chains new after match led =
      let put = put_by_level old slots in
      let own = own-chains match in
      let led-old : AreLed mid new put behind (entry_in old row) before after =
      subst (λ (e : Entry). AreLed mid new put behind e before after) (entry-grown old mid grows row in-old)
      (subst (λ (f : ℕ → Option Tree). AreLed mid new f behind (entry_in mid row) before after) (grown-put old mid grows slots there) led) in (
        subst (λ (es : List Entry). AreChains new put es count after) (sym own) (chains-led mid new put behind (entry_in old row) (entries_of level Existential (drop n (entries_in old rows))) count before after so chains led-old),
        ap some_entries (sym own),
      )
