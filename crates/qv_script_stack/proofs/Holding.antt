-- What is held through the moves of commands that speak of no terms.
use Rattle.std.proofs.Common.{◌≡◌, ◌≤◌, ◌+◌, ◌-◌, ℕ, zero, suc, Bool, true, false, cond, Some, None, List, [], ◌∷◌, ◌++◌, map, length, take, drop, replicate, slice_get, refl, sym, ap, subst, ◌∙◌, append_assoc, length-append, arith}
use Rattle.std.specs.Prelude.{reverse, unwrap_or, is_some, option_map, codes, ◌||◌, Option}
use Rattle.std.specs.Str.{bytes_eq}
use Rattle.qv_sorts.specs.Search.{operator_named}
use Rattle.qv_elab_items.specs.Places.{place_in}
use Rattle.qv_elab_scope.specs.Force.{is_reserved, is_taken as force_taken, is_sort_taken as force_sort_taken}
use Rattle.std.proofs.lemmas.List.{append-nil, reverse-append, length-reverse, length-map, take-map, map-append}
use Rattle.std.proofs.lemmas.Option.{slice_get_past}
use Rattle.qv_words.specs.declared.sort.Sort.{Sort}
use Rattle.qv_words.specs.Sort.{IsLawful}
use Rattle.qv_words.specs.Word.{word_sort, word_value, sorts_of}
use Rattle.qv_words.specs.Tree.{Tree}
use Rattle.qv_elab_scope.specs.declared.scope.Kept.{Kept}
use Rattle.qv_elab_scope.specs.declared.scope.Kept.TheVariants as kept
use Rattle.qv_elab_scope.specs.Force.{Force, count_constant, constants_in, with_name, names_below, closed, merged}
use Rattle.qv_elab_defs.specs.Sorts.{is_sort_name}
use Rattle.qv_elab_defs.specs.Scopes.{Entry, Constant, Scope, found, sort_key, if_constant, constants_of, declared}
use Rattle.qv_elab_defs.specs.TreeLaws.{declares}
use Rattle.qv_elab_defs.specs.TreeLaws.{empty as no_scope}
use Rattle.qv_elab_scope.specs.Kept.{IsKeptFor, AreKeptFor, IsScopeIn}
use Rattle.qv_script_stack.specs.declared.held.Chosen.{Chosen}
use Rattle.qv_script_stack.specs.declared.held.Last.{Last as Answer}
use Rattle.qv_script_stack.specs.declared.held.Last.TheVariants as answer
use Rattle.qv_script_stack.specs.declared.held.Declared.{Declared}
use Rattle.qv_script_stack.specs.declared.held.Named.{Named as NamedAssertion}
use Rattle.qv_script_stack.specs.declared.held.Level.{Level as Start}
use Rattle.qv_script_defs.specs.declared.counts.Counts.{Counts}
use Rattle.qv_script_defs.specs.State.{Assertion, Level, State, Sat, answered, is_taken, is_sort_taken, levels, scope_of, in_force, constants, opening, longer, with_constant, kept_of, innermost, in_front, pushed, popped, forgetful, emptied}
use Rattle.qv_script_stack.specs.Held.{Held, AreAt, asserted, scope_within, names_from, named_of, declared_of, size_of, sizes_around, names_around, nothing, chosen_of, padded, answer_of, last_of, HaveSorts, HaveFirstSorts, IsScriptIn}
use Rattle.qv_script_stack.specs.Changes.{forgotten, size, size_below, more_levels, dropped_levels, merged_levels, fewer_levels, unasserted, cleared, with_option}
use Rattle.qv_script_stack.specs.Changes.{with_constant as constant_held, emptied as emptied_held}
use Rattle.qv_script_defs.proofs.Steady.{levels-changed, scope-behind, scopes-split}
use Rattle.qv_script_stack.proofs.Sized.{in-force, with_front, front-scope, front-asserted, changed-names, changed-sizes, changed-logic, changed-nested, changed-begun, changed-success, changed-global, changed-options, changed-counts, changed-assumed, changed-terms, fronts-scope, fronts-asserted, replicate-last, more-scope, more-asserted, more-names, more-sizes, names-count, sizes-count, left-names, left-sizes, names-at, sizes-at, asserted-left, scope-left, names-left, constants-left}

-- values of the constants that there were, and 0 for those behind them
padded-more : (n m : ℕ) (vs : List ℕ) → length vs ≤ n → m ≡ suc n → padded m vs ≡ padded n vs ++ 0 ∷ []
padded-more n m vs le e =
    let one : m - length vs ≡ suc (n - length vs) = omega (arith, le, e) in
    ap (λ k. vs ++ replicate k 0) one ∙ ap (λ zs. vs ++ zs) (sym (replicate-last (n - length vs) 0)) ∙ sym (append_assoc vs (replicate (n - length vs) 0) (0 ∷ []))

padded-full : (n : ℕ) (vs : List ℕ) → length vs ≡ n → padded n vs ≡ vs
padded-full n vs e =
    let nothing_left : n - length vs ≡ 0 = omega (arith, e) in
    ap (λ k. vs ++ replicate k 0) nothing_left ∙ append-nil vs

more-constants : (own : Declared) (owns : List Declared) → length (owns ++ own ∷ []) ≡ suc (length owns)
more-constants own owns = let more = length-append owns (own ∷ []) in omega arith

longer-last : (own : Declared) (owns : List Declared) (o : Option Answer) → HaveFirstSorts owns o → last_of (length (owns ++ own ∷ [])) o ≡ option_map longer (last_of (length owns) o)
longer-last own owns None h = refl
longer-last own owns (Some answer.Unsat) h = refl
longer-last own owns (Some (answer.Unknown spent)) h = refl
longer-last own owns (Some (answer.Sat values)) h =
    let all = sym (length-map owns (λ (x : Declared). x.sort)) ∙ ap length h.1 ∙ length-append (sorts_of values.items) h.0 in
    let sorts = length-map values.items word_sort in
    let words = length-map values.items word_value in
    let few : length (map word_value values.items) ≤ length owns = omega (arith, all, sorts, words) in
    ap (λ vs. Some (Sat vs)) (padded-more (length owns) (length (owns ++ own ∷ [])) (map word_value values.items) few (more-constants own owns))

more-sorts : (own : Declared) (owns : List Declared) (o : Option Answer) → HaveFirstSorts owns o → HaveFirstSorts (owns ++ own ∷ []) o
more-sorts own owns None h = tt
more-sorts own owns (Some answer.Unsat) h = tt
more-sorts own owns (Some (answer.Unknown spent)) h = tt
more-sorts own owns (Some (answer.Sat values)) h = (
  h.0 ++ own.sort ∷ [],
  map-append (λ (x : Declared). x.sort) owns (own ∷ []) ∙ ap (λ ss. ss ++ own.sort ∷ []) h.1 ∙ append_assoc (sorts_of values.items) h.0 (own.sort ∷ []),
)

-- an answer that is given now
full-answer : (owns : List Declared) (a : Answer) → HaveSorts owns (Some a) → last_of (length owns) (Some a) ≡ Some (answer_of a)
full-answer owns answer.Unsat h = refl
full-answer owns (answer.Unknown spent) h = refl
full-answer owns (answer.Sat values) h =
    let all = ap length h ∙ length-map owns (λ (x : Declared). x.sort) in
    let sorts = length-map values.items word_sort in
    let words = length-map values.items word_value in
    let each : length (map word_value values.items) ≡ length owns = omega (arith, all, sorts, words) in
    ap (λ vs. Some (Sat vs)) (padded-full (length owns) (map word_value values.items) each)

first-sorts : (owns : List Declared) (a : Answer) → HaveSorts owns (Some a) → HaveFirstSorts owns (Some a)
first-sorts owns answer.Unsat h = tt
first-sorts owns (answer.Unknown spent) h = tt
first-sorts owns (answer.Sat values) h = ([], sym h ∙ sym (append-nil (sorts_of values.items)))

module _ (trees : List Tree) where
  -- constants of a scope in a store
  constants-kept : (names : List (List ℕ)) (ks : List Kept) (scope : Scope) → AreKeptFor trees names ks scope → length (constants_of scope) ≡ constants_in ks
  constants-kept [] [] [] h = refl
  constants-kept [] [] (x ∷ scope) h = absurd h
  constants-kept [] (k ∷ ks) scope h = absurd h
  constants-kept (n ∷ names) [] scope h = absurd h
  constants-kept (n ∷ names) (k ∷ ks) [] h = absurd h
  constants-kept (n ∷ names) (k ∷ ks) (x ∷ scope) h =
      let rest = constants-kept names ks scope h.2 in
      let one = one-kept k x.1 h.1 in
      omega (arith, length-append (constants_of scope) (if_constant x.0 x.1), rest, one)
    where
      one-kept : (k : Kept) (e : Entry) → IsKeptFor trees scope k e → length (if_constant x.0 e) ≡ count_constant k
      one-kept (kept.Constant i s) e h = ap (λ y. length (if_constant x.0 y)) h
      one-kept (kept.Definition ss body) e h = ap (λ y. length (if_constant x.0 y)) h.entry_is
      one-kept (kept.Synonym s) e h = ap (λ y. length (if_constant x.0 y)) h

  names-kept : (names : List (List ℕ)) (ks : List Kept) (scope : Scope) → AreKeptFor trees names ks scope → (length names ≡ length scope) × (length ks ≡ length scope)
  names-kept [] [] [] h = (refl, refl)
  names-kept [] [] (x ∷ scope) h = absurd h
  names-kept [] (k ∷ ks) scope h = absurd h
  names-kept (n ∷ names) [] scope h = absurd h
  names-kept (n ∷ names) (k ∷ ks) [] h = absurd h
  names-kept (n ∷ names) (k ∷ ks) (x ∷ scope) h = let rest = names-kept names ks scope h.2 in (ap suc rest.0, ap suc rest.1)

  behind-kept : (names : List (List ℕ)) (ks : List Kept) (front scope : Scope) → AreKeptFor trees names ks (front ++ scope) → AreKeptFor trees (drop (length front) names) (drop (length front) ks) scope
  behind-kept names ks [] scope h = h
  behind-kept [] [] (x ∷ front) scope h = absurd h
  behind-kept [] (k ∷ ks) (x ∷ front) scope h = absurd h
  behind-kept (n ∷ names) [] (x ∷ front) scope h = absurd h
  behind-kept (n ∷ names) (k ∷ ks) (x ∷ front) scope h = behind-kept names ks front scope h.2

  constants-append : (xs ys : List Kept) → constants_in (xs ++ ys) ≡ constants_in xs + constants_in ys
  constants-append [] ys = omega arith
  constants-append (x ∷ xs) ys = let rest = constants-append xs ys in omega arith

  constants-reversed : (ks : List Kept) → constants_in (reverse ks) ≡ constants_in ks
  constants-reversed [] = refl
  constants-reversed (k ∷ ks) =
      let rest = constants-reversed ks in
      let split = ap constants_in (reverse-append (k ∷ []) ks) in
      omega (arith, rest, split, constants-append (reverse ks) (k ∷ []))

  pub scope-declared : (force : Force) (scope : Scope) (name : List ℕ) (s : Sort) → IsLawful s → IsScopeIn trees force scope → IsScopeIn trees (with_name name (kept.Constant (constants_in force.kept) s) force) (declared name s scope)
  scope-declared force scope name s lawful h =
      let count : length (constants_of scope) ≡ constants_in force.kept = constants-kept force.names (reverse force.kept) scope h.kept ∙ constants-reversed force.kept in
      record {
        is_scope = declares scope name s h.is_scope lawful;
        kept = subst (λ ks. AreKeptFor trees (name ∷ force.names) ks (declared name s scope)) (sym (reverse-append force.kept (kept.Constant (constants_in force.kept) s ∷ [])))
            (refl, ap (λ i. Constant i s) count, h.kept);
      }

  -- trees of ids
  pub ids-count : (ids : List ℕ) (ts : List Tree) → AreAt trees ids ts → length ids ≡ length ts
  ids-count [] [] h = refl
  ids-count [] (t ∷ ts) h = absurd h
  ids-count (i ∷ ids) [] h = absurd h
  ids-count (i ∷ ids) (t ∷ ts) h = ap suc (ids-count ids ts h.1)

  ids-left : (ids : List ℕ) (xs ys : List Assertion) → AreAt trees ids (map (λ a. a.tree) (xs ++ ys)) → AreAt trees (take (length xs) ids) (map (λ a. a.tree) xs)
  ids-left ids [] ys h = tt
  ids-left [] (x ∷ xs) ys h = absurd h
  ids-left (i ∷ ids) (x ∷ xs) ys h = (h.0, ids-left ids xs ys h.1)

  -- a constant more
  pub held-constant : (k : Held) (s : State) (own : Declared) → IsLawful own.sort → IsScriptIn trees k s → IsScriptIn trees (constant_held own k) (with_constant own.name.items own.sort s)
  held-constant k s own lawful h =
      let x : List ℕ × Entry = (own.name.items, Constant (length (constants s)) own.sort) in
      let ls = levels-changed (with_front x) s in
      let scope_is : scope_of (with_constant own.name.items own.sort s) ≡ x ∷ scope_of s = ap scope_within ls ∙ front-scope x s.opened s.bottom in
      let asserted_is : asserted (levels (with_constant own.name.items own.sort s)) ≡ asserted (levels s) = ap asserted ls ∙ front-asserted x s.opened s.bottom in
      let forced : in_force (with_constant own.name.items own.sort s) ≡ in_force s = in-force (with_constant own.name.items own.sort s) ∙ ap (λ qs. map (λ a. a.tree) qs) asserted_is ∙ sym (in-force s) in
      record {
        scope = subst (λ xs. IsScopeIn trees (constant_held own k).force xs) (sym scope_is) (scope-declared k.force (scope_of s) own.name.items own.sort lawful h.scope);
        names = h.names ∙ sym (changed-names (with_front x) s s.opened refl);
        starts = h.starts ∙ sym (changed-sizes (with_front x) s s.opened refl);
        assertions = subst (λ ts. AreAt trees k.assertions ts) (sym forced) h.assertions;
        named = h.named ∙ ap (λ qs. names_from 0 qs) (sym asserted_is);
        constants = map-append (λ (d : Declared). (d.name.items, d.sort)) k.constants (own ∷ []) ∙ ap (λ cs. cs ++ (own.name.items, own.sort) ∷ []) h.constants ∙ ap constants_of (sym scope_is);
        logic = h.logic ∙ sym (changed-logic (with_front x) s s.opened);
        begun = refl;
        nested = h.nested ∙ sym (changed-nested (with_front x) s s.opened);
        success = h.success ∙ sym (changed-success (with_front x) s s.opened);
        global = h.global ∙ sym (changed-global (with_front x) s s.opened);
        options = h.options ∙ sym (changed-options (with_front x) s s.opened);
        counts = h.counts ∙ sym (changed-counts (with_front x) s s.opened);
        last = longer-last own k.constants k.last h.values ∙ ap (option_map longer) h.last;
        values = more-sorts own k.constants k.last h.values;
        assumed = subst (λ ts. AreAt trees k.assumed ts) (sym (changed-assumed (with_front x) s s.opened)) h.assumed;
        terms = h.terms ∙ sym (changed-terms (with_front x) s s.opened);
        texts = h.texts;
      }

  -- how much is held
  pub size-held : (k : Held) (s : State) → IsScriptIn trees k s → size k ≡ size_of (levels s)
  size-held k s h =
      let one : length k.assertions ≡ length (asserted (levels s)) = ids-count k.assertions (in_force s) h.assertions ∙ ap length (in-force s) ∙ length-map (asserted (levels s)) (λ a. a.tree) in
      let two : length k.named ≡ length (names_from 0 (asserted (levels s))) = sym (length-map k.named (λ x. (x.name.items, x.assertion))) ∙ ap length h.named in
      let three : length k.constants ≡ length (constants s) = sym (length-map k.constants (λ x. (x.name.items, x.sort))) ∙ ap length h.constants in
      go _ _ _ _ _ _ one two three
    where
      go : (a b c x y z : ℕ) → a ≡ x → b ≡ y → c ≡ z → ◌≡◌ {A = Start} (record { assertions = a; named = b; constants = c }) (record { assertions = x; named = y; constants = z })
      go a b c x y z e f g = cc

  -- levels more
  pub held-pushed : (k : Held) (s : State) (n : ℕ) → IsScriptIn trees k s → IsScriptIn trees (more_levels n k) (pushed n s)
  held-pushed k s n h =
      let o = s.opened in
      let b = s.bottom in
      let forced : in_force (pushed n s) ≡ in_force s = in-force (pushed n s) ∙ ap (λ qs. map (λ a. a.tree) qs) (more-asserted o b n) ∙ sym (in-force s) in
      let scope_is : scope_of (pushed n s) ≡ scope_of s = more-scope o b n in
      let count : length k.force.names ≡ length (scope_of s) = (names-kept k.force.names (reverse k.force.kept) (scope_of s) h.scope.kept).0 in
      record {
        scope = subst (λ xs. IsScopeIn trees (more_levels n k).force xs) (sym scope_is) (record { is_scope = h.scope.is_scope; kept = h.scope.kept });
        names = ap (λ ns. ns ++ replicate n (length k.force.names)) h.names ∙ ap (λ m. names_around o b ++ replicate n m) count ∙ sym (more-names o b n);
        starts = ap (λ ns. ns ++ replicate n (size k)) h.starts ∙ ap (λ m. sizes_around o b ++ replicate n m) (size-held k s h) ∙ sym (more-sizes o b n);
        assertions = subst (λ ts. AreAt trees k.assertions ts) (sym forced) h.assertions;
        named = h.named ∙ ap (λ qs. names_from 0 qs) (sym (more-asserted o b n));
        constants = h.constants ∙ ap constants_of (sym scope_is);
        logic = h.logic;
        begun = h.begun;
        nested = refl;
        success = h.success;
        global = h.global;
        options = h.options;
        counts = h.counts;
        last = refl;
        values = tt;
        assumed = tt;
        terms = refl;
        texts = tt;
      }

  -- levels fewer
  sizes-below : (k : Held) (s : State) (n : ℕ) → n ≤ length s.opened → IsScriptIn trees k s → size_below n k ≡ size_of (drop n s.opened ++ s.bottom ∷ [])
  sizes-below k s zero le h =
      let past : slice_get k.starts (length k.starts - 0) ≡ None = slice_get_past k.starts (length k.starts - 0) (omega arith) in
      ap (λ o. unwrap_or o (size k)) past ∙ size-held k s h
  sizes-below k s (suc n) le h =
      let same : slice_get k.starts (length k.starts - suc n) ≡ slice_get (sizes_around s.opened s.bottom) (length s.opened - suc n) =
      ap (λ xs. slice_get xs (length xs - suc n)) h.starts ∙ ap (λ m. slice_get (sizes_around s.opened s.bottom) (m - suc n)) (sizes-count s.opened s.bottom) in
      ap (λ o. unwrap_or o (size k)) (same ∙ sizes-at s.bottom n s.opened le)

  scopes-below : (k : Held) (s : State) (n : ℕ) → n ≤ length s.opened → IsScriptIn trees k s → names_below n k.force ≡ length (scope_within (drop n s.opened ++ s.bottom ∷ []))
  scopes-below k s zero le h =
      let past : slice_get k.force.starts (length k.force.starts - 0) ≡ None = slice_get_past k.force.starts (length k.force.starts - 0) (omega arith) in
      ap (λ o. unwrap_or o (length k.force.names)) past ∙ (names-kept k.force.names (reverse k.force.kept) (scope_of s) h.scope.kept).0
  scopes-below k s (suc n) le h =
      let same : slice_get k.force.starts (length k.force.starts - suc n) ≡ slice_get (names_around s.opened s.bottom) (length s.opened - suc n) =
      ap (λ xs. slice_get xs (length xs - suc n)) h.names ∙ ap (λ m. slice_get (names_around s.opened s.bottom) (m - suc n)) (names-count s.opened s.bottom) in
      ap (λ o. unwrap_or o (length k.force.names)) (same ∙ names-at s.bottom n s.opened le)

  reverse-taken : (ks : List Kept) (m : ℕ) → m ≤ length ks → reverse (take m ks) ≡ drop (length ks - m) (reverse ks)
  reverse-taken ks m le =
      let whole = ap reverse (take-drop ks m) ∙ reverse-append (take m ks) (drop m ks) in
      let count : length (reverse (drop m ks)) ≡ length ks - m = length-reverse (drop m ks) ∙ length-dropped ks m in
      sym (ap (λ xs. drop (length ks - m) xs) whole ∙ ap (λ i. drop i (reverse (drop m ks) ++ reverse (take m ks))) (sym count) ∙ drop-front (reverse (drop m ks)) (reverse (take m ks)))
    where
      take-drop : (xs : List Kept) (m : ℕ) → xs ≡ take m xs ++ drop m xs
      take-drop xs zero = refl
      take-drop [] (suc m) = refl
      take-drop (x ∷ xs) (suc m) = ap (λ ys. x ∷ ys) (take-drop xs m)

      length-dropped : (xs : List Kept) (m : ℕ) → length (drop m xs) ≡ length xs - m
      length-dropped xs zero = omega arith
      length-dropped [] (suc m) = omega arith
      length-dropped (x ∷ xs) (suc m) = let rest = length-dropped xs m in omega (arith, rest)

      drop-front : (xs ys : List Kept) → drop (length xs) (xs ++ ys) ≡ ys
      drop-front [] ys = refl
      drop-front (x ∷ xs) ys = drop-front xs ys

  scope-popped : (force : Force) (n left : ℕ) (front scope : Scope) → names_below n force ≡ length scope → IsScopeIn trees force (front ++ scope) → IsScopeIn trees (closed n force) scope
  scope-popped force n left front scope e h =
      let counts = names-kept force.names (reverse force.kept) (front ++ scope) h.kept in
      let all = length-append front scope in
      let some : length force.names - names_below n force ≡ length front = omega (arith, e, counts.0, all) in
      let same : length force.kept ≡ length (reverse force.kept) = sym (length-reverse force.kept) in
      let few : names_below n force ≤ length force.kept = omega (arith, e, counts.1, same, all) in
      let gone : length force.kept - names_below n force ≡ length front = omega (arith, e, counts.1, same, all) in
      record {
        is_scope = scope-behind front scope h.is_scope;
        kept = subst (λ ks. AreKeptFor trees (drop (length force.names - names_below n force) force.names) ks scope) (sym (reverse-taken force.kept (names_below n force) few ∙ ap (λ m. drop m (reverse force.kept)) gone))
            (subst (λ m. AreKeptFor trees (drop m force.names) (drop (length front) (reverse force.kept)) scope) (sym some) (behind-kept force.names (reverse force.kept) front scope h.kept));
      }

  take-append : {A : Type 0} (xs ys : List A) → take (length xs) (xs ++ ys) ≡ xs
  take-append [] ys = refl
  take-append (x ∷ xs) ys = ap (λ zs. x ∷ zs) (take-append xs ys)

  -- what both kinds of declarations have in common
  module _ (k : Held) (s : State) (n : ℕ) (le : n ≤ length s.opened) (h : IsScriptIn trees k s) where
    abbrev left : State
    left = record s { opened = drop n s.opened }

    abbrev change : Level → Level
    change = in_front (kept_of s.global (innermost n s))

    below : size_below n k ≡ size_of (levels left)
    below = sizes-below k s n le h

    stays_of : scope_of (popped n s) ≡ kept_of s.global (innermost n s) ++ scope_of left
    stays_of = ap scope_within (levels-changed change left) ∙ fronts-scope (kept_of s.global (innermost n s)) (drop n s.opened) s.bottom

    asserted_is : asserted (levels (popped n s)) ≡ asserted (levels left)
    asserted_is = ap asserted (levels-changed change left) ∙ fronts-asserted (kept_of s.global (innermost n s)) (drop n s.opened) s.bottom

    names_left : take (length k.force.starts - n) k.force.starts ≡ names_around (popped n s).opened (popped n s).bottom
    names_left =
        ap (λ m. take (m - n) k.force.starts) (ap length h.names ∙ names-count s.opened s.bottom) ∙ ap (λ xs. take (length s.opened - n) xs) h.names ∙ sym (left-names s.bottom n s.opened le)
        ∙ sym (changed-names change left left.opened refl)

    starts_left : take (length k.starts - n) k.starts ≡ sizes_around (popped n s).opened (popped n s).bottom
    starts_left =
        ap (λ m. take (m - n) k.starts) (ap length h.starts ∙ sizes-count s.opened s.bottom) ∙ ap (λ xs. take (length s.opened - n) xs) h.starts ∙ sym (left-sizes s.bottom n s.opened le)
        ∙ sym (changed-sizes change left left.opened refl)

    assertions_left : AreAt trees (take (size_below n k).assertions k.assertions) (in_force (popped n s))
    assertions_left =
        let a = asserted-left s.bottom n s.opened in
        let few : (size_below n k).assertions ≡ length (asserted (levels left)) = ap (λ (x : Start). x.assertions) below in
        let ids : AreAt trees k.assertions (map (λ x. x.tree) (asserted (levels left) ++ a.0)) = subst (λ ts. AreAt trees k.assertions ts) (in-force s ∙ ap (λ qs. map (λ x. x.tree) qs) a.1) h.assertions in
        subst (λ ts. AreAt trees (take (size_below n k).assertions k.assertions) ts) (sym (in-force (popped n s) ∙ ap (λ qs. map (λ x. x.tree) qs) asserted_is))
        (subst (λ m. AreAt trees (take m k.assertions) (map (λ x. x.tree) (asserted (levels left)))) (sym few) (ids-left k.assertions (asserted (levels left)) a.0 ids))

    named_left : named_of (take (size_below n k).named k.named) ≡ names_from 0 (asserted (levels (popped n s)))
    named_left =
        let a = asserted-left s.bottom n s.opened in
        let names = names-left 0 (asserted (levels left)) a.0 in
        let few : (size_below n k).named ≡ length (names_from 0 (asserted (levels left))) = ap (λ (x : Start). x.named) below in
        sym (take-map (λ (x : NamedAssertion). (x.name.items, x.assertion)) (size_below n k).named k.named)
        ∙ ap (λ m. take m (named_of k.named)) few
        ∙ ap (λ xs. take (length (names_from 0 (asserted (levels left)))) xs) (h.named ∙ ap (λ qs. names_from 0 qs) a.1 ∙ names.1)
        ∙ take-append (names_from 0 (asserted (levels left))) names.0
        ∙ ap (λ qs. names_from 0 qs) (sym asserted_is)

    -- declarations and definitions go with their levels
    held-dropped : k.global ≡ false → IsScriptIn trees (dropped_levels n k) (popped n s)
    held-dropped e =
        let scope_is : scope_of (popped n s) ≡ scope_of left = stays_of ∙ ap (λ b. kept_of b (innermost n s) ++ scope_of left) (sym h.global ∙ e) in
        let c = scope-left s.bottom n s.opened in
        let constants = constants-left c.0 (scope_of left) in
        let few : (size_below n k).constants ≡ length (constants_of (scope_of left)) = ap (λ (x : Start). x.constants) below in
        record {
          scope = subst (λ xs. IsScopeIn trees (closed n k.force) xs) (sym scope_is) (scope-popped k.force n 0 c.0 (scope_of left) (scopes-below k s n le h) (subst (λ xs. IsScopeIn trees k.force xs) c.1 h.scope));
          names = names_left;
          starts = starts_left;
          assertions = assertions_left;
          named = named_left;
          constants = sym (take-map (λ (x : Declared). (x.name.items, x.sort)) (size_below n k).constants k.constants)
              ∙ ap (λ m. take m (declared_of k.constants)) few
              ∙ ap (λ xs. take (length (constants_of (scope_of left))) xs) (h.constants ∙ ap constants_of c.1 ∙ constants.1)
              ∙ take-append (constants_of (scope_of left)) constants.0
              ∙ ap constants_of (sym scope_is);
          logic = h.logic ∙ sym (changed-logic change left left.opened);
          begun = h.begun ∙ sym (changed-begun change left left.opened);
          nested = h.nested ∙ sym (changed-nested change left left.opened);
          success = h.success ∙ sym (changed-success change left left.opened);
          global = h.global ∙ sym (changed-global change left left.opened);
          options = h.options ∙ sym (changed-options change left left.opened);
          counts = h.counts ∙ sym (changed-counts change left left.opened);
          last = refl;
          values = tt;
          assumed = tt;
          terms = refl;
          texts = tt;
        }

    -- they stay
    held-merged : k.global ≡ true → IsScriptIn trees (merged_levels n k) (popped n s)
    held-merged e =
        let scope_is : scope_of (popped n s) ≡ scope_of s = stays_of ∙ ap (λ b. kept_of b (innermost n s) ++ scope_of left) (sym h.global ∙ e) ∙ sym (scopes-split n s.opened (s.bottom ∷ [])) in
        record {
          scope = subst (λ xs. IsScopeIn trees (merged n k.force) xs) (sym scope_is) (record { is_scope = h.scope.is_scope; kept = h.scope.kept });
          names = names_left;
          starts = starts_left;
          assertions = assertions_left;
          named = named_left;
          constants = h.constants ∙ ap constants_of (sym scope_is);
          logic = h.logic ∙ sym (changed-logic change left left.opened);
          begun = h.begun ∙ sym (changed-begun change left left.opened);
          nested = h.nested ∙ sym (changed-nested change left left.opened);
          success = h.success ∙ sym (changed-success change left left.opened);
          global = h.global ∙ sym (changed-global change left left.opened);
          options = h.options ∙ sym (changed-options change left left.opened);
          counts = h.counts ∙ sym (changed-counts change left left.opened);
          last = refl;
          values = tt;
          assumed = tt;
          terms = refl;
          texts = tt;
        }

    pub held-popped : IsScriptIn trees (fewer_levels n k) (popped n s)
    held-popped = go k.global refl
      where
        go : (b : Bool) → k.global ≡ b → IsScriptIn trees (cond b (merged_levels n k) (dropped_levels n k)) (popped n s)
        go true e = held-merged e
        go false e = held-dropped e

  -- how many levels are open
  pub levels-held : (k : Held) (s : State) → IsScriptIn trees k s → (length k.starts ≡ length s.opened) × (length k.force.starts ≡ length s.opened)
  levels-held k s h = (ap length h.starts ∙ sizes-count s.opened s.bottom, ap length h.names ∙ names-count s.opened s.bottom)

  pub held-nothing : IsScriptIn trees nothing opening
  held-nothing = record {
    scope = record { is_scope = no_scope; kept = tt };
    names = refl;
    starts = refl;
    assertions = tt;
    named = refl;
    constants = refl;
    logic = refl;
    begun = refl;
    nested = refl;
    success = refl;
    global = refl;
    options = refl;
    counts = refl;
    last = refl;
    values = tt;
    assumed = tt;
    terms = refl;
    texts = tt;
  }

  no-more : {A : Type 0} (xs : List A) → take (length xs - length xs) xs ≡ []
  no-more xs = let none_left : length xs - length xs ≡ 0 = omega arith in ap (λ m. take m xs) none_left

  held-cleared : (k : Held) (s : State) → k.global ≡ false → IsScriptIn trees k s → IsScriptIn trees (cleared k) (emptied s)
  held-cleared k s e h =
      let scope_is : scope_of (emptied s) ≡ [] = ap (λ b. kept_of b (scope_of s) ++ []) (sym h.global ∙ e) in
      record {
        scope = subst (λ xs. IsScopeIn trees (record { names = []; kept = []; starts = [] }) xs) (sym scope_is) (record { is_scope = no_scope; kept = tt });
        names = refl;
        starts = refl;
        assertions = tt;
        named = refl;
        constants = ap constants_of (sym scope_is);
        logic = h.logic;
        begun = h.begun;
        nested = h.nested;
        success = h.success;
        global = h.global;
        options = h.options;
        counts = h.counts;
        last = refl;
        values = tt;
        assumed = tt;
        terms = refl;
        texts = tt;
      }

  held-unasserted : (k : Held) (s : State) → k.global ≡ true → IsScriptIn trees k s → IsScriptIn trees (unasserted k) (emptied s)
  held-unasserted k s e h =
      let scope_is : scope_of (emptied s) ≡ scope_of s = ap (λ b. kept_of b (scope_of s) ++ []) (sym h.global ∙ e) ∙ append-nil (scope_of s) in
      record {
        scope = subst (λ xs. IsScopeIn trees (merged (length k.force.starts) k.force) xs) (sym scope_is) (record { is_scope = h.scope.is_scope; kept = h.scope.kept });
        names = no-more k.force.starts;
        starts = refl;
        assertions = tt;
        named = refl;
        constants = h.constants ∙ ap constants_of (sym scope_is);
        logic = h.logic;
        begun = h.begun;
        nested = h.nested;
        success = h.success;
        global = h.global;
        options = h.options;
        counts = h.counts;
        last = refl;
        values = tt;
        assumed = tt;
        terms = refl;
        texts = tt;
      }

  pub held-emptied : (k : Held) (s : State) → IsScriptIn trees k s → IsScriptIn trees (emptied_held k) (emptied s)
  held-emptied k s h = go k.global refl
    where
      go : (b : Bool) → k.global ≡ b → IsScriptIn trees (cond b (unasserted k) (cleared k)) (emptied s)
      go true e = held-unasserted k s e h
      go false e = held-cleared k s e h

  -- an answer now
  pub held-answered : (k : Held) (s : State) (a : Answer) (counts : Counts) → HaveSorts k.constants (Some a) → IsScriptIn trees k s → IsScriptIn trees (record k { last = Some a; counts = Some counts }) (answered (answer_of a) counts s)
  held-answered k s a counts sorts h = record {
    scope = h.scope;
    names = h.names;
    starts = h.starts;
    assertions = h.assertions;
    named = h.named;
    constants = h.constants;
    logic = h.logic;
    begun = h.begun;
    nested = h.nested;
    success = h.success;
    global = h.global;
    options = h.options;
    counts = refl;
    last = full-answer k.constants a sorts;
    values = first-sorts k.constants a sorts;
    assumed = h.assumed;
    terms = h.terms;
    texts = h.texts;
  }

  pub held-forgotten : (k : Held) (s : State) → IsScriptIn trees k s → IsScriptIn trees (forgotten k) (forgetful s)
  held-forgotten k s h = record {
    scope = h.scope;
    names = h.names;
    starts = h.starts;
    assertions = h.assertions;
    named = h.named;
    constants = h.constants;
    logic = h.logic;
    begun = h.begun;
    nested = h.nested;
    success = h.success;
    global = h.global;
    options = h.options;
    counts = h.counts;
    last = refl;
    values = tt;
    assumed = tt;
    terms = refl;
    texts = tt;
  }

  pub held-logic : (k : Held) (s : State) → IsScriptIn trees k s → IsScriptIn trees (record k { logic = true }) (record s { logic = true })
  held-logic k s h = record {
    scope = h.scope;
    names = h.names;
    starts = h.starts;
    assertions = h.assertions;
    named = h.named;
    constants = h.constants;
    logic = refl;
    begun = h.begun;
    nested = h.nested;
    success = h.success;
    global = h.global;
    options = h.options;
    counts = h.counts;
    last = h.last;
    values = h.values;
    assumed = h.assumed;
    terms = h.terms;
    texts = h.texts;
  }

  pub held-success : (b : Bool) (k : Held) (s : State) → IsScriptIn trees k s → IsScriptIn trees (record k { success = b }) (record s { success = b })
  held-success b k s h = record {
    scope = h.scope;
    names = h.names;
    starts = h.starts;
    assertions = h.assertions;
    named = h.named;
    constants = h.constants;
    logic = h.logic;
    begun = h.begun;
    nested = h.nested;
    success = refl;
    global = h.global;
    options = h.options;
    counts = h.counts;
    last = h.last;
    values = h.values;
    assumed = h.assumed;
    terms = h.terms;
    texts = h.texts;
  }

  pub held-global : (b : Bool) (k : Held) (s : State) → IsScriptIn trees k s → IsScriptIn trees (record k { global = b }) (record s { global = b })
  held-global b k s h = record {
    scope = h.scope;
    names = h.names;
    starts = h.starts;
    assertions = h.assertions;
    named = h.named;
    constants = h.constants;
    logic = h.logic;
    begun = h.begun;
    nested = h.nested;
    success = h.success;
    global = refl;
    options = h.options;
    counts = h.counts;
    last = h.last;
    values = h.values;
    assumed = h.assumed;
    terms = h.terms;
    texts = h.texts;
  }

  -- an option that is set more
  pub held-option : (own : Chosen) (k : Held) (s : State) → IsScriptIn trees k s → IsScriptIn trees (with_option own k) (record s { options = (own.key.items, own.value.items) ∷ s.options })
  held-option own k s h = record {
    scope = h.scope;
    names = h.names;
    starts = h.starts;
    assertions = h.assertions;
    named = h.named;
    constants = h.constants;
    logic = h.logic;
    begun = h.begun;
    nested = h.nested;
    success = h.success;
    global = h.global;
    options = ap reverse (map-append (λ (x : Chosen). (x.key.items, x.value.items)) k.options (own ∷ []))
        ∙ reverse-append (map (λ (x : Chosen). (x.key.items, x.value.items)) k.options) ((own.key.items, own.value.items) ∷ [])
        ∙ ap (λ os. (own.key.items, own.value.items) ∷ os) h.options;
    counts = h.counts;
    last = h.last;
    values = h.values;
    assumed = h.assumed;
    terms = h.terms;
    texts = h.texts;
  }

-- the options that were set, with one more
pub chosen-more : (key : List ℕ) (xs : List Chosen) (own : Chosen) → found key (chosen_of (xs ++ own ∷ [])) ≡ cond (bytes_eq own.key.items key) (Some own.value.items) (found key (chosen_of xs))
chosen-more key xs own =
    let f : Chosen → List ℕ × List ℕ = λ x. (x.key.items, x.value.items) in
    ap (λ ps. found key (reverse ps)) (map-append f xs (own ∷ [])) ∙ ap (found key) (reverse-append (map f xs) (f own ∷ []))

-- a name that is taken
shuffled : (o d t f q : Bool) → ((((o || d) || t) || f) || q) ≡ ((q || o) || (d || (t || (f || false))))
shuffled true true true true true = refl
shuffled true true true true false = refl
shuffled true true true false true = refl
shuffled true true true false false = refl
shuffled true true false true true = refl
shuffled true true false true false = refl
shuffled true true false false true = refl
shuffled true true false false false = refl
shuffled true false true true true = refl
shuffled true false true true false = refl
shuffled true false true false true = refl
shuffled true false true false false = refl
shuffled true false false true true = refl
shuffled true false false true false = refl
shuffled true false false false true = refl
shuffled true false false false false = refl
shuffled false true true true true = refl
shuffled false true true true false = refl
shuffled false true true false true = refl
shuffled false true true false false = refl
shuffled false true false true true = refl
shuffled false true false true false = refl
shuffled false true false false true = refl
shuffled false true false false false = refl
shuffled false false true true true = refl
shuffled false false true true false = refl
shuffled false false true false true = refl
shuffled false false true false false = refl
shuffled false false false true true = refl
shuffled false false false true false = refl
shuffled false false false false true = refl
shuffled false false false false false = refl

place-found : (trees : List Tree) (name : List ℕ) (names : List (List ℕ)) (ks : List Kept) (scope : Scope) → AreKeptFor trees names ks scope → is_some (place_in name names) ≡ is_some (found name scope)
place-found trees name [] [] [] h = refl
place-found trees name [] [] (x ∷ scope) h = absurd h
place-found trees name [] (k ∷ ks) scope h = absurd h
place-found trees name (n ∷ names) [] scope h = absurd h
place-found trees name (n ∷ names) (k ∷ ks) [] h = absurd h
place-found trees name (n ∷ names) (k ∷ ks) (x ∷ scope) h =
    go (bytes_eq n name) (place-found trees name names ks scope h.2) ∙ ap (λ m. is_some (cond (bytes_eq m name) (Some x.1) (found name scope))) (sym h.0)
  where
    go : (b : Bool) → is_some (place_in name names) ≡ is_some (found name scope) → is_some (cond b (Some (length names)) (place_in name names)) ≡ is_some (cond b (Some x.1) (found name scope))
    go true e = refl
    go false e = e

pub sort_taken-held : (trees : List Tree) (k : Held) (s : State) (name : List ℕ) → IsScriptIn trees k s → force_sort_taken name k.force ≡ is_sort_taken s name
sort_taken-held trees k s name h = ap (λ q. q || is_sort_name name) (place-found trees (sort_key name) k.force.names (reverse k.force.kept) (scope_of s) h.scope.kept)

pub taken-held : (trees : List Tree) (k : Held) (s : State) (name : List ℕ) → IsScriptIn trees k s → force_taken name k.force ≡ is_taken s name
taken-held trees k s name h =
    ap (λ q. is_reserved name || q) (place-found trees name k.force.names (reverse k.force.kept) (scope_of s) h.scope.kept)
    ∙ shuffled (is_some (operator_named name)) (bytes_eq name (codes "distinct")) (bytes_eq name (codes "true")) (bytes_eq name (codes "false")) (is_some (found name (scope_of s)))
