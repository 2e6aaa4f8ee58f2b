-- What is in force, as it is kept.
use Rattle.std.proofs.Common.{◌≡◌, ◌≤◌, ◌+◌, ◌-◌, ℕ, zero, suc, not, Bool, true, false, Option, Some, None, List, [], ◌∷◌, ◌++◌, map, length, take, drop, replicate, slice_get, refl, sym, ap, subst, ◌∙◌, arith}
use Rattle.std.proofs.Math.ListN.{length-drop}
use Rattle.std.specs.List.{AllByRecursion}
use Rattle.std.proofs.lemmas.List.{replicate-append-replicate, take-map, length-map}
use Rattle.std.proofs.lemmas.Option.{slice_get-map}
use Rattle.std.specs.Prelude.{Result, Ok, Err, unwrap_or, option_map, option_and_then, is_some}
use Rattle.qv_words.specs.declared.op.Op.{Op}
use Rattle.qv_sorts.specs.Names.{indices_of, NamesNone}
use Rattle.qv_sorts.specs.Search.{operator_named, with_indices}
use Rattle.qv_sorts.proofs.Searching.{own}
use Rattle.qv_sorts.specs.declared.operators.NameFault.{NameFault}
use Rattle.qv_sorts.specs.declared.operators.NameFault.TheVariants.{Unknown, Indices}
use Rattle.qv_elab_scope.proofs.NamedHeads.{none-named}
use Rattle.qv_elab_scope.specs.declared.scope.Kept.{Kept}
use Rattle.qv_elab_scope.specs.declared.scope.Kept.TheVariants.{Constant, Definition, Synonym}
use Rattle.qv_elab_scope.specs.declared.scope.Level.{Level}
use Rattle.qv_elab_scope.specs.Force.{Force, count_constant, constants_in, force_of, opened, closed, merged, IsInForce}

-- names of operators
pub some-named : (name : List ℕ) → (NamesNone name → ⊥) → is_some (operator_named name) ≡ true
some-named name some = go (operator_named name) refl
  where
    go : (r : Option Op) → operator_named name ≡ r → is_some r ≡ true
    go (Some o) e = refl
    go None e = absurd (some (λ o is.
        let found = own o in
        let none = ap (λ (n : List ℕ). option_and_then (λ p. with_indices p (indices_of o)) (operator_named n)) is ∙ ap (option_and_then (λ p. with_indices p (indices_of o))) e in
        absurd (cc)))

abbrev pub is_unknown : NameFault → Bool
is_unknown Unknown = true
is_unknown Indices = false

-- what the look-up answers
pub found-named : {A : Type 0} (name : List ℕ) (r : Result A NameFault) (a : A) → (NamesNone name → r ≡ Err Unknown) → r ≡ Ok a → true ≡ is_some (operator_named name)
found-named name r a none is = sym (some-named name (λ n. let e = none n in cc))

pub fault-named : {A : Type 0} (name : List ℕ) (r : Result A NameFault) (fault : NameFault) → (NamesNone name → r ≡ Err Unknown) → (r ≡ Err Unknown → NamesNone name) → r ≡ Err fault → not (is_unknown fault) ≡ is_some (operator_named name)
fault-named name r Unknown none some is = sym (none-named name (some is))
fault-named name r Indices none some is = sym (some-named name (λ n. let e = none n in cc))

-- constants among what is kept
pub few-constants : (ks : List Kept) → constants_in ks ≤ length ks
few-constants [] = omega arith
few-constants (Constant i s ∷ ks) = let rest = few-constants ks in omega arith
few-constants (Definition ss body ∷ ks) = let rest = few-constants ks in omega arith
few-constants (Synonym s ∷ ks) = let rest = few-constants ks in omega arith

pub constants-behind : (ks : List Kept) (k : Kept) → constants_in (ks ++ k ∷ []) ≡ constants_in ks + count_constant k
constants-behind [] k = omega arith
constants-behind (x ∷ ks) k = let rest = constants-behind ks k in omega arith

front : (ks : List Kept) (k : Kept) (n : ℕ) → n ≤ length ks → take n (ks ++ k ∷ []) ≡ take n ks
front ks k zero le = refl
front [] k (suc n) le = absurd (omega (arith, le))
front (x ∷ ks) k (suc n) le = ap (λ xs. x ∷ xs) (front ks k n (omega (arith, le)))

length-behind : (ks : List Kept) (k : Kept) → length (ks ++ k ∷ []) ≡ suc (length ks)
length-behind [] k = refl
length-behind (x ∷ ks) k = ap suc (length-behind ks k)

pub force-more : (names : List (List ℕ)) (name : List ℕ) (kept : List Kept) (k : Kept) (constants more : ℕ) (levels : List Level) → more ≡ constants + count_constant k → IsInForce names kept constants levels → IsInForce (name ∷ names) (kept ++ k ∷ []) more levels
force-more names name kept k constants more levels e h = record {
  count = ap suc h.count ∙ sym (length-behind kept k);
  counted = e ∙ ap (λ n. n + count_constant k) h.counted ∙ sym (constants-behind kept k);
  level_names = λ i l at. let le = h.level_names i l at in let longer = length-behind kept k in omega arith;
  level_constants = λ i l at. h.level_constants i l at ∙ ap constants_in (sym (front kept k l.names (h.level_names i l at)));
  rising = h.rising;
}

-- levels and how many names there were below them
abbrev starts : List Level → List ℕ
starts ls = map (λ level. level.names) ls

starts-more : (ls : List Level) (n : ℕ) (l : Level) → starts (ls ++ replicate n l) ≡ starts ls ++ replicate n l.names
starts-more [] zero l = refl
starts-more [] (suc n) l = ap (λ ns. l.names ∷ ns) (starts-more [] n l)
starts-more (x ∷ ls) n l = ap (λ ns. x.names ∷ ns) (starts-more ls n l)

pub replicate-more : {A : Type 0} (n : ℕ) (x : A) → replicate n x ++ x ∷ [] ≡ replicate (n + 1) x
replicate-more n x = replicate-append-replicate n 1 x

-- levels that are opened now
pub force-opened : (names : List (List ℕ)) (kept : List Kept) (ls : List Level) (n : ℕ) (l : Level) → l.names ≡ length names → force_of names kept (ls ++ replicate n l) ≡ opened n (force_of names kept ls)
force-opened names kept ls n l e =
    force-starts names kept (starts (ls ++ replicate n l)) (starts ls ++ replicate n (length names)) (starts-more ls n l ∙ ap (λ m. starts ls ++ replicate n m) e)
  where
    force-starts : (names : List (List ℕ)) (kept : List Kept) (ss ts : List ℕ) → ss ≡ ts → ◌≡◌ {A = Force} (record { names = names; kept = kept; starts = ss }) (record { names = names; kept = kept; starts = ts })
    force-starts names kept ss ts e = cc

-- how many names levels began with
pub starts-within : (ls : List Level) (k : ℕ) → ((i : ℕ) (l : Level) → slice_get ls i ≡ Some l → l.names ≤ k) → AllByRecursion (λ n. n ≤ k) (map (λ level. level.names) ls)
starts-within [] k h = tt
starts-within (l ∷ ls) k h = (h 0 l refl, starts-within ls k (λ i m e. h (suc i) m e))

pub within-starts : (ls : List Level) (k : ℕ) → AllByRecursion (λ n. n ≤ k) (map (λ level. level.names) ls) → (i : ℕ) (l : Level) → slice_get ls i ≡ Some l → l.names ≤ k
within-starts [] k h i l e = absurd (cc)
within-starts (m ∷ ls) k h zero l e = let same : m ≡ l = cc in subst (λ (x : Level). x.names ≤ k) same h.0
within-starts (m ∷ ls) k h (suc i) l e = within-starts ls k h.1 i l e

take-twice : (ks : List Kept) (n m : ℕ) → n ≤ m → take n (take m ks) ≡ take n ks
take-twice ks zero m le = refl
take-twice [] (suc n) zero le = refl
take-twice [] (suc n) (suc m) le = refl
take-twice (k ∷ ks) (suc n) zero le = absurd (omega (arith, le))
take-twice (k ∷ ks) (suc n) (suc m) le = ap (λ xs. k ∷ xs) (take-twice ks n m (omega (arith, le)))

length-taken : (ks : List Kept) (n : ℕ) → n ≤ length ks → length (take n ks) ≡ n
length-taken ks zero le = refl
length-taken [] (suc n) le = absurd (omega (arith, le))
length-taken (k ∷ ks) (suc n) le = ap suc (length-taken ks n (omega (arith, le)))

-- the newest names go, which are no constants
pub force-less : (names : List (List ℕ)) (kept : List Kept) (constants left : ℕ) (levels : List Level) → left ≤ length kept → constants_in (take left kept) ≡ constants_in kept → AllByRecursion (λ n. n ≤ left) (map (λ level. level.names) levels) → IsInForce names kept constants levels →
    IsInForce (drop (length names - left) names) (take left kept) constants levels
force-less names kept constants left levels le same within h = record {
  count = let count = h.count in let gone = length-drop (length names - left) names in let taken = length-taken kept left le in omega (arith, count, gone, taken, le);
  counted = h.counted ∙ sym same;
  level_names = λ i l at. let few = within-starts levels left within i l at in let taken = length-taken kept left le in omega (arith, few, taken);
  level_constants = λ i l at. h.level_constants i l at ∙ ap constants_in (sym (take-twice kept l.names left (within-starts levels left within i l at)));
  rising = h.rising;
}

-- levels that are closed
pub force-closed : (names : List (List ℕ)) (kept : List Kept) (ls : List Level) (n : ℕ) (l : Level) → slice_get ls (length ls - n) ≡ Some l → closed n (force_of names kept ls) ≡ force_of (drop (length names - l.names) names) (take l.names kept) (take (length ls - n) ls)
force-closed names kept ls n l at =
    let count : length (starts ls) ≡ length ls = length-map ls (λ level. level.names) in
    let below : unwrap_or (slice_get (starts ls) (length (starts ls) - n)) (length names) ≡ l.names =
    ap (λ m. unwrap_or (slice_get (starts ls) (m - n)) (length names)) count
    ∙ ap (λ o. unwrap_or o (length names)) (slice_get-map (λ level. level.names) ls (length ls - n) ∙ ap (λ o. option_map (λ level. level.names) o) at) in
    let left : take (length (starts ls) - n) (starts ls) ≡ starts (take (length ls - n) ls) = ap (λ m. take (m - n) (starts ls)) count ∙ take-map (λ level. level.names) (length ls - n) ls in
    parts names kept _ l.names _ _ below left
  where
    parts : (names : List (List ℕ)) (kept : List Kept) (n m : ℕ) (ss ts : List ℕ) → n ≡ m → ss ≡ ts → ◌≡◌ {A = Force} (record { names = drop (length names - n) names; kept = take n kept; starts = ss }) (record { names = drop (length names - m) names; kept = take m kept; starts = ts })
    parts names kept n m ss ts e f = cc

-- levels that are merged
pub force-merged : (names : List (List ℕ)) (kept : List Kept) (ls : List Level) (n : ℕ) → force_of names kept (take (length ls - n) ls) ≡ merged n (force_of names kept ls)
force-merged names kept ls n =
    ap (λ (ss : List ℕ). record { names = names; kept = kept; starts = ss })
    (sym (take-map (λ level. level.names) (length ls - n) ls) ∙ ap (λ m. take (m - n) (starts ls)) (sym (length-map ls (λ level. level.names))))

pub force-three : (names other : List (List ℕ)) (kept others : List Kept) (ls ms : List Level) → names ≡ other → kept ≡ others → ls ≡ ms → force_of names kept ls ≡ force_of other others ms
force-three names other kept others ls ms e f g = ap (λ ns. force_of ns kept ls) e ∙ ap (λ ks. force_of other ks ls) f ∙ ap (λ xs. force_of other others xs) g
