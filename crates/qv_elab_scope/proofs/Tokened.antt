-- The terms of single tokens.
use Rattle.std.proofs.Common.{◌≡◌, ◌-◌, inl, inr, ℕ, zero, suc, Bool, true, false, cond, Option, Some, None, List, [], ◌∷◌, length, take, drop, refl, sym, ap, subst, ◌∙◌, Ok, Err, arith}
use Rattle.std.specs.Prelude.{Result, IfOk, IfSome}
use Rattle.std.specs.Str.{bytes_eq}
use Rattle.std.proofs.lemmas.List.{append-nil}
use Rattle.qv_text.specs.declared.kinds.TokenKind.TheVariants.{Hex, Binary}
use Rattle.qv_text.specs.Bytes.{is_hex, is_binary}
use Rattle.qv_text.specs.Grammar.{IsWhole}
use Rattle.qv_words.specs.Tree.{Tree}
use Rattle.qv_words.specs.Sorted.{IsSorted, no_levels}
use Rattle.qv_store.specs.Stores.{StandsAt}
use Rattle.qv_elab_scope.specs.declared.scope.Kept.{Kept}
use Rattle.qv_elab_scope.specs.declared.scope.Kept.TheVariants as kept
use Rattle.qv_elab_defs.specs.Faults.{Fault}
use Rattle.qv_elab_defs.specs.Scopes.{Named, Entry, Scope, Context, constants_of, found}
use Rattle.qv_elab_scope.specs.Force.{Force, stands_for}
use Rattle.qv_elab_defs.specs.Leaves.{digits_literal, named_tree}
use Rattle.qv_elab_scope.specs.Kept.{IsKeptFor, IsScopeIn}
use Rattle.qv_elab_defs.specs.OpenTrees.{IsGood, IsGoodEntry}
use Rattle.qv_elab_scope.specs.Ids.{AreNamedAt, HasLawfulSort}
use Rattle.qv_elab_defs.proofs.Opened.{open-sorted}
use Rattle.qv_elab_defs.proofs.OpenElaborated.{found-all, ok-digits, small-hex, small-binary}
use Rattle.qv_elab_defs.proofs.ElaboratedTrees.{sorts_of, good-scope}
use Rattle.qv_elab_scope.proofs.Lookups.{IsLooked, IsThere, looked-up}

-- what is bound
abbrev pub IsFoundAt : List Tree → Option ℕ → Option Tree → Type 0
IsFoundAt trees None None = Unit {0}
IsFoundAt trees (Some n) (Some t) = StandsAt trees n t
IsFoundAt trees _ _ = ⊥

pub found-at : (trees : List Tree) (name : List ℕ) (xs : Named ℕ) (ys : Named Tree) → AreNamedAt trees xs ys → IsFoundAt trees (found name xs) (found name ys)
found-at trees name [] [] h = tt
found-at trees name (x ∷ xs) (y ∷ ys) h = go (bytes_eq x.0 name) (bytes_eq y.0 name) (ap (λ n. bytes_eq n name) h.0) (found-at trees name xs ys h.2)
  where
    go : (a b : Bool) → b ≡ a → IsFoundAt trees (found name xs) (found name ys) → IsFoundAt trees (cond a (Some x.1) (found name xs)) (cond b (Some y.1) (found name ys))
    go true true e k = h.1
    go false false e k = k
    go true false e k = absurd (cc)
    go false true e k = absurd (cc)
found-at trees name [] (y ∷ ys) h = absurd h
found-at trees name (x ∷ xs) [] h = absurd h

pub bound-leaf : (trees : List Tree) (place n : ℕ) (name : List ℕ) (c : Context) (o : Option ℕ) (p : Option Tree) → Some n ≡ o → IsFoundAt trees o p → (t : Tree) × (named_tree place name c p ≡ Ok t) × StandsAt trees n t
bound-leaf trees place n name c None p e h = absurd (cc)
bound-leaf trees place n name c (Some m) None e h = absurd h
bound-leaf trees place n name c (Some m) (Some t) e h = (t, refl, subst (λ k. StandsAt trees k t) (some-is m n (sym e)) h)
  where
    some-is : (a b : ℕ) → ◌≡◌ {A = Option ℕ} (Some a) (Some b) → a ≡ b
    some-is a b h = cc

pub none-bound : (trees : List Tree) (o : Option ℕ) (p : Option Tree) → None ≡ o → IsFoundAt trees o p → p ≡ None
none-bound trees None None e h = refl
none-bound trees None (Some t) e h = absurd h
none-bound trees (Some m) p e h = absurd (cc)

-- a constant's sort
pub kept-lawful : (trees : List Tree) (force : Force) (defs : Scope) (name : List ℕ) (k : Kept) → IsScopeIn trees force defs → Some k ≡ stands_for name force → HasLawfulSort k
kept-lawful trees force defs name k h e = go (looked-up trees force defs name h)
  where
    some-kept : (a b : Kept) → ◌≡◌ {A = Option Kept} (Some a) (Some b) → a ≡ b
    some-kept a b h = cc

    entry : (k : Kept) (x : Entry) (rest : Scope) → IsKeptFor trees rest k x → IsGoodEntry (sorts_of (constants_of defs)) 0 x → HasLawfulSort k
    entry (kept.Constant i s) x rest g good = let is = subst (IsGoodEntry (sorts_of (constants_of defs)) 0) g good in is.0
    entry (kept.Definition sorts body) x rest g good = tt
    entry (kept.Synonym s) x rest g good = tt

    go : IsLooked trees defs name (stands_for name force) → HasLawfulSort k
    go (inl n) = absurd (let f = e ∙ n.0 in cc)
    go (inr i) =
        let good = found-all (IsGoodEntry (sorts_of (constants_of defs)) 0) name defs (good-scope defs h.is_scope (sorts_of (constants_of defs)) [] 0 (sym (append-nil (sorts_of (constants_of defs))))) in
        let there = subst (λ (o : Option Entry). IfSome o (IsGoodEntry (sorts_of (constants_of defs)) 0)) i.entry_is good in
        subst HasLawfulSort (sym (some-kept k i.kept (e ∙ i.kept_is))) (entry i.kept i.entry i.rest i.kept_for there)

-- what is kept for a name
pub kept-there : (trees : List Tree) (force : Force) (defs : Scope) (name : List ℕ) (k : Kept) → IsScopeIn trees force defs → Some k ≡ stands_for name force → (i : IsThere trees defs name (stands_for name force)) × (k ≡ i.kept)
kept-there trees force defs name k h e = go (looked-up trees force defs name h)
  where
    some-kept : (a b : Kept) → ◌≡◌ {A = Option Kept} (Some a) (Some b) → a ≡ b
    some-kept a b h = cc

    go : IsLooked trees defs name (stands_for name force) → (i : IsThere trees defs name (stands_for name force)) × (k ≡ i.kept)
    go (inl n) = absurd (let f = e ∙ n.0 in cc)
    go (inr i) = (i, some-kept k i.kept (e ∙ i.kept_is))

pub none-kept : (trees : List Tree) (force : Force) (defs : Scope) (name : List ℕ) → IsScopeIn trees force defs → None ≡ stands_for name force → found name defs ≡ None
none-kept trees force defs name h e = go (looked-up trees force defs name h)
  where
    go : IsLooked trees defs name (stands_for name force) → found name defs ≡ None
    go (inl n) = n.1
    go (inr i) = absurd (let f = e ∙ i.kept_is in cc)

-- the digits of a token
pub all-behind : (xs : List ℕ) (d : ℕ) → take (length xs - d) (drop d xs) ≡ drop d xs
all-behind xs d = go (drop d xs) (length xs - d) (dropped d xs)
  where
    dropped : (k : ℕ) (ys : List ℕ) → length (drop k ys) ≡ length ys - k
    dropped zero ys = omega arith
    dropped (suc k) [] = omega arith
    dropped (suc k) (y ∷ ys) = dropped k ys ∙ omega arith

    go : (ys : List ℕ) (n : ℕ) → length ys ≡ n → take n ys ≡ ys
    go [] zero e = refl
    go [] (suc n) e = refl
    go (y ∷ ys) zero e = absurd (omega arith)
    go (y ∷ ys) (suc n) e = ap (λ zs. y ∷ zs) (go ys n (omega arith))

sorted-ok : (r : Result Tree Fault) → IfOk r (IsGood [] 0 no_levels) → IfOk r IsSorted
sorted-ok (Ok t) h = open-sorted t [] 0 no_levels h.0
sorted-ok (Err f) h = tt

pub hex-sorted : (place : ℕ) (text : List ℕ) → IsWhole Hex text → IfOk (digits_literal place 4 (drop 2 text)) IsSorted
hex-sorted place text w =
    sorted-ok (digits_literal place 4 (drop 2 text)) (subst (λ (t : List ℕ). IfOk (digits_literal place 4 (drop 2 t)) (IsGood [] 0 no_levels)) (sym w.1)
    (ok-digits [] 0 no_levels place 4 is_hex w.0 (omega arith) (small-hex [] 0) w.2))

pub binary-sorted : (place : ℕ) (text : List ℕ) → IsWhole Binary text → IfOk (digits_literal place 1 (drop 2 text)) IsSorted
binary-sorted place text w =
    sorted-ok (digits_literal place 1 (drop 2 text)) (subst (λ (t : List ℕ). IfOk (digits_literal place 1 (drop 2 t)) (IsGood [] 0 no_levels)) (sym w.1)
    (ok-digits [] 0 no_levels place 1 is_binary w.0 (omega arith) (small-binary [] 0) w.2))
