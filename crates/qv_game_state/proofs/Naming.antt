-- The runs of a point's bits that are named, place by place.
use Rattle.std.proofs.Common.{◌≡◌, ℕ, suc, ◌+◌, ◌≤◌, Bool, Some, List, [], ◌∷◌, ◌++◌, length, drop, slice_get, refl, sym, ap, ◌∙◌, arith, append_assoc, append-nil}
use Rattle.qv_words.specs.Tree.{Tree}
use Rattle.qv_words.specs.Linked.{Run}
use Rattle.qv_words.specs.Gate.{Lit}
use Rattle.qv_words.specs.Clauses.{Blasted}
use Rattle.qv_words.proofs.Elements.{dropped-at, dropped-none}
use Rattle.qv_game_entry_laws.specs.Fixings.{bits_found, named_in, named_runs}

-- one place more
pub one-named : (named : Lit → Bool) (known : List Blasted) (ts : List Tree) (vs : List ℕ) (old new total : List Run) (bits : List Lit) (k v : ℕ) (t : Tree) → slice_get ts k ≡ Some t → slice_get vs k ≡ Some v → bits ≡ bits_found known t → new ≡ old ++ named_in named k v bits → old ++ named_runs named known k (drop k ts) (drop k vs) ≡ total → new ++ named_runs named known (k + 1) (drop (k + 1) ts) (drop (k + 1) vs) ≡ total
one-named named known ts vs old new total bits k v t term value found is before =
    let next : k + 1 ≡ suc k = omega arith in
    let rest = named_runs named known (suc k) (drop (suc k) ts) (drop (suc k) vs) in
    let step : named_runs named known k (drop k ts) (drop k vs) ≡ named_in named k v bits ++ rest =
    ap (λ (us : List Tree). named_runs named known k us (drop k vs)) (dropped-at ts k t term)
    ∙ ap (λ (ws : List ℕ). named_runs named known k (t ∷ drop (suc k) ts) ws) (dropped-at vs k v value)
    ∙ ap (λ (b : List Lit). named_in named k v b ++ rest) (sym found) in
    ap (λ (n : ℕ). new ++ named_runs named known n (drop n ts) (drop n vs)) next
    ∙ ap (λ (rs : List Run). rs ++ rest) is
    ∙ append_assoc old (named_in named k v bits) rest
    ∙ ap (λ (rs : List Run). old ++ rs) (sym step) ∙ before

none-named : (named : Lit → Bool) (known : List Blasted) (place : ℕ) (ts : List Tree) → named_runs named known place ts [] ≡ []
none-named named known place [] = refl
none-named named known place (t ∷ ts) = refl

pub all-named : (named : Lit → Bool) (known : List Blasted) (ts : List Tree) (vs : List ℕ) (runs total : List Run) (k : ℕ) → length vs ≤ k → runs ++ named_runs named known k (drop k ts) (drop k vs) ≡ total → runs ≡ total
all-named named known ts vs runs total k all before =
    sym (append-nil runs)
    ∙ ap (λ (rs : List Run). runs ++ rs) (sym (ap (named_runs named known k (drop k ts)) (dropped-none vs k all) ∙ none-named named known k (drop k ts)))
    ∙ before
