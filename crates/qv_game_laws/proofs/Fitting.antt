-- Values that fit a sort, from any values.
use Rattle.std.proofs.Common.{◌≡◌, ℕ, ◌<◌, Bool, true, false, cond, nat_lt, Some, None, Option, List, [], ◌∷◌, refl, sym, ap}
use Rattle.std.specs.Prelude.{IsSomeAnd}
use Rattle.std.proofs.lemmas.Bool.{lt-ltb, ltb-true}
use Rattle.std.proofs.lemmas.Nat.{pow_pos}
use Rattle.qv_words.specs.declared.sort.Sort.{Sort}
use Rattle.qv_words.specs.Sort.{IsValueOf, size_of, width_of}
use Rattle.qv_game_laws.proofs.Terms.{OfVariable, EachLeaf}

-- the value where it is of the sort, and else 0
abbrev pub fitting : Option ℕ → Sort → ℕ
fitting None s = 0
fitting (Some v) s = cond (nat_lt v (size_of s)) v 0

pub fitting-of : (o : Option ℕ) (s : Sort) → IsValueOf (fitting o s) s
fitting-of None s = pow_pos (width_of s)
fitting-of (Some v) s = go (nat_lt v (size_of s)) refl
  where
    go : (k : Bool) → nat_lt v (size_of s) ≡ k → cond k v 0 < size_of s
    go true is = ltb-true v (size_of s) is
    go false is = pow_pos (width_of s)

pub fitting-same : (o : Option ℕ) (s : Sort) → IsSomeAnd o (λ v. IsValueOf v s) → o ≡ Some (fitting o s)
fitting-same None s h = absurd h
fitting-same (Some v) s h = ap (λ k. Some (cond k v 0)) (sym (lt-ltb v (size_of s) h))

-- what holds of each leaf in two ways
pub both-leaves : (P Q : OfVariable) (leaves : List (ℕ × Sort)) → EachLeaf P leaves → EachLeaf Q leaves → EachLeaf (λ l s. P l s × Q l s) leaves
both-leaves P Q [] g h = tt
both-leaves P Q (leaf ∷ leaves) g h = ((g.0, h.0), both-leaves P Q leaves g.1 h.1)
