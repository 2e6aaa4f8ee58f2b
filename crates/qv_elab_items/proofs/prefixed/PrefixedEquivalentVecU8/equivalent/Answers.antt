use Rattle.std.proofs.Common.{◌≡◌, nat_eq, ℕ, ◌-◌, ◌≤◌, Bool, ◌&&◌, List, [], ◌∷◌, length, take, drop, get_or, sym, ◌∙◌, ap, arith}
use Rattle.std.specs.Cmp.Lexicographic.{pointwise}
use Rattle.std.proofs.lemmas.Bool.{eq-eqb}
use Rattle.std.proofs.lemmas.List.{take_rest}
use Rattle.qv_elab_items.specs.Prefixes.{bytes_of}
use Rattle.qv_elab_items.proofs.prefixed.PrefixedEquivalentVecU8.equivalent.Goals as goal

-- behind equal first bytes, the rest decides
behind : (xs : List ℕ) (a : ℕ) (name : List ℕ) → 1 ≤ length xs → a ≡ get_or xs 0 0 → pointwise nat_eq name (take (length xs - 1) (drop 1 xs)) ≡ pointwise nat_eq (a ∷ name) xs
behind [] a name some e = absurd (omega arith)
behind (x ∷ xs) a name some e = ap (pointwise nat_eq name) (take_rest (x ∷ xs) 1) ∙ sym (ap (λ (b : Bool). b && pointwise nat_eq name xs) (eq-eqb a x e))

pub returns-then-first-self : goal.returns-then-first-self
returns-then-first-self c =
    c.eq.ensures ∙ behind c.as_slice.result.now c.args.self.now.first c.args.self.now.name.now c.in-len1-up.len_at_least (sym c.if-first-self.true) ∙ ap (pointwise nat_eq (bytes_of c.args.self.now)) c.as_slice.ensures.value
