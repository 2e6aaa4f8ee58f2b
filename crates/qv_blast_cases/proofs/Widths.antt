-- Bits that are as many as their sorts have.
use Rattle.std.proofs.Common.{◌≡◌, ℕ, ◌<◌, ◌+◌, List, [], ◌∷◌, ◌++◌, map, length, get_or, take}
use Rattle.std.proofs.lemmas.List.{map-append, take_more}
use Rattle.qv_words.specs.declared.sort.Sort.{Sort}
use Rattle.qv_words.specs.Sort.{width_of}
use Rattle.qv_words.specs.Gate.{Lit}
use Rattle.qv_blast_cases.specs.Arguments.{HaveWidths}

behind : (args : List (List Lit)) (sorts : List Sort) (bits : List Lit) (sort : Sort) → HaveWidths args sorts → length bits ≡ width_of sort → HaveWidths (args ++ bits ∷ []) (sorts ++ sort ∷ [])
behind [] [] bits sort h e = (e, tt)
behind [] (s ∷ ss) bits sort h e = absurd h
behind (a ∷ as') [] bits sort h e = absurd h
behind (a ∷ as') (s ∷ ss) bits sort h e = (h.0, behind as' ss bits sort h.1 e)

-- one more place
pub next-place : {A : Type 0} (f : A → List Lit) (args : List A) (sorts : List Sort) (i : ℕ) (a : A) (d : Sort) → i < length args → i < length sorts → HaveWidths (map f (take i args)) (take i sorts) → length (f (get_or args i a)) ≡ width_of (get_or sorts i d) →
    HaveWidths (map f (take (i + 1) args)) (take (i + 1) sorts)
next-place f args sorts i a d h k w is =
    rw (take_more args i a h, take_more sorts i d k, map-append f (take i args) (get_or args i a ∷ [])) (behind (map f (take i args)) (take i sorts) (f (get_or args i a)) (get_or sorts i d) w is)
