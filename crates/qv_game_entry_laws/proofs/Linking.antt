-- The regions that an entry is linked to.
use Rattle.std.proofs.Common.{◌≡◌, ℕ, ◌==◌, Bool, true, false, cond, [], ◌∷◌, map, refl, ap, ◌∙◌, length, arith}
use Rattle.std.proofs.lemmas.Bool.{eqb-true}
use Rattle.std.proofs.lemmas.Bool.Decides.{nat_tests}
use Rattle.qv_words.specs.Linked.{blocks_of, entries_named, last_region}
use Rattle.qv_game_entry_laws.specs.BuildingLaws.{LastRegionIsLinked, OneRegionIsLinked}

test-itself : (n : ℕ) → (n == n) ≡ true
test-itself n = grind (arith, nat_tests)

pub last-region_is_linked : LastRegionIsLinked
last-region_is_linked p entries e at =
    let test : (e.level == length (blocks_of p.prefix)) ≡ true = ap (λ n. n == length (blocks_of p.prefix)) at ∙ test-itself (length (blocks_of p.prefix)) in
    ap (λ b. cond b (last_region p e.winner ∷ []) (map (λ l. l.region) (entries_named entries e.links))) test

pub one-region_is_linked : OneRegionIsLinked
one-region_is_linked p entries e n l other one there = go (e.level == length (blocks_of p.prefix)) refl
  where
    named : map (λ l. l.region) (entries_named entries (n ∷ [])) ≡ l.region ∷ []
    named = rw there refl

    go : (b : Bool) → (e.level == length (blocks_of p.prefix)) ≡ b → cond b (last_region p e.winner ∷ []) (map (λ l. l.region) (entries_named entries e.links)) ≡ l.region ∷ []
    go true is = absurd (other (eqb-true e.level (length (blocks_of p.prefix)) is))
    go false is = ap (λ ns. map (λ l. l.region) (entries_named entries ns)) one ∙ named
