-- Formulas without quantifiers stay such.
use Rattle.std.proofs.Common.{◌≡◌, ℕ, ◌<◌, List, [], ◌∷◌, length, refl, sym, subst}
use Rattle.std.specs.Prelude.{All}
use Rattle.std.specs.List.{AllByRecursion, AllZip}
use Rattle.std.proofs.lemmas.List.Elements.{All-from_recursion, recursion_from_All}
use Rattle.qv_words.specs.Tree.{Tree, IsQuantifierFree}
use Rattle.qv_words.specs.PassLaws.{IsPlain, StandsFor}
use Rattle.qv_words.proofs.PassRules.{rules-keep}
use Rattle.qv_words.proofs.Passed.{pass-stands}
use Rattle.qv_store.specs.Nodes.{tree_at}
use Rattle.qv_store.specs.Stores.{AreShared}
use Rattle.qv_store.specs.Walks.{named}
use Rattle.qv_rewrite_passes.specs.declared.pass.Pass.{Pass}
use Rattle.qv_rewrite_passes.specs.declared.pass.Pass.TheVariants.{By, Sum, Xor, Simp}
use Rattle.qv_rewrite_passes.specs.Passes.{behind}
use Rattle.qv_rewrite_passes.proofs.SumPass.{pass-stands as sums-stand}
use Rattle.qv_rewrite_passes.proofs.XorPass.{pass-stands as xors-stand}
use Rattle.qv_rewrite_passes.proofs.Simping.{pass-stands as simps-stand}

plain-there : (trees : List Tree) (ids : List ℕ) → AreShared trees → AllByRecursion (λ id. id < length trees) ids → AllByRecursion (λ id. IsQuantifierFree (tree_at trees id)) ids → AllByRecursion IsPlain (named trees ids)
plain-there trees [] shared below free = tt
plain-there trees (id ∷ ids) shared below free = (record { sorted = shared.sorted id below.0; free = free.0 }, plain-there trees ids shared below.1 free.1)

free-of : (us ts : List Tree) → AllZip StandsFor us ts → AllByRecursion IsQuantifierFree us
free-of [] ts h = tt
free-of (u ∷ us) [] h = absurd h
free-of (u ∷ us) (t ∷ ts) h = (h.0.plain.free, free-of us ts h.1)

free-each : (trees : List Tree) (ids : List ℕ) → AllByRecursion IsQuantifierFree (named trees ids) → AllByRecursion (λ id. IsQuantifierFree (tree_at trees id)) ids
free-each trees [] h = tt
free-each trees (id ∷ ids) h = (h.0, free-each trees ids h.1)

stands : (p : Pass) (ts : List Tree) → AllByRecursion IsPlain ts → AllZip StandsFor (behind p ts) ts
stands (By rule) ts h = pass-stands (rules-keep (λ a b. refl) (λ a b. refl)) rule ts h
stands Sum ts h = sums-stand ts h
stands Xor ts h = xors-stand ts h
stands Simp ts h = simps-stand ts h

pub taken-free : (p : Pass) (old new : List Tree) (ids made : List ℕ) → AreShared old → All (λ id. id < length old) ids → All (λ id. IsQuantifierFree (tree_at old id)) ids → named new made ≡ behind p (named old ids) →
    All (λ id. IsQuantifierFree (tree_at new id)) made
taken-free p old new ids made shared below free e =
    let plain = plain-there old ids shared (recursion_from_All (λ id. id < length old) ids below) (recursion_from_All (λ id. IsQuantifierFree (tree_at old id)) ids free) in
    let passed = free-of (behind p (named old ids)) (named old ids) (stands p (named old ids) plain) in
    All-from_recursion (λ id. IsQuantifierFree (tree_at new id)) made (free-each new made (subst (AllByRecursion IsQuantifierFree) (sym e) passed))
