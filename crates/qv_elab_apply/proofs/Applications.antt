-- Applications by the number of their arguments.
use Rattle.std.proofs.Common.{◌≡◌, ◌≤◌, ◌<◌, ◌+◌, ℕ, Bool, true, false, cond, Option, Some, List, [], ◌∷◌, map, length, get_or, refl, sym, ap, subst, ◌∙◌, Ok, Err, arith}
use Rattle.std.proofs.Common.{None as Nothing}
use Rattle.std.specs.Prelude.{Result, nat_le, option_map, if◌then◌else◌}
use Rattle.std.proofs.lemmas.Bool.Decides.{nat_tests}
use Rattle.qv_words.specs.declared.op.Op.{Op}
use Rattle.qv_words.specs.declared.op.Op.TheVariants.{And, Or, Xor, Implies, Equal, BvAnd, BvOr, BvXor, BvAdd, BvMul, Concat}
use Rattle.qv_words.specs.Rank.{sort_eq}
use Rattle.qv_words.specs.Tree.{Tree, Apply}
use Rattle.qv_sorts.specs.declared.ranking.RankFault.{RankFault}
use Rattle.qv_sorts.specs.Faults.{fault_of}
use Rattle.qv_elab_apply.specs.declared.applying.Chain.{Chain}
use Rattle.qv_elab_apply.specs.declared.applying.Chain.TheVariants.{Left, Right, Pairs, None}
use Rattle.qv_elab_defs.specs.declared.faults.ElabKind.{ElabKind}
use Rattle.qv_elab_defs.specs.declared.faults.ElabKind.TheVariants.{DepthLimit}
use Rattle.qv_elab_defs.specs.Faults.{refuse, ◌>>=◌}
use Rattle.qv_elab_defs.specs.Applying.{sort_of, in_trees, unless_fault, applied, to_the_left, to_the_right, chained, alone, application, kind_of, depth_of_all, depth_limit}
use Rattle.qv_elab_defs.specs.declared.faults.ElabFault.{ElabFault}
use Rattle.qv_elab_defs.specs.Answers.{Answers}
use Rattle.qv_elab_defs.specs.Built.{limited}
use Rattle.qv_elab_apply.specs.Chained.{all_to_the_right}
use Rattle.qv_store.specs.Nodes.{tree_at}
use Rattle.qv_store.specs.Walks.{named}
use Rattle.qv_elab_apply.specs.ChainOf.{chain_of, takes_one}

-- more arguments than two
abbrev pub in_chain : Chain → Op → Tree → List Tree → Result Tree ElabKind
in_chain Left o t us = to_the_left o t us
in_chain Right o t us = to_the_right o t us
in_chain Pairs o t us = chained t us
in_chain None o t us = applied o (t ∷ us)

pub application-many : (o : Op) (t u v : Tree) (vs : List Tree) → application o (t ∷ u ∷ v ∷ vs) ≡ in_chain (chain_of o) o t (u ∷ v ∷ vs)
application-many And t u v vs = refl
application-many Or t u v vs = refl
application-many Xor t u v vs = refl
application-many BvAnd t u v vs = refl
application-many BvOr t u v vs = refl
application-many BvXor t u v vs = refl
application-many BvAdd t u v vs = refl
application-many BvMul t u v vs = refl
application-many Concat t u v vs = refl
application-many Implies t u v vs = refl
application-many Equal t u v vs = refl
application-many _ t u v vs = refl

-- one argument
pub application-one : (o : Op) (t : Tree) → application o (t ∷ []) ≡ (if takes_one o then alone t else applied o (t ∷ []))
application-one And t = refl
application-one Or t = refl
application-one _ t = refl

pub application-none : (o : Op) → application o [] ≡ applied o []
application-none And = refl
application-none Or = refl
application-none Xor = refl
application-none BvAnd = refl
application-none BvOr = refl
application-none BvXor = refl
application-none BvAdd = refl
application-none BvMul = refl
application-none Concat = refl
application-none Implies = refl
application-none Equal = refl
application-none _ = refl

-- two arguments are an application of the operator's rank
again : {A F : Type 0} (r : Result A F) → (r >>= λ x. Ok x) ≡ r
again (Ok x) = refl
again (Err e) = refl

equal-two : (t u : Tree) → chained t (u ∷ []) ≡ applied Equal (t ∷ u ∷ [])
equal-two t u = go (sort_eq (sort_of t) (sort_of u)) refl
  where
    go : (b : Bool) → sort_eq (sort_of t) (sort_of u) ≡ b → chained t (u ∷ []) ≡ applied Equal (t ∷ u ∷ [])
    go true e = rw e refl
    go false e = rw e refl

pub application-two : (o : Op) (t u : Tree) → application o (t ∷ u ∷ []) ≡ applied o (t ∷ u ∷ [])
application-two And t u = again (applied And (t ∷ u ∷ []))
application-two Or t u = again (applied Or (t ∷ u ∷ []))
application-two Xor t u = again (applied Xor (t ∷ u ∷ []))
application-two BvAnd t u = again (applied BvAnd (t ∷ u ∷ []))
application-two BvOr t u = again (applied BvOr (t ∷ u ∷ []))
application-two BvXor t u = again (applied BvXor (t ∷ u ∷ []))
application-two BvAdd t u = again (applied BvAdd (t ∷ u ∷ []))
application-two BvMul t u = again (applied BvMul (t ∷ u ∷ []))
application-two Concat t u = again (applied Concat (t ∷ u ∷ []))
application-two Implies t u = refl
application-two Equal t u = equal-two t u
application-two _ t u = refl

-- an application by its rank
module _ (place : ℕ) (o : Op) (ts : List Tree) where
  pub ranked-fault : (kind : ElabKind) → option_map kind_of (fault_of o (map (λ t. sort_of t) ts)) ≡ Some kind → limited place (applied o ts) ≡ refuse place kind
  ranked-fault kind = go (fault_of o (map (λ t. sort_of t) ts))
    where
      go : (f : Option RankFault) → option_map kind_of f ≡ Some kind → limited place (unless_fault f (Apply o (in_trees ts))) ≡ refuse place kind
      go Nothing e = absurd (cc)
      go (Some f) e = let same : kind_of f ≡ kind = cc in ap (refuse place) same

  pub ranked-none : option_map kind_of (fault_of o (map (λ t. sort_of t) ts)) ≡ Nothing → fault_of o (map (λ t. sort_of t) ts) ≡ Nothing
  ranked-none = go (fault_of o (map (λ t. sort_of t) ts))
    where
      go : (f : Option RankFault) → option_map kind_of f ≡ Nothing → f ≡ Nothing
      go Nothing e = refl
      go (Some f) e = absurd (cc)

  made : fault_of o (map (λ t. sort_of t) ts) ≡ Nothing → applied o ts ≡ Ok (Apply o (in_trees ts))
  made e = ap (λ f. unless_fault f (Apply o (in_trees ts))) e

  pub ranked-deep : fault_of o (map (λ t. sort_of t) ts) ≡ Nothing → depth_limit ≤ depth_of_all (in_trees ts) → limited place (applied o ts) ≡ refuse place DepthLimit
  ranked-deep e le =
      let test : nat_le (1 + depth_of_all (in_trees ts)) depth_limit ≡ false = grind (arith, nat_tests) in
      ap (limited place) (made e) ∙ ap (λ b. cond b (Ok (Apply o (in_trees ts))) (refuse place DepthLimit)) test

  pub ranked-ok : fault_of o (map (λ t. sort_of t) ts) ≡ Nothing → depth_of_all (in_trees ts) < depth_limit → limited place (applied o ts) ≡ Ok (Apply o (in_trees ts))
  ranked-ok e lt =
      let test : nat_le (1 + depth_of_all (in_trees ts)) depth_limit ≡ true = grind (arith, nat_tests) in
      ap (limited place) (made e) ∙ ap (λ b. cond b (Ok (Apply o (in_trees ts))) (refuse place DepthLimit)) test

-- the same of ids, by their number
pub application-of_none : (trees : List Tree) (o : Op) (ns : List ℕ) → length ns ≡ 0 → application o (named trees ns) ≡ applied o (named trees ns)
application-of_none trees o [] e = application-none o
application-of_none trees o (n ∷ ns) e = absurd (omega (arith, e))

pub application-of_one : (trees : List Tree) (o : Op) (ns : List ℕ) (n : ℕ) → length ns ≡ 1 → n ≡ get_or ns 0 n → application o (named trees ns) ≡ application o (tree_at trees n ∷ [])
application-of_one trees o [] n e is = absurd (omega (arith, e))
application-of_one trees o (m ∷ []) n e is = ap (λ k. application o (tree_at trees k ∷ [])) (sym is)
application-of_one trees o (m ∷ k ∷ ks) n e is = absurd (omega (arith, e))

pub application-of_two : (trees : List Tree) (o : Op) (ns : List ℕ) → length ns ≡ 2 → application o (named trees ns) ≡ applied o (named trees ns)
application-of_two trees o [] e = absurd (omega (arith, e))
application-of_two trees o (n ∷ []) e = absurd (omega (arith, e))
application-of_two trees o (n ∷ m ∷ []) e = application-two o (tree_at trees n) (tree_at trees m)
application-of_two trees o (n ∷ m ∷ k ∷ ks) e = absurd (omega (arith, e))

pub application-of_many : (trees : List Tree) (o : Op) (chain : Chain) (ns : List ℕ) (n : ℕ) (ms : List ℕ) → 2 < length ns → ns ≡ n ∷ ms → chain ≡ chain_of o → application o (named trees ns) ≡ in_chain chain o (tree_at trees n) (named trees ms)
application-of_many trees o chain ns n [] many e c = absurd (omega (arith, many, ap length e))
application-of_many trees o chain ns n (m ∷ []) many e c = absurd (omega (arith, many, ap length e))
application-of_many trees o chain ns n (m ∷ k ∷ ks) many e c =
    ap (λ is. application o (named trees is)) e ∙ application-many o (tree_at trees n) (tree_at trees m) (tree_at trees k) (named trees ks)
    ∙ ap (λ d. in_chain d o (tree_at trees n) (named trees (m ∷ k ∷ ks))) (sym c)

-- the whole list of a chain
pub whole-right : (trees : List Tree) (o : Op) (ns : List ℕ) (n : ℕ) (ms : List ℕ) → ns ≡ n ∷ ms → all_to_the_right o (named trees ns) ≡ to_the_right o (tree_at trees n) (named trees ms)
whole-right trees o ns n ms e = ap (λ is. all_to_the_right o (named trees is)) e

pub whole-applied : (trees : List Tree) (o : Op) (ns : List ℕ) (n : ℕ) (ms : List ℕ) → ns ≡ n ∷ ms → applied o (named trees ns) ≡ applied o (tree_at trees n ∷ named trees ms)
whole-applied trees o ns n ms e = ap (λ is. applied o (named trees is)) e

-- the same answer
pub answers-same : (trees : List Tree) (place : ℕ) (r s : Result Tree ElabKind) (x : Result ℕ ElabFault) → r ≡ s → Answers trees (limited place s) x → Answers trees (limited place r) x
answers-same trees place r s x e h = subst (λ (q : Result Tree ElabKind). Answers trees (limited place q) x) (sym e) h
