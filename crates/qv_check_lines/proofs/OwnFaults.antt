-- A line's own fault is never that the bytes end inside it.
use Rattle.std.proofs.Common.{◌≡◌, ◌≢◌, ℕ, Bool, true, false, cond, Option, Some, None, List, [], ◌∷◌, subst, codes}
use Rattle.std.specs.Prelude.{option_map, nat_le, Ok, Err}
use Rattle.std.specs.Str.{bytes_eq}
use Rattle.qv_rewrite_passes.specs.declared.pass.Pass.{Pass}
use Rattle.qv_words.specs.declared.op.Op.{Op}
use Rattle.qv_cnf.specs.LratLine.{LratLine}
use Rattle.qv_lrat_text.specs.Words.{words}
use Rattle.qv_lrat_text.specs.Grammar.{◌>>=◌, line_of_words, without_lf}
use Rattle.qv_sorts.specs.Search.{indexed_operator}
use Rattle.qv_cert.specs.declared.kind.RefusalKind.{RefusalKind}
use Rattle.qv_cert.specs.declared.kind.RefusalKind.TheVariants as kind
use Rattle.qv_cert.specs.Line.{CertLine, VariableNode, EigenNode, LiteralNode, Skolem, Instance, Eigen, Rewrite, Lrat, End}
use Rattle.qv_cert.specs.Grammar.{Reading, or_fault, number, large_number, numbers, header, check, sort_of_width, is_value, literal_node, literal_in, at_colon, operator_node, application, one_number, two_numbers, three_numbers, read, node_line, node, rewriting, alone, behind_word, formed, outer_line, inner_line, lrat_step, cert_line}
use Rattle.qv_rewrite_passes.specs.Names.{pass_named}

abbrev IsOwn : Reading → Type 0
IsOwn (Ok line) = Unit {0}
IsOwn (Err k) = k ≢ kind.Truncated

abbrev OwnOption : Option Reading → Type 0
OwnOption None = Unit {0}
OwnOption (Some r) = IsOwn r

either : (b : Bool) (x y : Option Reading) → OwnOption x → OwnOption y → OwnOption (cond b x y)
either true x y h k = h
either false x y h k = k

own-read : (line : Option CertLine) → OwnOption (read line)
own-read None = tt
own-read (Some line) = tt

own-literal : (k w v : ℕ) → IsOwn (literal_node k w v)
own-literal k w v = go (is_value (nat_le w 128) w v)
  where
    go : (b : Bool) → IsOwn (cond b (Ok (LiteralNode k (sort_of_width w) v)) (Err kind.Literal))
    go true = tt
    go false = λ e. cc

own-literal_in : (k : ℕ) (ws : List (List ℕ)) → OwnOption (literal_in k ws)
own-literal_in k [] = tt
own-literal_in k (a ∷ []) = tt
own-literal_in k (a ∷ b ∷ []) = go (number a) (large_number b)
  where
    go : (o q : Option ℕ) → OwnOption (o >>= (λ w. q >>= (λ v. Some (literal_node k w v))))
    go None q = tt
    go (Some w) None = tt
    go (Some w) (Some v) = own-literal k w v
own-literal_in k (a ∷ b ∷ c ∷ ws) = tt

own-operator : (k : ℕ) (children : List ℕ) (o : Option Op) → IsOwn (operator_node k children o)
own-operator k children None = λ e. cc
own-operator k children (Some o) = tt

own-application : (k : ℕ) (ws : List (List ℕ)) → OwnOption (application k ws)
own-application k [] = tt
own-application k (name ∷ ws) = go (at_colon ws)
  where
    inner : (o q : Option (List ℕ)) → OwnOption (o >>= (λ indices. q >>= (λ children. Some (operator_node k children (indexed_operator name indices)))))
    inner None q = tt
    inner (Some indices) None = tt
    inner (Some indices) (Some children) = own-operator k children (indexed_operator name indices)

    go : (o : Option (List (List ℕ) × List (List ℕ))) → OwnOption (o >>= (λ found. numbers large_number found.0 >>= (λ indices. numbers number found.1 >>= (λ children. Some (operator_node k children (indexed_operator name indices))))))
    go None = tt
    go (Some found) = inner (numbers large_number found.0) (numbers number found.1)

own-node_line : (k : ℕ) (ws : List (List ℕ)) → OwnOption (node_line k ws)
own-node_line k [] = tt
own-node_line k (form ∷ ws) =
    either (bytes_eq form (codes "v")) _ _ (own-read (one_number (VariableNode k) ws))
    (either (bytes_eq form (codes "g")) _ _ (own-read (one_number (EigenNode k) ws))
    (either (bytes_eq form (codes "c")) _ _ (own-literal_in k ws)
    (either (bytes_eq form (codes "o")) (application k ws) None (own-application k ws) tt)))

own-node : (ws : List (List ℕ)) → OwnOption (node ws)
own-node [] = tt
own-node (w ∷ ws) = go (number w)
  where
    go : (o : Option ℕ) → OwnOption (o >>= (λ k. node_line k ws))
    go None = tt
    go (Some k) = own-node_line k ws

own-rewriting : (ws : List (List ℕ)) → OwnOption (rewriting ws)
own-rewriting [] = tt
own-rewriting (name ∷ []) = go (pass_named name)
  where
    go : (o : Option Pass) → IsOwn (or_fault kind.Rule (option_map Rewrite o))
    go None = λ e. cc
    go (Some p) = tt
own-rewriting (name ∷ x ∷ ws) = tt

own-header : (o : Option CertLine) → IsOwn (or_fault kind.Header o)
own-header None = λ e. cc
own-header (Some line) = tt

own-formed : (o : Option Reading) → OwnOption o → IsOwn (formed o)
own-formed None h = λ e. cc
own-formed (Some r) h = h

own-behind : (first : List ℕ) (ws : List (List ℕ)) → OwnOption (behind_word first ws)
own-behind first ws =
    either (bytes_eq first (codes "qbv-cert")) _ _ (own-header (header ws))
    (either (bytes_eq first (codes "check")) _ _ (own-read (check ws))
    (either (bytes_eq first (codes "n")) _ _ (own-node ws)
    (either (bytes_eq first (codes "s")) _ _ (own-read (two_numbers Skolem ws))
    (either (bytes_eq first (codes "i")) _ _ (own-read (three_numbers Instance ws))
    (either (bytes_eq first (codes "e")) _ _ (own-read (two_numbers Eigen ws))
    (either (bytes_eq first (codes "w")) _ _ (own-rewriting ws)
    (either (bytes_eq first (codes "lrat")) _ _ (own-read (alone Lrat ws))
    (either (bytes_eq first (codes "end")) (read (alone End ws)) None (own-read (alone End ws)) tt))))))))

own-outer : (ws : List (List ℕ)) → IsOwn (outer_line ws)
own-outer [] = λ e. cc
own-outer (w ∷ ws) = own-formed (behind_word w ws) (own-behind w ws)

own-inner : (ws : List (List ℕ)) → IsOwn (inner_line ws)
own-inner [] = λ e. cc
own-inner (w ∷ []) = go (bytes_eq w (codes "end"))
  where
    go : (b : Bool) → IsOwn (cond b (Ok End) (Err kind.Form))
    go true = tt
    go false = λ e. cc
own-inner (w ∷ x ∷ ws) = go (line_of_words (w ∷ x ∷ ws))
  where
    go : (o : Option LratLine) → IsOwn (lrat_step o)
    go None = λ e. cc
    go (Some line) = tt

own : (inner : Bool) (text : List ℕ) → IsOwn (cert_line inner text)
unfolding cert_line
own true text = own-inner (words (without_lf text))
own false text = own-outer (words (without_lf text))

pub not-truncated : (inner : Bool) (text : List ℕ) (k : RefusalKind) → cert_line inner text ≡ Err k → k ≢ kind.Truncated
not-truncated inner text k e = subst IsOwn e (own inner text)
