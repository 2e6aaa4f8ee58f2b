-- The lines of Skolem terms and of expansion lists list them, and have no fault.
use Rattle.std.proofs.Common.{◌≡◌, ◌≢◌, ℕ, suc, ◌+◌, ◌<◌, ◌==◌, Bool, true, false, not, cond, Option, Some, None, List, [], ◌∷◌, ◌++◌, length, get_or, slice_get, refl, sym, ap, subst, ◌∙◌, append_assoc, arith}
use Rattle.std.specs.Prelude.{AllPairs, IsSomeAnd, IsTrue, is_some, unwrap_or, option_and_then}
use Rattle.std.specs.List.{AllByRecursion}
use Rattle.std.specs.Option.{option_map_or}
use Rattle.std.proofs.lemmas.Bool.{eqb-true}
use Rattle.std.proofs.lemmas.List.{append-nil, get_or_append_left, length-append}
use Rattle.std.proofs.lemmas.List.Elements.{All-from_recursion, recursion_from_All}
use Rattle.qv_words.specs.declared.sort.Sort.{Sort}
use Rattle.qv_words.specs.declared.sort.Sort.TheVariants.{Bool as BoolSort}
use Rattle.qv_words.specs.declared.op.Answer.TheVariants.{Sat, Unsat}
use Rattle.qv_words.specs.Tree.{Tree, Variable, Literal, tree_sort}
use Rattle.qv_words.specs.Sorted.{free_levels}
use Rattle.qv_words.specs.Clauses.{with_nodes}
use Rattle.qv_words.specs.Problem.{Problem, Place, Existential, Universal}
use Rattle.qv_words.specs.Skolem.{IsSkolemTerm, IsTermOf, SkolemTerm, term_of}
use Rattle.qv_words.specs.Expansion.{AreLines, ExpansionLine, Grown, IsEarlierEigen, StandsAt, grow, grown_behind, line_numbered, sort_at}
use Rattle.qv_words.specs.Expansion.{Instance as InstanceOf, Eigen as EigenOf}
use Rattle.qv_words.proofs.Elements.{all-weaker, length-pushed, some-and, to-some}
use Rattle.qv_words.proofs.Shorter.{grown-longer}
use Rattle.qv_cert.specs.Line.{CertLine, VariableNode, EigenNode, Skolem, Instance, Eigen}
use Rattle.qv_cert.specs.Listed.{Listed, eigen_sort}
use Rattle.qv_cert.specs.Faults.{belongs, faults_of, is_place, is_universal}
use Rattle.qv_cert.proofs.Pinned.{cleared, eigen-lines-have-no-fault, instance-lines-have-no-fault, term-lines-have-no-fault}
use Rattle.qv_solve_write_laws.specs.Writing.{expansion_lines, number_of, term_lines, tree_lines}
use Rattle.qv_solve_write_laws.specs.WritingLaws.{TermsAreWritten, TreesAreWritten}
use Rattle.qv_solve_write_laws.proofs.Nodes.{Fits, Leads, Plain, Ready, Setting, at, in-order, leads-append, leads-by, place-found, tree-leads}

-- ---- Skolem terms

abbrev sat : Problem → List SkolemTerm → Setting
sat p terms = record { problem = p; answer = Sat; terms = terms; lines = [] }

abbrev IsUniversalAt : Problem → ℕ × Sort → Type 0
IsUniversalAt p leaf = IsSomeAnd (slice_get p.prefix leaf.0) (λ place. (place.quantifier ≡ Universal) × (place.sort ≡ leaf.1))

sort-here : (p : Problem) (level : ℕ) (place : Place) → slice_get p.prefix level ≡ Some place → sort_at p level ≡ place.sort
sort-here p level place is = rw is refl

universal-fits : (p : Problem) (terms : List SkolemTerm) (nodes : List Tree) (level : ℕ) (s : Sort) → IsUniversalAt p (level, s) → Fits (sat p terms) nodes (Variable level s)
universal-fits p terms nodes level s h =
    let place = some-and (slice_get p.prefix level) (λ q. (q.quantifier ≡ Universal) × (q.sort ≡ s)) h in
    let here : is_place is_universal p level ≡ true = ap (λ (o : Option Place). option_map_or (λ (q : Place). is_universal q.quantifier) o false) place.1 ∙ ap is_universal place.2.0 in
    record {
      clean = cleared (faults_of p (at (sat p terms) nodes) (VariableNode (suc (length nodes)) level)) (in-order (length nodes), (ap not here, tt));
      lists = ap (λ (r : Sort). at (sat p terms) (nodes ++ Variable level r ∷ [])) (sort-here p level place.0 place.1 ∙ place.2.1);
      stands = refl;
    }

sat-ready : (p : Problem) (terms : List SkolemTerm) → Ready (sat p terms) (IsUniversalAt p)
sat-ready p terms = record {
  variables = universal-fits p terms;
  literals = λ node s value. refl;
  operators = λ node o children. refl;
}

no-term : (terms : List SkolemTerm) (j : ℕ) → AllByRecursion (λ t. t.place ≢ j) terms → term_of terms j ≡ None
no-term [] j h = refl
no-term (t ∷ terms) j h = go (t.place == j) refl (no-term terms j h.1)
  where
    go : (b : Bool) → (t.place == j) ≡ b → term_of terms j ≡ None → cond b (Some t.term) (term_of terms j) ≡ None
    go true is later = absurd (h.0 (eqb-true t.place j is))
    go false is later = later

abbrev AreApart : List SkolemTerm → Type 0
AreApart terms = AllPairs (λ s t. s.place ≢ t.place) terms

at-length : (terms : List SkolemTerm) (s : SkolemTerm) (rest : List SkolemTerm) (d : SkolemTerm) → get_or (terms ++ s ∷ rest) (length terms) d ≡ s
at-length [] s rest d = refl
at-length (t ∷ terms) s rest d = at-length terms s rest d

none-before : (terms : List SkolemTerm) (s : SkolemTerm) (rest : List SkolemTerm) → AreApart (terms ++ s ∷ rest) → term_of terms s.place ≡ None
none-before terms s rest h =
    no-term terms s.place (recursion_from_All (λ t. t.place ≢ s.place) terms (λ k d less.
    let long : length (terms ++ s ∷ rest) ≡ length terms + suc (length rest) = length-append terms (s ∷ rest) in
    let all = h k (length terms) d less (omega (arith, long)) in
    let first : get_or (terms ++ s ∷ rest) k d ≡ get_or terms k d = get_or_append_left terms (s ∷ rest) d k less in
    subst (λ (x : SkolemTerm). x.place ≢ s.place) first (subst (λ (x : SkolemTerm). (get_or (terms ++ s ∷ rest) k d).place ≢ x.place) (at-length terms s rest d) all)))

term-plain : (p : Problem) (s : SkolemTerm) → IsSkolemTerm p s → Plain (IsUniversalAt p) s.term
term-plain p s h =
    let place = some-and (slice_get p.prefix s.place) (λ q. (q.quantifier ≡ Existential) × IsTermOf s.term q.sort) h.0 in
    let term = place.2.1 in
    record {
      sorted = term.sorted;
      free = term.quantifier_free;
      constant_free = term.constant_free;
      leaves = all-weaker (λ leaf. (leaf.0 < s.place) × IsUniversalAt p leaf) (IsUniversalAt p) (free_levels s.term) (λ leaf k. k.1) (recursion_from_All (λ leaf. (leaf.0 < s.place) × IsUniversalAt p leaf) (free_levels s.term) h.1);
    }

abbrev TermsLead : Problem → List SkolemTerm → List Tree → List SkolemTerm → List CertLine → Type 0
TermsLead p terms nodes rest lines = (known : List Tree) × Leads p Sat (at (sat p terms) nodes) lines (at (sat p (terms ++ rest)) known)

terms-lead : (p : Problem) (terms : List SkolemTerm) (nodes : List Tree) (rest : List SkolemTerm) → AllByRecursion (IsSkolemTerm p) rest → AreApart (terms ++ rest) → TermsLead p terms nodes rest (term_lines nodes rest)
terms-lead p terms nodes [] h apart = (nodes, record { clean = tt; lists = ap (λ (ts : List SkolemTerm). at (sat p ts) nodes) (sym (append-nil terms)); stand = tt })
terms-lead p terms nodes (s ∷ rest) h apart =
    let known = with_nodes nodes s.term in
    let tree = tree-leads (sat p terms) (IsUniversalAt p) (sat-ready p terms) nodes s.term (term-plain p s h.0) in
    let found = place-found known s.term tree.1 in
    let place = some-and (slice_get p.prefix s.place) (λ q. (q.quantifier ≡ Existential) × IsTermOf s.term q.sort) h.0.0 in
    let own = place.2.1 in
    let clean = (term-lines-have-no-fault p (at (sat p terms) known) s.place (number_of known s.term)).1 (record {
      term = s.term;
      node_is = found;
      place_is = to-some (slice_get p.prefix s.place) (λ q. (q.quantifier ≡ Existential) × (tree_sort s.term ≡ Some q.sort)) place.0 place.1 (place.2.0, own.sort);
      first = none-before terms s rest apart;
      before = λ k d less. (h.0.1 k d less).0;
    }) in
    let listed = ap (λ (o : Option Tree). at (sat p (terms ++ (record { place = s.place; term = unwrap_or o (Literal BoolSort 0) }) ∷ [])) known) found in
    let more = terms-lead p (terms ++ s ∷ []) known rest h.1 (subst AreApart (sym (append_assoc terms (s ∷ []) rest)) apart) in
    let last = subst (λ (ts : List SkolemTerm). Leads p Sat (at (sat p (terms ++ s ∷ [])) known) (term_lines known rest) (at (sat p ts) more.0)) (append_assoc terms (s ∷ []) rest) more.1 in (
      more.0,
      leads-append p Sat (at (sat p terms) nodes) (at (sat p terms) known) (at (sat p (terms ++ s ∷ rest)) more.0) (tree_lines Sat nodes s.term) (Skolem s.place (number_of known s.term) ∷ term_lines known rest) tree.0
          (leads-by p Sat (at (sat p terms) known) (at (sat p (terms ++ s ∷ [])) known) (at (sat p (terms ++ s ∷ rest)) more.0) (Skolem s.place (number_of known s.term)) (term_lines known rest) clean listed refl last),
    )

pub terms-written : TermsAreWritten
terms-written p terms h =
    let led = terms-lead p [] [] terms (recursion_from_All (IsSkolemTerm p) terms h.each) h.once in
    let leads = led.1 in (
      record {
        belong = All-from_recursion (λ line. IsTrue (belongs Sat line)) (term_lines [] terms) leads.stand;
        lawful = leads.clean;
      },
      ap (λ (l : Listed). l.terms) leads.lists,
    )

-- ---- expansion lists

abbrev unsat : Problem → List ExpansionLine → Setting
unsat p lines = record { problem = p; answer = Unsat; terms = []; lines = lines }

eigen-fits : (p : Problem) (lines : List ExpansionLine) (nodes : List Tree) (level : ℕ) (s : Sort) → IsEarlierEigen (grown_behind p [] lines) (level, s) → Fits (unsat p lines) nodes (Variable level s)
eigen-fits p lines nodes level s h =
    let grown = grown_behind p [] lines in
    let g = some-and (line_numbered grown level) (λ g. g.eigen ≡ Some s) h.1 in
    let eigen : eigen_sort p (at (unsat p lines) nodes) level ≡ Some s = ap (λ (o : Option Grown). option_and_then (λ (x : Grown). x.eigen) o) g.1 ∙ g.2 in
    record {
      clean = cleared (faults_of p (at (unsat p lines) nodes) (EigenNode (suc (length nodes)) level)) (in-order (length nodes), (ap (λ (o : Option Sort). not (is_some o)) eigen, tt));
      lists = ap (λ (o : Option Sort). at (unsat p lines) (nodes ++ Variable level (unwrap_or o BoolSort) ∷ [])) eigen;
      stands = refl;
    }

unsat-ready : (p : Problem) (lines : List ExpansionLine) → Ready (unsat p lines) (IsEarlierEigen (grown_behind p [] lines))
unsat-ready p lines = record {
  variables = eigen-fits p lines;
  literals = λ node s value. refl;
  operators = λ node o children. refl;
}

abbrev LinesLead : Problem → List ExpansionLine → List Tree → List ExpansionLine → List CertLine → Type 0
LinesLead p lines nodes rest written = (known : List Tree) × Leads p Unsat (at (unsat p lines) nodes) written (at (unsat p (lines ++ rest)) known)

-- behind one more line
go-on : (p : Problem) (lines : List ExpansionLine) (known : List Tree) (line : ExpansionLine) (rest : List ExpansionLine) →
    (AreLines p (grown_behind p [] (lines ++ line ∷ [])) rest → LinesLead p (lines ++ line ∷ []) known rest (expansion_lines (suc (length (lines ++ line ∷ []))) known rest)) →
    AreLines p (grown_behind p [] lines ++ grow p (grown_behind p [] lines) line ∷ []) rest →
    (last : List Tree) × Leads p Unsat (at (unsat p (lines ++ line ∷ [])) known) (expansion_lines (suc (suc (length lines))) known rest) (at (unsat p (lines ++ line ∷ rest)) last)
go-on p lines known line rest more h =
    let led = more (subst (λ (g : List Grown). AreLines p g rest) (sym (grown-longer p [] lines line)) h) in
    let counted = subst (λ n. Leads p Unsat (at (unsat p (lines ++ line ∷ [])) known) (expansion_lines (suc n) known rest) (at (unsat p ((lines ++ line ∷ []) ++ rest)) led.0)) (length-pushed lines line) led.1 in
    (led.0, subst (λ (ls : List ExpansionLine). Leads p Unsat (at (unsat p (lines ++ line ∷ [])) known) (expansion_lines (suc (suc (length lines))) known rest) (at (unsat p ls) led.0)) (append_assoc lines (line ∷ []) rest) counted)

lines-lead : (p : Problem) (lines : List ExpansionLine) (nodes : List Tree) (rest : List ExpansionLine) → AreLines p (grown_behind p [] lines) rest → LinesLead p lines nodes rest (expansion_lines (suc (length lines)) nodes rest)
lines-lead p lines nodes [] h = (nodes, record { clean = tt; lists = ap (λ (ls : List ExpansionLine). at (unsat p ls) nodes) (sym (append-nil lines)); stand = tt })
lines-lead p lines nodes (InstanceOf parent t ∷ rest) h =
    let grown = grown_behind p [] lines in
    let known = with_nodes nodes t in
    let above = some-and (line_numbered grown parent) (λ g. StandsAt p Universal g.path (IsTermOf t)) h.0.0 in
    let place = some-and (slice_get p.prefix (length above.0.path)) (λ q. (q.quantifier ≡ Universal) × IsTermOf t q.sort) above.2 in
    let own = place.2.1 in
    let tree = tree-leads (unsat p lines) (IsEarlierEigen grown) (unsat-ready p lines) nodes t (record {
      sorted = own.sorted;
      free = own.quantifier_free;
      constant_free = own.constant_free;
      leaves = recursion_from_All (IsEarlierEigen grown) (free_levels t) h.0.1;
    }) in
    let found = place-found known t tree.1 in
    let clean = (instance-lines-have-no-fault p (at (unsat p lines) known) (suc (length lines)) parent (number_of known t)).1 (record {
      term = t;
      above = above.0;
      next = refl;
      node_is = found;
      parent_is = above.1;
      place_is = to-some (slice_get p.prefix (length above.0.path)) (λ q. (q.quantifier ≡ Universal) × (tree_sort t ≡ Some q.sort)) place.0 place.1 (place.2.0, own.sort);
    }) in
    let listed = ap (λ (o : Option Tree). at (unsat p (lines ++ InstanceOf parent (unwrap_or o (Literal BoolSort 0)) ∷ [])) known) found in
    let more = go-on p lines known (InstanceOf parent t) rest (λ k. lines-lead p (lines ++ InstanceOf parent t ∷ []) known rest k) h.1 in
    let line = Instance (suc (length lines)) parent (number_of known t) in
    let last = at (unsat p (lines ++ InstanceOf parent t ∷ rest)) more.0 in
    let others = expansion_lines (suc (suc (length lines))) known rest in (
      more.0,
      leads-append p Unsat (at (unsat p lines) nodes) (at (unsat p lines) known) last (tree_lines Unsat nodes t) (line ∷ others) tree.0
          (leads-by p Unsat (at (unsat p lines) known) (at (unsat p (lines ++ InstanceOf parent t ∷ [])) known) last line others clean listed refl more.1),
    )
lines-lead p lines nodes (EigenOf parent ∷ rest) h =
    let above = some-and (line_numbered (grown_behind p [] lines) parent) (λ g. StandsAt p Existential g.path (λ s. Unit {0})) h.0 in
    let place = some-and (slice_get p.prefix (length above.0.path)) (λ q. (q.quantifier ≡ Existential) × Unit {0}) above.2 in
    let clean = (eigen-lines-have-no-fault p (at (unsat p lines) nodes) (suc (length lines)) parent).1 (record {
      above = above.0;
      next = refl;
      parent_is = above.1;
      place_is = to-some (slice_get p.prefix (length above.0.path)) (λ q. q.quantifier ≡ Existential) place.0 place.1 place.2.0;
    }) in
    let more = go-on p lines nodes (EigenOf parent) rest (λ k. lines-lead p (lines ++ EigenOf parent ∷ []) nodes rest k) h.1 in (
      more.0,
      leads-by p Unsat (at (unsat p lines) nodes) (at (unsat p (lines ++ EigenOf parent ∷ [])) nodes) (at (unsat p (lines ++ EigenOf parent ∷ rest)) more.0) (Eigen (suc (length lines)) parent) (expansion_lines (suc (suc (length lines))) nodes rest) clean refl refl more.1,
    )

pub trees-written : TreesAreWritten
trees-written p lines h =
    let led = lines-lead p [] [] lines h in
    let leads = led.1 in (
      record {
        belong = All-from_recursion (λ line. IsTrue (belongs Unsat line)) (expansion_lines 1 [] lines) leads.stand;
        lawful = leads.clean;
      },
      ap (λ (l : Listed). l.lines) leads.lists,
    )
