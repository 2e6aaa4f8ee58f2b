-- What a blaster has, and where the definition's list then stands.
use Rattle.std.specs.Prelude.{◌≡◌, ℕ, suc, ◌+◌, ◌<◌, ◌≤◌, List, [], ◌∷◌, ◌++◌, map, length, slice_index_or}
use Rattle.qv_words.specs.Tree.{Tree, IsQuantifierFree}
use Rattle.qv_words.specs.Gate.{Lit}
use Rattle.qv_words.specs.Gate.{gates_clauses}
use Rattle.qv_words.specs.Sort.{width_of}
use Rattle.qv_words.specs.Word.{word_sort, word_value}
use Rattle.qv_words.specs.Routine.{bits_of_number}
use Rattle.qv_words.specs.OpCircuit.{op_circuit}
use Rattle.qv_words.specs.Clauses.{Blasted, Blasting, variables_from}
use Rattle.std.specs.List.{AllZip}
use Rattle.qv_circuits.specs.Fitting.{FitsRank}
use Rattle.qv_cnf.specs.Literal.{Literal}
use Rattle.qv_cnf.specs.Listing.{IsListing, Listing, clauses_of}
use Rattle.qv_circuits.specs.Adding.{lits_of, with_clauses}
use Rattle.qv_circuits_laws.specs.Standing.{Stands}
use Rattle.qv_store.specs.Nodes.{children, tree_at}
use Rattle.qv_store.specs.Walks.{IsFound, IsWalk}
use Rattle.qv_store.specs.declared.node.Node.{Node}
use Rattle.qv_store.specs.declared.node.Node.TheVariants.{Const, Var, Lit as LitNode, App, Ex}
use Rattle.qv_store.specs.declared.node.Node.TheVariants.{All as AllNode}

-- the clause list with the next variable, the greatest that may be taken, and the next id
pub record Listed : Type 0 where
  pub limit : ℕ
  pub next : ℕ
  pub id : ℕ
  pub list : Listing

-- clauses under ids from 1 on
abbrev pub from_one : List (List Literal) → Listing
from_one clauses = with_clauses (record { live = []; given = [] }) 1 clauses

-- the circuits' clauses of a list
abbrev pub clauses_in : Listing → List (List Lit)
clauses_in list = map lits_of (clauses_of list.live)

-- what each list keeps
pub record IsListed (s : Listed) : Type 0 where
  pub some : 2 ≤ s.next
  pub within : s.next ≤ s.limit + 1
  pub list : s.list ≡ from_one (clauses_of s.list.live)
  pub id : s.id ≡ suc (length (clauses_of s.list.live))

-- the trees of terms with their bits, as far as there are any
abbrev pub blasted_at : List Tree → List ℕ → List (List Literal) → List Blasted
blasted_at trees [] bits = []
blasted_at trees (n ∷ ns) [] = []
blasted_at trees (n ∷ ns) (b ∷ bs) = record { tree = tree_at trees n; bits = lits_of b } ∷ blasted_at trees ns bs

-- where the definition's list stands
abbrev pub blasting_of : List Tree → List ℕ → List (List Literal) → Listed → Blasting
blasting_of trees ids bits s = record { next = s.next; known = blasted_at trees ids bits; clauses = clauses_in s.list }

-- clauses came behind those of the older list
pub record IsGrown (older s : Listed) : Type 0 where
  pub limit : s.limit ≡ older.limit
  pub more : List (List Literal)
  pub list : s.list ≡ with_clauses older.list older.id more
  pub id : s.id ≡ older.id + length more

-- an older state with this next variable and this next id, behind which clauses came
pub record StoodAt (s : Listed) (next id : ℕ) : Type 0 where
  pub older : Listed
  pub listing : IsListing older.list
  pub listed : IsListed older
  pub grown : IsGrown older s
  pub next_is : older.next ≡ next
  pub id_is : older.id ≡ id

-- what was found for each of some terms stands at their places
abbrev pub AreFound : List ℕ → List (List Literal) → List ℕ → List (List Literal) → Type 0
AreFound ids bits kids args = AllZip (IsFound ids bits) kids args

-- an operator's arguments have the widths that it wants; a quantifier has no bits
abbrev pub MayHaveBits : Node → List (List Literal) → Type 0
MayHaveBits (Const i s) args = Unit {0}
MayHaveBits (Var l s) args = Unit {0}
MayHaveBits (LitNode w) args = Unit {0}
MayHaveBits (App o kids) args = FitsRank o (map lits_of args)
MayHaveBits (AllNode l s body) args = ⊥
MayHaveBits (Ex l s body) args = ⊥

-- no quantifier
abbrev pub IsUnbound : Node → Type 0
IsUnbound (AllNode l s body) = ⊥
IsUnbound (Ex l s body) = ⊥
IsUnbound _ = Unit {0}

-- the bits of a node over those of its children, what stands behind the clauses then, and how many
-- variables it takes
abbrev pub node_bits : Node → List (List Literal) → ℕ → List Lit
node_bits (Const i s) args next = variables_from next (width_of s)
node_bits (Var l s) args next = variables_from next (width_of s)
node_bits (LitNode w) args next = bits_of_number (width_of (word_sort w)) (word_value w)
node_bits (App o kids) args next = (op_circuit o (map lits_of args) next).result
node_bits (AllNode l s body) args next = []
node_bits (Ex l s body) args next = []

abbrev pub node_gates : Node → List (List Literal) → ℕ → List (List Lit)
node_gates (App o kids) args next = gates_clauses next (op_circuit o (map lits_of args) next).gates
node_gates _ args next = []

abbrev pub node_variables : Node → List (List Literal) → ℕ → ℕ
node_variables (Const i s) args next = width_of s
node_variables (Var l s) args next = width_of s
node_variables (App o kids) args next = length (op_circuit o (map lits_of args) next).gates
node_variables _ args next = 0

pub record Makes (node : Node) (args : List (List Literal)) (old : Listed) (bits : List Lit) (new : Listed) : Type 0 where
  pub bits_are : bits ≡ node_bits node args old.next
  pub clauses : clauses_in new.list ≡ clauses_in old.list ++ node_gates node args old.next
  pub variables : new.next ≡ old.next + node_variables node args old.next

-- the same over what is found for its children, and that a variable over the limit is wanted
pub record MakesNode (ids : List ℕ) (bits : List (List Literal)) (node : Node) (old : Listed) (made : List Lit) (new : Listed) : Type 0 where
  pub args : List (List Literal)
  pub found : AreFound ids bits (children node) args
  pub makes : Makes node args old made new

pub record WantsMore (ids : List ℕ) (bits : List (List Literal)) (node : Node) (old : Listed) : Type 0 where
  pub args : List (List Literal)
  pub found : AreFound ids bits (children node) args
  pub over : old.limit + 1 < old.next + node_variables node args old.next

-- the terms of a walk without quantifiers, of which the first have bits
pub record IsReady (trees : List Tree) (ids : List ℕ) (bits : List (List Literal)) (s : Listed) : Type 0 where
  pub walk : IsWalk trees ids
  pub few : length bits ≤ length ids
  pub stands : Stands (blasting_of trees ids bits s)
  pub free : (i : ℕ) → i < length ids → IsQuantifierFree (tree_at trees (slice_index_or ids i 0))

-- the unit clause of a term's bit
pub record IsUnit (ids : List ℕ) (bits : List (List Literal)) (id : ℕ) (old new : Listed) : Type 0 where
  pub lits : List Literal
  pub found : IsFound ids bits id lits
  pub clauses : clauses_in new.list ≡ clauses_in old.list ++ lits_of lits ∷ []
  pub next : new.next ≡ old.next
