-- How items are spelled, one after another. No public contract cites this.
use Rattle.std.specs.Prelude.{ℕ, zero, suc, ◌++◌, Bool, true, false, Option, Some, None, List, [], unwrap_or, slice_get, codes}
use Rattle.qv_sexpr.specs.declared.items.Item.{Item}
use Rattle.qv_sexpr.specs.declared.items.ItemKind.{ItemKind}
use Rattle.qv_sexpr.specs.declared.items.ItemKind.TheVariants.{Atom, Open, Close}
use Rattle.qv_elab_items.specs.Flat.{text_in}

-- the space before an item, unless it stands at an edge
abbrev pub gap : Bool → List ℕ
gap true = []
gap false = codes " "

-- whether what comes next stands at an edge: behind an open parenthesis
abbrev pub is_edge : ItemKind → Bool
is_edge (Atom kind) = false
is_edge (Open close) = true
is_edge Close = false

abbrev pub spelled_by : List ℕ → Bool → Item → ItemKind → List ℕ
spelled_by text edge item (Atom kind) = gap edge ++ unwrap_or (text_in text item) []
spelled_by text edge item (Open close) = gap edge ++ codes "("
spelled_by text edge item Close = codes ")"

-- an item with the space before it
abbrev pub spelled : List ℕ → Bool → Item → List ℕ
spelled text edge item = spelled_by text edge item item.kind

abbrev pub spelled_if : List ℕ → Bool → Option Item → List ℕ
spelled_if text edge (Some item) = spelled text edge item
spelled_if text edge None = []

abbrev pub edge_behind : Option Item → Bool
edge_behind (Some item) = is_edge item.kind
edge_behind None = false

-- so many items from a number on
abbrev pub spell : List Item → List ℕ → Bool → ℕ → ℕ → List ℕ
spell its text edge i zero = []
spell its text edge i (suc n) = spelled_if text edge (slice_get its i) ++ spell its text (edge_behind (slice_get its i)) (suc i) n
