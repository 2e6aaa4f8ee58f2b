-- How items are copied into an expression of their own. No public contract cites this.
use Rattle.std.specs.Prelude.{ℕ, ◌≡◌, ◌+◌, ◌-◌, ◌≤◌, ◌<◌, List, [], length, slice_get, Some}
use Rattle.std.specs.List.{slice_range}
use Rattle.qv_sexpr.specs.declared.items.Item.{Item}
use Rattle.qv_sexpr.specs.declared.items.ItemKind.{ItemKind}
use Rattle.qv_sexpr.specs.declared.items.ItemKind.TheVariants.{Atom, Open, Close}

-- an item's kind where the items are numbered from first on
abbrev pub moved : ℕ → ItemKind → ItemKind
moved first (Atom kind) = Atom kind
moved first (Open close) = Open (close - first)
moved first Close = Close

-- the bytes of an item of this kind
abbrev pub own_text : ItemKind → Item → List ℕ → List ℕ
own_text (Atom kind) item text = slice_range text item.start item.end
own_text (Open close) item text = []
own_text Close item text = []

abbrev pub CanCopyKind : ItemKind → Item → List ℕ → ℕ → Type 0
CanCopyKind (Atom kind) item text first = (item.start ≤ item.end) × (item.end ≤ length text)
CanCopyKind (Open close) item text first = first ≤ close
CanCopyKind Close item text first = Unit {0}

-- an atom's bytes are there, and a close is at the first number or behind it
abbrev pub CanCopy : Item → List ℕ → ℕ → Type 0
CanCopy item text first = CanCopyKind item.kind item text first

abbrev pub EndsAt : ItemKind → ℕ → ℕ → Type 0
EndsAt (Atom kind) i j = j ≡ i + 1
EndsAt (Open close) i j = j ≡ close + 1
EndsAt Close i j = j ≡ i + 1

-- the expression that begins at number i ends before number j
abbrev pub EndsBefore : List Item → ℕ → ℕ → Type 0
EndsBefore items i j = (item : Item) × (slice_get items i ≡ Some item) × EndsAt item.kind i j

-- the item of this number is a copy of an item
pub record IsCopyAt (items : List Item) (text : List ℕ) (i : ℕ) (first : ℕ) (item : Item) (old_text : List ℕ) : Type 0 where
  pub start : ℕ
  pub end : ℕ
  pub item_is : slice_get items i ≡ Some (record { kind = moved first item.kind; place = item.place; start = start; end = end })
  pub ordered : start ≤ end
  pub within : end ≤ length text
  pub text_is : slice_range text start end ≡ own_text item.kind item old_text

-- the first n items behind number first were copied
pub record AreCopied (old : List Item) (old_text : List ℕ) (first : ℕ) (items : List Item) (text : List ℕ) (n : ℕ) : Type 0 where
  pub count : length items ≡ n
  pub each : (i : ℕ) (item : Item) → i < n → slice_get old (first + i) ≡ Some item → IsCopyAt items text i first item old_text
