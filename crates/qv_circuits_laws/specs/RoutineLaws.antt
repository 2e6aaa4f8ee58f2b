-- What routines give at lists behind one another: one circuit, and behind its gates another.
use Rattle.std.specs.Prelude.{◌≡◌, ℕ, ◌*◌, ◌^◌, Bool, List, ◌++◌, length, take, drop}
use Rattle.qv_words.specs.Gate.{Lit, Circuit, done, ◌>>=◌}
use Rattle.qv_words.specs.Routine.{add, sel, each, and_all, or_all, carry, stages, rows, divided}

-- sums, choices, operations bit by bit and comparisons go on at the next bits
abbrev pub SumsGoOn : Type 0
SumsGoOn =
    (a b more others : List Lit) (c : Lit) → length a ≡ length b →
    add (a ++ more) (b ++ others) c ≡ (add a b c >>= λ s. add more others s.1 >>= λ t. done (s.0 ++ t.0, t.1))

abbrev pub ChoicesGoOn : Type 0
ChoicesGoOn =
    (c : Lit) (a b more others : List Lit) → length a ≡ length b →
    sel c (a ++ more) (b ++ others) ≡ (sel c a b >>= λ s. sel c more others >>= λ t. done (s ++ t))

abbrev pub EachGoesOn : Type 0
EachGoesOn =
    (op : Lit → Lit → Circuit Lit) (a b more others : List Lit) → length a ≡ length b →
    each op (a ++ more) (b ++ others) ≡ (each op a b >>= λ s. each op more others >>= λ t. done (s ++ t))

abbrev pub CarriesGoOn : Type 0
CarriesGoOn =
    (a b more others : List Lit) (c : Lit) → length a ≡ length b →
    carry (a ++ more) (b ++ others) c ≡ (carry a b c >>= λ k. carry more others k)

-- conjunctions and disjunctions go on with the next literals
abbrev pub ConjunctionsGoOn : Type 0
ConjunctionsGoOn = (r : Lit) (ls more : List Lit) → and_all r (ls ++ more) ≡ (and_all r ls >>= λ g. and_all g more)

abbrev pub DisjunctionsGoOn : Type 0
DisjunctionsGoOn = (r : Lit) (ls more : List Lit) → or_all r (ls ++ more) ≡ (or_all r ls >>= λ g. or_all g more)

-- shifts go on with the next stages, each of which moves twice as far
abbrev pub StagesGoOn : Type 0
StagesGoOn =
    (left : Bool) (fill : Lit) (n : ℕ) (bs more bits : List Lit) →
    stages left fill n (bs ++ more) bits ≡ (stages left fill n bs bits >>= λ next. stages left fill (n * 2 ^ length bs) more next)

-- products go on with the next rows, over the bits that aren't done yet
abbrev pub RowsGoOn : Type 0
RowsGoOn =
    (a acc bs more : List Lit) →
    rows a acc (bs ++ more) ≡ (rows a acc bs >>= λ r. rows a (drop (length bs) r) more >>= λ s. done (take (length bs) r ++ s))

-- divisions go on with the next bits
abbrev pub DivisionsGoOn : Type 0
DivisionsGoOn =
    (b as' more q r : List Lit) →
    divided b (as' ++ more) q r ≡ (divided b as' q r >>= λ d. divided b more d.0 d.1)

pub record RoutinesGoOn : Type 0 where
  pub sums : SumsGoOn
  pub choices : ChoicesGoOn
  pub bit_by_bit : EachGoesOn
  pub comparisons : CarriesGoOn
  pub conjunctions : ConjunctionsGoOn
  pub disjunctions : DisjunctionsGoOn
  pub stages : StagesGoOn
  pub rows : RowsGoOn
  pub divisions : DivisionsGoOn
