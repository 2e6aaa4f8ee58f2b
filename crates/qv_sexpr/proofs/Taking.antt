-- Tokens of a source.
use Rattle.std.proofs.Common.{ℕ, ◌≡◌, ◌+◌, ◌<◌, ◌≤◌, ◌⊎◌, inl, inr, true, false, cond, List, [], ◌++◌, length, Option, Some, None, option_map, IsSomeAnd, IsTrue, refl, sym, ap, subst, ◌∙◌, length-append, arith}
use Rattle.std.proofs.lemmas.Bool.{cases_lt}
use Rattle.qv_sexpr.specs.Limits.{read_limit, piece_size}
use Rattle.qv_text.specs.declared.kinds.Token.{Token}
use Rattle.qv_text.specs.declared.kinds.TokenKind.TheVariants.{RightParen}
use Rattle.qv_text.specs.Reading.{Lexeme, Tokens, ends, stops_at, gives, token_of}
use Rattle.qv_text.specs.Progress.{Progress, fed, still_reads, MayCome, GivesToken, ReadsTheSame, IsOpen}
use Rattle.qv_sexpr.specs.Reader.{coming, FedGiven, TakesBelow}
use Rattle.qv_sexpr.specs.Input.{Leaves, BeginsFrom, IsFrom, ClosesFrom, IsNear, TakesPiece, GetsToken, StandsAhead}
use Rattle.qv_sexpr.proofs.Alone.{BeginsWell, begins_well}
use Rattle.qv_sexpr.proofs.Closing.{all_close, closes_later, open_closes}

from_well : (place : ℕ) (ts : Tokens) → BeginsWell place ts → BeginsFrom place ts
from_well place ends h = tt
from_well place (stops_at fault) h = tt
from_well place (gives l rest) h = h.1

pub from_start : (lexer : Progress) → IsFrom lexer.place lexer
from_start lexer more = from_well lexer.place (still_reads lexer more) (begins_well 0 lexer.place (lexer.rest ++ more))

below_start : (lexer : Progress) → TakesBelow lexer lexer
below_start lexer = record { grows = omega arith; piece = λ lt. absurd (omega arith); finish = λ f. inl f; stays = λ f. (f, refl) }

some_weaker : {P Q : Lexeme → Type 0} (o : Option Lexeme) → ((l : Lexeme) → P l → Q l) → IsSomeAnd o P → IsSomeAnd o Q
some_weaker None h p = p
some_weaker (Some l) h p = h l p

-- bytes that a source has left may come, unless the end was met
may_come : (lexer : Progress) (left : List ℕ) → MayCome lexer (cond lexer.finished [] left)
may_come lexer left e = ap (λ t. cond t [] left) e

gives_told : (mid new : Progress) (l : Lexeme) (left : Option (List ℕ)) → new.finished ≡ mid.finished →
    ((more : List ℕ) → MayCome mid more → still_reads mid more ≡ gives l (still_reads new more)) →
    option_map (coming mid) left ≡ option_map (λ rest. gives l (coming new rest)) left
gives_told mid new l None e h = refl
gives_told mid new l (Some rest) e h =
    ap Some (h (cond mid.finished [] rest) (may_come mid rest) ∙ ap (λ t. gives l (still_reads new (cond t [] rest))) (sym e))

-- the lexer gave a token, behind pieces that were taken
pub gets_token : (old mid new : Progress) (t : Token) (first left : Option (List ℕ)) → new.finished ≡ mid.finished → option_map (coming old) first ≡ option_map (coming mid) left →
    GivesToken mid t new → GetsToken first old t left new
gets_token old mid new t first left e told answer =
    some_weaker new.last
    (λ l h.
    let well : BeginsWell mid.place (gives l (still_reads new [])) = subst (BeginsWell mid.place) (h.1 [] (λ _. refl)) (begins_well 0 mid.place (mid.rest ++ [])) in
    (h.0, well.0, told ∙ gives_told mid new l left e h.1))
    answer.next

placed : (place : ℕ) (mid new : Progress) (t : Token) (o : Option Lexeme) → IsFrom place mid →
    IsSomeAnd o (λ l. (token_of l ≡ t) × ((more : List ℕ) → MayCome mid more → still_reads mid more ≡ gives l (still_reads new more))) → place ≤ t.place
placed place mid new t None from h = absurd h
placed place mid new t (Some l) from h =
    let here : place ≤ l.place = subst (BeginsFrom place) (h.1 [] (λ _. refl)) (from []) in
    omega (arith, here, ap (λ (x : Token). x.place) h.0)

pub stands_ahead : (old mid new : Progress) (t : Token) → IsFrom old.place mid → GivesToken mid t new → StandsAhead old t new
stands_ahead old mid new t from answer = record { ahead = placed old.place mid new t new.last from answer.next; not_empty = answer.not_empty; behind = answer.place }

-- the lexer looked at what it has, and a piece was taken
pub same_told : (mid lex : Progress) (left : Option (List ℕ)) → lex.finished ≡ mid.finished → ReadsTheSame mid lex → option_map (coming mid) left ≡ option_map (coming lex) left
same_told mid lex None e h = refl
same_told mid lex (Some rest) e h = ap Some (sym (h.reads (cond mid.finished [] rest)) ∙ ap (λ t. still_reads lex (cond t [] rest)) (sym e))

pub same_from : (place : ℕ) (mid lex : Progress) → ReadsTheSame mid lex → IsFrom place mid → IsFrom place lex
same_from place mid lex h from more = subst (BeginsFrom place) (sym (h.reads more)) (from more)

-- what a lexer took since it looked at what it has
taken_as : (lex mid new : Progress) → fed lex ≡ fed mid → ((new.finished ≡ true) × (fed new ≡ fed lex)) ⊎ ((new.finished ≡ false) × (fed lex < fed new) × (fed new < fed lex + piece_size + 1)) →
    ((new.finished ≡ true) × (fed new ≡ fed mid)) ⊎ ((new.finished ≡ false) × (fed mid < fed new) × (fed new < fed mid + piece_size + 1))
taken_as lex mid new e (inl t) = inl (t.0, t.1 ∙ e)
taken_as lex mid new e (inr t) = inr (t.0, omega (arith, e, t.1), omega (arith, e, t.2))

-- less than a piece is kept
pub near_start : (lexer : Progress) → length lexer.rest < piece_size → IsNear lexer
near_start lexer h = (lexer.place, omega arith, λ more may. closes_later lexer.place (lexer.place + 0) (still_reads lexer more) (omega arith) (all_close 0 lexer.place (lexer.rest ++ more)))

-- a piece was taken where the lexer wanted bytes
pub near_piece : (mid lex new : Progress) (left left' : Option (List ℕ)) → fed lex ≡ fed mid → IsOpen mid → ReadsTheSame mid lex → TakesPiece left lex left' new → IsNear new
near_piece mid lex new left left' e o same took = (
  fed mid,
  piece (taken_as lex mid new e took.taken),
  λ more may. took.closes (fed mid) (λ later. subst (ClosesFrom (fed mid)) (sym (same.reads later)) (open_closes mid o later)) more,
)
  where
    piece : ((new.finished ≡ true) × (fed new ≡ fed mid)) ⊎ ((new.finished ≡ false) × (fed mid < fed new) × (fed new < fed mid + piece_size + 1)) → fed new ≤ fed mid + piece_size
    piece (inl t) = omega (arith, t.1)
    piece (inr t) = omega (arith, t.2)

-- a token was given
pub near_token : (mid new : Progress) (t : Token) → fed new ≡ fed mid → new.finished ≡ mid.finished → GivesToken mid t new → IsNear mid → IsNear new × (t.kind ≡ RightParen → length new.rest < piece_size)
near_token mid new t same finished answer near = of_last new.last answer.next
  where
    of_last : (o : Option Lexeme) → IsSomeAnd o (λ l. (token_of l ≡ t) × ((more : List ℕ) → MayCome mid more → still_reads mid more ≡ gives l (still_reads new more))) → IsNear new × (t.kind ≡ RightParen → length new.rest < piece_size)
    of_last None h = absurd h
    of_last (Some l) h = (
      (
        near.0,
        omega (arith, same, near.1),
        λ more may.
            let closes : ClosesFrom near.0 (gives l (still_reads new more)) = subst (ClosesFrom near.0) (h.1 more (λ e. may (finished ∙ e))) (near.2 more (λ e. may (finished ∙ e))) in
            closes.1,
      ),
      λ kind.
          let closes : ClosesFrom near.0 (gives l (still_reads new [])) = subst (ClosesFrom near.0) (h.1 [] (λ e. refl)) (near.2 [] (λ e. refl)) in
          let there : near.0 ≤ l.place = closes.0 (ap (λ (x : Token). x.kind) h.0 ∙ kind) in
          omega (arith, there, ap (λ (x : Token). x.place) h.0, answer.not_empty, answer.place, same, near.1),
    )

-- one call after another
below_later : (old mid new : Progress) → TakesBelow old mid → TakesBelow mid new → TakesBelow old new
below_later old mid new h k = record {
  grows = omega (arith, h.grows, k.grows);
  piece = λ lt. elim (cases_lt (fed mid) (fed new)) [
    | inl more ↦ k.piece more
    | inr same ↦ let p : fed mid < read_limit + piece_size = h.piece (omega (arith, k.grows)) in omega arith
  ];
  finish = λ f. elim (k.finish f) [
    | inl g ↦ elim (h.finish g) [ inl first ↦ inl first | inr lt ↦ inr (omega (arith, (k.stays g).1)) ]
    | inr lt ↦ inr lt
  ];
  stays = λ f. let g = h.stays f in let l = k.stays g.0 in (l.0, l.1 ∙ g.1);
}

-- a source that is at its limit or its end stays so
still_at : (old mid : Progress) → TakesBelow old mid → (read_limit ≤ fed old) ⊎ IsTrue old.finished → (read_limit ≤ fed mid) ⊎ IsTrue mid.finished
still_at old mid h (inl le) = inl (omega (arith, h.grows))
still_at old mid h (inr f) = inr (h.stays f).0

-- no call was made yet
pub leaves_start : {S : Type 0} (left : S → Option (List ℕ)) (faults : S → ℕ) (lexer : Progress) (source : S) → Leaves left faults lexer source lexer source
leaves_start left faults lexer source = record { below = below_start lexer; untouched = λ _. refl; telling = refl; count = omega arith }

-- the lexer looked at what it has
pub leaves_looked : {S : Type 0} (left : S → Option (List ℕ)) (faults : S → ℕ) (old mid new : Progress) (source now : S) → new.finished ≡ mid.finished → fed new ≡ fed mid →
    Leaves left faults old source mid now → Leaves left faults old source new now
leaves_looked left faults old mid new source now finished same h = record { below = below_as; untouched = h.untouched; telling = h.telling; count = h.count }
  where
    below_as : TakesBelow old new
    below_as = record {
      grows = omega (arith, same, h.below.grows);
      piece = λ lt. let p : fed mid < read_limit + piece_size = h.below.piece (omega (arith, same, lt)) in omega (arith, same, p);
      finish = λ f. elim (h.below.finish (sym finished ∙ f)) [ inl g ↦ inl g | inr lt ↦ inr (omega (arith, same, lt)) ];
      stays = λ f. let g = h.below.stays f in (finished ∙ g.0, same ∙ g.1);
    }

-- one call after another
pub leaves_later : {S : Type 0} (left : S → Option (List ℕ)) (faults : S → ℕ) (old mid new : Progress) (source now later : S) →
    Leaves left faults old source mid now → Leaves left faults mid now new later → Leaves left faults old source new later
leaves_later left faults old mid new source now later h k = record {
  below = below_later old mid new h.below k.below;
  untouched = λ at. k.untouched (still_at old mid h.below at) ∙ h.untouched at;
  telling = k.telling ∙ h.telling;
  count = omega (arith, h.count, k.count);
}

-- nothing was taken yet
pub given_start : (left : Option (List ℕ)) (lexer : Progress) → FedGiven left lexer left lexer
given_start None lexer = tt
given_start (Some bytes) lexer = omega arith

-- one call after another, the lexer having looked at what it has before the second
pub given_later : (first left left' : Option (List ℕ)) (old mid lex new : Progress) → fed lex ≡ fed mid → FedGiven first old left mid → FedGiven left lex left' new → FedGiven first old left' new
given_later None left left' old mid lex new e h k = tt
given_later (Some a) None left' old mid lex new e h k = absurd h
given_later (Some a) (Some b) None old mid lex new e h k = absurd k
given_later (Some a) (Some b) (Some c) old mid lex new e h k = omega (arith, e, h, k)

-- the lexer looked at what it has
pub given_same : (first left : Option (List ℕ)) (old mid new : Progress) → fed new ≡ fed mid → FedGiven first old left mid → FedGiven first old left new
given_same None left old mid new e h = tt
given_same (Some a) None old mid new e h = absurd h
given_same (Some a) (Some b) old mid new e h = omega (arith, e, h)

-- the source gave a piece, which was fed
pub given_piece : (left left' : Option (List ℕ)) (piece : List ℕ) (old new : Progress) → fed new ≤ fed old + length piece → left ≡ option_map (λ rest. piece ++ rest) left' → FedGiven left old left' new
given_piece None left' piece old new e h = tt
given_piece (Some a) None piece old new e h = cc
given_piece (Some a) (Some b) piece old new e h = let same : a ≡ piece ++ b = cc in rw (same, length-append) (omega (arith, e))
