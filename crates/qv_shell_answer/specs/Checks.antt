-- What a check of a script comes to.
use Rattle.std.specs.Prelude.{◌≡◌, ℕ, ◌<◌, Some, None, IsSomeAnd, List, ◌++◌, All, map, length, slice_get}
use Rattle.std.specs.List.{flat_map}
use Rattle.qv_words.specs.Sort.{IsLawful}
use Rattle.qv_words.specs.Tree.{Tree}
use Rattle.qv_words.specs.Truth.{IsAssertion, HaveOneSort, constants_of_each}
use Rattle.qv_store.specs.Walks.{named}
use Rattle.qv_cert.specs.Line.{IsCertLine}
use Rattle.qv_cert.specs.Spelling.{cert_text}
use Rattle.qv_cert.specs.TextLaws.{bytes_of_lines}
use Rattle.qv_cnf.specs.Listing.{Rises}
use Rattle.qv_meter.specs.Records.{Limits, Metering, Record}
use Rattle.qv_meter.specs.declared.records.SpentKind.{SpentKind}
use Rattle.qv_meter.specs.declared.records.SpentKind.TheVariants as kind
use Rattle.qv_script_defs.specs.declared.counts.Counts.{Counts}
use Rattle.qv_script_defs.specs.declared.faults.SpentWord.{SpentWord}
use Rattle.qv_script_defs.specs.declared.faults.SpentWord.TheVariants as word
use Rattle.qv_script_stack.specs.declared.held.Declared.{Declared}
use Rattle.qv_elab_defs.specs.Scopes.{Named}
use Rattle.qv_script_defs.specs.State.{Last, Sat, Unsat, Unknown, places_of}
use Rattle.qv_script_defs.specs.Moves.{symbols_of}
use Rattle.qv_script_stack.specs.Held.{Held, HaveSorts, answer_of, declared_of, named_of, terms_of}
use Rattle.qv_solve.specs.declared.solved.Solved.{Solved}
use Rattle.qv_solve.specs.declared.solved.Solved.TheVariants as solved
use Rattle.qv_solve.specs.Solutions.{lines_of}
use Rattle.qv_script_transcript.specs.Lawful.{IsLawfulAnswer, IsLawfulCore}
use Rattle.qv_script_transcript.specs.Current.{AreRefuted}
use Rattle.qv_script_transcript.specs.Following.{with_answer}
use Rattle.qv_script_transcript.specs.Certificates.{IsCertified}
use Rattle.qv_shell_answer.specs.declared.checking.Checked.{Checked}
use Rattle.qv_shell_answer.specs.declared.cores.Among.{Among}
use Rattle.qv_shell_answer.specs.declared.cores.Among.TheVariants as kinds
use Rattle.qv_shell_answer.specs.Metered.{AreRecordsOfCore, IsRecordOf}
use Rattle.qv_shell_answer.specs.Values.{Fit, filled}

-- what is checked: the assertions in force, and what is assumed
abbrev pub formulas_in : List Tree → Held → List Tree
formulas_in trees held = named trees (held.assertions ++ held.assumed)

-- they may be checked: they are assertions over the constants in force
pub record CanCheck (trees : List Tree) (held : Held) : Type 0 where
  pub below : All (λ id. id < length trees) (held.assertions ++ held.assumed)
  pub assertions : All IsAssertion (formulas_in trees held)
  pub one_sort : HaveOneSort (formulas_in trees held)
  pub lawful : All (λ own. IsLawful own.sort) held.constants
  pub over : All (λ leaf. slice_get (map (λ own. own.sort) held.constants) leaf.0 ≡ Some leaf.1) (constants_of_each (formulas_in trees held))

-- such a check of this number has a lawful answer, which is kept, the text of a section for it, which the
-- checker doesn't refuse, and a record with these limits, whatever limit the script set
pub record IsCheckedFor (number : ℕ) (limits : Limits) (constants : List Declared) (formulas : List Tree) (m : Metering) (c : Checked) : Type 0 where
  pub lawful : IsLawfulAnswer (declared_of constants) formulas (answer_of c.last)
  pub sorts : HaveSorts constants (Some c.last)
  pub lines : List (List ℕ)
  pub section : c.section.items ≡ bytes_of_lines lines
  pub certified : (limit : ℕ) → IsCertified number (record { check = with_answer limit formulas (answer_of c.last) c.counts; lines = lines })
  pub metered : (limit : ℕ) → IsSomeAnd m.newest (IsRecordOf limits (with_answer limit formulas (answer_of c.last) c.counts))
  pub unrefused : c.refusal ≡ None

-- what may be left out of a core, as it is printed, with its places
abbrev pub texts_of : Among → Held → Named ℕ
texts_of kinds.Names held = symbols_of (named_of held.named)
texts_of kinds.Assumptions held = terms_of held

-- a core of it may be asked: it isn't true, with few places, and some of it may be left out
pub record CanCore (trees : List Tree) (held : Held) (among : Among) : Type 0 where
  pub below : All (λ id. id < length trees) (held.assertions ++ held.assumed)
  pub refuted : AreRefuted (formulas_in trees held)
  pub rises : Rises 0 (places_of (texts_of among held))
  pub places : All (λ n. n < length (held.assertions ++ held.assumed)) (places_of (texts_of among held))

-- what is kept is a core, with the records of its search
pub record IsCoreFor (limits : Limits) (formulas : List Tree) (texts : Named ℕ) (before after : List Record) (kept : List ℕ) : Type 0 where
  pub lawful : IsLawfulCore formulas texts kept
  pub records : List Record
  pub metered : AreRecordsOfCore limits formulas texts kept records
  pub started : after ≡ before ++ records

-- ---- the inside

abbrev pub spent_word : SpentKind → SpentWord
spent_word kind.Conflicts = word.Conflicts
spent_word kind.Instances = word.Instances
spent_word kind.Variables = word.Variables

-- an answer's lines can be printed, and its values are such of constants in force
abbrev pub HaveFit : List Declared → Solved → Type 0
HaveFit constants (solved.Sat section given variables) = All (Fit constants) given.items
HaveFit constants (solved.Unsat section variables) = Unit {0}
HaveFit constants (solved.Unknown section kind) = Unit {0}

pub record Suits (constants : List Declared) (s : Solved) : Type 0 where
  pub lawful : All (λ own. IsLawful own.sort) constants
  pub fit : HaveFit constants s
  pub form : All IsCertLine (lines_of s)

-- this is kept of an answer
abbrev pub kept_of : List Declared → Solved → Last
kept_of constants (solved.Sat section given variables) = Sat (filled (map (λ _. 0) constants) given.items)
kept_of constants (solved.Unsat section variables) = Unsat
kept_of constants (solved.Unknown section kind) = Unknown (spent_word kind)

pub record IsKept (constants : List Declared) (s : Solved) (counts : Counts) (c : Checked) : Type 0 where
  pub last : answer_of c.last ≡ kept_of constants s
  pub sorts : HaveSorts constants (Some c.last)
  pub text : c.section.items ≡ flat_map cert_text (lines_of s)
  pub counted : c.counts ≡ counts
  pub unasked : c.refusal ≡ None

-- the same but for what the checker says, which is no refusal
pub record IsUnrefused (before after : Checked) : Type 0 where
  pub last : after.last ≡ before.last
  pub section : after.section ≡ before.section
  pub counts : after.counts ≡ before.counts
  pub unrefused : after.refusal ≡ None
