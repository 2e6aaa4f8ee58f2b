-- What a command of a script leads to: a move.
use Rattle.std.specs.Prelude.{◌≡◌, ℕ, suc, Option, Some, Ok, List, [], ◌++◌, All}
use Rattle.qv_sexpr.specs.declared.answers.Next.{Next}
use Rattle.qv_sexpr.specs.declared.answers.Next.TheVariants as next
use Rattle.qv_sexpr.specs.Script.{TextEnd, all_read, lexical, parsing, nesting}
use Rattle.qv_sexpr.specs.Script.{Tree as Expr}
use Rattle.qv_sexpr.specs.Items.{IsExpr, IsExprOf}
use Rattle.qv_words.specs.declared.word.Word.{Word}
use Rattle.qv_words.specs.Tree.{Tree}
use Rattle.qv_elab_defs.specs.Written.{HasTokens}
use Rattle.qv_script_stack.specs.declared.held.Last.{Last as Answer}
use Rattle.qv_script_stack.specs.declared.held.Last.TheVariants as answer
use Rattle.qv_script_defs.specs.declared.effects.Effect.{Effect as Done}
use Rattle.qv_script_defs.specs.State.{State}
use Rattle.qv_elab_defs.specs.Scopes.{Named}
use Rattle.qv_script_stack.specs.Held.{Held, AreAt, IsScriptIn, answer_of}
use Rattle.qv_script_defs.specs.Moves.{Effect, Check, Core}
use Rattle.qv_script_defs.specs.Commands.{after}
use Rattle.qv_script_stack.specs.Steps.{IsEffect}
use Rattle.qv_shell_command.specs.declared.ending.Ending.{Ending}
use Rattle.qv_shell_command.specs.declared.ending.Ending.TheVariants.{Done as AtEnd, Refused}
use Rattle.qv_shell_command.specs.declared.moves.After.{After}
use Rattle.qv_shell_command.specs.declared.moves.After.TheVariants.{More, Ended}
use Rattle.qv_shell_command.specs.Ending.{status_of}
use Rattle.qv_script_transcript.specs.Lawful.{answer_line}
use Rattle.qv_script_transcript.specs.Following.{end_line}
use Rattle.qv_script_transcript.specs.Certificates.{Certified, checks_of, AreCertified, sections}
use Rattle.qv_cert.specs.TextLaws.{bytes_of_lines}
use Rattle.qv_meter.specs.Records.{Limits, Record}
use Rattle.qv_shell_answer.specs.Metered.{HasLimits}
use Rattle.qv_shell_answer.specs.Checks.{texts_of}
use Rattle.qv_shell_answer.specs.declared.checking.Checked.{Checked}
use Rattle.qv_shell_answer.specs.declared.cores.Among.{Among}
use Rattle.qv_shell_command.specs.declared.moves.Move.{Move}
use Rattle.qv_shell_command.specs.declared.moves.Course.{Course}
use Rattle.qv_shell_command.specs.declared.tallies.Tally.{Tally}
use Rattle.qv_shell_command.specs.Tallies.{counted, counted_all}
use Rattle.qv_script_transcript.specs.Current.{IsCurrent}
use Rattle.qv_shell_command.specs.Calls.{AreRecordsBehind, IsFollowed, IsLast}

-- the words of a last answer that is sat
abbrev pub words_of : Option Answer → List Word
words_of (Some (answer.Sat values)) = values.items
words_of _ = []

-- what is held in a store stands for such a state
pub record Stands (trees : List Tree) (held : Held) (s : State) : Type 0 where
  pub script : IsScriptIn trees held s
  pub current : IsCurrent s

-- from a state an expression led to another, with this effect; what is held stands for that
pub record HasStepped (trees : List Tree) (held : Held) (s : State) (e : Expr) (now : State) (effect : Effect) : Type 0 where
  pub current : IsCurrent s
  pub tokens : HasTokens e
  pub gives : after s e ≡ Ok (now, effect)
  pub script : IsScriptIn trees held now

-- the same, and the code's effect is this one
pub record HasDone (trees : List Tree) (held : Held) (s : State) (e : Expr) (now : State) (effect : Effect) (done : Done) : Type 0 where
  pub stepped : HasStepped trees held s e now effect
  pub is_effect : IsEffect trees held done effect

-- what is checked is held: the assertions, and behind them what is assumed
pub record HasCheck (trees : List Tree) (held : Held) (s : State) (e : Expr) (now : State) (formulas : List Tree) : Type 0 where
  pub stepped : HasStepped trees held s e now (Check formulas)
  pub at : AreAt trees (held.assertions ++ held.assumed) formulas

-- a core of what is held is asked, of which this may be left out
pub record HasCore (trees : List Tree) (held : Held) (among : Among) (s : State) (e : Expr) (now : State) (formulas : List Tree) (texts : Named ℕ) : Type 0 where
  pub stepped : HasStepped trees held s e now (Core formulas texts)
  pub texts_are : texts ≡ texts_of among held
  pub at : AreAt trees (held.assertions ++ held.assumed) formulas

-- a state that what is held stands for
abbrev pub StandsFor : Course → State → Type 0
StandsFor c s = Stands c.store c.script s

-- From a state an expression leads to another, with this text; where it is a check, with a section for
-- it, which is the next of those that were counted; and with the records that it started.
pub record GoesTo (places : ℕ) (limits : Limits) (s : State) (e : Expr) (m : Move) (tally : Tally) (c : Course) (before after : List Record) : Type 0 where
  pub state : State
  pub checks : List Certified
  pub followed : IsFollowed places s e (checks_of checks) m.text.items state
  pub certified : AreCertified (suc tally.checks) checks
  pub section : m.section.items ≡ bytes_of_lines (sections checks)
  pub records : List Record
  pub metered : AreRecordsBehind limits followed records
  pub started : after ≡ before ++ records
  pub counted : c.tally ≡ counted_all (checks_of checks) tally
  pub stands : StandsFor c state

-- nothing is checked
pub record ChecksNothing (m : Move) (tally : Tally) (c : Course) (before after : List Record) : Type 0 where
  pub section : m.section.items ≡ []
  pub same : after ≡ before
  pub stays : c.tally ≡ tally

-- a command for which nothing is solved leads to another state, with this text
abbrev pub SpeaksTo : (places : ℕ) → State → Expr → (text : List ℕ) → Course → Type 0
SpeaksTo places s e text c = (t : State) × (f : IsFollowed places s e [] text t) × ((limits : Limits) → AreRecordsBehind limits f []) × StandsFor c t

-- the same where the script may end
abbrev pub MovesBy : (places : ℕ) → After → Limits → State → Expr → Move → Tally → Course → (before after : List Record) → Type 0
MovesBy places More limits s e m tally c before after = GoesTo places limits s e m tally c before after
MovesBy places (Ended ending) limits s e m tally c before after =
    IsLast places s e m.text.items (status_of ending) × ChecksNothing m tally c before after

abbrev pub MovesTo : (places : ℕ) → Limits → State → Expr → Move → Tally → Course → (before after : List Record) → Type 0
MovesTo places limits s e m tally c before after = MovesBy places m.after limits s e m tally c before after

-- how a text ends
abbrev pub ending_of : TextEnd → Ending
ending_of all_read = AtEnd
ending_of (lexical fault) = Refused
ending_of (parsing fault) = Refused
ending_of (nesting place) = Refused

pub record EndsText (end : TextEnd) (m : Move) (tally : Tally) (c : Course) (before after : List Record) : Type 0 where
  pub text : m.text.items ≡ (end_line end).0
  pub ends : m.after ≡ Ended (ending_of end)
  pub nothing : ChecksNothing m tally c before after

-- what a reader's answer leads to from a state
abbrev pub NextMoves : (places : ℕ) → Limits → State → Next → Move → Tally → Course → (before after : List Record) → Type 0
NextMoves places limits s (next.Command expr) m tally c before after = (e : Expr) → IsExprOf e expr → MovesTo places limits s e m tally c before after
NextMoves places limits s next.End m tally c before after = EndsText all_read m tally c before after
NextMoves places limits s (next.Lex fault) m tally c before after = EndsText (lexical fault) m tally c before after
NextMoves places limits s (next.Parse fault) m tally c before after = EndsText (parsing fault) m tally c before after
NextMoves places limits s (next.NestingLimit place) m tally c before after = EndsText (nesting place) m tally c before after
NextMoves places limits s next.ReadFault m tally c before after = ⊥
NextMoves places limits s next.ReadLimit m tally c before after = ⊥
NextMoves places limits s next.NoMemory m tally c before after = ⊥

-- records were started, with these limits, or lesser ones by the script
pub record HasStarted (limits : Limits) (before after : List Record) : Type 0 where
  pub begun : List Record
  pub limited : All (HasLimits limits) begun
  pub started : after ≡ before ++ begun

-- a command that a reader answers is an expression
abbrev pub IsRead : Next → Type 0
IsRead (next.Command expr) = IsExpr expr
IsRead _ = Unit {0}

-- a move after which the script goes on
abbrev pub GoesOn : After → Type 0
GoesOn More = Unit {0}
GoesOn (Ended ending) = ⊥

-- what was found is kept, counted and written
pub record IsAnswered (checked : Checked) (c c' : Course) (m : Move) : Type 0 where
  pub section : m.section ≡ checked.section
  pub text : m.text.items ≡ answer_line (answer_of checked.last)
  pub after : m.after ≡ More
  pub tally : c'.tally ≡ counted (answer_of checked.last) c.tally
  pub store : c'.store ≡ c.store
  pub shared : c'.shared ≡ c.shared
  pub held : c'.script ≡ record c.script { last = Some checked.last; counts = Some checked.counts }
