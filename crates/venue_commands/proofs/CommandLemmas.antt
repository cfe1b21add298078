-- How a run ends by its arguments.
use Rattle.std.proofs.Common.{◌≡◌, ◌<◌, ◌||◌, ◌⊎◌, ◌==◌, refl, subst, inl, inr, ℕ, Bool, true}
use Rattle.std.proofs.Common.{false, List, [], ◌∷◌, length, map, arith, Option, Some, None}
use Rattle.std.proofs.lemmas.Bool.{false≢true, or_right}
use Rattle.std.specs.List.{list_any}
use Rattle.std.specs.Prelude.{is_some, option_map}
use Rattle.clap.specs.declared.error.Error.{Error}
use Rattle.clap.specs.declared.error.kind.ErrorKind.{ErrorKind}
use Rattle.clap.specs.declared.error.kind.ErrorKind.TheVariants.{OutOfMemory}
use Rattle.clap.specs.Words.{HasKind, IsAmong, Kinds, Text, kind_of}
use Rattle.std.specs.Option.{IfSome}
use Rattle.input_lines.specs.Lines.{lines_of}
use Rattle.input_lines.specs.declared.faults.ProgramFault.TheVariants.{Memory}
use Rattle.live_runs.specs.LineForms.{LineForm, meant_form}
use Rattle.command_arguments.specs.Arguments.{Command, arguments_fault, command_of, is_help}
use Rattle.command_arguments.specs.Arguments.{is_mistake, may_be_help, may_be_mistake}
use Rattle.venue_commands.specs.Runs.{EndsAsAsked, EndsBy, EndsInCommand, EndsInMemory, EndsOf}
use Rattle.venue_commands.specs.Runs.{EndsTold, line_form, word_of}
use Rattle.live_runs.specs.LiveRuns.{EndsInLive, EndsOver}
use Rattle.live_runs.specs.Written.{Streams, Written}
use Rattle.live_runs.specs.declared.line_forms.LineForm.{LineForm as RustForm}
use Rattle.live_runs.proofs.StreamLemmas.{keeps_same}
use Rattle.command_arguments.proofs.LawfulArguments.{lawful_arguments}
use Rattle.live_runs.proofs.TwoDayLemmas.{answers_nothing}

first_or : (a b : Bool) → (a || false) ≡ true → (a || b) ≡ true
first_or true b h = refl
first_or false b h = cc

-- what holds of a kind holds of one of the kinds that it is among
any_among : (p : ErrorKind → Bool) (k : ErrorKind) (kinds : Kinds) → IsAmong k kinds → list_any p (k ∷ []) ≡ true → list_any p kinds ≡ true
any_among p k [] is h = absurd is
any_among p k (x ∷ xs) (inl e) h = first_or (p x) (list_any p xs) (subst (λ y. (p y || false) ≡ true) e h)
any_among p k (x ∷ xs) (inr is) h = or_right (p x) (list_any p xs) (any_among p k xs is h)

-- what is told of an error is told of the arguments that it may come of
told_of : (kinds : Kinds) (k : ErrorKind) (status : ℕ) (out err : Written) → (k ≡ OutOfMemory) ⊎ IsAmong k kinds
    → EndsTold (k ∷ []) status out err → EndsTold kinds status out err
told_of kinds k status out err is (inl memory) = inl memory
told_of kinds k status out err (inl is) (inr (inl help)) =
    let bad : false ≡ true = subst (λ y. may_be_help (y ∷ []) ≡ true) is help.0 in
    cc
told_of kinds k status out err (inl is) (inr (inr mistake)) =
    let bad : false ≡ true = subst (λ y. may_be_mistake (y ∷ []) ≡ true) is mistake.0 in
    cc
told_of kinds k status out err (inr is) (inr (inl help)) = inr (inl (any_among is_help k kinds is help.0, help.1))
told_of kinds k status out err (inr is) (inr (inr mistake)) = inr (inr (any_among is_mistake k kinds is mistake.0, mistake.1))

-- memory alone is refused of arguments that are a command
memory_alone : (status : ℕ) (streams : Streams) → EndsTold [] status streams.out streams.err → EndsInMemory status streams.out streams.err
memory_alone status streams (inl memory) = memory
memory_alone status streams (inr (inl help)) = absurd (false≢true help.0)
memory_alone status streams (inr (inr mistake)) = absurd (false≢true mistake.0)

-- no line was answered then
before_lines : (form : LineForm) (argument : List ℕ) (known : Option (List ℕ)) (status : ℕ) (streams : Streams) → EndsInMemory status streams.out streams.err
    → IfSome known (λ all. EndsOver form argument all status streams)
before_lines form argument None status streams memory = tt
before_lines form argument (Some all) status streams memory = inr (
  memory.0,
  record {
    fault = Memory;
    mid = streams.err.before;
    ends = record {
      is_fault = tt;
      lines = [];
      rest = lines_of all;
      split = refl;
      reached = tt;
      left = answers_nothing form [] streams.out (record { before = streams.err.before; after = streams.err.before })
          (record { undivided = refl; left = memory.1; untold = keeps_same streams.err.before });
    };
    told = memory.2;
  },
)

of_memory : (form : Option LineForm) (command : Command) (status : ℕ) (streams : Streams) → EndsInMemory status streams.out streams.err
    → EndsOf form command status streams
of_memory None command status streams memory = inr (memory.0, record { fault = Memory; left = memory.1; told = memory.2 })
of_memory (Some form) command status streams memory =
    (inr memory.0, before_lines form (word_of command) streams.input status streams memory)

ends_by : (asked : Option Command) (kinds : Kinds) (status : ℕ) (streams : Streams) → (is_some asked ≡ true → kinds ≡ [])
    → EndsTold kinds status streams.out streams.err → EndsBy asked kinds status streams
ends_by None kinds status streams none ends = ends
ends_by (Some command) kinds status streams none ends =
    of_memory (line_form command) command status streams (memory_alone status streams
    (subst (λ (ks : Kinds). EndsTold ks status streams.out streams.err) (none refl) ends))

-- a run whose arguments are no command, or for whose arguments memory was refused
pub asked_told : {A : Type 0} (text : A → Text) (arguments : List A) (error : Error) (status : ℕ) (streams : Streams) → 0 < length arguments
    → HasKind (arguments_fault (map text arguments)) error → EndsTold (kind_of error ∷ []) status streams.out streams.err
    → EndsAsAsked (map text arguments) status streams
asked_told text [] error status streams some is ends = absurd (omega arith)
asked_told text (argument ∷ arguments) error status streams some is ends =
    let words = map text (argument ∷ arguments) in
    ends_by (command_of words) (arguments_fault words) status streams (lawful_arguments (text argument) (map text arguments)).1
    (told_of (arguments_fault words) (kind_of error) status streams.out streams.err is ends)

-- some arguments are there
pub some_arguments : {A : Type 0} (arguments : List A) → false ≡ (length arguments == 0) → 0 < length arguments
some_arguments [] e = absurd (false≢true e)
some_arguments (argument ∷ arguments) e = omega arith

-- a run of a command that prints one text, and one that takes a day line by line, by the form of the command
pub in_text : (form : Option LineForm) (command : Command) (status : ℕ) (streams : Streams) → None ≡ form
    → EndsInCommand command status streams → EndsOf form command status streams
in_text form command status streams none ends = subst (λ (f : Option LineForm). EndsOf f command status streams) none ends

pub in_live : (live_in : RustForm) (form : Option LineForm) (command : Command) (argument : List ℕ) (status : ℕ) (streams : Streams)
    → option_map meant_form (Some live_in) ≡ form → argument ≡ word_of command
    → EndsInLive (meant_form live_in) argument status streams → EndsOf form command status streams
in_live live_in form command argument status streams some is ends =
    subst (λ (f : Option LineForm). EndsOf f command status streams) some
    (subst (λ (w : List ℕ). EndsInLive (meant_form live_in) w status streams) is ends)
