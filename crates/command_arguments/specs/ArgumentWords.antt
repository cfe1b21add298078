-- The arguments behind a command's name: which of them are flags, and how many others a command
-- takes.
use Rattle.std.specs.Prelude.{◌==◌, ◌&&◌, Bool, true, false, not, List, [], ◌∷◌, ◌++◌, codes}
use Rattle.std.specs.Prelude.{if◌then◌else◌, is_some, slice_get}
use Rattle.std.specs.List.{list_any}
use Rattle.std.specs.Str.{bytes_eq, chars}
use Rattle.clap.specs.Words.{Text}
use Rattle.command_arguments.specs.declared.command.Flags.{Flags}

-- The arguments behind a command's name.

-- an argument behind which none is a flag
abbrev pub is_dashes : Text → Bool
is_dashes argument = bytes_eq argument (codes "--")

-- an argument that is read as flags: a hyphen, and at least one character behind it
abbrev pub is_flag : Text → Bool
is_flag [] = false
is_flag (first ∷ rest) = first == 45 && is_some (slice_get (chars rest) 0)

-- the flags among the arguments
abbrev pub flags_in : List Text → List Text
flags_in [] = []
flags_in (argument ∷ rest) =
    if is_dashes argument then []
    else (if is_flag argument then argument ∷ flags_in rest else flags_in rest)

-- the other arguments
abbrev pub plain_in : List Text → List Text
plain_in [] = []
plain_in (argument ∷ rest) =
    if is_dashes argument then rest
    else (if is_flag argument then plain_in rest else argument ∷ plain_in rest)

-- a text is one of these
abbrev pub is_among : Text → List Text → Bool
is_among text texts = list_any (λ other. bytes_eq other text) texts

-- the flag of a name
abbrev pub spelled : Text → Text
spelled name = codes "--" ++ name

-- each of the flags is one of these, and is given once
abbrev pub are_flags : List Text → List Text → Bool
are_flags own [] = true
are_flags own (flag ∷ rest) =
    is_among flag own && (not (is_among flag rest) && are_flags own rest)

-- which of the program's flags are given
abbrev pub given : List Text → Flags
given flags = record {
  frames = is_among (codes "--frames") flags;
  woven = is_among (codes "--woven") flags;
  marks = is_among (codes "--marks") flags;
  notes = is_among (codes "--notes") flags;
  live = is_among (codes "--live") flags;
  investor = is_among (codes "--investor") flags;
}

-- How many arguments a command takes.
pub data Words : Type 0 where
  no_word : Words
  one_or_none : Words
  one_word : Words

-- so many arguments there are
abbrev pub are_words : Words → List Text → Bool
are_words no_word [] = true
are_words one_or_none [] = true
are_words one_word [] = false
are_words no_word (argument ∷ []) = false
are_words one_or_none (argument ∷ []) = true
are_words one_word (argument ∷ []) = true
are_words words (argument ∷ more ∷ rest) = false
