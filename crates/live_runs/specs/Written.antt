-- What a run has read of its input, and written to its streams.
use Rattle.std.specs.Prelude.{◌≡◌, ◌≤◌, ℕ, List, [], ◌++◌, length, take, Option}
use Rattle.std.specs.Io.KnownBytes.{Appends, Keeps}
use Rattle.input_lines.specs.declared.lines.TheConstants.{MOST_INPUT}

-- What a writer held before a run and after it, where it tells.
pub record Written : Type 0 where
  pub before : Option (List ℕ)
  pub after : Option (List ℕ)

-- The streams of a run: what standard input had to give and what is left of it, where it tells, and
-- what was written to standard output and to standard error.
pub record Streams : Type 0 where
  pub input : Option (List ℕ)
  pub left : Option (List ℕ)
  pub out : Written
  pub err : Written

-- nothing was written
abbrev pub IsUntouched : Written → Type 0
IsUntouched written = Keeps written.before written.after

-- a text was written, and nothing else
abbrev pub Gains : List ℕ → Written → Type 0
Gains text written = Appends written.before written.after text

-- a part of a text was written, from its front, as where the writer refused
pub record GainsPart (text : List ℕ) (written : Written) : Type 0 where
  pub taken : ℕ
  pub gained : Gains (take taken text) written

-- What was read of all bytes: their front, and all of them unless there are more than an input has.
pub record IsReadOf (all bytes : List ℕ) : Type 0 where
  pub rest : List ℕ
  pub split : all ≡ bytes ++ rest
  pub whole : length bytes ≤ MOST_INPUT → rest ≡ []
