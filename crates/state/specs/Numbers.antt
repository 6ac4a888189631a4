-- Document 01's numbers: of each refusal ('Numbers that refuse') and of each status ('Statuses'); of a singular
-- decomposition (02, [3]) which matrix it was of, and the column; and the two strides (02, [7]).
use Rattle.std.specs.Prelude.{ℕ, Float, None, Some, Option}
use Rattle.words.specs.Constants.{«0·0»}
use Rattle.state.specs.declared.run.Status.{Status}
use Rattle.state.specs.declared.run.Status.TheVariants as status
use Rattle.state.specs.declared.talk.Blame.{Blame}
use Rattle.state.specs.declared.talk.Blame.TheVariants as blame
use Rattle.state.specs.declared.talk.Refusal.{Refusal}
use Rattle.state.specs.declared.talk.Refusal.TheVariants as refusal
use Rattle.state.specs.declared.run.Singular.{Singular}
use Rattle.state.specs.declared.run.Strides.{Strides}
use Rattle.state.specs.declared.run.Singular.TheVariants.{Real, Complex}

abbrev pub refusal_number : Refusal → ℕ
refusal_number refusal.Order = 1
refusal_number refusal.Length = 2
refusal_number (refusal.NotFinite value) = 3
refusal_number refusal.MaxSteps = 4
refusal_number refusal.Uround = 5
refusal_number refusal.SafetyFactor = 6
refusal_number refusal.Scales = 7
refusal_number refusal.NewtonMaxiter = 8
refusal_number (refusal.Tolerance value) = 9
refusal_number refusal.Partition = 10
refusal_number refusal.FirstStep = 11
refusal_number refusal.MaxStep = 12
refusal_number refusal.MinStep = 12
refusal_number refusal.Unfit = 13
refusal_number refusal.HasEnded = 14
refusal_number refusal.WrongReply = 15

abbrev pub status_number : Status → ℕ
status_number status.Success = 0
status_number status.UserInterrupt = 1
status_number status.NeedLargerNMax = 2
status_number status.StepSizeTooSmall = 3
status_number status.SingularMatrix = 5

-- 0 none, 1 the real matrix, 2 the complex one
abbrev pub singular_kind : Option Singular → ℕ
singular_kind None = 0
singular_kind (Some (Real k)) = 1
singular_kind (Some (Complex k)) = 2

abbrev pub singular_column : Option Singular → ℕ
singular_column None = 0
singular_column (Some (Real k)) = k
singular_column (Some (Complex k)) = k

-- 0 also where nothing is told
abbrev pub blame_kind : Blame → ℕ
blame_kind blame.Untold = 0
blame_kind (blame.Latest s) = singular_kind s

abbrev pub blame_column : Blame → ℕ
blame_column blame.Untold = 0
blame_column (blame.Latest s) = singular_column s

-- 'with none accepted both are +0'
abbrev pub smallest_stride : Option Strides → Float
smallest_stride None = «0·0»
smallest_stride (Some s) = s.smallest

abbrev pub largest_stride : Option Strides → Float
largest_stride None = «0·0»
largest_stride (Some s) = s.largest
