-- What a call of `open` or of `advance` gives is what its definition says: by the contract, whose equation this is.
use mathlib.Core.Path.{◌≡◌}
use Rattle.words.proofs.OneOutcome.{gives-defined}
use Rattle.state.specs.declared.run.Run.{Run}
use Rattle.state.specs.declared.talk.Reply.{Reply}
use Rattle.state.specs.Memory.{Memory}
use Rattle.opening.specs.Rows.{Opening}
use Rattle.opening.specs.Opening as opened
use Rattle.opening.specs.Opening.{open_of}
use Rattle.solve_blocks.specs.Advance as advanced
use Rattle.solve_blocks.specs.Advance.{advance_of}
use Rattle.history.proofs.Refuted.{Solver, Meets}
use Rattle.calls.specs.Calls.{Opens, Advances}

pub open-defined : (o : Opening) (x : opened.OpeningOutcome) → Opens o x → x ≡ open_of o
open-defined = gives-defined _ _ _ _ _ open_of (λ κs a o allowed. allowed)

abbrev core : Run × Reply × Memory → advanced.AdvanceOutcome
core (run, reply, m) = (advance_of run reply m).core

pub advance-defined : (run : Run) (reply : Reply) (m : Memory) (x : advanced.AdvanceOutcome)
    → Advances (run, reply, m) x → x ≡ (advance_of run reply m).core
advance-defined run reply m = gives-defined _ _ _ _ _ core (λ κs a o allowed. allowed) (run, reply, m)

-- so the wrong solvers of `history`, none of which meets the definition, are shut out by the contract of an advance
pub contract-meets-proof : (s : Solver)
    → ((run : Run) (reply : Reply) (m : Memory) → Advances (run, reply, m) (s run reply m)) → Meets s
contract-meets-proof s allowed run reply m = advance-defined run reply m (s run reply m) (allowed run reply m)
