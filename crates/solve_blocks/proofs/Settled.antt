-- Six passes through the matrices are enough within one advance: after them no pass is wanted, so what `called_of` says
-- of a run that still wanted one is never met.
use mathlib.Core.Path.{◌≡◌, refl}
use mathlib.Core.Bool.{false}
use Rattle.state.specs.declared.run.Run.{Run}
use Rattle.state.specs.declared.talk.Reply.{Reply}
use Rattle.state.specs.Memory.{Memory}
use Rattle.opening.specs.Rows.{verdict_of}
use Rattle.opening.specs.Admission.{admission_rows}
use Rattle.solve_blocks.specs.Matrices.{passes_on}
use Rattle.solve_blocks.specs.Advance.{received_of, passed_of}
use Rattle.solve_blocks.proofs.AdmittedLaws.{admitted}
use Rattle.solve_blocks.proofs.FitLaws.{passes-settle}
use Rattle.solve_blocks.proofs.RepliedLaws.{replied-fit}
use Rattle.state.specs.Talk.{passed_all}

pub settled : (r : Run) (p : Reply) (m : Memory) → verdict_of (admission_rows r p m) ≡ passed_all
    → passes_on (passed_of (received_of r p m).core).core.step ≡ false
settled r p m e =
    let a = admitted r p m e in
    let t = (received_of r p m).core in
    passes-settle 2 r.shape.n t.memory.given.mass t.memory.given.jac t.step t.memory.factors
    (replied-fit r.shape.n m p r a.fit a.stage.rounds t refl)
