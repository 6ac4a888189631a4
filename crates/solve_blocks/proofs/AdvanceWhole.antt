-- An advance that is admitted, in one piece: from the reply to a label, through the matrices, to the next request.
use mathlib.Core.Path.{◌≡◌, refl}
use Rattle.state.specs.declared.run.Run.{Run}
use Rattle.state.specs.declared.talk.Reply.{Reply}
use Rattle.state.specs.Memory.{Memory}
use Rattle.solve_blocks.specs.Events.{Logged, logged, and_then}
use Rattle.solve_blocks.specs.Advance.{Stepped, Called, asked}
use Rattle.solve_blocks.specs.Advance.{received_of, passed_of, called_of, advance_by}
use Rattle.state.specs.Talk.{passed_all}

abbrev pub whole_of : Run → Reply → Memory → Logged Called
whole_of r p m =
    and_then (and_then (received_of r p m) passed_of) (λ (t : Stepped). called_of t.step t.memory)

pub whole_is : (r : Run) (p : Reply) (m : Memory)
    → advance_by passed_all r p m ≡ logged (asked (whole_of r p m).core) (whole_of r p m).log
unfolding advance_by
whole_is r p m = refl
