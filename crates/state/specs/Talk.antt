-- What a run and its host say to each other: what an opening and an advance answer, and the records of it by their
-- fields.
use Rattle.std.specs.Prelude.{Result, Ok, Float}
use Rattle.state.specs.declared.run.Run.{Run}
use Rattle.state.specs.declared.run.Strides.{Strides}
use Rattle.state.specs.declared.talk.Call.{Call}
use Rattle.state.specs.declared.talk.Place.{Place}
use Rattle.state.specs.declared.talk.Refusal.{Refusal}
use Rattle.state.specs.declared.talk.Refused.{Refused}
use Rattle.state.specs.declared.talk.Request.{Request}

-- whether a call passes the tests that stand before its work
abbrev pub Verdict : Type 0
Verdict = Result (Unit {0}) Refusal

abbrev pub passed_all : Verdict
passed_all = Ok tt

abbrev pub Opened : Type 0
Opened = Result Call Refusal

abbrev pub Answer : Type 0
Answer = Result Call Refused

abbrev pub call : Run → Request → Place → Call
call r q p = record { run = r; request = q; place = p }

abbrev pub refused : Run → Refusal → Refused
refused r x = record { run = r; refusal = x }

abbrev pub stride_pair : Float → Float → Strides
stride_pair smallest largest = record { smallest = smallest; largest = largest }
