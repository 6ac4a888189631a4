-- Where a talk stands between two advances. Its histories, of outcomes that the contracts allow, are those of `calls`.
use Rattle.state.specs.declared.run.Run.{Run}
use Rattle.state.specs.declared.talk.Place.{Place}
use Rattle.state.specs.declared.talk.Request.{Request}
use Rattle.state.specs.Memory.{Memory}
use Rattle.std.specs.Prelude.{Ok, Err}
use Rattle.state.specs.Talk.{Answer, call, refused}

-- what stands between two advances: the run, the open request, and the memory that was handed out
pub record Point : Type 0 where
  pub run : Run
  pub request : Request
  pub place : Place
  pub memory : Memory

abbrev pub point : Run → Request → Place → Memory → Point
point r q p m = record { run = r; request = q; place = p; memory = m }

-- where an outcome leaves the talk; a refusal leaves the request open
unfoldable pub next_point : Point → Answer → Memory → Point
next_point here (Ok c) m = point c.run c.request c.place m
next_point here (Err e) m = point e.run here.request here.place m
