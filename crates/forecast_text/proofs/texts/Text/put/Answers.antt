-- `put` meets its contract: what fits is put whole.
use Rattle.std.proofs.Common.{arith}
use Rattle.forecast_text.proofs.PutLaws.{put-fits}
use Rattle.forecast_text.proofs.texts.Text.put.Goals as goal

pub returns-then-bytes-self : goal.returns-then-bytes-self
returns-then-bytes-self g c =
    put-fits c.args.bytes.now (omega arith) (omega arith) c.self.view_is (omega arith) c.put_text-self-inside.ensures
