-- `copy_over` meets its contract.
use Rattle.std.proofs.Common.{◌≡◌, ◌-◌, length, ap, arith, length-take}
use Rattle.forecast_text.proofs.PutLaws.{put-first}
use Rattle.forecast_text.proofs.texts.Text.copy_over.Goals as goal

pub returns : goal.returns
returns g c =
    let text = c.args.self.now in
    let count = c.self.inside.count in
    let long : length text ≡ count = omega (arith, ap length c.self.view_is, length-take count c.self.inside.bytes) in
    let all : count - 0 ≡ count = omega arith in
    let fit : c.min.result - 0 ≡ c.min.result = omega arith in
    let put = rw (fit, all, c.self.view_is) at c.put_text.ensures in
    put-first c.min.result text (omega arith) put
