-- `put_cut` meets its contract.
use Rattle.std.proofs.Common.{◌≡◌, ◌-◌, ap, take, ◌∙◌, arith}
use Rattle.forecast_text.proofs.PutLaws.{put-copied}
use Rattle.forecast_text.proofs.texts.Text.put_cut.Goals as goal

pub returns : goal.returns
returns g c =
    let bytes = c.args.bytes.now in
    let fit : c.min-fit.result - 0 ≡ c.min-fit.result = omega arith in
    put-copied bytes (omega arith) (omega arith) c.self.view_is
    (ap (λ n. take n bytes) (fit ∙ c.min-fit.ensures)) c.put_text-self-inside.ensures
