-- `rewrite` meets its contract.
use Rattle.std.proofs.Common.{ℕ, sym, ◌∙◌}
use native.Mathlib.Omega.{arith}
use lib.ListN.{length-replicate}
use Rattle.sheet_write.proofs.RewriteLaws.{rewrote-model, rewrote-refusal}
use Rattle.sheet_write.proofs.rewriting.rewrite.Goals as goal

pub returns-in-Ok : goal.returns-in-Ok
returns-in-Ok c =
    let all = rewrote-model c.args.bytes.now _ _ _ _ c.args.out.now
    (record {
      amounts = length-replicate {A = ℕ} 32 0;
      rates = length-replicate {A = ℕ} 64 0;
      species = length-replicate {A = ℕ} 256 0;
    }) (omega arith) _ _ _
    (sym c.read.ensures.value ∙ c.in-Ok.is) c.read.ensures.amounts_after c.read.ensures.rates_after
    c.read.ensures.species_after c.put_model.ensures.value c.put_model.ensures.out_after in
    record { out_after = all.0; value = all.1 }

pub returns-in-Err : goal.returns-in-Err
returns-in-Err c =
    let all = rewrote-refusal c.args.bytes.now c.args.out.now c.read.ensures.value c.in-Err.is
    c.put_refusal.ensures.out_after c.put_refusal.ensures.value in
    record { out_after = all.0; value = all.1 }
