-- What is made of the counts of lines and of their runs per status: the code's own definition, where sums wrap.
use Rattle.std.specs.Prelude.{ℕ, ◌+◌, ◌%◌, ◌^◌, Bool, ◌==◌, nat_le, ◌&&◌}
use Rattle.words.specs.Loop.{pick}
use Rattle.night_totals.specs.declared.counts.Counts.{Counts}
use Rattle.night_totals.specs.declared.counts.Runs.{Runs}

-- no count is above a bound
unfoldable pub counts_within : Counts → ℕ → Bool
counts_within c most =
    nat_le c.accepted most
    && (nat_le c.rejected most
    && (nat_le c.total most && (nat_le c.ode most && (nat_le c.jac most && nat_le c.lu most))))

-- a sum of words, which wraps
abbrev pub plus : ℕ → ℕ → ℕ
plus a b = (a + b) % 2 ^ 64

abbrev pub added_counts : Counts → Counts → Counts
added_counts a b =
    record {
      accepted = plus a.accepted b.accepted;
      rejected = plus a.rejected b.rejected;
      total = plus a.total b.total;
      ode = plus a.ode b.ode;
      jac = plus a.jac b.jac;
      lu = plus a.lu b.lu;
    }

abbrev pub added_runs : Runs → Runs → Runs
added_runs a b =
    record {
      status0 = plus a.status0 b.status0;
      status1 = plus a.status1 b.status1;
      status2 = plus a.status2 b.status2;
      status3 = plus a.status3 b.status3;
      status5 = plus a.status5 b.status5;
      status7 = plus a.status7 b.status7;
    }

unfoldable pub raised_of : ℕ → ℕ → ℕ → ℕ
raised_of runs status of = pick (status == of) (plus runs 1) runs

abbrev pub counted_runs : Runs → ℕ → Runs
counted_runs r status =
    record {
      status0 = raised_of r.status0 status 0;
      status1 = raised_of r.status1 status 1;
      status2 = raised_of r.status2 status 2;
      status3 = raised_of r.status3 status 3;
      status5 = raised_of r.status5 status 5;
      status7 = raised_of r.status7 status 7;
    }
