-- The same with another limit: an opening, a run, and where a talk stands. Nothing else is exchanged. Then what is
-- promised of the longer run, that with the larger limit, beside one that has ended.
use Rattle.std.specs.Prelude.{ℕ, ◌≤◌, Bool, ◌≡◌, List, ◌++◌, Float, Ok}
use Rattle.state.specs.declared.settings.Rule.{Rule}
use Rattle.state.specs.declared.settings.Source.{Source}
use Rattle.state.specs.declared.run.Run.{Run}
use Rattle.state.specs.declared.run.Status.{Status}
use Rattle.state.specs.declared.run.Status.TheVariants.{NeedLargerNMax}
use Rattle.state.specs.Result.{result_of}
use Rattle.opening.specs.Rows.{Opening, opening}
use Rattle.opening.specs.Opening.{opening_outcome, open_of}
use Rattle.solve_beside.specs.Changes.{Changes, settings_by, run_by}
use Rattle.history.specs.History.{Point, point}
use Rattle.account.specs.Reading.{same_status}
use Rattle.solve_whole.specs.Talk.{Exchange, Host, World, offered, TalksTo}
use Rattle.state.specs.Talk.{call}

-- ---- the same with another limit

abbrev pub to_limit : ℕ → Changes
to_limit M = record {
  limit = λ (k : ℕ). M;
  rule = λ (q : Rule). q;
  source = λ (s : Source). s;
  jac = λ (j : List Float). j;
}

abbrev pub opening_with : ℕ → Opening → Opening
opening_with M o = opening (settings_by (to_limit M) o.settings) o.n o.x0 o.xend o.tolerances o.memory

abbrev pub run_with : ℕ → Run → Run
run_with M r = run_by (to_limit M) r

abbrev pub point_with : ℕ → Point → Point
point_with M here = point (run_with M here.run) here.request here.place here.memory

-- ---- what is promised

-- a run with the limit k may have the limit M instead: no smaller, and no larger than an opening takes
pub record Raises (k M : ℕ) : Type 0 where
  pub larger : k ≤ M
  pub permitted : M ≤ 1_000_000

-- the status 2
abbrev pub is_over : Status → Bool
is_over s = same_status NeedLargerNMax s

-- the exchanges es are the first of fs; the latest stand first
pub record Begins (es fs : List Exchange) : Type 0 where
  pub later : List Exchange
  pub is : fs ≡ later ++ es

-- the opening with the limit M is accepted too, and asks the same of the host, in the same memory
abbrev pub Opens : ℕ → Opening → Point → Type 0
Opens M o start =
    open_of (opening_with M o)
    ≡ opening_outcome (Ok (call (run_with M start.run) start.request start.place)) start.memory

-- the run from `start`, which ended at e after w's exchanges, with w's memory, is the same with the limit M
pub record Unmoved (M : ℕ) (host : Host) (o : Opening) (start : Point) (e : Run) (w : World) : Type 0 where
  pub opens : Opens M o start
  -- the same requests, replies and memory on the way; the same end but for the limit, and the same memory there
  pub talks : TalksTo offered host (point_with M start) (run_with M e) w
  -- and no other
  pub only : (f : Run) (v : World) → TalksTo offered host (point_with M start) f v → (f ≡ run_with M e) × (v ≡ w)
  pub result : result_of (run_with M e) ≡ result_of e

-- there is a run with the limit M, it comes to one end, and w's exchanges are its beginning
pub record Continued (M : ℕ) (host : Host) (o : Opening) (start : Point) (w : World) : Type 0 where
  pub opens : Opens M o start
  pub run : Run
  pub world : World
  pub talks : TalksTo offered host (point_with M start) run world
  pub only : (f : Run) (v : World) → TalksTo offered host (point_with M start) f v → (f ≡ run) × (v ≡ world)
  pub begins : Begins w.exchanges world.exchanges
