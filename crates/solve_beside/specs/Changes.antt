-- What may differ between two runs that go side by side: the limit of steps, the rule, the source of the Jacobian, and
-- the Jacobian's memory. Each of the other run's is a function of the one's, and nothing else is exchanged.
use Rattle.std.specs.Prelude.{ℕ, List, Float}
use Rattle.state.specs.declared.settings.Settings.{Settings}
use Rattle.state.specs.declared.settings.Rule.{Rule}
use Rattle.state.specs.declared.settings.Source.{Source}
use Rattle.state.specs.declared.run.Run.{Run}
use Rattle.state.specs.Memory.{Memory, given}
use Rattle.state.specs.MemorySetters.{set_given}
use Rattle.state.specs.declared.talk.Call.{Call}
use Rattle.state.specs.Talk.{call}
use Rattle.solve_blocks.specs.Advance.{Called, called}

pub record Changes : Type 0 where
  pub limit : ℕ → ℕ
  pub rule : Rule → Rule
  pub source : Source → Source
  pub jac : List Float → List Float

abbrev pub settings_by : Changes → Settings → Settings
settings_by c s =
    record {
      max_steps = c.limit s.max_steps;
      uround = s.uround;
      safety_factor = s.safety_factor;
      scale_min = s.scale_min;
      scale_max = s.scale_max;
      max_step = s.max_step;
      min_step = s.min_step;
      newton_maxiter = s.newton_maxiter;
      newton_tol = s.newton_tol;
      predictive = s.predictive;
      nind1 = s.nind1;
      nind2 = s.nind2;
      nind3 = s.nind3;
      mass = s.mass;
      source = c.source s.source;
      first_step = s.first_step;
      dense_output = s.dense_output;
      rule = c.rule s.rule;
    }

abbrev pub run_by : Changes → Run → Run
run_by c r =
    record {
      settings = settings_by c r.settings;
      shape = r.shape;
      fixed = r.fixed;
      counts = r.counts;
      control = r.control;
      numbers = r.numbers;
      stage = r.stage;
      notes = r.notes;
    }

abbrev pub memory_by : Changes → Memory → Memory
memory_by c m = set_given (given m.given.rtol m.given.atol m.given.mass (c.jac m.given.jac)) m

abbrev pub call_by : Changes → Call → Call
call_by c a = call (run_by c a.run) a.request a.place

abbrev pub called_by : Changes → Called → Called
called_by c d = called (call_by c d.call) (memory_by c d.memory)
