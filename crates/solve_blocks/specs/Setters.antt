-- A run with some of its parts exchanged, written as the Rust's assignments are: `r ▸ f ▸ g` does f first.
use Rattle.std.specs.Prelude.{ℕ, ◌+◌, Bool, Float, Option}
use Rattle.state.specs.declared.run.Counts.{Counts}
use Rattle.state.specs.declared.run.Control.{Control}
use Rattle.state.specs.declared.run.Numbers.{Numbers}
use Rattle.state.specs.declared.run.Stage.{Stage}
use Rattle.state.specs.declared.run.Notes.{Notes}
use Rattle.state.specs.declared.run.Run.{Run}
use Rattle.state.specs.declared.run.Singular.{Singular}
use Rattle.state.specs.declared.run.Strides.{Strides}

infixl 10 ◌▸◌
abbrev pub ◌▸◌ : {A : Type 0} → A → (A → A) → A
a ▸ f = f a

-- ---- the run

abbrev pub in_counts : (Counts → Counts) → Run → Run
in_counts f r =
    record {
      settings = r.settings;
      shape = r.shape;
      fixed = r.fixed;
      counts = f r.counts;
      control = r.control;
      numbers = r.numbers;
      stage = r.stage;
      notes = r.notes;
    }

abbrev pub in_control : (Control → Control) → Run → Run
in_control f r =
    record {
      settings = r.settings;
      shape = r.shape;
      fixed = r.fixed;
      counts = r.counts;
      control = f r.control;
      numbers = r.numbers;
      stage = r.stage;
      notes = r.notes;
    }

abbrev pub in_numbers : (Numbers → Numbers) → Run → Run
in_numbers f r =
    record {
      settings = r.settings;
      shape = r.shape;
      fixed = r.fixed;
      counts = r.counts;
      control = r.control;
      numbers = f r.numbers;
      stage = r.stage;
      notes = r.notes;
    }

abbrev pub at_stage : Stage → Run → Run
at_stage s r =
    record {
      settings = r.settings;
      shape = r.shape;
      fixed = r.fixed;
      counts = r.counts;
      control = r.control;
      numbers = r.numbers;
      stage = s;
      notes = r.notes;
    }

-- what is kept for the result alone
abbrev pub in_notes : (Notes → Notes) → Run → Run
in_notes f r =
    record {
      settings = r.settings;
      shape = r.shape;
      fixed = r.fixed;
      counts = r.counts;
      control = r.control;
      numbers = r.numbers;
      stage = r.stage;
      notes = f r.notes;
    }

-- ---- counts, one more of each

abbrev pub counts : ℕ → ℕ → ℕ → ℕ → ℕ → ℕ → Counts
counts ode jac lu total accepted rejected =
    record {
      ode = ode;
      jac = jac;
      lu = lu;
      total = total;
      accepted = accepted;
      rejected = rejected;
    }

abbrev pub one_ode : Counts → Counts
one_ode c = counts (c.ode + 1) c.jac c.lu c.total c.accepted c.rejected

abbrev pub one_jac : Counts → Counts
one_jac c = counts c.ode (c.jac + 1) c.lu c.total c.accepted c.rejected

abbrev pub one_lu : Counts → Counts
one_lu c = counts c.ode c.jac (c.lu + 1) c.total c.accepted c.rejected

abbrev pub one_total : Counts → Counts
one_total c = counts c.ode c.jac c.lu (c.total + 1) c.accepted c.rejected

abbrev pub one_accepted : Counts → Counts
one_accepted c = counts c.ode c.jac c.lu c.total (c.accepted + 1) c.rejected

abbrev pub one_rejected : Counts → Counts
one_rejected c = counts c.ode c.jac c.lu c.total c.accepted (c.rejected + 1)

-- ---- flags and counters

abbrev pub control : Bool → Bool → Bool → Bool → Bool → ℕ → ℕ → Bool → Control
control first last reject jac decomp singular newt here =
    record {
      first = first;
      last = last;
      reject = reject;
      call_jac = jac;
      call_decomp = decomp;
      singular_count = singular;
      newt_iter = newt;
      made_here = here;
    }

abbrev pub set_first : Bool → Control → Control
set_first v c =
    control v c.last c.reject c.call_jac c.call_decomp
    c.singular_count c.newt_iter c.made_here

abbrev pub set_last : Bool → Control → Control
set_last v c =
    control c.first v c.reject c.call_jac c.call_decomp
    c.singular_count c.newt_iter c.made_here

abbrev pub set_reject : Bool → Control → Control
set_reject v c =
    control c.first c.last v c.call_jac c.call_decomp
    c.singular_count c.newt_iter c.made_here

abbrev pub set_call_jac : Bool → Control → Control
set_call_jac v c =
    control c.first c.last c.reject v c.call_decomp
    c.singular_count c.newt_iter c.made_here

abbrev pub set_call_decomp : Bool → Control → Control
set_call_decomp v c =
    control c.first c.last c.reject c.call_jac v c.singular_count c.newt_iter c.made_here

abbrev pub set_singular : ℕ → Control → Control
set_singular v c =
    control c.first c.last c.reject c.call_jac c.call_decomp v c.newt_iter c.made_here

abbrev pub set_newt : ℕ → Control → Control
set_newt v c =
    control c.first c.last c.reject c.call_jac c.call_decomp c.singular_count v c.made_here

abbrev pub set_here : Bool → Control → Control
set_here v c =
    control c.first c.last c.reject c.call_jac c.call_decomp c.singular_count c.newt_iter v

-- ---- floats

abbrev pub set_x : Float → Numbers → Numbers
set_x v n =
    record {
      x = v;
      xold = n.xold;
      xph = n.xph;
      h = n.h;
      hold = n.hold;
      hnew = n.hnew;
      hhfac = n.hhfac;
      h_acc = n.h_acc;
      err_acc = n.err_acc;
      faccon = n.faccon;
      theta = n.theta;
      dynold = n.dynold;
      thqold = n.thqold;
      xout = n.xout;
    }

abbrev pub set_xold : Float → Numbers → Numbers
set_xold v n =
    record {
      x = n.x;
      xold = v;
      xph = n.xph;
      h = n.h;
      hold = n.hold;
      hnew = n.hnew;
      hhfac = n.hhfac;
      h_acc = n.h_acc;
      err_acc = n.err_acc;
      faccon = n.faccon;
      theta = n.theta;
      dynold = n.dynold;
      thqold = n.thqold;
      xout = n.xout;
    }

abbrev pub set_xph : Float → Numbers → Numbers
set_xph v n =
    record {
      x = n.x;
      xold = n.xold;
      xph = v;
      h = n.h;
      hold = n.hold;
      hnew = n.hnew;
      hhfac = n.hhfac;
      h_acc = n.h_acc;
      err_acc = n.err_acc;
      faccon = n.faccon;
      theta = n.theta;
      dynold = n.dynold;
      thqold = n.thqold;
      xout = n.xout;
    }

abbrev pub set_h : Float → Numbers → Numbers
set_h v n =
    record {
      x = n.x;
      xold = n.xold;
      xph = n.xph;
      h = v;
      hold = n.hold;
      hnew = n.hnew;
      hhfac = n.hhfac;
      h_acc = n.h_acc;
      err_acc = n.err_acc;
      faccon = n.faccon;
      theta = n.theta;
      dynold = n.dynold;
      thqold = n.thqold;
      xout = n.xout;
    }

abbrev pub set_hold : Float → Numbers → Numbers
set_hold v n =
    record {
      x = n.x;
      xold = n.xold;
      xph = n.xph;
      h = n.h;
      hold = v;
      hnew = n.hnew;
      hhfac = n.hhfac;
      h_acc = n.h_acc;
      err_acc = n.err_acc;
      faccon = n.faccon;
      theta = n.theta;
      dynold = n.dynold;
      thqold = n.thqold;
      xout = n.xout;
    }

abbrev pub set_hnew : Float → Numbers → Numbers
set_hnew v n =
    record {
      x = n.x;
      xold = n.xold;
      xph = n.xph;
      h = n.h;
      hold = n.hold;
      hnew = v;
      hhfac = n.hhfac;
      h_acc = n.h_acc;
      err_acc = n.err_acc;
      faccon = n.faccon;
      theta = n.theta;
      dynold = n.dynold;
      thqold = n.thqold;
      xout = n.xout;
    }

abbrev pub set_hhfac : Float → Numbers → Numbers
set_hhfac v n =
    record {
      x = n.x;
      xold = n.xold;
      xph = n.xph;
      h = n.h;
      hold = n.hold;
      hnew = n.hnew;
      hhfac = v;
      h_acc = n.h_acc;
      err_acc = n.err_acc;
      faccon = n.faccon;
      theta = n.theta;
      dynold = n.dynold;
      thqold = n.thqold;
      xout = n.xout;
    }

abbrev pub set_h_acc : Float → Numbers → Numbers
set_h_acc v n =
    record {
      x = n.x;
      xold = n.xold;
      xph = n.xph;
      h = n.h;
      hold = n.hold;
      hnew = n.hnew;
      hhfac = n.hhfac;
      h_acc = v;
      err_acc = n.err_acc;
      faccon = n.faccon;
      theta = n.theta;
      dynold = n.dynold;
      thqold = n.thqold;
      xout = n.xout;
    }

abbrev pub set_err_acc : Float → Numbers → Numbers
set_err_acc v n =
    record {
      x = n.x;
      xold = n.xold;
      xph = n.xph;
      h = n.h;
      hold = n.hold;
      hnew = n.hnew;
      hhfac = n.hhfac;
      h_acc = n.h_acc;
      err_acc = v;
      faccon = n.faccon;
      theta = n.theta;
      dynold = n.dynold;
      thqold = n.thqold;
      xout = n.xout;
    }

abbrev pub set_faccon : Float → Numbers → Numbers
set_faccon v n =
    record {
      x = n.x;
      xold = n.xold;
      xph = n.xph;
      h = n.h;
      hold = n.hold;
      hnew = n.hnew;
      hhfac = n.hhfac;
      h_acc = n.h_acc;
      err_acc = n.err_acc;
      faccon = v;
      theta = n.theta;
      dynold = n.dynold;
      thqold = n.thqold;
      xout = n.xout;
    }

abbrev pub set_theta : Float → Numbers → Numbers
set_theta v n =
    record {
      x = n.x;
      xold = n.xold;
      xph = n.xph;
      h = n.h;
      hold = n.hold;
      hnew = n.hnew;
      hhfac = n.hhfac;
      h_acc = n.h_acc;
      err_acc = n.err_acc;
      faccon = n.faccon;
      theta = v;
      dynold = n.dynold;
      thqold = n.thqold;
      xout = n.xout;
    }

abbrev pub set_dynold : Float → Numbers → Numbers
set_dynold v n =
    record {
      x = n.x;
      xold = n.xold;
      xph = n.xph;
      h = n.h;
      hold = n.hold;
      hnew = n.hnew;
      hhfac = n.hhfac;
      h_acc = n.h_acc;
      err_acc = n.err_acc;
      faccon = n.faccon;
      theta = n.theta;
      dynold = v;
      thqold = n.thqold;
      xout = n.xout;
    }

abbrev pub set_thqold : Float → Numbers → Numbers
set_thqold v n =
    record {
      x = n.x;
      xold = n.xold;
      xph = n.xph;
      h = n.h;
      hold = n.hold;
      hnew = n.hnew;
      hhfac = n.hhfac;
      h_acc = n.h_acc;
      err_acc = n.err_acc;
      faccon = n.faccon;
      theta = n.theta;
      dynold = n.dynold;
      thqold = v;
      xout = n.xout;
    }

abbrev pub set_xout : Option Float → Numbers → Numbers
set_xout v n =
    record {
      x = n.x;
      xold = n.xold;
      xph = n.xph;
      h = n.h;
      hold = n.hold;
      hnew = n.hnew;
      hhfac = n.hhfac;
      h_acc = n.h_acc;
      err_acc = n.err_acc;
      faccon = n.faccon;
      theta = n.theta;
      dynold = n.dynold;
      thqold = n.thqold;
      xout = v;
    }

-- ---- notes

abbrev pub set_latest : Option Singular → Notes → Notes
set_latest v n = record { singular = v; strides = n.strides }

abbrev pub set_strides : Option Strides → Notes → Notes
set_strides v n = record { singular = n.singular; strides = v }
