-- What is lent of a memory.
use Rattle.std.specs.Prelude.{ℕ, List, take, slice_index}
use Rattle.replay.specs.declared.memory.Memory.{Memory}
use Rattle.replay.specs.Parts.{Parts}

-- each part is the front of its array, as long as is asked for, or all of it
abbrev pub lent_of : Memory → List ℕ → Parts
lent_of memory lengths = record {
  y = take (slice_index lengths 0) memory.y;
  f0 = take (slice_index lengths 1) memory.f0;
  scal = take (slice_index lengths 2) memory.scal;
  cont = take (slice_index lengths 3) memory.cont;
  z1 = take (slice_index lengths 4) memory.z1;
  z2 = take (slice_index lengths 5) memory.z2;
  z3 = take (slice_index lengths 6) memory.z3;
  f1 = take (slice_index lengths 7) memory.f1;
  f2 = take (slice_index lengths 8) memory.f2;
  f3 = take (slice_index lengths 9) memory.f3;
  rtol = take (slice_index lengths 10) memory.rtol;
  atol = take (slice_index lengths 11) memory.atol;
  mass = take (slice_index lengths 12) memory.mass;
  jac = take (slice_index lengths 13) memory.jac;
  e1 = take (slice_index lengths 14) memory.e1;
  e2r = take (slice_index lengths 15) memory.e2r;
  e2i = take (slice_index lengths 16) memory.e2i;
  ip1 = take (slice_index lengths 17) memory.ip1;
  ip2 = take (slice_index lengths 18) memory.ip2;
  y_perturbed = take (slice_index lengths 19) memory.y_perturbed;
  f_perturbed = take (slice_index lengths 20) memory.f_perturbed;
  f_origin = take (slice_index lengths 21) memory.f_origin;
}
