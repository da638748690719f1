-- The answer of a run as its loop knows it where it ends, which a private function promises: the bytes taken that did not move waited.
use Rattle.std.specs.Prelude.{ℕ, ◌-◌}
use Rattle.fields.specs.Refusals.{Stop}
use Rattle.table.specs.declared.Table.{Table}
use Rattle.machine.specs.Run.{waiting_of}
use Rattle.machine.specs.declared.Ran.{Ran}

abbrev pub ended_run : Table → ℕ → ℕ → ℕ → Stop → Ran
ended_run t moved entries place stop = record {
  table = t;
  moved = moved;
  waited = place - moved;
  entries = entries;
  waiting = waiting_of t;
  place = place;
  stop = stop;
}
