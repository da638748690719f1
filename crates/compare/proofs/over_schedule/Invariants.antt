-- The invariant of the loop in `over_schedule`: the tally is over the bytes given.
use Rattle.std.proofs.Common.{◌≡◌, ◌≤◌}
use Rattle.compare.proofs.over_schedule.Given as goal

abbrev pub invariant-loop : goal.invariant-loop
invariant-loop l = (l.counter ≤ l.end) × (l.tally.bytes ≡ l.counter)
