-- The invariant of the loop in `main`: at most 2^16 bytes for each n passed.
use Rattle.std.proofs.Common.{◌*◌, ◌^◌, ◌≤◌}
use Rattle.compare.proofs.main.Given as goal

abbrev pub invariant-loop-n : goal.invariant-loop-n
invariant-loop-n l = l.all.bytes ≤ 2 ^ 16 * l.n-counter
