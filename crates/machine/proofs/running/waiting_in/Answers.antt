-- `waiting_in` meets its contract. The loop's invariant: the rows passed that wait are counted.
use Prim.Native.Nat.{◌+◌, ◌-◌}
use mathlib.Core.Path.{◌≡◌, refl}
use Rattle.laws.specs.Tests.{how_many}
use Rattle.laws.proofs.Tests.{many_more, passed, failed}
use native.Mathlib.Omega.{arith}
use Rattle.machine.specs.Run.{is_waiting}
use Rattle.machine.proofs.running.waiting_in.Goals as goal
use Rattle.machine.proofs.running.waiting_in.Goals.{then-number_within, else-number_within}

pub loop-row-init : goal.loop-row-init
unfolding how_many
loop-row-init c = record { few = omega arith; counted = refl }

pub overflow_add-waiting : goal.overflow_add-waiting
overflow_add-waiting c = record { fits = omega arith }

pub loop-row-preserved : goal.loop-row-preserved
loop-row-preserved c =
    let so_far = c.loop-row.invariant in
    let k = c.loop-row.row-index in
    let back : k + 1 - 1 ≡ k = omega arith in
    elim c.if-number_within.branch [
      | then-number_within w ↦
          rw w.waiting-is
          (record {
            few = omega arith;
            counted = many_more (is_waiting c.args.t) k so_far.counted (rw (back, passed c.number_within.ensures w.if-number_within.true));
          })
      | else-number_within w ↦
          let same : c.loop-row.waiting + 0 ≡ c.loop-row.waiting = omega arith in
          rw (w.waiting-is, ← same)
          (record {
            few = omega arith;
            counted = many_more (is_waiting c.args.t) k so_far.counted (rw (back, failed c.number_within.ensures w.if-number_within.false));
          })
    ]

pub returns : goal.returns
returns c =
    let all : c.loop-row.row-index ≡ 16 = omega arith in
    rw all at c.loop-row.invariant.counted
