-- `step` meets its contract: of a well-formed table it is a run of one byte.
use mathlib.Core.Path.{◌≡◌, ap, ◌∙◌}
use native.Mathlib.Omega.{arith}
use Rattle.laws.proofs.Tests.{failed}
use Rattle.machine.specs.Step.{step_of}
use Rattle.machine.specs.declared.Ran.{Ran}
use Rattle.machine.proofs.Steps.{step_mark_most}
use Rattle.machine.proofs.Runs.{one_table, one_stop, one_mark}
use Rattle.machine.proofs.stepping.step.Goals.{After-course-r}
use Rattle.machine.proofs.stepping.step.Goals as goal

pub returns-then-not-well_formed : goal.returns-then-not-well_formed
unfolding step_of
returns-then-not-well_formed c = rw (failed c.well_formed-2.ensures c.if-not-well_formed.true, c.refused.ensures)

-- the step's table, mark and stop number, in the answer of the run
stepped : (c : After-course-r)
    → let args = c.args in
    let r = c.course-r.result in
    (r.table ≡ (step_of args.t args.process).table)
    × (r.moved ≡ (step_of args.t args.process).mark)
    × (r.stop ≡ (step_of args.t args.process).stop)
stepped c =
    let args = c.args in
    let answer = c.course-r.ensures.value in (
      ap (λ (r : Ran). r.table) answer ∙ one_table args.t args.process,
      ap (λ (r : Ran). r.moved) answer ∙ one_mark args.t args.process,
      ap (λ (r : Ran). r.stop) answer ∙ one_stop args.t args.process,
    )

pub overflow_cast-result : goal.overflow_cast-result
overflow_cast-result c =
    let args = c.args in
    record { fits = omega (arith, (stepped (goal.at.overflow_cast-result c).After-course-r).1, step_mark_most args.t args.process) }

pub returns : goal.returns
returns c =
    let s = stepped (goal.at.returns c).After-course-r in
    λ at. record { table = s.0 at; mark = s.1 at; stop = s.2 at }
