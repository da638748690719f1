-- `put_report` meets its contract.
use Prim.Native.Nat.{ℕ, ◌*◌, ◌≤◌}
use mathlib.Core.Path.{◌≡◌, sym, ◌∙◌}
use mathlib.Core.List.{List}
use lib.ListN.{length, take, drop, replicate, length-replicate}
use lib.Seq.{take_at, length-take-le}
use Rattle.laws.specs.Lent.{in_front}
use Rattle.fields.specs.Numbers.{schedule_limit}
use Rattle.fields.specs.Refusals.{no_refusal}
use Rattle.table.specs.declared.Table.{Table}
use Rattle.table.proofs.WellFormed.{table_rules}
use Rattle.courses.specs.Course.{Course}
use Rattle.courses.proofs.Counts.{processes_count}
use Rattle.machine.specs.Run.{course_of, is_entry, entered_in, answer_of, run_refusal}
use Rattle.machine.proofs.Runs.{run_accepted, run_answer, run_buffer, entries_within}
use Rattle.listing.specs.Listing.{bakery_line, entry_lines, counts_line, report}
use Rattle.listing.specs.Room.{entry_room}
use Rattle.listing.proofs.Lengths.{bakery_short, lines_short, counts_short}
use Rattle.listing.proofs.Writes.{and_then, from_start}
use borrow.Author.Rules.{rules}
use native.Mathlib.Omega.{arith}
use Rattle.listing.proofs.put_report.Goals.{After-run-r}
use Rattle.listing.proofs.put_report.Goals as goal

-- The run is not refused as a whole: it answers what its course gives, and its entries stand in front.
module _ (c : After-run-r) where
  abbrev zeros : List ℕ
  zeros = replicate schedule_limit 0

  abbrev its_course : Course Table
  its_course = course_of c.args.t c.args.schedule.now

  abbrev its_entries : List ℕ
  its_entries = entered_in its_course.turns

  accepted : run_refusal c.args.t c.args.schedule.now zeros ≡ no_refusal
  accepted =
      run_accepted c.args.t c.args.schedule.now zeros c.requires.well_formed c.requires.short
      (rw (length-replicate {A = ℕ} schedule_limit 0) c.requires.short)

  answered : c.run-r.result ≡ answer_of its_course
  answered = c.run-r.ensures.value ∙ run_answer c.args.t c.args.schedule.now zeros accepted

  entered : take c.run-r.result.entries c.run-r.new.entries ≡ its_entries
  entered =
      let written : c.run-r.new.entries ≡ in_front its_entries zeros =
      c.run-r.ensures.entries_after ∙ run_buffer c.args.t c.args.schedule.now zeros accepted in
      rw (written, answered) (take_at its_entries (drop (length its_entries) zeros) _ (processes_count is_entry its_course.turns))

  within : c.run-r.result.entries ≤ length c.run-r.new.entries
  within =
      let most = entries_within c.args.t c.args.schedule.now zeros in
      rw c.run-r.ensures.value (omega (arith, most, c.run-r.auto.entries))

  -- the text has room for each part
  bakery_fits : length (bakery_line c.args.t.algorithm c.args.t.n) ≤ 15
  bakery_fits = bakery_short c.args.t.algorithm c.args.t.n (search rules) (search rules)

  lines_fit : length (entry_lines (take c.run-r.result.entries c.run-r.new.entries)) ≤ schedule_limit * entry_room
  lines_fit =
      let short = lines_short c.args.t c.args.schedule.now (table_rules c.args.t c.requires.well_formed).most in
      rw entered (omega (arith, short, c.requires.short))

  counts_fit : length (counts_line c.run-r.result) ≤ 122
  counts_fit = counts_short c.run-r.result (search rules) (search rules) (search rules) (search rules)

pub put_bakery-requires : goal.put_bakery-requires
put_bakery-requires c = omega (arith, bakery_fits (goal.at.put_bakery-requires c).After-run-r)

pub slice_bounds-entries-end : goal.slice_bounds-entries-end
slice_bounds-entries-end c = within (goal.at.slice_bounds-entries-end c).After-run-r

pub slice_bounds-put_entries-end : goal.slice_bounds-put_entries-end
slice_bounds-put_entries-end c =
    sym (length-take-le c.run-r.result.entries c.run-r.new.entries (within (goal.at.slice_bounds-put_entries-end c).After-run-r))

pub put_entries-requires : goal.put_entries-requires
put_entries-requires c =
    let run = (goal.at.put_entries-requires c).After-run-r in omega (arith, bakery_fits run, lines_fit run)

pub put_counts-requires : goal.put_counts-requires
put_counts-requires c =
    let run = (goal.at.put_counts-requires c).After-run-r in omega (arith, bakery_fits run, lines_fit run, counts_fit run)

pub returns : goal.returns
unfolding report
returns c =
    let run = (goal.at.returns c).After-run-r in
    let front = and_then c.put_bakery.ensures (rw (entered run) at c.put_entries.ensures) in
    let all = and_then front (rw (answered run) at c.put_counts.ensures) in
    record {
      written = from_start c.new-out.ensures.unchanged c.new-out.ensures.empty all (grind arith) c.finish.ensures.len;
      fits = omega (arith, bakery_fits run, lines_fit run, counts_fit run);
    }
