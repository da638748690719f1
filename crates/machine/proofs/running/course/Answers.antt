-- `course` meets its contract. The loop's invariant: what it has come to is the course of the bytes passed.
use Prim.Native.Nat.{◌+◌, ◌<◌}
use mathlib.Core.Path.{◌≡◌, ap, ◌∙◌}
use mir.Facts.{to_z-of_z}
use mir.Syntax.{w32, w64}
use mir.Val.{Fits, SFits}
use lib.ListN.{get_or, length}
use Rattle.laws.proofs.Tests.{passed, failed}
use Rattle.fields.specs.Numbers.{slots}
use Rattle.fields.specs.Refusals.{no_refusal, bad_process_number}
use Rattle.courses.proofs.Going.{begins, moved_few, listed_few, stops, ends}
use Rattle.table.specs.WellFormed.{no_row}
use Rattle.table.proofs.Held.{held_sized}
use Rattle.tokens.proofs.Answers.{next_counted}
use Rattle.machine.specs.Ready.{Ready, OtherLine}
use Rattle.machine.specs.declared.Stepped.{Stepped}
use Rattle.machine.proofs.Arms.{takes_read, takes_token, stop_of_4, takes_6_or_7, takes_still, takes_other}
use Rattle.machine.proofs.Ready.{ready_at}
use Rattle.machine.proofs.Steps.{step_bad_number}
use Rattle.machine.proofs.Going.{answered, AtByte, byte_stops, byte_taken, byte_passed, byte_waits}
use borrow.Author.Rules.{rules}
use native.Mathlib.Omega.{arith}
use Rattle.machine.proofs.running.course.Goals.{After-place_of-p, After-place_of-q, After-seen_in-seen}
use Rattle.machine.proofs.running.course.Goals.{in-2, in-4+else-is_some, in-6-to-7+then-w-eq-MOVED, in-6-to-7+else-w-eq-MOVED}
use Rattle.machine.proofs.running.course.Goals.{in_default+in_default, in_default-via-then-line-lt6, in_default-via-else-line-lt6+else-line-lt8}
use Rattle.machine.proofs.running.course.Goals as goal

pub loop-k-init : goal.loop-k-init
loop-k-init c = begins _ _ c.args.start (record { formed = c.requires.formed; sized = held_sized c.args.start _ c.well_formed.0 })

-- The byte is a process's number, so its row is one of the table's, and is ready.
process : (c : After-place_of-p)
    → (c.place_of-p.result < slots) × Ready c.loop-k.t.n (get_or c.loop-k.t.rows c.place_of-p.result no_row).core
process c =
    ready_at _ _ _ c.loop-k.invariant.holds.formed (passed c.number_within.ensures c.if-not-number_within.false) c.place_of-p.ensures

-- What the loop knows at this byte, before the arms.
at_byte : (c : After-seen_in-seen)
    → AtByte c.args.schedule.now c.args.entries.now c.loop-k.entries c.args.start c.loop-k.t c.loop-k.moved c.loop-k.entered c.loop-k.k
    c.place_of-p.result c.place_of-q.result c.seen_in-seen.result
at_byte c =
    let x_fits : SFits w32 c.loop-k.t.x = search rules in
    record {
      going = c.loop-k.invariant;
      more = c.loop-k-test.true;
      room = c.requires.room;
      number = passed c.number_within.ensures c.if-not-number_within.false;
      own = c.place_of-p.ensures;
      other = c.place_of-q.ensures;
      sees = c.seen_in-seen.ensures ∙ rw (to_z-of_z x_fits);
    }

-- a count that grows by one still fits
one_more : (c : After-seen_in-seen) → Fits w64 (c.loop-k.moved + 1)
one_more c = record { fits = omega (arith, moved_few c.loop-k.invariant, c.loop-k-test.true, c.well_formed) }

pub bounds-t-p : goal.bounds-t-p
bounds-t-p c = (process c).0

pub bounds-t-p-in-loop-k : goal.bounds-t-p-in-loop-k
bounds-t-p-in-loop-k c = (process (goal.at.bounds-t-p-in-loop-k c).After-place_of-p).0

pub bounds-t-q : goal.bounds-t-q
bounds-t-q c = omega (arith, (process (goal.at.bounds-t-q c).After-place_of-p).1.index)

pub offset_bounds-t-q : goal.offset_bounds-t-q
offset_bounds-t-q c = omega (arith, (process (goal.at.offset_bounds-t-q c).After-place_of-p).1.index)

pub bounds-t-p-in_default : goal.bounds-t-p-in_default
bounds-t-p-in_default c = (process (goal.at.bounds-t-p-in_default c).After-place_of-p).0

pub invariant_of-process : goal.invariant_of-process
invariant_of-process c = record { counted = (process (goal.at.invariant_of-process c).After-place_of-p).1.count }

pub invariant_of-process-in-4 : goal.invariant_of-process-in-4
invariant_of-process-in-4 c = record { counted = (process (goal.at.invariant_of-process-in-4 c).After-place_of-p).1.count }

pub invariant_of-process-in-6-to-7 : goal.invariant_of-process-in-6-to-7
invariant_of-process-in-6-to-7 c = record { counted = (process (goal.at.invariant_of-process-in-6-to-7 c).After-place_of-p).1.count }

pub invariant_of-process-in_default : goal.invariant_of-process-in_default
invariant_of-process-in_default c = record { counted = (process (goal.at.invariant_of-process-in_default c).After-place_of-p).1.count }

pub line_2-w-requires : goal.line_2-w-requires
line_2-w-requires c = (process (goal.at.line_2-w-requires c).After-place_of-p).1.index

pub with_read-requires : goal.with_read-requires
with_read-requires c = (process (goal.at.with_read-requires c).After-place_of-p).1.index

pub waiting_line-w-requires-clause-index : goal.waiting_line-w-requires-clause-index
waiting_line-w-requires-clause-index c = (process (goal.at.waiting_line-w-requires-clause-index c).After-place_of-p).1.index

pub overflow_add-moved : goal.overflow_add-moved
overflow_add-moved c = one_more (goal.at.overflow_add-moved c).After-seen_in-seen

pub overflow_add-moved-in-4 : goal.overflow_add-moved-in-4
overflow_add-moved-in-4 c = one_more (goal.at.overflow_add-moved-in-4 c).After-seen_in-seen

pub overflow_add-moved-then-w-eq-MOVED : goal.overflow_add-moved-then-w-eq-MOVED
overflow_add-moved-then-w-eq-MOVED c = one_more (goal.at.overflow_add-moved-then-w-eq-MOVED c).After-seen_in-seen

pub overflow_add-moved-in_default : goal.overflow_add-moved-in_default
overflow_add-moved-in_default c = one_more (goal.at.overflow_add-moved-in_default c).After-seen_in-seen

pub note_entry-entered-requires : goal.note_entry-entered-requires
note_entry-entered-requires c =
    let byte = at_byte (goal.at.note_entry-entered-requires c).After-seen_in-seen in
    omega (arith, listed_few byte.going, byte.going.same, byte.more, byte.room)

-- Where the run ends: no byte counts as moved that was not passed, and the answer is that of the course.
pub ended-requires : goal.ended-requires
ended-requires c = moved_few c.loop-k.invariant

pub ended-requires-then-is_some : goal.ended-requires-then-is_some
ended-requires-then-is_some c = moved_few c.loop-k.invariant

pub ended-requires-2 : goal.ended-requires-2
ended-requires-2 c = omega (arith, moved_few c.loop-k.invariant)

pub returns-then-not-number_within : goal.returns-then-not-number_within
returns-then-not-number_within c =
    let g = c.loop-k.invariant in
    let step = step_bad_number c.loop-k.t _ g.holds.formed (failed c.number_within.ensures c.if-not-number_within.true) in
    let stop = ap (λ (r : Stepped). r.stop) step in
    let r = stops g c.loop-k-test.true stop (λ (q : bad_process_number ≡ no_refusal). cc) in
    record { value = answered r c.ended.ensures; entries_after = r.front }

pub returns-then-is_some : goal.returns-then-is_some
returns-then-is_some c =
    let path = goal.at.returns-then-is_some c in
    let count = (process path.After-place_of-p).1.count in
    let stop = stop_of_4 _ _ _ _ _ c.in-4.is (c.line_4-w.ensures _ _ (c.next_of.ensures ∙ next_counted _ _ _ _ count)) in
    let r = byte_stops (at_byte path.After-seen_in-seen) stop (search rules) in
    record { value = answered r c.ended-then-is_some.ensures; entries_after = r.front }

pub returns : goal.returns
returns c =
    let r = ends c.loop-k.invariant c.loop-k-test.false in
    let all : c.loop-k.k ≡ length c.args.schedule.now = omega arith in
    record { value = answered r (rw all c.ended-2.ensures); entries_after = r.front }

-- One byte more is passed.
pub loop-k-preserved : goal.loop-k-preserved
loop-k-preserved c =
    let path = goal.at.loop-k-preserved c in
    let byte = at_byte path.After-seen_in-seen in
    let own = (process path.After-place_of-p).1 in
    elim c.match-line.branch [
      | in-2 w ↦ rw (w.entries-is, w.t-is, w.moved-is, w.entered-is, w.with_read.ensures)
          (byte_passed byte (omega (arith, w.in-2.is)) (takes_read _ _ _ _ _ w.in-2.is w.line_2-w.ensures own))
      | in-4+else-is_some w ↦ rw (w.entries-is, w.t-is, w.moved-is, w.entered-is, w.cleared.ensures)
          (byte_passed byte (omega (arith, w.in-4.is))
          (takes_token _ _ _ _ _ w.in-4.is (w.line_4-w.ensures _ _ (w.next_of.ensures ∙ next_counted _ _ _ _ own.count)) own
          (search rules)))
      | in-6-to-7+then-w-eq-MOVED w ↦ rw (w.entries-is, w.t-is, w.moved-is, w.entered-is, w.with_core.ensures)
          (byte_passed byte (omega arith)
          (takes_6_or_7 _ _ _ _ _ (omega arith) (omega arith) w.waiting_line-w.ensures (omega arith) w.if-w-eq-MOVED.true))
      | in-6-to-7+else-w-eq-MOVED w ↦ rw (w.entries-is, w.t-is, w.moved-is, w.entered-is)
          (byte_waits byte (omega arith)
          (takes_still _ _ _ _ _ (omega arith) (omega arith) w.waiting_line-w.ensures (omega arith) w.if-w-eq-MOVED.false))
      | in_default+in_default w ↦
          let off : OtherLine (get_or c.loop-k.t.rows c.place_of-p.result no_row).core = elim w.in_default.branch [
            | in_default-via-then-line-lt6 v ↦ omega arith
            | in_default-via-else-line-lt6+else-line-lt8 v ↦ omega arith
          ] in
          let x_fits : SFits w32 w.other_line-w.result.x = search rules in
          let note = w.note_entry-entered.ensures in
          rw (
            w.entries-is,
            w.t-is,
            w.moved-is,
            w.entered-is,
            w.with_core-in_default.ensures,
            note.value,
            note.entries_after,
            to_z-of_z x_fits,
          ) (byte_taken byte (takes_other _ _ _ _ _ off.not_2 off.not_4 w.other_line-w.ensures own off.not_6 off.not_7))
    ]
