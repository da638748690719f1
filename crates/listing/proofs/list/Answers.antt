-- `list` meets its contract.
use Prim.Native.Nat.{ℕ, ◌-◌, ◌≤◌}
use mathlib.Core.Path.{◌≡◌, ap, ◌∙◌}
use Rattle.std.specs.Prelude.{None, Some}
use mathlib.Core.List.{List}
use lib.ListN.{length, take, drop}
use lib.Seq.{sets}
use Rattle.std.proofs.lemmas.Slice.{between_to_end}
use Rattle.laws.specs.Lent.{Written}
use Rattle.table.proofs.WellFormed.{fresh_of_well_formed}
use Rattle.table.specs.Fresh.{fresh_of}
use Rattle.listing.specs.Listing.{algorithm_in, count_in, schedule_in, refused_line}
use Rattle.listing.specs.Room.{room}
use Rattle.listing.proofs.Listings.{listing_short, listing_not_fresh, listing_long, listing_run}
use native.Mathlib.Omega.{arith}
use Rattle.listing.proofs.list.Goals as goal

-- A piece that is written from the first place on, and is the lister's text.
listed : {before piece after text : List ℕ} {next : ℕ} → record { written : Written before 0 piece after next; fits : next ≤ room } → text ≡ piece
    → record { value : (next ≡ length text) × (next ≤ room); text_after : after ≡ sets before 0 text }
listed r e = rw e (record { value = (omega (arith, r.written.place), r.fits); text_after = r.written.bytes })

pub returns-then-input-lt-SHORTEST : goal.returns-then-input-lt-SHORTEST
returns-then-input-lt-SHORTEST c =
    listed c.put_refused.ensures (listing_short _ c.if-input-lt-SHORTEST.true)

pub returns-in-Some : goal.returns-in-Some
returns-in-Some c =
    let input = c.args.input.now in
    let refused : (fresh_of (algorithm_in input) (count_in input)).stop ≡ Some c.in-Some.refusal = rw c.fresh-started.ensures at c.in-Some.is in
    listed c.put_refused-in-Some.ensures
    (listing_not_fresh _ c.if-input-lt-SHORTEST.false (λ (q : (fresh_of (algorithm_in input) (count_in input)).stop ≡ None). cc)
    ∙ ap refused_line refused)

-- the part of the input after the first two bytes is the schedule
its_schedule : (input : List ℕ) → take (length input - 2) (drop 2 input) ≡ schedule_in input
its_schedule input = between_to_end input 2 (length input) (omega arith)

pub returns-then-schedule-gt-SCHEDULE_LIMIT : goal.returns-then-schedule-gt-SCHEDULE_LIMIT
returns-then-schedule-gt-SCHEDULE_LIMIT c =
    let input = c.args.input.now in
    listed c.put_refused-then-schedule-gt-SCHEDULE_LIMIT.ensures
    (listing_long _ c.if-input-lt-SHORTEST.false
    (rw c.fresh-started.ensures at c.in_default.is)
    (rw (its_schedule input) at c.if-schedule-gt-SCHEDULE_LIMIT.true))

pub put_report-requires : goal.put_report-requires
put_report-requires c =
    record { well_formed = rw c.fresh-started.ensures (fresh_of_well_formed _ _); short = c.if-schedule-gt-SCHEDULE_LIMIT.false }

pub returns : goal.returns
returns c =
    let input = c.args.input.now in
    listed (rw (c.fresh-started.ensures, its_schedule input) at c.put_report.ensures)
    (listing_run input c.if-input-lt-SHORTEST.false
    (rw c.fresh-started.ensures at c.in_default.is)
    (rw (its_schedule input) at c.if-schedule-gt-SCHEDULE_LIMIT.false))
