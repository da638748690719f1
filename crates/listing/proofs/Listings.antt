-- The four cases of the lister: too few bytes, a machine that fresh refuses, too long a schedule, and a run.
use Prim.Native.Nat.{ℕ, ◌<◌, ◌≤◌}
use mathlib.Core.Path.{◌≡◌}
use mathlib.Core.List.{List}
use borrow.Author.Tests.{le-leb, lt-leb}
use lib.ListN.{length}
use Rattle.fields.specs.Numbers.{schedule_limit}
use Rattle.fields.specs.Refusals.{no_refusal, schedule_too_long, form_too_short}
use Rattle.fields.proofs.Stops.{none_accepted, some_refused}
use Rattle.table.specs.Fresh.{fresh_of}
use Rattle.table.specs.declared.Started.{Started}
use Rattle.machine.specs.Run.{course_of}
use Rattle.listing.specs.Listing.{algorithm_in, count_in, schedule_in, lister_refusal, refused_line, report, listing_of}

module _ (input : List ℕ) where
  pub listing_short : length input < 2 → listing_of input ≡ refused_line form_too_short
  unfolding lister_refusal listing_of
  listing_short h = rw (lt-leb 2 (length input) h)

  -- with two bytes or more, and what fresh answers for them
  module _ (two : 2 ≤ length input) where
    abbrev started : Started
    started = fresh_of (algorithm_in input) (count_in input)

    pub listing_not_fresh : (started.stop ≡ no_refusal → ⊥) → listing_of input ≡ refused_line started.stop
    unfolding lister_refusal listing_of
    listing_not_fresh refused =
        let stop = some_refused started.stop refused in
        rw (le-leb 2 (length input) two, stop) (rw stop)

    module _ (fresh : started.stop ≡ no_refusal) where
      pub listing_long : schedule_limit < length (schedule_in input) → listing_of input ≡ refused_line schedule_too_long
      unfolding lister_refusal listing_of
      listing_long h =
          rw (le-leb 2 (length input) two, none_accepted started.stop fresh, lt-leb (length (schedule_in input)) schedule_limit h)

      pub listing_run : length (schedule_in input) ≤ schedule_limit
          → listing_of input ≡ report started.table (course_of started.table (schedule_in input))
      unfolding lister_refusal listing_of
      listing_run h =
          rw (le-leb 2 (length input) two, none_accepted started.stop fresh, le-leb (length (schedule_in input)) schedule_limit h)
