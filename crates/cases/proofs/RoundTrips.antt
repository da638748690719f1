-- What a write answers to have written, as the read after it takes it.
use Prim.Native.Nat.{ℕ}
use mathlib.Core.Path.{◌≡◌, ◌∙◌}
use mathlib.Core.List.{List}
use lib.ListN.{take}
use Rattle.laws.proofs.Tests.{by_test}
use Rattle.fields.specs.Refusals.{is_accepted}
use Rattle.fields.proofs.Stops.{accepted_none}
use Rattle.table.specs.Sized.{Sized}
use Rattle.table.specs.declared.Table.{Table}
use Rattle.stored.specs.Writing.{write_of, buffer_of}
use Rattle.stored.specs.Reading.{read_of}
use Rattle.stored.specs.declared.Restored.{Restored}
use Rattle.demands.proofs.RoundTrips.{written_and_read_lem}
use Rattle.cases.specs.RoundTrips.{written_and_read}

module _ (t : Table) (buffer : List ℕ) where
  -- it is the form of the table, or nothing
  pub written_read : Sized t → read_of (take (write_of t buffer).length (buffer_of t buffer)) ≡ written_and_read t buffer
  unfolding write_of written_and_read
  written_read sized =
      by_test (λ (r : Restored). read_of (take (write_of t buffer).length (buffer_of t buffer)) ≡ r) (is_accepted (write_of t buffer).stop)
      (λ accepted. written_and_read_lem t sized buffer (accepted_none _ accepted) ∙ rw accepted)
      (λ refused. rw refused)
