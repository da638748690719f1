-- When a write is refused, and by which number; and what an accepted one answers, and leaves in the buffer.
use Prim.Native.Nat.{ℕ, ◌<◌, ◌≤◌}
use mathlib.Core.Path.{◌≡◌}
use mathlib.Core.Bool.{true, false}
use mathlib.Core.List.{List}
use native.Mathlib.Omega.{arith}
use borrow.Author.Tests.{le-leb, lt-leb, leb-true}
use lib.Dec.{leb}
use lib.ListN.{length}
use Rattle.laws.specs.Lent.{in_front}
use Rattle.laws.proofs.Tests.{by_test}
use Rattle.fields.proofs.Stops.{accepted_none}
use Rattle.fields.specs.Refusals.{Stop, no_refusal, not_well_formed, buffer_too_short, is_accepted}
use Rattle.table.specs.WellFormed.{well_formed}
use Rattle.table.specs.declared.Table.{Table}
use Rattle.stored.specs.Form.{encode, form_length}
use Rattle.stored.specs.Writing.{write_refusal, write_of, buffer_of}

module _ (t : Table) (buffer : List ℕ) where
  pub refused_formed : well_formed t ≡ false → write_refusal t buffer ≡ not_well_formed
  unfolding write_refusal
  refused_formed unformed = rw unformed

  pub refused_room : well_formed t ≡ true → length buffer < form_length t.n → write_refusal t buffer ≡ buffer_too_short
  unfolding write_refusal
  refused_room formed short = rw (formed, lt-leb (form_length t.n) (length buffer) short)

  pub write_accepted : well_formed t ≡ true → form_length t.n ≤ length buffer → write_refusal t buffer ≡ no_refusal
  unfolding write_refusal
  write_accepted formed room = rw (formed, le-leb (form_length t.n) (length buffer) room)

  pub accepted_write : write_refusal t buffer ≡ no_refusal → (well_formed t ≡ true) × (form_length t.n ≤ length buffer)
  unfolding write_refusal
  accepted_write =
      by_test (λ (stop : Stop). stop ≡ no_refusal → (well_formed t ≡ true) × (form_length t.n ≤ length buffer)) (well_formed t)
      (λ formed. by_test (λ (stop : Stop). stop ≡ no_refusal → (well_formed t ≡ true) × (form_length t.n ≤ length buffer))
      (leb (form_length t.n) (length buffer)) (λ room _. (formed, leb-true _ _ room)) (λ _ e. cc))
      (λ _ e. cc)

  module _ (accepted : write_refusal t buffer ≡ no_refusal) where
    pub write_answer : write_of t buffer ≡ record { length = form_length t.n; stop = no_refusal }
    unfolding write_of
    write_answer = rw accepted

    pub write_buffer : buffer_of t buffer ≡ in_front (encode t) buffer
    unfolding buffer_of
    write_buffer = rw accepted

  -- It never answers more bytes than the buffer has: what a caller needs to know to take them off its front.
  pub written_within : (write_of t buffer).length ≤ length buffer
  unfolding write_of
  written_within =
      by_test (λ (l : ℕ). l ≤ length buffer) (is_accepted (write_refusal t buffer))
      (λ accepted. (accepted_write (accepted_none _ accepted)).1)
      (λ _. omega arith)
