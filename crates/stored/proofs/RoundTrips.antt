-- The laws of writing and reading: a well-formed table is read back from its form, an accepted form is written again as the same bytes, and
-- every table that is read is well formed.
use Prim.Native.Nat.{ℕ, ◌<◌}
use mathlib.Core.Path.{◌≡◌, refl}
use mathlib.Core.Bool.{true}
use mathlib.Core.List.{List}
use lib.ListN.{length}
use Rattle.std.specs.Prelude.{Result, Ok, Err}
use Rattle.fields.specs.Numbers.{unbounded}
use Rattle.fields.specs.Refusals.{no_refusal}
use Rattle.table.specs.WellFormed.{well_formed}
use Rattle.table.specs.Sized.{Sized}
use Rattle.table.specs.declared.Table.{Table}
use Rattle.table.proofs.WellFormed.{table_rules, well_formed_lem, fresh_well_formed}
use Rattle.stored.specs.Form.{encode, form_length}
use Rattle.stored.specs.Fields.{byte_at, table_in}
use Rattle.stored.specs.Reading.{refusal_of, first_fault, checks_of, answer_to, read_of}
use Rattle.stored.specs.declared.Fault.{Fault}
use Rattle.stored.specs.declared.Fault.TheVariants.{TooShort, TooLong, Kind, HeadField, Process, Line, Index, Choosing, Token}
use Rattle.stored.specs.declared.Fault.TheVariants.{Pivot, Cell}
use Rattle.stored.specs.declared.Found.{Found}
use Rattle.stored.proofs.Lengths.{encode_length}
use Rattle.stored.proofs.Records.{form_records}
use Rattle.stored.proofs.Accepted.{accepted_framed, accepted_rules, framed_accepted}
use Rattle.stored.proofs.ReadBack.{frame_read, rules_read, table_read}
use Rattle.stored.proofs.WrittenAgain.{framed_again}

-- The form of a well-formed table is accepted, and the table in it is that table: so `read` answers it.
module _ (t : Table) (formed : well_formed t ≡ true) where
  pub form_accepted : first_fault (checks_of (encode t)) ≡ Ok tt
  form_accepted =
      let rules = table_rules t formed in
      framed_accepted (encode t) (frame_read (form_records t) rules (encode_length t)) (rules_read (form_records t) rules)

  pub read_back : Sized t → table_in (encode t) ≡ t
  read_back sized = table_read (form_records t) (table_rules t formed) formed sized

  pub form_read : Sized t → read_of (encode t) ≡ record { table = t; stop = no_refusal; place = form_length t.n }
  unfolding read_of answer_to
  form_read sized = rw (form_accepted, read_back sized, encode_length t)

-- An accepted form holds a well-formed table, which `read` answers, and which is written again as the same bytes.
module _ (s : List ℕ) (accepted : first_fault (checks_of s) ≡ Ok tt) where
  pub accepted_well_formed : well_formed (table_in s) ≡ true
  accepted_well_formed = well_formed_lem (table_in s) (accepted_rules s accepted)

  pub read_answer : read_of s ≡ record { table = table_in s; stop = no_refusal; place = length s }
  unfolding read_of answer_to
  read_answer = rw accepted

  pub written_again : ((k : ℕ) → byte_at s k < 256) → encode (table_in s) ≡ s
  written_again bytes = framed_again s bytes (accepted_framed s accepted)

-- A read shows the table in the form where that is accepted, and the fresh one where it is refused: so it shows a well-formed table always.
pub read_well_formed : (s : List ℕ) → well_formed (read_of s).table ≡ true
unfolding read_of answer_to
read_well_formed s = shown (first_fault (checks_of s)) (accepted_well_formed s)
  where
    shown : (r : Result (Unit {0}) Found) → (r ≡ Ok tt → well_formed (table_in s) ≡ true) → well_formed (answer_to s r).table ≡ true
    shown (Ok done) accepted = accepted refl
    shown (Err found) accepted = fresh_well_formed unbounded 1 refl refl

-- every fault has a number that is not 0
fault_numbered : (fault : Fault) → refusal_of fault ≡ no_refusal → ⊥
unfolding refusal_of
fault_numbered TooShort e = cc
fault_numbered TooLong e = cc
fault_numbered Kind e = cc
fault_numbered HeadField e = cc
fault_numbered Process e = cc
fault_numbered Line e = cc
fault_numbered Index e = cc
fault_numbered Choosing e = cc
fault_numbered Token e = cc
fault_numbered Pivot e = cc
fault_numbered Cell e = cc

-- Stop number 0 says that the form is accepted.
pub read_accepted : (s : List ℕ) → (read_of s).stop ≡ no_refusal → first_fault (checks_of s) ≡ Ok tt
unfolding read_of answer_to
read_accepted s = none_found (first_fault (checks_of s))
  where
    none_found : (r : Result (Unit {0}) Found) → (answer_to s r).stop ≡ no_refusal → r ≡ Ok tt
    none_found (Ok done) e = refl
    none_found (Err found) e = absurd (fault_numbered found.fault e)
