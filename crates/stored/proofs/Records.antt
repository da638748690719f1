-- The records of a table, each at its place in some bytes: they are there just where its form stands from the start on.
use Prim.Native.Nat.{ℕ, ◌+◌, ◌≤◌}
use mathlib.Core.List.{List}
use Rattle.laws.specs.InTurn.{in_turn}
use Rattle.laws.proofs.Standing.{Stands, stands_itself, first_stands, second_stands, both_stand, turn_stands, turns_stand}
use Rattle.table.specs.WellFormed.{row_of}
use Rattle.table.specs.declared.Table.{Table}
use Rattle.stored.specs.Form.{head_record, row_record, cells_record, records_of, encode, row_length, cells_length}
use Rattle.stored.specs.Fields.{row_place, cells_place}
use Rattle.stored.proofs.Lengths.{head_length_lem, row_length_lem, records_length}

-- the records of t are in s
pub record Records (s : List ℕ) (t : Table) : Type 0 where
  pub head : Stands 0 s 0 (head_record t)
  pub row : (i : ℕ) → 1 ≤ i → i ≤ t.n → Stands 0 s (row_place i) (row_record i (row_of t i).core)
  pub cells : (i : ℕ) → 1 ≤ i → i ≤ t.n → Stands 0 s (cells_place i) (cells_record i (row_of t i))

module _ {s : List ℕ} (t : Table) where
  pub records_in : Stands 0 s 0 (encode t) → Records s t
  unfolding encode records_of
  records_in h =
      let body = in_turn (records_of t) t.n in
      let both : (i : ℕ) → 1 ≤ i → i ≤ t.n → Stands 0 s (row_place i) (records_of t i) =
      turn_stands (records_of t) (row_length + cells_length) (records_length t) t.n
      (rw (head_length_lem t) at (second_stands (head_record t) body h)) in
      record {
        head = first_stands (head_record t) body h;
        row = λ i low high. first_stands (row_record i (row_of t i).core) (cells_record i (row_of t i)) (both i low high);
        cells = λ i low high.
            let r = row_of t i in
            rw (row_length_lem i r.core) at (second_stands (row_record i r.core) (cells_record i r) (both i low high));
      }

  pub records_whole : Records s t → Stands 0 s 0 (encode t)
  unfolding encode records_of
  records_whole records =
      let both : (i : ℕ) → 1 ≤ i → i ≤ t.n → Stands 0 s (row_place i) (records_of t i) = λ i low high.
      both_stand (row_record i (row_of t i).core) (cells_record i (row_of t i)) (records.row i low high)
      (rw (row_length_lem i (row_of t i).core) (records.cells i low high)) in
      both_stand (head_record t) (in_turn (records_of t) t.n) records.head
      (rw (head_length_lem t) (turns_stand (records_of t) (row_length + cells_length) (records_length t) t.n both))

-- so they are in the form itself
pub form_records : (t : Table) → Records (encode t) t
form_records t = records_in t (stands_itself (encode t))
