-- The lengths of a number, of the records and of the form.
use Prim.Native.Nat.{ℕ, ◌+◌, ◌*◌}
use mathlib.Core.Path.{◌≡◌, refl, ◌∙◌}
use lib.IntN.{ℤ}
use lib.ListN.{length, length-append}
use Rattle.laws.specs.InTurn.{in_turn}
use Rattle.laws.proofs.InTurn.{turn_length}
use Rattle.fields.specs.Numbers.{slots}
use Rattle.table.specs.WellFormed.{row_of, cell_of}
use Rattle.table.specs.declared.Core.{Core}
use Rattle.table.specs.declared.Row.{Row}
use Rattle.table.specs.declared.Table.{Table}
use Rattle.stored.specs.FourBytes.{four_digits, four_bytes}
use Rattle.stored.specs.Form.{head_record, row_record, cells_record, records_of, encode, head_length, row_length, cells_length}
use Rattle.stored.specs.Form.{form_length}

pub four_length : (v : ℤ) → length (four_bytes v) ≡ 4
unfolding four_bytes four_digits
four_length v = refl

pub head_length_lem : (t : Table) → length (head_record t) ≡ head_length
unfolding head_record four_bytes four_digits
head_length_lem t = refl

pub row_length_lem : (i : ℕ) (c : Core) → length (row_record i c) ≡ row_length
unfolding row_record four_bytes four_digits
row_length_lem i c = refl

pub cells_length_lem : (i : ℕ) (r : Row) → length (cells_record i r) ≡ cells_length
unfolding cells_record
cells_length_lem i r = rw (turn_length (λ j. four_bytes (cell_of r j)) 4 (λ j. four_length (cell_of r j)) slots)

pub records_length : (t : Table) (i : ℕ) → length (records_of t i) ≡ row_length + cells_length
unfolding records_of
records_length t i =
    let r = row_of t i in
    length-append (row_record i r.core) (cells_record i r) ∙ rw (row_length_lem i r.core, cells_length_lem i r)

-- the records of the first k processes
pub passed_length : (t : Table) (k : ℕ) → length (in_turn (records_of t) k) ≡ (row_length + cells_length) * k
passed_length t k = turn_length (records_of t) (row_length + cells_length) (records_length t) k

pub encode_length : (t : Table) → length (encode t) ≡ form_length t.n
unfolding encode
encode_length t =
    length-append (head_record t) (in_turn (records_of t) t.n) ∙ rw (head_length_lem t, passed_length t t.n)
