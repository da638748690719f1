-- Where the frame of a form is right, the table in it is written as the same bytes.
use Prim.Native.Nat.{ℕ, ◌+◌, ◌<◌, ◌≤◌}
use mathlib.Core.Path.{◌≡◌, refl, sym, ◌∙◌}
use mathlib.Core.List.{List, [], ◌∷◌, ◌++◌}
use Rattle.laws.specs.InTurn.{in_turn}
use Rattle.laws.proofs.Standing.{Stands, stands_whole, listed_stand, both_stand, turns_stand}
use Rattle.fields.specs.Numbers.{slots}
use Rattle.table.specs.WellFormed.{cell_of}
use Rattle.stored.specs.FourBytes.{four_digits, four_bytes}
use Rattle.stored.specs.Form.{head_kind, row_kind, cells_kind, head_record, row_record, cells_record, encode}
use Rattle.stored.specs.Fields.{byte_at, row_place, cells_place, cell_place, count_in, core_in, row_in, table_in}
use Rattle.stored.proofs.Lengths.{four_length, encode_length}
use Rattle.stored.proofs.Numbers.{number_again}
use Rattle.stored.proofs.TableIn.{cell_in_lem, row_in_lem}
use Rattle.stored.proofs.Records.{Records, records_whole}
use Rattle.stored.proofs.Accepted.{Framed}

module _ (s : List ℕ) (bytes : (k : ℕ) → byte_at s k < 256) (frame : Framed s) where
  head_again : Stands 0 s 0 (head_record (table_in s))
  unfolding head_record table_in
  head_again =
      let t = table_in s in
      both_stand (head_kind ∷ t.algorithm ∷ t.n ∷ []) (four_bytes t.x)
      (listed_stand _ _ frame.kind_byte (refl, (refl, tt))) (number_again s bytes 3)

  module _ (i : ℕ) (low : 1 ≤ i) (high : i ≤ count_in s) where
    row_again : Stands 0 s (row_place i) (row_record i (core_in s i))
    unfolding row_record four_bytes four_digits
    row_again =
        let c = core_in s i in
        let opening = frame.row i low high in
        let five : List ℕ = row_kind ∷ i ∷ c.line ∷ c.index ∷ c.choosing ∷ [] in
        both_stand (five ++ four_bytes c.token) (four_bytes c.pivot)
        (both_stand five (four_bytes c.token)
        (listed_stand _ _ opening.kind_byte (opening.process_byte, (refl, (refl, (refl, tt)))))
        (number_again s bytes (row_place i + 5)))
        (number_again s bytes (row_place i + 9))

    cells_again : Stands 0 s (cells_place i) (cells_record i (row_in s i))
    unfolding cells_record
    cells_again =
        let opening = frame.cells i low high in
        let cell : ℕ → List ℕ = λ j. four_bytes (cell_of (row_in s i) j) in
        both_stand (cells_kind ∷ i ∷ []) (in_turn cell slots)
        (listed_stand _ _ opening.kind_byte (opening.process_byte, tt))
        (turns_stand cell 4 (λ j. four_length _) slots
        (λ j first last. rw (cell_in_lem s i j first last) (number_again s bytes (cell_place i j))))

  records_again : Records s (table_in s)
  unfolding table_in row_in
  records_again =
      record {
        head = head_again;
        row = λ i low high. rw (row_in_lem s i low high) (row_again i low high);
        cells = λ i low high. rw (row_in_lem s i low high) (cells_again i low high);
      }

  pub framed_again : encode (table_in s) ≡ s
  unfolding table_in
  framed_again =
      stands_whole s (encode (table_in s)) (frame.long ∙ sym (encode_length (table_in s))) (records_whole (table_in s) records_again)
