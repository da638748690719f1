-- The number of a kind of record.
use Rattle.std.specs.Prelude.{ℕ}
use Rattle.stored.specs.declared.Kind.{Kind}
use Rattle.stored.specs.declared.Kind.TheVariants.{Head, Row, Cells}
use Rattle.stored.specs.Form.{head_kind, row_kind, cells_kind}

abbrev pub kind_number : Kind → ℕ
kind_number Head = head_kind
kind_number Row = row_kind
kind_number Cells = cells_kind
