-- The core of a row with one field set anew. Every definition that changes a core goes through these.
use Rattle.std.specs.Prelude.{ℕ, ℤ}
use Rattle.table.specs.declared.Core.{Core}

abbrev pub with_line : ℕ → Core → Core
with_line v c = record { line = v; index = c.index; choosing = c.choosing; token = c.token; pivot = c.pivot }

abbrev pub with_index : ℕ → Core → Core
with_index v c = record { line = c.line; index = v; choosing = c.choosing; token = c.token; pivot = c.pivot }

abbrev pub with_choosing : ℕ → Core → Core
with_choosing v c = record { line = c.line; index = c.index; choosing = v; token = c.token; pivot = c.pivot }

abbrev pub with_token : ℤ → Core → Core
with_token v c = record { line = c.line; index = c.index; choosing = c.choosing; token = v; pivot = c.pivot }

abbrev pub with_pivot : ℤ → Core → Core
with_pivot v c = record { line = c.line; index = c.index; choosing = c.choosing; token = c.token; pivot = v }
