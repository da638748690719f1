-- Document 01, "Stored form" and "Numbered refusals": the answer of `write`, and what its lent buffer then holds.
use Rattle.std.specs.Prelude.{ℕ, cond, List, leb, length}
use Rattle.laws.specs.Lent.{in_front}
use Rattle.fields.specs.Refusals.{Stop, no_refusal, not_well_formed, buffer_too_short, is_accepted}
use Rattle.table.specs.WellFormed.{well_formed}
use Rattle.table.specs.declared.Table.{Table}
use Rattle.stored.specs.Form.{encode, form_length}
use Rattle.stored.specs.declared.Wrote.{Wrote}

-- "Write: 3, 8."
unfoldable pub write_refusal : Table → List ℕ → Stop
write_refusal t buffer =
    cond (well_formed t)
    (cond (leb (form_length t.n) (length buffer)) no_refusal buffer_too_short)
    not_well_formed

-- it "answers the length with stop number 0; a refusal answers length 0"
unfoldable pub write_of : Table → List ℕ → Wrote
write_of t buffer =
    let stop = write_refusal t buffer in
    record { length = cond (is_accepted stop) (form_length t.n) 0; stop = stop }

-- "The writer fills the front of the lent buffer, touches nothing after it"; refused, "Write leaves its buffer untouched."
unfoldable pub buffer_of : Table → List ℕ → List ℕ
buffer_of t buffer = cond (is_accepted (write_refusal t buffer)) (in_front (encode t) buffer) buffer
